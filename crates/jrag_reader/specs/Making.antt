-- What each form makes of its parts, which lie on a stack, the last one on top. The forms have the numbers of the actions of the grammar.
use Rattle.std.specs.Prelude.{ℕ, Bool, ◌==◌, min, true, false, List, [], ◌∷◌, ◌++◌, Option, Some, None, if◌then◌else◌}
use Rattle.std.specs.Option.{option_map}
use Rattle.rag_io.specs.Decimal.{decimal}
use Rattle.rag_io.specs.Tokens.{Lexed}
use Rattle.rag_io.specs.declared.token.Place.{Place}
use Rattle.jrag_syntax.specs.Tokens.{token_class}
use Rattle.jrag_syntax.specs.declared.classes.Start.{Start}
use Rattle.aspect_items.specs.declared.expression.Operator.{Operator}
use Rattle.aspect_items.specs.declared.expression.Operator.TheVariants as operators
use Rattle.aspect_items.specs.declared.expression.Quantifier.{Quantifier}
use Rattle.aspect_items.specs.declared.expression.Quantifier.TheVariants as quantifiers
use Rattle.aspect_items.specs.Expressions as expressions
use Rattle.aspect_items.specs.Expressions.{Expr, Name, arguments_of}
use Rattle.aspect_items.specs.Items.{TypeName, Boolean, Integer, String, Class, WrittenType, Parameter, Signature, Circular, Declared, Inherits, Equates, Collects, Contributes}
use Rattle.jrag_reader.specs.Parts.{Part, Named, Quantifying, Formed, Arguments, Typed, Parameters, Flag, Modifiers, Circularity, Perhaps, Behind, PerhapsNamed, Made, Items, Opened}
use Rattle.jrag_reader.specs.Parts.{take, top, token_in, name_in, quantifier_in, expr_in, arguments_in, type_in, parameters_in, flag_in, modifiers_in, circularity_in, perhaps_in, behind_in, perhaps_named_in, item_in, items_in, opened_in}

-- the largest integer that is kept; a larger one is kept as this
abbrev pub most_kept : ℕ
most_kept = 4294967295

abbrev pub name_of : Lexed → Name
name_of t = record { text = t.text; place = t.place }

abbrev pub integer_of : Lexed → ℕ
integer_of t = min (decimal t.text) most_kept

-- a literal by the class of its token
abbrev pub literal_by : ℕ → Lexed → Option Expr
literal_by c t =
    if c == 2 then Some (expressions.Int t.place (integer_of t))
    else if c == 15 then Some (expressions.This t.place)
    else if c == 16 then Some (expressions.Truth t.place true)
    else if c == 17 then Some (expressions.Truth t.place false)
    else if c == 18 then Some (expressions.Null t.place)
    else if c == 19 then Some (expressions.Empty t.place)
    else None

-- an operator by the class of its token: first those that compare
abbrev pub comparison_by : ℕ → Option Operator
comparison_by c =
    if c == 47 then Some operators.Equal
    else if c == 48 then Some operators.Differ
    else if c == 49 then Some operators.Less
    else if c == 50 then Some operators.AtMost
    else if c == 51 then Some operators.Greater
    else if c == 52 then Some operators.AtLeast
    else None

abbrev pub operator_by : ℕ → Option Operator
operator_by c =
    if c == 45 then Some operators.Or
    else if c == 46 then Some operators.And
    else if c == 53 then Some operators.Add
    else if c == 54 then Some operators.Subtract
    else if c == 55 then Some operators.Multiply
    else comparison_by c

abbrev pub quantifier_by : ℕ → Option Quantifier
quantifier_by c =
    if c == 29 then Some quantifiers.Each
    else if c == 30 then Some quantifiers.Any
    else if c == 31 then Some quantifiers.All
    else if c == 32 then Some quantifiers.First
    else None

-- the name of a type by the class of its token
abbrev pub type_name_by : ℕ → List ℕ → TypeName
type_name_by c text =
    if c == 22 then Boolean
    else if c == 23 then Integer
    else if c == 24 then String
    else Class text

-- a word: the name that it is, and perhaps the quantifier
abbrev pub named : Option Quantifier → Name → Part
named None n = Named n
named (Some q) n = Quantifying q n

abbrev pub make_text : List Part → Option (List Part)
make_text parts = take (top token_in parts) (λ t parts. Some (Formed (expressions.Text t.0.place t.1) ∷ parts))

-- `@` and an integer
abbrev pub make_source : List Part → Option (List Part)
make_source parts = take (top token_in parts) (λ digits parts. take (top token_in parts) (λ at parts. Some (Formed (expressions.Source at.0.place (integer_of digits.0)) ∷ parts)))

abbrev pub make_first_argument : List Part → Option (List Part)
make_first_argument parts = take (top expr_in parts) (λ e parts. Some (Arguments (e ∷ []) ∷ parts))

-- a further argument, behind a comma
abbrev pub make_argument : List Part → Option (List Part)
make_argument parts = take (top expr_in parts) (λ e parts. take (top token_in parts) (λ comma parts. take (top arguments_in parts) (λ es parts. Some (Arguments (es ++ e ∷ []) ∷ parts))))

-- arguments in parentheses
abbrev pub arguments_on : List Part → Option (List Expr × List Part)
arguments_on parts = take (top token_in parts) (λ close parts. take (top arguments_in parts) (λ es parts. take (top token_in parts) (λ opening parts. Some (es, parts))))

-- a name before arguments in parentheses
abbrev pub called_on : List Part → Option ((Name × List Expr) × List Part)
called_on parts = take (arguments_on parts) (λ es parts. take (top name_in parts) (λ n parts. Some ((n, es), parts)))

abbrev pub make_call : List Part → Option (List Part)
make_call parts = take (called_on parts) (λ c parts. Some (Formed (expressions.Call c.0 (arguments_of c.1)) ∷ parts))

-- a token, and the expression before it
abbrev pub marked_on : List Part → Option ((Lexed × Expr) × List Part)
marked_on parts = take (top token_in parts) (λ t parts. take (top expr_in parts) (λ e parts. Some ((t.0, e), parts)))

abbrev pub make_member : List Part → Option (List Part)
make_member parts = take (called_on parts) (λ c parts. take (marked_on parts) (λ e parts. Some (Formed (expressions.Member e.1 c.0 (arguments_of c.1)) ∷ parts)))

abbrev pub make_new : List Part → Option (List Part)
make_new parts = take (called_on parts) (λ c parts. take (top token_in parts) (λ word parts. Some (Formed (expressions.New word.0.place c.0 (arguments_of c.1)) ∷ parts)))

-- the word of a quantifier, with its place, before `(`
abbrev pub quantifier_on : List Part → Option ((Quantifier × Place) × List Part)
quantifier_on parts = take (top token_in parts) (λ opening parts. take (top quantifier_in parts) (λ q parts. Some ((q.0, q.1.place), parts)))

-- a quantifier, with its place, and the name that it binds
abbrev pub binder_on : List Part → Option (((Quantifier × Place) × Name) × List Part)
binder_on parts = take (top token_in parts) (λ colon parts. take (top name_in parts) (λ bound parts. take (quantifier_on parts) (λ q parts. Some ((q, bound), parts))))

-- a quantifier, a bound name and `:` in parentheses with the range, `|` and what is read
abbrev pub make_quantified : List Part → Option (List Part)
make_quantified parts = take (top token_in parts) (λ close parts. take (top expr_in parts) (λ read parts. take (marked_on parts) (λ range parts. take (binder_on parts) (λ b parts.
    Some (Formed (expressions.Quantified b.0.0 b.0.1 b.1 range.1 read) ∷ parts)))))

-- an expression between two tokens, and the first of them
abbrev pub enclosed_on : List Part → Option ((Lexed × Expr) × List Part)
enclosed_on parts = take (top token_in parts) (λ close parts. take (top expr_in parts) (λ e parts. take (top token_in parts) (λ opening parts. Some ((opening.0, e), parts))))

abbrev pub make_group : List Part → Option (List Part)
make_group parts = take (enclosed_on parts) (λ e parts. Some (Formed (expressions.Group e.0.place e.1) ∷ parts))

-- a name between two tokens, and the first of them
abbrev pub cast_on : List Part → Option ((Lexed × Name) × List Part)
cast_on parts = take (top token_in parts) (λ close parts. take (top name_in parts) (λ n parts. take (top token_in parts) (λ opening parts. Some ((opening.0, n), parts))))

abbrev pub make_cast : List Part → Option (List Part)
make_cast parts = take (top expr_in parts) (λ e parts. take (cast_on parts) (λ c parts. Some (Formed (expressions.Cast c.0.place c.1 e) ∷ parts)))

abbrev pub make_not : List Part → Option (List Part)
make_not parts = take (top expr_in parts) (λ e parts. take (top token_in parts) (λ sign parts. Some (Formed (expressions.Not sign.0.place e) ∷ parts)))

abbrev pub make_negate : List Part → Option (List Part)
make_negate parts = take (top expr_in parts) (λ e parts. take (top token_in parts) (λ sign parts. Some (Formed (expressions.Negate sign.0.place e) ∷ parts)))

abbrev pub make_instance : List Part → Option (List Part)
make_instance parts = take (top name_in parts) (λ n parts. take (marked_on parts) (λ e parts. Some (Formed (expressions.InstanceOf e.1 n) ∷ parts)))

abbrev pub make_choice : List Part → Option (List Part)
make_choice parts = take (top expr_in parts) (λ b parts. take (marked_on parts) (λ a parts. take (marked_on parts) (λ c parts. Some (Formed (expressions.If c.1 a.1 b) ∷ parts))))

-- the items of no aspect
abbrev pub make_no_items : List Part → Option (List Part)
make_no_items parts = Some (Items [] ∷ parts)

-- an aspect behind others, up to its `{`
abbrev pub make_open : List Part → Option (List Part)
make_open parts = take (top token_in parts) (λ brace parts. take (top name_in parts) (λ n parts. take (top token_in parts) (λ word parts. take (top items_in parts) (λ is parts. Some (Opened is ∷ parts)))))

-- a further item
abbrev pub make_item : List Part → Option (List Part)
make_item parts = take (top item_in parts) (λ i parts. take (top opened_in parts) (λ is parts. Some (Opened (is ++ i ∷ []) ∷ parts)))

abbrev pub make_close : List Part → Option (List Part)
make_close parts = take (top token_in parts) (λ brace parts. take (top opened_in parts) (λ is parts. Some (Items is ∷ parts)))

-- a name, and its parameters in parentheses
abbrev pub signature_on : List Part → Option (Signature × List Part)
signature_on parts = take (top token_in parts) (λ close parts. take (top parameters_in parts) (λ ps parts. take (top token_in parts) (λ opening parts. take (top name_in parts) (λ n parts.
    Some (record { name = n; parameters = ps }, parts)))))

-- a class, and `.` behind it
abbrev pub class_on : List Part → Option (Name × List Part)
class_on parts = take (top token_in parts) (λ dot parts. take (top name_in parts) (λ c parts. Some (c, parts)))

-- a class, `.`, a name and empty parentheses: first the name, then the class
abbrev pub target_on : List Part → Option ((Name × Name) × List Part)
target_on parts = take (top token_in parts) (λ close parts. take (top token_in parts) (λ opening parts. take (top name_in parts) (λ n parts. take (class_on parts) (λ c parts. Some ((n, c), parts)))))

-- what an attribute of a class is declared as: first its name and its parameters, then the class
abbrev pub attribute_on : List Part → Option ((Signature × Name) × List Part)
attribute_on parts = take (signature_on parts) (λ signature parts. take (class_on parts) (λ class parts. Some ((signature, class), parts)))

-- the same, with the type before it
abbrev pub typed_on : List Part → Option (((Signature × Name) × WrittenType) × List Part)
typed_on parts = take (attribute_on parts) (λ a parts. take (top type_in parts) (λ of parts. Some ((a, of), parts)))

-- perhaps a body before `;`, and before it whether the attribute is circular
abbrev pub bodied_on : List Part → Option ((Option Expr × Option Circular) × List Part)
bodied_on parts = take (top token_in parts) (λ semicolon parts. take (top perhaps_in parts) (λ body parts. take (top circularity_in parts) (λ circular parts. Some ((body, circular), parts))))

-- `lazy` and `nta`, as far as they are there, behind a word
abbrev pub modified_on : List Part → Option ((Bool × Bool) × List Part)
modified_on parts = take (top modifiers_in parts) (λ modifiers parts. take (top token_in parts) (λ word parts. Some (modifiers, parts)))

abbrev pub make_synthesized : List Part → Option (List Part)
make_synthesized parts = take (bodied_on parts) (λ b parts. take (typed_on parts) (λ t parts. take (modified_on parts) (λ modifiers parts.
    Some (Made (Declared (record { lazy = modifiers.0; higher_order = modifiers.1; of = t.1; class = t.0.1; signature = t.0.0; circular = b.1; body = b.0 })) ∷ parts))))

-- whether a word is there that may be left out, behind another one
abbrev pub flagged_on : List Part → Option (Bool × List Part)
flagged_on parts = take (top flag_in parts) (λ there parts. take (top token_in parts) (λ word parts. Some (there, parts)))

abbrev pub make_inherited : List Part → Option (List Part)
make_inherited parts = take (top token_in parts) (λ semicolon parts. take (top circularity_in parts) (λ circular parts. take (typed_on parts) (λ t parts. take (flagged_on parts) (λ lazy parts.
    Some (Made (Inherits (record { lazy = lazy; of = t.1; class = t.0.1; signature = t.0.0; circular = circular })) ∷ parts)))))

-- `=`, and perhaps the attribute behind a path before it
abbrev pub behind_on : List Part → Option (Option Signature × List Part)
behind_on parts = take (top token_in parts) (λ equals parts. take (top behind_in parts) (λ inherited parts. Some (inherited, parts)))

-- an expression between `=` and `;`, and perhaps the attribute behind a path before them
abbrev pub equated_on : List Part → Option ((Expr × Option Signature) × List Part)
equated_on parts = take (top token_in parts) (λ semicolon parts. take (top expr_in parts) (λ body parts. take (behind_on parts) (λ inherited parts. Some ((body, inherited), parts))))

abbrev pub make_equation : List Part → Option (List Part)
make_equation parts = take (equated_on parts) (λ e parts. take (attribute_on parts) (λ a parts. take (top token_in parts) (λ word parts.
    Some (Made (Equates (record { class = a.1; signature = a.0; inherited = e.1; body = e.0 })) ∷ parts))))

-- perhaps a root before `;`, and perhaps a method before it
abbrev pub with_root_on : List Part → Option ((Option Name × Option Name) × List Part)
with_root_on parts = take (top token_in parts) (λ semicolon parts. take (top perhaps_named_in parts) (λ root parts. take (top perhaps_named_in parts) (λ method parts. Some ((root, method), parts))))

-- a target with a type behind a word
abbrev pub collected_on : List Part → Option (((Name × Name) × WrittenType) × List Part)
collected_on parts = take (target_on parts) (λ target parts. take (top type_in parts) (λ of parts. take (top token_in parts) (λ word parts. Some ((target, of), parts))))

abbrev pub make_collection : List Part → Option (List Part)
make_collection parts = take (with_root_on parts) (λ w parts. take (enclosed_on parts) (λ fresh parts. take (collected_on parts) (λ c parts.
    Some (Made (Collects (record { of = c.1; class = c.0.1; name = c.0.0; fresh = fresh.1; method = w.1; root = w.0 })) ∷ parts))))

-- a target, and a token behind it
abbrev pub target_before : List Part → Option ((Name × Name) × List Part)
target_before parts = take (top token_in parts) (λ for parts. target_on parts)

-- an expression before `;`, and the target before it
abbrev pub received_on : List Part → Option ((Expr × (Name × Name)) × List Part)
received_on parts = take (top token_in parts) (λ semicolon parts. take (top expr_in parts) (λ receiver parts. take (target_before parts) (λ target parts. Some ((receiver, target), parts))))

-- what is contributed, perhaps with a condition, and a token behind both: first the condition
abbrev pub value_on : List Part → Option ((Option Expr × Expr) × List Part)
value_on parts = take (top token_in parts) (λ to parts. take (top perhaps_in parts) (λ condition parts. take (top expr_in parts) (λ value parts. Some ((condition, value), parts))))

-- a name, and a word behind it
abbrev pub contributor_on : List Part → Option (Name × List Part)
contributor_on parts = take (top token_in parts) (λ word parts. take (top name_in parts) (λ n parts. Some (n, parts)))

abbrev pub make_contribution : List Part → Option (List Part)
make_contribution parts = take (received_on parts) (λ r parts. take (value_on parts) (λ v parts. take (contributor_on parts) (λ contributor parts.
    Some (Made (Contributes (record { contributor = contributor; value = v.1; condition = v.0; class = r.1.1; name = r.1.0; receiver = r.0 })) ∷ parts))))

-- a word that may be left out: it is there, or not
abbrev pub make_present : List Part → Option (List Part)
make_present parts = take (top token_in parts) (λ word parts. Some (Flag true ∷ parts))

abbrev pub make_absent : List Part → Option (List Part)
make_absent parts = Some (Flag false ∷ parts)

abbrev pub make_no_modifiers : List Part → Option (List Part)
make_no_modifiers parts = Some (Modifiers false false ∷ parts)

-- `lazy`, and perhaps `nta`
abbrev pub make_lazy_first : List Part → Option (List Part)
make_lazy_first parts = take (top flag_in parts) (λ higher parts. take (top token_in parts) (λ word parts. Some (Modifiers true higher ∷ parts)))

-- `nta`, and perhaps `lazy`
abbrev pub make_higher_order_first : List Part → Option (List Part)
make_higher_order_first parts = take (top flag_in parts) (λ lazy parts. take (top token_in parts) (λ word parts. Some (Modifiers lazy true ∷ parts)))

abbrev pub make_no_parameters : List Part → Option (List Part)
make_no_parameters parts = Some (Parameters [] ∷ parts)

-- a type and a name
abbrev pub parameter_on : List Part → Option (Parameter × List Part)
parameter_on parts = take (top name_in parts) (λ n parts. take (top type_in parts) (λ t parts. Some (record { of = t; name = n }, parts)))

abbrev pub make_first_parameter : List Part → Option (List Part)
make_first_parameter parts = take (parameter_on parts) (λ p parts. Some (Parameters (p ∷ []) ∷ parts))

abbrev pub make_parameter : List Part → Option (List Part)
make_parameter parts = take (parameter_on parts) (λ p parts. take (top token_in parts) (λ comma parts. take (top parameters_in parts) (λ ps parts. Some (Parameters (ps ++ p ∷ []) ∷ parts))))

abbrev pub make_circular : List Part → Option (List Part)
make_circular parts = take (enclosed_on parts) (λ e parts. take (top token_in parts) (λ word parts. Some (Circularity (Some (record { place = word.0.place; bottom = e.1 })) ∷ parts)))

abbrev pub make_not_circular : List Part → Option (List Part)
make_not_circular parts = Some (Circularity None ∷ parts)

-- an expression behind `=` or `when`
abbrev pub make_body : List Part → Option (List Part)
make_body parts = take (top expr_in parts) (λ e parts. take (top token_in parts) (λ word parts. Some (Perhaps (Some e) ∷ parts)))

abbrev pub make_no_body : List Part → Option (List Part)
make_no_body parts = Some (Perhaps None ∷ parts)

abbrev pub make_path : List Part → Option (List Part)
make_path parts = take (signature_on parts) (λ signature parts. take (top token_in parts) (λ dot parts. Some (Behind (Some signature) ∷ parts)))

abbrev pub make_no_path : List Part → Option (List Part)
make_no_path parts = Some (Behind None ∷ parts)

-- a name behind `with` or `root`
abbrev pub make_named : List Part → Option (List Part)
make_named parts = take (top name_in parts) (λ n parts. take (top token_in parts) (λ word parts. Some (PerhapsNamed (Some n) ∷ parts)))

abbrev pub make_not_named : List Part → Option (List Part)
make_not_named parts = Some (PerhapsNamed None ∷ parts)

module _ (start : Start) where
  abbrev pub make_name : List Part → Option (List Part)
  make_name parts = take (top token_in parts) (λ t parts. Some (named (quantifier_by (token_class start t.0)) (name_of t.0) ∷ parts))

  abbrev pub make_literal : List Part → Option (List Part)
  make_literal parts = take (top token_in parts) (λ t parts. option_map (λ e. Formed e ∷ parts) (literal_by (token_class start t.0) t.0))

  -- an operator between two operands
  abbrev pub make_binary : List Part → Option (List Part)
  make_binary parts = take (top expr_in parts) (λ b parts. take (marked_on parts) (λ a parts.
      option_map (λ o. Formed (expressions.Binary o a.1 b) ∷ parts) (operator_by (token_class start a.0))))

  abbrev pub make_type : List Part → Option (List Part)
  make_type parts = take (top token_in parts) (λ t parts. Some (Typed (record { place = t.0.place; set = false; name = type_name_by (token_class start t.0) t.0.text }) ∷ parts))

  abbrev pub make_set : List Part → Option (List Part)
  make_set parts = take (top token_in parts) (λ close parts. take (top token_in parts) (λ t parts. take (top token_in parts) (λ opening parts. take (top token_in parts) (λ word parts.
      Some (Typed (record { place = word.0.place; set = true; name = type_name_by (token_class start t.0) t.0.text }) ∷ parts)))))

  -- forms of expressions
  abbrev pub make_expression : ℕ → List Part → Option (List Part)
  make_expression form parts =
      if form == 3 then make_name parts
      else if form == 4 then make_literal parts
      else if form == 5 then make_text parts
      else if form == 6 then make_source parts
      else if form == 10 then make_call parts
      else if form == 11 then make_member parts
      else if form == 12 then make_new parts
      else if form == 13 then make_quantified parts
      else if form == 14 then make_group parts
      else if form == 15 then make_cast parts
      else if form == 16 then make_not parts
      else if form == 17 then make_negate parts
      else if form == 18 then make_binary parts
      else if form == 19 then make_binary parts
      else if form == 20 then make_binary parts
      else if form == 21 then make_instance parts
      else if form == 22 then make_binary parts
      else if form == 23 then make_binary parts
      else if form == 24 then make_binary parts
      else if form == 25 then make_choice parts
      else None

  -- parts of items
  abbrev pub make_detail : ℕ → List Part → Option (List Part)
  make_detail form parts =
      if form == 7 then Some (Arguments [] ∷ parts)
      else if form == 8 then make_first_argument parts
      else if form == 9 then make_argument parts
      else if form == 35 then make_present parts
      else if form == 36 then make_absent parts
      else if form == 37 then make_no_modifiers parts
      else if form == 38 then make_lazy_first parts
      else if form == 39 then make_higher_order_first parts
      else if form == 40 then make_type parts
      else if form == 41 then make_set parts
      else if form == 42 then make_no_parameters parts
      else if form == 43 then make_first_parameter parts
      else if form == 44 then make_parameter parts
      else if form == 45 then make_circular parts
      else if form == 46 then make_not_circular parts
      else make_expression form parts

  abbrev pub make_optional : ℕ → List Part → Option (List Part)
  make_optional form parts =
      if form == 47 then make_body parts
      else if form == 48 then make_no_body parts
      else if form == 49 then make_path parts
      else if form == 50 then make_no_path parts
      else if form == 51 then make_named parts
      else if form == 52 then make_not_named parts
      else if form == 53 then make_named parts
      else if form == 54 then make_not_named parts
      else if form == 55 then make_body parts
      else if form == 56 then make_no_body parts
      else make_detail form parts

  -- what an action makes of the parts; the first two only say where an outermost expression begins and ends
  abbrev pub make : ℕ → List Part → Option (List Part)
  make form parts =
      if form == 1 then Some parts
      else if form == 2 then Some parts
      else if form == 26 then make_no_items parts
      else if form == 27 then make_open parts
      else if form == 28 then make_item parts
      else if form == 29 then make_close parts
      else if form == 30 then make_synthesized parts
      else if form == 31 then make_inherited parts
      else if form == 32 then make_equation parts
      else if form == 33 then make_collection parts
      else if form == 34 then make_contribution parts
      else make_optional form parts
