-- Parts of what is read: what some tokens side by side say.
use Rattle.std.specs.Prelude.{ℕ, Bool, List, [], ◌∷◌, Option, Some, None}
use Rattle.std.specs.Option.{option_and_then, option_map}
use Rattle.rag_io.specs.Tokens.{Lexed}
use Rattle.aspect_items.specs.Expressions.{Expr, Name, Variable}
use Rattle.aspect_items.specs.declared.expression.Quantifier.{Quantifier}
use Rattle.aspect_items.specs.Items.{WrittenType, Parameter, Signature, Circular, Item}

pub data Part : Type 0 where
  -- a token, and the number of the text that it writes
  Token : Lexed → ℕ → Part
  Named : Name → Part
  -- a name that is also the word of a quantifier
  Quantifying : Quantifier → Name → Part
  Formed : Expr → Part
  Arguments : List Expr → Part
  Typed : WrittenType → Part
  Parameters : List Parameter → Part
  -- whether a word is there that may be left out
  Flag : Bool → Part
  -- whether `lazy` and `nta` are there
  Modifiers : Bool → Bool → Part
  Circularity : Option Circular → Part
  -- an expression that may be left out, with the word before it
  Perhaps : Option Expr → Part
  -- what stands behind a path
  Behind : Option Signature → Part
  -- a name that may be left out, with the word before it
  PerhapsNamed : Option Name → Part
  Made : Item → Part
  -- the items of some aspects
  Items : List Item → Part
  -- the same with those of an aspect that isn't closed yet
  Opened : List Item → Part

-- what a part is, where it is of the sort that is asked for; a name is an expression too
abbrev pub token_in : Part → Option (Lexed × ℕ)
token_in (Token t code) = Some (t, code)
token_in _ = None

abbrev pub name_in : Part → Option Name
name_in (Named n) = Some n
name_in (Quantifying q n) = Some n
name_in _ = None

abbrev pub quantifier_in : Part → Option (Quantifier × Name)
quantifier_in (Quantifying q n) = Some (q, n)
quantifier_in _ = None

abbrev pub expr_in : Part → Option Expr
expr_in (Formed e) = Some e
expr_in (Named n) = Some (Variable n)
expr_in (Quantifying q n) = Some (Variable n)
expr_in _ = None

abbrev pub arguments_in : Part → Option (List Expr)
arguments_in (Arguments es) = Some es
arguments_in _ = None

abbrev pub type_in : Part → Option WrittenType
type_in (Typed t) = Some t
type_in _ = None

abbrev pub parameters_in : Part → Option (List Parameter)
parameters_in (Parameters ps) = Some ps
parameters_in _ = None

abbrev pub flag_in : Part → Option Bool
flag_in (Flag b) = Some b
flag_in _ = None

abbrev pub modifiers_in : Part → Option (Bool × Bool)
modifiers_in (Modifiers lazy higher) = Some (lazy, higher)
modifiers_in _ = None

abbrev pub circularity_in : Part → Option (Option Circular)
circularity_in (Circularity c) = Some c
circularity_in _ = None

abbrev pub perhaps_in : Part → Option (Option Expr)
perhaps_in (Perhaps e) = Some e
perhaps_in _ = None

abbrev pub behind_in : Part → Option (Option Signature)
behind_in (Behind s) = Some s
behind_in _ = None

abbrev pub perhaps_named_in : Part → Option (Option Name)
perhaps_named_in (PerhapsNamed n) = Some n
perhaps_named_in _ = None

abbrev pub item_in : Part → Option Item
item_in (Made i) = Some i
item_in _ = None

abbrev pub items_in : Part → Option (List Item)
items_in (Items is) = Some is
items_in _ = None

abbrev pub opened_in : Part → Option (List Item)
opened_in (Opened is) = Some is
opened_in _ = None

-- the part on top of a stack, where it is of the sort that is asked for, and the parts below
abbrev pub top : {A : Type 0} → (Part → Option A) → List Part → Option (A × List Part)
top f [] = None
top f (p ∷ parts) = option_map (λ x. (x, parts)) (f p)

-- what is made of what was taken from a stack, and of the parts below
abbrev pub take : {A B : Type 0} → Option (A × List Part) → (A → List Part → Option B) → Option B
take taken k = option_and_then (λ x. k x.0 x.1) taken
