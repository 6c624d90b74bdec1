-- Parts of some sorts side by side, each as it is read.
use Rattle.std.proofs.Common.{◌≡◌, ℕ, Bool, true, false, List, [], ◌∷◌, Option, Some, refl}
use Rattle.std.proofs.lemmas.Bool.{and_parts}
use Rattle.ll_parser.specs.Table.{member}
use Rattle.rag_io.specs.Tokens.{Lexed}
use Rattle.jrag_syntax.specs.Tokens.{token_class}
use Rattle.jrag_syntax.specs.declared.classes.Start.{Start}
use Rattle.aspect_items.specs.Expressions.{Expr, Name}
use Rattle.jrag_reader.specs.Forms.{Sort}
use Rattle.jrag_reader.specs.Forms as sorts
use Rattle.aspect_items.specs.Items.{WrittenType, Parameter, Signature, Circular, Item}
use Rattle.jrag_reader.specs.Parts.{Part, Token, Named, Quantifying, Formed, Arguments, Typed, Parameters, Flag, Modifiers, Circularity, Perhaps, Behind, PerhapsNamed, Made, Items, Opened, name_in, expr_in}
use Rattle.aspect_items.specs.declared.expression.Quantifier.{Quantifier}
use Rattle.jrag_reader.proofs.Fits.{fits, all_fit}

infixr 67 ◌on◌
pub never : {A : Type 0} → false ≡ true → A
never h = absurd (cc)

-- What a part of a sort is.
pub data Reads (start : Start) : Sort → Part → Type 0 where
  token : {t : Lexed} {code : ℕ} {cs : List ℕ} → member (token_class start t) cs ≡ true → Reads start (sorts.OneOf cs) (Token t code)
  word : {p : Part} {n : Name} → name_in p ≡ Some n → Reads start sorts.Word p
  quantifier : {q : Quantifier} {n : Name} → Reads start sorts.Quantifier (Quantifying q n)
  expression : {l : ℕ} {p : Part} {e : Expr} → expr_in p ≡ Some e → Reads start (sorts.Expression l) p
  sourced : {e : Expr} → Reads start sorts.Sourced (Formed e)
  arguments : {es : List Expr} → Reads start sorts.Arguments (Arguments es)
  some_arguments : {es : List Expr} → Reads start sorts.SomeArguments (Arguments es)
  of_type : {t : WrittenType} → Reads start sorts.OfType (Typed t)
  parameters : {ps : List Parameter} → Reads start sorts.Parameters (Parameters ps)
  some_parameters : {ps : List Parameter} → Reads start sorts.SomeParameters (Parameters ps)
  lazy : {b : Bool} → Reads start sorts.Lazy (Flag b)
  higher_order : {b : Bool} → Reads start sorts.HigherOrder (Flag b)
  absent : {b : Bool} → Reads start sorts.Absent (Flag b)
  modifiers : {a b : Bool} → Reads start sorts.Modifiers (Modifiers a b)
  circularity : {c : Option Circular} → Reads start sorts.Circularity (Circularity c)
  body : {e : Option Expr} → Reads start sorts.Body (Perhaps e)
  condition : {e : Option Expr} → Reads start sorts.Condition (Perhaps e)
  path : {s : Option Signature} → Reads start sorts.Path (Behind s)
  method : {n : Option Name} → Reads start sorts.Method (PerhapsNamed n)
  root : {n : Option Name} → Reads start sorts.Root (PerhapsNamed n)
  item : {i : Item} → Reads start sorts.Item (Made i)
  aspects : {is : List Item} → Reads start sorts.Aspects (Items is)
  opened : {is : List Item} → Reads start sorts.Opened (Opened is)

-- Some parts, each of its sort.
pub data Stand (start : Start) : List Sort → List Part → Type 0 where
  over : Stand start [] []
  ◌on◌ : {s : Sort} {p : Part} {others : List Sort} {parts : List Part} → Reads start s p → Stand start others parts → Stand start (s ∷ others) (p ∷ parts)

module _ (start : Start) where
  -- what a part is that fits a sort
  reads : (s : Sort) (p : Part) → fits start s p ≡ true → Reads start s p
  reads (sorts.OneOf cs) (Token t code) fit = token fit
  reads sorts.Word (Named n) fit = word refl
  reads sorts.Word (Quantifying q n) fit = word refl
  reads sorts.Quantifier (Quantifying q n) fit = quantifier
  reads (sorts.Expression l) (Named n) fit = expression refl
  reads (sorts.Expression l) (Quantifying q n) fit = expression refl
  reads (sorts.Expression l) (Formed e) fit = expression refl
  reads sorts.Sourced (Formed e) fit = sourced
  reads sorts.Arguments (Arguments es) fit = arguments
  reads sorts.SomeArguments (Arguments es) fit = some_arguments
  reads sorts.OfType (Typed t) fit = of_type
  reads sorts.Parameters (Parameters ps) fit = parameters
  reads sorts.SomeParameters (Parameters ps) fit = some_parameters
  reads sorts.Lazy (Flag b) fit = lazy
  reads sorts.HigherOrder (Flag b) fit = higher_order
  reads sorts.Absent (Flag b) fit = absent
  reads sorts.Modifiers (Modifiers a b) fit = modifiers
  reads sorts.Circularity (Circularity c) fit = circularity
  reads sorts.Body (Perhaps e) fit = body
  reads sorts.Condition (Perhaps e) fit = condition
  reads sorts.Path (Behind s) fit = path
  reads sorts.Method (PerhapsNamed n) fit = method
  reads sorts.Root (PerhapsNamed n) fit = root
  reads sorts.Item (Made i) fit = item
  reads sorts.Aspects (Items is) fit = aspects
  reads sorts.Opened (Opened is) fit = opened
  reads _ _ fit = never fit

  -- parts that fit stand so
  pub stand : (asked : List Sort) (parts : List Part) → all_fit start asked parts ≡ true → Stand start asked parts
  stand [] [] fit = over
  stand [] (p ∷ parts) fit = never fit
  stand (s ∷ others) [] fit = never fit
  stand (s ∷ others) (p ∷ parts) fit =
      let both = and_parts (fits start s p) (all_fit start others parts) fit in
      reads s p both.0 on stand others parts both.1
