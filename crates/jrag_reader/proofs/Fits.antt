-- What a part of a sort is made of, as far as it can be told from the part alone.
use Rattle.std.proofs.Common.{◌≡◌, ℕ, Bool, true, false, ◌&&◌, List, [], ◌∷◌, ◌++◌, Some}
use Rattle.ll_parser.specs.Table.{member}
use Rattle.jrag_syntax.specs.Tokens.{token_class}
use Rattle.jrag_syntax.specs.declared.classes.Start.{Start}
use Rattle.jrag_reader.specs.Forms.{Sort}
use Rattle.jrag_reader.specs.Forms as sorts
use Rattle.jrag_reader.specs.Making.{make}
use Rattle.jrag_reader.specs.Parts.{Part, Token, Named, Quantifying, Formed, Arguments, Typed, Parameters, Flag, Modifiers, Circularity, Perhaps, Behind, PerhapsNamed, Made, Items, Opened}

abbrev pub fits : Start → Sort → Part → Bool
fits start (sorts.OneOf cs) (Token t code) = member (token_class start t) cs
fits start sorts.Word (Named n) = true
fits start sorts.Word (Quantifying q n) = true
fits start sorts.Quantifier (Quantifying q n) = true
fits start (sorts.Expression l) (Named n) = true
fits start (sorts.Expression l) (Quantifying q n) = true
fits start (sorts.Expression l) (Formed e) = true
fits start sorts.Sourced (Formed e) = true
fits start sorts.Arguments (Arguments es) = true
fits start sorts.SomeArguments (Arguments es) = true
fits start sorts.OfType (Typed t) = true
fits start sorts.Parameters (Parameters ps) = true
fits start sorts.SomeParameters (Parameters ps) = true
fits start sorts.Lazy (Flag b) = true
fits start sorts.HigherOrder (Flag b) = true
fits start sorts.Absent (Flag b) = true
fits start sorts.Modifiers (Modifiers lazy higher) = true
fits start sorts.Circularity (Circularity c) = true
fits start sorts.Body (Perhaps e) = true
fits start sorts.Condition (Perhaps e) = true
fits start sorts.Path (Behind s) = true
fits start sorts.Method (PerhapsNamed n) = true
fits start sorts.Root (PerhapsNamed n) = true
fits start sorts.Item (Made i) = true
fits start sorts.Aspects (Items is) = true
fits start sorts.Opened (Opened is) = true
fits start _ _ = false

-- some parts, each of its sort
abbrev pub all_fit : Start → List Sort → List Part → Bool
all_fit start [] [] = true
all_fit start [] (p ∷ parts) = false
all_fit start (s ∷ sorts) [] = false
all_fit start (s ∷ sorts) (p ∷ parts) = fits start s p && all_fit start sorts parts

-- Of these parts, whatever lies below them, an action makes one part of a sort.
pub record MakesOne (start : Start) (action : ℕ) (parts : List Part) (whole : Sort) : Type 0 where
  pub part : Part
  pub is : (below : List Part) → make start action (parts ++ below) ≡ Some (part ∷ below)
  pub fitting : fits start whole part ≡ true
