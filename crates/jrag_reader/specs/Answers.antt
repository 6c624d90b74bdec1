-- What the steps of the reader answer, as the code keeps it.
use Rattle.std.specs.Prelude.{◌≡◌, ℕ, List, [], ◌∷◌, Result, Ok, Err, Vec}
use Rattle.std.specs.declared.alloc.Global.{Global}
use Rattle.broken_rules.specs.declared.broken.ReadFault.{ReadFault}
use Rattle.broken_rules.specs.declared.broken.ReadFault.TheVariants as faults
use Rattle.rag_io.specs.Tokens.{Lexed}
use Rattle.jrag_syntax.specs.declared.classes.Start.{Start}
use Rattle.jrag_syntax.specs.declared.classes.Start.TheVariants as starts
use Rattle.aspect_items.specs.declared.aspects.Aspects as kept_aspects
use Rattle.aspect_items.specs.declared.expression.Expr as kept_expr
use Rattle.jrag_reader.specs.declared.parts.Part as kept
use Rattle.aspect_items.specs.Expressions.{seen_expr}
use Rattle.aspect_items.specs.Items.{seen_aspects}
use Rattle.jrag_reader.specs.Parts.{Part, Token}
use Rattle.jrag_reader.specs.Reading.{IsFirstBroken, SaysExpr, SaysItems, SaysWhole}
use Rattle.jrag_reader.specs.Stack.{tops}

-- the part that the tokens say, below the token of the end
pub record HoldsPart (start : Start) (pool : List (List ℕ)) (ts : List Lexed) (parts : List Part) : Type 0 where
  pub end : Lexed
  pub code : ℕ
  pub part : Part
  pub are : parts ≡ Token end code ∷ part ∷ []
  pub says : SaysWhole start pool ts part

-- why nothing is read
abbrev pub IsRefusal : Start → List (List ℕ) → List Lexed → ReadFault → Type 0
IsRefusal start pool ts (faults.Broken b) = IsFirstBroken start pool ts b
IsRefusal start pool ts faults.Memory = Unit {0}

abbrev pub ReadsParts : Start → List (List ℕ) → List Lexed → Result (Vec kept.Part Global) ReadFault → Type 0
ReadsParts start pool ts (Ok parts) = HoldsPart start pool ts (tops parts.items)
ReadsParts start pool ts (Err why) = IsRefusal start pool ts why

-- what reading a file answers
abbrev pub AnswersItems : List (List ℕ) → List Lexed → Result kept_aspects.Aspects ReadFault → Type 0
AnswersItems pool ts (Ok aspects) = SaysItems pool ts (seen_aspects aspects)
AnswersItems pool ts (Err why) = IsRefusal starts.File pool ts why

-- what reading a single expression answers
abbrev pub AnswersExpr : List (List ℕ) → List Lexed → Result kept_expr.Expr ReadFault → Type 0
AnswersExpr pool ts (Ok e) = SaysExpr pool ts (seen_expr e)
AnswersExpr pool ts (Err why) = IsRefusal starts.Expression pool ts why
