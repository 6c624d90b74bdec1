-- What an evaluation leaves behind where it stops.
use Rattle.std.specs.Prelude.{◌≡◌, Option, Some, None}
use Rattle.equation_law.specs.declared.coding.Instance.{Instance as CodedInstance}
use Rattle.equation_law.specs.declared.system.System.{System}
use Rattle.equation_law.specs.Equations.{HasValue}
use Rattle.equation_law.specs.Program.{Program}
use Rattle.equation_law.specs.Reading.{Told}
use Rattle.equation_law.specs.Systems.{program_of}
use Rattle.expr_eval.specs.Saved.{AreSaved, SavesNothing}
use Rattle.memo_cells.specs.declared.view.View.{View}
use Rattle.memo_cells.specs.Agreeing.{Agrees, IsKnownNode}
use Rattle.memo_cells.specs.Working.{IsKnown}
use Rattle.collection_attrs.specs.declared.surveys.Survey.{Survey}
use Rattle.collection_attrs.specs.Surveys.{AreCollectionOf, Collections, IsSurveyed}
use Rattle.caller_pass.specs.declared.left.Left.{Left}

-- so far a collection has gone over its offers, if the instance is one, and if it has begun
abbrev pub IsSurveyOf : {S : Type 0} → Program → Told S → CodedInstance → Option Survey → Type 0
IsSurveyOf p t i None = Unit {0}
IsSurveyOf p t i (Some s) = (c : Collections) → AreCollectionOf p i c → IsSurveyed p t c s

-- what a pass knows, as a reader of that alone: it may be read by each naming that agrees with the pass, and knows the nodes that the pass knows
abbrev pub reads_known : Program → View → Told Unit
reads_known p v = record { for = λ q. q ≡ p; has = IsKnown p v; can = HasValue p; keeps = λ u. Unit {0}; names = Agrees p v.made; knows = IsKnownNode v.made; height = λ c. c }

-- all that an evaluation of the equation of an instance left behind is so, by what a reader has
pub record AreLeft {S : Type 0} (s : System) (t : Told S) (i : CodedInstance) (l : Left) : Type 0 where
  pub saved : AreSaved s t l.saved
  pub survey : IsSurveyOf (program_of s) t i l.survey

-- the same, if that is anything
abbrev pub IsLeft : {S : Type 0} → System → Told S → CodedInstance → Option Left → Type 0
IsLeft s t i None = Unit {0}
IsLeft s t i (Some l) = AreLeft s t i l

pub record LeavesNothing (l : Left) : Type 0 where
  pub saved : SavesNothing l.saved
  pub survey : l.survey ≡ None
