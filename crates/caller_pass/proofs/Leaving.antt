-- What an evaluation left behind: taken up, kept, and known later.
use Rattle.std.proofs.Common.{◌≡◌, ℕ, Option, Some, None, IfSome, IfNone, sym, subst}
use Rattle.equation_law.specs.declared.coding.Instance.{Instance as CodedInstance}
use Rattle.equation_law.specs.declared.system.System.{System}
use Rattle.equation_law.specs.Names.{Instance}
use Rattle.equation_law.specs.Program.{Program}
use Rattle.equation_law.specs.Systems.{program_of}
use Rattle.equation_law.specs.Values.{Value}
use Rattle.expr_eval.proofs.Found.{none_saved}
use Rattle.expr_eval.proofs.Growing.{saved_more}
use Rattle.memo_cells.specs.declared.view.View.{View}
use Rattle.memo_cells.specs.Views.{IsAtLeast}
use Rattle.memo_cells.proofs.Agreeing.{agrees_before, node_known_later}
use Rattle.memo_cells.proofs.Naming.{knows_later}
use Rattle.collection_attrs.specs.declared.surveys.Survey.{Survey}
use Rattle.collection_attrs.proofs.Grown.{surveyed_more}
use Rattle.caller_pass.specs.declared.left.Left.{Left}
use Rattle.equation_law.specs.Reading.{ByEachIn, Told}
use Rattle.memo_cells.specs.Working.{Held, program_at, told_by}
use Rattle.caller_pass.specs.Leaving.{AreLeft, IsLeft, IsSurveyOf, LeavesNothing, reads_known}

-- what was left behind stays so where more has values
pub survey_later : {S T : Type 0} (p : Program) (r : Told S) (t : Told T) → ((j : Instance) (c : Value) → r.has j c → t.has j c) → ByEachIn t r.names → ((k : ℕ) → r.knows k → t.knows k) → (i : CodedInstance) (o : Option Survey) → IsSurveyOf p r i o → IsSurveyOf p t i o
survey_later p r t more names knows i None h = tt
survey_later p r t more names knows i (Some x) h = λ c is. surveyed_more more names knows (h c is)

pub left_later : {S T : Type 0} {s : System} {r : Told S} {t : Told T} → ((j : Instance) (c : Value) → r.has j c → t.has j c) → ByEachIn t r.names → ((k : ℕ) → r.knows k → t.knows k) → (i : CodedInstance) (x : Left) → AreLeft s r i x → AreLeft s t i x
left_later {s = s} {r = r} {t = t} more names knows i x h = record { saved = saved_more more names knows x.saved h.saved; survey = survey_later (program_of s) r t more names knows i x.survey h.survey }

-- what a desk tells of it is what its pass knows
pub left_told : (d : Held) (s : System) (i : CodedInstance) (x : Left) → AreLeft s (reads_known (program_at d) d.view) i x → AreLeft s (told_by d) i x
left_told d s i x h = left_later {r = reads_known (program_at d) d.view} {t = told_by d} (λ j c k. k) (λ n is. is) (λ k known. known) i x h

pub left_here : (d : Held) (s : System) (i : CodedInstance) (x : Left) → AreLeft s (told_by d) i x → AreLeft s (reads_known (program_at d) d.view) i x
left_here d s i x h = left_later {r = told_by d} {t = reads_known (program_at d) d.view} (λ j c k. k) (λ n is. is) (λ k known. known) i x h

-- and so where more is known
pub left_known : (p : Program) (v w : View) → IsAtLeast v w → (s : System) (i : CodedInstance) (m : Option Left) → IsLeft s (reads_known p v) i m → IsLeft s (reads_known p w) i m
left_known p v w kept s i None h = tt
left_known p v w kept s i (Some x) h = left_later {r = reads_known p v} {t = reads_known p w} (λ j c k. (knows_later v w kept p j k.0, k.1)) (λ n is. agrees_before p kept.made is) (λ k known. node_known_later p kept.made k known) i x h

-- nothing was left behind
pub none_left : {S : Type 0} (s : System) (t : Told S) (i : CodedInstance) (m : Option Left) → m ≡ None → IsLeft s t i m
none_left s t i None none = tt
none_left s t i (Some x) none = cc

nothing_left : {S : Type 0} {s : System} {t : Told S} (i : CodedInstance) (x : Left) → LeavesNothing x → AreLeft s t i x
nothing_left {s = s} {t = t} i x nothing = record { saved = none_saved x.saved nothing.saved; survey = subst (λ (o : Option Survey). IsSurveyOf (program_of s) t i o) (sym nothing.survey) tt }

-- what goes on is so, whether anything was left behind or not
pub taken_left : {S : Type 0} {s : System} {t : Told S} (i : CodedInstance) (m : Option Left) (x : Left) → IfSome m (λ y. x ≡ y) → IfNone m (LeavesNothing x) → IsLeft s t i m → AreLeft s t i x
taken_left i None x own nothing h = nothing_left i x nothing
taken_left {s = s} {t = t} i (Some y) x own nothing h = subst (λ (z : Left). AreLeft s t i z) (sym own) h

-- what is left behind of it then
pub kept_left : {S : Type 0} {s : System} {t : Told S} (i : CodedInstance) (m : Option Left) (x : Left) → IfSome m (λ y. y ≡ x) → AreLeft s t i x → IsLeft s t i m
kept_left i None x own h = tt
kept_left {s = s} {t = t} i (Some y) x own h = subst (λ (z : Left). AreLeft s t i z) (sym own) h
