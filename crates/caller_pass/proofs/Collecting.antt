-- Going on with a collection at a desk.
use Rattle.std.proofs.Common.{◌≡◌, ℕ, Option, Some, None, IfSome, IfNone, Result, sym, ap, subst, ◌∙◌}
use Rattle.rag_io.specs.declared.Memory.{Memory}
use Rattle.equation_law.specs.declared.system.System.{System}
use Rattle.equation_law.specs.Collections.{Collection}
use Rattle.equation_law.specs.declared.coding.Instance.{Instance as CodedInstance}
use Rattle.equation_law.specs.Codes.{ByEachNaming, instance_by}
use Rattle.equation_law.specs.Equations.{collection_of, offers_below}
use Rattle.equation_law.specs.Names.{Instance}
use Rattle.equation_law.specs.Program.{Program}
use Rattle.equation_law.specs.Reading.{ByEachIn, IsSound}
use Rattle.equation_law.specs.Systems.{program_of}
use Rattle.equation_law.proofs.Sites.{demanded_of_collection}
use Rattle.expr_eval.specs.declared.sites.Turn.{Turn}
use Rattle.expr_eval.specs.Evaluating.{Evaluates}
use Rattle.expr_eval.specs.Sites.{EvaluatesInstance}
use Rattle.memo_cells.specs.Working.{Held, program_at, told_by}
use Rattle.collection_attrs.specs.declared.collectors.Collector.{Collector}
use Rattle.collection_attrs.specs.declared.surveys.Survey.{Survey}
use Rattle.collection_attrs.specs.Evaluations.{demands_of}
use Rattle.collection_attrs.specs.Surveys.{AreCollectionOf, Collections, IsCollectorOf, IsForEach, IsNew, IsSurveyed}
use Rattle.collection_attrs.specs.Walks.{IsFor, IsWalk, Walk}
use Rattle.collection_attrs.proofs.Grown.{naming_of, survey_new, surveyed_as}
use Rattle.collection_attrs.proofs.Outcomes.{evaluates_as}
use Rattle.collection_attrs.proofs.Walked.{walk_more}
use Rattle.caller_pass.specs.Leaving.{IsSurveyOf, reads_known}

-- an instance is one collection
pub one_collection : (p : Program) (i : Instance) (c d : Collection) → collection_of p i ≡ Some c → collection_of p i ≡ Some d → d ≡ c
one_collection p i c d is too = let both : Some d ≡ Some c = sym too ∙ is in cc

-- the walk for its attribute and root is for it
pub walk_for : (p : Program) (c : Collection) (w : Walk) (a r : ℕ) → c.offers ≡ offers_below p a (Some r) → w.attribute ≡ a → w.root ≡ r → IsFor p w c
walk_for p c w a r are attribute root = are ∙ ap (λ (b : ℕ). offers_below p b (Some r)) (sym attribute) ∙ ap (λ (s : ℕ). offers_below p w.attribute (Some s)) (sym root)

-- the walks that are for a collection by each naming by which a desk may be read
pub walk_for_each : (p : Program) (d : Held) → IsSound p (told_by d) → (c : Collections) (w : Walk) (a r : ℕ) → ByEachNaming p (λ names. (c names).offers ≡ offers_below p a (Some r)) → w.attribute ≡ a → w.root ≡ r → IsForEach p (told_by d) w c
walk_for_each p d sound c w a r are attribute root = λ names in_it. walk_for p (c names) w a r (are names (naming_of sound names in_it)) attribute root

-- how far it has gone, taken up or new
pub survey_taken : (p : Program) (d : Held) → IsSound p (told_by d) → (i : CodedInstance) (of : Collector) (c : Collections) (o : Option Survey) (x : Survey) → AreCollectionOf p i c → IsCollectorOf p of c → IfSome o (λ s. x ≡ s) → IfNone o (IsNew p of x)
    → IsSurveyOf p (told_by d) i o → IsSurveyed p (told_by d) c x
survey_taken p d sound i of c None x are its own new h = survey_new (told_by d) sound its new
survey_taken p d sound i of c (Some s) x are its own new h = subst (λ (y : Survey). IsSurveyed p (told_by d) c y) (sym own) (h c are)

-- and how far it has gone then
pub survey_left : (p : Program) (d : Held) → IsSound p (told_by d) → (i : CodedInstance) (c : Collections) (x : Survey) → AreCollectionOf p i c → IsSurveyed p (told_by d) c x → IsSurveyOf p (told_by d) i (Some x)
survey_left p d sound i c x are h = λ k is.
    let same : ByEachIn (told_by d) (λ names. c names ≡ k names) = (λ names in_it. let named = naming_of sound names in_it in one_collection p (instance_by p names i) (k names) (c names) (is names named) (are names named)) in
    surveyed_as same h

-- a walk by what a desk tells, and by what its pass knows
pub walk_told : (s : System) (d e : Held) (w : Walk) → d.frame.system.value ≡ s → e ≡ d → IsWalk (program_at d) (reads_known (program_at d) d.view) w → IsWalk (program_of s) (told_by e) w
walk_told s d e w same is h =
    let here = walk_more {r = reads_known (program_at d) d.view} {t = told_by d} (λ i v a. a) (λ n in_it. in_it) (λ k known. known) h in
    subst (λ (t : System). IsWalk (program_of t) (told_by e) w) same (subst (λ (x : Held). IsWalk (program_at d) (told_by x) w) (sym is) here)

pub walk_known : (p : Program) (e : Held) (w : Walk) → p ≡ program_at e → IsWalk p (told_by e) w → IsWalk (program_at e) (reads_known (program_at e) e.view) w
walk_known p e w same h =
    let here = walk_more {r = told_by e} {t = reads_known (program_at e) e.view} (λ i v a. a) (λ n in_it. in_it) (λ k known. known) h in
    subst (λ (q : Program). IsWalk q (reads_known (program_at e) e.view) w) same here

-- what going on says of its equation
pub collected : (p : Program) (i : CodedInstance) (c : Collections) (r : Result Turn Memory) (d x y e : Held) → AreCollectionOf p i c → x ≡ d → e ≡ y → Evaluates p (told_by x) (told_by y) (demands_of p c) r → EvaluatesInstance p (told_by d) (told_by e) i r
collected p i c r d x y e are before after h =
    let one = subst (λ (z : Held). Evaluates p (told_by z) (told_by y) (demands_of p c) r) before h in
    let two = subst (λ (z : Held). Evaluates p (told_by d) (told_by z) (demands_of p c) r) (sym after) one in
    evaluates_as (λ names in_it. sym (demanded_of_collection p (instance_by p names i) (c names) (are names (naming_of two.kept.sound names in_it)))) two
