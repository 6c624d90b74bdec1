-- Where nothing is contributed.
use Rattle.std.proofs.Common.{◌≡◌, ◌<◌, ◌^◌, ◌∙◌, ℕ, List, [], Some, ap, arith, length, map, slice_get, subst, sym}
use Rattle.std.proofs.lemmas.List.{length-map}
use Rattle.attr_rules.specs.declared.dispatch.Target.{Target}
use Rattle.attr_equations.specs.declared.contributions.KeptContribution.{KeptContribution}
use Rattle.attr_equations.specs.declared.rules.KeptEquation.{KeptEquation}
use Rattle.attr_equations.specs.KeptContributions.{AreNumbered}
use Rattle.attr_equations.specs.KeptEquations.{kept_target}

-- no contributions have the numbers that they are to have
pub none_numbered : (first : ℕ) (list : List KeptContribution) → first < 2 ^ 32 → list ≡ [] → AreNumbered first list
none_numbered first list less is =
    let none : length list ≡ 0 = ap length is in
    record {
      few = omega (arith, less, none);
      each = λ k c e. (let never : slice_get {X = KeptContribution} [] k ≡ Some c = subst (λ (xs : List KeptContribution). slice_get xs k ≡ Some c) is e in absurd (cc));
    }

-- behind an equation for each of these targets
pub behind_targets : (equations : List KeptEquation) (targets : List Target) (list : List KeptContribution) → map kept_target equations ≡ targets → length targets < 2 ^ 32 → list ≡ [] → AreNumbered (length equations) list
behind_targets equations targets list are few is =
    let long : length equations ≡ length targets = sym (length-map equations kept_target) ∙ ap length are in
    none_numbered (length equations) list (omega (arith, long, few)) is
