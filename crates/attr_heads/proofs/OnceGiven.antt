-- No two equations are for the same class, reach and attribute, where their heads break nothing.
use Rattle.std.proofs.Common.{◌≡◌, ◌==◌, ℕ, ◌<◌, ◌&&◌, true, false, List, [], Some, slice_get, take, refl, sym, ap, ◌∙◌}
use Rattle.std.proofs.lemmas.Bool.{and_from, eq-eqb}
use Rattle.ast_grammar.specs.Grammar.{Class}
use Rattle.attr_rules.specs.declared.dispatch.Reach.{Reach}
use Rattle.attr_rules.specs.declared.dispatch.Reach.TheVariants.{Own, Component as AtComponent, Created as AtCreated, Children}
use Rattle.attr_rules.specs.declared.dispatch.Target.{Target}
use Rattle.attr_rules.specs.Rules.{Attribute, is_target, same_reach}
use Rattle.attr_scope.specs.Written.{Given}
use Rattle.attr_scope.proofs.ItemsFound.{after_found, before_fails, same_place}
use Rattle.attr_heads.specs.Targets.{given_broken, is_same, target_given, target_of, targets_broken}
use Rattle.attr_heads.proofs.TargetsClean.{given_once}

reach_itself : (r : Reach) → same_reach r r ≡ true
reach_itself Own = refl
reach_itself (AtComponent k) = eq-eqb k.0 k.0 refl
reach_itself (AtCreated b) = eq-eqb b.0 b.0 refl
reach_itself Children = refl

target_itself : (t : Target) → is_target t.class.0 t.reach t.attribute.0 t ≡ true
target_itself t =
    and_from (same_reach t.reach t.reach) ((t.class.0 == t.class.0) && (t.attribute.0 == t.attribute.0)) (reach_itself t.reach)
    (and_from (t.class.0 == t.class.0) (t.attribute.0 == t.attribute.0) (eq-eqb t.class.0 t.class.0 refl) (eq-eqb t.attribute.0 t.attribute.0 refl))

module _ (g : List Class) (attributes : List Attribute) (list : List Given) (none : targets_broken g attributes list ≡ []) where
  none_before : (i j : ℕ) (d e : Given) → slice_get list i ≡ Some d → slice_get list j ≡ Some e → target_given g attributes d ≡ target_given g attributes e → i < j → ⊥
  none_before i j d e first second same lt =
      let t = target_given g attributes e in
      let known = (given_once g attributes (take i list) d (after_found (given_broken g attributes) list i d none first)).0 in
      let alone = (given_once g attributes (take j list) e (after_found (given_broken g attributes) list j e none second)).1 in
      let fails : is_same t (target_of g attributes d) ≡ false = before_fails (λ (x : Given). is_same t (target_of g attributes x)) list i j d alone first lt in
      let passes : is_same t (target_of g attributes d) ≡ true = ap (is_same t) known ∙ ap (λ (u : Target). is_same t (Some u)) same ∙ target_itself t in
      absurd (cc)

  pub one_target : (i j : ℕ) (d e : Given) → slice_get list i ≡ Some d → slice_get list j ≡ Some e → target_given g attributes d ≡ target_given g attributes e → i ≡ j
  one_target i j d e first second same = same_place i j (none_before i j d e first second same) (none_before j i e d second first (sym same))
