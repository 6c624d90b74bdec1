-- What is noted of an attribute, which may lack an equation or be met uncovered.
use Rattle.std.proofs.Common.{◌≡◌, ℕ, ◌&&◌, Bool, true, false, List, Option, Some, None, is_none, [], refl, ap, subst, sym, ◌∙◌, option_map, if◌then◌else◌}
use Rattle.std.specs.List.{list_any}
use Rattle.rag_io.specs.declared.token.Place.{Place}
use Rattle.ast_grammar.specs.Grammar.{Class, is_sub, superclasses_of}
use Rattle.broken_rules.specs.declared.broken.Broken.{Broken}
use Rattle.broken_rules.specs.declared.rule.Rule.TheVariants.{J7, J8}
use Rattle.broken_rules.specs.Notes.{Notes, at, broken_if}
use Rattle.attr_rules.specs.declared.dispatch.Dispatch.{Dispatch}
use Rattle.attr_rules.specs.declared.dispatch.Target.{Target}
use Rattle.attr_rules.specs.declared.kinds.Attr.{Attr}
use Rattle.attr_rules.specs.declared.kinds.EqId.{EqId}
use Rattle.attr_rules.specs.declared.kinds.Sort.{Sort}
use Rattle.attr_rules.specs.declared.kinds.Sort.TheVariants.{Syn, Inh, Nta, Coll}
use Rattle.attr_rules.specs.Dispatching.{Dispatches}
use Rattle.attr_rules.specs.RowsKept.{at_row}
use Rattle.attr_rules.specs.Rules.{Attribute, declared_at, first_of_name, has_own_equations, is_inherited, number_of_equation}
use Rattle.attr_coverage.specs.declared.created.Created.{Created}
use Rattle.attr_coverage.specs.Completeness.{is_missing, is_open, lacking, lacking_at, missing_broken, open_broken}
use Rattle.attr_coverage.specs.Covering.{is_concrete}
use Rattle.attr_scope.specs.Classes.{class_numbers}

none_there : (o : Option EqId) → is_none o ≡ is_none (option_map number_of_equation o)
none_there None = refl
none_there (Some e) = refl

-- what has equations of its own isn't inherited
pub own_is_not_inherited : (s : Sort) → has_own_equations s ≡ true → is_inherited s ≡ false
own_is_not_inherited Syn own = refl
own_is_not_inherited Inh own = absurd cc
own_is_not_inherited Nta own = refl
own_is_not_inherited Coll own = absurd cc

if_both : (own b : Bool) (f : Broken) → broken_if (own && b) f ≡ (if own then broken_if b f else [])
if_both true b f = refl
if_both false b f = refl

module _ (g : List Class) (attributes : List Attribute) (targets : List Target) (made : ℕ → List Created) (a : ℕ) (place : Place) (d : Attr) where
  -- what an attribute lacks, by its sort
  pub lacking_by : {inherited : Bool} → declared_at attributes a ≡ Some d → is_inherited d.sort ≡ inherited
      → lacking g attributes targets made a place ≡ (if inherited then open_broken g targets (first_of_name attributes a) made d.class.0 place else (if has_own_equations d.sort then missing_broken g targets a d.class.0 place else []))
  lacking_by declared sort =
      ap (lacking_at g attributes targets made a place) declared
      ∙ ap (λ inherited. if inherited then open_broken g targets (first_of_name attributes a) made d.class.0 place else (if has_own_equations d.sort then missing_broken g targets a d.class.0 place else [])) sort

  module _ (declared : declared_at attributes a ≡ Some d) {b : Bool} {x y : Option Broken} where
    -- J8, by the first inherited attribute of the name
    pub open_noted : {first : Option ℕ} → is_inherited d.sort ≡ true → first ≡ first_of_name attributes a → b ≡ list_any (is_open g targets first made d.class.0) (class_numbers g)
        → Notes (broken_if b (at place J8)) x y → Notes (lacking g attributes targets made a place) x y
    open_noted {first} sort named test h =
        let same : b ≡ list_any (is_open g targets (first_of_name attributes a) made d.class.0) (class_numbers g) = test ∙ ap (λ f. list_any (is_open g targets f made d.class.0) (class_numbers g)) named in
        subst (λ list. Notes list x y) (sym (lacking_by declared sort)) (subst (λ b. Notes (broken_if b (at place J8)) x y) same h)

    -- J7, by the rows
    pub missing_noted : (rows : Dispatch) → Dispatches (superclasses_of g) targets rows → is_inherited d.sort ≡ false
        → b ≡ (has_own_equations d.sort && list_any (λ c. is_concrete g c && (is_sub g c d.class.0 && is_none (at_row rows.rows.items c a))) (class_numbers g)) → Notes (broken_if b (at place J7)) x y → Notes (lacking g attributes targets made a place) x y
    missing_noted rows known sort test h =
        let missing_at : (c : ℕ) → (is_concrete g c && (is_sub g c d.class.0 && is_none (at_row rows.rows.items c a))) ≡ is_missing g targets a d.class.0 c =
        λ c. ap (λ b. is_concrete g c && (is_sub g c d.class.0 && b)) (none_there (at_row rows.rows.items c a) ∙ ap is_none (known.each c a)) in
        let missing = list_any (is_missing g targets a d.class.0) (class_numbers g) in
        let same : b ≡ (has_own_equations d.sort && missing) = test ∙ ap (λ (p : ℕ → Bool). has_own_equations d.sort && list_any p (class_numbers g)) (λ i c. missing_at c i) in
        let listed : broken_if b (at place J7) ≡ lacking g attributes targets made a place =
        ap (λ b. broken_if b (at place J7)) same ∙ if_both (has_own_equations d.sort) missing (at place J7) ∙ sym (lacking_by declared sort)
        in
        subst (λ list. Notes list x y) listed h
