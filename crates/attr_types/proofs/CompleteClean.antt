-- What holds of equations that lack none.
use Rattle.std.proofs.Common.{◌≡◌, ℕ, ◌<◌, List, [], ◌&&◌, Bool, true, false, Option, Some, None, IsSome, is_none, length, get_or, slice_get, refl, ap, sym, ◌∙◌, subst, zero-add, arith, if◌then◌else◌}
use Rattle.std.specs.List.{list_any}
use Rattle.std.proofs.lemmas.List.{length-map}
use Rattle.std.proofs.lemmas.Option.{slice_get-get_or, slice_get_within}
use Rattle.rag_io.specs.declared.token.Place.{Place}
use Rattle.broken_rules.specs.Notes.{at}
use Rattle.broken_rules.specs.declared.rule.Rule.TheVariants.{J7, J8}
use Rattle.broken_rules.proofs.Clean.{each_from_found, not_broken}
use Rattle.ast_grammar.specs.declared.grammar.ClassId.{ClassId}
use Rattle.ast_grammar.specs.Grammar.{Class, is_sub, superclasses_of}
use Rattle.attr_rules.specs.declared.dispatch.Target.{Target}
use Rattle.attr_rules.specs.declared.kinds.Attr.{Attr}
use Rattle.attr_rules.specs.Rules.{Attribute, Uncovered, attribute_at, declared_at, declared_of, equation_number, first_of_name, has_own_equations, is_inherited, nearest_equation}
use Rattle.attr_rules.specs.Typing.{IsConcrete}
use Rattle.attr_coverage.specs.Completeness.{complete_broken, is_missing, is_open, lacking, missing_broken, open_broken, place_of, places_of, roots_of}
use Rattle.attr_coverage.specs.declared.created.Created.{Created}
use Rattle.attr_coverage.specs.Created.{made_in, made_of}
use Rattle.attr_types.proofs.RootsFound.{roots_again, targets_again}
use Rattle.attr_coverage.specs.Covering.{covers, is_concrete, is_concrete_of, is_covered, is_uncovered}
use Rattle.attr_heads.specs.Heads.{attribute_of, attributes_of}
use Rattle.attr_scope.specs.Classes.{class_numbers}
use Rattle.attr_types.specs.Phases.{rules_of}
use Rattle.attr_heads.specs.Targets.{targets_of}
use Rattle.attr_scope.specs.Written.{declarations, givens}
use Rattle.aspect_items.specs.Items.{Item}
use Rattle.attr_coverage.proofs.Completing.{lacking_by, own_is_not_inherited}
use Rattle.attr_scope.proofs.ItemsFound.{range_fails, some_from}
use Rattle.attr_coverage.proofs.Rounds.{concrete_within}
use Rattle.attr_coverage.proofs.UncoveredClasses.{all_found}

-- a concrete class within, below the other, lacks no equation
there_is : (concrete below none : Bool) → concrete ≡ true → below ≡ true → (concrete && (below && none)) ≡ false → none ≡ false
there_is concrete below none c b e = sym ((λ i. c i && (b i && none))) ∙ e

some_is : {X : Type 0} (o : Option X) → is_none o ≡ false → IsSome o
some_is None e = absurd (cc)
some_is (Some x) e = refl

-- nor can one that is uncovered
there_is_none : (concrete sub uncovered : Bool) → concrete ≡ true → sub ≡ true → uncovered ≡ true → (concrete && (sub && uncovered)) ≡ false → ⊥
there_is_none concrete sub uncovered c s u e = let never : true ≡ false = sym (λ i. c i && (s i && u i)) ∙ e in absurd (cc)

module _ (g : List Class) (attributes : List Attribute) (targets : List Target) (roots : List (Option ℕ)) (places : List Place) (even : length attributes ≡ length places)
    (none : complete_broken g attributes targets roots places ≡ []) where
  -- what the higher-order attributes make at nodes of each class
  abbrev made : ℕ → List Created
  made = made_of g attributes targets roots

  abbrev nowhere : Place
  nowhere = record { line = 0; column = 0 }

  -- an attribute lacks nothing
  lacks_none : (a : ℕ) (d : Attr) → declared_at attributes a ≡ Some d → (place : Place) × (lacking g attributes targets made a place ≡ [])
  lacks_none a d declared =
      let attribute = some_from declared_of (slice_get attributes a) d declared in
      let within : a < length places = omega (arith, slice_get_within attributes a attribute.0 attribute.1) in
      (get_or places a nowhere, each_from_found (lacking g attributes targets made) places a (get_or places a nowhere) none (slice_get-get_or places a nowhere within))

  -- a test that no class passes
  no_class : (test : ℕ → Bool) (c : ℕ) → list_any test (class_numbers g) ≡ false → IsConcrete g c → test c ≡ false
  no_class test c none concrete = subst (λ n. test n ≡ false) (zero-add c) (range_fails test 0 (length g) c none (concrete_within g c (ap is_concrete_of concrete)))

  -- each concrete class has an equation for each of its attributes that have equations of their own
  nearest_there : (c a : ℕ) (d : Attr) → IsConcrete g c → declared_at attributes a ≡ Some d → has_own_equations d.sort ≡ true → is_sub g c d.class.0 ≡ true → IsSome (nearest_equation (superclasses_of g) targets c a)
  nearest_there c a d concrete declared sort below =
      let lacks = lacks_none a d declared in
      let missing = is_missing g targets a d.class.0 in
      let lists = missing_broken g targets a d.class.0 lacks.0 in
      let by_sort : lacking g attributes targets made a lacks.0 ≡ lists = lacking_by g attributes targets made a lacks.0 d declared (own_is_not_inherited d.sort sort) ∙ ap (λ b. if b then lists else []) sort in
      let nothing : lists ≡ [] = sym by_sort ∙ lacks.1 in
      let not_here = no_class missing c (not_broken (list_any missing (class_numbers g)) (at lacks.0 J7) nothing) concrete in
      let nearest = nearest_equation (superclasses_of g) targets c a in
      some_is nearest (there_is (is_concrete g c) (is_sub g c d.class.0) (is_none nearest) (ap is_concrete_of concrete) below not_here)

  -- and none of them has an inherited one that can be met uncovered there
  none_open : (c a : ℕ) (d : Attr) → IsConcrete g c → declared_at attributes a ≡ Some d → is_inherited d.sort ≡ true → is_sub g c d.class.0 ≡ true
      → is_uncovered g (is_covered (superclasses_of g) targets (first_of_name attributes a)) made c ≡ true → ⊥
  none_open c a d concrete declared sort below uncovered =
      let lacks = lacks_none a d declared in
      let first = first_of_name attributes a in
      let test = is_open g targets first made d.class.0 in
      let nothing : open_broken g targets first made d.class.0 lacks.0 ≡ [] = sym (lacking_by g attributes targets made a lacks.0 d declared sort) ∙ lacks.1 in
      let not_here = no_class test c (not_broken (list_any test (class_numbers g)) (at lacks.0 J8) nothing) concrete in
      there_is_none (is_concrete g c) (is_sub g c d.class.0) (is_uncovered g (is_covered (superclasses_of g) targets first) made c) (ap is_concrete_of concrete) below uncovered not_here

module _ (g : List Class) (items : List Item) where
  -- nothing is broken of the attributes and equations of some items
  abbrev pub IsComplete : Type 0
  IsComplete = complete_broken g (attributes_of g (declarations items)) (targets_of g (attributes_of g (declarations items)) (givens items)) (roots_of g (givens items)) (places_of (declarations items)) ≡ []

  a_place_each : length (attributes_of g (declarations items)) ≡ length (places_of (declarations items))
  a_place_each = length-map (declarations items) (attribute_of g) ∙ sym (length-map (declarations items) place_of)

  pub complete_rules : IsComplete → (c : ClassId) (a : ℕ) (d : Attr) → IsConcrete g c.0 → attribute_at (rules_of g items) a ≡ Some d → has_own_equations d.sort ≡ true → is_sub g c.0 d.class.0 ≡ true → IsSome (equation_number (rules_of g items) c a)
  unfolding rules_of
  complete_rules none c a d concrete declared sort below =
      let attributes = attributes_of g (declarations items) in
      subst (λ targets. IsSome (nearest_equation (superclasses_of g) targets c.0 a)) (sym (targets_again g items))
      (nearest_there g attributes (targets_of g attributes (givens items)) (roots_of g (givens items)) (places_of (declarations items)) a_place_each none c.0 a d concrete declared sort below)

  pub covered_rules : IsComplete → (c : ClassId) (a : ℕ) (d : Attr) → attribute_at (rules_of g items) a ≡ Some d → is_inherited d.sort ≡ true → IsConcrete g c.0 → is_sub g c.0 d.class.0 ≡ true → Uncovered g (rules_of g items) a c.0 → ⊥
  unfolding rules_of
  covered_rules none c a d declared sort concrete below uncovered =
      let attributes = attributes_of g (declarations items) in
      let met : is_uncovered g (covers (rules_of g items) a) (made_in g (rules_of g items)) c.0 ≡ true = all_found g (rules_of g items) a c.0 uncovered in
      let first = first_of_name attributes a in
      let roots = roots_of g (givens items) in
      let written = subst (λ made. is_uncovered g (covers (rules_of g items) a) made c.0 ≡ true) (λ i p. sym (roots_again g items p) i) met in
      let open_there = subst (λ targets. is_uncovered g (is_covered (superclasses_of g) targets first) (made_of g attributes targets roots) c.0 ≡ true) (targets_again g items) written in
      none_open g attributes (targets_of g attributes (givens items)) (roots_of g (givens items)) (places_of (declarations items)) a_place_each none c.0 a d concrete declared sort below open_there
