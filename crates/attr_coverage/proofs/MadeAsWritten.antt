-- What is made by equations as they are written is made by the rules that they make.
use Rattle.std.proofs.Common.{◌≡◌, ◌==◌, ℕ, zero, suc, List, [], ◌∷◌, true, ◌&&◌, Option, Some, None, map, slice_get, inl, inr, ◌⊎◌, refl, ap, sym, ◌∙◌}
use Rattle.std.specs.Option.{option_and_then, option_map, option_or}
use Rattle.std.proofs.lemmas.Bool.{and_parts, eqb-true}
use Rattle.superclasses.specs.Superclasses.{upwards}
use Rattle.ast_grammar.specs.Grammar.{Class, number_of, superclasses_of}
use Rattle.attr_rules.specs.declared.dispatch.Reach.TheVariants.{Own}
use Rattle.attr_rules.specs.declared.dispatch.Target.{Target}
use Rattle.attr_rules.specs.declared.kinds.Attr.{Attr}
use Rattle.attr_rules.specs.RowsKept.{at_place}
use Rattle.attr_rules.specs.Rules.{Equation, RuleSet, class_made, declared_at, first_of_line, is_higher_order, is_target, nearest_equation, own_equation, same_reach, target_in}
use Rattle.attr_scope.proofs.ItemsFound.{map_found, position_found}
use Rattle.attr_scope.specs.Written.{Given}
use Rattle.attr_coverage.specs.Completeness.{root_of, roots_of}
use Rattle.attr_coverage.specs.Created.{made_in, made_of, root_by, root_in}
use Rattle.attr_coverage.proofs.Made.{same_made}

either_some : {X : Type 0} (o p : Option X) (x : X) → option_or o p ≡ Some x → (o ≡ Some x) ⊎ (p ≡ Some x)
either_some None p x e = inr e
either_some (Some y) p x e = inl e

-- what the first of some classes has is what one of them has
first_found : (f : ℕ → Option ℕ) (line : List ℕ) (n : ℕ) → first_of_line f line ≡ Some n → (c : ℕ) × (f c ≡ Some n)
first_found f [] n e = absurd (cc)
first_found f (c ∷ line) n e = elim (either_some (f c) (first_of_line f line) n e) [
  | inl here ↦ (c, here)
  | inr later ↦ first_found f line n later
]

-- the equation of an attribute is for it
nearest_for : (superclasses : List (Option ℕ)) (targets : List Target) (p b n : ℕ) → nearest_equation superclasses targets p b ≡ Some n → (t : Target) × (slice_get targets n ≡ Some t) × (t.attribute.0 ≡ b)
nearest_for superclasses targets p b n e =
    let own = first_found (own_equation targets b) (upwards superclasses p) n e in
    let at = position_found (is_target own.0 Own b) targets n own.1 in
    let test = and_parts (same_reach at.0.reach Own) ((at.0.class.0 == own.0) && (at.0.attribute.0 == b)) at.2 in
    (at.0, at.1, eqb-true at.0.attribute.0 b (and_parts (at.0.class.0 == own.0) (at.0.attribute.0 == b) test.1).1)

-- the class of a root by those of all equations, and by the equation itself
same_root : (roots : List (Option ℕ)) (equations : List Equation) (o : Option ℕ) → ((n : ℕ) → o ≡ Some n → at_place roots n ≡ option_map number_of (option_and_then class_made (slice_get equations n)))
    → option_and_then (at_place roots) o ≡ option_map number_of (option_and_then class_made (option_and_then (slice_get equations) o))
same_root roots equations None same = refl
same_root roots equations (Some n) same = same n refl

-- the class at a place of those that some items give
place_of_map : {X : Type 0} (f : X → Option ℕ) (xs : List X) (n : ℕ) (x : X) → slice_get xs n ≡ Some x → at_place (map f xs) n ≡ f x
place_of_map f [] n x e = absurd (cc)
place_of_map f (y ∷ xs) zero x e = ap f (let same : y ≡ x = cc in same)
place_of_map f (y ∷ xs) (suc n) x e = place_of_map f xs n x e

module _ (g : List Class) (r : RuleSet) (list : List Given) (f : Given → Equation) (up : r.superclasses ≡ superclasses_of g) (all : r.equations ≡ map f list)
    (same : (w : Given) (d : Attr) → declared_at r.attributes (f w).target.attribute.0 ≡ Some d → is_higher_order d.sort ≡ true → root_of g w ≡ option_map number_of (class_made (f w))) where
  -- the class of the root that the equation of a higher-order attribute makes
  root_at : (b n : ℕ) (d : Attr) → declared_at r.attributes b ≡ Some d → is_higher_order d.sort ≡ true → (t : Target) → slice_get (map target_in r.equations) n ≡ Some t → t.attribute.0 ≡ b
      → at_place (roots_of g list) n ≡ option_map number_of (option_and_then class_made (slice_get r.equations n))
  root_at b n d declared higher_order t there for =
      let equation = map_found target_in r.equations n t there in
      let written = map_found f list n equation.0 (sym (ap (λ es. slice_get es n) all) ∙ equation.1) in
      let attribute = ap (λ (e : Equation). e.target.attribute.0) written.2 ∙ ap (λ (t : Target). t.attribute.0) equation.2 ∙ for in
      place_of_map (root_of g) list n written.0 written.1
      ∙ same written.0 d (ap (declared_at r.attributes) attribute ∙ declared) higher_order
      ∙ ap (λ e. option_map number_of (class_made e)) written.2
      ∙ sym (ap (λ o. option_map number_of (option_and_then class_made o)) equation.1)

  same_roots : (p b : ℕ) (d : Attr) → declared_at r.attributes b ≡ Some d → is_higher_order d.sort ≡ true → root_by g (map target_in r.equations) (roots_of g list) p b ≡ root_in r p b
  same_roots p b d declared higher_order =
      let targets = map target_in r.equations in
      ap (λ s. option_and_then (at_place (roots_of g list)) (nearest_equation s targets p b)) (sym up)
      ∙ same_root (roots_of g list) r.equations (nearest_equation r.superclasses targets p b)
      (λ n e. (let at = nearest_for r.superclasses targets p b n e in root_at b n d declared higher_order at.0 at.1 at.2))

  -- where the right side of each equation of a higher-order attribute makes a root of the same class as it is written
  pub made_as_written : (p : ℕ) → made_of g r.attributes (map target_in r.equations) (roots_of g list) p ≡ made_in g r p
  made_as_written p = same_made g r.attributes (root_by g (map target_in r.equations) (roots_of g list)) (root_in r) p (same_roots p)
