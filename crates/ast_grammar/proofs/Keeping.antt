-- What is kept of the classes of some rules.
use Rattle.std.proofs.Common.{◌≡◌, ℕ, zero, suc, ◌+◌, ◌<◌, ◌⊎◌, inl, inr, List, [], ◌∷◌, ◌++◌, length, map, get_or, slice_get, reverse, Option, Some, None, option_map, refl, ap, sym, ◌∙◌, subst}
use Rattle.std.specs.List.{flat_map}
use Rattle.std.proofs.lemmas.List.{get_or-map, map-append}
use Rattle.std.proofs.lemmas.Option.{slice_get-map, slice_get_read, slice_get_within, get_or_from_slice_get}
use Rattle.superclasses.specs.Superclasses.{superclass_of, upwards}
use Rattle.ast_rules.specs.Members.{components_at}
use Rattle.ast_rules.specs.Naming.{names_of}
use Rattle.ast_rules.specs.Superclasses.{superclass_number, superclass_numbers}
use Rattle.ast_rules.specs.Written.{WrittenRule, seen_rule, seen_rules}
use Rattle.ast_rules.specs.declared.written.WrittenRule as written
use Rattle.ast_grammar.specs.Building.{IsKeptOf, component_numbered, own_at, own_numbered}
use Rattle.ast_grammar.specs.Written.{class_id, inherited_first}
use Rattle.ast_grammar.specs.declared.grammar.Component as kept_component
use Rattle.ast_grammar.specs.declared.grammar.KeptClass.{KeptClass}

-- the item of a number, of a list with one put last
pub push_cases : {X : Type 0} (xs : List X) (x y : X) (i : ℕ) → slice_get (xs ++ x ∷ []) i ≡ Some y → (slice_get xs i ≡ Some y) ⊎ ((i ≡ length xs) × (x ≡ y))
push_cases [] x y zero e = inr (refl, cc)
push_cases [] x y (suc i) e = absurd (cc)
push_cases (z ∷ xs) x y zero e = inl e
push_cases (z ∷ xs) x y (suc i) e = elim (push_cases xs x y i e) [ inl h ↦ inl h | inr h ↦ inr (ap suc h.0, h.1) ]

flat_map_map : {X Y Z : Type 0} (f : Y → Z) (g : X → List Y) (xs : List X) → flat_map (λ x. map f (g x)) xs ≡ map f (flat_map g xs)
flat_map_map f g [] = refl
flat_map_map f g (x ∷ xs) = ap (λ zs. map f (g x) ++ zs) (flat_map_map f g xs) ∙ sym (map-append f (g x) (flat_map g xs))

-- the own components of a class
own_at_is : (all rules : List WrittenRule) (j : ℕ) → own_at (map (own_numbered all) rules) j ≡ map (component_numbered all) (components_at rules j)
own_at_is all [] j = refl
own_at_is all (rule ∷ rules) zero = refl
own_at_is all (rule ∷ rules) (suc j) = own_at_is all rules j

module _ (rules : List WrittenRule) where
  -- the components along a line of classes
  along : (line : List ℕ) → flat_map (own_at (map (own_numbered rules) rules)) line ≡ map (component_numbered rules) (flat_map (components_at rules) line)
  along line = (λ j. flat_map (λ k. own_at_is rules rules k j) line) ∙ flat_map_map (component_numbered rules) (components_at rules) line

  -- those of a class
  pub inherited : (class : ℕ) {own : List (List kept_component.Component)} {superclasses : List (Option ℕ)} {components : List kept_component.Component} → own ≡ map (own_numbered rules) rules
      → superclasses ≡ superclass_numbers (names_of rules) rules → components ≡ flat_map (own_at own) (reverse (upwards superclasses class)) → components ≡ map (component_numbered rules) (inherited_first rules class)
  inherited class same is e = e ∙ (λ j. flat_map (own_at (same j)) (reverse (upwards (is j) class))) ∙ along (reverse (upwards (superclass_numbers (names_of rules) rules) class))

  pub superclass_is : (class : ℕ) (rule : WrittenRule) {superclasses : List (Option ℕ)} → superclasses ≡ superclass_numbers (names_of rules) rules → slice_get rules class ≡ Some rule
      → superclass_of superclasses class ≡ superclass_number (names_of rules) rule
  superclass_is class rule is e =
      let number = superclass_number (names_of rules) in
      ap (λ s. superclass_of s class) is ∙ get_or-map number rules class rule None (slice_get_within rules class rule e) ∙ ap number (get_or_from_slice_get rules class rule rule e)

  -- one more class is kept
  pub kept_more : (i : ℕ) (classes : List KeptClass) (c : KeptClass) {more : List KeptClass} → length classes ≡ i → more ≡ classes ++ c ∷ [] → ((rule : WrittenRule) → slice_get rules i ≡ Some rule → IsKeptOf rules i rule c)
      → ((k : ℕ) (rule : WrittenRule) (d : KeptClass) → slice_get rules k ≡ Some rule → slice_get classes k ≡ Some d → IsKeptOf rules k rule d)
      → (k : ℕ) (rule : WrittenRule) (d : KeptClass) → slice_get rules k ≡ Some rule → slice_get more k ≡ Some d → IsKeptOf rules k rule d
  kept_more i classes c count pushed new each k rule d there e = elim (push_cases classes c d k (ap (λ cs. slice_get cs k) (sym pushed) ∙ e)) [
    | inl before ↦ each k rule d there before
    | inr last ↦
        let here : k ≡ i = last.0 ∙ count in
        let kept : IsKeptOf rules i rule c = new rule (ap (slice_get rules) (sym here) ∙ there) in
        subst (IsKeptOf rules k rule) last.1 (subst (λ n. IsKeptOf rules n rule c) (sym here) kept)
  ]

-- the class of a rule in memory
pub kept_of : (items : List written.WrittenRule) (i : ℕ) (item : written.WrittenRule) (c : KeptClass) → item ≡ get_or items i item → i < length items → c.is_abstract ≡ item.is_abstract → c.name ≡ i + 1
    → {superclasses : List (Option ℕ)} → superclasses ≡ superclass_numbers (names_of (seen_rules items)) (seen_rules items) → c.superclass ≡ option_map class_id (superclass_of superclasses i)
    → c.components.items ≡ map (component_numbered (seen_rules items)) (inherited_first (seen_rules items) i)
    → (rule : WrittenRule) → slice_get (seen_rules items) i ≡ Some rule → IsKeptOf (seen_rules items) i rule c
kept_of items i item c is lt abstract name numbers superclass components rule there =
    let here : slice_get (seen_rules items) i ≡ Some (seen_rule item) = slice_get-map seen_rule items i ∙ ap (option_map seen_rule) (slice_get_read items (length items) i item refl lt is) in
    let same : seen_rule item ≡ rule = let both = sym here ∙ there in cc in
    record {
      abstract = abstract ∙ ap (λ (r : WrittenRule). r.abstract) same;
      name = name;
      superclass = superclass ∙ ap (option_map class_id) (superclass_is (seen_rules items) i rule numbers there);
      components = components;
    }
