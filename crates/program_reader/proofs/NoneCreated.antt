-- Items that are evaluated so far declare no higher-order attribute.
use Rattle.std.proofs.Common.{◌≡◌, ◌∙◌, ℕ, List, [], ◌∷◌, Bool, true, false, not, Option, Some, None, slice_get, refl, ap, sym, subst, inl, inr}
use Rattle.std.proofs.lemmas.Bool.{and_parts}
use Rattle.ast_grammar.specs.Grammar.{Class}
use Rattle.attr_rules.specs.Rules.{Attribute, is_higher_order}
use Rattle.built_forms.specs.Built.{all_built, is_built_item}
use Rattle.aspect_items.specs.Items.{Item, Declared, Inherits, Equates, Collects, Contributes}
use Rattle.attr_scope.specs.Written.{Head, collection_head, declarations, declared_in, inherited_head, synthesized_head, synthesized_sort}
use Rattle.attr_scope.proofs.ItemsFound.{all_found, first_or_later, map_found}
use Rattle.attr_heads.specs.Heads.{attribute_of}
use Rattle.attr_types.specs.Phases.{rules_of}
use Rattle.equation_law.specs.Checked.{NoneCreated}

-- a declaration of another sort
abbrev IsPlain : Head → Type 0
IsPlain h = is_higher_order h.sort ≡ false

plain_sort : (b : Bool) → not b ≡ true → is_higher_order (synthesized_sort b) ≡ false
plain_sort true e = cc
plain_sort false e = refl

plain_head : (item : Item) (h : Head) → is_built_item item ≡ true → declared_in item ≡ Some h → IsPlain h
plain_head (Declared s) h built is = let same : synthesized_head s ≡ h = cc in subst IsPlain same (plain_sort s.higher_order built)
plain_head (Inherits i) h built is = let same : inherited_head i ≡ h = cc in subst IsPlain same refl
plain_head (Equates e) h built is = absurd (cc)
plain_head (Collects c) h built is = let same : collection_head c ≡ h = cc in subst IsPlain same refl
plain_head (Contributes c) h built is = absurd (cc)

plain_heads : (items : List Item) (i : ℕ) (h : Head) → all_built items ≡ true → slice_get (declarations items) i ≡ Some h → IsPlain h
plain_heads [] i h built e = absurd (cc)
plain_heads (item ∷ items) i h built e =
    let both = and_parts (is_built_item item) (all_built items) built in
    elim (first_or_later (declared_in item) (declarations items) i h e) [
      | inl is ↦ plain_head item h both.0 is
      | inr later ↦ plain_heads items later.0 h both.1 later.1
    ]

pub none_created : (g : List Class) (items : List Item) → all_built items ≡ true → NoneCreated (rules_of g items)
unfolding rules_of
none_created g items built = all_found (λ (x : Attribute). is_higher_order x.declared.sort ≡ false) (rules_of g items).attributes (λ i x is.
    let found = map_found (attribute_of g) (declarations items) i x is in
    ap (λ (a : Attribute). is_higher_order a.declared.sort) (sym found.2) ∙ plain_heads items i found.0 built found.1)
