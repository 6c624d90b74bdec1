-- What a class has from its superclasses.
use Rattle.std.proofs.Common.{◌≡◌, ℕ, zero, suc, ◌<◌, ◌⊎◌, true, List, [], ◌∷◌, ◌++◌, Some, length, slice_get, ap, sym, subst, ◌∙◌, inl, inr}
use Rattle.std.proofs.lemmas.List.{length-map}
use Rattle.superclasses.specs.Superclasses.{IsAbove, directly, nearest_common, through, superclass_of as above_of}
use Rattle.superclasses.proofs.Lines.{common_sub, sub_above}
use Rattle.ast_grammar.specs.Grammar.{Class, Component, HasShape, IsGrammar, component_at, components_of, is_sub, superclasses_of}
use Rattle.ast_grammar.specs.declared.grammar.Shape.{Shape}
use Rattle.ast_grammar.specs.declared.grammar.Shape.TheVariants as shapes
use Rattle.ast_grammar.proofs.Allowed.{component_allowed}

-- each class has one superclass, or none
pub length-superclasses_of : (g : List Class) → length (superclasses_of g) ≡ length g
unfolding superclasses_of
length-superclasses_of g = length-map g _

slice_get-front : (first rest : List Component) (k : ℕ) (x : Component) → slice_get first k ≡ Some x → slice_get (first ++ rest) k ≡ Some x
slice_get-front [] rest k x e = absurd (cc)
slice_get-front (p ∷ first) rest zero x e = e
slice_get-front (p ∷ first) rest (suc k) x e = slice_get-front first rest k x e

-- the class of a component that has one
shaped_child : (classes : ℕ) (x : Component) → HasShape classes x.shape x.class → x.shape ≡ shapes.Child → x.class.0 < classes
shaped_child classes x has child = subst (λ (s : Shape). HasShape classes s x.class) child has

shaped_list : (classes : ℕ) (x : Component) → HasShape classes x.shape x.class → x.shape ≡ shapes.List → x.class.0 < classes
shaped_list classes x has list = subst (λ (s : Shape). HasShape classes s x.class) list has

shaped_optional : (classes : ℕ) (x : Component) → HasShape classes x.shape x.class → x.shape ≡ shapes.Optional → x.class.0 < classes
shaped_optional classes x has optional = subst (λ (s : Shape). HasShape classes s x.class) optional has

module _ (g : List Class) (allowed : IsGrammar g) where
  -- a component of the superclass
  from_superclass : (a b k : ℕ) (x : Component) → above_of (superclasses_of g) a ≡ Some b → component_at g b k ≡ Some x → component_at g a k ≡ Some x
  from_superclass a b k x up e =
      let begins = allowed.inherits a b up in
      ap (λ (all : List Component). slice_get all k) begins.are ∙ slice_get-front (components_of g b) begins.rest k x e

  from_above : (a b k : ℕ) (x : Component) → IsAbove (superclasses_of g) a b → component_at g b k ≡ Some x → component_at g a k ≡ Some x
  from_above a b k x (directly up) e = from_superclass a b k x up e
  from_above a b k x (through {b = c} up above) e = from_superclass a c k x up (from_above c b k x above e)

  -- a subclass has each component at the same place
  pub inherited_component : (a b k : ℕ) (x : Component) → is_sub g a b ≡ true → component_at g b k ≡ Some x → component_at g a k ≡ Some x
  inherited_component a b k x sub e = elim ((sub_above (superclasses_of g) a b).0 sub) [
    | inl same ↦ subst (λ n. component_at g n k ≡ Some x) (sym same) e
    | inr above ↦ from_above a b k x above e
  ]

  above_within : (a b : ℕ) → IsAbove (superclasses_of g) a b → b < length g
  above_within a b (directly up) = subst (λ n. b < n) (length-superclasses_of g) (allowed.within.within a b up)
  above_within a b (through {b = c} up above) = above_within c b above

  -- what a class of the grammar is below is a class of it
  pub sub_within : (a b : ℕ) → a < length g → is_sub g a b ≡ true → b < length g
  sub_within a b within sub = elim ((sub_above (superclasses_of g) a b).0 sub) [
    | inl same ↦ subst (λ n. n < length g) same within
    | inr above ↦ above_within a b above
  ]

  -- the nearest common class is the first one, or a class of the grammar
  pub common_within : (a b c : ℕ) → nearest_common (superclasses_of g) a b ≡ Some c → (a ≡ c) ⊎ (c < length g)
  common_within a b c e = elim ((sub_above (superclasses_of g) a c).0 (common_sub (superclasses_of g) a b c e).0) [
    | inl same ↦ inl same
    | inr above ↦ inr (above_within a c above)
  ]

  -- the class of a child is a class of the grammar
  pub child_within : (a k : ℕ) (x : Component) → component_at g a k ≡ Some x → x.shape ≡ shapes.Child → x.class.0 < length g
  child_within a k x e child = shaped_child (length g) x (component_allowed a k x allowed e).shaped child

  -- and so is that of the children of a list, and of an optional child
  pub list_within : (a k : ℕ) (x : Component) → component_at g a k ≡ Some x → x.shape ≡ shapes.List → x.class.0 < length g
  list_within a k x e list = shaped_list (length g) x (component_allowed a k x allowed e).shaped list

  pub optional_within : (a k : ℕ) (x : Component) → component_at g a k ≡ Some x → x.shape ≡ shapes.Optional → x.class.0 < length g
  optional_within a k x e optional = shaped_optional (length g) x (component_allowed a k x allowed e).shaped optional
