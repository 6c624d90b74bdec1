-- What holds in a grammar that breaks no rule.
use Rattle.std.proofs.Common.{◌≡◌, ℕ, zero, suc, ◌≤◌, List, [], ◌∷◌, Some, All, length, slice_get, subst, arith}
use Rattle.std.proofs.lemmas.List.Elements.{All-head, All-tail, All-nil}
use Rattle.ast_grammar.specs.Grammar.{Class, Component, IsComponent, IsClass, IsGrammar, components_of, component_at, most_components}

-- what holds of each of some elements holds of that at a place
pub all_at : {X : Type 0} (P : X → Type 0) (xs : List X) (k : ℕ) (x : X) → All P xs → slice_get xs k ≡ Some x → P x
all_at P [] k x all e = absurd (cc)
all_at P (y ∷ xs) zero x all e = let same : y ≡ x = cc in subst P same (All-head P y xs all)
all_at P (y ∷ xs) (suc k) x all e = all_at P xs k x (All-tail P y xs all) e

module _ {g : List Class} (allowed : IsGrammar g) where
  -- each class breaks no rule
  pub class_allowed : (n : ℕ) (c : Class) → slice_get g n ≡ Some c → IsClass (length g) c
  class_allowed n c e = all_at (IsClass (length g)) g n c allowed.classes e

components_among : (n : ℕ) (g : List Class) (k : ℕ) → All (IsClass n) g → All (IsComponent n) (components_of g k)
components_among n [] k all = All-nil (IsComponent n)
components_among n (c ∷ g) zero all = (All-head (IsClass n) c g all).components
components_among n (c ∷ g) (suc k) all = components_among n g k (All-tail (IsClass n) c g all)

-- a class of some has at most so many components
short_among : (n : ℕ) (g : List Class) (k : ℕ) → All (IsClass n) g → length (components_of g k) ≤ most_components
short_among n [] k all = omega arith
short_among n (c ∷ g) zero all = (All-head (IsClass n) c g all).short
short_among n (c ∷ g) (suc k) all = short_among n g k (All-tail (IsClass n) c g all)

-- each component of a class breaks no rule
pub components_allowed : {g : List Class} (n : ℕ) → IsGrammar g → All (IsComponent (length g)) (components_of g n)
components_allowed {g} n allowed = components_among (length g) g n allowed.classes

pub component_allowed : {g : List Class} (n k : ℕ) (p : Component) → IsGrammar g → component_at g n k ≡ Some p → IsComponent (length g) p
component_allowed {g} n k p allowed e = all_at (IsComponent (length g)) (components_of g n) k p (components_allowed n allowed) e

-- a class of a grammar has at most so many components
pub components_short : {g : List Class} (k : ℕ) → IsGrammar g → length (components_of g k) ≤ most_components
components_short {g} k allowed = short_among (length g) g k allowed.classes
