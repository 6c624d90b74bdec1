-- What names mean among variables.
use Rattle.std.proofs.Common.{◌≡◌, ℕ, zero, suc, ◌+◌, List, [], ◌∷◌, Bool, true, false, not, All, Option, Some, None, IsSome, is_none, length, nat_lt, position, slice_get, refl, ap, sym, ◌∙◌, arith, cond}
use Prim.Native.Nat.compare
use Rattle.std.specs.List.{prefix_len}
use Rattle.std.specs.Option.{option_and_then, option_map}
use Rattle.std.proofs.lemmas.Bool.{lt-ltb}
use Rattle.std.proofs.lemmas.Slice.Eq.{bytes_eq-Decides}
use Rattle.attr_rules.specs.declared.types.ValueType.{ValueType}
use Rattle.attr_scope.specs.Scope.{Scope, Variable, is_named, type_named, variable_named, variable_type}
use Rattle.typing_rules.specs.TypeRules.{Means, innermost, further}

abbrev index_below : ℕ → ℕ → Option ℕ
index_below n k = cond (nat_lt k n) (Some k) None

one_less : (b : Bool) (k : ℕ) → cond b (Some (suc k)) None ≡ option_map suc (cond b (Some k) None)
one_less true k = refl
one_less false k = refl

one_more : (k n : ℕ) → index_below (suc n) (1 + k) ≡ option_map suc (index_below n k)
one_more k n =
    let more : 1 + k ≡ suc k = omega arith in
    let same : nat_lt (suc k) (suc n) ≡ nat_lt k n = rw (compare.suc-suc (suc k) n) refl in
    ap (index_below (suc n)) more ∙ ap (λ b. cond b (Some (suc k)) None) same ∙ one_less (nat_lt k n) k

module _ {X : Type 0} (p : X → Bool) (x : X) (xs : List X) where
  pub position_here : p x ≡ true → position p (x ∷ xs) ≡ Some zero
  position_here h =
      let some : nat_lt zero (suc (length xs)) ≡ true = lt-ltb zero (suc (length xs)) (omega arith) in
      rw h (rw some refl)

  pub position_further : p x ≡ false → position p (x ∷ xs) ≡ option_map suc (position p xs)
  position_further h = rw h (one_more (prefix_len (λ y. not (p y)) xs) (length xs))

-- the type of a name's values among some variables
abbrev pub type_among : List Variable → List ℕ → Option ValueType
type_among vs name = option_and_then variable_type (option_and_then (slice_get vs) (position (is_named name) vs))

one_behind : {X : Type 0} (x : X) (xs : List X) (o : Option ℕ) → option_and_then (slice_get (x ∷ xs)) (option_map suc o) ≡ option_and_then (slice_get xs) o
one_behind x xs None = refl
one_behind x xs (Some k) = refl

module _ (v : Variable) (vs : List Variable) (name : List ℕ) where
  type_here : is_named name v ≡ true → type_among (v ∷ vs) name ≡ v.type
  type_here is = ap (λ o. option_and_then variable_type (option_and_then (slice_get (v ∷ vs)) o)) (position_here (is_named name) v vs is)

  type_further : is_named name v ≡ false → type_among (v ∷ vs) name ≡ type_among vs name
  type_further is =
      ap (λ o. option_and_then variable_type (option_and_then (slice_get (v ∷ vs)) o)) (position_further (is_named name) v vs is)
      ∙ ap (option_and_then variable_type) (one_behind v vs (position (is_named name) vs))

  other_name : (b : Bool) → is_named name v ≡ b → (v.name ≡ name → ⊥) → is_named name v ≡ false
  other_name true is other = absurd (other ((bytes_eq-Decides v.name name).0 is))
  other_name false is other = is

-- a name of a type has that type
pub means_type : {vs : List Variable} {name : List ℕ} {t : ValueType} → Means vs name t → type_among vs name ≡ Some t
means_type {name = name} (innermost {vs = ws} v t named is) = type_here v ws name ((bytes_eq-Decides v.name name).1 named) ∙ is
means_type {name = name} (further {vs = ws} v other h) = type_further v ws name (other_name v ws name (is_named name v) refl other) ∙ means_type h

there_if : {X Y : Type 0} (f : X → Option Y) (o : Option X) (y : Y) → option_and_then f o ≡ Some y → is_none o ≡ false
there_if f None y e = absurd (cc)
there_if f (Some x) y e = refl

-- a name that has a type is one of the variables
pub means_named : (s : Scope) (name : List ℕ) (t : ValueType) → type_named s name ≡ Some t → is_none (variable_named s name) ≡ false
means_named s name t e = elim (variable_named s name) as (λ o. option_and_then variable_type (option_and_then (slice_get s.variables) o) ≡ Some t → is_none o ≡ false) [
  | None ↦ λ e. absurd (cc)
  | Some k ↦ λ e. refl
] e

-- the type of a name among some variables, of which each has one
pub record Meant (vs : List Variable) (name : List ℕ) : Type 0 where
  pub type : ValueType
  pub means : Means vs name type
  pub is : type_among vs name ≡ Some type

type_there : (o : Option ValueType) → IsSome o → (t : ValueType) × (o ≡ Some t)
type_there None e = absurd (cc)
type_there (Some t) e = (t, refl)

none_behind : (o : Option ℕ) → is_none (option_map suc o) ≡ is_none o
none_behind None = refl
none_behind (Some k) = refl

pub meant : (vs : List Variable) (name : List ℕ) → All (λ (v : Variable). IsSome v.type) vs → is_none (position (is_named name) vs) ≡ false → Meant vs name
meant [] name all some = absurd (cc)
meant (v ∷ vs) name all some = elim (is_named name v) as (λ b. is_named name v ≡ b → Meant (v ∷ vs) name) [
  | true ↦ λ is.
      let found = type_there v.type (all 0 v (omega arith)) in
      record { type = found.0; means = innermost v found.0 ((bytes_eq-Decides v.name name).0 is) found.1; is = type_here v vs name is ∙ found.1 }
  | false ↦ λ is.
      let other : v.name ≡ name → ⊥ = λ same. let never : true ≡ false = sym ((bytes_eq-Decides v.name name).1 same) ∙ is in absurd (cc) in
      let rest : is_none (position (is_named name) vs) ≡ false = sym (none_behind (position (is_named name) vs)) ∙ ap is_none (sym (position_further (is_named name) v vs is)) ∙ some in
      let found = meant vs name (λ k d lt. all (suc k) d (omega arith)) rest in
      record { type = found.type; means = further v other found.means; is = type_further v vs name is ∙ found.is }
] refl
