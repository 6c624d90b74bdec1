-- Loops that gather what some items give.
use Rattle.std.proofs.Common.{◌≡◌, ℕ, ◌+◌, ◌<◌, ◌≤◌, List, [], ◌∷◌, ◌++◌, length, get_or, take, map, Option, Some, None, ap, sym, ◌∙◌, arith}
use Rattle.std.proofs.lemmas.List.{append-nil, length-map, map-append, take_all}
use Rattle.std.proofs.lemmas.List.Elements.{filter_map-append}
use Rattle.attr_scope.proofs.Seen.{taken}
use Rattle.std.specs.List.{cons_option, filter_map}
use Rattle.std.specs.Option.{option_map}

-- the list has what h gives of the items before i
pub record Gathers {X Y Z W : Type 0} (see : X → Y) (h : W → Option Y) (seen : Z → W) (zs : List Z) (i : ℕ) (list : List X) : Type 0 where
  pub is : map see list ≡ filter_map h (take i (map seen zs))

module _ {X Y Z W : Type 0} (see : X → Y) (h : W → Option Y) (seen : Z → W) (zs : List Z) where
  one_more : (i : ℕ) {z : Z} → z ≡ get_or zs i z → i < length zs → filter_map h (take (i + 1) (map seen zs)) ≡ filter_map h (take i (map seen zs)) ++ filter_map h (seen z ∷ [])
  one_more i {z} is lt = ap (filter_map h) (taken seen zs i is lt) ∙ filter_map-append h (take i (map seen zs)) (seen z ∷ [])

  -- an item that gives something
  pub gathers_some : (i : ℕ) {z : Z} {o : Option X} {x : X} {list more : List X} → z ≡ get_or zs i z → i < length zs → option_map see o ≡ h (seen z) → o ≡ Some x → more ≡ list ++ x ∷ [] → Gathers see h seen zs i list → Gathers see h seen zs (i + 1) more
  gathers_some i {z} {o} {x} {list} {more} is lt given there e g = record {
    is = ap (map see) e ∙ map-append see list (x ∷ []) ∙ ap (λ ys. ys ++ see x ∷ []) g.is ∙ sym (one_more i is lt ∙ ap (λ o. filter_map h (take i (map seen zs)) ++ cons_option o []) (sym given ∙ ap (option_map see) there));
  }

  -- one that gives nothing
  pub gathers_none : (i : ℕ) {z : Z} {o : Option X} {list : List X} → z ≡ get_or zs i z → i < length zs → option_map see o ≡ h (seen z) → o ≡ None → Gathers see h seen zs i list → Gathers see h seen zs (i + 1) list
  gathers_none i {z} {o} {list} is lt given there g = record {
    is = g.is ∙ sym (one_more i is lt ∙ ap (λ o. filter_map h (take i (map seen zs)) ++ cons_option o []) (sym given ∙ ap (option_map see) there) ∙ append-nil (filter_map h (take i (map seen zs))));
  }

  pub gathers_start : {list : List X} → list ≡ [] → Gathers see h seen zs 0 list
  gathers_start {list} e = record { is = ap (map see) e }

  pub gathers_all : {i : ℕ} {list : List X} → Gathers see h seen zs i list → length zs ≤ i → map see list ≡ filter_map h (map seen zs)
  gathers_all {i} {list} g le = g.is ∙ ap (filter_map h) (take_all i (map seen zs) (omega (arith, length-map zs seen)))

-- the list has what f makes of each item before i
pub record Makes {X Y Z W : Type 0} (see : X → Y) (f : W → Y) (seen : Z → W) (zs : List Z) (i : ℕ) (list : List X) : Type 0 where
  pub is : map see list ≡ map f (take i (map seen zs))

module _ {X Y Z W : Type 0} (see : X → Y) (f : W → Y) (seen : Z → W) (zs : List Z) where
  pub makes_start : {list : List X} → list ≡ [] → Makes see f seen zs 0 list
  makes_start {list} e = record { is = ap (map see) e }

  pub makes_more : (i : ℕ) {z : Z} {x : X} {list more : List X} → z ≡ get_or zs i z → i < length zs → see x ≡ f (seen z) → more ≡ list ++ x ∷ [] → Makes see f seen zs i list → Makes see f seen zs (i + 1) more
  makes_more i {z} {x} {list} {more} is lt made e g = record {
    is = ap (map see) e ∙ map-append see list (x ∷ []) ∙ (λ j. g.is j ++ made j ∷ []) ∙ sym (ap (map f) (taken seen zs i is lt) ∙ map-append f (take i (map seen zs)) (seen z ∷ []));
  }

  pub makes_all : {i : ℕ} {list : List X} → Makes see f seen zs i list → length zs ≤ i → map see list ≡ map f (map seen zs)
  makes_all {i} {list} g le = g.is ∙ ap (map f) (take_all i (map seen zs) (omega (arith, length-map zs seen)))
