-- What a reader's values say of offers that a walk has passed, and how far a collection has gone over them.
use Rattle.std.specs.Prelude.{◌≡◌, ℕ, ◌-◌, true, false, List, [], ◌∷◌, ◌++◌, Option, Some, None, map, take}
use Rattle.std.specs.List.{filter, flat_map, range_with_len}
use Rattle.solutions.specs.Asking.{Demands, Ends}
use Rattle.equation_law.specs.Collections.{Collection, Offer, combine, offer_place}
use Rattle.equation_law.specs.Equations.{is_offered, offers_at, world_of}
use Rattle.equation_law.specs.Meaning.{meaning_of}
use Rattle.equation_law.specs.Names.{At, Instance, Reference, same_reference}
use Rattle.equation_law.specs.Program.{Program}
use Rattle.equation_law.specs.Values.{Value, node, truth}

-- an offer was passed: its condition is false, or it is true, and this is the receiver
pub data IsPassed (p : Program) (A : Instance → Value → Type 0) (o : Offer) : Option Reference → Type 0 where
  unmet : {b : Value} {demands : List Instance} → Ends A (meaning_of (world_of p) o.contribution.condition (offer_place o)) b demands → truth b ≡ false → IsPassed p A o None
  met : {b r : Value} {demands more : List Instance} → Ends A (meaning_of (world_of p) o.contribution.condition (offer_place o)) b demands → truth b ≡ true
      → Ends A (meaning_of (world_of p) o.contribution.receiver (offer_place o)) r more → IsPassed p A o (Some (node r))

-- offers were passed, each with its receiver where the condition is true
abbrev pub ArePassed : Program → (Instance → Value → Type 0) → List Offer → List (Option Reference) → Type 0
ArePassed p A [] [] = Unit {0}
ArePassed p A [] (r ∷ rs) = ⊥
ArePassed p A (o ∷ os) [] = ⊥
ArePassed p A (o ∷ os) (r ∷ rs) = IsPassed p A o r × ArePassed p A os rs

-- an offer whose condition is true, with its receiver
pub record Kept : Type 0 where
  pub offer : Offer
  pub receiver : Reference

abbrev pub kept_of : Offer → Option Reference → List Kept → List Kept
kept_of o None rest = rest
kept_of o (Some r) rest = record { offer = o; receiver = r } ∷ rest

-- of offers that were passed, those whose condition is true
abbrev pub kept : List Offer → List (Option Reference) → List Kept
kept [] rs = []
kept (o ∷ os) [] = []
kept (o ∷ os) (r ∷ rs) = kept_of o r (kept os rs)

-- what an offer contributes
abbrev pub contributed : Program → Offer → Demands Instance Value
contributed p o = meaning_of (world_of p) o.contribution.value (offer_place o)

-- From one value a collection comes to another over offers whose conditions are true: those that are for its node are added, each with its value.
pub data Comes (p : Program) (A : Instance → Value → Type 0) (c : Collection) : Value → List Kept → Value → Type 0 where
  over : {s : Value} → Comes p A c s [] s
  other : {s v : Value} {k : Kept} {ks : List Kept} → same_reference k.receiver (At c.node) ≡ false → Comes p A c s ks v → Comes p A c s (k ∷ ks) v
  own : {s v w : Value} {k : Kept} {ks : List Kept} {demands : List Instance} → same_reference k.receiver (At c.node) ≡ true → Ends A (contributed p k.offer) w demands → Comes p A c (combine c.method c.kind s w) ks v → Comes p A c s (k ∷ ks) v

-- what is offered to an attribute in the subtree of a root in front of a contribution at a node: at the nodes before it, and at it by the contributions
-- before
abbrev pub offers_before : Program → ℕ → ℕ → ℕ → ℕ → List Offer
offers_before p a root node k = flat_map (offers_at p a) (range_with_len root (node - root)) ++ map (λ c. record { contribution = c; node = node }) (filter (is_offered p a node) (take k p.rules.contributions))

-- none of the offers that were passed is for the node
abbrev pub NoneFor : Reference → List (Option Reference) → Type 0
NoneFor n [] = Unit {0}
NoneFor n (None ∷ rs) = NoneFor n rs
NoneFor n (Some r ∷ rs) = (same_reference r n ≡ false) × NoneFor n rs
