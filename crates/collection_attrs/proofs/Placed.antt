-- A collection goes on in a walk from note to note of its own.
use Rattle.std.proofs.Common.{◌≡◌, ◌≢◌, ℕ, zero, suc, ◌+◌, ◌-◌, ◌<◌, ◌≤◌, List, [], ◌∷◌, ◌++◌, Some, length, slice_get, take, drop, refl, ap, arith}
use Rattle.solutions.specs.Asking.{Ends, Halts}
use Rattle.attr_rules.specs.Rules.{Contribution}
use Rattle.equation_law.specs.Codes.{IsNamingOf, Naming, reference_by}
use Rattle.equation_law.specs.Collections.{Collection, Offer, collection_demands, combine}
use Rattle.equation_law.specs.Equations.{world_of}
use Rattle.equation_law.specs.Names.{At, Instance}
use Rattle.equation_law.specs.Program.{Program}
use Rattle.equation_law.specs.Values.{Value}
use Rattle.collection_attrs.specs.Passed.{contributed}
use Rattle.collection_attrs.specs.Walks.{IsFirstFor, IsFor, IsSurvey, NoneFrom, Noted, Walk}
use Rattle.collection_attrs.proofs.Receivers.{receiver_other, receiver_own}
use Rattle.collection_attrs.proofs.Walked.{IsWalkBy, NoneOwn, survey_own, survey_past, survey_stuck}

-- the notes from a place on: those in front of another place, the one at it, and the others
rest_parts : (ns : List Noted) (from d place : ℕ) (n : Noted) → from + d ≡ place → slice_get ns place ≡ Some n → drop from ns ≡ take d (drop from ns) ++ n ∷ drop (suc place) ns
rest_parts [] from d place n l e = cc
rest_parts (x ∷ ns) zero zero zero n l e = let same : x ≡ n = cc in ap (λ (y : Noted). y ∷ ns) same
rest_parts (x ∷ ns) zero zero (suc place) n l e = absurd (omega (arith, l))
rest_parts (x ∷ ns) zero (suc d) zero n l e = absurd (omega (arith, l))
rest_parts (x ∷ ns) zero (suc d) (suc place) n l e = ap (λ (ys : List Noted). x ∷ ys) (rest_parts ns zero d place n (omega (arith, l)) e)
rest_parts (x ∷ ns) (suc from) d zero n l e = absurd (omega (arith, l))
rest_parts (x ∷ ns) (suc from) d (suc place) n l e = rest_parts ns from d place n (omega (arith, l)) e

-- how many stand in front of it
between_length : (ns : List Noted) (from d place : ℕ) (n : Noted) → from + d ≡ place → slice_get ns place ≡ Some n → length (take d (drop from ns)) ≡ d
between_length [] from d place n l e = cc
between_length (x ∷ ns) zero zero place n l e = refl
between_length (x ∷ ns) zero (suc d) zero n l e = absurd (omega (arith, l))
between_length (x ∷ ns) zero (suc d) (suc place) n l e = ap suc (between_length ns zero d place n (omega (arith, l)) e)
between_length (x ∷ ns) (suc from) d zero n l e = absurd (omega (arith, l))
between_length (x ∷ ns) (suc from) d (suc place) n l e = between_length ns from d place n (omega (arith, l)) e

module _ (p : Program) (A : Instance → Value → Type 0) (names : Naming) (named : IsNamingOf p names) (c : Collection) (r : ℕ) (own : reference_by names.node r ≡ At c.node) where
  -- none of those in front of a place is the collection's own
  none_between : (ns : List Noted) (from d place : ℕ) → from + d ≡ place → ((i : ℕ) (n : Noted) → from ≤ i → i < place → slice_get ns i ≡ Some n → n.receiver ≢ r) → NoneOwn p A names c (take d (drop from ns))
  none_between [] zero zero place a h = tt
  none_between [] zero (suc d) place a h = tt
  none_between [] (suc from) zero place a h = tt
  none_between [] (suc from) (suc d) place a h = tt
  none_between (x ∷ ns) zero zero place a h = tt
  none_between (x ∷ ns) zero (suc d) zero a h = absurd (omega (arith, a))
  none_between (x ∷ ns) zero (suc d) (suc place) a h = (receiver_other named r (At c.node) own x.receiver (h 0 x (omega arith) (omega arith) refl), none_between ns zero d place (omega (arith, a)) (λ i n l u e. h (suc i) n (omega arith) (omega (arith, u)) e))
  none_between (x ∷ ns) (suc from) d zero a h = absurd (omega (arith, a))
  none_between (x ∷ ns) (suc from) d (suc place) a h = none_between ns from d place (omega (arith, a)) (λ i n l u e. h (suc i) n (omega (arith, l)) (omega (arith, u)) e)

  -- and where no other is, none of those that are left
  none_left : (ns : List Noted) (from : ℕ) → NoneFrom ns r from → NoneOwn p A names c (drop from ns)
  none_left [] zero h = tt
  none_left [] (suc from) h = tt
  none_left (x ∷ ns) zero h = (receiver_other named r (At c.node) own x.receiver (h 0 x (omega arith) refl), none_left ns zero (λ i n l e. h (suc i) n (omega arith) e))
  none_left (x ∷ ns) (suc from) h = none_left ns from (λ i n l e. h (suc i) n (omega (arith, l)) e)

  module _ (w : Walk) (h : IsWalkBy p A names w) (taken : ℕ) (s : Value) (v : IsSurvey p A names w c taken s) where
    -- without a note of its own it has gone over all
    pub survey_over : NoneFrom w.notes r taken → IsSurvey p A names w c (length w.notes) s
    survey_over none = survey_past p A names c w h taken s v (none_left w.notes taken none)

    module _ (place : ℕ) (f : IsFirstFor w.notes r taken place) (b : Contribution) (known : slice_get p.rules.contributions f.note.contribution ≡ Some b) where
      abbrev between : List Noted
      between = take (place - taken) (drop taken w.notes)

      reached : taken + (place - taken) ≡ place
      reached = let after = f.after in omega (arith, after)

      abbrev others : List Noted
      others = drop (suc place) w.notes

      at_place : taken + length between ≡ place
      at_place = omega (arith, reached, between_length w.notes taken (place - taken) place f.note reached f.is)

      abbrev pub own_offer : Offer
      own_offer = record { contribution = b; node = f.note.node }

      -- its next note is added, where that has a value
      pub survey_takes : (u : Value) {us : List Instance} → Ends A (contributed p own_offer) u us → IsSurvey p A names w c (place + 1) (combine c.method c.kind s u)
      survey_takes u e = survey_own p A names c w h taken s v between others f.note place (rest_parts w.notes taken (place - taken) place f.note reached f.is) at_place (none_between w.notes taken (place - taken) place reached f.between) (receiver_own named r (At c.node) own f.note.receiver f.has) b known u e

      -- and where it has none, the collection is stuck at the same demand
      pub survey_stops : IsFor p w c → (j : Instance) {us : List Instance} → Halts A (contributed p own_offer) j us → (ds : List Instance) × Halts A (collection_demands (world_of p) c) j ds
      survey_stops is j e = survey_stuck p A names c w h taken s v between others f.note place (rest_parts w.notes taken (place - taken) place f.note reached f.is) at_place (none_between w.notes taken (place - taken) place reached f.between) (receiver_own named r (At c.node) own f.note.receiver f.has) b known is j e
