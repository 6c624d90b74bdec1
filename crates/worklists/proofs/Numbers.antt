-- Numbers in sets: one put there, and one taken away.
use Rattle.std.proofs.Common.{◌≡◌, ◌≢◌, ◌<◌, ◌∙◌, ℕ, zero, suc, Bool, true, false, cond, List, [], ◌∷◌, length, nat_eq, slice_index_or, refl, sym, ap, arith}
use Rattle.std.proofs.lemmas.Bool.{eqb-true}
use Rattle.std.proofs.lemmas.Cmp.{nat_cmp_total, nat_eq_equiv}
use Rattle.std.proofs.lemmas.Map.Lookups.{exact_unsigned}
use Rattle.std.proofs.lemmas.Map.Views.{Contains-from_any, btree_set_contains_iff, list_any-from_Contains, tells_apart}
use Rattle.std.specs.Prelude.{Contains}
use Rattle.std.specs.BTreeMap.{is_at}
use Rattle.std.specs.BTreeSet.{BTreeSet, Updates as UpdatesOrdered, UpdatesBy as UpdatesOrderedBy, contains}
use Rattle.std.specs.HashSet.{UpdatesBy}
use Rattle.std.specs.List.{list_any}
use Rattle.std.specs.Ordering.{nat_cmp}
use Rattle.std.specs.declared.hash.FoldHasher.{FoldHasher}
use Rattle.std.specs.declared.hash.BuildHasherDefault.{BuildHasherDefault}
use Rattle.indexmap.specs.IndexSet.{IndexSet}
use Rattle.worklists.specs.Waiting.{IsWithin}

-- a set of numbers
abbrev pub Numbers : Type 0
Numbers = IndexSet ℕ (BuildHasherDefault FoldHasher)

found : (s : Numbers) (k : ℕ) → list_any (nat_eq k) s.keys ≡ true → Contains s.keys k
found s k e = Contains-from_any eqb-true k s.keys e

finds : (s : Numbers) (k : ℕ) → Contains s.keys k → list_any (nat_eq k) s.keys ≡ true
finds s k h = list_any-from_Contains nat_eq_equiv k s.keys h

either_way : (b : Bool) → cond b true true ≡ true
either_way true = refl
either_way false = refl

pub put_in : (s n : Numbers) (k : ℕ) → UpdatesBy nat_eq (nat_eq k) s n true → Contains n.keys k
put_in s n k u = found n k u.1

pub put_within : (s n : Numbers) (k : ℕ) → UpdatesBy nat_eq (nat_eq k) s n true → IsWithin s.keys n.keys
put_within s n k u = record { has = λ j h. found n j (u.0 j ∙ ap (cond (nat_eq k j) true) (finds s j h) ∙ either_way (nat_eq k j)) }

-- the same of a set in order
there : (s : BTreeSet ℕ) (k : ℕ) → contains nat_cmp s k ≡ true → Contains s.keys k
there s k e = (btree_set_contains_iff nat_cmp_total exact_unsigned s k).0 e

seen : (s : BTreeSet ℕ) (k : ℕ) → Contains s.keys k → contains nat_cmp s k ≡ true
seen s k h = (btree_set_contains_iff nat_cmp_total exact_unsigned s k).1 h

pub ordered_in : (s n : BTreeSet ℕ) (k : ℕ) → UpdatesOrdered nat_cmp s n k true → Contains n.keys k
ordered_in s n k u = there n k u.1

pub ordered_within : (s n : BTreeSet ℕ) (k : ℕ) → UpdatesOrdered nat_cmp s n k true → IsWithin s.keys n.keys
ordered_within s n k u = record { has = λ j h. there n j (u.0 j ∙ ap (cond (is_at (nat_cmp k) j) true) (seen s j h) ∙ either_way (is_at (nat_cmp k) j)) }

-- those that were there, but the one that was taken away
pub ordered_kept : (s n : BTreeSet ℕ) (k j : ℕ) → UpdatesOrderedBy nat_cmp (nat_cmp k) s n false → j ≢ k → Contains s.keys j → Contains n.keys j
ordered_kept s n k j u other h =
    elim (is_at (nat_cmp k) j) as (λ b. is_at (nat_cmp k) j ≡ b → Contains n.keys j) [
      | true ↦ λ e. absurd (other (sym (tells_apart exact_unsigned k j e)))
      | false ↦ λ e. there n j (u.2 j e ∙ seen s j h)
    ] refl

-- and the one that was taken away isn't there
pub ordered_gone : (s n : BTreeSet ℕ) (k : ℕ) → UpdatesOrderedBy nat_cmp (nat_cmp k) s n false → ¬ Contains n.keys k
ordered_gone s n k u h = let both : true ≡ false = sym (seen n k h) ∙ u.1 in cc

-- a number of a list is the same whatever stands for those behind its end
pub number_within : (ks : List ℕ) (i j k : ℕ) → i < length ks → slice_index_or ks i j ≡ slice_index_or ks i k
number_within [] i j k low = absurd (omega (arith, low))
number_within (n ∷ ks) zero j k low = refl
number_within (n ∷ ks) (suc i) j k low = number_within ks i j k (omega (arith, low))
