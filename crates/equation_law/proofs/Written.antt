-- Integers, truth values and texts are written in their order.
use Rattle.std.proofs.Common.{◌≡◌, ◌<◌, ℕ, zero, suc, ℤ, pos, negsuc, Bool, true, false, List, [], ◌∷◌, ◌∙◌, inl, inr, refl, sym, ap, arith}
use Rattle.std.proofs.Math.Facts.{yes_ltb}
use Rattle.std.proofs.lemmas.Bool.{cases_order}
use Rattle.std.specs.declared.cmp.Ordering.{Ordering}
use Rattle.std.specs.declared.cmp.Ordering.TheVariants.{Less, Equal, Greater}
use Rattle.std.specs.Cmp.{int_cmp_is, nat_cmp_is}
use Rattle.std.specs.Ordering.{bool_cmp, int_cmp, nat_cmp, ordering_then}
use Rattle.std.specs.Cmp.Lexicographic.{slice_cmp}
use Rattle.equation_law.specs.Names.{below_code, int_code, text_cmp, text_code, truth_code}

less : (n m : ℕ) → n < m → nat_cmp n m ≡ Less
less n m h = sym (nat_cmp_is n m Less h)

greater : (n m : ℕ) → m < n → nat_cmp n m ≡ Greater
greater n m h = sym (nat_cmp_is n m Greater h)

equal : (n m : ℕ) → n ≡ m → nat_cmp n m ≡ Equal
equal n m h = sym (nat_cmp_is n m Equal h)

-- numbers one above are ordered as those below them
above : (n m : ℕ) → nat_cmp (suc n) (suc m) ≡ nat_cmp n m
above n m = elim (cases_order n m) [
  | inl is ↦ equal (suc n) (suc m) (ap suc is) ∙ sym (equal n m is)
  | inr (inl low) ↦ less (suc n) (suc m) (omega (arith, low)) ∙ sym (less n m low)
  | inr (inr high) ↦ greater (suc n) (suc m) (omega (arith, high)) ∙ sym (greater n m high)
]

abbrev then_list : List ℕ → List ℕ → Ordering → Ordering
then_list u v o = ordering_then o (slice_cmp nat_cmp u v)

belows : (n m : ℕ) (u v : List ℕ) → slice_cmp nat_cmp (below_code n u) (below_code m v) ≡ ordering_then (nat_cmp m n) (slice_cmp nat_cmp u v)
belows zero zero u v = refl
belows zero (suc m) u v = ap (then_list u v) (sym (greater (suc m) 0 (omega arith)))
belows (suc n) zero u v = ap (then_list u v) (sym (less 0 (suc n) (omega arith)))
belows (suc n) (suc m) u v = belows n m u v ∙ ap (then_list u v) (sym (above m n))

-- negative integers are ordered the other way round
negatives : (n m : ℕ) → int_cmp (negsuc n) (negsuc m) ≡ nat_cmp m n
negatives n m = elim (cases_order m n) [
  | inl is ↦ sym (int_cmp_is (negsuc n) (negsuc m) Equal (ap negsuc (sym is))) ∙ sym (equal m n is)
  | inr (inl low) ↦ sym (int_cmp_is (negsuc n) (negsuc m) Less (record { lt = yes_ltb low })) ∙ sym (less m n low)
  | inr (inr high) ↦ sym (int_cmp_is (negsuc n) (negsuc m) Greater (record { lt = yes_ltb high })) ∙ sym (greater m n high)
]

positives : (n m : ℕ) → int_cmp (pos n) (pos m) ≡ nat_cmp n m
positives n m = elim (cases_order n m) [
  | inl is ↦ sym (int_cmp_is (pos n) (pos m) Equal (ap pos is)) ∙ sym (equal n m is)
  | inr (inl low) ↦ sym (int_cmp_is (pos n) (pos m) Less (record { lt = yes_ltb low })) ∙ sym (less n m low)
  | inr (inr high) ↦ sym (int_cmp_is (pos n) (pos m) Greater (record { lt = yes_ltb high })) ∙ sym (greater n m high)
]

pub ints : (y z : ℤ) (u v : List ℕ) → slice_cmp nat_cmp (int_code y u) (int_code z v) ≡ ordering_then (int_cmp y z) (slice_cmp nat_cmp u v)
ints (negsuc n) (negsuc m) u v = belows n m u v ∙ ap (then_list u v) (sym (negatives n m))
ints (negsuc n) (pos m) u v = refl
ints (pos n) (negsuc m) u v = refl
ints (pos n) (pos m) u v = ap (then_list u v) (sym (positives n m))

pub truths : (a b : Bool) (u v : List ℕ) → slice_cmp nat_cmp (truth_code a u) (truth_code b v) ≡ ordering_then (bool_cmp a b) (slice_cmp nat_cmp u v)
truths false false u v = refl
truths false true u v = refl
truths true false u v = refl
truths true true u v = refl

-- one order behind two others
pub both_then : (o p q : Ordering) → ordering_then (ordering_then o p) q ≡ ordering_then o (ordering_then p q)
both_then Less p q = refl
both_then Equal p q = refl
both_then Greater p q = refl

pub texts : (s t u v : List ℕ) → slice_cmp nat_cmp (text_code s u) (text_code t v) ≡ ordering_then (text_cmp s t) (slice_cmp nat_cmp u v)
texts [] [] u v = refl
texts [] (c ∷ t) u v = ap (then_list u (text_code t v)) (less 0 (suc c) (omega arith))
texts (b ∷ s) [] u v = ap (then_list (text_code s u) v) (greater (suc b) 0 (omega arith))
texts (b ∷ s) (c ∷ t) u v =
    ap (then_list (text_code s u) (text_code t v)) (above b c)
    ∙ ap (ordering_then (nat_cmp b c)) (texts s t u v)
    ∙ sym (both_then (nat_cmp b c) (text_cmp s t) (slice_cmp nat_cmp u v))
