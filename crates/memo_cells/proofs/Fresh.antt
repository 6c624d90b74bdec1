-- Words of which none is set.
use Rattle.std.proofs.Common.{◌≡◌, ℕ, zero, suc, [], ◌++◌, replicate, get_or, refl, ap, ◌∙◌, subst, arith}
use Rattle.memo_cells.specs.declared.view.Frame.{Frame}
use Rattle.std.specs.Int.{bit_at}
use Rattle.std.proofs.lemmas.Nat.Bits.{bit_at-zero}
use Rattle.solutions.specs.Leading.{bottoms}
use Rattle.equation_law.specs.Checked.{HasSourcesAlone}
use Rattle.equation_law.specs.Equations.{equations_of}
use Rattle.equation_law.specs.Systems.{program_of}
use Rattle.equation_law.proofs.Orders.{at_most_itself}
use Rattle.equation_law.proofs.Solution.{are_rising}
use Rattle.made_trees.specs.Makers.{AreTrees}
use Rattle.memo_cells.specs.declared.view.View.{View}
use Rattle.memo_cells.specs.Standing.{AreWords, IsTold, trees_of}
use Rattle.memo_cells.specs.Views.{Has, bits_from, first_view, having_seen, keys_from, knows_all, places_from, values_from, word_at}
use Rattle.memo_cells.specs.Words.{AreOrdered}
use Rattle.memo_cells.proofs.Bits.{more_bits, no_bits, no_bits_below}
use Rattle.memo_cells.proofs.Places.{no_key, no_value, open_value, zero_key, zero_place}

all_zero : (n p : ℕ) → ◌≡◌ {A = ℕ} (get_or (replicate n 0) p 0) 0
all_zero zero p = refl
all_zero (suc n) zero = refl
all_zero (suc n) (suc p) = all_zero n p

fresh_keys : (n p : ℕ) → keys_from p (replicate n 0) ≡ []
fresh_keys zero p = no_key p
fresh_keys (suc n) p = zero_key p 0 (replicate n 0) refl ∙ fresh_keys n (suc p)

none_placed : (p : ℕ) → places_from p [] ≡ []
unfolding places_from
none_placed p = refl

fresh_places : (n p : ℕ) → places_from p (replicate n 0) ≡ []
fresh_places zero p = none_placed p
fresh_places (suc n) p = zero_place p 0 (replicate n 0) refl ∙ fresh_places n (suc p)

fresh_values : (n p : ℕ) → values_from p (replicate n 0) (replicate n 0) ≡ []
fresh_values zero p = (no_value p 0 [] []).0
fresh_values (suc n) p = open_value p 0 0 (replicate n 0) (replicate n 0) (omega arith) ∙ fresh_values n (suc p)

fresh_bits : (n p : ℕ) → bits_from p (replicate n 0) (replicate n 0) ≡ []
fresh_bits zero p = (no_bits p 0 [] []).0
fresh_bits (suc n) p = more_bits p 0 0 (replicate n 0) (replicate n 0) ∙ ap (λ l. l ++ bits_from (suc p) (replicate n 0) (replicate n 0)) (no_bits_below p 0 1) ∙ fresh_bits n (suc p)

pub fresh_view : (f : Frame) (n : ℕ) → knows_all f [] [] (replicate n 0) (replicate n 0) ≡ first_view f
fresh_view f n = λ i. having_seen f (fresh_keys n 0 i) (fresh_values n 0 i) (fresh_bits n 0 i) (fresh_places n 0 i)

pub fresh_ordered : (formed : ℕ → Type 0) (settled : ℕ → ℕ → Type 0) (raised : ℕ → Type 0) (element : ℕ → ℕ → Type 0) (n m : ℕ) → AreOrdered formed settled raised element n (word_at (replicate m 0)) (word_at (replicate m 0))
fresh_ordered formed settled raised element n m = record {
  formed_keys = λ p l nz. absurd (nz (all_zero m p));
  once = λ p q l k nz e. absurd (nz (all_zero m p));
  reached = λ p q l nz b. absurd (nz (all_zero m p));
  keyed = λ p l nz. absurd (nz (all_zero m p));
  coded = λ p l plain nz. absurd (nz (all_zero m p));
  elements = λ p b l set low one. let none : bit_at (word_at (replicate m 0) p) b ≡ 0 = ap (λ (y : ℕ). bit_at y b) (all_zero m p) ∙ bit_at-zero b in absurd (omega (arith, none, one));
}

-- no word is set: each circular instance stands at its bottom
pub fresh_words : (f : Frame) → HasSourcesAlone (program_of f.system.value) → AreTrees (trees_of f []) → (m : ℕ) → AreWords f [] [] (replicate m 0) (replicate m 0)
fresh_words f bare trees m = record {
  bare = bare;
  nothing = refl;
  trees = trees;
  values = (equations_of (program_of f.system.value)).bottom;
  lower = record { top = (equations_of (program_of f.system.value)).bottom; reached = bottoms; fits = λ j c. (are_rising (program_of f.system.value)).start j c; below = λ j c. at_most_itself ((equations_of (program_of f.system.value)).bottom j) };
  ordered = fresh_ordered _ _ _ _ f.cells m;
}

-- a pass that knows nothing knows nothing else than these words
pub first_told : (f : Frame) (n : ℕ) → IsTold f [] (replicate n 0) (replicate n 0) (first_view f)
first_told f n = record {
  table = refl;
  frame = refl;
  share = refl;
  keys = λ p k h. absurd h;
  values = λ p k c h. absurd h;
  bits = λ p k m h. absurd h;
  valued = λ p k c h. absurd h;
  keyed = λ p k m h. absurd h;
  claims = λ p. omega arith;
  own = λ p k h. absurd (subst (λ (y : View). Has y.keys (p, k)) (fresh_view f n) h);
  to_seal = refl;
  made = refl;
}
