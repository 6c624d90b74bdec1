-- The texts of a program: each number stands for one of them, that of none for the empty one, and no two are equal.
use Rattle.std.proofs.Common.{◌≡◌, ℕ, ◌<◌, eqb, List, [], Contains, get_or, length, sym, subst, inl, inr}
use Rattle.std.proofs.Math.ListN.{get_or-eq_default}
use Rattle.std.specs.Str.{bytes_eq}
use Rattle.std.proofs.lemmas.Bool.{cases_lt, eqb-true, eq-eqb}
use Rattle.std.proofs.lemmas.List.Elements.{Contains-get_or}
use Rattle.std.proofs.lemmas.Option.{get_or_from_slice_get, slice_get-get_or, slice_get_within}
use Rattle.std.proofs.lemmas.Slice.Eq.{bytes_eq-Decides}
use Rattle.rag_io.specs.Pool.{ArePooled}
use Rattle.rag_io.proofs.Numbers.{same_number}
use Rattle.equation_law.specs.declared.system.System.{System}
use Rattle.equation_law.specs.Program.{text_of}
use Rattle.equation_law.specs.Systems.{program_of}
use Rattle.equation_law.proofs.Keys.{both_ways}

-- the first text is the empty one
pub first_empty : (texts : List (List ℕ)) → ArePooled texts → get_or texts 0 [] ≡ []
first_empty texts h = get_or_from_slice_get texts 0 [] [] h.empty_first

-- so the empty one is one of them
pub empty_there : (texts : List (List ℕ)) → ArePooled texts → Contains texts []
empty_there texts h = subst (λ (t : List ℕ). Contains texts t) (first_empty texts h) (Contains-get_or texts 0 [] (slice_get_within texts 0 [] h.empty_first))

-- and so is the text of each number
pub text_there : (texts : List (List ℕ)) → ArePooled texts → (n : ℕ) → Contains texts (get_or texts n [])
text_there texts h n = elim (cases_lt n (length texts)) [
  | inl w ↦ Contains-get_or texts n [] w
  | inr w ↦ subst (λ (t : List ℕ). Contains texts t) (sym (get_or-eq_default texts [] w)) (empty_there texts h)
]

-- the texts of a program that is kept
pub texts_pooled : (s : System) → ArePooled (program_of s).texts
unfolding program_of
texts_pooled s = s.pooled

pub first_text : (s : System) → text_of (program_of s) 0 ≡ []
unfolding program_of
first_text s = first_empty s.pool s.pooled

-- two numbers of texts are equal where the texts are
pub same_numbers : (texts : List (List ℕ)) → ArePooled texts → (m n : ℕ) → m < length texts → n < length texts → eqb m n ≡ bytes_eq (get_or texts m []) (get_or texts n [])
same_numbers texts h m n v w =
    let same = same_number texts m n (get_or texts m []) (get_or texts n []) h (slice_get-get_or texts m [] v) (slice_get-get_or texts n [] w) in
    let text = bytes_eq-Decides (get_or texts m []) (get_or texts n []) in
    both_ways (eqb m n) (bytes_eq (get_or texts m []) (get_or texts n [])) (λ e. text.1 (same.1 (eqb-true m n e))) (λ e. eq-eqb m n (same.0 (text.0 e)))
