-- Sets of texts, by the numbers of the texts.
use Rattle.std.proofs.Common.{◌≡◌, ℕ, ◌<◌, List, [], ap, length, subst, sym, ◌∙◌}
use Rattle.std.specs.Cmp.{unsigned_tied}
use Rattle.std.specs.Cmp.Lexicographic.{nat_list_cmp_total}
use Rattle.std.specs.List.{All}
use Rattle.std.specs.List.Sorted.{IsPermutation, IsSortedByKey}
use Rattle.std.specs.Ordering.{eq_by_cmp, nat_cmp}
use Rattle.std.proofs.lemmas.Map.Text.{is_eq-slice_cmp}
use Rattle.std.proofs.Common.{map}
use Rattle.code_sets.specs.Members.{AreMade, Rises, has_code}
use Rattle.attr_rules.specs.declared.expression.SetOperator.{SetOperator}
use Rattle.equation_law.specs.declared.system.System.{System}
use Rattle.equation_law.specs.Codes.{IsNamingOf, Naming}
use Rattle.equation_law.specs.Names.{text_cmp}
use Rattle.equation_law.specs.Program.{text_of}
use Rattle.equation_law.specs.Sets.{elements, has, set_of, size}
use Rattle.equation_law.specs.Systems.{program_of}
use Rattle.equation_law.specs.Values.{combined}
use Rattle.equation_law.proofs.Names.{code_anti}
use Rattle.equation_law.proofs.Pooled.{first_text, same_numbers, texts_pooled}
use Rattle.set_values.specs.CodedSets.{text_set, texts_set, with_operator}
use Rattle.set_values.proofs.Coded.{elements_coded, has_coded, made_coded, size_coded}

-- a number that a text of the program has
abbrev pub IsKnown : System → ℕ → Type 0
IsKnown s n = n < length (program_of s).texts

-- two such numbers are equal where their texts are
texts_tied : (s : System) (m n : ℕ) → IsKnown s m → IsKnown s n → eq_by_cmp nat_cmp m n ≡ eq_by_cmp text_cmp (text_of (program_of s) m) (text_of (program_of s) n)
texts_tied s m n h k = unsigned_tied m n ∙ same_numbers (program_of s).texts (texts_pooled s) m n h k ∙ sym (is_eq-slice_cmp (text_of (program_of s) m) (text_of (program_of s) n))

pub has_text_code : (s : System) (n : ℕ) → IsKnown s n → (cs : List ℕ) → All (IsKnown s) cs → has (text_set (program_of s) cs) (text_of (program_of s) n) ≡ has_code cs n
has_text_code s = has_coded nat_list_cmp_total code_anti (text_of (program_of s)) (IsKnown s) (texts_tied s)

pub made_texts : (s : System) (p : SetOperator) (xs ys zs : List ℕ) → All (IsKnown s) xs → All (IsKnown s) ys → AreMade (with_operator p) xs ys zs
    → text_set (program_of s) zs ≡ combined p (text_set (program_of s) xs) (text_set (program_of s) ys)
made_texts s = made_coded nat_list_cmp_total code_anti (text_of (program_of s)) (IsKnown s) (texts_tied s)

pub size_texts : (s : System) (cs : List ℕ) → Rises cs → All (IsKnown s) cs → size (text_set (program_of s) cs) ≡ length cs
size_texts s = size_coded nat_list_cmp_total code_anti (text_of (program_of s)) (IsKnown s) (texts_tied s)

elements_texts : (s : System) (cs ns : List ℕ) → Rises cs → All (IsKnown s) cs → IsPermutation cs ns → IsSortedByKey (text_of (program_of s)) text_cmp ns
    → elements (text_set (program_of s) cs) ≡ map (text_of (program_of s)) ns
elements_texts s = elements_coded nat_list_cmp_total code_anti (text_of (program_of s)) (IsKnown s) (texts_tied s)

-- the same by each naming for the program, which has its texts
module _ (s : System) {n : Naming} (h : IsNamingOf (program_of s) n) where
  pub has_text_by : (k : ℕ) → IsKnown s k → (cs : List ℕ) → All (IsKnown s) cs → has (set_of {R = text_cmp} (map n.text cs)) (n.text k) ≡ has_code cs k
  has_text_by k w cs a = ap (λ (f : ℕ → List ℕ). has (set_of {R = text_cmp} (map f cs)) (f k)) h.texts ∙ has_text_code s k w cs a

  pub made_texts_by : (p : SetOperator) (xs ys zs : List ℕ) → All (IsKnown s) xs → All (IsKnown s) ys → AreMade (with_operator p) xs ys zs
      → set_of {R = text_cmp} (map n.text zs) ≡ combined p (set_of (map n.text xs)) (set_of (map n.text ys))
  made_texts_by p xs ys zs a b m = subst (λ (f : ℕ → List ℕ). set_of {R = text_cmp} (map f zs) ≡ combined p (set_of (map f xs)) (set_of (map f ys))) (sym h.texts) (made_texts s p xs ys zs a b m)

  pub size_texts_by : (cs : List ℕ) → Rises cs → All (IsKnown s) cs → size (set_of {R = text_cmp} (map n.text cs)) ≡ length cs
  size_texts_by cs r a = ap (λ (f : ℕ → List ℕ). size (set_of {R = text_cmp} (map f cs))) h.texts ∙ size_texts s cs r a

  pub texts_in_order : (cs ns : List ℕ) → Rises cs → All (IsKnown s) cs → IsPermutation cs ns → IsSortedByKey (text_of (program_of s)) text_cmp ns → elements (texts_set n cs) ≡ map n.text ns
  texts_in_order cs ns r a moved sorted = subst (λ (f : ℕ → List ℕ). elements (set_of {R = text_cmp} (map f cs)) ≡ map f ns) (sym h.texts) (elements_texts s cs ns r a moved sorted)

  -- the empty text has the number 0
  pub first_text_by : n.text 0 ≡ []
  first_text_by = ap (λ (f : ℕ → List ℕ). f 0) h.texts ∙ first_text s
