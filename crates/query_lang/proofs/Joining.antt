-- Texts behind one another.
use Rattle.std.proofs.Common.{◌≡◌, ℕ, zero, suc, ◌+◌, ◌<◌, ◌≤◌, List, [], ◌∷◌, ◌++◌, map, drop, get_or, length, nat_lt, arith, add-one, refl, sym, ap, ◌∙◌, append_assoc}
use Rattle.std.proofs.lemmas.List.{append-nil, drop_more}
use Rattle.std.proofs.lemmas.Bool.{lt-ltb}
use Rattle.std.proofs.Math.ListN.{drop_of_length-le}
use Rattle.query_lang.specs.Replies.{further, joined}
use Rattle.query_lang.specs.Singles.{element_text}

-- what is still to be written after so many texts
pub left_text : ℕ → List (List ℕ) → List ℕ
left_text zero texts = joined texts
left_text (suc k) texts = further texts

nothing_left : (k : ℕ) → left_text k [] ≡ []
unfolding left_text
nothing_left zero = refl
nothing_left (suc k) = refl

pub all_left : (texts : List (List ℕ)) → left_text 0 texts ≡ joined texts
unfolding left_text
all_left texts = refl

one_less : (k : ℕ) (text : List ℕ) (texts : List (List ℕ)) → left_text k (text ∷ texts) ≡ element_text (nat_lt 0 k) text ++ left_text (suc k) texts
unfolding left_text
one_less zero text texts = refl
one_less (suc k) text texts = ap (λ b. element_text b text ++ further texts) (sym (lt-ltb 0 (suc k) (omega arith)))

module _ {X : Type 0} (of : X → List ℕ) (xs : List X) (k : ℕ) (old whole : List ℕ) (so_far : old ++ left_text k (map of (drop k xs)) ≡ whole) where
  -- one element more was written
  pub next_left : (d : X) (new : List ℕ) → k < length xs → new ≡ old ++ element_text (nat_lt 0 k) (of (get_or xs k d)) → new ++ left_text (k + 1) (map of (drop (k + 1) xs)) ≡ whole
  next_left d new within added =
      let x = get_or xs k d in
      let rest = map of (drop (k + 1) xs) in
      let here : map of (drop k xs) ≡ of x ∷ rest = ap (map of) (drop_more xs k d within) in
      let less : left_text k (map of (drop k xs)) ≡ element_text (nat_lt 0 k) (of x) ++ left_text (k + 1) rest =
      ap (left_text k) here ∙ one_less k (of x) rest ∙ ap (λ j. element_text (nat_lt 0 k) (of x) ++ left_text j rest) (sym (add-one k)) in
      ap (λ t. t ++ left_text (k + 1) rest) added ∙ append_assoc old (element_text (nat_lt 0 k) (of x)) (left_text (k + 1) rest) ∙ ap (λ t. old ++ t) (sym less) ∙ so_far

  -- all elements were written
  pub none_left : length xs ≤ k → old ≡ whole
  none_left past =
      let over : left_text k (map of (drop k xs)) ≡ [] = ap (λ ys. left_text k (map of ys)) (drop_of_length-le xs past) ∙ nothing_left k in
      sym (append-nil old) ∙ ap (λ t. old ++ t) (sym over) ∙ so_far
