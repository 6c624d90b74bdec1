-- The sorts whose parts are also of another sort fit the printed grammar: the tests compute.
use Rattle.std.proofs.Common.{◌≡◌, ℕ, suc, ◌≤◌, ◌<◌, leb, min, Bool, true, false, List, refl, arith}
use Rattle.std.proofs.lemmas.Bool.{agree_below, agree_below_at, both_ways, leb-true, le-leb}
use Rattle.std.proofs.Math.Nat.{min-le_left, min-le_right, le-min}
use Rattle.ll_parser.specs.Table.{every, member}
use Rattle.jrag_reader.specs.Forms.{Sort, is_also}
use Rattle.jrag_reader.specs.Forms as sorts
use Rattle.jrag_reader.proofs.Tables.{level_whole, level_rest, whole_of, rest_of, covers, is_no_token, also_fits}

-- where an expression of the level i is also one of the level j
abbrev level_fits : ℕ → ℕ → Bool
level_fits i j = elim (leb j i) [ true ↦ covers (level_rest i) (level_whole i) (level_rest j) (level_whole j) | false ↦ true ]

abbrev levels_fit : ℕ → Bool
levels_fit i = agree_below (level_fits i) (λ j. true) 12

level_at : (i j : ℕ) → j ≤ i → level_fits i j ≡ true → covers (level_rest i) (level_whole i) (level_rest j) (level_whole j) ≡ true
level_at i j order e = elim (leb j i) as (λ t. leb j i ≡ t
    → elim t [ true ↦ covers (level_rest i) (level_whole i) (level_rest j) (level_whole j) | false ↦ true ] ≡ true
    → covers (level_rest i) (level_whole i) (level_rest j) (level_whole j) ≡ true) [
      | true ↦ λ h g. g
      | false ↦ λ h g. absurd (both_ways (leb j i) h (le-leb j i order))
    ] refl e

levels : (i j : ℕ) → i < 12 → j ≤ i → covers (level_rest i) (level_whole i) (level_rest j) (level_whole j) ≡ true
levels i j below order =
    let all : agree_below levels_fit (λ k. true) 12 ≡ true = refl in
    let row : levels_fit i ≡ true = agree_below_at levels_fit (λ k. true) 12 i all below in
    level_at i j order (agree_below_at (level_fits i) (λ k. true) 12 j row (omega (arith, below, order)))

-- a name, the word of a quantifier and what `@k` is, as expressions of some levels
abbrev sort_fits : Sort → ℕ → Bool
sort_fits s j = covers (rest_of s) (whole_of s) (level_rest j) (level_whole j)

words : (j : ℕ) → j < 12 → sort_fits sorts.Word j ≡ true
words j below = agree_below_at (sort_fits sorts.Word) (λ k. true) 12 j refl below

quantifiers : (j : ℕ) → j < 12 → sort_fits sorts.Quantifier j ≡ true
quantifiers j below = agree_below_at (sort_fits sorts.Quantifier) (λ k. true) 12 j refl below

sourced : (j : ℕ) → j < 9 → sort_fits sorts.Sourced j ≡ true
sourced j below = agree_below_at (sort_fits sorts.Sourced) (λ k. true) 9 j refl below

at_most : (l k : ℕ) → k ≤ 11 → leb l k ≡ true → min l 11 < suc k
at_most l k small e = let a = min-le_left l 11 in let b : l ≤ k = leb-true l k e in omega (arith, a, b)

capped : (m : ℕ) → min m 11 < 12
capped m = let a = min-le_right m 11 in omega (arith, a)

in_order : (m l : ℕ) → leb l m ≡ true → min l 11 ≤ min m 11
in_order m l e = let a = min-le_left l 11 in let b = leb-true l m e in le-min (omega (arith, a, b)) (min-le_right l 11)

-- tokens of some classes, or what the symbols of the one are for the other
pub data Also : Sort → Sort → Type 0 where
  tokens : {cs ds : List ℕ} → every (λ c. member c ds) cs ≡ true → Also (sorts.OneOf cs) (sorts.OneOf ds)
  by_symbols : {s r : Sort} → is_no_token r ≡ true → also_fits s r ≡ true → Also s r

pub also : (s r : Sort) → is_also s r ≡ true → Also s r
also (sorts.OneOf cs) (sorts.OneOf ds) e = tokens e
also (sorts.Expression m) (sorts.Expression l) e = by_symbols refl (levels (min m 11) (min l 11) (capped m) (in_order m l e))
also sorts.Word (sorts.Expression l) e = by_symbols refl (words (min l 11) (at_most l 11 (omega arith) e))
also sorts.Quantifier (sorts.Expression l) e = by_symbols refl (quantifiers (min l 11) (at_most l 11 (omega arith) e))
also sorts.Sourced (sorts.Expression l) e = by_symbols refl (sourced (min l 11) (at_most l 8 (omega arith) e))
also sorts.Word sorts.Word e = by_symbols refl refl
also sorts.Quantifier sorts.Quantifier e = by_symbols refl refl
also sorts.Quantifier sorts.Word e = by_symbols refl refl
also sorts.Sourced sorts.Sourced e = by_symbols refl refl
also sorts.Arguments sorts.Arguments e = by_symbols refl refl
also sorts.SomeArguments sorts.SomeArguments e = by_symbols refl refl
also sorts.SomeArguments sorts.Arguments e = by_symbols refl refl
also sorts.OfType sorts.OfType e = by_symbols refl refl
also sorts.Parameters sorts.Parameters e = by_symbols refl refl
also sorts.SomeParameters sorts.SomeParameters e = by_symbols refl refl
also sorts.SomeParameters sorts.Parameters e = by_symbols refl refl
also sorts.Lazy sorts.Lazy e = by_symbols refl refl
also sorts.HigherOrder sorts.HigherOrder e = by_symbols refl refl
also sorts.Absent sorts.Absent e = by_symbols refl refl
also sorts.Absent sorts.Lazy e = by_symbols refl refl
also sorts.Absent sorts.HigherOrder e = by_symbols refl refl
also sorts.Modifiers sorts.Modifiers e = by_symbols refl refl
also sorts.Circularity sorts.Circularity e = by_symbols refl refl
also sorts.Body sorts.Body e = by_symbols refl refl
also sorts.Condition sorts.Condition e = by_symbols refl refl
also sorts.Path sorts.Path e = by_symbols refl refl
also sorts.Method sorts.Method e = by_symbols refl refl
also sorts.Root sorts.Root e = by_symbols refl refl
also sorts.Item sorts.Item e = by_symbols refl refl
also sorts.Aspects sorts.Aspects e = by_symbols refl refl
also sorts.Opened sorts.Opened e = by_symbols refl refl
also s r e = absurd (cc)
