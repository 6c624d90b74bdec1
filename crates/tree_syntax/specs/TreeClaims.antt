-- What is claimed of the table of `tree`, written by tools/table.py: the check computes that it is right.
use Rattle.std.specs.Prelude.{ℕ, [], ◌∷◌, true, false}
use Rattle.ll_parser.specs.Table.{Claims, numbers, flag, number}

abbrev pub tree_claims : (ℕ → ℕ → ℕ) → Claims
tree_claims choice = record {
  first = numbers ((1 ∷ 2 ∷ 3 ∷ []) ∷ (1 ∷ 2 ∷ 3 ∷ []) ∷ (1 ∷ 2 ∷ 3 ∷ []) ∷ (1 ∷ 2 ∷ 3 ∷ 4 ∷ 5 ∷ 8 ∷ 11 ∷ []) ∷ (10 ∷ []) ∷ (1 ∷ 2 ∷ 3 ∷ 4 ∷ 5 ∷ 8 ∷ 11 ∷ []) ∷ (6 ∷ []) ∷ (6 ∷ []) ∷ (1 ∷ 2 ∷ 3 ∷ []) ∷ (10 ∷ []) ∷ []);
  empty = flag (false ∷ false ∷ false ∷ true ∷ true ∷ false ∷ true ∷ true ∷ true ∷ true ∷ []);
  follow = numbers ((0 ∷ []) ∷ (0 ∷ 9 ∷ 10 ∷ []) ∷ (6 ∷ []) ∷ (7 ∷ []) ∷ (7 ∷ []) ∷ (7 ∷ 10 ∷ []) ∷ (7 ∷ 10 ∷ []) ∷ (7 ∷ 10 ∷ []) ∷ (9 ∷ []) ∷ (9 ∷ []) ∷ []);
  weight = number (4 ∷ 3 ∷ 2 ∷ 3 ∷ 2 ∷ 2 ∷ 2 ∷ 2 ∷ 4 ∷ 2 ∷ []);
  ways = 2 ∷ 6 ∷ 1 ∷ 0 ∷ 8 ∷ 9 ∷ 16 ∷ 18 ∷ 21 ∷ 23 ∷ [];
  choice = choice;
}
