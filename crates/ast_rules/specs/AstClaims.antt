-- What is claimed of the table of `ast`, written by tools/table.py: the check computes that it is right.
use Rattle.std.specs.Prelude.{ℕ, [], ◌∷◌, true, false}
use Rattle.ll_parser.specs.Table.{Claims, numbers, flag, number}

abbrev pub ast_claims : (ℕ → ℕ → ℕ) → Claims
ast_claims choice = record {
  first = numbers ((1 ∷ 2 ∷ []) ∷ (1 ∷ 2 ∷ []) ∷ (1 ∷ 2 ∷ []) ∷ (2 ∷ []) ∷ (3 ∷ []) ∷ (4 ∷ []) ∷ (1 ∷ 7 ∷ 9 ∷ []) ∷ (1 ∷ 7 ∷ 9 ∷ []) ∷ (3 ∷ 6 ∷ []) ∷ (6 ∷ []) ∷ (3 ∷ 8 ∷ []) ∷ (3 ∷ 10 ∷ []) ∷ []);
  empty = flag (false ∷ true ∷ false ∷ true ∷ true ∷ true ∷ true ∷ false ∷ true ∷ true ∷ false ∷ false ∷ []);
  follow = numbers ((0 ∷ []) ∷ (0 ∷ []) ∷ (0 ∷ 1 ∷ 2 ∷ []) ∷ (1 ∷ []) ∷ (4 ∷ 5 ∷ []) ∷ (5 ∷ []) ∷ (5 ∷ []) ∷ (1 ∷ 5 ∷ 7 ∷ 9 ∷ []) ∷ (1 ∷ 5 ∷ 7 ∷ 9 ∷ []) ∷ (1 ∷ 5 ∷ 7 ∷ 9 ∷ []) ∷ (1 ∷ 5 ∷ 7 ∷ 9 ∷ []) ∷ (1 ∷ 5 ∷ 7 ∷ 9 ∷ []) ∷ []);
  weight = number (5 ∷ 5 ∷ 4 ∷ 2 ∷ 2 ∷ 2 ∷ 3 ∷ 2 ∷ 3 ∷ 2 ∷ 2 ∷ 2 ∷ []);
  ways = 2 ∷ 4 ∷ 6 ∷ 9 ∷ 3 ∷ 0 ∷ 11 ∷ 17 ∷ 15 ∷ 12 ∷ 19 ∷ 21 ∷ [];
  choice = choice;
}
