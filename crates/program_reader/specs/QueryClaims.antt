-- What is claimed of the table of `query`, written by tools/table.py: the check computes that it is right.
use Rattle.std.specs.Prelude.{ℕ, [], ◌∷◌, false}
use Rattle.ll_parser.specs.Table.{Claims, numbers, flag, number}

abbrev pub query_claims : (ℕ → ℕ → ℕ) → Claims
query_claims choice = record {
  first = numbers ((3 ∷ []) ∷ []);
  empty = flag (false ∷ []);
  follow = numbers ((0 ∷ []) ∷ []);
  weight = number (2 ∷ []);
  ways = 0 ∷ [];
  choice = choice;
}
