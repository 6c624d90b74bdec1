-- Keys of cells as the words that stand in the table.
use Rattle.std.specs.Prelude.{ℕ, Bool, ◌==◌, ◌||◌, ◌+◌, ◌*◌, ◌/◌, ◌%◌, ◌^◌, ◌<◌}
use Rattle.memo_cells.specs.declared.keys.Key.{Key}
use Rattle.memo_cells.specs.declared.keys.Key.TheVariants.{Arg, Inst, Query, Word}

-- The top three bits are the kind: 1 for an attribute at a node, which is given by its code, 2 for one more argument, given by its code, of
-- what stands in a slot, 3 for one word of the set of what stands in a slot, and 4 for a query.
abbrev pub attribute_word : ℕ → ℕ → ℕ
attribute_word a n = 2 ^ 61 + a * 2 ^ 32 + n

abbrev pub argument_word : ℕ → ℕ → ℕ
argument_word s c = 2 ^ 62 + s * 2 ^ 32 + c

abbrev pub set_word : ℕ → ℕ → ℕ
set_word s w = 3 * 2 ^ 61 + s * 2 ^ 32 + w

abbrev pub query_word : ℕ → ℕ
query_word q = 2 ^ 63 + q

abbrev pub key_word : Key → ℕ
key_word (Inst a n) = attribute_word a.0 n.0
key_word (Arg s c) = argument_word s.0 c
key_word (Word s w) = set_word s.0 w
key_word (Query q) = query_word q.0

-- the key is of an attribute, with or without arguments
abbrev pub is_attribute : ℕ → Bool
is_attribute k = (k / 2 ^ 61 == 1) || (k / 2 ^ 61 == 2)

-- the key is of a word of a set
abbrev pub is_set_word : ℕ → Bool
is_set_word k = k / 2 ^ 61 == 3

-- where the search for a key begins, in a table of n places
unfoldable pub start : ℕ → ℕ → ℕ
start n k = k * 11400714819323198485 % 2 ^ 64 / 2 ^ 32 % n

-- a slot of 29 bits, above which the kind stands
abbrev pub Fits : Key → Type 0
Fits (Inst a n) = Unit {0}
Fits (Arg s c) = s.0 < 2 ^ 29
Fits (Word s w) = s.0 < 2 ^ 29
Fits (Query q) = Unit {0}
