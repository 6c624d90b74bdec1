-- What a pass knows.
use Rattle.std.specs.Prelude.{◌≡◌, ◌≢◌, ℕ, zero, suc, ◌+◌, ◌-◌, ◌^◌, ◌<◌, ◌≤◌, ◌⊎◌, ◌==◌, ◌&&◌, not, nat_le, Bool, false, List, [], ◌∷◌, ◌++◌, Some, None, slice_index, if◌then◌else◌}
use Rattle.std.specs.Int.{bit_at}
use Rattle.std.specs.List.{list_any}
use Rattle.std.specs.declared.snapshot.Snapshot.{Snapshot}
use Rattle.equation_law.specs.declared.coding.Instance.{Instance as CodedInstance}
use Rattle.equation_law.specs.declared.system.System.{System}
use Rattle.made_trees.specs.Made.{Follow}
use Rattle.memo_cells.specs.declared.view.Frame.{Frame}
use Rattle.memo_cells.specs.declared.view.View.{View}
use Rattle.memo_cells.specs.Keys.{is_attribute, is_set_word, start}
use Rattle.memo_cells.specs.Words.{Before}

-- x stands in the list
abbrev pub Has : {X : Type 0} → List X → X → Type 0
Has [] x = ⊥
Has (y ∷ ys) x = (x ≡ y) ⊎ Has ys x

-- how often x stands in the list
abbrev pub times : ℕ → List ℕ → ℕ
times x [] = 0
times x (y ∷ ys) = (if x == y then 1 else 0) + times x ys

-- each place that has a key, from p on, with it
unfoldable pub keys_from : ℕ → List ℕ → List (ℕ × ℕ)
keys_from p [] = []
keys_from p (k ∷ ks) = if k == 0 then keys_from (suc p) ks else (p, k) ∷ keys_from (suc p) ks

-- the places alone
unfoldable pub places_from : ℕ → List ℕ → List ℕ
places_from p [] = []
places_from p (k ∷ ks) = if k == 0 then places_from (suc p) ks else p ∷ places_from (suc p) ks

-- each place whose value is settled, with its key and code; a word of a set isn't settled by itself
unfoldable pub values_from : ℕ → List ℕ → List ℕ → List (ℕ × ℕ × ℕ)
values_from p ks [] = []
values_from p [] (v ∷ vs) = []
values_from p (k ∷ ks) (v ∷ vs) = if nat_le (2 ^ 63) v && not (is_set_word k) then (p, k, v - 2 ^ 63) ∷ values_from (suc p) ks vs else values_from (suc p) ks vs

-- the bits below n of the value word v that are set
unfoldable pub bits_below : ℕ → ℕ → ℕ → ℕ → List (ℕ × ℕ × ℕ)
bits_below p k v zero = []
bits_below p k v (suc n) = if bit_at v n == 1 then (p, k, n) ∷ bits_below p k v n else bits_below p k v n

-- the bits by which a key shows something: the 64 of a word of a set, and the lowest of any other key
abbrev pub shown_bits : ℕ → ℕ
shown_bits k = if is_set_word k then 64 else 1

-- each such bit that is set, with its place and key
unfoldable pub bits_from : ℕ → List ℕ → List ℕ → List (ℕ × ℕ × ℕ)
bits_from p ks [] = []
bits_from p [] (v ∷ vs) = []
bits_from p (k ∷ ks) (v ∷ vs) = bits_below p k v (shown_bits k) ++ bits_from (suc p) ks vs

-- a value word with the mark of what is settled
abbrev pub with_mark : ℕ → ℕ
with_mark v = if nat_le (2 ^ 63) v then v else v + 2 ^ 63

-- The words of the table: two counters and 4,096 rows of 17 words, then a key word for each of n cells, and then their value words.
abbrev pub key_word_at : ℕ → ℕ
key_word_at p = 69634 + p

abbrev pub value_word_at : ℕ → ℕ → ℕ
value_word_at n p = 69634 + n + p

-- so many cells of a system, in the only table that there is
abbrev pub framed : Snapshot System → ℕ → Frame
framed system cells = record { table = 0; system = system; cells = cells }

-- a pass with the whole share that saw these keys, values and bits and claimed these places, and did nothing else: no tree and no query was drawn
abbrev pub having_seen : Frame → List (ℕ × ℕ) → List (ℕ × ℕ × ℕ) → List (ℕ × ℕ × ℕ) → List ℕ → View
having_seen f keys values bits claims = record {
  table = f.table;
  frame = Some f;
  share = 2 ^ 62;
  keys = keys;
  values = values;
  bits = bits;
  claims = claims;
  found = [];
  trees = 0;
  queries = 0;
  held = None;
  written = [];
  rows = [];
  made = [];
  spare = None;
  given_up = [];
  to_seal = [];
  draws = [];
}

-- a pass that has the words itself knows all that stands there, and claimed it; these made its trees, and these places it has still to seal
abbrev pub knows_all : Frame → List CodedInstance → List ℕ → List ℕ → List ℕ → View
knows_all f ms ts ks vs = record (having_seen f (keys_from 0 ks) (values_from 0 ks vs) (bits_from 0 ks vs) (places_from 0 ks)) { made = ms; to_seal = ts }

-- nothing is unlearnt
pub record IsAtLeast (v w : View) : Type 0 where
  pub frame : w.frame ≡ v.frame
  pub share : w.share ≡ v.share
  pub keys : (p k : ℕ) → Has v.keys (p, k) → Has w.keys (p, k)
  pub values : (p k c : ℕ) → Has v.values (p, k, c) → Has w.values (p, k, c)
  pub bits : (p k n : ℕ) → Has v.bits (p, k, n) → Has w.bits (p, k, n)
  pub claims : (p : ℕ) → times p v.claims ≤ times p w.claims
  pub made : Follow v.made w.made

-- the key k is seen claimed at place p
abbrev pub IsSlot : Frame → View → ℕ → ℕ → Type 0
IsSlot f v p k = (p < f.cells) × Has v.keys (p, k)

-- q is seen claimed, and not by k
abbrev pub IsOther : View → ℕ → ℕ → Type 0
IsOther v k q = (j : ℕ) × Has v.keys (q, j) × (j ≢ k) × (j ≢ 0)

-- all places before p on the way of the key k are seen claimed, by other keys
abbrev pub IsPassed : Frame → View → ℕ → ℕ → Type 0
IsPassed f v k p = (q : ℕ) → Before f.cells (start f.cells k) p q → IsOther v k q

-- each place is
abbrev pub IsFull : Frame → View → ℕ → Type 0
IsFull f v k = (q : ℕ) → q < f.cells → IsOther v k q

-- each place from a on, below b, is
abbrev pub IsOtherIn : View → ℕ → ℕ → ℕ → Type 0
IsOtherIn v k a b = (q : ℕ) → a ≤ q → q < b → IsOther v k q

-- on the way of k to each place from a on, below b, all that lies outside these is
abbrev pub IsLedTo : Frame → View → ℕ → ℕ → ℕ → Type 0
IsLedTo f v k a b = (p q : ℕ) → a ≤ p → p < b → Before f.cells (start f.cells k) p q → ((a ≤ q) × (q < p)) ⊎ IsOther v k q

-- some key is seen claimed at the place, and it isn't of a word of a set
abbrev pub IsPlain : View → ℕ → Type 0
IsPlain v p = (k : ℕ) × Has v.keys (p, k) × (is_set_word k ≡ false)

-- the key isn't seen claimed
abbrev pub IsNowhere : View → ℕ → Type 0
IsNowhere v k = (q : ℕ) → ¬ Has v.keys (q, k)

-- it isn't seen settled
abbrev pub IsUnset : View → ℕ → Type 0
IsUnset v k = (q c : ℕ) → ¬ Has v.values (q, k, c)

-- none of the keys that were seen claimed at the place is seen settled now
pub record IsUnsettled (v w : View) (p : ℕ) : Type 0 where
  pub unset : (k : ℕ) → Has v.keys (p, k) → IsUnset w k

-- what a call claimed is a cell of the key k
abbrev pub ClaimsOnly : View → View → ℕ → Type 0
ClaimsOnly v w k = (q : ℕ) → (times q w.claims ≡ times q v.claims) ⊎ Has w.keys (q, k)

abbrev pub word_at : List ℕ → ℕ → ℕ
word_at ws p = slice_index ws p

-- the first pass knows nothing and has the whole share
abbrev pub first_view : Frame → View
first_view f = having_seen f [] [] [] []

-- the cell at this place is of an attribute, and seen settled
abbrev pub is_settled_at : View → ℕ → Bool
is_settled_at v p = list_any (λ x. x.0 == p && is_attribute x.1) v.values

-- how many of the cells below n are
abbrev pub settled_below : View → ℕ → ℕ
settled_below v zero = 0
settled_below v (suc n) = (if is_settled_at v n then 1 else 0) + settled_below v n
