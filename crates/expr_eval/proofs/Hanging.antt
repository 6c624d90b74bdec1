-- What a tree has of nodes that it doesn't have, and which numbers its nodes have.
use Rattle.std.proofs.Common.{◌≡◌, ℕ, zero, suc, ◌+◌, ◌<◌, ◌≤◌, ◌^◌, ◌&&◌, ◌==◌, if◌then◌else◌, true, false, List, [], ◌∷◌, Option, Some, None, IfSome, length, slice_get, refl, sym, subst, arith}
use Rattle.std.proofs.lemmas.Option.{slice_get_past}
use Rattle.tree_arena.specs.Nodes.{Node, child_in, hanging_from, most_nodes, token_in, tokens_at}
pub use Rattle.equation_law.proofs.Preordered.{none_counted}

-- a node has no codes past its last component
pub no_code_behind : (nodes : List Node) (n k : ℕ) → length (tokens_at nodes n) ≤ k → token_in nodes n k ≡ None
no_code_behind nodes n k l = slice_get_past (tokens_at nodes n) k l

-- and none at all where there is no node
pub no_code_past : (nodes : List Node) (n k : ℕ) → length nodes ≤ n → token_in nodes n k ≡ None
no_code_past [] n k l = refl
no_code_past (x ∷ nodes) zero k l = absurd (omega (arith, l))
no_code_past (x ∷ nodes) (suc n) k l = no_code_past nodes n k (omega (arith, l))

-- what stands at a place of a list with one more in front
in_cons : (i : ℕ) (rest : List ℕ) (j m b : ℕ) → slice_get (i ∷ rest) j ≡ Some m → i < b → ((l : ℕ) → slice_get rest l ≡ Some m → m < b) → m < b
in_cons i rest zero m b h first later = let same : i ≡ m = cc in subst (λ (n : ℕ). n < b) same first
in_cons i rest (suc j) m b h first later = later j h

from_within : (i : ℕ) (nodes : List Node) (n k j m : ℕ) → slice_get (hanging_from i nodes n k) j ≡ Some m → m < i + length nodes
from_within i [] n k j m h = absurd (let none : slice_get [] j ≡ None = slice_get_past {X = ℕ} [] j (omega arith) in cc)
from_within i (x ∷ nodes) n k j m h =
    let later : (l : ℕ) → slice_get (hanging_from (suc i) nodes n k) l ≡ Some m → m < i + suc (length nodes) = λ l g. (let w = from_within (suc i) nodes n k l m g in omega (arith, w)) in
    elim ((x.parent == n) && (x.component == k)) as (λ b. slice_get (if b then i ∷ hanging_from (suc i) nodes n k else hanging_from (suc i) nodes n k) j ≡ Some m → m < i + suc (length nodes)) [
      | true ↦ λ g. in_cons i (hanging_from (suc i) nodes n k) j m (i + suc (length nodes)) g (omega arith) later
      | false ↦ λ g. later j g
    ] h

-- the number of a child is that of a node
child_within : (nodes : List Node) (n k i m : ℕ) → child_in nodes n k i ≡ Some m → m < length nodes
child_within [] n k i m h = absurd (let none : slice_get [] i ≡ None = slice_get_past {X = ℕ} [] i (omega arith) in cc)
child_within (x ∷ nodes) n k i m h = let w = from_within 1 nodes n k i m h in omega (arith, w)

-- so it is one that a source node may have
pub child_sourced : (nodes : List Node) (n k i : ℕ) (o : Option ℕ) → length nodes ≤ most_nodes → o ≡ child_in nodes n k i → IfSome o (λ m. m < most_nodes)
child_sourced nodes n k i None few e = tt
child_sourced nodes n k i (Some m) few e = let w = child_within nodes n k i m (sym e) in omega (arith, w, few)

-- and it has a code
pub child_fits : (nodes : List Node) (n k i : ℕ) (o : Option ℕ) → length nodes < 2 ^ 32 → o ≡ child_in nodes n k i → IfSome o (λ m. m + 1 < 2 ^ 32)
child_fits nodes n k i None few e = tt
child_fits nodes n k i (Some m) few e = let w = child_within nodes n k i m (sym e) in omega (arith, w, few)

-- at a place past all nodes nothing hangs
from_counted : (i : ℕ) (nodes : List Node) (n k : ℕ) → length (hanging_from i nodes n k) ≤ length nodes
from_counted i [] n k = omega arith
from_counted i (x ∷ nodes) n k =
    let rest = from_counted (suc i) nodes n k in
    elim ((x.parent == n) && (x.component == k)) as (λ b. length (if b then i ∷ hanging_from (suc i) nodes n k else hanging_from (suc i) nodes n k) ≤ suc (length nodes)) [
      | true ↦ omega (arith, rest)
      | false ↦ omega (arith, rest)
    ]

pub none_behind : (nodes : List Node) (n k i : ℕ) → length nodes ≤ i → child_in nodes n k i ≡ None
none_behind [] n k i h = slice_get_past [] i (omega arith)
none_behind (x ∷ nodes) n k i h = let few = from_counted 1 nodes n k in slice_get_past (hanging_from 1 nodes n k) i (omega (arith, few, h))
