-- Makers that follow makers: what stood for something goes on to stand for it.
use Rattle.std.proofs.Common.{◌≡◌, inl, inr, ℕ, zero, suc, ◌+◌, ◌≤◌, ◌<◌, List, [], ◌∷◌, ◌++◌, length, refl, sym, ap, ◌∙◌, arith}
use Rattle.std.proofs.lemmas.List.{append_assoc, length-append}
use Rattle.equation_law.specs.declared.coding.Instance.{Instance as CodedInstance}
use Rattle.equation_law.specs.Codes.{reference_by}
use Rattle.equation_law.specs.Names.{At}
use Rattle.equation_law.specs.Program.{Program}
use Rattle.made_trees.specs.Made.{Follow, last_code, node_by_makers}
use Rattle.made_trees.specs.Makers.{IsMore}
use Rattle.made_trees.proofs.Naming.{node_kept}

pub follow_itself : (ms : List CodedInstance) → Follow ms ms
follow_itself ms = ([], refl)

pub follow_same : {ms ns : List CodedInstance} → ns ≡ ms → Follow ms ns
follow_same e = ([], e)

pub follow_on : {xs ys zs : List CodedInstance} → Follow xs ys → Follow ys zs → Follow xs zs
follow_on {xs} f g = (g.0 ++ f.0, g.1 ∙ ap (λ (l : List CodedInstance). g.0 ++ l) f.1 ∙ sym (append_assoc g.0 f.0 xs))

pub follow_more : {xs ys : List CodedInstance} {i : CodedInstance} → IsMore xs i ys → Follow xs ys
follow_more {i = i} more = elim more [
  | inl same ↦ ([], same)
  | inr one ↦ (i ∷ [], one)
]

pub follow_length : {xs ys : List CodedInstance} → Follow xs ys → length xs ≤ length ys
follow_length {xs} {ys} f = let l : length ys ≡ length f.0 + length xs = ap length f.1 ∙ length-append f.0 xs in omega (arith, l)

module _ (p : Program) where
  -- a node that has a name keeps it
  node_further : (more ms : List CodedInstance) (k : ℕ) → k < last_code (length ms) → node_by_makers p (more ++ ms) k ≡ node_by_makers p ms k
  node_further [] ms k low = refl
  node_further (m ∷ more) ms k low =
      let l : length (more ++ ms) ≡ length more + length ms = length-append more ms in
      node_kept p m (more ++ ms) k (omega (arith, l, low)) ∙ node_further more ms k low

  pub node_follows : {ms ns : List CodedInstance} → Follow ms ns → (k : ℕ) → k < last_code (length ms) → node_by_makers p ns k ≡ node_by_makers p ms k
  node_follows {ms} f k low = ap (λ (l : List CodedInstance). node_by_makers p l k) f.1 ∙ node_further f.0 ms k low

  pub reference_follows : {ms ns : List CodedInstance} → Follow ms ns → (c : ℕ) → c ≤ last_code (length ms) → reference_by (node_by_makers p ns) c ≡ reference_by (node_by_makers p ms) c
  reference_follows f zero low = refl
  reference_follows f (suc k) low = ap At (node_follows f k (omega (arith, low)))
