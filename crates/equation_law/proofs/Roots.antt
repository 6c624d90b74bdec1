-- The root of a collection at a node is the closest node upwards that is of the root class or of a subclass.
use Rattle.std.proofs.Common.{◌≡◌, ℕ, zero, suc, ◌<◌, ◌≤◌, Bool, true, false, cond, List, [], ◌∷◌, Contains, Option, Some, None, refl, sym, ap, subst, ◌∙◌, inl, inr, arith}
use Rattle.std.specs.List.{find}
use Rattle.ast_grammar.specs.declared.grammar.ClassId.{ClassId}
use Rattle.tree_arena.specs.Nodes.{parent_in}
use Rattle.equation_law.specs.Checked.{IsProgram}
use Rattle.equation_law.specs.Equations.{collection_root, is_of_class, upwards_from}
use Rattle.equation_law.specs.Names.{Source}
use Rattle.equation_law.specs.Program.{Program}
use Rattle.equation_law.proofs.Above.{falls, upwards_end, upwards_step}
use Rattle.equation_law.proofs.Subtree.{first_or_other, first_there, other_there}

-- what is found of some numbers is one of them and passes
found : (test : ℕ → Bool) (ns : List ℕ) (r : ℕ) → find test ns ≡ Some r → Contains ns r × (test r ≡ true)
found test [] r e = cc
found test (n ∷ ns) r e = elim (test n) as (λ b. test n ≡ b → cond b (Some n) (find test ns) ≡ Some r → Contains (n ∷ ns) r × (test r ≡ true)) [
  | true ↦ λ t f. let same : n ≡ r = cc in (subst (Contains (n ∷ ns)) same (first_there n ns), subst (λ (x : ℕ). test x ≡ true) same t)
  | false ↦ λ t f. let h = found test ns r f in (other_there n ns r h.0, h.1)
] refl e

-- where nothing is found none passes
none_found : (test : ℕ → Bool) (ns : List ℕ) → find test ns ≡ None → (n : ℕ) → Contains ns n → test n ≡ false
none_found test [] e n c = let l = c.1 in absurd (omega (arith, l))
none_found test (m ∷ ns) e n c = elim (test m) as (λ b. test m ≡ b → cond b (Some m) (find test ns) ≡ None → test n ≡ false) [
  | true ↦ λ t f. cc
  | false ↦ λ t f. elim (first_or_other m ns n c) [
    | inl same ↦ subst (λ (x : ℕ). test x ≡ false) same t
    | inr d ↦ none_found test ns f n d
  ]
] refl e

module _ (p : Program) (good : IsProgram p) (c : ClassId) where
  -- a source node of the class or of a subclass
  abbrev Is : ℕ → Bool
  Is n = is_of_class p c (Source n)

  abbrev Way : ℕ → List ℕ
  Way k = upwards_from k p.tree k

  pub root_there : (k r : ℕ) → collection_root p (Some c) k ≡ Some r → Contains (Way k) r × (Is r ≡ true)
  root_there k r e = found Is (Way k) r e

  pub rootless : (k : ℕ) → collection_root p (Some c) k ≡ None → (n : ℕ) → Contains (Way k) n → Is n ≡ false
  rootless k e n h = none_found Is (Way k) e n h

  -- the first of a way is a node itself, or one of those further up
  first_of_way : (k r n : ℕ) (ns : List ℕ) → Way k ≡ k ∷ ns → (find Is ns ≡ Some r → Contains ns n → Contains (Way r) n) → find Is (Way k) ≡ Some r → Contains (Way k) n → Is n ≡ true → Contains (Way r) n
  first_of_way k r n ns same later e h is = elim (Is k) as (λ b. Is k ≡ b → cond b (Some k) (find Is ns) ≡ Some r → Contains (Way r) n) [
    | true ↦ λ t f. let one : k ≡ r = cc in subst (λ (x : ℕ). Contains (Way x) n) one h
    | false ↦ λ t f. elim (first_or_other k ns n (subst (λ (xs : List ℕ). Contains xs n) same h)) [
      | inl here ↦ let no = subst (λ (x : ℕ). Is x ≡ false) here t in absurd (cc)
      | inr there ↦ later f there
    ]
  ] refl (sym (ap (find Is) same) ∙ e)

  -- each other one on the way is above the root
  above_from : (k r n : ℕ) (o : Option ℕ) → parent_in p.tree k ≡ o → ((q : ℕ) → q < k → find Is (Way q) ≡ Some r → Contains (Way q) n → Contains (Way r) n) → find Is (Way k) ≡ Some r → Contains (Way k) n → Is n ≡ true → Contains (Way r) n
  above_from k r n None up later = first_of_way k r n [] (upwards_end p.tree (falls p good) k up) (λ f there. cc)
  above_from k r n (Some q) up later = first_of_way k r n (Way q) (upwards_step p.tree (falls p good) k q up) (later q (falls p good k q up))

  above_root : (most k r n : ℕ) → k ≤ most → find Is (Way k) ≡ Some r → Contains (Way k) n → Is n ≡ true → Contains (Way r) n
  above_root zero k r n m e h is = above_from k r n (parent_in p.tree k) refl (λ q l f there. absurd (omega (arith, m, l))) e h is
  above_root (suc most) k r n m e h is = above_from k r n (parent_in p.tree k) refl (λ q l f there. above_root most q r n (omega (arith, m, l)) f there is) e h is

  pub root_closest : (k r n : ℕ) → collection_root p (Some c) k ≡ Some r → Contains (Way k) n → Is n ≡ true → Contains (Way r) n
  root_closest k r n e h is = above_root k k r n (omega arith) e h is
