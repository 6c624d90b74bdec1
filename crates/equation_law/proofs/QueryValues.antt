-- The value of an instance, as of a query, is of the instance's type.
use Rattle.std.proofs.Common.{◌≡◌, ℕ, zero, suc, true, List, [], ◌∷◌, Option, Some, slice_get, ap, subst, inl, inr}
use Rattle.std.specs.Option.{option_map}
use Rattle.attr_rules.specs.Queries.{Query as Asked}
use Rattle.attr_rules.specs.declared.kinds.Kind.{Kind}
use Rattle.attr_rules.specs.declared.kinds.Kind.TheVariants as kinds
use Rattle.solutions.specs.Rounds.{Graph, inner_rounds, is_in, outer_rounds, over}
use Rattle.solutions.proofs.Runs.{before, came, circular, inner_ends, inner_first, inner_in, or_else_some, undeclared}
use Rattle.equation_law.specs.Checked.{IsInstance, IsProgram, IsValue, nodes, of_query, texts, truth}
use Rattle.equation_law.specs.Equations.{HasValue, asked_kind, equations_of, is_ordered, kind_in, kind_or_truth}
use Rattle.equation_law.specs.Names.{Instance, NodeName, Query, made_by, node_cmp, same_instance, text_cmp}
use Rattle.equation_law.specs.Program.{Program}
use Rattle.equation_law.specs.Sets.{no_elements}
use Rattle.equation_law.specs.Values.{Value, default_of}
use Rattle.equation_law.proofs.Among.{Among, HasInside, HasReference}
use Rattle.equation_law.proofs.Demanded.{IsTypedIn, among_nodes, any_inside, any_node, any_reference, ended_within}
use Rattle.equation_law.proofs.Sets.{none_has}
use Rattle.equation_law.proofs.Solution.{circular_site}
use Rattle.equation_law.proofs.TypedValues.{IsValueIn}

-- the default of a type of circular instances
default_value : (p : Program) (U : Among) (k : Kind) → is_ordered k ≡ true → IsValueIn p U k (default_of k)
default_value p U kinds.Truth e = (truth _, tt)
default_value p U kinds.Int e = cc
default_value p U kinds.Text e = cc
default_value p U (kinds.Node c) e = cc
default_value p U kinds.Texts e = (texts no_elements (λ t h. absurd (none_has text_cmp t h)), tt)
default_value p U (kinds.Nodes c) e = (nodes c no_elements (λ n h. absurd (none_has node_cmp n h)), λ n h. absurd (none_has node_cmp n h))

-- the values at which circular instances start
start_value : (p : Program) (U : Among) (i : Instance) → (equations_of p).circular i ≡ true → IsValueIn p U (kind_in p i) ((equations_of p).bottom i)
unfolding equations_of
start_value p U i c = default_value p U (kind_in p i) (circular_site p i c).ordered

module _ (p : Program) (good : IsProgram p) where
  -- an assignment whose values of the program's instances are of their types, and of some nodes
  abbrev pub IsTypedBy : (NodeName → Type 0) → (Instance → Option Value) → Type 0
  IsTypedBy X A = (i : Instance) → IsInstance p i → (v : Value) → A i ≡ Some v → IsTypedIn p good X i v

  -- Rounds over a list whose trees are among these nodes:
  module _ (X : NodeName → Type 0) (inside : HasInside p X) (list : List Instance) (there : (i : Instance) → is_in same_instance list i ≡ true → HasReference X (made_by i 0)) where
    -- what inner rounds give, over values of their types
    module _ (S : Instance → Option Value) (typed : IsTypedBy X S) where
      -- a turn, by the one before
      turn_typed : (n : ℕ) → IsTypedBy X (inner_rounds (equations_of p) list S n) → IsTypedBy X (over S (inner_rounds (equations_of p) list S n))
      turn_typed n t i h v e = elim (or_else_some (S i) (inner_rounds (equations_of p) list S n i) v e) [
        | inl a ↦ typed i h v a
        | inr b ↦ t i h v b.1
      ]

      pub inner_typed : (n : ℕ) → IsTypedBy X (inner_rounds (equations_of p) list S n)
      unfolding equations_of
      inner_typed zero i h v e =
          let f = inner_first (equations_of p) list S i v e in
          subst (IsTypedIn p good X i) f.1 (start_value p (among_nodes p good X) i f.0)
      inner_typed (suc n) i h v e =
          let d = inner_ends (equations_of p) list S n i v e in
          let listed = inner_in (equations_of p) list S (suc n) i v e in
          ended_within p good X inside (Graph (over S (inner_rounds (equations_of p) list S n))) (λ j w q a. turn_typed n (inner_typed n) j q w a) i h (there i listed) v d.0 d.1

    -- what rounds give
    pub given_typed : (rounds : List ℕ) → IsTypedBy X (outer_rounds (equations_of p) list rounds)
    unfolding equations_of
    given_typed [] i h v e = cc
    given_typed (n ∷ ns) i h v e =
        elim (came (equations_of p) list n ns i v e) [
          | before g ↦ given_typed ns i h v g
          | undeclared c m ds d ↦ ended_within p good X inside (Graph (outer_rounds (equations_of p) list ns)) (λ j w q a. given_typed ns j q w a) i h (there i m) v ds d
          | circular c g ↦ inner_typed (outer_rounds (equations_of p) list ns) (given_typed ns) n i h v g
        ]

  pub value_typed : (i : Instance) → IsInstance p i → (v : Value) → HasValue p i v → IsValue p (kind_in p i) v
  value_typed i h v a = (given_typed (any_node p good) (any_inside p good) a.list (λ j m. any_reference p good (made_by j 0)) a.rounds i h v a.given).0

  pub query_typed : (q : ℕ) (e : Asked) (v : Value) → slice_get p.queries q ≡ Some e → HasValue p (Query q) v → IsValue p e.kind v
  query_typed q e v o h = subst (λ k. IsValue p k v) (ap (λ (x : Option Asked). kind_or_truth (option_map asked_kind x)) o) (value_typed (Query q) (of_query e o) v h)
