-- Between one offer and the next nothing is offered.
use Rattle.std.proofs.Common.{◌≡◌, ℕ, zero, suc, ◌+◌, ◌-◌, ◌<◌, ◌≤◌, ◌==◌, ◌&&◌, Bool, true, false, List, Some, length, slice_get, refl, sym, ap, subst, ◌∙◌, inl, inr, arith}
use Rattle.std.proofs.lemmas.Bool.{cases_lt, eq-eqb, eqb-true}
use Rattle.std.proofs.lemmas.Option.{same_Some}
use Rattle.ast_grammar.specs.declared.grammar.ClassId.{ClassId}
use Rattle.ast_grammar.specs.Grammar.{is_sub}
use Rattle.attr_equations.specs.declared.contributions.Contribution as kept
use Rattle.attr_equations.specs.KeptContributions.{IsContributionAt}
use Rattle.attr_equations.specs.Offered.{IsFor}
use Rattle.attr_rules.specs.declared.kinds.AttrId.{AttrId}
use Rattle.attr_rules.proofs.RowLists.{there}
use Rattle.attr_rules.specs.Rules.{Contribution, RuleSet}
use Rattle.tree_arena.specs.Nodes.{Node, class_in, end_in}
use Rattle.equation_law.specs.Equations.{is_of_class, is_offered}
use Rattle.equation_law.specs.Names.{Source}
use Rattle.equation_law.specs.Program.{Program}
use Rattle.collection_attrs.specs.Passed.{offers_before}
use Rattle.collection_attrs.specs.Walks.{IsNext, IsOfferedAt, IsStanding, NoneOffered, Walk, passed_by}
use Rattle.collection_attrs.proofs.Before.{before_next, before_skipped}
use Rattle.collection_attrs.proofs.Rooted.{of_class}
use Rattle.collection_attrs.proofs.Stepping.{at_rules}

module _ (p : Program) (a node : ℕ) where
  -- whether a contribution is offered, by what is kept of it
  pub offered_is : {rules : RuleSet} → rules ≡ p.rules → {k : ℕ} {c : kept.Contribution} → IsContributionAt rules k c → {tree : List Node} → tree ≡ p.tree → (d : ClassId) → class_in tree node ≡ Some d → {b : Bool} → b ≡ ((c.target.0 == a) && is_sub p.grammar d.0 c.class.0)
      → (x : Contribution) × (slice_get p.rules.contributions k ≡ Some x) × (is_offered p a node x ≡ b)
  offered_is same {k} {c} is {tree} tree_same d class {b} test =
      let at = at_rules p same is in
      let here : class_in p.tree node ≡ Some d = ap (λ (t : List Node). class_in t node) (sym tree_same) ∙ class in
      let stands = of_class p at.contribution.class node d here in
      let parts : is_offered p a node at.contribution ≡ ((c.target.0 == a) && is_sub p.grammar d.0 c.class.0) = (λ i. (sym at.target i).0 == a && (stands ∙ ap (λ (x : ClassId). is_sub p.grammar d.0 x.0) (sym at.class)) i) in
      (at.contribution, at.is, parts ∙ sym test)

  -- one more that isn't offered
  pub none_further : (from k : ℕ) → NoneOffered p a node from k → (x : Contribution) → slice_get p.rules.contributions k ≡ Some x → is_offered p a node x ≡ false → NoneOffered p a node from (k + 1)
  none_further from k none x is off i y l u e = elim (cases_lt i k) [
    | inl less ↦ none i y l less e
    | inr more ↦
        let same : k ≡ i = omega (arith, more, u) in
        let one : x ≡ y = (let here : slice_get p.rules.contributions i ≡ Some x = ap (slice_get p.rules.contributions) (sym same) ∙ is in cc) in
        subst (λ (z : Contribution). is_offered p a node z ≡ false) one off
  ]

  -- a contribution to another attribute isn't offered
  other_target : (b c : Bool) → (b ≡ true → ⊥) → (b && c) ≡ false
  other_target true c h = absurd (h refl)
  other_target false c h = refl

  unoffered : (x : Contribution) → (x.target.0 ≡ a → ⊥) → is_offered p a node x ≡ false
  unoffered x other = other_target (x.target.0 == a) (is_of_class p x.class (Source node)) (λ e. other (eqb-true x.target.0 a e))

  module _ {rules : RuleSet} (same : rules ≡ p.rules) where
    -- so none is, between one to the attribute and the next
    pub none_to : (from first k : ℕ) → NoneOffered p a node from first → ((j : ℕ) → first ≤ j → j < k → ¬ IsFor rules a j) → NoneOffered p a node from k
    none_to from first k none between i y l u is = elim (cases_lt i first) [
      | inl less ↦ none i y l less is
      | inr more ↦ unoffered y (λ e. between i more u (y, subst (λ (r : RuleSet). slice_get r.contributions i ≡ Some y) (sym same) is, e))
    ]

    -- and the next is where the node is of its class
    pub next_is : (k : ℕ) → IsFor rules a k → {c : kept.Contribution} → IsContributionAt rules k c → {tree : List Node} → tree ≡ p.tree → (d : ClassId) → class_in tree node ≡ Some d → {b : Bool} → b ≡ is_sub p.grammar d.0 c.class.0
        → (x : Contribution) × (slice_get p.rules.contributions k ≡ Some x) × (is_offered p a node x ≡ b)
    next_is k for {c} is tree_same d class test =
        let one : is.contribution ≡ for.0 = same_Some is.contribution for.0 (sym is.is ∙ for.1) in
        let target : c.target.0 ≡ a = ap (λ (t : AttrId). t.0) is.target ∙ ap (λ (x : Contribution). x.target.0) one ∙ for.2 in
        offered_is same is tree_same d class (test ∙ ap (λ (e : Bool). e && is_sub p.grammar d.0 c.class.0) (sym (eq-eqb c.target.0 a target)))

  -- past contributions that aren't offered no more is offered before
  skipped : (r d from to : ℕ) → from + d ≡ to → to ≤ length p.rules.contributions → NoneOffered p a node from to → offers_before p a r node to ≡ offers_before p a r node from
  skipped r zero from to e l none = let same : to ≡ from = omega (arith, e) in ap (offers_before p a r node) same
  skipped r (suc d) from to e l none =
      let last : to ≡ (from + d) + 1 = omega (arith, e) in
      let x = there p.rules.contributions (from + d) (omega (arith, e, l)) in
      let off = none (from + d) x.0 (omega arith) (omega (arith, e)) x.1 in
      ap (offers_before p a r node) last ∙ before_skipped p a r node (from + d) x.0 x.1 off ∙ skipped r d from (from + d) refl (omega (arith, e, l)) (λ k y f u is. none k y f (omega (arith, u, e)) is)

  pub skipped_to : (r from to : ℕ) → from ≤ to → to ≤ length p.rules.contributions → NoneOffered p a node from to → offers_before p a r node to ≡ offers_before p a r node from
  skipped_to r from to f l none = let same : from + (to - from) ≡ to = omega (arith, f) in skipped r (to - from) from to same l none

  -- nor at the next node
  pub skipped_node : (r from : ℕ) → r ≤ node → from ≤ length p.rules.contributions → NoneOffered p a node from (length p.rules.contributions) → offers_before p a r (node + 1) 0 ≡ offers_before p a r node from
  skipped_node r from l f none = sym (before_next p a r node l) ∙ skipped_to r from (length p.rules.contributions) f (omega arith) none

module _ (p : Program) (w : Walk) (h : IsStanding p w) where
  abbrev moved : ℕ → ℕ → Walk
  moved node k = record { attribute = w.attribute; root = w.root; node = node; contribution = k; notes = w.notes }

  module _ (node k : ℕ) (n : IsNext p w.attribute w.node w.contribution (end_in p.tree w.root) node k) (within : k < length p.rules.contributions) where
    -- it stands at the next
    pub stands_next : IsStanding p (moved node k)
    stands_next = let from = h.from in let after = n.after in let before = n.before in record { inside = h.inside; from = omega (arith, from, after); to = omega (arith, before); within = omega (arith, within); ended = λ e. absurd (omega (arith, e, before)) }

    pub passed_next : passed_by p (moved node k) ≡ passed_by p w
    passed_next = n.same w.root h.from

    pub offered_next : IsOfferedAt p (moved node k)
    offered_next = record { contribution = n.contribution; is = n.is; offered = n.offered }

  -- or at the end
  pub stands_last : (end : ℕ) → end ≡ end_in p.tree w.root → IsStanding p (moved end 0)
  stands_last end e = let from = h.from in let to = h.to in record { inside = h.inside; from = omega (arith, e, from, to); to = omega (arith, e); within = omega arith; ended = λ same. refl }
