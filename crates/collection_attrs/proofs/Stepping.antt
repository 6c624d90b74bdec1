-- A walk passes the next offer, or stands before one that is stuck.
use Rattle.std.proofs.Common.{◌≡◌, ℕ, ◌+◌, ◌^◌, ◌<◌, ◌≤◌, true, List, [], ◌∷◌, ◌++◌, Option, Some, None, IfSome, length, slice_get, refl, sym, ap, subst, arith, ◌∙◌}
use Rattle.std.specs.Option.{option_map}
use Rattle.std.proofs.lemmas.List.{length-append}
use Rattle.std.proofs.lemmas.Option.{slice_get_within}
use Rattle.attr_equations.specs.declared.contributions.Contribution as kept
use Rattle.attr_equations.specs.KeptContributions.{IsContributionAt}
use Rattle.attr_rules.specs.declared.kinds.EqId.{EqId}
use Rattle.attr_rules.specs.Expression.{Expression, Truth}
use Rattle.attr_rules.specs.Rules.{RuleSet, bodies, body_at}
use Rattle.tree_arena.specs.Nodes.{Node, end_in, most_nodes}
use Rattle.equation_law.specs.declared.coding.Instance.{Instance as CodedInstance}
use Rattle.equation_law.specs.Codes.{IsNamingOf, instance_by, reference_by}
use Rattle.equation_law.specs.Collections.{Offer}
use Rattle.equation_law.specs.Program.{Program}
use Rattle.equation_law.specs.Reading.{ByEachIn, Told}
use Rattle.collection_attrs.specs.Passed.{IsPassed}
use Rattle.collection_attrs.specs.declared.weighing.Weighed.{Weighed}
use Rattle.collection_attrs.specs.Surveys.{IsCondition, IsWeighed, IsWeighedAt}
use Rattle.collection_attrs.specs.Walks.{IsOfferStuck, IsOfferedAt, IsStanding, IsStuck, IsWalk, Walk, one_further, passed_by, with_note}
use Rattle.collection_attrs.proofs.Before.{before_offered}
use Rattle.collection_attrs.proofs.Walked.{node_within, walk_passes, walk_same}

-- ---- the condition of a contribution as it is kept

condition_from : (p : Program) (e : Expression) (g : Option EqId) → ((n : EqId) → g ≡ Some n → body_at p.rules n.0 ≡ Some e) → (g ≡ None → e ≡ Truth true) → IsCondition p g e
condition_from p e None some none = none refl
condition_from p e (Some n) some none = some n refl

known_from : (p : Program) (e : Expression) (g : Option EqId) → ((n : EqId) → g ≡ Some n → body_at p.rules n.0 ≡ Some e) → IfSome g (λ n. n.0 < length (bodies p.rules))
known_from p e None some = tt
known_from p e (Some n) some = slice_get_within (bodies p.rules) n.0 e (some n refl)

module _ (p : Program) {rules : RuleSet} (same : rules ≡ p.rules) {k : ℕ} {c : kept.Contribution} (is : IsContributionAt rules k c) where
  pub at_rules : IsContributionAt p.rules k c
  at_rules = subst (λ (r : RuleSet). IsContributionAt r k c) same is

  pub condition_is : IsCondition p c.guard at_rules.contribution.condition
  condition_is = condition_from p at_rules.contribution.condition c.guard at_rules.guard at_rules.left_out

  pub condition_known : IfSome c.guard (λ n. n.0 < length (bodies p.rules))
  condition_known = known_from p at_rules.contribution.condition c.guard at_rules.guard

  pub receiver_known : c.receiver.0 < length (bodies p.rules)
  receiver_known = slice_get_within (bodies p.rules) c.receiver.0 at_rules.contribution.receiver at_rules.receiver

  pub value_known : c.value.0 < length (bodies p.rules)
  value_known = slice_get_within (bodies p.rules) c.value.0 at_rules.contribution.value at_rules.value

-- a tree has no more nodes than there are codes of source nodes
pub few_nodes : (p : Program) {tree : List Node} {k : ℕ} → tree ≡ p.tree → k ≡ length tree → k ≤ most_nodes → length p.tree ≤ most_nodes
few_nodes p same is few = let long = ap length same in omega (arith, long, is, few)

-- ---- a step

module _ {S : Type 0} (p : Program) (t : Told S) (v w : Walk) (h : IsWalk p t v) (notes : w.notes ≡ v.notes) (stands : IsStanding p w) (same : passed_by p w ≡ passed_by p v) where
  -- where it has come to by seeking it has passed no more
  pub sought : IsWalk p t w
  sought = walk_same p t v w h stands notes same

  notes_stay : (r : Option ℕ) → length v.notes ≤ length (with_note w r)
  notes_stay None = let e = ap length notes in omega (arith, e)
  notes_stay (Some r) = let e = ap length notes in omega (arith, e, length-append w.notes (record { node = w.node; contribution = w.contribution; receiver = r } ∷ []))

  -- what a walk is that has passed one more
  pub record IsFurther (u : Walk) : Type 0 where
    pub walk : IsWalk p t u
    pub more : length (passed_by p v) < length (passed_by p u)
    pub longer : length v.notes ≤ length u.notes

  module _ (code : w.node + 1 < 2 ^ 32) (before : w.node < end_in p.tree w.root) (at : IsOfferedAt p w) where
    abbrev offer : Offer
    offer = record { contribution = at.contribution; node = w.node }

    -- past an offer that was weighed, which is noted where it has a receiver
    pub passes : (u : Walk) (r : Option ℕ) → u ≡ one_further w r → IfSome r t.knows → ByEachIn t (λ names. IsPassed p t.has offer (option_map (reference_by names.node) r)) → IsFurther u
    passes u r is new q =
        let one : passed_by p (one_further w r) ≡ passed_by p w ++ offer ∷ [] = before_offered p w.attribute w.root w.node w.contribution at.contribution at.is at.offered in
        let long = ap length same in
        let one_longer = ap length one in
        subst IsFurther (sym is) (record {
          walk = walk_passes p t w at.contribution r sought code before at.is (slice_get_within p.rules.contributions w.contribution at.contribution at.is) at.offered new q;
          more = omega (arith, long, one_longer, length-append (passed_by p w) (offer ∷ []));
          longer = notes_stay r;
        })

    -- or before one that is stuck
    pub stands_before : (j : CodedInstance) → ByEachIn t (λ names. IsOfferStuck p t.has offer (instance_by p names j)) → IsStuck p t w j
    stands_before j s = record { before = before; is = at; stuck = s }

-- what was weighed of the offer at which a walk stands
pub weighed_at : {S : Type 0} (p : Program) (t : Told S) → ByEachIn t (IsNamingOf p) → length p.tree ≤ most_nodes → (w : Walk) (n k : ℕ) → IsStanding p w → w.node < end_in p.tree w.root → n ≡ w.node → k ≡ w.contribution → (at : IsOfferedAt p w) → {x y : Weighed} → x ≡ y → IsWeighedAt p t k n x
    → IsWeighed p t (record { contribution = at.contribution; node = w.node }) y
weighed_at p t named few w n k stands before node number at {x} is weighed =
    subst (IsWeighed p t (record { contribution = at.contribution; node = w.node })) is
    (subst (λ (m : ℕ). IsWeighed p t (record { contribution = at.contribution; node = m }) x) node (weighed at.contribution (ap (slice_get p.rules.contributions) number ∙ at.is) (λ names in_it. (named names in_it).sources n (let within = node_within p t w stands before in omega (arith, node, within, few)))))

-- a node that has a code
pub code_of : {n m : ℕ} → n ≡ m → n + 1 < 2 ^ 32 → m + 1 < 2 ^ 32
code_of is few = omega (arith, is, few)
