-- Equations that are kept for what hangs by something and for attributes.
use Rattle.std.proofs.Common.{◌≡◌, ℕ, Bool, true, false, ◌&&◌, ◌==◌, cond, Option, Some, None, is_some, refl, ap, sym, ◌∙◌, arith}
use Rattle.std.specs.HashMap.{HashMap, Updates, get_by}
use Rattle.std.specs.Option.{option_map, option_or}
use Rattle.std.proofs.lemmas.Bool.{and_parts, eqb-true}
use Rattle.std.proofs.lemmas.Bool.Decides.{nat_tests}
use Rattle.attr_rules.specs.declared.dispatch.Reach.{Reach}
use Rattle.attr_rules.specs.declared.dispatch.Reach.TheVariants.{Own, Component as AtComponent, Created as AtCreated, Children}
use Rattle.attr_rules.specs.declared.dispatch.Via.{Via}
use Rattle.attr_rules.specs.declared.dispatch.Via.TheVariants.{Component as ByComponent, Created as ByCreated}
use Rattle.attr_rules.specs.declared.kinds.EqId.{EqId}
use Rattle.attr_rules.specs.declared.covering.Key.{Key}
use Rattle.attr_rules.specs.contracts.dispatch.ReachPartialEq.TheImpl as reaches
use Rattle.attr_rules.specs.contracts.dispatch.ViaPartialEq.TheImpl as vias
use Rattle.attr_rules.specs.contracts.covering.KeyPartialEq.TheImpl as equality
use Rattle.attr_rules.specs.Dispatching.{KeepsFirst, kept_for}
use Rattle.attr_rules.specs.Rules.{number_of_equation, same_reach, same_via}
use Rattle.attr_rules.proofs.FirstPlaces.{or_none}

pub same_as : (r q : Reach) → reaches.ghosts.eq r q ≡ same_reach r q
same_as Own Own = refl
same_as Own (AtComponent k) = refl
same_as Own (AtCreated b) = refl
same_as Own Children = refl
same_as (AtComponent j) Own = refl
same_as (AtComponent j) (AtComponent k) = refl
same_as (AtComponent j) (AtCreated b) = refl
same_as (AtComponent j) Children = refl
same_as (AtCreated a) Own = refl
same_as (AtCreated a) (AtComponent k) = refl
same_as (AtCreated a) (AtCreated b) = refl
same_as (AtCreated a) Children = refl
same_as Children Own = refl
same_as Children (AtComponent k) = refl
same_as Children (AtCreated b) = refl
same_as Children Children = refl

pub turned : (a b : ℕ) → (a == b) ≡ (b == a)
turned a b = grind (arith, nat_tests)

-- which of two comes first makes no difference
pub reach_turned : (r q : Reach) → same_reach r q ≡ same_reach q r
reach_turned Own Own = refl
reach_turned Own (AtComponent k) = refl
reach_turned Own (AtCreated b) = refl
reach_turned Own Children = refl
reach_turned (AtComponent j) Own = refl
reach_turned (AtComponent j) (AtComponent k) = turned j.0 k.0
reach_turned (AtComponent j) (AtCreated b) = refl
reach_turned (AtComponent j) Children = refl
reach_turned (AtCreated a) Own = refl
reach_turned (AtCreated a) (AtComponent k) = refl
reach_turned (AtCreated a) (AtCreated b) = turned a.0 b.0
reach_turned (AtCreated a) Children = refl
reach_turned Children Own = refl
reach_turned Children (AtComponent k) = refl
reach_turned Children (AtCreated b) = refl
reach_turned Children Children = refl

via_turned : (u v : Via) → same_via u v ≡ same_via v u
via_turned (ByComponent j) (ByComponent k) = turned j.0 k.0
via_turned (ByComponent j) (ByCreated b) = refl
via_turned (ByCreated a) (ByComponent k) = refl
via_turned (ByCreated a) (ByCreated b) = turned a.0 b.0

-- what is the same by the test is the same
via_is : (u v : Via) → same_via u v ≡ true → u ≡ v
via_is (ByComponent j) (ByComponent k) e = ap (λ n. ByComponent (record { 0 = n })) (eqb-true j.0 k.0 e)
via_is (ByComponent j) (ByCreated b) e = absurd cc
via_is (ByCreated a) (ByComponent k) e = absurd cc
via_is (ByCreated a) (ByCreated b) e = ap (λ n. ByCreated (record { 0 = n })) (eqb-true a.0 b.0 e)

pub swap : (a b c : Bool) → (a && (b && c)) ≡ (b && (a && c))
swap true true c = refl
swap true false c = refl
swap false true c = refl
swap false false c = refl

abbrev keyed : Via → ℕ → Key
keyed v a = record { via = v; attribute = record { 0 = a } }

-- the test of a key in the other order
abbrev for_both : Via → ℕ → Key → Bool
for_both v a key = same_via key.via v && (key.attribute.0 == a)

-- how two keys are compared
via_as : (u v : Via) → vias.ghosts.eq u v ≡ same_via u v
via_as (ByComponent j) (ByComponent k) = refl
via_as (ByComponent j) (ByCreated b) = refl
via_as (ByCreated a) (ByComponent k) = refl
via_as (ByCreated a) (ByCreated b) = refl

key_test : (q key : Key) → equality.ghosts.eq q key ≡ for_both q.via q.attribute.0 key
key_test q key i = (via_as q.via key.via ∙ via_turned q.via key.via) i && turned q.attribute.0 key.attribute.0 i

-- an equation is added where none is kept for the same
added : (o : Option EqId) (e : EqId) (b : Bool) → (b ≡ true → option_map number_of_equation o ≡ None) → option_map number_of_equation (cond b (Some e) o) ≡ option_or (option_map number_of_equation o) (cond b (Some e.0) None)
added o e true free = sym (ap (λ p. option_or p (Some e.0)) (free refl))
added o e false free = sym (or_none (option_map number_of_equation o))

-- what isn't there
none_kept : (o : Option EqId) → is_some o ≡ false → option_map number_of_equation o ≡ None
none_kept None h = refl
none_kept (Some e) h = absurd cc

module _ {S : Type 0} where
  -- what a key finds is what is kept for the same
  pub by_key : (m : HashMap Key EqId S) (q : Key) → option_map number_of_equation (get_by (equality.ghosts.eq q) m) ≡ kept_for m.entries q.via q.attribute.0
  by_key m q = ap (λ (test : Key → Bool). option_map number_of_equation (get_by test m)) (λ i key. key_test q key i)

  -- what is found for the same as a key
  found_same : (key : Key) (m : HashMap Key EqId S) (v : Via) (a : ℕ) → (same_via key.via v && (key.attribute.0 == a)) ≡ true → get_by (equality.ghosts.eq (keyed v a)) m ≡ get_by (equality.ghosts.eq key) m
  found_same key m v a is =
      let two = and_parts (same_via key.via v) (key.attribute.0 == a) is in
      sym (λ i. get_by (equality.ghosts.eq (keyed (via_is key.via v two.0 i) (eqb-true key.attribute.0 a two.1 i))) m)

  pub kept_now : (key : Key) (e : EqId) (m n : HashMap Key EqId S) {b : Bool} → b ≡ is_some (get_by (equality.ghosts.eq key) m) → b ≡ false → Updates equality.ghosts.eq m n key (Some e) → KeepsFirst key e m n
  kept_now key e m n {b} is free u v a =
      let q : Key = keyed v a in
      let same : Bool = same_via key.via v && (key.attribute.0 == a) in
      let now : kept_for n.entries v a ≡ option_map number_of_equation (cond same (Some e) (get_by (equality.ghosts.eq q) m)) = sym (by_key n q) ∙ ap (option_map number_of_equation) (u.0 q)
      ∙ ap (λ b. option_map number_of_equation (cond b (Some e) (get_by (equality.ghosts.eq q) m))) (λ i. via_as key.via v i && (key.attribute.0 == a)) in
      now ∙ added (get_by (equality.ghosts.eq q) m) e same (λ h. ap (option_map number_of_equation) (found_same key m v a h) ∙ none_kept (get_by (equality.ghosts.eq key) m) (sym is ∙ free))
      ∙ ap (λ o. option_or o (cond same (Some e.0) None)) (by_key m q)
