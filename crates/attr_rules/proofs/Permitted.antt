-- The test of rising expressions tells which they are.
use Rattle.std.proofs.Common.{◌≡◌, ℕ, Bool, true, false, not, ◌&&◌, ◌||◌, refl}
use Rattle.attr_rules.specs.declared.expression.Quantifier.TheVariants.{Any, All, First}
use Rattle.attr_rules.specs.declared.expression.SetOperator.TheVariants.{Union, Inter, Minus}
use Rattle.attr_rules.specs.Expression.{Expression, Truth, Int, Text, Null, Empty, This, Variable, Source, Child, Element, Count, Has, Token, Call, Cast, InstanceOf, Quantified, QuantifiedSet, Each, EachOfSet, Sets, Single, Contains, Size, Not, Negate, Binary, And, Or, OrBoth, If, New}
use Rattle.attr_rules.specs.Rising.{IsRising, has_call, have_call, is_bottom, rises}
use Rattle.attr_rules.specs.Rising as rising

not_true : (a : Bool) → not a ≡ true → a ≡ false
not_true true e = cc
not_true false e = refl

denied : (a : Bool) → a ≡ false → not a ≡ true
denied true e = cc
denied false e = refl

both : (a b : Bool) → (a && b) ≡ true → (a ≡ true) × (b ≡ true)
both true b e = (refl, e)
both false b e = cc

and : (a b : Bool) → a ≡ true → b ≡ true → (a && b) ≡ true
and true b e f = f
and false b e f = cc

-- neither of two holds
pub neither : (a b : Bool) → (a || b) ≡ false → (a ≡ false) × (b ≡ false)
neither true b e = cc
neither false b e = (refl, e)

none_of : (a b : Bool) → a ≡ false → b ≡ false → (a || b) ≡ false
none_of true b e f = cc
none_of false b e f = f

implied : (a b : Bool) → (not a || b) ≡ true → a ≡ true → b ≡ true
implied true b e f = e
implied false b e f = cc

left_out : (a b : Bool) → a ≡ false → (not a || b) ≡ true
left_out true b e = cc
left_out false b e = refl

or_implied : (a b : Bool) → (a ≡ true → b ≡ true) → (not a || b) ≡ true
or_implied true b f = f refl
or_implied false b f = refl

module _ (circular : ℕ → Bool) where
  -- an expression without such a call rises
  quiet_rises : (e : Expression) → has_call circular e ≡ false → rises circular e ≡ true
  quiet_rises (Truth b) q = refl
  quiet_rises (Int z) q = refl
  quiet_rises (Text n) q = refl
  quiet_rises Null q = refl
  quiet_rises Empty q = refl
  quiet_rises This q = refl
  quiet_rises (Variable k) q = refl
  quiet_rises (Source k) q = refl
  quiet_rises (Child k e) q = denied _ q
  quiet_rises (Element k e i) q = denied _ q
  quiet_rises (Count k e) q = denied _ q
  quiet_rises (Has k e) q = denied _ q
  quiet_rises (Token t k e) q = denied _ q
  quiet_rises (Call a at e es) q = denied _ (neither (circular a) _ q).1
  quiet_rises (Cast c e) q = denied _ q
  quiet_rises (InstanceOf c e) q = denied _ q
  quiet_rises (Quantified Any k e b) q = let n = neither (has_call circular e) _ q in and _ _ (denied _ n.0) (quiet_rises b n.1)
  quiet_rises (Quantified All k e b) q = let n = neither (has_call circular e) _ q in and _ _ (denied _ n.0) (quiet_rises b n.1)
  quiet_rises (Quantified First k e b) q = let n = neither (has_call circular e) _ q in and _ _ (denied _ n.0) (denied _ n.1)
  quiet_rises (QuantifiedSet Any e b) q = let n = neither (has_call circular e) _ q in and _ _ (quiet_rises e n.0) (quiet_rises b n.1)
  quiet_rises (QuantifiedSet All e b) q = let n = neither (has_call circular e) _ q in and _ _ (denied _ n.0) (quiet_rises b n.1)
  quiet_rises (QuantifiedSet First e b) q = let n = neither (has_call circular e) _ q in and _ _ (denied _ n.0) (denied _ n.1)
  quiet_rises (Each t k e b) q = let n = neither (has_call circular e) _ q in and _ _ (denied _ n.0) (quiet_rises b n.1)
  quiet_rises (EachOfSet t e b) q = let n = neither (has_call circular e) _ q in and _ _ (quiet_rises e n.0) (quiet_rises b n.1)
  quiet_rises (Sets Union t a b) q = let n = neither (has_call circular a) _ q in and _ _ (quiet_rises a n.0) (quiet_rises b n.1)
  quiet_rises (Sets Inter t a b) q = let n = neither (has_call circular a) _ q in and _ _ (quiet_rises a n.0) (quiet_rises b n.1)
  quiet_rises (Sets Minus t a b) q = let n = neither (has_call circular a) _ q in and _ _ (quiet_rises a n.0) (denied _ n.1)
  quiet_rises (Single e) q = denied _ q
  quiet_rises (Contains a b) q = let n = neither (has_call circular a) _ q in and _ _ (quiet_rises a n.0) (denied _ n.1)
  quiet_rises (Size e) q = denied _ q
  quiet_rises (Not e) q = denied _ q
  quiet_rises (Negate e) q = denied _ q
  quiet_rises (Binary o a b) q = denied _ q
  quiet_rises (And a b) q = let n = neither (has_call circular a) _ q in and _ _ (quiet_rises a n.0) (quiet_rises b n.1)
  quiet_rises (Or a b) q = let n = neither (has_call circular a) _ q in and _ _ (denied _ n.0) (quiet_rises b n.1)
  quiet_rises (OrBoth a b) q = let n = neither (has_call circular a) _ q in and _ _ (quiet_rises a n.0) (quiet_rises b n.1)
  quiet_rises (If c a at b) q =
      let n = neither (has_call circular c) _ q in
      let m = neither (has_call circular a) _ n.1 in
      and _ _ (quiet_rises c n.0) (and _ _ (quiet_rises a m.0) (and _ _ (quiet_rises b m.1) (left_out (has_call circular c) (is_bottom b) n.0)))
  quiet_rises (New c parts) q = denied _ q

  -- what passes the test rises
  pub test_rising : (e : Expression) → rises circular e ≡ true → IsRising circular e
  test_rising (Truth b) t = rising.without refl
  test_rising (Int z) t = rising.without refl
  test_rising (Text n) t = rising.without refl
  test_rising Null t = rising.without refl
  test_rising Empty t = rising.without refl
  test_rising This t = rising.without refl
  test_rising (Variable k) t = rising.without refl
  test_rising (Source k) t = rising.without refl
  test_rising (Child k e) t = rising.without (not_true _ t)
  test_rising (Element k e i) t = rising.without (not_true _ t)
  test_rising (Count k e) t = rising.without (not_true _ t)
  test_rising (Has k e) t = rising.without (not_true _ t)
  test_rising (Token u k e) t = rising.without (not_true _ t)
  test_rising (Call a at e es) t = let n = neither (has_call circular e) _ (not_true _ t) in rising.call a at n.0 n.1
  test_rising (Cast c e) t = rising.without (not_true _ t)
  test_rising (InstanceOf c e) t = rising.without (not_true _ t)
  test_rising (Quantified Any k e b) t = let n = both (not (has_call circular e)) _ t in rising.any k (not_true _ n.0) (test_rising b n.1)
  test_rising (Quantified All k e b) t = let n = both (not (has_call circular e)) _ t in rising.all k (not_true _ n.0) (test_rising b n.1)
  test_rising (Quantified First k e b) t = let n = both (not (has_call circular e)) _ t in rising.without (none_of _ _ (not_true _ n.0) (not_true _ n.1))
  test_rising (QuantifiedSet Any e b) t = let n = both (rises circular e) _ t in rising.any_of_set (test_rising e n.0) (test_rising b n.1)
  test_rising (QuantifiedSet All e b) t = let n = both (not (has_call circular e)) _ t in rising.all_of_set (not_true _ n.0) (test_rising b n.1)
  test_rising (QuantifiedSet First e b) t = let n = both (not (has_call circular e)) _ t in rising.without (none_of _ _ (not_true _ n.0) (not_true _ n.1))
  test_rising (Each u k e b) t = let n = both (not (has_call circular e)) _ t in rising.each u k (not_true _ n.0) (test_rising b n.1)
  test_rising (EachOfSet u e b) t = let n = both (rises circular e) _ t in rising.each_of_set u (test_rising e n.0) (test_rising b n.1)
  test_rising (Sets Union u a b) t = let n = both (rises circular a) _ t in rising.union u (test_rising a n.0) (test_rising b n.1)
  test_rising (Sets Inter u a b) t = let n = both (rises circular a) _ t in rising.inter u (test_rising a n.0) (test_rising b n.1)
  test_rising (Sets Minus u a b) t = let n = both (rises circular a) _ t in rising.minus u (test_rising a n.0) (not_true _ n.1)
  test_rising (Single e) t = rising.without (not_true _ t)
  test_rising (Contains a b) t = let n = both (rises circular a) _ t in rising.contains (test_rising a n.0) (not_true _ n.1)
  test_rising (Size e) t = rising.without (not_true _ t)
  test_rising (Not e) t = rising.without (not_true _ t)
  test_rising (Negate e) t = rising.without (not_true _ t)
  test_rising (Binary o a b) t = rising.without (not_true _ t)
  test_rising (And a b) t = let n = both (rises circular a) _ t in rising.and (test_rising a n.0) (test_rising b n.1)
  test_rising (Or a b) t = let n = both (not (has_call circular a)) _ t in rising.or (not_true _ n.0) (test_rising b n.1)
  test_rising (OrBoth a b) t = let n = both (rises circular a) _ t in rising.or_both (test_rising a n.0) (test_rising b n.1)
  test_rising (If c a at b) t =
      let n = both (rises circular c) _ t in
      let m = both (rises circular a) _ n.1 in
      let o = both (rises circular b) _ m.1 in
      rising.choice at (test_rising c n.0) (test_rising a m.0) (test_rising b o.0) (implied (has_call circular c) (is_bottom b) o.1)
  test_rising (New c parts) t = rising.without (not_true _ t)

  -- what rises passes the test
  pub rising_test : {e : Expression} → IsRising circular e → rises circular e ≡ true
  rising_test (rising.without {e = e} q) = quiet_rises e q
  rising_test (rising.call {e = e} {es = es} a at q r) = denied _ (none_of (has_call circular e) (have_call circular es) q r)
  rising_test (rising.and r s) = and _ _ (rising_test r) (rising_test s)
  rising_test (rising.or q s) = and _ _ (denied _ q) (rising_test s)
  rising_test (rising.or_both r s) = and _ _ (rising_test r) (rising_test s)
  rising_test (rising.choice {c = c} {b = b} at q r s f) = and _ _ (rising_test q) (and _ _ (rising_test r) (and _ _ (rising_test s) (or_implied (has_call circular c) (is_bottom b) f)))
  rising_test (rising.any k q r) = and _ _ (denied _ q) (rising_test r)
  rising_test (rising.all k q r) = and _ _ (denied _ q) (rising_test r)
  rising_test (rising.any_of_set r s) = and _ _ (rising_test r) (rising_test s)
  rising_test (rising.all_of_set q r) = and _ _ (denied _ q) (rising_test r)
  rising_test (rising.each t k q r) = and _ _ (denied _ q) (rising_test r)
  rising_test (rising.each_of_set t r s) = and _ _ (rising_test r) (rising_test s)
  rising_test (rising.union t r s) = and _ _ (rising_test r) (rising_test s)
  rising_test (rising.inter t r s) = and _ _ (rising_test r) (rising_test s)
  rising_test (rising.minus t r q) = and _ _ (rising_test r) (denied _ q)
  rising_test (rising.contains r q) = and _ _ (rising_test r) (denied _ q)
