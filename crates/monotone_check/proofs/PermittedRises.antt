-- Where calls of circular attributes stand in permitted positions, a well made expression rises.
use Rattle.std.proofs.Common.{◌≡◌, ℕ, [], Bool, true, false, not, ◌&&◌, get_or, subst, Option, Some, None, refl}
use Rattle.std.proofs.lemmas.Bool.{and_parts}
use Rattle.rag_io.specs.declared.Place.{Place}
use Rattle.attr_rules.specs.Expression.{Expression}
use Rattle.attr_rules.specs.Rising as rising
use Rattle.attr_rules.specs.Rising.{IsRising, has_call, is_bottom}
use Rattle.attr_rules.specs.Rules.{EquationsMadeWell, EquationsRise, RuleSet}
use Rattle.attr_rules.specs.WellMade.{IsWellMade, is_placed}
use Rattle.monotone_check.specs.Equations.{equations_broken, is_circular}
use Rattle.monotone_check.specs.Permitted.{IsPermitted, without, call, and, or, or_both, choice, any, all, any_of_set, all_of_set, each, each_of_set, union, inter, minus, contains}
use Rattle.monotone_check.proofs.PermittedEquations.{accepted}

none_called : (b : Bool) → not b ≡ true → b ≡ false
none_called true h = cc
none_called false h = refl

-- an else part without a place is the literal
literal : (place : Option Place) (b : Expression) → is_placed place b ≡ true → place ≡ None → is_bottom b ≡ true
literal None b h k = h
literal (Some p) b h k = cc

pub rises : (circular : ℕ → Bool) {e : Expression} → IsPermitted circular e → IsWellMade circular e → IsRising circular e
rises circular (without h) w = rising.without h
rises circular (call a place h k) w = rising.call a place h k
rises circular (and p q) w = let parts = and_parts _ _ w in rising.and (rises circular p parts.0) (rises circular q parts.1)
rises circular (or {a} p q) w = let left = and_parts _ _ w in let parts = and_parts _ _ left.1 in rising.or (none_called (has_call circular a) left.0) (rises circular q parts.1)
rises circular (or_both {a} p q) w = let both = and_parts (has_call circular a) _ w in let parts = and_parts _ _ both.1 in rising.or_both (rises circular p parts.0) (rises circular q parts.1)
rises circular (choice {c} {a} {b} place p q r h) w =
    let last = and_parts (is_placed place b) _ w in
    let parts = and_parts _ _ last.1 in
    let others = and_parts _ _ parts.1 in
    rising.choice place (rises circular p parts.0) (rises circular q others.0) (rises circular r others.1) (λ k. literal place b last.0 (h k))
rises circular (any k h p) w = rising.any k h (rises circular p (and_parts _ _ w).1)
rises circular (all k h p) w = rising.all k h (rises circular p (and_parts _ _ w).1)
rises circular (any_of_set p q) w = let parts = and_parts _ _ w in rising.any_of_set (rises circular p parts.0) (rises circular q parts.1)
rises circular (all_of_set h p) w = rising.all_of_set h (rises circular p (and_parts _ _ w).1)
rises circular (each t k h p) w = rising.each t k h (rises circular p (and_parts _ _ w).1)
rises circular (each_of_set t p q) w = let parts = and_parts _ _ w in rising.each_of_set t (rises circular p parts.0) (rises circular q parts.1)
rises circular (union t p q) w = let parts = and_parts _ _ w in rising.union t (rises circular p parts.0) (rises circular q parts.1)
rises circular (inter t p q) w = let parts = and_parts _ _ w in rising.inter t (rises circular p parts.0) (rises circular q parts.1)
rises circular (minus t p h) w = rising.minus t (rises circular p (and_parts _ _ w).0) h
rises circular (contains p h) w = rising.contains (rises circular p (and_parts _ _ w).0) h

-- the equations of circular attributes that break nothing and are well made rise
pub equations_rise : (rules : RuleSet) → EquationsMadeWell rules → equations_broken rules ≡ [] → EquationsRise rules
equations_rise rules made h k d lt circular =
    rises (is_circular rules) (accepted rules h k d lt circular) (subst (λ (c : Bool). IsWellMade (λ n. c && is_circular rules n) (get_or rules.equations k d).body) circular (made k d lt))

pub permitted_rises : (circular : ℕ → Bool) (e : Expression) → IsPermitted circular e → IsWellMade circular e → IsRising circular e
permitted_rises circular e p w = rises circular p w
