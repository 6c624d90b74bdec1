use Rattle.std.proofs.Common.{List, map, ap, subst, arith}
use Rattle.std.proofs.lemmas.List.{take_all}
use Rattle.groups.specs.Groups.{AreWithin}
use Rattle.attr_equations.specs.declared.contributions.KeptContribution.{KeptContribution}
use Rattle.attr_equations.specs.Offered.{key_of}
use Rattle.attr_equations.proofs.Receiving.{none_within, within_more}
use Rattle.attr_equations.proofs.offered.groups_for.Goals as goal

pub loop-number-init : goal.loop-number-init
loop-number-init c = none_within

pub loop-number-preserved : goal.loop-number-preserved
loop-number-preserved c =
    let same = ap (λ (k : KeptContribution). k.numbers.target.0) c.index-contributions-number.is in
    within_more c.args.contributions.now c.loop-number.number c.loop-number.groups c.greater-groups.result c.index-contributions-number.result (omega (arith, c.loop-number-test.true)) c.index-contributions-number.is c.loop-number.invariant c.greater-groups.ensures.first (omega (arith, same, c.greater-groups.ensures.second, c.behind.ensures))

pub returns : goal.returns
returns c = subst (λ (l : List KeptContribution). AreWithin (map key_of l) c.loop-number.groups) (take_all _ _ (omega (arith, c.loop-number-test.false))) c.loop-number.invariant
