use Rattle.std.proofs.Common.{ap, map, Some, sym, ◌∙◌, arith}
use Rattle.std.proofs.lemmas.List.{take_all}
use Rattle.attr_equations.specs.declared.contributions.KeptContribution.{KeptContribution}
use Rattle.attr_equations.specs.Offered.{key_of}
use Rattle.attr_equations.proofs.Receiving.{mapped_more}
use Rattle.attr_equations.proofs.offered.keys_of.Goals as goal

pub loop-number-preserved : goal.loop-number-preserved
loop-number-preserved c = mapped_more key_of c.args.contributions.now c.loop-number.number c.index-contributions-number.result (omega (arith, c.loop-number-test.true)) c.index-contributions-number.is c.loop-number.invariant c.in_ok-push.ensures (ap Some (c.from.ensures ∙ ap (λ (k : KeptContribution). k.numbers.target.0) (sym c.index-contributions-number.is)))

pub returns : goal.returns
returns c = c.loop-number.invariant ∙ ap (λ xs. map key_of xs) (take_all _ _ (omega (arith, c.loop-number-test.false)))
