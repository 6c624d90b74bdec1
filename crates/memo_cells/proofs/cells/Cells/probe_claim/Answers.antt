use Rattle.std.proofs.Common.{rules}
use Rattle.equation_law.specs.Systems.{program_of}
use Rattle.memo_cells.proofs.Causes.{log_then}
use Rattle.memo_cells.proofs.More.{at_least_then, claims_then, others_more, passed_on}
use Rattle.memo_cells.proofs.Naming.{formed_later}
use Rattle.memo_cells.proofs.cells.Cells.probe_claim.Goals as goal

pub hold-requires-clause-key : goal.hold-requires-clause-key
hold-requires-clause-key c = (c.requires.key.0, formed_later c.args.pass.now c.loop-place.pass c.loop-place.invariant.1 (program_of c.args.self.now.system.value) c.args.key c.requires.key.1)

pub hold-requires-clause-passed : goal.hold-requires-clause-passed
hold-requires-clause-passed c =
    passed_on c.args.self.now c.args.pass.now c.loop-place.pass c.args.key c.args.from c.args.to c.loop-place.place c.requires.led c.loop-place.invariant.1 c.loop-place.invariant.2 (search rules) (search rules)

pub returns-then-hold-key-clause-kept : goal.returns-then-hold-key-clause-kept
returns-then-hold-key-clause-kept c = at_least_then c.loop-place.invariant.1 c.hold.ensures.kept

pub returns-then-hold-key-clause-claims : goal.returns-then-hold-key-clause-claims
returns-then-hold-key-clause-claims c = claims_then c.args.pass.now c.loop-place.pass c.hold.new.pass c.args.key c.loop-place.invariant.3 c.hold.ensures.claims c.hold.ensures.kept

pub loop-place-preserved : goal.loop-place-preserved
loop-place-preserved c = (
  c.hold.ensures.own,
  at_least_then c.loop-place.invariant.1 c.hold.ensures.kept,
  others_more c.loop-place.pass c.hold.new.pass c.args.key c.args.from c.loop-place.place c.hold.result c.loop-place.invariant.2 c.hold.ensures.kept c.hold.ensures.held.1 c.hold.ensures.held.0 c.if-hold-key.false,
  claims_then c.args.pass.now c.loop-place.pass c.hold.new.pass c.args.key c.loop-place.invariant.3 c.hold.ensures.claims c.hold.ensures.kept,
  log_then c.loop-place.invariant.4 c.hold.ensures.log,
)

pub returns-then-hold-key-clause-log : goal.returns-then-hold-key-clause-log
returns-then-hold-key-clause-log c = log_then c.loop-place.invariant.4 c.hold.ensures.log
