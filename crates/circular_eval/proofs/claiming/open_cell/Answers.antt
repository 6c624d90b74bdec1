use Rattle.memo_cells.proofs.Holding.{goes_then}
use Rattle.memo_cells.proofs.Ways.{on_err}
use Rattle.circular_eval.proofs.Admitting.{cell_before, claims_before, coded_after, instance_after, known_after, lacks_before}
use Rattle.circular_eval.proofs.claiming.open_cell.Goals as goal

pub claim_instance-requires-clause-instance : goal.claim_instance-requires-clause-instance
claim_instance-requires-clause-instance g c =
    instance_after (g.W.Words.held c.args.work.now) (g.W.Words.held c.is_unclaimed-is_new.new.work) c.is_unclaimed-is_new.ensures.on.on c.args.i c.requires.instance

pub claim_instance-requires-clause-coded : goal.claim_instance-requires-clause-coded
claim_instance-requires-clause-coded g c =
    coded_after (g.W.Words.held c.args.work.now) (g.W.Words.held c.is_unclaimed-is_new.new.work) c.is_unclaimed-is_new.ensures.on.on c.args.i c.requires.coded

pub claim_instance-requires-clause-known : goal.claim_instance-requires-clause-known
claim_instance-requires-clause-known g c =
    known_after (g.W.Words.held c.args.work.now) (g.W.Words.held c.is_unclaimed-is_new.new.work) c.is_unclaimed-is_new.ensures.on.on c.args.i c.requires.known

pub returns-in_err-slot-clause-on : goal.returns-in_err-slot-clause-on
returns-in_err-slot-clause-on g c =
    goes_then (g.W.Words.held c.args.work.now) (g.W.Words.held c.is_unclaimed-is_new.new.work) (g.W.Words.held c.claim_instance.new.work) c.is_unclaimed-is_new.ensures.on.on c.claim_instance.ensures.on

pub returns-in_err-slot-clause-full : goal.returns-in_err-slot-clause-full
returns-in_err-slot-clause-full g c =
    on_err c.from_residual.result
    (lacks_before (g.W.Words.held c.args.work.now) (g.W.Words.held c.is_unclaimed-is_new.new.work) (g.W.Words.held c.claim_instance.new.work) c.is_unclaimed-is_new.ensures.on.on c.args.i c.in_err-slot.ensures.full)

pub returns-in_err-slot-clause-claims : goal.returns-in_err-slot-clause-claims
returns-in_err-slot-clause-claims g c =
    claims_before (g.W.Words.held c.args.work.now) (g.W.Words.held c.is_unclaimed-is_new.new.work) (g.W.Words.held c.claim_instance.new.work) c.is_unclaimed-is_new.ensures.on c.args.i c.claim_instance.ensures.claims

pub returns-clause-on : goal.returns-clause-on
returns-clause-on g c =
    goes_then (g.W.Words.held c.args.work.now) (g.W.Words.held c.is_unclaimed-is_new.new.work) (g.W.Words.held c.claim_instance.new.work) c.is_unclaimed-is_new.ensures.on.on c.claim_instance.ensures.on

pub returns-clause-slot : goal.returns-clause-slot
returns-clause-slot g c =
    cell_before (g.W.Words.held c.args.work.now) (g.W.Words.held c.is_unclaimed-is_new.new.work) (g.W.Words.held c.claim_instance.new.work) c.is_unclaimed-is_new.ensures.on.on c.args.i c.in_ok-slot.slot.0 c.in_ok-slot.ensures.slot

pub returns-clause-claims : goal.returns-clause-claims
returns-clause-claims g c =
    claims_before (g.W.Words.held c.args.work.now) (g.W.Words.held c.is_unclaimed-is_new.new.work) (g.W.Words.held c.claim_instance.new.work) c.is_unclaimed-is_new.ensures.on c.args.i c.claim_instance.ensures.claims
