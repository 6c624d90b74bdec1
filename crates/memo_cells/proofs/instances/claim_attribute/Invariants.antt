-- The slot is that of the attribute with the arguments so far.
use Rattle.std.proofs.Common.{length, take, ◌-◌, ◌≤◌}
use Rattle.equation_law.specs.declared.coding.Instance.TheVariants.{Attr as attribute_at}
use Rattle.equation_law.specs.Codes.{codes_in}
use Rattle.memo_cells.specs.Working.{ClaimsKeysAt, GoesOn}
use Rattle.memo_cells.proofs.Ways.{IsOnWay}
use Rattle.memo_cells.proofs.instances.claim_attribute.Given as goal

abbrev pub invariant-loop-code : goal.invariant-loop-code
invariant-loop-code g l = record {
  on : GoesOn (g.W.Words.held l.fn.work) (g.W.Words.held l.work);
  few : l.place ≤ length (codes_in l.args);
  way : IsOnWay (g.W.Words.held l.fn.work).frame (g.W.Words.held l.work).view l.fn.attr.0 l.fn.node.0 (take l.place (codes_in l.args)) l.slot.0;
  claims : ClaimsKeysAt (g.W.Words.held l.fn.work) (g.W.Words.held l.work) (attribute_at l.fn.attr l.fn.node l.args);
}

abbrev pub decreases-loop-code : goal.decreases-loop-code
decreases-loop-code g l = length (codes_in l.args) - l.place
