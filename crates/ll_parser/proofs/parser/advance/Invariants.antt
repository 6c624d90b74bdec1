use Rattle.std.proofs.Common.{reverse}
use Rattle.ll_parser.specs.Table.{cost}
use Rattle.ll_parser.specs.Stack.{rows_of, Leads, Ready, Kept}
use Rattle.ll_parser.proofs.parser.advance.Given as goal

abbrev pub invariant-steps : goal.invariant-steps
invariant-steps g l = record {
  leads : Leads (rows_of l.table) l.t (reverse l.initial.stack.items) l.initial.events.items (reverse l.stack.items) l.events.items;
  kept : Kept l.initial.events.items l.events.items;
  ready : Ready (rows_of l.table) g.facts (reverse l.stack.items);
}

abbrev pub decreases-steps : goal.decreases-steps
decreases-steps g l = cost g.facts (reverse l.stack.items) 0
