use Rattle.std.proofs.Common.{◌≡◌, ◌-◌, ◌<◌, [], reverse, take, get_or}
use Rattle.ll_parser.specs.Stack.{rows_of, Sofar, Ready}
use Rattle.ll_parser.proofs.Coding.{AreRead}
use Rattle.ll_parser.proofs.parser.parse.Given as goal

abbrev pub ghost-advance : goal.ghost-advance
ghost-advance g a = g.facts

abbrev pub invariant-tokens : goal.invariant-tokens
invariant-tokens g l = record {
  sofar : Sofar (rows_of l.table) l.n (take l.i l.codes) (reverse l.stack.items) l.events.items;
  ready : Ready (rows_of l.table) g.facts (reverse l.stack.items);
  read : AreRead (take l.i l.codes) l.events.items;
  over : 0 < l.i → get_or l.codes (l.i - 1) 1 ≡ 0 → reverse l.stack.items ≡ [];
}
