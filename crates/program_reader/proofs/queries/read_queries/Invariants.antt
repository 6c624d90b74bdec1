use Rattle.std.proofs.Common.{◌≤◌, length, map}
use Rattle.attr_equations.specs.Kept.{rules_in}
use Rattle.attr_rules.specs.Queries.{query_of}
use Rattle.program_reader.specs.Queries.{most_lines}
use Rattle.program_reader.specs.QuerySteps.{IsSofar}
use Rattle.program_reader.proofs.queries.read_queries.Given as goal

abbrev pub decreases-lines : goal.decreases-lines
decreases-lines l = length l.rest

abbrev pub invariant-lines : goal.invariant-lines
invariant-lines l = record {
  sofar : IsSofar l.grammar (rules_in l.rules) l.tree l.bytes l.lines l.rest (map query_of l.list.items);
  few : l.lines ≤ most_lines;
  within : length l.rest ≤ length l.bytes;
}
