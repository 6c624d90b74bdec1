-- The queries so far stand in the list.
use Rattle.std.proofs.Common.{◌≡◌, ℕ, List, ◌+◌, ◌≤◌, ◌++◌, drop, length, map}
use Rattle.equation_law.specs.Program.{query_instances}
use Rattle.equation_law.specs.Systems.{program_of}
use Rattle.plain_rounds.specs.Named.{name_in}
use Rattle.plain_rounds.proofs.listing.push_queries.Given as goal

abbrev pub invariant-loop-query : goal.invariant-loop-query
invariant-loop-query l = record {
  listed : (texts : ℕ → List ℕ) → map (name_in texts) l.names.items ++ query_instances (drop l.query (program_of l.system).queries) l.query ≡ map (name_in texts) l.initial.names.items ++ query_instances (program_of l.system).queries 0;
  few : length l.names.items ≤ length l.initial.names.items + l.query;
}
