-- The attributes so far stand in the list.
use Rattle.std.proofs.Common.{◌≡◌, ℕ, List, ◌+◌, ◌*◌, ◌≤◌, ◌++◌, drop, length, map}
use Rattle.ast_grammar.specs.Grammar.{superclasses_of}
use Rattle.tree_arena.specs.Nodes.{most_nodes}
use Rattle.equation_law.specs.Program.{attribute_instances}
use Rattle.equation_law.specs.Systems.{program_of}
use Rattle.plain_rounds.specs.Named.{name_in}
use Rattle.plain_rounds.proofs.listing.push_attributes.Given as goal

abbrev pub invariant-loop-number : goal.invariant-loop-number
invariant-loop-number l = record {
  listed : (texts : ℕ → List ℕ) → map (name_in texts) l.names.items ++ attribute_instances (superclasses_of (program_of l.system).grammar) (drop l.number (program_of l.system).rules.attributes) l.number (program_of l.system).tree
      ≡ map (name_in texts) l.initial.names.items ++ attribute_instances (superclasses_of (program_of l.system).grammar) (program_of l.system).rules.attributes 0 (program_of l.system).tree;
  few : length l.names.items ≤ length l.initial.names.items + l.number * most_nodes;
}
