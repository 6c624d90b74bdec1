-- The nodes so far stand in the list, and the rest of the class and of its subclasses are those from here on.
use Rattle.std.proofs.Common.{◌≡◌, ℕ, List, ◌+◌, ◌≤◌, ◌++◌, drop, length, map}
use Rattle.ast_grammar.specs.Grammar.{superclasses_of}
use Rattle.equation_law.specs.Program.{at_source, nodes_of}
use Rattle.plain_rounds.specs.Named.{name_in}
use Rattle.plain_rounds.proofs.listing.push_nodes.Given as goal

abbrev pub invariant-loop-node : goal.invariant-loop-node
invariant-loop-node l = record {
  listed : (texts : ℕ → List ℕ) → map (name_in texts) l.names.items ++ map (at_source l.attr.0) (nodes_of (superclasses_of l.grammar) (drop l.node l.tree) l.class l.node) ≡ map (name_in texts) l.initial.names.items ++ map (at_source l.attr.0) (nodes_of (superclasses_of l.grammar) l.tree l.class 0);
  few : length l.names.items ≤ length l.initial.names.items + l.node;
}
