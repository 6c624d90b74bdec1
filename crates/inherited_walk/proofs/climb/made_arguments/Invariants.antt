-- The arguments so far are the first of those with which the node was made.
use Rattle.std.proofs.Common.{◌≡◌, ◌+◌, ℕ, IsSome, length}
use Rattle.attr_rules.specs.Types.{parameter_kinds}
use Rattle.equation_law.specs.Codes.{IsRow, codes_in, reference_by}
use Rattle.equation_law.specs.Names.{At, Made, Reference, Row, list_of}
use Rattle.equation_law.specs.Program.{attribute_parameters, class_at}
use Rattle.equation_law.specs.Reading.{AreKnownCodes, ByEachIn, Grows}
use Rattle.equation_law.specs.Systems.{program_of}
use Rattle.inherited_walk.proofs.Arguments.{AreRead}
use Rattle.inherited_walk.proofs.climb.made_arguments.Given as goal

abbrev pub invariant-loop-node : goal.invariant-loop-node
invariant-loop-node g l = record {
  kept : Grows (program_of l.system) (g.R.Reader.tells l.initial.reader) (g.R.Reader.tells l.reader);
  row : IsRow l.args;
  count : length (codes_in l.args) + length (parameter_kinds l.wanted) ≡ length (attribute_parameters (program_of l.system) l.fn.maker.0);
  read : ByEachIn (g.R.Reader.tells l.reader) (λ n. (o : Reference) (xs : Row) (q : ℕ) → reference_by n.node l.node.0 ≡ At (Made l.fn.maker.0 o xs q) → IsSome (class_at (program_of l.system) (Made l.fn.maker.0 o xs q))
      → AreRead (program_of l.system) n (attribute_parameters (program_of l.system) l.fn.maker.0) (codes_in l.args) (list_of xs) (parameter_kinds l.wanted));
  known : ByEachIn (g.R.Reader.tells l.reader) (λ n. (o : Reference) (xs : Row) (q : ℕ) → reference_by n.node l.node.0 ≡ At (Made l.fn.maker.0 o xs q) → IsSome (class_at (program_of l.system) (Made l.fn.maker.0 o xs q))
      → AreKnownCodes (g.R.Reader.tells l.reader) (attribute_parameters (program_of l.system) l.fn.maker.0) (codes_in l.args));
}

abbrev pub decreases-loop-node : goal.decreases-loop-node
decreases-loop-node g l = length (parameter_kinds l.wanted)
