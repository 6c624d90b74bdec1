-- The places so far, and those that are left, are all.
use Rattle.std.proofs.Common.{◌≡◌, ◌++◌, length, map}
use Rattle.equation_law.specs.Codes.{IsRow, Naming, codes_in, single_by}
use Rattle.inherited_walk.specs.Sites.{index_values}
use Rattle.expr_eval.proofs.binding.push_places.Given as goal

abbrev pub invariant-loop-place : goal.invariant-loop-place
invariant-loop-place l = record {
  row : IsRow l.given;
  all : (n : Naming) → map (single_by n) l.names.items ++ index_values l.given ≡ map (single_by n) l.fn.names.items ++ index_values l.fn.outer;
}

abbrev pub decreases-loop-place : goal.decreases-loop-place
decreases-loop-place l = length (codes_in l.given)
