-- Either file's fetch may stop both.
use Rattle.std.proofs.Common.{arith}
use Rattle.run_io.specs.Named.{seen_pair_names}
use Rattle.run_io.specs.Fetched.{StopsAll}
use Rattle.run_io.specs.Files.{pair_in_order}
use Rattle.run_io.proofs.Stopping.{handed_on, stops_all, stops_same, first_is_long, later_is_long}
use Rattle.run_io.proofs.fetching.fetch_pair.Goals as goal

pub returns-in_err-ast-clause-cause : goal.returns-in_err-ast-clause-cause
returns-in_err-ast-clause-cause g c =
    let files = g.S.Shelf.files c.args.shelf.now in
    let names = pair_in_order (seen_pair_names c.args.names) in
    handed_on c.from_residual.result (λ stop. StopsAll files names (g.S.Shelf.faults c.args.shelf.now) (g.S.Shelf.faults c.fetch.new.shelf) stop) c.from_residual.ensures (
    stops_all files names c.args.names.ast.now (g.S.Shelf.faults c.args.shelf.now) (g.S.Shelf.faults c.args.shelf.now) (g.S.Shelf.faults c.fetch.new.shelf) c.in_err-ast.field-0.0
    (omega arith) (first_is_long files c.args.names.ast.now _) c.in_err-ast.ensures.cause)

pub returns-in_err-other-clause-cause : goal.returns-in_err-other-clause-cause
returns-in_err-other-clause-cause g c =
    let files = g.S.Shelf.files c.args.shelf.now in
    let names = pair_in_order (seen_pair_names c.args.names) in
    handed_on c.from_residual-in_err-other.result (λ stop. StopsAll files names (g.S.Shelf.faults c.args.shelf.now) (g.S.Shelf.faults c.fetch-2.new.shelf) stop) c.from_residual-in_err-other.ensures (
    stops_all files names c.args.names.other.now (g.S.Shelf.faults c.args.shelf.now) (g.S.Shelf.faults c.fetch.new.shelf) (g.S.Shelf.faults c.fetch-2.new.shelf) c.in_err-other.field-0.0
    c.fetch.ensures.later
    (λ long. later_is_long files c.args.names.ast.now c.in_ok-ast.ast.items _ _ c.in_ok-ast.ensures.held (first_is_long files c.args.names.other.now _ long))
    (stops_same files (g.S.Shelf.files c.fetch.new.shelf) c.args.names.other.now _ _ c.in_err-other.field-0.0 c.fetch.ensures.files c.in_err-other.ensures.cause))
