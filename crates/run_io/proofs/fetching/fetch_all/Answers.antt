-- Each file's fetch may stop all of it; those before it were short enough.
use Rattle.std.proofs.Common.{arith, ◌∙◌}
use Rattle.run_io.specs.Named.{seen_names}
use Rattle.run_io.specs.Fetched.{StopsAll}
use Rattle.run_io.specs.Files.{in_order}
use Rattle.run_io.proofs.Stopping.{handed_on, stops_all, stops_same, holds_same, first_is_long, later_is_long}
use Rattle.run_io.proofs.fetching.fetch_all.Goals as goal

pub returns-in_err-ast-clause-cause : goal.returns-in_err-ast-clause-cause
returns-in_err-ast-clause-cause g c =
    let files = g.S.Shelf.files c.args.shelf.now in
    let names = in_order (seen_names c.args.names) in
    handed_on c.from_residual.result (λ stop. StopsAll files names (g.S.Shelf.faults c.args.shelf.now) (g.S.Shelf.faults c.fetch.new.shelf) stop) c.from_residual.ensures (
    stops_all files names c.args.names.ast.now (g.S.Shelf.faults c.args.shelf.now) (g.S.Shelf.faults c.args.shelf.now) (g.S.Shelf.faults c.fetch.new.shelf) c.in_err-ast.field-0.0
    (omega arith) (first_is_long files c.args.names.ast.now _) c.in_err-ast.ensures.cause)

pub returns-in_err-jrag-clause-cause : goal.returns-in_err-jrag-clause-cause
returns-in_err-jrag-clause-cause g c =
    let files = g.S.Shelf.files c.args.shelf.now in
    let names = in_order (seen_names c.args.names) in
    handed_on c.from_residual-in_err-jrag.result (λ stop. StopsAll files names (g.S.Shelf.faults c.args.shelf.now) (g.S.Shelf.faults c.fetch-2.new.shelf) stop) c.from_residual-in_err-jrag.ensures (
    stops_all files names c.args.names.jrag.now (g.S.Shelf.faults c.args.shelf.now) (g.S.Shelf.faults c.fetch.new.shelf) (g.S.Shelf.faults c.fetch-2.new.shelf) c.in_err-jrag.field-0.0
    c.fetch.ensures.later
    (λ long. later_is_long files c.args.names.ast.now c.in_ok-ast.ast.items _ _ c.in_ok-ast.ensures.held (first_is_long files c.args.names.jrag.now _ long))
    (stops_same files (g.S.Shelf.files c.fetch.new.shelf) c.args.names.jrag.now _ _ c.in_err-jrag.field-0.0 c.fetch.ensures.files c.in_err-jrag.ensures.cause))

pub returns-in_err-tree-clause-cause : goal.returns-in_err-tree-clause-cause
returns-in_err-tree-clause-cause g c =
    let files = g.S.Shelf.files c.args.shelf.now in
    let names = in_order (seen_names c.args.names) in
    let second = holds_same files (g.S.Shelf.files c.fetch.new.shelf) c.args.names.jrag.now c.in_ok-jrag.jrag.items c.fetch.ensures.files c.in_ok-jrag.ensures.held in
    handed_on c.from_residual-in_err-tree.result (λ stop. StopsAll files names (g.S.Shelf.faults c.args.shelf.now) (g.S.Shelf.faults c.fetch-3.new.shelf) stop) c.from_residual-in_err-tree.ensures (
    stops_all files names c.args.names.tree.now (g.S.Shelf.faults c.args.shelf.now) (g.S.Shelf.faults c.fetch-2.new.shelf) (g.S.Shelf.faults c.fetch-3.new.shelf) c.in_err-tree.field-0.0
    (omega (arith, c.fetch.ensures.later, c.fetch-2.ensures.later))
    (λ long. later_is_long files c.args.names.ast.now c.in_ok-ast.ast.items _ _ c.in_ok-ast.ensures.held (later_is_long files c.args.names.jrag.now c.in_ok-jrag.jrag.items _ _ second (first_is_long files c.args.names.tree.now _ long)))
    (stops_same files (g.S.Shelf.files c.fetch-2.new.shelf) c.args.names.tree.now _ _ c.in_err-tree.field-0.0 (c.fetch-2.ensures.files ∙ c.fetch.ensures.files) c.in_err-tree.ensures.cause))

pub returns-in_err-queries-clause-cause : goal.returns-in_err-queries-clause-cause
returns-in_err-queries-clause-cause g c =
    let files = g.S.Shelf.files c.args.shelf.now in
    let names = in_order (seen_names c.args.names) in
    let second = holds_same files (g.S.Shelf.files c.fetch.new.shelf) c.args.names.jrag.now c.in_ok-jrag.jrag.items c.fetch.ensures.files c.in_ok-jrag.ensures.held in
    let third = holds_same files (g.S.Shelf.files c.fetch-2.new.shelf) c.args.names.tree.now c.in_ok-tree.tree.items (c.fetch-2.ensures.files ∙ c.fetch.ensures.files) c.in_ok-tree.ensures.held in
    handed_on c.from_residual-in_err-queries.result (λ stop. StopsAll files names (g.S.Shelf.faults c.args.shelf.now) (g.S.Shelf.faults c.fetch-4.new.shelf) stop) c.from_residual-in_err-queries.ensures (
    stops_all files names c.args.names.queries.now (g.S.Shelf.faults c.args.shelf.now) (g.S.Shelf.faults c.fetch-3.new.shelf) (g.S.Shelf.faults c.fetch-4.new.shelf) c.in_err-queries.field-0.0
    (omega (arith, c.fetch.ensures.later, c.fetch-2.ensures.later, c.fetch-3.ensures.later))
    (λ long. later_is_long files c.args.names.ast.now c.in_ok-ast.ast.items _ _ c.in_ok-ast.ensures.held
    (later_is_long files c.args.names.jrag.now c.in_ok-jrag.jrag.items _ _ second (later_is_long files c.args.names.tree.now c.in_ok-tree.tree.items _ _ third (first_is_long files c.args.names.queries.now _ long))))
    (stops_same files (g.S.Shelf.files c.fetch-3.new.shelf) c.args.names.queries.now _ _ c.in_err-queries.field-0.0 (c.fetch-3.ensures.files ∙ c.fetch-2.ensures.files ∙ c.fetch.ensures.files) c.in_err-queries.ensures.cause))
