use Rattle.std.proofs.Common.{sym, ◌∙◌}
use Rattle.equation_law.specs.Codes.{arguments_for, source_names}
use Rattle.equation_law.specs.Names.{Null}
use Rattle.equation_law.specs.Program.{text_of}
use Rattle.equation_law.specs.Systems.{program_of}
use Rattle.equation_law.proofs.Codes.{sources_named}
use Rattle.inherited_walk.proofs.Walking.{uncovered_any}
use Rattle.inherited_walk.proofs.ways.covers.Goals as goal

pub returns : goal.returns
returns c none =
    let p = program_of c.args.system.now in
    let by = source_names (text_of p) in
    uncovered_any p c.args.attr.0 c.args.node by (arguments_for p by c.args.attr.0 c.none.result) Null c.covering.result (c.covering.ensures.found Null by (sources_named p)) (sym c.is_some.ensures ∙ none)
