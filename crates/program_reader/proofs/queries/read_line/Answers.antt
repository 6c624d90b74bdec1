use Rattle.std.proofs.Common.{◌∙◌, sym}
use Rattle.attr_rules.specs.Queries.{query_of}
use Rattle.program_reader.specs.QuerySteps.{one}
use Rattle.program_reader.proofs.queries.read_line.Goals as goal

pub returns-in_ok-add-in-Some : goal.returns-in_ok-add-in-Some
returns-in_ok-add-in-Some c =
    one (query_of c.in-Some.query) (sym c.is_silent.ensures ∙ c.if-is_silent.false) (rw c.in-Some.is at c.in_ok-query.ensures) c.in_ok-add-in-Some.ensures
