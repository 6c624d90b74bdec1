-- The queries so far are no `new`.
use Rattle.std.proofs.Common.{All}
use Rattle.rag_tests.specs.Nothing.{AsksNone}
use Rattle.rag_tests.proofs.forms.queries_of_forms.Given as goal

abbrev pub invariant-loop-form : goal.invariant-loop-form
invariant-loop-form l = All AsksNone l.queries.items
