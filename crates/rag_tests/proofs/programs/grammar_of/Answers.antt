use Rattle.rag_tests.proofs.FromParts.{grammar_from}
use Rattle.rag_tests.proofs.programs.grammar_of.Goals as goal

pub returns : goal.returns
returns c = grammar_from _ c.read_ast_bytes.result c.read_ast_bytes.ensures
