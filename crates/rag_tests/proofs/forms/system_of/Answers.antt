use Rattle.std.proofs.Common.{arith, subst, sym}
use Rattle.equation_law.specs.Checked.{HasSourcesAlone}
use Rattle.rag_tests.proofs.FromParts.{alone_from}
use Rattle.rag_tests.proofs.forms.system_of.Goals as goal

pub returns : goal.returns
returns c =
    let alone = alone_from c.in_ok-grammar.grammar c.in_ok-rules.rules c.in_ok-tree.tree c.in_ok-tree.pool c.new-queries.result c.args.queries.items c.in_ok-rules.ensures c.new-queries.ensures c.requires.none (omega (arith, c.len.ensures.few, c.len.ensures.number)) in
    subst HasSourcesAlone (sym c.in_ok-new.ensures) alone
