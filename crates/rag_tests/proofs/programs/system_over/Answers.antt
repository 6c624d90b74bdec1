use Rattle.std.proofs.Common.{ap, map, subst, sym, ◌∙◌}
use Rattle.rag_io.specs.Pool.{ArePooled}
use Rattle.attr_rules.specs.Queries.{query_of}
use Rattle.equation_law.specs.Checked.{IsProgram}
use Rattle.equation_law.specs.Program.{Program}
use Rattle.equation_law.proofs.Pooled.{texts_pooled}
use Rattle.rag_tests.proofs.FromParts.{from_parts}
use Rattle.rag_tests.proofs.programs.system_over.Goals as goal

pub returns : goal.returns
returns c =
    let pooled = subst (λ (p : Program). ArePooled p.texts) c.in_ok-new.ensures (texts_pooled c.in_ok-new.field-0) in
    let none = c.new-queries.ensures ∙ ap (map query_of) c.new-2.ensures.items in
    let program = from_parts c.args.grammar c.in_ok-rules.rules c.in_ok-tree.tree c.tree_said.new.pool c.new-queries.result c.requires c.in_ok-rules.ensures.rules c.in_ok-rules.ensures.rising pooled c.in_ok-tree.ensures none in
    subst IsProgram (sym c.in_ok-new.ensures) program
