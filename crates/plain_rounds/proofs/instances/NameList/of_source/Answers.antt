use Rattle.std.proofs.Common.{All, List, ◌++◌, ap, map, subst, sym, ◌∙◌}
use Rattle.ast_grammar.specs.Grammar.{superclasses_of}
use Rattle.equation_law.specs.Checked.{IsInstance}
use Rattle.equation_law.specs.Names.{Instance}
use Rattle.equation_law.specs.Program.{attribute_instances, query_instances, source_instances, text_of}
use Rattle.equation_law.specs.Systems.{program_of}
use Rattle.plain_rounds.specs.declared.naming.Name.{Name}
use Rattle.plain_rounds.specs.Named.{name_in}
use Rattle.plain_rounds.proofs.Sources.{sources_are}
use Rattle.plain_rounds.proofs.instances.NameList.of_source.Goals as goal

pub returns-clause-names : goal.returns-clause-names
unfolding source_instances
returns-clause-names c =
    let p = program_of c.args.system.now in
    let attributes = attribute_instances (superclasses_of p.grammar) p.rules.attributes 0 p.tree in
    let queries = query_instances p.queries 0 in
    c.in_ok-push_queries.ensures.names (text_of p) ∙ ap (λ (xs : List Instance). xs ++ queries) (c.in_ok-push_attributes.ensures.names (text_of p) ∙ ap (λ (xs : List Name). map (name_in (text_of p)) xs ++ attributes) c.new-names.ensures.items)

pub returns-clause-instances : goal.returns-clause-instances
unfolding source_instances
returns-clause-instances c =
    let p = program_of c.args.system.now in
    let attributes = attribute_instances (superclasses_of p.grammar) p.rules.attributes 0 p.tree in
    let queries = query_instances p.queries 0 in
    let listed = c.in_ok-push_queries.ensures.names (text_of p) ∙ ap (λ (xs : List Instance). xs ++ queries) (c.in_ok-push_attributes.ensures.names (text_of p) ∙ ap (λ (xs : List Name). map (name_in (text_of p)) xs ++ attributes) c.new-names.ensures.items) in
    subst (All (IsInstance p)) (sym listed) (sources_are p)
