use Rattle.std.proofs.Common.{map}
use Rattle.std.proofs.lemmas.Result.{on_ok_weaker}
use Rattle.equation_law.specs.Systems.{program_of}
use Rattle.plain_rounds.specs.Named.{name_in}
use Rattle.plain_rounds.proofs.Adding.{all_plain}
use Rattle.plain_rounds.proofs.listing.push_plain.Goals as goal

pub returns-clause-names : goal.returns-clause-names
returns-clause-names c =
    on_ok_weaker c.push_nodes.result (λ more texts. all_plain (program_of c.args.system.now) c.args.attr.0 c.args.declared.now (map (name_in texts) c.args.names.now.items) (map (name_in texts) c.push_nodes.new.names.items) c.grammar.result.now c.tree.result.now c.if-declared-gt0.false c.grammar.ensures c.tree.ensures (more texts)) c.push_nodes.ensures.names
