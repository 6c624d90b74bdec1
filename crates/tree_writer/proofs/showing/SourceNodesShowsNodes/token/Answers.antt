use Rattle.tree_writer.proofs.SourceTrees.{source_there, source_token, source_token_there}
use Rattle.tree_writer.proofs.showing.SourceNodesShowsNodes.token.Goals as goal

pub token-requires-clause-node : goal.token-requires-clause-node
token-requires-clause-node c = source_there (c.requires.0, c.requires.1)

pub token-requires-clause-component : goal.token-requires-clause-component
token-requires-clause-component c = source_token_there c.args.k c.requires

pub returns-clause-token : goal.returns-clause-token
returns-clause-token c = λ tree shown bare. source_token c.args.k c.token.result c.token.ensures tree shown
