-- What breaks nothing is a tree of the grammar.
use Rattle.std.proofs.Common.{◌≡◌, ℕ, List, [], ◌++◌, length, sym, subst}
use Rattle.broken_rules.proofs.Clean.{append_none, phase_none}
use Rattle.broken_rules.specs.declared.rule.Rule.TheVariants.{N7}
use Rattle.rag_io.specs.Tokens.{Lexed}
use Rattle.ast_grammar.specs.Grammar.{Class}
use Rattle.tree_arena.specs.Nodes.{Node}
use Rattle.tree_arena.specs.Terms.{IsTreeOf, nodes_of}
use Rattle.tree_syntax.specs.Written.{Written, Writes}
use Rattle.token_texts.specs.Texts.{pooled_texts, texts_broken}
use Rattle.tree_reader.specs.Breaking.{arguments_broken, root_broken, tree_broken}
use Rattle.tree_reader.specs.Grown.{tree_written}
use Rattle.tree_reader.specs.Reading.{SaysTree}
use Rattle.tree_reader.specs.Wants.{Unknown}
use Rattle.tree_reader.proofs.Accepted.{accepted_tree}
use Rattle.tree_reader.proofs.Spelled.{texts_there, written_there}

pub clean_tree : (g : List Class) (pool : List (List ℕ)) (ts : List Lexed) (w : Written) → Writes ts w → tree_broken g pool ts w ≡ []
    → IsTreeOf g (length (pooled_texts pool ts)) (nodes_of (tree_written g (pooled_texts pool ts) w))
clean_tree g pool ts w writes clean =
    let parts = append_none (texts_broken N7 pool ts) (root_broken g w ++ arguments_broken g Unknown 0 w) clean in
    let more = append_none (root_broken g w) (arguments_broken g Unknown 0 w) parts.1 in
    accepted_tree g (pooled_texts pool ts) w writes.node (written_there writes (texts_there ts pool parts.0)) more.0 more.1

-- so the tokens that say a tree say one of the grammar
pub said_tree : {g : List Class} {pool : List (List ℕ)} {ts : List Lexed} {nodes : List Node} → SaysTree g pool ts nodes → IsTreeOf g (length (pooled_texts pool ts)) nodes
said_tree {g} {pool} {ts} s =
    subst (IsTreeOf g (length (pooled_texts pool ts))) (sym s.are) (clean_tree g pool ts s.written s.writes (phase_none s.clean).0)
