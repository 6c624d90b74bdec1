-- The grammar `query`, from tools/query.grammar.
-- Tokens: 0 End, 1 Name, 2 Int, 3 '@', 4 '.', 5 '(', 6 ')', 7 Other
-- Nonterminals: 0 query
-- Actions: 1 node, 2 name
use Rattle.std.specs.Prelude.{List, [], ◌∷◌}
use Rattle.ll_parser.specs.declared.symbols.Symbol.TheVariants.{Terminal, Action}
use Rattle.ll_parser.specs.Grammar.{Production}

abbrev pub query_grammar : List Production
query_grammar =
    -- 0. query: '@' Int @node '.' Name @name '(' ')'
    record { of = 0; body = Terminal 3 ∷ Terminal 2 ∷ Action 1 ∷ Terminal 4 ∷ Terminal 1 ∷ Action 2 ∷ Terminal 5 ∷ Terminal 6 ∷ [] } ∷
    []
