-- The grammar `tree_printed`, from tools/tree_printed.grammar.
-- Tokens: 0 End, 1 Name, 2 'true', 3 'false', 4 Text, 5 Int, 6 '(', 7 ')', 8 '[', 9 ']', 10 ',', 11 '-', 12 Other
-- Nonterminals: 0 tree, 1 node, 2 name, 3 arguments, 4 more, 5 argument, 6 nodes, 7 more_nodes
-- Actions:
use Rattle.std.specs.Prelude.{List, [], ◌∷◌}
use Rattle.ll_parser.specs.declared.symbols.Symbol.TheVariants.{Terminal, Nonterminal}
use Rattle.ll_parser.specs.Grammar.{Production}

abbrev pub tree_printed_grammar : List Production
tree_printed_grammar =
    -- 0. tree: node
    record { of = 0; body = Nonterminal 1 ∷ [] } ∷
    -- 1. node: name '(' arguments ')'
    record { of = 1; body = Nonterminal 2 ∷ Terminal 6 ∷ Nonterminal 3 ∷ Terminal 7 ∷ [] } ∷
    -- 2. name: Name
    record { of = 2; body = Terminal 1 ∷ [] } ∷
    -- 3. name: 'true'
    record { of = 2; body = Terminal 2 ∷ [] } ∷
    -- 4. name: 'false'
    record { of = 2; body = Terminal 3 ∷ [] } ∷
    -- 5. arguments: argument more
    record { of = 3; body = Nonterminal 5 ∷ Nonterminal 4 ∷ [] } ∷
    -- 6. arguments:
    record { of = 3; body = [] } ∷
    -- 7. more: ',' argument more
    record { of = 4; body = Terminal 10 ∷ Nonterminal 5 ∷ Nonterminal 4 ∷ [] } ∷
    -- 8. more:
    record { of = 4; body = [] } ∷
    -- 9. argument: node
    record { of = 5; body = Nonterminal 1 ∷ [] } ∷
    -- 10. argument: '[' nodes ']'
    record { of = 5; body = Terminal 8 ∷ Nonterminal 6 ∷ Terminal 9 ∷ [] } ∷
    -- 11. argument: Text
    record { of = 5; body = Terminal 4 ∷ [] } ∷
    -- 12. argument: Int
    record { of = 5; body = Terminal 5 ∷ [] } ∷
    -- 13. argument: '-' Int
    record { of = 5; body = Terminal 11 ∷ Terminal 5 ∷ [] } ∷
    -- 14. argument: 'true'
    record { of = 5; body = Terminal 2 ∷ [] } ∷
    -- 15. argument: 'false'
    record { of = 5; body = Terminal 3 ∷ [] } ∷
    -- 16. nodes: node more_nodes
    record { of = 6; body = Nonterminal 1 ∷ Nonterminal 7 ∷ [] } ∷
    -- 17. nodes:
    record { of = 6; body = [] } ∷
    -- 18. more_nodes: ',' node more_nodes
    record { of = 7; body = Terminal 10 ∷ Nonterminal 1 ∷ Nonterminal 7 ∷ [] } ∷
    -- 19. more_nodes:
    record { of = 7; body = [] } ∷
    []
