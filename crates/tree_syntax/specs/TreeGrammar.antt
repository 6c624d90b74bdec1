-- The grammar `tree`, from tools/tree.grammar.
-- Tokens: 0 End, 1 Name, 2 'true', 3 'false', 4 Text, 5 Int, 6 '(', 7 ')', 8 '[', 9 ']', 10 ',', 11 '-', 12 Other
-- Nonterminals: 0 tree, 1 node, 2 name, 3 arguments, 4 more, 5 argument, 6 behind_true, 7 behind_false, 8 nodes, 9 more_nodes
-- Actions:
use Rattle.std.specs.Prelude.{List, [], ◌∷◌}
use Rattle.ll_parser.specs.declared.symbols.Symbol.TheVariants.{Terminal, Nonterminal}
use Rattle.ll_parser.specs.Grammar.{Production}

abbrev pub tree_grammar : List Production
tree_grammar =
    -- 0. tree: node
    record { of = 0; body = Nonterminal 1 ∷ [] } ∷
    -- 1. node: name '(' arguments ')'
    record { of = 1; body = Nonterminal 2 ∷ Terminal 6 ∷ Nonterminal 3 ∷ Terminal 7 ∷ [] } ∷
    -- 2. name: Name
    record { of = 2; body = Terminal 1 ∷ [] } ∷
    -- 3. name: 'true'
    record { of = 2; body = Terminal 2 ∷ [] } ∷
    -- 4. name: 'false'
    record { of = 2; body = Terminal 3 ∷ [] } ∷
    -- 5. arguments: argument more
    record { of = 3; body = Nonterminal 5 ∷ Nonterminal 4 ∷ [] } ∷
    -- 6. arguments:
    record { of = 3; body = [] } ∷
    -- 7. more: ',' argument more
    record { of = 4; body = Terminal 10 ∷ Nonterminal 5 ∷ Nonterminal 4 ∷ [] } ∷
    -- 8. more:
    record { of = 4; body = [] } ∷
    -- 9. argument: Name '(' arguments ')'
    record { of = 5; body = Terminal 1 ∷ Terminal 6 ∷ Nonterminal 3 ∷ Terminal 7 ∷ [] } ∷
    -- 10. argument: 'true' behind_true
    record { of = 5; body = Terminal 2 ∷ Nonterminal 6 ∷ [] } ∷
    -- 11. argument: 'false' behind_false
    record { of = 5; body = Terminal 3 ∷ Nonterminal 7 ∷ [] } ∷
    -- 12. argument: '[' nodes ']'
    record { of = 5; body = Terminal 8 ∷ Nonterminal 8 ∷ Terminal 9 ∷ [] } ∷
    -- 13. argument: Text
    record { of = 5; body = Terminal 4 ∷ [] } ∷
    -- 14. argument: Int
    record { of = 5; body = Terminal 5 ∷ [] } ∷
    -- 15. argument: '-' Int
    record { of = 5; body = Terminal 11 ∷ Terminal 5 ∷ [] } ∷
    -- 16. behind_true: '(' arguments ')'
    record { of = 6; body = Terminal 6 ∷ Nonterminal 3 ∷ Terminal 7 ∷ [] } ∷
    -- 17. behind_true:
    record { of = 6; body = [] } ∷
    -- 18. behind_false: '(' arguments ')'
    record { of = 7; body = Terminal 6 ∷ Nonterminal 3 ∷ Terminal 7 ∷ [] } ∷
    -- 19. behind_false:
    record { of = 7; body = [] } ∷
    -- 20. nodes: node more_nodes
    record { of = 8; body = Nonterminal 1 ∷ Nonterminal 9 ∷ [] } ∷
    -- 21. nodes:
    record { of = 8; body = [] } ∷
    -- 22. more_nodes: ',' node more_nodes
    record { of = 9; body = Terminal 10 ∷ Nonterminal 1 ∷ Nonterminal 9 ∷ [] } ∷
    -- 23. more_nodes:
    record { of = 9; body = [] } ∷
    []
