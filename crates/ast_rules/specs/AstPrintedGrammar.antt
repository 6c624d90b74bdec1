-- The grammar `ast_printed`, from tools/ast_printed.grammar.
-- Tokens: 0 End, 1 Name, 2 'abstract', 3 ':', 4 '::=', 5 ';', 6 '*', 7 '[', 8 ']', 9 '<', 10 '>', 11 Other
-- Nonterminals: 0 grammar, 1 rules, 2 rule, 3 abstract, 4 super, 5 body, 6 components, 7 component, 8 star
-- Actions:
use Rattle.std.specs.Prelude.{List, [], ◌∷◌}
use Rattle.ll_parser.specs.declared.symbols.Symbol.TheVariants.{Terminal, Nonterminal}
use Rattle.ll_parser.specs.Grammar.{Production}

abbrev pub ast_printed_grammar : List Production
ast_printed_grammar =
    -- 0. grammar: rule rules
    record { of = 0; body = Nonterminal 2 ∷ Nonterminal 1 ∷ [] } ∷
    -- 1. rules: rule rules
    record { of = 1; body = Nonterminal 2 ∷ Nonterminal 1 ∷ [] } ∷
    -- 2. rules:
    record { of = 1; body = [] } ∷
    -- 3. rule: abstract Name super body ';'
    record { of = 2; body = Nonterminal 3 ∷ Terminal 1 ∷ Nonterminal 4 ∷ Nonterminal 5 ∷ Terminal 5 ∷ [] } ∷
    -- 4. abstract: 'abstract'
    record { of = 3; body = Terminal 2 ∷ [] } ∷
    -- 5. abstract:
    record { of = 3; body = [] } ∷
    -- 6. super: ':' Name
    record { of = 4; body = Terminal 3 ∷ Terminal 1 ∷ [] } ∷
    -- 7. super:
    record { of = 4; body = [] } ∷
    -- 8. body: '::=' components
    record { of = 5; body = Terminal 4 ∷ Nonterminal 6 ∷ [] } ∷
    -- 9. body:
    record { of = 5; body = [] } ∷
    -- 10. components: component components
    record { of = 6; body = Nonterminal 7 ∷ Nonterminal 6 ∷ [] } ∷
    -- 11. components:
    record { of = 6; body = [] } ∷
    -- 12. component: Name star
    record { of = 7; body = Terminal 1 ∷ Nonterminal 8 ∷ [] } ∷
    -- 13. component: Name ':' Name star
    record { of = 7; body = Terminal 1 ∷ Terminal 3 ∷ Terminal 1 ∷ Nonterminal 8 ∷ [] } ∷
    -- 14. component: '[' Name ']'
    record { of = 7; body = Terminal 7 ∷ Terminal 1 ∷ Terminal 8 ∷ [] } ∷
    -- 15. component: '[' Name ':' Name ']'
    record { of = 7; body = Terminal 7 ∷ Terminal 1 ∷ Terminal 3 ∷ Terminal 1 ∷ Terminal 8 ∷ [] } ∷
    -- 16. component: '<' Name '>'
    record { of = 7; body = Terminal 9 ∷ Terminal 1 ∷ Terminal 10 ∷ [] } ∷
    -- 17. component: '<' Name ':' Name '>'
    record { of = 7; body = Terminal 9 ∷ Terminal 1 ∷ Terminal 3 ∷ Terminal 1 ∷ Terminal 10 ∷ [] } ∷
    -- 18. star: '*'
    record { of = 8; body = Terminal 6 ∷ [] } ∷
    -- 19. star:
    record { of = 8; body = [] } ∷
    []
