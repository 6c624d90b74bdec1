-- The grammar `ast`, from tools/ast.grammar.
-- Tokens: 0 End, 1 Name, 2 'abstract', 3 ':', 4 '::=', 5 ';', 6 '*', 7 '[', 8 ']', 9 '<', 10 '>', 11 Other
-- Nonterminals: 0 grammar, 1 rules, 2 rule, 3 abstract, 4 super, 5 body, 6 components, 7 component, 8 behind_name, 9 star, 10 behind_optional, 11 behind_token
-- Actions: 1 abstract, 2 concrete, 3 name, 4 superclass, 5 word, 6 type, 7 child, 8 list, 9 optional, 10 token, 11 class
use Rattle.std.specs.Prelude.{List, [], ◌∷◌}
use Rattle.ll_parser.specs.declared.symbols.Symbol.TheVariants.{Terminal, Nonterminal, Action}
use Rattle.ll_parser.specs.Grammar.{Production}

abbrev pub ast_grammar : List Production
ast_grammar =
    -- 0. grammar: rule rules
    record { of = 0; body = Nonterminal 2 ∷ Nonterminal 1 ∷ [] } ∷
    -- 1. rules: rule rules
    record { of = 1; body = Nonterminal 2 ∷ Nonterminal 1 ∷ [] } ∷
    -- 2. rules:
    record { of = 1; body = [] } ∷
    -- 3. rule: abstract Name @name super body ';' @class
    record { of = 2; body = Nonterminal 3 ∷ Terminal 1 ∷ Action 3 ∷ Nonterminal 4 ∷ Nonterminal 5 ∷ Terminal 5 ∷ Action 11 ∷ [] } ∷
    -- 4. abstract: 'abstract' @abstract
    record { of = 3; body = Terminal 2 ∷ Action 1 ∷ [] } ∷
    -- 5. abstract: @concrete
    record { of = 3; body = Action 2 ∷ [] } ∷
    -- 6. super: ':' Name @superclass
    record { of = 4; body = Terminal 3 ∷ Terminal 1 ∷ Action 4 ∷ [] } ∷
    -- 7. super:
    record { of = 4; body = [] } ∷
    -- 8. body: '::=' components
    record { of = 5; body = Terminal 4 ∷ Nonterminal 6 ∷ [] } ∷
    -- 9. body:
    record { of = 5; body = [] } ∷
    -- 10. components: component components
    record { of = 6; body = Nonterminal 7 ∷ Nonterminal 6 ∷ [] } ∷
    -- 11. components:
    record { of = 6; body = [] } ∷
    -- 12. component: Name @word behind_name
    record { of = 7; body = Terminal 1 ∷ Action 5 ∷ Nonterminal 8 ∷ [] } ∷
    -- 13. component: '[' Name @word behind_optional
    record { of = 7; body = Terminal 7 ∷ Terminal 1 ∷ Action 5 ∷ Nonterminal 10 ∷ [] } ∷
    -- 14. component: '<' Name @word behind_token
    record { of = 7; body = Terminal 9 ∷ Terminal 1 ∷ Action 5 ∷ Nonterminal 11 ∷ [] } ∷
    -- 15. behind_name: ':' Name @type star
    record { of = 8; body = Terminal 3 ∷ Terminal 1 ∷ Action 6 ∷ Nonterminal 9 ∷ [] } ∷
    -- 16. behind_name: star
    record { of = 8; body = Nonterminal 9 ∷ [] } ∷
    -- 17. star: '*' @list
    record { of = 9; body = Terminal 6 ∷ Action 8 ∷ [] } ∷
    -- 18. star: @child
    record { of = 9; body = Action 7 ∷ [] } ∷
    -- 19. behind_optional: ':' Name @type ']' @optional
    record { of = 10; body = Terminal 3 ∷ Terminal 1 ∷ Action 6 ∷ Terminal 8 ∷ Action 9 ∷ [] } ∷
    -- 20. behind_optional: ']' @optional
    record { of = 10; body = Terminal 8 ∷ Action 9 ∷ [] } ∷
    -- 21. behind_token: ':' Name @type '>' @token
    record { of = 11; body = Terminal 3 ∷ Terminal 1 ∷ Action 6 ∷ Terminal 10 ∷ Action 10 ∷ [] } ∷
    -- 22. behind_token: '>' @token
    record { of = 11; body = Terminal 10 ∷ Action 10 ∷ [] } ∷
    []
