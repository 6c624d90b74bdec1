-- The grammar `jrag`, from tools/jrag.grammar.
-- Tokens: 0 End, 1 Name, 2 Int, 3 Text, 4 'aspect', 5 'syn', 6 'inh', 7 'eq', 8 'coll', 9 'nta', 10 'lazy', 11 'when', 12 'to', 13 'for', 14 'new', 15 'this', 16 'true', 17 'false', 18 'null', 19 'empty', 20 'instanceof', 21 'Set', 22 'boolean', 23 'int', 24 'String', 25 'contributes', 26 'with', 27 'root', 28 'circular', 29 'each', 30 'any', 31 'all', 32 'first', 33 '{', 34 '}', 35 '.', 36 '(', 37 ')', 38 '[', 39 ']', 40 ';', 41 ',', 42 '=', 43 '?', 44 ':', 45 '||', 46 '&&', 47 '==', 48 '!=', 49 '<', 50 '<=', 51 '>', 52 '>=', 53 '+', 54 '-', 55 '*', 56 '!', 57 '|', 58 Other, 59 '@'
-- Nonterminals: 0 file, 1 expression, 2 aspects, 3 items, 4 item, 5 modifiers, 6 higher_order, 7 lazy, 8 circular, 9 equation, 10 path, 11 method, 12 root, 13 condition, 14 parameters, 15 more_parameters, 16 type, 17 type_name, 18 name, 19 plain, 20 quantifier, 21 whole, 22 expr, 23 behind_unary, 24 choice, 25 or, 26 more_or, 27 and, 28 more_and, 29 equality, 30 more_equality, 31 relation, 32 more_relation, 33 sum, 34 more_sum, 35 product, 36 more_product, 37 unary, 38 cast, 39 operand, 40 in_parentheses, 41 name_in_parentheses, 42 quantifier_in_parentheses, 43 cast_or_group, 44 not_name, 45 behind_postfix, 46 operator, 47 behind_name, 48 behind_quantifier, 49 in_quantifier, 50 name_in_quantifier, 51 quantifier_in_quantifier, 52 more_postfix, 53 arguments, 54 more_arguments, 55 literal, 56 source, 57 primary
-- Actions: 1 begin, 2 end, 3 name, 4 literal, 5 text, 6 source, 7 no_arguments, 8 first_argument, 9 argument, 10 call, 11 member, 12 new, 13 quantified, 14 group, 15 cast, 16 not, 17 negate, 18 product, 19 sum, 20 compare, 21 instance, 22 equate, 23 and, 24 or, 25 choose, 26 no_items, 27 open, 28 item, 29 close, 30 synthesized, 31 inherited, 32 equation, 33 collection, 34 contribution, 35 present, 36 absent, 37 no_modifiers, 38 lazy_first, 39 higher_order_first, 40 type, 41 set, 42 no_parameters, 43 first_parameter, 44 parameter, 45 circular, 46 not_circular, 47 body, 48 no_body, 49 path, 50 no_path, 51 method, 52 no_method, 53 root, 54 no_root, 55 condition, 56 no_condition
use Rattle.std.specs.Prelude.{List, [], ◌∷◌}
use Rattle.ll_parser.specs.declared.symbols.Symbol.TheVariants.{Terminal, Nonterminal, Action}
use Rattle.ll_parser.specs.Grammar.{Production}

abbrev pub jrag_grammar : List Production
jrag_grammar =
    -- 0. file: @no_items aspects
    record { of = 0; body = Action 26 ∷ Nonterminal 2 ∷ [] } ∷
    -- 1. expression: whole
    record { of = 1; body = Nonterminal 21 ∷ [] } ∷
    -- 2. aspects: 'aspect' name @name '{' @open items '}' @close aspects
    record { of = 2; body = Terminal 4 ∷ Nonterminal 18 ∷ Action 3 ∷ Terminal 33 ∷ Action 27 ∷ Nonterminal 3 ∷ Terminal 34 ∷ Action 29 ∷ Nonterminal 2 ∷ [] } ∷
    -- 3. aspects:
    record { of = 2; body = [] } ∷
    -- 4. items: item @item items
    record { of = 3; body = Nonterminal 4 ∷ Action 28 ∷ Nonterminal 3 ∷ [] } ∷
    -- 5. items:
    record { of = 3; body = [] } ∷
    -- 6. item: 'syn' modifiers type name @name '.' name @name '(' parameters ')' circular equation ';' @synthesized
    record { of = 4; body = Terminal 5 ∷ Nonterminal 5 ∷ Nonterminal 16 ∷ Nonterminal 18 ∷ Action 3 ∷ Terminal 35 ∷ Nonterminal 18 ∷ Action 3 ∷ Terminal 36 ∷ Nonterminal 14 ∷ Terminal 37 ∷ Nonterminal 8 ∷ Nonterminal 9 ∷ Terminal 40 ∷ Action 30 ∷ [] } ∷
    -- 7. item: 'inh' lazy type name @name '.' name @name '(' parameters ')' circular ';' @inherited
    record { of = 4; body = Terminal 6 ∷ Nonterminal 7 ∷ Nonterminal 16 ∷ Nonterminal 18 ∷ Action 3 ∷ Terminal 35 ∷ Nonterminal 18 ∷ Action 3 ∷ Terminal 36 ∷ Nonterminal 14 ∷ Terminal 37 ∷ Nonterminal 8 ∷ Terminal 40 ∷ Action 31 ∷ [] } ∷
    -- 8. item: 'eq' name @name '.' name @name '(' parameters ')' path '=' whole ';' @equation
    record { of = 4; body = Terminal 7 ∷ Nonterminal 18 ∷ Action 3 ∷ Terminal 35 ∷ Nonterminal 18 ∷ Action 3 ∷ Terminal 36 ∷ Nonterminal 14 ∷ Terminal 37 ∷ Nonterminal 10 ∷ Terminal 42 ∷ Nonterminal 21 ∷ Terminal 40 ∷ Action 32 ∷ [] } ∷
    -- 9. item: 'coll' type name @name '.' name @name '(' ')' '[' whole ']' method root ';' @collection
    record { of = 4; body = Terminal 8 ∷ Nonterminal 16 ∷ Nonterminal 18 ∷ Action 3 ∷ Terminal 35 ∷ Nonterminal 18 ∷ Action 3 ∷ Terminal 36 ∷ Terminal 37 ∷ Terminal 38 ∷ Nonterminal 21 ∷ Terminal 39 ∷ Nonterminal 11 ∷ Nonterminal 12 ∷ Terminal 40 ∷ Action 33 ∷ [] } ∷
    -- 10. item: name @name 'contributes' whole condition 'to' name @name '.' name @name '(' ')' 'for' whole ';' @contribution
    record { of = 4; body = Nonterminal 18 ∷ Action 3 ∷ Terminal 25 ∷ Nonterminal 21 ∷ Nonterminal 13 ∷ Terminal 12 ∷ Nonterminal 18 ∷ Action 3 ∷ Terminal 35 ∷ Nonterminal 18 ∷ Action 3 ∷ Terminal 36 ∷ Terminal 37 ∷ Terminal 13 ∷ Nonterminal 21 ∷ Terminal 40 ∷ Action 34 ∷ [] } ∷
    -- 11. modifiers: 'lazy' higher_order @lazy_first
    record { of = 5; body = Terminal 10 ∷ Nonterminal 6 ∷ Action 38 ∷ [] } ∷
    -- 12. modifiers: 'nta' lazy @higher_order_first
    record { of = 5; body = Terminal 9 ∷ Nonterminal 7 ∷ Action 39 ∷ [] } ∷
    -- 13. modifiers: @no_modifiers
    record { of = 5; body = Action 37 ∷ [] } ∷
    -- 14. higher_order: 'nta' @present
    record { of = 6; body = Terminal 9 ∷ Action 35 ∷ [] } ∷
    -- 15. higher_order: @absent
    record { of = 6; body = Action 36 ∷ [] } ∷
    -- 16. lazy: 'lazy' @present
    record { of = 7; body = Terminal 10 ∷ Action 35 ∷ [] } ∷
    -- 17. lazy: @absent
    record { of = 7; body = Action 36 ∷ [] } ∷
    -- 18. circular: 'circular' '[' whole ']' @circular
    record { of = 8; body = Terminal 28 ∷ Terminal 38 ∷ Nonterminal 21 ∷ Terminal 39 ∷ Action 45 ∷ [] } ∷
    -- 19. circular: @not_circular
    record { of = 8; body = Action 46 ∷ [] } ∷
    -- 20. equation: '=' whole @body
    record { of = 9; body = Terminal 42 ∷ Nonterminal 21 ∷ Action 47 ∷ [] } ∷
    -- 21. equation: @no_body
    record { of = 9; body = Action 48 ∷ [] } ∷
    -- 22. path: '.' name @name '(' parameters ')' @path
    record { of = 10; body = Terminal 35 ∷ Nonterminal 18 ∷ Action 3 ∷ Terminal 36 ∷ Nonterminal 14 ∷ Terminal 37 ∷ Action 49 ∷ [] } ∷
    -- 23. path: @no_path
    record { of = 10; body = Action 50 ∷ [] } ∷
    -- 24. method: 'with' name @name @method
    record { of = 11; body = Terminal 26 ∷ Nonterminal 18 ∷ Action 3 ∷ Action 51 ∷ [] } ∷
    -- 25. method: @no_method
    record { of = 11; body = Action 52 ∷ [] } ∷
    -- 26. root: 'root' name @name @root
    record { of = 12; body = Terminal 27 ∷ Nonterminal 18 ∷ Action 3 ∷ Action 53 ∷ [] } ∷
    -- 27. root: @no_root
    record { of = 12; body = Action 54 ∷ [] } ∷
    -- 28. condition: 'when' whole @condition
    record { of = 13; body = Terminal 11 ∷ Nonterminal 21 ∷ Action 55 ∷ [] } ∷
    -- 29. condition: @no_condition
    record { of = 13; body = Action 56 ∷ [] } ∷
    -- 30. parameters: type name @name @first_parameter more_parameters
    record { of = 14; body = Nonterminal 16 ∷ Nonterminal 18 ∷ Action 3 ∷ Action 43 ∷ Nonterminal 15 ∷ [] } ∷
    -- 31. parameters: @no_parameters
    record { of = 14; body = Action 42 ∷ [] } ∷
    -- 32. more_parameters: ',' type name @name @parameter more_parameters
    record { of = 15; body = Terminal 41 ∷ Nonterminal 16 ∷ Nonterminal 18 ∷ Action 3 ∷ Action 44 ∷ Nonterminal 15 ∷ [] } ∷
    -- 33. more_parameters:
    record { of = 15; body = [] } ∷
    -- 34. type: type_name @type
    record { of = 16; body = Nonterminal 17 ∷ Action 40 ∷ [] } ∷
    -- 35. type: 'Set' '<' type_name '>' @set
    record { of = 16; body = Terminal 21 ∷ Terminal 49 ∷ Nonterminal 17 ∷ Terminal 51 ∷ Action 41 ∷ [] } ∷
    -- 36. type_name: name
    record { of = 17; body = Nonterminal 18 ∷ [] } ∷
    -- 37. type_name: 'boolean'
    record { of = 17; body = Terminal 22 ∷ [] } ∷
    -- 38. type_name: 'int'
    record { of = 17; body = Terminal 23 ∷ [] } ∷
    -- 39. type_name: 'String'
    record { of = 17; body = Terminal 24 ∷ [] } ∷
    -- 40. name: Name
    record { of = 18; body = Terminal 1 ∷ [] } ∷
    -- 41. name: 'contributes'
    record { of = 18; body = Terminal 25 ∷ [] } ∷
    -- 42. name: 'with'
    record { of = 18; body = Terminal 26 ∷ [] } ∷
    -- 43. name: 'root'
    record { of = 18; body = Terminal 27 ∷ [] } ∷
    -- 44. name: 'circular'
    record { of = 18; body = Terminal 28 ∷ [] } ∷
    -- 45. name: 'each'
    record { of = 18; body = Terminal 29 ∷ [] } ∷
    -- 46. name: 'any'
    record { of = 18; body = Terminal 30 ∷ [] } ∷
    -- 47. name: 'all'
    record { of = 18; body = Terminal 31 ∷ [] } ∷
    -- 48. name: 'first'
    record { of = 18; body = Terminal 32 ∷ [] } ∷
    -- 49. plain: Name
    record { of = 19; body = Terminal 1 ∷ [] } ∷
    -- 50. plain: 'contributes'
    record { of = 19; body = Terminal 25 ∷ [] } ∷
    -- 51. plain: 'with'
    record { of = 19; body = Terminal 26 ∷ [] } ∷
    -- 52. plain: 'root'
    record { of = 19; body = Terminal 27 ∷ [] } ∷
    -- 53. plain: 'circular'
    record { of = 19; body = Terminal 28 ∷ [] } ∷
    -- 54. quantifier: 'each'
    record { of = 20; body = Terminal 29 ∷ [] } ∷
    -- 55. quantifier: 'any'
    record { of = 20; body = Terminal 30 ∷ [] } ∷
    -- 56. quantifier: 'all'
    record { of = 20; body = Terminal 31 ∷ [] } ∷
    -- 57. quantifier: 'first'
    record { of = 20; body = Terminal 32 ∷ [] } ∷
    -- 58. whole: @begin expr @end
    record { of = 21; body = Action 1 ∷ Nonterminal 22 ∷ Action 2 ∷ [] } ∷
    -- 59. expr: unary behind_unary
    record { of = 22; body = Nonterminal 37 ∷ Nonterminal 23 ∷ [] } ∷
    -- 60. behind_unary: more_product more_sum more_relation more_equality more_and more_or choice
    record { of = 23; body = Nonterminal 36 ∷ Nonterminal 34 ∷ Nonterminal 32 ∷ Nonterminal 30 ∷ Nonterminal 28 ∷ Nonterminal 26 ∷ Nonterminal 24 ∷ [] } ∷
    -- 61. choice: '?' expr ':' expr @choose
    record { of = 24; body = Terminal 43 ∷ Nonterminal 22 ∷ Terminal 44 ∷ Nonterminal 22 ∷ Action 25 ∷ [] } ∷
    -- 62. choice:
    record { of = 24; body = [] } ∷
    -- 63. or: and more_or
    record { of = 25; body = Nonterminal 27 ∷ Nonterminal 26 ∷ [] } ∷
    -- 64. more_or: '||' and @or more_or
    record { of = 26; body = Terminal 45 ∷ Nonterminal 27 ∷ Action 24 ∷ Nonterminal 26 ∷ [] } ∷
    -- 65. more_or:
    record { of = 26; body = [] } ∷
    -- 66. and: equality more_and
    record { of = 27; body = Nonterminal 29 ∷ Nonterminal 28 ∷ [] } ∷
    -- 67. more_and: '&&' equality @and more_and
    record { of = 28; body = Terminal 46 ∷ Nonterminal 29 ∷ Action 23 ∷ Nonterminal 28 ∷ [] } ∷
    -- 68. more_and:
    record { of = 28; body = [] } ∷
    -- 69. equality: relation more_equality
    record { of = 29; body = Nonterminal 31 ∷ Nonterminal 30 ∷ [] } ∷
    -- 70. more_equality: '==' relation @equate more_equality
    record { of = 30; body = Terminal 47 ∷ Nonterminal 31 ∷ Action 22 ∷ Nonterminal 30 ∷ [] } ∷
    -- 71. more_equality: '!=' relation @equate more_equality
    record { of = 30; body = Terminal 48 ∷ Nonterminal 31 ∷ Action 22 ∷ Nonterminal 30 ∷ [] } ∷
    -- 72. more_equality:
    record { of = 30; body = [] } ∷
    -- 73. relation: sum more_relation
    record { of = 31; body = Nonterminal 33 ∷ Nonterminal 32 ∷ [] } ∷
    -- 74. more_relation: '<' sum @compare more_relation
    record { of = 32; body = Terminal 49 ∷ Nonterminal 33 ∷ Action 20 ∷ Nonterminal 32 ∷ [] } ∷
    -- 75. more_relation: '<=' sum @compare more_relation
    record { of = 32; body = Terminal 50 ∷ Nonterminal 33 ∷ Action 20 ∷ Nonterminal 32 ∷ [] } ∷
    -- 76. more_relation: '>' sum @compare more_relation
    record { of = 32; body = Terminal 51 ∷ Nonterminal 33 ∷ Action 20 ∷ Nonterminal 32 ∷ [] } ∷
    -- 77. more_relation: '>=' sum @compare more_relation
    record { of = 32; body = Terminal 52 ∷ Nonterminal 33 ∷ Action 20 ∷ Nonterminal 32 ∷ [] } ∷
    -- 78. more_relation: 'instanceof' name @name @instance more_relation
    record { of = 32; body = Terminal 20 ∷ Nonterminal 18 ∷ Action 3 ∷ Action 21 ∷ Nonterminal 32 ∷ [] } ∷
    -- 79. more_relation:
    record { of = 32; body = [] } ∷
    -- 80. sum: product more_sum
    record { of = 33; body = Nonterminal 35 ∷ Nonterminal 34 ∷ [] } ∷
    -- 81. more_sum: '+' product @sum more_sum
    record { of = 34; body = Terminal 53 ∷ Nonterminal 35 ∷ Action 19 ∷ Nonterminal 34 ∷ [] } ∷
    -- 82. more_sum: '-' product @sum more_sum
    record { of = 34; body = Terminal 54 ∷ Nonterminal 35 ∷ Action 19 ∷ Nonterminal 34 ∷ [] } ∷
    -- 83. more_sum:
    record { of = 34; body = [] } ∷
    -- 84. product: unary more_product
    record { of = 35; body = Nonterminal 37 ∷ Nonterminal 36 ∷ [] } ∷
    -- 85. more_product: '*' unary @product more_product
    record { of = 36; body = Terminal 55 ∷ Nonterminal 37 ∷ Action 18 ∷ Nonterminal 36 ∷ [] } ∷
    -- 86. more_product:
    record { of = 36; body = [] } ∷
    -- 87. unary: '!' unary @not
    record { of = 37; body = Terminal 56 ∷ Nonterminal 37 ∷ Action 16 ∷ [] } ∷
    -- 88. unary: '-' unary @negate
    record { of = 37; body = Terminal 54 ∷ Nonterminal 37 ∷ Action 17 ∷ [] } ∷
    -- 89. unary: cast
    record { of = 37; body = Nonterminal 38 ∷ [] } ∷
    -- 90. cast: operand
    record { of = 38; body = Nonterminal 39 ∷ [] } ∷
    -- 91. cast: source more_postfix
    record { of = 38; body = Nonterminal 56 ∷ Nonterminal 52 ∷ [] } ∷
    -- 92. operand: '(' in_parentheses
    record { of = 39; body = Terminal 36 ∷ Nonterminal 40 ∷ [] } ∷
    -- 93. operand: plain @name behind_name more_postfix
    record { of = 39; body = Nonterminal 19 ∷ Action 3 ∷ Nonterminal 47 ∷ Nonterminal 52 ∷ [] } ∷
    -- 94. operand: quantifier @name behind_quantifier more_postfix
    record { of = 39; body = Nonterminal 20 ∷ Action 3 ∷ Nonterminal 48 ∷ Nonterminal 52 ∷ [] } ∷
    -- 95. operand: literal more_postfix
    record { of = 39; body = Nonterminal 55 ∷ Nonterminal 52 ∷ [] } ∷
    -- 96. in_parentheses: plain @name name_in_parentheses
    record { of = 40; body = Nonterminal 19 ∷ Action 3 ∷ Nonterminal 41 ∷ [] } ∷
    -- 97. in_parentheses: quantifier @name quantifier_in_parentheses
    record { of = 40; body = Nonterminal 20 ∷ Action 3 ∷ Nonterminal 42 ∷ [] } ∷
    -- 98. in_parentheses: not_name ')' @group more_postfix
    record { of = 40; body = Nonterminal 44 ∷ Terminal 37 ∷ Action 14 ∷ Nonterminal 52 ∷ [] } ∷
    -- 99. name_in_parentheses: ')' cast_or_group
    record { of = 41; body = Terminal 37 ∷ Nonterminal 43 ∷ [] } ∷
    -- 100. name_in_parentheses: '(' arguments ')' @call behind_postfix ')' @group more_postfix
    record { of = 41; body = Terminal 36 ∷ Nonterminal 53 ∷ Terminal 37 ∷ Action 10 ∷ Nonterminal 45 ∷ Terminal 37 ∷ Action 14 ∷ Nonterminal 52 ∷ [] } ∷
    -- 101. name_in_parentheses: operator ')' @group more_postfix
    record { of = 41; body = Nonterminal 46 ∷ Terminal 37 ∷ Action 14 ∷ Nonterminal 52 ∷ [] } ∷
    -- 102. quantifier_in_parentheses: ')' cast_or_group
    record { of = 42; body = Terminal 37 ∷ Nonterminal 43 ∷ [] } ∷
    -- 103. quantifier_in_parentheses: '(' in_quantifier behind_postfix ')' @group more_postfix
    record { of = 42; body = Terminal 36 ∷ Nonterminal 49 ∷ Nonterminal 45 ∷ Terminal 37 ∷ Action 14 ∷ Nonterminal 52 ∷ [] } ∷
    -- 104. quantifier_in_parentheses: operator ')' @group more_postfix
    record { of = 42; body = Nonterminal 46 ∷ Terminal 37 ∷ Action 14 ∷ Nonterminal 52 ∷ [] } ∷
    -- 105. cast_or_group: operand @cast
    record { of = 43; body = Nonterminal 39 ∷ Action 15 ∷ [] } ∷
    -- 106. cast_or_group: @group more_postfix
    record { of = 43; body = Action 14 ∷ Nonterminal 52 ∷ [] } ∷
    -- 107. not_name: '!' unary @not behind_unary
    record { of = 44; body = Terminal 56 ∷ Nonterminal 37 ∷ Action 16 ∷ Nonterminal 23 ∷ [] } ∷
    -- 108. not_name: '-' unary @negate behind_unary
    record { of = 44; body = Terminal 54 ∷ Nonterminal 37 ∷ Action 17 ∷ Nonterminal 23 ∷ [] } ∷
    -- 109. not_name: '(' in_parentheses behind_unary
    record { of = 44; body = Terminal 36 ∷ Nonterminal 40 ∷ Nonterminal 23 ∷ [] } ∷
    -- 110. not_name: literal behind_postfix
    record { of = 44; body = Nonterminal 55 ∷ Nonterminal 45 ∷ [] } ∷
    -- 111. not_name: source behind_postfix
    record { of = 44; body = Nonterminal 56 ∷ Nonterminal 45 ∷ [] } ∷
    -- 112. behind_postfix: more_postfix behind_unary
    record { of = 45; body = Nonterminal 52 ∷ Nonterminal 23 ∷ [] } ∷
    -- 113. operator: '.' name @name '(' arguments ')' @member behind_postfix
    record { of = 46; body = Terminal 35 ∷ Nonterminal 18 ∷ Action 3 ∷ Terminal 36 ∷ Nonterminal 53 ∷ Terminal 37 ∷ Action 11 ∷ Nonterminal 45 ∷ [] } ∷
    -- 114. operator: '*' unary @product behind_unary
    record { of = 46; body = Terminal 55 ∷ Nonterminal 37 ∷ Action 18 ∷ Nonterminal 23 ∷ [] } ∷
    -- 115. operator: '+' product @sum more_sum more_relation more_equality more_and more_or choice
    record { of = 46; body = Terminal 53 ∷ Nonterminal 35 ∷ Action 19 ∷ Nonterminal 34 ∷ Nonterminal 32 ∷ Nonterminal 30 ∷ Nonterminal 28 ∷ Nonterminal 26 ∷ Nonterminal 24 ∷ [] } ∷
    -- 116. operator: '-' product @sum more_sum more_relation more_equality more_and more_or choice
    record { of = 46; body = Terminal 54 ∷ Nonterminal 35 ∷ Action 19 ∷ Nonterminal 34 ∷ Nonterminal 32 ∷ Nonterminal 30 ∷ Nonterminal 28 ∷ Nonterminal 26 ∷ Nonterminal 24 ∷ [] } ∷
    -- 117. operator: '<' sum @compare more_relation more_equality more_and more_or choice
    record { of = 46; body = Terminal 49 ∷ Nonterminal 33 ∷ Action 20 ∷ Nonterminal 32 ∷ Nonterminal 30 ∷ Nonterminal 28 ∷ Nonterminal 26 ∷ Nonterminal 24 ∷ [] } ∷
    -- 118. operator: '<=' sum @compare more_relation more_equality more_and more_or choice
    record { of = 46; body = Terminal 50 ∷ Nonterminal 33 ∷ Action 20 ∷ Nonterminal 32 ∷ Nonterminal 30 ∷ Nonterminal 28 ∷ Nonterminal 26 ∷ Nonterminal 24 ∷ [] } ∷
    -- 119. operator: '>' sum @compare more_relation more_equality more_and more_or choice
    record { of = 46; body = Terminal 51 ∷ Nonterminal 33 ∷ Action 20 ∷ Nonterminal 32 ∷ Nonterminal 30 ∷ Nonterminal 28 ∷ Nonterminal 26 ∷ Nonterminal 24 ∷ [] } ∷
    -- 120. operator: '>=' sum @compare more_relation more_equality more_and more_or choice
    record { of = 46; body = Terminal 52 ∷ Nonterminal 33 ∷ Action 20 ∷ Nonterminal 32 ∷ Nonterminal 30 ∷ Nonterminal 28 ∷ Nonterminal 26 ∷ Nonterminal 24 ∷ [] } ∷
    -- 121. operator: 'instanceof' name @name @instance more_relation more_equality more_and more_or choice
    record { of = 46; body = Terminal 20 ∷ Nonterminal 18 ∷ Action 3 ∷ Action 21 ∷ Nonterminal 32 ∷ Nonterminal 30 ∷ Nonterminal 28 ∷ Nonterminal 26 ∷ Nonterminal 24 ∷ [] } ∷
    -- 122. operator: '==' relation @equate more_equality more_and more_or choice
    record { of = 46; body = Terminal 47 ∷ Nonterminal 31 ∷ Action 22 ∷ Nonterminal 30 ∷ Nonterminal 28 ∷ Nonterminal 26 ∷ Nonterminal 24 ∷ [] } ∷
    -- 123. operator: '!=' relation @equate more_equality more_and more_or choice
    record { of = 46; body = Terminal 48 ∷ Nonterminal 31 ∷ Action 22 ∷ Nonterminal 30 ∷ Nonterminal 28 ∷ Nonterminal 26 ∷ Nonterminal 24 ∷ [] } ∷
    -- 124. operator: '&&' equality @and more_and more_or choice
    record { of = 46; body = Terminal 46 ∷ Nonterminal 29 ∷ Action 23 ∷ Nonterminal 28 ∷ Nonterminal 26 ∷ Nonterminal 24 ∷ [] } ∷
    -- 125. operator: '||' and @or more_or choice
    record { of = 46; body = Terminal 45 ∷ Nonterminal 27 ∷ Action 24 ∷ Nonterminal 26 ∷ Nonterminal 24 ∷ [] } ∷
    -- 126. operator: '?' expr ':' expr @choose
    record { of = 46; body = Terminal 43 ∷ Nonterminal 22 ∷ Terminal 44 ∷ Nonterminal 22 ∷ Action 25 ∷ [] } ∷
    -- 127. behind_name: '(' arguments ')' @call
    record { of = 47; body = Terminal 36 ∷ Nonterminal 53 ∷ Terminal 37 ∷ Action 10 ∷ [] } ∷
    -- 128. behind_name:
    record { of = 47; body = [] } ∷
    -- 129. behind_quantifier: '(' in_quantifier
    record { of = 48; body = Terminal 36 ∷ Nonterminal 49 ∷ [] } ∷
    -- 130. behind_quantifier:
    record { of = 48; body = [] } ∷
    -- 131. in_quantifier: @no_arguments ')' @call
    record { of = 49; body = Action 7 ∷ Terminal 37 ∷ Action 10 ∷ [] } ∷
    -- 132. in_quantifier: plain @name name_in_quantifier
    record { of = 49; body = Nonterminal 19 ∷ Action 3 ∷ Nonterminal 50 ∷ [] } ∷
    -- 133. in_quantifier: quantifier @name quantifier_in_quantifier
    record { of = 49; body = Nonterminal 20 ∷ Action 3 ∷ Nonterminal 51 ∷ [] } ∷
    -- 134. in_quantifier: not_name @first_argument more_arguments ')' @call
    record { of = 49; body = Nonterminal 44 ∷ Action 8 ∷ Nonterminal 54 ∷ Terminal 37 ∷ Action 10 ∷ [] } ∷
    -- 135. name_in_quantifier: ':' expr '|' expr ')' @quantified
    record { of = 50; body = Terminal 44 ∷ Nonterminal 22 ∷ Terminal 57 ∷ Nonterminal 22 ∷ Terminal 37 ∷ Action 13 ∷ [] } ∷
    -- 136. name_in_quantifier: behind_name behind_postfix @first_argument more_arguments ')' @call
    record { of = 50; body = Nonterminal 47 ∷ Nonterminal 45 ∷ Action 8 ∷ Nonterminal 54 ∷ Terminal 37 ∷ Action 10 ∷ [] } ∷
    -- 137. quantifier_in_quantifier: ':' expr '|' expr ')' @quantified
    record { of = 51; body = Terminal 44 ∷ Nonterminal 22 ∷ Terminal 57 ∷ Nonterminal 22 ∷ Terminal 37 ∷ Action 13 ∷ [] } ∷
    -- 138. quantifier_in_quantifier: behind_quantifier behind_postfix @first_argument more_arguments ')' @call
    record { of = 51; body = Nonterminal 48 ∷ Nonterminal 45 ∷ Action 8 ∷ Nonterminal 54 ∷ Terminal 37 ∷ Action 10 ∷ [] } ∷
    -- 139. more_postfix: '.' name @name '(' arguments ')' @member more_postfix
    record { of = 52; body = Terminal 35 ∷ Nonterminal 18 ∷ Action 3 ∷ Terminal 36 ∷ Nonterminal 53 ∷ Terminal 37 ∷ Action 11 ∷ Nonterminal 52 ∷ [] } ∷
    -- 140. more_postfix:
    record { of = 52; body = [] } ∷
    -- 141. arguments: expr @first_argument more_arguments
    record { of = 53; body = Nonterminal 22 ∷ Action 8 ∷ Nonterminal 54 ∷ [] } ∷
    -- 142. arguments: @no_arguments
    record { of = 53; body = Action 7 ∷ [] } ∷
    -- 143. more_arguments: ',' expr @argument more_arguments
    record { of = 54; body = Terminal 41 ∷ Nonterminal 22 ∷ Action 9 ∷ Nonterminal 54 ∷ [] } ∷
    -- 144. more_arguments:
    record { of = 54; body = [] } ∷
    -- 145. literal: 'true' @literal
    record { of = 55; body = Terminal 16 ∷ Action 4 ∷ [] } ∷
    -- 146. literal: 'false' @literal
    record { of = 55; body = Terminal 17 ∷ Action 4 ∷ [] } ∷
    -- 147. literal: 'null' @literal
    record { of = 55; body = Terminal 18 ∷ Action 4 ∷ [] } ∷
    -- 148. literal: 'empty' @literal
    record { of = 55; body = Terminal 19 ∷ Action 4 ∷ [] } ∷
    -- 149. literal: 'this' @literal
    record { of = 55; body = Terminal 15 ∷ Action 4 ∷ [] } ∷
    -- 150. literal: Int @literal
    record { of = 55; body = Terminal 2 ∷ Action 4 ∷ [] } ∷
    -- 151. literal: Text @text
    record { of = 55; body = Terminal 3 ∷ Action 5 ∷ [] } ∷
    -- 152. literal: 'new' name @name '(' arguments ')' @new
    record { of = 55; body = Terminal 14 ∷ Nonterminal 18 ∷ Action 3 ∷ Terminal 36 ∷ Nonterminal 53 ∷ Terminal 37 ∷ Action 12 ∷ [] } ∷
    -- 153. source: '@' Int @source
    record { of = 56; body = Terminal 59 ∷ Terminal 2 ∷ Action 6 ∷ [] } ∷
    -- 154. primary: literal
    record { of = 57; body = Nonterminal 55 ∷ [] } ∷
    -- 155. primary: plain @name behind_name
    record { of = 57; body = Nonterminal 19 ∷ Action 3 ∷ Nonterminal 47 ∷ [] } ∷
    -- 156. primary: quantifier @name behind_quantifier
    record { of = 57; body = Nonterminal 20 ∷ Action 3 ∷ Nonterminal 48 ∷ [] } ∷
    -- 157. primary: '(' expr ')' @group
    record { of = 57; body = Terminal 36 ∷ Nonterminal 22 ∷ Terminal 37 ∷ Action 14 ∷ [] } ∷
    []
