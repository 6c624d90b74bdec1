-- The grammar `jrag_printed`, from tools/jrag_printed.grammar.
-- Tokens: 0 End, 1 Name, 2 Int, 3 Text, 4 'aspect', 5 'syn', 6 'inh', 7 'eq', 8 'coll', 9 'nta', 10 'lazy', 11 'when', 12 'to', 13 'for', 14 'new', 15 'this', 16 'true', 17 'false', 18 'null', 19 'empty', 20 'instanceof', 21 'Set', 22 'boolean', 23 'int', 24 'String', 25 'contributes', 26 'with', 27 'root', 28 'circular', 29 'each', 30 'any', 31 'all', 32 'first', 33 '{', 34 '}', 35 '.', 36 '(', 37 ')', 38 '[', 39 ']', 40 ';', 41 ',', 42 '=', 43 '?', 44 ':', 45 '||', 46 '&&', 47 '==', 48 '!=', 49 '<', 50 '<=', 51 '>', 52 '>=', 53 '+', 54 '-', 55 '*', 56 '!', 57 '|', 58 Other, 59 '@'
-- Nonterminals: 0 file, 1 expression, 2 aspects, 3 items, 4 item, 5 modifiers, 6 higher_order, 7 lazy, 8 circular, 9 equation, 10 path, 11 method, 12 root, 13 condition, 14 parameters, 15 more_parameters, 16 type, 17 type_name, 18 name, 19 whole, 20 expr, 21 choice, 22 or, 23 more_or, 24 and, 25 more_and, 26 equality, 27 more_equality, 28 relation, 29 more_relation, 30 sum, 31 more_sum, 32 product, 33 more_product, 34 unary, 35 cast, 36 operand, 37 more_postfix, 38 primary, 39 source, 40 quantifier, 41 arguments, 42 more_arguments
-- Actions: 1 begin, 2 end, 3 name, 4 literal, 5 text, 6 source, 7 no_arguments, 8 first_argument, 9 argument, 10 call, 11 member, 12 new, 13 quantified, 14 group, 15 cast, 16 not, 17 negate, 18 product, 19 sum, 20 compare, 21 instance, 22 equate, 23 and, 24 or, 25 choose, 26 no_items, 27 open, 28 item, 29 close, 30 synthesized, 31 inherited, 32 equation, 33 collection, 34 contribution, 35 present, 36 absent, 37 no_modifiers, 38 lazy_first, 39 higher_order_first, 40 type, 41 set, 42 no_parameters, 43 first_parameter, 44 parameter, 45 circular, 46 not_circular, 47 body, 48 no_body, 49 path, 50 no_path, 51 method, 52 no_method, 53 root, 54 no_root, 55 condition, 56 no_condition
use Rattle.std.specs.Prelude.{List, [], ◌∷◌}
use Rattle.ll_parser.specs.declared.symbols.Symbol.TheVariants.{Terminal, Nonterminal, Action}
use Rattle.ll_parser.specs.Grammar.{Production}

abbrev pub jrag_printed_grammar : List Production
jrag_printed_grammar =
    -- 0. file: @no_items aspects
    record { of = 0; body = Action 26 ∷ Nonterminal 2 ∷ [] } ∷
    -- 1. expression: whole
    record { of = 1; body = Nonterminal 19 ∷ [] } ∷
    -- 2. aspects: 'aspect' name @name '{' @open items '}' @close aspects
    record { of = 2; body = Terminal 4 ∷ Nonterminal 18 ∷ Action 3 ∷ Terminal 33 ∷ Action 27 ∷ Nonterminal 3 ∷ Terminal 34 ∷ Action 29 ∷ Nonterminal 2 ∷ [] } ∷
    -- 3. aspects:
    record { of = 2; body = [] } ∷
    -- 4. items: item @item items
    record { of = 3; body = Nonterminal 4 ∷ Action 28 ∷ Nonterminal 3 ∷ [] } ∷
    -- 5. items:
    record { of = 3; body = [] } ∷
    -- 6. item: 'syn' modifiers type name @name '.' name @name '(' parameters ')' circular equation ';' @synthesized
    record { of = 4; body = Terminal 5 ∷ Nonterminal 5 ∷ Nonterminal 16 ∷ Nonterminal 18 ∷ Action 3 ∷ Terminal 35 ∷ Nonterminal 18 ∷ Action 3 ∷ Terminal 36 ∷ Nonterminal 14 ∷ Terminal 37 ∷ Nonterminal 8 ∷ Nonterminal 9 ∷ Terminal 40 ∷ Action 30 ∷ [] } ∷
    -- 7. item: 'inh' lazy type name @name '.' name @name '(' parameters ')' circular ';' @inherited
    record { of = 4; body = Terminal 6 ∷ Nonterminal 7 ∷ Nonterminal 16 ∷ Nonterminal 18 ∷ Action 3 ∷ Terminal 35 ∷ Nonterminal 18 ∷ Action 3 ∷ Terminal 36 ∷ Nonterminal 14 ∷ Terminal 37 ∷ Nonterminal 8 ∷ Terminal 40 ∷ Action 31 ∷ [] } ∷
    -- 8. item: 'eq' name @name '.' name @name '(' parameters ')' path '=' whole ';' @equation
    record { of = 4; body = Terminal 7 ∷ Nonterminal 18 ∷ Action 3 ∷ Terminal 35 ∷ Nonterminal 18 ∷ Action 3 ∷ Terminal 36 ∷ Nonterminal 14 ∷ Terminal 37 ∷ Nonterminal 10 ∷ Terminal 42 ∷ Nonterminal 19 ∷ Terminal 40 ∷ Action 32 ∷ [] } ∷
    -- 9. item: 'coll' type name @name '.' name @name '(' ')' '[' whole ']' method root ';' @collection
    record { of = 4; body = Terminal 8 ∷ Nonterminal 16 ∷ Nonterminal 18 ∷ Action 3 ∷ Terminal 35 ∷ Nonterminal 18 ∷ Action 3 ∷ Terminal 36 ∷ Terminal 37 ∷ Terminal 38 ∷ Nonterminal 19 ∷ Terminal 39 ∷ Nonterminal 11 ∷ Nonterminal 12 ∷ Terminal 40 ∷ Action 33 ∷ [] } ∷
    -- 10. item: name @name 'contributes' whole condition 'to' name @name '.' name @name '(' ')' 'for' whole ';' @contribution
    record { of = 4; body = Nonterminal 18 ∷ Action 3 ∷ Terminal 25 ∷ Nonterminal 19 ∷ Nonterminal 13 ∷ Terminal 12 ∷ Nonterminal 18 ∷ Action 3 ∷ Terminal 35 ∷ Nonterminal 18 ∷ Action 3 ∷ Terminal 36 ∷ Terminal 37 ∷ Terminal 13 ∷ Nonterminal 19 ∷ Terminal 40 ∷ Action 34 ∷ [] } ∷
    -- 11. modifiers: 'lazy' higher_order @lazy_first
    record { of = 5; body = Terminal 10 ∷ Nonterminal 6 ∷ Action 38 ∷ [] } ∷
    -- 12. modifiers: 'nta' lazy @higher_order_first
    record { of = 5; body = Terminal 9 ∷ Nonterminal 7 ∷ Action 39 ∷ [] } ∷
    -- 13. modifiers: @no_modifiers
    record { of = 5; body = Action 37 ∷ [] } ∷
    -- 14. higher_order: 'nta' @present
    record { of = 6; body = Terminal 9 ∷ Action 35 ∷ [] } ∷
    -- 15. higher_order: @absent
    record { of = 6; body = Action 36 ∷ [] } ∷
    -- 16. lazy: 'lazy' @present
    record { of = 7; body = Terminal 10 ∷ Action 35 ∷ [] } ∷
    -- 17. lazy: @absent
    record { of = 7; body = Action 36 ∷ [] } ∷
    -- 18. circular: 'circular' '[' whole ']' @circular
    record { of = 8; body = Terminal 28 ∷ Terminal 38 ∷ Nonterminal 19 ∷ Terminal 39 ∷ Action 45 ∷ [] } ∷
    -- 19. circular: @not_circular
    record { of = 8; body = Action 46 ∷ [] } ∷
    -- 20. equation: '=' whole @body
    record { of = 9; body = Terminal 42 ∷ Nonterminal 19 ∷ Action 47 ∷ [] } ∷
    -- 21. equation: @no_body
    record { of = 9; body = Action 48 ∷ [] } ∷
    -- 22. path: '.' name @name '(' parameters ')' @path
    record { of = 10; body = Terminal 35 ∷ Nonterminal 18 ∷ Action 3 ∷ Terminal 36 ∷ Nonterminal 14 ∷ Terminal 37 ∷ Action 49 ∷ [] } ∷
    -- 23. path: @no_path
    record { of = 10; body = Action 50 ∷ [] } ∷
    -- 24. method: 'with' name @name @method
    record { of = 11; body = Terminal 26 ∷ Nonterminal 18 ∷ Action 3 ∷ Action 51 ∷ [] } ∷
    -- 25. method: @no_method
    record { of = 11; body = Action 52 ∷ [] } ∷
    -- 26. root: 'root' name @name @root
    record { of = 12; body = Terminal 27 ∷ Nonterminal 18 ∷ Action 3 ∷ Action 53 ∷ [] } ∷
    -- 27. root: @no_root
    record { of = 12; body = Action 54 ∷ [] } ∷
    -- 28. condition: 'when' whole @condition
    record { of = 13; body = Terminal 11 ∷ Nonterminal 19 ∷ Action 55 ∷ [] } ∷
    -- 29. condition: @no_condition
    record { of = 13; body = Action 56 ∷ [] } ∷
    -- 30. parameters: type name @name @first_parameter more_parameters
    record { of = 14; body = Nonterminal 16 ∷ Nonterminal 18 ∷ Action 3 ∷ Action 43 ∷ Nonterminal 15 ∷ [] } ∷
    -- 31. parameters: @no_parameters
    record { of = 14; body = Action 42 ∷ [] } ∷
    -- 32. more_parameters: ',' type name @name @parameter more_parameters
    record { of = 15; body = Terminal 41 ∷ Nonterminal 16 ∷ Nonterminal 18 ∷ Action 3 ∷ Action 44 ∷ Nonterminal 15 ∷ [] } ∷
    -- 33. more_parameters:
    record { of = 15; body = [] } ∷
    -- 34. type: type_name @type
    record { of = 16; body = Nonterminal 17 ∷ Action 40 ∷ [] } ∷
    -- 35. type: 'Set' '<' type_name '>' @set
    record { of = 16; body = Terminal 21 ∷ Terminal 49 ∷ Nonterminal 17 ∷ Terminal 51 ∷ Action 41 ∷ [] } ∷
    -- 36. type_name: name
    record { of = 17; body = Nonterminal 18 ∷ [] } ∷
    -- 37. type_name: 'boolean'
    record { of = 17; body = Terminal 22 ∷ [] } ∷
    -- 38. type_name: 'int'
    record { of = 17; body = Terminal 23 ∷ [] } ∷
    -- 39. type_name: 'String'
    record { of = 17; body = Terminal 24 ∷ [] } ∷
    -- 40. name: Name
    record { of = 18; body = Terminal 1 ∷ [] } ∷
    -- 41. name: 'contributes'
    record { of = 18; body = Terminal 25 ∷ [] } ∷
    -- 42. name: 'with'
    record { of = 18; body = Terminal 26 ∷ [] } ∷
    -- 43. name: 'root'
    record { of = 18; body = Terminal 27 ∷ [] } ∷
    -- 44. name: 'circular'
    record { of = 18; body = Terminal 28 ∷ [] } ∷
    -- 45. name: 'each'
    record { of = 18; body = Terminal 29 ∷ [] } ∷
    -- 46. name: 'any'
    record { of = 18; body = Terminal 30 ∷ [] } ∷
    -- 47. name: 'all'
    record { of = 18; body = Terminal 31 ∷ [] } ∷
    -- 48. name: 'first'
    record { of = 18; body = Terminal 32 ∷ [] } ∷
    -- 49. whole: @begin expr @end
    record { of = 19; body = Action 1 ∷ Nonterminal 20 ∷ Action 2 ∷ [] } ∷
    -- 50. expr: or choice
    record { of = 20; body = Nonterminal 22 ∷ Nonterminal 21 ∷ [] } ∷
    -- 51. choice: '?' expr ':' expr @choose
    record { of = 21; body = Terminal 43 ∷ Nonterminal 20 ∷ Terminal 44 ∷ Nonterminal 20 ∷ Action 25 ∷ [] } ∷
    -- 52. choice:
    record { of = 21; body = [] } ∷
    -- 53. or: and more_or
    record { of = 22; body = Nonterminal 24 ∷ Nonterminal 23 ∷ [] } ∷
    -- 54. more_or: '||' and @or more_or
    record { of = 23; body = Terminal 45 ∷ Nonterminal 24 ∷ Action 24 ∷ Nonterminal 23 ∷ [] } ∷
    -- 55. more_or:
    record { of = 23; body = [] } ∷
    -- 56. and: equality more_and
    record { of = 24; body = Nonterminal 26 ∷ Nonterminal 25 ∷ [] } ∷
    -- 57. more_and: '&&' equality @and more_and
    record { of = 25; body = Terminal 46 ∷ Nonterminal 26 ∷ Action 23 ∷ Nonterminal 25 ∷ [] } ∷
    -- 58. more_and:
    record { of = 25; body = [] } ∷
    -- 59. equality: relation more_equality
    record { of = 26; body = Nonterminal 28 ∷ Nonterminal 27 ∷ [] } ∷
    -- 60. more_equality: '==' relation @equate more_equality
    record { of = 27; body = Terminal 47 ∷ Nonterminal 28 ∷ Action 22 ∷ Nonterminal 27 ∷ [] } ∷
    -- 61. more_equality: '!=' relation @equate more_equality
    record { of = 27; body = Terminal 48 ∷ Nonterminal 28 ∷ Action 22 ∷ Nonterminal 27 ∷ [] } ∷
    -- 62. more_equality:
    record { of = 27; body = [] } ∷
    -- 63. relation: sum more_relation
    record { of = 28; body = Nonterminal 30 ∷ Nonterminal 29 ∷ [] } ∷
    -- 64. more_relation: '<' sum @compare more_relation
    record { of = 29; body = Terminal 49 ∷ Nonterminal 30 ∷ Action 20 ∷ Nonterminal 29 ∷ [] } ∷
    -- 65. more_relation: '<=' sum @compare more_relation
    record { of = 29; body = Terminal 50 ∷ Nonterminal 30 ∷ Action 20 ∷ Nonterminal 29 ∷ [] } ∷
    -- 66. more_relation: '>' sum @compare more_relation
    record { of = 29; body = Terminal 51 ∷ Nonterminal 30 ∷ Action 20 ∷ Nonterminal 29 ∷ [] } ∷
    -- 67. more_relation: '>=' sum @compare more_relation
    record { of = 29; body = Terminal 52 ∷ Nonterminal 30 ∷ Action 20 ∷ Nonterminal 29 ∷ [] } ∷
    -- 68. more_relation: 'instanceof' name @name @instance more_relation
    record { of = 29; body = Terminal 20 ∷ Nonterminal 18 ∷ Action 3 ∷ Action 21 ∷ Nonterminal 29 ∷ [] } ∷
    -- 69. more_relation:
    record { of = 29; body = [] } ∷
    -- 70. sum: product more_sum
    record { of = 30; body = Nonterminal 32 ∷ Nonterminal 31 ∷ [] } ∷
    -- 71. more_sum: '+' product @sum more_sum
    record { of = 31; body = Terminal 53 ∷ Nonterminal 32 ∷ Action 19 ∷ Nonterminal 31 ∷ [] } ∷
    -- 72. more_sum: '-' product @sum more_sum
    record { of = 31; body = Terminal 54 ∷ Nonterminal 32 ∷ Action 19 ∷ Nonterminal 31 ∷ [] } ∷
    -- 73. more_sum:
    record { of = 31; body = [] } ∷
    -- 74. product: unary more_product
    record { of = 32; body = Nonterminal 34 ∷ Nonterminal 33 ∷ [] } ∷
    -- 75. more_product: '*' unary @product more_product
    record { of = 33; body = Terminal 55 ∷ Nonterminal 34 ∷ Action 18 ∷ Nonterminal 33 ∷ [] } ∷
    -- 76. more_product:
    record { of = 33; body = [] } ∷
    -- 77. unary: '!' unary @not
    record { of = 34; body = Terminal 56 ∷ Nonterminal 34 ∷ Action 16 ∷ [] } ∷
    -- 78. unary: '-' unary @negate
    record { of = 34; body = Terminal 54 ∷ Nonterminal 34 ∷ Action 17 ∷ [] } ∷
    -- 79. unary: cast
    record { of = 34; body = Nonterminal 35 ∷ [] } ∷
    -- 80. cast: operand
    record { of = 35; body = Nonterminal 36 ∷ [] } ∷
    -- 81. cast: source more_postfix
    record { of = 35; body = Nonterminal 39 ∷ Nonterminal 37 ∷ [] } ∷
    -- 82. operand: '(' name @name ')' operand @cast
    record { of = 36; body = Terminal 36 ∷ Nonterminal 18 ∷ Action 3 ∷ Terminal 37 ∷ Nonterminal 36 ∷ Action 15 ∷ [] } ∷
    -- 83. operand: primary more_postfix
    record { of = 36; body = Nonterminal 38 ∷ Nonterminal 37 ∷ [] } ∷
    -- 84. more_postfix: '.' name @name '(' arguments ')' @member more_postfix
    record { of = 37; body = Terminal 35 ∷ Nonterminal 18 ∷ Action 3 ∷ Terminal 36 ∷ Nonterminal 41 ∷ Terminal 37 ∷ Action 11 ∷ Nonterminal 37 ∷ [] } ∷
    -- 85. more_postfix:
    record { of = 37; body = [] } ∷
    -- 86. primary: 'true' @literal
    record { of = 38; body = Terminal 16 ∷ Action 4 ∷ [] } ∷
    -- 87. primary: 'false' @literal
    record { of = 38; body = Terminal 17 ∷ Action 4 ∷ [] } ∷
    -- 88. primary: 'null' @literal
    record { of = 38; body = Terminal 18 ∷ Action 4 ∷ [] } ∷
    -- 89. primary: 'empty' @literal
    record { of = 38; body = Terminal 19 ∷ Action 4 ∷ [] } ∷
    -- 90. primary: 'this' @literal
    record { of = 38; body = Terminal 15 ∷ Action 4 ∷ [] } ∷
    -- 91. primary: Int @literal
    record { of = 38; body = Terminal 2 ∷ Action 4 ∷ [] } ∷
    -- 92. primary: Text @text
    record { of = 38; body = Terminal 3 ∷ Action 5 ∷ [] } ∷
    -- 93. primary: name @name
    record { of = 38; body = Nonterminal 18 ∷ Action 3 ∷ [] } ∷
    -- 94. primary: name @name '(' arguments ')' @call
    record { of = 38; body = Nonterminal 18 ∷ Action 3 ∷ Terminal 36 ∷ Nonterminal 41 ∷ Terminal 37 ∷ Action 10 ∷ [] } ∷
    -- 95. primary: 'new' name @name '(' arguments ')' @new
    record { of = 38; body = Terminal 14 ∷ Nonterminal 18 ∷ Action 3 ∷ Terminal 36 ∷ Nonterminal 41 ∷ Terminal 37 ∷ Action 12 ∷ [] } ∷
    -- 96. primary: '(' expr ')' @group
    record { of = 38; body = Terminal 36 ∷ Nonterminal 20 ∷ Terminal 37 ∷ Action 14 ∷ [] } ∷
    -- 97. primary: quantifier @name '(' name @name ':' expr '|' expr ')' @quantified
    record { of = 38; body = Nonterminal 40 ∷ Action 3 ∷ Terminal 36 ∷ Nonterminal 18 ∷ Action 3 ∷ Terminal 44 ∷ Nonterminal 20 ∷ Terminal 57 ∷ Nonterminal 20 ∷ Terminal 37 ∷ Action 13 ∷ [] } ∷
    -- 98. source: '@' Int @source
    record { of = 39; body = Terminal 59 ∷ Terminal 2 ∷ Action 6 ∷ [] } ∷
    -- 99. quantifier: 'each'
    record { of = 40; body = Terminal 29 ∷ [] } ∷
    -- 100. quantifier: 'any'
    record { of = 40; body = Terminal 30 ∷ [] } ∷
    -- 101. quantifier: 'all'
    record { of = 40; body = Terminal 31 ∷ [] } ∷
    -- 102. quantifier: 'first'
    record { of = 40; body = Terminal 32 ∷ [] } ∷
    -- 103. arguments: expr @first_argument more_arguments
    record { of = 41; body = Nonterminal 20 ∷ Action 8 ∷ Nonterminal 42 ∷ [] } ∷
    -- 104. arguments: @no_arguments
    record { of = 41; body = Action 7 ∷ [] } ∷
    -- 105. more_arguments: ',' expr @argument more_arguments
    record { of = 42; body = Terminal 41 ∷ Nonterminal 20 ∷ Action 9 ∷ Nonterminal 42 ∷ [] } ∷
    -- 106. more_arguments:
    record { of = 42; body = [] } ∷
    []
