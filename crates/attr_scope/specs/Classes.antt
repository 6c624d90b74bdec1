-- Classes by their names, and the rule on these: J2.
use Rattle.std.specs.Prelude.{ℕ, List, Option, Some, None, is_none, length}
use Rattle.std.specs.List.{range_with_len}
use Rattle.broken_rules.specs.declared.broken.Broken.{Broken}
use Rattle.broken_rules.specs.declared.rule.Rule.TheVariants.{J2}
use Rattle.broken_rules.specs.Notes.{at, broken_if}
use Rattle.ast_grammar.specs.declared.grammar.ClassId.{ClassId}
use Rattle.ast_grammar.specs.Grammar.{Class, class_named}
use Rattle.aspect_items.specs.Expressions.{Name}
use Rattle.attr_scope.specs.WrittenTypes.{class_numbered}

-- J2: the name is that of no class
abbrev pub class_broken : List Class → Name → List Broken
class_broken g n = broken_if (is_none (class_named g n.text)) (at n.place J2)

-- the numbers of the classes
abbrev pub class_numbers : List Class → List ℕ
class_numbers g = range_with_len 0 (length g)

-- the class of a number, and the first one where there is none
abbrev pub class_or_first : Option ℕ → ClassId
class_or_first None = class_numbered 0
class_or_first (Some c) = class_numbered c
