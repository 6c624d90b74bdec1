-- The program that a system keeps.
use Rattle.std.specs.Prelude.{ℕ, List, map}
use Rattle.ast_grammar.specs.Grammar.{Class}
use Rattle.attr_equations.specs.declared.rules.Rules.{Rules}
use Rattle.attr_equations.specs.Kept.{rules_in}
use Rattle.attr_rules.specs.Queries.{Query, query_of}
use Rattle.tree_arena.specs.Nodes.{Node}
use Rattle.equation_law.specs.declared.system.Queries.{Queries}
use Rattle.equation_law.specs.declared.system.System.{System}
use Rattle.equation_law.specs.Program.{Program}

abbrev pub queries_in : Queries → List Query
queries_in q = map query_of q.list.items

-- the program of these parts
abbrev pub program_from : List Class → Rules → List Node → List (List ℕ) → Queries → Program
program_from g r tree texts q = record { grammar = g; rules = rules_in r; tree = tree; texts = texts; queries = queries_in q }

unfoldable pub program_of : System → Program
program_of s = program_from s.grammar s.rules s.tree s.pool s.queries
