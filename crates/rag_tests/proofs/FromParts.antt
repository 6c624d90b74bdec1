-- What is read of texts, and programs of such parts: one without queries, and one without rules.
use Rattle.std.proofs.Common.{◌≡◌, ℕ, List, [], All, IfOk, Result, Ok, Err, None, Some, ◌≤◌, arith, length, map, slice_get, subst, sym}
use Rattle.broken_rules.specs.declared.broken.ReadFault.{ReadFault}
use Rattle.std.proofs.lemmas.List.Elements.{All-map}
use Rattle.rag_io.specs.Pool.{ArePooled}
use Rattle.ast_grammar.specs.FromBytes.{AnswersGrammar}
use Rattle.ast_grammar.specs.Grammar.{Class, IsGrammar}
use Rattle.attr_equations.specs.declared.rules.Rules.{Rules}
use Rattle.attr_equations.specs.Kept.{rules_in}
use Rattle.attr_rules.specs.declared.queries.QueryEq.{QueryEq}
use Rattle.attr_rules.specs.Expression.{Expression}
use Rattle.attr_rules.specs.Queries.{Query, query_of}
use Rattle.attr_rules.specs.Rules.{AreRules, EquationsRise, bodies}
use Rattle.tree_arena.specs.Nodes.{Node, most_nodes}
use Rattle.tree_arena.specs.Terms.{IsTreeOf}
use Rattle.tree_reader.specs.FromBytes.{AnswersTree}
use Rattle.equation_law.proofs.Above.{each_of}
use Rattle.rag_tests.specs.Nothing.{AsksNone}
use Rattle.program_reader.proofs.Answerable.{grammar_allowed, tree_allowed}
use Rattle.equation_law.specs.declared.system.Queries.{Queries}
use Rattle.equation_law.specs.Checked.{HasSourcesAlone, IsProgram, IsTyped}
use Rattle.equation_law.specs.Created.{making_in}
use Rattle.equation_law.specs.Systems.{program_from, queries_in}

-- a query is no `new`
abbrev MakesNone : Query → Type 0
MakesNone x = making_in x.body ≡ None

pub grammar_from : (bytes : List ℕ) (r : Result (List Class) ReadFault) → AnswersGrammar bytes r → IfOk r IsGrammar
grammar_from bytes (Ok g) says = grammar_allowed says
grammar_from bytes (Err e) says = tt

pub tree_from : (g : List Class) (before texts : List (List ℕ)) (bytes : List ℕ) (r : Result (List Node) ReadFault) → AnswersTree g before bytes texts r → IfOk r (IsTreeOf g (length texts))
tree_from g before texts bytes (Ok tree) says = tree_allowed says
tree_from g before texts bytes (Err e) says = tt

pub from_parts : (g : List Class) (r : Rules) (tree : List Node) (texts : List (List ℕ)) (q : Queries) → IsGrammar g → AreRules g (rules_in r) → EquationsRise (rules_in r) → ArePooled texts → IsTreeOf g (length texts) tree → queries_in q ≡ []
    → IsProgram (program_from g r tree texts q)
from_parts g r tree texts q grammar rules rising pooled grown none = record {
  grammar = grammar;
  rules = rules;
  rising = rising;
  texts = pooled;
  tree = grown;
  queries = subst (All (IsTyped (program_from g r tree texts q))) (sym none) (λ k x h. absurd (omega (arith, h)));
}

pub alone_from : (g : List Class) (r : Rules) (tree : List Node) (texts : List (List ℕ)) (q : Queries) (list : List QueryEq) → bodies (rules_in r) ≡ [] → queries_in q ≡ map query_of list → All AsksNone list → length tree ≤ most_nodes
    → HasSourcesAlone (program_from g r tree texts q)
alone_from g r tree texts q list none are asks few = record {
  nothing = λ k e is. absurd (let never : slice_get {X = Expression} [] k ≡ Some e = subst (λ (xs : List Expression). slice_get xs k ≡ Some e) none is in cc);
  asked = λ k x is. each_of MakesNone (queries_in q) k x (subst (All MakesNone) (sym are) (All-map MakesNone query_of list asks)) is;
  few = few;
}
