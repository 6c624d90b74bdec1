-- Some tokens say one tree or have one first broken rule, and not both.
use Rattle.std.proofs.Common.{◌≡◌, ℕ, List, [], ◌∷◌, Option, Some, None, ap, sym, ◌∙◌, subst}
use Rattle.broken_rules.proofs.Answering.{one_answer}
use Rattle.broken_rules.specs.Answers.{Answers}
use Rattle.broken_rules.specs.declared.broken.Broken.{Broken}
use Rattle.rag_io.specs.Tokens.{Lexed}
use Rattle.ast_grammar.specs.Grammar.{Class}
use Rattle.tree_arena.specs.Nodes.{Node}
use Rattle.tree_arena.specs.Terms.{nodes_of}
use Rattle.tree_syntax.proofs.OneFault.{one_syntax_fault, writes_or_fault}
use Rattle.tree_syntax.proofs.OneWritten.{one_written}
use Rattle.tree_syntax.specs.Written.{Written, Writes}
use Rattle.token_texts.specs.Texts.{pooled_texts}
use Rattle.tree_reader.specs.Breaking.{tree_broken}
use Rattle.tree_reader.specs.Grown.{tree_written}
use Rattle.tree_reader.specs.Reading.{IsFirstBroken, SaysTree, checked, syntax}

module _ (g : List Class) (pool : List (List ℕ)) (ts : List Lexed) where
  -- what tokens write has one answer
  same_answer : (w v : Written) (p q : Option Broken) → Writes ts w → Writes ts v → Answers (tree_broken g pool ts w ∷ []) p → Answers (tree_broken g pool ts v ∷ []) q → p ≡ q
  same_answer w v p q says also a b = one_answer a (subst (λ x. Answers (tree_broken g pool ts x ∷ []) q) (one_written also says) b)

  pub one_said_tree : (nodes others : List Node) → SaysTree g pool ts nodes → SaysTree g pool ts others → nodes ≡ others
  one_said_tree nodes others says also = says.are ∙ ap (λ w. nodes_of (tree_written g (pooled_texts pool ts) w)) (one_written says.writes also.writes) ∙ sym also.are

  pub one_broken : (b c : Broken) → IsFirstBroken g pool ts b → IsFirstBroken g pool ts c → b ≡ c
  one_broken b c (syntax fault) (syntax other) = one_syntax_fault ts b c fault other
  one_broken b c (syntax fault) (checked {w} says answer) = absurd (writes_or_fault ts w b says fault)
  one_broken b c (checked {w} says answer) (syntax fault) = absurd (writes_or_fault ts w c says fault)
  one_broken b c (checked {w} says answer) (checked {w = v} also other) = let same = same_answer w v (Some b) (Some c) says also answer other in cc

  pub said_or_broken : (nodes : List Node) (b : Broken) → SaysTree g pool ts nodes → IsFirstBroken g pool ts b → ⊥
  said_or_broken nodes b says (syntax fault) = writes_or_fault ts says.written b says.writes fault
  said_or_broken nodes b says (checked {w} also answer) = let same = same_answer says.written w None (Some b) says.writes also says.clean answer in cc
