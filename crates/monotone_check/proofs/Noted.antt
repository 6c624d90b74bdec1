-- What is noted of an expression, by what is noted of its parts.
use Rattle.std.proofs.Common.{◌≡◌, ℕ, ◌++◌, ◌∙◌, Bool, Option, ap, sym, subst}
use Rattle.rag_io.specs.declared.Place.{Place}
use Rattle.broken_rules.specs.declared.broken.Broken.{Broken}
use Rattle.broken_rules.specs.declared.rule.Rule.{Rule}
use Rattle.broken_rules.specs.Notes.{Notes}
use Rattle.attr_rules.specs.declared.expression.NewArgs.{NewArgs}
use Rattle.attr_rules.specs.declared.expression.TArgs.{TArgs}
use Rattle.attr_rules.specs.declared.expression.TExpr.{TExpr}
use Rattle.attr_rules.specs.Expression.{arguments_of, expression_of, new_arguments_of}
use Rattle.attr_rules.specs.Rising.{has_call}
use Rattle.monotone_check.specs.Positions.{broken_arguments, broken_in, broken_tokens, choice_broken}

module _ (circular : ℕ → Bool) {old new : Option Broken} where
  -- an expression that is known
  pub said : (refused : Option Rule) {a b : TExpr} → a ≡ b → Notes (broken_in circular refused (expression_of b)) old new → Notes (broken_in circular refused (expression_of a)) old new
  said refused h n = subst (λ x. Notes (broken_in circular refused (expression_of x)) old new) (sym h) n

  -- one in a box
  pub boxed : (refused : Option Rule) {a b : TExpr} → a ≡ b → Notes (broken_in circular refused (expression_of a)) old new → Notes (broken_in circular refused (expression_of b)) old new
  boxed refused h n = subst (λ x. Notes (broken_in circular refused (expression_of x)) old new) h n

  -- two in boxes
  pub both_boxed : (first second : Option Rule) {a b c d : TExpr} → a ≡ b → c ≡ d → Notes (broken_in circular first (expression_of a) ++ broken_in circular second (expression_of c)) old new
      → Notes (broken_in circular first (expression_of b) ++ broken_in circular second (expression_of d)) old new
  both_boxed first second {a = a} {d = d} h k n =
      subst (λ x. Notes (broken_in circular first (expression_of x) ++ broken_in circular second (expression_of d)) old new) h
      (subst (λ x. Notes (broken_in circular first (expression_of a) ++ broken_in circular second (expression_of x)) old new) k n)

  pub said_arguments : {a b : TArgs} → a ≡ b → Notes (broken_arguments circular (arguments_of b)) old new → Notes (broken_arguments circular (arguments_of a)) old new
  said_arguments h n = subst (λ x. Notes (broken_arguments circular (arguments_of x)) old new) (sym h) n

  pub boxed_arguments : {a b : TArgs} → a ≡ b → Notes (broken_arguments circular (arguments_of a)) old new → Notes (broken_arguments circular (arguments_of b)) old new
  boxed_arguments h n = subst (λ x. Notes (broken_arguments circular (arguments_of x)) old new) h n

  pub said_tokens : {a b : NewArgs} → a ≡ b → Notes (broken_tokens circular (new_arguments_of b)) old new → Notes (broken_tokens circular (new_arguments_of a)) old new
  said_tokens h n = subst (λ x. Notes (broken_tokens circular (new_arguments_of x)) old new) (sym h) n

  pub boxed_tokens : {a b : NewArgs} → a ≡ b → Notes (broken_tokens circular (new_arguments_of a)) old new → Notes (broken_tokens circular (new_arguments_of b)) old new
  boxed_tokens h n = subst (λ x. Notes (broken_tokens circular (new_arguments_of x)) old new) h n

  -- a choice, by whether its condition has a call
  pub chosen : (place : Option Place) {a b : TExpr} {calls : Bool} → a ≡ b → calls ≡ has_call circular (expression_of a) → Notes (choice_broken calls place) old new
      → Notes (choice_broken (has_call circular (expression_of b)) place) old new
  chosen place h k n = subst (λ x. Notes (choice_broken x place) old new) (k ∙ ap (λ x. has_call circular (expression_of x)) h) n
