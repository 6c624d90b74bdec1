-- The right sides of equations of higher-order attributes: what they break, and what they say. Each is a `new`, and so is each child argument of
-- a `new`: J12 elsewhere. The arguments for tokens are expressions like others.
use Rattle.std.specs.Prelude.{ℕ, List, [], ◌∷◌, ◌++◌, Option, drop}
use Rattle.std.specs.Option.{option_map}
use Rattle.rag_io.specs.declared.token.Place.{Place}
use Rattle.broken_rules.specs.declared.broken.Broken.{Broken}
use Rattle.broken_rules.specs.declared.rule.Rule.TheVariants.{J12}
use Rattle.broken_rules.specs.Notes.{at}
use Rattle.ast_grammar.specs.declared.grammar.ClassId.{ClassId}
use Rattle.ast_grammar.specs.Grammar.{Component, class_named, components_of, number_of}
use Rattle.attr_rules.specs.declared.kinds.Kind.{Kind}
use Rattle.attr_rules.specs.Expression as said
use Rattle.attr_rules.specs.Expression.{Expression, NewArguments, new_end}
use Rattle.aspect_items.specs.declared.expression.Expr as kept_expr
use Rattle.aspect_items.specs.Expressions.{Arguments, Expr, Name, New, argument, no_more}
use Rattle.attr_scope.specs.Classes.{class_broken, class_or_first}
use Rattle.attr_scope.specs.Scope.{Scope}
use Rattle.expr_typing.specs.declared.created.Takes.{Takes}
use Rattle.expr_typing.specs.declared.created.Takes.TheVariants as takes
use Rattle.expr_typing.specs.declared.standing.Stands.TheVariants.{Anywhere}
use Rattle.expr_typing.specs.Created.{argument_before, child_broken, components_known, new_said, size_broken, taken_for, unmade_broken}
use Rattle.expr_typing.specs.Fitting.{misfit}
use Rattle.expr_typing.specs.Places.{place_of}
use Rattle.expr_typing.specs.Typed.{body_of, class_type, count}
use Rattle.attr_bodies.specs.Bodies.{operand_broken}
use Rattle.attr_bodies.specs.Seen.{seen_arguments}

abbrev mutual
  -- What an argument breaks of a `new` at a place, which takes this there. What is no `new` makes no child, and is looked at no further.
  pub given_broken : Scope → Place → Takes → Expr → List Broken
  given_broken s p (takes.Token k) e = operand_broken s Anywhere k e
  given_broken s p (takes.Child c) (New q n es) = class_broken s.grammar n
      ++ (child_broken s.grammar p c (class_named s.grammar n.text)
      ++ (unmade_broken s.grammar q (count es) (class_named s.grammar n.text)
      ++ each_broken s q (components_known s.grammar (class_named s.grammar n.text)) es))
  given_broken s p (takes.Child c) e = at p J12 ∷ []
  given_broken s p takes.Nothing e = at p J12 ∷ []

  -- what the arguments break that are for these components
  pub each_broken : Scope → Place → List Component → Arguments → List Broken
  each_broken s p xs no_more = []
  each_broken s p [] (argument e es) = []
  each_broken s p (x ∷ xs) (argument e es) = given_broken s p (taken_for x) e ++ each_broken s p xs es

-- what a `new` at a place breaks, of a class, where that is known
abbrev pub made_broken : Scope → Place → Option ℕ → Arguments → List Broken
made_broken s p c es = unmade_broken s.grammar p (count es) c ++ each_broken s p (components_known s.grammar c) es

abbrev mutual
  -- What an argument of a `new` says, which takes this there. What is no `new` makes no child; a child of no known class counts as one of the first.
  pub given_said : Scope → Takes → Expr → Expression
  given_said s (takes.Token k) e = body_of s e
  given_said s (takes.Child c) (New q n es) = said.New (class_or_first (class_named s.grammar n.text))
      (each_said s (components_known s.grammar (class_named s.grammar n.text)) es)
  given_said s (takes.Child c) e = said.Null
  given_said s takes.Nothing e = said.Null

  -- what the arguments say that are for these components
  pub each_said : Scope → List Component → Arguments → NewArguments
  each_said s xs no_more = new_end
  each_said s [] (argument e es) = new_end
  each_said s (x ∷ xs) (argument e es) = argument_before (taken_for x) (given_said s (taken_for x) e) (each_said s xs es)

-- what the arguments of a `new` say, of a class, where that is known
abbrev pub made_said : Scope → Option ℕ → Arguments → NewArguments
made_said s c es = each_said s (components_known s.grammar c) es

-- What the right side of an equation of a higher-order attribute says. That of a `new` of a known class is a `new` of it, whatever it breaks.
abbrev pub created_said : Scope → Expr → Expression
created_said s (New p n es) = new_said (class_named s.grammar n.text) (made_said s (class_named s.grammar n.text) es)
created_said s e = body_of s e

-- a `new` that is such a right side, of which a type is wanted
abbrev pub root_broken : Scope → Kind → Place → Name → Arguments → List Broken
root_broken s wanted p n es = class_broken s.grammar n
    ++ (made_broken s p (class_named s.grammar n.text) es
    ++ (misfit s.grammar wanted (class_type s.grammar n.text) (New p n es) ++ size_broken p (created_said s (New p n es))))

-- J12: an expression that is no `new`, or stands in parentheses, with what it breaks as others do
abbrev pub other_broken : Scope → Kind → Expr → List Broken
other_broken s wanted e = operand_broken s Anywhere wanted e ++ at (place_of e) J12 ∷ []

-- what the right side of an equation of a higher-order attribute breaks, of which a type is wanted
abbrev pub created_broken : Scope → Kind → Expr → List Broken
created_broken s wanted (New p n es) = root_broken s wanted p n es
created_broken s wanted e = other_broken s wanted e

-- the same of arguments as they are kept: of those for the components of a class from one on, and of all, where the class may be unknown
abbrev pub rest_broken : Scope → Place → ClassId → ℕ → List kept_expr.Expr → List Broken
rest_broken s p c k es = each_broken s p (drop k (components_of s.grammar c.0)) (seen_arguments es)

abbrev pub rest_said : Scope → ClassId → ℕ → List kept_expr.Expr → NewArguments
rest_said s c k es = each_said s (drop k (components_of s.grammar c.0)) (seen_arguments es)

abbrev pub new_broken : Scope → Place → Option ClassId → List kept_expr.Expr → List Broken
new_broken s p c es = made_broken s p (option_map number_of c) (seen_arguments es)

abbrev pub new_made : Scope → Option ClassId → List kept_expr.Expr → NewArguments
new_made s c es = made_said s (option_map number_of c) (seen_arguments es)
