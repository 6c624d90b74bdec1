-- The rules of types for created trees: which `new`, as they are written, make one, and of which class its root is.
use Rattle.std.specs.Prelude.{◌≡◌, ℕ, suc, ◌+◌, ◌≤◌, true, List, [], ◌∷◌, Some}
use Rattle.rag_io.specs.declared.token.Place.{Place}
use Rattle.ast_grammar.specs.declared.grammar.Shape.{Shape}
use Rattle.ast_grammar.specs.declared.grammar.Shape.TheVariants as shapes
use Rattle.ast_grammar.specs.Grammar.{Component, class_named, components_of}
use Rattle.attr_rules.specs.declared.kinds.Kind.{Kind}
use Rattle.attr_rules.specs.declared.kinds.Kind.TheVariants as kinds
use Rattle.attr_rules.specs.Rules.{most_created}
use Rattle.attr_rules.specs.Types.{class_of_number, fits}
use Rattle.attr_rules.specs.Typing.{IsConcrete}
use Rattle.aspect_items.specs.Expressions.{Expr, Arguments, Name, no_more, argument, New}
use Rattle.attr_scope.specs.Scope.{Scope}
use Rattle.typing_rules.specs.TypeRules.{IsOf}

-- the values of a token of this shape are of this type
pub data IsToken : Shape → Kind → Type 0 where
  text : IsToken shapes.Text kinds.Text
  int : IsToken shapes.Int kinds.Int
  truth : IsToken shapes.Truth kinds.Truth

mutual
  -- In a scope, a `new` makes a tree whose root is of the class that it names: one of which there are nodes.
  pub data IsMade : Scope → Expr → ℕ → Type 0 where
    made : {s : Scope} {es : Arguments} (p : Place) (n : Name) (c : ℕ) → class_named s.grammar n.text ≡ Some c
        → IsConcrete s.grammar c → AreMade s es (components_of s.grammar c) → IsMade s (New p n es) c

  -- The arguments of a `new` are as many as the components, and each is for its one: that for a token is of a type that fits, and that for a child
  -- makes a tree of a class that fits. There is none for a list or an optional.
  pub data AreMade : Scope → Arguments → List Component → Type 0 where
    end : {s : Scope} → AreMade s no_more []
    token : {s : Scope} {e : Expr} {es : Arguments} {xs : List Component} (x : Component) (k : Kind)
        → IsToken x.shape k → IsOf s k e → AreMade s es xs → AreMade s (argument e es) (x ∷ xs)
    child : {s : Scope} {e : Expr} {es : Arguments} {xs : List Component} (x : Component) (c : ℕ)
        → x.shape ≡ shapes.Child → IsMade s e c → fits s.grammar (class_of_number c) (kinds.Node x.class) ≡ true → AreMade s es xs
        → AreMade s (argument e es) (x ∷ xs)

abbrev mutual
  -- how many nodes are made: one by each `new`
  pub nodes_in : Expr → ℕ
  nodes_in (New p n es) = suc (nodes_among es)
  nodes_in e = 0

  pub nodes_among : Arguments → ℕ
  nodes_among no_more = 0
  nodes_among (argument e es) = nodes_in e + nodes_among es

abbrev mutual
  -- how many token values they have: one by each argument that is no `new`
  pub tokens_in : Expr → ℕ
  tokens_in (New p n es) = tokens_among es
  tokens_in e = 1

  pub tokens_among : Arguments → ℕ
  tokens_among no_more = 0
  tokens_among (argument e es) = tokens_in e + tokens_among es

-- A right side makes a tree whose root is of a class that fits a type. The whole tree has at most so many nodes, and so many token values.
pub record IsCreated (s : Scope) (wanted : Kind) (e : Expr) : Type 0 where
  pub class : ℕ
  pub made : IsMade s e class
  pub fit : fits s.grammar (class_of_number class) wanted ≡ true
  pub nodes : nodes_in e ≤ most_created
  pub tokens : tokens_in e ≤ most_created
