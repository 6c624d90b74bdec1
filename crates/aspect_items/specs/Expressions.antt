-- Expressions as they are written, without where they lie in memory.
use Rattle.std.specs.Prelude.{ℕ, Bool, List, [], ◌∷◌}
use Rattle.rag_io.specs.declared.token.Place.{Place}
use Rattle.aspect_items.specs.declared.expression.Expr as kept_expr
use Rattle.aspect_items.specs.declared.expression.Expr.{fold-Expr}
use Rattle.aspect_items.specs.declared.expression.Expr.TheOpen.{Expr-F}
use Rattle.aspect_items.specs.declared.expression.Name as kept
use Rattle.aspect_items.specs.declared.expression.Operator.{Operator}
use Rattle.aspect_items.specs.declared.expression.Quantifier.{Quantifier}

pub record Name : Type 0 where
  pub text : List ℕ
  pub place : Place

abbrev pub seen_name : kept.Name → Name
seen_name n = record { text = n.text.items; place = n.place }

mutual
  pub data Expr : Type 0 where
    Truth : Place → Bool → Expr
    Null : Place → Expr
    Empty : Place → Expr
    This : Place → Expr
    Int : Place → ℕ → Expr
    Text : Place → ℕ → Expr
    Source : Place → ℕ → Expr
    Variable : Name → Expr
    Call : Name → Arguments → Expr
    Member : Expr → Name → Arguments → Expr
    New : Place → Name → Arguments → Expr
    Quantified : Quantifier → Place → Name → Expr → Expr → Expr
    Group : Place → Expr → Expr
    Cast : Place → Name → Expr → Expr
    Not : Place → Expr → Expr
    Negate : Place → Expr → Expr
    Binary : Operator → Expr → Expr → Expr
    InstanceOf : Expr → Name → Expr
    If : Expr → Expr → Expr → Expr

  -- the arguments of a call
  pub data Arguments : Type 0 where
    no_more : Arguments
    argument : Expr → Arguments → Arguments

abbrev pub arguments_of : List Expr → Arguments
arguments_of [] = no_more
arguments_of (e ∷ es) = argument e (arguments_of es)

-- one level, with each expression inside already seen
abbrev pub seen_level : Expr-F Expr → Expr
seen_level (Expr-F.Truth p b) = Truth p b
seen_level (Expr-F.Null p) = Null p
seen_level (Expr-F.Empty p) = Empty p
seen_level (Expr-F.This p) = This p
seen_level (Expr-F.Int p n) = Int p n
seen_level (Expr-F.Text p n) = Text p n
seen_level (Expr-F.Source p n) = Source p n
seen_level (Expr-F.Variable n) = Variable (seen_name n)
seen_level (Expr-F.Call n es) = Call (seen_name n) (arguments_of es.items)
seen_level (Expr-F.Member e n es) = Member e.value (seen_name n) (arguments_of es.items)
seen_level (Expr-F.New p n es) = New p (seen_name n) (arguments_of es.items)
seen_level (Expr-F.Quantified q p n e f) = Quantified q p (seen_name n) e.value f.value
seen_level (Expr-F.Group p e) = Group p e.value
seen_level (Expr-F.Cast p n e) = Cast p (seen_name n) e.value
seen_level (Expr-F.Not p e) = Not p e.value
seen_level (Expr-F.Negate p e) = Negate p e.value
seen_level (Expr-F.Binary o a b) = Binary o a.value b.value
seen_level (Expr-F.InstanceOf e n) = InstanceOf e.value (seen_name n)
seen_level (Expr-F.If c a b) = If c.value a.value b.value

abbrev pub seen_expr : kept_expr.Expr → Expr
seen_expr = fold-Expr Expr seen_level
