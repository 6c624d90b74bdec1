-- The arguments of a call, gathered from the last one to the first.
use Rattle.std.proofs.Common.{◌≡◌, List, [], ◌∷◌, ◌++◌, map, refl, ap, sym, ◌∙◌}
use Rattle.std.proofs.lemmas.List.{map-append}
use Rattle.attr_rules.specs.Expression as said
use Rattle.attr_rules.specs.Expression.{Arguments, Expression, arguments_of, expression_of}
use Rattle.attr_rules.specs.declared.expression.TArgs.{TArgs}
use Rattle.attr_rules.specs.declared.expression.TExpr.{TExpr}
use Rattle.expr_typing.specs.Typed.{arguments_in}

-- some arguments, and others behind them
abbrev pub before : List Expression → Arguments → Arguments
before [] rest = rest
before (e ∷ es) rest = said.argument e (before es rest)

none_behind : (es : List Expression) → before es said.no_more ≡ arguments_in es
none_behind [] = refl
none_behind (e ∷ es) = ap (said.argument e) (none_behind es)

one_behind : (es : List Expression) (e : Expression) (rest : Arguments) → before (es ++ e ∷ []) rest ≡ before es (said.argument e rest)
one_behind [] e rest = refl
one_behind (x ∷ es) e rest = ap (said.argument x) (one_behind es e rest)

-- the arguments that are left and those that are gathered are all
pub gathers_start : (list : List TExpr) → before (map expression_of list) said.no_more ≡ arguments_in (map expression_of list)
gathers_start list = none_behind (map expression_of list)

pub gathers_one : (front less : List TExpr) (last : TExpr) (rest more : TArgs) (all : Arguments) → front ≡ less ++ last ∷ [] → arguments_of more ≡ said.argument (expression_of last) (arguments_of rest)
    → before (map expression_of front) (arguments_of rest) ≡ all → before (map expression_of less) (arguments_of more) ≡ all
gathers_one front less last rest more all popped one h =
    ap (before (map expression_of less)) one
    ∙ sym (ap (λ xs. before (map expression_of xs) (arguments_of rest)) popped ∙ ap (λ es. before es (arguments_of rest)) (map-append expression_of less (last ∷ [])) ∙ one_behind (map expression_of less) (expression_of last) (arguments_of rest))
    ∙ h
