-- What the arguments of a call break and say, one more at a time.
use Rattle.std.proofs.Common.{◌≡◌, ℕ, zero, suc, ◌+◌, ◌<◌, ◌≤◌, List, [], ◌∷◌, ◌++◌, drop, length, get_or, slice_get, take, map, Option, None, refl, sym, ap, subst, ◌∙◌, append_assoc, arith}
use Rattle.std.proofs.lemmas.List.{append-nil, length-map, length-take-le, map-append, take_all, take_more}
use Rattle.std.proofs.Math.ListN.{get_or-map}
use Rattle.broken_rules.specs.declared.broken.Broken.{Broken}
use Rattle.broken_rules.specs.Notes.{Notes}
use Rattle.broken_rules.proofs.Noting.{notes_then}
use Rattle.attr_rules.specs.declared.kinds.Kind.{Kind}
use Rattle.expr_typing.specs.declared.standing.Stands.TheVariants.{Anywhere}
use Rattle.attr_bodies.specs.Bodies.{argument_broken, arguments_broken, expr_broken}
use Rattle.expr_typing.specs.Fitting.{misfit}
use Rattle.attr_scope.specs.Scope.{Scope}
use Rattle.expr_typing.specs.Typed.{arguments_in, arguments_said, body_of, known}
use Rattle.attr_rules.specs.Expression as said
use Rattle.attr_rules.specs.Expression.{Expression, expression_of}
use Rattle.attr_rules.specs.declared.expression.TExpr.{TExpr}
use Rattle.aspect_items.specs.declared.expression.Expr as kept_expr
use Rattle.aspect_items.specs.Expressions.{Expr, arguments_of, seen_expr}

-- the items of memory so far
seen_more : (es : List kept_expr.Expr) (i : ℕ) {e : kept_expr.Expr} → i < length es → e ≡ get_or es i e → take (i + 1) (map seen_expr es) ≡ take i (map seen_expr es) ++ seen_expr e ∷ []
seen_more es i {e} lt is =
    let within : i < length (map seen_expr es) = omega (arith, length-map es seen_expr) in
    take_more (map seen_expr es) i (seen_expr e) within ∙ ap (λ y. take i (map seen_expr es) ++ y ∷ []) (get_or-map seen_expr es i e ∙ ap seen_expr (sym is))

first_left : (ks : List Kind) (i : ℕ) → slice_get (drop i ks) 0 ≡ slice_get ks i
first_left [] zero = refl
first_left [] (suc i) = refl
first_left (k ∷ ks) zero = refl
first_left (k ∷ ks) (suc i) = first_left ks i

drop_next : (ks : List Kind) (i : ℕ) → drop 1 (drop i ks) ≡ drop (i + 1) ks
drop_next [] zero = refl
drop_next [] (suc i) = ap (λ (n : ℕ). drop n []) (let one : suc (suc i) ≡ suc i + 1 = omega arith in one)
drop_next (k ∷ ks) zero = refl
drop_next (k ∷ ks) (suc i) = drop_next ks i ∙ ap (λ (n : ℕ). drop n (k ∷ ks)) (let one : suc (i + 1) ≡ suc i + 1 = omega arith in one)

module _ (s : Scope) where
  broken_more : (wanted : List Kind) (es : List Expr) (e : Expr)
      → arguments_broken s wanted (arguments_of (es ++ e ∷ [])) ≡ arguments_broken s wanted (arguments_of es) ++ argument_broken s (slice_get wanted (length es)) e
  broken_more [] [] e = append-nil (expr_broken s Anywhere e)
  broken_more (k ∷ wanted) [] e = ap (λ bs. expr_broken s Anywhere e ++ bs) (append-nil (misfit s.grammar k (known s e) e))
  broken_more [] (x ∷ es) e =
      ap (λ bs. expr_broken s Anywhere x ++ bs) (broken_more [] es e) ∙ sym (append_assoc (expr_broken s Anywhere x) (arguments_broken s [] (arguments_of es)) (argument_broken s None e))
  broken_more (k ∷ wanted) (x ∷ es) e =
      let fit = misfit s.grammar k (known s x) x in
      let before = arguments_broken s wanted (arguments_of es) in
      let last = argument_broken s (slice_get wanted (length es)) e in
      ap (λ bs. expr_broken s Anywhere x ++ (fit ++ bs)) (broken_more wanted es e)
      ∙ ap (λ bs. expr_broken s Anywhere x ++ bs) (sym (append_assoc fit before last))
      ∙ sym (append_assoc (expr_broken s Anywhere x) (fit ++ before) last)

  -- what one more breaks
  pub one_noted : (wanted : List Kind) (es : List kept_expr.Expr) (i : ℕ) {e : kept_expr.Expr} {k : Option Kind} {a b c : Option Broken}
      → e ≡ get_or es i e → i < length es → k ≡ slice_get wanted i
      → Notes (arguments_broken s wanted (arguments_of (take i (map seen_expr es)))) a b → Notes (argument_broken s k (seen_expr e)) b c
      → Notes (arguments_broken s wanted (arguments_of (take (i + 1) (map seen_expr es)))) a c
  one_noted wanted es i {e} {k} {a} {b} {c} is lt at h g =
      let before = take i (map seen_expr es) in
      let many : length before ≡ i = length-take-le i (map seen_expr es) (omega (arith, length-map es seen_expr)) in
      let here = subst (λ o. Notes (argument_broken s o (seen_expr e)) b c) (at ∙ ap (slice_get wanted) (sym many)) g in
      subst (λ bs. Notes bs a c) (sym (ap (λ xs. arguments_broken s wanted (arguments_of xs)) (seen_more es i lt is) ∙ broken_more wanted before (seen_expr e))) (notes_then h here)

  -- what expressions say, one after the other
  abbrev pub said_each : List Expr → List Expression
  said_each es = map (body_of s) es

  arguments_each : (es : List Expr) → arguments_in (said_each es) ≡ arguments_said s (arguments_of es)
  arguments_each [] = refl
  arguments_each (e ∷ es) = ap (said.argument (body_of s e)) (arguments_each es)

  -- what the items so far say, with one more of them
  pub one_said : (es : List kept_expr.Expr) (i : ℕ) {e : kept_expr.Expr} (body : TExpr) (list : List TExpr) {new : List TExpr}
      → e ≡ get_or es i e → i < length es → expression_of body ≡ body_of s (seen_expr e) → new ≡ list ++ body ∷ []
      → map expression_of list ≡ said_each (take i (map seen_expr es)) → map expression_of new ≡ said_each (take (i + 1) (map seen_expr es))
  one_said es i {e} body list is lt says more h =
      ap (map expression_of) more ∙ map-append expression_of list (body ∷ []) ∙ (λ j. h j ++ says j ∷ [])
      ∙ sym (ap said_each (seen_more es i lt is) ∙ map-append (body_of s) (take i (map seen_expr es)) (seen_expr e ∷ []))

  -- what all of them say
  pub all_said : (es : List kept_expr.Expr) (i : ℕ) (list : List TExpr) → length es ≤ i → map expression_of list ≡ said_each (take i (map seen_expr es))
      → arguments_in (map expression_of list) ≡ arguments_said s (arguments_of (map seen_expr es))
  all_said es i list all same = ap arguments_in (same ∙ ap said_each (take_all i (map seen_expr es) (omega (arith, all, length-map es seen_expr)))) ∙ arguments_each (map seen_expr es)

-- the types that are left, of which the first is that of the next argument
pub next_kind : (ks rest : List Kind) (i : ℕ) → rest ≡ drop i ks → slice_get rest 0 ≡ slice_get ks i
next_kind ks rest i is = ap (λ xs. slice_get xs 0) is ∙ first_left ks i

pub kinds_left : (ks rest more : List Kind) (i : ℕ) → rest ≡ drop i ks → more ≡ drop 1 rest → more ≡ drop (i + 1) ks
kinds_left ks rest more i is next = next ∙ ap (drop 1) is ∙ drop_next ks i
