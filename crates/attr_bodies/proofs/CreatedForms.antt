-- What the parts of a `new` break, from what was noted for them, and what they say.
use Rattle.std.proofs.Common.{◌≡◌, ℕ, zero, suc, ◌+◌, ◌-◌, ◌≤◌, List, [], ◌∷◌, ◌++◌, drop, get_or, length, slice_get, take, Option, Some, None, Vec, Global, refl, sym, ap, subst, ◌∙◌, arith}
use Rattle.std.specs.Option.{option_map}
use Rattle.std.proofs.lemmas.List.{take_all}
use Rattle.rag_io.specs.declared.token.Place.{Place}
use Rattle.broken_rules.specs.declared.broken.Broken.{Broken}
use Rattle.broken_rules.specs.declared.rule.Rule.TheVariants.{J12}
use Rattle.broken_rules.specs.Notes.{Notes, at, broken_if}
use Rattle.broken_rules.proofs.Noting.{notes_none, notes_then}
use Rattle.ast_grammar.specs.declared.grammar.ClassId.{ClassId}
use Rattle.ast_grammar.specs.Grammar.{Component, class_named, number_of}
use Rattle.attr_rules.specs.declared.expression.TExpr.{TExpr}
use Rattle.attr_rules.specs.declared.kinds.Kind.{Kind}
use Rattle.attr_rules.specs.declared.types.ValueType.{ValueType}
use Rattle.attr_rules.specs.Expression.{Expression, NewArguments, expression_of, new_end}
use Rattle.attr_rules.specs.Types.{class_of_number, of_class}
use Rattle.aspect_items.specs.declared.expression.Expr as kept_expr
use Rattle.aspect_items.specs.declared.expression.Expr.TheVariants as kept
use Rattle.aspect_items.specs.declared.expression.Expr.TheVariants.{rolls-New}
use Rattle.aspect_items.specs.declared.expression.Name as kept_name
use Rattle.aspect_items.specs.Expressions.{New, seen_expr, seen_name}
use Rattle.attr_scope.specs.Classes.{class_broken}
use Rattle.attr_scope.specs.Scope.{Scope}
use Rattle.expr_typing.specs.declared.created.Takes.{Takes}
use Rattle.expr_typing.specs.declared.created.Takes.TheVariants.{Child}
use Rattle.expr_typing.specs.Created.{argument_before, child_broken, is_unmade, new_said, size_broken, taken_for}
use Rattle.expr_typing.specs.Fitting.{misfit}
use Rattle.attr_bodies.specs.Created.{created_broken, each_broken, each_said, given_broken, given_said, made_broken, made_said, new_broken, new_made, rest_broken}
use Rattle.attr_bodies.specs.Seen.{seen_arguments}
use Rattle.attr_bodies.proofs.TypedForms.{count_seen, seen-New}

-- the type of a class, by its number
by_number : (class : Option ClassId) → option_map of_class class ≡ option_map class_of_number (option_map number_of class)
by_number None = refl
by_number (Some c) = refl

-- the components from one on, where there is none
drop_none : (xs : List Component) (k : ℕ) → option_map taken_for (slice_get xs k) ≡ None → drop k xs ≡ []
drop_none [] zero e = refl
drop_none [] (suc k) e = refl
drop_none (x ∷ xs) zero e = absurd (cc)
drop_none (x ∷ xs) (suc k) e = drop_none xs k e

-- A component, of which this is taken, and those behind it.
record IsNext (xs : List Component) (k : ℕ) (t : Takes) : Type 0 where
  pub component : Component
  pub taken : taken_for component ≡ t
  pub is : drop k xs ≡ component ∷ drop (k + 1) xs

next_there : (xs : List Component) (k : ℕ) (t : Takes) → option_map taken_for (slice_get xs k) ≡ Some t → IsNext xs k t
next_there [] zero t e = absurd (cc)
next_there [] (suc k) t e = absurd (cc)
next_there (x ∷ xs) zero t e = let same : taken_for x ≡ t = cc in record { component = x; taken = same; is = refl }
next_there (x ∷ xs) (suc k) t e =
    let n = next_there xs k t e in
    let one : suc (k + 1) ≡ suc k + 1 = omega arith in
    record { component = n.component; taken = n.taken; is = n.is ∙ ap (λ (m : ℕ). n.component ∷ drop m (x ∷ xs)) one }

-- the items behind the first, as a pattern takes them
abbrev behind : List kept_expr.Expr → List kept_expr.Expr
behind es = take (length es - 1) (drop 1 es)

split_first : (es : List kept_expr.Expr) (e : kept_expr.Expr) → 1 ≤ length es → e ≡ get_or es 0 e → es ≡ e ∷ behind es
split_first [] e some is = absurd (omega (arith, some))
split_first (x ∷ es) e some is = (λ i. sym is i ∷ sym (take_all (length (x ∷ es) - 1) es (omega arith)) i)

module _ (s : Scope) where
  pub none_noted : (p : Place) (xs : List Component) (k : ℕ) (es : List kept_expr.Expr) {o : Option Takes} {a : Option Broken} → o ≡ option_map taken_for (slice_get xs k) → o ≡ None
      → Notes (each_broken s p (drop k xs) (seen_arguments es)) a a
  none_noted p xs k [] is none = notes_none
  none_noted p xs k (e ∷ es) {o} {a} is none = subst (λ ys. Notes (each_broken s p ys (seen_arguments (e ∷ es))) a a) (sym (drop_none xs k (sym is ∙ none))) notes_none

  pub none_said : (xs : List Component) (k : ℕ) (es : List kept_expr.Expr) {o : Option Takes} → o ≡ option_map taken_for (slice_get xs k) → o ≡ None → new_end ≡ each_said s (drop k xs) (seen_arguments es)
  none_said xs k [] is none = refl
  none_said xs k (e ∷ es) is none = ap (λ ys. each_said s ys (seen_arguments (e ∷ es))) (sym (drop_none xs k (sym is ∙ none)))

  -- the first argument, and those behind it
  pub one_noted : (p : Place) (xs : List Component) (k : ℕ) (es : List kept_expr.Expr) {e : kept_expr.Expr} {o : Option Takes} {t : Takes} {a b c : Option Broken} → 1 ≤ length es → e ≡ get_or es 0 e
      → o ≡ option_map taken_for (slice_get xs k) → o ≡ Some t → Notes (given_broken s p t (seen_expr e)) a b → Notes (each_broken s p (drop (k + 1) xs) (seen_arguments (behind es))) b c
      → Notes (each_broken s p (drop k xs) (seen_arguments es)) a c
  one_noted p xs k es {e} {o} {t} {a} {b} {c} some first is there h g =
      let n = next_there xs k t (sym is ∙ there) in
      let here = notes_then (subst (λ u. Notes (given_broken s p u (seen_expr e)) a b) (sym n.taken) h) g in
      let whole = subst (λ ys. Notes (each_broken s p ys (seen_arguments (e ∷ behind es))) a c) (sym n.is) here in
      subst (λ ys. Notes (each_broken s p (drop k xs) (seen_arguments ys)) a c) (sym (split_first es e some first)) whole

  pub one_said : (xs : List Component) (k : ℕ) (es : List kept_expr.Expr) {e : kept_expr.Expr} {o : Option Takes} {t : Takes} (one : Expression) (others parts : NewArguments) → 1 ≤ length es → e ≡ get_or es 0 e
      → o ≡ option_map taken_for (slice_get xs k) → o ≡ Some t → one ≡ given_said s t (seen_expr e) → others ≡ each_said s (drop (k + 1) xs) (seen_arguments (behind es)) → parts ≡ argument_before t one others
      → parts ≡ each_said s (drop k xs) (seen_arguments es)
  one_said xs k es {e} {o} {t} one others parts some first is there says told before =
      let n = next_there xs k t (sym is ∙ there) in
      before ∙ (λ i. argument_before t (says i) (told i)) ∙ ap (λ u. argument_before u (given_said s u (seen_expr e)) (each_said s (drop (k + 1) xs) (seen_arguments (behind es)))) (sym n.taken)
      ∙ ap (λ ys. each_said s ys (seen_arguments (e ∷ behind es))) (sym n.is) ∙ ap (λ ys. each_said s (drop k xs) (seen_arguments ys)) (sym (split_first es e some first))

  -- a `new` with its class and its arguments, as it is seen
  module _ {e : kept_expr.Expr} {p : Place} {n : kept_name.Name} (es : Vec kept_expr.Expr Global) (xs : List kept_expr.Expr) (class : Option ClassId) (is : e ≡ kept.New p n es) (i : xs ≡ es.items)
      (named : option_map number_of class ≡ class_named s.grammar n.text.items) where
    as_new : seen_expr e ≡ New p (seen_name n) (seen_arguments xs)
    as_new = ap seen_expr is ∙ seen-New p n es ∙ ap (λ ys. New p (seen_name n) (seen_arguments ys)) (sym i)

    -- as a child
    pub child_noted : (at_place : Place) (wanted : ClassId) {a b c d : Option Broken} → Notes (class_broken s.grammar (seen_name n)) a b → Notes (child_broken s.grammar at_place wanted (option_map number_of class)) b c
        → Notes (new_broken s p class xs) c d → Notes (given_broken s at_place (Child wanted) (seen_expr e)) a d
    child_noted at_place wanted {a} {b} {c} {d} h g k =
        let last = subst (λ o. Notes (child_broken s.grammar at_place wanted o ++ made_broken s p o (seen_arguments xs)) b d) named (notes_then g k) in
        subst (λ y. Notes (given_broken s at_place (Child wanted) y) a d) (sym as_new) (notes_then h last)

    -- as a whole right side
    pub root_noted : (wanted : Kind) (t : Option ValueType) (x : TExpr) (parts : NewArguments) {a b c d f : Option Broken} → Notes (class_broken s.grammar (seen_name n)) a b → Notes (new_broken s p class xs) b c
        → t ≡ option_map of_class class → Notes (misfit s.grammar wanted t (seen_expr e)) c d → parts ≡ new_made s class xs → expression_of x ≡ new_said (option_map number_of class) parts
        → Notes (size_broken p (expression_of x)) d f → Notes (created_broken s wanted (seen_expr e)) a f
    root_noted wanted t x parts {a} {b} {c} {d} {f} h g typed fit made said size =
        let of = typed ∙ by_number class ∙ ap (option_map class_of_number) named in
        let made_there = subst (λ o. Notes (made_broken s p o (seen_arguments xs)) b c) named g in
        let fit_there = subst (λ u. Notes (misfit s.grammar wanted u (New p (seen_name n) (seen_arguments xs))) c d) of (subst (λ y. Notes (misfit s.grammar wanted t y) c d) as_new fit) in
        let said_there = said ∙ ap (new_said (option_map number_of class)) made ∙ ap (λ o. new_said o (made_said s o (seen_arguments xs))) named in
        let size_there = subst (λ y. Notes (size_broken p y) d f) said_there size in
        subst (λ y. Notes (created_broken s wanted y) a f) (sym as_new) (notes_then h (notes_then made_there (notes_then fit_there size_there)))

  -- the arguments of a `new` of a known class
  pub known_noted : (p : Place) (c : ClassId) (es : List kept_expr.Expr) {k : ℕ} {class : Option ClassId} {a b d : Option Broken} → class ≡ Some c → k ≡ length es
      → Notes (broken_if (is_unmade s.grammar c.0 k) (at p J12)) a b → Notes (rest_broken s p c 0 es) b d → Notes (new_broken s p class es) a d
  known_noted p c es {k} {class} {a} {b} {d} is many h g =
      let counted = subst (λ m. Notes (broken_if (is_unmade s.grammar c.0 m) (at p J12)) a b) (sym (count_seen es many)) h in
      subst (λ o. Notes (new_broken s p o es) a d) (sym is) (notes_then counted g)
