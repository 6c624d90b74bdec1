-- What forms break, from what was noted for their parts.
use Rattle.std.proofs.Common.{◌≡◌, ℕ, ◌<◌, arith, Bool, subst, List, [], ◌∷◌, Option, Box, Vec, Global, suc, length, map, refl, ap, sym, ◌∙◌}
use Rattle.std.specs.Option.{option_and_then, option_map}
use Rattle.std.proofs.lemmas.List.{length-map}
use Rattle.rag_io.specs.declared.token.Place.{Place}
use Rattle.broken_rules.specs.declared.broken.Broken.{Broken}
use Rattle.broken_rules.specs.Notes.{Notes}
use Rattle.broken_rules.proofs.Noting.{notes_none, notes_then}
use Rattle.attr_bodies.specs.declared.bodies.TypedPart.{TypedPart}
use Rattle.attr_rules.specs.declared.accessors.Accessor.{Accessor}
use Rattle.attr_rules.specs.declared.kinds.Kind.{Kind}
use Rattle.expr_typing.specs.declared.ranges.Elements.{Elements}
use Rattle.attr_scope.specs.declared.scope.Member as member
use Rattle.expr_typing.specs.declared.typed.Typed as kept_typed
use Rattle.attr_rules.specs.declared.types.ValueType.{ValueType}
use Rattle.expr_typing.specs.declared.standing.Stands.{Stands}
use Rattle.expr_typing.specs.declared.standing.Stands.TheVariants.{Anywhere}
use Rattle.expr_typing.specs.declared.set_forms.SetForm.{SetForm}
use Rattle.expr_typing.specs.declared.sides.Part.{Part}
use Rattle.attr_bodies.specs.Bodies.{arguments_broken, body_broken, calls_break, cast_broken, expr_broken, form_broken, inner_broken, quantified_broken, range_broken}
use Rattle.expr_typing.specs.Calls.{call_broken}
use Rattle.expr_typing.specs.Fitting.{choice_broken, sides_broken}
use Rattle.expr_typing.specs.Standing.{is_range}
use Rattle.attr_rules.specs.Expression as said
use Rattle.attr_rules.specs.Expression.{arguments_of as said_arguments, expression_of}
use Rattle.attr_rules.specs.declared.expression.TArgs.{TArgs}
use Rattle.attr_rules.specs.declared.expression.TExpr.{TExpr}
use Rattle.attr_scope.specs.Scope.{Scope, Variable, list_called, member_on, type_called, wanted_for}
use Rattle.expr_typing.specs.Places.{place_of}
use Rattle.attr_bodies.specs.Says.{call_says, cast_says, form_says, quantified_says, said_as, said_by, seen_typed, test_says}
use Rattle.expr_typing.specs.SetForms.{count_broken, one_broken, pair_broken, settled}
use Rattle.expr_typing.specs.Typed.{arguments_said, body_of, call_said, count, element_named, element_type, inside, known, over_said, quantified_type, range_of}
use Rattle.aspect_items.specs.declared.expression.Expr as kept_expr
use Rattle.aspect_items.specs.declared.expression.Expr.TheFolds.{fold-roll-Expr}
use Rattle.aspect_items.specs.declared.expression.Expr.TheOpen.{Expr-F}
use Rattle.aspect_items.specs.declared.expression.Expr.TheVariants as kept
use Rattle.aspect_items.specs.declared.expression.Expr.TheVariants.{rolls-Binary, rolls-Call, rolls-Cast, rolls-If, rolls-InstanceOf, rolls-Member, rolls-New, rolls-Quantified}
use Rattle.aspect_items.specs.declared.expression.Name as kept_name
use Rattle.aspect_items.specs.declared.expression.Operator.{Operator}
use Rattle.aspect_items.specs.declared.expression.Quantifier.{Quantifier}
use Rattle.aspect_items.specs.Expressions.{Binary, Call, Cast, Expr, If, InstanceOf, Member, Name, New, Quantified, argument, arguments_of, no_more, seen_expr, seen_level, seen_name}

-- the forms of several parts as they are seen
seen-Member : (e : Box kept_expr.Expr Global) (n : kept_name.Name) (es : Vec kept_expr.Expr Global) → seen_expr (kept.Member e n es) ≡ Member (seen_expr e.value) (seen_name n) (arguments_of (map seen_expr es.items))
seen-Member e n es = ap seen_expr (sym (rolls-Member e n es)) ∙ fold-roll-Expr Expr seen_level (Expr-F.Member e n es)

seen-Binary : (o : Operator) (a b : Box kept_expr.Expr Global) → seen_expr (kept.Binary o a b) ≡ Binary o (seen_expr a.value) (seen_expr b.value)
seen-Binary o a b = ap seen_expr (sym (rolls-Binary o a b)) ∙ fold-roll-Expr Expr seen_level (Expr-F.Binary o a b)

seen-Cast : (p : Place) (n : kept_name.Name) (a : Box kept_expr.Expr Global) → seen_expr (kept.Cast p n a) ≡ Cast p (seen_name n) (seen_expr a.value)
seen-Cast p n a = ap seen_expr (sym (rolls-Cast p n a)) ∙ fold-roll-Expr Expr seen_level (Expr-F.Cast p n a)

seen-InstanceOf : (a : Box kept_expr.Expr Global) (n : kept_name.Name) → seen_expr (kept.InstanceOf a n) ≡ InstanceOf (seen_expr a.value) (seen_name n)
seen-InstanceOf a n = ap seen_expr (sym (rolls-InstanceOf a n)) ∙ fold-roll-Expr Expr seen_level (Expr-F.InstanceOf a n)

pub seen-Call : (n : kept_name.Name) (es : Vec kept_expr.Expr Global) → seen_expr (kept.Call n es) ≡ Call (seen_name n) (arguments_of (map seen_expr es.items))
seen-Call n es = ap seen_expr (sym (rolls-Call n es)) ∙ fold-roll-Expr Expr seen_level (Expr-F.Call n es)

pub seen-New : (p : Place) (n : kept_name.Name) (es : Vec kept_expr.Expr Global) → seen_expr (kept.New p n es) ≡ New p (seen_name n) (arguments_of (map seen_expr es.items))
seen-New p n es = ap seen_expr (sym (rolls-New p n es)) ∙ fold-roll-Expr Expr seen_level (Expr-F.New p n es)

seen-Quantified : (q : Quantifier) (p : Place) (n : kept_name.Name) (r c : Box kept_expr.Expr Global) → seen_expr (kept.Quantified q p n r c) ≡ Quantified q p (seen_name n) (seen_expr r.value) (seen_expr c.value)
seen-Quantified q p n r c = ap seen_expr (sym (rolls-Quantified q p n r c)) ∙ fold-roll-Expr Expr seen_level (Expr-F.Quantified q p n r c)

seen-If : (c a b : Box kept_expr.Expr Global) → seen_expr (kept.If c a b) ≡ If (seen_expr c.value) (seen_expr a.value) (seen_expr b.value)
seen-If c a b = ap seen_expr (sym (rolls-If c a b)) ∙ fold-roll-Expr Expr seen_level (Expr-F.If c a b)

-- how many arguments there are
count_is : (es : List Expr) → count (arguments_of es) ≡ length es
count_is [] = refl
count_is (e ∷ es) = ap suc (count_is es)

pub count_seen : (es : List kept_expr.Expr) {k : ℕ} → k ≡ length es → count (arguments_of (map seen_expr es)) ≡ k
count_seen es e = count_is (map seen_expr es) ∙ length-map es seen_expr ∙ sym e

module _ (s : Scope) where
  -- the type of what was read
  pub known_type : (e : Expr) (t : kept_typed.Typed) → seen_typed t ≡ said_by s e → t.value_type ≡ known s e
  known_type e t is = ap (λ r. r.type) is

  -- what a call breaks behind a receiver of a type, where that is known
  pub call_noted : (range : Bool) (t : Option ValueType) (n : Name) (first : Place) (es : List kept_expr.Expr) {k : ℕ} {text : List ℕ} {m : Option member.Member} {wanted : List Kind} {a b c : Option Broken}
      → k ≡ length es → text ≡ n.text → m ≡ member_on s t text k → wanted ≡ wanted_for s m k
      → (m ≡ member_on s t n.text k → Notes (call_broken s range n k first t) a b) → Notes (arguments_broken s wanted (arguments_of (map seen_expr es))) b c
      → Notes (calls_break s range t n first (arguments_of (map seen_expr es))) a c
  call_noted range t n first es {k} e i is for h g =
      let many = count_seen es e in
      let named = is ∙ ap (λ x. member_on s t x k) i in
      rw many (notes_then (h named) (rw (for, named) at g))

  -- and what it says
  pub call_tells : (r : kept_typed.Typed) (n : Name) (es : List kept_expr.Expr) (b : TExpr) (i : TArgs) {k : ℕ} {text : List ℕ} {m : Option member.Member} {t : Option ValueType} {o : Option Accessor}
      → k ≡ length es → text ≡ n.text → m ≡ member_on s r.value_type text k → said_arguments i ≡ arguments_said s (arguments_of (map seen_expr es))
      → t ≡ option_and_then (type_called s) m → o ≡ option_and_then (list_called k) m → expression_of b ≡ call_said m n.place (expression_of r.body) (said_arguments i)
      → seen_typed (record { value_type = t; list = o; body = b }) ≡ call_says s (seen_typed r) n (arguments_of (map seen_expr es))
  call_tells r n es b i e named is first of listed told =
      let many = count_seen es e in
      rw many (rw (← named, ← is, ← first) (rw (of, listed, told) refl))

  -- a part was looked at
  abbrev pub IsTyped : kept_expr.Expr → TypedPart → Option Broken → Option Broken → Type 0
  IsTyped x p a b = record { noted : Notes (expr_broken s Anywhere (seen_expr x)) a b; written : p.written.now ≡ x; says : seen_typed p.typed ≡ said_by s (seen_expr x) }

  pub member_noted : (at_place : Stands) {e : kept_expr.Expr} {r : Box kept_expr.Expr Global} {n : kept_name.Name} (es : Vec kept_expr.Expr Global) (x : kept_expr.Expr) (xs : List kept_expr.Expr) (p : TypedPart) {a b c : Option Broken}
      → e ≡ kept.Member r n es → x ≡ r.value → xs ≡ es.items → IsTyped x p a b
      → Notes (calls_break s (is_range at_place) p.typed.value_type (seen_name n) (place_of (seen_expr p.written.now)) (arguments_of (map seen_expr xs))) b c
      → Notes (expr_broken s at_place (seen_expr e)) a c
  member_noted at_place {e} {r} {n} es x xs p is i j f h =
      rw is (rw seen-Member (rw (← i, ← j) (notes_then f.noted (rw (known_type (seen_expr x) p.typed f.says, f.written) at h))))

  -- a cast, and a test of a class
  pub cast_noted : (at_place : Stands) {e : kept_expr.Expr} {q : Place} {n : kept_name.Name} {r : Box kept_expr.Expr Global} (x : kept_expr.Expr) {a b : Option Broken}
      → e ≡ kept.Cast q n r → x ≡ r.value → Notes (cast_broken s (seen_name n) (seen_expr x)) a b → Notes (expr_broken s at_place (seen_expr e)) a b
  cast_noted at_place x is i h = rw is (rw seen-Cast (rw (← i) h))

  pub cast_tells : {e : kept_expr.Expr} {q : Place} {n : kept_name.Name} {r : Box kept_expr.Expr Global} (x : kept_expr.Expr) (t : kept_typed.Typed)
      → e ≡ kept.Cast q n r → x ≡ r.value → seen_typed t ≡ cast_says s (seen_name n) (seen_expr x) → seen_typed t ≡ said_by s (seen_expr e)
  cast_tells x t is i h = rw is (rw seen-Cast (rw (← i) h))

  pub test_noted : (at_place : Stands) {e : kept_expr.Expr} {n : kept_name.Name} {r : Box kept_expr.Expr Global} (x : kept_expr.Expr) {a b : Option Broken}
      → e ≡ kept.InstanceOf r n → x ≡ r.value → Notes (cast_broken s (seen_name n) (seen_expr x)) a b → Notes (expr_broken s at_place (seen_expr e)) a b
  test_noted at_place x is i h = rw is (rw seen-InstanceOf (rw (← i) h))

  pub test_tells : {e : kept_expr.Expr} {n : kept_name.Name} {r : Box kept_expr.Expr Global} (x : kept_expr.Expr) (t : kept_typed.Typed)
      → e ≡ kept.InstanceOf r n → x ≡ r.value → seen_typed t ≡ test_says s (seen_name n) (seen_expr x) → seen_typed t ≡ said_by s (seen_expr e)
  test_tells x t is i h = rw is (rw seen-InstanceOf (rw (← i) h))

  -- the scope of the body
  pub scope_inside : (q : Quantifier) (n : Name) (range : Expr) {o : Option Elements} {text : List ℕ} {t : Option ValueType} {vs ws : List Variable}
      → text ≡ n.text → t ≡ option_map element_type o → o ≡ range_of s q range → vs ≡ record { name = text; type = t } ∷ s.variables → ws ≡ vs
      → (record { grammar = s.grammar; known = s.known; this = s.this; variables = ws }) ≡ inside s q n range
  scope_inside q n range {o} {text} {t} named typed elements is same =
      let first : (record { name = text; type = t }) ≡ element_named n (range_of s q range) =
      (λ i. record { name = named i; type = typed i }) ∙ ap (element_named n) elements
      in
      let there = same ∙ is ∙ ap (λ (v : Variable). v ∷ s.variables) first in
      ap (λ (vs : List Variable). record { grammar = s.grammar; known = s.known; this = s.this; variables = vs }) there

  -- a form over some elements, whose body stands in a scope with one name more
  pub over_noted : (q : Quantifier) (n : Name) (range e : Expr) (inner : Scope) {a b c : Option Broken}
      → inner ≡ inside s q n range → Notes (range_broken s q range) a b → Notes (body_broken inner q e) b c → Notes (quantified_broken s q n range e) a c
  over_noted q n range e inner {a} {b} {c} is h g = notes_then h (subst (λ t. Notes (body_broken t q e) b c) is g)

  pub quantified_noted : (at_place : Stands) {e : kept_expr.Expr} {q : Quantifier} {p : Place} {n : kept_name.Name} {r c : Box kept_expr.Expr Global} (x y : kept_expr.Expr) {a b : Option Broken}
      → e ≡ kept.Quantified q p n r c → x ≡ r.value → y ≡ c.value → Notes (quantified_broken s q (seen_name n) (seen_expr x) (seen_expr y)) a b → Notes (expr_broken s at_place (seen_expr e)) a b
  quantified_noted at_place x y is i j h = rw is (rw seen-Quantified (rw (← i, ← j) h))

  -- a form of sets with one argument
  pub form_noted : (f : SetForm) (n : Name) (x : kept_expr.Expr) (p : TypedPart) (part : Part) {a b c : Option Broken}
      → IsTyped x p a b → part ≡ record { written = p.written; value_type = p.typed.value_type } → Notes (one_broken f n part.value_type (seen_expr part.written.now)) b c
      → Notes (inner_broken s f n (argument (seen_expr x) no_more)) a c
  form_noted f n x p part {a} {b} {c} g is h =
      let here = subst (λ (r : Part). Notes (one_broken f n r.value_type (seen_expr r.written.now)) b c) is h in
      notes_then (notes_then g.noted notes_none) (rw (known_type (seen_expr x) p.typed g.says, g.written) at here)

  -- with two
  pub pair_noted : (f : SetForm) (n : Name) (x y : kept_expr.Expr) (p q : TypedPart) (first second : Part) {a b c d : Option Broken}
      → IsTyped x p a b → IsTyped y q b c → first ≡ record { written = p.written; value_type = p.typed.value_type } → second ≡ record { written = q.written; value_type = q.typed.value_type }
      → Notes (pair_broken s.grammar f n first.value_type (seen_expr first.written.now) second.value_type (seen_expr second.written.now)) c d
      → Notes (inner_broken s f n (argument (seen_expr x) (argument (seen_expr y) no_more))) a d
  pair_noted f n x y p q first second {a} {b} {c} {d} g k is also h =
      let here = subst (λ (r : Part). Notes (pair_broken s.grammar f n r.value_type (seen_expr r.written.now) second.value_type (seen_expr second.written.now)) c d) is h in
      let there = subst (λ (r : Part). Notes (pair_broken s.grammar f n p.typed.value_type (seen_expr p.written.now) r.value_type (seen_expr r.written.now)) c d) also here in
      notes_then (notes_then g.noted (notes_then k.noted notes_none)) (rw (known_type (seen_expr x) p.typed g.says, known_type (seen_expr y) q.typed k.says, g.written, k.written) at there)

  -- with more
  more_broken : (f : SetForm) (n : Name) (es : List Expr) → 2 < length es → form_broken s f n (arguments_of es) ≡ count_broken n
  more_broken f n [] more = absurd (omega (arith, more))
  more_broken f n (a ∷ []) more = absurd (omega (arith, more))
  more_broken f n (a ∷ b ∷ []) more = absurd (omega (arith, more))
  more_broken f n (a ∷ b ∷ d ∷ es) more = refl

  more_said : (f : SetForm) (es : List Expr) → 2 < length es → said_as (settled f) said.Null ≡ form_says s f (arguments_of es)
  more_said f [] more = absurd (omega (arith, more))
  more_said f (a ∷ []) more = absurd (omega (arith, more))
  more_said f (a ∷ b ∷ []) more = absurd (omega (arith, more))
  more_said f (a ∷ b ∷ d ∷ es) more = refl

  seen_more : (es : List kept_expr.Expr) → 2 < length es → 2 < length (map seen_expr es)
  seen_more es more = omega (arith, more, length-map es seen_expr)

  pub more_noted : (f : SetForm) (n : Name) (es : List kept_expr.Expr) {wanted : List Kind} {a b c : Option Broken} → 2 < length es → wanted ≡ []
      → Notes (arguments_broken s wanted (arguments_of (map seen_expr es))) a b → Notes (count_broken n) b c → Notes (inner_broken s f n (arguments_of (map seen_expr es))) a c
  more_noted f n es {wanted} {a} {b} {c} more is h g =
      notes_then (subst (λ ks. Notes (arguments_broken s ks (arguments_of (map seen_expr es))) a b) is h) (subst (λ bs. Notes bs b c) (sym (more_broken f n (map seen_expr es) (seen_more es more))) g)

  pub more_says : (f : SetForm) (es : List kept_expr.Expr) (t : kept_typed.Typed) → 2 < length es → seen_typed t ≡ said_as (settled f) said.Null → seen_typed t ≡ form_says s f (arguments_of (map seen_expr es))
  more_says f es t more says = says ∙ more_said f (map seen_expr es) (seen_more es more)

  -- what a form over some elements says
  pub quantified_tells : (q : Quantifier) (n : Name) (range e : Expr) (inner : Scope) (o : Option Elements) (r body : TExpr) (each : kept_typed.Typed) {t : Option ValueType} (d : kept_typed.Typed)
      → inner ≡ inside s q n range → o ≡ range_of s q range → expression_of r ≡ body_of s range → seen_typed each ≡ said_by inner e
      → expression_of body ≡ over_said q each.value_type o (expression_of r) (expression_of each.body) → t ≡ quantified_type q o each.value_type
      → seen_typed d ≡ said_as t (expression_of body) → seen_typed d ≡ quantified_says s q n range e
  quantified_tells q n range e inner o r body each d is elements range_says each_says told typed says =
      let there : seen_typed each ≡ said_by (inside s q n range) e = each_says ∙ ap (λ v. said_by v e) is in
      let type = ap (λ x. x.type) there in
      let said = ap (λ x. x.body) there in
      says ∙ (λ i. said_as (typed i) (told i)) ∙ (λ i. said_as (quantified_type q (elements i) (type i)) (over_said q (type i) (elements i) (range_says i) (said i)))

  pub binary_noted : (at_place : Stands) {e : kept_expr.Expr} {o : Operator} {l r : Box kept_expr.Expr Global} (x y : kept_expr.Expr) (p q : TypedPart) {a b c d : Option Broken}
      → e ≡ kept.Binary o l r → x ≡ l.value → y ≡ r.value → IsTyped x p a b → IsTyped y q b c
      → Notes (sides_broken s.grammar o p.typed.value_type (seen_expr p.written.now) q.typed.value_type (seen_expr q.written.now)) c d
      → Notes (expr_broken s at_place (seen_expr e)) a d
  binary_noted at_place {e} {o} {l} {r} x y p q is i j f g h =
      rw is (rw seen-Binary (rw (← i, ← j) (notes_then f.noted (notes_then g.noted (rw (known_type (seen_expr x) p.typed f.says, known_type (seen_expr y) q.typed g.says, f.written, g.written) at h)))))

  pub choice_noted : (at_place : Stands) {e : kept_expr.Expr} {c l r : Box kept_expr.Expr Global} (w x y : kept_expr.Expr) (o p q : TypedPart) {k m n u v : Option Broken}
      → e ≡ kept.If c l r → w ≡ c.value → x ≡ l.value → y ≡ r.value → IsTyped w o k m → IsTyped x p m n → IsTyped y q n u
      → Notes (choice_broken s.grammar o.typed.value_type (seen_expr o.written.now) p.typed.value_type q.typed.value_type (seen_expr q.written.now)) u v
      → Notes (expr_broken s at_place (seen_expr e)) k v
  choice_noted at_place {e} {c} {l} {r} w x y o p q is t i j d f g h =
      rw is
      (rw seen-If
      (rw (← t, ← i, ← j)
      (notes_then d.noted
      (notes_then f.noted
      (notes_then g.noted (rw (known_type (seen_expr w) o.typed d.says, known_type (seen_expr x) p.typed f.says, known_type (seen_expr y) q.typed g.says, d.written, g.written) at h))))))
