-- What equations break, and what they say.
use Rattle.std.proofs.Common.{◌≡◌, Bool, ℕ, ◌+◌, ◌<◌, List, [], ◌∷◌, ◌++◌, length, map, get_or, take, Option, ap, sym, ◌∙◌, subst, arith}
use Rattle.std.proofs.Math.ListN.{get_or-map}
use Rattle.std.proofs.lemmas.List.{length-map, map-append, take_more}
use Rattle.std.specs.List.{flat_map}
use Rattle.broken_rules.specs.declared.broken.Broken.{Broken}
use Rattle.broken_rules.specs.Notes.{Notes}
use Rattle.broken_rules.proofs.Noting.{notes_each}
use Rattle.ast_grammar.specs.Grammar.{Class, superclasses_of}
use Rattle.attr_rules.specs.declared.dispatch.Target.{Target}
use Rattle.attr_rules.specs.declared.kinds.Kind.{Kind}
use Rattle.attr_equations.specs.declared.rules.KeptEquation.{KeptEquation}
use Rattle.attr_scope.specs.declared.written.Given as kept_given
use Rattle.attr_equations.specs.KeptEquations.{equation_in}
use Rattle.attr_scope.specs.Seen.{seen_given}
use Rattle.attr_types.specs.Phases.{creates, equated_broken, equated_said, equation_broken, equation_of, said_for, scope_of, wanted_by}
use Rattle.attr_rules.specs.Expression.{Expression}
use Rattle.attr_rules.specs.Rules.{Attribute, AttributeSet}
use Rattle.attr_heads.specs.Paths.{equation_names}
use Rattle.attr_scope.specs.Scope.{Scope, Variable}
use Rattle.attr_heads.specs.Targets.{target_given}
use Rattle.attr_scope.specs.Written.{Given}

module _ (g : List Class) (a : AttributeSet) (e : Given) (t : Target) {vs : List Variable} (same : a.superclasses ≡ superclasses_of g) (is : t ≡ target_given g a.attributes e) (named : vs ≡ equation_names g a.attributes e.attribute e.path t.reach) where
  -- where its right side stands
  abbrev here : Scope
  here = record { grammar = g; known = a; this = t.class; variables = vs }

  scope_here : here ≡ scope_of g a.attributes e t
  scope_here = (λ i. record { grammar = g; known = record { superclasses = same i; attributes = a.attributes }; this = t.class; variables = named i })

  -- what it breaks, where a type is wanted of it, and what it says
  pub body_noted : {b : Bool} {k : Kind} {x y : Option Broken} → b ≡ creates a.attributes t → k ≡ wanted_by a.attributes t → Notes (equated_broken b here k e.body) x y → Notes (equation_broken g a.attributes e) x y
  body_noted {b} {k} {x} {y} makes wanted h =
      subst (λ u. Notes (equated_broken (creates a.attributes u) (scope_of g a.attributes e u) (wanted_by a.attributes u) e.body) x y) is
      (subst (λ c. Notes (equated_broken c (scope_of g a.attributes e t) (wanted_by a.attributes t) e.body) x y) makes
      (subst (λ s. Notes (equated_broken b s (wanted_by a.attributes t) e.body) x y) scope_here (subst (λ w. Notes (equated_broken b here w e.body) x y) wanted h)))

  pub body_said : (b c : Expression) {h : Bool} → h ≡ creates a.attributes t → b ≡ equated_said h here e.body → c ≡ said_for a.attributes t b → record { target = t; body = c } ≡ equation_of g a.attributes e
  body_said b c {h} makes says for =
      (λ i. record { target = t; body = (for ∙ ap (said_for a.attributes t) (says ∙ ap (λ s. equated_said h s e.body) scope_here ∙ ap (λ n. equated_said n (scope_of g a.attributes e t) e.body) makes)) i })
      ∙ ap (λ u. record { target = u; body = said_for a.attributes u (equated_said (creates a.attributes u) (scope_of g a.attributes e u) e.body) }) is

-- the equations of memory, and what each is for
module _ (g : List Class) (attributes : List Attribute) (es : List kept_given.Given) (i : ℕ) where
  item : {e : kept_given.Given} → e ≡ get_or es i e → seen_given e ≡ get_or (map seen_given es) i (seen_given e)
  item {e} is = ap seen_given is ∙ sym (get_or-map seen_given es i e)

  within : i < length es → i < length (map seen_given es)
  within lt = omega (arith, length-map es seen_given)

  pub one_target : (ts : List Target) {e : kept_given.Given} {t : Target} → ts ≡ map (target_given g attributes) (map seen_given es)
      → ((d : kept_given.Given) → e ≡ get_or es i d) → ((d : Target) → t ≡ get_or ts i d) → t ≡ target_given g attributes (seen_given e)
  one_target ts {e} {t} same is at =
      let f = target_given g attributes in
      at (f (seen_given e)) ∙ ap (λ xs. get_or xs i (f (seen_given e))) same ∙ get_or-map f (map seen_given es) i (seen_given e) ∙ ap f (sym (item (is e)))

  -- what one more breaks
  pub one_noted : {e : kept_given.Given} {a b c : Option Broken} → ((d : kept_given.Given) → e ≡ get_or es i d) → i < length es
      → Notes (flat_map (equation_broken g attributes) (take i (map seen_given es))) a b → Notes (equation_broken g attributes (seen_given e)) b c
      → Notes (flat_map (equation_broken g attributes) (take (i + 1) (map seen_given es))) a c
  one_noted {e} is lt h k = notes_each (equation_broken g attributes) (map seen_given es) i (item (is e)) (within lt) h k

  -- and what it says
  pub one_said : {e : kept_given.Given} (list new : List KeptEquation) (x : KeptEquation) → ((d : kept_given.Given) → e ≡ get_or es i d) → i < length es
      → new ≡ list ++ x ∷ [] → equation_in x ≡ equation_of g attributes (seen_given e)
      → map equation_in list ≡ map (equation_of g attributes) (take i (map seen_given es))
      → map equation_in new ≡ map (equation_of g attributes) (take (i + 1) (map seen_given es))
  one_said {e} list new x is lt more said so_far =
      let f = equation_of g attributes in
      let front = take i (map seen_given es) in
      let longer = take_more (map seen_given es) i (seen_given e) (within lt) ∙ ap (λ y. front ++ y ∷ []) (sym (item (is e))) in
      ap (map equation_in) more ∙ map-append equation_in list (x ∷ []) ∙ ap (λ ys. ys ++ equation_in x ∷ []) so_far ∙ ap (λ y. map f front ++ y ∷ []) said
      ∙ sym (map-append f front (seen_given e ∷ [])) ∙ ap (map f) (sym longer)
