-- The right side of an equation of a higher-order attribute that breaks nothing makes a tree.
use Rattle.std.proofs.Common.{◌≡◌, ◌==◌, ℕ, List, [], ◌∷◌, ◌++◌, false, not, nat_lt, Option, Some, None, length, slice_get, refl, ap, sym, ◌∙◌, subst, eqb-true, arith}
use Rattle.std.specs.Option.{option_map}
use Rattle.std.proofs.lemmas.Bool.{ltb-false, not-false, or_parts}
use Rattle.rag_io.specs.declared.token.Place.{Place}
use Rattle.broken_rules.specs.Notes.{at, broken_if}
use Rattle.broken_rules.specs.declared.rule.Rule.TheVariants.{J12, J17}
use Rattle.broken_rules.proofs.Clean.{append_none, not_broken}
use Rattle.ast_grammar.specs.declared.grammar.ClassId.{ClassId}
use Rattle.ast_grammar.specs.declared.grammar.Shape.{Shape}
use Rattle.ast_grammar.specs.declared.grammar.Shape.TheVariants as shapes
use Rattle.ast_grammar.specs.Grammar.{Class, Component, abstract_in, class_named, components_of, is_sub}
use Rattle.aspect_items.specs.Expressions.{Expr, Arguments, Name, no_more, argument, Truth, Null, Empty, This, Int, Text, Source, Variable, Call, Member, New, Quantified, Group, Cast, Not, Negate, Binary, InstanceOf, If}
use Rattle.attr_rules.specs.declared.accessors.Access.TheVariants as access
use Rattle.attr_rules.specs.declared.kinds.Kind.{Kind}
use Rattle.attr_rules.specs.declared.kinds.Kind.TheVariants as kinds
use Rattle.attr_rules.specs.Accessors.{got}
use Rattle.attr_rules.specs.Expression.{NewArguments, new_child, new_token}
use Rattle.attr_rules.specs.Rules.{IsCreated, most_created}
use Rattle.attr_rules.specs.Types.{class_of_number, fits}
use Rattle.attr_rules.specs.Typing as typing
use Rattle.attr_rules.specs.Typing.{FitComponents, IsConcrete, Makes, nodes_made, tokens_made}
use Rattle.attr_scope.specs.Classes.{class_broken, class_or_first}
use Rattle.attr_scope.specs.Scope.{Scope}
use Rattle.attr_scope.specs.ScopeKept.{IsScope}
use Rattle.attr_scope.specs.WrittenTypes.{class_numbered}
use Rattle.attr_scope.proofs.ClassesFound.{class_there}
use Rattle.expr_typing.specs.declared.created.Takes.{Takes}
use Rattle.expr_typing.specs.declared.created.Takes.TheVariants as takes
use Rattle.expr_typing.specs.declared.standing.Stands.TheVariants.{Anywhere}
use Rattle.expr_typing.specs.Created.{argument_before, child_broken, is_abstract, is_too_large, is_unmade, new_said, size_broken, taken_by, taken_for}
use Rattle.expr_typing.specs.Fitting.{misfit}
use Rattle.expr_typing.specs.Places.{place_of}
use Rattle.expr_typing.specs.Typed.{body_of, class_type, count, known}
use Rattle.expr_typing.proofs.FormsTyped.{fitting}
use Rattle.expr_typing.proofs.MembersTyped.{names_in}
use Rattle.expr_typing.proofs.Variables.{AreKnown}
use Rattle.attr_bodies.specs.Bodies.{expr_broken, operand_broken}
use Rattle.attr_bodies.specs.Created.{created_broken, created_said, each_broken, each_said, given_broken, given_said, made_broken, made_said}
use Rattle.attr_bodies.proofs.TypedClean.{typed}

-- a class that isn't abstract
concrete : (o : Option Class) → is_abstract o ≡ false → option_map abstract_in o ≡ Some false
concrete None e = absurd (cc)
concrete (Some c) e = ap Some e

-- a component for which a value is taken is a token, and one for which a child is taken is a child
token_got : (c : ClassId) (h : Shape) (k : Kind) → taken_by c h ≡ takes.Token k → got h ≡ Some (access.Token k)
token_got c shapes.Child k e = absurd (cc)
token_got c shapes.List k e = absurd (cc)
token_got c shapes.Optional k e = absurd (cc)
token_got c shapes.Text k e = let same : kinds.Text ≡ k = cc in ap (λ t. Some (access.Token t)) same
token_got c shapes.Int k e = let same : kinds.Int ≡ k = cc in ap (λ t. Some (access.Token t)) same
token_got c shapes.Truth k e = let same : kinds.Truth ≡ k = cc in ap (λ t. Some (access.Token t)) same

child_taken : (c : ClassId) (h : Shape) (d : ClassId) → taken_by c h ≡ takes.Child d → (h ≡ shapes.Child) × (d ≡ c)
child_taken c shapes.Child d e = let same : d ≡ c = cc in (refl, same)
child_taken c shapes.List d e = absurd (cc)
child_taken c shapes.Optional d e = absurd (cc)
child_taken c shapes.Text d e = absurd (cc)
child_taken c shapes.Int d e = absurd (cc)
child_taken c shapes.Truth d e = absurd (cc)

module _ (s : Scope) (is_scope : IsScope s) (all : AreKnown s) where
  -- A tree is made of the class of a name, with these arguments.
  record IsMade (o : Option ℕ) (es : Arguments) : Type 0 where
    pub class : ℕ
    pub named : o ≡ Some class
    pub makes : Makes (names_in s) (class_numbered class) (each_said s (components_of s.grammar class) es)

  -- the expression for a token
  token_fits : (x : Component) (xs : List Component) (k : Kind) (e : Expr) (others : NewArguments) → taken_for x ≡ takes.Token k → operand_broken s Anywhere k e ≡ []
      → FitComponents (names_in s) others xs → FitComponents (names_in s) (new_token k (body_of s e) others) (x ∷ xs)
  token_fits x xs k e others is none rest =
      let parts = append_none (expr_broken s Anywhere e) (misfit s.grammar k (known s e) e) none in
      let of = typed s is_scope all e Anywhere refl parts.0 in
      typing.token_fits x k of.type (token_got x.class x.shape k is) of.typed (fitting (names_in s) k (known s e) of.type e of.is parts.1) rest

  -- a child that is made, of a class that fits
  child_fits : (p : Place) (x : Component) (xs : List Component) (d : ClassId) (o : Option ℕ) (es : Arguments) (others : NewArguments) → taken_for x ≡ takes.Child d
      → child_broken s.grammar p d o ≡ [] → IsMade o es → FitComponents (names_in s) others xs → FitComponents (names_in s) (new_child (class_or_first o) (made_said s o es) others) (x ∷ xs)
  child_fits p x xs d o es others is none m rest =
      let g = s.grammar in
      let taken = child_taken x.class x.shape d is in
      let fit = not_broken (not (is_sub g m.class d.0)) (at p J12) (ap (child_broken g p d) (sym m.named) ∙ none) in
      let below = ap (λ (b : ClassId). is_sub g m.class b.0) (sym taken.1) ∙ not-false (is_sub g m.class d.0) fit in
      subst (λ o. FitComponents (names_in s) (new_child (class_or_first o) (made_said s o es) others) (x ∷ xs)) (sym m.named)
      (typing.child_fits x (class_numbered m.class) taken.0 below m.makes.concrete m.makes.fit rest)

  -- a `new`, whose arguments fit where they are as many as the components
  made : (p : Place) (n : Name) (es : Arguments)
      → ((xs : List Component) → length xs ≡ count es → each_broken s p xs es ≡ [] → FitComponents (names_in s) (each_said s xs es) xs)
      → class_broken s.grammar n ≡ [] → made_broken s p (class_named s.grammar n.text) es ≡ [] → IsMade (class_named s.grammar n.text) es
  made p n es fits named none =
      let g = s.grammar in
      let there = class_there g n named in
      let c = there.0 in
      let parts = append_none (broken_if (is_unmade g c (count es)) (at p J12)) (each_broken s p (components_of g c) es) (ap (λ o. made_broken s p o es) (sym there.1) ∙ none) in
      let is_counted = length (components_of g c) == count es in
      let both = or_parts (is_abstract (slice_get g c)) (not is_counted) (not_broken (is_unmade g c (count es)) (at p J12) parts.0) in
      let many = eqb-true (length (components_of g c)) (count es) (not-false is_counted both.1) in
      record { class = c; named = there.1; makes = record { concrete = concrete (slice_get g c) both.0; fit = fits (components_of g c) many parts.1 } }

  mutual
    -- the arguments of a `new`, which are as many as the components
    each_fit : (p : Place) (xs : List Component) (es : Arguments) → length xs ≡ count es → each_broken s p xs es ≡ [] → FitComponents (names_in s) (each_said s xs es) xs
    each_fit p [] no_more many none = typing.no_more_components
    each_fit p (x ∷ xs) no_more many none = absurd (omega (arith, many))
    each_fit p [] (argument e es) many none = absurd (omega (arith, many))
    each_fit p (x ∷ xs) (argument e es) many none =
        let parts = append_none (given_broken s p (taken_for x) e) (each_broken s p xs es) none in
        given_fits p x xs e (each_said s xs es) (taken_for x) refl parts.0 (each_fit p xs es (omega (arith, many)) parts.1)

    -- one of them, before those that fit
    given_fits : (p : Place) (x : Component) (xs : List Component) (e : Expr) (others : NewArguments) (t : Takes) → taken_for x ≡ t → given_broken s p t e ≡ []
        → FitComponents (names_in s) others xs → FitComponents (names_in s) (argument_before t (given_said s t e) others) (x ∷ xs)
    given_fits p x xs e others (takes.Token k) is none rest = token_fits x xs k e others is none rest
    given_fits p x xs (New q n es) others (takes.Child d) is none rest =
        let o = class_named s.grammar n.text in
        let parts = append_none (class_broken s.grammar n) (child_broken s.grammar p d o ++ made_broken s q o es) none in
        let last = append_none (child_broken s.grammar p d o) (made_broken s q o es) parts.1 in
        child_fits p x xs d o es others is last.0 (made q n es (λ ys many clean. each_fit q ys es many clean) parts.0 last.1) rest
    given_fits p x xs (Truth q b) others (takes.Child d) is none rest = absurd (cc)
    given_fits p x xs (Null q) others (takes.Child d) is none rest = absurd (cc)
    given_fits p x xs (Empty q) others (takes.Child d) is none rest = absurd (cc)
    given_fits p x xs (This q) others (takes.Child d) is none rest = absurd (cc)
    given_fits p x xs (Int q n) others (takes.Child d) is none rest = absurd (cc)
    given_fits p x xs (Text q n) others (takes.Child d) is none rest = absurd (cc)
    given_fits p x xs (Source q n) others (takes.Child d) is none rest = absurd (cc)
    given_fits p x xs (Variable n) others (takes.Child d) is none rest = absurd (cc)
    given_fits p x xs (Call n es) others (takes.Child d) is none rest = absurd (cc)
    given_fits p x xs (Member e n es) others (takes.Child d) is none rest = absurd (cc)
    given_fits p x xs (Quantified q r n range e) others (takes.Child d) is none rest = absurd (cc)
    given_fits p x xs (Group q e) others (takes.Child d) is none rest = absurd (cc)
    given_fits p x xs (Cast q n e) others (takes.Child d) is none rest = absurd (cc)
    given_fits p x xs (Not q e) others (takes.Child d) is none rest = absurd (cc)
    given_fits p x xs (Negate q e) others (takes.Child d) is none rest = absurd (cc)
    given_fits p x xs (Binary o a b) others (takes.Child d) is none rest = absurd (cc)
    given_fits p x xs (InstanceOf e n) others (takes.Child d) is none rest = absurd (cc)
    given_fits p x xs (If c a b) others (takes.Child d) is none rest = absurd (cc)
    given_fits p x xs e others takes.Nothing is none rest = absurd (cc)

  -- a right side that is no `new` breaks a rule
  no_new : (wanted : Kind) (e : Expr) → operand_broken s Anywhere wanted e ++ at (place_of e) J12 ∷ [] ≡ [] → ⊥
  no_new wanted e none = let parts = append_none (operand_broken s Anywhere wanted e) (at (place_of e) J12 ∷ []) none in absurd (let last = parts.1 in cc)

  pub created : (wanted : Kind) (e : Expr) → created_broken s wanted e ≡ [] → IsCreated (names_in s) wanted (created_said s e)
  created wanted (New p n es) none =
      let g = s.grammar in
      let o = class_named g n.text in
      let e = New p n es in
      let fit = misfit g wanted (class_type g n.text) e in
      let size = size_broken p (created_said s e) in
      let parts = append_none (class_broken g n) (made_broken s p o es ++ (fit ++ size)) none in
      let rest = append_none (made_broken s p o es) (fit ++ size) parts.1 in
      let last = append_none fit size rest.1 in
      let m = made p n es (λ xs many clean. each_fit p xs es many clean) parts.0 rest.0 in
      let given = each_said s (components_of g m.class) es in
      let small = ap (λ o. is_too_large (new_said o (made_said s o es))) (sym m.named) ∙ not_broken (is_too_large (created_said s e)) (at p J17) last.1 in
      let both = or_parts (nat_lt most_created (nodes_made given)) (nat_lt most_created (tokens_made given)) small in
      subst (λ o. IsCreated (names_in s) wanted (new_said o (made_said s o es))) (sym m.named)
      (record {
        class = class_numbered m.class;
        arguments = given;
        is = refl;
        makes = m.makes;
        fit = fitting (names_in s) wanted (class_type g n.text) (class_of_number m.class) e (ap (option_map class_of_number) m.named) last.0;
        nodes = ltb-false most_created (nodes_made given) both.0;
        tokens = ltb-false most_created (tokens_made given) both.1;
      })
  created wanted (Truth p b) none = absurd (no_new wanted (Truth p b) none)
  created wanted (Null p) none = absurd (no_new wanted (Null p) none)
  created wanted (Empty p) none = absurd (no_new wanted (Empty p) none)
  created wanted (This p) none = absurd (no_new wanted (This p) none)
  created wanted (Int p n) none = absurd (no_new wanted (Int p n) none)
  created wanted (Text p n) none = absurd (no_new wanted (Text p n) none)
  created wanted (Source p n) none = absurd (no_new wanted (Source p n) none)
  created wanted (Variable n) none = absurd (no_new wanted (Variable n) none)
  created wanted (Call n es) none = absurd (no_new wanted (Call n es) none)
  created wanted (Member e n es) none = absurd (no_new wanted (Member e n es) none)
  created wanted (Quantified q p n range e) none = absurd (no_new wanted (Quantified q p n range e) none)
  created wanted (Group p e) none = absurd (no_new wanted (Group p e) none)
  created wanted (Cast p n e) none = absurd (no_new wanted (Cast p n e) none)
  created wanted (Not p e) none = absurd (no_new wanted (Not p e) none)
  created wanted (Negate p e) none = absurd (no_new wanted (Negate p e) none)
  created wanted (Binary o a b) none = absurd (no_new wanted (Binary o a b) none)
  created wanted (InstanceOf e n) none = absurd (no_new wanted (InstanceOf e n) none)
  created wanted (If c a b) none = absurd (no_new wanted (If c a b) none)
