-- Right sides of equations of higher-order attributes: exactly those that make a tree break nothing.
use Rattle.std.proofs.Common.{◌≡◌, ◌↔◌, ◌==◌, ◌≤◌, ℕ, suc, ◌+◌, List, [], ◌∷◌, ◌++◌, true, false, not, ◌||◌, nat_lt, Option, Some, None, length, slice_get, refl, ap, sym, ◌∙◌, subst, eqb-true, arith}
use Rattle.std.specs.Option.{option_map}
use Rattle.std.proofs.lemmas.Bool.{le-ltb, ltb-false, not-false, or_parts}
use Rattle.std.proofs.lemmas.Bool.Decides.{Decides-eqb}
use Rattle.rag_io.specs.declared.token.Place.{Place}
use Rattle.broken_rules.specs.Notes.{at, broken_if}
use Rattle.broken_rules.specs.declared.rule.Rule.TheVariants.{J12, J17}
use Rattle.broken_rules.proofs.Clean.{append_none, not_broken}
use Rattle.ast_grammar.specs.declared.grammar.ClassId.{ClassId}
use Rattle.ast_grammar.specs.declared.grammar.Shape.{Shape}
use Rattle.ast_grammar.specs.declared.grammar.Shape.TheVariants as shapes
use Rattle.ast_grammar.specs.Grammar.{Class, Component, abstract_in, class_named, components_of, is_sub}
use Rattle.aspect_items.specs.Expressions.{Expr, Arguments, Name, no_more, argument, New}
use Rattle.attr_rules.specs.declared.kinds.Kind.{Kind}
use Rattle.attr_rules.specs.declared.kinds.Kind.TheVariants as kinds
use Rattle.attr_rules.specs.Expression.{NewArguments}
use Rattle.attr_rules.specs.Rules.{most_created}
use Rattle.attr_rules.specs.Types.{class_of_number, fits}
use Rattle.attr_rules.specs.Typing.{IsConcrete, nodes_below, tokens_made}
use Rattle.attr_scope.specs.Classes.{class_broken}
use Rattle.attr_scope.specs.Scope.{Scope}
use Rattle.attr_scope.proofs.ClassesFound.{class_there}
use Rattle.expr_typing.specs.declared.created.Takes.{Takes}
use Rattle.expr_typing.specs.declared.created.Takes.TheVariants as takes
use Rattle.expr_typing.specs.declared.standing.Stands.TheVariants.{Anywhere}
use Rattle.expr_typing.specs.Created.{argument_before, child_broken, components_known, is_abstract, is_too_large, is_unmade, new_said, size_broken, taken_by, taken_for, unmade_broken}
use Rattle.expr_typing.specs.Fitting.{misfit}
use Rattle.expr_typing.specs.Places.{place_of}
use Rattle.expr_typing.specs.Typed.{class_type, count}
use Rattle.attr_bodies.specs.Bodies.{expr_broken, operand_broken}
use Rattle.attr_bodies.specs.Created.{created_broken, created_said, each_broken, each_said, given_broken, given_said, made_broken, made_said}
use Rattle.typing_rules.specs.CreatedTypes as rules
use Rattle.typing_rules.specs.CreatedTypes.{AreMade, IsCreated, IsMade, IsToken, nodes_among, nodes_in, tokens_among, tokens_in}
use Rattle.typing_rules.specs.TypeRules.{NamesAreKnown}
use Rattle.typing_rules.proofs.NothingBroken.{class_none, clean, fits_none, none_after, none_if}
use Rattle.typing_rules.proofs.TypeFound.{fitting}
use Rattle.typing_rules.proofs.WellTyped.{exactly, none_where}

-- a class that isn't abstract
concrete : (o : Option Class) → is_abstract o ≡ false → option_map abstract_in o ≡ Some false
concrete None e = absurd (cc)
concrete (Some c) e = ap Some e

not_abstract : (o : Option Class) → option_map abstract_in o ≡ Some false → is_abstract o ≡ false
not_abstract None e = absurd (cc)
not_abstract (Some c) e = let same : c.abstract ≡ false = cc in same

-- a token takes a value
token_taken : {h : Shape} {k : Kind} (c : ClassId) → IsToken h k → taken_by c h ≡ takes.Token k
token_taken c rules.text = refl
token_taken c rules.int = refl
token_taken c rules.truth = refl

-- what breaks nothing as an expression is no `new`
plain_nodes : (s : Scope) (e : Expr) → expr_broken s Anywhere e ≡ [] → nodes_in e ≡ 0
plain_nodes s (New p n es) none = absurd (cc)
plain_nodes s e none = refl

plain_tokens : (s : Scope) (e : Expr) → expr_broken s Anywhere e ≡ [] → tokens_in e ≡ 1
plain_tokens s (New p n es) none = absurd (cc)
plain_tokens s e none = refl

module _ (s : Scope) where
  abbrev g : List Class
  g = s.grammar

  -- A tree is made of the class of a name, with these arguments.
  record Made (n : Name) (es : Arguments) : Type 0 where
    pub class : ℕ
    pub named : class_named g n.text ≡ Some class
    pub is_concrete : IsConcrete g class
    pub inner : AreMade s es (components_of g class)

  -- arguments that make a tree are as many as the components
  many : {es : Arguments} {xs : List Component} → AreMade s es xs → length xs ≡ count es
  many rules.end = refl
  many (rules.token x k is of rest) = ap suc (many rest)
  many (rules.child x c is tree fit rest) = ap suc (many rest)

  -- what says that a tree is made has as many nodes, and as many token values, as are written
  record AreCounted (xs : List Component) (es : Arguments) : Type 0 where
    pub nodes : nodes_below (each_said s xs es) ≡ nodes_among es
    pub tokens : tokens_made (each_said s xs es) ≡ tokens_among es

  -- one argument, before others
  record IsCounted (t : Takes) (e : Expr) (others : NewArguments) : Type 0 where
    pub nodes : nodes_below (argument_before t (given_said s t e) others) ≡ nodes_in e + nodes_below others
    pub tokens : tokens_made (argument_before t (given_said s t e) others) ≡ tokens_in e + tokens_made others

  token_counted : (k : Kind) (e : Expr) (others : NewArguments) → expr_broken s Anywhere e ≡ [] → IsCounted (takes.Token k) e others
  token_counted k e others none =
      let zero = plain_nodes s e none in
      let one = plain_tokens s e none in
      record { nodes = omega (arith, zero); tokens = omega (arith, one) }

  after : (xs : List Component) (es : Arguments) (x : Component) (e : Expr) (t : Takes) → taken_for x ≡ t → IsCounted t e (each_said s xs es) → AreCounted xs es
      → AreCounted (x ∷ xs) (argument e es)
  after xs es x e t is first others = record {
    nodes = ap (λ t. nodes_below (argument_before t (given_said s t e) (each_said s xs es))) is ∙ first.nodes ∙ ap (λ k. nodes_in e + k) others.nodes;
    tokens = ap (λ t. tokens_made (argument_before t (given_said s t e) (each_said s xs es))) is ∙ first.tokens ∙ ap (λ k. tokens_in e + k) others.tokens;
  }

  mutual
    counted : {es : Arguments} {xs : List Component} → AreMade s es xs → AreCounted xs es
    counted rules.end = record { nodes = refl; tokens = refl }
    counted (rules.token {e = e} {es = es} {xs = xs} x k is of rest) =
        after xs es x e (takes.Token k) (token_taken x.class is) (token_counted k e (each_said s xs es) ((clean of.1).none Anywhere)) (counted rest)
    counted (rules.child {e = e} {es = es} {xs = xs} x c is tree fit rest) =
        after xs es x e (takes.Child x.class) (ap (taken_by x.class) is) (child_counted x.class (each_said s xs es) tree) (counted rest)

    child_counted : {e : Expr} {c : ℕ} (d : ClassId) (others : NewArguments) → IsMade s e c → IsCounted (takes.Child d) e others
    child_counted d others (rules.made {es = es} p n c named is_concrete inner) =
        let inside = counted inner in
        let one_more : suc (nodes_among es + nodes_below others) ≡ suc (nodes_among es) + nodes_below others = omega arith in
        record {
          nodes = (λ i. suc (nodes_below (each_said s (components_known g (named i)) es) + nodes_below others)) ∙ (λ i. suc (inside.nodes i + nodes_below others)) ∙ one_more;
          tokens = (λ i. tokens_made (each_said s (components_known g (named i)) es) + tokens_made others) ∙ (λ i. inside.tokens i + tokens_made others);
        }

  module _ (all : NamesAreKnown s) where
    -- an argument for a component, which breaks nothing, before those that make a tree
    token_made : (x : Component) (xs : List Component) (e : Expr) (es : Arguments) (k : Kind) → IsToken x.shape k → operand_broken s Anywhere k e ≡ [] → AreMade s es xs
        → AreMade s (argument e es) (x ∷ xs)
    token_made x xs e es k is none rest = rules.token x k is ((exactly s e k all).0 none) rest

    child_made : (p q : Place) (n : Name) (fs : Arguments) (x : Component) (xs : List Component) (es : Arguments) → x.shape ≡ shapes.Child
        → child_broken g p x.class (class_named g n.text) ≡ [] → Made n fs → AreMade s es xs → AreMade s (argument (New q n fs) es) (x ∷ xs)
    child_made p q n fs x xs es is none m rest =
        let fit = not_broken (not (is_sub g m.class x.class.0)) (at p J12) (ap (child_broken g p x.class) (sym m.named) ∙ none) in
        rules.child x m.class is (rules.made q n m.class m.named m.is_concrete m.inner) (not-false (is_sub g m.class x.class.0) fit) rest

    -- a `new` whose arguments break nothing, and make a tree where they are as many as the components
    made : (p : Place) (n : Name) (es : Arguments) → ((xs : List Component) → length xs ≡ count es → each_broken s p xs es ≡ [] → AreMade s es xs)
        → class_broken g n ≡ [] → made_broken s p (class_named g n.text) es ≡ [] → Made n es
    made p n es each named none =
        let there = class_there g n named in
        let c = there.0 in
        let clean_root = ap (λ o. made_broken s p o es) (sym there.1) ∙ none in
        let parts = append_none (broken_if (is_unmade g c (count es)) (at p J12)) (each_broken s p (components_of g c) es) clean_root in
        let is_counted = length (components_of g c) == count es in
        let both = or_parts (is_abstract (slice_get g c)) (not is_counted) (not_broken (is_unmade g c (count es)) (at p J12) parts.0) in
        let long = eqb-true (length (components_of g c)) (count es) (not-false is_counted both.1) in
        record { class = c; named = there.1; is_concrete = concrete (slice_get g c) both.0; inner = each (components_of g c) long parts.1 }

    mutual
      each_made : (p : Place) (xs : List Component) (es : Arguments) → length xs ≡ count es → each_broken s p xs es ≡ [] → AreMade s es xs
      each_made p [] no_more long none = rules.end
      each_made p (x ∷ xs) no_more long none = absurd (omega (arith, long))
      each_made p [] (argument e es) long none = absurd (omega (arith, long))
      each_made p (x ∷ xs) (argument e es) long none =
          let parts = append_none (given_broken s p (taken_for x) e) (each_broken s p xs es) none in
          given_made p x xs e es x.shape refl parts.0 (each_made p xs es (omega (arith, long)) parts.1)

      given_made : (p : Place) (x : Component) (xs : List Component) (e : Expr) (es : Arguments) (h : Shape) → x.shape ≡ h
          → given_broken s p (taken_by x.class h) e ≡ [] → AreMade s es xs → AreMade s (argument e es) (x ∷ xs)
      given_made p x xs e es shapes.Text is none rest = token_made x xs e es kinds.Text (subst (λ h. IsToken h kinds.Text) (sym is) rules.text) none rest
      given_made p x xs e es shapes.Int is none rest = token_made x xs e es kinds.Int (subst (λ h. IsToken h kinds.Int) (sym is) rules.int) none rest
      given_made p x xs e es shapes.Truth is none rest = token_made x xs e es kinds.Truth (subst (λ h. IsToken h kinds.Truth) (sym is) rules.truth) none rest
      given_made p x xs (New q n fs) es shapes.Child is none rest =
          let o = class_named g n.text in
          let parts = append_none (class_broken g n) (child_broken g p x.class o ++ made_broken s q o fs) none in
          let last = append_none (child_broken g p x.class o) (made_broken s q o fs) parts.1 in
          child_made p q n fs x xs es is last.0 (made q n fs (λ ys long clean. each_made q ys fs long clean) parts.0 last.1) rest
      given_made p x xs e es h is none rest = absurd (cc)

  -- a class of which there are nodes, and as many arguments as it has components
  unmade_none : (p : Place) (n : Name) (es : Arguments) (c : ℕ) → class_named g n.text ≡ Some c → IsConcrete g c → length (components_of g c) ≡ count es
      → unmade_broken g p (count es) (class_named g n.text) ≡ []
  unmade_none p n es c named is_concrete long =
      let wrong : not (length (components_of g c) == count es) ≡ false = ap not ((Decides-eqb (length (components_of g c)) (count es)).1 long) in
      let made : is_unmade g c (count es) ≡ false = (λ i. not_abstract (slice_get g c) is_concrete i || wrong i) in
      ap (unmade_broken g p (count es)) named ∙ none_if (at p J12) made

  made_none : (p : Place) (n : Name) (es : Arguments) (c : ℕ) → class_named g n.text ≡ Some c → IsConcrete g c → length (components_of g c) ≡ count es
      → each_broken s p (components_of g c) es ≡ [] → made_broken s p (class_named g n.text) es ≡ []
  made_none p n es c named is_concrete long none =
      none_after (unmade_none p n es c named is_concrete long) (ap (λ o. each_broken s p (components_known g o) es) named ∙ none)

  mutual
    -- arguments that make a tree break nothing
    each_none : {es : Arguments} {xs : List Component} (p : Place) → AreMade s es xs → each_broken s p xs es ≡ []
    each_none p rules.end = refl
    each_none p (rules.token {e = e} x k is of rest) =
        none_after (ap (λ t. given_broken s p t e) (token_taken x.class is) ∙ none_where s e k of) (each_none p rest)
    each_none p (rules.child {e = e} x c is tree fit rest) =
        none_after (ap (λ h. given_broken s p (taken_by x.class h) e) is ∙ child_none p x.class tree fit) (each_none p rest)

    child_none : {e : Expr} {c : ℕ} (p : Place) (d : ClassId) → IsMade s e c → fits g (class_of_number c) (kinds.Node d) ≡ true
        → given_broken s p (takes.Child d) e ≡ []
    child_none p d (rules.made {es = es} q n c named is_concrete inner) fit =
        none_after (class_none g n c named)
        (none_after (ap (child_broken g p d) named ∙ none_if (at p J12) (ap not fit)) (made_none q n es c named is_concrete (many inner) (each_none q inner)))

  -- a right side whose class is known and that makes a tree: whether it is too large
  size : (n : Name) (es : Arguments) (c : ℕ) → class_named g n.text ≡ Some c → AreMade s es (components_of g c)
      → is_too_large (new_said (class_named g n.text) (made_said s (class_named g n.text) es))
      ≡ nat_lt most_created (suc (nodes_among es)) || nat_lt most_created (tokens_among es)
  size n es c named inner =
      let inside = counted inner in
      ap (λ o. is_too_large (new_said o (made_said s o es))) named ∙ (λ i. nat_lt most_created (suc (inside.nodes i)) || nat_lt most_created (inside.tokens i))

  -- one that is no `new` breaks a rule
  no_new : (wanted : Kind) (e : Expr) → operand_broken s Anywhere wanted e ++ at (place_of e) J12 ∷ [] ≡ [] → ⊥
  no_new wanted e none = let parts = append_none (operand_broken s Anywhere wanted e) (at (place_of e) J12 ∷ []) none in absurd (let last = parts.1 in cc)

  created_if : NamesAreKnown s → (wanted : Kind) (e : Expr) → created_broken s wanted e ≡ [] → IsCreated s wanted e
  created_if all wanted (New p n es) none =
      let o = class_named g n.text in
      let e = New p n es in
      let fit = misfit g wanted (class_type g n.text) e in
      let large = size_broken p (created_said s e) in
      let parts = append_none (class_broken g n) (made_broken s p o es ++ (fit ++ large)) none in
      let rest = append_none (made_broken s p o es) (fit ++ large) parts.1 in
      let last = append_none fit large rest.1 in
      let m = made all p n es (λ xs long clean. each_made all p xs es long clean) parts.0 rest.0 in
      let small = sym (size n es m.class m.named m.inner) ∙ not_broken (is_too_large (created_said s e)) (at p J17) last.1 in
      let both = or_parts (nat_lt most_created (suc (nodes_among es))) (nat_lt most_created (tokens_among es)) small in
      record {
        class = m.class;
        made = rules.made p n m.class m.named m.is_concrete m.inner;
        fit = fitting g (class_type g n.text) (class_of_number m.class) e (ap (option_map class_of_number) m.named) wanted last.0;
        nodes = ltb-false most_created (suc (nodes_among es)) both.0;
        tokens = ltb-false most_created (tokens_among es) both.1;
      }
  created_if all wanted e none = absurd (no_new wanted e none)

  created_none : {e : Expr} {c : ℕ} (wanted : Kind) → IsMade s e c → fits g (class_of_number c) wanted ≡ true → nodes_in e ≤ most_created → tokens_in e ≤ most_created
      → created_broken s wanted e ≡ []
  created_none wanted (rules.made {es = es} p n c named is_concrete inner) fit nodes tokens =
      let e = New p n es in
      let small : is_too_large (created_said s e) ≡ false =
      size n es c named inner ∙ (λ i. le-ltb most_created (suc (nodes_among es)) nodes i || le-ltb most_created (tokens_among es) tokens i)
      in
      none_after (class_none g n c named)
      (none_after (made_none p n es c named is_concrete (many inner) (each_none p inner))
      (none_after (fits_none g wanted (class_type g n.text) (class_of_number c) e (ap (option_map class_of_number) named) fit) (none_if (at p J17) small)))

pub created_exactly : (s : Scope) (e : Expr) (wanted : Kind) → NamesAreKnown s → (created_broken s wanted e ≡ []) ↔ IsCreated s wanted e
created_exactly s e wanted all = (created_if s all wanted e, λ h. created_none s wanted h.made h.fit h.nodes h.tokens)
