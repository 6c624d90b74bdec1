-- What a program makes fits its grammar: the nodes are of its classes, and their tokens of the types that it says.
use Rattle.std.proofs.Common.{◌≡◌, ◌++◌, ◌∷◌, [], ℕ, zero, suc, ◌+◌, ◌<◌, true, false, List, map, None, Option, Some, append-nil, length, slice_get, ap, sym, ◌∙◌, subst, arith, refl}
use Rattle.std.specs.Option.{option_and_then}
use Rattle.std.proofs.lemmas.List.{length-append}
use Rattle.std.proofs.lemmas.Option.{slice_get_within}
use Rattle.ast_grammar.specs.declared.grammar.ClassId.{ClassId}
use Rattle.ast_grammar.specs.Grammar.{Class, Component, abstract_in, components_of}
use Rattle.attr_rules.specs.declared.dispatch.Reach.TheVariants.{Own}
use Rattle.attr_rules.specs.declared.kinds.Attr.{Attr}
use Rattle.attr_rules.specs.declared.kinds.Kind.{Kind}
use Rattle.attr_rules.specs.declared.kinds.Sort.{Sort}
use Rattle.attr_rules.specs.declared.kinds.Sort.TheVariants.{Syn, Inh, Nta, Coll}
use Rattle.attr_rules.specs.Accessors.{got}
use Rattle.attr_rules.specs.Expression.{NewArguments, new_child, new_end, new_token}
use Rattle.attr_rules.specs.Rules.{Attribute as DeclaredAttribute, Equation, IsAttribute, IsBody, IsEquation, circular_at, declared_at, declares_circular, equation_number, is_higher_order, may_be_circular, names_for, target_in}
use Rattle.attr_rules.specs.Typing.{FitComponents, Makes, Names, child_fits, no_more_components, token_fits, tokens_made}
use Rattle.attr_equations.proofs.Places.{behind, in_front}
use Rattle.tree_arena.specs.Nodes.{Node as TreeNode, class_in}
use Rattle.tree_arena.specs.Terms.{nodes_from, size}
use Rattle.equation_law.specs.Checked.{IsProgram, IsTyped, TreesFit, token_got, token_wanted}
use Rattle.equation_law.specs.Created.{Making, making_in, own_tokens, token_kinds, token_type, tokens_below, tree_of, tree_or_none, trees_from}
use Rattle.equation_law.specs.Names.{At, Null, Reference}
use Rattle.equation_law.specs.Program.{Program, class_at, equation_for, making_at, making_of}
use Rattle.equation_law.proofs.Above.{each_of, nearest_above, target_found, through}
use Rattle.equation_law.proofs.Lists.{some_of}
use Rattle.equation_law.proofs.Preordered.{grown_concrete, making_grown}
use Rattle.equation_law.proofs.Typed.{no_making}

-- a place behind a list
the_place : (m j : ℕ) (ks : List Kind) → length ks ≡ m → m + j ≡ length ks + j
the_place m j ks n = omega (arith, n)

-- there are as many types as tokens
kinds_made : (parts : NewArguments) → length (token_kinds parts) ≡ tokens_made parts
kinds_made new_end = refl
kinds_made (new_token k e rest) = ap suc (kinds_made rest)
kinds_made (new_child c parts rest) = let both = length-append (token_kinds parts) (token_kinds rest) in let one = kinds_made parts in let other = kinds_made rest in omega (arith, both, one, other)

-- Of a tree whose tokens have these types:
module _ (N : Names) (all : List Kind) where
  -- these stand from place t on
  abbrev StandFrom : ℕ → List Kind → Type 0
  StandFrom t ks = (j i : ℕ) → t + j ≡ i → j < length ks → slice_get all i ≡ slice_get ks j

  stand_first : (t : ℕ) (k : Kind) (ks : List Kind) → StandFrom t (k ∷ ks) → slice_get all t ≡ Some k
  stand_first t k ks at = at 0 t (omega arith) (omega arith)

  stand_later : (t : ℕ) (k : Kind) (ks : List Kind) → StandFrom t (k ∷ ks) → StandFrom (suc t) ks
  stand_later t k ks at j i e l = at (suc j) i (omega (arith, e)) (omega (arith, l))

  stand_left : (t : ℕ) (ks us : List Kind) → StandFrom t (ks ++ us) → StandFrom t ks
  stand_left t ks us at j i e l = let both = length-append ks us in at j i e (omega (arith, both, l)) ∙ in_front ks us j l

  stand_right : (t m : ℕ) (ks us : List Kind) → length ks ≡ m → StandFrom t (ks ++ us) → StandFrom (t + m) us
  stand_right t m ks us n at j i e l = let both = length-append ks us in at (m + j) i (omega (arith, e)) (omega (arith, both, l, n)) ∙ ap (slice_get (ks ++ us)) (the_place m j ks n) ∙ behind ks us j

  -- the type at a component, by the places of a node's tokens, and by the components of its class
  abbrev type_in : List (Option ℕ) → ℕ → Option Kind
  type_in places k = option_and_then (slice_get all) (option_and_then (λ place. place) (slice_get places k))

  abbrev wanted_in : List Component → ℕ → Option Kind
  wanted_in xs k = option_and_then (λ (x : Component). token_got (got x.shape)) (slice_get xs k)

  own_types : {parts : NewArguments} {xs : List Component} → FitComponents N parts xs → (t : ℕ) → StandFrom t (token_kinds parts) → (k : ℕ) → type_in (own_tokens parts t) k ≡ wanted_in xs k
  own_types no_more_components t at zero = refl
  own_types no_more_components t at (suc k) = refl
  own_types (token_fits {rest = rest} x d u shape typed fit more) t at zero = stand_first t d (token_kinds rest) at ∙ sym (ap token_got shape)
  own_types (token_fits {rest = rest} x d u shape typed fit more) t at (suc k) = own_types more (suc t) (stand_later t d (token_kinds rest) at) k
  own_types (child_fits x d shape below concrete inner more) t at zero = sym (ap (λ s. token_got (got s)) shape)
  own_types (child_fits {parts = parts} {rest = rest} x d shape below concrete inner more) t at (suc k) = own_types more (t + tokens_made parts) (stand_right t (tokens_made parts) (token_kinds parts) (token_kinds rest) (kinds_made parts) at) k

  -- places of the tokens of nodes, by their classes
  abbrev AreTyped : List (List (Option ℕ)) → List TreeNode → Type 0
  AreTyped [] [] = Unit {0}
  AreTyped [] (x ∷ nodes) = ⊥
  AreTyped (places ∷ rows) [] = ⊥
  AreTyped (places ∷ rows) (x ∷ nodes) = ((k : ℕ) → type_in places k ≡ wanted_in (components_of N.grammar x.class.0) k) × AreTyped rows nodes

  both_typed : (rows more : List (List (Option ℕ))) (nodes others : List TreeNode) → AreTyped rows nodes → AreTyped more others → AreTyped (rows ++ more) (nodes ++ others)
  both_typed [] more [] others a b = b
  both_typed [] more (x ∷ nodes) others a b = absurd a
  both_typed (places ∷ rows) more [] others a b = absurd a
  both_typed (places ∷ rows) more (x ∷ nodes) others a b = (a.0, both_typed rows more nodes others a.1 b)

  below_typed : {parts : NewArguments} {xs : List Component} → FitComponents N parts xs → (t p n j : ℕ) → StandFrom t (token_kinds parts) → AreTyped (tokens_below parts t) (nodes_from p n (trees_from j parts))
  below_typed no_more_components t p n j at = tt
  below_typed (token_fits {rest = rest} x d u shape typed fit more) t p n j at = below_typed more (suc t) p n (suc j) (stand_later t d (token_kinds rest) at)
  below_typed (child_fits {parts = parts} {rest = rest} x d shape below concrete inner more) t p n j at =
      let first = stand_left t (token_kinds parts) (token_kinds rest) at in
      let later = stand_right t (tokens_made parts) (token_kinds parts) (token_kinds rest) (kinds_made parts) at in (
        own_types inner t first,
        both_typed (tokens_below parts t) (tokens_below rest (t + tokens_made parts)) (nodes_from n (suc n) (trees_from 0 parts)) (nodes_from p (suc n + size (trees_from 0 parts)) (trees_from (suc j) rest))
            (below_typed inner t n (suc n) 0 first) (below_typed more (t + tokens_made parts) p (suc n + size (trees_from 0 parts)) (suc j) later),
      )

  -- the type at a position and a component
  abbrev place_at : List (List (Option ℕ)) → ℕ → ℕ → Option ℕ
  place_at rows q k = option_and_then (λ (places : List (Option ℕ)). option_and_then (λ place. place) (slice_get places k)) (slice_get rows q)

  typed_at : (rows : List (List (Option ℕ))) (nodes : List TreeNode) → AreTyped rows nodes → (q k : ℕ) → option_and_then (slice_get all) (place_at rows q k) ≡ token_wanted N.grammar (class_in nodes q) k
  typed_at [] [] a q k = refl
  typed_at [] (x ∷ nodes) a q k = absurd a
  typed_at (places ∷ rows) [] a q k = absurd a
  typed_at (places ∷ rows) (x ∷ nodes) a zero k = a.0 k
  typed_at (places ∷ rows) (x ∷ nodes) a (suc q) k = typed_at rows nodes a.1 q k

-- the tokens of a tree that fits
pub making_types : (N : Names) (m : Making) → Makes N m.class m.arguments → (q k : ℕ) → token_type (Some m) q k ≡ token_wanted N.grammar (class_in (tree_of m) q) k
making_types N m makes q k =
    let all = token_kinds m.arguments in
    let whole : StandFrom N all 0 all = λ j i e l. let same : i ≡ j = omega (arith, e) in ap (slice_get all) same in
    let below = nodes_from 0 1 (trees_from 0 m.arguments) in
    let typed = below_typed N all makes.fit 0 0 1 0 whole in
    typed_at N all (own_tokens m.arguments 0 ∷ tokens_below m.arguments 0) (tree_of m) (own_types N all makes.fit 0 whole, subst (AreTyped N all (tokens_below m.arguments 0)) (sym (append-nil below)) typed) q k

module _ (p : Program) (good : IsProgram p) where
  -- an equation whose right side is a `new` is that of a higher-order attribute, and makes a tree that fits
  record IsFitting (q : Equation) (m : Making) (allowed : IsEquation p.grammar p.rules.attributes q) : Type 0 where
    names : Names
    same : names.grammar ≡ p.grammar
    makes : Makes names m.class m.arguments
    higher : is_higher_order allowed.attribute.sort ≡ true

  by_sort : (N : Names) → N.grammar ≡ p.grammar → (q : Equation) (m : Making) (allowed : IsEquation p.grammar p.rules.attributes q) (s : Sort) → s ≡ allowed.attribute.sort → IsBody N s allowed.attribute.kind q.body → making_in q.body ≡ Some m → IsFitting q m allowed
  by_sort N same q m allowed Syn e body is = absurd (let none = no_making body.typed in cc)
  by_sort N same q m allowed Inh e body is = absurd (let none = no_making body.typed in cc)
  by_sort N same q m allowed Nta e body is =
      let made : making_in q.body ≡ Some (record { class = body.class; arguments = body.arguments }) = ap making_in body.is in
      let one : record { class = body.class; arguments = body.arguments } ≡ m = cc in
      record { names = N; same = same; makes = subst (λ (x : Making). Makes N x.class x.arguments) one body.makes; higher = ap is_higher_order (sym e) }
  by_sort N same q m allowed Coll e body is = absurd (let none = no_making body.typed in cc)

  -- the equation by which an attribute makes a tree
  record IsMaker (a : ℕ) (m : Making) : Type 0 where
    equation : Equation
    allowed : IsEquation p.grammar p.rules.attributes equation
    attribute : equation.target.attribute.0 ≡ a
    fitting : IsFitting equation m allowed

  maker_at : (a : ℕ) (c : ClassId) (m : Making) → making_at p a c ≡ Some m → IsMaker a m
  maker_at a c m is =
      let found = through (λ (e : Equation). making_in e.body) (equation_for p a c) m is in
      let number = through (slice_get p.rules.equations) (equation_number p.rules c a) found.0 found.1 in
      let near = nearest_above p.rules.superclasses (map target_in p.rules.equations) c.0 a number.0 number.1 in
      let own = target_found p.rules.equations near.0 Own a number.0 near.2 in
      let one : own.0 ≡ found.0 = let e = own.1 in let f = number.2 in cc in
      let allowed = each_of (IsEquation p.grammar p.rules.attributes) p.rules.equations number.0 found.0 good.rules.equations number.2 in
      record {
        equation = found.0;
        allowed = allowed;
        attribute = subst (λ (q : Equation). q.target.attribute.0 ≡ a) one own.3;
        fitting = by_sort (names_for p.grammar p.rules.attributes found.0.target.class found.0.target.reach allowed.attribute.params) refl found.0 m allowed allowed.attribute.sort refl allowed.body found.2;
      }

  maker_of_tree : (a : ℕ) (r : Reference) (m : Making) → making_of p a r ≡ Some m → IsMaker a m
  maker_of_tree a Null m is = cc
  maker_of_tree a (At n) m is = let class = through (making_at p a) (class_at p n) m is in maker_at a class.0 m class.2

  classes_fit : (q : ℕ) (c : ClassId) (o : Option Making) → ((m : Making) → o ≡ Some m → (N : Names) × (N.grammar ≡ p.grammar) × Makes N m.class m.arguments) → class_in (tree_or_none o) q ≡ Some c → c.0 < length p.grammar
  classes_fit q c None f is = cc
  classes_fit q c (Some m) f is =
      let made = f m refl in
      let concrete = grown_concrete p.grammar (tree_of m) (making_grown p.grammar made.0 m made.2 made.1) q c is in
      let x = some_of abstract_in (slice_get p.grammar c.0) false concrete in
      slice_get_within p.grammar c.0 x.0 x.1

  types_fit : (q k : ℕ) (o : Option Making) → ((m : Making) → o ≡ Some m → (N : Names) × (N.grammar ≡ p.grammar) × Makes N m.class m.arguments) → token_type o q k ≡ token_wanted p.grammar (class_in (tree_or_none o) q) k
  types_fit q k None f = refl
  types_fit q k (Some m) f = let made = f m refl in making_types made.0 m made.2 q k ∙ ap (λ (g : List Class). token_wanted g (class_in (tree_of m) q) k) made.1

  fitting : (a : ℕ) (r : Reference) (m : Making) → making_of p a r ≡ Some m → (N : Names) × (N.grammar ≡ p.grammar) × Makes N m.class m.arguments
  fitting a r m is = let f = (maker_of_tree a r m is).fitting in (f.names, f.same, f.makes)

  -- a higher-order attribute isn't circular
  never_circular : (s : Sort) → is_higher_order s ≡ true → may_be_circular s ≡ true → ⊥
  never_circular Syn h c = cc
  never_circular Inh h c = cc
  never_circular Nta h c = cc
  never_circular Coll h c = cc

  plain_maker : (a : ℕ) (m : Making) → IsMaker a m → circular_at p.rules.attributes a ≡ false
  plain_maker a m by =
      let declared : declared_at p.rules.attributes a ≡ Some by.allowed.attribute = ap (declared_at p.rules.attributes) (sym by.attribute) ∙ by.allowed.declared in
      let x = some_of (λ (y : DeclaredAttribute). y.declared) (slice_get p.rules.attributes a) by.allowed.attribute declared in
      let allowed = each_of (IsAttribute p.grammar) p.rules.attributes a x.0 good.rules.attributes x.1 in
      let higher : is_higher_order x.0.declared.sort ≡ true = ap (λ (d : Attr). is_higher_order d.sort) x.2 ∙ by.fitting.higher in
      elim x.0.declared.circular as (λ b. x.0.declared.circular ≡ b → circular_at p.rules.attributes a ≡ false) [
        | true ↦ λ c. absurd (never_circular x.0.declared.sort higher (allowed.circular c).0)
        | false ↦ λ c. ap (λ (o : Option Attr). declares_circular o) declared ∙ ap (λ (d : Attr). d.circular) (sym x.2) ∙ c
      ] refl

  -- all that is made fits
  pub trees_fit : TreesFit p
  trees_fit = record {
    classes = λ a q r c is. classes_fit q c (making_of p a r) (fitting a r) is;
    types = λ a q k r. types_fit q k (making_of p a r) (fitting a r);
    plain = λ a r m is. plain_maker a m (maker_of_tree a r m is);
    queries = λ k q is. no_making (each_of (IsTyped p) p.queries k q good.queries is).typed;
  }
