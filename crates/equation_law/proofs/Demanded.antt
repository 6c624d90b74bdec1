-- The equation of an instance of a program demands only instances of it, and comes to a value of the instance's type.
use Rattle.std.proofs.Common.{◌≡◌, ℕ, zero, suc, Bool, true, false, cond, List, map, Contains, Option, Some, None, IsSome, slice_get, refl, sym, ap, subst, ◌∙◌, ◌++◌, ◌∷◌, ◌⊎◌, inl, inr, append-nil, All, []}
use Rattle.std.specs.Int.{int_wrap}
use Rattle.std.specs.Option.{option_and_then, option_map, option_or}
use Rattle.std.proofs.lemmas.List.Elements.{All-head, All-tail}
use Rattle.std.proofs.lemmas.Int.{SFits-int_wrap, int_wrap_fits}
use mir.Syntax.{w32}
use Rattle.superclasses.specs.Superclasses.{is_sub as is_below}
use Rattle.superclasses.proofs.Lines.{sub_itself}
use Rattle.ast_grammar.specs.declared.grammar.ClassId.{ClassId}
use Rattle.ast_grammar.specs.Grammar.{Class, is_sub, superclasses_of}
use Rattle.attr_rules.specs.declared.dispatch.Reach.{Reach}
use Rattle.attr_rules.specs.declared.dispatch.Reach.TheVariants.{Own, Component, Created, Children}
use Rattle.attr_rules.specs.declared.dispatch.Via.{Via}
use Rattle.attr_rules.specs.declared.dispatch.Via.TheVariants.{Component as ByComponent, Created as ByCreated}
use Rattle.attr_rules.specs.declared.kinds.Attr.{Attr}
use Rattle.attr_rules.specs.declared.kinds.Kind.{Kind}
use Rattle.attr_rules.specs.declared.kinds.Kind.TheVariants as kinds
use Rattle.attr_rules.specs.declared.kinds.Params.{Params}
use Rattle.attr_rules.specs.declared.kinds.Sort.{Sort}
use Rattle.attr_rules.specs.declared.kinds.Sort.TheVariants.{Syn, Inh, Nta, Coll}
use Rattle.attr_rules.specs.declared.types.ValueType.TheVariants as types
use Rattle.attr_rules.specs.Expression.{New, NewArguments}
use Rattle.attr_rules.specs.Queries.{Query as Asked}
use Rattle.attr_rules.specs.Rules.{Attribute as DeclaredAttribute, Equation, GivesValue, IsAttribute, IsBody, IsCreated, IsEquation, IsOf as IsExpression, IsParameter, bound_kinds, collecting_at, declared_at, has_own_equations, is_collection, is_higher_order, is_inherited, kinds_of, names_for, reach_via}
use Rattle.attr_rules.specs.Types.{fits, kept_kind, of_class, parameter_kinds}
use Rattle.attr_rules.specs.Typing.{IsConcrete, Names}
use Rattle.solutions.specs.Asking.{Demands, Ends, Gives, Needs, Meets, asks, gives, here, later, next}
use Rattle.solutions.specs.Rounds.{Graph}
use Rattle.equation_law.specs.Checked.{AreArguments, AreTokens, Fits, IsArgument, IsAt, IsInstance, IsNode, IsNodeAt, IsProgram, IsTyped, IsValue, at, of_attribute, of_query, int, node, nodes, text, texts, tree as of_tree, truth}
use Rattle.equation_law.specs.Collections.{Collection, collection_demands}
use Rattle.equation_law.specs.Created.{Making, making_in, token_kinds}
use Rattle.equation_law.specs.Equations.{OfCollection, OfSite, Site, asked_kind, attribute_kind, body_demands, bound_values, collection_at, collection_of, equation_demands, equation_of, equations_of, inherited_site, inherits, kind_in, kind_or_truth, place_at, site_above, site_at, site_demands, site_of, synthesized_site, world_of}
use Rattle.equation_law.specs.Meaning.{Place, meaning_of, named}
use Rattle.equation_law.specs.Names.{Argument, At, Attribute, Instance, Made, NodeName, Null, OfInt, OfNode, OfText, OfTruth, Query, Reference, Row, end_row, list_of, made_by, row, row_of}
use Rattle.equation_law.specs.Program.{Program, class_at, class_of, declared_of, equation_for, making_at, making_of, names_in}
use Rattle.equation_law.specs.Values.{Int, Node, Nodes, Text, Texts, Tree, Truth, Value, argument_value, as_kind, as_tree, tokens}
use Rattle.equation_law.proofs.Above.{are_created, each_of, map_nothing, there_is}
use Rattle.equation_law.proofs.Among.{Among, HasArgument, HasInside, HasReference, HasRow, inside_has}
use Rattle.equation_law.proofs.Collected.{collection_keeps, uncollected}
use Rattle.equation_law.proofs.Created.{IsFor, are_arguments, equation_is, node_class, root_class, root_there}
use Rattle.equation_law.proofs.Inherited.{Binds, by_arguments, by_place, inherited_above, inherited_there, inside_node}
use Rattle.equation_law.proofs.Lists.{some_of}
use Rattle.equation_law.proofs.Names.{same_row}
use Rattle.equation_law.proofs.Pooled.{empty_there, text_there}
use Rattle.equation_law.proofs.Sites.{demands_of_site}
use Rattle.equation_law.proofs.Typed.{AreBounds, AreNames, AreSingle, AreTokensIn, IsTokenIn, KeepsAll, all_behind, no_making, source_ref, tokens_keep, typed_keeps}
use Rattle.equation_law.proofs.TypedValues.{HasNodes, IsOf, IsRefOf, IsValueIn, fitting, kept, of_argument, of_int, of_value, value_read}

-- an attribute that is neither inherited nor a collection has equations of its own
pub own_equations : (s : Sort) → is_inherited s ≡ false → is_collection s ≡ false → has_own_equations s ≡ true
own_equations Syn e f = refl
own_equations Inh e f = cc
own_equations Nta e f = refl
own_equations Coll e f = cc

-- an inherited attribute makes no trees
not_both : (s : Sort) → is_inherited s ≡ true → is_higher_order s ≡ true → ⊥
not_both Syn e f = cc
not_both Inh e f = cc
not_both Nta e f = cc
not_both Coll e f = cc

-- an equation for what hangs by something is for an inherited attribute
pub covers_inherited : (g : List Class) (c : ClassId) (v : Via) (d : Attr) (r : Reach) → (r ≡ reach_via v) ⊎ (r ≡ Children) → GivesValue g c r d → is_inherited d.sort ≡ true
covers_inherited g c v d r either value = elim either [
  | inl e ↦ via v (subst (λ (x : Reach). GivesValue g c x d) e value)
  | inr e ↦ subst (λ (x : Reach). GivesValue g c x d) e value
]
  where
    via : (w : Via) → GivesValue g c (reach_via w) d → is_inherited d.sort ≡ true
    via (ByComponent k) h = h
    via (ByCreated b) h = h

module _ (p : Program) (good : IsProgram p) where
  -- no parameter is a set
  all_single : (ks : List Kind) → All (IsParameter p.grammar) ks → AreSingle ks
  all_single [] h = tt
  all_single (k ∷ ks) h = ((All-head (IsParameter p.grammar) k ks h).single, all_single ks (All-tail (IsParameter p.grammar) k ks h))

  single_parameters : (a : ℕ) (d : Attr) → declared_of p a ≡ Some d → AreSingle (parameter_kinds d.params)
  single_parameters a d e =
      let s = some_of (λ (x : DeclaredAttribute). x.declared) (slice_get p.rules.attributes a) d e in
      subst (λ (x : Attr). AreSingle (parameter_kinds x.params)) s.2 (all_single (parameter_kinds s.0.declared.params) (each_of (IsAttribute p.grammar) p.rules.attributes a s.0 good.rules.attributes s.1).parameters)

  -- a node of a class
  at_class : (k : ℕ) (c : ClassId) → class_of p k ≡ Some c → IsAt p k c
  at_class k c e = record { class = c; of = e; below = sub_itself (superclasses_of p.grammar) c.0 }

  -- the class of a node isn't abstract
  class_concrete : (n : NodeName) (c : ClassId) → IsNode p n → class_at p n ≡ Some c → IsConcrete p.grammar c.0
  class_concrete n c there of =
      let found = node_class p good n there in
      let same : found.0 ≡ c = (let e = found.1 in cc) in
      subst (λ (x : ClassId). IsConcrete p.grammar x.0) same found.2

  -- each attribute of a node's class that is no collection has an equation
  attribute_site : (a : ℕ) (n : NodeName) (xs : List Argument) (root : Reference) (c : ClassId) (d : Attr) → IsNode p n → class_at p n ≡ Some c → declared_of p a ≡ Some d → is_collection d.sort ≡ false → is_sub p.grammar c.0 d.class.0 ≡ true
      → IsSome (cond (inherits (declared_of p a)) (inherited_site p a xs root n) (synthesized_site p a n xs))
  attribute_site a n xs root c d there f e r b =
      subst (λ (o : Option Attr). IsSome (cond (inherits o) (inherited_site p a xs root n) (synthesized_site p a n xs))) (sym e)
      (elim (is_inherited d.sort) as (λ x. is_inherited d.sort ≡ x → IsSome (cond x (inherited_site p a xs root n) (synthesized_site p a n xs))) [
        | true ↦ λ s. inherited_there p good a xs root n c d there f e s b
        | false ↦ λ s.
            let q = equation_is p good a c d (class_concrete n c there f) e (own_equations d.sort s r) b in
            let found : synthesized_site p a n xs ≡ Some (site_at p a n xs q.equation) =
            ap (λ (o : Option ClassId). option_map (site_at p a n xs) (option_and_then (equation_for p a) o)) f ∙ ap (λ (o : Option Equation). option_map (site_at p a n xs) o) q.is
            in
            subst (λ (o : Option Site). IsSome o) (sym found) refl
      ] refl)

  abbrev query_site : Asked → Site
  query_site x = record { body = x.body; kind = x.kind; place = place_at 0; root = Null }

  -- and so has each instance that is none
  pub has_site : (i : Instance) → IsInstance p i → collection_of p i ≡ None → IsSome (site_of p i)
  has_site i (of_attribute {a = a} {n = n} {xs = xs} d e h q) none =
      attribute_site a n xs (made_by (Attribute a (At n) xs) 0) h.class d h.there h.of e (uncollected p good a d e (map_nothing (collection_at p a n) (collecting_at p.rules.attributes a) none)) h.below
  has_site i (of_query {q = q} e o) none = subst (λ (x : Option Asked). IsSome (option_map query_site x)) (sym o) refl

  -- each instance has an equation
  pub has_equation : (i : Instance) → IsInstance p i → IsSome (equation_of p i)
  has_equation i h =
      elim (collection_of p i) as (λ o. collection_of p i ≡ o → IsSome (option_or (option_map OfCollection o) (option_map OfSite (site_of p i)))) [
        | Some c ↦ λ is. refl
        | None ↦ λ none. let s = there_is (site_of p i) (has_site i h none) in subst (λ (o : Option Site). IsSome (option_map OfSite o)) (sym s.1) refl
      ] refl

  module _ (U : Among) (M : Instance → Value → Type 0) (bounds : AreBounds p U M) where
    -- what a query names
    names_of_query : AreNames p U (names_in p) (place_at 0)
    names_of_query = record {
      grammar = refl;
      attribute = λ a d e. e;
      node = at_class;
      this = λ c e. source_ref p U M bounds 0 c (at_class 0 c e);
      variables = λ k t e. absurd (cc);
    }

    -- names stand for values of types
    abbrev AreTyped : List Kind → List Value → Type 0
    AreTyped ts ws = (k : ℕ) (t : Kind) → slice_get ts k ≡ Some t → IsOf p U (types.Of t) (named ws k)

    none_typed : (ws : List Value) → AreTyped [] ws
    none_typed ws k t e = absurd (cc)

    -- what is named by arguments and then by others
    arguments_typed : (ks : List Kind) (xs : List Argument) → AreArguments p ks xs → HasRow U.nodes (row_of xs) → (ts : List Kind) (ws : List Value) → AreTyped ts ws → AreTyped (ks ++ ts) (map argument_value xs ++ ws)
    arguments_typed [] [] are some ts ws h k t e = h k t e
    arguments_typed [] (x ∷ xs) are some ts ws h k t e = absurd are
    arguments_typed (u ∷ ks) [] are some ts ws h k t e = absurd are
    arguments_typed (u ∷ ks) (x ∷ xs) are some ts ws h zero t e = let same : u ≡ t = cc in subst (λ (y : Kind). IsOf p U (types.Of y) (argument_value x)) same (of_argument p U bounds.literal bounds.value_text u x are.0 some.0)
    arguments_typed (u ∷ ks) (x ∷ xs) are some ts ws h (suc k) t e = arguments_typed ks xs are.1 some.1 ts ws h k t e

    -- what a path binds is of its types: a place
    place_typed : (r : Reach) (i : ℕ) → are_created r ≡ false → AreTyped (bound_kinds p.rules.attributes r) (bound_values r i [])
    place_typed Own i h k t e = absurd (cc)
    place_typed (Component c) i h zero t e = let same : kinds.Int ≡ t = cc in subst (λ (x : Kind). IsOf p U (types.Of x) (named (bound_values (Component c) i []) 0)) same (of_int _ (bounds.wrapped _))
    place_typed (Component c) i h (suc k) t e = absurd (cc)
    place_typed (Created b) i h k t e = absurd (cc)
    place_typed Children i h k t e = absurd (cc)

    -- or the arguments with which a tree was made
    row_typed : (b : ℕ) (m : NodeName) (ys : Row) (q : ℕ) → IsNode p (Made b (At m) ys q) → U.nodes (Made b (At m) ys q) → AreTyped (bound_kinds p.rules.attributes (Created (record { 0 = b }))) (map argument_value (list_of ys))
    row_typed b m ys q there u =
        let ks = parameter_kinds there.0.params in
        let are = are_arguments p ks ys there.4 in
        let some = subst (HasRow U.nodes) (sym (same_row ys)) (bounds.inside.arguments u) in
        let alone : AreTyped (ks ++ []) (map argument_value (list_of ys) ++ []) = arguments_typed ks (list_of ys) are some [] [] (none_typed []) in
        subst (λ (o : Option Attr). AreTyped (kinds_of o) (map argument_value (list_of ys))) (sym there.1)
        (subst (λ (ts : List Kind). AreTyped ts (map argument_value (list_of ys))) (append-nil ks) (subst (AreTyped (ks ++ [])) (append-nil (map argument_value (list_of ys))) alone))

    made_typed : (r : Reach) (b : ℕ) (m : NodeName) (ys : Row) (q : ℕ) → IsNode p (Made b (At m) ys q) → U.nodes (Made b (At m) ys q) → (r ≡ Created (record { 0 = b })) ⊎ (r ≡ Children)
        → AreTyped (bound_kinds p.rules.attributes r) (bound_values r 0 (map argument_value (list_of ys)))
    made_typed r b m ys q there u either =
        let holds : Reach → Type 0 = λ x. AreTyped (bound_kinds p.rules.attributes x) (bound_values x 0 (map argument_value (list_of ys))) in
        elim either [
          | inl e ↦ subst holds (sym e) (row_typed b m ys q there u)
          | inr e ↦ subst holds (sym e) (none_typed [])
        ]

    bound_typed : (n m : NodeName) → IsNode p n → U.nodes n → (r : Reach) (bound : List Value) → Binds p n m r bound → AreTyped (bound_kinds p.rules.attributes r) bound
    bound_typed n m there u _ _ (by_place r i hung) = place_typed r i hung
    bound_typed n m there u _ _ (by_arguments r b ys q either inside) = made_typed r b m ys q (inside_node p good inside there) (inside_has p U.nodes bounds.inside inside u) either

    abbrev bound_place : NodeName → List Argument → List Value → Place
    bound_place n xs bound = record { this = At n; names = map argument_value xs ++ bound }

    -- what an equation names at a node of its class or of a subclass
    names_of_equation : (c : ClassId) (r : Reach) (ps : Params) (n : NodeName) (xs : List Argument) (bound : List Value) → AreArguments p (parameter_kinds ps) xs → HasRow U.nodes (row_of xs) → AreTyped (bound_kinds p.rules.attributes r) bound → IsRefOf p U c (At n)
        → AreNames p U (names_for p.grammar p.rules.attributes c r ps) (bound_place n xs bound)
    names_of_equation c r ps n xs bound are some typed stands = record {
      grammar = refl;
      attribute = λ a d e. e;
      node = λ k b e. absurd (cc);
      this = λ b e. let same : c ≡ b = cc in subst (λ (x : ClassId). IsRefOf p U x (At n)) same stands;
      variables = arguments_typed (parameter_kinds ps) xs are some (bound_kinds p.rules.attributes r) bound typed;
    }

    -- an expression, read at a place
    expression_keeps : {N : Names} (s : Site) → IsExpression N s.kind s.body → AreNames p U N s.place → KeepsAll p U M (IsValueIn p U s.kind) (site_demands (world_of p) (Some s))
    expression_keeps {N} s body names =
        let typed = typed_keeps p U M bounds good body.typed s.place names in
        let fit = fitting p U s.kind body.type (subst (λ (g : List Class). fits g body.type s.kind ≡ true) names.grammar body.fit) in
        subst (λ (o : Option Making). KeepsAll p U M (IsValueIn p U s.kind) (body_demands (world_of p) s o)) (sym (no_making body.typed))
        (all_behind p U M (IsOf p U body.type) (IsValueIn p U s.kind) (meaning_of (world_of p) s.body s.place) (λ v. Gives (as_kind s.kind v)) typed (λ v o. value_read p U bounds.int_value bounds.text_value s.kind v (fit v o)))

    -- a `new`, read at a place
    making_keeps : {N : Names} (s : Site) (made : IsCreated N s.kind s.body) → AreNames p U N s.place → ((ts : List Argument) → AreTokens p (token_kinds made.arguments) ts → IsValueIn p U s.kind (as_tree s.kind s.root ts))
        → KeepsAll p U M (IsValueIn p U s.kind) (site_demands (world_of p) (Some s))
    making_keeps {N} s made names f =
        subst (λ (o : Option Making). KeepsAll p U M (IsValueIn p U s.kind) (body_demands (world_of p) s o)) (sym (ap making_in made.is))
        (tokens_keep p U M bounds good (IsValueIn p U s.kind) made.makes.fit s.place names (λ ts. Gives (as_tree s.kind s.root ts)) f)

    -- the right side of an equation, by the sort of its attribute
    body_keeps : {N : Names} (sort : Sort) (s : Site) → IsBody N sort s.kind s.body → AreNames p U N s.place → ((made : IsCreated N s.kind s.body) → is_higher_order sort ≡ true → (ts : List Argument) → AreTokens p (token_kinds made.arguments) ts → IsValueIn p U s.kind (as_tree s.kind s.root ts))
        → KeepsAll p U M (IsValueIn p U s.kind) (site_demands (world_of p) (Some s))
    body_keeps Syn s body names f = expression_keeps s body names
    body_keeps Inh s body names f = expression_keeps s body names
    body_keeps Nta s body names f = making_keeps s body names (f body refl)
    body_keeps Coll s body names f = expression_keeps s body names

    -- an equation, read at a node with arguments, for an attribute of the type for which it is
    equation_keeps : (a : ℕ) (n : NodeName) (xs : List Argument) (root : Reference) (bound : List Value) (q : Equation) (allowed : IsEquation p.grammar p.rules.attributes q) → attribute_kind p a ≡ allowed.attribute.kind
        → AreArguments p (parameter_kinds allowed.attribute.params) xs → HasRow U.nodes (row_of xs) → IsRefOf p U q.target.class (At n) → AreTyped (bound_kinds p.rules.attributes q.target.reach) bound
        → ((class : ClassId) (arguments : NewArguments) → q.body ≡ New class arguments → fits p.grammar (of_class class) (attribute_kind p a) ≡ true → is_higher_order allowed.attribute.sort ≡ true → (ts : List Argument) → AreTokens p (token_kinds arguments) ts → IsValueIn p U (attribute_kind p a) (as_tree (attribute_kind p a) root ts))
        → KeepsAll p U M (IsValueIn p U (attribute_kind p a)) (site_demands (world_of p) (Some (site_above p a xs root n bound q)))
    equation_keeps a n xs root bound q allowed kind are some stands typed f =
        let N = names_for p.grammar p.rules.attributes q.target.class q.target.reach allowed.attribute.params in
        body_keeps {N = N} allowed.attribute.sort (site_above p a xs root n bound q) (subst (λ (k : Kind). IsBody N allowed.attribute.sort k q.body) (sym kind) allowed.body)
        (names_of_equation q.target.class q.target.reach allowed.attribute.params n xs bound are some typed stands) (λ made higher ts. f made.class made.arguments made.is made.fit higher ts)

    kind_declared : (a : ℕ) (d : Attr) → declared_of p a ≡ Some d → attribute_kind p a ≡ d.kind
    kind_declared a d e = ap (λ (o : Option Attr). kind_or_truth (option_map (λ x. x.kind) o)) e

    -- a tree that an instance makes is a value of it
    tree_value : (a : ℕ) (n : NodeName) (xs : List Argument) (d : Attr) (c t : ClassId) (arguments : NewArguments) (q : IsFor p good a c) → declared_of p a ≡ Some d → is_higher_order d.sort ≡ true → (h : IsNodeAt p n d.class) → AreArguments p (parameter_kinds d.params) xs → U.nodes (Made a (At n) (row_of xs) 0)
        → class_at p n ≡ Some c → q.equation.body ≡ New t arguments → (k : Kind) → fits p.grammar (of_class t) k ≡ true → (ts : List Argument) → AreTokens p (token_kinds arguments) ts → IsValueIn p U k (as_tree k (At (Made a (At n) (row_of xs) 0)) ts)
    tree_value a n xs d c t arguments q e higher h are u of body kinds.Truth fit ts tokens = cc
    tree_value a n xs d c t arguments q e higher h are u of body kinds.Int fit ts tokens = cc
    tree_value a n xs d c t arguments q e higher h are u of body kinds.Text fit ts tokens = cc
    tree_value a n xs d c t arguments q e higher h are u of body (kinds.Node b) fit ts tokens =
        let making : Making = record { class = t; arguments = arguments } in
        let made : making_of p a (At n) ≡ Some making = ap (option_and_then (making_at p a)) of ∙ ap (option_and_then (λ (x : Equation). making_in x.body)) q.is ∙ ap making_in body in
        let root : IsNodeAt p (Made a (At n) (row_of xs) 0) b = record {
          there = root_there p good a d n xs e higher h are;
          class = t;
          of = root_class p good a (At n) (row_of xs) making made;
          below = fit;
        } in (
          of_tree b (At (Made a (At n) (row_of xs) 0)) ts (record {
            making = making;
            attribute = a;
            owner = At n;
            arguments = row_of xs;
            is = refl;
            made = made;
            root = at root;
            tokens = tokens;
          }),
          u,
        )
    tree_value a n xs d c t arguments q e higher h are u of body kinds.Texts fit ts tokens = cc
    tree_value a n xs d c t arguments q e higher h are u of body (kinds.Nodes b) fit ts tokens = cc

    -- the equation of a synthesized or higher-order attribute, read at a node
    synthesized_keeps : (a : ℕ) (n : NodeName) (xs : List Argument) (d : Attr) → declared_of p a ≡ Some d → (h : IsNodeAt p n d.class) → AreArguments p (parameter_kinds d.params) xs → U.nodes (Made a (At n) (row_of xs) 0) → (q : IsFor p good a h.class)
        → KeepsAll p U M (IsValueIn p U (attribute_kind p a)) (site_demands (world_of p) (synthesized_site p a n xs))
    synthesized_keeps a n xs d e h are u q =
        let found : synthesized_site p a n xs ≡ Some (site_at p a n xs q.equation) =
        ap (λ (o : Option ClassId). option_map (site_at p a n xs) (option_and_then (equation_for p a) o)) h.of ∙ ap (λ (o : Option Equation). option_map (site_at p a n xs) o) q.is
        in
        let root = At (Made a (At n) (row_of xs) 0) in
        let declared : declared_of p a ≡ Some q.allowed.attribute = ap (declared_at p.rules.attributes) (sym q.attribute) ∙ q.allowed.declared in
        let same : d ≡ q.allowed.attribute = cc in
        let fit = subst (λ (x : Attr). AreArguments p (parameter_kinds x.params) xs) same are in
        let stands : IsRefOf p U q.equation.target.class (At n) = (at (record { there = h.there; class = h.class; of = h.of; below = q.above }), bounds.inside.owner u) in
        let unbound : AreTyped (bound_kinds p.rules.attributes q.equation.target.reach) [] = subst (λ (r : Reach). AreTyped (bound_kinds p.rules.attributes r) []) (sym q.own) (none_typed []) in
        let keeps = equation_keeps a n xs root [] q.equation q.allowed (kind_declared a q.allowed.attribute declared) fit (bounds.inside.arguments u) stands unbound
        (λ t arguments body fit_kind higher ts typed. tree_value a n xs d h.class t arguments q e (subst (λ (x : Attr). is_higher_order x.sort ≡ true) (sym same) higher) h are u h.of body (attribute_kind p a) fit_kind ts typed)
        in
        let reads : List Value → Type 0 = λ vs. KeepsAll p U M (IsValueIn p U (attribute_kind p a)) (site_demands (world_of p) (Some (record { body = q.equation.body; kind = attribute_kind p a; place = record { this = At n; names = vs }; root = root }))) in
        subst (λ (o : Option Site). KeepsAll p U M (IsValueIn p U (attribute_kind p a)) (site_demands (world_of p) o)) (sym found) (subst reads (append-nil (map argument_value xs)) keeps)

    -- the equation of an inherited attribute, read above a node
    inherited_keeps : (a : ℕ) (n : NodeName) (xs : List Argument) (root : Reference) (d : Attr) → declared_of p a ≡ Some d → is_inherited d.sort ≡ true → IsNodeAt p n d.class → AreArguments p (parameter_kinds d.params) xs → U.nodes n → HasRow U.nodes (row_of xs)
        → KeepsAll p U M (IsValueIn p U (attribute_kind p a)) (site_demands (world_of p) (inherited_site p a xs root n))
    inherited_keeps a n xs root d e s h are u some =
        let site = there_is (inherited_site p a xs root n) (inherited_there p good a xs root n h.class d h.there h.of e s h.below) in
        let up = inherited_above p good a xs root n h.there site.0 site.1 in
        let q = up.found in
        let allowed = each_of (IsEquation p.grammar p.rules.attributes) p.rules.equations up.number q.equation good.rules.equations q.is in
        let first : declared_of p q.first ≡ Some allowed.attribute = ap (declared_at p.rules.attributes) (sym q.attribute) ∙ allowed.declared in
        let alike = good.rules.alike a q.first d allowed.attribute e s q.named first in
        let below = subst (λ (x : List (Option ℕ)). is_below x up.class.0 q.equation.target.class.0 ≡ true) good.rules.superclasses q.above in
        let fit = subst (λ (x : Params). AreArguments p (parameter_kinds x) xs) alike.1 are in
        let stands : IsRefOf p U q.equation.target.class (At up.node) = (at (record { there = inside_node p good up.inside h.there; class = up.class; of = up.of; below = below }), inside_has p U.nodes bounds.inside up.inside u) in
        let inherited = covers_inherited p.grammar q.equation.target.class up.via allowed.attribute q.equation.target.reach q.reach allowed.gives in
        let keeps = equation_keeps a up.node xs root up.bound q.equation allowed (kind_declared a d e ∙ alike.0) fit some stands (bound_typed n up.node h.there u q.equation.target.reach up.bound up.binds) (λ t arguments body fit_kind higher ts typed. absurd (not_both allowed.attribute.sort inherited higher)) in
        subst (λ (o : Option Site). KeepsAll p U M (IsValueIn p U (attribute_kind p a)) (site_demands (world_of p) o)) (sym site.1)
        (subst (λ (x : Site). KeepsAll p U M (IsValueIn p U (attribute_kind p a)) (site_demands (world_of p) (Some x))) up.is keeps)

    -- the equation of an attribute that is no collection
    attribute_keeps : (a : ℕ) (n : NodeName) (xs : List Argument) (root : Reference) (d : Attr) → declared_of p a ≡ Some d → is_collection d.sort ≡ false → IsNodeAt p n d.class → AreArguments p (parameter_kinds d.params) xs → U.nodes (Made a (At n) (row_of xs) 0)
        → KeepsAll p U M (IsValueIn p U (attribute_kind p a)) (site_demands (world_of p) (cond (inherits (declared_of p a)) (inherited_site p a xs root n) (synthesized_site p a n xs)))
    attribute_keeps a n xs root d e r h are u =
        let holds : Bool → Type 0 = λ x. KeepsAll p U M (IsValueIn p U (attribute_kind p a)) (site_demands (world_of p) (cond x (inherited_site p a xs root n) (synthesized_site p a n xs))) in
        subst holds (sym (ap inherits e))
        (elim (is_inherited d.sort) as (λ x. is_inherited d.sort ≡ x → holds x) [
          | true ↦ λ s. inherited_keeps a n xs root d e s h are (bounds.inside.owner u) (bounds.inside.arguments u)
          | false ↦ λ s. synthesized_keeps a n xs d e h are u (equation_is p good a h.class d (class_concrete n h.class h.there h.of) e (own_equations d.sort s r) h.below)
        ] refl)

    -- the expression of a query, read at the root
    query_keeps : (e : Asked) → IsTyped p e → KeepsAll p U M (IsValueIn p U e.kind) (site_demands (world_of p) (Some (query_site e)))
    query_keeps e t =
        let typed = typed_keeps p U M bounds good t.typed (place_at 0) names_of_query in
        let reads : Kind → Type 0 = λ x. KeepsAll p U M (IsValueIn p U x) (next (meaning_of (world_of p) e.body (place_at 0)) (λ v. Gives (as_kind x v))) in
        subst (λ (o : Option Making). KeepsAll p U M (IsValueIn p U e.kind) (body_demands (world_of p) (query_site e) o)) (sym (no_making t.typed))
        (subst reads (sym t.kept)
        (all_behind p U M (IsOf p U t.type) (IsValueIn p U (kept_kind t.type)) (meaning_of (world_of p) e.body (place_at 0)) (λ v. Gives (as_kind (kept_kind t.type) v)) typed
        (λ v o. value_read p U bounds.int_value bounds.text_value (kept_kind t.type) v (kept p U t.type v o))))

    -- that of each instance that is none
    site_keeps : (i : Instance) → IsInstance p i → HasReference U.nodes (made_by i 0) → collection_of p i ≡ None → KeepsAll p U M (IsValueIn p U (kind_in p i)) (site_demands (world_of p) (site_of p i))
    site_keeps i (of_attribute {a = a} {n = n} {xs = xs} d e h q) u none =
        attribute_keeps a n xs (made_by (Attribute a (At n) xs) 0) d e (uncollected p good a d e (map_nothing (collection_at p a n) (collecting_at p.rules.attributes a) none)) h q u
    site_keeps i (of_query {q = q} e o) u none =
        subst (λ (x : Option Asked). KeepsAll p U M (IsValueIn p U (kind_or_truth (option_map asked_kind x))) (site_demands (world_of p) (option_map query_site x))) (sym o)
        (query_keeps e (each_of (IsTyped p) p.queries q e good.queries o))

    -- what is offered to each that is one
    collected_keeps : (i : Instance) (c : Collection) → collection_of p i ≡ Some c → KeepsAll p U M (IsValueIn p U (kind_in p i)) (collection_demands (world_of p) c)
    collected_keeps (Attribute a Null xs) c is = cc
    collected_keeps (Attribute a (At n) xs) c is =
        let s = some_of (collection_at p a n) (collecting_at p.rules.attributes a) c is in
        subst (λ (x : Collection). KeepsAll p U M (IsValueIn p U (attribute_kind p a)) (collection_demands (world_of p) x)) s.2 (collection_keeps p good U M bounds a n s.0 s.1)
    collected_keeps (Query q) c is = cc

    -- the equation of each instance whose tree is among them
    pub instance_keeps : (i : Instance) → IsInstance p i → HasReference U.nodes (made_by i 0) → KeepsAll p U M (IsValueIn p U (kind_in p i)) (equation_demands (world_of p) (equation_of p i))
    instance_keeps i h u =
        elim (collection_of p i) as (λ o. collection_of p i ≡ o → KeepsAll p U M (IsValueIn p U (kind_in p i)) (equation_demands (world_of p) (option_or (option_map OfCollection o) (option_map OfSite (site_of p i))))) [
          | Some c ↦ λ is. collected_keeps i c is
          | None ↦ λ none. subst (KeepsAll p U M (IsValueIn p U (kind_in p i))) (sym (demands_of_site (world_of p) (site_of p i))) (site_keeps i h u none)
        ] refl

  -- integers of 32 bits, texts of the program, and some nodes
  abbrev pub among_nodes : (NodeName → Type 0) → Among
  among_nodes X = record { ints = λ z. int_wrap w32 z ≡ z; texts = λ t. Contains p.texts t; nodes = X }

  -- values of their instances' types, of such nodes
  abbrev pub IsTypedIn : (NodeName → Type 0) → Instance → Value → Type 0
  IsTypedIn X i v = IsValueIn p (among_nodes X) (kind_in p i) v

  module _ (X : NodeName → Type 0) (inside : HasInside p X) where
    -- the tokens of a tree are values
    argument_in : (k : Kind) (x : Argument) → IsArgument p k x → IsTokenIn (among_nodes X) x
    argument_in k (OfTruth b) h = tt
    argument_in k (OfInt z) h = h.1
    argument_in k (OfText t) h = h.1
    argument_in k (OfNode r) h = tt

    arguments_in : (ks : List Kind) (ts : List Argument) → AreTokens p ks ts → AreTokensIn (among_nodes X) ts
    arguments_in [] [] h = tt
    arguments_in [] (x ∷ ts) h = absurd h
    arguments_in (k ∷ ks) [] h = absurd h
    arguments_in (k ∷ ks) (x ∷ ts) h = (argument_in k x h.0, arguments_in ks ts h.1)

    tokens_in : (k : Kind) (v : Value) → IsValue p k v → AreTokensIn (among_nodes X) (tokens v)
    tokens_in _ _ (truth b) = tt
    tokens_in _ _ (int z e) = tt
    tokens_in _ _ (text t e) = tt
    tokens_in _ _ (node c r h) = tt
    tokens_in _ _ (texts s h) = tt
    tokens_in _ _ (of_tree c r ts h) = arguments_in (token_kinds h.making.arguments) ts h.tokens
    tokens_in _ _ (nodes c s h) = tt

    value_bounds : AreBounds p (among_nodes X) (IsTypedIn X)
    value_bounds = record {
      literal = λ z e. e;
      wrapped = λ z. int_wrap_fits w32 (int_wrap w32 z) (SFits-int_wrap w32 z);
      text = text_there p.texts good.texts;
      empty = empty_there p.texts good.texts;
      parameters = single_parameters;
      tokens = λ i v m. tokens_in (kind_in p i) v m.0;
      inside = inside;
      int_value = λ z e. e;
      text_value = λ t e. e;
      value_text = λ t e. e;
      read = λ a d r xs v e m.
          let is = subst (λ (o : Option Attr). IsValueIn p (among_nodes X) (kind_or_truth (option_map (λ x. x.kind) o)) v) e m in
          of_value p (among_nodes X) (λ z f. f) (λ t f. f) d.kind v is.0 is.1;
    }

    -- what comes of demands, where the values of instances are so
    ended : (k : Kind) (A : Instance → Value → Type 0) → ((j : Instance) (v : Value) → IsInstance p j → A j v → IsTypedIn X j v) → (c : Demands Instance Value) {v : Value} {ds : List Instance}
        → KeepsAll p (among_nodes X) (IsTypedIn X) (IsValueIn p (among_nodes X) k) c → Ends A c v ds → IsValueIn p (among_nodes X) k v
    ended k A f (Gives v) h gives = h
    ended k A f (Needs j g) h (asks {w = w} a e) = ended k A f (g w) (h.1 w (f j w h.0 a)) e

    -- the value with which an equation ends, of an instance whose tree is among them
    pub ended_within : (A : Instance → Value → Type 0) → ((j : Instance) (w : Value) → IsInstance p j → A j w → IsTypedIn X j w) → (i : Instance) → IsInstance p i → HasReference X (made_by i 0)
        → (v : Value) (demands : List Instance) → Ends A ((equations_of p).equation i) v demands → IsTypedIn X i v
    unfolding equations_of
    ended_within A f i h u v demands e = ended (kind_in p i) A f (equation_demands (world_of p) (equation_of p i)) (instance_keeps (among_nodes X) (IsTypedIn X) value_bounds i h u) e

    -- what is demanded
    met : (k : Kind) (A : Instance → Value → Type 0) → ((j : Instance) (v : Value) → IsInstance p j → A j v → IsTypedIn X j v) → (c : Demands Instance Value) (j : Instance)
        → KeepsAll p (among_nodes X) (IsTypedIn X) (IsValueIn p (among_nodes X) k) c → Meets A c j → IsInstance p j
    met k A f (Gives v) j h m = elim m [ ]
    met k A f (Needs i g) j h here = h.0
    met k A f (Needs i g) j h (later {w = w} e m) = met k A f (g w) j (h.1 w (f i w h.0 e)) m

  -- all nodes
  abbrev pub any_node : NodeName → Type 0
  any_node n = Unit {0}

  pub any_reference : (r : Reference) → HasReference any_node r
  any_reference Null = tt
  any_reference (At n) = tt

  any_row : (xs : Row) → HasRow any_node xs
  any_row end_row = tt
  any_row (row x xs) = (any_argument x, any_row xs)
    where
      any_argument : (y : Argument) → HasArgument any_node y
      any_argument (OfTruth b) = tt
      any_argument (OfInt z) = tt
      any_argument (OfText t) = tt
      any_argument (OfNode r) = any_reference r

  pub any_inside : HasInside p any_node
  any_inside = record { source = λ k l. tt; beside = λ m l h. tt; owner = λ h. tt; arguments = λ {a} {r} {xs} {q} h. any_row xs }

  value_any : (k : Kind) (v : Value) → IsValue p k v → IsValueIn p (among_nodes any_node) k v
  value_any k v h = (h, all_of v)
    where
      all_of : (w : Value) → HasNodes p (among_nodes any_node) w
      all_of (Truth b) = tt
      all_of (Int z) = tt
      all_of (Text t) = tt
      all_of (Node r) = any_reference r
      all_of (Texts s) = tt
      all_of (Nodes s) = λ n e. tt
      all_of (Tree r ts) = any_reference r

  -- the value with which an equation ends, where the values of instances are of their types
  pub ended_typed : (A : Instance → Value → Type 0) → ((j : Instance) (w : Value) → IsInstance p j → A j w → IsValue p (kind_in p j) w) → (i : Instance) → IsInstance p i → (v : Value) (demands : List Instance) → Ends A ((equations_of p).equation i) v demands → IsValue p (kind_in p i) v
  ended_typed A f i h v demands e = (ended_within any_node any_inside A (λ j w q a. value_any (kind_in p j) w (f j w q a)) i h (any_reference (made_by i 0)) v demands e).0

  pub well_typed_values : (i : Instance) → IsInstance p i → (A : Instance → Option Value) → Fits p A → (v : Value) (demands : List Instance) → Ends (Graph A) ((equations_of p).equation i) v demands → IsValue p (kind_in p i) v
  well_typed_values i h A fit v demands e = ended_typed (Graph A) (λ j w q a. fit.fits j w a) i h v demands e

  -- what is demanded, where they are so
  pub met_instances : (i j : Instance) → IsInstance p i → (A : Instance → Value → Type 0) → ((j : Instance) (w : Value) → IsInstance p j → A j w → IsValue p (kind_in p j) w) → Meets A ((equations_of p).equation i) j → IsInstance p j
  unfolding equations_of
  met_instances i j h A f m =
      met any_node any_inside (kind_in p i) A (λ k w q a. value_any (kind_in p k) w (f k w q a)) (equation_demands (world_of p) (equation_of p i)) j
      (instance_keeps (among_nodes any_node) (IsTypedIn any_node) (value_bounds any_node any_inside) i h (any_reference (made_by i 0))) m

  pub demands_instances : (i j : Instance) → IsInstance p i → (A : Instance → Option Value) → Fits p A → Meets (Graph A) ((equations_of p).equation i) j → IsInstance p j
  demands_instances i j h A fit m = met_instances i j h (Graph A) (λ k w q a. fit.fits k w a) m
