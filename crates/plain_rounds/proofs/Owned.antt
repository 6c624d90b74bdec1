-- A tree that comes of the equation of an instance is one that the instance makes.
use Rattle.std.proofs.Common.{◌≡◌, inl, inr, ℕ, zero, suc, Bool, true, false, ◌||◌, cond, All, List, [], ◌∷◌, ◌++◌, Option, Some, None, slice_get, refl, sym, ap, subst, ◌∙◌}
use Rattle.std.specs.Option.{option_and_then}
use Rattle.std.proofs.lemmas.List.Elements.{All-head, All-tail}
use Rattle.std.proofs.lemmas.Option.{same_Some}
use Rattle.ast_grammar.specs.declared.grammar.ClassId.{ClassId}
use Rattle.attr_rules.specs.declared.kinds.Kind.{Kind}
use Rattle.attr_rules.specs.declared.kinds.Kind.TheVariants as kinds
use Rattle.attr_rules.specs.declared.kinds.Method.{Method}
use Rattle.attr_rules.specs.declared.kinds.Method.TheVariants.{Add, AddAll, Sum, Or, And}
use Rattle.attr_rules.specs.declared.kinds.Sort.{Sort}
use Rattle.attr_rules.specs.declared.kinds.Sort.TheVariants.{Syn, Inh, Nta, Coll}
use Rattle.attr_rules.specs.Expression.{Expression, NewArguments, new_child, new_end, new_token}
use Rattle.attr_rules.specs.Rules.{Equation, IsBody, IsEquation, is_inherited, names_for}
use Rattle.attr_rules.specs.Typing.{Names}
use Rattle.solutions.specs.Asking.{Demands}
use Rattle.solutions.specs.Rising.{Leaves}
use Rattle.solutions.specs.Rounds.{inner_rounds, is_in, outer_rounds, over}
use Rattle.solutions.proofs.Runs.{before, came, circular, ends_leaf, inner_ends, inner_first, inner_in, or_else_some, undeclared}
use Rattle.equation_law.specs.Checked.{IsInstance, IsNode, IsProgram, of_attribute, of_query}
use Rattle.equation_law.specs.Collections.{Collection, Offer, combine, fresh, gathered, offer_place}
use Rattle.equation_law.specs.Created.{Making, making_in, token_kinds}
use Rattle.equation_law.specs.Equations.{Site, body_demands, collection_of, equations_of, inherited_site, inherits, kind_in, site_at, site_demands, site_of, synthesized_site, world_of}
use Rattle.equation_law.specs.Meaning.{Place, World, meaning_of, with_tokens}
use Rattle.equation_law.specs.Names.{Argument, At, Attribute, Instance, NodeName, Query, Reference, made_by, same_instance, same_reference}
use Rattle.equation_law.specs.Program.{Program, class_at, declared_of, equation_for, making_at, making_of}
use Rattle.equation_law.specs.Reading.{AreTokensOf}
use Rattle.equation_law.specs.Values.{Value, as_argument, as_kind, as_tree, default_of, node, set_operate, single, truth}
use Rattle.attr_rules.specs.declared.expression.SetOperator.{SetOperator}
use Rattle.attr_rules.specs.declared.expression.SetOperator.TheVariants.{Union}
use Rattle.equation_law.proofs.Above.{each_of}
use Rattle.equation_law.proofs.Demanded.{covers_inherited}
use Rattle.equation_law.proofs.Fitting.{trees_fit}
use Rattle.equation_law.proofs.Inherited.{inherited_above}
use Rattle.equation_law.proofs.Lists.{some_of}
use Rattle.equation_law.proofs.Names.{same_instance_is}
use Rattle.equation_law.proofs.Sites.{demanded_at_site, demanded_of_collection}
use Rattle.equation_law.proofs.Solution.{leaves_next}
use Rattle.equation_law.proofs.Typed.{no_making}
use Rattle.made_trees.specs.Makers.{making_for}
use Rattle.plain_rounds.specs.Trees.{IsOwn, IsOwnTree}

-- a value that is read at a type is no tree
module _ (p : Program) (i : Instance) where
  pub read_own : (k : Kind) (v : Value) → IsOwn p i (as_kind k v)
  read_own kinds.Truth v = tt
  read_own kinds.Int v = tt
  read_own kinds.Text v = tt
  read_own (kinds.Node c) v = tt
  read_own kinds.Texts v = tt
  read_own (kinds.Nodes c) v = tt

  pub default_own : (k : Kind) → IsOwn p i (default_of k)
  default_own kinds.Truth = tt
  default_own kinds.Int = tt
  default_own kinds.Text = tt
  default_own (kinds.Node c) = tt
  default_own kinds.Texts = tt
  default_own (kinds.Nodes c) = tt

  tree_own : (k : Kind) (r : Reference) (ts : List Argument) → IsOwnTree p i r ts → IsOwn p i (as_tree k r ts)
  tree_own kinds.Truth r ts own = tt
  tree_own kinds.Int r ts own = tt
  tree_own kinds.Text r ts own = tt
  tree_own (kinds.Node c) r ts own = own
  tree_own kinds.Texts r ts own = tt
  tree_own (kinds.Nodes c) r ts own = tt

  set_own : (o : SetOperator) (k : Kind) (v w : Value) → IsOwn p i (set_operate o k v w)
  set_own o kinds.Truth v w = tt
  set_own o kinds.Int v w = tt
  set_own o kinds.Text v w = tt
  set_own o (kinds.Node c) v w = tt
  set_own o kinds.Texts v w = tt
  set_own o (kinds.Nodes c) v w = tt

  fresh_own : (m : Method) (k : Kind) → IsOwn p i (fresh m k)
  fresh_own Add k = default_own k
  fresh_own AddAll k = default_own k
  fresh_own Sum k = tt
  fresh_own Or k = tt
  fresh_own And k = tt

  combined_own : (m : Method) (k : Kind) (v w : Value) → IsOwn p i (combine m k v w)
  combined_own Add k v w = set_own Union k v (single w)
  combined_own AddAll k v w = set_own Union k v w
  combined_own Sum k v w = tt
  combined_own Or k v w = tt
  combined_own And k v w = tt

-- tokens of these types, one for each
abbrev AreJust : List Kind → List Argument → Type 0
AreJust [] [] = Unit {0}
AreJust [] (x ∷ xs) = ⊥
AreJust (k ∷ ks) [] = ⊥
AreJust (k ∷ ks) (x ∷ xs) = ((v : Value) × (x ≡ as_argument k v)) × AreJust ks xs

just_beside : (ks ls : List Kind) (xs ys : List Argument) → AreJust ks xs → AreJust ls ys → AreJust (ks ++ ls) (xs ++ ys)
just_beside [] ls [] ys a b = b
just_beside [] ls (x ∷ xs) ys a b = absurd a
just_beside (k ∷ ks) ls [] ys a b = absurd a
just_beside (k ∷ ks) ls (x ∷ xs) ys a b = (a.0, just_beside ks ls xs ys a.1 b)

just_tokens : (ks : List Kind) (xs : List Argument) → AreJust ks xs → AreTokensOf ks xs
just_tokens [] [] a k x e = cc
just_tokens [] (y ∷ xs) a k x e = absurd a
just_tokens (t ∷ ks) [] a k x e = absurd a
just_tokens (t ∷ ks) (y ∷ xs) a zero x e = (t, refl, a.0.0, sym (same_Some y x e) ∙ a.0.1)
just_tokens (t ∷ ks) (y ∷ xs) a (suc k) x e = just_tokens ks xs a.1 k x e

tokens_leave : (P : Value → Type 0) (W : World) (parts : NewArguments) (place : Place) (k : List Argument → Demands Instance Value) → ((ts : List Argument) → AreJust (token_kinds parts) ts → Leaves P (k ts)) → Leaves P (with_tokens W parts place k)
tokens_leave P W new_end place k h = h [] tt
tokens_leave P W (new_token t e rest) place k h = leaves_next P (meaning_of W e place) _ (λ v. tokens_leave P W rest place _ (λ ts are. h (as_argument t v ∷ ts) ((v, refl), are)))
tokens_leave P W (new_child c parts rest) place k h =
    tokens_leave P W parts place _ (λ ts are. tokens_leave P W rest place _ (λ us more. h (ts ++ us) (just_beside (token_kinds parts) (token_kinds rest) ts us are more)))

either_leaves : {I V : Type 0} (P : V → Type 0) (b : Bool) (c d : Demands I V) → Leaves P c → Leaves P d → Leaves P (cond b c d)
either_leaves P true c d g f = g
either_leaves P false c d g f = f

gathered_leave : (P : Value → Type 0) (W : World) (m : Method) (k : Kind) (r : Reference) (so_far : Value) (os : List Offer) → P so_far → ((v w : Value) → P (combine m k v w)) → Leaves P (gathered W m k r so_far os)
gathered_leave P W m k r so_far [] h more = h
gathered_leave P W m k r so_far (o ∷ os) h more =
    let passed = gathered_leave P W m k r so_far os h more in
    leaves_next P (meaning_of W o.contribution.condition (offer_place o)) _ (λ b.
    either_leaves P (truth b) _ _
    (leaves_next P (meaning_of W o.contribution.receiver (offer_place o)) _ (λ x.
    either_leaves P (same_reference (node x) r) _ _ (leaves_next P (meaning_of W o.contribution.value (offer_place o)) _ (λ v. gathered_leave P W m k r (combine m k so_far v) os (more so_far v) more)) passed))
    passed)

module _ (p : Program) (good : IsProgram p) where
  -- an equation of an inherited attribute is no `new`
  plain_sort : (N : Names) (s : Sort) (k : Kind) (e : Expression) → is_inherited s ≡ true → IsBody N s k e → making_in e ≡ None
  plain_sort N Syn k e inherited body = cc
  plain_sort N Inh k e inherited body = no_making body.typed
  plain_sort N Nta k e inherited body = cc
  plain_sort N Coll k e inherited body = cc

  -- the site of an instance has the root of the tree of the instance, and is a `new` where the instance makes one
  pub record IsSiteOf (i : Instance) (s : Site) : Type 0 where
    pub root : s.root ≡ made_by i 0
    pub makes : (m : Making) → making_in s.body ≡ Some m → making_for p i ≡ Some m

  inherited_own : (a : ℕ) (n : NodeName) (xs : List Argument) → IsNode p n → (s : Site) → inherited_site p a xs (made_by (Attribute a (At n) xs) 0) n ≡ Some s → IsSiteOf (Attribute a (At n) xs) s
  inherited_own a n xs there s e =
      let up = inherited_above p good a xs (made_by (Attribute a (At n) xs) 0) n there s e in
      let q = up.found in
      let allowed = each_of (IsEquation p.grammar p.rules.attributes) p.rules.equations up.number q.equation good.rules.equations q.is in
      let inherited = covers_inherited p.grammar q.equation.target.class up.via allowed.attribute q.equation.target.reach q.reach allowed.gives in
      let none = plain_sort (names_for p.grammar p.rules.attributes q.equation.target.class q.equation.target.reach allowed.attribute.params) allowed.attribute.sort allowed.attribute.kind q.equation.body inherited allowed.body in
      subst (IsSiteOf (Attribute a (At n) xs)) up.is (record { root = refl; makes = λ m is. absurd (let wrong : None ≡ Some m = sym none ∙ is in cc) })

  synthesized_own : (a : ℕ) (n : NodeName) (xs : List Argument) (s : Site) → synthesized_site p a n xs ≡ Some s → IsSiteOf (Attribute a (At n) xs) s
  synthesized_own a n xs s e =
      let found = some_of (site_at p a n xs) (option_and_then (equation_for p a) (class_at p n)) s e in
      subst (IsSiteOf (Attribute a (At n) xs)) found.2 (record { root = refl; makes = λ m is. of (class_at p n) refl found.0 found.1 m is })
    where
      of : (c : Option ClassId) → class_at p n ≡ c → (q : Equation) → option_and_then (equation_for p a) (class_at p n) ≡ Some q → (m : Making) → making_in q.body ≡ Some m → making_of p a (At n) ≡ Some m
      of None none q f m is = absurd (let wrong : None ≡ Some q = sym (ap (option_and_then (equation_for p a)) none) ∙ f in cc)
      of (Some c) some q f m is =
          let here : equation_for p a c ≡ Some q = sym (ap (option_and_then (equation_for p a)) some) ∙ f in
          ap (option_and_then (making_at p a)) some ∙ ap (option_and_then (λ (x : Equation). making_in x.body)) here ∙ is

  pub site_own : (i : Instance) → IsInstance p i → (s : Site) → site_of p i ≡ Some s → IsSiteOf i s
  site_own i (of_attribute {a = a} {n = n} {xs = xs} d e h are) s is =
      elim (inherits (declared_of p a)) as (λ b. cond b (inherited_site p a xs (made_by (Attribute a (At n) xs) 0) n) (synthesized_site p a n xs) ≡ Some s → IsSiteOf (Attribute a (At n) xs) s) [
        | true ↦ λ f. inherited_own a n xs h.there s f
        | false ↦ λ f. synthesized_own a n xs s f
      ] is
  site_own i (of_query {q = q} e o) s is =
      let found = some_of _ (slice_get p.queries q) s is in
      let none = (trees_fit p good).queries q found.0 found.1 in
      subst (IsSiteOf (Query q)) found.2 (record { root = refl; makes = λ m f. absurd (let wrong : None ≡ Some m = sym none ∙ f in cc) })

  body_leaves : (i : Instance) (s : Site) (o : Option Making) → making_in s.body ≡ o → IsSiteOf i s → Leaves (IsOwn p i) (body_demands (world_of p) s o)
  body_leaves i s None is own = leaves_next (IsOwn p i) (meaning_of (world_of p) s.body s.place) _ (λ v. read_own p i s.kind v)
  body_leaves i s (Some m) is own =
      tokens_leave (IsOwn p i) (world_of p) m.arguments s.place _ (λ ts are. tree_own p i s.kind s.root ts (record { making = m; makes = own.makes m is; root = own.root; tokens = just_tokens (token_kinds m.arguments) ts are }))

  -- what the equation of an instance comes to
  pub leaves_own : (i : Instance) → IsInstance p i → Leaves (IsOwn p i) ((equations_of p).equation i)
  leaves_own i there = of (collection_of p i) refl
    where
      at_site : (o : Option Site) → site_of p i ≡ o → Leaves (IsOwn p i) (site_demands (world_of p) o)
      at_site None e = tt
      at_site (Some s) e = body_leaves i s (making_in s.body) refl (site_own i there s e)

      of : (o : Option Collection) → collection_of p i ≡ o → Leaves (IsOwn p i) ((equations_of p).equation i)
      of None e = subst (Leaves (IsOwn p i)) (sym (demanded_at_site p i e)) (at_site (site_of p i) refl)
      of (Some c) e = subst (Leaves (IsOwn p i)) (sym (demanded_of_collection p i c e)) (gathered_leave (IsOwn p i) (world_of p) c.method c.kind (At c.node) (fresh c.method c.kind) c.offers (fresh_own p i c.method c.kind) (combined_own p i c.method c.kind))

  bottom_own : (i : Instance) → IsOwn p i ((equations_of p).bottom i)
  unfolding equations_of
  bottom_own i = default_own p i (kind_in p i)

  -- so is what rounds over instances give
  module _ (J : List Instance) (all : (i : Instance) → is_in (equations_of p).same J i ≡ true → IsInstance p i) where
    pub inner_own : (S : Instance → Option Value) (n : ℕ) (i : Instance) (v : Value) → inner_rounds (equations_of p) J S n i ≡ Some v → IsOwn p i v
    inner_own S zero i v e = subst (IsOwn p i) (inner_first (equations_of p) J S i v e).1 (bottom_own i)
    inner_own S (suc n) i v e = ends_leaf (IsOwn p i) (leaves_own i (all i (inner_in (equations_of p) J S (suc n) i v e))) (inner_ends (equations_of p) J S n i v e).1

    pub outer_own : (ns : List ℕ) (i : Instance) (v : Value) → outer_rounds (equations_of p) J ns i ≡ Some v → IsOwn p i v
    outer_own [] i v e = cc
    outer_own (n ∷ ns) i v e = elim (came (equations_of p) J n ns i v e) [
      | before h ↦ outer_own ns i v h
      | undeclared c m ds d ↦ ends_leaf (IsOwn p i) (leaves_own i (all i m)) d
      | circular c h ↦ inner_own (outer_rounds (equations_of p) J ns) n i v h
    ]

    -- and beside what is settled
    pub over_own : (S : Instance → Option Value) → ((i : Instance) (v : Value) → S i ≡ Some v → IsOwn p i v) → (n : ℕ) (i : Instance) (v : Value) → over S (inner_rounds (equations_of p) J S n) i ≡ Some v → IsOwn p i v
    over_own S own n i v e = elim (or_else_some (S i) (inner_rounds (equations_of p) J S n i) v e) [
      | inl a ↦ own i v a
      | inr b ↦ inner_own S n i v b.1
    ]

-- each that is in a list of instances is one
pub in_all : (p : Program) (J : List Instance) → All (IsInstance p) J → (i : Instance) → is_in same_instance J i ≡ true → IsInstance p i
in_all p [] all i e = cc
in_all p (j ∷ J) all i e =
    elim (same_instance i j) as (λ b. same_instance i j ≡ b → IsInstance p i) [
      | true ↦ λ same. subst (IsInstance p) (sym (same_instance_is i j same)) (All-head (IsInstance p) j J all)
      | false ↦ λ other. in_all p J (All-tail (IsInstance p) j J all) i (sym (ap (λ b. b || is_in same_instance J i) other) ∙ e)
    ] refl
