-- The trees that higher-order attributes make at nodes of a program, and the nodes of these trees.
use Rattle.std.proofs.Common.{◌≡◌, ℕ, zero, suc, ◌<◌, true, List, [], ◌∷◌, map, Option, Some, None, get_or, length, slice_get, refl, sym, ap, subst, ◌∙◌, arith}
use Rattle.std.specs.Option.{option_and_then, option_map}
use Rattle.std.proofs.lemmas.Option.{slice_get-get_or, slice_get_within}
use Rattle.superclasses.specs.Superclasses.{is_sub as is_below}
use Rattle.ast_grammar.specs.declared.grammar.ClassId.{ClassId}
use Rattle.ast_grammar.specs.Grammar.{Component, component_at, is_sub}
use Rattle.ast_grammar.proofs.Inherited.{inherited_component}
use Rattle.attr_rules.specs.declared.dispatch.Reach.{Reach}
use Rattle.attr_rules.specs.declared.dispatch.Reach.TheVariants.{Own, Component as AtComponent, Created, Children}
use Rattle.attr_rules.specs.declared.kinds.Attr.{Attr}
use Rattle.attr_rules.specs.declared.kinds.Kind.{Kind}
use Rattle.attr_rules.specs.declared.kinds.Sort.{Sort}
use Rattle.attr_rules.specs.declared.kinds.Sort.TheVariants.{Syn, Inh, Nta, Coll}
use Rattle.attr_rules.specs.Expression.{Expression, New}
use Rattle.attr_rules.specs.Rules.{Equation, IsBody, IsCreated, IsEquation, Rises, class_made, created_class, declared_at, equation_number, has_own_equations, is_higher_order, names_for, root_made, same_reach, target_in}
use Rattle.attr_rules.specs.Types.{fits, of_class, parameter_kinds}
use Rattle.attr_rules.specs.Typing.{IsConcrete, Makes, Names}
use Rattle.tree_arena.specs.Nodes.{Node as TreeNode, child_in, class_in, parent_in}
use Rattle.equation_law.specs.Checked.{AreArguments, AreInRow, IsArgument, IsNode, IsNodeAt, IsNodeBelow, IsNodeOf, IsProgram, IsValue, MayBeBelow, at, int, node, nodes, null, text, texts, tree, truth}
use Rattle.equation_law.specs.Created.{Making, making_in, term_of, tree_or_none}
use Rattle.equation_law.specs.Names.{Argument, At, Made, NodeName, Null, OfInt, OfNode, OfText, OfTruth, Reference, Row, Source, end_row, list_of, row, row_of}
use Rattle.equation_law.specs.Program.{Program, class_at, declared_of, equation_for, making_at, making_of, tree_made}
use Rattle.equation_law.specs.Values.{Int, Node, Nodes, Text, Texts, Tree, Truth, Value, argument_value}
use Rattle.equation_law.proofs.Above.{each_of, nearest_above, target_found, there_is}
use Rattle.equation_law.proofs.Lists.{some_of}
use Rattle.equation_law.proofs.Preordered.{AreGrown, IsPlaced, grown_child, grown_concrete, grown_placed, making_grown, node_concrete, term_falls}

-- where there is no node, none has a parent
nothing_falls : (n u : ℕ) → parent_in [] n ≡ Some u → u < n
nothing_falls zero u e = cc
nothing_falls (suc n) u e = cc

module _ (p : Program) where
  -- null, or a node of a class, and the same as a reference
  may_be_below : (c : ClassId) (r : Reference) → IsNodeOf p c r → MayBeBelow p c r
  may_be_below c _ null = tt
  may_be_below c _ (at h) = (h.there, (h.class, h.of, h.below))

  reference_of : (c : ClassId) (r : Reference) → MayBeBelow p c r → IsNodeOf p c r
  reference_of c Null h = null
  reference_of c (At n) h = at (record { there = h.0; class = h.1.0; of = h.1.1; below = h.1.2 })

  -- what is a value of a type is an argument of it, where it is one
  abbrev Argues : Kind → Value → Type 0
  Argues k (Truth b) = IsArgument p k (OfTruth b)
  Argues k (Int z) = IsArgument p k (OfInt z)
  Argues k (Text t) = IsArgument p k (OfText t)
  Argues k (Node r) = IsArgument p k (OfNode r)
  Argues k (Texts s) = Unit {0}
  Argues k (Nodes s) = Unit {0}
  Argues k (Tree r ts) = Unit {0}

  argues : (k : Kind) (v : Value) → IsValue p k v → Argues k v
  argues _ _ (truth b) = refl
  argues _ _ (int z e) = (refl, e)
  argues _ _ (text t e) = (refl, e)
  argues _ _ (node c r h) = (c, refl, may_be_below c r h)
  argues _ _ (texts s h) = tt
  argues _ _ (tree c r ts h) = tt
  argues _ _ (nodes c s h) = tt

  -- an argument of a type, and the value of its type
  pub value_argument : (k : Kind) (x : Argument) → IsValue p k (argument_value x) → IsArgument p k x
  value_argument k (OfTruth b) h = argues k (Truth b) h
  value_argument k (OfInt z) h = argues k (Int z) h
  value_argument k (OfText t) h = argues k (Text t) h
  value_argument k (OfNode r) h = argues k (Node r) h

  pub argument_typed : (k : Kind) (x : Argument) → IsArgument p k x → IsValue p k (argument_value x)
  argument_typed k (OfTruth b) e = subst (λ (t : Kind). IsValue p t (Truth b)) (sym e) (truth b)
  argument_typed k (OfInt z) h = subst (λ (t : Kind). IsValue p t (Int z)) (sym h.0) (int z h.1)
  argument_typed k (OfText t) h = subst (λ (u : Kind). IsValue p u (Text t)) (sym h.0) (text t h.1)
  argument_typed k (OfNode r) h = subst (λ (t : Kind). IsValue p t (Node r)) (sym h.1) (node h.0 r (reference_of h.0 r h.2))

  -- arguments in a row
  pub are_in_row : (ks : List Kind) (xs : List Argument) → AreArguments p ks xs → AreInRow p ks (row_of xs)
  are_in_row [] [] h = tt
  are_in_row [] (x ∷ xs) h = absurd h
  are_in_row (k ∷ ks) [] h = absurd h
  are_in_row (k ∷ ks) (x ∷ xs) h = (value_argument k x h.0, are_in_row ks xs h.1)

  pub are_arguments : (ks : List Kind) (xs : Row) → AreInRow p ks xs → AreArguments p ks (list_of xs)
  are_arguments [] end_row h = tt
  are_arguments [] (row x xs) h = absurd h
  are_arguments (k ∷ ks) end_row h = absurd h
  are_arguments (k ∷ ks) (row x xs) h = (argument_typed k x h.0, are_arguments ks xs h.1)

  -- a node of a class, and the same as a reference
  pub is_below_class : (n : NodeName) (c : ClassId) → IsNodeAt p n c → IsNodeBelow p c (At n)
  is_below_class n c h = (h.there, (h.class, h.of, h.below))

  pub at_class_below : (n : NodeName) (c : ClassId) → IsNodeBelow p c (At n) → IsNodeAt p n c
  at_class_below n c h = record { there = h.0; class = h.1.0; of = h.1.1; below = h.1.2 }

  -- in the tree that an attribute makes at a node each parent has a smaller number
  pub made_falls : (a : ℕ) (r : Reference) (n u : ℕ) → parent_in (tree_made p a r) n ≡ Some u → u < n
  made_falls a r n u e = falls (making_of p a r) e
    where
      falls : (o : Option Making) → parent_in (tree_or_none o) n ≡ Some u → u < n
      falls None f = nothing_falls n u f
      falls (Some m) f = term_falls (term_of m) n u f

-- nodes of the class itself
reach_own : (r : Reach) → same_reach r Own ≡ true → r ≡ Own
reach_own Own e = refl
reach_own (AtComponent k) e = cc
reach_own (Created b) e = cc
reach_own Children e = cc

-- the right side for a higher-order attribute
created_body : (N : Names) (s : Sort) (k : Kind) (e : Expression) → is_higher_order s ≡ true → IsBody N s k e → IsCreated N k e
created_body N Syn k e f b = absurd (cc)
created_body N Inh k e f b = absurd (cc)
created_body N Nta k e f b = b
created_body N Coll k e f b = absurd (cc)

-- which has equations of its own
created_own : (s : Sort) → is_higher_order s ≡ true → has_own_equations s ≡ true
created_own Syn e = cc
created_own Inh e = cc
created_own Nta e = refl
created_own Coll e = cc

module _ (p : Program) (good : IsProgram p) where
  -- The equation of an attribute at nodes of a class is that of the class or of one above it.
  pub record IsFor (a : ℕ) (c : ClassId) : Type 0 where
    pub equation : Equation
    pub is : equation_for p a c ≡ Some equation
    pub allowed : IsEquation p.grammar p.rules.attributes equation
    pub rises : Rises p.rules.attributes equation
    pub attribute : equation.target.attribute.0 ≡ a
    pub own : equation.target.reach ≡ Own
    pub above : is_sub p.grammar c.0 equation.target.class.0 ≡ true

  -- there is one for each attribute that a concrete class has
  pub equation_is : (a : ℕ) (c : ClassId) (d : Attr) → IsConcrete p.grammar c.0 → declared_of p a ≡ Some d → has_own_equations d.sort ≡ true → is_sub p.grammar c.0 d.class.0 ≡ true → IsFor a c
  equation_is a c d concrete e s b =
      let number = there_is (equation_number p.rules c a) (good.rules.complete c a d concrete e s b) in
      let near = nearest_above p.rules.superclasses (map target_in p.rules.equations) c.0 a number.0 number.1 in
      let own = target_found p.rules.equations near.0 Own a number.0 near.2 in
      record {
        equation = own.0;
        is = ap (option_and_then (slice_get p.rules.equations)) number.1 ∙ own.1;
        allowed = each_of (IsEquation p.grammar p.rules.attributes) p.rules.equations number.0 own.0 good.rules.equations own.1;
        rises = each_of (Rises p.rules.attributes) p.rules.equations number.0 own.0 good.rising own.1;
        attribute = own.3;
        own = reach_own own.0.target.reach own.4;
        above = subst (λ (s : List (Option ℕ)). is_below s c.0 own.0.target.class.0 ≡ true) good.rules.superclasses (subst (λ (x : ℕ). is_below p.rules.superclasses c.0 x ≡ true) (sym own.2) near.1);
      }

  -- A higher-order attribute at a node makes a tree, by the equation that holds there.
  pub record IsMaking (a : ℕ) (d : Attr) (r : Reference) : Type 0 where
    pub class : ClassId
    pub found : IsFor a class
    pub making : Making
    pub is : making_of p a r ≡ Some making
    pub body : found.equation.body ≡ New making.class making.arguments
    pub makes : Makes (names_for p.grammar p.rules.attributes found.equation.target.class found.equation.target.reach d.params) making.class making.arguments
    pub fit : fits p.grammar (of_class making.class) d.kind ≡ true

  -- by an equation that is a `new`
  making_from : (a : ℕ) (d : Attr) (n : NodeName) (c : ClassId) → class_at p n ≡ Some c → (q : IsFor a c) → IsCreated (names_for p.grammar p.rules.attributes q.equation.target.class q.equation.target.reach d.params) d.kind q.equation.body → (m : IsMaking a d (At n)) × (m.class ≡ c)
  making_from a d n c of q body = (
    record {
      class = c;
      found = q;
      making = record { class = body.class; arguments = body.arguments };
      is = ap (option_and_then (making_at p a)) of ∙ ap (option_and_then (λ (x : Equation). making_in x.body)) q.is ∙ ap making_in body.is;
      body = body.is;
      makes = body.makes;
      fit = body.fit;
    },
    refl,
  )

  -- at a node of a concrete class that has the attribute
  making_by : (a : ℕ) (d : Attr) (n : NodeName) (c : ClassId) → declared_of p a ≡ Some d → is_higher_order d.sort ≡ true → class_at p n ≡ Some c → IsConcrete p.grammar c.0 → is_sub p.grammar c.0 d.class.0 ≡ true → (m : IsMaking a d (At n)) × (m.class ≡ c)
  making_by a d n c e s of concrete b = from (equation_is a c d concrete e (created_own d.sort s) b)
    where
      from : IsFor a c → (m : IsMaking a d (At n)) × (m.class ≡ c)
      from found =
          let q = found.equation in
          let N : Attr → Names = λ x. names_for p.grammar p.rules.attributes q.target.class q.target.reach x.params in
          let declared : declared_of p a ≡ Some found.allowed.attribute = ap (declared_at p.rules.attributes) (sym found.attribute) ∙ found.allowed.declared in
          let same : found.allowed.attribute ≡ d = cc in
          making_from a d n c of found (created_body (N d) d.sort d.kind q.body s (subst (λ (x : Attr). IsBody (N x) x.sort x.kind q.body) same found.allowed.body))

  -- the nodes of the tree hang where they should
  made_grown : (a : ℕ) (d : Attr) (r : Reference) → IsMaking a d r → AreGrown p.grammar (tree_made p a r)
  made_grown a d r m =
      let N = names_for p.grammar p.rules.attributes m.found.equation.target.class m.found.equation.target.reach d.params in
      subst (λ (o : Option Making). AreGrown p.grammar (tree_or_none o)) (sym m.is) (making_grown p.grammar N m.making m.makes refl)

  -- a node has a class, which is not abstract
  pub node_class : (n : NodeName) → IsNode p n → (c : ClassId) × (class_at p n ≡ Some c) × IsConcrete p.grammar c.0
  node_class (Source k) h =
      let x = get_or p.tree k none in
      let is : class_at p (Source k) ≡ Some x.class = ap (option_map (λ (y : TreeNode). y.class)) (slice_get-get_or p.tree k none h) in
      (x.class, is, node_concrete p.grammar (length p.texts) p.tree good.tree k x.class is)
    where
      none : TreeNode
      none = record { class = record { 0 = 0 }; parent = 0; component = 0; tokens = [] }
  node_class (Made a Null xs q) h = absurd h.3
  node_class (Made a (At n) xs q) h =
      let stands = h.3.1 in
      let owner = node_class n h.3.0 in
      let one : owner.0 ≡ stands.0 = let e = owner.1 in let f = stands.1 in cc in
      let m = making_by a h.0 n stands.0 h.1 h.2 stands.1 (subst (λ (c : ClassId). IsConcrete p.grammar c.0) one owner.2) stands.2 in
      let nodes = tree_made p a (At n) in
      let x = get_or nodes q none in
      let is : class_in nodes q ≡ Some x.class = ap (option_map (λ (y : TreeNode). y.class)) (slice_get-get_or nodes q none h.5) in
      (x.class, is, grown_concrete p.grammar nodes (made_grown a h.0 (At n) m.0) q x.class is)
    where
      none : TreeNode
      none = record { class = record { 0 = 0 }; parent = 0; component = 0; tokens = [] }

  pub making_is : (a : ℕ) (d : Attr) (n : NodeName) → declared_of p a ≡ Some d → is_higher_order d.sort ≡ true → IsNodeAt p n d.class → IsMaking a d (At n)
  making_is a d n e s h =
      let stands = node_class n h.there in
      let same : stands.0 ≡ h.class = let f = stands.1 in let g = h.of in cc in
      (making_by a d n h.class e s h.of (subst (λ (c : ClassId). IsConcrete p.grammar c.0) same stands.2) h.below).0

  -- what made a node that was made
  pub maker_is : (a : ℕ) (r : Reference) (xs : Row) (q : ℕ) → IsNode p (Made a r xs q) → (d : Attr) × (declared_of p a ≡ Some d) × (is_higher_order d.sort ≡ true) × IsMaking a d r
  maker_is a Null xs q h = absurd h.3
  maker_is a (At n) xs q h = (h.0, h.1, h.2, making_is a h.0 n h.1 h.2 (at_class_below p n h.0.class h.3))

  pub made_tree : (a : ℕ) (r : Reference) (xs : Row) (q : ℕ) → IsNode p (Made a r xs q) → AreGrown p.grammar (tree_made p a r)
  made_tree a r xs q h = let m = maker_is a r xs q h in made_grown a m.0 r m.3

  -- the root of a tree that an instance makes
  pub root_there : (a : ℕ) (d : Attr) (n : NodeName) (xs : List Argument) → declared_of p a ≡ Some d → is_higher_order d.sort ≡ true → IsNodeAt p n d.class → AreArguments p (parameter_kinds d.params) xs → IsNode p (Made a (At n) (row_of xs) 0)
  root_there a d n xs e s h are =
      let m = making_is a d n e s h in
      let some : 0 < length (tree_made p a (At n)) = subst (λ (o : Option Making). 0 < length (tree_or_none o)) (sym m.is) (omega arith) in
      (d, e, s, is_below_class p n d.class h, are_in_row p (parameter_kinds d.params) xs are, some)

  pub root_class : (a : ℕ) (r : Reference) (xs : Row) (making : Making) → making_of p a r ≡ Some making → class_at p (Made a r xs 0) ≡ Some making.class
  root_class a r xs making is = ap (λ (o : Option Making). class_in (tree_or_none o) 0) is

  -- the other nodes of the tree of a node
  pub node_beside : (a : ℕ) (r : Reference) (xs : Row) (q m : ℕ) → IsNode p (Made a r xs q) → m < length (tree_made p a r) → IsNode p (Made a r xs m)
  node_beside a r xs q m h l = (h.0, h.1, h.2, h.3, h.4, l)

  -- each hangs at a component of its parent's class, except the root
  pub made_placed : (a : ℕ) (r : Reference) (xs : Row) (q : ℕ) → IsNode p (Made a r xs q) → (n : ℕ) (x : TreeNode) → slice_get (tree_made p a r) (suc n) ≡ Some x → IsPlaced p.grammar (class_in (tree_made p a r)) x.class x.parent x.component
  made_placed a r xs q h n x e = grown_placed p.grammar (tree_made p a r) (made_tree a r xs q h) n x e

  -- the root of the tree of a node is of the class that the equation at the class of its owner makes
  pub made_root : (a : ℕ) (n : NodeName) (xs : Row) (q : ℕ) (c : ClassId) → IsNode p (Made a (At n) xs q) → class_at p n ≡ Some c → (t : ClassId) × (class_at p (Made a (At n) xs 0) ≡ Some t) × (root_made p.rules c a ≡ Some t) × IsConcrete p.grammar t.0
  made_root a n xs q c h of =
      let stands = h.3.1 in
      let owner = node_class n h.3.0 in
      let same : stands.0 ≡ c = let e = stands.1 in cc in
      let one : owner.0 ≡ c = let e = owner.1 in cc in
      let by = making_by a h.0 n c h.1 h.2 of (subst (λ (x : ClassId). IsConcrete p.grammar x.0) one owner.2) (subst (λ (x : ClassId). is_sub p.grammar x.0 h.0.class.0 ≡ true) same stands.2) in
      from h.0 by.0 by.1
    where
      from : (d : Attr) (m : IsMaking a d (At n)) → m.class ≡ c → (t : ClassId) × (class_at p (Made a (At n) xs 0) ≡ Some t) × (root_made p.rules c a ≡ Some t) × IsConcrete p.grammar t.0
      from d m same =
          let made : root_made p.rules m.class a ≡ Some m.making.class = ap (option_and_then class_made) m.found.is ∙ ap created_class m.body in
          (m.making.class, root_class a (At n) xs m.making m.is, subst (λ (x : ClassId). root_made p.rules x a ≡ Some m.making.class) same made, m.makes.concrete)

  -- what hangs at a component of a node that was made is of the component's class or of a subclass
  pub child_made : (a : ℕ) (r : Reference) (xs : Row) (q k m : ℕ) (c : ClassId) (x : Component) → IsNodeAt p (Made a r xs q) c → component_at p.grammar c.0 k ≡ Some x → child_in (tree_made p a r) q k 0 ≡ Some m → IsNodeAt p (Made a r xs m) x.class
  child_made a r xs q k m c x h e f =
      let nodes = tree_made p a r in
      let component = inherited_component p.grammar good.grammar h.class.0 c.0 k x h.below e in
      let child = grown_child p.grammar nodes (made_tree a r xs q h.there) q k 0 m h.class x h.of component f in
      let there = some_of (λ (y : TreeNode). y.class) (slice_get nodes m) child.0 child.1 in
      record { there = node_beside a r xs q m h.there (slice_get_within nodes m there.0 there.1); class = child.0; of = child.1; below = child.2 }
