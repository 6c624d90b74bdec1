-- The nodes that a reader knows in values, by the texts and source nodes alone: by these each code of a node stands for a node of its own.
use Rattle.std.proofs.Common.{◌≡◌, ℕ, zero, suc, ◌<◌, ◌≤◌, ◌||◌, ℤ, pos, negsuc, Bool, true, false, cond, List, [], ◌∷◌, ◌++◌, map, Option, Some, None, IfSome, length, slice_get, refl, sym, ap, subst, ◌∙◌, arith, inl, inr}
use Rattle.std.specs.List.{All, list_any}
use Rattle.std.specs.Option.{option_map}
use Rattle.std.specs.Cmp.{tied_itself}
use Rattle.std.specs.Ordering.{eq_by_cmp, is_eq}
use Rattle.std.proofs.lemmas.List.Elements.{All-cons, All-head, All-nil, All-tail}
use Rattle.std.proofs.lemmas.Option.{slice_get_within}
use Rattle.attr_rules.specs.declared.dispatch.Reach.{Reach}
use Rattle.attr_rules.specs.declared.dispatch.Reach.TheVariants.{Own, Component, Created, Children}
use Rattle.attr_rules.specs.declared.expression.Quantifier.TheVariants.{Any, All as Every, First}
use Rattle.attr_rules.specs.declared.expression.Operator.{Operator}
use Rattle.attr_rules.specs.declared.expression.Operator.TheVariants.{Add, Subtract, Multiply, Less, AtMost, Greater, AtLeast, Equal}
use Rattle.attr_rules.specs.declared.expression.SetOperator.{SetOperator}
use Rattle.attr_rules.specs.declared.expression.SetOperator.TheVariants.{Union}
use Rattle.attr_rules.specs.declared.kinds.Kind.{Kind}
use Rattle.attr_rules.specs.declared.kinds.Kind.TheVariants as kinds
use Rattle.attr_rules.specs.Expression.{Expression, Binary, Contains, Count, Element, Empty, Negate, Not, OrBoth, Sets, Single, Size, Source as SourceNode, This, Variable}
use Rattle.tree_arena.specs.Nodes.{Node as TreeNode, child_in, most_nodes, token_in}
use Rattle.solutions.specs.Asking.{Demands, Gives}
use Rattle.solutions.proofs.Runs.{or_left, or_right}
use Rattle.equation_law.specs.declared.coding.Args.{Args}
use Rattle.equation_law.specs.declared.coding.EqSite.{EqSite}
use Rattle.equation_law.specs.declared.coding.Single.{Single as CodedSingle}
use Rattle.equation_law.specs.declared.coding.Single.TheVariants as singles
use Rattle.equation_law.specs.declared.coding.Value.{Value as CodedValue}
use Rattle.equation_law.specs.declared.coding.Value.TheVariants as coded
use Rattle.equation_law.specs.Codes.{ByEachNaming, Naming, arguments_by, codes_in, nodes_by, reference_by, single_by, source_names, value_by, value_coded}
use Rattle.equation_law.specs.Equations.{decoded, source_or_null, world_of}
use Rattle.equation_law.specs.Meaning.{Place, element_at, named, operate, token_at}
use Rattle.equation_law.specs.Names.{At, Instance, Made, Null, OfNode, Reference, Source, node_cmp}
use Rattle.equation_law.specs.Program.{Program, attribute_parameters, text_of}
use Rattle.equation_law.specs.Reading.{AreKnownCodes, IsKnownCode, IsSound, KnowsValue, Told}
use Rattle.equation_law.specs.Sets.{has, no_elements}
use Rattle.equation_law.specs.Values.{Int, Node, Nodes, Text, Texts, Tree, Truth, Value, argument_value, as_argument, as_kind, default_of, node, nodes, set_operate, single, truth}
use Rattle.equation_law.proofs.Codes.{one_source, sources_named}
use Rattle.equation_law.proofs.Names.{is_equal, node_anti}
use Rattle.equation_law.proofs.Orders.{node_total}
use Rattle.equation_law.proofs.Sets.{combined_from, has-set_of, none_has, only_one}
use Rattle.set_values.specs.Ordered.{KnowsSingle}
use Rattle.inherited_walk.specs.Sites.{KnowsBound, KnowsSite, outer_values, reach_at, site_place}
use Rattle.expr_eval.specs.declared.saved.Making.{Making}
use Rattle.expr_eval.specs.declared.saved.Making.TheVariants.{Joins, Tests}
use Rattle.expr_eval.specs.declared.evaluation.Context.{Context}
use Rattle.expr_eval.specs.Evaluating.{KnowsContext, place_in}
use Rattle.expr_eval.specs.Parts.{leaf_value, made_of_one, made_of_two}
use Rattle.expr_eval.specs.Saved.{begun, made}
use Rattle.expr_eval.proofs.Hanging.{child_sourced}

-- a source node is one of those of which the codes are known
abbrev pub InReference : (ℕ → Type 0) → Reference → Type 0
InReference K Null = Unit {0}
InReference K (At (Source k)) = K (suc k)
InReference K (At (Made a o xs q)) = Unit {0}

-- so are the source nodes in a value
abbrev pub InValue : (ℕ → Type 0) → Value → Type 0
InValue K (Truth b) = Unit {0}
InValue K (Int z) = Unit {0}
InValue K (Text t) = Unit {0}
InValue K (Node o) = InReference K o
InValue K (Texts s) = Unit {0}
InValue K (Nodes s) = (k : ℕ) → has s (Source k) ≡ true → K (suc k)
InValue K (Tree o ts) = InReference K o

-- and in each of some values
abbrev pub InValues : (ℕ → Type 0) → List Value → Type 0
InValues K [] = Unit {0}
InValues K (v ∷ vs) = InValue K v × InValues K vs

-- what is made of values has no other nodes
module _ (K : ℕ → Type 0) where
  none_in : InValue K (Nodes no_elements)
  none_in k e = absurd (none_has node_cmp (Source k) e)

  pub node_in : (v : Value) → InValue K v → InReference K (node v)
  node_in (Truth b) h = tt
  node_in (Int z) h = tt
  node_in (Text t) h = tt
  node_in (Node o) h = h
  node_in (Texts s) h = tt
  node_in (Nodes s) h = tt
  node_in (Tree o ts) h = h

  nodes_in : (v : Value) → InValue K v → InValue K (Nodes (nodes v))
  nodes_in (Truth b) h = none_in
  nodes_in (Int z) h = none_in
  nodes_in (Text t) h = none_in
  nodes_in (Node o) h = none_in
  nodes_in (Texts s) h = none_in
  nodes_in (Nodes s) h = h
  nodes_in (Tree o ts) h = none_in

  pub default_in : (t : Kind) → InValue K (default_of t)
  default_in kinds.Truth = tt
  default_in kinds.Int = tt
  default_in kinds.Text = tt
  default_in (kinds.Node c) = tt
  default_in kinds.Texts = tt
  default_in (kinds.Nodes c) = none_in

  pub kind_in : (t : Kind) (v : Value) → InValue K v → InValue K (as_kind t v)
  kind_in kinds.Truth v h = tt
  kind_in kinds.Int v h = tt
  kind_in kinds.Text v h = tt
  kind_in (kinds.Node c) v h = node_in v h
  kind_in kinds.Texts v h = tt
  kind_in (kinds.Nodes c) v h = nodes_in v h

  pub decoded_in : (texts : ℕ → List ℕ) (t : Kind) (o : Option ℕ) → InValue K (decoded texts t o)
  decoded_in texts t None = default_in t
  decoded_in texts kinds.Truth (Some c) = tt
  decoded_in texts kinds.Int (Some c) = tt
  decoded_in texts kinds.Text (Some c) = tt
  decoded_in texts (kinds.Node d) (Some c) = tt
  decoded_in texts kinds.Texts (Some c) = tt
  decoded_in texts (kinds.Nodes d) (Some c) = none_in

  set_in : (o : SetOperator) (t : Kind) (v w : Value) → InValue K v → InValue K w → InValue K (set_operate o t v w)
  set_in o kinds.Truth v w x y = tt
  set_in o kinds.Int v w x y = tt
  set_in o kinds.Text v w x y = tt
  set_in o (kinds.Node c) v w x y = tt
  set_in o kinds.Texts v w x y = tt
  set_in o (kinds.Nodes c) v w x y = λ k e. elim (combined_from node_total node_anti o (nodes v) (nodes w) (Source k) e) [ inl a ↦ nodes_in v x k a | inr b ↦ nodes_in w y k b ]

  alone_in : (v : Value) → InValue K v → InValue K (single v)
  alone_in (Truth b) h = none_in
  alone_in (Int z) h = none_in
  alone_in (Text t) h = tt
  alone_in (Node Null) h = none_in
  alone_in (Node (At (Source j))) h = λ k e. subst (λ i. K (suc i)) (sym (one_source k j (only_one {R = node_cmp} node_total node_anti (Source j) (Source k) e))) h
  alone_in (Node (At (Made a o xs q))) h = λ k e. absurd (let same = only_one {R = node_cmp} node_total node_anti (Made a o xs q) (Source k) e in cc)
  alone_in (Texts s) h = none_in
  alone_in (Nodes s) h = none_in
  alone_in (Tree o ts) h = none_in

  operate_in : (o : Operator) (v w : Value) → InValue K (operate o v w)
  operate_in Add v w = tt
  operate_in Subtract v w = tt
  operate_in Multiply v w = tt
  operate_in Less v w = tt
  operate_in AtMost v w = tt
  operate_in Greater v w = tt
  operate_in AtLeast v w = tt
  operate_in Equal v w = tt

  pub named_in : (vs : List Value) (k : ℕ) → InValues K vs → InValue K (named vs k)
  named_in [] k h = tt
  named_in (v ∷ vs) zero h = h.0
  named_in (v ∷ vs) (suc k) h = named_in vs k h.1

  append_in : (vs ws : List Value) → InValues K vs → InValues K ws → InValues K (vs ++ ws)
  append_in [] ws x y = y
  append_in (v ∷ vs) ws x y = (x.0, append_in vs ws x.1 y)

  ints_in : (f : ℕ → ℤ) (cs : List ℕ) → InValues K (map (λ c. Int (f c)) cs)
  ints_in f [] = tt
  ints_in f (c ∷ cs) = (tt, ints_in f cs)

  pub begun_in : (m : Making) → InValue K (begun m)
  begun_in (Tests Any) = tt
  begun_in (Tests Every) = tt
  begun_in (Tests First) = tt
  begun_in (Joins t) = default_in t

  pub made_in : (m : Making) (x v w : Value) → InValue K x → InValue K v → InValue K w → InValue K (made m x v w)
  made_in (Tests Any) x v w a b c = tt
  made_in (Tests Every) x v w a b c = tt
  made_in (Tests First) x v w a b c = elim (truth w) as (λ t. InValue K (cond t x v)) [ true ↦ a | false ↦ b ]
  made_in (Joins t) x v w a b c = set_in Union t v w b c

  pub one_in : (p : Program) (e : Expression) (v : Value) → InValue K v → InValue K (made_of_one (world_of p) e v)
  one_in p (Count k e) v h = tt
  one_in p (Single e) v h = alone_in v h
  one_in p (Size e) v h = tt
  one_in p (Not e) v h = tt
  one_in p (Negate e) v h = tt
  one_in p _ v h = h

given_here : (v w : Value) (c : Demands Instance Value) → c ≡ Gives v → c ≡ Gives w → v ≡ w
given_here v w c d e = let same : Gives v ≡ Gives w = sym d ∙ e in cc

-- What a reader knows, by the texts and source nodes alone.
module _ {S : Type 0} {p : Program} {r : Told S} (sound : IsSound p r) where
  abbrev pub by_sources : Naming
  by_sources = source_names (text_of p)

  pub reference_in : (c : ℕ) → r.knows c → InReference r.knows (reference_by Source c)
  reference_in zero h = tt
  reference_in (suc c) h = h

  pub reference_from : (c : ℕ) → InReference r.knows (reference_by Source c) → r.knows c
  reference_from zero h = sound.sources 0 (omega arith)
  reference_from (suc c) h = h

  -- a source node is one of those of some codes
  abbrev IsListed : List ℕ → ℕ → Type 0
  IsListed cs k = list_any (eq_by_cmp node_cmp (Source k)) (nodes_by Source cs) ≡ true

  listed_in : (cs : List ℕ) → All r.knows cs → (k : ℕ) → IsListed cs k → r.knows (suc k)
  listed_in [] h k e = cc
  listed_in (zero ∷ cs) h k e = listed_in cs (All-tail r.knows zero cs h) k e
  listed_in (suc c ∷ cs) h k e = of (λ f. listed_in cs (All-tail r.knows (suc c) cs h) k f) (eq_by_cmp node_cmp (Source k) (Source c)) refl e
    where
      of : (IsListed cs k → r.knows (suc k)) → (b : Bool) → eq_by_cmp node_cmp (Source k) (Source c) ≡ b → (b || list_any (eq_by_cmp node_cmp (Source k)) (nodes_by Source cs)) ≡ true → r.knows (suc k)
      of later true same f = subst (λ j. r.knows (suc j)) (sym (one_source k c (node_anti (Source k) (Source c) (is_equal _ same)))) (All-head r.knows (suc c) cs h)
      of later false other f = later f

  listed_from : (cs : List ℕ) → ((k : ℕ) → IsListed cs k → r.knows (suc k)) → All r.knows cs
  listed_from [] h = All-nil r.knows
  listed_from (zero ∷ cs) h = All-cons r.knows zero cs (sound.sources 0 (omega arith)) (listed_from cs h)
  listed_from (suc c ∷ cs) h =
      All-cons r.knows (suc c) cs (h c (or_left _ _ (ap is_eq (tied_itself node_total (Source c))))) (listed_from cs (λ k e. h k (or_right (eq_by_cmp node_cmp (Source k) (Source c)) _ e)))

  pub value_in : (v : CodedValue) → KnowsValue r v → InValue r.knows (value_by by_sources v)
  value_in (coded.Truth b) h = tt
  value_in (coded.Int z) h = tt
  value_in (coded.Text n) h = tt
  value_in (coded.Node n) h = reference_in n.0 h
  value_in (coded.Texts cs) h = tt
  value_in (coded.Nodes cs) h = λ k e. listed_in cs h k (sym (has-set_of {R = node_cmp} node_total (nodes_by Source cs) (Source k)) ∙ e)

  value_from : (v : CodedValue) → InValue r.knows (value_by by_sources v) → KnowsValue r v
  value_from (coded.Truth b) h = tt
  value_from (coded.Int z) h = tt
  value_from (coded.Text n) h = tt
  value_from (coded.Node n) h = reference_from n.0 h
  value_from (coded.Texts cs) h = tt
  value_from (coded.Nodes cs) h = listed_from cs (λ k e. h k (has-set_of {R = node_cmp} node_total (nodes_by Source cs) (Source k) ∙ e))

  -- a value that is this by each naming for the program
  pub value_known : (v : CodedValue) {w : Naming → Value} → ByEachNaming p (λ n. value_by n v ≡ w n) → InValue r.knows (w by_sources) → KnowsValue r v
  value_known v e h = value_from v (subst (InValue r.knows) (sym (e by_sources (sources_named p))) h)

  pub single_in : (x : CodedSingle) → KnowsSingle r x → InValue r.knows (single_by by_sources x)
  single_in (singles.Truth b) h = tt
  single_in (singles.Int z) h = tt
  single_in (singles.Text n) h = tt
  single_in (singles.Node m) h = reference_in m.0 h

  single_from : (x : CodedSingle) → InValue r.knows (single_by by_sources x) → KnowsSingle r x
  single_from (singles.Truth b) h = tt
  single_from (singles.Int z) h = tt
  single_from (singles.Text n) h = tt
  single_from (singles.Node m) h = reference_from m.0 h

  pub single_known : (x : CodedSingle) {w : Naming → Value} → ByEachNaming p (λ n. single_by n x ≡ w n) → InValue r.knows (w by_sources) → KnowsSingle r x
  single_known x e h = single_from x (subst (InValue r.knows) (sym (e by_sources (sources_named p))) h)

  pub singles_in : (xs : List CodedSingle) → All (KnowsSingle r) xs → InValues r.knows (map (single_by by_sources) xs)
  singles_in [] h = tt
  singles_in (x ∷ xs) h = (single_in x (All-head (KnowsSingle r) x xs h), singles_in xs (All-tail (KnowsSingle r) x xs h))

  pub singles_from : (xs : List CodedSingle) → InValues r.knows (map (single_by by_sources) xs) → All (KnowsSingle r) xs
  singles_from [] h = All-nil (KnowsSingle r)
  singles_from (x ∷ xs) h = All-cons (KnowsSingle r) x xs (single_from x h.0) (singles_from xs h.1)

  -- the token of a source node
  pub token_known : (v : CodedValue) (t : Kind) (k m : ℕ) → ByEachNaming p (λ n. Gives (value_by n v) ≡ token_at (world_of p) t k (reference_by n.node m)) → KnowsValue r v
  token_known v t k zero e = value_from v (subst (InValue r.knows) (sym (given_here (value_by by_sources v) (default_of t) _ refl (e by_sources (sources_named p)))) (default_in r.knows t))
  token_known v t k (suc m) e = value_from v (subst (InValue r.knows) (sym (given_here (value_by by_sources v) (decoded (text_of p) t (token_in p.tree m k)) _ refl (e by_sources (sources_named p)))) (decoded_in r.knows (text_of p) t (token_in p.tree m k)))

  -- codes of arguments
  code_in : (t : Kind) (c : ℕ) → IsKnownCode r t c → InValue r.knows (argument_value (as_argument t (value_coded by_sources t c)))
  code_in kinds.Truth c h = tt
  code_in kinds.Int c h = tt
  code_in kinds.Text c h = tt
  code_in (kinds.Node d) c h = reference_in c h
  code_in kinds.Texts c h = tt
  code_in (kinds.Nodes d) c h = tt

  arguments_in : (ks : List Kind) (cs : List ℕ) → AreKnownCodes r ks cs → InValues r.knows (map argument_value (arguments_by by_sources ks cs))
  arguments_in [] cs h = tt
  arguments_in (k ∷ ks) [] h = tt
  arguments_in (k ∷ ks) (c ∷ cs) h = (code_in k c h.0, arguments_in ks cs h.1)

  pub code_known : (t : Kind) (c : ℕ) (v : CodedValue) → KnowsValue r v → ByEachNaming p (λ n. as_argument t (value_coded n t c) ≡ as_argument t (value_by n v)) → IsKnownCode r t c
  code_known kinds.Truth c v h e = tt
  code_known kinds.Int c v h e = tt
  code_known kinds.Text c v h e = tt
  code_known (kinds.Node d) c v h e =
      let is : OfNode (reference_by Source c) ≡ OfNode (node (value_by by_sources v)) = e by_sources (sources_named p) in
      let same : reference_by Source c ≡ node (value_by by_sources v) = cc in
      reference_from c (subst (InReference r.knows) (sym same) (node_in r.knows (value_by by_sources v) (value_in v h)))
  code_known kinds.Texts c v h e = tt
  code_known (kinds.Nodes d) c v h e = tt

  -- the names of a site
  outer_in : (reach : Reach) (xs : Args) → KnowsBound p r reach xs → InValues r.knows (outer_values p by_sources reach xs)
  outer_in Own xs h = tt
  outer_in (Component k) xs h = ints_in r.knows _ (codes_in xs)
  outer_in (Created b) xs h = arguments_in (attribute_parameters p b.0) (codes_in xs) h
  outer_in Children xs h = tt

  pub names_known : (a : ℕ) (s : EqSite) (names : List CodedSingle) → KnowsSite p r a s → ((n : Naming) → map (single_by n) names ≡ (site_place p n a s).names) → All (KnowsSingle r) names
  names_known a s names h are =
      singles_from names (subst (InValues r.knows) (sym (are by_sources)) (append_in r.knows _ (outer_values p by_sources (reach_at p s.equation.0) s.outer) (arguments_in (attribute_parameters p a) (codes_in s.inner) h.inner) (outer_in (reach_at p s.equation.0) s.outer h.outer)))

  -- source nodes of a tree
  module _ (few : length p.tree ≤ most_nodes) where
    source_in : (o : Option ℕ) → IfSome o (λ m. m < most_nodes) → InReference r.knows (source_or_null o)
    source_in None within = tt
    source_in (Some k) within = sound.sources (suc k) (omega (arith, within))

    pub element_in : (k : ℕ) (o : Reference) (z : ℤ) → InReference r.knows (element_at (world_of p) k o z)
    element_in k Null z = tt
    element_in k (At (Source n)) (pos i) = source_in (child_in p.tree n k i) (child_sourced p.tree n k i (child_in p.tree n k i) few refl)
    element_in k (At (Source n)) (negsuc i) = tt
    element_in k (At (Made a o xs q)) z = tt

    numbered_in : (k : ℕ) → InReference r.knows (source_or_null (option_map (λ x. k) (slice_get p.tree k)))
    numbered_in k = of (slice_get p.tree k) refl
      where
        of : (o : Option TreeNode) → slice_get p.tree k ≡ o → InReference r.knows (source_or_null (option_map (λ x. k) o))
        of None e = tt
        of (Some x) e = let within = slice_get_within p.tree k x e in sound.sources (suc k) (omega (arith, within, few))

    leaf_in : (place : Place) (e : Expression) → InReference r.knows place.this → InValues r.knows place.names → InValue r.knows (leaf_value (world_of p) place e)
    leaf_in place Empty this names = none_in r.knows
    leaf_in place This this names = this
    leaf_in place (Variable k) this names = named_in r.knows place.names k names
    leaf_in place (SourceNode k) this names = numbered_in k
    leaf_in place _ this names = tt

    pub leaf_known : (c : Context) (e : Expression) → KnowsContext r c → InValue r.knows (leaf_value (world_of p) (place_in c by_sources) e)
    leaf_known c e h = leaf_in (place_in c by_sources) e (reference_in c.this.0 h.this) (singles_in c.names.now h.names)

    pub two_in : (e : Expression) (v w : Value) → InValue r.knows v → InValue r.knows w → InValue r.knows (made_of_two (world_of p) e v w)
    two_in (Element k a b) v w x y = element_in k (node v) _
    two_in (Sets o t a b) v w x y = set_in r.knows o t v w x y
    two_in (Contains a b) v w x y = tt
    two_in (Binary o a b) v w x y = operate_in r.knows o v w
    two_in (OrBoth a b) v w x y = tt
    two_in _ v w x y = x
