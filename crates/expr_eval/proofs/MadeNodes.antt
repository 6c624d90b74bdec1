-- What is read of nodes that were made, by each naming.
use Rattle.std.proofs.Common.{◌≡◌, ℕ, zero, suc, ◌<◌, ◌≤◌, ◌≢◌, Bool, true, false, cond, List, [], ◌∷◌, Option, Some, None, IsSome, is_some, Result, Ok, Err, length, slice_get, refl, sym, ap, subst, ◌∙◌, arith}
use Rattle.std.specs.Option.{option_and_then, option_map}
use Rattle.std.proofs.lemmas.Option.{slice_get_past}
use Rattle.ast_grammar.specs.declared.grammar.ClassId.{ClassId}
use Rattle.ast_grammar.specs.declared.grammar.Shape.{Shape}
use Rattle.ast_grammar.specs.declared.grammar.Shape.TheVariants as shapes
use Rattle.ast_grammar.specs.Grammar.{Class, Component, component_at}
use Rattle.attr_rules.specs.declared.kinds.AttrId.{AttrId}
use Rattle.attr_rules.specs.declared.kinds.Kind.{Kind}
use Rattle.attr_rules.specs.declared.kinds.Kind.TheVariants as kinds
use Rattle.attr_rules.specs.declared.expression.TExpr.{TExpr}
use Rattle.attr_rules.specs.Accessors.{got}
use Rattle.attr_rules.specs.Expression.{Expression, Cast, Child, Has, InstanceOf, expression_of}
use Rattle.attr_rules.specs.Rules.{circular_at}
use Rattle.attr_rules.specs.Types.{is_below}
use Rattle.solutions.specs.Asking.{Demands, Ends, Gives, Needs, asks, at, gives}
use Rattle.tree_arena.specs.Nodes.{Node as TreeNode, class_in, most_nodes, parent_in, token_in}
use Rattle.equation_law.specs.declared.coding.Args.{Args}
use Rattle.equation_law.specs.declared.coding.Instance.{Instance as CodedInstance}
use Rattle.equation_law.specs.declared.coding.Instance.TheVariants as coded_instance
use Rattle.equation_law.specs.declared.coding.NodeRef.{NodeRef}
use Rattle.equation_law.specs.declared.coding.Up.{Up}
use Rattle.equation_law.specs.declared.coding.Up.TheVariants as up
use Rattle.equation_law.specs.declared.coding.Value.{Value as CodedValue}
use Rattle.equation_law.specs.declared.coding.Value.TheVariants as coded
use Rattle.equation_law.specs.Checked.{TreesFit, token_got, token_wanted}
use Rattle.equation_law.specs.Codes.{AreCodes, AreElements, IsCoded, IsNamingOf, Naming, arguments_for, codes_in, instance_by, reference_by, reference_of, value_by, value_coded}
use Rattle.equation_law.specs.Created.{Making, token_kinds, token_number, token_type, tree_or_none}
use Rattle.equation_law.specs.Equations.{argument_or_null, decoded, source_or_null, token_place, token_value, where_made, world_of}
use Rattle.equation_law.specs.Meaning.{is_instance, is_there, token_at}
use Rattle.equation_law.specs.Names.{Argument, At, Attribute, Instance, Made, NodeName, Null, Reference, Row, Source, list_of, maker_of}
use Rattle.equation_law.specs.Program.{Program, attribute_parameters, class_at, making_of, text_of, tree_made}
use Rattle.equation_law.specs.Reading.{AreKnownCodes, AreTokensOf, ByEachIn, Grows, HasNone, IsHigher, KnowsInstance, KnowsValue, SettledBy, Settles, TokenBy, Told, UpBy, class_behind, higher_than, parent_or_maker}
use Rattle.equation_law.specs.Values.{Node, Truth, Value, argument_value, as_argument, as_kind, default_of, tokens}
use Rattle.equation_law.proofs.Above.{map_nothing, through}
use Rattle.equation_law.proofs.Codes.{IsPast, past_tree}
use Rattle.equation_law.proofs.Created.{made_falls}
use Rattle.inherited_walk.specs.Climbing.{GivesArguments}
use Rattle.equation_law.proofs.Grown.{grows_on, instance_known}
use Rattle.expr_eval.specs.declared.evaluation.Halt.{Halt}
use Rattle.expr_eval.specs.declared.evaluation.Halt.TheVariants.{Need}
use Rattle.expr_eval.specs.Elements.{node_kind}
use Rattle.expr_eval.specs.Evaluating.{Comes, TokenReads, Wants}
use Rattle.expr_eval.specs.Made.{IsChildBy, IsMakerOf, IsOfBy, NodeReads}
use Rattle.expr_eval.proofs.Accessed.{cast_by, decoded_by, there_by}
use Rattle.expr_eval.proofs.Forms.{gives_value}
use Rattle.expr_eval.proofs.Hanging.{no_code_past}
use Rattle.expr_eval.proofs.Knowing.{decoded_in, default_in, value_known}

-- a node of a tree that was made
pub record IsMadeAt (r : Reference) : Type 0 where
  pub attribute : ℕ
  pub owner : Reference
  pub arguments : Row
  pub place : ℕ
  pub is : r ≡ At (Made attribute owner arguments place)

-- two nodes of a tree that was made, of which the second has a class
pub record AreBeside (p : Program) (r s : Reference) : Type 0 where
  pub attribute : ℕ
  pub owner : Reference
  pub arguments : Row
  pub first : ℕ
  pub place : ℕ
  pub is : r ≡ At (Made attribute owner arguments first)
  pub here : s ≡ At (Made attribute owner arguments place)
  pub class : IsSome (class_at p (Made attribute owner arguments place))

same_node : (x y : NodeName) → At x ≡ At y → x ≡ y
same_node x y e = cc

module _ {p : Program} {n : Naming} (h : IsNamingOf p n) where
  -- the code of a node that was made is past those of source nodes
  pub made_code : (c : ℕ) → IsMadeAt (reference_by n.node c) → most_nodes < c
  made_code zero made = absurd (let none = made.is in cc)
  made_code (suc k) made = let tree = h.trees k made.attribute made.owner made.arguments made.place (same_node (n.node k) (Made made.attribute made.owner made.arguments made.place) made.is) in omega (arith, tree.code)

  -- and what has such a code and a class was made
  pub made_there : length p.tree ≤ most_nodes → (c : ℕ) → most_nodes < c → IsSome (class_behind p (reference_by n.node c)) → IsMadeAt (reference_by n.node c)
  made_there few zero past there = absurd (omega (arith, past))
  made_there few (suc k) past there = of (n.node k) refl
    where
      of : (x : NodeName) → n.node k ≡ x → IsMadeAt (At (n.node k))
      of (Source j) e =
          let far : length p.tree ≤ j = subst (IsPast p) e (past_tree h few k (omega (arith, few, past))) in
          let none : IsSome (class_at p (Source j)) = subst (λ (x : NodeName). IsSome (class_at p x)) e there in
          let lost : IsSome (option_map (λ (x : TreeNode). x.class) None) = subst (λ (o : Option TreeNode). IsSome (option_map (λ (x : TreeNode). x.class) o)) (slice_get_past p.tree j far) none in
          absurd (cc)
      of (Made a r xs q) e = record { attribute = a; owner = r; arguments = xs; place = q; is = ap At e }

-- it stands beside itself
pub beside_itself : (p : Program) (r : Reference) → IsMadeAt r → IsSome (class_behind p r) → AreBeside p r r
beside_itself p r made there = record {
  attribute = made.attribute;
  owner = made.owner;
  arguments = made.arguments;
  first = made.place;
  place = made.place;
  is = made.is;
  here = made.is;
  class = subst (λ x. IsSome (class_behind p x)) made.is there;
}

-- a node of a class is there, and so is each before it
node_there : (tree : List TreeNode) (q : ℕ) → IsSome (class_in tree q) → q < length tree
node_there [] q there = absurd (let none : IsSome (option_map (λ (x : TreeNode). x.class) None) = subst (λ (o : Option TreeNode). IsSome (option_map (λ (x : TreeNode). x.class) o)) (slice_get_past {X = TreeNode} [] q (omega arith)) there in cc)
node_there (x ∷ tree) zero there = omega arith
node_there (x ∷ tree) (suc q) there = let w = node_there tree q there in omega (arith, w)

class_there : (tree : List TreeNode) (q : ℕ) → q < length tree → IsSome (class_in tree q)
class_there [] q within = absurd (omega (arith, within))
class_there (x ∷ tree) zero within = refl
class_there (x ∷ tree) (suc q) within = class_there tree q (omega (arith, within))

module _ (p : Program) (n : Naming) (r s : Reference) (beside : AreBeside p r s) where
  abbrev name : ℕ → NodeName
  name q = Made beside.attribute beside.owner beside.arguments q

  abbrev tree : List TreeNode
  tree = tree_made p beside.attribute beside.owner

  -- what stands above it, in the tree
  higher_here : (u : Up) → IsHigher n u (higher_than p s) → IsHigher n u (parent_or_maker name beside.owner beside.attribute tree beside.place (parent_in tree beside.place))
  higher_here u above = subst (λ x. IsHigher n u (higher_than p x)) beside.here above

  -- its parent stands beside it
  pub parent_beside : (m : ℕ) (k : ℕ) → IsHigher n (up.Inside (record { 0 = m }) k) (higher_than p s) → AreBeside p r (reference_by n.node m)
  parent_beside m k above = of (parent_in tree beside.place) refl (higher_here (up.Inside (record { 0 = m }) k) above)
    where
      of : (o : Option ℕ) → parent_in tree beside.place ≡ o → IsHigher n (up.Inside (record { 0 = m }) k) (parent_or_maker name beside.owner beside.attribute tree beside.place o) → AreBeside p r (reference_by n.node m)
      of None e none = absurd none
      of (Some u) e is =
          let before = made_falls p beside.attribute beside.owner beside.place u e in
          let within = node_there tree beside.place beside.class in
          record { attribute = beside.attribute; owner = beside.owner; arguments = beside.arguments; first = beside.first; place = u; is = beside.is; here = is.0; class = class_there tree u (omega (arith, before, within)) }

  -- above the root stands what made both
  pub owner_above : (m b : ℕ) → IsHigher n (up.Owner (record { 0 = m }) (record { 0 = b })) (higher_than p s) → (reference_by n.node m ≡ beside.owner) × (b ≡ beside.attribute)
  owner_above m b above = of (parent_in tree beside.place) (higher_here (up.Owner (record { 0 = m }) (record { 0 = b })) above)
    where
      of : (o : Option ℕ) → IsHigher n (up.Owner (record { 0 = m }) (record { 0 = b })) (parent_or_maker name beside.owner beside.attribute tree beside.place o) → (reference_by n.node m ≡ beside.owner) × (b ≡ beside.attribute)
      of None is = is
      of (Some u) none = absurd none

  -- by the number of the attribute
  pub node_of_owner : (b : ℕ) → b ≡ beside.attribute → (s ≡ At (Made b beside.owner beside.arguments beside.place)) × IsSome (class_at p (Made b beside.owner beside.arguments beside.place))
  node_of_owner b same =
      (subst (λ a. s ≡ At (Made a beside.owner beside.arguments beside.place)) (sym same) beside.here, subst (λ a. IsSome (class_at p (Made a beside.owner beside.arguments beside.place))) (sym same) beside.class)

  -- what made the first
  pub made_first : (b : ℕ) (o : Reference) (xs : List Argument) → b ≡ beside.attribute → o ≡ beside.owner → xs ≡ list_of beside.arguments → (m : NodeName) → r ≡ At m → maker_of m ≡ Some (Attribute b o xs)
  made_first b o xs attribute owner arguments m is =
      let same : m ≡ Made beside.attribute beside.owner beside.arguments beside.first = same_node m (Made beside.attribute beside.owner beside.arguments beside.first) (sym is ∙ beside.is) in
      ap maker_of same ∙ sym (λ i. Some (Attribute (attribute i) (owner i) (arguments i)))

-- what has a class has some
pub class_some : {o : Option ClassId} (c : ClassId) → o ≡ Some c → IsSome o
class_some c is = subst (λ (o : Option ClassId). IsSome o) (sym is) refl

-- whether a node is of a class, by its own
pub class_instance : (p : Program) (class : ClassId) (r : Reference) (o : Option ClassId) → o ≡ class_behind p r → is_below p.grammar o class ≡ is_instance (world_of p) class r
class_instance p class Null o e = ap (λ x. is_below p.grammar x class) e
class_instance p class (At x) o e = ap (λ y. is_below p.grammar y class) e

-- the types of tokens
abbrev is_token : Kind → Bool
is_token kinds.Truth = true
is_token kinds.Int = true
is_token kinds.Text = true
is_token (kinds.Node c) = false
is_token kinds.Texts = false
is_token (kinds.Nodes c) = false

token_is : (t u : Kind) → Some t ≡ Some u → is_token t ≡ true → is_token u ≡ true
token_is t u same is = let one : t ≡ u = cc in subst (λ k. is_token k ≡ true) one is

got_token : (s : Shape) (t : Kind) → token_got (got s) ≡ Some t → is_token t ≡ true
got_token shapes.Child t e = cc
got_token shapes.List t e = cc
got_token shapes.Optional t e = cc
got_token shapes.Text t e = token_is kinds.Text t e refl
got_token shapes.Int t e = token_is kinds.Int t e refl
got_token shapes.Truth t e = token_is kinds.Truth t e refl

wanted_token : (g : List Class) (o : Option ClassId) (k : ℕ) (t : Kind) → token_wanted g o k ≡ Some t → is_token t ≡ true
wanted_token g None k t e = cc
wanted_token g (Some c) k t e = let x = through (λ (x : Component). token_got (got x.shape)) (component_at g c.0 k) t e in got_token x.0.shape t x.2

token_no_node : (t : Kind) → is_token t ≡ true → node_kind t ≡ false
token_no_node kinds.Truth e = refl
token_no_node kinds.Int e = refl
token_no_node kinds.Text e = refl
token_no_node (kinds.Node c) e = cc
token_no_node kinds.Texts e = refl
token_no_node (kinds.Nodes c) e = refl

-- a token's type is that of no node
pub wanted_no_node : (g : List Class) (o : Option ClassId) (k : ℕ) (t : Kind) → token_wanted g o k ≡ Some t → node_kind t ≡ false
wanted_no_node g o k t e = token_no_node t (wanted_token g o k t e)

-- null reads as the default of each type, and so does a token of another
null_as : (t : Kind) → as_kind t (Node Null) ≡ default_of t
null_as kinds.Truth = refl
null_as kinds.Int = refl
null_as kinds.Text = refl
null_as (kinds.Node c) = refl
null_as kinds.Texts = refl
null_as (kinds.Nodes c) = refl

other_as : (t u : Kind) (v : Value) → is_token u ≡ true → (u ≡ t → ⊥) → as_kind t (argument_value (as_argument u v)) ≡ default_of t
other_as kinds.Truth kinds.Truth v is other = absurd (other refl)
other_as kinds.Truth kinds.Int v is other = refl
other_as kinds.Truth kinds.Text v is other = refl
other_as kinds.Int kinds.Truth v is other = refl
other_as kinds.Int kinds.Int v is other = absurd (other refl)
other_as kinds.Int kinds.Text v is other = refl
other_as kinds.Text kinds.Truth v is other = refl
other_as kinds.Text kinds.Int v is other = refl
other_as kinds.Text kinds.Text v is other = absurd (other refl)
other_as (kinds.Node c) kinds.Truth v is other = refl
other_as (kinds.Node c) kinds.Int v is other = refl
other_as (kinds.Node c) kinds.Text v is other = refl
other_as kinds.Texts kinds.Truth v is other = refl
other_as kinds.Texts kinds.Int v is other = refl
other_as kinds.Texts kinds.Text v is other = refl
other_as (kinds.Nodes c) kinds.Truth v is other = refl
other_as (kinds.Nodes c) kinds.Int v is other = refl
other_as (kinds.Nodes c) kinds.Text v is other = refl
other_as t (kinds.Node c) v is other = cc
other_as t kinds.Texts v is other = cc
other_as t (kinds.Nodes c) v is other = cc

-- a token that is of another type than the one wanted reads as the default
other_token : (t : Kind) (m : Making) (q k : ℕ) (ts : List Argument) → AreTokensOf (token_kinds m.arguments) ts → ((u : Kind) → token_type (Some m) q k ≡ Some u → is_token u ≡ true) → (token_type (Some m) q k ≡ Some t → ⊥) → as_kind t (token_value ts (token_number m q k)) ≡ default_of t
other_token t m q k ts all plain other = of (token_number m q k) refl
  where
    held : (j : ℕ) → token_number m q k ≡ Some j → (x : Option Argument) → slice_get ts j ≡ x → as_kind t (argument_or_null x) ≡ default_of t
    held j e None f = null_as t
    held j e (Some x) f =
        let u = all j x f in
        let type : token_type (Some m) q k ≡ Some u.0 = ap (option_and_then (slice_get (token_kinds m.arguments))) e ∙ u.1 in
        ap (λ y. as_kind t (argument_value y)) u.3 ∙ other_as t u.0 u.2 (plain u.0 type) (λ same. other (type ∙ ap Some same))

    of : (o : Option ℕ) → token_number m q k ≡ o → as_kind t (token_value ts o) ≡ default_of t
    of None e = null_as t
    of (Some j) e = held j e (slice_get ts j) refl

-- the value of a token of a node that was made, in that of what made it
abbrev pub token_within : Program → Kind → ℕ → Reference → Value → Value
token_within p t k Null w = default_of t
token_within p t k (At (Source j)) w = default_of t
token_within p t k (At (Made a o xs q)) w = as_kind t (token_value (tokens w) (token_place (making_of p a o) q k))

-- this made the node
abbrev pub Makes : Reference → Instance → Type 0
Makes r i = (x : NodeName) → r ≡ At x → maker_of x ≡ Some i

one_maker : (a : ℕ) (o : Reference) (xs : List Argument) (i : Instance) → Some (Attribute a o xs) ≡ Some i → Attribute a o xs ≡ i
one_maker a o xs i e = cc

making_there : (p : Program) (a q : ℕ) (o : Reference) (c : ClassId) → class_in (tree_made p a o) q ≡ Some c → (m : Making) × (making_of p a o ≡ Some m)
making_there p a q o c is = of (making_of p a o) refl is
  where
    of : (m : Option Making) → making_of p a o ≡ m → class_in (tree_or_none m) q ≡ Some c → (m : Making) × (making_of p a o ≡ Some m)
    of None e f = absurd (let none : class_in [] q ≡ None = ap (option_map (λ (x : TreeNode). x.class)) (slice_get_past {X = TreeNode} [] q (omega arith)) in cc)
    of (Some m) e f = (m, e)

module _ {p : Program} (fit : TreesFit p) (t : Kind) (k : ℕ) (class : ClassId) where
  -- the token of a node of a class that was made demands what made the node
  token_needs : (r : Reference) (i : Instance) → class_behind p r ≡ Some class → Makes r i → token_at (world_of p) t k r ≡ Needs i (λ w. Gives (token_within p t k r w))
  token_needs Null i is makes = cc
  token_needs (At (Source j)) i is makes = absurd (let none = makes (Source j) refl in cc)
  token_needs (At (Made a o xs q)) i is makes =
      let same = one_maker a o (list_of xs) i (makes (Made a o xs q) refl) in
      let making = making_there p a q o class is in
      let plain : circular_at p.rules.attributes a ≡ false = fit.plain a o making.0 making.1 in
      λ j. where_made (is j) (cond (plain j) (Gives (default_of t)) (Needs (same j) (λ w. Gives (as_kind t (token_value (tokens w) (token_place (making_of p a o) q k)))))) (Gives (default_of t))

  -- the type of its token
  type_there : (a q : ℕ) (o : Reference) → class_in (tree_made p a o) q ≡ Some class → token_type (making_of p a o) q k ≡ token_wanted p.grammar (Some class) k
  type_there a q o is = fit.types a q k o ∙ ap (λ c. token_wanted p.grammar c k) is

  -- which is that of the code
  pub token_known : (A : Instance → Value → Type 0) (r : Reference) (i : Instance) (n : Naming) (code : ℕ) → class_behind p r ≡ Some class → Makes r i → token_wanted p.grammar (Some class) k ≡ Some t
      → ((a q : ℕ) (o : Reference) (xs : Row) → r ≡ At (Made a o xs q) → (w : Value) → A (Attribute a o (list_of xs)) w → (u : Kind) → token_type (making_of p a o) q k ≡ Some u → value_coded n u code ≡ as_kind u (token_value (tokens w) (token_place (making_of p a o) q k)))
      → (w : Value) → A i w → value_coded n t code ≡ token_within p t k r w
  token_known A Null i n code is makes wanted answer w has = cc
  token_known A (At (Source j)) i n code is makes wanted answer w has = absurd (let none = makes (Source j) refl in cc)
  token_known A (At (Made a o xs q)) i n code is makes wanted answer w has =
      answer a q o xs refl w (subst (λ j. A j w) (sym (one_maker a o (list_of xs) i (makes (Made a o xs q) refl))) has) t (type_there a q o is ∙ wanted)

  -- or another
  pub token_other : (r : Reference) (i : Instance) → class_behind p r ≡ Some class → Makes r i → token_wanted p.grammar (Some class) k ≢ Some t → (w : Value)
      → ((a : ℕ) (o : Reference) (xs : List Argument) → i ≡ Attribute a o xs → (m : Making) → making_of p a o ≡ Some m → AreTokensOf (token_kinds m.arguments) (tokens w)) → token_within p t k r w ≡ default_of t
  token_other Null i is makes other w trees = cc
  token_other (At (Source j)) i is makes other w trees = absurd (let none = makes (Source j) refl in cc)
  token_other (At (Made a o xs q)) i is makes other w trees =
      let same = one_maker a o (list_of xs) i (makes (Made a o xs q) refl) in
      let making = making_there p a q o class is in
      let type = type_there a q o is in
      let typed : token_type (Some making.0) q k ≡ token_wanted p.grammar (Some class) k = ap (λ m. token_type m q k) (sym making.1) ∙ type in
      ap (λ m. as_kind t (token_value (tokens w) (token_place m q k))) making.1
      ∙ other_token t making.0 q k (tokens w) (trees a o (list_of xs) (sym same) making.0 making.1) (λ u e. wanted_token p.grammar (Some class) k u (sym typed ∙ e)) (λ e. other (sym typed ∙ e))

-- The token of a node of a class that was made, where it is known what made the node.
module _ {S : Type 0} {p : Program} {r s : Told S} (t : Kind) (k m : ℕ) (class : ClassId) (i : CodedInstance) (grows : Grows p r s) where
  -- what made it has no value
  pub token_stuck : ByEachIn s (λ n. class_behind p (reference_by n.node m) ≡ Some class) → ByEachIn s (λ n. Makes (reference_by n.node m) (instance_by p n i)) → IsCoded p i → KnowsInstance p s i → ByEachIn s (λ n. HasNone s (instance_by p n i)) → TokenReads p r s t k m (Err (Need i))
  token_stuck is makes coded known none = record {
    kept = grows;
    is = record { wants = λ n named. subst (λ c. Wants s.has c (instance_by p n i)) (sym (token_needs grows.sound.fit t k class (reference_by n.node m) (instance_by p n i) (is n named) (makes n named))) ([], at (none n named)); coded = coded; known = known };
  }

  -- it has one
  pub token_there : (x : CodedValue) → ByEachIn s (λ n. class_behind p (reference_by n.node m) ≡ Some class) → ByEachIn s (λ n. Makes (reference_by n.node m) (instance_by p n i)) → AreElements p x → KnowsValue s x
      → ByEachIn s (λ n. (w : Value) × s.has (instance_by p n i) w × (value_by n x ≡ token_within p t k (reference_by n.node m) w)) → TokenReads p r s t k m (Ok x)
  token_there x is makes coded good known = record {
    kept = grows;
    is = record {
      comes = λ n named.
          let one = known n named in
          let c : Demands Instance Value = Gives (token_within p t k (reference_by n.node m) one.0) in
          let ends : Ends s.has c (value_by n x) [] = subst (λ v. Ends s.has c v []) (sym one.2) gives in
          subst (λ c. Comes s.has c (value_by n x)) (sym (token_needs grows.sound.fit t k class (reference_by n.node m) (instance_by p n i) (is n named) (makes n named))) (instance_by p n i ∷ [], asks one.1 ends);
      coded = coded;
      known = good;
    };
  }

-- a node that stands beside another has a class
class_here : (p : Program) (r s : Reference) → AreBeside p r s → IsSome (class_behind p s)
class_here p r s here = subst (λ x. IsSome (class_behind p x)) (sym here.here) here.class

-- The way from a node that was made up to what made it.
module _ {S : Type 0} {p : Program} {q r s : Told S} (node at : NodeRef) (grows : Grows p q r) (beside : ByEachIn r (λ n. AreBeside p (reference_by n.node node.0) (reference_by n.node at.0))) (made : most_nodes < at.0) (known : r.knows at.0) where
  higher_by : {u : Up} → UpBy r s at u → (n : Naming) → s.names n → IsHigher n u (higher_than p (reference_by n.node at.0))
  higher_by h n named = let sound = grows.sound in let kept = h.kept p sound in h.answer p sound made known n named (class_here p (reference_by n.node node.0) (reference_by n.node at.0) (beside n (kept.names n named)))

  beside_parent : {m : NodeRef} {k : ℕ} → UpBy r s at (up.Inside m k) → ByEachIn s (λ n. AreBeside p (reference_by n.node node.0) (reference_by n.node m.0))
  beside_parent {m} {k} h n named = let kept = h.kept p grows.sound in parent_beside p n (reference_by n.node node.0) (reference_by n.node at.0) (beside n (kept.names n named)) m.0 k (higher_by h n named)

  -- to the parent in the tree
  pub climbs : {m : NodeRef} {k : ℕ} → UpBy r s at (up.Inside m k) → Grows p q s × (most_nodes < m.0) × ByEachIn s (λ n. AreBeside p (reference_by n.node node.0) (reference_by n.node m.0)) × s.knows m.0
  climbs {m} h =
      let kept = h.kept p grows.sound in
      let some = kept.sound.some in
      let there = beside_parent h some.0 some.1 in
      (grows_on grows kept, made_code (kept.sound.named some.0 some.1) m.0 (record { attribute = there.attribute; owner = there.owner; arguments = there.arguments; place = there.place; is = there.here }), beside_parent h, h.known p grows.sound made known)

  -- and from the root to its owner
  pub owned : {t : Told S} {m : NodeRef} {b : AttrId} {xs : Args} → UpBy r s at (up.Owner m b) → GivesArguments p s t b at xs → IsMakerOf p q t node (coded_instance.Attr b m xs)
  owned {t} {m} {b} {xs} h given = record { kept = grows_on grows (grows_on kept given.kept); coded = (given.row, (arguments given.kept.sound.some.0 given.kept.sound.some.1).0); known = (given.kept.known m.0 (h.known p grows.sound made known), codes given.kept.sound.some.0 given.kept.sound.some.1); is = by }
    where
      kept : Grows p r s
      kept = h.kept p grows.sound

      here : (n : Naming) → t.names n → AreBeside p (reference_by n.node node.0) (reference_by n.node at.0)
      here n named = beside n (kept.names n (given.kept.names n named))

      owner : (n : Naming) (named : t.names n) → (reference_by n.node m.0 ≡ (here n named).owner) × (b.0 ≡ (here n named).attribute)
      owner n named = owner_above p n (reference_by n.node node.0) (reference_by n.node at.0) (here n named) m.0 b.0 (higher_by h n (given.kept.names n named))

      arguments : (n : Naming) (named : t.names n) → AreCodes p (attribute_parameters p b.0) (codes_in xs) × (arguments_for p n b.0 xs ≡ list_of (here n named).arguments)
      arguments n named =
          let one = here n named in
          let there = node_of_owner p n (reference_by n.node node.0) (reference_by n.node at.0) one b.0 (owner n named).1 in
          given.are n named one.owner one.arguments one.place there.0 there.1

      codes : (n : Naming) → t.names n → AreKnownCodes t (attribute_parameters p b.0) (codes_in xs)
      codes n named =
          let one = here n named in
          let there = node_of_owner p n (reference_by n.node node.0) (reference_by n.node at.0) one b.0 (owner n named).1 in
          given.known n named one.owner one.arguments one.place there.0 there.1

      by : (n : Naming) → t.names n → (x : NodeName) → reference_by n.node node.0 ≡ At x → maker_of x ≡ Some (instance_by p n (coded_instance.Attr b m xs))
      by n named = made_first p n (reference_by n.node node.0) (reference_by n.node at.0) (here n named) b.0 (reference_by n.node m.0) (arguments_for p n b.0 xs) (owner n named).1 (owner n named).0 (arguments n named).1

-- without a class nothing is had of a node but defaults
no_token : (nodes : List TreeNode) (j k : ℕ) → slice_get nodes j ≡ None → token_in nodes j k ≡ None
no_token [] j k e = no_code_past [] j k (omega arith)
no_token (x ∷ nodes) zero k e = cc
no_token (x ∷ nodes) (suc j) k e = no_token nodes j k e

pub classless_token : (p : Program) (t : Kind) (k : ℕ) (r : Reference) → class_behind p r ≡ None → token_at (world_of p) t k r ≡ Gives (default_of t)
classless_token p t k Null e = refl
classless_token p t k (At (Source j)) e = let none = map_nothing (λ (x : TreeNode). x.class) (slice_get p.tree j) e in ap (λ (o : Option ℕ). Gives (decoded (text_of p) t o)) (no_token p.tree j k none)
classless_token p t k (At (Made a o xs q)) e =
    ap (λ (c : Option ClassId). where_made c (cond (circular_at p.rules.attributes a) (Gives (default_of t)) (Needs (Attribute a o (list_of xs)) (λ v. Gives (as_kind t (token_value (tokens v) (token_place (making_of p a o) q k)))))) (Gives (default_of t))) e

-- The token of a node of a class that was made, once it is known what made it, and whether that has a value.
module _ {S : Type 0} {p : Program} {r m s : Told S} (t : Kind) (k : ℕ) (node : NodeRef) (class : ClassId) (i : CodedInstance) (o : Option CodedValue) (of_class : ByEachIn r (λ n. class_behind p (reference_by n.node node.0) ≡ Some class)) (maker : IsMakerOf p r m node i) (settled : SettledBy m s i (Ok o)) (at_known : r.knows node.0) where
  grown : Grows p m s
  grown = settled.kept p maker.kept.sound

  says : Settles p s (λ n. instance_by p n i) (Ok o)
  says = settled.answer p maker.kept.sound maker.coded maker.known

  class_by : ByEachIn s (λ n. class_behind p (reference_by n.node node.0) ≡ Some class)
  class_by n named = of_class n (maker.kept.names n (grown.names n named))

  maker_by : ByEachIn s (λ n. Makes (reference_by n.node node.0) (instance_by p n i))
  maker_by n named = maker.is n (grown.names n named)

  -- that has none
  pub made_none : o ≡ None → TokenReads p r s t k node.0 (Err (Need i))
  made_none none = token_stuck t k node.0 class i (grows_on maker.kept grown) class_by maker_by maker.coded (instance_known grown i maker.known) (subst (λ (x : Option CodedValue). Settles p s (λ n. instance_by p n i) (Ok x)) none says)

  held : (v : CodedValue) → o ≡ Some v → (n : Naming) → s.names n → (w : Value) × s.has (instance_by p n i) w
  held v is n named = let one = (subst (λ (x : Option CodedValue). Settles p s (λ n. instance_by p n i) (Ok x)) is says).0 n named in (one.0, one.1)

  -- it has one, and the token is of the type
  pub made_known : {u : Told S} (v : CodedValue) (code : ℕ) (x : CodedValue) → o ≡ Some v → TokenBy s u node k code → text_of p 0 ≡ [] → token_wanted p.grammar (Some class) k ≡ Some t → ((n : Naming) → n.text 0 ≡ [] → value_by n x ≡ decoded n.text t (Some code)) → AreElements p x
      → TokenReads p r u t k node.0 (Ok x)
  made_known {u} v code x is token first wanted value coded =
      let kept : Grows p s u = token.kept p grown.sound in
      let good = value_known kept.sound x (λ n is. value n (ap (λ (f : ℕ → List ℕ). f 0) is.texts ∙ first)) (decoded_in u.knows (text_of p) t (Some code)) in
      token_there t k node.0 class i (grows_on (grows_on maker.kept grown) kept) x (λ n named. class_by n (kept.names n named)) (λ n named. maker_by n (kept.names n named)) coded good (λ n named.
      let here = kept.names n named in
      let one = held v is n here in
      let text : n.text 0 ≡ [] = ap (λ (f : ℕ → List ℕ). f 0) (kept.sound.named n named).texts ∙ first in
      let known = token_known grown.sound.fit t k class s.has (reference_by n.node node.0) (instance_by p n i) n code (class_by n here) (maker_by n here) wanted (token.answer p grown.sound (grown.known node.0 (maker.kept.known node.0 at_known)) n named) one.0 one.1 in
      (one.0, kept.values (instance_by p n i) one.0 one.1, value n text ∙ sym (decoded_by n t code (wanted_no_node p.grammar (Some class) k t wanted)) ∙ known))

  -- it has one, and the token is of another type
  pub made_other : (v x : CodedValue) → o ≡ Some v → text_of p 0 ≡ [] → token_wanted p.grammar (Some class) k ≢ Some t → ((n : Naming) → n.text 0 ≡ [] → value_by n x ≡ default_of t) → AreElements p x → TokenReads p r s t k node.0 (Ok x)
  made_other v x is first other value coded =
      let sound = grown.sound in
      token_there t k node.0 class i (grows_on maker.kept grown) x class_by maker_by coded (value_known sound x (λ n is. value n (ap (λ (f : ℕ → List ℕ). f 0) is.texts ∙ first)) (default_in s.knows t)) (λ n named.
      let one = held v is n named in
      let text : n.text 0 ≡ [] = ap (λ (f : ℕ → List ℕ). f 0) (sound.named n named).texts ∙ first in
      let j = instance_by p n i in
      let default = token_other sound.fit t k class (reference_by n.node node.0) j (class_by n named) (maker_by n named) other one.0 (λ a o xs same making e. sound.trees a o xs one.0 (subst (λ y. s.can y one.0) same (sound.within j one.0 one.1)) making e) in
      (one.0, one.1, value n text ∙ sym default))

-- a node without a class, and what is answered of a token further on
pub token_classless : {S : Type 0} {p : Program} {r s : Told S} (t : Kind) (k m : ℕ) (x : CodedValue) → Grows p r s → text_of p 0 ≡ [] → ByEachIn s (λ n. None ≡ class_behind p (reference_by n.node m)) → ((n : Naming) → n.text 0 ≡ [] → value_by n x ≡ default_of t) → AreElements p x → TokenReads p r s t k m (Ok x)
token_classless {p = p} {s = s} t k m x grows first none value coded = record {
  kept = grows;
  is = record {
    comes = λ n named.
        let text : n.text 0 ≡ [] = ap (λ (f : ℕ → List ℕ). f 0) (grows.sound.named n named).texts ∙ first in
        let is : Gives (default_of t) ≡ token_at (world_of p) t k (reference_by n.node m) = sym (classless_token p t k (reference_by n.node m) (sym (none n named))) in
        let ends : Comes s.has (Gives (default_of t)) (value_by n x) = subst (λ v. Comes s.has (Gives v) (value_by n x)) (value n text) ([], gives) in
        subst (λ c. Comes s.has c (value_by n x)) is ends;
    coded = coded;
    known = value_known grows.sound x (λ n is. value n (ap (λ (f : ℕ → List ℕ). f 0) is.texts ∙ first)) (default_in s.knows t);
  };
}

pub token_later : {S : Type 0} {p : Program} {r m s : Told S} {t : Kind} {k c : ℕ} {res : Result CodedValue Halt} → Grows p r m → TokenReads p m s t k c res → TokenReads p r s t k c res
token_later grows h = record { kept = grows_on grows h.kept; is = h.is }

-- What a form makes of a node.
module _ {S : Type 0} {p : Program} {r s : Told S} {node : NodeRef} where
  -- a form that is kept so
  pub node_said : {e f : TExpr} {res : Result CodedValue Halt} → e ≡ f → NodeReads p r s (expression_of f) node.0 res → NodeReads p r s (expression_of e) node.0 res
  node_said {e} {f} {res} same h = subst (λ x. NodeReads p r s (expression_of x) node.0 res) (sym same) h

  pub child_read : {k : ℕ} {e : Expression} {child : NodeRef} → IsChildBy p r s k node child → NodeReads p r s (Child k e) node.0 (Ok (coded.Node child))
  child_read h = record { kept = h.kept; is = gives_value (λ n named. ap Node (h.is n named)) tt h.known }

  pub has_read : {k : ℕ} {e : Expression} {child : NodeRef} {b : Bool} (o : Option ℕ) → IsChildBy p r s k node child → source_or_null o ≡ reference_of child.0 → b ≡ is_some o → NodeReads p r s (Has k e) node.0 (Ok (coded.Truth b))
  has_read {child = child} o h is there = record { kept = h.kept; is = gives_value (λ n named. ap Truth (there ∙ there_by n.node o child.0 is ∙ ap is_there (h.is n named))) tt tt }

  pub cast_read : {class : ClassId} {e : Expression} {b : Bool} → IsOfBy p r s class node b → b ≡ true → r.knows node.0 → NodeReads p r s (Cast class e) node.0 (Ok (coded.Node node))
  cast_read {class = class} h is known = record { kept = h.kept; is = gives_value (λ n named. ap Node (cast_by p class (reference_by n.node node.0) true (sym is ∙ h.is n named))) tt (h.kept.known node.0 known) }

  pub no_cast_read : {class : ClassId} {e : Expression} {b : Bool} → IsOfBy p r s class node b → b ≡ false → NodeReads p r s (Cast class e) node.0 (Ok (coded.Node (record { 0 = 0 })))
  no_cast_read {class = class} h is = record { kept = h.kept; is = gives_value (λ n named. ap Node (cast_by p class (reference_by n.node node.0) false (sym is ∙ h.is n named))) tt (h.kept.sound.sources 0 (omega arith)) }

  pub instance_read : {class : ClassId} {e : Expression} {b : Bool} → IsOfBy p r s class node b → NodeReads p r s (InstanceOf class e) node.0 (Ok (coded.Truth b))
  instance_read h = record { kept = h.kept; is = gives_value (λ n named. ap Truth (h.is n named)) tt tt }
