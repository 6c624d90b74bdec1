-- What a reader knows of the value of a collection.
use Rattle.std.proofs.Common.{◌≡◌, ℕ, subst, sym}
use Rattle.attr_rules.specs.declared.kinds.Kind.{Kind}
use Rattle.attr_rules.specs.declared.kinds.Method.{Method}
use Rattle.attr_rules.specs.declared.kinds.Method.TheVariants.{Add, AddAll, Sum, Or, And}
use Rattle.attr_rules.specs.Expression.{EachOfSet, Single, This}
use Rattle.equation_law.specs.declared.coding.Instance.{Instance as CodedInstance}
use Rattle.equation_law.specs.declared.coding.Instance.TheVariants as coded_instance
use Rattle.equation_law.specs.declared.coding.NodeRef.{NodeRef}
use Rattle.equation_law.specs.declared.coding.Value.{Value as CodedValue}
use Rattle.equation_law.specs.declared.coding.Value.TheVariants as coded
use Rattle.equation_law.specs.Codes.{ByEachNaming, Naming, reference_by, value_by}
use Rattle.equation_law.specs.Collections.{combine, fresh}
use Rattle.equation_law.specs.Program.{Program}
use Rattle.equation_law.specs.Reading.{IsSound, KnowsInstance, KnowsValue, Told}
use Rattle.equation_law.specs.Values.{Value, node, single}
use Rattle.expr_eval.specs.Saved.{making_of}
use Rattle.expr_eval.proofs.Knowing.{InReference, InValue, by_sources, default_in, made_in, node_in, one_in, reference_from, value_in, value_known}
use Rattle.collection_attrs.specs.declared.collectors.Collector.{Collector}
use Rattle.collection_attrs.specs.declared.surveys.Survey.{Survey}
use Rattle.collection_attrs.specs.Surveys.{IsAtNode, IsNew}

module _ (K : ℕ → Type 0) where
  fresh_in : (m : Method) (k : Kind) → InValue K (fresh m k)
  fresh_in Add k = default_in K k
  fresh_in AddAll k = default_in K k
  fresh_in Sum k = tt
  fresh_in Or k = tt
  fresh_in And k = tt

  combined_in : (p : Program) (m : Method) (k : Kind) (v w : Value) → InValue K v → InValue K w → InValue K (combine m k v w)
  combined_in p Add k v w x y = made_in K (making_of (EachOfSet k This This)) v v (single w) x x (one_in K p (Single This) w y)
  combined_in p AddAll k v w x y = made_in K (making_of (EachOfSet k This This)) v v w x x y
  combined_in p Sum k v w x y = tt
  combined_in p Or k v w x y = tt
  combined_in p And k v w x y = tt

module _ {S : Type 0} {p : Program} {t : Told S} (sound : IsSound p t) where
  -- the value for which nothing counts
  pub new_known : {of : Collector} {s : Survey} → IsNew p of s → KnowsValue t s.so_far
  new_known {of} {s} new = value_known sound s.so_far new.so_far (fresh_in t.knows of.method of.kind)

  -- with one value more
  pub combined_known : (m : Method) (k : Kind) (v w x : CodedValue) → ByEachNaming p (λ names. value_by names x ≡ combine m k (value_by names v) (value_by names w)) → KnowsValue t v → KnowsValue t w → KnowsValue t x
  combined_known m k v w x is a b = value_known sound x is (combined_in t.knows p m k (value_by (by_sources sound) v) (value_by (by_sources sound) w) (value_in sound v a) (value_in sound w b))

  -- a copy
  pub copied_known : (v x : CodedValue) → ((names : Naming) → value_by names x ≡ value_by names v) → KnowsValue t v → KnowsValue t x
  copied_known v x same h = value_known sound x (λ names named. same names) (value_in sound v h)

  -- the node that a value is
  pub value_node_known : {o : ℕ} (v : CodedValue) → KnowsValue t v → ((names : Naming) → reference_by names.node o ≡ node (value_by names v)) → t.knows o
  value_node_known {o} v h is = reference_from sound o (subst (InReference t.knows) (sym (is (by_sources sound))) (node_in t.knows (value_by (by_sources sound) v) (value_in sound v h)))

-- it knows the node of an instance that it knows
pub node_known_of : {S : Type 0} (p : Program) (t : Told S) (i : CodedInstance) {m : NodeRef} → IsAtNode i m → KnowsInstance p t i → t.knows m.0
node_known_of p t (coded_instance.Attr a n xs) is h = subst (λ (k : NodeRef). t.knows k.0) (sym is) h.0
node_known_of p t (coded_instance.Query q) is h = absurd is

-- a reader that knows all codes knows the nodes in each value
pub all_known : {S : Type 0} (t : Told S) → ((c : ℕ) → t.knows c) → (v : CodedValue) → KnowsValue t v
all_known t h (coded.Truth b) = tt
all_known t h (coded.Int z) = tt
all_known t h (coded.Text n) = tt
all_known t h (coded.Node n) = h n.0
all_known t h (coded.Texts cs) = tt
all_known t h (coded.Nodes cs) = λ k d low. h _
