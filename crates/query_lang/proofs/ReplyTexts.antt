-- The texts of values in replies: each value whose nodes are source nodes has one.
use Rattle.std.proofs.Common.{◌≡◌, ℕ, zero, suc, true, false, ◌||◌, List, [], ◌∷◌, ◌++◌, map, Result, Ok, Err, OnOk, refl, sym, ap, subst, ◌∙◌, ◌⊎◌, inl, inr}
use Rattle.std.specs.Fmt.{signed_decimal}
use Rattle.std.specs.List.{list_any}
use Rattle.std.specs.Ordering.{eq_by_cmp}
use Rattle.rag_io.specs.Quoting.{quoted}
use Rattle.rag_io.specs.declared.Memory.{Memory}
use Rattle.equation_law.specs.declared.coding.Single.{Single}
use Rattle.equation_law.specs.declared.coding.Single.TheVariants as single
use Rattle.equation_law.specs.declared.coding.Value.{Value as CodedValue}
use Rattle.equation_law.specs.declared.coding.Value.TheVariants as coded
use Rattle.equation_law.specs.Checked.{IsSource}
use Rattle.equation_law.specs.Codes.{nodes_of, reference_of, single_of, value_of}
use Rattle.equation_law.specs.Names.{At, NodeName, Null, Source, node_cmp, text_cmp}
use Rattle.equation_law.specs.Sets.{elements, set_of}
use Rattle.equation_law.specs.Values.{Int, Node, Nodes, Text, Texts, Tree, Truth, Value, elements_of, of_node as as_value}
use Rattle.equation_law.proofs.Names.{is_equal, node_anti}
use Rattle.equation_law.proofs.Orders.{node_total}
use Rattle.equation_law.proofs.Sets.{has-set_of}
use Rattle.query_lang.specs.Replies.{AddsText, AreSourceNodes, HasSourceNodes, IsReplyText, in_braces, node_text, of_int, of_node, of_nodes, of_null, of_text, of_texts, of_truth, truth_text}
use Rattle.query_lang.specs.Singles.{reference_text, single_text}

-- the text of a value
pub reply_text : Value → List ℕ
reply_text (Truth b) = truth_text b
reply_text (Int z) = signed_decimal z
reply_text (Text t) = quoted t
reply_text (Node n) = reference_text n
reply_text (Texts s) = in_braces (map quoted (elements s))
reply_text (Nodes s) = in_braces (map node_text (elements s))
reply_text (Tree r ts) = []

pub is_text : {v : Value} {t : List ℕ} → IsReplyText v t → t ≡ reply_text v
unfolding reply_text
is_text (of_truth b) = refl
is_text (of_int z) = refl
is_text (of_text t) = refl
is_text of_null = refl
is_text (of_node n is) = refl
is_text (of_texts s) = refl
is_text (of_nodes s are) = refl

pub text_is : (v : Value) → HasSourceNodes v → IsReplyText v (reply_text v)
unfolding reply_text
text_is (Truth b) has = of_truth b
text_is (Int z) has = of_int z
text_is (Text t) has = of_text t
text_is (Node Null) has = of_null
text_is (Node (At n)) has = of_node n has
text_is (Texts s) has = of_texts s
text_is (Nodes s) has = of_nodes s has
text_is (Tree r ts) has = absurd has

pub one_reply_text : (v : Value) (t u : List ℕ) → IsReplyText v t → IsReplyText v u → t ≡ u
one_reply_text v t u a b = is_text a ∙ sym (is_text b)

pub has_reply_text : (v : Value) → HasSourceNodes v → (t : List ℕ) × IsReplyText v t
has_reply_text v has = (reply_text v, text_is v has)

-- the text of a value was added
pub text_added : (r : Result Unit Memory) (v w : Value) (text old new : List ℕ) → v ≡ w → IsReplyText w text → OnOk r (new ≡ old ++ text) → OnOk r (AddsText v old new)
text_added (Ok u) v w text old new e is h = record { text = text; of_value = subst (λ x. IsReplyText x text) (sym e) is; added = h }
text_added (Err m) v w text old new e is h = tt

-- a code stands for a source node, where nothing was made, or for null
pub code_has : (c : ℕ) → IsReplyText (Node (reference_of c)) (reference_text (reference_of c))
code_has zero = of_null
code_has (suc k) = of_node (Source k) tt

-- so do those of a set
listed_source : (cs : List ℕ) (n : NodeName) → list_any (eq_by_cmp node_cmp n) (nodes_of cs) ≡ true → IsSource (At n)
listed_source [] n e = cc
listed_source (zero ∷ cs) n e = listed_source cs n e
listed_source (suc k ∷ cs) n e =
    elim (eq_by_cmp node_cmp n (Source k)) as (λ b. eq_by_cmp node_cmp n (Source k) ≡ b → (b || list_any (eq_by_cmp node_cmp n) (nodes_of cs)) ≡ true → IsSource (At n)) [
      | true ↦ λ is _. subst (λ m. IsSource (At m)) (sym (node_anti n (Source k) (is_equal _ is))) tt
      | false ↦ λ is rest. listed_source cs n rest
    ] refl e

source_set : (cs : List ℕ) → AreSourceNodes (set_of {R = node_cmp} (nodes_of cs))
source_set cs n e = listed_source cs n (sym (has-set_of {R = node_cmp} node_total (nodes_of cs) n) ∙ e)

-- a value that is no set has the text of its code
single_has : (texts : ℕ → List ℕ) (x : Single) → single_text texts x ≡ reply_text (single_of texts x)
unfolding reply_text
single_has texts (single.Truth b) = refl
single_has texts (single.Int z) = refl
single_has texts (single.Text n) = refl
single_has texts (single.Node n) = refl

-- so have the elements of a set
singles_have : (texts : ℕ → List ℕ) (xs : List Single) → map (single_text texts) xs ≡ map reply_text (map (single_of texts) xs)
singles_have texts [] = refl
singles_have texts (x ∷ xs) = λ i. single_has texts x i ∷ singles_have texts xs i

texts_have : (ts : List (List ℕ)) → map reply_text (map Text ts) ≡ map quoted ts
unfolding reply_text
texts_have [] = refl
texts_have (t ∷ ts) = ap (λ us. quoted t ∷ us) (texts_have ts)

nodes_have : (ns : List NodeName) → map reply_text (map as_value ns) ≡ map node_text ns
unfolding reply_text
nodes_have [] = refl
nodes_have (n ∷ ns) = ap (λ us. node_text n ∷ us) (nodes_have ns)

-- the text of a set by the codes of its elements
pub set_has : (texts : ℕ → List ℕ) (v : CodedValue) (xs : List Single) → ((cs : List ℕ) × (v ≡ coded.Texts cs)) ⊎ ((cs : List ℕ) × (v ≡ coded.Nodes cs)) → map (single_of texts) xs ≡ elements_of (value_of texts v)
    → IsReplyText (value_of texts v) (in_braces (map (single_text texts) xs))
set_has texts v xs (inl is) e =
    let s = set_of {R = text_cmp} (map texts is.0) in
    let read : map (single_text texts) xs ≡ map quoted (elements s) = singles_have texts xs ∙ ap (map reply_text) (e ∙ ap (λ w. elements_of (value_of texts w)) is.1) ∙ texts_have (elements s) in
    subst (λ w. IsReplyText (value_of texts w) (in_braces (map (single_text texts) xs))) (sym is.1) (subst (λ ts. IsReplyText (Texts s) (in_braces ts)) (sym read) (of_texts s))
set_has texts v xs (inr is) e =
    let s = set_of {R = node_cmp} (nodes_of is.0) in
    let read : map (single_text texts) xs ≡ map node_text (elements s) = singles_have texts xs ∙ ap (map reply_text) (e ∙ ap (λ w. elements_of (value_of texts w)) is.1) ∙ nodes_have (elements s) in
    subst (λ w. IsReplyText (value_of texts w) (in_braces (map (single_text texts) xs))) (sym is.1) (subst (λ ts. IsReplyText (Nodes s) (in_braces ts)) (sym read) (of_nodes s (source_set is.0)))
