-- What a reader knows of values that are made of others.
use Rattle.std.proofs.Common.{◌≡◌, inl, inr, ℕ, zero, suc, ◌<◌, ◌||◌, Bool, true, false, List, [], ◌∷◌, map, refl, sym, ap, ◌∙◌, arith}
use Rattle.std.specs.declared.cmp.Ordering.TheVariants.{Greater}
use Rattle.std.specs.Cmp.{nat_cmp_is, tied_itself}
use Rattle.std.specs.List.{All}
use Rattle.std.specs.Ordering.{is_eq}
use Rattle.std.proofs.lemmas.Cmp.{eq_by_cmp_equiv, nat_cmp_total}
use Rattle.std.proofs.lemmas.List.Elements.{All-cons, All-nil}
use Rattle.std.proofs.lemmas.Map.Views.{All-from_any}
use Rattle.code_sets.specs.Members.{has_code}
use Rattle.equation_law.specs.declared.coding.Single.{Single}
use Rattle.equation_law.specs.declared.coding.Single.TheVariants as single
use Rattle.equation_law.specs.declared.coding.Value.{Value as CodedValue}
use Rattle.equation_law.specs.declared.coding.Value.TheVariants as coded
use Rattle.equation_law.specs.Codes.{AreElements, Naming, reference_by, reference_of, single_by, value_by, value_of}
use Rattle.equation_law.specs.Names.{At, Null}
use Rattle.equation_law.specs.Program.{Program}
use Rattle.equation_law.specs.Reading.{IsSound, KnowsValue, Told}
use Rattle.equation_law.specs.Values.{Int, Node, Nodes, Text, Texts, Tree, Truth, Value, has_node, nodes}
use Rattle.set_values.specs.CodedSets.{HasNodesOf, HasNodesOfBoth, node_codes, node_set}
use Rattle.set_values.specs.Ordered.{KnowsSingle}
use Rattle.set_values.proofs.Coded.{holds_of}
use Rattle.set_values.proofs.NodeCodes.{IsNode, has_node_code}

module _ {S : Type 0} (t : Told S) where
  all_known : (v : CodedValue) → KnowsValue t v → All t.knows (node_codes v)
  all_known (coded.Truth b) h = All-nil t.knows
  all_known (coded.Int z) h = All-nil t.knows
  all_known (coded.Text n) h = All-nil t.knows
  all_known (coded.Node n) h = All-cons t.knows n.0 [] h (All-nil t.knows)
  all_known (coded.Texts cs) h = All-nil t.knows
  all_known (coded.Nodes cs) h = h

  -- it knows each node in a value that it knows
  node_known : (v : CodedValue) → KnowsValue t v → (c : ℕ) → has_code (node_codes v) c ≡ true → t.knows c
  node_known v h = holds_of t.knows (node_codes v) (all_known v h)

  module _ {p : Program} (sound : IsSound p t) where
    from_nodes : (cs : List ℕ) → ((c : ℕ) → 0 < c → has_code cs c ≡ true → t.knows c) → (c : ℕ) → has_code cs c ≡ true → t.knows c
    from_nodes cs each zero e = sound.sources zero (omega arith)
    from_nodes cs each (suc k) e = each (suc k) (omega arith) e

    -- and knows a value of which it knows each node
    value_from : (v : CodedValue) → ((c : ℕ) → 0 < c → has_code (node_codes v) c ≡ true → t.knows c) → KnowsValue t v
    value_from (coded.Truth b) each = tt
    value_from (coded.Int z) each = tt
    value_from (coded.Text n) each = tt
    value_from (coded.Node n) each = let here = tied_itself nat_cmp_total n.0 in from_nodes (n.0 ∷ []) each n.0 (ap (λ o. is_eq o || false) here)
    value_from (coded.Texts cs) each = tt
    value_from (coded.Nodes cs) each = All-from_any (eq_by_cmp_equiv nat_cmp_total) t.knows cs (from_nodes cs each)

    -- a value whose nodes are all in another, or in either of two
    pub known_of : (v w : CodedValue) → HasNodesOf v w → KnowsValue t v → KnowsValue t w
    known_of v w within h = value_from w (λ c some e. node_known v h c (within c some e))

    pub known_of_both : (v w set : CodedValue) → HasNodesOfBoth v w set → KnowsValue t v → KnowsValue t w → KnowsValue t set
    known_of_both v w set within h k =
        value_from set (λ c some e.
        elim (within c some e) [
          | inl x ↦ node_known v h c x
          | inr x ↦ node_known w k c x
        ])

  -- texts are no nodes
  text_known : (n : Naming) (x : Single) (ts : List ℕ) → single_by n x ≡ Text ts → KnowsSingle t x
  text_known n (single.Truth b) ts e = tt
  text_known n (single.Int z) ts e = tt
  text_known n (single.Text k) ts e = tt
  text_known n (single.Node m) ts e = cc

  pub texts_known : (n : Naming) (list : List Single) (vs : List (List ℕ)) → map (single_by n) list ≡ map Text vs → All (KnowsSingle t) list
  texts_known n [] vs e = All-nil (KnowsSingle t)
  texts_known n (x ∷ list) [] e = cc
  texts_known n (x ∷ list) (ts ∷ vs) e =
      let first : single_by n x ≡ Text ts = cc in
      let behind : map (single_by n) list ≡ map Text vs = cc in
      All-cons (KnowsSingle t) x list (text_known n x ts first) (texts_known n list vs behind)

-- codes of the nodes of a set are among those of each value that has the set
within_set : (cs ds : List ℕ) → node_set cs ≡ node_set ds → All IsNode cs → All IsNode ds → (c : ℕ) → has_code cs c ≡ true → has_code ds c ≡ true
within_set cs ds same a b c e = sym (has_node_code c ds b) ∙ ap (λ s. has_node s (reference_of c)) (sym same) ∙ has_node_code c cs a ∙ e

pub nodes_within : (p : Program) (v : CodedValue) (cs : List ℕ) → node_set cs ≡ nodes (value_of (λ k. []) v) → All IsNode cs → AreElements p v → (c : ℕ) → has_code cs c ≡ true → has_code (node_codes v) c ≡ true
nodes_within p (coded.Truth b) cs same a good c e = within_set cs [] same a (All-nil IsNode) c e
nodes_within p (coded.Int z) cs same a good c e = within_set cs [] same a (All-nil IsNode) c e
nodes_within p (coded.Text k) cs same a good c e = within_set cs [] same a (All-nil IsNode) c e
nodes_within p (coded.Node m) cs same a good c e = let none : has_code [] c ≡ true = within_set cs [] same a (All-nil IsNode) c e in cc
nodes_within p (coded.Texts ts) cs same a good c e = within_set cs [] same a (All-nil IsNode) c e
nodes_within p (coded.Nodes ds) cs same a good c e = within_set cs ds same a good c e

-- a value without a node
abbrev pub is_bare : Value → Bool
is_bare (Truth b) = true
is_bare (Int z) = true
is_bare (Text ts) = true
is_bare (Node Null) = true
is_bare (Node (At x)) = false
is_bare (Texts s) = true
is_bare (Nodes s) = false
is_bare (Tree r ts) = false

null_alone : (n : Naming) (m c : ℕ) → is_bare (Node (reference_by n.node m)) ≡ true → 0 < c → has_code (m ∷ []) c ≡ false
null_alone n zero zero e some = absurd (omega (arith, some))
null_alone n zero (suc c) e some = ap (λ o. is_eq o || false) (sym (nat_cmp_is (suc c) zero Greater (omega arith)))
null_alone n (suc m) c e some = cc

pub bare_codes : (n : Naming) (v : CodedValue) → is_bare (value_by n v) ≡ true → (c : ℕ) → 0 < c → has_code (node_codes v) c ≡ false
bare_codes n (coded.Truth b) e c some = refl
bare_codes n (coded.Int z) e c some = refl
bare_codes n (coded.Text k) e c some = refl
bare_codes n (coded.Node m) e c some = null_alone n m.0 c e some
bare_codes n (coded.Texts cs) e c some = refl
bare_codes n (coded.Nodes cs) e c some = cc
