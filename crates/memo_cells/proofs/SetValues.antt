-- What the words show, as a value.
use Rattle.std.proofs.Common.{◌≡◌, ◌↔◌, ℕ, zero, suc, true, ◌+◌, ◌<◌, ◌≤◌, List, [], length, map, eqb, refl, sym, ap, ◌∙◌, subst, arith}
use Rattle.std.proofs.lemmas.Bool.{eq-eqb, eqb-true}
use Rattle.std.specs.Cmp.Lexicographic.{nat_list_cmp_total}
use Rattle.std.proofs.lemmas.Cmp.{eq_by_cmp_equiv, nat_cmp_total}
use Rattle.std.proofs.lemmas.Map.Views.{All-from_any}
use Rattle.code_sets.specs.Members.{has_code}
use Rattle.rag_io.specs.Pool.{ArePooled}
use Rattle.ast_grammar.specs.declared.grammar.ClassId.{ClassId}
use Rattle.attr_rules.specs.declared.kinds.Kind.{Kind}
use Rattle.attr_rules.specs.declared.kinds.Kind.TheVariants as kinds
use Rattle.equation_law.specs.declared.coding.Value.TheVariants as coded
use Rattle.equation_law.specs.Checked.{IsNodeOf, at, null}
use Rattle.equation_law.specs.declared.coding.Instance.{Instance as CodedInstance}
use Rattle.equation_law.specs.Codes.{Naming, nodes_by, reference_by, reference_of, value_by}
use Rattle.equation_law.specs.Equations.{HasValue, kind_in}
use Rattle.equation_law.specs.Names.{At, Instance, Made, NodeName, Null, Reference, Source, node_cmp, text_cmp}
use Rattle.equation_law.specs.Orders.{FitsKind}
use Rattle.equation_law.specs.Program.{Program, text_of}
use Rattle.equation_law.specs.Sets.{has, set_of}
use Rattle.equation_law.specs.Spans.{IsBelow, class_below}
use Rattle.equation_law.specs.Values.{Nodes, Texts, Truth, Value, as_kind, has_node, nodes, texts, truth}
use Rattle.equation_law.proofs.Keys.{both_ways}
use Rattle.equation_law.proofs.Names.{code_anti, node_anti}
use Rattle.equation_law.proofs.Orders.{node_total}
use Rattle.equation_law.proofs.Sets.{same_parts}
use Rattle.memo_cells.specs.declared.view.View.{View}
use Rattle.memo_cells.specs.Agreeing.{Agrees, ByEachAgreeing, HasCodeAt, HaveCodesAt, IsElementAt, IsKnownNode, IsReferenceAt}
use Rattle.memo_cells.specs.Showing.{ShowsAtLeast, ShowsAtMost, ShowsCode, ShowsTrue}
use Rattle.memo_cells.specs.Standing.{AreApproximations, IsWordOfValue, Knows}
use Rattle.memo_cells.specs.Views.{IsAtLeast}
use Rattle.memo_cells.proofs.Agreeing.{IsOpen, agrees_before, has_stands, source_stands, stands_has}
use Rattle.memo_cells.proofs.Showing.{true_later}
use Rattle.memo_cells.proofs.ValueWords.{shown_in}
use Rattle.memo_cells.specs.SetShown.{AreCodesShown, AreSettledCodes, IsShownValue}
use Rattle.memo_cells.proofs.SetMembers.{node_code, node_in, text_code, text_in}

-- the code of a node of a class or of a subclass is one more than a number that lies where these do
node_between : (p : Program) (d : ClassId) (first end c : ℕ) (r : Reference) → ((n : ℕ) → IsBelow p.grammar p.tree d.0 n → (first ≤ n) × (n < end)) → reference_of c ≡ r → 0 < c → IsNodeOf p d r → (first + 1 ≤ c) × (c < end + 1)
node_between p d first end c _ span e some null = absurd (positive c e some)
  where
    positive : (c : ℕ) → reference_of c ≡ Null → 0 < c → ⊥
    positive zero e some = omega (arith, some)
    positive (suc k) e some = cc
node_between p d first end zero _ span e some (at {n = x} h) = absurd (omega (arith, some))
node_between p d first end (suc n) _ span e some (at {n = Made a r xs q} h) = absurd (cc)
node_between p d first end (suc n) _ span e some (at {n = Source k} h) =
    let same : n ≡ k = cc in
    let lies = span k (ap (class_below p.grammar d.0) h.of ∙ h.below) in
    let low : first ≤ k = lies.0 in
    let high : k < end = lies.1 in
    (omega (arith, same, low), omega (arith, same, high))

-- a code that isn't null's is of an element of the set
reference_in : (of : ℕ → NodeName) (cs : List ℕ) (c : ℕ) → 0 < c → has_code cs c ≡ true → has_node (set_of {R = node_cmp} (nodes_by of cs)) (reference_by of c) ≡ true
reference_in of cs zero some e = absurd (omega (arith, some))
reference_in of cs (suc k) some e = node_in of cs (suc k) (of k) refl e

module _ (p : Program) (before now : View) (kept : IsAtLeast before now) (a : AreApproximations p before) (b : AreApproximations p now) (pooled : ArePooled p.texts) (by : IsOpen p before.made) (by_now : IsOpen p now.made) (i : Instance) where
  truth_settled : (r : ℕ) → kind_in p i ≡ kinds.Truth → IsWordOfValue p before.made i 0 r → (w : Value) × HasValue p i w × ByEachAgreeing p now.made (λ n. value_by n (coded.Truth (eqb r 1)) ≡ as_kind (kind_in p i) w)
  truth_settled r kind word =
      let tells = word.tells kind in
      let same : eqb r 1 ≡ truth word.value = both_ways (eqb r 1) (truth word.value) (λ e. tells.0 (eqb-true r 1 e)) (λ e. eq-eqb r 1 (tells.1 e)) in
      (word.value, word.has, (λ n h. subst (λ (k : Kind). Truth (eqb r 1) ≡ as_kind k word.value) (sym kind) (ap Truth same)))

  pub truth_shown : (r : ℕ) → kind_in p i ≡ kinds.Truth → ((eqb r 1 ≡ true) ↔ ShowsTrue p now i) → (Knows p before i → IsWordOfValue p before.made i 0 r) → IsShownValue p before now i (coded.Truth (eqb r 1))
  truth_shown r kind shows word = record {
    elements = tt;
    known = tt;
    fits = λ n h. subst (λ (k : Kind). FitsKind k (Truth (eqb r 1))) (sym kind) (eqb r 1, refl);
    shown = λ n h. subst (λ (k : Kind). ShowsAtLeast p now i k (Truth (eqb r 1))) (sym kind) shows.0;
    all = λ n named. subst (λ (k : Kind). ShowsAtMost p before i k (Truth (eqb r 1))) (sym kind) (λ h. shows.1 (true_later p before now kept i h));
    settled = λ k. truth_settled r kind (word k);
  }

  -- the value of i has the element of a code that is shown
  element_in : (k : Kind) → kind_in p i ≡ k → (w : Value) → HasValue p i w → (c : ℕ) → ShowsCode p now i c → HasCodeAt p now.made k w c
  element_in k kind w has c h = subst (λ (l : Kind). HasCodeAt p now.made l w c) kind (shown_in p now pooled by_now b i w has c h)

  -- a code that was shown is of an element of the type
  element_code : (k : Kind) → kind_in p i ≡ k → (c : ℕ) → ShowsCode p before i c → IsElementAt p before.made k c
  element_code k kind c h = subst (λ (l : Kind). IsElementAt p before.made l c) kind (a.codes i c h)

  module _ (cs : List ℕ) (kind : kind_in p i ≡ kinds.Texts) (codes : AreCodesShown p before now i 0 (length p.texts) cs) where
    -- the value, by the texts of the program
    abbrev text_value : Value
    text_value = Texts (set_of {R = text_cmp} (map (text_of p) cs))

    -- and by each naming
    by_texts : (holds : Value → Type 0) → holds text_value → ByEachAgreeing p now.made (λ n. holds (value_by n (coded.Texts cs)))
    by_texts holds h n named = subst (λ (f : ℕ → List ℕ). holds (Texts (set_of {R = text_cmp} (map f cs)))) (sym named.named.texts) h

    -- the text of a code that was shown is in the set
    text_there : (c : ℕ) → ShowsCode p before i c → has (set_of {R = text_cmp} (map (text_of p) cs)) (text_of p c) ≡ true
    text_there c h = text_in (text_of p) cs c (codes.all c (omega arith) (element_code kinds.Texts kind c h) h)

    texts_settled : Knows p before i → (w : Value) × HasValue p i w × ByEachAgreeing p now.made (λ n. value_by n (coded.Texts cs) ≡ as_kind (kind_in p i) w)
    texts_settled known =
        let s = codes.settled known in
        let elements : HaveCodesAt p before.made kinds.Texts s.value = subst (λ (k : Kind). HaveCodesAt p before.made k s.value) kind s.elements in
        let same = same_parts {R = text_cmp} nat_list_cmp_total code_anti (set_of {R = text_cmp} (map (text_of p) cs)) (texts s.value)
        (λ t e.
        let c = text_code (text_of p) cs t e in
        subst (λ (u : List ℕ). has (texts s.value) u ≡ true) c.2 (element_in kinds.Texts kind s.value s.has c.0 (codes.shown c.0 c.1)))
        (λ t e.
        let c = elements t e in
        let element : HasCodeAt p before.made kinds.Texts s.value c.0 = subst (λ (u : List ℕ). has (texts s.value) u ≡ true) (sym c.2) e in
        let there = s.all c.0 (omega arith) (let low : c.0 < length p.texts = c.1 in low) (subst (λ (k : Kind). IsElementAt p before.made k c.0) (sym kind) c.1) (subst (λ (k : Kind). HasCodeAt p before.made k s.value c.0) (sym kind) element) in
        subst (λ (u : List ℕ). has (set_of {R = text_cmp} (map (text_of p) cs)) u ≡ true) c.2 (text_in (text_of p) cs c.0 there)) in
        (s.value, s.has, by_texts (λ x. x ≡ as_kind (kind_in p i) s.value) (subst (λ (k : Kind). text_value ≡ as_kind k s.value) (sym kind) (ap Texts same)))

    pub texts_shown : IsShownValue p before now i (coded.Texts cs)
    texts_shown = record {
      elements = All-from_any (eq_by_cmp_equiv nat_cmp_total) (λ c. c < length p.texts) cs codes.below;
      known = tt;
      fits = by_texts (FitsKind (kind_in p i)) (subst (λ (k : Kind). FitsKind k text_value) (sym kind) (set_of {R = text_cmp} (map (text_of p) cs), refl));
      shown = by_texts (ShowsAtLeast p now i (kind_in p i)) (subst (λ (k : Kind). ShowsAtLeast p now i k text_value) (sym kind) (λ t e. let c = text_code (text_of p) cs t e in (c.0, c.2, codes.shown c.0 c.1)));
      all = by_texts (ShowsAtMost p before i (kind_in p i)) (subst (λ (k : Kind). ShowsAtMost p before i k text_value) (sym kind) text_there);
      settled = texts_settled;
    }

  module _ (nothing : before.made ≡ []) (d : ClassId) (first end : ℕ) (span : (n : ℕ) → IsBelow p.grammar p.tree d.0 n → (first ≤ n) × (n < end)) (cs : List ℕ) (kind : kind_in p i ≡ kinds.Nodes d) (codes : AreCodesShown p before now i (first + 1) (end + 1) cs) where
    between : (c : ℕ) → IsElementAt p before.made (kinds.Nodes d) c → (first + 1 ≤ c) × (c < end + 1)
    between c code =
        let none = ap (λ (ms : List CodedInstance). length ms) nothing in
        let low = code.2 in
        let same : code.1.0 ≡ reference_of c = sym (code.1.1 _ by) ∙ source_stands by.named c (omega (arith, none, low)) in
        node_between p d first end c (reference_of c) span refl code.0 (subst (IsNodeOf p d) same code.1.2)

    -- a code that was shown is among them
    code_there : (c : ℕ) → ShowsCode p before i c → has_code cs c ≡ true
    code_there c h = let lies = between c (element_code (kinds.Nodes d) kind c h) in codes.all c lies.0 lies.1 h

    -- each of them is that of an element of the type
    code_stands : (c : ℕ) → has_code cs c ≡ true → IsElementAt p now.made (kinds.Nodes d) c
    code_stands c e = subst (λ (k : Kind). IsElementAt p now.made k c) kind (b.codes i c (codes.shown c e))

    module _ {n : Naming} (named : Agrees p now.made n) where
      abbrev node_value : Value
      node_value = Nodes (set_of {R = node_cmp} (nodes_by n.node cs))

      -- the node of one of them is in the set
      node_among : (c : ℕ) → has_code cs c ≡ true → IsElementAt p before.made (kinds.Nodes d) c → HasCodeAt p before.made (kinds.Nodes d) node_value c
      node_among c e code =
          stands_has p before.made node_value c code.1.0 d code.1.1 (subst (λ (r : Reference). has_node (nodes node_value) r ≡ true) (code.1.1 n (agrees_before p kept.made named)) (reference_in n.node cs c code.0 e))

      -- and each node of the set has a code that stands for it
      node_coded : (m : NodeName) → has (nodes node_value) m ≡ true → (c : ℕ) × IsReferenceAt p now.made c (At m) × (has_code cs c ≡ true)
      node_coded m e =
          let c = node_code n.node cs m e in
          let code = code_stands c.0 c.1 in
          (c.0, subst (IsReferenceAt p now.made c.0) (sym (code.1.1 n named) ∙ c.2) code.1.1, c.1)

      same_nodes : (s : AreSettledCodes p before.made i (first + 1) (end + 1) cs) → set_of {R = node_cmp} (nodes_by n.node cs) ≡ nodes s.value
      same_nodes s =
          let elements : HaveCodesAt p before.made (kinds.Nodes d) s.value = subst (λ (k : Kind). HaveCodesAt p before.made k s.value) kind s.elements in
          same_parts {R = node_cmp} node_total node_anti (set_of {R = node_cmp} (nodes_by n.node cs)) (nodes s.value)
          (λ m e. let c = node_coded m e in has_stands p now.made by_now s.value c.0 (At m) d c.1 (element_in (kinds.Nodes d) kind s.value s.has c.0 (codes.shown c.0 c.2)))
          (λ m e.
          let c = elements m e in
          let element : HasCodeAt p before.made (kinds.Nodes d) s.value c.0 = stands_has p before.made s.value c.0 (At m) d c.2 e in
          let lies = between c.0 c.1 in
          node_in n.node cs c.0 m (c.2 n (agrees_before p kept.made named)) (s.all c.0 lies.0 lies.1 (subst (λ (k : Kind). IsElementAt p before.made k c.0) (sym kind) c.1) (subst (λ (k : Kind). HasCodeAt p before.made k s.value c.0) (sym kind) element)))

    pub nodes_shown : IsShownValue p before now i (coded.Nodes cs)
    nodes_shown = record {
      elements = All-from_any (eq_by_cmp_equiv nat_cmp_total) (λ c. 0 < c) cs (λ c e. let low : first + 1 ≤ c = codes.least c e in omega (arith, low));
      known = All-from_any (eq_by_cmp_equiv nat_cmp_total) (IsKnownNode now.made) cs (λ c e. (code_stands c e).2);
      fits = λ n named. subst (λ (k : Kind). FitsKind k (node_value named)) (sym kind) (set_of {R = node_cmp} (nodes_by n.node cs), refl);
      shown = λ n named. subst (λ (k : Kind). ShowsAtLeast p now i k (node_value named)) (sym kind) (λ m e. let c = node_coded named m e in (c.0, c.1, codes.shown c.0 c.2));
      all = λ n named. subst (λ (k : Kind). ShowsAtMost p before i k (node_value named)) (sym kind) (λ c h. node_among named c (code_there c h) (element_code (kinds.Nodes d) kind c h));
      settled = λ known.
          let s = codes.settled known in
          (s.value, s.has, (λ n named. subst (λ (k : Kind). node_value named ≡ as_kind k s.value) (sym kind) (ap Nodes (same_nodes named s))));
    }
