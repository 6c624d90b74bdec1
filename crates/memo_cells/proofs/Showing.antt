-- What the words show, and what a lower assignment has, stays.
use Rattle.std.proofs.Common.{◌≡◌, ℕ, Bool, true, false, ◌+◌, ◌*◌, ◌/◌, ◌%◌, List, sym, ap, subst, inl, inr, ⊎_elim}
use Rattle.attr_rules.specs.declared.kinds.Kind.{Kind}
use Rattle.attr_rules.specs.declared.kinds.Kind.TheVariants as kinds
use Rattle.equation_law.specs.declared.coding.Instance.{Instance as CodedInstance}
use Rattle.equation_law.specs.Codes.{reference_by}
use Rattle.equation_law.specs.Equations.{equations_of, kind_in}
use Rattle.equation_law.specs.Names.{At, Instance, Null, Reference}
use Rattle.equation_law.specs.Orders.{IsAtMost, FitsKind}
use Rattle.equation_law.specs.Program.{Program, text_of}
use Rattle.equation_law.specs.Sets.{IsPart as IsSetPart, has}
use Rattle.equation_law.specs.Values.{Value, has_node, nodes, texts, truth}
use Rattle.equation_law.proofs.Orders.{at_most_through}
use Rattle.equation_law.proofs.Sets.{empty_part}
use Rattle.memo_cells.specs.declared.view.View.{View}
use Rattle.memo_cells.specs.Agreeing.{HasCodeAt, IsElementAt}
use Rattle.memo_cells.specs.Showing.{ShowsAtLeast, ShowsAtMost, ShowsCode, ShowsTrue}
use Rattle.memo_cells.specs.Standing.{AreApproximations, AreShown, IsCodeOf, IsElement, IsFinal, IsMissing, IsNoted, IsPart, IsRaised, IsSafe, IsSettledBy, IsShown, IsValueWord, IsWordOfValue}
use Rattle.memo_cells.specs.Views.{Has, IsAtLeast}
use Rattle.made_trees.specs.Made.{Follow}
use Rattle.memo_cells.proofs.Agreeing.{IsOpen, agrees_before, code_known_later, element_later as element_further, has_code_back, has_code_later, has_stands, have_codes_later, reference_later}
use Rattle.memo_cells.proofs.Naming.{knows_later, stands_later, word_later}

-- a test that is false isn't true
pub not_both : {b : Bool} → b ≡ false → b ≡ true → ⊥
not_both f t = cc

-- an element of a value is one of a greater value
has_node_more : (x y : Value) (r : Reference) → IsAtMost x y → has_node (nodes x) r ≡ true → has_node (nodes y) r ≡ true
has_node_more x y Null l e = e
has_node_more x y (At n) l e = l.in_nodes n e

pub has_code_more : (p : Program) (ms : List CodedInstance) (k : Kind) (x y : Value) (c : ℕ) → IsAtMost x y → HasCodeAt p ms k x c → HasCodeAt p ms k y c
has_code_more p ms kinds.Truth x y c l e = e
has_code_more p ms kinds.Int x y c l e = e
has_code_more p ms kinds.Text x y c l e = e
has_code_more p ms (kinds.Node d) x y c l e = e
has_code_more p ms kinds.Texts x y c l e = l.in_texts (text_of p c) e
has_code_more p ms (kinds.Nodes d) x y c l e = λ n h. has_node_more x y (reference_by n.node c) l (e n h)

-- a value without texts, without nodes, and one that isn't true
texts_none : (x y : Value) {z : Value} → x ≡ z → IsSetPart (texts z) (texts y) → IsSetPart (texts x) (texts y)
texts_none x y e h = subst (λ (u : Value). IsSetPart (texts u) (texts y)) (sym e) h

nodes_none : (x y : Value) {z : Value} → x ≡ z → IsSetPart (nodes z) (nodes y) → IsSetPart (nodes x) (nodes y)
nodes_none x y e h = subst (λ (u : Value). IsSetPart (nodes u) (nodes y)) (sym e) h

-- a value of a type that is at most what is shown, which is at most another
pub shown_between : (p : Program) (v : View) → IsOpen p v.made → (i : Instance) (k : Kind) (x y : Value) → FitsKind k x → ShowsAtLeast p v i k x → ShowsAtMost p v i k y → IsAtMost x y
shown_between p v by i kinds.Truth x y f l m = record { in_truth = λ e. m (l e); in_texts = texts_none x y f.1 (empty_part (texts y)); in_nodes = nodes_none x y f.1 (empty_part (nodes y)) }
shown_between p v by i kinds.Int x y f l m = elim f [ ]
shown_between p v by i kinds.Text x y f l m = elim f [ ]
shown_between p v by i (kinds.Node d) x y f l m = elim f [ ]
shown_between p v by i kinds.Texts x y f l m = record {
  in_truth = λ e. absurd (not_both (ap truth f.1) e);
  in_texts = λ q e. let c = l q e in subst (λ (t : List ℕ). has (texts y) t ≡ true) c.1 (m c.0 c.2);
  in_nodes = nodes_none x y f.1 (empty_part (nodes y));
}
shown_between p v by i (kinds.Nodes d) x y f l m = record {
  in_truth = λ e. absurd (not_both (ap truth f.1) e);
  in_texts = texts_none x y f.1 (empty_part (texts y));
  in_nodes = λ q e. let c = l q e in has_stands p v.made by y c.0 (At q) d c.1 (m c.0 c.2);
}

-- what is safe goes on to be so
abbrev pub StaysSafe : Program → View → View → Type 0
StaysSafe p v w = (i j : Instance) → IsSafe p v i j → IsSafe p w i j

-- a word of a value is that by the codes that were known before
pub word_before : (p : Program) {ms ns : List CodedInstance} → Follow ms ns → IsOpen p ns → (i : Instance) (w x : ℕ) → IsWordOfValue p ns i w x → IsWordOfValue p ms i w x
word_before p follow by i w x h = record {
  value = h.value;
  has = h.has;
  bits = λ set b low element.
      let it = h.bits set b low (element_further p follow (kind_in p i) (64 * w + b) element) in
      ((λ e. has_code_back p follow by (kind_in p i) h.value (64 * w + b) element (it.0 e)), (λ c. it.1 (has_code_later p follow (kind_in p i) h.value (64 * w + b) c)));
  tells = h.tells;
}

module _ (p : Program) (v w : View) (more : IsAtLeast v w) where
  pub true_later : (i : Instance) → ShowsTrue p v i → ShowsTrue p w i
  true_later i h = (h.0, h.1, stands_later v w more p h.0 i h.2, more.bits h.1 h.0 0 h.3)

  pub shown_later : (i : Instance) (c : ℕ) → ShowsCode p v i c → ShowsCode p w i c
  shown_later i c h = (h.0, h.1, word_later v w more p h.0 i (c / 64) h.2, more.bits h.1 h.0 (c % 64) h.3)

  pub at_least_later : (i : Instance) (k : Kind) (x : Value) → ShowsAtLeast p v i k x → ShowsAtLeast p w i k x
  at_least_later i kinds.Truth x h = λ e. true_later i (h e)
  at_least_later i kinds.Int x h = tt
  at_least_later i kinds.Text x h = tt
  at_least_later i (kinds.Node d) x h = tt
  at_least_later i kinds.Texts x h = λ t e. let c = h t e in (c.0, c.1, shown_later i c.0 c.2)
  at_least_later i (kinds.Nodes d) x h = λ n e. let c = h n e in (c.0, reference_later p more.made c.0 (At n) c.1, shown_later i c.0 c.2)

  -- what is noted, as long as its slot is left
  pub noted_later : (i : Instance) (h : IsNoted p v i) → Has w.to_seal h.slot → IsNoted p w i
  noted_later i h left = record { slot = h.slot; left = left; key = h.key; there = more.keys h.slot h.key h.there; stands = stands_later v w more p h.key i h.stands; value = h.value; has = h.has; shown = at_least_later i (kind_in p i) h.value h.shown }

  -- what is safe, if no slot was sealed
  pub safe_later : ((s : ℕ) → Has v.to_seal s → Has w.to_seal s) → StaysSafe p v w
  safe_later stay i j h = ⊎_elim (λ k. inl (knows_later v w more p j k)) (λ n. inr (n.0, n.1, noted_later j n.2 (stay n.2.slot n.2.left))) h

  -- what a view that knows less, but of the same trees, shows is at most what is shown
  at_most_before : v.made ≡ w.made → (i : Instance) (k : Kind) (x : Value) → ShowsAtMost p w i k x → ShowsAtMost p v i k x
  at_most_before same i kinds.Truth x m = λ h. m (true_later i h)
  at_most_before same i kinds.Int x m = tt
  at_most_before same i kinds.Text x m = tt
  at_most_before same i (kinds.Node d) x m = tt
  at_most_before same i kinds.Texts x m = λ c h. m c (shown_later i c h)
  at_most_before same i (kinds.Nodes d) x m = λ c h. subst (λ (ms : List CodedInstance). HasCodeAt p ms (kinds.Nodes d) x c) (sym same) (m c (shown_later i c h))

  pub approximations_before : v.made ≡ w.made → AreApproximations p w → AreApproximations p v
  approximations_before same a = record {
    values = a.values;
    lower = a.lower;
    circular = λ i c. at_most_before same i (kind_in p i) (a.values i) (a.circular i c);
    codes = λ i c h. subst (λ (ms : List CodedInstance). IsElementAt p ms (kind_in p i) c) (sym same) (a.codes i c (shown_later i c h));
    undeclared = λ i c d h. let it = a.undeclared i c d (shown_later i c h) in (it.0, it.1, subst (λ (ms : List CodedInstance). HasCodeAt p ms (kind_in p i) it.0 c) (sym same) it.2);
    truths = λ i d k h. a.truths i d k (true_later i h);
    final = λ i c k. a.final i c (knows_later v w more p i k);
  }

  -- what is missing for one that knows more is missing
  pub value_word_before : v.made ≡ w.made → (k x : ℕ) → IsValueWord p w k x → IsValueWord p v k x
  value_word_before same k x h i n is set known = subst (λ (ms : List CodedInstance). IsWordOfValue p ms i n x) (sym same) (h i n (word_later v w more p k i n is) set (knows_later v w more p i known))

  pub missing_before : v.made ≡ w.made → (k : ℕ) → IsMissing p w k → IsMissing p v k
  missing_before same k h = record { nowhere = λ q has. h.nowhere q (more.keys q k has); word = value_word_before same k 0 h.word }

  -- a code goes on to be that of the value
  abbrev pub code_later : (i : Instance) (c : ℕ) → IsCodeOf p v.made i c → IsCodeOf p w.made i c
  code_later i c h = record {
    value = h.value;
    has = h.has;
    coded = λ single n agrees. h.coded single n (agrees_before p more.made agrees);
    small = h.small;
    fits = h.fits;
    known = code_known_later p more.made (kind_in p i) c h.known;
    elements = have_codes_later p more.made (kind_in p i) h.value h.elements;
  }

  abbrev pub settled_later : (S U : Instance → Instance → Type 0) (k c : ℕ) (h : IsSettledBy p v S k c) → ((j : Instance) → S h.of j → U h.of j) → IsSettledBy p w U k c
  settled_later S U k c h safe = record { of = h.of; instance = h.instance; stands = stands_later v w more p k h.of h.stands; code = code_later h.of c h.code; shown = λ s. at_least_later h.of (kind_in p h.of) h.code.value (h.shown s); closed = λ j d. safe j (h.closed j d) }

  pub value_shown_later : (i : Instance) (x : Value) → IsShown p v i x → IsShown p w i x
  value_shown_later i x h = ⊎_elim (λ least. inl (at_least_later i (kind_in p i) x least)) (λ k. inr (knows_later v w more p i k.0, k.1)) h

  pub values_shown_later : (B : Instance → Value) → AreShown p v B → AreShown p w B
  values_shown_later B h j c = ((h j c).0, value_shown_later j (B j) (h j c).1)

  -- under a greater lower assignment too
  module _ (T U : Instance → Value) (below : (j : Instance) → (equations_of p).circular j ≡ true → IsAtMost (T j) (U j)) where
    pub final_later : StaysSafe p v w → (k c : ℕ) → IsFinal p v T k c → IsFinal p w U k c
    final_later safe k c h = record { settled = settled_later (IsSafe p v) (IsSafe p w) k c h.settled (safe h.settled.of); lower = λ e. at_most_through h.settled.code.value (T h.settled.of) (U h.settled.of) (h.lower e) (below h.settled.of e) }

    pub raised_later : (k : ℕ) → IsRaised p v T k → IsRaised p w U k
    raised_later k h = record { of = h.of; stands = stands_later v w more p k h.of h.stands; is_circular = h.is_circular; kind = h.kind; is_true = (below h.of h.is_circular).in_truth h.is_true }

    part_later : (i : Instance) (c : ℕ) → IsPart p v.made T i c → IsPart p w.made U i c
    part_later i c h = ⊎_elim (λ a. inl (a.0, has_code_more p w.made (kind_in p i) (T i) (U i) c (below i a.0) (has_code_later p more.made (kind_in p i) (T i) c a.1))) (λ a. inr (a.0, (a.1.0, a.1.1, has_code_later p more.made (kind_in p i) a.1.0 c a.1.2))) h

    pub element_later : (k b : ℕ) → IsElement p v T k b → IsElement p w U k b
    element_later k b h = record { of = h.of; word = h.word; key = word_later v w more p k h.of h.word h.key; part = part_later h.of (64 * h.word + b) h.part; code = element_further p more.made (kind_in p h.of) (64 * h.word + b) h.code }
