-- The words of a set, and its value.
use Rattle.std.proofs.Common.{◌≡◌, ◌↔◌, ℕ, true, false, ◌+◌, ◌*◌, ◌/◌, ◌%◌, ◌<◌, [], length, get_or, refl, sym, ap, ◌∙◌, subst, arith}
use Rattle.std.specs.Int.{bit_at}
use Rattle.std.proofs.lemmas.Nat.Bits.{bit_at-zero}
use Rattle.std.proofs.lemmas.Option.{slice_get-get_or}
use Rattle.solutions.proofs.Lower.{lower_below}
use Rattle.attr_rules.specs.declared.kinds.Kind.{Kind}
use Rattle.attr_rules.specs.declared.kinds.Kind.TheVariants as kinds
use Rattle.attr_rules.specs.Rules.{is_single}
use Rattle.rag_io.specs.Pool.{ArePooled}
use Rattle.rag_io.proofs.Numbers.{same_number}
use Rattle.equation_law.specs.Equations.{HasValue, equations_of, kind_in}
use Rattle.equation_law.specs.Loops.{fits_in, join_in, order_in}
use Rattle.equation_law.specs.Names.{At, Instance, Null, Reference}
use Rattle.equation_law.specs.Program.{Program, text_of}
use Rattle.equation_law.specs.Values.{Value, has_node, nodes}
use Rattle.equation_law.proofs.Solution.{are_joins, are_rising, one}
use Rattle.memo_cells.specs.declared.view.View.{View}
use Rattle.memo_cells.specs.Agreeing.{HasCodeAt, HaveCodesAt, IsElementAt, IsReferenceAt}
use Rattle.memo_cells.specs.Keys.{set_word}
use Rattle.memo_cells.specs.Naming.{IsWordOf}
use Rattle.memo_cells.specs.Showing.{IsWordSeen, ShowsAtLeast, ShowsAtMost, ShowsCode}
use Rattle.memo_cells.specs.Standing.{AreApproximations, IsWordOfValue}
use Rattle.memo_cells.specs.Views.{Has, IsNowhere}
use Rattle.memo_cells.proofs.Agreeing.{IsOpen, has_stands, one_code}
use Rattle.memo_cells.proofs.Naming.{word_once}
use Rattle.memo_cells.proofs.Showing.{has_code_more, not_both}

module _ (p : Program) (v : View) (one_key : (s j k : ℕ) → Has v.keys (s, j) → Has v.keys (s, k) → j ≡ k) (one_place : (s t k : ℕ) → Has v.keys (s, k) → Has v.keys (t, k) → s ≡ t) (keyed : (s k n : ℕ) → Has v.bits (s, k, n) → Has v.keys (s, k)) (pooled : ArePooled p.texts) (by : IsOpen p v.made) where
  -- a word of a set has one key
  pub one_word_key : (k l : ℕ) (i : Instance) (w : ℕ) → IsWordOf p v k i w → IsWordOf p v l i w → k ≡ l
  one_word_key k l i w g h =
      let key : g.key ≡ h.key = word_once v one_key one_place p pooled by g.key h.key i g.stands h.stands in
      let slot : g.slot ≡ h.slot = one_place g.slot h.slot h.key (subst (λ (y : ℕ). Has v.keys (g.slot, y)) key g.there) h.there in
      g.is ∙ ap (λ (s : ℕ). set_word s w) slot ∙ sym h.is

  -- each of its bits
  code_seen : (k : ℕ) (i : Instance) (w x b : ℕ) → IsWordOf p v k i w → b < 64 → ((bit_at x b ≡ 1) → (s : ℕ) × Has v.bits (s, k, b)) → ((s : ℕ) → Has v.bits (s, k, b) → bit_at x b ≡ 1) → (bit_at x b ≡ 1) ↔ ShowsCode p v i (64 * w + b)
  code_seen k i w x b is few all only =
      let word : (64 * w + b) / 64 ≡ w = omega (arith, few) in
      let bit : (64 * w + b) % 64 ≡ b = omega (arith, few) in (
        (λ e.
            let at = all e in
            subst (λ (y : ℕ × ℕ). (l s : ℕ) × IsWordOf p v l i y.0 × Has v.bits (s, l, y.1)) (λ j. (sym word j, sym bit j)) (k, at.0, is, at.1)
            ),
        (λ h.
            let at : (l s : ℕ) × IsWordOf p v l i w × Has v.bits (s, l, b) = subst (λ (y : ℕ × ℕ). (l s : ℕ) × IsWordOf p v l i y.0 × Has v.bits (s, l, y.1)) (λ j. (word j, bit j)) h in
            only at.1 (subst (λ (l : ℕ). Has v.bits (at.1, l, b)) (one_word_key at.0 k i w at.2 is) at.3)
            ),
      )

  -- those of one that stands at a place
  pub word_seen : (k : ℕ) (i : Instance) (w x place : ℕ) → IsWordOf p v k i w → Has v.keys (place, k) → ((n : ℕ) → n < 64 → bit_at x n ≡ 1 → Has v.bits (place, k, n)) → ((n : ℕ) → Has v.bits (place, k, n) → bit_at x n ≡ 1) → (b : ℕ) → b < 64 → (bit_at x b ≡ 1) ↔ ShowsCode p v i (64 * w + b)
  word_seen k i w x place is there all only b few =
      code_seen k i w x b is few (λ e. (place, all b few e)) (λ s h. let same = one_place s place k (keyed s k b h) there in only b (subst (λ (y : ℕ). Has v.bits (y, k, b)) same h))

  -- and of one that stands nowhere
  pub word_unseen : (k : ℕ) (i : Instance) (w : ℕ) → IsWordOf p v k i w → IsNowhere v k → (b : ℕ) → b < 64 → (bit_at 0 b ≡ 1) ↔ ShowsCode p v i (64 * w + b)
  word_unseen k i w is nowhere b few = code_seen k i w 0 b is few (λ e. let none = bit_at-zero b in absurd (omega (arith, none, e))) (λ s h. absurd (nowhere s (keyed s k b h)))

-- a code of an element is the only one
same_text : (p : Program) (pooled : ArePooled p.texts) (c d : ℕ) → c < length p.texts → d < length p.texts → text_of p c ≡ text_of p d → c ≡ d
same_text p pooled c d v w e = (same_number p.texts c d (get_or p.texts c []) (get_or p.texts d []) pooled (slice_get-get_or p.texts c [] v) (slice_get-get_or p.texts d [] w)).0 e

node_shown : (p : Program) (v : View) → IsOpen p v.made → (i : Instance) (d : _) (x : Value) (c : ℕ) (r : Reference) → IsReferenceAt p v.made c r → ShowsAtLeast p v i (kinds.Nodes d) x → has_node (nodes x) r ≡ true → ShowsCode p v i c
node_shown p v by i d x c Null tied least h = cc
node_shown p v by i d x c (At n) tied least h = let s = least n h in subst (λ (k : ℕ). ShowsCode p v i k) (one_code p v.made by s.0 c (At n) s.1 tied) s.2

at_most_code : (p : Program) (v : View) (i : Instance) (k : Kind) (y : Value) (c : ℕ) → ShowsAtMost p v i k y → IsElementAt p v.made k c → ShowsCode p v i c → HasCodeAt p v.made k y c
at_most_code p v i kinds.Truth y c most code h = absurd code
at_most_code p v i kinds.Int y c most code h = absurd code
at_most_code p v i kinds.Text y c most code h = absurd code
at_most_code p v i (kinds.Node d) y c most code h = absurd code
at_most_code p v i kinds.Texts y c most code h = most c h
at_most_code p v i (kinds.Nodes d) y c most code h = most c h

-- the bits of a word that is seen of a set
pub codes_seen : (p : Program) (v : View) (i : Instance) (k : Kind) (w x : ℕ) → is_single k ≡ false → IsWordSeen p v i k w x → (b : ℕ) → b < 64 → (bit_at x b ≡ 1) ↔ ShowsCode p v i (64 * w + b)
codes_seen p v i kinds.Truth w x e h = absurd (not_both e refl)
codes_seen p v i kinds.Int w x e h = absurd (not_both e refl)
codes_seen p v i kinds.Text w x e h = absurd (not_both e refl)
codes_seen p v i (kinds.Node d) w x e h = absurd (not_both e refl)
codes_seen p v i kinds.Texts w x e h = h
codes_seen p v i (kinds.Nodes d) w x e h = h

-- the elements of what the words show whole have codes
module _ (p : Program) (v : View) (a : AreApproximations p v) (i : Instance) (x : Value) where
  pub codes_had : (k : Kind) → kind_in p i ≡ k → ShowsAtLeast p v i k x → HaveCodesAt p v.made k x
  codes_had kinds.Truth e least = tt
  codes_had kinds.Int e least = tt
  codes_had kinds.Text e least = tt
  codes_had (kinds.Node d) e least = tt
  codes_had kinds.Texts e least = λ t h. let s = least t h in (s.0, subst (λ (k : Kind). IsElementAt p v.made k s.0) e (a.codes i s.0 s.2), s.1)
  codes_had (kinds.Nodes d) e least = λ n h. let s = least n h in (s.0, subst (λ (k : Kind). IsElementAt p v.made k s.0) e (a.codes i s.0 s.2), s.1)

module _ (p : Program) (v : View) (pooled : ArePooled p.texts) (by : IsOpen p v.made) (a : AreApproximations p v) (i : Instance) (x : Value) (has : HasValue p i x) where
  -- what is shown is in the value
  pub shown_in : (c : ℕ) → ShowsCode p v i c → HasCodeAt p v.made (kind_in p i) x c
  shown_in c h =
      elim ((equations_of p).circular i) as (λ b. (equations_of p).circular i ≡ b → HasCodeAt p v.made (kind_in p i) x c) [
        | true ↦ λ e.
            let low = lower_below (equations_of p) (order_in p) (fits_in p) (join_in p) (are_rising p) (are_joins p) a.values a.lower i x e has in
            has_code_more p v.made (kind_in p i) (a.values i) x c low (at_most_code p v i (kind_in p i) (a.values i) c (a.circular i e) (a.codes i c h) h)
        | false ↦ λ e. let s = a.undeclared i c e h in subst (λ (y : Value). HasCodeAt p v.made (kind_in p i) y c) (one p i s.0 x s.1 has) s.2
      ] refl

  -- and what is in the value is shown, where the words show it whole
  in_shown : (k : Kind) → kind_in p i ≡ k → ShowsAtLeast p v i k x → (c : ℕ) → IsElementAt p v.made k c → HasCodeAt p v.made k x c → ShowsCode p v i c
  in_shown kinds.Truth e least c code h = absurd code
  in_shown kinds.Int e least c code h = absurd code
  in_shown kinds.Text e least c code h = absurd code
  in_shown (kinds.Node d) e least c code h = absurd code
  in_shown kinds.Texts e least c code h =
      let s = least (text_of p c) h in
      let its : IsElementAt p v.made kinds.Texts s.0 = subst (λ (k : Kind). IsElementAt p v.made k s.0) e (a.codes i s.0 s.2) in
      subst (λ (d : ℕ). ShowsCode p v i d) (same_text p pooled s.0 c its code s.1) s.2
  in_shown (kinds.Nodes d) e least c code h = node_shown p v by i d x c code.1.0 code.1.1 least (has_stands p v.made by x c code.1.0 d code.1.1 h)

  -- so a word of it is one of the value
  pub word_of_value : (w word : ℕ) → is_single (kind_in p i) ≡ false → ShowsAtLeast p v i (kind_in p i) x → ((b : ℕ) → b < 64 → (bit_at word b ≡ 1) ↔ ShowsCode p v i (64 * w + b)) → IsWordOfValue p v.made i w word
  word_of_value w word set least shown = record {
    value = x;
    has = has;
    bits = λ _ b low code. ((λ e. shown_in (64 * w + b) ((shown b low).0 e)), (λ h. (shown b low).1 (in_shown (kind_in p i) refl least (64 * w + b) code h)));
    tells = λ kind. absurd (not_both set (ap is_single kind));
  }
