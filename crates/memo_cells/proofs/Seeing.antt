-- What a word that was read says of an instance.
use Rattle.std.proofs.Common.{◌≡◌, ◌≢◌, ◌↔◌, ℕ, false, ◌+◌, ◌*◌, ◌%◌, ◌<◌, ◌^◌, inr, List, refl, sym, ap, ◌∙◌, subst, arith}
use mir.Syntax.{w64}
use Rattle.std.specs.Int.{bit_at, trailing_zeros}
use Rattle.std.proofs.lemmas.Nat.Bits.{bit_at-trailing_zeros, bit_at_lowest}
use Rattle.attr_rules.specs.declared.kinds.Kind.{Kind}
use Rattle.attr_rules.specs.declared.kinds.Kind.TheVariants as kinds
use Rattle.attr_rules.specs.Rules.{is_single}
use Rattle.rag_io.specs.Pool.{ArePooled}
use Rattle.equation_law.specs.declared.coding.Instance.{Instance as CodedInstance}
use Rattle.equation_law.specs.Equations.{kind_in}
use Rattle.equation_law.specs.Names.{Instance}
use Rattle.equation_law.specs.Program.{Program}
use Rattle.memo_cells.specs.declared.view.Frame.{Frame}
use Rattle.memo_cells.specs.declared.view.View.{View}
use Rattle.memo_cells.specs.Agreeing.{IsElementAt}
use Rattle.memo_cells.specs.Keys.{set_word}
use Rattle.memo_cells.specs.Naming.{IsCellOf, IsFormed, IsWordOf, StandsFor}
use Rattle.memo_cells.specs.Showing.{IsWordSeen, ShowsCode, ShowsTrue}
use Rattle.memo_cells.specs.Standing.{HasWord, IsPassOf, MayAdd, MayRaiseSet, MayRaiseTruth}
use Rattle.memo_cells.specs.Steps.{BitsAdded, BitsSeen}
use Rattle.memo_cells.specs.Views.{Has, IsAtLeast, IsNowhere}
use Rattle.memo_cells.proofs.Adding.{bit_of_one}
use Rattle.memo_cells.proofs.Agreeing.{IsOpen}
use Rattle.memo_cells.proofs.Lifting.{elements_later, may_show_later}
use Rattle.memo_cells.proofs.Meaning.{set_bits, some_bits}
use Rattle.memo_cells.proofs.Naming.{set_is_word, stands_later, stands_once, word_later, word_once}
use Rattle.memo_cells.proofs.Showing.{not_both}
use Rattle.memo_cells.proofs.ValueWords.{word_seen, word_unseen}

-- a type that has elements is that of a set
pub element_set : (p : Program) (ms : List CodedInstance) (k : Kind) (c : ℕ) → IsElementAt p ms k c → is_single k ≡ false
element_set p ms kinds.Truth c h = absurd h
element_set p ms kinds.Int c h = absurd h
element_set p ms kinds.Text c h = absurd h
element_set p ms (kinds.Node d) c h = absurd h
element_set p ms kinds.Texts c h = refl
element_set p ms (kinds.Nodes d) c h = refl

module _ (p : Program) (f : Frame) (v : View) (own : IsPassOf f v) (pooled : ArePooled p.texts) (by : IsOpen p v.made) (i : Instance) (slot : ℕ) (cell : IsCellOf p f v i slot) where
  -- the cell of an instance has one place and key
  one_cell : (k s : ℕ) → StandsFor p v k i → Has v.keys (s, k) → (k ≡ cell.0) × (s ≡ slot)
  one_cell k s stands there =
      let key = word_once v own.one_key own.one_place p pooled by k cell.0 i stands cell.2 in
      (key, own.one_place s slot cell.0 (subst (λ (y : ℕ). Has v.keys (s, y)) key there) cell.1.1)

  -- that of a truth value
  true_seen : (u : View) (x : ℕ) → BitsSeen p u v slot x → (x % 2 ≡ 1) ↔ ShowsTrue p v i
  true_seen u x seen =
      let low = bit_at_lowest x in (
        (λ e. (cell.0, slot, cell.2, seen.all cell.0 0 (subst (λ (l : List (ℕ × ℕ)). Has l (slot, cell.0)) seen.keys cell.1.1) (some_bits cell.0) (low ∙ e))),
        (λ h.
            let same = one_cell h.0 h.1 h.2 (own.keyed h.1 h.0 0 h.3) in
            let bit = seen.only h.0 0 (subst (λ (s : ℕ). Has v.bits (s, h.0, 0)) same.1 h.3) in
            sym low ∙ bit
            ),
      )

  pub truth_seen : (u : View) (w x : ℕ) → kind_in p i ≡ kinds.Truth → BitsSeen p u v slot x → IsWordSeen p v i (kind_in p i) w (x % 2)
  truth_seen u w x kind seen = subst (λ (k : Kind). IsWordSeen p v i k w (x % 2)) (sym kind) (omega arith, true_seen u x seen)

  -- the key of a word of its set
  pub word_key : (w : ℕ) → slot < 2 ^ 29 → w < 2 ^ 32 → IsWordOf p v (set_word slot w) i w
  word_key w low small = record { slot = slot; key = cell.0; there = cell.1.1; stands = cell.2; low = low; small = small; is = refl }

  by_set : (k : Kind) (w x : ℕ) → is_single k ≡ false → ((b : ℕ) → b < 64 → (bit_at x b ≡ 1) ↔ ShowsCode p v i (64 * w + b)) → IsWordSeen p v i k w x
  by_set kinds.Truth w x e h = absurd (not_both e refl)
  by_set kinds.Int w x e h = absurd (not_both e refl)
  by_set kinds.Text w x e h = absurd (not_both e refl)
  by_set (kinds.Node d) w x e h = absurd (not_both e refl)
  by_set kinds.Texts w x e h = h
  by_set (kinds.Nodes d) w x e h = h

  pub set_seen : (u : View) (w x place : ℕ) → is_single (kind_in p i) ≡ false → slot < 2 ^ 29 → w < 2 ^ 32 → Has u.keys (place, set_word slot w) → Has v.keys (place, set_word slot w) → BitsSeen p u v place x → IsWordSeen p v i (kind_in p i) w x
  set_seen u w x place set low small before after seen =
      by_set (kind_in p i) w x set
      (word_seen p v own.one_key own.one_place own.keyed pooled by (set_word slot w) i w x place (word_key w low small) after (λ n few e. seen.all (set_word slot w) n before (set_bits (set_word slot w) n (set_is_word slot w low small) few) e) (λ n h. seen.only (set_word slot w) n h))

  pub none_seen : (w : ℕ) → is_single (kind_in p i) ≡ false → slot < 2 ^ 29 → w < 2 ^ 32 → IsNowhere v (set_word slot w) → IsWordSeen p v i (kind_in p i) w 0
  none_seen w set low small nowhere = by_set (kind_in p i) w 0 set (word_unseen p v own.one_key own.one_place own.keyed pooled by (set_word slot w) i w (word_key w low small) nowhere)

-- some bit of a number that isn't 0 is set
pub some_bit : (x : ℕ) → x ≢ 0 → x < 2 ^ 64 → (b : ℕ) × (b < 64) × (bit_at x b ≡ 1)
some_bit x nz small = let t = bit_at-trailing_zeros w64 x (omega (arith, nz)) small in (trailing_zeros w64 x, t.0, t.1)

module _ (p : Program) (f : Frame) (u : View) where
  -- the key of a word that may have some bits
  pub word_of_raised : (slot w bits : ℕ) → slot < 2 ^ 29 → w < 2 ^ 32 → (may : MayRaiseSet p u slot w bits) → IsWordOf p u (set_word slot w) may.of w
  word_of_raised slot w bits low small may = record { slot = slot; key = may.key; there = may.here; stands = may.stands; low = low; small = small; is = refl }

  pub formed_word : (slot w bits : ℕ) → slot < 2 ^ 29 → w < 2 ^ 32 → bits ≢ 0 → bits < 2 ^ 64 → MayRaiseSet p u slot w bits → IsFormed p u (set_word slot w)
  formed_word slot w bits low small nz fits may =
      let b = some_bit bits nz fits in
      inr (record { of = may.of; instance = may.instance; word = w; key = word_of_raised slot w bits low small may; code = 64 * w + b.0; element = (may.elements b.0 b.1 b.2).0; lies = omega (arith, b.1) })

  -- what is raised is a set
  pub raised_kind : (slot w bits : ℕ) → bits ≢ 0 → bits < 2 ^ 64 → (may : MayRaiseSet p u slot w bits) → is_single (kind_in p may.of) ≡ false
  raised_kind slot w bits nz fits may = let b = some_bit bits nz fits in element_set p u.made (kind_in p may.of) (64 * w + b.0) (may.elements b.0 b.1 b.2).0

  module _ (v : View) (kept : IsAtLeast u v) where
    pub may_add : (slot w bits place : ℕ) → slot < 2 ^ 29 → w < 2 ^ 32 → MayRaiseSet p u slot w bits → Has v.keys (place, set_word slot w) → MayAdd p v place bits
    may_add slot w bits place low small may there = record {
      of = may.of;
      key = set_word slot w;
      word = w;
      here = there;
      is = word_later u v kept p (set_word slot w) may.of w (word_of_raised slot w bits low small may);
      value = may.value;
      may = may_show_later p u v kept may.of may.value may.may;
      elements = elements_later p u v kept may.of may.value w bits may.elements;
    }

    module _ (own : IsPassOf f v) (pooled : ArePooled p.texts) (by : IsOpen p v.made) where
      -- the instance of a slot stays the same
      pub same_there : (slot k : ℕ) (i j : Instance) → Has u.keys (slot, k) → StandsFor p u k j → IsCellOf p f v i slot → i ≡ j
      same_there slot k i j there stands cell =
          let key = own.one_key slot cell.0 k cell.1.1 (kept.keys slot k there) in
          stands_once v own.one_key p by k i j (subst (λ (y : ℕ). StandsFor p v y i) key cell.2) (stands_later u v kept p k j stands)

      pub has_truth : (slot x : ℕ) → MayRaiseTruth p u slot → BitsAdded p u v slot 1 x → HasWord p f v slot 0 1 (x % 2)
      has_truth slot x may added = record {
        seen = λ i cell. let same = same_there slot may.key i may.of may.here may.stands cell in truth_seen p f v own pooled by i slot cell u 0 x (ap (kind_in p) same ∙ may.kind) added.seen;
        added = λ b e.
            let zero = bit_of_one b e in
            let low = bit_at_lowest x in
            let half = bit_at_lowest (x % 2) in
            let one = added.added 0 (ap (bit_at 1) (sym zero) ∙ e) in
            ap (bit_at (x % 2)) zero ∙ omega (arith, low, half, one);
      }

      pub has_set : (t : View) (slot w bits place x : ℕ) → slot < 2 ^ 29 → w < 2 ^ 32 → bits ≢ 0 → bits < 2 ^ 64 → MayRaiseSet p u slot w bits → Has t.keys (place, set_word slot w) → IsAtLeast t v → BitsAdded p t v place bits x → HasWord p f v slot w bits x
      has_set t slot w bits place x low small nz fits may there more added = record {
        seen = λ i cell.
            let same = same_there slot may.key i may.of may.here may.stands cell in
            set_seen p f v own pooled by i slot cell t w x place (ap (λ (j : Instance). is_single (kind_in p j)) same ∙ raised_kind slot w bits nz fits may) low small there (more.keys place (set_word slot w) there) added.seen;
        added = added.added;
      }
