-- The codes that the words show are read word by word.
use Rattle.std.proofs.Common.{◌≡◌, ◌↔◌, ℕ, true, false, ◌+◌, ◌*◌, ◌<◌, ◌≤◌, ◌/◌, ◌%◌, inl, ⊎_elim, List, [], sym, subst, arith}
use mathlib.Core.Logic.{dite}
use native.Mathlib.Decide.{ℕ_discrete}
use Rattle.std.specs.Int.{bit_at}
use Rattle.std.proofs.lemmas.Nat.Bits.{bit_at-zero}
use Rattle.code_sets.specs.Members.{has_code}
use Rattle.attr_rules.specs.Rules.{is_single}
use Rattle.equation_law.specs.declared.coding.Instance.{Instance as CodedInstance}
use Rattle.equation_law.specs.Equations.{HasValue, kind_in}
use Rattle.equation_law.specs.Names.{Instance}
use Rattle.equation_law.specs.Program.{Program}
use Rattle.equation_law.specs.Values.{Value}
use Rattle.equation_law.proofs.Solution.{one}
use Rattle.memo_cells.specs.declared.view.Frame.{Frame}
use Rattle.memo_cells.specs.declared.view.View.{View}
use Rattle.memo_cells.specs.Agreeing.{HasCodeAt, HaveCodesAt, IsElementAt}
use Rattle.memo_cells.specs.Naming.{IsCellOf}
use Rattle.memo_cells.specs.Showing.{ShowsCode}
use Rattle.memo_cells.specs.Views.{IsAtLeast}
use Rattle.memo_cells.specs.Working.{HasKnownWordAt, Held, IsOwn, ReadsOn, ShowsWordAt, program_at}
use Rattle.memo_cells.proofs.Agreeing.{element_later, has_code_later}
use Rattle.memo_cells.proofs.Holding.{reads_itself, reads_then}
use Rattle.memo_cells.proofs.Naming.{cell_later, knows_later}
use Rattle.memo_cells.proofs.Showing.{shown_later}
use Rattle.memo_cells.proofs.ValueWords.{codes_seen}
use Rattle.memo_cells.specs.SetShown.{AddsWord, AreCodesShown, AreCodesShownAt}
use Rattle.memo_cells.specs.Standing.{HasKnownWord, IsCodeOf, IsWordOfValue, Knows, ShowsWord}

-- as `AreSettledCodes`, of the words below n
pub record AreSettledBelow (p : Program) (ms : List CodedInstance) (i : Instance) (from to n : ℕ) (cs : List ℕ) : Type 0 where
  pub value : Value
  pub has : HasValue p i value
  pub elements : HaveCodesAt p ms (kind_in p i) value
  pub all : (c : ℕ) → from ≤ c → c < to → c / 64 < n → IsElementAt p ms (kind_in p i) c → HasCodeAt p ms (kind_in p i) value c → has_code cs c ≡ true

-- as `AreCodesShown`, of the words below n
pub record AreShownBelow (p : Program) (before now : View) (i : Instance) (from to n : ℕ) (cs : List ℕ) : Type 0 where
  pub least : (c : ℕ) → has_code cs c ≡ true → from ≤ c
  pub below : (c : ℕ) → has_code cs c ≡ true → c < to
  pub shown : (c : ℕ) → has_code cs c ≡ true → ShowsCode p now i c
  pub all : (c : ℕ) → from ≤ c → c < to → c / 64 < n → ShowsCode p before i c → has_code cs c ≡ true
  pub settled : Knows p before i → AreSettledBelow p before.made i from to n cs

-- a code lies in no word before that of a smaller one
before_first : (from c : ℕ) → from ≤ c → c / 64 < from / 64 → ⊥
before_first from c l lt = omega (arith, l, lt)

-- what is seen settled is coded
abbrev AreCoded : Program → View → Instance → Type 0
AreCoded p v i = Knows p v i → (c : ℕ) × IsCodeOf p v.made i c

shown_none : (p : Program) (v : View) (i : Instance) (from to : ℕ) → AreCoded p v i → AreShownBelow p v v i from to (from / 64) []
shown_none p v i from to coded = record {
  least = λ c h. cc;
  below = λ c h. cc;
  shown = λ c h. cc;
  all = λ c l b lt h. absurd (before_first from c l lt);
  settled = λ k. let code = (coded k).1 in record { value = code.value; has = code.has; elements = code.elements; all = λ c l b lt e h. absurd (before_first from c l lt) };
}

-- a word without bits adds no code
pub adds_none : (word from to : ℕ) (cs : List ℕ) → AddsWord word 0 from to cs cs
adds_none word from to cs = record { kept = λ c h. h; added = λ c w. let none = bit_at-zero (c % 64) in let bit = w.bit in absurd (omega (arith, none, bit)); only = λ c h. inl h }

module _ (p : Program) (before now later : View) (early : IsAtLeast before now) (kept : IsAtLeast before later) (more : IsAtLeast now later) (i : Instance) (from to n bits : ℕ) (cs next : List ℕ) where
  -- so all elements of a settled value are there up to this word
  settled_next : AreSettledBelow p before.made i from to n cs → is_single (kind_in p i) ≡ false → IsWordOfValue p now.made i n bits → AddsWord n bits from to cs next → AreSettledBelow p before.made i from to (n + 1) next
  settled_next so_far set word adds = record {
    value = so_far.value;
    has = so_far.has;
    elements = so_far.elements;
    all = λ c l b lt e h.
        dite (ℕ_discrete (c / 64) n)
        (λ lies.
        let at : 64 * n + c % 64 ≡ c = omega (arith, lies) in
        let code : IsElementAt p now.made (kind_in p i) (64 * n + c % 64) = subst (λ (y : ℕ). IsElementAt p now.made (kind_in p i) y) (sym at) (element_later p early.made (kind_in p i) c e) in
        let there : HasCodeAt p now.made (kind_in p i) word.value (64 * n + c % 64) =
        subst (λ (y : Value × ℕ). HasCodeAt p now.made (kind_in p i) y.0 y.1) (λ j. (one p i so_far.value word.value so_far.has word.has j, sym at j)) (has_code_later p early.made (kind_in p i) so_far.value c h) in
        adds.added c (record { lies = lies; least = l; below = b; bit = (word.bits set (c % 64) (omega arith) code).1 there }))
        (λ apart. adds.kept c (so_far.all c l b (omega (arith, lt, apart)) e h));
  }

  -- one word more
  shown_next : AreShownBelow p before now i from to n cs → is_single (kind_in p i) ≡ false → ((b : ℕ) → b < 64 → (bit_at bits b ≡ 1) ↔ ShowsCode p later i (64 * n + b)) → (Knows p before i → IsWordOfValue p now.made i n bits) → AddsWord n bits from to cs next → AreShownBelow p before later i from to (n + 1) next
  shown_next so_far set word known adds = record {
    settled = λ k. settled_next (so_far.settled k) set (known k) adds;
    least = λ c h. ⊎_elim (so_far.least c) (λ w. w.least) (adds.only c h);
    below = λ c h. ⊎_elim (so_far.below c) (λ w. w.below) (adds.only c h);
    shown = λ c h.
        ⊎_elim (λ old. shown_later p now later more i c (so_far.shown c old))
        (λ w. let lies = w.lies in let at : 64 * n + c % 64 ≡ c = omega (arith, lies) in subst (ShowsCode p later i) at ((word (c % 64) (omega arith)).0 w.bit)) (adds.only c h);
    all = λ c l b lt h.
        dite (ℕ_discrete (c / 64) n)
        (λ lies.
        let at : 64 * n + c % 64 ≡ c = omega (arith, lies) in
        let bit : bit_at bits (c % 64) ≡ 1 = (word (c % 64) (omega arith)).1 (subst (ShowsCode p later i) (sym at) (shown_later p before later kept i c h)) in
        adds.added c (record { lies = lies; least = l; below = b; bit = bit }))
        (λ apart. adds.kept c (so_far.all c l b (omega (arith, lt, apart)) h));
  }

-- what a loop over the words keeps: d is what was held first, and e what is held now
pub record ReadsBelow (d e : Held) (place from to n : ℕ) (cs : List ℕ) : Type 0 where
  pub on : ReadsOn d e
  pub shown : (i : Instance) → IsCellOf (program_at d) d.frame d.view i place → is_single (kind_in (program_at d) i) ≡ false → AreShownBelow (program_at d) d.view e.view i from to n cs

pub reads_none : (d : Held) (place from to : ℕ) → IsOwn d → ReadsBelow d d place from to (from / 64) []
reads_none d place from to own = record { on = reads_itself d own; shown = λ i cell set. shown_none (program_at d) d.view i from to (λ k. (k.code, own.coded k.slot k.key k.code k.settled i k.stands)) }

-- a word that was read at e, and held as g then
module _ (d e g : Held) (place from to n bits : ℕ) (cs next : List ℕ) (so_far : ReadsBelow d e place from to n cs) (on : ReadsOn e g) (word : ShowsWordAt e g place n bits) (settled : HasKnownWordAt e g place n bits) where
  both : ReadsOn d g
  both = reads_then d e g so_far.on on

  -- the same at the cells that were held first
  word_first : ShowsWord d.frame g.view place n bits
  word_first = subst (λ (f : Frame). ShowsWord f g.view place n bits) so_far.on.on.cells word

  known_first : HasKnownWord d.frame e.view g.view place n bits
  known_first = subst (λ (f : Frame). HasKnownWord f e.view g.view place n bits) so_far.on.on.cells settled

  pub reads_next : AddsWord n bits from to cs next → ReadsBelow d g place from to (n + 1) next
  reads_next adds = record {
    on = both;
    shown = λ i cell set.
        let there = cell_later d.view g.view both.on.kept (program_at d) d.frame i place cell in
        shown_next (program_at d) d.view e.view g.view so_far.on.on.kept both.on.kept on.on.kept i from to n bits cs next (so_far.shown i cell set) set
        (codes_seen (program_at d) g.view i (kind_in (program_at d) i) n bits set (word_first i there)) (λ k. known_first i there (knows_later d.view e.view so_far.on.on.kept (program_at d) i k)) adds;
  }

-- all words that codes below the end lie in
pub shown_all : (p : Program) (before now : View) (i : Instance) (from to n : ℕ) (cs : List ℕ) → (to ≤ 64 * n) → AreShownBelow p before now i from to n cs → AreCodesShown p before now i from to cs
shown_all p before now i from to n cs end h = record { least = h.least; below = h.below; shown = h.shown; all = λ c l b s. h.all c l b (omega (arith, b, end)) s; settled = λ k. let s = h.settled k in record { value = s.value; has = s.has; elements = s.elements; all = λ c l b e t. s.all c l b (omega (arith, b, end)) e t } }

-- there is no code from one on, below one that isn't greater
pub shown_nowhere : (p : Program) (v : View) (i : Instance) (from to : ℕ) → AreCoded p v i → to ≤ from → AreCodesShown p v v i from to []
shown_nowhere p v i from to coded end = record {
  least = λ c h. cc;
  below = λ c h. cc;
  shown = λ c h. cc;
  all = λ c l b h. absurd (omega (arith, end, l, b));
  settled = λ k. let code = (coded k).1 in record { value = code.value; has = code.has; elements = code.elements; all = λ c l b e h. absurd (omega (arith, end, l, b)) };
}

-- of what is held
pub none_shown : (d : Held) (place from to : ℕ) → IsOwn d → to ≤ from → AreCodesShownAt d d place from to []
none_shown d place from to own end i cell set = shown_nowhere (program_at d) d.view i from to (λ k. (k.code, own.coded k.slot k.key k.code k.settled i k.stands)) end
