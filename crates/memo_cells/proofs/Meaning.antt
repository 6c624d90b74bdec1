-- What a pass knows that has the words of a program: what is shown lies below the lower assignment and the solution, and a settled value is
-- shown whole.
use Rattle.std.proofs.Common.{◌≡◌, ◌≢◌, ℕ, true, false, not, ◌+◌, ◌*◌, ◌/◌, ◌%◌, ◌^◌, ◌<◌, ◌≤◌, ⊎_elim, List, length, get_or, refl, sym, ap, ◌∙◌, subst, arith, eqb, ne_eqb, if◌then◌else◌}
use mathlib.Core.Logic.{dite}
use native.Mathlib.Decide.{ℕ_discrete}
use Rattle.std.specs.Int.{bit_at}
use Rattle.std.proofs.lemmas.Nat.Bits.{bit_at-zero, bit_at_lowest}
use Rattle.attr_rules.specs.declared.kinds.Kind.{Kind}
use Rattle.attr_rules.specs.declared.kinds.Kind.TheVariants as kinds
use Rattle.attr_rules.specs.Rules.{is_single}
use Rattle.equation_law.specs.declared.coding.Instance.{Instance as CodedInstance}
use Rattle.equation_law.specs.Codes.{IsSmall, value_at}
use Rattle.equation_law.specs.Equations.{HasValue, equations_of, kind_in}
use Rattle.equation_law.specs.Names.{Instance}
use Rattle.equation_law.specs.Program.{Program, text_of}
use Rattle.equation_law.specs.Systems.{program_of}
use Rattle.equation_law.specs.Loops.{order_in}
use Rattle.equation_law.specs.Values.{Value, as_kind, truth}
use Rattle.equation_law.proofs.Solution.{one}
use Rattle.memo_cells.specs.declared.view.Frame.{Frame}
use Rattle.memo_cells.specs.declared.view.View.{View}
use Rattle.made_trees.specs.Made.{naming_by_makers}
use Rattle.memo_cells.specs.Agreeing.{HasCodeAt, IsElementAt, IsValueCodeAt}
use Rattle.memo_cells.specs.Keys.{is_set_word}
use Rattle.memo_cells.specs.Naming.{StandsFor}
use Rattle.memo_cells.specs.Showing.{ShowsAtLeast, ShowsAtMost, ShowsCode, ShowsTrue}
use Rattle.memo_cells.specs.Standing.{AreApproximations, AreWords, IsCodeOf, IsElement, IsFinal, IsPart, IsRaised, Knows}
use Rattle.memo_cells.specs.Views.{Has, knows_all, shown_bits}
use Rattle.memo_cells.specs.Words.{IsCoded}
use Rattle.memo_cells.proofs.Agreeing.{IsOpen, trees_open}
use Rattle.memo_cells.proofs.Bits.{bits_has, has_bits}
use Rattle.memo_cells.proofs.Naming.{stands_once, stands_plain, word_of_once, word_set}
use Rattle.memo_cells.proofs.Places.{has_keys, has_values, keys_has}
use Rattle.memo_cells.proofs.Showing.{not_both}

-- a word with a bit isn't 0
pub some_word : (x b : ℕ) → bit_at x b ≡ 1 → x ≢ 0
some_word x b e z = let none : bit_at x b ≡ 0 = ap (λ (y : ℕ). bit_at y b) z ∙ bit_at-zero b in omega (arith, e, none)

-- the lowest bit of each key counts
pub some_bits : (k : ℕ) → 0 < shown_bits k
some_bits k = elim (is_set_word k) as (λ b. 0 < (if b then 64 else 1)) [ true ↦ omega arith | false ↦ omega arith ]

-- and 64 bits of that of a word of a set
pub set_bits : (k b : ℕ) → is_set_word k ≡ true → b < 64 → b < shown_bits k
set_bits k b set low = let all : shown_bits k ≡ 64 = ap (λ t. if◌then◌else◌ t 64 1) set in omega (arith, all, low)

-- the code of a truth value
module _ (p : Program) (ms : List CodedInstance) (by : IsOpen p ms) (i : Instance) (c : ℕ) (code : IsCodeOf p ms i c) (kind : kind_in p i ≡ kinds.Truth) where
  at_truth : (value_at (text_of p) kinds.Truth c ≡ as_kind kinds.Truth code.value) × (c ≤ 1)
  at_truth =
      let both : ((is_single kinds.Truth ≡ true) → IsValueCodeAt p ms kinds.Truth c (as_kind kinds.Truth code.value)) × IsSmall kinds.Truth c
      = subst (λ (k : Kind). (is_single k ≡ true → IsValueCodeAt p ms k c (as_kind k code.value)) × IsSmall k c) kind (code.coded, code.small) in
      (both.0 refl (naming_by_makers p ms) by, both.1)

  pub code_true : c % 2 ≡ 1 → truth code.value ≡ true
  code_true odd =
      let one : c ≡ 1 = omega (arith, odd, at_truth.1) in
      let is : not (eqb c 0) ≡ truth code.value = ap truth at_truth.0 in
      sym is ∙ ap not (ne_eqb c 0 (λ z. omega (arith, one, z)))

  pub true_code : truth code.value ≡ true → c ≡ 1
  true_code e =
      let is : not (eqb c 0) ≡ truth code.value = ap truth at_truth.0 in
      dite (ℕ_discrete c 0) (λ z. let no : not (eqb c 0) ≡ false = ap (λ (y : ℕ). not (eqb y 0)) z in absurd (not_both no (is ∙ e))) (λ nz. omega (arith, nz, at_truth.1))

module _ (f : Frame) (ms : List CodedInstance) (ts ks vs : List ℕ) (lk : length ks ≡ f.cells) (lv : length vs ≡ f.cells) (o : AreWords f ms ts ks vs) where
  abbrev p : Program
  p = program_of f.system.value

  abbrev v : View
  v = knows_all f ms ts ks vs

  pub by_words : IsOpen p ms
  by_words = trees_open f ms o.trees

  -- at a place stands one key
  pub one_there : (s j k : ℕ) → Has v.keys (s, j) → Has v.keys (s, k) → j ≡ k
  one_there s j k g h =
      let t = has_keys ks 0 s j g in
      let u = has_keys ks 0 s k h in
      let here : t.1.0 ≡ u.1.0 = omega (arith, t.1.2, u.1.2) in
      sym t.1.3 ∙ ap (λ y. get_or ks y 0) here ∙ u.1.3

  -- what codes a value at the place of a key
  coded_at : (i k : ℕ) → i < f.cells → get_or ks i 0 ≡ k → is_set_word k ≡ false → get_or vs i 0 ≢ 0 → IsCoded (IsFinal p v o.values) (IsRaised p v o.values) k (get_or vs i 0)
  coded_at i k lt e plain nz = subst (λ (y : ℕ). IsCoded (IsFinal p v o.values) (IsRaised p v o.values) y (get_or vs i 0)) e (o.ordered.coded i lt (ap is_set_word e ∙ plain) nz)

  -- a settled value, at its place
  pub final_at : (s k c : ℕ) → Has v.values (s, k, c) → IsFinal p v o.values k c
  final_at s k c h =
      let t = has_values ks vs 0 s k c h in
      let word = t.5 in
      ⊎_elim (λ x. let same : x.0 ≡ c = omega (arith, x.1, word) in subst (λ (y : ℕ). IsFinal p v o.values k y) same x.2) (λ x. absurd (omega (arith, x.0, word)))
      (coded_at t.0 k (omega (arith, t.1, lk)) t.4 t.6 (λ z. omega (arith, z, word)))

  -- the lowest bit of a word without a mark is that of its code
  lowest : (x c : ℕ) → x ≡ c + 2 ^ 63 → bit_at x 0 ≡ 1 → c % 2 ≡ 1
  lowest x c e one = let low = bit_at_lowest x in omega (arith, e, one, low)

  -- a bit has a key
  pub bit_keyed : (s k n : ℕ) → Has v.bits (s, k, n) → Has v.keys (s, k)
  bit_keyed s k n h =
      let t = has_bits ks vs 0 s k n h in
      let there = o.ordered.keyed t.0 (omega (arith, t.1, lk)) (some_word (get_or vs t.0 0) n t.6) in
      keys_has ks 0 t.0 s k t.1 t.4 (λ z. there (t.4 ∙ z)) t.3

  true_below : (i : Instance) → (equations_of p).circular i ≡ true → kind_in p i ≡ kinds.Truth → ShowsTrue p v i → truth (o.values i) ≡ true
  true_below i circular kind h =
      let t = has_bits ks vs 0 h.1 h.0 0 h.3 in
      ⊎_elim
      (λ x.
      let of : x.2.settled.of ≡ i = stands_once v one_there p by_words h.0 x.2.settled.of i x.2.settled.stands h.2 in
      let back = sym of in
      let is_kind : kind_in p x.2.settled.of ≡ kinds.Truth = ap (kind_in p) of ∙ kind in
      let is_circular : (equations_of p).circular x.2.settled.of ≡ true = ap (equations_of p).circular of ∙ circular in
      let yes = code_true p ms by_words x.2.settled.of x.0 x.2.settled.code is_kind (lowest (get_or vs t.0 0) x.0 x.1 t.6) in
      subst (λ (j : Instance). truth (o.values j) ≡ true) of ((x.2.lower is_circular).in_truth yes)
      )
      (λ x. subst (λ (j : Instance). truth (o.values j) ≡ true) (stands_once v one_there p by_words h.0 x.1.of i x.1.stands h.2) x.1.is_true)
      (coded_at t.0 h.0 (omega (arith, t.1, lk)) t.4 (stands_plain p v h.0 i h.2) (some_word (get_or vs t.0 0) 0 t.6))

  -- an undeclared truth value is shown only once it is settled
  undeclared_true : (i : Instance) → (equations_of p).circular i ≡ false → kind_in p i ≡ kinds.Truth → ShowsTrue p v i → (x : Value) × HasValue p i x × (truth x ≡ true)
  undeclared_true i plain kind h =
      let t = has_bits ks vs 0 h.1 h.0 0 h.3 in
      ⊎_elim
      (λ x.
      let of : x.2.settled.of ≡ i = stands_once v one_there p by_words h.0 x.2.settled.of i x.2.settled.stands h.2 in
      let is_kind : kind_in p x.2.settled.of ≡ kinds.Truth = ap (kind_in p) of ∙ kind in
      let yes = code_true p ms by_words x.2.settled.of x.0 x.2.settled.code is_kind (lowest (get_or vs t.0 0) x.0 x.1 t.6) in
      subst (λ (j : Instance). (y : Value) × HasValue p j y × (truth y ≡ true)) of (x.2.settled.code.value, x.2.settled.code.has, yes)
      )
      (λ x.
      let of : x.1.of ≡ i = stands_once v one_there p by_words h.0 x.1.of i x.1.stands h.2 in
      absurd (not_both plain (ap (equations_of p).circular (sym of) ∙ x.1.is_circular))
      )
      (coded_at t.0 h.0 (omega (arith, t.1, lk)) t.4 (stands_plain p v h.0 i h.2) (some_word (get_or vs t.0 0) 0 t.6))

  -- an element that is shown
  both_shown : (i : Instance) (c : ℕ) → ShowsCode p v i c → IsPart p ms o.values i c × IsElementAt p ms (kind_in p i) c
  both_shown i c h =
      let t = has_bits ks vs 0 h.1 h.0 (c % 64) h.3 in
      let set = word_set p v h.0 i (c / 64) h.2 in
      let at : IsElement p v o.values h.0 (c % 64) = subst (λ (y : ℕ). IsElement p v o.values y (c % 64)) t.4 (o.ordered.elements t.0 (c % 64) (omega (arith, t.1, lk)) (ap is_set_word t.4 ∙ set) (omega arith) t.6) in
      let same = word_of_once v one_there p by_words h.0 at.of i at.word (c / 64) at.key h.2 in
      let code : 64 * at.word + c % 64 ≡ c = omega (arith, same.1) in
      subst (λ (y : Instance × ℕ). IsPart p ms o.values y.0 y.1 × IsElementAt p ms (kind_in p y.0) y.1) (λ j. (same.0 j, code j)) (at.part, at.code)

  part_shown : (i : Instance) (c : ℕ) → ShowsCode p v i c → IsPart p ms o.values i c
  part_shown i c h = (both_shown i c h).0

  part_below : (i : Instance) (c : ℕ) → (equations_of p).circular i ≡ true → ShowsCode p v i c → HasCodeAt p ms (kind_in p i) (o.values i) c
  part_below i c circular h = ⊎_elim (λ a. a.1) (λ a. absurd (not_both a.0 circular)) (part_shown i c h)

  pub shown_at_most : (i : Instance) (k : Kind) → kind_in p i ≡ k → (equations_of p).circular i ≡ true → ShowsAtMost p v i k (o.values i)
  shown_at_most i kinds.Truth e c = true_below i c e
  shown_at_most i kinds.Int e c = tt
  shown_at_most i kinds.Text e c = tt
  shown_at_most i (kinds.Node d) e c = tt
  shown_at_most i kinds.Texts e c = λ x h. subst (λ (k : Kind). HasCodeAt p ms k (o.values i) x) e (part_below i x c h)
  shown_at_most i (kinds.Nodes d) e c = λ x h. subst (λ (k : Kind). HasCodeAt p ms k (o.values i) x) e (part_below i x c h)

  -- a settled value is shown
  shown_at_least : (i : Instance) (k : Kind) (s key c : ℕ) → kind_in p i ≡ k → StandsFor p v key i → Has v.values (s, key, c) → (code : IsCodeOf p ms i c) → (is_single (kind_in p i) ≡ false → ShowsAtLeast p v i (kind_in p i) code.value) → ShowsAtLeast p v i k code.value
  shown_at_least i kinds.Truth s key c e stands h code shown = λ yes.
      let t = has_values ks vs 0 s key c h in
      let word = t.5 in
      let one : c ≡ 1 = true_code p ms by_words i c code e yes in
      let low = bit_at_lowest (get_or vs t.0 0) in
      let bit : bit_at (get_or vs t.0 0) 0 ≡ 1 = omega (arith, word, one, low) in
      (key, s, stands, bits_has ks vs 0 t.0 s key 0 t.1 t.2 t.4 (some_bits key) bit t.3)
  shown_at_least i kinds.Int s key c e stands h code shown = tt
  shown_at_least i kinds.Text s key c e stands h code shown = tt
  shown_at_least i (kinds.Node d) s key c e stands h code shown = tt
  shown_at_least i kinds.Texts s key c e stands h code shown = subst (λ (k : Kind). ShowsAtLeast p v i k code.value) e (shown (ap is_single e))
  shown_at_least i (kinds.Nodes d) s key c e stands h code shown = subst (λ (k : Kind). ShowsAtLeast p v i k code.value) e (shown (ap is_single e))

  pub settled_shown : (i : Instance) → Knows p v i → (x : Value) × HasValue p i x × ShowsAtLeast p v i (kind_in p i) x
  settled_shown i known =
      let at = (final_at known.slot known.key known.code known.settled).settled in
      let of : at.of ≡ i = stands_once v one_there p by_words known.key at.of i at.stands known.stands in
      subst (λ (j : Instance). (x : Value) × HasValue p j x × ShowsAtLeast p v j (kind_in p j) x) of (at.code.value, at.code.has, shown_at_least at.of (kind_in p at.of) known.slot known.key known.code refl at.stands known.settled at.code at.shown)

  -- the value of what is settled is at most that of the lower assignment
  final_below : (i : Instance) → (equations_of p).circular i ≡ true → Knows p v i → (x : Value) → HasValue p i x → order_in p i x (o.values i)
  final_below i circular known x has =
      let final = final_at known.slot known.key known.code known.settled in
      let of : final.settled.of ≡ i = stands_once v one_there p by_words known.key final.settled.of i final.settled.stands known.stands in
      let same : final.settled.code.value ≡ x = one p i final.settled.code.value x (subst (λ (j : Instance). HasValue p j final.settled.code.value) of final.settled.code.has) has in
      subst (λ (y : Instance × Value). order_in p y.0 y.1 (o.values y.0)) (λ q. (of q, same q)) (final.lower (ap (equations_of p).circular of ∙ circular))

  pub approximations : AreApproximations p v
  approximations = record {
    values = o.values;
    lower = o.lower;
    circular = λ i c. shown_at_most i (kind_in p i) refl c;
    codes = λ i c h. (both_shown i c h).1;
    undeclared = λ i c d h. ⊎_elim (λ a. absurd (not_both d a.0)) (λ a. a.1) (part_shown i c h);
    truths = undeclared_true;
    final = final_below;
  }
