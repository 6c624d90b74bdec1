-- Closed instances are sealed: what the words show of them is their value.
use Rattle.std.proofs.Common.{◌≡◌, ◌≢◌, ℕ, suc, true, false, Bool, ◌+◌, ◌-◌, ◌<◌, ◌≤◌, ◌^◌, inl, inr, ⊎_elim, List, [], ◌∷◌, length, get_or, set, slice_get, refl, sym, ap, ◌∙◌, subst, arith, Some, eqb, not, if◌then◌else◌, get_or-set_same, get_or-set_other, length-set}
use mathlib.Core.Logic.{dite}
use native.Mathlib.Decide.{ℕ_discrete, dec_le}
use Rattle.std.specs.Int.{bit_at}
use Rattle.std.proofs.lemmas.Nat.Bits.{bit_at_lowest}
use Rattle.std.proofs.lemmas.Option.{get_or_from_slice_get}
use Rattle.solutions.specs.Asking.{Demands, Ends, Meets, asks, gives, here, later}
use Rattle.solutions.specs.Leading.{IsClosed, Read, fixed, inside, known}
use Rattle.solutions.specs.Rounds.{is_in}
use Rattle.solutions.proofs.Closed.{closed_val}
use Rattle.solutions.proofs.Lower.{lower_below}
use Rattle.attr_rules.specs.declared.kinds.Kind.{Kind}
use Rattle.attr_rules.specs.declared.kinds.Kind.TheVariants as kinds
use Rattle.attr_rules.specs.Rules.{is_single}
use Rattle.equation_law.specs.declared.coding.Instance.{Instance as CodedInstance}
use Rattle.equation_law.specs.Codes.{IsSmall}
use Rattle.equation_law.specs.Equations.{HasValue, equations_of, kind_in}
use Rattle.equation_law.specs.Loops.{fits_in, join_in, order_in}
use Rattle.equation_law.specs.Names.{Instance}
use Rattle.equation_law.specs.Orders.{IsAtMost, FitsKind}
use Rattle.equation_law.specs.Program.{Program}
use Rattle.equation_law.specs.Systems.{program_of}
use Rattle.equation_law.specs.Values.{Truth, Value, as_kind, truth}
use Rattle.equation_law.proofs.Orders.{at_most_itself, at_most_through}
use Rattle.equation_law.proofs.Pooled.{texts_pooled}
use Rattle.equation_law.proofs.Solution.{are_joins, are_rising, have_heights, height_in, one}
use Rattle.memo_cells.specs.declared.keys.Slot.{Slot}
use Rattle.memo_cells.specs.declared.view.Frame.{Frame}
use Rattle.memo_cells.specs.declared.view.View.{View}
use Rattle.memo_cells.specs.Agreeing.{IsKnownCode, IsValueCodeAt}
use Rattle.memo_cells.specs.Keys.{is_set_word}
use Rattle.memo_cells.specs.Naming.{StandsFor}
use Rattle.memo_cells.specs.declared.learning.Step.TheVariants.{Value as LeftValue}
use Rattle.memo_cells.specs.Learning.{after, values_said}
use Rattle.memo_cells.specs.Causes.{LogsValue}
use Rattle.memo_cells.specs.Sealing.{AreSealedTo, AreSealing, LogsNext, SealsAll, SealsOn, SealsTo, TellsNext, TellsSealed, places, places_left}
use Rattle.memo_cells.specs.Showing.{ShowsAtLeast, ShowsTrue}
use Rattle.memo_cells.specs.Standing.{AreWords, IsCodeOf, IsFinal, IsLowerOf, IsNoted, IsPassOf, IsRaised, IsSafe, IsSeatOf, IsSettled, IsSettledBy, IsTold, Knows, MaySeal}
use Rattle.memo_cells.specs.Steps.{AreSealed, IsSealedAt}
use Rattle.memo_cells.specs.Views.{Has, IsAtLeast, knows_all, shown_bits, with_mark}
use Rattle.memo_cells.proofs.Alone.{kept_words, key_there, read_at, words_after}
use Rattle.memo_cells.proofs.Bits.{has_bits, has_left}
use Rattle.memo_cells.proofs.Causes.{log_itself, log_one, log_then}
use Rattle.memo_cells.proofs.Facts.{pass_of, told_own}
use Rattle.memo_cells.proofs.Learnt.{least_any, told_least, value_learnt, value_logged, value_told, values_said_has}
use Rattle.memo_cells.proofs.Marking.{mark_high, mark_is, mark_low, none_after, number_of, place_is, slot_among, slot_left}
use Rattle.memo_cells.proofs.Lifting.{may_seal_later}
use Rattle.memo_cells.proofs.Meaning.{approximations, by_words, one_there, settled_shown, shown_at_most}
use Rattle.memo_cells.proofs.More.{at_least_itself, at_least_then}
use Rattle.memo_cells.proofs.Naming.{knows_later, stands_later, stands_once, stands_plain, word_once}
use Rattle.memo_cells.proofs.Places.{values_has}
use Rattle.memo_cells.proofs.Raising.{shown_below, shown_whole}
use Rattle.memo_cells.proofs.ValueWords.{codes_had}
use Rattle.memo_cells.proofs.Showing.{StaysSafe, at_least_later, not_both, noted_later, safe_later, settled_later}

-- what an equation that ends by what a closed set may read meets under the solution, it meets by that
meets_read : {A B : Instance → Value → Type 0} {c : Demands Instance Value} {x : Value} {ds : List Instance} {j : Instance} → ((i : Instance) (v w : Value) → A i v → B i w → v ≡ w) → Ends A c x ds → Meets B c j → Meets A c j
meets_read same gives m = elim m [ ]
meets_read same (asks a e) here = here
meets_read {A} {B} {j = j} same (asks {j = i} {k = k} {w = w} a e) (later {w = u} b m) = later a (meets_read same e (subst (λ (y : Value). Meets B (k y) j) (sym (same i w u a b)) m))

-- what isn't true is false
is_false : (b : Bool) → (b ≡ true → ⊥) → b ≡ false
is_false true h = absurd (h refl)
is_false false h = refl

-- a marked word has the bits that it had, of those that count
marked_bit : (k x n : ℕ) → is_set_word k ≡ false → n < shown_bits k → x < 2 ^ 63 → bit_at x n ≡ 1 → bit_at (x + 2 ^ 63) n ≡ 1
marked_bit k x n plain low small e =
    let only : shown_bits k ≡ 1 = ap (λ b. if◌then◌else◌ b 64 1) plain in
    let zero : n ≡ 0 = omega (arith, only, low) in
    let before = bit_at_lowest x in
    let after = bit_at_lowest (x + 2 ^ 63) in
    let at : bit_at x 0 ≡ 1 = ap (bit_at x) (sym zero) ∙ e in
    ap (bit_at (x + 2 ^ 63)) zero ∙ omega (arith, before, after, at)

module _ (f : Frame) (ms : List CodedInstance) (slot : ℕ) (us ks vs slots : List ℕ) (sealing : AreSealing f ms slots (slot ∷ us) ks vs) (has_slot : Has slots slot) where
  abbrev p : Program
  p = program_of f.system.value

  abbrev ts : List ℕ
  ts = slot ∷ us

  abbrev v : View
  v = knows_all f ms ts ks vs

  abbrev ws : List ℕ
  ws = set vs slot (with_mark (get_or vs slot 0))

  abbrev w : View
  w = knows_all f ms us ks ws

  abbrev lk : length ks ≡ f.cells
  lk = sealing.keys

  abbrev lv : length vs ≡ f.cells
  lv = sealing.long

  abbrev o : AreWords f ms ts ks vs
  o = sealing.words

  abbrev may : MaySeal p f v slots
  may = sealing.may

  own : IsSeatOf f v ts
  own = pass_of f ms ts ks vs lk lv o sealing.few

  -- the words show the values whole, since they do so of what is settled
  whole_shown : (j : Instance) → (equations_of p).circular j ≡ true → ShowsAtLeast p v j (kind_in p j) (may.values j)
  whole_shown j c = shown_whole p v (settled_shown f ms ts ks vs lk lv o) j (may.values j) (may.shown j c).1

  lower_shown : (j : Instance) → (equations_of p).circular j ≡ true → IsAtMost (may.values j) (o.values j)
  lower_shown j c = shown_below p (are_rising p) (are_joins p) v o.values o.lower (λ i d. shown_at_most f ms ts ks vs lk lv o i (kind_in p i) refl d) (settled_shown f ms ts ks vs lk lv o) (by_words f ms ts ks vs lk lv o) may.values may.shown j c

  lower_values : IsLowerOf p may.values
  lower_values = record {
    top = o.lower.top;
    reached = o.lower.reached;
    fits = λ j c. (may.shown j c).0;
    below = λ j c. at_most_through (may.values j) (o.values j) (o.lower.top j) (lower_shown j c) (o.lower.below j c);
  }

  closed : IsClosed (equations_of p) (order_in p) (fits_in p) (join_in p) may.set may.values
  closed = record { lower = lower_values; each = may.holds }

  -- so each member has its value in the solution
  has : (i : Instance) → is_in (equations_of p).same may.set i ≡ true → HasValue p i (may.values i)
  has i m = closed_val (equations_of p) (order_in p) (fits_in p) (join_in p) (are_rising p) (are_joins p) (height_in p) (have_heights p) may.set may.values closed i m

  at_least_lower : (i : Instance) → is_in (equations_of p).same may.set i ≡ true → IsAtMost (o.values i) (may.values i)
  at_least_lower i m = lower_below (equations_of p) (order_in p) (fits_in p) (join_in p) (are_rising p) (are_joins p) o.values o.lower i (may.values i) (may.holds i m).is_circular (has i m)

  read_value : (j : Instance) (x y : Value) → Read (equations_of p) may.set may.values j x → HasValue p j y → x ≡ y
  read_value j x y (fixed c a) b = one p j x y a b
  read_value j x y (inside c m) b = one p j x y (has j m) b
  read_value j x y (known c a) b = one p j x y a b

  -- the word at the slot and the others
  slot_less : slot < f.cells
  slot_less = (may.stands slot has_slot).2.1.0

  long : length ws ≡ f.cells
  long = length-set vs slot (with_mark (get_or vs slot 0)) ∙ lv

  word_here : (q : ℕ) → q ≡ slot → get_or ws q 0 ≡ with_mark (get_or vs q 0)
  word_here q e = ap (λ y. get_or ws y 0) e ∙ get_or-set_same vs slot (with_mark (get_or vs slot 0)) 0 (omega (arith, lv, slot_less)) ∙ ap (λ y. with_mark (get_or vs y 0)) (sym e)

  word_beside : (q : ℕ) → q ≢ slot → get_or ws q 0 ≡ get_or vs q 0
  word_beside q ne = get_or-set_other vs slot q (with_mark (get_or vs slot 0)) 0 ne

  marked_high : (q : ℕ) → q ≡ slot → 2 ^ 63 ≤ get_or vs q 0 → get_or ws q 0 ≡ get_or vs q 0
  marked_high q e high = word_here q e ∙ mark_high (get_or vs q 0) high

  -- at the slot stands a key of an instance
  pub slot_plain : is_set_word (get_or ks slot 0) ≡ false
  slot_plain =
      let cell = (may.stands slot has_slot).2 in
      ap is_set_word (key_there f ms ts ks vs v refl slot cell.0 cell.1.1).2 ∙ stands_plain p v cell.0 (may.stands slot has_slot).0 cell.2

  here_plain : (q : ℕ) → q ≡ slot → is_set_word (get_or ks q 0) ≡ false
  here_plain q e = ap (λ y. is_set_word (get_or ks y 0)) e ∙ slot_plain

  sealed_more : IsAtLeast v w
  sealed_more = kept_words f ms ts ks vs v refl us ws (length-set vs slot (with_mark (get_or vs slot 0)))
      (λ q plain high. dite (ℕ_discrete q slot) (λ e. marked_high q e high) (λ ne. word_beside q ne))
      (λ q n low one. dite (ℕ_discrete q slot)
      (λ e. dite (dec_le (2 ^ 63) (get_or vs q 0)) (λ high. ap (λ (y : ℕ). bit_at y n) (marked_high q e high) ∙ one)
      (λ small. ap (λ (y : ℕ). bit_at y n) (word_here q e ∙ mark_low (get_or vs q 0) (omega arith)) ∙ marked_bit (get_or ks q 0) (get_or vs q 0) n (here_plain q e) low (omega arith) one))
      (λ ne. ap (λ (y : ℕ). bit_at y n) (word_beside q ne) ∙ one))

  -- the word of a member that isn't sealed yet is 0, or 1 where it is raised
  module _ (i : Instance) (m : is_in (equations_of p).same may.set i ≡ true) (s k : ℕ) (stands : StandsFor p v k i) (there : Has v.keys (s, k)) (small : get_or vs s 0 < 2 ^ 63) where
    key : (k ≢ 0) × (s < length ks) × (get_or ks s 0 ≡ k)
    key = key_there f ms ts ks vs v refl s k there

    circular : (equations_of p).circular i ≡ true
    circular = (may.holds i m).is_circular

    -- raised, it is a truth value, and true
    raised_true : get_or vs s 0 ≢ 0 → (get_or vs s 0 ≡ 1) × (kind_in p i ≡ kinds.Truth) × (truth (may.values i) ≡ true)
    raised_true nz =
        ⊎_elim (λ x. absurd (omega (arith, x.1, small)))
        (λ x.
        let raised : IsRaised p v o.values k = subst (λ (y : ℕ). IsRaised p v o.values y) key.2 x.1 in
        let of : raised.of ≡ i = stands_once v (one_there f ms ts ks vs lk lv o) p (by_words f ms ts ks vs lk lv o) k raised.of i raised.stands stands in
        (x.0, sym (ap (kind_in p) of) ∙ raised.kind, (at_least_lower i m).in_truth (subst (λ (j : Instance). truth (o.values j) ≡ true) of raised.is_true))
        )
        (o.ordered.coded s (omega (arith, key.1, lk)) (ap is_set_word key.2 ∙ stands_plain p v k i stands) nz)

    -- and what isn't raised isn't true
    not_raised : kind_in p i ≡ kinds.Truth → get_or vs s 0 ≡ 0 → truth (may.values i) ≡ true → ⊥
    not_raised kind z holds =
        let shows : ShowsTrue p v i = subst (λ (t : Kind). ShowsAtLeast p v i t (may.values i)) kind (whole_shown i circular) holds in
        let word = word_once v own.one_key own.one_place p (texts_pooled f.system.value) (by_words f ms ts ks vs lk lv o) shows.0 k i shows.2 stands in
        let t = has_bits ks vs 0 shows.1 shows.0 0 shows.3 in
        let same : shows.1 ≡ s = own.one_place shows.1 s k (subst (λ (y : ℕ). Has v.keys (shows.1, y)) word (own.keyed shows.1 shows.0 0 shows.3)) there in
        let at : t.0 ≡ s = omega (arith, t.3, same) in
        let bit : bit_at (get_or vs s 0) 0 ≡ 1 = ap (λ (y : ℕ). bit_at (get_or vs y 0) 0) (sym at) ∙ t.6 in
        let low = bit_at_lowest (get_or vs s 0) in
        omega (arith, bit, low, z)

    unraised : (kind_in p i ≡ kinds.Truth → ⊥) → get_or vs s 0 ≡ 0
    unraised other = dite (ℕ_discrete (get_or vs s 0) 0) (λ z. z) (λ nz. absurd (other (raised_true nz).1))

    coded_as : (t : Kind) → kind_in p i ≡ t → FitsKind t (may.values i) → (is_single t ≡ true → IsValueCodeAt p ms t (get_or vs s 0) (as_kind t (may.values i))) × IsSmall t (get_or vs s 0)
    coded_as kinds.Truth e fit =
        dite (ℕ_discrete (get_or vs s 0) 0)
        (λ z. ((λ _ n h. ap (λ (y : ℕ). Truth (not (eqb y 0))) z ∙ ap Truth (sym (is_false (truth (may.values i)) (not_raised e z)))), omega (arith, z)))
        (λ nz. let r = raised_true nz in ((λ _ n h. ap (λ (y : ℕ). Truth (not (eqb y 0))) r.0 ∙ ap Truth (sym r.2)), omega (arith, r.0)))
    coded_as kinds.Int e fit = elim fit [ ]
    coded_as kinds.Text e fit = elim fit [ ]
    coded_as (kinds.Node d) e fit = elim fit [ ]
    coded_as kinds.Texts e fit = ((λ single. absurd (not_both refl single)), unraised (λ kind. let bad = ap is_single (sym kind ∙ e) in not_both bad refl))
    coded_as (kinds.Nodes d) e fit = ((λ single. absurd (not_both refl single)), unraised (λ kind. let bad = ap is_single (sym kind ∙ e) in not_both bad refl))

    -- what is circular is no node
    no_node : (t : Kind) → FitsKind t (may.values i) → IsKnownCode ms t (get_or vs s 0)
    no_node kinds.Truth fit = tt
    no_node kinds.Int fit = elim fit [ ]
    no_node kinds.Text fit = elim fit [ ]
    no_node (kinds.Node d) fit = elim fit [ ]
    no_node kinds.Texts fit = tt
    no_node (kinds.Nodes d) fit = tt

    small_code : get_or vs s 0 < 2 ^ 32
    small_code = dite (ℕ_discrete (get_or vs s 0) 0) (λ z. omega (arith, z)) (λ nz. let r = raised_true nz in omega (arith, r.0))

    abbrev code_of : IsCodeOf p ms i (get_or vs s 0)
    code_of =
        let both = coded_as (kind_in p i) refl (may.shown i circular).0 in
        record { value = may.values i; has = has i m; coded = both.0; small = both.1; fits = small_code; known = no_node (kind_in p i) (may.shown i circular).0; elements = codes_had p v (approximations f ms ts ks vs lk lv o) i (may.values i) (kind_in p i) refl (whole_shown i circular) }

  -- what stands in the slot is settled now
  sealed_here : (q k : ℕ) → q ≡ slot → Has v.keys (q, k) → IsSealedAt w q k
  sealed_here q k e there =
      let high = mark_is (get_or vs q 0) in
      let word = word_here q e in
      let key = key_there f ms ts ks vs v refl q k there in
      (get_or ws q 0 - 2 ^ 63, values_has ks ws 0 q q k (get_or ws q 0 - 2 ^ 63) key.1 (omega (arith, long, lk, key.1)) key.2 (ap is_set_word (sym key.2) ∙ here_plain q e) (omega (arith, high, word)) (omega arith))

  known_here : (j : Instance) (q k : ℕ) → q ≡ slot → Has v.keys (q, k) → StandsFor p v k j → Knows p w j
  known_here j q k e there stands = let sealed = sealed_here q k e there in record { key = k; stands = stands_later v w sealed_more p k j stands; slot = q; code = sealed.0; settled = sealed.1 }

  -- what was noted is sealed now, or still noted
  noted_safe : (i j : Instance) → (equations_of p).circular i ≡ true → (equations_of p).circular j ≡ true → IsNoted p v j → IsSafe p w i j
  noted_safe i j c d n = ⊎_elim (λ e. inl (known_here j n.slot n.key e n.there n.stands)) (λ left. inr (c, d, noted_later p v w sealed_more j n left)) n.left

  all_safe : StaysSafe p v w
  all_safe i j h = ⊎_elim (λ k. inl (knows_later v w sealed_more p j k)) (λ n. noted_safe i j n.0 n.1 n.2) h

  -- a member is safe for another: it is noted, with the words of its value shown, or sealed
  member_safe : (i j : Instance) → is_in (equations_of p).same may.set i ≡ true → is_in (equations_of p).same may.set j ≡ true → IsSafe p w i j
  member_safe i j m n =
      let at = may.slot_of j n in
      let cell = at.2 in
      let circular = (may.holds j n).is_circular in
      ⊎_elim
      (λ left. noted_safe i j (may.holds i m).is_circular circular (record { slot = at.0; left = left; key = cell.0; there = cell.1.1; stands = cell.2; value = may.values j; has = has j n; shown = whole_shown j circular }))
      (λ sealed. inl (knows_later v w sealed_more p j (record { key = cell.0; stands = cell.2; slot = at.0; code = sealed.0; settled = sealed.1 })))
      (sealing.each at.0 cell.0 at.1 cell.1.1)

  demand_safe : (i j : Instance) → is_in (equations_of p).same may.set i ≡ true → Meets (HasValue p) ((equations_of p).equation i) j → IsSafe p w i j
  demand_safe i j m meets = ⊎_elim (member_safe i j m) (λ k. inl (knows_later v w sealed_more p j k)) (may.known i j m (meets_read read_value (may.holds i m).ends meets))

  -- the word of the slot codes the value of its instance
  final_word : (q : ℕ) → q ≡ slot → get_or vs q 0 < 2 ^ 63 → IsFinal p w o.values (get_or ks q 0) (get_or vs q 0)
  final_word q e small =
      let at = may.stands slot has_slot in
      let i = at.0 in
      let m = at.1 in
      let cell = at.2 in
      let circular = (may.holds i m).is_circular in
      let there : Has v.keys (q, cell.0) = subst (λ (y : ℕ). Has v.keys (y, cell.0)) (sym e) cell.1.1 in
      let final : IsFinal p w o.values cell.0 (get_or vs q 0) = record {
        settled = record {
          of = i;
          instance = may.instances i m;
          stands = stands_later v w sealed_more p cell.0 i cell.2;
          code = code_of i m q cell.0 cell.2 there small;
          shown = λ _. at_least_later p v w sealed_more i (kind_in p i) (may.values i) (whole_shown i circular);
          closed = λ j meets. demand_safe i j m meets;
        };
        lower = λ c. lower_shown i c;
      } in
      subst (λ (y : ℕ). IsFinal p w o.values y (get_or vs q 0)) (sym (key_there f ms ts ks vs v refl q cell.0 there).2) final

  sealed_words : AreWords f ms us ks ws
  sealed_words = record {
    bare = o.bare;
    nothing = o.nothing;
    trees = o.trees;
    values = o.values;
    lower = o.lower;
    ordered = words_after f ms ts ks vs v refl p lk lv o.values o.ordered o.values us ws sealed_more all_safe (λ j c. at_most_itself (o.values j))
        (λ q lq nz. dite (ℕ_discrete q slot)
        (λ e z. let cell = (may.stands slot has_slot).2 in let key = key_there f ms ts ks vs v refl slot cell.0 cell.1.1 in key.0 (sym key.2 ∙ ap (λ y. get_or ks y 0) (sym e) ∙ z))
        (λ ne. o.ordered.keyed q lq (λ z. nz (word_beside q ne ∙ z))))
        (λ q lq plain nz. dite (ℕ_discrete q slot)
        (λ e. dite (dec_le (2 ^ 63) (get_or vs q 0)) (λ high. inl (marked_high q e high))
        (λ low. inr (inl (get_or vs q 0, word_here q e ∙ mark_low (get_or vs q 0) (omega arith), final_word q e (omega arith)))))
        (λ ne. inl (word_beside q ne)))
        (λ q n lq st low one. dite (ℕ_discrete q slot) (λ e. absurd (not_both (here_plain q e) st)) (λ ne. inl (ap (λ (y : ℕ). bit_at y n) (sym (word_beside q ne)) ∙ one)));
  }

  pub next_sealed : SealsOn f ms slots ts us ks vs ws
  next_sealed = record {
    sealing = record {
      few = sealing.few;
      keys = lk;
      long = long;
      words = sealed_words;
      may = may_seal_later p v w sealed_more f slots may;
      each = λ q k h there. ⊎_elim (λ left. ⊎_elim (λ e. inr (sealed_here q k e there)) inl left) (λ c. inr (c.0, sealed_more.values q k c.0 c.1)) (sealing.each q k h there);
    };
    own = pass_of f ms us ks ws lk long sealed_words sealing.few;
    kept = sealed_more;
  }

  -- the slot is a place
  pub slot_inside : slot < length vs
  slot_inside = let lt = slot_less in omega (arith, lv, lt)

-- all slots of a set are noted first
module _ (f : Frame) (ms : List CodedInstance) (ks vs : List ℕ) (lk : length ks ≡ f.cells) (lv : length vs ≡ f.cells) (few : f.cells ≤ 4194304) (o : AreWords f ms [] ks vs) (slots : List ℕ) where
  abbrev noting : View
  noting = knows_all f ms slots ks vs

  abbrev before : View
  before = knows_all f ms [] ks vs

  pub noted_more : IsAtLeast before noting
  noted_more = kept_words f ms [] ks vs before refl slots vs refl (λ q plain high. refl) (λ q n low one. one)

  noted_words : AreWords f ms slots ks vs
  noted_words = record {
    bare = o.bare;
    nothing = o.nothing;
    trees = o.trees;
    values = o.values;
    lower = o.lower;
    ordered = words_after f ms [] ks vs before refl (program_of f.system.value) lk lv o.values o.ordered o.values slots vs noted_more (safe_later (program_of f.system.value) before noting noted_more (λ s h. absurd h)) (λ j c. at_most_itself (o.values j))
        (λ q lq nz. o.ordered.keyed q lq nz) (λ q lq plain nz. inl refl) (λ q n lq st low one. inl one);
  }

  pub all_noted : MaySeal (program_of f.system.value) f before slots → AreSealing f ms slots slots ks vs
  all_noted may = record { few = few; keys = lk; long = lv; words = noted_words; may = may_seal_later (program_of f.system.value) before noting noted_more f slots may; each = λ s k h there. inl h }

-- and none is left at the end
pub none_left : (f : Frame) (ms : List CodedInstance) (slots ks vs : List ℕ) → AreSealing f ms slots [] ks vs → (s k : ℕ) → Has slots s → Has (knows_all f ms [] ks vs).keys (s, k) → IsSealedAt (knows_all f ms [] ks vs) s k
none_left f ms slots ks vs s q k h there = ⊎_elim (λ left. absurd left) (λ c. c) (s.each q k h there)

-- as a pass sees it whose words these are
module _ (f : Frame) (ms : List CodedInstance) (ks vs : List ℕ) (lk : length ks ≡ f.cells) (lv : length vs ≡ f.cells) (o : AreWords f ms [] ks vs) (v : View) (told : IsTold f ms ks vs v) (g : Frame) (own : IsPassOf g v) (slots : List Slot) (may : MaySeal (program_of g.system.value) g v (places slots)) where
  same : f ≡ g
  same = let e : Some f ≡ Some g = sym told.frame ∙ own.frame in cc

  its : MaySeal (program_of f.system.value) f (knows_all f ms [] ks vs) (places slots)
  its = may_seal_later (program_of f.system.value) v (knows_all f ms [] ks vs) (told_least f ms ks vs v told []) f (places slots) (subst (λ (h : Frame). MaySeal (program_of h.system.value) h v (places slots)) (sym same) may)

  its_few : f.cells ≤ 4194304
  its_few = subst (λ (h : Frame). h.cells ≤ 4194304) (sym same) own.few

  pub set_noted : AreSealing g ms (places slots) (places slots) ks vs
  set_noted = subst (λ (h : Frame). AreSealing h ms (places slots) (places slots) ks vs) same (all_noted f ms ks vs lk lv its_few o (places slots) its)

  pub set_told : IsTold g ms ks vs v
  set_told = subst (λ (h : Frame). IsTold h ms ks vs v) same told

  module _ (ws : List ℕ) (on : SealsAll g ms slots ks vs ws) (w : View) (sealed : TellsSealed g ms slots (length slots) ks ws v w) where
    pub mark_words : AreWords f w.made [] ks ws
    mark_words = subst (λ (l : List CodedInstance). AreWords f l [] ks ws) (sym sealed.told.made) (subst (λ (h : Frame). AreWords h ms [] ks ws) (sym same) on.sealing.words)

    pub mark_long : length ws ≡ f.cells
    mark_long = subst (λ (h : Frame). length ws ≡ h.cells) (sym same) on.sealing.long

    pub mark_told : IsTold f w.made ks ws w
    mark_told = subst (λ (l : List CodedInstance). IsTold f l ks ws w) (sym sealed.told.made) (subst (λ (h : Frame). IsTold h ms ks ws w) (sym same) sealed.told)

    pub mark_own : IsPassOf g w
    mark_own = told_own g ms ks ws on.sealing.keys on.sealing.long on.sealing.words own.few w sealed.told

    pub mark_sealed : AreSealed v w (places slots)
    mark_sealed s k among there = let n = number_of slots s among in sealed.sealed n.0 s k n.1 n.2 there

-- none of them is sealed yet, and one more
pub tells_none : (f : Frame) (ms : List CodedInstance) (slots : List Slot) (ks vs : List ℕ) (v : View) → IsTold f ms ks vs v → TellsSealed f ms slots 0 ks vs v v
tells_none f ms slots ks vs v told = record { told = told; kept = at_least_itself v; log = log_itself v; sealed = λ n s k lt. absurd (omega (arith, lt)); claims = refl }

pub tells_more : (f : Frame) (ms : List CodedInstance) (slots : List Slot) (n : ℕ) (ks vs ws : List ℕ) (v w x : View) → TellsSealed f ms slots n ks vs v w → TellsNext f ms slots n ks ws w x → TellsSealed f ms slots (n + 1) ks ws v x
tells_more f ms slots n ks vs ws v w x before next = record {
  told = next.told;
  kept = at_least_then before.kept next.kept;
  log = log_then before.log next.log;
  sealed = λ m s k lt at there. dite (ℕ_discrete m n)
      (λ e. next.sealed s k (subst (λ (y : ℕ). slice_get (places slots) y ≡ Some s) e at) (before.kept.keys s k there))
      (λ apart. let c = before.sealed m s k (omega (arith, lt, apart)) at there in (c.0, next.kept.values s k c.0 c.1));
  claims = next.claims ∙ before.claims;
}

-- the next slot of a set gets its mark
module _ (f : Frame) (ms : List CodedInstance) (slots : List Slot) (n : ℕ) (ks vs : List ℕ) (d : Slot) (lt : n < length slots) (s : AreSealedTo f ms slots n ks vs) where
  abbrev next : Slot
  next = get_or slots n d

  left_now : AreSealing f ms (places slots) (next.0 ∷ places_left (suc n) slots) ks vs
  left_now = subst (λ (l : List ℕ). AreSealing f ms (places slots) l ks vs) (slot_left slots n d lt) s

  pub next_inside : next.0 < length vs
  next_inside = slot_inside f ms next.0 (places_left (suc n) slots) ks vs (places slots) left_now (slot_among slots n d lt)

  on_next : SealsTo f ms slots n (n + 1) ks vs (set vs next.0 (with_mark (get_or vs next.0 0)))
  on_next =
      let one_more : suc n ≡ n + 1 = omega arith in
      subst (λ (y : List ℕ × ℕ). SealsOn f ms (places slots) y.0 (places_left y.1 slots) ks vs (set vs next.0 (with_mark (get_or vs next.0 0)))) (λ i. (sym (slot_left slots n d lt) i, one_more i))
      (next_sealed f ms next.0 (places_left (suc n) slots) ks vs (places slots) left_now (slot_among slots n d lt))

  pub next_marked : (place found word : ℕ) → place ≡ next.0 → found ≡ get_or vs place found → word ≡ with_mark found → SealsTo f ms slots n (n + 1) ks vs (set vs place word)
  next_marked place found word e seen is =
      let inside_now = next_inside in
      let here_now : found ≡ get_or vs next.0 0 = seen ∙ sym (read_at vs place found (omega (arith, e, inside_now))) ∙ ap (λ y. get_or vs y 0) e in
      let marked : word ≡ with_mark (get_or vs next.0 0) = is ∙ ap with_mark here_now in
      subst (λ (y : ℕ × ℕ). SealsTo f ms slots n (n + 1) ks vs (set vs y.0 y.1)) (λ i. (sym e i, sym marked i)) on_next

  -- and the pass knows it
  next_plain : is_set_word (get_or ks next.0 0) ≡ false
  next_plain = slot_plain f ms next.0 (places_left (suc n) slots) ks vs (places slots) left_now (slot_among slots n d lt)

  pub next_told : (v : View) → IsTold f ms ks vs v → (place found word : ℕ) → place ≡ next.0 → found ≡ get_or vs place found → word ≡ with_mark found → TellsNext f ms slots n ks (set vs place word) v (after v (LeftValue place found word))
  next_told v told place found word e seen is =
      let inside_now = next_inside in
      let lw : place < length vs = omega (arith, e, inside_now) in
      let keys = s.keys in
      let long = s.long in
      let high = mark_is found in
      let more = least_any f ms (places_left n slots) (places_left (n + 1) slots) ks vs (set vs place word) (next_marked place found word e seen is).kept in
      record {
        told = value_told f ms ks vs v told place found word (set vs place word) (omega (arith, lw, keys, long)) (omega (arith, lw, length-set vs place word)) (get_or-set_same vs place word 0 lw) more;
        kept = value_learnt v place found word;
        log = log_one refl;
        sealed = λ t k at there.
            let here : t ≡ place = place_is slots n d t at ∙ sym e in
            let known : Has v.keys (place, k) = subst (λ (q : ℕ). Has v.keys (q, k)) here there in
            let key = key_there f ms [] ks vs (knows_all f ms [] ks vs) refl place k (told.keys place k known) in
            let plain : is_set_word k ≡ false = ap is_set_word (sym key.2 ∙ ap (λ y. get_or ks y 0) e) ∙ next_plain in
            (word - 2 ^ 63, subst (λ (q : ℕ). Has (after v (LeftValue place found word)).values (q, k, word - 2 ^ 63)) (sym here) (has_left (values_said place word v.keys) v.values (place, k, word - 2 ^ 63) (values_said_has place word k v.keys known (omega (arith, is, high)) plain)));
        claims = refl;
      }

-- and what stood there is logged
pub next_found : (f : Frame) (slots : List Slot) (n : ℕ) (vs : List ℕ) (d : Slot) (v : View) → v.frame ≡ Some f → (place found word : ℕ) → place ≡ (get_or slots n d).0 → found ≡ get_or vs place found → LogsNext f slots n vs v (after v (LeftValue place found word))
next_found f slots n vs d v is place found word e seen s x at there =
    let here : place ≡ s = e ∙ sym (place_is slots n d s at) in
    let same : found ≡ x = seen ∙ ap (λ (q : ℕ). get_or vs q found) here ∙ get_or_from_slice_get vs s x found there in
    subst (λ (y : ℕ × ℕ). LogsValue f v (after v (LeftValue place found word)) y.0 y.1) (λ i. (here i, same i)) (value_logged v place found word is)

-- from none to all of them
pub seals_none : (f : Frame) (ms : List CodedInstance) (slots left ks vs : List ℕ) → AreSealing f ms slots left ks vs → SealsOn f ms slots left left ks vs vs
seals_none f ms slots left ks vs s = record { sealing = s; own = pass_of f ms left ks vs s.keys s.long s.words s.few; kept = at_least_itself (knows_all f ms left ks vs) }

pub seals_then : (f : Frame) (ms : List CodedInstance) (slots l m n ks us vs xs : List ℕ) → SealsOn f ms slots l m ks us vs → SealsOn f ms slots m n ks vs xs → SealsOn f ms slots l n ks us xs
seals_then f ms slots l m n ks us vs xs a b = record { sealing = b.sealing; own = b.own; kept = at_least_then a.kept b.kept }

pub seals_all : (f : Frame) (ms : List CodedInstance) (slots : List Slot) (ks us vs : List ℕ) → SealsTo f ms slots 0 (length slots) ks us vs → SealsAll f ms slots ks us vs
seals_all f ms slots ks us vs s = subst (λ (l : List ℕ). SealsOn f ms (places slots) (places slots) l ks us vs) (none_after slots) s

-- with nothing left, all that a settled cell demands is seen settled
pub closed_back : (p : Program) (f : Frame) (v : View) → IsPassOf f v → (k c : ℕ) → IsSettled p v k c → IsSettledBy p v (λ i j. Knows p v j) k c
closed_back p f v own k c h = settled_later p v v (at_least_itself v) (IsSafe p v) (λ i j. Knows p v j) k c h (λ j safe. ⊎_elim (λ x. x) (λ n. absurd (subst (λ (l : List ℕ). Has l n.2.slot) own.to_seal n.2.left)) safe)
