-- What the single steps tell a pass that has the words itself.
use Rattle.std.proofs.Common.{◌≡◌, ◌≢◌, ◌↔◌, ℕ, false, ◌+◌, ◌-◌, ◌*◌, ◌<◌, ◌≤◌, ◌^◌, ◌⊎◌, inl, inr, List, [], ◌∷◌, length, get_or, set, eqb, ne_eqb, if◌then◌else◌, sym, refl, ap, ⊎_elim, ◌∙◌, subst, arith, Some, get_or-set_same, length-set}
use Rattle.std.specs.Int.{bit_at}
use mathlib.Core.Logic.{dite}
use native.Mathlib.Decide.{ℕ_discrete}
use Rattle.solutions.specs.Leading.{bottoms}
use Rattle.equation_law.specs.Checked.{HasSourcesAlone}
use Rattle.equation_law.specs.declared.coding.Instance.{Instance as CodedInstance}
use Rattle.equation_law.specs.Equations.{equations_of, kind_in}
use Rattle.equation_law.specs.Program.{Program}
use Rattle.equation_law.specs.Systems.{program_of}
use Rattle.equation_law.proofs.Bare.{trees_fit}
use Rattle.equation_law.proofs.Orders.{at_most_itself}
use Rattle.equation_law.proofs.Pooled.{texts_pooled}
use Rattle.equation_law.proofs.Solution.{are_rising}
use Rattle.equation_law.proofs.Tied.{never_makes}
use Rattle.made_trees.specs.Makers.{AreTrees}
use Rattle.memo_cells.specs.declared.view.Frame.{Frame}
use Rattle.memo_cells.specs.declared.view.View.{View}
use Rattle.attr_rules.specs.declared.kinds.Kind.{Kind}
use Rattle.attr_rules.specs.declared.kinds.Kind.TheVariants as kinds
use Rattle.attr_rules.specs.Rules.{is_single}
use Rattle.equation_law.specs.Names.{Instance}
use Rattle.equation_law.specs.Values.{Value}
use Rattle.memo_cells.specs.declared.learning.Step.TheVariants.{Claim, Key, Value as LeftValue}
use Rattle.memo_cells.specs.Keys.{is_set_word, start}
use Rattle.memo_cells.specs.Learning.{after, bits_said, values_said}
use Rattle.memo_cells.specs.Naming.{IsFormed, IsNamed, StandsFor}
use Rattle.memo_cells.specs.Showing.{ShowsAtMost, ShowsCode}
use Rattle.memo_cells.specs.Standing.{AreApproximations, AreWords, IsCodeOf, IsMissing, IsPassOf, IsSeatOf, IsTold, IsValueWord, IsWordOfValue, Knows, MaySettle, trees_of}
use Rattle.memo_cells.specs.Steps.{BitsSeen, KeySeen, KeyTried, ValueSeen, ValueTried}
use Rattle.memo_cells.specs.Views.{Has, IsAtLeast, IsFull, IsNowhere, IsPassed, IsPlain, first_view, key_word_at, knows_all}
use Rattle.memo_cells.specs.Words.{Before}
use Rattle.memo_cells.proofs.Agreeing.{trees_open}
use Rattle.memo_cells.proofs.Alone.{free_now, kept_after, kept_value, known_stands, nowhere_now, ordered_after, read_at, unset_now, valued_after, word_high, word_small}
use Rattle.memo_cells.proofs.Bits.{bits_has, has_bits, has_either, has_left}
use Rattle.memo_cells.proofs.Learnt.{bits_said_has, claim_told, key_told, said_values, told_least, value_told, values_said_has, value_logged, with_key_here}
use Rattle.memo_cells.proofs.Lifting.{may_settle_later}
use Rattle.memo_cells.proofs.Meaning.{approximations, by_words, bit_keyed, final_at, one_there, set_bits, settled_shown}
use Rattle.memo_cells.proofs.More.{at_least_itself, at_least_then, other_later}
use Rattle.memo_cells.proofs.Naming.{formed_later, named_later, named_plain, stands_back, stands_later, stands_once, stands_plain, word_set}
use Rattle.memo_cells.proofs.Places.{has_keys, has_values, keys_has, place_counted}
use Rattle.memo_cells.proofs.Showing.{approximations_before, missing_before, not_both, value_word_before}
use Rattle.memo_cells.proofs.ValueWords.{word_of_value, word_seen, word_unseen}

-- the words of a program
module _ (f : Frame) (ms : List CodedInstance) (ts ks vs : List ℕ) (lk : length ks ≡ f.cells) (lv : length vs ≡ f.cells) (o : AreWords f ms ts ks vs) where
  abbrev program : Program
  program = program_of f.system.value

  abbrev all : View
  all = knows_all f ms ts ks vs

  -- a key stands at one place
  once_there : (s t k : ℕ) → Has all.keys (s, k) → Has all.keys (t, k) → s ≡ t
  once_there s t k g h =
      let a = has_keys ks 0 s k g in
      let b = has_keys ks 0 t k h in
      let same = o.ordered.once a.1.0 b.1.0 (omega (arith, a.1.1, lk)) (omega (arith, b.1.1, lk)) (λ z. a.0 (sym a.1.3 ∙ z)) (a.1.3 ∙ sym b.1.3) in
      omega (arith, a.1.2, b.1.2, same)

  inside_there : (s k : ℕ) → Has all.keys (s, k) → s < f.cells
  inside_there s k h = let t = has_keys ks 0 s k h in omega (arith, t.1.1, t.1.2, lk)

  -- a key on a way stands for an instance
  named_there : (s k a n : ℕ) (cs : List ℕ) → Has all.keys (s, k) → IsNamed all k a n cs → (i : Instance) × StandsFor program all k i
  named_there s k a n cs h is =
      let t = has_keys ks 0 s k h in
      let formed : IsFormed program all k = subst (IsFormed program all) t.1.3 (o.ordered.formed_keys t.1.0 (omega (arith, t.1.1, lk)) (λ z. t.0 (sym t.1.3 ∙ z))) in
      ⊎_elim (λ x. (x.key.prefix, x.key.stands)) (λ x. absurd (not_both (named_plain all k a n cs is) (word_set program all k x.of x.word x.key))) formed

  -- the bits of a word of a set that is settled are the elements of its value there
  value_word : (i : Instance) (w x : ℕ) → is_single (kind_in program i) ≡ false → Knows program all i → ((b : ℕ) → b < 64 → (bit_at x b ≡ 1) ↔ ShowsCode program all i (64 * w + b)) → IsWordOfValue program ms i w x
  value_word i w x set known shown = let s = settled_shown f ms ts ks vs lk lv o i known in word_of_value program all (texts_pooled f.system.value) (by_words f ms ts ks vs lk lv o) (approximations f ms ts ks vs lk lv o) i s.0 s.1 w x set s.2 shown

  word_there : (place x k : ℕ) → place < f.cells → get_or vs place 0 ≡ x → Has all.keys (place, k) → IsValueWord program all k x
  word_there place x k lt word there i w is set known =
      let t = has_keys ks 0 place k there in
      let here : t.1.0 ≡ place = omega (arith, t.1.2) in
      let key : get_or ks place 0 ≡ k = ap (λ y. get_or ks y 0) (sym here) ∙ t.1.3 in
      value_word i w x set known
      (word_seen program all (one_there f ms ts ks vs lk lv o) once_there (bit_keyed f ms ts ks vs lk lv o) (texts_pooled f.system.value) (by_words f ms ts ks vs lk lv o) k i w x place is there
      (λ n few e. bits_has ks vs 0 place place k n (omega (arith, lt, lk)) (omega (arith, lt, lv)) key (set_bits k n (word_set program all k i w is) few) (ap (λ (y : ℕ). bit_at y n) word ∙ e) (omega arith))
      (λ n h.
      let r = has_bits ks vs 0 place k n h in
      let at : r.0 ≡ place = omega (arith, r.3) in
      ap (λ (y : ℕ). bit_at y n) (sym word ∙ ap (λ y. get_or vs y 0) (sym at)) ∙ r.6))

  -- where no such word stands, the value has no element
  pub word_missing : (k : ℕ) → IsNowhere all k → IsMissing program all k
  word_missing k nowhere = record {
    nowhere = nowhere;
    word = λ i w is set known. value_word i w 0 set known (word_unseen program all (one_there f ms ts ks vs lk lv o) once_there (bit_keyed f ms ts ks vs lk lv o) (texts_pooled f.system.value) (by_words f ms ts ks vs lk lv o) k i w is nowhere);
  }

  -- and that is so where other keys have all places
  word_full : (k : ℕ) → IsFull f all k → IsValueWord program all k 0
  word_full k full = (word_missing k (λ q has. let at = full q (inside_there q k has) in at.2 (one_there f ms ts ks vs lk lv o q at.0 k at.1 has))).word

  -- the bits of the word at a place are known
  pub bits_of_words : (place x : ℕ) → place < f.cells → get_or vs place 0 ≡ x → BitsSeen program all all place x
  bits_of_words place x lt word = record {
    all = λ k n has low one.
        let t = has_keys ks 0 place k has in
        let here : t.1.0 ≡ place = omega (arith, t.1.2) in
        bits_has ks vs 0 place place k n (omega (arith, lt, lk)) (omega (arith, lt, lv)) (ap (λ y. get_or ks y 0) (sym here) ∙ t.1.3) low (ap (λ (y : ℕ). bit_at y n) word ∙ one) (omega arith);
    only = λ k n h.
        let t = has_bits ks vs 0 place k n h in
        let here : t.0 ≡ place = omega (arith, t.3) in
        ap (λ (y : ℕ). bit_at y n) (sym word ∙ ap (λ y. get_or vs y 0) (sym here)) ∙ t.6;
    code = λ k c h. known_stands f ms ts ks vs all refl place x k c (omega (arith, lt, lv)) (sym word ∙ read_at vs place x (omega (arith, lt, lv))) h;
    word = λ k has. word_there place x k lt word has;
    keys = refl;
    claims = refl;
  }

  -- a pass that has such words
  pub pass_of : f.cells ≤ 4194304 → IsSeatOf f all ts
  pass_of few = record {
    table = refl;
    frame = refl;
    few = few;
    bare = o.bare;
    nothing = o.nothing;
    trees = o.trees;
    within = inside_there;
    one_key = one_there f ms ts ks vs lk lv o;
    one_place = once_there;
    named = named_there;
    valued = λ q k c h.
        let t = has_values ks vs 0 q k c h in
        let word = t.5 in
        let there : get_or ks t.0 0 ≢ 0 = o.ordered.keyed t.0 (omega (arith, t.2, lv)) (λ z. omega (arith, z, word)) in
        keys_has ks 0 t.0 q k t.1 t.4 (λ z. there (t.4 ∙ z)) t.3;
    coded = λ q k c h i stands.
        let settled = (final_at f ms ts ks vs lk lv o q k c h).settled in
        subst (λ (j : Instance). IsCodeOf program ms j c) (stands_once all (one_there f ms ts ks vs lk lv o) program (by_words f ms ts ks vs lk lv o) k settled.of i settled.stands stands) settled.code;
    keyed = bit_keyed f ms ts ks vs lk lv o;
    approximations = approximations f ms ts ks vs lk lv o;
    full = word_full;
    whole = λ e q k h. place_counted ks 0 q k h;
    to_seal = refl;
  }

-- a view without bits shows nothing
shows_nothing : (p : Program) (f : Frame) (i : Instance) (k : Kind) (x : Value) → ShowsAtMost p (first_view f) i k x
shows_nothing p f i kinds.Truth x = λ h. absurd h.3
shows_nothing p f i kinds.Int x = tt
shows_nothing p f i kinds.Text x = tt
shows_nothing p f i (kinds.Node d) x = tt
shows_nothing p f i kinds.Texts x = λ c h. absurd h.3
shows_nothing p f i (kinds.Nodes d) x = λ c h. absurd h.3

first_approximations : (p : Program) (f : Frame) → AreApproximations p (first_view f)
first_approximations p f = record {
  values = (equations_of p).bottom;
  lower = record { top = (equations_of p).bottom; reached = bottoms; fits = λ j c. (are_rising p).start j c; below = λ j c. at_most_itself ((equations_of p).bottom j) };
  circular = λ i c. shows_nothing p f i _ _;
  codes = λ i c h. absurd h.3;
  undeclared = λ i c d h. absurd h.3;
  truths = λ i c k h. absurd h.3;
  final = λ i c k. absurd k.settled;
}

-- none made a tree yet, in a program that makes none
pub no_trees : (f : Frame) → HasSourcesAlone (program_of f.system.value) → AreTrees (trees_of f [])
no_trees f bare = record {
  makers = tt;
  small = λ a r m is. absurd (let none = never_makes (program_of f.system.value) bare a r in cc);
  fit = trees_fit (program_of f.system.value) bare;
  few = bare.few;
}

pub first_own : (f : Frame) → f.cells ≤ 4194304 → HasSourcesAlone (program_of f.system.value) → AreTrees (trees_of f []) → IsPassOf f (first_view f)
first_own f few bare trees = record {
  table = refl;
  frame = refl;
  few = few;
  bare = bare;
  nothing = refl;
  trees = trees;
  within = λ p k h. absurd h;
  one_key = λ p j k g h. absurd h;
  one_place = λ p q k g h. absurd h;
  named = λ s k a n cs h is. absurd h;
  valued = λ p k c h. absurd h;
  coded = λ p k c h. absurd h;
  keyed = λ p k n h. absurd h;
  approximations = first_approximations (program_of f.system.value) f;
  full = λ k full i w is. absurd is.there;
  whole = λ e p k h. absurd h;
  to_seal = refl;
}

-- what a pass knows stands in such words, so it is a pass of these cells
pub told_own : (f : Frame) (ms : List CodedInstance) (ks vs : List ℕ) → length ks ≡ f.cells → length vs ≡ f.cells → AreWords f ms [] ks vs → f.cells ≤ 4194304 → (v : View) → IsTold f ms ks vs v → IsPassOf f v
told_own f ms ks vs lk lv o few v told =
    let own = pass_of f ms [] ks vs lk lv o few in
    let program = program_of f.system.value in
    let least = told_least f ms ks vs v told [] in
    let u : View = knows_all f ms [] ks vs in
    record {
      table = told.table;
      frame = told.frame;
      few = few;
      bare = o.bare;
      nothing = told.made ∙ o.nothing;
      trees = subst (λ (l : List CodedInstance). AreTrees (trees_of f l)) (sym told.made) o.trees;
      within = λ p k h. own.within p k (told.keys p k h);
      one_key = λ p j k g h. own.one_key p j k (told.keys p j g) (told.keys p k h);
      one_place = λ p q k g h. own.one_place p q k (told.keys p k g) (told.keys q k h);
      named = λ s k a n cs h is. let it = own.named s k a n cs (told.keys s k h) (named_later v u least k a n cs is) in (it.0, stands_back u own.one_key v least told.made program k a n cs it.0 is it.1);
      valued = told.valued;
      coded = λ p k c h i stands. subst (λ (l : List CodedInstance). IsCodeOf program l i c) (sym told.made) (own.coded p k c (told.values p k c h) i (stands_later v u least program k i stands));
      keyed = told.keyed;
      approximations = approximations_before program v u least told.made own.approximations;
      full = λ k full. value_word_before program v u least told.made k 0 (own.full k (λ q lt. other_later v u k q least (full q lt)));
      whole = λ e p k h. told.own p k (told.keys p k h);
      to_seal = told.to_seal;
    }

-- what a pass knows stands in the words of the cells: u is what one would know that has seen all of them
module _ (f : Frame) (ms : List CodedInstance) (ks vs : List ℕ) (lk : length ks ≡ f.cells) (lv : length vs ≡ f.cells) (o : AreWords f ms [] ks vs) (v : View) (told : IsTold f ms ks vs v) (g : Frame) (own : IsPassOf g v) (place : ℕ) (lt : place < g.cells) where
  abbrev p : Program
  p = program_of f.system.value

  abbrev u : View
  u = knows_all f ms [] ks vs

  pub same : f ≡ g
  same = let e : Some f ≡ Some g = sym told.frame ∙ own.frame in cc

  pub inside : place < f.cells
  inside = let size = ap (λ (h : Frame). h.cells) same in omega (arith, size, lt)

  pub few : f.cells ≤ 4194304
  few = subst (λ (h : Frame). h.cells ≤ 4194304) (sym same) own.few

  pub least : IsAtLeast v u
  least = told_least f ms ks vs v told []

  -- a pass that knows more now
  own_now : (js ws : List ℕ) → length js ≡ f.cells → length ws ≡ f.cells → AreWords f ms [] js ws → (w : View) → IsTold f ms js ws w → IsPassOf g w
  own_now js ws lj lw a w t = subst (λ (h : Frame). IsPassOf h w) same (told_own f ms js ws lj lw a few w t)

  -- ---- a key word was read
  module _ (found : ℕ) (e : found ≡ get_or ks place found) where
    abbrev key_after : View
    key_after = after v (Key place found)

    pub key_now : IsTold f ms ks vs key_after
    key_now = key_told f ms ks vs v told place found (omega (arith, inside, lk)) e

    pub key_own : IsPassOf g key_after
    key_own = own_now ks vs lk lv o key_after key_now

    pub key_seen : KeySeen g v key_after place found
    key_seen = record {
      claimed = λ nz. with_key_here place found v.keys nz;
      free = λ z k h. free_now f ms [] ks vs u refl place found (omega (arith, inside, lk)) e z k (key_now.keys place k h);
      nowhere = λ z k nz passed.
          let seen : IsPassed f u k place = λ q way. other_later v u k q least (passed q (subst (λ (h : Frame). Before h.cells (start h.cells k) place q) same way)) in
          let none = nowhere_now f ms [] ks vs u refl p lk lv o.values o.ordered place found k inside e z nz seen in
          subst (λ (h : Frame). IsMissing (program_of h.system.value) key_after k) same (missing_before p key_after u (told_least f ms ks vs key_after key_now []) key_now.made k (word_missing f ms [] ks vs lk lv o k none));
      values = λ q k c h. h;
      claims = refl;
      log = refl;
    }

    -- a key that another one keeps out
    pub key_lost : (key : ℕ) → found ≢ 0 → KeyTried v key_after place key found
    key_lost key nz = record { won = λ z. absurd (nz z); lost = λ _. with_key_here place found v.keys nz; claims = λ q. inl refl; log = refl }

  -- ---- a key was put at a free place
  module _ (key found : ℕ) (e : found ≡ get_or ks place found) (z : found ≡ 0) (nz : key ≢ 0) (formed : IsFormed (program_of g.system.value) v key) (passed : IsPassed g v key place) where
    abbrev claim_after : View
    claim_after = after v (Claim place key)

    free : get_or ks place 0 ≡ 0
    free = read_at ks place found (omega (arith, inside, lk)) ∙ sym e ∙ z

    pub claimed_words : AreWords f ms [] (set ks place key) vs
    claimed_words = record {
      bare = o.bare;
      nothing = o.nothing;
      trees = o.trees;
      values = o.values;
      lower = o.lower;
      ordered = ordered_after f ms [] ks vs u refl p lk lv o.values o.ordered place key inside free nz
          (formed_later v u least p key (subst (λ (h : Frame). IsFormed (program_of h.system.value) v key) (sym same) formed))
          (λ q way. other_later v u key q least (passed q (subst (λ (h : Frame). Before h.cells (start h.cells key) place q) same way)));
    }

    pub claim_now : IsTold f ms (set ks place key) vs claim_after
    claim_now = claim_told f ms ks vs v told place key (omega (arith, inside, lk)) free nz (kept_after f ms [] ks vs u refl p lk lv o.values o.ordered place key inside free)

    pub claimed_own : IsPassOf g claim_after
    claimed_own = own_now (set ks place key) vs (length-set ks place key ∙ lk) lv claimed_words claim_after claim_now

    pub key_won : KeyTried v claim_after place key found
    key_won = record {
      won = λ _. inl refl;
      lost = λ n. absurd (n z);
      claims = λ q. dite (ℕ_discrete q place) (λ h. inr (z, h)) (λ apart. inl (let none : if◌then◌else◌ {A = ℕ} (eqb q place) 1 0 ≡ 0 = ap (λ b. if◌then◌else◌ {A = ℕ} b 1 0) (ne_eqb q place apart) in omega (arith, none)));
      log = ap (λ (x : ℕ). (key_word_at place, x) ∷ v.found) (sym z);
    }

  -- ---- a value word was read, or another one was put
  module _ (found left : ℕ) (ws : List ℕ) (lw : length ws ≡ f.cells) (a : AreWords f ms [] ks ws) (more : IsAtLeast u (knows_all f ms [] ks ws)) (at : get_or ws place 0 ≡ left) where
    abbrev value_after : View
    value_after = after v (LeftValue place found left)

    abbrev later : View
    later = knows_all f ms [] ks ws

    pub value_now : IsTold f ms ks ws value_after
    value_now = value_told f ms ks vs v told place found left ws (omega (arith, inside, lk)) (omega (arith, inside, lw)) at more

    pub value_own : IsPassOf g value_after
    value_own = own_now ks ws lk lw a value_after value_now

    -- what is known of the place
    left_is : left ≡ get_or ws place left
    left_is = sym at ∙ read_at ws place left (omega (arith, inside, lw))

    key_plain : (k : ℕ) → IsPlain v place → Has v.keys (place, k) → is_set_word k ≡ false
    key_plain k plain has = ap is_set_word (own.one_key place k plain.0 has plain.1) ∙ plain.2

    pub is_settled : IsPlain v place → 2 ^ 63 ≤ left → (k : ℕ) → Has v.keys (place, k) → Has value_after.values (place, k, left - 2 ^ 63)
    is_settled plain high k has = has_left (values_said place left v.keys) v.values (place, k, left - 2 ^ 63) (values_said_has place left k v.keys has high (key_plain k plain has))

    pub is_unset : left < 2 ^ 63 → (k c : ℕ) → ¬ Has value_after.values (place, k, c)
    is_unset low k c h = unset_now f ms [] ks ws later refl place left (omega (arith, inside, lw)) left_is low k c (value_now.values place k c h)

    plain_later : IsPlain v place → IsPlain later place
    plain_later plain = (plain.0, more.keys place plain.0 (told.keys place plain.0 plain.1), plain.2)

    pub is_small : IsPlain v place → left < 2 ^ 63 + 2 ^ 32
    is_small plain = word_small f ms [] ks ws later refl p lk lw a.values a.ordered place left (omega (arith, inside, lw)) left_is (plain_later plain)

    pub were_others : (q k c : ℕ) → Has value_after.values (q, k, c) → Has v.values (q, k, c) ⊎ (q ≡ place)
    were_others q k c h = ⊎_elim (λ s. inr (said_values place left q k c v.keys s).0) inl (has_either (values_said place left v.keys) v.values (q, k, c) h)

    pub value_stays : (k c : ℕ) → Has v.values (place, k, c) → left ≡ c + 2 ^ 63
    value_stays k c has = known_stands f ms [] ks ws later refl place left k c (omega (arith, inside, lw)) left_is (more.values place k c (told.values place k c has))

    pub bits_seen : BitsSeen (program_of g.system.value) v value_after place left
    bits_seen =
        let seen = bits_of_words f ms [] ks ws lk lw a place left inside at in
        subst (λ (h : Frame). BitsSeen (program_of h.system.value) v value_after place left) same
        (record {
          all = λ k n has low one. has_left (bits_said place left v.keys) v.bits (place, k, n) (bits_said_has place left k n v.keys has low one);
          only = λ k n h. seen.only k n (value_now.bits place k n h);
          code = value_stays;
          word = λ k has. value_word_before p v later (at_least_then least more) told.made k left (seen.word k (more.keys place k (told.keys place k has)));
          keys = refl;
          claims = refl;
        })

  -- it was only read
  module _ (found : ℕ) (e : found ≡ get_or vs place found) where
    found_at : get_or vs place 0 ≡ found
    found_at = read_at vs place found (omega (arith, inside, lv)) ∙ sym e

    pub read_now : IsTold f ms ks vs (after v (LeftValue place found found))
    read_now = value_now found found vs lv o (at_least_itself u) found_at

    pub read_own : IsPassOf g (after v (LeftValue place found found))
    read_own = value_own found found vs lv o (at_least_itself u) found_at

    pub read_bits : BitsSeen (program_of g.system.value) v (after v (LeftValue place found found)) place found
    read_bits = bits_seen found found vs lv o (at_least_itself u) found_at

    pub value_seen : IsPlain v place → ValueSeen g v (after v (LeftValue place found found)) place found
    value_seen plain = record {
      settled = is_settled found found vs lv o (at_least_itself u) found_at plain;
      unset = is_unset found found vs lv o (at_least_itself u) found_at;
      code = is_small found found vs lv o (at_least_itself u) found_at plain;
      others = were_others found found vs lv o (at_least_itself u) found_at;
      claims = refl;
      log = value_logged v place found found own.frame;
    }

  -- ---- a value was settled, or was so already
  module _ (code : ℕ) (may : MaySettle (program_of g.system.value) v place code) (found left : ℕ) (e : found ≡ get_or vs place found) where
    its : MaySettle p u place code
    its = may_settle_later p v u least place code (subst (λ (h : Frame). MaySettle (program_of h.system.value) v place code) (sym same) may)

    plain : IsPlain v place
    plain = (may.key, may.here, stands_plain (program_of g.system.value) v may.key may.settled.of may.settled.stands)

    -- it was settled already
    module _ (nz : found ≢ 0) (is : left ≡ found) where
      left_at : get_or vs place 0 ≡ left
      left_at = found_at found e ∙ sym is

      found_high : 2 ^ 63 ≤ left
      found_high = let high = word_high f ms [] ks vs u refl p lk lv o.values o.ordered (trees_open f ms o.trees) place code found (omega (arith, inside, lv)) e nz its in omega (arith, high, is)

      pub value_lost : ValueTried v (after v (LeftValue place found left)) place code found
      value_lost = record {
        won = λ z. absurd (nz z);
        lost = λ _. (omega (arith, found_high, is), λ k has. subst (λ (y : ℕ). Has (after v (LeftValue place found left)).values (place, k, y - 2 ^ 63)) is (is_settled found left vs lv o (at_least_itself u) left_at plain found_high k has));
        code = let small = is_small found left vs lv o (at_least_itself u) left_at plain in omega (arith, small, is);
        stays = λ k d has. sym is ∙ value_stays found left vs lv o (at_least_itself u) left_at k d has;
        claims = refl;
      }

      pub lost_now : IsTold f ms ks vs (after v (LeftValue place found left))
      lost_now = value_now found left vs lv o (at_least_itself u) left_at

    -- it is put
    module _ (z : found ≡ 0) (is : left ≡ code + 2 ^ 63) where
      abbrev put : List ℕ
      put = set vs place left

      unset : get_or vs place 0 ≡ 0
      unset = found_at found e ∙ z

      pub settled_words : AreWords f ms [] ks put
      settled_words = subst (λ (w : ℕ). AreWords f ms [] ks (set vs place w)) (sym is) (record { bare = o.bare; nothing = o.nothing; trees = o.trees; values = o.values; lower = o.lower; ordered = valued_after f ms [] ks vs u refl p lk lv o.values o.ordered place code inside unset its })

      put_long : length put ≡ f.cells
      put_long = length-set vs place left ∙ lv

      put_more : IsAtLeast u (knows_all f ms [] ks put)
      put_more = subst (λ (w : ℕ). IsAtLeast u (knows_all f ms [] ks (set vs place w))) (sym is) (kept_value f ms [] ks vs u refl p lk lv o.values o.ordered place code inside unset its)

      put_at : get_or put place 0 ≡ left
      put_at = get_or-set_same vs place left 0 (omega (arith, inside, lv))

      pub settled_now : IsTold f ms ks put (after v (LeftValue place found left))
      settled_now = value_now found left put put_long settled_words put_more put_at

      pub settled_own : IsPassOf g (after v (LeftValue place found left))
      settled_own = value_own found left put put_long settled_words put_more put_at

      pub value_won : ValueTried v (after v (LeftValue place found left)) place code found
      value_won = record {
        won = λ _ k has. subst (λ (y : ℕ). Has (after v (LeftValue place found left)).values (place, k, y)) (omega (arith, is)) (is_settled found left put put_long settled_words put_more put_at plain (omega (arith, is)) k has);
        lost = λ n. absurd (n z);
        code = omega (arith, z);
        stays = λ k d has. absurd (let stands = known_stands f ms [] ks vs u refl place found k d (omega (arith, inside, lv)) e (told.values place k d has) in omega (arith, stands, z));
        claims = refl;
      }
