-- Searches: what they find more, and that exactly the open members are found in the end.
use Rattle.std.proofs.Common.{◌≡◌, ◌≢◌, ◌⊎◌, ◌↔◌, ◌∙◌, ℕ, zero, suc, ◌+◌, ◌<◌, ◌≤◌, Bool, true, false, List, [], ◌∷◌, ◌++◌, Some, None, Contains, length, set, slice_get, slice_index_or, inl, inr, ⊎_elim, refl, sym, ap, subst, arith}
use Rattle.std.proofs.lemmas.Bool.{cases_order}
use Rattle.std.proofs.lemmas.List.{length-set, length_push}
use Rattle.std.proofs.lemmas.List.Elements.{Contains-append_cases, Contains-append_left, Contains-push}
use Rattle.std.proofs.lemmas.Option.{slice_get_within}
use Rattle.worklists.specs.declared.search.Search.{Search}
use Rattle.worklists.specs.declared.worklist.Noted.{Noted}
use Rattle.worklists.specs.declared.worklist.Worklist.{Worklist}
use Rattle.worklists.specs.Searching.{Finds, FindsOpen, IsFound, IsNewSearch, IsSearch, steps_left, unfound}
use Rattle.worklists.specs.Waiting.{AreClosed, IsFresh, IsOpen, IsReader, fresh, reads, stops}
use Rattle.worklists.proofs.Marks.{set_other, set_there, unfound_set}
use Rattle.worklists.proofs.Noting.{number_is}
use Rattle.worklists.proofs.Numbers.{number_within}

-- a list of one
pub contains_one : (k n : ℕ) → Contains (n ∷ []) k → k ≡ n
contains_one k n (zero, low, is) = sym is
contains_one k n (suc i, low, is) = absurd (omega (arith, low))

pub contains_none : (k : ℕ) → ¬ Contains [] k
contains_none k (i, low, is) = absurd (omega (arith, low))

-- nothing more is found
pub finds_same : (P : ℕ → Type 0) (s t : Search) → t.found ≡ s.found → t.waiting ≡ s.waiting → Finds P s t
finds_same P s t same waiting =
    subst (λ (u : Search). Finds P s u) (λ i. record { found = sym same i; waiting = sym waiting i; looked = t.looked }) (record { len = refl; kept = λ k h. h; waits = λ k h. h; found = λ k h. inl h; only = λ k h. inl h; left = omega arith })

pub finds_then : (P : ℕ → Type 0) (a b c : Search) → Finds P a b → Finds P b c → Finds P a c
finds_then P a b c f g =
    let first : steps_left b ≤ steps_left a = f.left in
    let second : steps_left c ≤ steps_left b = g.left in
    record {
      len = g.len ∙ f.len;
      kept = λ k h. g.kept k (f.kept k h);
      waits = λ k h. g.waits k (f.waits k h);
      found = λ k h. ⊎_elim (λ x. ⊎_elim inl (λ y. inr (y.0, g.waits k y.1)) (f.found k x)) inr (g.found k h);
      only = λ k h. ⊎_elim (λ x. ⊎_elim inl (λ y. inr (g.kept k y)) (f.only k x)) inr (g.only k h);
      left = omega (arith, first, second);
    }

pub finds_wider : (P Q : ℕ → Type 0) (a b : Search) → ((k : ℕ) → P k → Q k) → Finds P a b → Finds Q a b
finds_wider P Q a b wider f = record {
  len = f.len;
  kept = f.kept;
  waits = f.waits;
  found = λ k h. ⊎_elim inl (λ x. inr (wider k x.0, x.1)) (f.found k h);
  only = f.only;
  left = f.left;
}

-- one more is found
module _ (s t : Search) (n : ℕ) (was : slice_get s.found.items n ≡ Some false) (set_one : t.found.items ≡ set s.found.items n true) (waiting : t.waiting.items ≡ s.waiting.items ++ n ∷ []) where
  pub one_found : IsFound t n
  one_found = subst (λ (bs : List Bool). slice_get bs n ≡ Some true) (sym set_one) (set_there s.found.items n true false was)

  others_stay : (k : ℕ) → k ≢ n → slice_get t.found.items k ≡ slice_get s.found.items k
  others_stay k other = ap (λ (bs : List Bool). slice_get bs k) set_one ∙ set_other s.found.items n k true other

  one_waits : Contains t.waiting.items n
  one_waits = subst (λ (ks : List ℕ). Contains ks n) (sym waiting) (Contains-push s.waiting.items n)

  kept_one : (k : ℕ) → IsFound s k → IsFound t k
  kept_one k h = elim (cases_order k n) [
    | inl same ↦ subst (λ (m : ℕ). IsFound t m) (sym same) one_found
    | inr other ↦ others_stay k (λ same. ⊎_elim (λ (l : k < n). omega (arith, l, same)) (λ (l : n < k). omega (arith, l, same)) other) ∙ h
  ]

  found_one : (k : ℕ) → IsFound t k → IsFound s k ⊎ ((k ≡ n) × Contains t.waiting.items k)
  found_one k h = elim (cases_order k n) [
    | inl same ↦ inr (same, subst (λ (m : ℕ). Contains t.waiting.items m) (sym same) one_waits)
    | inr other ↦ inl (sym (others_stay k (λ same. ⊎_elim (λ (l : k < n). omega (arith, l, same)) (λ (l : n < k). omega (arith, l, same)) other)) ∙ h)
  ]

  pub finds_one : Finds (λ k. k ≡ n) s t
  finds_one =
      let fewer : unfound s.found.items ≡ unfound (set s.found.items n true) + 1 = unfound_set s.found.items n was in
      let now : unfound t.found.items ≡ unfound (set s.found.items n true) = ap unfound set_one in
      let long : length t.waiting.items ≡ length s.waiting.items + 1 = ap length waiting ∙ length_push s.waiting.items n in
      record {
        len = ap length set_one ∙ length-set s.found.items n true;
        kept = kept_one;
        waits = λ k h. subst (λ (ks : List ℕ). Contains ks k) (sym waiting) (Contains-append_left s.waiting.items (n ∷ []) k h);
        found = found_one;
        only = λ k h. ⊎_elim inl (λ x. inr (subst (λ (m : ℕ). IsFound t m) (sym (contains_one k n x)) one_found)) (Contains-append_cases s.waiting.items (n ∷ []) k (subst (λ (ks : List ℕ). Contains ks k) waiting h));
        left = omega (arith, fewer, now, long);
      }

-- the next reader is found
finds_one_of : (keys items : List ℕ) (i n : ℕ) (a b : Search) → items ≡ keys → i < length items → n ≡ slice_index_or items i 0 → Finds (λ k. k ≡ n) a b → Finds (Contains keys) a b
finds_one_of keys items i n a b same low is f = finds_wider (λ k. k ≡ n) (Contains keys) a b (λ k e. subst (λ (ks : List ℕ). Contains ks k) same (i, low, number_within items i k 0 low ∙ sym is ∙ sym e)) f

pub finds_next : (keys items : List ℕ) (i : ℕ) (s a b : Search) → items ≡ keys → i < length items → Finds (Contains keys) s a → Finds (λ k. k ≡ slice_index_or items i 0) a b → Finds (Contains keys) s b
finds_next keys items i s a b same low f g = finds_then (Contains keys) s a b f (finds_one_of keys items i (slice_index_or items i 0) a b same low refl g)

pub all_more : (items : List ℕ) (i m : ℕ) (a b : Search) → i < length items → Finds (λ k. k ≡ slice_index_or items i 0) a b → m ≡ length a.found.items → ((j k : ℕ) → j < i → slice_index_or items j k ≡ k → k < m → IsFound a k) → (slice_index_or items i 0 < length a.found.items → IsFound b (slice_index_or items i 0)) → (j k : ℕ) → j < i + 1 → slice_index_or items j k ≡ k → k < m → IsFound b k
all_more items i m a b low f long before now j k less is within = elim (cases_order j i) [
  | inl same ↦
      let one : slice_index_or items i 0 ≡ k = number_is items i j k low same is in
      subst (λ (u : ℕ). IsFound b u) one (now (subst (λ (u : ℕ). u < length a.found.items) (sym one) (subst (λ (u : ℕ). k < u) long within)))
  | inr other ↦ f.kept k (before j k (⊎_elim (λ l. l) (λ l. absurd (omega (arith, less, l))) other) is within)
]

-- what was found among the first members
pub record IsBegun (w : Worklist) (stopped n : ℕ) (s : Search) : Type 0 where
  pub marks : length s.found.items ≡ length w.noted.items
  pub leads : (k : ℕ) → IsFound s k → IsOpen w stopped k
  pub waiting : (k : ℕ) → Contains s.waiting.items k → IsFound s k
  pub waits : (k : ℕ) → IsFound s k → Contains s.waiting.items k
  pub begins : stopped < length w.noted.items → IsFound s stopped
  pub fresh : (k : ℕ) → k < n → IsFresh w k → IsFound s k

pub begun_first : (w : Worklist) (stopped : ℕ) (s t : Search) → IsNewSearch (length w.noted.items) s → Finds (λ k. k ≡ stopped) s t → (stopped < length s.found.items → IsFound t stopped) → IsBegun w stopped 0 t
begun_first w stopped s t new f there =
    let none : (k : ℕ) → ¬ Contains s.waiting.items k = λ k h. contains_none k (subst (λ (ks : List ℕ). Contains ks k) new.waiting h) in
    record {
      marks = f.len ∙ new.len;
      leads = λ k h. ⊎_elim (λ x. absurd (new.none k x)) (λ x. subst (λ (m : ℕ). IsOpen w stopped m) (sym x.0) stops) (f.found k h);
      waiting = λ k h. ⊎_elim (λ x. absurd (none k x)) (λ x. x) (f.only k h);
      waits = λ k h. ⊎_elim (λ x. absurd (new.none k x)) (λ x. x.1) (f.found k h);
      begins = λ low. there (subst (λ (m : ℕ). stopped < m) (sym new.len) low);
      fresh = λ k low. absurd (omega (arith, low));
    }

-- the next one wasn't evaluated yet
pub begun_fresh : (w : Worklist) (stopped n : ℕ) (s t : Search) → IsBegun w stopped n s → IsFresh w n → Finds (λ k. k ≡ n) s t → (n < length s.found.items → IsFound t n) → IsBegun w stopped (n + 1) t
begun_fresh w stopped n s t h is f there = record {
  marks = f.len ∙ h.marks;
  leads = λ k x. ⊎_elim (h.leads k) (λ y. subst (λ (m : ℕ). IsOpen w stopped m) (sym y.0) (fresh is)) (f.found k x);
  waiting = λ k x. ⊎_elim (λ y. f.kept k (h.waiting k y)) (λ y. y) (f.only k x);
  waits = λ k x. ⊎_elim (λ y. f.waits k (h.waits k y)) (λ y. y.1) (f.found k x);
  begins = λ low. f.kept stopped (h.begins low);
  fresh = λ k low x. elim (cases_order k n) [
    | inl same ↦ subst (λ (m : ℕ). IsFound t m) (sym same) (there (subst (λ (m : ℕ). n < m) (sym h.marks) (slice_get_within w.noted.items n is.of is.noted)))
    | inr other ↦ f.kept k (h.fresh k (⊎_elim (λ l. l) (λ l. absurd (omega (arith, low, l))) other) x)
  ];
}

-- or was
pub begun_not : (w : Worklist) (stopped n : ℕ) (s : Search) → IsBegun w stopped n s → ¬ IsFresh w n → IsBegun w stopped (n + 1) s
begun_not w stopped n s h not = record {
  marks = h.marks;
  leads = h.leads;
  waiting = h.waiting;
  waits = h.waits;
  begins = h.begins;
  fresh = λ k low x. elim (cases_order k n) [
    | inl same ↦ absurd (not (subst (λ (m : ℕ). IsFresh w m) same x))
    | inr other ↦ h.fresh k (⊎_elim (λ l. l) (λ l. absurd (omega (arith, low, l))) other) x
  ];
}

pub begun_search : (w : Worklist) (stopped n : ℕ) (s : Search) → length w.noted.items ≤ n → IsBegun w stopped n s → IsSearch w stopped s
begun_search w stopped n s all h = record {
  marks = h.marks;
  leads = h.leads;
  waiting = h.waiting;
  begins = h.begins;
  fresh = λ k x. let low : k < length w.noted.items = slice_get_within w.noted.items k x.of x.noted in h.fresh k (omega (arith, low, all)) x;
  read = λ k reader f r low. inl (h.waits k f);
}

-- going on from one that was found
module _ (w : Worklist) (stopped n : ℕ) (a b : Search) (h : IsSearch w stopped a) (same : b.found ≡ a.found) (waiting : a.waiting.items ≡ b.waiting.items ++ n ∷ []) where
  back : (k : ℕ) → IsFound b k → IsFound a k
  back k x = subst (λ u. slice_get u.items k ≡ Some true) same x

  on : (k : ℕ) → IsFound a k → IsFound b k
  on k x = subst (λ u. slice_get u.items k ≡ Some true) (sym same) x

  waited : (k : ℕ) → Contains b.waiting.items k → Contains a.waiting.items k
  waited k x = subst (λ (ks : List ℕ). Contains ks k) (sym waiting) (Contains-append_left b.waiting.items (n ∷ []) k x)

  either : (k : ℕ) → Contains a.waiting.items k → Contains b.waiting.items k ⊎ (k ≡ n)
  either k x = ⊎_elim inl (λ y. inr (contains_one k n y)) (Contains-append_cases b.waiting.items (n ∷ []) k (subst (λ (ks : List ℕ). Contains ks k) waiting x))

  here : IsFound a n
  here = h.waiting n (subst (λ (ks : List ℕ). Contains ks n) (sym waiting) (Contains-push b.waiting.items n))

  marks : length b.found.items ≡ length w.noted.items
  marks = ap (λ u. length u.items) same ∙ h.marks

  pub one_step : steps_left b < steps_left a
  one_step =
      let long : length a.waiting.items ≡ length b.waiting.items + 1 = ap length waiting ∙ length_push b.waiting.items n in
      let kept : unfound b.found.items ≡ unfound a.found.items = ap (λ u. unfound u.items) same in
      omega (arith, long, kept)

  -- to its readers
  module _ (c : Search) (of : Noted) (at : slice_get w.noted.items n ≡ Some of) (f : Finds (Contains of.readers.keys) b c) (all : (k : ℕ) → Contains of.readers.keys k → k < length b.found.items → IsFound c k) where
    reader_found : (reader : ℕ) → IsReader w n reader → reader < length w.noted.items → IsFound c reader
    reader_found reader r low =
        let both : Some r.of ≡ Some of = sym r.noted ∙ at in
        let same : r.of ≡ of = cc in
        all reader (subst (λ (u : Noted). Contains u.readers.keys reader) same r.has) (subst (λ (m : ℕ). reader < m) (sym marks) low)

    pub search_readers : IsSearch w stopped c
    search_readers = record {
      marks = f.len ∙ marks;
      leads = λ k x. ⊎_elim (λ y. h.leads k (back k y)) (λ y. reads (record { of = of; noted = at; has = y.0 }) (h.leads n here)) (f.found k x);
      waiting = λ k x. ⊎_elim (λ y. f.kept k (on k (h.waiting k (waited k y)))) (λ y. y) (f.only k x);
      begins = λ low. f.kept stopped (on stopped (h.begins low));
      fresh = λ k x. f.kept k (on k (h.fresh k x));
      read = λ k reader x r low.
          ⊎_elim
          (λ y. ⊎_elim (λ z. ⊎_elim (λ u. inl (f.waits k u)) (λ same. inr (reader_found reader (subst (λ (m : ℕ). IsReader w m reader) same r) low)) (either k z)) (λ z. inr (f.kept reader (on reader z))) (h.read k reader (back k y) r low))
          (λ y. inl y.1)
          (f.found k x);
    }

  -- there is none of this number
  pub search_past : None ≡ slice_get w.noted.items n → IsSearch w stopped b
  search_past past = record {
    marks = marks;
    leads = λ k x. h.leads k (back k x);
    waiting = λ k x. on k (h.waiting k (waited k x));
    begins = λ low. on stopped (h.begins low);
    fresh = λ k x. on k (h.fresh k x);
    read = λ k reader x r low.
        ⊎_elim
        (λ z. ⊎_elim inl (λ same. let both : None ≡ Some r.of = past ∙ ap (λ (m : ℕ). slice_get w.noted.items m) (sym same) ∙ r.noted in absurd (let e : ⊥ = cc in e)) (either k z))
        (λ z. inr (on reader z))
        (h.read k reader (back k x) r low);
  }

-- nothing is left to go on from
open_found : (w : Worklist) (stopped : ℕ) (s : Search) → IsSearch w stopped s → s.waiting.items ≡ [] → (k : ℕ) → k < length w.noted.items → IsOpen w stopped k → IsFound s k
open_found w stopped s h none k low stops = h.begins low
open_found w stopped s h none k low (fresh x) = h.fresh k x
open_found w stopped s h none k low (reads {number = n} r o) =
    ⊎_elim (λ x. absurd (contains_none n (subst (λ (ks : List ℕ). Contains ks n) none x))) (λ x. x) (h.read n k (open_found w stopped s h none n (slice_get_within w.noted.items n r.of r.noted) o) r low)

pub search_whole : (w : Worklist) (stopped : ℕ) (s t : Search) → IsSearch w stopped s → t.found ≡ s.found → s.waiting.items ≡ [] → FindsOpen w stopped t
search_whole w stopped s t h same none = record {
  marks = ap (λ u. length u.items) same ∙ h.marks;
  leads = λ k x. h.leads k (subst (λ u. slice_get u.items k ≡ Some true) same x);
  all = λ k low o. subst (λ u. slice_get u.items k ≡ Some true) (sym same) (open_found w stopped s h none k low o);
}

-- those that weren't found are closed
mark_of : (bs : List Bool) (k : ℕ) → k < length bs → (slice_get bs k ≡ Some true) ⊎ (slice_get bs k ≡ Some false)
mark_of [] k low = absurd (omega (arith, low))
mark_of (true ∷ bs) zero low = inl refl
mark_of (false ∷ bs) zero low = inr refl
mark_of (b ∷ bs) (suc k) low = mark_of bs k (omega (arith, low))

pub others_closed : (w : Worklist) (stopped : ℕ) (s : Search) (ks : List ℕ) → FindsOpen w stopped s → ((k : ℕ) → Contains ks k ↔ (slice_get s.found.items k ≡ Some false)) → AreClosed w stopped ks
others_closed w stopped s ks h those = record {
  closed = λ k x.
      let not : slice_get s.found.items k ≡ Some false = (those k).0 x in
      let low : k < length w.noted.items = subst (λ (m : ℕ). k < m) h.marks (slice_get_within s.found.items k false not) in
      record { member = low; closed = λ o. let both : Some true ≡ Some false = sym (h.all k low o) ∙ not in let e : ⊥ = cc in e };
  all = λ k c. (those k).1 (⊎_elim (λ x. absurd (c.closed (h.leads k x))) (λ x. x) (mark_of s.found.items k (subst (λ (m : ℕ). k < m) (sym h.marks) c.member)));
}

-- those of the first members that weren't found
abbrev pub AreOthers : List Bool → ℕ → List ℕ → Type 0
AreOthers bs n ks = (k : ℕ) → Contains ks k ↔ ((k < n) × (slice_get bs k ≡ Some false))

pub others_none : (bs : List Bool) (ks : List ℕ) → ks ≡ [] → AreOthers bs 0 ks
others_none bs ks is k = (λ h. absurd (contains_none k (subst (λ (js : List ℕ). Contains js k) is h)), λ h. absurd (omega (arith, h.0)))

pub others_more : (bs : List Bool) (n : ℕ) (ks js : List ℕ) → slice_get bs n ≡ Some false → js ≡ ks ++ n ∷ [] → AreOthers bs n ks → AreOthers bs (n + 1) js
others_more bs n ks js at is h k = (
  λ x.
      elim (Contains-append_cases ks (n ∷ []) k (subst (λ (l : List ℕ). Contains l k) is x)) [
        | inl y ↦ let b = (h k).0 y in let low : k < n = b.0 in (omega (arith, low), b.1)
        | inr y ↦ let same : k ≡ n = contains_one k n y in (omega (arith, same), subst (λ (m : ℕ). slice_get bs m ≡ Some false) (sym same) at)
      ],
  λ x.
      subst (λ (l : List ℕ). Contains l k) (sym is)
      (elim (cases_order k n) [
        | inl same ↦ subst (λ (m : ℕ). Contains (ks ++ n ∷ []) m) (sym same) (Contains-push ks n)
        | inr other ↦ Contains-append_left ks (n ∷ []) k ((h k).1 (⊎_elim (λ l. l) (λ l. let low : k < n + 1 = x.0 in absurd (omega (arith, l, low))) other, x.1))
      ]),
)

others_same : (bs : List Bool) (n : ℕ) (ks : List ℕ) → slice_get bs n ≢ Some false → AreOthers bs n ks → AreOthers bs (n + 1) ks
others_same bs n ks not h k = (
  λ x. let b = (h k).0 x in let low : k < n = b.0 in (omega (arith, low), b.1),
  λ x. (h k).1 (
    elim (cases_order k n) [
      | inl same ↦ absurd (not (subst (λ (m : ℕ). slice_get bs m ≡ Some false) same x.1))
      | inr other ↦ ⊎_elim (λ l. l) (λ l. let low : k < n + 1 = x.0 in absurd (omega (arith, l, low))) other
    ],
    x.1,
  ),
)

pub others_next : (bs : List Bool) (n : ℕ) (ks : List ℕ) (b : Bool) → slice_get bs n ≡ Some b → b ≡ true → AreOthers bs n ks → AreOthers bs (n + 1) ks
others_next bs n ks b at h = others_same bs n ks (λ other. let both : Some b ≡ Some false = sym at ∙ other in let one : b ≡ false = cc in let no : true ≡ false = sym h ∙ one in let e : ⊥ = cc in e)

pub others_all : (bs : List Bool) (n : ℕ) (ks : List ℕ) → length bs ≤ n → AreOthers bs n ks → (k : ℕ) → Contains ks k ↔ (slice_get bs k ≡ Some false)
others_all bs n ks all h k = (λ x. ((h k).0 x).1, λ x. (h k).1 (let low : k < length bs = slice_get_within bs k false x in omega (arith, low, all), x))
