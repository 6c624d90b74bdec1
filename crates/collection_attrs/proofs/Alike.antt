-- Two readings of the first offers of a collection are alike, so how far it has gone over them is so along every walk.
use Rattle.std.proofs.Common.{◌≡◌, ℕ, zero, suc, ◌≤◌, ◌⊎◌, true, List, [], ◌∷◌, ◌++◌, Option, Some, None, length, slice_get, take, refl, sym, ap, subst, ◌∙◌, inl, inr, arith}
use Rattle.solutions.proofs.Runs.{ends_same}
use Rattle.attr_rules.proofs.RowLists.{there}
use Rattle.equation_law.specs.Codes.{Naming, reference_by, value_by}
use Rattle.equation_law.specs.Collections.{Collection, Offer, fresh}
use Rattle.equation_law.specs.Names.{At, Instance, Reference, same_reference}
use Rattle.equation_law.specs.Program.{Program}
use Rattle.equation_law.specs.Values.{Value, node}
use Rattle.collection_attrs.specs.declared.surveys.Survey.{Survey}
use Rattle.collection_attrs.specs.Passed.{ArePassed, Comes, IsPassed, Kept, kept, kept_of, met, unmet}
use Rattle.collection_attrs.specs.Surveys.{HasGone}
use Rattle.collection_attrs.specs.Walks.{AreNotes, IsFor, IsNote, IsSurvey, Noted, Walk, passed_by}
use Rattle.collection_attrs.proofs.Walked.{IsWalkBy, offers_split, same_notes}

none_taken : (ks : List Kept) → take 0 ks ≡ []
none_taken [] = refl
none_taken (x ∷ ks) = refl

none_alike : (k : ℕ) (ks js : List Kept) → k ≤ 0 → take k ks ≡ take k js
none_alike zero ks js l = none_taken ks ∙ sym (none_taken js)
none_alike (suc k) ks js l = absurd (omega (arith, l))

-- a first offer, by two readings that are alike in it and behind it
kept_alike : (x y : Offer) (r t : Option Reference) → x ≡ y → r ≡ t → (ks js : List Kept) → ((j : ℕ) → j ≤ length ks → j ≤ length js → take j ks ≡ take j js) → (k : ℕ) → k ≤ length (kept_of x r ks) → k ≤ length (kept_of y t js) → take k (kept_of x r ks) ≡ take k (kept_of y t js)
kept_alike x y None None e f ks js h k l m = h k l m
kept_alike x y None (Some t) e f ks js h k l m = cc
kept_alike x y (Some r) None e f ks js h k l m = cc
kept_alike x y (Some r) (Some t) e f ks js h zero l m = refl
kept_alike x y (Some r) (Some t) e f ks js h (suc k) l m =
    let same : r ≡ t = cc in
    let rest = h k (omega (arith, l)) (omega (arith, m)) in
    (λ i. record { offer = e i; receiver = same i } ∷ rest i)

-- the same up to a place, the same at the place before
last_alike : (ks js : List Kept) (k : ℕ) → take (suc k) ks ≡ take (suc k) js → slice_get ks k ≡ slice_get js k
last_alike [] [] k e = refl
last_alike [] (j ∷ js) k e = cc
last_alike (x ∷ ks) [] k e = cc
last_alike (x ∷ ks) (j ∷ js) zero e = let same : x ≡ j = cc in ap (λ (y : Kept). Some y) same
last_alike (x ∷ ks) (j ∷ js) (suc k) e = last_alike ks js k (let same : take (suc k) ks ≡ take (suc k) js = cc in same)

module _ (p : Program) (names : Naming) where
  notes_taken : (ns : List Noted) (ks : List Kept) (k : ℕ) → AreNotes p names ns ks → AreNotes p names (take k ns) (take k ks)
  notes_taken [] [] zero f = tt
  notes_taken [] [] (suc k) f = tt
  notes_taken [] (x ∷ ks) k f = absurd f
  notes_taken (n ∷ ns) [] k f = absurd f
  notes_taken (n ∷ ns) (x ∷ ks) zero f = tt
  notes_taken (n ∷ ns) (x ∷ ks) (suc k) f = (f.0, notes_taken ns ks k f.1)

  pub notes_length : (ns : List Noted) (ks : List Kept) → AreNotes p names ns ks → length ns ≡ length ks
  notes_length [] [] f = refl
  notes_length [] (x ∷ ks) f = absurd f
  notes_length (n ∷ ns) [] f = absurd f
  notes_length (n ∷ ns) (x ∷ ks) f = ap suc (notes_length ns ks f.1)

  -- a note at a place, and the offer that it is
  pub note_is : (ns : List Noted) (ks : List Kept) → AreNotes p names ns ks → (k : ℕ) (n : Noted) → slice_get ns k ≡ Some n → (x : Kept) × (slice_get ks k ≡ Some x) × IsNote p names n x
  note_is [] ks f k n e = cc
  note_is (m ∷ ns) [] f k n e = absurd f
  note_is (m ∷ ns) (x ∷ ks) f zero n e = let same : m ≡ n = cc in (x, refl, subst (λ (y : Noted). IsNote p names y x) same f.0)
  note_is (m ∷ ns) (x ∷ ks) f (suc k) n e = note_is ns ks f.1 k n e

  -- and the other way
  note_of : (ns : List Noted) (ks : List Kept) → AreNotes p names ns ks → (k : ℕ) (x : Kept) → slice_get ks k ≡ Some x → (n : Noted) × (slice_get ns k ≡ Some n) × IsNote p names n x
  note_of ns [] f k x e = cc
  note_of [] (y ∷ ks) f k x e = absurd f
  note_of (n ∷ ns) (y ∷ ks) f zero x e = let same : y ≡ x = cc in (n, refl, subst (IsNote p names n) same f.0)
  note_of (n ∷ ns) (y ∷ ks) f (suc k) x e = note_of ns ks f.1 k x e

  module _ (A : Instance → Value → Type 0) (one : (j : Instance) (x y : Value) → A j x → A j y → x ≡ y) where
    -- of what was passed the receiver is one
    one_receiver : {o : Offer} {r t : Option Reference} → IsPassed p A o r → IsPassed p A o t → r ≡ t
    one_receiver (unmet e f) (unmet g h) = refl
    one_receiver (unmet {b = b} e f) (met {b = d} g t q) = let same : b ≡ d = ends_same one e g in cc
    one_receiver (met {b = b} e t q) (unmet {b = d} g f) = let same : b ≡ d = ends_same one e g in cc
    one_receiver (met {r = r} e t q) (met {r = s} g u v) = let same : r ≡ s = ends_same one q v in ap (λ (x : Value). Some (node x)) same

    -- as many of the offers whose condition is true, by two readings of some first offers
    pub first_alike : (xs ys us vs : List Offer) (rs ts : List (Option Reference)) → xs ++ us ≡ ys ++ vs → ArePassed p A xs rs → ArePassed p A ys ts → (k : ℕ) → k ≤ length (kept xs rs) → k ≤ length (kept ys ts) → take k (kept xs rs) ≡ take k (kept ys ts)
    first_alike [] ys us vs [] ts e f g k l m = none_alike k [] (kept ys ts) l
    first_alike [] ys us vs (r ∷ rs) ts e f g k l m = absurd f
    first_alike (x ∷ xs) ys us vs [] ts e f g k l m = absurd f
    first_alike (x ∷ xs) [] us vs (r ∷ rs) [] e f g k l m = none_alike k (kept (x ∷ xs) (r ∷ rs)) [] m
    first_alike (x ∷ xs) [] us vs (r ∷ rs) (t ∷ ts) e f g k l m = absurd g
    first_alike (x ∷ xs) (y ∷ ys) us vs (r ∷ rs) [] e f g k l m = absurd g
    first_alike (x ∷ xs) (y ∷ ys) us vs (r ∷ rs) (t ∷ ts) e f g k l m =
        let same : x ≡ y = cc in
        let rest : xs ++ us ≡ ys ++ vs = cc in
        let receivers : r ≡ t = one_receiver f.0 (subst (λ (o : Offer). IsPassed p A o t) (sym same) g.0) in
        kept_alike x y r t same receivers (kept xs rs) (kept ys ts) (λ j. first_alike xs ys us vs rs ts rest f.1 g.1 j) k l m

    module _ (w : Walk) (h : IsWalkBy p A names w) (c : Collection) (is : IsFor p w c) (s : Survey) where
      -- what the walk has kept
      abbrev Those : List Kept
      Those = kept (passed_by p w) h.receivers

      those_length : length w.notes ≡ length Those
      those_length = notes_length w.notes Those h.noted

      -- a survey along the walk is one
      pub surveyed : IsSurvey p A names w c s.taken (value_by names s.so_far) → ((k : ℕ) (n : Noted) → suc k ≡ s.taken → slice_get w.notes k ≡ Some n → same_reference (reference_by names.node n.receiver) (At c.node) ≡ true) → HasGone p A names c s
      surveyed v last =
          let split = offers_split p w h.stands in
          let same : v.kept ≡ take s.taken Those = same_notes p names (take s.taken w.notes) v.kept (take s.taken Those) v.notes (notes_taken w.notes Those s.taken h.noted) in
          let within = v.within in
          record {
            front = passed_by p w;
            others = split.0;
            are = split.1 ∙ sym is;
            receivers = h.receivers;
            passed = h.passed;
            within = omega (arith, within, those_length);
            comes = subst (λ (ks : List Kept). Comes p A c (fresh c.method c.kind) ks (value_by names s.so_far)) same v.comes;
            last = λ k x e f. let n = note_of w.notes Those h.noted k x f in subst (λ (r : Reference). same_reference r (At c.node) ≡ true) n.2.receiver (last k n.0 e n.1);
          }

      -- and a survey is one along every walk that has kept as many offers as it has gone over
      module _ (v : HasGone p A names c s) (enough : s.taken ≤ length w.notes) where
        those_alike : take s.taken Those ≡ take s.taken (kept v.front v.receivers)
        those_alike =
            let split = offers_split p w h.stands in
            first_alike (passed_by p w) v.front split.0 v.others h.receivers v.receivers (split.1 ∙ sym is ∙ sym v.are) h.passed v.passed s.taken (omega (arith, enough, those_length)) v.within

        pub along : IsSurvey p A names w c s.taken (value_by names s.so_far)
        along = record { within = enough; kept = take s.taken (kept v.front v.receivers); notes = subst (AreNotes p names (take s.taken w.notes)) those_alike (notes_taken w.notes Those s.taken h.noted); comes = v.comes }

        last_at : (t : ℕ) → t ≡ s.taken → (t ≡ 0) ⊎ ((k : ℕ) × (n : Noted) × (suc k ≡ t) × (slice_get w.notes k ≡ Some n) × (same_reference (reference_by names.node n.receiver) (At c.node) ≡ true))
        last_at zero e = inl refl
        last_at (suc k) e =
            let n = there w.notes k (omega (arith, e, enough)) in
            let x = note_is w.notes Those h.noted k n.0 n.1 in
            let up : take (suc k) Those ≡ take (suc k) (kept v.front v.receivers) = subst (λ (m : ℕ). take m Those ≡ take m (kept v.front v.receivers)) (sym e) those_alike in
            let own = v.last k x.0 e (sym (last_alike Those (kept v.front v.receivers) k up) ∙ x.1) in
            inr (k, n.0, refl, n.1, subst (λ (r : Reference). same_reference r (At c.node) ≡ true) (sym x.2.receiver) own)

        -- it stands at the beginning or behind a note for its node
        pub stands_behind : (s.taken ≡ 0) ⊎ ((k : ℕ) × (n : Noted) × (suc k ≡ s.taken) × (slice_get w.notes k ≡ Some n) × (same_reference (reference_by names.node n.receiver) (At c.node) ≡ true))
        stands_behind = last_at s.taken refl
