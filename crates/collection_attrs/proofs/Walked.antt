-- A walk goes on, a collection goes on in it, and what its readers come to have besides changes nothing.
use Rattle.std.proofs.Common.{◌≡◌, ℕ, zero, suc, ◌+◌, ◌^◌, ◌<◌, Bool, true, false, List, [], ◌∷◌, ◌++◌, Option, Some, None, IfSome, length, slice_get, take, drop, refl, sym, ap, subst, ◌∙◌, append-nil, inl, inr, arith}
use Rattle.std.proofs.lemmas.Bool.{cases_lt}
use Rattle.std.specs.Option.{option_map}
use Rattle.std.proofs.lemmas.List.{append_assoc, length-append, length-take-le, take-append-drop}
use Rattle.solutions.specs.Asking.{Demands, Ends, Halts}
use Rattle.attr_rules.specs.Rules.{Contribution}
use Rattle.tree_arena.specs.Nodes.{end_in}
use Rattle.tree_arena.proofs.Subtrees.{end_within}
use Rattle.equation_law.specs.Codes.{Naming, reference_by}
use Rattle.equation_law.specs.Collections.{Collection, Offer, collection_demands, combine, fresh, gathered, offer_place}
use Rattle.equation_law.specs.Equations.{is_offered, offers_below, world_of}
use Rattle.equation_law.specs.Meaning.{meaning_of}
use Rattle.equation_law.specs.Names.{At, Instance, Reference, same_reference}
use Rattle.equation_law.specs.Program.{Program}
use Rattle.equation_law.specs.Reading.{ByEachIn, Told}
use Rattle.equation_law.specs.Values.{Value, node, truth}
use Rattle.collection_attrs.specs.Passed.{ArePassed, Comes, IsPassed, Kept, contributed, kept, kept_of, offers_before, other, over, own}
use Rattle.collection_attrs.specs.Walks.{AreNotes, IsFor, IsNotable, IsNote, IsStanding, IsSurvey, IsWalk, Noted, Walk, new_walk, one_further, passed_by, with_note}
use Rattle.collection_attrs.proofs.Before.{Left, before_all, before_left, before_next, before_none, before_offered, before_skipped, left_offered}
use Rattle.collection_attrs.proofs.Chains.{comes_both, comes_ends, comes_more, stuck_more, stuck_own}
use Rattle.collection_attrs.proofs.Noting.{old_or_new}
use Rattle.collection_attrs.proofs.Going.{all_passed_more, gathered_both, halts_next, stuck_condition, stuck_receiver}

-- some offers that were passed, and others
passed_both : (p : Program) (A : Instance → Value → Type 0) (os us : List Offer) (rs ts : List (Option Reference)) → ArePassed p A os rs → ArePassed p A us ts → ArePassed p A (os ++ us) (rs ++ ts)
passed_both p A [] us [] ts f g = g
passed_both p A [] us (r ∷ rs) ts f g = absurd f
passed_both p A (o ∷ os) us [] ts f g = absurd f
passed_both p A (o ∷ os) us (r ∷ rs) ts f g = (f.0, passed_both p A os us rs ts f.1 g)

kept_more : (o : Offer) (r : Option Reference) (xs ys : List Kept) → kept_of o r (xs ++ ys) ≡ kept_of o r xs ++ ys
kept_more o None xs ys = refl
kept_more o (Some r) xs ys = refl

kept_both : (p : Program) (A : Instance → Value → Type 0) (os us : List Offer) (rs ts : List (Option Reference)) → ArePassed p A os rs → kept (os ++ us) (rs ++ ts) ≡ kept os rs ++ kept us ts
kept_both p A [] us [] ts f = refl
kept_both p A [] us (r ∷ rs) ts f = absurd f
kept_both p A (o ∷ os) us [] ts f = absurd f
kept_both p A (o ∷ os) us (r ∷ rs) ts f = ap (kept_of o r) (kept_both p A os us rs ts f.1) ∙ kept_more o r (kept os rs) (kept us ts)

-- some notes and others
notes_both : (p : Program) (names : Naming) (ns ms : List Noted) (ks js : List Kept) → AreNotes p names ns ks → AreNotes p names ms js → AreNotes p names (ns ++ ms) (ks ++ js)
notes_both p names [] ms [] js f g = g
notes_both p names [] ms (k ∷ ks) js f g = absurd f
notes_both p names (n ∷ ns) ms [] js f g = absurd f
notes_both p names (n ∷ ns) ms (k ∷ ks) js f g = (f.0, notes_both p names ns ms ks js f.1 g)

-- the offers that are noted by the first of some notes, and by the others
pub record Parted (p : Program) (names : Naming) (ns ms : List Noted) (ks : List Kept) : Type 0 where
  pub first : List Kept
  pub others : List Kept
  pub are : ks ≡ first ++ others
  pub notes : AreNotes p names ns first
  pub more : AreNotes p names ms others

parted : (p : Program) (names : Naming) (ns ms : List Noted) (ks : List Kept) → AreNotes p names (ns ++ ms) ks → Parted p names ns ms ks
parted p names [] ms ks f = record { first = []; others = ks; are = refl; notes = tt; more = f }
parted p names (n ∷ ns) ms [] f = absurd f
parted p names (n ∷ ns) ms (k ∷ ks) f = let rest = parted p names ns ms ks f.1 in record { first = k ∷ rest.first; others = rest.others; are = ap (λ (xs : List Kept). k ∷ xs) rest.are; notes = (f.0, rest.notes); more = rest.more }

-- two offers that are noted alike are one
one_note : (p : Program) (names : Naming) (n : Noted) (k j : Kept) → IsNote p names n k → IsNote p names n j → k ≡ j
one_note p names n k j f g =
    let contribution : k.offer.contribution ≡ j.offer.contribution = (let a = f.contribution in let b = g.contribution in cc) in
    let at : k.offer.node ≡ j.offer.node = sym f.node ∙ g.node in
    let receiver : k.receiver ≡ j.receiver = sym f.receiver ∙ g.receiver in
    (λ i. record { offer = record { contribution = contribution i; node = at i }; receiver = receiver i })

pub same_notes : (p : Program) (names : Naming) (ns : List Noted) (ks js : List Kept) → AreNotes p names ns ks → AreNotes p names ns js → ks ≡ js
same_notes p names [] [] [] f g = refl
same_notes p names [] (k ∷ ks) js f g = absurd f
same_notes p names [] [] (j ∷ js) f g = absurd g
same_notes p names (n ∷ ns) [] js f g = absurd f
same_notes p names (n ∷ ns) (k ∷ ks) [] f g = absurd g
same_notes p names (n ∷ ns) (k ∷ ks) (j ∷ js) f g = (λ i. one_note p names n k j f.0 g.0 i ∷ same_notes p names ns ks js f.1 g.1 i)

all_taken : (ns : List Noted) → take (length ns) ns ≡ ns
all_taken [] = refl
all_taken (n ∷ ns) = ap (λ (ms : List Noted). n ∷ ms) (all_taken ns)

take_front : (ns ms : List Noted) (k : ℕ) → length ns ≡ k → take k (ns ++ ms) ≡ ns
take_front [] ms zero e = refl
take_front [] ms (suc k) e = absurd (omega (arith, e))
take_front (n ∷ ns) ms zero e = absurd (omega (arith, e))
take_front (n ∷ ns) ms (suc k) e = ap (λ (xs : List Noted). n ∷ xs) (take_front ns ms k (omega (arith, e)))

-- ---- what a reader comes to have besides changes nothing

pub walk_more : {S T : Type 0} {p : Program} {r : Told S} {t : Told T} {w : Walk} → ((i : Instance) (v : Value) → r.has i v → t.has i v) → ByEachIn t r.names → ((c : ℕ) → r.knows c → t.knows c) → IsWalk p r w → IsWalk p t w
walk_more {p = p} {w = w} g fewer knows h = record {
  stands = h.stands;
  notable = h.notable;
  known = λ k n there. knows n.receiver (h.known k n there);
  passed = λ names is. let x = h.passed names (fewer names is) in record { receivers = x.receivers; passed = all_passed_more p g (passed_by p w) x.receivers x.passed; noted = x.noted };
}

pub survey_more : {p : Program} {A B : Instance → Value → Type 0} {names : Naming} {w : Walk} {c : Collection} {taken : ℕ} {v : Value} → ((i : Instance) (u : Value) → A i u → B i u) → IsSurvey p A names w c taken v → IsSurvey p B names w c taken v
survey_more {p = p} {c = c} g h = record { within = h.within; kept = h.kept; notes = h.notes; comes = comes_more p c g h.comes }

-- ---- a walk goes on

-- it begins at its root
pub standing_first : (p : Program) (a r : ℕ) → r < length p.tree → IsStanding p (new_walk a r)
standing_first p a r l = record { inside = l; from = omega arith; to = omega arith; within = omega arith; ended = λ e. refl }

-- with as many notes, before another contribution
abbrev pub standing : Walk → ℕ → ℕ → Walk
standing w node k = record { attribute = w.attribute; root = w.root; node = node; contribution = k; notes = w.notes }

-- past a contribution that isn't offered at the node it has passed no more
pub standing_further : (p : Program) (w : Walk) → IsStanding p w → w.node < end_in p.tree w.root → w.contribution < length p.rules.contributions → IsStanding p (standing w w.node (w.contribution + 1))
standing_further p w h u m = record { inside = h.inside; from = h.from; to = h.to; within = omega (arith, m); ended = λ same. absurd (omega (arith, u, same)) }

pub skipped_same : (p : Program) (w : Walk) (c : Contribution) → slice_get p.rules.contributions w.contribution ≡ Some c → is_offered p w.attribute w.node c ≡ false → passed_by p (standing w w.node (w.contribution + 1)) ≡ passed_by p w
skipped_same p w c e off = before_skipped p w.attribute w.root w.node w.contribution c e off

-- nor at the next node
pub standing_next : (p : Program) (w : Walk) → IsStanding p w → w.node < end_in p.tree w.root → IsStanding p (standing w (w.node + 1) 0)
standing_next p w h u = let l = h.from in record { inside = h.inside; from = omega (arith, l); to = omega (arith, u); within = omega arith; ended = λ same. refl }

pub next_same : (p : Program) (w : Walk) → IsStanding p w → w.contribution ≡ length p.rules.contributions → passed_by p (standing w (w.node + 1) 0) ≡ passed_by p w
next_same p w h e = sym (before_next p w.attribute w.root w.node h.from) ∙ ap (λ (k : ℕ). offers_before p w.attribute w.root w.node k) (sym e)

-- a receiver by its code, where there is one
abbrev received : Naming → Option ℕ → Option Reference
received names r = option_map (reference_by names.node) r

module _ {S : Type 0} (p : Program) (t : Told S) where
  pub walk_begins : (a r : ℕ) → r < length p.tree → IsWalk p t (new_walk a r)
  walk_begins a r l = record {
    stands = standing_first p a r l;
    notable = λ k n e. cc;
    known = λ k n e. cc;
    passed = λ names is. record {
      receivers = [];
      passed = subst (λ (os : List Offer). ArePassed p t.has os []) (sym (before_none p a r)) tt;
      noted = subst (λ (os : List Offer). AreNotes p names [] (kept os [])) (sym (before_none p a r)) tt;
    };
  }

  -- to where it has passed the same
  pub walk_same : (w u : Walk) → IsWalk p t w → IsStanding p u → u.notes ≡ w.notes → passed_by p u ≡ passed_by p w → IsWalk p t u
  walk_same w u h stands notes same = record {
    stands = stands;
    notable = subst (λ (ns : List Noted). (k : ℕ) (n : Noted) → slice_get ns k ≡ Some n → IsNotable p n) (sym notes) h.notable;
    known = subst (λ (ns : List Noted). (k : ℕ) (n : Noted) → slice_get ns k ≡ Some n → t.knows n.receiver) (sym notes) h.known;
    passed = λ names is.
        let x = h.passed names is in
        record {
          receivers = x.receivers;
          passed = subst (λ (os : List Offer). ArePassed p t.has os x.receivers) (sym same) x.passed;
          noted = subst (λ (ns : List Noted). AreNotes p names ns (kept (passed_by p u) x.receivers)) (sym notes) (subst (λ (os : List Offer). AreNotes p names w.notes (kept os x.receivers)) (sym same) x.noted);
        };
  }

  -- past an offer, which is noted where its condition is true
  noted_one : (names : Naming) (w : Walk) (c : Contribution) (r : Option ℕ) (ks : List Kept) → slice_get p.rules.contributions w.contribution ≡ Some c → AreNotes p names w.notes ks
      → AreNotes p names (with_note w r) (ks ++ kept (record { contribution = c; node = w.node } ∷ []) (received names r ∷ []))
  noted_one names w c None ks e h = subst (AreNotes p names w.notes) (sym (append-nil ks)) h
  noted_one names w c (Some r) ks e h =
      notes_both p names w.notes (record { node = w.node; contribution = w.contribution; receiver = r } ∷ []) ks (record { offer = record { contribution = c; node = w.node }; receiver = reference_by names.node r } ∷ []) h (record { contribution = e; node = refl; receiver = refl }, tt)

  notable_more : (w : Walk) (r : Option ℕ) → IsWalk p t w → w.node + 1 < 2 ^ 32 → w.node < length p.tree → w.contribution < length p.rules.contributions → (k : ℕ) (n : Noted) → slice_get (with_note w r) k ≡ Some n → IsNotable p n
  notable_more w None h few within known k n e = h.notable k n e
  notable_more w (Some r) h few within known k n e =
      old_or_new w.notes (record { node = w.node; contribution = w.contribution; receiver = r }) r 0 (IsNotable p) (λ i m from e. h.notable i m e) (record { few = few; within = within; known = known }) k n (omega arith) e

  known_more : (w : Walk) (r : Option ℕ) → IsWalk p t w → IfSome r t.knows → (k : ℕ) (n : Noted) → slice_get (with_note w r) k ≡ Some n → t.knows n.receiver
  known_more w None h new k n e = h.known k n e
  known_more w (Some r) h new k n e = old_or_new w.notes (record { node = w.node; contribution = w.contribution; receiver = r }) r 0 (λ m. t.knows m.receiver) (λ i m from e. h.known i m e) new k n (omega arith) e

  -- a walk that isn't at the end of the subtree stands at a node of the tree
  pub node_within : (w : Walk) → IsStanding p w → w.node < end_in p.tree w.root → w.node < length p.tree
  node_within w h u = omega (arith, u, end_within p.tree w.root h.inside)

  pub walk_passes : (w : Walk) (c : Contribution) (r : Option ℕ) → IsWalk p t w → w.node + 1 < 2 ^ 32 → w.node < end_in p.tree w.root → slice_get p.rules.contributions w.contribution ≡ Some c → w.contribution < length p.rules.contributions → is_offered p w.attribute w.node c ≡ true
      → IfSome r t.knows → ByEachIn t (λ names. IsPassed p t.has (record { contribution = c; node = w.node }) (received names r)) → IsWalk p t (one_further w r)
  walk_passes w c r h code u e m on new q =
      let o : Offer = record { contribution = c; node = w.node } in
      let more = before_offered p w.attribute w.root w.node w.contribution c e on in
      let front = passed_by p w in
      record {
        stands = (let s = h.stands in record { inside = s.inside; from = s.from; to = s.to; within = omega (arith, m); ended = λ same. absurd (omega (arith, u, same)) });
        notable = notable_more w r h code (node_within w h.stands u) m;
        known = known_more w r h new;
        passed = λ names is.
            let x = h.passed names is in
            let one = received names r ∷ [] in
            record {
              receivers = x.receivers ++ one;
              passed = subst (λ (os : List Offer). ArePassed p t.has os (x.receivers ++ one)) (sym more) (passed_both p t.has front (o ∷ []) x.receivers one x.passed (q names is, tt));
              noted = subst (λ (os : List Offer). AreNotes p names (with_note w r) (kept os (x.receivers ++ one))) (sym more)
                  (subst (AreNotes p names (with_note w r)) (sym (kept_both p t.has front (o ∷ []) x.receivers one x.passed)) (noted_one names w c r (kept front x.receivers) e x.noted));
            };
      }

-- what has been passed, and what is left
pub offers_split : (p : Program) (w : Walk) → IsStanding p w → (rest : List Offer) × (passed_by p w ++ rest ≡ offers_below p w.attribute (Some w.root))
offers_split p w h = elim (cases_lt w.node (end_in p.tree w.root)) [
  | inl u ↦ (Left p w.attribute w.root w.node w.contribution, before_left p w.attribute w.root w.node w.contribution h.from u)
  | inr l ↦
      let to = h.to in
      let e : w.node ≡ end_in p.tree w.root = omega (arith, l, to) in
      ([], append-nil (passed_by p w) ∙ (λ i. offers_before p w.attribute w.root (e i) (h.ended e i)) ∙ before_all p w.attribute w.root)
]

-- a walk, by one of the namings by which it may be read
pub record IsWalkBy (p : Program) (A : Instance → Value → Type 0) (names : Naming) (w : Walk) : Type 0 where
  pub stands : IsStanding p w
  pub receivers : List (Option Reference)
  pub passed : ArePassed p A (passed_by p w) receivers
  pub noted : AreNotes p names w.notes (kept (passed_by p w) receivers)

pub walk_by : {S : Type 0} {p : Program} {t : Told S} {w : Walk} → IsWalk p t w → ByEachIn t (λ names. IsWalkBy p t.has names w)
walk_by h names is = let x = h.passed names is in record { stands = h.stands; receivers = x.receivers; passed = x.passed; noted = x.noted }

-- ---- a collection goes on in a walk

module _ (p : Program) (A : Instance → Value → Type 0) (names : Naming) where
  module _ (c : Collection) where
    abbrev Own : Noted → Bool
    Own n = same_reference (reference_by names.node n.receiver) (At c.node)

    -- none of some notes is for its node
    abbrev pub NoneOwn : List Noted → Type 0
    NoneOwn [] = Unit {0}
    NoneOwn (n ∷ ns) = (Own n ≡ false) × NoneOwn ns

    comes_past : (ns : List Noted) (ks : List Kept) (s : Value) → AreNotes p names ns ks → NoneOwn ns → Comes p A c s ks s
    comes_past [] [] s f g = over
    comes_past [] (k ∷ ks) s f g = absurd f
    comes_past (n ∷ ns) [] s f g = absurd f
    comes_past (n ∷ ns) (k ∷ ks) s f g = other (subst (λ (r : Reference). same_reference r (At c.node) ≡ false) f.0.receiver g.0) (comes_past ns ks s f.1 g.1)

    -- it begins before the first note
    pub survey_begins : (w : Walk) → IsSurvey p A names w c 0 (fresh c.method c.kind)
    survey_begins w = record { within = omega arith; kept = []; notes = tt; comes = over }

    module _ (w : Walk) (h : IsWalkBy p A names w) (taken : ℕ) (s : Value) (v : IsSurvey p A names w c taken s) where
      -- all that is noted, behind what it has gone over
      all_notes : Parted p names (take taken w.notes) (drop taken w.notes) (kept (passed_by p w) h.receivers)
      all_notes = parted p names (take taken w.notes) (drop taken w.notes) (kept (passed_by p w) h.receivers) (subst (λ (ns : List Noted). AreNotes p names ns (kept (passed_by p w) h.receivers)) (sym (take-append-drop taken w.notes)) h.noted)

      first_same : all_notes.first ≡ v.kept
      first_same = same_notes p names (take taken w.notes) all_notes.first v.kept all_notes.notes v.notes

      -- past notes that aren't for its node, all that are left
      pub survey_past : NoneOwn (drop taken w.notes) → IsSurvey p A names w c (length w.notes) s
      survey_past none = record {
        within = omega arith;
        kept = v.kept ++ all_notes.others;
        notes = subst (λ (ns : List Noted). AreNotes p names ns (v.kept ++ all_notes.others)) (take-append-drop taken w.notes ∙ sym (all_taken w.notes)) (notes_both p names (take taken w.notes) (drop taken w.notes) v.kept all_notes.others v.notes all_notes.more);
        comes = comes_both p A c v.comes (comes_past (drop taken w.notes) all_notes.others s all_notes.more none);
      }

      -- Behind notes that aren't for its node stands one that is.
      module _ (between rest : List Noted) (n : Noted) (place : ℕ) (are : drop taken w.notes ≡ between ++ n ∷ rest) (at_place : taken + length between ≡ place) (none : NoneOwn between) (own_note : Own n ≡ true) (b : Contribution) (known : slice_get p.rules.contributions n.contribution ≡ Some b) where
        inner : Parted p names between (n ∷ rest) all_notes.others
        inner = parted p names between (n ∷ rest) all_notes.others (subst (λ (ns : List Noted). AreNotes p names ns all_notes.others) are all_notes.more)

        -- the offer that it is
        record First (ks : List Kept) : Type 0 where
          pub first : Kept
          pub others : List Kept
          pub begins : ks ≡ first ∷ others
          pub note : IsNote p names n first

        first_of : (ks : List Kept) → AreNotes p names (n ∷ rest) ks → First ks
        first_of [] f = absurd f
        first_of (k ∷ ks) f = record { first = k; others = ks; begins = refl; note = f.0 }

        one : First inner.others
        one = first_of inner.others inner.more

        abbrev pub noted_offer : Offer
        noted_offer = record { contribution = b; node = n.node }

        offer_same : noted_offer ≡ one.first.offer
        offer_same =
            let is = one.note.contribution in
            let same : b ≡ one.first.offer.contribution = cc in
            (λ i. record { contribution = same i; node = one.note.node i })

        before_it : Comes p A c (fresh c.method c.kind) (v.kept ++ inner.first) s
        before_it = comes_both p A c v.comes (comes_past between inner.first s inner.notes none)

        for_it : same_reference one.first.receiver (At c.node) ≡ true
        for_it = subst (λ (r : Reference). same_reference r (At c.node) ≡ true) one.note.receiver own_note

        front : take (place + 1) w.notes ≡ take taken w.notes ++ (between ++ n ∷ [])
        front =
            let whole : (take taken w.notes ++ (between ++ n ∷ [])) ++ rest ≡ w.notes =
            append_assoc (take taken w.notes) (between ++ n ∷ []) rest ∙ ap (λ (ns : List Noted). take taken w.notes ++ ns) (append_assoc between (n ∷ []) rest ∙ sym are) ∙ take-append-drop taken w.notes
            in
            let long : length (take taken w.notes ++ (between ++ n ∷ [])) ≡ place + 1 =
            omega (arith, at_place, length-append (take taken w.notes) (between ++ n ∷ []), length-append between (n ∷ []), length-take-le taken w.notes v.within)
            in
            ap (take (place + 1)) (sym whole) ∙ take_front (take taken w.notes ++ (between ++ n ∷ [])) rest (place + 1) long

        -- it is added, where it has a value
        pub survey_own : (u : Value) {us : List Instance} → Ends A (contributed p noted_offer) u us → IsSurvey p A names w c (place + 1) (combine c.method c.kind s u)
        survey_own u {us} e = record {
          within = let long = ap length (sym (take-append-drop taken w.notes) ∙ ap (λ (ns : List Noted). take taken w.notes ++ ns) are) in omega (arith, long, at_place, length-append (take taken w.notes) (between ++ n ∷ rest), length-append between (n ∷ rest), length-take-le taken w.notes v.within);
          kept = (v.kept ++ inner.first) ++ one.first ∷ [];
          notes = subst (λ (ns : List Noted). AreNotes p names ns ((v.kept ++ inner.first) ++ one.first ∷ [])) (append_assoc (take taken w.notes) between (n ∷ []) ∙ sym front)
              (notes_both p names (take taken w.notes ++ between) (n ∷ []) (v.kept ++ inner.first) (one.first ∷ []) (notes_both p names (take taken w.notes) between v.kept inner.first v.notes inner.notes) (one.note, tt));
          comes = comes_both p A c before_it (own for_it (subst (λ (x : Offer). Ends A (contributed p x) u us) offer_same e) over);
        }

        -- and where it is stuck, the collection is stuck there
        pub survey_stuck : IsFor p w c → (j : Instance) {us : List Instance} → Halts A (contributed p noted_offer) j us → (ds : List Instance) × Halts A (collection_demands (world_of p) c) j ds
        survey_stuck is j {us} stuck =
            let same : kept (passed_by p w) h.receivers ≡ (v.kept ++ inner.first) ++ one.first ∷ one.others =
            all_notes.are ∙ (λ i. first_same i ++ (inner.are ∙ ap (λ (ks : List Kept). inner.first ++ ks) one.begins) i) ∙ sym (append_assoc v.kept inner.first (one.first ∷ one.others))
            in
            let here = stuck_own p A c (passed_by p w) h.receivers h.passed (v.kept ++ inner.first) one.first one.others same before_it for_it (subst (λ (x : Offer). Halts A (contributed p x) j us) offer_same stuck) in
            let split = offers_split p w h.stands in
            (here.0, subst (λ (os : List Offer). Halts A (gathered (world_of p) c.method c.kind (At c.node) (fresh c.method c.kind) os) j here.0) (split.1 ∙ sym is) (stuck_more p A c (fresh c.method c.kind) (passed_by p w) split.0 here.1))

    module _ (w : Walk) (h : IsWalkBy p A names w) (s : Value) (v : IsSurvey p A names w c (length w.notes) s) (is : IsFor p w c) where
      -- behind all notes it has come to this over all that was passed
      passed_ends : (ds : List Instance) × Ends A (gathered (world_of p) c.method c.kind (At c.node) (fresh c.method c.kind) (passed_by p w)) s ds
      passed_ends =
          let same : v.kept ≡ kept (passed_by p w) h.receivers = same_notes p names w.notes v.kept (kept (passed_by p w) h.receivers) (subst (λ (ns : List Noted). AreNotes p names ns v.kept) (all_taken w.notes) v.notes) h.noted in
          comes_ends p A c (passed_by p w) h.receivers h.passed (subst (λ (ks : List Kept). Comes p A c (fresh c.method c.kind) ks s) same v.comes)

      -- at the end of the subtree it has its value
      pub survey_done : w.node ≡ end_in p.tree w.root → (ds : List Instance) × Ends A (collection_demands (world_of p) c) s ds
      survey_done e =
          let all : passed_by p w ≡ c.offers = (λ i. offers_before p w.attribute w.root (e i) (h.stands.ended e i)) ∙ before_all p w.attribute w.root ∙ sym is in
          (passed_ends.0, subst (λ (os : List Offer). Ends A (gathered (world_of p) c.method c.kind (At c.node) (fresh c.method c.kind) os) s passed_ends.0) all passed_ends.1)

      module _ (u : w.node < end_in p.tree w.root) (b : Contribution) (e : slice_get p.rules.contributions w.contribution ≡ Some b) (on : is_offered p w.attribute w.node b ≡ true) where
        abbrev o : Offer
        o = record { contribution = b; node = w.node }

        next_stuck : (j : Instance) → ((rest : List Offer) → (es : List Instance) × Halts A (gathered (world_of p) c.method c.kind (At c.node) s (o ∷ rest)) j es) → (fs : List Instance) × Halts A (collection_demands (world_of p) c) j fs
        next_stuck j stuck =
            let left = left_offered p w.attribute w.root w.node w.contribution b e on in
            let here = stuck left.0 in
            let whole : passed_by p w ++ (o ∷ left.0) ≡ c.offers = ap (λ (os : List Offer). passed_by p w ++ os) (sym left.1) ∙ before_left p w.attribute w.root w.node w.contribution h.stands.from u ∙ sym is in (
              passed_ends.0 ++ here.0,
              subst (λ (os : List Offer). Halts A (gathered (world_of p) c.method c.kind (At c.node) (fresh c.method c.kind) os) j (passed_ends.0 ++ here.0)) whole
                  (subst (λ (d : Demands Instance Value). Halts A d j (passed_ends.0 ++ here.0)) (sym (gathered_both (world_of p) c.method c.kind (At c.node) (fresh c.method c.kind) (passed_by p w) (o ∷ left.0)))
                  (halts_next (λ x. gathered (world_of p) c.method c.kind (At c.node) x (o ∷ left.0)) passed_ends.1 here.1)),
            )

        -- at an offer whose condition is stuck it is stuck there, and so it is at one whose receiver is
        pub survey_condition : (j : Instance) {ds : List Instance} → Halts A (meaning_of (world_of p) b.condition (offer_place o)) j ds → (es : List Instance) × Halts A (collection_demands (world_of p) c) j es
        survey_condition j f = next_stuck j (λ rest. stuck_condition p A (At c.node) o (λ x. gathered (world_of p) c.method c.kind (At c.node) (combine c.method c.kind s x) rest) (gathered (world_of p) c.method c.kind (At c.node) s rest) f)

        pub survey_receiver : (j : Instance) {x : Value} {ds es : List Instance} → Ends A (meaning_of (world_of p) b.condition (offer_place o)) x ds → truth x ≡ true → Halts A (meaning_of (world_of p) b.receiver (offer_place o)) j es
            → (fs : List Instance) × Halts A (collection_demands (world_of p) c) j fs
        survey_receiver j f q g = next_stuck j (λ rest. stuck_receiver p A (At c.node) o (λ x. gathered (world_of p) c.method c.kind (At c.node) (combine c.method c.kind s x) rest) (gathered (world_of p) c.method c.kind (At c.node) s rest) f q g)
