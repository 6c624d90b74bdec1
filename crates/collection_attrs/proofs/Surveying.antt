-- A collection counts what a walk has kept for it, and goes on where that ends.
use Rattle.std.proofs.Common.{◌≡◌, ◌⊎◌, ℕ, ◌+◌, ◌<◌, ◌≤◌, List, [], Ok, Some, length, slice_get, take, sym, ap, subst, ◌∙◌, inl, inr, arith}
use Rattle.std.proofs.lemmas.List.{length-append}
use Rattle.attr_rules.specs.declared.kinds.Kind.{Kind}
use Rattle.attr_rules.specs.declared.kinds.Method.{Method}
use Rattle.attr_rules.specs.Rules.{Contribution}
use Rattle.solutions.specs.Asking.{Ends, Gives, gives}
use Rattle.tree_arena.specs.Nodes.{end_in}
use Rattle.equation_law.specs.declared.coding.Instance.{Instance as CodedInstance}
use Rattle.equation_law.specs.declared.coding.Value.{Value as CodedValue}
use Rattle.equation_law.specs.Codes.{AreElements, ByEachNaming, IsNamingOf, Naming, instance_by, reference_by, value_by}
use Rattle.equation_law.specs.Collections.{Collection, Offer, collection_demands, combine, fresh, gathered}
use Rattle.equation_law.specs.Equations.{offers_below, world_of}
use Rattle.equation_law.specs.Names.{At, Instance}
use Rattle.equation_law.specs.Program.{Program}
use Rattle.equation_law.specs.Reading.{ByEachIn, Grows, IsSound, KnowsValue, Told}
use Rattle.equation_law.specs.Values.{Value}
use Rattle.expr_eval.specs.declared.sites.Turn.TheVariants as turns
use Rattle.expr_eval.specs.Evaluating.{Comes as ComesUnder, Evaluates, Wants}
use Rattle.collection_attrs.specs.declared.collectors.Collector.{Collector}
use Rattle.collection_attrs.specs.declared.surveys.Survey.{Survey}
use Rattle.collection_attrs.specs.Evaluations.{demands_of}
use Rattle.collection_attrs.specs.Passed.{contributed}
use Rattle.collection_attrs.specs.Surveys.{Collections, HasGone, IsCollectorOf, IsCounted, IsForEach, IsNew, IsSurveyed}
use Rattle.collection_attrs.specs.Walks.{AreNotes, IsFirstFor, IsFor, IsOfferStuck, IsOfferedAt, IsStanding, IsStuck, IsSurvey, IsWalk, MayGoOn, NoneFrom, Noted, Walk, condition, passed_by, receiver}
use Rattle.collection_attrs.proofs.Alike.{along, stands_behind, surveyed}
use Rattle.collection_attrs.proofs.Found.{node_is, one_collection}
use Rattle.collection_attrs.proofs.Grown.{naming_of, survey_new, surveyed_as}
use Rattle.collection_attrs.proofs.Known.{combined_known, new_known}
use Rattle.collection_attrs.proofs.Placed.{survey_over, survey_stops, survey_takes}
use Rattle.collection_attrs.proofs.Receivers.{receiver_is, receiver_own}
use Rattle.collection_attrs.proofs.Walked.{IsWalkBy, offers_split, survey_condition, survey_done, survey_receiver, walk_by}

-- what a reader has is one value for each instance
pub one_value : {S : Type 0} {p : Program} {r : Told S} → IsSound p r → (j : Instance) (x y : Value) → r.has j x → r.has j y → x ≡ y
one_value sound j x y a b = sound.one_value j x y (sound.within j x a) (sound.within j y b)

-- a walk has passed no more than all
pub passed_within : (p : Program) (w : Walk) → IsStanding p w → length (passed_by p w) ≤ length (offers_below p w.attribute (Some w.root))
passed_within p w h = let split = offers_split p w h in let long = ap length split.1 in omega (arith, long, length-append (passed_by p w) split.0)

-- a walk that is for a collection is so while a reader comes to have more, and with it each of the same root
pub for_same : {S : Type 0} (p : Program) {r s : Told S} (c : Collections) (w u : Walk) → Grows p r s → u.attribute ≡ w.attribute → u.root ≡ w.root → IsForEach p r w c → IsForEach p s u c
for_same p c w u kept attr root is = λ names in_it. is names (kept.names names in_it) ∙ sym (λ i. offers_below p (attr i) (Some (root i)))

-- ---- by one naming

module _ (p : Program) (A : Instance → Value → Type 0) (names : Naming) (c : Collection) (w : Walk) (h : IsWalkBy p A names w) (is : IsFor p w c) (v : Value) (x : IsSurvey p A names w c (length w.notes) v) where
  -- before an offer that is stuck it is stuck there
  stuck_so : (before : w.node < end_in p.tree w.root) (at : IsOfferedAt p w) (j : Instance) → IsOfferStuck p A (record { contribution = at.contribution; node = w.node }) j → Wants A (collection_demands (world_of p) c) j
  stuck_so before at j (condition g) = survey_condition p A names c w h v x is before at.contribution at.is at.offered j g
  stuck_so before at j (receiver e t g) = survey_receiver p A names c w h v x is before at.contribution at.is at.offered j e t g

module _ (p : Program) (A : Instance → Value → Type 0) (one : (j : Instance) (x y : Value) → A j x → A j y → x ≡ y) (names : Naming) (named : IsNamingOf p names) (c : Collection) (w : Walk) (h : IsWalkBy p A names w) (is : IsFor p w c) (s : Survey) (v : HasGone p A names c s) (enough : s.taken ≤ length w.notes)
    (r : ℕ) (own : reference_by names.node r ≡ At c.node) where
  abbrev so_far : Value
  so_far = value_by names s.so_far

  abbrev here : IsSurvey p A names w c s.taken so_far
  here = along p names A one w h c is s v enough

  -- it stands at the beginning or behind a note for its node
  may_go_on : MayGoOn w.notes r s.taken
  may_go_on = elim (stands_behind p names A one w h c is s v enough) [
    | inl none ↦ inl none
    | inr b ↦ inr (b.0, b.1, b.2, b.3, receiver_is named r (At c.node) own b.1.receiver b.4)
  ]

  -- without an offer for its node it has counted all that is kept
  over_all : (MayGoOn w.notes r s.taken → NoneFrom w.notes r s.taken) → IsSurvey p A names w c (length w.notes) so_far
  over_all none = survey_over p A names named c r own w h s.taken so_far here (none may_go_on)

  module _ (place : ℕ) (may : MayGoOn w.notes r s.taken → IsFirstFor w.notes r s.taken place) (n : Noted) (there : slice_get w.notes place ≡ Some n) (b : Contribution) (known : slice_get p.rules.contributions n.contribution ≡ Some b) where
    same_note : (may may_go_on).note ≡ n
    same_note = let is_note = (may may_go_on).is in cc

    abbrev first : IsFirstFor w.notes r s.taken place
    first = let f = may may_go_on in record { after = f.after; note = n; is = there; has = subst (λ (m : Noted). m.receiver ≡ r) same_note f.has; between = f.between }

    abbrev own_offer : Offer
    own_offer = record { contribution = b; node = n.node }

    -- it is counted with its value
    one_more : (t : Survey) {m : Method} {k : Kind} {u : Value} → c.method ≡ m → c.kind ≡ k → t.taken ≡ place + 1 → value_by names t.so_far ≡ combine m k so_far u → ComesUnder A (contributed p own_offer) u → HasGone p A names c t
    one_more t {u = u} method kind taken value e =
        let same : value_by names t.so_far ≡ combine c.method c.kind so_far u = value ∙ sym (λ i. combine (method i) (kind i) so_far u) in
        let more = survey_takes p A names named c r own w h s.taken so_far here place first b known u e.1 in
        let moved : IsSurvey p A names w c t.taken (value_by names t.so_far) = subst (λ (k : ℕ). IsSurvey p A names w c k (value_by names t.so_far)) (sym taken) (subst (IsSurvey p A names w c (place + 1)) (sym same) more) in
        surveyed p names A one w h c is t moved (λ k m last m_is.
        let at : k ≡ place = omega (arith, last, taken) in
        let one_note : n ≡ m = (let m_there : slice_get w.notes place ≡ Some m = ap (slice_get w.notes) (sym at) ∙ m_is in cc) in
        receiver_own named r (At c.node) own m.receiver (subst (λ (x : Noted). x.receiver ≡ r) one_note first.has))

    -- and where it has none, the collection is stuck there
    stops_here : (j : Instance) → Wants A (contributed p own_offer) j → Wants A (collection_demands (world_of p) c) j
    stops_here j e = survey_stops p A names named c r own w h s.taken so_far here place first b known is j e.1

-- ---- by each naming by which a reader may be read

module _ {S : Type 0} (p : Program) (t : Told S) (c : Collections) where
  -- to a walk that has kept the same
  pub counted_same : (w u : Walk) (s : Survey) → u.notes ≡ w.notes → IsCounted p t w c s → IsCounted p t u c s
  counted_same w u s notes h = record {
    survey = λ names is.
        let x = h.survey names is in
        record { within = omega arith; kept = x.kept; notes = subst (λ (ns : List Noted). AreNotes p names (take (length ns) ns) x.kept) (sym notes) x.notes; comes = x.comes };
    coded = h.coded;
    known = h.known;
  }

  module _ (sound : IsSound p t) (w : Walk) (h : IsWalk p t w) (is : IsForEach p t w c) (s : Survey) where
    -- at the end of the subtree it has its value
    pub counted_ends : IsCounted p t w c s → w.node ≡ end_in p.tree w.root → ByEachIn t (λ names. ComesUnder t.has (demands_of p c names) (value_by names s.so_far))
    counted_ends v e = λ names in_it. survey_done p t.has names (c names) w (walk_by h names in_it) (value_by names s.so_far) (v.survey names in_it) (is names in_it) e

    -- before an offer that is stuck it is stuck there
    pub counted_stuck : IsCounted p t w c s → (j : CodedInstance) → IsStuck p t w j → ByEachIn t (λ names. Wants t.has (demands_of p c names) (instance_by p names j))
    counted_stuck v j f = λ names in_it.
        stuck_so p t.has names (c names) w (walk_by h names in_it) (is names in_it) (value_by names s.so_far) (v.survey names in_it) f.before f.is (instance_by p names j) (f.stuck names in_it)

    module _ {of : Collector} (its : IsCollectorOf p of c) (v : IsSurveyed p t c s) (enough : s.taken ≤ length w.notes) where
      -- without an offer for its node it has counted all that is kept
      pub counts_all : (MayGoOn w.notes of.node.0 s.taken → NoneFrom w.notes of.node.0 s.taken) → IsCounted p t w c s
      counts_all none = record {
        survey = λ names in_it.
            let named = naming_of sound names in_it in
            over_all p t.has (one_value sound) names named (c names) w (walk_by h names in_it) (is names in_it) s (v.gone names in_it) enough of.node.0 (node_is p (its names named)) none;
        coded = v.coded;
        known = v.known;
      }

      module _ (place : ℕ) (may : MayGoOn w.notes of.node.0 s.taken → IsFirstFor w.notes of.node.0 s.taken place) (n : Noted) (there : slice_get w.notes place ≡ Some n) (b : Contribution) (known : slice_get p.rules.contributions n.contribution ≡ Some b) where
        abbrev own : Offer
        own = record { contribution = b; node = n.node }

        -- it is counted with its value
        pub counts_one : (x : Survey) (u : CodedValue) → KnowsValue t u → x.taken ≡ place + 1 → AreElements p x.so_far → ByEachNaming p (λ names. value_by names x.so_far ≡ combine of.method of.kind (value_by names s.so_far) (value_by names u)) → ByEachIn t (λ names. ComesUnder t.has (contributed p own) (value_by names u)) → IsSurveyed p t c x
        counts_one x u its_known taken coded value comes = record {
          gone = λ names in_it.
              let named = naming_of sound names in_it in
              let by = its names named in
              one_more p t.has (one_value sound) names named (c names) w (walk_by h names in_it) (is names in_it) s (v.gone names in_it) enough of.node.0 (node_is p by) place may n there b known x by.method by.kind taken (value names named) (comes names in_it);
          coded = coded;
          known = combined_known sound of.method of.kind s.so_far u x.so_far value v.known its_known;
        }

        -- and where it has none, the collection is stuck there
        pub counts_not : (j : CodedInstance) → ByEachIn t (λ names. Wants t.has (contributed p own) (instance_by p names j)) → ByEachIn t (λ names. Wants t.has (demands_of p c names) (instance_by p names j))
        counts_not j wants = λ names in_it.
            let named = naming_of sound names in_it in
            stops_here p t.has (one_value sound) names named (c names) w (walk_by h names in_it) (is names in_it) s (v.gone names in_it) enough of.node.0 (node_is p (its names named)) place may n there b known (instance_by p names j) (wants names in_it)

-- ---- a code says one collection by each naming

module _ {S : Type 0} {p : Program} {t : Told S} (sound : IsSound p t) {of : Collector} {c : Collections} (its : IsCollectorOf p of c) where
  same_by : (d : Collections) → IsCollectorOf p of d → ByEachIn t (λ names. c names ≡ d names)
  same_by d there names in_it = let named = naming_of sound names in_it in one_collection p (its names named) (there names named)

  pub surveyed_for : {s : Survey} → IsSurveyed p t c s → (d : Collections) → IsCollectorOf p of d → IsSurveyed p t d s
  surveyed_for h d there = surveyed_as (same_by d there) h

  pub counted_for : {w : Walk} {s : Survey} → IsCounted p t w c s → (d : Collections) → IsCollectorOf p of d → IsCounted p t w d s
  counted_for {w = w} {s = s} h d there = record {
    survey = λ names in_it. subst (λ (x : Collection). IsSurvey p t.has names w x (length w.notes) (value_by names s.so_far)) (same_by d there names in_it) (h.survey names in_it);
    coded = h.coded;
    known = h.known;
  }

  pub comes_for : (v : CodedValue) → ByEachIn t (λ names. ComesUnder t.has (demands_of p c names) (value_by names v)) → (d : Collections) → IsCollectorOf p of d → ByEachIn t (λ names. ComesUnder t.has (demands_of p d names) (value_by names v))
  comes_for v h d there names in_it = subst (λ (x : Collection). ComesUnder t.has (collection_demands (world_of p) x) (value_by names v)) (same_by d there names in_it) (h names in_it)

  pub wants_for : (j : CodedInstance) → ByEachIn t (λ names. Wants t.has (demands_of p c names) (instance_by p names j)) → (d : Collections) → IsCollectorOf p of d → ByEachIn t (λ names. Wants t.has (demands_of p d names) (instance_by p names j))
  wants_for j h d there names in_it = subst (λ (x : Collection). Wants t.has (collection_demands (world_of p) x) (instance_by p names j)) (same_by d there names in_it) (h names in_it)

-- begun anew or not, it is a survey that the walk has kept enough for
pub fitted : {S : Type 0} (p : Program) (t : Told S) → IsSound p t → {of : Collector} {c : Collections} → IsCollectorOf p of c → (s x : Survey) (w : Walk) → ((x ≡ s) × (s.taken ≤ length w.notes)) ⊎ IsNew p of x → IsSurveyed p t c s → IsSurveyed p t c x × (x.taken ≤ length w.notes)
fitted p t sound {c = c} is s x w (inl e) h = (subst (IsSurveyed p t c) (sym e.0) h, (let same = ap (λ (y : Survey). y.taken) e.0 in let l = e.1 in omega (arith, same, l)))
fitted p t sound is s x w (inr new) h = (survey_new t sound is new, (let none = new.taken in omega (arith, none)))

-- where nothing is offered it has the fresh value
pub rootless : {S : Type 0} {p : Program} {q r : Told S} {of : Collector} {c : Collections} {s : Survey} → Grows p q r → IsCollectorOf p of c → ByEachIn r (λ names. (c names).offers ≡ []) → IsNew p of s → (v : CodedValue) → v ≡ s.so_far → Evaluates p q r (demands_of p c) (Ok (turns.Done v))
rootless {p = p} {r = r} {c = c} kept is none new v same = record {
  kept = kept;
  answer = record {
    comes = λ names in_it.
        let named = naming_of kept.sound names in_it in
        let x = c names in
        let by = is names named in
        let value : value_by names v ≡ fresh x.method x.kind = ap (value_by names) same ∙ new.so_far names named ∙ sym (λ i. fresh (by.method i) (by.kind i)) in
        subst (λ (os : List Offer). ComesUnder r.has (gathered (world_of p) x.method x.kind (At x.node) (fresh x.method x.kind) os) (value_by names v)) (sym (none names in_it))
        ([], subst (λ (y : Value). Ends r.has (Gives (fresh x.method x.kind)) y []) (sym value) gives);
    coded = subst (AreElements p) (sym same) new.coded;
    known = subst (KnowsValue r) (sym same) (new_known kept.sound new);
  };
}
