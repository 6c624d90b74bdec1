-- One entry more comes into the ring of its receiver.
use Rattle.std.proofs.Common.{◌≡◌, ◌≢◌, ℕ, zero, suc, ◌+◌, ◌-◌, ◌^◌, ◌<◌, ◌≤◌, ◌⊎◌, true, false, cond, List, [], ◌∷◌, ◌++◌, map, Option, Some, None, option_map, eqb, length, set, slice_get, refl, sym, ap, subst, ◌∙◌, inl, inr, arith}
use Rattle.std.proofs.lemmas.Bool.{cases_lt, eq-eqb, eqb-true}
use Rattle.std.proofs.lemmas.List.{length-append, length-map, map-append}
use Rattle.std.proofs.lemmas.Option.{slice_get-map, slice_get_within}
use Rattle.attr_rules.proofs.RowLists.{there}
use Rattle.equation_law.specs.declared.coding.NodeRef.{NodeRef}
use Rattle.collection_attrs.specs.declared.linking.Entry.{Entry}
use Rattle.collection_attrs.specs.Surveys.{AreChained, noted_in}
use Rattle.collection_attrs.specs.Walks.{IsFirstFor, IsNextFor, MayGoOn, NoneFrom, Noted, behind, round}
use Rattle.collection_attrs.proofs.Noting.{first_comes, first_stays, none_stays}

-- ---- a list with one entry more

abbrev noted : List Entry → List Noted
noted es = map noted_in es

-- The entries with one more. It tells what the last one with its receiver told, or itself. The last one tells it, and the others are as before.
pub record IsLinked (es : List Entry) (e : Entry) (before : Option ℕ) (fs : List Entry) : Type 0 where
  pub notes : noted fs ≡ noted es ++ noted_in e ∷ []
  pub long : length fs ≡ length es + 1
  pub old : (i : ℕ) (x : Entry) → slice_get es i ≡ Some x
      → (y : Entry) × (slice_get fs i ≡ Some y) × (y.receiver ≡ x.receiver) × (((y.next ≡ x.next) × ((k : ℕ) → before ≡ Some k → k ≡ i → ⊥)) ⊎ ((before ≡ Some i) × (y.next ≡ length es)))
  pub new : slice_get fs (length es) ≡ Some e
  pub alone : before ≡ None → e.next ≡ length es
  pub first : (k : ℕ) (x : Entry) → before ≡ Some k → slice_get es k ≡ Some x → e.next ≡ x.next

module _ (es : List Entry) (e : Entry) where
  in_front : (xs ys : List Entry) (i : ℕ) (x : Entry) → slice_get xs i ≡ Some x → slice_get (xs ++ ys) i ≡ Some x
  in_front [] ys i x is = cc
  in_front (z ∷ xs) ys zero x is = is
  in_front (z ∷ xs) ys (suc i) x is = in_front xs ys i x is

  the_last : (xs : List Entry) → slice_get (xs ++ e ∷ []) (length xs) ≡ Some e
  the_last [] = refl
  the_last (z ∷ xs) = the_last xs

  pub linked_none : e.next ≡ length es → IsLinked es e None (es ++ e ∷ [])
  linked_none itself = record {
    notes = map-append noted_in es (e ∷ []);
    long = length-append es (e ∷ []);
    old = λ i x is. (x, in_front es (e ∷ []) i x is, refl, inl (refl, λ k none at. cc));
    new = the_last es;
    alone = λ none. itself;
    first = λ k x none is. cc;
  }

  set_here : (xs : List Entry) (k : ℕ) (x y : Entry) → slice_get xs k ≡ Some x → slice_get (set xs k y) k ≡ Some y
  set_here [] k x y is = cc
  set_here (z ∷ xs) zero x y is = refl
  set_here (z ∷ xs) (suc k) x y is = set_here xs k x y is

  set_there : (xs : List Entry) (k i : ℕ) (y : Entry) → (k ≡ i → ⊥) → slice_get (set xs k y) i ≡ slice_get xs i
  set_there [] k i y other = refl
  set_there (z ∷ xs) zero zero y other = absurd (other refl)
  set_there (z ∷ xs) zero (suc i) y other = refl
  set_there (z ∷ xs) (suc k) zero y other = refl
  set_there (z ∷ xs) (suc k) (suc i) y other = set_there xs k i y (λ same. other (ap suc same))

  set_noted : (xs : List Entry) (k : ℕ) (x y : Entry) → slice_get xs k ≡ Some x → noted_in y ≡ noted_in x → noted (set xs k y) ≡ noted xs
  set_noted [] k x y is same = refl
  set_noted (z ∷ xs) zero x y is same = let one : z ≡ x = cc in ap (λ (n : Noted). n ∷ noted xs) (same ∙ sym (ap noted_in one))
  set_noted (z ∷ xs) (suc k) x y is same = ap (λ (ns : List Noted). noted_in z ∷ ns) (set_noted xs k x y is same)

  set_long : (xs : List Entry) (k : ℕ) (y : Entry) → length (set xs k y) ≡ length xs
  set_long [] k y = refl
  set_long (z ∷ xs) zero y = refl
  set_long (z ∷ xs) (suc k) y = ap suc (set_long xs k y)

  pub linked_some : (last : ℕ) (x y : Entry) → slice_get es last ≡ Some x → e.next ≡ x.next → noted_in y ≡ noted_in x → y.receiver ≡ x.receiver → y.next ≡ length es → IsLinked es e (Some last) (set (es ++ e ∷ []) last y)
  linked_some last x y is first same receiver next =
      let here = in_front es (e ∷ []) last x is in
      let within = slice_get_within es last x is in
      let other : (i : ℕ) → (last ≡ i → ⊥) → (k : ℕ) → Some last ≡ Some k → k ≡ i → ⊥ = λ i off k known at. off (let one : last ≡ k = cc in one ∙ at) in
      record {
        notes = set_noted (es ++ e ∷ []) last x y here same ∙ map-append noted_in es (e ∷ []);
        long = set_long (es ++ e ∷ []) last y ∙ length-append es (e ∷ []);
        old = λ i z there_is. elim (cases_lt i last) [
          | inl u ↦ let off : last ≡ i → ⊥ = (λ at. omega (arith, u, at)) in (z, set_there (es ++ e ∷ []) last i y off ∙ in_front es (e ∷ []) i z there_is, refl, inl (refl, other i off))
          | inr u ↦ elim (cases_lt last i) [
            | inl v ↦ let off : last ≡ i → ⊥ = (λ at. omega (arith, v, at)) in (z, set_there (es ++ e ∷ []) last i y off ∙ in_front es (e ∷ []) i z there_is, refl, inl (refl, other i off))
            | inr v ↦
                let at : last ≡ i = omega (arith, u, v) in
                let one : x ≡ z = (let there_too : slice_get es last ≡ Some z = ap (slice_get es) at ∙ there_is in cc) in
                (y, subst (λ (k : ℕ). slice_get (set (es ++ e ∷ []) last y) k ≡ Some y) at (set_here (es ++ e ∷ []) last x y here), receiver ∙ ap (λ (k : Entry). k.receiver) one, inr (ap (λ (k : ℕ). Some k) at, next))
          ]
        ];
        new = set_there (es ++ e ∷ []) last (length es) y (λ at. omega (arith, within, at)) ∙ the_last es;
        alone = λ none. cc;
        first = λ k z known there_is. (let one : last ≡ k = cc in let there_too : slice_get es last ≡ Some z = ap (slice_get es) one ∙ there_is in let same_one : x ≡ z = cc in first ∙ ap (λ (n : Entry). n.next) same_one);
      }

  -- the last one with its receiver tells it
  pub linked_told : (lasts : NodeRef → Option ℕ) → AreChained es lasts → (last : ℕ) → lasts e.receiver ≡ Some last → ((x : Entry) → slice_get es last ≡ Some x → e.next ≡ x.next) → (pushed fs : List Entry) → pushed ≡ es ++ e ∷ []
      → ((x : Entry) → slice_get pushed last ≡ Some x → (y : Entry) × (fs ≡ set pushed last y) × (noted_in y ≡ noted_in x) × (y.receiver ≡ x.receiver) × (y.next ≡ length es)) → IsLinked es e (Some last) fs
  linked_told lasts h last was first pushed fs same told =
      let w = h.within e.receiver last was in
      let t = told w.0 (ap (λ (xs : List Entry). slice_get xs last) same ∙ in_front es (e ∷ []) last w.0 w.1) in
      subst (IsLinked es e (Some last)) (sym (t.1 ∙ ap (λ (xs : List Entry). set xs last t.0) same)) (linked_some last w.0 t.0 w.1 (first w.0 w.1) t.2 t.3 t.4)

  -- the place that it tells is one of those that there are
  pub last_within : (lasts : NodeRef → Option ℕ) → AreChained es lasts → (last : ℕ) → lasts e.receiver ≡ Some last → (pushed : List Entry) → pushed ≡ es ++ e ∷ [] → last < length pushed
  last_within lasts h last was pushed same =
      let w = h.within e.receiver last was in
      let long = ap length same in
      omega (arith, long, length-append es (e ∷ []), slice_get_within es last w.0 w.1)

-- ---- it is chained

module _ (es : List Entry) (e : Entry) (lasts later : NodeRef → Option ℕ) (h : AreChained es lasts) (before : Option ℕ) (was : lasts e.receiver ≡ before) (fs : List Entry) (l : IsLinked es e before fs) (few : length es + 1 < 2 ^ 32)
    (now : (q : NodeRef) → later q ≡ cond (eqb e.receiver.0 q.0) (Some (length es)) (lasts q)) where
  abbrev ns : List Noted
  ns = noted es

  abbrev m : Noted
  m = noted_in e

  abbrev of : NodeRef → ℕ
  of n = n.0

  long : length ns ≡ length es
  long = length-map es noted_in

  -- an entry is noted at its place
  noted_at : (i : ℕ) (x : Entry) → slice_get es i ≡ Some x → slice_get ns i ≡ Some (noted_in x)
  noted_at i x is = slice_get-map noted_in es i ∙ ap (λ (o : Option Entry). option_map noted_in o) is

  -- nothing stands behind the new one
  nothing_behind : (r : ℕ) → NoneFrom (ns ++ m ∷ []) r (length es + 1)
  nothing_behind r i n from is = let within = slice_get_within (ns ++ m ∷ []) i n is in absurd (omega (arith, within, length-append ns (m ∷ []), long, from))

  -- the new one is the first where there was none
  new_first : (from : ℕ) → from ≤ length es → NoneFrom ns (of e.receiver) from → IsFirstFor (ns ++ m ∷ []) (of e.receiver) from (length es)
  new_first from within none = subst (IsFirstFor (ns ++ m ∷ []) (of e.receiver) from) long (first_comes ns m (of e.receiver) from none (omega (arith, within, long)) refl)

  -- what `later` has
  data Later (q : NodeRef) : Type 0 where
    own : q ≡ e.receiver → later q ≡ Some (length es) → Later q
    other : of e.receiver ≢ of q → later q ≡ lasts q → Later q

  later_is : (q : NodeRef) → Later q
  later_is q = elim (eqb e.receiver.0 q.0) as (λ t. eqb e.receiver.0 q.0 ≡ t → later q ≡ cond t (Some (length es)) (lasts q) → Later q) [
    | true ↦ λ same is. own (λ i. record { 0 = sym (eqb-true e.receiver.0 q.0 same) i }) is
    | false ↦ λ differ is. other (λ same. let on = eq-eqb e.receiver.0 q.0 same in cc) is
  ] refl (now q)

  -- an entry whose receiver is that of the new one, and behind which none is, is the last one with it
  clash : (b : Option ℕ) → before ≡ b → (i : ℕ) (x : Entry) → slice_get es i ≡ Some x → NoneFrom ns (of x.receiver) (i + 1) → ((k : ℕ) → before ≡ Some k → k ≡ i → ⊥) → of e.receiver ≡ of x.receiver → ⊥
  clash None known i x is none not_last same = h.none e.receiver (was ∙ known) i (noted_in x) (omega arith) (noted_at i x is) (sym same)
  clash (Some k) known i x is none not_last same =
      let w = h.within e.receiver k (was ∙ known) in
      elim (cases_lt i k) [
        | inl u ↦ none k (noted_in w.0) (omega (arith, u)) (noted_at k w.0 w.1) (ap of w.2 ∙ same)
        | inr u ↦ elim (cases_lt k i) [
          | inl v ↦ h.last e.receiver k (was ∙ known) i (noted_in x) (omega (arith, v)) (noted_at i x is) (sym same)
          | inr v ↦ not_last k known (omega (arith, u, v))
        ]
      ]

  -- what an entry tells stays true, unless it was the last
  tells_on : (i : ℕ) (x : Entry) → slice_get es i ≡ Some x → (t : ℕ) → IsNextFor ns (of x.receiver) (i + 1) t → ((k : ℕ) → before ≡ Some k → k ≡ i → ⊥) → IsNextFor (ns ++ m ∷ []) (of x.receiver) (i + 1) t
  tells_on i x is t (behind f) not_last = behind (first_stays ns m (of x.receiver) (i + 1) t f)
  tells_on i x is t (round none f) not_last = round (none_stays ns m (of x.receiver) (i + 1) none (λ same. clash before refl i x is none not_last same)) (first_stays ns m (of x.receiver) 0 t f)

  -- the last one tells the first
  last_tells : (k : ℕ) → lasts e.receiver ≡ Some k → (x : Entry) → slice_get es k ≡ Some x → x.receiver ≡ e.receiver → IsNextFor ns (of x.receiver) (k + 1) x.next → IsFirstFor ns (of e.receiver) 0 x.next
  last_tells k known x is own_one (behind f) =
      let off = h.last e.receiver k known x.next f.note f.after f.is in
      absurd (off (subst (λ (n : NodeRef). f.note.receiver ≡ of n) own_one f.has))
  last_tells k known x is own_one (round none f) = subst (λ (n : NodeRef). IsFirstFor ns (of n) 0 x.next) own_one f

  -- and so does the new one
  new_tells : (b : Option ℕ) → before ≡ b → IsFirstFor (ns ++ m ∷ []) (of e.receiver) 0 e.next
  new_tells None known = subst (IsFirstFor (ns ++ m ∷ []) (of e.receiver) 0) (sym (l.alone known)) (new_first 0 (omega arith) (h.none e.receiver (was ∙ known)))
  new_tells (Some k) known =
      let w = h.within e.receiver k (was ∙ known) in
      let first = last_tells k (was ∙ known) w.0 w.1 w.2 (h.next k w.0 w.1) in
      subst (IsFirstFor (ns ++ m ∷ []) (of e.receiver) 0) (sym (l.first k w.0 known w.1)) (first_stays ns m (of e.receiver) 0 w.0.next first)

  tells : (i : ℕ) (y : Entry) → slice_get fs i ≡ Some y → IsNextFor (ns ++ m ∷ []) (of y.receiver) (i + 1) y.next
  tells i y is = elim (cases_lt i (length es)) [
    | inl u ↦
        let x = there es i u in
        let z = l.old i x.0 x.1 in
        let same : z.0 ≡ y = (let a = z.1 in cc) in
        subst (λ (k : Entry). IsNextFor (ns ++ m ∷ []) (of k.receiver) (i + 1) k.next) same
        (elim z.3 [
          | inl kept ↦ subst (λ (n : NodeRef). IsNextFor (ns ++ m ∷ []) (of n) (i + 1) z.0.next) (sym z.2) (subst (IsNextFor (ns ++ m ∷ []) (of x.0.receiver) (i + 1)) (sym kept.0) (tells_on i x.0 x.1 x.0.next (h.next i x.0 x.1) kept.1))
          | inr last ↦
              let w = h.within e.receiver i (was ∙ last.0) in
              let one : w.0 ≡ x.0 = (let a = w.1 in let b = x.1 in cc) in
              let own_one : e.receiver ≡ z.0.receiver = sym w.2 ∙ ap (λ (k : Entry). k.receiver) one ∙ sym z.2 in
              let first : IsFirstFor (ns ++ m ∷ []) (of e.receiver) (i + 1) (length es) = new_first (i + 1) (omega (arith, u)) (h.last e.receiver i (was ∙ last.0)) in
              subst (IsNextFor (ns ++ m ∷ []) (of z.0.receiver) (i + 1)) (sym last.1) (behind (subst (λ (n : NodeRef). IsFirstFor (ns ++ m ∷ []) (of n) (i + 1) (length es)) own_one first))
        ])
    | inr u ↦
        let within = slice_get_within fs i y is in
        let last : length es ≡ i = omega (arith, u, within, l.long) in
        let same : e ≡ y = (let here : slice_get fs i ≡ Some e = ap (slice_get fs) (sym last) ∙ l.new in cc) in
        let none : NoneFrom (ns ++ m ∷ []) (of e.receiver) (i + 1) = subst (λ (k : ℕ). NoneFrom (ns ++ m ∷ []) (of e.receiver) (k + 1)) last (nothing_behind (of e.receiver)) in
        subst (λ (k : Entry). IsNextFor (ns ++ m ∷ []) (of k.receiver) (i + 1) k.next) same (round none (new_tells before refl))
  ]

  last_for : (q : NodeRef) → Later q → (k : ℕ) → later q ≡ Some k → NoneFrom (ns ++ m ∷ []) (of q) (k + 1)
  last_for q (own same is) k known =
      let one : length es ≡ k = cc in
      subst (λ (d : ℕ). NoneFrom (ns ++ m ∷ []) (of q) (d + 1)) one (nothing_behind (of q))
  last_for q (other off is) k known = none_stays ns m (of q) (k + 1) (h.last q k (sym is ∙ known)) off

  within_for : (q : NodeRef) → Later q → (k : ℕ) → later q ≡ Some k → (x : Entry) × (slice_get fs k ≡ Some x) × (x.receiver ≡ q)
  within_for q (own same is) k known =
      let one : length es ≡ k = cc in
      (e, subst (λ (d : ℕ). slice_get fs d ≡ Some e) one l.new, sym same)
  within_for q (other off is) k known =
      let w = h.within q k (sym is ∙ known) in
      let y = l.old k w.0 w.1 in
      (y.0, y.1, y.2 ∙ w.2)

  none_for : (q : NodeRef) → Later q → later q ≡ None → NoneFrom (ns ++ m ∷ []) (of q) 0
  none_for q (own same is) known = cc
  none_for q (other off is) known = none_stays ns m (of q) 0 (h.none q (sym is ∙ known)) off

  pub chained_more : AreChained fs later
  chained_more =
      let long_now = l.long in
      record {
        few = omega (arith, few, long_now);
        next = λ i y is. subst (λ (xs : List Noted). IsNextFor xs (of y.receiver) (i + 1) y.next) (sym l.notes) (tells i y is);
        last = λ q k known. subst (λ (xs : List Noted). NoneFrom xs (of q) (k + 1)) (sym l.notes) (last_for q (later_is q) k known);
        within = λ q k known. within_for q (later_is q) k known;
        none = λ q known. subst (λ (xs : List Noted). NoneFrom xs (of q) 0) (sym l.notes) (none_for q (later_is q) known);
      }

-- without entries
pub chained_none : (lasts : NodeRef → Option ℕ) → ((q : NodeRef) → lasts q ≡ None) → AreChained [] lasts
chained_none lasts none = record {
  few = omega arith;
  next = λ i y is. cc;
  last = λ q k known. let no_ring = none q in cc;
  within = λ q k known. let no_ring = none q in cc;
  none = λ q known i n from is. cc;
}

-- as far as the same is kept
pub chained_same : {es : List Entry} (lasts later : NodeRef → Option ℕ) → ((q : NodeRef) → later q ≡ lasts q) → AreChained es lasts → AreChained es later
chained_same lasts later same h = record {
  few = h.few;
  next = h.next;
  last = λ q k known. h.last q k (sym (same q) ∙ known);
  within = λ q k known. h.within q k (sym (same q) ∙ known);
  none = λ q known. h.none q (sym (same q) ∙ known);
}

-- ---- what entries tell

module _ (es : List Entry) (lasts : NodeRef → Option ℕ) (h : AreChained es lasts) where
  -- what an entry tells is the place of one
  pub next_within : (k : ℕ) (e : Entry) → slice_get es k ≡ Some e → e.next < length (noted es)
  next_within k e is = elim (h.next k e is) [
    | behind f ↦ slice_get_within (noted es) e.next f.note f.is
    | round none f ↦ slice_get_within (noted es) e.next f.note f.is
  ]

  -- so that place is one of 32 bits, and so is the one behind it
  pub next_fits : (k : ℕ) (e : Entry) → slice_get es k ≡ Some e → e.next + 1 < 2 ^ 32
  next_fits k e is = let few = h.few in omega (arith, few, next_within k e is, length-map es noted_in)

  -- the last with a receiver tells the first
  pub last_first : (q : NodeRef) (k : ℕ) → lasts q ≡ Some k → (e : Entry) → slice_get es k ≡ Some e → IsFirstFor (noted es) q.0 0 e.next
  last_first q k known e is =
      let w = h.within q k known in
      let one : w.0 ≡ e = (let a = w.1 in cc) in
      let own_one : e.receiver ≡ q = sym (ap (λ (x : Entry). x.receiver) one) ∙ w.2 in
      elim (h.next k e is) [
        | behind f ↦
            let off = h.last q k known e.next f.note f.after f.is in
            absurd (off (subst (λ (n : NodeRef). f.note.receiver ≡ n.0) own_one f.has))
        | round none f ↦ subst (λ (n : NodeRef). IsFirstFor (noted es) n.0 0 e.next) own_one f
      ]

  -- each tells the next with its receiver
  pub next_first : (k : ℕ) (e : Entry) (n : Noted) (r : ℕ) → slice_get es k ≡ Some e → slice_get (noted es) k ≡ Some n → n.receiver ≡ r → IsNextFor (noted es) r (k + 1) e.next
  next_first k e n r is note on =
      let here : slice_get (noted es) k ≡ Some (noted_in e) = slice_get-map noted_in es k ∙ ap (λ (o : Option Entry). option_map noted_in o) is in
      let one : n ≡ noted_in e = cc in
      let same : e.receiver.0 ≡ r = sym (ap (λ (m : Noted). m.receiver) one) ∙ on in
      subst (λ (x : ℕ). IsNextFor (noted es) x (k + 1) e.next) same (h.next k e is)

-- ---- behind a note with a receiver

-- the place in front is one of an entry
pub before_within : (es : List Entry) (ns : List Noted) → noted es ≡ ns → (from : ℕ) → (from ≡ 0 → ⊥) → from ≤ length ns → from - 1 < length es
before_within es ns same from some within = let long = ap length same in omega (arith, within, long, length-map es noted_in, some)

-- it tells the next
pub behind_tells : (es : List Entry) (lasts : NodeRef → Option ℕ) → AreChained es lasts → (ns : List Noted) → noted es ≡ ns → (r from : ℕ) → (from ≡ 0 → ⊥) → MayGoOn ns r from → (e : Entry) → slice_get es (from - 1) ≡ Some e → IsNextFor ns r from e.next
behind_tells es lasts h ns same r from some (inl none) e is = absurd (some none)
behind_tells es lasts h ns same r from some (inr b) e is =
    let place : from - 1 ≡ b.0 = (let at = b.2 in omega (arith, at)) in
    let here : slice_get es b.0 ≡ Some e = ap (slice_get es) (sym place) ∙ is in
    let note : slice_get (noted es) b.0 ≡ Some b.1 = ap (λ (xs : List Noted). slice_get xs b.0) same ∙ b.3 in
    let at_next : b.0 + 1 ≡ from = (let at = b.2 in omega (arith, at)) in
    subst (λ (k : ℕ). IsNextFor ns r k e.next) at_next (subst (λ (xs : List Noted). IsNextFor xs r (b.0 + 1) e.next) same (next_first es lasts h b.0 e b.1 r here note b.4))

-- a place in front tells that the ring has come round
pub none_round : (ns : List Noted) (r from t : ℕ) → IsNextFor ns r from t → t < from → NoneFrom ns r from
none_round ns r from t (behind f) before = absurd (let after = f.after in omega (arith, after, before))
none_round ns r from t (round none f) before = none

-- and no other does
pub first_behind : (ns : List Noted) (r from t : ℕ) → (from ≡ 0 → ⊥) → MayGoOn ns r from → IsNextFor ns r from t → from ≤ t → IsFirstFor ns r from t
first_behind ns r from t some b (behind f) later = f
first_behind ns r from t some (inl none) (round no_one f) later = absurd (some none)
first_behind ns r from t some (inr b) (round no_one f) later =
    let at = b.2 in
    absurd (f.between b.0 b.1 (omega arith) (omega (arith, at, later)) b.3 b.4)
