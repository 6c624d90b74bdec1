-- What is noted of members when one is evaluated.
use Rattle.std.proofs.Common.{◌≡◌, ◌≢◌, ◌⊎◌, ◌∙◌, ℕ, ◌+◌, ◌<◌, ◌≤◌, true, false, List, Some, Contains, length, set, slice_get, slice_index_or, inl, inr, ⊎_elim, refl, sym, ap, subst, arith}
use Rattle.std.proofs.lemmas.Bool.{cases_order}
use Rattle.std.proofs.lemmas.List.{length-set}
use Rattle.std.proofs.lemmas.Option.{slice_get_within}
use Rattle.worklists.specs.declared.worklist.Noted.{Noted}
use Rattle.worklists.specs.declared.worklist.Worklist.{Worklist}
use Rattle.worklists.specs.Waiting.{IsFresh, IsReader, IsWithin}
use Rattle.worklists.proofs.Marks.{set_other, set_there}
use Rattle.worklists.proofs.Numbers.{number_within}

-- whether a member was evaluated
pub fresh_there : (w : Worklist) (n : ℕ) (y : Noted) → slice_get w.noted.items n ≡ Some y → y.evaluated ≡ false → IsFresh w n
fresh_there w n y at h = record { of = y; noted = at; fresh = h }

pub not_fresh : (w : Worklist) (n : ℕ) (y : Noted) → slice_get w.noted.items n ≡ Some y → y.evaluated ≡ true → ¬ IsFresh w n
not_fresh w n y at h f =
    let both : Some y ≡ Some f.of = sym at ∙ f.noted in
    let one : y ≡ f.of = cc in
    let no : true ≡ false = sym h ∙ ap (λ (z : Noted). z.evaluated) one ∙ f.fresh in
    let e : ⊥ = cc in e

pub fresh_past : (w : Worklist) (n : ℕ) → length w.noted.items ≤ n → ¬ IsFresh w n
fresh_past w n past f = let low : n < length w.noted.items = slice_get_within w.noted.items n f.of f.noted in absurd (omega (arith, low, past))

apart : (k n : ℕ) → k < n ⊎ n < k → k ≢ n
apart k n other same = ⊎_elim (λ (l : k < n). omega (arith, l, same)) (λ (l : n < k). omega (arith, l, same)) other

-- one has more readers
module _ (w v : Worklist) (n : ℕ) (x y : Noted) (at : slice_get w.noted.items n ≡ Some y) (items : v.noted.items ≡ set w.noted.items n x) where
  pub here : slice_get v.noted.items n ≡ Some x
  here = subst (λ (ns : List Noted). slice_get ns n ≡ Some x) (sym items) (set_there w.noted.items n x y at)

  there : (k : ℕ) → k ≢ n → slice_get v.noted.items k ≡ slice_get w.noted.items k
  there k other = ap (λ (ns : List Noted). slice_get ns k) items ∙ set_other w.noted.items n k x other

  pub readers_kept : IsWithin y.readers.keys x.readers.keys → (k other : ℕ) → IsReader w k other → IsReader v k other
  readers_kept within k other r = elim (cases_order k n) [
    | inl same ↦
        let both : Some r.of ≡ Some y = sym r.noted ∙ ap (λ (m : ℕ). slice_get w.noted.items m) same ∙ at in
        let one : r.of ≡ y = cc in
        record { of = x; noted = subst (λ (m : ℕ). slice_get v.noted.items m ≡ Some x) (sym same) here; has = within.has other (subst (λ (z : Noted). Contains z.readers.keys other) one r.has) }
    | inr far ↦ record { of = r.of; noted = there k (apart k n far) ∙ r.noted; has = r.has }
  ]

  pub fresh_kept : x.evaluated ≡ y.evaluated → (k : ℕ) → IsFresh v k → IsFresh w k
  fresh_kept same k f = elim (cases_order k n) [
    | inl is ↦
        let both : Some f.of ≡ Some x = sym f.noted ∙ ap (λ (m : ℕ). slice_get v.noted.items m) is ∙ here in
        let one : f.of ≡ x = cc in
        record { of = y; noted = subst (λ (m : ℕ). slice_get w.noted.items m ≡ Some y) (sym is) at; fresh = sym same ∙ ap (λ (z : Noted). z.evaluated) (sym one) ∙ f.fresh }
    | inr far ↦ record { of = f.of; noted = sym (there k (apart k n far)) ∙ f.noted; fresh = f.fresh }
  ]

-- the member is noted as a reader of the first ones of a list
pub record AreNoted (w : Worklist) (reader : ℕ) (read : List ℕ) (i : ℕ) (v : Worklist) : Type 0 where
  pub due : v.due ≡ w.due
  pub len : length v.noted.items ≡ length w.noted.items
  pub evaluated : ¬ IsFresh v reader
  pub noted : (j k : ℕ) → j < i → slice_index_or read j k ≡ k → k < length w.noted.items → IsReader v k reader
  pub kept : (k other : ℕ) → IsReader w k other → IsReader v k other

pub noted_none : (w : Worklist) (reader : ℕ) (read : List ℕ) → ¬ IsFresh w reader → AreNoted w reader read 0 w
noted_none w reader read h = record { due = refl; len = refl; evaluated = h; noted = λ j k low. absurd (omega (arith, low)); kept = λ k other r. r }

-- the number at the place i, whatever stands for those behind the end
pub number_is : (read : List ℕ) (i j k : ℕ) → i < length read → j ≡ i → slice_index_or read j k ≡ k → slice_index_or read i 0 ≡ k
number_is read i j k low same is = number_within read i 0 k low ∙ ap (λ (m : ℕ). slice_index_or read m k) (sym same) ∙ is

pub noted_more : (w v u : Worklist) (reader : ℕ) (read : List ℕ) (i : ℕ) (x y : Noted) → i < length read → AreNoted w reader read i v → slice_get v.noted.items (slice_index_or read i 0) ≡ Some y → u.due ≡ v.due → u.noted.items ≡ set v.noted.items (slice_index_or read i 0) x → x.evaluated ≡ y.evaluated → IsWithin y.readers.keys x.readers.keys → Contains x.readers.keys reader → AreNoted w reader read (i + 1) u
noted_more w v u reader read i x y low h at due items same within has =
    let n = slice_index_or read i 0 in
    record {
      due = due ∙ h.due;
      len = ap length items ∙ length-set v.noted.items n x ∙ h.len;
      evaluated = λ f. h.evaluated (fresh_kept v u n x y at items same reader f);
      noted = λ j k less is in_w. elim (cases_order j i) [
        | inl now ↦ subst (λ (m : ℕ). IsReader u m reader) (number_is read i j k low now is) (record { of = x; noted = here v u n x y at items; has = has })
        | inr before ↦ readers_kept v u n x y at items within k reader (h.noted j k (⊎_elim (λ l. l) (λ l. absurd (omega (arith, less, l))) before) is in_w)
      ];
      kept = λ k other r. readers_kept v u n x y at items within k other (h.kept k other r);
    }

-- or it is no member
pub noted_past : (w v : Worklist) (reader : ℕ) (read : List ℕ) (i : ℕ) → i < length read → AreNoted w reader read i v → length v.noted.items ≤ slice_index_or read i 0 → AreNoted w reader read (i + 1) v
noted_past w v reader read i low h past = record {
  due = h.due;
  len = h.len;
  evaluated = h.evaluated;
  noted = λ j k less is in_w. elim (cases_order j i) [
    | inl now ↦
        let one : slice_index_or read i 0 ≡ k = number_is read i j k low now is in
        let same : length v.noted.items ≡ length w.noted.items = h.len in
        absurd (omega (arith, one, same, past, in_w))
    | inr before ↦ h.noted j k (⊎_elim (λ l. l) (λ l. absurd (omega (arith, less, l))) before) is in_w
  ];
  kept = h.kept;
}

pub noted_all : (w v : Worklist) (reader : ℕ) (read : List ℕ) (i : ℕ) → length read ≤ i → AreNoted w reader read i v → (k : ℕ) → Contains read k → k < length w.noted.items → IsReader v k reader
noted_all w v reader read i all h k (j, low, is) in_w = h.noted j k (omega (arith, low, all)) is in_w
