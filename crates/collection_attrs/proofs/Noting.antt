-- One note more: where the first with a receiver stands, and where none does.
use Rattle.std.proofs.Common.{◌≡◌, ◌≢◌, ℕ, zero, suc, ◌<◌, ◌≤◌, List, [], ◌∷◌, ◌++◌, Some, length, slice_get, refl, sym, ap, subst, ◌∙◌, inl, inr, arith}
use Rattle.std.proofs.lemmas.Bool.{cases_lt}
use Rattle.std.proofs.lemmas.List.{length-append}
use Rattle.std.proofs.lemmas.Option.{slice_get_within}
use Rattle.collection_attrs.specs.Walks.{IsFirstFor, NoneFrom, Noted}

-- those that were there
in_front : (ns ms : List Noted) (i : ℕ) → i < length ns → slice_get (ns ++ ms) i ≡ slice_get ns i
in_front [] ms i l = absurd (omega (arith, l))
in_front (n ∷ ns) ms zero l = refl
in_front (n ∷ ns) ms (suc i) l = in_front ns ms i (omega (arith, l))

-- and the new one
the_last : (ns : List Noted) (n : Noted) → slice_get (ns ++ n ∷ []) (length ns) ≡ Some n
the_last [] n = refl
the_last (x ∷ ns) n = the_last ns n

module _ (ns : List Noted) (n : Noted) (r from : ℕ) where
  -- a note is one of those that were there, or the new one
  pub old_or_new : (P : Noted → Type 0) → ((i : ℕ) (m : Noted) → from ≤ i → slice_get ns i ≡ Some m → P m) → P n → (i : ℕ) (m : Noted) → from ≤ i → slice_get (ns ++ n ∷ []) i ≡ Some m → P m
  old_or_new P old new i m l e = elim (cases_lt i (length ns)) [
    | inl u ↦ old i m l (sym (in_front ns (n ∷ []) i u) ∙ e)
    | inr u ↦
        let within = slice_get_within (ns ++ n ∷ []) i m e in
        let last : length ns ≡ i = omega (arith, u, within, length-append ns (n ∷ [])) in
        let same : slice_get (ns ++ n ∷ []) i ≡ Some n = ap (slice_get (ns ++ n ∷ [])) (sym last) ∙ the_last ns n in
        let one : n ≡ m = cc in
        subst P one new
  ]

  -- with one that is for another, none is still none
  pub none_stays : NoneFrom ns r from → n.receiver ≢ r → NoneFrom (ns ++ n ∷ []) r from
  none_stays none off = old_or_new (λ m. m.receiver ≢ r) none off

  -- the first stays the first
  pub first_stays : (place : ℕ) → IsFirstFor ns r from place → IsFirstFor (ns ++ n ∷ []) r from place
  first_stays place f =
      let within = slice_get_within ns place f.note f.is in
      record {
        after = f.after;
        note = f.note;
        is = in_front ns (n ∷ []) place within ∙ f.is;
        has = f.has;
        between = λ i m l u e. f.between i m l u (sym (in_front ns (n ∷ []) i (omega (arith, u, within))) ∙ e);
      }

  -- where there was none, the new one is it
  pub first_comes : NoneFrom ns r from → from ≤ length ns → n.receiver ≡ r → IsFirstFor (ns ++ n ∷ []) r from (length ns)
  first_comes none l on = record {
    after = l;
    note = n;
    is = the_last ns n;
    has = on;
    between = λ i m f u e. none i m f (sym (in_front ns (n ∷ []) i u) ∙ e);
  }
