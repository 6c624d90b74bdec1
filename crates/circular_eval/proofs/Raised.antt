-- Raising the codes that a set has more than another one.
use Rattle.std.proofs.Common.{◌≡◌, ◌<◌, ℕ, ◌||◌, ◌&&◌, not, List, [], ◌∷◌, Option, Some, None, Result, Ok, Err, slice_get, inl, inr, ⊎_elim, refl, sym, ap, subst, ◌∙◌}
use Rattle.std.specs.Result.{IfOk, IsErr, IsErrAnd}
use Rattle.std.proofs.lemmas.Result.{err_from_is_err_and}
use Rattle.code_sets.specs.Members.{AreMade}
use Rattle.equation_law.specs.Names.{Instance}
use Rattle.equation_law.specs.Program.{Program}
use Rattle.memo_cells.specs.declared.view.Frame.{Frame}
use Rattle.memo_cells.specs.declared.view.View.{View}
use Rattle.memo_cells.specs.Views.{Has}
use Rattle.memo_cells.specs.Working.{GoesOn, Held, IsOwn, program_at}
use Rattle.memo_cells.specs.SetRaising.{ClaimsWords, LacksWord, MayShowAll, ShowsAll}
use Rattle.circular_eval.specs.declared.advancing.CircFault.{CircFault}
use Rattle.circular_eval.specs.declared.advancing.CircFault.TheVariants.{CellsFull, Memory}
use Rattle.circular_eval.specs.Left.{code_bound}
use Rattle.circular_eval.specs.Rising.{AnswersSet, RaisesSet}
use Rattle.circular_eval.proofs.Entries.{at_has}
use Rattle.circular_eval.proofs.Going.{program_on}
use Rattle.memo_cells.proofs.Holding.{goes_itself}
use Rattle.circular_eval.proofs.Rising.{rest_claims, rest_either, rest_in, rest_lacks, rest_may, rest_none}

-- an error that was handed on
pub err_is : {T E : Type 0} (r : Result T E) (e : E) → IsErr r × IsErrAnd r (λ m. m ≡ e) → r ≡ Err e
err_is r e h = let x = err_from_is_err_and r h.1 in x.1 ∙ ap (λ y. Err y) x.2

-- where there is an error nothing is said of the answer
pub err_ok : {T E : Type 0} (P : T → Type 0) (r : Result T E) → IsErr r → IfOk r P
err_ok P (Ok x) e = cc
err_ok P (Err y) e = tt

pub none_empty : (m : List ℕ) → slice_get m 0 ≡ None → m ≡ []
none_empty [] e = refl
none_empty (c ∷ m) e = cc

pub no_claims : (p : Program) (v : View) (i : Instance) (codes : List ℕ) → ClaimsWords p v v i codes
no_claims p v i codes q = inl refl

-- where memory is wanting before anything is raised
pub set_refused : (d : Held) → IsOwn d → (place : ℕ) (a b : List ℕ) (r : Result (Option (List ℕ)) CircFault) → IsErr r × IsErrAnd r (λ m. m ≡ Memory) → RaisesSet d d place a b r
set_refused d own place a b r h = record {
  on = goes_itself d own;
  answer = λ i may. subst (λ (x : Result (Option (List ℕ)) CircFault). AnswersSet (program_at d) d.frame d.view i a b x) (sym (err_is r Memory h)) tt;
  claims = λ i may. no_claims (program_at d) d.view i a;
}

module _ (place : ℕ) (a b m : List ℕ) (made : AreMade (λ x y. x && not y) a b m) where
  -- nothing is left
  pub set_none : (d : Held) → IsOwn d → m ≡ [] → RaisesSet d d place a b (Ok None)
  set_none d own is = record {
    on = goes_itself d own;
    answer = λ i may. rest_none a b m made is;
    claims = λ i may. no_claims (program_at d) d.view i a;
  }

  module _ (d : Held) (codes : List ℕ) (is : codes ≡ m) where
    pub set_may : (i : Instance) → MayShowAll (program_at d) d.frame d.view i place a → MayShowAll (program_at d) d.frame d.view i place codes
    set_may i may = subst (λ (l : List ℕ). MayShowAll (program_at d) d.frame d.view i place l) (sym is) (rest_may a b m made (program_at d) d.frame d.view i place may)

    module _ (e : Held) (on : GoesOn d e) (claims : (i : Instance) → MayShowAll (program_at d) d.frame d.view i place codes → ClaimsWords (program_at e) d.view e.view i codes) where
      set_claims : (i : Instance) → MayShowAll (program_at d) d.frame d.view i place a → ClaimsWords (program_at d) d.view e.view i a
      set_claims i may = rest_claims a b m made (program_at d) d.view e.view i (subst (λ (x : Program × List ℕ). ClaimsWords x.0 d.view e.view i x.1) (λ j. (program_on d e on j, is j)) (claims i (set_may i may)))

      pub set_full : ((i : Instance) → MayShowAll (program_at d) d.frame d.view i place codes → LacksWord (program_at e) e.frame e.view i codes) → (r : Result (Option (List ℕ)) CircFault) → IsErr r × IsErrAnd r (λ x. x ≡ CellsFull) → RaisesSet d e place a b r
      set_full full r h = record {
        on = on;
        answer = λ i may.
            subst (λ (x : Result (Option (List ℕ)) CircFault). AnswersSet (program_at d) d.frame e.view i a b x) (sym (err_is r CellsFull h))
            (rest_lacks a b m made (program_at d) d.frame e.view i (subst (λ (x : Program × (Frame × List ℕ)). LacksWord x.0 x.1.0 e.view i x.1.1) (λ j. (program_on d e on j, (on.cells j, is j))) (full i (set_may i may))));
        claims = set_claims;
      }

      pub set_late : (r : Result (Option (List ℕ)) CircFault) → IsErr r × IsErrAnd r (λ x. x ≡ Memory) → RaisesSet d e place a b r
      set_late r h = record {
        on = on;
        answer = λ i may. subst (λ (x : Result (Option (List ℕ)) CircFault). AnswersSet (program_at d) d.frame e.view i a b x) (sym (err_is r Memory h)) tt;
        claims = set_claims;
      }

      pub set_more : ((i : Instance) → MayShowAll (program_at d) d.frame d.view i place codes → ShowsAll (program_at e) e.view i codes) → (both : List ℕ) → AreMade (λ x y. x || y) a b both → (first : ℕ) → slice_get codes 0 ≡ Some first → first < code_bound → RaisesSet d e place a b (Ok (Some both))
      set_more shown both joined first at low = record {
        on = on;
        answer = λ i may.
            let here = rest_in a b m made first (subst (λ (l : List ℕ). Has l first) is (at_has codes 0 first at)) in
            let all = subst (λ (x : Program × List ℕ). ShowsAll x.0 e.view i x.1) (λ j. (program_on d e on j, is j)) (shown i (set_may i may)) in
            record { made = joined; code = first; low = low; in_set = here.0; in_other = here.1; shown = λ c h. ⊎_elim inl (λ x. inr (all c x)) (rest_either a b m made c h) };
        claims = set_claims;
      }
