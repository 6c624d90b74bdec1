-- From step to step of a run.
use Rattle.std.proofs.Common.{◌≡◌, ◌<◌, ℕ, ◌+◌, ◌==◌, false, List, ◌∷◌, drop, get_or, length, Option, Some, None, Result, Ok, Err, refl, sym, ap, subst, ◌∙◌, if◌then◌else◌}
use Rattle.std.specs.Option.{option_and_then, option_map}
use Rattle.std.proofs.lemmas.List.{drop_more}
use Rattle.ll_parser.specs.Grammar.{shift}
use Rattle.rag_io.specs.Tokens.{Lexed}
use Rattle.jrag_syntax.specs.declared.classes.Start.{Start}
use Rattle.jrag_reader.specs.Making.{make}
use Rattle.jrag_reader.specs.Parts.{Part}
use Rattle.jrag_reader.specs.Running.{Progress, step, run, shifted, acted}
use Rattle.jrag_reader.specs.Stack.{Makes}
use Rattle.jrag_reader.specs.declared.parts.Unbuilt.{Unbuilt}
use Rattle.jrag_reader.specs.declared.parts.Unbuilt.TheVariants.{Misfit, Memory}
use Rattle.jrag_reader.proofs.Steps.{go_on}

-- what is made, as a part of something else
mapped : {A B : Type 0} (f : A → B) (o : Option A) (r : Result (Unit {0}) Unbuilt) (new : A) → Makes o r new → Makes (option_map f o) r (f new)
mapped f None (Ok u) new made = made
mapped f None (Err u) new made = tt
mapped f (Some a) (Ok u) new made = ap f made
mapped f (Some a) (Err Misfit) new made = made
mapped f (Some a) (Err Memory) new made = tt

made_is : {A : Type 0} (o : Option A) (u : Unit {0}) (new : A) → Makes o (Ok u) new → o ≡ Some new
made_is None u new made = elim made [ ]
made_is (Some a) u new made = ap Some (sym made)

misfit_is : {A : Type 0} (o : Option A) (new : A) → Makes o (Err Misfit) new → o ≡ None
misfit_is None new made = refl
misfit_is (Some a) new made = elim made [ ]

module _ (start : Start) (texts : List (List ℕ)) (ts : List Lexed) where
  -- an action is a step
  pub acting : (p : Progress) (e : ℕ) (r : Result (Unit {0}) Unbuilt) (parts : List Part) → (e == shift) ≡ false → Makes (make start e p.parts) r parts
      → Makes (step start texts ts p e) r (record { at = p.at; parts = parts })
  acting p e r parts other made =
      let P : Option Progress → Type 0 = λ o. Makes o r (record { at = p.at; parts = parts }) in
      subst P (sym (ap (λ b. if b then shifted texts ts p else acted start e p) other))
      (mapped (λ z. record { at = p.at; parts = z }) (make start e p.parts) r parts made)

  -- the next of some events
  pub going_on : (p q : Progress) (es : List ℕ) (i : ℕ) (u : Unit {0}) → i < length es → Makes (step start texts ts p (get_or es i 0)) (Ok u) q
      → run start texts ts p (drop i es) ≡ run start texts ts q (drop (i + 1) es)
  going_on p q es i u within made =
      ap (run start texts ts p) (drop_more es i 0 within)
      ∙ go_on start texts ts p q (get_or es i 0) (drop (i + 1) es) (made_is (step start texts ts p (get_or es i 0)) u q made)

  -- events that lead somewhere don't get stuck at the next one
  pub never_stuck : (p q to : Progress) (es : List ℕ) (i : ℕ) → i < length es → run start texts ts p (drop i es) ≡ Some to
      → Makes (step start texts ts p (get_or es i 0)) (Err Misfit) q → ⊥
  never_stuck p q to es i within runs made =
      let stuck : run start texts ts p (get_or es i 0 ∷ drop (i + 1) es) ≡ None =
      ap (λ o. option_and_then (λ x. run start texts ts x (drop (i + 1) es)) o) (misfit_is (step start texts ts p (get_or es i 0)) q made) in
      let none : run start texts ts p (drop i es) ≡ None = ap (run start texts ts p) (drop_more es i 0 within) ∙ stuck in
      absurd (cc)
