-- Single steps of reading events.
use Rattle.std.proofs.Common.{◌≡◌, ℕ, ◌+◌, ◌==◌, true, false, List, [], ◌∷◌, ◌++◌, length, Some, None, inl, inr, refl, sym, ap, subst, ◌∙◌, slice_get}
use Rattle.std.proofs.Common.{if◌then◌else◌}
use Rattle.std.specs.Option.{option_and_then, option_map}
use Rattle.std.proofs.lemmas.Bool.{eqb-true, or_cases}
use Rattle.std.proofs.lemmas.List.{length-append}
use Rattle.ll_parser.specs.Grammar.{shift}
use Rattle.rag_io.specs.Tokens.{Lexed}
use Rattle.jrag_syntax.specs.declared.classes.Start.{Start}
use Rattle.jrag_reader.specs.Forms.{Form, forms}
use Rattle.jrag_reader.specs.Making.{make}
use Rattle.jrag_reader.specs.Parts.{Part, Token}
use Rattle.jrag_reader.specs.Running.{Progress, step, run, shifted, acted}
use Rattle.jrag_reader.specs.Saying.{IsAmong}
use Rattle.token_texts.specs.Texts.{text_code}
use Rattle.jrag_reader.proofs.Sorted.{marks}

-- behind some tokens
abbrev pub behind : List Lexed → List Part → Progress
behind before parts = record { at = length before; parts = parts }

get_behind : (before : List Lexed) (t : Lexed) (rest : List Lexed) → slice_get (before ++ t ∷ rest) (length before) ≡ Some t
get_behind [] t rest = refl
get_behind (x ∷ before) t rest = get_behind before t rest

-- no form is of the action that has the number of a token's event
not_shift : {f : Form} (a : ℕ) → IsAmong f (forms a) → (a == shift) ≡ false
not_shift {f} a i = elim (a == shift) as (λ b. (a == shift) ≡ b → b ≡ false) [
  | true ↦ λ e. let n : IsAmong f [] = subst (λ z. IsAmong f (forms z)) (eqb-true a shift e) i in elim n [ ]
  | false ↦ λ e. refl
] refl

module _ (start : Start) (texts : List (List ℕ)) (ts : List Lexed) where
  pub run_append : (p : Progress) (fs gs : List ℕ) → run start texts ts p (fs ++ gs) ≡ option_and_then (λ q. run start texts ts q gs) (run start texts ts p fs)
  run_append p [] gs = refl
  run_append p (f ∷ fs) gs = elim (step start texts ts p f)
      as (λ o. option_and_then (λ q. run start texts ts q (fs ++ gs)) o
      ≡ option_and_then (λ q. run start texts ts q gs) (option_and_then (λ q. run start texts ts q fs) o)) [
        | None ↦ refl
        | (Some q) ↦ run_append q fs gs
      ]

  -- a step, and what comes behind it
  pub go_on : (p q : Progress) (e : ℕ) (es : List ℕ) → step start texts ts p e ≡ Some q → run start texts ts p (e ∷ es) ≡ run start texts ts q es
  go_on p q e es h = ap (λ o. option_and_then (λ x. run start texts ts x es) o) h

  pub go_far : (p q : Progress) (fs gs : List ℕ) → run start texts ts p fs ≡ Some q → run start texts ts p (fs ++ gs) ≡ run start texts ts q gs
  go_far p q fs gs h = run_append p fs gs ∙ ap (λ o. option_and_then (λ x. run start texts ts x gs) o) h

  pub token_step : (before : List Lexed) (t : Lexed) (rest : List Lexed) (parts : List Part) → ts ≡ before ++ t ∷ rest
      → step start texts ts (behind before parts) shift ≡ Some (behind (before ++ t ∷ []) (Token t (text_code texts t) ∷ parts))
  token_step before t rest parts e =
      let h : slice_get ts (length before) ≡ Some t = ap (λ z. slice_get z (length before)) e ∙ get_behind before t rest in
      ap (λ o. option_map (λ x. record { at = length before + 1; parts = Token x (text_code texts x) ∷ parts }) o) h
      ∙ ap (λ n. Some (record { at = n; parts = Token t (text_code texts t) ∷ parts })) (sym (length-append before (t ∷ [])))

  -- of an action that makes nothing
  pub mark_step : (a : ℕ) → marks a ≡ true → (p : Progress) → step start texts ts p a ≡ Some p
  mark_step a e p = elim (or_cases (a == 1) (a == 2) e) [
    | inl h ↦ subst (λ z. step start texts ts p z ≡ Some p) (sym (eqb-true a 1 h)) refl
    | inr h ↦ subst (λ z. step start texts ts p z ≡ Some p) (sym (eqb-true a 2 h)) refl
  ]

  -- of one that makes a part
  pub act_step : (a : ℕ) (f : Form) → IsAmong f (forms a) → (p : Progress) (parts : List Part) → make start a p.parts ≡ Some parts
      → step start texts ts p a ≡ Some (record { at = p.at; parts = parts })
  act_step a f i p parts h =
      ap (λ b. if b then shifted texts ts p else acted start a p) (not_shift a i)
      ∙ ap (λ o. option_map (λ x. record { at = p.at; parts = x }) o) h
