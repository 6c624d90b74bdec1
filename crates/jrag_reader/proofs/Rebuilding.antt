-- Events that build parts: read over some tokens, they put these parts on a stack.
use Rattle.std.proofs.Common.{◌≡◌, ℕ, ◌+◌, ◌==◌, false, List, [], ◌∷◌, ◌++◌, if◌then◌else◌, length, length-append, append_assoc, Option, Some, None, slice_get, refl, sym, ap, ◌∙◌, arith}
use Rattle.std.specs.Option.{option_and_then, option_map}
use Rattle.ll_parser.specs.Grammar.{shift}
use Rattle.rag_io.specs.Tokens.{Lexed}
use Rattle.jrag_syntax.specs.declared.classes.Start.{Start}
use Rattle.jrag_reader.specs.Making.{make}
use Rattle.jrag_reader.specs.Parts.{Part, Token}
use Rattle.jrag_reader.specs.Running.{Progress, shifted, acted, step, run}
use Rattle.token_texts.specs.Texts.{text_code}

pub token_at : (before behind : List Lexed) (t : Lexed) → slice_get (before ++ t ∷ behind) (length before) ≡ Some t
token_at [] behind t = refl
token_at (u ∷ before) behind t = token_at before behind t

-- the parts of a whole run, with others below
abbrev pub put : ℕ → List Part → Progress
put at parts = record { at = at; parts = parts }

module _ (start : Start) (texts : List (List ℕ)) where
  abbrev pub Builds : List Lexed → List ℕ → List Part → Type 0
  Builds ts es parts = (all before behind : List Lexed) (below : List Part) (at : ℕ) → all ≡ before ++ (ts ++ behind) → at ≡ length before
      → run start texts all (put at below) es ≡ Some (put (at + length ts) (parts ++ below))

  run_append : (all : List Lexed) (p : Progress) (es fs : List ℕ)
      → run start texts all p (es ++ fs) ≡ option_and_then (λ q. run start texts all q fs) (run start texts all p es)
  run_append all p [] fs = refl
  run_append all p (e ∷ es) fs = elim (step start texts all p e) as (λ o. option_and_then (λ q. run start texts all q (es ++ fs)) o
      ≡ option_and_then (λ q. run start texts all q fs) (option_and_then (λ q. run start texts all q es) o)) [
        | None ↦ refl
        | (Some q) ↦ run_append all q es fs
      ]

  pub builds_none : Builds [] [] []
  builds_none all before behind below at e h = let k : at ≡ at + 0 = omega arith in ap (λ n. Some (put n below)) k

  pub builds_token : (t : Lexed) → Builds (t ∷ []) (shift ∷ []) (Token t (text_code texts t) ∷ [])
  builds_token t all before behind below at e h =
      let k : slice_get all at ≡ Some t = ap (λ ts. slice_get ts at) e ∙ ap (λ n. slice_get (before ++ t ∷ behind) n) h ∙ token_at before behind t in
      let read = λ (u : Lexed). put (at + 1) (Token u (text_code texts u) ∷ below) in
      ap (λ (o : Option Lexed). option_and_then (λ q. run start texts all q []) (option_map read o)) k

  pub builds_join : (us vs : List Lexed) (es fs : List ℕ) (parts more : List Part)
      → Builds us es parts → Builds vs fs more → Builds (us ++ vs) (es ++ fs) (more ++ parts)
  builds_join us vs es fs parts more f g all before behind below at e h =
      let e1 : all ≡ before ++ (us ++ (vs ++ behind)) = e ∙ ap (λ z. before ++ z) (append_assoc us vs behind) in
      let first = f all before (vs ++ behind) below at e1 h in
      let e2 : all ≡ (before ++ us) ++ (vs ++ behind) = e1 ∙ sym (append_assoc before us (vs ++ behind)) in
      let lengths = length-append before us in
      let h2 : at + length us ≡ length (before ++ us) = omega (arith, h, lengths) in
      let second = g all (before ++ us) behind (parts ++ below) (at + length us) e2 h2 in
      let sums = length-append us vs in
      let k : (at + length us) + length vs ≡ at + length (us ++ vs) = omega (arith, sums) in
      run_append all (put at below) es fs ∙ ap (option_and_then (λ q. run start texts all q fs)) first ∙ second
      ∙ ap (λ n. Some (put n (more ++ (parts ++ below)))) k ∙ ap (λ z. Some (put (at + length (us ++ vs)) z)) (sym (append_assoc more parts below))

  one_act : (all : List Lexed) (q : Progress) (a : ℕ) (parts : List Part) → (a == shift) ≡ false → make start a q.parts ≡ Some parts
      → step start texts all q a ≡ Some (put q.at parts)
  one_act all q a parts other makes =
      ap (λ b. if b then shifted texts all q else acted start a q) other ∙ ap (option_map (λ z. put q.at z)) makes

  pub builds_act : (ts : List Lexed) (es : List ℕ) (parts : List Part) (p : List Part) (a : ℕ) → (a == shift) ≡ false
      → ((below : List Part) → make start a (parts ++ below) ≡ Some (p ++ below)) → Builds ts es parts → Builds ts (es ++ a ∷ []) p
  builds_act ts es parts p a other makes f all before behind below at e h =
      let first = f all before behind below at e h in
      let q = put (at + length ts) (parts ++ below) in
      let here : step start texts all q a ≡ Some (put (at + length ts) (p ++ below)) = one_act all q a (p ++ below) other (makes below) in
      run_append all (put at below) es (a ∷ []) ∙ ap (option_and_then (λ r. run start texts all r (a ∷ []))) first
      ∙ ap (option_and_then (λ r. run start texts all r [])) here

  -- the beginning and the end of an outermost expression leave the parts alone
  pub builds_begin : (ts : List Lexed) (es : List ℕ) (parts : List Part) → Builds ts es parts → Builds ts (1 ∷ es) parts
  builds_begin ts es parts f all before behind below at e h = f all before behind below at e h

  pub builds_end : (ts : List Lexed) (es : List ℕ) (parts : List Part) → Builds ts es parts → Builds ts (es ++ 2 ∷ []) parts
  builds_end ts es parts f = builds_act ts es parts parts 2 refl (λ below. refl) f
