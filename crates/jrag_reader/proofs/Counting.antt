-- How many tokens some events are of: those of a sentence are of all its tokens, and those before a fault of the tokens before it.
use Rattle.std.proofs.Common.{◌≡◌, ℕ, zero, suc, ◌+◌, ◌≤◌, ◌==◌, Bool, true, false, not, ◌&&◌, cond, List, [], ◌∷◌, ◌++◌, length, take, count_by, Some, refl, ap, subst, ◌∙◌, arith}
use Rattle.std.proofs.lemmas.Bool.{and_parts}
use Rattle.std.proofs.lemmas.List.{length-append, length-map, length-take-le}
use Rattle.std.proofs.lemmas.List.Sums.{sum_by-append, sum_by-cons}
use Rattle.broken_rules.specs.declared.broken.Broken.{Broken}
use Rattle.ll_parser.specs.declared.symbols.Symbol.{Symbol}
use Rattle.ll_parser.specs.declared.symbols.Symbol.TheVariants.{Terminal, Nonterminal, Action}
use Rattle.ll_parser.specs.Grammar.{Production, nth, shift, Derives, done, token, act, rule}
use Rattle.rag_io.specs.Tokens.{Lexed}
use Rattle.jrag_syntax.specs.JragGrammar.{jrag_grammar}
use Rattle.jrag_syntax.specs.Reading.{classes_of, SaysEvents, StopsWith}
use Rattle.jrag_syntax.specs.Tokens.{token_class}
use Rattle.jrag_syntax.specs.declared.classes.Start.{Start}
use Rattle.jrag_syntax.proofs.JragSentences.{printed_events}

-- how many tokens some events are of
abbrev pub tokens_in : List ℕ → ℕ
tokens_in es = count_by (λ e. e == shift) es

pub tokens_append : (es fs : List ℕ) → tokens_in (es ++ fs) ≡ tokens_in es + tokens_in fs
tokens_append es fs = sum_by-append (λ (e : ℕ). cond (e == shift) 1 0) es fs

pub tokens_more : (e : ℕ) (es : List ℕ) → tokens_in (e ∷ es) ≡ cond (e == shift) 1 0 + tokens_in es
tokens_more e es = sum_by-cons (λ (e : ℕ). cond (e == shift) 1 0) e es

-- no action has the event of a token
abbrev apart : List Symbol → Bool
apart [] = true
apart (Terminal c ∷ s) = apart s
apart (Action a ∷ s) = not (a == shift) && apart s
apart (Nonterminal n ∷ s) = apart s

abbrev all_apart : List Production → Bool
all_apart [] = true
all_apart (r ∷ rs) = apart r.body && all_apart rs

apart_append : (s others : List Symbol) → apart s ≡ true → apart others ≡ true → apart (s ++ others) ≡ true
apart_append [] others h k = k
apart_append (Terminal c ∷ s) others h k = apart_append s others h k
apart_append (Action a ∷ s) others h k =
    let both = and_parts (not (a == shift)) (apart s) h in
    (λ i. both.0 i && apart_append s others both.1 k i)
apart_append (Nonterminal n ∷ s) others h k = apart_append s others h k

body_apart : (P : List Production) → all_apart P ≡ true → (p : ℕ) (r : Production) → nth P p ≡ Some r → apart r.body ≡ true
body_apart [] h p r is = absurd (cc)
body_apart (x ∷ P) h zero r is = let same : x ≡ r = cc in subst (λ (z : Production). apart z.body ≡ true) same (and_parts (apart x.body) (all_apart P) h).0
body_apart (x ∷ P) h (suc p) r is = body_apart P (and_parts (apart x.body) (all_apart P) h).1 p r is

one_event : (a : ℕ) → not (a == shift) ≡ true → (es : List ℕ) → tokens_in (a ∷ es) ≡ tokens_in es
one_event a h es = tokens_more a es ∙ by (a == shift) h
  where
    by : (b : Bool) → not b ≡ true → cond b 1 0 + tokens_in es ≡ tokens_in es
    by true k = absurd (cc)
    by false k = omega arith

not_less : (e : ℕ) (es : List ℕ) → tokens_in es ≤ tokens_in (e ∷ es)
not_less e es = omega (arith, tokens_more e es)

-- each token of a derivation has an event
least : {P : List Production} {s : List Symbol} {ts es : List ℕ} → Derives P s ts es → length ts ≤ tokens_in es
least done = omega arith
least (token {es = es} d) = omega (arith, least d, tokens_more shift es)
least (act {a} {es = es} d) = omega (arith, least d, not_less a es)
least (rule p r h e d) = least d

module _ (P : List Production) (fits : all_apart P ≡ true) where
  -- and only tokens have such an event
  counted : {s : List Symbol} {ts es : List ℕ} → Derives P s ts es → apart s ≡ true → tokens_in es ≡ length ts
  counted done h = refl
  counted (token {es = es} d) h = omega (arith, counted d h, tokens_more shift es)
  counted (act {a} {s} {es = es} d) h = let both = and_parts (not (a == shift)) (apart s) h in one_event a both.0 es ∙ counted d both.1
  counted (rule {n} {s} p r is of d) h = counted d (apart_append r.body s (body_apart P fits p r is) h)

module _ (start : Start) (ts : List Lexed) where
  -- the events of a sentence are of all tokens
  pub sentence_count : (es : List ℕ) → SaysEvents start ts es → tokens_in es ≡ length ts
  sentence_count es says = counted jrag_grammar refl says.reading.runs refl ∙ length-map ts (token_class start)

  -- those before a fault are of the tokens before it
  pub stop_count : (b : Broken) (es : List ℕ) → (stops : StopsWith start ts b es) → tokens_in es ≡ stops.fault.number
  stop_count b es stops =
      let us = take stops.fault.number (classes_of start ts) in
      let before = stops.fault.fault.before in
      let runs = printed_events start before.sentence.runs in
      let after = stops.leading.each before.rest before.sentence.events runs in
      let all = counted jrag_grammar refl runs refl in
      let parts = ap tokens_in after.2 ∙ tokens_append es after.0 in
      let inside = stops.fault.fault.inside in
      let long = length-take-le stops.fault.number (classes_of start ts) (omega (arith, inside)) in
      omega (arith, stops.leading.read, all, parts, least after.1, length-append us before.rest, long)
