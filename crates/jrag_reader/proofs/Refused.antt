-- What is told of tokens with a fault of the syntax, and of a sentence that is too long.
use Rattle.std.proofs.Common.{◌≡◌, ℕ, ◌<◌, List, [], ◌∷◌, length, take, Option, Some, None, Ok, Err, refl, sym, ap, subst, ◌∙◌, arith}
use Rattle.std.proofs.lemmas.List.{length-map, take-map}
use Rattle.broken_rules.proofs.Answering.{one_phase}
use Rattle.broken_rules.proofs.Noting.{notes_then}
use Rattle.broken_rules.specs.Answers.{Answers, answer_of}
use Rattle.broken_rules.specs.Notes.{Notes, at}
use Rattle.broken_rules.specs.declared.broken.Broken.{Broken}
use Rattle.broken_rules.specs.declared.broken.ReadFault.{ReadFault}
use Rattle.broken_rules.specs.declared.broken.ReadFault.TheVariants as faults
use Rattle.broken_rules.specs.declared.rule.Rule.TheVariants.{J17}
use Rattle.rag_io.specs.Tokens.{Lexed, seen_token, seen_tokens}
use Rattle.rag_io.specs.declared.token.Token as kept_token
use Rattle.token_texts.specs.Texts.{texts_broken}
use Rattle.jrag_syntax.specs.Reading.{SaysEvents, StopsWith}
use Rattle.jrag_syntax.specs.Tokens.{token_class}
use Rattle.jrag_syntax.specs.declared.classes.Start.{Start}
use Rattle.jrag_reader.specs.Answers.{IsRefusal}
use Rattle.aspect_limits.specs.Limits.{limits_broken, long_broken}
use Rattle.jrag_reader.specs.Reading.{IsFirstBroken, stopped, too_many}
use Rattle.jrag_reader.proofs.Counting.{tokens_in, stop_count}

-- what refuses is the first broken rule, if there is one
refused_by : (start : Start) (pool : List (List ℕ)) (ts : List Lexed) (found : Option Broken) (why : ReadFault) → Err why ≡ answer_of found
    → ((b : Broken) → found ≡ Some b → IsFirstBroken start pool ts b) → IsRefusal start pool ts why
refused_by start pool ts None why is first = absurd (cc)
refused_by start pool ts (Some b) why is first =
    let same : why ≡ faults.Broken b = cc in
    subst (IsRefusal start pool ts) (sym same) (first b refl)

module _ (start : Start) (pool : List (List ℕ)) (tokens : List kept_token.Token) (fault : Broken) (es : List ℕ)
    (stops : StopsWith start (seen_tokens tokens) fault es) (count : ℕ) (counts : count ≡ tokens_in es) where
  counted : count ≡ stops.fault.number
  counted = counts ∙ stop_count start (seen_tokens tokens) fault es stops

  -- the fault stands at one of the tokens
  pub stops_inside : count < length tokens
  stops_inside =
      let inside = stops.fault.fault.inside in
      omega (arith, inside, counted, length-map (seen_tokens tokens) (token_class start), length-map tokens seen_token)

  -- the tokens before the fault
  before : seen_tokens (take count tokens) ≡ take stops.fault.number (seen_tokens tokens)
  before = sym (take-map seen_token count tokens) ∙ ap (λ n. take n (seen_tokens tokens)) counted

  -- what was noted: the fault, and what the tokens before it break
  pub first_refuses : {none one two all : Option Broken} (why : ReadFault) → none ≡ None → Notes (at fault.place fault.rule ∷ []) none one
      → Notes (texts_broken J17 pool (seen_tokens (take count tokens))) one two → Notes (long_broken None (seen_tokens (take count tokens)) es) two all
      → Err why ≡ answer_of all → IsRefusal start pool (seen_tokens tokens) why
  first_refuses {none} {all = all} why begins noted texts long is =
      let front = seen_tokens (take count tokens) in
      let notes : Notes (fault ∷ limits_broken pool front es) none all = notes_then noted (notes_then texts long) in
      refused_by start pool (seen_tokens tokens) all why is
      (λ b found. stopped stops
      (subst (λ us. Answers ((fault ∷ limits_broken pool us es) ∷ []) (Some b)) before
      (one_phase (fault ∷ limits_broken pool front es) begins notes (sym found))))

-- a sentence that is too long
pub long_refuses : (start : Start) (pool : List (List ℕ)) (ts : List Lexed) (es : List ℕ) {none one all : Option Broken} (why : ReadFault)
    → SaysEvents start ts es → none ≡ None → Notes (texts_broken J17 pool ts) none one → Notes (long_broken None ts es) one all
    → Err why ≡ answer_of all → IsRefusal start pool ts why
long_refuses start pool ts es {all = all} why says begins texts long is =
    refused_by start pool ts all why is
    (λ b found. too_many says (one_phase (limits_broken pool ts es) begins (notes_then texts long) (sym found)))

no_answer : (found : Option Broken) → Ok tt ≡ answer_of found → found ≡ None
no_answer None is = refl
no_answer (Some b) is = absurd (cc)

-- one that isn't
pub within_limits : (pool : List (List ℕ)) (ts : List Lexed) (es : List ℕ) {none one all : Option Broken} → none ≡ None
    → Notes (texts_broken J17 pool ts) none one → Notes (long_broken None ts es) one all → Ok tt ≡ answer_of all
    → Answers (limits_broken pool ts es ∷ []) None
within_limits pool ts es {all = all} begins texts long is = one_phase (limits_broken pool ts es) begins (notes_then texts long) (sym (no_answer all is))
