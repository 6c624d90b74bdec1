-- Sentences and faults of grammars that have the same sentences.
use Rattle.std.proofs.Common.{◌≡◌, ℕ, ◌+◌, Option, Some, None, Bool, true, false, List, [], ◌++◌, take, subst}
use Rattle.ll_parser.specs.declared.symbols.Symbol.{Symbol}
use Rattle.ll_parser.specs.Grammar.{Production, Derives, done, start, IsFault, IsSentence}
use Rattle.ll_parser.specs.Sentences.{Makes, Sentence, FirstFault, SameSentences}
use Rattle.ll_parser.proofs.Carrying.{Carrying, translated, derived}
use Rattle.ll_parser.proofs.Including.{Fitting, carried, meant}
use Rattle.ll_parser.proofs.Returning.{Returning, back, walk, runs_big}

-- the value of a computation that is not None
abbrev pub is_there : {A : Type 0} → Option A → Bool
is_there None = false
is_there (Some x) = true

pub value_of : {A : Type 0} (o : Option A) → is_there o ≡ true → A
value_of None e = absurd (cc)
value_of (Some x) e = x

-- a sentence of the plain grammar from one of the factored grammar
pub sentence_back : (P Q : List Production) (n m : ℕ) (before whole : ℕ → List Symbol) → Returning Q P before whole Q
    → walk Q P before whole [] (start m) ≡ Some (start n)
    → (ts : List ℕ) → Sentence Q m ts → Sentence P n ts
sentence_back P Q n m before whole returns ends ts s =
    back Q P before whole returns (runs_big s.runs) [] (start n) ends [] (record { events = []; runs = done })

-- two grammars have the same sentences, where each production of the one fits in the other, and back
pub same_sentences : (P Q : List Production) (n m : ℕ) (choice : ℕ → ℕ → ℕ) (within before whole : ℕ → List Symbol)
    → Fitting Q choice P within → meant Q choice within (start n) ≡ start m
    → Returning Q P before whole Q → walk Q P before whole [] (start m) ≡ Some (start n) → SameSentences P n Q m
same_sentences P Q n m choice within before whole fits starts returns ends = record {
  forth = λ ts s. subst (λ (z : List Symbol). Makes Q z ts) starts (carried Q choice P within fits s.runs);
  back = sentence_back P Q n m before whole returns ends;
}

-- where each production of the one is carried into the other, a sentence has the same events there
pub same_events : (P Q : List Production) (n m : ℕ) (within : ℕ → List Symbol) → Carrying Q P within → translated within (start n) ≡ start m
    → {ts es : List ℕ} → Derives P (start n) ts es → Derives Q (start m) ts es
same_events P Q n m within carries starts {ts} {es} d = subst (λ (z : List Symbol). Derives Q z ts es) starts (derived Q P within carries d)

-- then both have the same sentences; back from the factored grammar, whatever the events
pub sentences_with_events : (P Q : List Production) (n m : ℕ) (within before whole : ℕ → List Symbol)
    → Carrying Q P within → translated within (start n) ≡ start m
    → Returning Q P before whole Q → walk Q P before whole [] (start m) ≡ Some (start n) → SameSentences P n Q m
sentences_with_events P Q n m within before whole carries starts returns ends = record {
  forth = λ ts s. record { events = s.events; runs = same_events P Q n m within carries starts s.runs };
  back = sentence_back P Q n m before whole returns ends;
}

module _ {P Q : List Production} {n m : ℕ} (same : SameSentences P n Q m) where
  -- what is a sentence with some events in the one is a sentence of the other
  pub sentence_there : {ts es : List ℕ} → IsSentence Q m ts es → Sentence P n ts
  sentence_there {ts} {es} s = same.back ts (record { events = es; runs = s.runs })

  -- and the fault stands at the same token
  pub fault_there : {ts : List ℕ} {i : ℕ} → IsFault Q m ts i → FirstFault P n ts i
  fault_there {ts} {i} fault = record {
    inside = fault.inside;
    before = record { rest = fault.before.rest; sentence = same.back (take i ts ++ fault.before.rest) (record { events = fault.before.events; runs = fault.before.runs }) };
    here = λ b. let s = same.forth (take (i + 1) ts ++ b.rest) b.sentence in fault.here b.rest s.events s.runs;
  }
