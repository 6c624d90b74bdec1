-- Some tokens are a sentence or have one first fault, and not both.
use Rattle.std.proofs.Common.{◌≡◌, ℕ, ◌+◌, ◌≤◌, List, ◌++◌, take, drop, inl, inr, ap, sym, ◌∙◌, subst, arith, append_assoc}
use Rattle.std.proofs.lemmas.Bool.{cases_order}
use Rattle.std.proofs.lemmas.List.{take-append-drop, take-take}
use Rattle.ll_parser.specs.Grammar.{Production}
use Rattle.ll_parser.specs.Sentences.{BeginsSentence, FirstFault, Sentence}

module _ (P : List Production) (n : ℕ) (cs : List ℕ) where
  -- the front of what begins a sentence begins it too
  begins_front : (i j : ℕ) → i ≤ j → BeginsSentence P n (take j cs) → BeginsSentence P n (take i cs)
  begins_front i j le begins =
      let front : take i (take j cs) ≡ take i cs = take-take i j cs le in
      let whole : take i cs ++ (drop i (take j cs) ++ begins.rest) ≡ take j cs ++ begins.rest =
      sym (append_assoc (take i cs) (drop i (take j cs)) begins.rest) ∙ ap (λ us. us ++ begins.rest) (ap (λ us. us ++ drop i (take j cs)) (sym front) ∙ take-append-drop i (take j cs)) in
      record { rest = drop i (take j cs) ++ begins.rest; sentence = subst (Sentence P n) (sym whole) begins.sentence }

  -- a sentence has no fault
  pub no_fault : (i : ℕ) → Sentence P n cs → FirstFault P n cs i → ⊥
  no_fault i sentence fault = fault.here (record { rest = drop (i + 1) cs; sentence = subst (Sentence P n) (sym (take-append-drop (i + 1) cs)) sentence })

  -- and other tokens have one first fault
  pub one_first : (i j : ℕ) → FirstFault P n cs i → FirstFault P n cs j → i ≡ j
  one_first i j fault other = elim (cases_order i j) [
    | inl same ↦ same
    | inr apart ↦ elim apart [
      | inl earlier ↦ absurd (fault.here (begins_front (i + 1) j (omega arith) other.before))
      | inr later ↦ absurd (other.here (begins_front (j + 1) i (omega arith) fault.before))
    ]
  ]
