-- Where a component may begin, by what is read of the tokens before it, an optional's sign and the end.
use Rattle.std.proofs.Common.{◌≡◌, ℕ, ◌+◌, ◌<◌, ◌≤◌, Bool, true, false, IsTrue, nat_lt, List, [], ◌∷◌, ◌++◌, length, take, drop, get_or, ◌-◌, append_assoc, refl, ap, sym, subst, ◌∙◌, arith}
use Rattle.std.proofs.Math.Seq.{take-append_seam, get_or-append_seam}
use Rattle.std.proofs.lemmas.Bool.{ltb-true, ltb-false}
use Rattle.std.proofs.lemmas.List.{length-append, take-append-le, take-append-drop}
use Rattle.ll_parser.specs.Grammar.{Derives, start, IsSentence, IsFault}
use Rattle.ast_rules.proofs.AstSentences.{printed_sentences}
use Rattle.ast_rules.specs.AstGrammar.{ast_grammar}
use Rattle.ast_rules.specs.Reading.{BeginsComponent, optional_behind, optional_sign}

module _ (cs us : List ℕ) (is : us ≡ optional_behind cs) where
  pub begins_by_sentence : {es : List ℕ} → IsSentence ast_grammar 0 us es → BeginsComponent cs
  begins_by_sentence {es} s = record { rest = 0 ∷ []; sentence = printed_sentences.back (optional_behind cs) (record { events = es; runs = subst (λ (zs : List ℕ). Derives ast_grammar (start 0) zs es) is s.runs }) }

  front_length : length (cs ++ optional_sign ∷ []) ≡ length cs + 1
  front_length = length-append cs (optional_sign ∷ [])

  module _ (j : ℕ) (fault : IsFault ast_grammar 0 us j) where
    within : j < length cs + 2
    within = omega (arith, fault.inside, ap length is, length-append (cs ++ optional_sign ∷ []) (0 ∷ []), front_length)

    begins_at : length cs < j → BeginsComponent cs
    begins_at lt =
        let last : j ≡ length (cs ++ optional_sign ∷ []) = omega (arith, within, front_length) in
        let front : take j us ≡ cs ++ optional_sign ∷ [] = (λ i. take (last i) (is i)) ∙ take-append_seam (cs ++ optional_sign ∷ []) (0 ∷ []) in
        record {
          rest = fault.before.rest;
          sentence = printed_sentences.back ((cs ++ optional_sign ∷ []) ++ fault.before.rest) (record { events = fault.before.events; runs = subst (λ (zs : List ℕ). Derives ast_grammar (start 0) (zs ++ fault.before.rest) fault.before.events) front fault.before.runs });
        }

    not_before : BeginsComponent cs → j ≤ length cs → ⊥
    not_before b le =
        let front = cs ++ optional_sign ∷ [] in
        let short : j + 1 ≤ length front = omega (arith, le, front_length) in
        let taken : take (j + 1) us ≡ take (j + 1) front = ap (take (j + 1)) is ∙ take-append-le (j + 1) front (0 ∷ []) short in
        let rest = drop (j + 1) front ++ b.rest in
        let same : front ++ b.rest ≡ take (j + 1) us ++ rest
        = ap (λ zs. zs ++ b.rest) (sym (take-append-drop (j + 1) front)) ∙ append_assoc (take (j + 1) front) (drop (j + 1) front) b.rest ∙ ap (λ zs. zs ++ rest) (sym taken) in
        let s = printed_sentences.forth (front ++ b.rest) b.sentence in
        fault.here rest s.events (subst (λ (zs : List ℕ). Derives ast_grammar (start 0) zs s.events) same s.runs)

    decided : (t : Bool) → nat_lt (length cs) j ≡ t → BeginsComponent cs → IsTrue t
    decided true e b = cc
    decided false e b = absurd (not_before b (ltb-false (length cs) j e))

    -- the fault stands behind the sign exactly where a component may begin
    pub begins_by_fault : (IsTrue (nat_lt (length cs) j) → BeginsComponent cs) × (BeginsComponent cs → IsTrue (nat_lt (length cs) j))
    begins_by_fault = (λ yes. begins_at (ltb-true (length cs) j (cc)), λ b. decided (nat_lt (length cs) j) refl b)

-- the end stands last
pub end_behind : (cs us : List ℕ) → us ≡ optional_behind cs → get_or us (length us - 1) 1 ≡ 0
end_behind cs us is =
    let front = cs ++ optional_sign ∷ [] in
    let last : length us - 1 ≡ length front = omega (arith, ap length is, length-append front (0 ∷ [])) in
    (λ i. get_or (is i) (last i) 1) ∙ get_or-append_seam front 0 [] 1

pub some_behind : (cs us : List ℕ) → us ≡ optional_behind cs → 0 < length us
some_behind cs us is = omega (arith, ap length is, length-append (cs ++ optional_sign ∷ []) (0 ∷ []))
