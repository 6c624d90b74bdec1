-- Some bytes have tokens or one bad place, and not both.
use Rattle.std.proofs.Common.{◌≡◌, ℕ, List, sym, ◌∙◌}
use Rattle.rag_io.specs.Tokens.{Lexed, IsTokens, first_place}
use Rattle.rag_io.proofs.Readings.{not_both, one_place}
use Rattle.broken_rules.specs.declared.broken.Broken.{Broken}
use Rattle.broken_rules.specs.declared.rule.Rule.{Rule}
use Rattle.sentences.specs.Scanning.{IsBadPlace}

module _ {bytes : List ℕ} {rule : Rule} where
  pub one_bad_place : {b c : Broken} → IsBadPlace bytes rule b → IsBadPlace bytes rule c → b ≡ c
  one_bad_place a b =
      let place = one_place a.bad b.bad in
      let of = a.of ∙ sym b.of in
      (λ i. record { place = place i; rule = of i })

  pub tokens_or_bad : {ts : List Lexed} {b : Broken} → IsTokens first_place bytes ts → IsBadPlace bytes rule b → ⊥
  tokens_or_bad scanned b = not_both scanned b.bad
