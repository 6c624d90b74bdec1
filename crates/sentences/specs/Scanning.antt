-- What scanning a file answers, whose rule says that tokens stand in it.
use Rattle.std.specs.Prelude.{◌≡◌, ℕ, List, Result, Ok, Err, Vec}
use Rattle.std.specs.declared.alloc.Global.{Global}
use Rattle.broken_rules.specs.declared.broken.Broken.{Broken}
use Rattle.broken_rules.specs.declared.broken.ReadFault.{ReadFault}
use Rattle.broken_rules.specs.declared.broken.ReadFault.TheVariants as faults
use Rattle.broken_rules.specs.declared.rule.Rule.{Rule}
use Rattle.rag_io.specs.Tokens.{IsFirstBad, IsTokens, first_place, seen_tokens}
use Rattle.rag_io.specs.declared.token.Token as kept_token

-- A rule is broken at the first place of some bytes at which neither a token nor white space nor a comment begins.
pub record IsBadPlace (bytes : List ℕ) (rule : Rule) (b : Broken) : Type 0 where
  pub bad : IsFirstBad first_place bytes b.place
  pub of : b.rule ≡ rule

-- the tokens of some bytes, or the rule that a bad place breaks
abbrev pub AnswersTokens : List ℕ → Rule → Result (Vec kept_token.Token Global) ReadFault → Type 0
AnswersTokens bytes rule (Ok tokens) = IsTokens first_place bytes (seen_tokens tokens.items)
AnswersTokens bytes rule (Err (faults.Broken b)) = IsBadPlace bytes rule b
AnswersTokens bytes rule (Err faults.Memory) = Unit {0}
