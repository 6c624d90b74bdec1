use Rattle.std.proofs.Common.{◌+◌, ◌≤◌, List, ◌++◌, length}
use Rattle.rag_io.specs.declared.token.Place.{Place}
use Rattle.rag_io.specs.Tokens.{Lexed, IsTokens, IsFirstBad, first_place, seen_tokens}
use Rattle.rag_io.proofs.scanner.scan.Given as goal

-- what follows from the rest follows from all, with the tokens so far in front
abbrev pub invariant-next : goal.invariant-next
invariant-next l = record {
  tokens : (ts : List Lexed) → IsTokens l.place l.rest ts → IsTokens first_place l.bytes (seen_tokens l.tokens.items ++ ts);
  bad : (q : Place) → IsFirstBad l.place l.rest q → IsFirstBad first_place l.bytes q;
  line : l.place.line + length l.rest ≤ 1 + length l.bytes;
  column : l.place.column + length l.rest ≤ 1 + length l.bytes;
  from_one : 1 ≤ l.place.column;
}

abbrev pub decreases-next : goal.decreases-next
decreases-next l = length l.rest
