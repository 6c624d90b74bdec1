use Rattle.std.proofs.Common.{◌∙◌, ap}
use Rattle.rag_io.specs.Tokens.{seen_tokens}
use Rattle.ast_rules.specs.Building.{written}
use Rattle.ast_rules.proofs.Named.{named_rules}
use Rattle.ast_rules.proofs.Rising.{rises}
use Rattle.ast_rules.proofs.Said.{printed_fault, says_rules}
use Rattle.ast_rules.proofs.reading.read_rules.Goals as goal

pub returns-in-Ok-clause-says : goal.returns-in-Ok-clause-says
returns-in-Ok-clause-says c = says_rules c.in-Ok.ensures (c.in_ok-build-in-Ok.ensures ∙ ap (written (seen_tokens c.args.tokens.now)) c.deref.ensures.value)

pub returns-in-Ok-clause-rises : goal.returns-in-Ok-clause-rises
returns-in-Ok-clause-rises c = rises (seen_tokens c.args.tokens.now) _ c.requires (returns-in-Ok-clause-says c)

pub returns-in-Ok-clause-words : goal.returns-in-Ok-clause-words
returns-in-Ok-clause-words c = named_rules (seen_tokens c.args.tokens.now) _ c.requires (returns-in-Ok-clause-says c)

pub syntax_fault-requires : goal.syntax_fault-requires
syntax_fault-requires c = printed_fault (rw c.in-Err-At.field-0-is at c.in-Err-At.ensures).0
