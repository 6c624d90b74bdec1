use Rattle.std.proofs.Common.{rules, arith}
use Rattle.token_texts.proofs.Pooling.{none_left, pools_codes, pools_noted, pools_turn}
use Rattle.token_texts.proofs.Quoted.{quoted_at}
use Rattle.token_texts.proofs.texts.pool_texts.Goals as goal

pub pool_token-requires : goal.pool_token-requires
pool_token-requires c = quoted_at c.args.tokens.now c.loop-token.token-index _ c.requires (omega arith)

pub loop-token-preserved : goal.loop-token-preserved
loop-token-preserved c =
    pools_turn c.args.tokens.now c.loop-token.token-index _ c.in_ok-code.code (omega arith) c.loop-token.invariant
    c.in_ok-code.ensures.code c.in_ok-code.ensures.pooled c.in_ok-code.ensures.noted
    c.pool_token.ensures.extends (search rules)

pub returns-clause-codes : goal.returns-clause-codes
returns-clause-codes c = pools_codes (none_left c.args.tokens.now c.loop-token.token-index (omega arith) c.loop-token.invariant)

pub returns-clause-noted : goal.returns-clause-noted
returns-clause-noted c = pools_noted (none_left c.args.tokens.now c.loop-token.token-index (omega arith) c.loop-token.invariant)
