use Rattle.std.proofs.Common.{◌≡◌, ◌++◌, ◌*◌, ◌%◌, ◌^◌, OnOk, rules}
use mir.Syntax.{w64}
use Rattle.std.proofs.Math.Facts.{Fits-lt-pow}
use Rattle.std.specs.Int.{trailing_zeros}
use Rattle.std.specs.Int.Bits.{bit_xor}
use Rattle.code_sets.specs.Words.{codes_of_word}
use Rattle.code_sets.proofs.Bits.{push_all, push_fewer, push_next}
use Rattle.code_sets.proofs.Success.{if_ok, on_ok}
use Rattle.code_sets.proofs.codes.push_codes.Goals as goal

pub loop-rest-smaller : goal.loop-rest-smaller
loop-rest-smaller c = push_fewer c.args.word c.loop-rest.rest c.loop-rest-test.true (Fits-lt-pow {w = w64} {n = c.loop-rest.rest} c.loop-rest.auto.rest-fits)

pub loop-rest-preserved : goal.loop-rest-preserved
loop-rest-preserved c =
    let next : OnOk c.push.result
    (c.push.new.self.items ++ codes_of_word c.args.word (bit_xor c.loop-rest.rest (1 * 2 ^ trailing_zeros w64 c.loop-rest.rest % 2 ^ 64)) ≡ c.args.list.now.items ++ codes_of_word c.args.word c.args.bits)
    = on_ok c.push.result
    (λ pushed. push_next c.loop-rest.list.items c.push.new.self.items (c.args.list.now.items ++ codes_of_word c.args.word c.args.bits) c.args.word c.loop-rest.rest c.loop-rest-test.true (Fits-lt-pow {w = w64} {n = c.loop-rest.rest} c.loop-rest.auto.rest-fits) pushed c.loop-rest.invariant)
    (if_ok _ _ c.push.result c.push.ensures.items) in
    search rules

pub returns : goal.returns
returns c = push_all c.loop-rest.list.items _ c.args.word c.loop-rest.rest c.loop-rest-test.false c.loop-rest.invariant
