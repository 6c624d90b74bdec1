use Rattle.std.proofs.Common.{rules, sym, subst}
use Rattle.memo_cells.proofs.Holding.{goes_then}
use Rattle.memo_cells.proofs.Ways.{on_err}
use Rattle.memo_cells.proofs.SetWords.{RaisesFirst, bits_some, both_on, claims_now, claims_words, lacks_now, lacks_word, raise_may, raised_all, raises_next}
use Rattle.memo_cells.proofs.set_raising.raise_codes.Goals as goal

pub raise-requires-clause-may : goal.raise-requires-clause-may
raise-requires-clause-may g c =
    raise_may (g.W.Words.held c.args.work.now) (g.W.Words.held c.loop-code.work) c.args.slot.0 c.args.codes.now c.loop-code.rest.now c.loop-code.invariant c.in-Some.code.now c.first_word-bits.result.1 c.first_word-bits.result.0 (search rules) c.first_word-bits.ensures c.requires.may.0 c.requires.may.1

pub raise-requires-clause-some : goal.raise-requires-clause-some
raise-requires-clause-some g c = bits_some c.args.codes.now c.loop-code.rest.now c.loop-code.invariant.part c.in-Some.code.now c.first_word-bits.result.1 c.first_word-bits.result.0 (search rules) c.first_word-bits.ensures

pub returns-in_err-raise-clause-full : goal.returns-in_err-raise-clause-full
returns-in_err-raise-clause-full g c =
    on_err c.from_residual.result
    (λ i all.
    lacks_now (g.W.Words.held c.args.work.now) (g.W.Words.held c.raise.new.self)
    (both_on (g.W.Words.held c.args.work.now) (g.W.Words.held c.loop-code.work) (g.W.Words.held c.raise.new.self) c.args.slot.0 c.args.codes.now c.loop-code.rest.now c.loop-code.invariant c.raise.ensures.on c.in-Some.code.now c.first_word-bits.result.1 c.first_word-bits.result.0 (search rules) c.type_inv.codes c.first_word-bits.ensures)
    i c.args.codes.now
    (lacks_word (g.W.Words.held c.args.work.now) (g.W.Words.held c.loop-code.work) (g.W.Words.held c.raise.new.self) c.args.slot.0 c.args.codes.now c.loop-code.rest.now c.loop-code.invariant c.raise.ensures.on c.in-Some.code.now c.first_word-bits.result.1 c.first_word-bits.result.0 (search rules) c.type_inv.codes c.first_word-bits.ensures i all c.raise.ensures.claims c.in_err-raise.ensures.full))

pub returns-in_err-raise-clause-claims : goal.returns-in_err-raise-clause-claims
returns-in_err-raise-clause-claims g c = λ i all.
    claims_now (g.W.Words.held c.args.work.now) (g.W.Words.held c.raise.new.self)
    (both_on (g.W.Words.held c.args.work.now) (g.W.Words.held c.loop-code.work) (g.W.Words.held c.raise.new.self) c.args.slot.0 c.args.codes.now c.loop-code.rest.now c.loop-code.invariant c.raise.ensures.on c.in-Some.code.now c.first_word-bits.result.1 c.first_word-bits.result.0 (search rules) c.type_inv.codes c.first_word-bits.ensures)
    i c.args.codes.now
    (claims_words (g.W.Words.held c.args.work.now) (g.W.Words.held c.loop-code.work) (g.W.Words.held c.raise.new.self) c.args.slot.0 c.args.codes.now c.loop-code.rest.now c.loop-code.invariant c.raise.ensures.on c.in-Some.code.now c.first_word-bits.result.1 c.first_word-bits.result.0 (search rules) c.type_inv.codes c.first_word-bits.ensures i all c.raise.ensures.claims)

pub loop-code-preserved : goal.loop-code-preserved
loop-code-preserved g c =
    subst (RaisesFirst (g.W.Words.held c.args.work.now) (g.W.Words.held c.raise.new.self) c.args.slot.0 c.args.codes.now) (sym c.split_at.ensures.back)
    (raises_next (g.W.Words.held c.args.work.now) (g.W.Words.held c.loop-code.work) (g.W.Words.held c.raise.new.self) c.args.slot.0 c.args.codes.now c.loop-code.rest.now c.loop-code.invariant c.raise.ensures.on c.in-Some.code.now c.first_word-bits.result.1 c.first_word-bits.result.0 (search rules) c.type_inv.codes c.first_word-bits.ensures c.in_ok-raise.field-0 c.in_ok-raise.ensures.raised c.raise.ensures.claims)

pub returns-clause-shown : goal.returns-clause-shown
returns-clause-shown g c = raised_all (g.W.Words.held c.args.work.now) (g.W.Words.held c.loop-code.work) c.args.slot.0 c.args.codes.now c.loop-code.rest.now c.loop-code.invariant (search rules)

pub returns-clause-claims : goal.returns-clause-claims
returns-clause-claims g c = λ i all. claims_now (g.W.Words.held c.args.work.now) (g.W.Words.held c.loop-code.work) c.loop-code.invariant.on i c.args.codes.now (c.loop-code.invariant.claims i all)

pub returns-in_err-raise-clause-on : goal.returns-in_err-raise-clause-on
returns-in_err-raise-clause-on g c = goes_then (g.W.Words.held c.args.work.now) (g.W.Words.held c.loop-code.work) (g.W.Words.held c.raise.new.self) c.loop-code.invariant.on c.raise.ensures.on
