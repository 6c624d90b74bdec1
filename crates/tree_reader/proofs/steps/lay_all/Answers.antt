use Rattle.std.proofs.Common.{◌≡◌, ◌<◌, length, get_or, rules, ◌∙◌, arith}
use Rattle.tree_reader.specs.Steps.{seen_state}
use Rattle.tree_reader.proofs.Telling.{next_taken}
use Rattle.tree_reader.proofs.steps.lay_all.Goals as goal

pub loop-i-preserved : goal.loop-i-preserved
loop-i-preserved c = λ pool e.
    let g = c.args.grammar.now in
    let within : c.loop-i.i < length c.args.tokens.now = omega arith in
    let coded : c.unwrap_or-code.result ≡ get_or c.args.texts.now c.loop-i.i 0 = search rules in
    next_taken c.args.tokens.now c.loop-i.i _ g pool c.args.texts.now c.unwrap_or-code.result c.opens_at-is_opening.result (seen_state g c.loop-i.laying) (seen_state g c.take.new.laying)
    within c.opens_at-is_opening.ensures coded e c.in_ok-take.ensures
    ∙ c.loop-i.invariant pool e
