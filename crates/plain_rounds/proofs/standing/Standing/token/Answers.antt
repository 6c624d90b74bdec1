use Rattle.std.proofs.Common.{Option, Some, subst, sym, ℕ}
use Rattle.made_trees.specs.Makers.{IsTokenAt, Trees}
use Rattle.plain_rounds.specs.Settings.{naming_at, program_at}
use Rattle.plain_rounds.specs.Standing.{IsTokenIn}
use Rattle.plain_rounds.proofs.TokensTold.{no_value, token_there}
use Rattle.plain_rounds.proofs.standing.Standing.token.Goals as goal

pub returns-in_err-held : goal.returns-in_err-held
returns-in_err-held c = λ ready.
    let s = c.args.self.now in
    subst (λ (o : Option ℕ). IsTokenIn s c.args.node.0 c.args.component o) (sym c.from_residual-in_err-held.ensures)
    (no_value s ready c.args.node.0 c.args.component c.in_ok-maker.maker c.in_ok-maker.field-0-1 c.in_ok-maker.ensures.maker (c.in_err-held.ensures.value (program_at s.setting) (naming_at s.setting)))

pub returns : goal.returns
returns c = λ ready.
    let s = c.args.self.now in
    let p = program_at s.setting in
    subst (λ (o : Option ℕ). IsTokenIn s c.args.node.0 c.args.component o) (sym c.token.ensures)
    (token_there s ready c.args.node.0 c.args.component c.in_ok-maker.maker c.in_ok-maker.field-0-1 c.in_ok-maker.ensures.maker c.in_ok-held.held.now c.in_ok-place.place (c.in_ok-held.ensures.value p (naming_at s.setting)) (c.in_ok-held.ensures.held p ready.are.held)
    (subst (λ (x : Trees). IsTokenAt x c.args.node.0 c.args.component (Some c.in_ok-place.place)) c.maker_of.ensures.kept c.in_ok-place.ensures.token))
