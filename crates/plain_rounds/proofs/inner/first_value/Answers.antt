use Rattle.std.proofs.Common.{◌<◌, arith, length, subst, sym, ◌∙◌}
use Rattle.std.proofs.lemmas.List.Elements.{All-get_or}
use Rattle.plain_rounds.specs.Places.{IsHeld}
use Rattle.plain_rounds.specs.Settings.{program_at}
use Rattle.plain_rounds.proofs.inner.first_value.Goals as goal

pub returns-in_ok-copy-in-Some-clause-held : goal.returns-in_ok-copy-in-Some-clause-held
returns-in_ok-copy-in-Some-clause-held c =
    let p = program_at c.args.setting.now in
    let within : c.args.k < length c.args.settled.now = omega (arith, c.requires.within, c.requires.settled.long) in
    c.in_ok-copy-in-Some.ensures.held p (subst (IsHeld p) (sym c.index-settled-k.is ∙ c.in-Some.is) (All-get_or (IsHeld p) c.args.settled.now c.args.k c.index-settled-k.result within c.requires.settled.held))
