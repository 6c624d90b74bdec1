use Rattle.std.proofs.Common.{sym, subst}
use Rattle.equation_law.specs.Systems.{program_of}
use Rattle.memo_cells.specs.declared.view.Frame.{Frame}
use Rattle.memo_cells.specs.Working.{ClaimsKeysFor, Held}
use Rattle.circular_eval.specs.Local.{IsLocalByEach, IsStillLocal}
use Rattle.caller_pass.proofs.turns.go_on.Goals as goal

pub note_sealed-requires-clause-local : goal.note_sealed-requires-clause-local
note_sealed-requires-clause-local g c =
    let e = c.advance-turn.new.work in
    subst (λ (f : Frame). IsLocalByEach (program_of f.system.value) f e.view c.advance-turn.new.local) (sym c.advance-turn.ensures.on.cells) c.advance-turn.ensures.local

pub returns-clause-local : goal.returns-clause-local
returns-clause-local g c = (subst (λ (e : Held). IsStillLocal c.args.desk.now e c.advance-turn.new.local) (sym c.note_sealed.ensures) c.advance-turn.ensures.local, c.advance-turn.ensures.start)

pub returns-clause-claims : goal.returns-clause-claims
returns-clause-claims g c = subst (λ (e : Held). ClaimsKeysFor c.args.desk.now e c.args.local.now.start) (sym c.note_sealed.ensures) c.advance-turn.ensures.claims
