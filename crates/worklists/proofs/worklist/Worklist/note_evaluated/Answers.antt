use Rattle.std.proofs.Common.{refl}
use Rattle.worklists.proofs.Marks.{read_at}
use Rattle.worklists.proofs.Noting.{fresh_past, readers_kept}
use Rattle.worklists.proofs.worklist.Worklist.note_evaluated.Goals as goal

pub returns-in-Some-clause-readers : goal.returns-in-Some-clause-readers
returns-in-Some-clause-readers c =
    readers_kept c.args.self.now _ c.args.number _ c.in-Some.noted.now (read_at c.args.self.now.noted.items c.args.self.now.noted.items c.args.number c.in-Some.noted.now refl c.in-Some.ensures.item.0 c.in-Some.ensures.item.1) refl (record { has = λ k h. h })

pub returns-in_default-clause-evaluated : goal.returns-in_default-clause-evaluated
returns-in_default-clause-evaluated c = fresh_past c.args.self.now c.args.number c.in_default.ensures.item.3
