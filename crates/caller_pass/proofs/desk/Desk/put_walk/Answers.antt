use Rattle.std.proofs.Common.{sym, subst}
use Rattle.equation_law.specs.declared.system.System.{System}
use Rattle.equation_law.specs.Systems.{program_of}
use Rattle.memo_cells.specs.Working.{Held, program_at}
use Rattle.collection_attrs.specs.Walks.{IsWalk}
use Rattle.caller_pass.specs.Leaving.{reads_known}
use Rattle.caller_pass.proofs.Keeping.{notes_more}
use Rattle.caller_pass.proofs.desk.Desk.put_walk.Goals as goal

pub invariant_of-self : goal.invariant_of-self
invariant_of-self c =
    let w = c.args.offers in
    let walk = subst (λ (s : System). IsWalk (program_of s) (reads_known (program_of s) c.self.inside.pass.now) w) c.self.invariant.1
    (subst (λ (h : Held). IsWalk (program_at h) (reads_known (program_at h) h.view) w) (sym c.self.view_is) c.requires) in
    ((c.self.invariant.0.0, notes_more c.self.inside.system.now c.self.inside.pass.now c.self.inside.notes c.self.invariant.0.1 c.put_walk.new.self w c.put_walk.ensures.same c.put_walk.ensures.walks walk), c.self.invariant.1)
