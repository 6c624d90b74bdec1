use Rattle.std.proofs.Common.{◌<◌, length, sym, subst}
use Rattle.equation_law.specs.declared.system.System.{System}
use Rattle.equation_law.specs.Systems.{program_of}
use Rattle.memo_cells.specs.Working.{Held, program_at}
use Rattle.collection_attrs.specs.Walks.{IsWalk}
use Rattle.caller_pass.specs.Leaving.{reads_known}
use Rattle.caller_pass.proofs.Keeping.{notes_fewer, walk_taken}
use Rattle.caller_pass.proofs.desk.Desk.take_walk.Goals as goal

pub invariant_of-self : goal.invariant_of-self
invariant_of-self c = ((c.self.invariant.0.0, notes_fewer c.self.inside.system.now c.self.inside.pass.now c.self.inside.notes c.self.invariant.0.1 c.take_walk.new.self c.take_walk.ensures.same c.take_walk.ensures.others), c.self.invariant.1)

pub returns-clause-walk : goal.returns-clause-walk
returns-clause-walk c =
    let w = c.take_walk.result in
    let within = subst (λ (s : System). c.args.root < length (program_of s).tree) c.self.invariant.1 (subst (λ (h : Held). c.args.root < length (program_at h).tree) (sym c.self.view_is) c.requires) in
    let walk = walk_taken c.self.inside.system.now c.self.inside.pass.now c.self.inside.notes c.self.invariant.0.1 c.args.attr.0 c.args.root w within c.take_walk.ensures.walk in
    subst (λ (h : Held). IsWalk (program_at h) (reads_known (program_at h) h.view) w) c.self.view_is
    (subst (λ (s : System). IsWalk (program_of s) (reads_known (program_of s) c.self.inside.pass.now) w) (sym c.self.invariant.1) walk)
