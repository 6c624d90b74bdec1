use Rattle.std.proofs.Common.{◌≡◌, ap, sym, subst, ◌∙◌}
use Rattle.equation_law.specs.declared.system.System.{System}
use Rattle.equation_law.specs.Codes.{instance_by}
use Rattle.equation_law.specs.Program.{Program}
use Rattle.equation_law.specs.Systems.{program_of}
use Rattle.memo_cells.specs.Agreeing.{ByEachAgreeing, IsKnownInstance}
use Rattle.memo_cells.specs.Working.{Held, IsOwn, program_at, told_by}
use Rattle.caller_pass.specs.Knowing.{TurnsTo}
use Rattle.caller_pass.specs.Leaving.{AreLeft, reads_known}
use Rattle.memo_cells.proofs.Holding.{reads_itself}
use Rattle.circular_eval.proofs.Knowing.{instance_told}
use Rattle.caller_pass.proofs.Desks.{sound_for, turned}
use Rattle.caller_pass.proofs.Leaving.{left_here, left_told}
use Rattle.caller_pass.proofs.turns.turn.Goals as goal

pub resume-requires-clause-sound : goal.resume-requires-clause-sound
resume-requires-clause-sound g c = sound_for (program_of c.desk.inside.system.now) c.args.desk.now (subst (λ (d : Held). IsOwn d) c.desk.view_is c.desk.invariant.0.0) (ap (λ (d : Held). program_of d.frame.system.value) (sym c.desk.view_is) ∙ ap program_of c.desk.invariant.1)

pub resume-requires-clause-known : goal.resume-requires-clause-known
resume-requires-clause-known g c =
    let d = c.args.desk.now in
    let same = ap (λ (x : Held). program_of x.frame.system.value) (sym c.desk.view_is) ∙ ap program_of c.desk.invariant.1 in
    instance_told (told_by d) d.view.made (λ k known. known) (program_of c.desk.inside.system.now) c.args.i (subst (λ (q : Program). IsKnownInstance q d.view.made c.args.i) same c.requires.known)

pub resume-requires-clause-left : goal.resume-requires-clause-left
resume-requires-clause-left g c =
    let d = c.args.desk.now in
    let same = ap (λ (x : Held). x.frame.system.value) (sym c.desk.view_is) ∙ c.desk.invariant.1 in
    subst (λ (s : System). AreLeft s (told_by d) c.args.i c.args.left.now) same (left_told d d.frame.system.value c.args.i c.args.left.now c.requires.left)

pub returns-clause-on : goal.returns-clause-on
returns-clause-on g c = c.resume.ensures.evaluates.kept.kept c.args.desk.now (reads_itself c.args.desk.now (subst (λ (d : Held). IsOwn d) c.desk.view_is c.desk.invariant.0.0))

pub returns-clause-turned : goal.returns-clause-turned
returns-clause-turned g c =
    let p = program_of c.desk.inside.system.now in
    let d = c.resume.new.desk in
    let same = ap (λ (x : Held). program_of x.frame.system.value) (sym c.desk.view_is) ∙ ap program_of c.desk.invariant.1 in
    subst (λ (q : Program). ByEachAgreeing q d.view.made (λ names. TurnsTo q names d.view (instance_by q names c.args.i) c.resume.result)) (sym same)
    (turned p d c.args.i c.resume.result c.resume.ensures.evaluates.kept.sound.for.0 c.resume.ensures.evaluates.kept.sound.for.1 c.resume.ensures.evaluates.answer)

pub returns-clause-left : goal.returns-clause-left
returns-clause-left g c =
    let d = c.args.desk.now in
    let e = c.resume.new.desk in
    let same = ap (λ (x : Held). x.frame.system.value) (sym c.desk.view_is) ∙ c.desk.invariant.1 in
    let program : program_at e ≡ program_at d = sym c.resume.ensures.evaluates.kept.sound.for.0 ∙ ap program_of (sym same) in
    let here = subst (λ (s : System). AreLeft s (reads_known (program_at e) e.view) c.args.i c.resume.new.left) (sym same) (left_here e c.desk.inside.system.now c.args.i c.resume.new.left c.resume.ensures.left) in
    subst (λ (q : Program). AreLeft d.frame.system.value (reads_known q e.view) c.args.i c.resume.new.left) program here
