use Rattle.std.proofs.Common.{Ok, sym, subst, ◌∙◌}
use Rattle.equation_law.specs.Systems.{program_of}
use Rattle.expr_eval.specs.declared.sites.Turn.{Turn}
use Rattle.expr_eval.specs.Evaluating.{AnswersTurn}
use Rattle.expr_eval.specs.Sites.{instance_reads}
use Rattle.memo_cells.specs.Working.{told_by}
use Rattle.memo_cells.proofs.Agreeing.{agrees_before}
use Rattle.memo_cells.proofs.Holding.{reads_itself}
use Rattle.circular_eval.proofs.Knowing.{instance_told}
use Rattle.caller_pass.specs.Holding.{IsInstanceByEach}
use Rattle.caller_pass.proofs.Desks.{sound_for}
use Rattle.rag_tests.proofs.Singles.{none_is}
use Rattle.rag_tests.proofs.Sweeping.{need_circular, need_is, need_known, program_here}
use Rattle.rag_tests.proofs.sweeps.first_circular.Goals as goal

pub loop-init : goal.loop-init
loop-init c = record { on = reads_itself c.args.work.now c.requires.own; instance = c.requires.instance; coded = c.requires.coded; known = c.requires.known }

pub resume_instance-requires-clause-sound : goal.resume_instance-requires-clause-sound
resume_instance-requires-clause-sound c = sound_for (program_of c.args.system.now) c.loop.work c.loop.invariant.on.on.own (program_here c.args.system.now c.args.work.now c.loop.work c.requires.same c.loop.invariant.on)

pub resume_instance-requires-clause-known : goal.resume_instance-requires-clause-known
resume_instance-requires-clause-known c = instance_told (told_by c.loop.work) c.loop.work.view.made (λ k low. low) (program_of c.args.system.now) c.loop.at c.loop.invariant.known

pub resume_instance-requires-clause-single : goal.resume_instance-requires-clause-single
resume_instance-requires-clause-single c =
    let sound = sound_for (program_of c.args.system.now) c.loop.work c.loop.invariant.on.on.own (program_here c.args.system.now c.args.work.now c.loop.work c.requires.same c.loop.invariant.on) in
    λ n is. none_is _ c.is_collection.result (c.is_collection.ensures n (sound.named n is)) c.if-is_collection.false

pub returns-in_err-resume_instance-clause-on : goal.returns-in_err-resume_instance-clause-on
returns-in_err-resume_instance-clause-on c = c.resume_instance.ensures.evaluates.kept.kept c.args.work.now c.loop.invariant.on

pub returns-in-Done-clause-on : goal.returns-in-Done-clause-on
returns-in-Done-clause-on c = c.resume_instance.ensures.evaluates.kept.kept c.args.work.now c.loop.invariant.on

pub returns-then-is_declared-clause-on : goal.returns-then-is_declared-clause-on
returns-then-is_declared-clause-on c = c.resume_instance.ensures.evaluates.kept.kept c.args.work.now c.loop.invariant.on

pub returns-then-is_declared-clause-found : goal.returns-then-is_declared-clause-found
returns-then-is_declared-clause-found c =
    let p = program_of c.args.system.now in
    let e = c.resume_instance.new.reader in
    let kept = c.resume_instance.ensures.evaluates.kept.kept in
    let on = kept c.loop.work (reads_itself c.loop.work c.loop.invariant.on.on.own) in
    need_circular c.args.system.now c.requires.program c.args.work.now e c.requires.same (kept c.args.work.now c.loop.invariant.on) c.loop.at c.in-Need.next
    (λ names agrees. c.loop.invariant.instance names (agrees_before p on.on.kept.made agrees))
    (subst (λ (t : Turn). AnswersTurn p (told_by e) (instance_reads p c.loop.at) (Ok t)) c.in-Need.is c.in_ok-resume_instance.ensures.evaluates.answer) (sym c.is_declared.ensures ∙ c.if-is_declared.true)

pub loop-preserved : goal.loop-preserved
loop-preserved c =
    let s = c.args.system.now in
    let p = program_of s in
    let d = c.args.work.now in
    let e = c.resume_instance.new.reader in
    let kept = c.resume_instance.ensures.evaluates.kept.kept in
    let whole = kept d c.loop.invariant.on in
    let on = kept c.loop.work (reads_itself c.loop.work c.loop.invariant.on.on.own) in
    let answer = subst (λ (t : Turn). AnswersTurn p (told_by e) (instance_reads p c.loop.at) (Ok t)) c.in-Need.is c.in_ok-resume_instance.ensures.evaluates.answer in
    let instance : IsInstanceByEach p e.view c.loop.at = λ names agrees. c.loop.invariant.instance names (agrees_before p on.on.kept.made agrees) in
    record {
      on = whole;
      instance = need_is s c.requires.program d e c.requires.same whole c.loop.at c.in-Need.next instance answer;
      coded = answer.coded;
      known = need_known s c.requires.program d e c.requires.same whole c.loop.at c.in-Need.next instance answer;
    }
