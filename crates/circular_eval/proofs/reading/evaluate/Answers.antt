use Rattle.std.proofs.Common.{refl, ap, sym, subst}
use Rattle.equation_law.specs.Codes.{source_names}
use Rattle.equation_law.specs.Program.{Program, text_of}
use Rattle.expr_eval.specs.Saved.{AreSaved}
use Rattle.equation_law.specs.declared.system.System.{System}
use Rattle.memo_cells.specs.Agreeing.{IsKnownInstance}
use Rattle.memo_cells.specs.Working.{ReadsOn}
use Rattle.circular_eval.specs.declared.local.Local.{Local}
use Rattle.circular_eval.specs.Local.{reads_here}
use Rattle.circular_eval.specs.Looking.{ComesHere, told_here}
use Rattle.circular_eval.proofs.Raised.{err_ok}
use Rattle.circular_eval.proofs.Settling.{came_here}
use Rattle.circular_eval.proofs.Tied.{no_collection}
use Rattle.equation_law.specs.Systems.{program_of}
use Rattle.memo_cells.proofs.Holding.{reads_itself}
use Rattle.circular_eval.proofs.Knowing.{instance_told}
use Rattle.circular_eval.proofs.Looking.{here_sound, saved_here, saved_there}
use Rattle.circular_eval.proofs.reading.evaluate.Goals as goal

pub resume_instance-turn-requires-clause-sound : goal.resume_instance-turn-requires-clause-sound
resume_instance-turn-requires-clause-sound g c = here_sound (g.W.Words.held c.args.work.now) c.args.system.now c.args.local.now.members.entries _ (program_of c.args.system.now) (ap program_of (sym c.requires.same)) c.requires.same c.requires.own c.requires.kept

pub resume_instance-turn-requires-clause-coded : goal.resume_instance-turn-requires-clause-coded
resume_instance-turn-requires-clause-coded g c = c.requires.coded

pub resume_instance-turn-requires-clause-known : goal.resume_instance-turn-requires-clause-known
resume_instance-turn-requires-clause-known g c =
    let d = g.W.Words.held c.args.work.now in
    instance_told {S = Unit} (told_here d c.args.system.now c.args.local.now.members.entries (λ u. Unit {0})) d.view.made (λ k known. known) (program_of c.args.system.now) c.args.i.now
    (subst (λ (s : System). IsKnownInstance (program_of s) d.view.made c.args.i.now) c.requires.same c.requires.known)

pub resume_instance-turn-requires-clause-single : goal.resume_instance-turn-requires-clause-single
resume_instance-turn-requires-clause-single g c = λ n is. no_collection (program_of c.args.system.now) (source_names (text_of (program_of c.args.system.now))) n c.args.i.now c.requires.single

pub resume_instance-turn-requires-clause-saved : goal.resume_instance-turn-requires-clause-saved
resume_instance-turn-requires-clause-saved g c =
    let d = g.W.Words.held c.args.work.now in
    saved_there d c.args.system.now c.args.local.now.members.entries _ c.args.system.now c.args.saved.now
    (subst (λ (q : Program). AreSaved c.args.system.now (reads_here q d.view c.args.local.now.members.entries) c.args.saved.now) (ap program_of (sym c.requires.same)) c.requires.saved)

pub returns-in_err-turn-clause-on : goal.returns-in_err-turn-clause-on
returns-in_err-turn-clause-on g c =
    let l = c.resume_instance-turn.ensures.evaluates.kept.kept (record { system = c.args.system; work = record { ref_ptr = c.resume_instance-turn.new.reader.work.ref_ptr; ghost_name = c.reader-1.given; now = c.args.work.now }; local = c.args.local; read = c.resume_instance-turn.new.reader.read }) (reads_itself (g.W.Words.held c.args.work.now) c.requires.own, refl, refl, refl) in
    let back = c.work-1.given.1 (sym l.1) in
    subst (λ (x : g.row.W.Denot). ReadsOn (g.W.Words.held c.args.work.now) (g.W.Words.held x)) (sym back) l.0

pub returns-in_err-turn-clause-came : goal.returns-in_err-turn-clause-came
returns-in_err-turn-clause-came g c = err_ok _ c.from_residual.result c.from_residual.ensures.0

pub returns-clause-on : goal.returns-clause-on
returns-clause-on g c =
    let l = c.resume_instance-turn.ensures.evaluates.kept.kept (record { system = c.args.system; work = record { ref_ptr = c.resume_instance-turn.new.reader.work.ref_ptr; ghost_name = c.reader-1.given; now = c.args.work.now }; local = c.args.local; read = c.resume_instance-turn.new.reader.read }) (reads_itself (g.W.Words.held c.args.work.now) c.requires.own, refl, refl, refl) in
    let back = c.work-1.given.1 (sym l.1) in
    subst (λ (x : g.row.W.Denot). ReadsOn (g.W.Words.held c.args.work.now) (g.W.Words.held x)) (sym back) l.0

pub returns-clause-came : goal.returns-clause-came
returns-clause-came g c =
    let l = c.resume_instance-turn.ensures.evaluates.kept.kept (record { system = c.args.system; work = record { ref_ptr = c.resume_instance-turn.new.reader.work.ref_ptr; ghost_name = c.reader-1.given; now = c.args.work.now }; local = c.args.local; read = c.resume_instance-turn.new.reader.read }) (reads_itself (g.W.Words.held c.args.work.now) c.requires.own, refl, refl, refl) in
    let back = c.work-1.given.1 (sym l.1) in
    let e = g.W.Words.held c.resume_instance-turn.new.reader.work.now in
    let es = c.resume_instance-turn.new.reader.local.now.members.entries in
    let for = c.resume_instance-turn.ensures.evaluates.kept.sound.for in
    subst (λ (x : g.row.W.Denot). ComesHere (g.W.Words.held x) c.args.local.now c.args.i.now c.in_ok-turn.field-0) (sym back)
    (subst (λ (m : Local). ComesHere e m c.args.i.now c.in_ok-turn.field-0) l.2
    (came_here (program_of c.args.system.now) e c.resume_instance-turn.new.reader.system.now es _ c.args.i.now c.in_ok-turn.field-0 for.0 for.2 for.3 c.in_ok-turn.ensures.evaluates.answer))

pub returns-in_err-turn-clause-saved : goal.returns-in_err-turn-clause-saved
returns-in_err-turn-clause-saved g c =
    let l = c.resume_instance-turn.ensures.evaluates.kept.kept (record { system = c.args.system; work = record { ref_ptr = c.resume_instance-turn.new.reader.work.ref_ptr; ghost_name = c.reader-1.given; now = c.args.work.now }; local = c.args.local; read = c.resume_instance-turn.new.reader.read }) (reads_itself (g.W.Words.held c.args.work.now) c.requires.own, refl, refl, refl) in
    let back = c.work-1.given.1 (sym l.1) in
    let e = g.W.Words.held c.resume_instance-turn.new.reader.work.now in
    let p = program_of c.args.system.now in
    subst (λ (x : g.row.W.Denot). AreSaved c.args.system.now (reads_here p (g.W.Words.held x).view c.args.local.now.members.entries) c.resume_instance-turn.new.saved) (sym back)
    (subst (λ (m : Local). AreSaved c.args.system.now (reads_here p e.view m.members.entries) c.resume_instance-turn.new.saved) l.2
    (subst (λ (q : Program). AreSaved c.args.system.now (reads_here q e.view c.resume_instance-turn.new.reader.local.now.members.entries) c.resume_instance-turn.new.saved) (sym c.resume_instance-turn.ensures.evaluates.kept.sound.for.0) (saved_here e c.resume_instance-turn.new.reader.system.now c.resume_instance-turn.new.reader.local.now.members.entries _ c.args.system.now c.resume_instance-turn.new.saved c.resume_instance-turn.ensures.saved)))

pub returns-clause-saved : goal.returns-clause-saved
returns-clause-saved g c =
    let l = c.resume_instance-turn.ensures.evaluates.kept.kept (record { system = c.args.system; work = record { ref_ptr = c.resume_instance-turn.new.reader.work.ref_ptr; ghost_name = c.reader-1.given; now = c.args.work.now }; local = c.args.local; read = c.resume_instance-turn.new.reader.read }) (reads_itself (g.W.Words.held c.args.work.now) c.requires.own, refl, refl, refl) in
    let back = c.work-1.given.1 (sym l.1) in
    let e = g.W.Words.held c.resume_instance-turn.new.reader.work.now in
    let p = program_of c.args.system.now in
    subst (λ (x : g.row.W.Denot). AreSaved c.args.system.now (reads_here p (g.W.Words.held x).view c.args.local.now.members.entries) c.resume_instance-turn.new.saved) (sym back)
    (subst (λ (m : Local). AreSaved c.args.system.now (reads_here p e.view m.members.entries) c.resume_instance-turn.new.saved) l.2
    (subst (λ (q : Program). AreSaved c.args.system.now (reads_here q e.view c.resume_instance-turn.new.reader.local.now.members.entries) c.resume_instance-turn.new.saved) (sym c.resume_instance-turn.ensures.evaluates.kept.sound.for.0) (saved_here e c.resume_instance-turn.new.reader.system.now c.resume_instance-turn.new.reader.local.now.members.entries _ c.args.system.now c.resume_instance-turn.new.saved c.resume_instance-turn.ensures.saved)))
