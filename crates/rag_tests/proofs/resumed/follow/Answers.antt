use Rattle.std.proofs.Common.{refl, subst, sym}
use Rattle.equation_law.specs.declared.coding.Instance.TheVariants.{Attr as attribute_at}
use Rattle.equation_law.specs.Codes.{AreCodes}
use Rattle.equation_law.specs.Program.{attribute_parameters}
use Rattle.equation_law.specs.Systems.{program_of}
use Rattle.equation_law.proofs.Grown.{each_instance}
use Rattle.expr_eval.proofs.Found.{none_saved}
use Rattle.rag_tests.specs.declared.resumed.Late.{Late}
use Rattle.rag_tests.specs.Late.{late}
use Rattle.rag_tests.proofs.Lately.{late_sound, no_codes}
use Rattle.rag_tests.proofs.Singles.{none_is}
use Rattle.rag_tests.proofs.Unmade.{readable}
use Rattle.rag_tests.proofs.resumed.follow.Goals as goal

pub loop-init : goal.loop-init
loop-init c = (late_sound (program_of c.args.system.now) _ 0 refl (readable (program_of c.args.system.now) c.requires), none_saved c.new-saved.result c.new-saved.ensures)

pub resume_instance-requires-clause-sound : goal.resume_instance-requires-clause-sound
resume_instance-requires-clause-sound c = c.loop.invariant.0

pub resume_instance-requires-clause-saved : goal.resume_instance-requires-clause-saved
resume_instance-requires-clause-saved c = c.loop.invariant.1

pub resume_instance-requires-clause-coded : goal.resume_instance-requires-clause-coded
resume_instance-requires-clause-coded c =
    let p = program_of c.args.system.now in
    let kinds = attribute_parameters p c.args.attr.0 in
    (c.none.ensures.row, subst (AreCodes p kinds) (sym c.none.ensures.codes) (no_codes p kinds))

pub resume_instance-requires-clause-known : goal.resume_instance-requires-clause-known
resume_instance-requires-clause-known c =
    each_instance (late {S = Late} (program_of c.loop.reader.system.now) c.loop.reader.known) (λ k. tt) (program_of c.args.system.now) (attribute_at c.args.attr (record { 0 = 1 }) c.none.result)

pub resume_instance-requires-clause-single : goal.resume_instance-requires-clause-single
resume_instance-requires-clause-single c =
    λ n is. none_is _ c.is_collection.result (c.is_collection.ensures n (c.loop.invariant.0.named n is)) c.if-is_collection.false

pub loop-preserved : goal.loop-preserved
loop-preserved c = (c.in_ok-last.ensures.evaluates.kept.sound, c.in_ok-last.ensures.saved)
