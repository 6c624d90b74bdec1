use Rattle.equation_law.specs.Codes.{source_names}
use Rattle.equation_law.specs.Program.{text_of}
use Rattle.equation_law.specs.Systems.{program_of}
use Rattle.equation_law.proofs.Codes.{sources_named}
use Rattle.memo_cells.specs.Working.{told_by}
use Rattle.caller_pass.proofs.Leaving.{survey_later}
use Rattle.caller_pass.proofs.resuming.resume.Goals as goal

pub resume_collection-requires-clause-collection : goal.resume_collection-requires-clause-collection
resume_collection-requires-clause-collection c = c.in-Some.ensures.some

pub resume_single-requires-clause-single : goal.resume_single-requires-clause-single
resume_single-requires-clause-single c =
    let p = program_of c.args.system.now in
    c.in-None.ensures.none (source_names (text_of p)) (sources_named p)

pub resume_single-requires-clause-saved : goal.resume_single-requires-clause-saved
resume_single-requires-clause-saved c = c.requires.left.saved

pub returns-in-None-clause-left : goal.returns-in-None-clause-left
returns-in-None-clause-left c = record { saved = c.resume_single.ensures.saved; survey = survey_later (program_of c.args.system.now) (told_by c.args.desk.now) (told_by c.resume_single.new.desk) c.resume_single.ensures.evaluates.kept.values c.resume_single.ensures.evaluates.kept.names c.resume_single.ensures.evaluates.kept.known c.args.i c.args.left.now.survey c.requires.left.survey }
