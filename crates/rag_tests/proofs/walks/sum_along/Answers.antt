use Rattle.std.proofs.Common.{◌≡◌, ◌+◌, ap, arith}
use Rattle.equation_law.specs.declared.coding.NodeRef.{NodeRef}
use Rattle.equation_law.specs.Systems.{program_of}
use Rattle.memo_cells.specs.Working.{told_by}
use Rattle.memo_cells.proofs.Holding.{reads_itself}
use Rattle.collection_attrs.proofs.Found.{walk_for_each}
use Rattle.collection_attrs.proofs.Grown.{survey_new, walk_grows}
use Rattle.circular_eval.proofs.Knowing.{source_known}
use Rattle.caller_pass.proofs.Desks.{sound_for}
use Rattle.rag_tests.proofs.walks.sum_along.Goals as goal

pub root_of-requires-clause-sound : goal.root_of-requires-clause-sound
root_of-requires-clause-sound c = sound_for (program_of c.args.system.now) c.args.work.now c.requires.own (ap program_of c.requires.same)

pub root_of-requires-clause-collection : goal.root_of-requires-clause-collection
root_of-requires-clause-collection c = (c.in-Some.ensures.some.0, c.in-Some.ensures.some.2)

pub root_of-requires-clause-known : goal.root_of-requires-clause-known
root_of-requires-clause-known c =
    let at : c.in-Some.of.node.0 ≡ c.args.node + 1 = ap (λ (n : NodeRef). n.0) c.in-Some.ensures.node in
    source_known c.args.work.now.view.made c.in-Some.of.node.0 (omega (arith, at, c.requires.node))

pub returns-in_default-root_of-clause-on : goal.returns-in_default-root_of-clause-on
returns-in_default-root_of-clause-on c = c.root_of.ensures.kept.kept c.args.work.now (reads_itself c.args.work.now c.requires.own)

pub returns-in_default-root_of-clause-walk : goal.returns-in_default-root_of-clause-walk
returns-in_default-root_of-clause-walk c = walk_grows c.root_of.ensures.kept c.requires.walk

pub returns-then-of-attr-clause-on : goal.returns-then-of-attr-clause-on
returns-then-of-attr-clause-on c = c.root_of.ensures.kept.kept c.args.work.now (reads_itself c.args.work.now c.requires.own)

pub returns-then-of-attr-clause-walk : goal.returns-then-of-attr-clause-walk
returns-then-of-attr-clause-walk c = walk_grows c.root_of.ensures.kept c.requires.walk

pub go_on-requires-clause-sound : goal.go_on-requires-clause-sound
go_on-requires-clause-sound c = c.root_of.ensures.kept.sound

pub go_on-requires-clause-walk : goal.go_on-requires-clause-walk
go_on-requires-clause-walk c = walk_grows c.root_of.ensures.kept c.requires.walk

pub go_on-requires-clause-collection : goal.go_on-requires-clause-collection
go_on-requires-clause-collection c =
    let p = program_of c.args.system.now in
    let found = c.in-Some.ensures.some in
    let attr : c.args.offers.now.attribute ≡ c.in-Some.of.attr.0 = omega (arith, c.if-of-attr.false, c.attr.ensures) in
    let root : c.args.offers.now.root ≡ c.in-Some-root_of.root = omega (arith, c.if-root.false, c.root.ensures) in
    let for = walk_for_each p (told_by c.root_of.new.reader) found.0 c.args.offers.now c.in-Some.of.attr.0 c.in-Some-root_of.root attr root (c.in-Some-root_of.ensures.offers found.0 found.2) in
    (found.0, found.2, for, survey_new (told_by c.root_of.new.reader) c.root_of.ensures.kept.sound found.2 c.new-survey.ensures)

pub returns-in_err-value-clause-on : goal.returns-in_err-value-clause-on
returns-in_err-value-clause-on c =
    let found = c.in-Some.ensures.some in
    (c.go_on.ensures.evaluates found.0 found.2).kept.kept c.args.work.now (c.root_of.ensures.kept.kept c.args.work.now (reads_itself c.args.work.now c.requires.own))

pub returns-in-Done-clause-on : goal.returns-in-Done-clause-on
returns-in-Done-clause-on c =
    let found = c.in-Some.ensures.some in
    (c.go_on.ensures.evaluates found.0 found.2).kept.kept c.args.work.now (c.root_of.ensures.kept.kept c.args.work.now (reads_itself c.args.work.now c.requires.own))

pub returns-clause-on : goal.returns-clause-on
returns-clause-on c =
    let found = c.in-Some.ensures.some in
    (c.go_on.ensures.evaluates found.0 found.2).kept.kept c.args.work.now (c.root_of.ensures.kept.kept c.args.work.now (reads_itself c.args.work.now c.requires.own))
