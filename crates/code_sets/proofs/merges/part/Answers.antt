use Rattle.code_sets.proofs.Merging.{empty, parted_here, parted_later, parted_none}
use Rattle.code_sets.proofs.merges.part.Goals as goal

pub returns-in_default : goal.returns-in_default
returns-in_default c = parted_none c.args.words.now c.args.number (empty _ c.in_default.ensures.cases) c.requires.words

pub returns-then-word-number : goal.returns-then-word-number
returns-then-word-number c = parted_here c.args.words.now c.in-Some.rest.now c.in-Some.word.now c.args.number c.in-Some.ensures.cases.0 c.if-word-number.true c.requires.words

pub returns-else-word-number : goal.returns-else-word-number
returns-else-word-number c = parted_later c.args.words.now _ c.in-Some.word.now c.args.number c.in-Some.ensures.cases.0 c.if-word-number.false c.requires.words c.requires.from
