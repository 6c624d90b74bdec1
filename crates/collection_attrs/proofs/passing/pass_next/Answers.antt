use Rattle.std.proofs.Common.{◌∙◌, Some, None, ap, arith, slice_get, subst, suc, sym}
use Rattle.std.proofs.lemmas.Option.{slice_get_within}
use Rattle.equation_law.specs.Systems.{program_of}
use Rattle.collection_attrs.specs.Walks.{IsWalk, Walk}
use Rattle.collection_attrs.proofs.Grown.{naming_of, walk_grows}
use Rattle.collection_attrs.proofs.Stepping.{code_of, few_nodes, passes, sought, stands_before, weighed_at}
use Rattle.collection_attrs.proofs.Walked.{node_within}
use Rattle.collection_attrs.proofs.passing.pass_next.Goals as goal

pub weigh-requires-clause-known : goal.weigh-requires-clause-known
weigh-requires-clause-known g c =
    let p = program_of c.args.system.now in
    let some = c.in-Some.ensures.some in
    let at = some.3 in
    slice_get_within p.rules.contributions c.in-Some.number at.contribution (ap (slice_get p.rules.contributions) some.1 ∙ at.is)

pub weigh-requires-clause-node : goal.weigh-requires-clause-node
weigh-requires-clause-node g c =
    let p = program_of c.args.system.now in
    let some = c.in-Some.ensures.some in
    let at = some.0 in
    let within = node_within p (g.R.Reader.tells c.args.reader.now) c.seek.new.self c.seek.ensures.stands some.2 in
    c.requires.sound.sources (suc c.in-Some.node) (omega (arith, at, within, few_nodes p c.tree.ensures c.len.ensures.number c.len.ensures.few))

pub returns-in_err-weigh-clause-walk : goal.returns-in_err-weigh-clause-walk
returns-in_err-weigh-clause-walk g c =
    let p = program_of c.args.system.now in
    sought p (g.R.Reader.tells c.weigh.new.reader) c.args.offers.now c.seek.new.self (walk_grows c.in_err-weigh.ensures.kept c.requires.walk) c.seek.ensures.same.2 c.seek.ensures.stands c.seek.ensures.passed

pub returns-in-Stuck-clause-walk : goal.returns-in-Stuck-clause-walk
returns-in-Stuck-clause-walk g c =
    let p = program_of c.args.system.now in
    sought p (g.R.Reader.tells c.weigh.new.reader) c.args.offers.now c.seek.new.self (walk_grows c.in_ok-weigh.ensures.kept c.requires.walk) c.seek.ensures.same.2 c.seek.ensures.stands c.seek.ensures.passed

pub returns-in-Stuck-clause-passage : goal.returns-in-Stuck-clause-passage
returns-in-Stuck-clause-passage g c =
    let p = program_of c.args.system.now in
    let v = c.args.offers.now in
    let w = c.seek.new.self in
    let grown = walk_grows c.in_ok-weigh.ensures.kept c.requires.walk in
    let some = c.in-Some.ensures.some in
    let weighed = weighed_at p (g.R.Reader.tells c.weigh.new.reader) (naming_of c.in_ok-weigh.ensures.kept.sound) (few_nodes p c.tree.ensures c.len.ensures.number c.len.ensures.few) w c.in-Some.node c.in-Some.number c.seek.ensures.stands some.2 some.0 some.1 some.3 c.in-Stuck.is c.in_ok-weigh.ensures.weighed in
    (c.seek.ensures.same.2, weighed.0, weighed.1, stands_before p (g.R.Reader.tells c.weigh.new.reader) v w grown c.seek.ensures.same.2 c.seek.ensures.stands c.seek.ensures.passed (code_of some.0 c.in-Some.ensures.few.0) some.2 some.3 c.in-Stuck.instance weighed.2)

pub returns-in-Unmet-clause-walk : goal.returns-in-Unmet-clause-walk
returns-in-Unmet-clause-walk g c =
    let p = program_of c.args.system.now in
    let v = c.args.offers.now in
    let w = c.seek.new.self in
    let grown = walk_grows c.in_ok-weigh.ensures.kept c.requires.walk in
    let some = c.in-Some.ensures.some in
    let weighed = weighed_at p (g.R.Reader.tells c.weigh.new.reader) (naming_of c.in_ok-weigh.ensures.kept.sound) (few_nodes p c.tree.ensures c.len.ensures.number c.len.ensures.few) w c.in-Some.node c.in-Some.number c.seek.ensures.stands some.2 some.0 some.1 some.3 c.in-Unmet.is c.in_ok-weigh.ensures.weighed in
    (passes p (g.R.Reader.tells c.weigh.new.reader) v w grown c.seek.ensures.same.2 c.seek.ensures.stands c.seek.ensures.passed (code_of some.0 c.in-Some.ensures.few.0) some.2 some.3 c.pass.new.self None c.pass.ensures tt weighed).walk

pub returns-in-Unmet-clause-passage : goal.returns-in-Unmet-clause-passage
returns-in-Unmet-clause-passage g c =
    let p = program_of c.args.system.now in
    let v = c.args.offers.now in
    let w = c.seek.new.self in
    let grown = walk_grows c.in_ok-weigh.ensures.kept c.requires.walk in
    let some = c.in-Some.ensures.some in
    let weighed = weighed_at p (g.R.Reader.tells c.weigh.new.reader) (naming_of c.in_ok-weigh.ensures.kept.sound) (few_nodes p c.tree.ensures c.len.ensures.number c.len.ensures.few) w c.in-Some.node c.in-Some.number c.seek.ensures.stands some.2 some.0 some.1 some.3 c.in-Unmet.is c.in_ok-weigh.ensures.weighed in
    (passes p (g.R.Reader.tells c.weigh.new.reader) v w grown c.seek.ensures.same.2 c.seek.ensures.stands c.seek.ensures.passed (code_of some.0 c.in-Some.ensures.few.0) some.2 some.3 c.pass.new.self None c.pass.ensures tt weighed).more

pub returns-in_ok-keep-in-Met-clause-walk : goal.returns-in_ok-keep-in-Met-clause-walk
returns-in_ok-keep-in-Met-clause-walk g c =
    let p = program_of c.args.system.now in
    let v = c.args.offers.now in
    let w = c.seek.new.self in
    let grown = walk_grows c.in_ok-weigh.ensures.kept c.requires.walk in
    let some = c.in-Some.ensures.some in
    let weighed = weighed_at p (g.R.Reader.tells c.weigh.new.reader) (naming_of c.in_ok-weigh.ensures.kept.sound) (few_nodes p c.tree.ensures c.len.ensures.number c.len.ensures.few) w c.in-Some.node c.in-Some.number c.seek.ensures.stands some.2 some.0 some.1 some.3 c.in-Met.is c.in_ok-weigh.ensures.weighed in
    (passes p (g.R.Reader.tells c.weigh.new.reader) v w grown c.seek.ensures.same.2 c.seek.ensures.stands c.seek.ensures.passed (code_of some.0 c.in-Some.ensures.few.0) some.2 some.3 c.keep.new.self (Some c.in-Met.receiver.0) c.in_ok-keep-in-Met.ensures.kept weighed.0 weighed.1).walk

pub returns-in_ok-keep-in-Met-clause-passage : goal.returns-in_ok-keep-in-Met-clause-passage
returns-in_ok-keep-in-Met-clause-passage g c =
    let p = program_of c.args.system.now in
    let v = c.args.offers.now in
    let w = c.seek.new.self in
    let grown = walk_grows c.in_ok-weigh.ensures.kept c.requires.walk in
    let some = c.in-Some.ensures.some in
    let weighed = weighed_at p (g.R.Reader.tells c.weigh.new.reader) (naming_of c.in_ok-weigh.ensures.kept.sound) (few_nodes p c.tree.ensures c.len.ensures.number c.len.ensures.few) w c.in-Some.node c.in-Some.number c.seek.ensures.stands some.2 some.0 some.1 some.3 c.in-Met.is c.in_ok-weigh.ensures.weighed in
    (passes p (g.R.Reader.tells c.weigh.new.reader) v w grown c.seek.ensures.same.2 c.seek.ensures.stands c.seek.ensures.passed (code_of some.0 c.in-Some.ensures.few.0) some.2 some.3 c.keep.new.self (Some c.in-Met.receiver.0) c.in_ok-keep-in-Met.ensures.kept weighed.0 weighed.1).more

pub returns-in_err-keep-in-Met-clause-walk : goal.returns-in_err-keep-in-Met-clause-walk
returns-in_err-keep-in-Met-clause-walk g c =
    let p = program_of c.args.system.now in
    let grown = walk_grows c.in_ok-weigh.ensures.kept c.requires.walk in
    subst (λ (u : Walk). IsWalk p (g.R.Reader.tells c.weigh.new.reader) u) (sym c.in_err-keep-in-Met.ensures.stays) (sought p (g.R.Reader.tells c.weigh.new.reader) c.args.offers.now c.seek.new.self grown c.seek.ensures.same.2 c.seek.ensures.stands c.seek.ensures.passed)
