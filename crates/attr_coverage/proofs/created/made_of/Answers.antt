use Rattle.std.proofs.Common.{rules}
use Rattle.attr_coverage.specs.Created.{created_at, root_by}
use Rattle.attr_coverage.specs.Dispatched.{numbers_of}
use Rattle.attr_coverage.proofs.Made.{made_more, made_no_more}
use Rattle.attr_coverage.proofs.created.made_of.Goals as goal
use Rattle.attr_coverage.proofs.created.made_of.Goals.{in-Some+in_ok-map_err, in_default}

pub loop-number-preserved : goal.loop-number-preserved
loop-number-preserved c = λ targets known.
    let at = created_at c.args.grammar.now c.args.attributes.now.attributes (root_by c.args.grammar.now targets (numbers_of c.args.roots.now)) c.args.class.0 in
    let n = c.loop-number.number in
    let kept = c.loop-number.invariant targets known in
    elim c.match-created_at.branch [
      | in-Some+in_ok-map_err w ↦ made_more at n (c.created_at.ensures targets known) w.in-Some.is (search rules) kept
      | in_default w ↦ made_no_more at n (c.created_at.ensures targets known) w.in_default.is (search rules)
    ]
