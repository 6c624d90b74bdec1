use Rattle.std.proofs.Common.{sym, ◌∙◌}
use Rattle.attr_rules.proofs.OwnRows.{puts_no_path, puts_nowhere, puts_there}
use Rattle.attr_rules.proofs.dispatch.put.Goals as goal
use Rattle.attr_rules.proofs.dispatch.put.Goals.{else-is_own-via-else-is_own, else-is_own-via-then-is_own+else-class-rows}

pub returns-then-class-rows : goal.returns-then-class-rows
returns-then-class-rows c =
    puts_there c.args.rows.now c.args.target c.args.equation c.index-rows-class.result (sym c.is_own.ensures ∙ c.if-is_own.true) c.if-class-rows.true c.deref_mut.ensures.value c.put_first.ensures

pub returns-else-is_own : goal.returns-else-is_own
returns-else-is_own c = elim c.else-is_own.branch [
  | else-is_own-via-then-is_own+else-class-rows w ↦ puts_nowhere c.args.rows.now c.args.target c.args.equation w.if-class-rows.false
  | else-is_own-via-else-is_own w ↦ puts_no_path c.args.rows.now c.args.target c.args.equation (sym c.is_own.ensures ∙ w.if-is_own.false)
]
