use Rattle.std.proofs.Common.{◌∙◌, sym}
use Rattle.memo_cells.specs.Causes.{IsLogOn}
use Rattle.memo_cells.proofs.Causes.{log_one, log_then}
use Rattle.memo_cells.proofs.Counting.{attribute_cell, other_is, settled_is}
use Rattle.memo_cells.proofs.cells.Cells.is_settled.Goals as goal

pub returns-then-is_attribute-clause-settled : goal.returns-then-is_attribute-clause-settled
returns-then-is_attribute-clause-settled c =
    settled_is c.args.self.now c.args.pass.now c.look_key-key.new.pass c.look_value.new.pass c.args.place c.look_key-key.result c.look_value.result (sym c.is_attribute.ensures ∙ c.if-is_attribute.true) c.look_key-key.ensures.seen c.look_value.ensures.seen

pub returns-else-is_attribute-clause-settled : goal.returns-else-is_attribute-clause-settled
returns-else-is_attribute-clause-settled c =
    c.if-is_attribute.false ∙ sym (other_is c.args.self.now c.args.pass.now c.look_key-key.new.pass c.args.place c.look_key-key.result (sym c.is_attribute.ensures ∙ c.if-is_attribute.false) c.look_key-key.ensures.own c.look_key-key.ensures.seen)

pub returns-then-is_attribute-clause-log : goal.returns-then-is_attribute-clause-log
returns-then-is_attribute-clause-log c =
    let next : IsLogOn c.look_key-key.new.pass c.look_value.new.pass = log_one c.look_value.ensures.seen.log in
    log_then (log_one c.look_key-key.ensures.seen.log) next

pub returns-else-is_attribute-clause-log : goal.returns-else-is_attribute-clause-log
returns-else-is_attribute-clause-log c = log_one c.look_key-key.ensures.seen.log

pub look_value-requires-clause-plain : goal.look_value-requires-clause-plain
look_value-requires-clause-plain c = attribute_cell c.args.self.now c.args.pass.now c.look_key-key.new.pass c.args.place c.look_key-key.result (sym c.is_attribute.ensures ∙ c.if-is_attribute.true) c.look_key-key.ensures.seen
