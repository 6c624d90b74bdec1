-- The answer of a query has a line.
use Rattle.std.proofs.Common.{Err, rules, subst}
use Rattle.equation_law.specs.declared.coding.Instance.TheVariants as coded
use Rattle.equation_law.specs.Systems.{program_of}
use Rattle.equation_law.specs.declared.system.System.{System}
use Rattle.equation_law.specs.Checked.{HasSourcesAlone}
use Rattle.equation_law.specs.Names.{Query}
use Rattle.equation_law.proofs.QueryValues.{value_typed}
use Rattle.caller_pass.specs.declared.faults.AskFault.{AskFault}
use Rattle.caller_pass.specs.Answering.{AsksNotedByEach}
use Rattle.query_replies.specs.Replies.{looped, valued}
use Rattle.query_replies.proofs.Answered.{open_after, query_instance}
use Rattle.query_replies.proofs.Sources.{value_sources}
use Rattle.query_replies.proofs.replies.add_answer.Goals as goal

pub ask_noted-requires-clause-instance : goal.ask_noted-requires-clause-instance
ask_noted-requires-clause-instance g c = λ names named. query_instance (program_of c.args.system.now) c.args.query.0 c.requires.query

pub add_reply-requires : goal.add_reply-requires
add_reply-requires g c = (c.in-Ok.ensures.asked _ (open_after c.args.system.now c.args.cells.now c.ask_noted.new.pass c.requires.same c.in-Ok.ensures.own)).answer.2

pub returns-in-Ok-clause-claims : goal.returns-in-Ok-clause-claims
returns-in-Ok-clause-claims g c = (c.in-Ok.ensures.asked _ (open_after c.args.system.now c.args.cells.now c.ask_noted.new.pass c.requires.same c.in-Ok.ensures.own)).claims

pub returns-in-Ok-clause-line : goal.returns-in-Ok-clause-line
returns-in-Ok-clause-line g c =
    let s = c.args.system.now in
    let p = program_of s in
    let by = open_after s c.args.cells.now c.ask_noted.new.pass c.requires.same c.in-Ok.ensures.own in
    let has = (c.in-Ok.ensures.asked _ by).answer.0 in
    let typed = value_typed p c.requires.program (Query c.args.query.0) (query_instance p c.args.query.0 c.requires.query) _ has in
    let bare = subst (λ (t : System). HasSourcesAlone (program_of t)) c.requires.same c.in-Ok.ensures.own.bare in
    valued has (c.in_ok-add_reply-in-Ok.ensures.named _ by.named (value_sources p bare _ _ typed))

pub returns-in_err-add_line-in-Err-Circular-clause-claims : goal.returns-in_err-add_line-in-Err-Circular-clause-claims
returns-in_err-add_line-in-Err-Circular-clause-claims g c = (c.in-Err-Circular.ensures.asked _ (open_after c.args.system.now c.args.cells.now c.ask_noted.new.pass c.requires.same c.in-Err-Circular.ensures.own)).claims

pub returns-in-Err-Circular-clause-claims : goal.returns-in-Err-Circular-clause-claims
returns-in-Err-Circular-clause-claims g c = (c.in-Err-Circular.ensures.asked _ (open_after c.args.system.now c.args.cells.now c.ask_noted.new.pass c.requires.same c.in-Err-Circular.ensures.own)).claims

pub returns-in-Err-Circular-clause-line : goal.returns-in-Err-Circular-clause-line
returns-in-Err-Circular-clause-line g c =
    let p = program_of c.args.system.now in
    let asked = subst (λ (fault : AskFault). AsksNotedByEach p c.args.cells.now c.args.pass.now c.ask_noted.new.pass (coded.Query c.args.query) c.args.evals.now c.ask_noted.new.evals (Err fault)) c.in-Err-Circular.field-0-is c.in-Err-Circular.ensures.asked in
    looped ((asked _ (open_after c.args.system.now c.args.cells.now c.ask_noted.new.pass c.requires.same c.in-Err-Circular.ensures.own)).circular tt) (search rules)

pub returns-in-Err-CellsFull-clause-claims : goal.returns-in-Err-CellsFull-clause-claims
returns-in-Err-CellsFull-clause-claims g c = (c.in-Err-CellsFull.ensures.asked _ (open_after c.args.system.now c.args.cells.now c.ask_noted.new.pass c.requires.same c.in-Err-CellsFull.ensures.own)).claims

pub returns-in-Err-CellsFull-clause-full : goal.returns-in-Err-CellsFull-clause-full
returns-in-Err-CellsFull-clause-full g c = λ is.
    let p = program_of c.args.system.now in
    let asked = subst (λ (fault : AskFault). AsksNotedByEach p c.args.cells.now c.args.pass.now c.ask_noted.new.pass (coded.Query c.args.query) c.args.evals.now c.ask_noted.new.evals (Err fault)) c.in-Err-CellsFull.field-0-is c.in-Err-CellsFull.ensures.asked in
    (asked _ (open_after c.args.system.now c.args.cells.now c.ask_noted.new.pass c.requires.same c.in-Err-CellsFull.ensures.own)).answer

pub returns-clause-claims : goal.returns-clause-claims
returns-clause-claims g c = (c.in-Err-Memory.ensures.asked _ (open_after c.args.system.now c.args.cells.now c.ask_noted.new.pass c.requires.same c.in-Err-Memory.ensures.own)).claims
