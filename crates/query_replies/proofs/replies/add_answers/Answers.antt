-- Each query has its line; or more keys are demanded than there are cells.
use Rattle.std.proofs.Common.{◌≤◌, ◌<◌, ℕ, List, ◌++◌, Err, inl, refl, sym, ap, subst, arith, length}
use Rattle.std.proofs.Math.ListN.{drop_of_length-le}
use Rattle.equation_law.specs.Systems.{program_of}
use Rattle.equation_law.proofs.Pooled.{texts_pooled}
use Rattle.memo_cells.proofs.More.{at_least_itself, at_least_then}
use Rattle.caller_pass.proofs.Overfull.{asked_key, asked_more, overfull}
use Rattle.query_replies.specs.Replies.{AreReplies}
use Rattle.query_replies.proofs.Answered.{open_after}
use Rattle.query_replies.proofs.ReplyLines.{all_replies, fault_was, next_reply}
use Rattle.query_replies.proofs.replies.add_answers.Goals as goal

pub replies-init : goal.replies-init
replies-init g c =
    let p = program_of c.args.system.now in (
      c.requires.new.own,
      at_least_itself c.args.pass.now,
      λ s. inl refl,
      λ rest h. subst (λ (items : List ℕ). AreReplies p 0 p.queries (items ++ rest)) (sym c.new-text.ensures.items) h,
      c.new-notes.ensures c.args.pass.now,
    )

pub returns-in_err-add_answer-clause-full : goal.returns-in_err-add_answer-clause-full
returns-in_err-add_answer-clause-full g c = λ is.
    let p = program_of c.args.system.now in
    let so_far = c.replies.invariant in
    let within : c.replies.query < length p.queries = omega (arith, c.replies-test.true, c.replies-query-end.ensures.number) in
    let kept = c.in_err-add_answer.ensures.kept in
    let claims = asked_more p c.args.pass.now c.replies.pass c.add_answer.new.pass c.replies.query within so_far.2 kept c.in_err-add_answer.ensures.claims in
    let filled = c.in_err-add_answer.ensures.full (ap Err (fault_was c.from_residual.result c.in_err-add_answer.field-0.0 c.from_residual.ensures is)) in
    overfull p (texts_pooled c.args.system.now) c.args.cells.now c.args.pass.now c.add_answer.new.pass c.requires.new.first c.in_err-add_answer.ensures.own (open_after c.args.system.now c.args.cells.now c.add_answer.new.pass c.requires.new.system c.in_err-add_answer.ensures.own) (at_least_then so_far.1 kept) claims
    filled.0 (asked_key p c.add_answer.new.pass c.replies.query filled.0 within filled.1) filled.2

pub replies-preserved : goal.replies-preserved
replies-preserved g c =
    let p = program_of c.args.system.now in
    let so_far = c.replies.invariant in
    let within : c.replies.query < length p.queries = omega (arith, c.replies-test.true, c.replies-query-end.ensures.number) in
    let kept = c.in_ok-add_answer.ensures.kept in
    let claims = asked_more p c.args.pass.now c.replies.pass c.add_answer.new.pass c.replies.query within so_far.2 kept c.in_ok-add_answer.ensures.claims in (
      c.in_ok-add_answer.ensures.own,
      at_least_then so_far.1 kept,
      claims,
      next_reply p c.replies.query c.replies.text.items c.add_answer.new.text.items within so_far.3 c.in_ok-add_answer.ensures.line,
      c.in_ok-add_answer.ensures.notes,
    )

pub returns-clause-replies : goal.returns-clause-replies
returns-clause-replies g c =
    let p = program_of c.args.system.now in
    let past : length p.queries ≤ c.replies.query = omega (arith, c.replies-test.false, c.replies-query-end.ensures.number) in
    all_replies p c.replies.text.items c.replies.query (drop_of_length-le p.queries past) c.replies.invariant.3
