use Rattle.std.proofs.Common.{sym, subst}
use Rattle.equation_law.specs.Codes.{AreElements}
use Rattle.memo_cells.proofs.Ways.{if_none}
use Rattle.circular_eval.specs.declared.members.Member.{Member}
use Rattle.circular_eval.proofs.Finding.{absent_member, found, found_at, found_value, member_at, not_found}
use Rattle.circular_eval.proofs.local.Local.find.Goals as goal

pub returns-in_err-number-clause-none : goal.returns-in_err-number-clause-none
returns-in_err-number-clause-none c = λ p pooled coded names named kept. if_none c.from_residual.result (absent_member p named pooled c.args.self.now.members.entries c.args.i.now kept coded (not_found c.args.self.now.members.entries c.args.i.now c.in_err-number.ensures.value))

pub returns-in_err-number-clause-absent : goal.returns-in_err-number-clause-absent
returns-in_err-number-clause-absent c = if_none c.from_residual.result (not_found c.args.self.now.members.entries c.args.i.now c.in_err-number.ensures.value)

pub returns-clause-member : goal.returns-clause-member
returns-clause-member c = λ p names. member_at p names c.args.self.now.members.entries c.args.i.now c.in_ok-number.member.now (sym c.in_ok-number.ensures.value)

pub returns-clause-value : goal.returns-clause-value
returns-clause-value c = λ p pooled coded names named kept. found_value p named pooled c.args.self.now.members.entries c.args.i.now c.in_ok-number.member.now kept coded (sym c.in_ok-number.ensures.value)

pub returns-clause-elements : goal.returns-clause-elements
returns-clause-elements c = λ p names kept.
    let f = found c.args.self.now.members.entries c.args.i.now c.in_ok-number.member.now (sym c.in_ok-number.ensures.value) in
    subst (λ (m : Member). AreElements p m.value) f.3 (kept f.0 f.1).1

pub returns-clause-at : goal.returns-clause-at
returns-clause-at c = found_at c.args.self.now.members.entries c.args.i.now c.in_ok-number.number c.in_ok-number.member.now c.in_ok-number.ensures.entry c.in_ok-number.ensures.key
