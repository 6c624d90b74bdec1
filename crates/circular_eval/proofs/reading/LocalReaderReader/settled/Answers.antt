use Rattle.std.proofs.Common.{sym, ◌∙◌}
use Rattle.memo_cells.proofs.Holding.{reads_then}
use Rattle.circular_eval.proofs.Settling.{member_settles, none_settles, same_settles, work_settles}
use Rattle.circular_eval.proofs.reading.LocalReaderReader.settled.Goals as goal

pub returns-then-not-is_declared : goal.returns-then-not-is_declared
returns-then-not-is_declared g c = work_settles g.W.Words.held c.args.self.now.work.now c.settled.new.self (g.W.Reader.tells c.args.self.now.work.now) (g.W.Reader.tells c.settled.new.self) (g.met.W.Work.tells_pass c.args.self.now.work.now) (g.met.W.Work.tells_pass c.settled.new.self) c.args.self.now.system.now c.args.self.now.local.now.members.entries _ _ (λ x on h. (reads_then (g.W.Words.held x.work.now) (g.W.Words.held c.args.self.now.work.now) (g.W.Words.held c.settled.new.self) h.0 on, h.1, h.2, h.3)) c.args.i.now c.settled.result (sym c.is_declared.ensures ∙ c.if-not-is_declared.true) c.settled.ensures

pub returns-in_default : goal.returns-in_default
returns-in_default g c = none_settles (g.W.Words.held c.args.self.now.work.now) c.args.self.now.system.now c.args.self.now.local.now.members.entries _ c.args.i.now (sym c.is_declared.ensures ∙ c.if-not-is_declared.false) c.in_default.ensures.none

pub returns-in_err-map_err : goal.returns-in_err-map_err
returns-in_err-map_err g c = same_settles (g.W.Words.held c.args.self.now.work.now) c.args.self.now.system.now c.args.self.now.local.now.members.entries _ c.args.i.now c.from_residual.result c.from_residual.ensures.0

pub returns-in_err-copy : goal.returns-in_err-copy
returns-in_err-copy g c = same_settles (g.W.Words.held c.args.self.now.work.now) c.args.self.now.system.now c.args.self.now.local.now.members.entries _ c.args.i.now c.from_residual-in_err-copy.result c.from_residual-in_err-copy.ensures.0

pub returns : goal.returns
returns g c = member_settles (g.W.Words.held c.args.self.now.work.now) c.args.self.now.system.now c.args.self.now.local.now.members.entries _ c.args.i.now (sym c.is_declared.ensures ∙ c.if-not-is_declared.false) c.in_ok-copy.field-0 c.in-Some.value.now c.in-Some.number c.in-Some.ensures.at c.in_ok-copy.ensures.same c.in-Some.ensures.member (λ p pooled coded names named kept. c.in-Some.ensures.value p pooled coded names named kept ∙ sym (c.in_ok-copy.ensures.same names)) (λ p names kept. c.in_ok-copy.ensures.elements p (c.in-Some.ensures.elements p names kept))
