use Rattle.std.proofs.Common.{Some, sym, ap, subst, ◌∙◌}
use Rattle.memo_cells.specs.Agreeing.{Agrees}
use Rattle.memo_cells.specs.Working.{Held, ReadsOn, program_at}
use Rattle.memo_cells.proofs.Holding.{reads_itself}
use Rattle.caller_pass.specs.Waiting.{unboxed}
use Rattle.caller_pass.proofs.Frames.{looked_known, looked_none, looked_unknown}
use Rattle.caller_pass.proofs.solving.look_again.Goals.{in-None, in-Some}
use Rattle.caller_pass.proofs.solving.look_again.Goals as goal

pub returns-else-known-clause-on : goal.returns-else-known-clause-on
returns-else-known-clause-on c = elim c.match-waiter.branch [
  | in-None w ↦ subst (λ (d : Held). ReadsOn c.args.desk.now d) (sym w.desk-is) (reads_itself c.args.desk.now c.requires.own)
  | in-Some w ↦ subst (λ (d : Held). ReadsOn c.args.desk.now d) (sym w.desk-is) w.settled_code.ensures.on
]

pub returns-then-known-clause-looked : goal.returns-then-known-clause-looked
returns-then-known-clause-looked c = λ names named. elim c.match-waiter.branch [
  | in-None w ↦ let no = sym w.known-is ∙ c.if-known.true in cc
  | in-Some w ↦
      let d = c.args.desk.now in
      let p = program_at d in
      let there = sym w.is_some-known.ensures ∙ sym w.known-is ∙ c.if-known.true in
      looked_known p names w.settled_code.new.self.frame d.view w.settled_code.new.self.view c.match-waiter.desk.view (ap (λ (e : Held). e.view) w.desk-is) c.args.waiter.now w.deref.result.now (ap unboxed w.in-Some.is ∙ ap Some (sym w.deref.ensures)) w.first.result w.first.ensures w.settled_code.result there (λ coded its. w.settled_code.ensures.known coded its names (subst (λ (e : Held). Agrees p e.view.made names) w.desk-is named))
]

pub returns-else-known-clause-looked : goal.returns-else-known-clause-looked
returns-else-known-clause-looked c = λ names named. elim c.match-waiter.branch [
  | in-None w ↦ looked_none (program_at c.args.desk.now) names c.args.desk.now.view c.match-waiter.desk.view c.args.waiter.now (ap unboxed w.in-None.is)
  | in-Some w ↦
      let d = c.args.desk.now in
      let p = program_at d in
      let none = sym w.is_some-known.ensures ∙ sym w.known-is ∙ c.if-known.false in
      looked_unknown p names w.settled_code.new.self.frame d.view w.settled_code.new.self.view c.match-waiter.desk.view (ap (λ (e : Held). e.view) w.desk-is) c.args.waiter.now w.deref.result.now (ap unboxed w.in-Some.is ∙ ap Some (sym w.deref.ensures)) w.first.result w.first.ensures w.settled_code.result none (λ coded its. w.settled_code.ensures.known coded its names (subst (λ (e : Held). Agrees p e.view.made names) w.desk-is named))
]
