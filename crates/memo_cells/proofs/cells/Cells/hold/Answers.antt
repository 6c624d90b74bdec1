use Rattle.std.proofs.Common.{ℕ, inl, inr, ⊎_elim, ap, subst, sym, ◌∙◌}
use Rattle.equation_law.specs.Systems.{program_of}
use Rattle.memo_cells.specs.Views.{Has, times}
use Rattle.memo_cells.proofs.Causes.{log_one, log_then}
use Rattle.memo_cells.proofs.More.{at_least_then, claims_none, other_later}
use Rattle.memo_cells.proofs.Naming.{formed_later}
use Rattle.memo_cells.proofs.cells.Cells.hold.Goals as goal

pub try_key-found-requires-clause-key : goal.try_key-found-requires-clause-key
try_key-found-requires-clause-key c = (c.requires.key.0, formed_later c.args.pass.now c.look_key-seen.new.pass c.look_key-seen.ensures.kept (program_of c.args.self.now.system.value) c.args.key c.requires.key.1)

pub try_key-found-requires-clause-passed : goal.try_key-found-requires-clause-passed
try_key-found-requires-clause-passed c = λ q b. other_later c.args.pass.now c.look_key-seen.new.pass c.args.key q c.look_key-seen.ensures.kept (c.requires.passed q b)

pub returns-then-seen-ne0-clause-claims : goal.returns-then-seen-ne0-clause-claims
returns-then-seen-ne0-clause-claims c = claims_none c.args.pass.now c.look_key-seen.new.pass c.args.key c.look_key-seen.ensures.seen.claims

pub returns-then-found-ne0-clause-kept : goal.returns-then-found-ne0-clause-kept
returns-then-found-ne0-clause-kept c = at_least_then c.look_key-seen.ensures.kept c.try_key-found.ensures.kept

pub returns-then-found-ne0-clause-claims : goal.returns-then-found-ne0-clause-claims
returns-then-found-ne0-clause-claims c = λ q. ⊎_elim (λ e. inl (e ∙ ap (times q) c.look_key-seen.ensures.seen.claims)) (λ h. absurd (c.if-found-ne0.true h.0)) (c.try_key-found.ensures.tried.claims q)

pub returns-clause-kept : goal.returns-clause-kept
returns-clause-kept c = at_least_then c.look_key-seen.ensures.kept c.try_key-found.ensures.kept

pub returns-clause-claims : goal.returns-clause-claims
returns-clause-claims c = λ q. ⊎_elim (λ e. inl (e ∙ ap (times q) c.look_key-seen.ensures.seen.claims))
    (λ h. inr (subst (λ (p : ℕ). Has c.try_key-found.new.pass.keys (p, c.args.key)) (sym h.1) (c.try_key-found.ensures.tried.won h.0)))
    (c.try_key-found.ensures.tried.claims q)

pub returns-then-seen-ne0-clause-log : goal.returns-then-seen-ne0-clause-log
returns-then-seen-ne0-clause-log c = log_one c.look_key-seen.ensures.seen.log

pub returns-then-found-ne0-clause-log : goal.returns-then-found-ne0-clause-log
returns-then-found-ne0-clause-log c = log_then (log_one {w = c.look_key-seen.new.pass} c.look_key-seen.ensures.seen.log) (log_one {w = c.try_key-found.new.pass} c.try_key-found.ensures.tried.log)

pub returns-clause-log : goal.returns-clause-log
returns-clause-log c = log_then (log_one {w = c.look_key-seen.new.pass} c.look_key-seen.ensures.seen.log) (log_one {w = c.try_key-found.new.pass} c.try_key-found.ensures.tried.log)
