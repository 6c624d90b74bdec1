use Rattle.std.proofs.Common.{ℕ, rules, lt_of_not-le, subst, sym}
use Rattle.equation_law.specs.Systems.{program_of}
use Rattle.memo_cells.specs.Naming.{IsFormed}
use mathlib.Core.Logic.{dite}
use native.Mathlib.Decide.{dec_le}
use Rattle.memo_cells.specs.Views.{IsOther}
use Rattle.memo_cells.proofs.Causes.{log_then}
use Rattle.memo_cells.proofs.More.{at_least_then, other_later}
use Rattle.memo_cells.proofs.Naming.{formed_later}
use Rattle.memo_cells.proofs.cells.Cells.claim.Goals as goal

pub probe_claim-requires-2-clause-key : goal.probe_claim-requires-2-clause-key
probe_claim-requires-2-clause-key c =
    let program = program_of c.args.self.now.system.value in (
      c.word-word.ensures.claimed,
      formed_later c.args.pass.now c.probe_claim.new.pass c.probe_claim.ensures.kept program c.word-word.result (subst (λ (k : ℕ). IsFormed program c.args.pass.now k) (sym c.word-word.ensures.word) c.requires.key),
    )

pub returns-in-Some-probe_claim-clause-kept : goal.returns-in-Some-probe_claim-clause-kept
returns-in-Some-probe_claim-clause-kept c = at_least_then c.probe_claim.ensures.kept c.probe_claim-2.ensures.kept

pub returns-clause-kept : goal.returns-clause-kept
returns-clause-kept c = at_least_then c.probe_claim.ensures.kept c.probe_claim-2.ensures.kept

pub returns-clause-full : goal.returns-clause-full
returns-clause-full c = λ q l.
    subst (λ (k : ℕ). IsOther c.probe_claim-2.new.pass k q) c.word-word.ensures.word
    (dite (dec_le c.start_of-first.result q)
    (λ h. other_later c.probe_claim.new.pass c.probe_claim-2.new.pass c.word-word.result q c.probe_claim-2.ensures.kept (c.in_default.ensures.probed q h (search rules))) (λ h. c.in_default-probe_claim.ensures.probed q (search rules) (lt_of_not-le h)))

pub returns-in-Some-probe_claim-clause-log : goal.returns-in-Some-probe_claim-clause-log
returns-in-Some-probe_claim-clause-log c = log_then c.probe_claim.ensures.log c.probe_claim-2.ensures.log

pub returns-clause-log : goal.returns-clause-log
returns-clause-log c = log_then c.probe_claim.ensures.log c.probe_claim-2.ensures.log
