use Rattle.std.proofs.Common.{◌≢◌, ℕ, OnOk, subst}
use Rattle.worklists.specs.Waiting.{IsDue, IsReader}
use Rattle.worklists.specs.declared.worklist.Worklist.{Worklist}
use Rattle.circular_eval.proofs.local.Local.rise.Goals as goal

pub returns-clause-woken : goal.returns-clause-woken
returns-clause-woken c =
    subst (λ (w : Worklist). OnOk c.wake_readers.result ((k : ℕ) → IsReader w c.args.number k → IsDue c.wake_readers.new.self.due k)) c.set_value.ensures.worklist c.wake_readers.ensures.woken

pub returns-clause-kept : goal.returns-clause-kept
returns-clause-kept c = subst (λ (w : Worklist). (k : ℕ) → k ≢ c.args.number → IsDue w.due k → IsDue c.wake_readers.new.self.due k) c.set_value.ensures.worklist c.wake_readers.ensures.kept
