use Rattle.std.proofs.Common.{◌≡◌, ℕ, inl, inr, ⊎_elim, ap, subst, ◌∙◌}
use Rattle.memo_cells.specs.Causes.{WhyMissing}
use Rattle.memo_cells.proofs.Causes.{found_nowhere, free_before, log_then}
use Rattle.memo_cells.specs.declared.probe.Search.{Search}
use Rattle.memo_cells.specs.Steps.{IsSearched}
use Rattle.equation_law.specs.Systems.{program_of}
use Rattle.memo_cells.specs.Standing.{IsMissing}
use Rattle.memo_cells.specs.Views.{IsOtherIn}
use Rattle.memo_cells.proofs.More.{at_least_then, full_of, nowhere_full}
use Rattle.memo_cells.proofs.cells.Cells.seek.Goals as goal

pub returns-in-At-probe_seek-clause-log : goal.returns-in-At-probe_seek-clause-log
returns-in-At-probe_seek-clause-log c = log_then c.probe_seek.ensures.log c.probe_seek-2.ensures.log

pub returns-in-Nowhere-probe_seek : goal.returns-in-Nowhere-probe_seek
returns-in-Nowhere-probe_seek c =
    let f = c.args.self.now in
    let first = c.start_of-first.result in
    let v = c.probe_seek.new.pass in
    let w = c.probe_seek-2.new.pass in
    let k = c.word-word.result in
    let found : Search → Type 0 = IsSearched f v w k 0 first in
    let size : c.self.inside.size ≡ f.cells = ap (λ y. y.cells) c.self.view_is in
    let behind = subst (λ (n : ℕ). IsOtherIn v k first n) size (subst (λ (r : Search). IsSearched f c.args.pass.now v k first c.self.inside.size r) c.in-Passed.is c.probe_seek.ensures.searched) in
    record {
      own = c.probe_seek-2.ensures.own;
      kept = at_least_then c.probe_seek.ensures.kept c.probe_seek-2.ensures.kept;
      slot = tt;
      none = subst (λ (x : ℕ). IsMissing (program_of f.system.value) w x) c.word-word.ensures.word
          (⊎_elim (λ e. (found_nowhere f v w k 0 first (subst found e c.probe_seek-2.ensures.searched)).0)
          (λ e.
          let full = full_of f v w k first behind c.probe_seek-2.ensures.kept (subst found e c.probe_seek-2.ensures.searched) in
          record { nowhere = nowhere_full f w k c.probe_seek-2.ensures.own full; word = c.probe_seek-2.ensures.own.full k full })
          c.in-Nowhere-probe_seek.is);
      cause = subst (λ (x : ℕ). WhyMissing f c.args.pass.now w x) c.word-word.ensures.word
          (⊎_elim (λ e. inl (free_before c.probe_seek.ensures.log (found_nowhere f v w k 0 first (subst found e c.probe_seek-2.ensures.searched)).1)) (λ e. inr (full_of f v w k first behind c.probe_seek-2.ensures.kept (subst found e c.probe_seek-2.ensures.searched)))
          c.in-Nowhere-probe_seek.is);
      claims = c.probe_seek-2.ensures.claims ∙ c.probe_seek.ensures.claims;
      log = log_then c.probe_seek.ensures.log c.probe_seek-2.ensures.log;
    }
