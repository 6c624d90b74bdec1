use Rattle.std.proofs.Common.{◌+◌, ◌∙◌, ℕ, sym, subst, arith}
use Rattle.worklists.specs.declared.search.Search.{Search}
use Rattle.worklists.specs.Searching.{IsNewSearch}
use Rattle.worklists.proofs.Marks.{item_at}
use Rattle.worklists.proofs.Noting.{fresh_there, not_fresh}
use Rattle.worklists.proofs.Searching.{IsBegun, begun_first, begun_fresh, begun_not, begun_search}
use Rattle.worklists.proofs.worklist.Worklist.begun.Goals as goal
use Rattle.worklists.proofs.worklist.Worklist.begun.Goals.{then-not-noted+in_ok-find-2, else-not-noted}

pub loop-number-init : goal.loop-number-init
loop-number-init c = begun_first c.args.self.now c.args.stopped c.in_ok-search.search c.find.new.self (subst (λ (m : ℕ). IsNewSearch m c.in_ok-search.search) (c.len.ensures ∙ c.args.self.now.noted.ok.0) c.in_ok-search.ensures) c.in_ok-find.ensures.finds c.in_ok-find.ensures.found

pub loop-number-preserved : goal.loop-number-preserved
loop-number-preserved c =
    elim c.if-not-noted.branch [
      | then-not-noted+in_ok-find-2 w ↦
          subst (λ (s : Search). IsBegun c.args.self.now c.args.stopped (c.loop-number.number + 1) s) (sym w.search-is)
          (begun_fresh c.args.self.now c.args.stopped c.loop-number.number c.loop-number.search w.find-then-not-noted.new.self c.loop-number.invariant (fresh_there c.args.self.now c.loop-number.number c.noted-item.result (item_at c.deref-noted-items.result.now c.args.self.now.noted.items c.loop-number.number c.noted-item.result c.deref-noted-items.ensures.value (omega (arith, c.loop-number.auto.number-end, c.loop-number-test.true)) c.noted-item.is) w.if-not-noted.true) w.in_ok-find-2.ensures.finds w.in_ok-find-2.ensures.found)
      | else-not-noted w ↦
          subst (λ (s : Search). IsBegun c.args.self.now c.args.stopped (c.loop-number.number + 1) s) (sym w.search-is)
          (begun_not c.args.self.now c.args.stopped c.loop-number.number c.loop-number.search c.loop-number.invariant (not_fresh c.args.self.now c.loop-number.number c.noted-item.result (item_at c.deref-noted-items.result.now c.args.self.now.noted.items c.loop-number.number c.noted-item.result c.deref-noted-items.ensures.value (omega (arith, c.loop-number.auto.number-end, c.loop-number-test.true)) c.noted-item.is) w.if-not-noted.false))
    ]

pub returns : goal.returns
returns c = begun_search c.args.self.now c.args.stopped c.loop-number.number c.loop-number.search (omega (arith, c.loop-number.auto.number-end, c.loop-number-test.false, c.deref-noted-items.ensures.len)) c.loop-number.invariant
