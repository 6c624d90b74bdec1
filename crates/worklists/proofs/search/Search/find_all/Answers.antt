use Rattle.std.proofs.Common.{Contains, length, refl, sym, subst, arith}
use Rattle.worklists.proofs.Searching.{all_more, finds_next, finds_same, finds_then}
use Rattle.worklists.proofs.search.Search.find_all.Goals as goal

pub loop-number-init : goal.loop-number-init
loop-number-init c = record { finds = finds_same (Contains c.args.readers.now.keys) _ _ refl refl; found = λ i k low. absurd (omega (arith, low)) }

pub loop-number-preserved : goal.loop-number-preserved
loop-number-preserved c =
    let items = c.as_slice-number-items.result.now in
    record {
      finds = finds_next c.args.readers.now.keys items c.loop-number.number-index _ c.loop-number.self c.find.new.self c.as_slice-number-items.ensures.keys c.loop-number-test.true c.loop-number.invariant.finds c.in_ok-find.ensures.finds;
      found = all_more items c.loop-number.number-index (length c.args.self.now.found.items) c.loop-number.self c.find.new.self c.loop-number-test.true c.in_ok-find.ensures.finds (sym c.loop-number.invariant.finds.len) c.loop-number.invariant.found c.in_ok-find.ensures.found;
    }

pub returns-clause-finds : goal.returns-clause-finds
returns-clause-finds c = finds_then (Contains c.args.readers.now.keys) c.args.self.now _ c.loop-number.self (finds_same (Contains c.args.readers.now.keys) c.args.self.now _ refl refl) c.loop-number.invariant.finds

pub returns-clause-found : goal.returns-clause-found
returns-clause-found c k has low =
    let there = subst (λ ks. Contains ks k) (sym c.as_slice-number-items.ensures.keys) has in
    c.loop-number.invariant.found there.0 k (omega (arith, there.1, c.loop-number.auto.number-index-end, c.loop-number-test.false)) there.2 low
