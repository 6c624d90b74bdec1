use Rattle.std.proofs.Common.{◌≤◌, List, length, sym, subst}
use Rattle.std.proofs.lemmas.Option.{slice_get_past}
use Rattle.worklists.specs.declared.worklist.Noted.{Noted}
use Rattle.worklists.proofs.Marks.{read_at}
use Rattle.worklists.proofs.Searching.{search_past, search_readers, search_whole}
use Rattle.worklists.proofs.worklist.Worklist.search.Goals as goal

pub loop-number-preserved-in-Continue-branch-2 : goal.loop-number-preserved-in-Continue-branch-2
loop-number-preserved-in-Continue-branch-2 c =
    search_readers c.args.self.now c.args.stopped c.in-Some.number c.loop-number.search c.next.new.self c.loop-number.invariant c.next.ensures.found c.in-Some.ensures.some c.find_all.new.self c.in-Some-get.noted.now
    (read_at c.deref.result.now c.args.self.now.noted.items c.in-Some.number c.in-Some-get.noted.now c.deref.ensures.value c.in-Some-get.ensures.lookup.0 c.in-Some-get.ensures.lookup.1) c.in_ok-find_all.ensures.finds c.in_ok-find_all.ensures.found

pub loop-number-preserved : goal.loop-number-preserved
loop-number-preserved c =
    search_past c.args.self.now c.args.stopped c.in-Some.number c.loop-number.search c.next.new.self c.loop-number.invariant c.next.ensures.found c.in-Some.ensures.some
    (sym (slice_get_past c.args.self.now.noted.items c.in-Some.number (subst (λ (ns : List Noted). length ns ≤ c.in-Some.number) c.deref.ensures.value c.in_default-get.ensures.lookup.3)))

pub returns : goal.returns
returns c = search_whole c.args.self.now c.args.stopped c.loop-number.search c.next.new.self c.loop-number.invariant c.next.ensures.found c.in_default.ensures.none.0
