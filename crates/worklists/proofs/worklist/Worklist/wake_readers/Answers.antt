use Rattle.std.proofs.Common.{◌≡◌, ◌<◌, ◌≤◌, ◌∙◌, List, length, subst, sym, ap, arith}
use Rattle.std.specs.Prelude.{Contains}
use Rattle.std.proofs.Math.ListN.{get_or}
use Rattle.std.proofs.lemmas.Option.{get_or_from_slice_get, slice_get_within}
use Rattle.worklists.specs.declared.worklist.Noted.{Noted}
use Rattle.worklists.proofs.worklist.Worklist.wake_readers.Goals as goal

pub returns-in_err-wake_all-clause-kept : goal.returns-in_err-wake_all-clause-kept
returns-in_err-wake_all-clause-kept c k other h = c.wake_all.ensures.kept.due k (c.remove.ensures.others k other h)

pub returns-in_ok-wake_all-clause-woken : goal.returns-in_ok-wake_all-clause-woken
returns-in_ok-wake_all-clause-woken c k reader =
    let at : c.in-Some.noted.now ≡ get_or c.args.self.now.noted.items c.args.number c.in-Some.noted.now = c.in-Some.ensures.lookup.1 ∙ ap (λ (xs : List Noted). get_or xs c.args.number c.in-Some.noted.now) c.deref.ensures.value in
    let same : c.in-Some.noted.now ≡ reader.of = at ∙ get_or_from_slice_get c.args.self.now.noted.items c.args.number reader.of c.in-Some.noted.now reader.noted in
    c.in_ok-wake_all.ensures.all k (subst (λ (n : Noted). Contains n.readers.keys k) (sym same) reader.has)

pub returns-in_ok-wake_all-clause-kept : goal.returns-in_ok-wake_all-clause-kept
returns-in_ok-wake_all-clause-kept c k other h = c.wake_all.ensures.kept.due k (c.remove.ensures.others k other h)

pub returns-in_default-clause-woken : goal.returns-in_default-clause-woken
returns-in_default-clause-woken c k reader =
    let low : c.args.number < length c.args.self.now.noted.items = slice_get_within c.args.self.now.noted.items c.args.number reader.of reader.noted in
    let high : length c.args.self.now.noted.items ≤ c.args.number = subst (λ (xs : List Noted). length xs ≤ c.args.number) c.deref.ensures.value c.in_default.ensures.lookup.3 in
    absurd (omega (arith, low, high))

pub returns-in_default-clause-kept : goal.returns-in_default-clause-kept
returns-in_default-clause-kept c k other h = c.remove.ensures.others k other h
