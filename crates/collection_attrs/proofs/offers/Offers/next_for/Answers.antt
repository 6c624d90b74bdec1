use Rattle.std.proofs.Common.{◌≡◌, ℕ, ◌-◌, ◌<◌, ◌∙◌, Some, map, List, ap, arith, length, slice_get, subst, sym}
use Rattle.attr_rules.proofs.RowLists.{there}
use Rattle.collection_attrs.specs.Spots.{last_of}
use Rattle.collection_attrs.specs.Surveys.{noted_in}
use Rattle.collection_attrs.specs.declared.lasts.Spot.{Spot}
use Rattle.collection_attrs.specs.declared.linking.Entry.{Entry}
use Rattle.collection_attrs.specs.Walks.{IsFirstFor, IsNextFor, Noted, Walk}
use Rattle.collection_attrs.proofs.Chained.{before_within, behind_tells, first_behind, last_first, next_fits, next_within, none_round}
use Rattle.collection_attrs.proofs.offers.Offers.next_for.Goals as goal

pub returns-then-from-eq0-clause-few : goal.returns-then-from-eq0-clause-few
returns-then-from-eq0-clause-few c =
    let es = c.self.inside.entries.items in
    let lasts = last_of c.self.inside.lasts.items in
    let known : lasts c.args.receiver ≡ Some c.in_ok-last_for.field-0 = sym (c.last_for.ensures ∙ ap (λ (xs : List Spot). last_of xs c.args.receiver) c.deref-then-from-eq0.ensures.value) ∙ c.in_ok-last_for.was in
    let w = c.self.invariant.0.within c.args.receiver c.in_ok-last_for.field-0 known in
    let tells = c.told.ensures w.0 (ap (λ (xs : List Entry). slice_get xs c.in_ok-last_for.field-0) c.deref.ensures.value ∙ w.1) in
    omega (arith, tells, next_fits es lasts c.self.invariant.0 c.in_ok-last_for.field-0 w.0 w.1)

pub returns-then-from-eq0-clause-within : goal.returns-then-from-eq0-clause-within
returns-then-from-eq0-clause-within c =
    let es = c.self.inside.entries.items in
    let lasts = last_of c.self.inside.lasts.items in
    let long = ap (λ (w : Walk). length w.notes) c.self.view_is in
    let known : lasts c.args.receiver ≡ Some c.in_ok-last_for.field-0 = sym (c.last_for.ensures ∙ ap (λ (xs : List Spot). last_of xs c.args.receiver) c.deref-then-from-eq0.ensures.value) ∙ c.in_ok-last_for.was in
    let w = c.self.invariant.0.within c.args.receiver c.in_ok-last_for.field-0 known in
    let tells = c.told.ensures w.0 (ap (λ (xs : List Entry). slice_get xs c.in_ok-last_for.field-0) c.deref.ensures.value ∙ w.1) in
    (omega (arith, c.if-from-eq0.true), omega (arith, tells, long, next_within es lasts c.self.invariant.0 c.in_ok-last_for.field-0 w.0 w.1))

pub returns-then-from-eq0-clause-some : goal.returns-then-from-eq0-clause-some
returns-then-from-eq0-clause-some c = λ may.
    let es = c.self.inside.entries.items in
    let lasts = last_of c.self.inside.lasts.items in
    let same : map noted_in es ≡ c.args.self.now.notes = ap (λ (w : Walk). w.notes) c.self.view_is in
    let known : lasts c.args.receiver ≡ Some c.in_ok-last_for.field-0 = sym (c.last_for.ensures ∙ ap (λ (xs : List Spot). last_of xs c.args.receiver) c.deref-then-from-eq0.ensures.value) ∙ c.in_ok-last_for.was in
    let w = c.self.invariant.0.within c.args.receiver c.in_ok-last_for.field-0 known in
    let tells = c.told.ensures w.0 (ap (λ (xs : List Entry). slice_get xs c.in_ok-last_for.field-0) c.deref.ensures.value ∙ w.1) in
    let f = subst (IsFirstFor (map noted_in es) c.args.receiver.0 0) (sym tells) (last_first es lasts c.self.invariant.0 c.args.receiver c.in_ok-last_for.field-0 known w.0 w.1) in
    subst (λ (k : ℕ). IsFirstFor c.args.self.now.notes c.args.receiver.0 k c.told.result) (sym c.if-from-eq0.true) (subst (λ (ns : List Noted). IsFirstFor ns c.args.receiver.0 0 c.told.result) same f)

pub told-next-requires : goal.told-next-requires
told-next-requires c =
    subst (λ (es : List Entry). c.args.from - 1 < length es) (sym c.deref-2.ensures.value)
    (before_within c.self.inside.entries.items c.args.self.now.notes (ap (λ (w : Walk). w.notes) c.self.view_is) c.args.from c.if-from-eq0.false c.requires)

pub returns-then-next-from-clause-none : goal.returns-then-next-from-clause-none
returns-then-next-from-clause-none c = λ may.
    let es = c.self.inside.entries.items in
    let ns = c.args.self.now.notes in
    let r = c.args.receiver.0 in
    let same = ap (λ (w : Walk). w.notes) c.self.view_is in
    let e = there es (c.args.from - 1) (before_within es ns same c.args.from c.if-from-eq0.false c.requires) in
    let next = c.told-next.ensures e.0 (ap (λ (xs : List Entry). slice_get xs (c.args.from - 1)) c.deref-2.ensures.value ∙ e.1) in
    let tells = subst (IsNextFor ns r c.args.from) (sym next) (behind_tells es (last_of c.self.inside.lasts.items) c.self.invariant.0 ns same r c.args.from c.if-from-eq0.false may e.0 e.1) in
    none_round ns r c.args.from c.told-next.result tells c.if-next-from.true

pub returns-clause-few : goal.returns-clause-few
returns-clause-few c =
    let es = c.self.inside.entries.items in
    let same = ap (λ (w : Walk). w.notes) c.self.view_is in
    let e = there es (c.args.from - 1) (before_within es c.args.self.now.notes same c.args.from c.if-from-eq0.false c.requires) in
    let next = c.told-next.ensures e.0 (ap (λ (xs : List Entry). slice_get xs (c.args.from - 1)) c.deref-2.ensures.value ∙ e.1) in
    omega (arith, next, next_fits es (last_of c.self.inside.lasts.items) c.self.invariant.0 (c.args.from - 1) e.0 e.1)

pub returns-clause-within : goal.returns-clause-within
returns-clause-within c =
    let es = c.self.inside.entries.items in
    let same = ap (λ (w : Walk). w.notes) c.self.view_is in
    let long = ap (λ (ns : List Noted). length ns) same in
    let e = there es (c.args.from - 1) (before_within es c.args.self.now.notes same c.args.from c.if-from-eq0.false c.requires) in
    let next = c.told-next.ensures e.0 (ap (λ (xs : List Entry). slice_get xs (c.args.from - 1)) c.deref-2.ensures.value ∙ e.1) in
    (omega (arith, c.if-next-from.false), omega (arith, next, long, next_within es (last_of c.self.inside.lasts.items) c.self.invariant.0 (c.args.from - 1) e.0 e.1))

pub returns-clause-some : goal.returns-clause-some
returns-clause-some c = λ may.
    let es = c.self.inside.entries.items in
    let ns = c.args.self.now.notes in
    let r = c.args.receiver.0 in
    let same = ap (λ (w : Walk). w.notes) c.self.view_is in
    let e = there es (c.args.from - 1) (before_within es ns same c.args.from c.if-from-eq0.false c.requires) in
    let next = c.told-next.ensures e.0 (ap (λ (xs : List Entry). slice_get xs (c.args.from - 1)) c.deref-2.ensures.value ∙ e.1) in
    let tells = subst (IsNextFor ns r c.args.from) (sym next) (behind_tells es (last_of c.self.inside.lasts.items) c.self.invariant.0 ns same r c.args.from c.if-from-eq0.false may e.0 e.1) in
    first_behind ns r c.args.from c.told-next.result c.if-from-eq0.false may tells c.if-next-from.false
