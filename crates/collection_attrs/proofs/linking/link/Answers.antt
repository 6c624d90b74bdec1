use Rattle.std.proofs.Common.{◌≡◌, ◌∙◌, ℕ, IfNone, IfSome, List, Option, Some, None, ap, arith, cond, eqb, length, slice_get, subst, sym}
use Rattle.collection_attrs.specs.declared.lasts.Spot.{Spot}
use Rattle.collection_attrs.specs.declared.linking.Entry.{Entry}
use Rattle.collection_attrs.specs.Spots.{last_of}
use Rattle.collection_attrs.proofs.Chained.{IsLinked, chained_more, linked_none, linked_told}
use Rattle.collection_attrs.proofs.linking.link.Goals as goal

pub returns-in-Some-clause-chained : goal.returns-in-Some-clause-chained
returns-in-Some-clause-chained c =
    let es = c.args.entries.now.items in
    let e : Entry = record { node = c.args.node; contribution = c.args.contribution; receiver = c.args.receiver; next = c.first_for-next.result } in
    let lasts = last_of c.args.lasts.now.items in
    let last = c.in-Some.last in
    let was : lasts e.receiver ≡ Some last = sym (c.last_for-before.ensures ∙ ap (λ (xs : List Spot). last_of xs c.args.receiver) c.deref-2.ensures.value) ∙ c.in-Some.is in
    let place : c.in_ok-place.place ≡ length es = c.in_ok-place.ensures.0 ∙ ap length c.deref.ensures.value in
    let first = subst (λ (o : Option ℕ). IfSome o (λ (k : ℕ). (x : Entry) → slice_get c.deref-3.result.now k ≡ Some x → c.first_for-next.result ≡ x.next)) c.in-Some.is c.first_for-next.ensures.first in
    let linked = linked_told es e lasts c.requires.chained last was (λ x is. first x (ap (λ (xs : List Entry). slice_get xs last) c.deref-3.ensures.value ∙ is)) c.append.new.entries.items c.tell.new.entries.items c.in_ok-append.ensures.appended (λ x h. let t = c.tell.ensures x h in (t.0, t.1, t.2, t.3, t.4 ∙ place)) in
    let few = c.in_ok-place.ensures.1 in
    chained_more es e lasts (last_of c.put.new.spots.items) c.requires.chained (Some last) was c.tell.new.entries.items linked (omega (arith, few, place))
    (λ q. c.in-Ok.ensures.put q ∙ ap (λ (x : ℕ). cond (eqb e.receiver.0 q.0) (Some x) (lasts q)) place)

pub returns-in-Some-clause-kept : goal.returns-in-Some-clause-kept
returns-in-Some-clause-kept c =
    let es = c.args.entries.now.items in
    let e : Entry = record { node = c.args.node; contribution = c.args.contribution; receiver = c.args.receiver; next = c.first_for-next.result } in
    let lasts = last_of c.args.lasts.now.items in
    let last = c.in-Some.last in
    let was : lasts e.receiver ≡ Some last = sym (c.last_for-before.ensures ∙ ap (λ (xs : List Spot). last_of xs c.args.receiver) c.deref-2.ensures.value) ∙ c.in-Some.is in
    let place : c.in_ok-place.place ≡ length es = c.in_ok-place.ensures.0 ∙ ap length c.deref.ensures.value in
    let first = subst (λ (o : Option ℕ). IfSome o (λ (k : ℕ). (x : Entry) → slice_get c.deref-3.result.now k ≡ Some x → c.first_for-next.result ≡ x.next)) c.in-Some.is c.first_for-next.ensures.first in
    let linked = linked_told es e lasts c.requires.chained last was (λ x is. first x (ap (λ (xs : List Entry). slice_get xs last) c.deref-3.ensures.value ∙ is)) c.append.new.entries.items c.tell.new.entries.items c.in_ok-append.ensures.appended (λ x h. let t = c.tell.ensures x h in (t.0, t.1, t.2, t.3, t.4 ∙ place)) in
    linked.notes

pub returns-in-None-clause-chained : goal.returns-in-None-clause-chained
returns-in-None-clause-chained c =
    let es = c.args.entries.now.items in
    let e : Entry = record { node = c.args.node; contribution = c.args.contribution; receiver = c.args.receiver; next = c.first_for-next.result } in
    let lasts = last_of c.args.lasts.now.items in
    let was : lasts e.receiver ≡ None = sym (c.last_for-before.ensures ∙ ap (λ (xs : List Spot). last_of xs c.args.receiver) c.deref-2.ensures.value) ∙ c.in-None.is in
    let place : c.in_ok-place.place ≡ length es = c.in_ok-place.ensures.0 ∙ ap length c.deref.ensures.value in
    let few = c.in_ok-place.ensures.1 in
    let itself : c.first_for-next.result ≡ c.in_ok-place.place = subst (λ (o : Option ℕ). IfNone o (c.first_for-next.result ≡ c.in_ok-place.place)) c.in-None.is c.first_for-next.ensures.alone in
    let linked = subst (IsLinked es e None) (sym c.in_ok-append.ensures.appended) (linked_none es e (itself ∙ place)) in
    chained_more es e lasts (last_of c.put.new.spots.items) c.requires.chained None was c.append.new.entries.items linked (omega (arith, few, place))
    (λ q. c.in-Ok.ensures.put q ∙ ap (λ (x : ℕ). cond (eqb e.receiver.0 q.0) (Some x) (lasts q)) place)
