-- The values before the first round, a further round, and the end.
use Rattle.std.proofs.Common.{All, sym, subst}
use Rattle.plain_rounds.specs.Places.{IsHeld}
use Rattle.plain_rounds.specs.Rooms.{AreRooms}
use Rattle.plain_rounds.specs.Settings.{AreReady, naming_at, program_at}
use Rattle.plain_rounds.specs.Steps.{AreInnerSteps}
use Rattle.plain_rounds.proofs.Settings.{inner_ready, named_there}
use Rattle.plain_rounds.proofs.Solving.{inner_first, inner_left, inner_more}
use Rattle.plain_rounds.proofs.inner.inner_rounds.Goals as goal

pub loop-values-init : goal.loop-values-init
loop-values-init c =
    let s = c.args.setting.now in
    let p = program_at s in
    let n = naming_at s in
    record {
      inner = inner_first p n s.names.now c.args.settled.now c.requires.after c.in_ok-values.values.items c.in_ok-values.ensures.first;
      are = c.in_ok-values.ensures.held;
      rooms = subst (λ xs. AreRooms p n xs c.rooms-left.result) c.deref.ensures.value (c.rooms-left.ensures s.system.now (subst (All (IsHeld p)) (sym c.deref.ensures.value) c.in_ok-values.ensures.held.held) n (named_there s c.requires.set));
    }

pub inner_round-requires-clause-ready : goal.inner_round-requires-clause-ready
inner_round-requires-clause-ready c =
    let s = c.args.setting.now in
    subst (AreReady s) (sym c.deref-in-loop-values.ensures.value) (inner_ready s c.requires.set c.args.settled.now c.requires.after c.loop-values.values.items c.loop-values.invariant.inner c.loop-values.invariant.are)

pub loop-values-preserved : goal.loop-values-preserved
loop-values-preserved c =
    let s = c.args.setting.now in
    let p = program_at s in
    let n = naming_at s in
    let r = subst (λ xs. AreInnerSteps p n s.names.now c.args.settled.now xs c.in_ok-next.next.items) c.deref-in-loop-values.ensures.value c.in_ok-next.ensures.round in
    record {
      inner = inner_more p n s.names.now c.args.settled.now c.requires.after c.loop-values.values.items c.in_ok-next.next.items c.loop-values.invariant.inner r;
      are = c.in_ok-next.ensures.held;
      rooms = subst (λ xs. AreRooms p n xs c.rooms-now.result) c.deref-in-loop-values-2.ensures.value (c.rooms-now.ensures s.system.now (subst (All (IsHeld p)) (sym c.deref-in-loop-values-2.ensures.value) c.in_ok-next.ensures.held.held) n (named_there s c.requires.set));
    }

pub returns-then-now-left-clause-left : goal.returns-then-now-left-clause-left
returns-then-now-left-clause-left c =
    let s = c.args.setting.now in
    let p = program_at s in
    let n = naming_at s in
    let r = subst (λ xs. AreInnerSteps p n s.names.now c.args.settled.now xs c.in_ok-next.next.items) c.deref-in-loop-values.ensures.value c.in_ok-next.ensures.round in
    let now = subst (λ xs. AreRooms p n xs c.rooms-now.result) c.deref-in-loop-values-2.ensures.value (c.rooms-now.ensures s.system.now (subst (All (IsHeld p)) (sym c.deref-in-loop-values-2.ensures.value) c.in_ok-next.ensures.held.held) n (named_there s c.requires.set)) in
    inner_left p n s.names.now c.args.settled.now c.requires.after c.loop-values.values.items c.in_ok-next.next.items c.loop-values.invariant.inner r c.loop-values.left c.rooms-now.result c.loop-values.invariant.rooms now c.if-now-left.true
