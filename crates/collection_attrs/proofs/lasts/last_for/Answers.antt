use Rattle.std.proofs.Common.{◌≡◌, Some, slice_get, slice_index_or, sym}
use Rattle.std.proofs.lemmas.Option.{slice_get-get_or}
use Rattle.collection_attrs.specs.declared.lasts.Spot.{Spot}
use Rattle.collection_attrs.proofs.Spots.{ended_other, ended_own, said_by_none}
use Rattle.collection_attrs.proofs.lasts.last_for.Goals as goal

abbrev nothing : Spot
nothing = record { receiver = record { 0 = 0 }; last = 0; even = 0; odd = 0 }

pub returns-then-spot-receiver : goal.returns-then-spot-receiver
returns-then-spot-receiver c =
    let ss = c.args.spots.now in
    let q = c.args.receiver in
    let at = c.way_end-at.result.0 in
    let s : Spot = slice_index_or ss at nothing in
    let is : slice_get ss at ≡ Some s = slice_get-get_or ss at nothing c.way_end-at.ensures.within in
    sym (said_by_none ss q (ended_other ss c.requires q at c.way_end-at.result.1 s is c.way_end-at.ensures.still (c.way_end-at.ensures.ended s is) c.if-spot-receiver.true))

pub returns : goal.returns
returns c =
    let ss = c.args.spots.now in
    let q = c.args.receiver in
    let at = c.way_end-at.result.0 in
    let s : Spot = slice_index_or ss at nothing in
    let is : slice_get ss at ≡ Some s = slice_get-get_or ss at nothing c.way_end-at.ensures.within in
    sym (ended_own ss c.requires q at c.way_end-at.result.1 s is c.if-spot-receiver.false)
