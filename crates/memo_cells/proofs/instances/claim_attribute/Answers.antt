use Rattle.std.proofs.Common.{inl, rules, [], refl, sym, arith}
use Rattle.equation_law.specs.declared.coding.Instance.TheVariants.{Attr as attribute_at}
use Rattle.equation_law.specs.Codes.{codes_in, instance_by}
use Rattle.made_trees.specs.Made.{naming_by_makers}
use Rattle.memo_cells.specs.Agreeing.{ByEachAgreeing}
use Rattle.memo_cells.specs.Keys.{argument_word, attribute_word}
use Rattle.memo_cells.specs.Naming.{IsKeyTo}
use Rattle.memo_cells.specs.Working.{program_at}
use Rattle.memo_cells.proofs.Agreeing.{agrees_before, instance_known_later, own_open}
use Rattle.memo_cells.proofs.More.{at_least_itself}
use Rattle.memo_cells.proofs.Ways.{claims_key_each, claims_on_each, fits, formed_on_way, key_after, key_next, key_on_way, on_err, place_less, way_ends, way_next}
use Rattle.memo_cells.proofs.Holding.{formed_at, full_back, goes_then, instance_on, own_then, slot_back}
use Rattle.memo_cells.proofs.instances.claim_attribute.Goals as goal

pub claim-requires-clause-key : goal.claim-requires-clause-key
claim-requires-clause-key g c =
    let d = g.W.Words.held c.args.work.now in
    let p = program_at d in
    let by = own_open d.frame d.view [] c.requires.own in
    let is = c.requires.instance (naming_by_makers p d.view.made) by in
    formed_on_way p d.view by c.args.attr.0 c.args.node.0 c.args.args c.requires.coded.1 c.requires.known is (attribute_word c.args.attr.0 c.args.node.0) [] (codes_in c.args.args) refl (search rules, search rules, refl)

pub returns-in_err-slot-clause-full : goal.returns-in_err-slot-clause-full
returns-in_err-slot-clause-full g c =
    let d = g.W.Words.held c.args.work.now in
    let e = g.W.Words.held c.claim.new.self in
    let k = attribute_word c.args.attr.0 c.args.node.0 in
    let i = attribute_at c.args.attr c.args.node c.args.args in
    on_err c.from_residual.result
    (λ m agrees. (k, key_on_way (program_at d) e.view agrees c.args.attr.0 c.args.node.0 c.args.args c.requires.coded.1 (instance_known_later (program_at d) c.claim.ensures.on.kept.made i c.requires.known) (instance_on d e c.claim.ensures.on i c.requires.instance m agrees) k [] (codes_in c.args.args) refl (search rules, search rules, refl), c.in_err-slot.ensures.full))

pub returns-in_err-slot-clause-claims : goal.returns-in_err-slot-clause-claims
returns-in_err-slot-clause-claims g c =
    let d = g.W.Words.held c.args.work.now in
    let e = g.W.Words.held c.claim.new.self in
    let k = attribute_word c.args.attr.0 c.args.node.0 in
    let i = attribute_at c.args.attr c.args.node c.args.args in
    claims_key_each (program_at d) d.view e.view i k c.claim.ensures.claims
    (λ m agrees. key_on_way (program_at d) e.view agrees c.args.attr.0 c.args.node.0 c.args.args c.requires.coded.1 (instance_known_later (program_at d) c.claim.ensures.on.kept.made i c.requires.known) (instance_on d e c.claim.ensures.on i c.requires.instance m agrees) k [] (codes_in c.args.args) refl (search rules, search rules, refl))

pub loop-code-init : goal.loop-code-init
loop-code-init g c =
    let d = g.W.Words.held c.args.work.now in
    let e = g.W.Words.held c.claim.new.self in
    let k = attribute_word c.args.attr.0 c.args.node.0 in
    let i = attribute_at c.args.attr c.args.node c.args.args in
    record {
      on = c.claim.ensures.on;
      few = search rules;
      way = record { key = k; slot = c.in_ok-slot.ensures.slot; named = (search rules, search rules, refl) };
      claims = claims_key_each (program_at d) d.view e.view i k c.claim.ensures.claims
          (λ m agrees. key_on_way (program_at d) e.view agrees c.args.attr.0 c.args.node.0 c.args.args c.requires.coded.1 (instance_known_later (program_at d) c.claim.ensures.on.kept.made i c.requires.known) (instance_on d e c.claim.ensures.on i c.requires.instance m agrees) k [] (codes_in c.args.args) refl (search rules, search rules, refl));
    }

pub claim-requires-in-Some-clause-own : goal.claim-requires-in-Some-clause-own
claim-requires-in-Some-clause-own g c = c.loop-code.invariant.on.own

pub claim-requires-in-Some-clause-slot : goal.claim-requires-in-Some-clause-slot
claim-requires-in-Some-clause-slot g c = fits (g.W.Words.held c.args.work.now).frame (g.W.Words.held c.loop-code.work).view (g.W.Words.held c.loop-code.work).view c.args.attr.0 c.args.node.0 c.args.args c.loop-code.place c.loop-code.slot.0 c.loop-code.invariant.way (own_then (g.W.Words.held c.args.work.now) (g.W.Words.held c.loop-code.work) c.loop-code.invariant.on) (at_least_itself (g.W.Words.held c.loop-code.work).view)

pub claim-requires-in-Some-clause-key : goal.claim-requires-in-Some-clause-key
claim-requires-in-Some-clause-key g c =
    let d = g.W.Words.held c.args.work.now in
    let e = g.W.Words.held c.loop-code.work in
    let p = program_at d in
    let on = c.loop-code.invariant.on in
    let i = attribute_at c.args.attr c.args.node c.args.args in
    let by = own_open d.frame e.view [] (own_then d e on) in
    let is = instance_on d e on i c.requires.instance (naming_by_makers p e.view.made) by in
    let key = key_next d.frame e.view e.view c.args.attr.0 c.args.node.0 c.args.args c.loop-code.place c.loop-code.slot.0 c.loop-code.invariant.way (own_then d e on) (at_least_itself e.view) c.in-Some.code 0 (search rules) (sym c.in-Some.ensures) p by (instance_known_later p on.kept.made i c.requires.known) c.requires.coded.1 is in
    formed_at d e (argument_word c.loop-code.slot.0 c.in-Some.code) on (inl (record { of = instance_by p (naming_by_makers p e.view.made) i; instance = is; key = key }))

pub returns-in_err-slot-2-clause-on : goal.returns-in_err-slot-2-clause-on
returns-in_err-slot-2-clause-on g c = goes_then (g.W.Words.held c.args.work.now) (g.W.Words.held c.loop-code.work) (g.W.Words.held c.claim-in-Some.new.self) c.loop-code.invariant.on c.claim-in-Some.ensures.on

pub returns-in_err-slot-2-clause-full : goal.returns-in_err-slot-2-clause-full
returns-in_err-slot-2-clause-full g c =
    let d = g.W.Words.held c.args.work.now in
    let e = g.W.Words.held c.loop-code.work in
    let w = g.W.Words.held c.claim-in-Some.new.self in
    let k = argument_word c.loop-code.slot.0 c.in-Some.code in
    let p = program_at d in
    let i = attribute_at c.args.attr c.args.node c.args.args in
    let on = c.loop-code.invariant.on in
    let key = key_after d.frame e.view w.view c.args.attr.0 c.args.node.0 c.args.args c.loop-code.place c.loop-code.slot.0 c.loop-code.invariant.way (own_then d e on) c.claim-in-Some.ensures.on.kept c.in-Some.code 0 (search rules) (sym c.in-Some.ensures) p in
    on_err c.from_residual-in_err-slot-2.result
    (λ m agrees. let before = agrees_before p c.claim-in-Some.ensures.on.kept.made agrees in (k, key m before (instance_known_later p on.kept.made i c.requires.known) c.requires.coded.1 (instance_on d e on i c.requires.instance m before), full_back d e w k on c.in_err-slot-2.ensures.full))

pub returns-in_err-slot-2-clause-claims : goal.returns-in_err-slot-2-clause-claims
returns-in_err-slot-2-clause-claims g c =
    let d = g.W.Words.held c.args.work.now in
    let e = g.W.Words.held c.loop-code.work in
    let w = g.W.Words.held c.claim-in-Some.new.self in
    let p = program_at d in
    let i = attribute_at c.args.attr c.args.node c.args.args in
    let k = argument_word c.loop-code.slot.0 c.in-Some.code in
    let key = key_after d.frame e.view w.view c.args.attr.0 c.args.node.0 c.args.args c.loop-code.place c.loop-code.slot.0 c.loop-code.invariant.way (own_then d e c.loop-code.invariant.on) c.claim-in-Some.ensures.on.kept c.in-Some.code 0 (search rules) (sym c.in-Some.ensures) p in
    let key_at : ByEachAgreeing p w.view.made (λ n. IsKeyTo p w.view (instance_by p n i) k) = λ m agrees. let before = agrees_before p c.claim-in-Some.ensures.on.kept.made agrees in key m before (instance_known_later p c.loop-code.invariant.on.kept.made i c.requires.known) c.requires.coded.1 (instance_on d e c.loop-code.invariant.on i c.requires.instance m before) in
    claims_on_each p d.view e.view w.view i c.loop-code.invariant.claims (claims_key_each p e.view w.view i k c.claim-in-Some.ensures.claims key_at) c.claim-in-Some.ensures.on.kept

pub loop-code-smaller : goal.loop-code-smaller
loop-code-smaller g c = let less = place_less (g.W.Words.held c.args.work.now).frame (g.W.Words.held c.loop-code.work).view (g.W.Words.held c.loop-code.work).view c.args.attr.0 c.args.node.0 c.args.args c.loop-code.place c.loop-code.slot.0 c.loop-code.invariant.way (own_then (g.W.Words.held c.args.work.now) (g.W.Words.held c.loop-code.work) c.loop-code.invariant.on) (at_least_itself (g.W.Words.held c.loop-code.work).view) c.in-Some.code 0 (search rules) (sym c.in-Some.ensures) in omega (arith, less)

pub loop-code-preserved : goal.loop-code-preserved
loop-code-preserved g c =
    let d = g.W.Words.held c.args.work.now in
    let e = g.W.Words.held c.loop-code.work in
    let w = g.W.Words.held c.claim-in-Some.new.self in
    let p = program_at d in
    let i = attribute_at c.args.attr c.args.node c.args.args in
    let k = argument_word c.loop-code.slot.0 c.in-Some.code in
    let own = own_then d e c.loop-code.invariant.on in
    let key = key_after d.frame e.view w.view c.args.attr.0 c.args.node.0 c.args.args c.loop-code.place c.loop-code.slot.0 c.loop-code.invariant.way own c.claim-in-Some.ensures.on.kept c.in-Some.code 0 (search rules) (sym c.in-Some.ensures) p in
    let key_at : ByEachAgreeing p w.view.made (λ n. IsKeyTo p w.view (instance_by p n i) k) = λ m agrees. let before = agrees_before p c.claim-in-Some.ensures.on.kept.made agrees in key m before (instance_known_later p c.loop-code.invariant.on.kept.made i c.requires.known) c.requires.coded.1 (instance_on d e c.loop-code.invariant.on i c.requires.instance m before) in
    record {
      on = goes_then d e w c.loop-code.invariant.on c.claim-in-Some.ensures.on;
      few = let less = place_less d.frame e.view e.view c.args.attr.0 c.args.node.0 c.args.args c.loop-code.place c.loop-code.slot.0 c.loop-code.invariant.way own (at_least_itself e.view) c.in-Some.code 0 (search rules) (sym c.in-Some.ensures) in omega (arith, less);
      way = way_next d.frame e.view w.view c.args.attr.0 c.args.node.0 c.args.args c.loop-code.place c.loop-code.slot.0 c.loop-code.invariant.way own c.claim-in-Some.ensures.on.kept c.in-Some.code c.in_ok-slot-2.slot.0 (search rules) (sym c.in-Some.ensures)
          (slot_back d e w c.in_ok-slot-2.slot.0 k c.loop-code.invariant.on c.in_ok-slot-2.ensures.slot);
      claims = claims_on_each p d.view e.view w.view i c.loop-code.invariant.claims (claims_key_each p e.view w.view i k c.claim-in-Some.ensures.claims key_at) c.claim-in-Some.ensures.on.kept;
    }

pub returns-clause-slot : goal.returns-clause-slot
returns-clause-slot g c = λ m named.
    let d = g.W.Words.held c.args.work.now in
    let e = g.W.Words.held c.loop-code.work in
    way_ends d.frame e.view (own_then d e c.loop-code.invariant.on) named c.args.attr.0 c.args.node.0 c.args.args c.loop-code.place c.loop-code.slot.0 (search rules) c.loop-code.invariant.way
