use Rattle.std.proofs.Common.{◌≡◌, ◌++◌, ◌∷◌, [], Bor, List, ap, map, option_map, refl, sym, subst, ◌∙◌}
use Rattle.std.proofs.lemmas.Map.Iter.{iter_end}
use Rattle.equation_law.specs.declared.coding.Instance.{Instance as CodedInstance}
use Rattle.equation_law.specs.Codes.{instance_by}
use Rattle.caller_pass.specs.declared.waiting.Packed.{Packed}
use Rattle.caller_pass.specs.Packing.{all_unpacked, unpacked_entry}
use Rattle.caller_pass.specs.Waiting.{IsLineTo}
use Rattle.caller_pass.proofs.Listing.{AreListed, listed_line, listed_path, listed_plain, map_both}
use Rattle.caller_pass.proofs.waiting.Waiting.chain.Goals as goal

-- one more of them
one_more : (seen : List (Bor CodedInstance × Bor Packed)) (e : Bor CodedInstance × Bor Packed) → all_unpacked (map (λ x. (x.0.now, x.1.now)) (seen ++ e ∷ [])) ≡ all_unpacked (map (λ x. (x.0.now, x.1.now)) seen) ++ unpacked_entry (e.0.now, e.1.now) ∷ []
one_more seen e = ap all_unpacked (map_both (λ x. (x.0.now, x.1.now)) seen (e ∷ [])) ∙ map_both unpacked_entry (map (λ x. (x.0.now, x.1.now)) seen) ((e.0.now, e.1.now) ∷ [])

pub loop-instance-preserved-in-Continue-branch-2 : goal.loop-instance-preserved-in-Continue-branch-2
loop-instance-preserved-in-Continue-branch-2 c =
    subst (λ es. AreListed es c.push_path.new.list.items) (sym (one_more c.loop-instance.yielded (c.in-Some.instance, c.in-Some.packed)))
    (listed_path (all_unpacked (map (λ x. (x.0.now, x.1.now)) c.loop-instance.yielded)) c.loop-instance.list.items (unpacked_entry (c.in-Some.instance.now, c.in-Some.packed.now)) c.push.new.list.items c.push_path.new.list.items c.in-Some-way_in.local.now c.loop-instance.invariant (sym c.way_in.ensures ∙ ap (option_map (λ l. l.now)) c.in-Some-way_in.is) c.in_ok-push.ensures c.in_ok-push_path.ensures)

pub loop-instance-preserved : goal.loop-instance-preserved
loop-instance-preserved c =
    subst (λ es. AreListed es c.push.new.list.items) (sym (one_more c.loop-instance.yielded (c.in-Some.instance, c.in-Some.packed)))
    (listed_plain (all_unpacked (map (λ x. (x.0.now, x.1.now)) c.loop-instance.yielded)) c.loop-instance.list.items (unpacked_entry (c.in-Some.instance.now, c.in-Some.packed.now)) c.push.new.list.items c.loop-instance.invariant (sym c.way_in.ensures ∙ ap (option_map (λ l. l.now)) c.in_default.is) c.in_ok-push.ensures)

pub returns : goal.returns
returns c = λ p names f v waiting.
    let shown = (iter_end (λ x. (x.0.now, x.1.now)) _ _ _ _ _ _ refl c.loop-instance.yielded_by c.in-None.is c.next.ensures.steps).0 in
    let all = ap all_unpacked (shown ∙ c.into_iter-instance-iterator.ensures.into_iter_gives.0) ∙ c.self.view_is in
    let listed = subst (λ es. AreListed es c.loop-instance.list.items) all c.loop-instance.invariant in
    subst (λ (xs : List CodedInstance). IsLineTo p names c.args.self.now (instance_by p names c.args.on) (map (instance_by p names) xs)) (sym (c.new.ensures ∙ c.in_ok-push-2.ensures))
    (listed_line p names f v c.args.self.now c.loop-instance.list.items c.args.on listed waiting)
