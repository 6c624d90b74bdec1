use Rattle.std.proofs.Common.{◌≡◌, ℕ, List, map, ap, sym, ◌∙◌, slice_get, Option, Some, None, length, ◌+◌, min, ◌-◌, ◌^◌, subst}
use Rattle.std.specs.Borrow.{Bor}
use Rattle.std.specs.Option.{option_map}
use Rattle.std.specs.Slice.{IsGetResult}
use Rattle.std.proofs.lemmas.Option.{slice_get-map, slice_get_past, slice_get-get_or}
use Rattle.std.proofs.lemmas.List.{length-map}
use Rattle.ast_rules.specs.Members.{Adds, components_in, names_of_components}
use Rattle.ast_rules.specs.Written.{seen_component, seen_rule, seen_rules}
use Rattle.ast_rules.proofs.Inheriting.{inherits_more, inherits_same}
use Rattle.ast_rules.proofs.members.inherit_from.Goals as goal

-- what `get` gives
get_is : {X : Type 0} (xs : List X) (i : ℕ) (r : Option (Bor X)) → IsGetResult xs i i r → option_map (λ x. x.now) r ≡ slice_get xs i
get_is xs i None h = sym (slice_get_past xs i h.3)
get_is xs i (Some x) h = ap Some h.1 ∙ sym (slice_get-get_or xs i x.now h.3.0)

pub returns-in_default : goal.returns-in_default
returns-in_default c =
    let found : slice_get c.args.rules.now c.args.number ≡ None = sym (get_is _ _ c.get.result c.get.ensures.lookup) ∙ ap (option_map (λ x. x.now)) c.in_default.is in
    λ line h. inherits_same (seen_rules c.args.rules.now) line _ _ c.args.number (slice_get-map seen_rule c.args.rules.now c.args.number ∙ ap (option_map seen_rule) found) h

pub returns : goal.returns
returns c =
    let found : slice_get c.args.rules.now c.args.number ≡ Some c.in-Some.rule.now = sym (get_is _ _ c.get.result c.get.ensures.lookup) ∙ ap (option_map (λ x. x.now)) c.in-Some.is in
    let own = map seen_component c.in-Some.rule.now.components.items in
    let at : own ≡ components_in (slice_get (seen_rules c.args.rules.now) c.args.number) = sym (ap components_in (slice_get-map seen_rule c.args.rules.now c.args.number ∙ ap (option_map seen_rule) found)) in
    λ line h. inherits_more (seen_rules c.args.rules.now) line _ _ _ _ c.args.number own h at
    (subst (λ xs. Adds c.args.inherited.now.names (names_of_components (map seen_component xs)) c.add_names.new.names) c.as_slice-components.ensures.value c.in_ok-add_names.ensures)
    (c.saturating_add-inherited.ensures ∙ ap (λ k. min (c.args.inherited.now.count + k) (2 ^ 64 - 1)) (ap length c.as_slice-components.ensures.value ∙ sym (length-map c.in-Some.rule.now.components.items seen_component)))
