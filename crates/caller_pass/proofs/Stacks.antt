-- The instances that wait, as a list.
use Rattle.std.proofs.Common.{◌≡◌, Option, Some, None, IfSome, Bool, true, false, ◌||◌, is_some, if◌then◌else◌, List, [], ◌∷◌, ◌++◌, option_map, option_to_list, refl, sym, ap, ◌∙◌}
use Rattle.std.specs.List.{list_any}
use Rattle.std.specs.Map.{keys_of}
use Rattle.std.proofs.lemmas.Map.Made.{is_some-lookup}
use Rattle.indexmap.specs.IndexMap.{IndexMap, Updates, insert_entry}
use Rattle.equation_law.specs.declared.coding.Instance.{Instance as CodedInstance}
use Rattle.equation_law.specs.contracts.coding.InstancePartialEq.TheImpl as equality
use Rattle.caller_pass.specs.declared.waiting.Packed.{Packed}
use Rattle.caller_pass.specs.declared.waiting.Waiter.{Waiter}
use Rattle.caller_pass.specs.Packing.{all_unpacked, unpacked, unpacked_entry}
use Rattle.caller_pass.specs.Waiting.{waits}
use Rattle.caller_pass.proofs.Listing.{map_both}

neither : (a b : Bool) → (a || b) ≡ false → (a ≡ false) × (b ≡ false)
neither true b e = cc
neither false b e = (refl, e)

-- packing them keeps their instances
keys_unpacked : (es : List (CodedInstance × Packed)) → keys_of (all_unpacked es) ≡ keys_of es
keys_unpacked [] = refl
keys_unpacked (e ∷ es) = ap (λ ks. e.0 ∷ ks) (keys_unpacked es)

pub waits_unpacked : (es : List (CodedInstance × Packed)) (i : CodedInstance) → list_any (equality.ghosts.eq i) (keys_of es) ≡ waits (all_unpacked es) i
waits_unpacked es i = ap (list_any (equality.ghosts.eq i)) (sym (keys_unpacked es))

-- one that was taken away waits no more
pub gone : {S : Type 0} (m n : IndexMap CodedInstance Packed S) (r : Option (CodedInstance × Packed)) → IfSome r (λ e. Updates equality.ghosts.eq m n e.0 None) → IfSome r (λ e. waits (all_unpacked n.entries) e.0 ≡ false)
gone m n None h = tt
gone m n (Some e) h = sym (is_some-lookup (equality.ghosts.eq e.0) n.entries ∙ waits_unpacked n.entries e.0) ∙ ap is_some h.1

-- the last one was taken away
pub took : (old new : List (CodedInstance × Packed)) (r : Option (CodedInstance × Packed)) → old ≡ new ++ option_to_list r → all_unpacked old ≡ all_unpacked new ++ option_to_list (option_map unpacked_entry r)
took old new None is = ap all_unpacked is ∙ map_both unpacked_entry new []
took old new (Some e) is = ap all_unpacked is ∙ map_both unpacked_entry new (e ∷ [])

-- one that doesn't wait yet comes last
comes_last : (es : List (CodedInstance × Packed)) (i : CodedInstance) (s : Packed) → list_any (equality.ghosts.eq i) (keys_of es) ≡ false → insert_entry equality.ghosts.eq es i s ≡ es ++ (i, s) ∷ []
comes_last [] i s h = refl
comes_last (e ∷ es) i s h =
    let parts = neither (equality.ghosts.eq i e.0) (list_any (equality.ghosts.eq i) (keys_of es)) h in
    ap (λ (b : Bool). if b then (e.0, s) ∷ es else e ∷ insert_entry equality.ghosts.eq es i s) parts.0 ∙ ap (λ l. e ∷ l) (comes_last es i s parts.1)

pub pushed : (es : List (CodedInstance × Packed)) (old : List (CodedInstance × Waiter)) → all_unpacked es ≡ old → (i : CodedInstance) (s : Packed) (x : Waiter) → unpacked s ≡ x → waits old i ≡ false → all_unpacked (insert_entry equality.ghosts.eq es i s) ≡ old ++ (i, x) ∷ []
pushed es old is i s x packed free =
    let none = waits_unpacked es i ∙ ap (λ l. waits l i) is ∙ free in
    ap all_unpacked (comes_last es i s none) ∙ map_both unpacked_entry es ((i, s) ∷ []) ∙ ap (λ l. l ++ (i, unpacked s) ∷ []) is ∙ ap (λ y. old ++ (i, y) ∷ []) packed
