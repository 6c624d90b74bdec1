-- Lists of the equations with a path of each class.
use Rattle.std.proofs.Common.{◌≡◌, ℕ, zero, suc, ◌+◌, ◌<◌, ◌≤◌, Bool, false, ◌&&◌, ◌==◌, cond, List, [], ◌∷◌, ◌++◌, Some, None, Vec, inl, inr, length, get_or, take, position, set, slice_get, refl, ap, sym, subst, ◌∙◌, arith}
use Rattle.std.specs.declared.alloc.Global.{Global}
use Rattle.std.specs.Option.{option_or}
use Rattle.std.specs.Vec.{with_items}
use Rattle.std.proofs.lemmas.Bool.{and_right}
use Rattle.std.proofs.lemmas.Bool.Decides.{eqb_tells}
use Rattle.std.proofs.lemmas.List.{length-set, length-take-le, length_push, take_all, take_more, with_items_is}
use Rattle.std.proofs.lemmas.Option.{slice_get-get_or}
use Rattle.attr_rules.specs.declared.dispatch.Reach.{Reach}
use Rattle.attr_rules.specs.declared.dispatch.Target.{Target}
use Rattle.attr_rules.specs.declared.kinds.EqId.{EqId}
use Rattle.attr_rules.specs.Dispatching.{AddsPath, AreOwnPaths, number_among, number_for, number_in}
use Rattle.attr_rules.specs.Rules.{is_target, same_reach}
use Rattle.attr_rules.proofs.CoveringSteps.{number_push}
use Rattle.attr_rules.proofs.FirstPlaces.{or_none, position_push}
use Rattle.attr_rules.proofs.OwnRows.{set_other, set_same}

-- an equation is put last in the list of its class
pub adds_there : (lists : List (Vec (Target × EqId) Global)) (t : Target) (e : EqId) (d new : Vec (Target × EqId) Global) → t.class.0 < length lists → new.items ≡ (get_or lists t.class.0 d).items ++ (t, e) ∷ []
    → AddsPath t e lists (set lists t.class.0 new)
adds_there lists t e d new within pushed = record {
  long = length-set lists t.class.0 new;
  each = λ class r a path.
      let held = get_or lists t.class.0 d in
      let there : (c : ℕ) → t.class.0 ≡ c → slice_get (set lists t.class.0 new) c ≡ Some new = λ c same. ap (slice_get (set lists t.class.0 new)) (sym same) ∙ set_same lists t.class.0 new within in
      let before : (c : ℕ) → t.class.0 ≡ c → slice_get lists c ≡ Some held = λ c same. ap (slice_get lists) (sym same) ∙ slice_get-get_or lists t.class.0 d within in
      elim (eqb_tells t.class.0 class) [
        | inl s ↦
            ap (λ o. number_among o r a) (there class s.1) ∙ ap (λ ps. number_for ps r a) pushed ∙ number_push held.items t e r a
            ∙ ap (λ o. option_or (number_among o r a) (cond (same_reach t.reach r && (t.attribute.0 == a)) (Some e.0) None)) (sym (before class s.1))
            ∙ ap (λ b. option_or (number_in lists class r a) (cond (same_reach t.reach r && (b && (t.attribute.0 == a))) (Some e.0) None)) (sym s.0)
        | inr s ↦
            let other : is_target class r a t ≡ false = and_right (same_reach t.reach r) _ (ap (λ b. b && (t.attribute.0 == a)) s.0) in
            ap (λ o. number_among o r a) (set_other lists t.class.0 class new (λ k. s.1 (sym k)))
            ∙ sym (ap (λ b. option_or (number_in lists class r a) (cond b (Some e.0) None)) other ∙ or_none (number_in lists class r a))
      ];
}

-- what lists in memory are after an equation is added to them
pub adds_within : (t : Target) (e : EqId) (lists : Vec (Vec (Target × EqId) Global) Global) {held new : List (Vec (Target × EqId) Global)} {after : Vec (Vec (Target × EqId) Global) Global} → held ≡ lists.items → AddsPath t e held new
    → after ≡ with_items lists new → AddsPath t e lists.items after.items
adds_within t e lists {held} {new} {after} same adds left =
    let long : length new ≡ lists.len = adds.long ∙ ap length same ∙ sym lists.ok.0 in
    let is : after.items ≡ new = ap (λ (v : Vec (Vec (Target × EqId) Global) Global). v.items) left ∙ with_items_is lists new long in
    subst (λ old. AddsPath t e old after.items) same (subst (λ now. AddsPath t e held now) (sym is) adds)

none_pushed : (lists : List (Vec (Target × EqId) Global)) (v : Vec (Target × EqId) Global) (class : ℕ) (r : Reach) (a : ℕ) → v.items ≡ [] → number_in lists class r a ≡ None → number_in (lists ++ v ∷ []) class r a ≡ None
none_pushed [] v zero r a none h = ap (λ ps. number_for ps r a) none
none_pushed [] v (suc class) r a none h = refl
none_pushed (x ∷ lists) v zero r a none h = h
none_pushed (x ∷ lists) v (suc class) r a none h = none_pushed lists v class r a none h

-- a list more in which nothing stands
pub lists_more : (count : ℕ) (v : Vec (Target × EqId) Global) {lists later : List (Vec (Target × EqId) Global)} → v.items ≡ [] → later ≡ lists ++ v ∷ [] → AreOwnPaths count [] lists → AreOwnPaths (count + 1) [] later
lists_more count v {lists} {later} none pushed before = record {
  long = (let one : length later ≡ length lists + 1 = ap length pushed ∙ length_push lists v in omega (arith, before.long));
  each = λ class r a path. ap (λ ls. number_in ls class r a) pushed ∙ none_pushed lists v class r a none (before.each class r a path);
}

-- one equation more
pub paths_more : (classes : ℕ) (targets : List Target) (i : ℕ) (d : Target) (e : EqId) {before after : List (Vec (Target × EqId) Global)} → i < length targets → e.0 ≡ i → AddsPath (get_or targets i d) e before after
    → AreOwnPaths classes (take i targets) before → AreOwnPaths classes (take (i + 1) targets) after
paths_more classes targets i d e {before} {after} within is adds so_far = record {
  long = adds.long ∙ so_far.long;
  each = λ class r a path.
      let t = get_or targets i d in
      let test : Target → Bool = is_target class r a in
      let count : length (take i targets) ≡ i = length-take-le i targets (omega arith) in
      adds.each class r a path ∙ ap (λ o. option_or o (cond (test t) (Some e.0) None)) (so_far.each class r a path)
      ∙ ap (λ k. option_or (position test (take i targets)) (cond (test t) (Some k) None)) (is ∙ sym count)
      ∙ sym (position_push test (take i targets) t) ∙ ap (position test) (sym (take_more targets i d within));
}

-- in the end the equations so far are all
pub paths_all : (classes : ℕ) (targets : List Target) (i : ℕ) {lists : List (Vec (Target × EqId) Global)} → length targets ≤ i → AreOwnPaths classes (take i targets) lists → AreOwnPaths classes targets lists
paths_all classes targets i {lists} end so_far = subst (λ ts. AreOwnPaths classes ts lists) (take_all i targets end) so_far
