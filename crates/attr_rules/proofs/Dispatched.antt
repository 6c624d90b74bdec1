-- Rows of the nearest equations, made from those of each class.
use Rattle.std.proofs.Common.{◌≡◌, ℕ, zero, suc, ◌<◌, ◌≤◌, ◌==◌, ◌&&◌, ◌^◌, List, [], ◌∷◌, false, Option, Some, None, Vec, All, length, refl, sym, ap, ◌∙◌, inl, inr, arith}
use Rattle.std.specs.declared.alloc.Global.{Global}
use Rattle.std.specs.Option.{option_and_then, option_map, option_or}
use Rattle.std.proofs.Math.ListN.{get_or-eq_default}
use Rattle.std.proofs.lemmas.Bool.{and_right, cases_lt}
use Rattle.std.proofs.lemmas.Bool.Decides.{nat_tests}
use Rattle.std.proofs.lemmas.Option.{slice_get_past}
use Rattle.ast_grammar.proofs.Positions.{position_none}
use Rattle.superclasses.specs.Superclasses.{AreWithin, line_of, line_up, superclass_of, upwards}
use Rattle.attr_rules.specs.declared.dispatch.Dispatch.{Dispatch}
use Rattle.attr_rules.specs.declared.dispatch.Reach.{Reach}
use Rattle.attr_rules.specs.declared.dispatch.Reach.TheVariants.{Own}
use Rattle.attr_rules.specs.declared.dispatch.Target.{Target}
use Rattle.attr_rules.specs.declared.kinds.EqId.{EqId}
use Rattle.attr_rules.specs.Dispatching.{AreCovered, AreOwnRows, Dispatches, IsNearestRow, IsTarget, number_at}
use Rattle.attr_rules.specs.RowsKept.{in_row}
use Rattle.attr_rules.specs.Rules.{first_of_line, is_target, nearest_equation, number_of_equation, own_equation, same_reach}
use Rattle.attr_rules.proofs.RowLists.{AreEach, at_each, there}

-- what is no class has no superclass
pub no_line : (s : List (Option ℕ)) (class : ℕ) → length s ≤ class → line_of s class ≡ []
unfolding line_of
no_line s class past = ap (line_up (length s) s) (get_or-eq_default s None past) ∙ nothing_above (length s)
  where
    nothing_above : (n : ℕ) → line_up n s None ≡ []
    nothing_above zero = refl
    nothing_above (suc n) = refl

module _ (s : List (Option ℕ)) (within : AreWithin s) (f g : ℕ → Option ℕ) (same : (c : ℕ) → c < length s → f c ≡ g c) where
  -- what is the same for each class is the same along each line
  agree_up : (n : ℕ) (above : Option ℕ) → ((c : ℕ) → above ≡ Some c → c < length s) → first_of_line f (line_up n s above) ≡ first_of_line g (line_up n s above)
  agree_up zero above inside = refl
  agree_up (suc n) None inside = refl
  agree_up (suc n) (Some j) inside =
      ap (λ o. option_or o (first_of_line f (line_up n s (superclass_of s j)))) (same j (inside j refl)) ∙ ap (option_or (g j)) (agree_up n (superclass_of s j) (within.within j))

  agree : (class : ℕ) → class < length s → first_of_line f (upwards s class) ≡ first_of_line g (upwards s class)
  unfolding line_of
  agree class h =
      ap (λ o. option_or o (first_of_line f (line_of s class))) (same class h) ∙ ap (option_or (g class)) (agree_up (length s) (superclass_of s class) (within.within class))

-- what is no class or no attribute has no equation
nothing_in_line : (f : ℕ → Option ℕ) → ((c : ℕ) → f c ≡ None) → (line : List ℕ) → first_of_line f line ≡ None
nothing_in_line f h [] = refl
nothing_in_line f h (c ∷ line) = ap (λ o. option_or o (first_of_line f line)) (h c) ∙ nothing_in_line f h line

pub other_attribute : (classes attributes a c : ℕ) (r : Reach) → attributes ≤ a → (t : Target) → IsTarget classes attributes t → is_target c r a t ≡ false
other_attribute classes attributes a c r past t h =
    let below : t.attribute.0 < attributes = h.attribute in
    let other : ((t.class.0 == c) && (t.attribute.0 == a)) ≡ false = grind (arith, nat_tests) in
    and_right (same_reach t.reach r) _ other

pub other_class : (classes attributes a c : ℕ) (r : Reach) → classes ≤ c → (t : Target) → IsTarget classes attributes t → is_target c r a t ≡ false
other_class classes attributes a c r past t h =
    let below : t.class.0 < classes = h.class in
    let other : ((t.class.0 == c) && (t.attribute.0 == a)) ≡ false = grind (arith, nat_tests) in
    and_right (same_reach t.reach r) _ other

module _ (s : List (Option ℕ)) (attributes : ℕ) (targets : List Target) (inside : All (IsTarget (length s) attributes) targets) where
  no_attribute : (class a : ℕ) → attributes ≤ a → nearest_equation s targets class a ≡ None
  no_attribute class a past = nothing_in_line (own_equation targets a) (λ c. position_none (is_target c Own a) targets (λ k d h. other_attribute (length s) attributes a c Own past _ (inside k d h))) (upwards s class)

  no_class : (class a : ℕ) → length s ≤ class → nearest_equation s targets class a ≡ None
  no_class class a past =
      ap (λ o. option_or o (first_of_line (own_equation targets a) (line_of s class))) (position_none (is_target class Own a) targets (λ k d h. other_class (length s) attributes a class Own past _ (inside k d h)))
      ∙ ap (first_of_line (own_equation targets a)) (no_line s class past)

pub dispatched : (s : List (Option ℕ)) (attributes : ℕ) (targets : List Target) (own : List (Vec (Option EqId) Global)) (d : Dispatch) → AreWithin s → All (IsTarget (length s) attributes) targets → length targets < 2 ^ 32
    → AreOwnRows (length s) attributes targets own → AreEach (IsNearestRow s own) (length own) d.rows.items → AreCovered s targets d.coverings.items → Dispatches s targets d
dispatched s attributes targets own d within inside few owns rows covered = record {
  numbered = few;
  classes = rows.long ∙ owns.long;
  each = λ class a. elim (cases_lt class (length s)) [
    | inl h ↦ elim (cases_lt a attributes) [
      | inl g ↦ found_there class a h g
      | inr g ↦ found_past class a h g ∙ sym (no_attribute s attributes targets inside class a g)
    ]
    | inr h ↦ ap (λ o. option_map number_of_equation (in_row o a)) (slice_get_past d.rows.items class (omega (arith, h, rows.long, owns.long))) ∙ sym (no_class s attributes targets inside class a h)
  ];
  covered = covered;
}
  where
    known : (class : ℕ) → class < length s → class < length own
    known class h = omega (arith, owns.long)

    found_there : (class a : ℕ) → class < length s → a < attributes → number_at d.rows.items class a ≡ nearest_equation s targets class a
    found_there class a h g =
        let held = there own class (known class h) in
        at_each (IsNearestRow s own) (λ o. option_map number_of_equation o ≡ nearest_equation s targets class a) (length own) class a rows (known class h) (λ row is.
        is.each a (omega (arith, is.wide held.0 held.1, owns.wide class held.0 held.1)) ∙ agree s within (λ c. number_at own c a) (own_equation targets a) (λ c l. owns.each c a l g) class h)

    found_past : (class a : ℕ) → class < length s → attributes ≤ a → number_at d.rows.items class a ≡ None
    found_past class a h g =
        let held = there own class (known class h) in
        at_each (IsNearestRow s own) (λ o. option_map number_of_equation o ≡ None) (length own) class a rows (known class h) (λ row is.
        ap (λ o. option_map number_of_equation (option_and_then (λ x. x) o)) (slice_get_past row a (omega (arith, g, is.wide held.0 held.1, owns.wide class held.0 held.1))))
