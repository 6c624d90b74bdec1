-- Rows in which each equation is put at the place of its class and attribute, where there is none yet.
use Rattle.std.proofs.Common.{◌≡◌, ℕ, zero, suc, ◌+◌, ◌<◌, ◌≤◌, ◌==◌, ◌&&◌, Bool, true, false, position, List, [], ◌∷◌, ◌++◌, Option, Some, None, Vec, inl, inr, length, get_or, take, replicate, set, slice_get, refl, ap, sym, subst, ◌∙◌, arith}
use Rattle.std.specs.declared.alloc.Global.{Global}
use Rattle.std.proofs.Math.Bool.{and_assoc}
use Rattle.std.proofs.lemmas.Bool.{and_from, and_left, and_right, cases_Bool}
use Rattle.std.proofs.lemmas.Bool.Decides.{eqb_tells}
use Rattle.std.specs.Option.{option_map}
use Rattle.std.specs.Vec.{with_items}
use Rattle.std.proofs.lemmas.List.{length-set, with_items_is}
use Rattle.std.proofs.lemmas.Option.{slice_get-get_or, slice_get_past}
use Rattle.attr_rules.specs.declared.dispatch.Reach.TheVariants.{Own}
use Rattle.attr_rules.specs.declared.dispatch.Target.{Target}
use Rattle.attr_rules.specs.declared.kinds.EqId.{EqId}
use Rattle.attr_rules.specs.Dispatching.{AreEmptyRows, AreOwnRows, PutsFirst}
use Rattle.attr_rules.specs.RowsKept.{with_first}
use Rattle.attr_rules.specs.Rules.{is_target, number_of_equation, own_equation, same_reach}
use Rattle.attr_rules.proofs.FirstPlaces.{AreFirst, firsts_all, firsts_none, firsts_passed, firsts_taken, put_in}
use Rattle.attr_rules.proofs.RowLists.{AreEach, at_each, each_more}

-- the equation is one of this class, and without a path
abbrev pub is_own : ℕ → Target → Bool
is_own class t = same_reach t.reach Own && (t.class.0 == class)

abbrev pub place_of : Target → ℕ
place_of t = t.attribute.0

-- the row of a class, by the first so many equations
abbrev pub Firsts : List Target → ℕ → ℕ → ℕ → List (Option EqId) → Type 0
Firsts targets attributes i class row = AreFirst number_of_equation (is_own class) place_of (take i targets) attributes row

module _ (targets : List Target) (attributes classes : ℕ) where
  pub own_none : {rows : List (Vec (Option EqId) Global)} → AreEmptyRows classes attributes rows → AreEach (Firsts targets attributes 0) classes rows
  own_none {rows} empty = record { long = empty.long; each = λ class row e. firsts_none number_of_equation (is_own class) place_of attributes (empty.each class row e) }

  -- one more equation is put
  pub own_more : (i : ℕ) (d : Target) (x : EqId) {before after : List (Vec (Option EqId) Global)} → i < length targets → number_of_equation x ≡ i → PutsFirst (get_or targets i d) x before after
      → AreEach (Firsts targets attributes i) classes before → AreEach (Firsts targets attributes (i + 1)) classes after
  own_more i d x {before} {after} within is puts so_far =
      let t = get_or targets i d in
      record {
        long = puts.long ∙ so_far.long;
        each = λ class row e. elim (cases_Bool (same_reach t.reach Own)) [
          | inl own ↦ elim (eqb_tells t.class.0 class) [
            | inl h ↦
                let held = puts.there own row (ap (slice_get after) h.1 ∙ e) in
                firsts_taken number_of_equation (is_own class) place_of attributes targets i d x within (and_from _ _ own h.0) is held.2 (so_far.each class held.0 (ap (slice_get before) (sym h.1) ∙ held.1))
            | inr h ↦
                firsts_passed number_of_equation (is_own class) place_of attributes targets i d within (and_right _ _ h.0) (so_far.each class row (sym (puts.apart class (λ k. h.1 (sym k))) ∙ e))
          ]
          | inr path ↦
              firsts_passed number_of_equation (is_own class) place_of attributes targets i d within (and_left _ _ path) (so_far.each class row (ap (λ rows. slice_get rows class) (sym (puts.path path)) ∙ e))
        ];
      }

  -- the reach, the class and the attribute are tested one after another
  own_test : (class a : ℕ) (t : Target) → (is_own class t && (place_of t == a)) ≡ is_target class Own a t
  own_test class a t = and_assoc (same_reach t.reach Own) (t.class.0 == class) (t.attribute.0 == a)

  -- in the end the equations so far are all
  pub own_all : (i : ℕ) {rows : List (Vec (Option EqId) Global)} → length targets ≤ i → AreEach (Firsts targets attributes i) classes rows → AreOwnRows classes attributes targets rows
  own_all i {rows} end so_far = record {
    long = so_far.long;
    wide = λ class row e. (so_far.each class row e).long;
    each = λ class a h g.
        at_each (Firsts targets attributes i) (λ o. option_map number_of_equation o ≡ own_equation targets a class) classes class a so_far h
        (λ row is.
        (firsts_all number_of_equation (is_own class) place_of attributes targets i end is).each a g ∙ ap (λ (test : Target → Bool). position test targets) (λ k t. own_test class a t k));
  }

module _ (attributes : ℕ) where
  pub empty_more : (count : ℕ) (row : Vec (Option EqId) Global) {rows later : List (Vec (Option EqId) Global)} → row.items ≡ replicate attributes None → later ≡ rows ++ row ∷ [] → AreEmptyRows count attributes rows → AreEmptyRows (count + 1) attributes later
  empty_more count row is pushed before =
      let all = each_more (λ _ r. r ≡ replicate attributes None) count row is pushed (record { long = before.long; each = before.each }) in record { long = all.long; each = all.each }

-- what rows in memory are after an equation is put into them
pub put_within : (t : Target) (e : EqId) (rows : Vec (Vec (Option EqId) Global) Global) {held new : List (Vec (Option EqId) Global)} {after : Vec (Vec (Option EqId) Global) Global} → held ≡ rows.items → PutsFirst t e held new → after ≡ with_items rows new
    → PutsFirst t e rows.items after.items
put_within t e rows {held} {new} {after} same puts left =
    let long : length new ≡ rows.len = puts.long ∙ ap length same ∙ sym rows.ok.0 in
    let is : after.items ≡ new = ap (λ (v : Vec (Vec (Option EqId) Global) Global). v.items) left ∙ with_items_is rows new long in
    subst (λ old. PutsFirst t e old after.items) same (subst (λ now. PutsFirst t e held now) (sym is) puts)

-- what stands in a list after an item is set, at its place and at another
pub set_same : {Y : Type 0} (ys : List Y) (n : ℕ) (y : Y) → n < length ys → slice_get (set ys n y) n ≡ Some y
set_same [] n y h = absurd (omega arith)
set_same (z ∷ ys) zero y h = refl
set_same (z ∷ ys) (suc n) y h = set_same ys n y (omega arith)

pub set_other : {Y : Type 0} (ys : List Y) (n k : ℕ) (y : Y) → (k ≡ n → ⊥) → slice_get (set ys n y) k ≡ slice_get ys k
set_other [] n k y apart = refl
set_other (z ∷ ys) zero zero y apart = absurd (apart refl)
set_other (z ∷ ys) zero (suc k) y apart = refl
set_other (z ∷ ys) (suc n) zero y apart = refl
set_other (z ∷ ys) (suc n) (suc k) y apart = set_other ys n k y (λ e. apart (ap suc e))

module _ (rows : List (Vec (Option EqId) Global)) (t : Target) (e : EqId) where
  pub puts_there : (d : Vec (Option EqId) Global) {row new : List (Option EqId)} → same_reach t.reach Own ≡ true → t.class.0 < length rows → row ≡ (get_or rows t.class.0 d).items → new ≡ with_first row t.attribute.0 e
      → PutsFirst t e rows (set rows t.class.0 (with_items (get_or rows t.class.0 d) new))
  puts_there d {row} {new} own within same put =
      let held = get_or rows t.class.0 d in
      record {
        long = length-set rows t.class.0 (with_items held new);
        there = λ _ r h.
            let later : with_items held new ≡ r = (let some : Some (with_items held new) ≡ Some r = sym (set_same rows t.class.0 (with_items held new) within) ∙ h in cc) in
            (held, slice_get-get_or rows t.class.0 d within, ap (λ (v : Vec (Option EqId) Global). v.items) (sym later) ∙ put_in held t.attribute.0 e same put refl);
        apart = λ class h. set_other rows t.class.0 class (with_items held new) h;
        path = λ h. absurd (let other : true ≡ false = sym own ∙ h in cc);
      }

  pub puts_nowhere : length rows ≤ t.class.0 → PutsFirst t e rows rows
  puts_nowhere past = record { long = refl; there = λ _ r h. absurd (let none : slice_get rows t.class.0 ≡ None = slice_get_past rows t.class.0 past in cc); apart = λ class h. refl; path = λ h. refl }

  -- nor is one put that has a path
  pub puts_no_path : same_reach t.reach Own ≡ false → PutsFirst t e rows rows
  puts_no_path path = record { long = refl; there = λ own r h. absurd (let other : true ≡ false = sym own ∙ path in cc); apart = λ class h. refl; path = λ h. refl }
