-- Rows whose places keep the first item that is put there.
use Rattle.std.proofs.Common.{◌≡◌, ℕ, zero, suc, ◌+◌, ◌<◌, ◌≤◌, Bool, true, false, ◌&&◌, ◌==◌, cond, List, [], ◌∷◌, ◌++◌, Option, Some, None, length, get_or, set, take, replicate, position, Vec, inl, inr, refl, ap, sym, subst, ◌∙◌, arith}
use Rattle.std.specs.declared.alloc.Global.{Global}
use Rattle.std.specs.List.{position_from}
use Rattle.std.specs.Option.{is_some, option_map, option_or}
use Rattle.std.specs.Vec.{with_items}
use Rattle.std.proofs.Math.ListN.{length-replicate}
use Rattle.std.proofs.lemmas.Bool.{and_from, and_left, and_right}
use Rattle.std.proofs.lemmas.Bool.Decides.{eqb_tells}
use Rattle.std.proofs.lemmas.Iterator.Adapters.{position_from-zero}
use Rattle.std.proofs.lemmas.List.{length-take-le, take_all, take_more, with_items_is}
use Rattle.attr_rules.specs.RowsKept.{at_place, with_first}

module _ {X : Type 0} where
  -- the row after an item is put at a place that is empty, that holds something, and that is past the end
  pub first_put : (row : List (Option X)) (n : ℕ) (x : X) (d : Option X) → n < length row → is_some (get_or row n d) ≡ false → set row n (Some x) ≡ with_first row n x
  first_put [] n x d h e = refl
  first_put (None ∷ row) zero x d h e = refl
  first_put (Some y ∷ row) zero x d h e = absurd cc
  first_put (y ∷ row) (suc n) x d h e = ap (λ r. y ∷ r) (first_put row n x d (omega arith) e)

  pub first_held : (row : List (Option X)) (n : ℕ) (x : X) (d : Option X) → is_some (get_or row n d) ≡ true → row ≡ with_first row n x
  first_held [] n x d e = refl
  first_held (None ∷ row) zero x d e = absurd cc
  first_held (Some y ∷ row) zero x d e = refl
  first_held (y ∷ row) (suc n) x d e = ap (λ r. y ∷ r) (first_held row n x d e)

  pub first_past : (row : List (Option X)) (n : ℕ) (x : X) → length row ≤ n → row ≡ with_first row n x
  first_past [] n x h = refl
  first_past (y ∷ row) zero x h = absurd (omega arith)
  first_past (y ∷ row) (suc n) x h = ap (λ r. y ∷ r) (first_past row n x (omega arith))

  -- as long as before
  pub length-with_first : (row : List (Option X)) (n : ℕ) (x : X) → length (with_first row n x) ≡ length row
  length-with_first [] n x = refl
  length-with_first (y ∷ row) zero x = refl
  length-with_first (y ∷ row) (suc n) x = ap suc (length-with_first row n x)

  -- what stands at that place, and at another
  pub first_same : (row : List (Option X)) (n : ℕ) (x : X) → n < length row → at_place (with_first row n x) n ≡ option_or (at_place row n) (Some x)
  first_same [] n x h = absurd (omega arith)
  first_same (y ∷ row) zero x h = refl
  first_same (y ∷ row) (suc n) x h = first_same row n x (omega arith)

  pub first_other : (row : List (Option X)) (m n : ℕ) (x : X) → (n ≡ m → ⊥) → at_place (with_first row m x) n ≡ at_place row n
  first_other [] m n x apart = refl
  first_other (y ∷ row) zero zero x apart = absurd (apart refl)
  first_other (y ∷ row) zero (suc n) x apart = refl
  first_other (y ∷ row) (suc m) zero x apart = refl
  first_other (y ∷ row) (suc m) (suc n) x apart = first_other row m n x (λ e. apart (ap suc e))

  nothing_at : (width n : ℕ) → at_place (replicate {A = Option X} width None) n ≡ None
  nothing_at zero n = refl
  nothing_at (suc width) zero = refl
  nothing_at (suc width) (suc n) = nothing_at width n

-- the first place in a list with one more element
position_from_push : {Y : Type 0} (p : Y → Bool) (n : ℕ) (ys : List Y) (y : Y) → position_from p n (ys ++ y ∷ []) ≡ option_or (position_from p n ys) (cond (p y) (Some (n + length ys)) None)
position_from_push p n [] y = let here : n ≡ n + 0 = omega arith in ap (λ k. cond (p y) (Some k) None) here
position_from_push p n (x ∷ xs) y =
    let later : (n + 1) + length xs ≡ n + suc (length xs) = omega arith in
    elim (p x) as (λ b. cond b (Some n) (position_from p (n + 1) (xs ++ y ∷ [])) ≡ option_or (cond b (Some n) (position_from p (n + 1) xs)) (cond (p y) (Some (n + suc (length xs))) None)) [
      | true ↦ refl
      | false ↦ position_from_push p (n + 1) xs y ∙ ap (λ k. option_or (position_from p (n + 1) xs) (cond (p y) (Some k) None)) later
    ]

pub position_push : {Y : Type 0} (p : Y → Bool) (ys : List Y) (y : Y) → position p (ys ++ y ∷ []) ≡ option_or (position p ys) (cond (p y) (Some (length ys)) None)
position_push p ys y =
    let end : 0 + length ys ≡ length ys = omega arith in
    position_from-zero p (ys ++ y ∷ []) ∙ position_from_push p 0 ys y ∙ ap (λ k. option_or (position_from p 0 ys) (cond (p y) (Some k) None)) end
    ∙ ap (λ o. option_or o (cond (p y) (Some (length ys)) None)) (sym (position_from-zero p ys))

pub or_none : {Y : Type 0} (o : Option Y) → option_or o None ≡ o
or_none None = refl
or_none (Some y) = refl

pub map_or : {X Y : Type 0} (f : X → Y) (o p : Option X) → option_map f (option_or o p) ≡ option_or (option_map f o) (option_map f p)
map_or f None p = refl
map_or f (Some x) p = refl

position_passed : {Y : Type 0} (p : Y → Bool) (ys : List Y) (y : Y) → p y ≡ false → position p (ys ++ y ∷ []) ≡ position p ys
position_passed p ys y fails = position_push p ys y ∙ ap (λ b. option_or (position p ys) (cond b (Some (length ys)) None)) fails ∙ or_none (position p ys)

position_taken : {Y : Type 0} (p : Y → Bool) (ys : List Y) (y : Y) → p y ≡ true → position p (ys ++ y ∷ []) ≡ option_or (position p ys) (Some (length ys))
position_taken p ys y passes = position_push p ys y ∙ ap (λ b. option_or (position p ys) (cond b (Some (length ys)) None)) passes

-- a row of so many places: at each stands the number of the first element for this place that holds
pub record AreFirst {X Y : Type 0} (number : X → ℕ) (holds : Y → Bool) (place : Y → ℕ) (ys : List Y) (width : ℕ) (row : List (Option X)) : Type 0 where
  pub long : length row ≡ width
  pub each : (n : ℕ) → n < width → option_map number (at_place row n) ≡ position (λ y. holds y && (place y == n)) ys

module _ {X Y : Type 0} (number : X → ℕ) (holds : Y → Bool) (place : Y → ℕ) (width : ℕ) where
  pub firsts_none : {row : List (Option X)} → row ≡ replicate width None → AreFirst number holds place [] width row
  firsts_none e = record { long = ap length e ∙ length-replicate width None; each = λ n h. ap (λ r. option_map number (at_place r n)) e ∙ ap (option_map number) (nothing_at width n) }

  -- one more element, which doesn't hold
  pub firsts_passed : (ys : List Y) (i : ℕ) (d : Y) {row : List (Option X)} → i < length ys → holds (get_or ys i d) ≡ false → AreFirst number holds place (take i ys) width row
      → AreFirst number holds place (take (i + 1) ys) width row
  firsts_passed ys i d within fails before = record {
    long = before.long;
    each = λ n h.
        let test : Y → Bool = λ y. holds y && (place y == n) in
        before.each n h ∙ sym (position_passed test (take i ys) (get_or ys i d) (and_left _ _ fails)) ∙ ap (position test) (sym (take_more ys i d within));
  }

  -- or which holds, and whose number is put at its place
  pub firsts_taken : (ys : List Y) (i : ℕ) (d : Y) (x : X) {row later : List (Option X)} → i < length ys → holds (get_or ys i d) ≡ true → number x ≡ i → later ≡ with_first row (place (get_or ys i d)) x
      → AreFirst number holds place (take i ys) width row → AreFirst number holds place (take (i + 1) ys) width later
  firsts_taken ys i d x {row} {later} within passes is put before = record {
    long = ap length put ∙ length-with_first row (place (get_or ys i d)) x ∙ before.long;
    each = λ n h.
        let y = get_or ys i d in
        let test : Y → Bool = λ z. holds z && (place z == n) in
        let at : option_map number (at_place later n) ≡ option_map number (at_place (with_first row (place y) x) n) = ap (λ r. option_map number (at_place r n)) put in
        let whole : position test (take (i + 1) ys) ≡ position test (take i ys ++ y ∷ []) = ap (position test) (take_more ys i d within) in
        let count : length (take i ys) ≡ i = length-take-le i ys (omega arith) in
        let wide : n < length row = omega (arith, before.long) in
        elim (eqb_tells (place y) n) [
          | inl t ↦
              at ∙ ap (λ m. option_map number (at_place (with_first row m x) n)) t.1 ∙ ap (option_map number) (first_same row n x wide) ∙ map_or number (at_place row n) (Some x)
              ∙ ap (λ o. option_or o (Some (number x))) (before.each n h) ∙ ap (λ k. option_or (position test (take i ys)) (Some k)) (is ∙ sym count)
              ∙ sym (position_taken test (take i ys) y (and_from _ _ passes t.0)) ∙ sym whole
          | inr t ↦
              at ∙ ap (option_map number) (first_other row (place y) n x (λ e. t.1 (sym e))) ∙ before.each n h ∙ sym (position_passed test (take i ys) y (and_right _ _ t.0)) ∙ sym whole
        ];
  }

  -- in the end the elements so far are all
  pub firsts_all : (ys : List Y) (i : ℕ) {row : List (Option X)} → length ys ≤ i → AreFirst number holds place (take i ys) width row → AreFirst number holds place ys width row
  firsts_all ys i {row} end before = subst (λ zs. AreFirst number holds place zs width row) (take_all i ys end) before

-- what a row in memory is after an item is put at a place
pub put_in : {X : Type 0} (row : Vec (Option X) Global) (n : ℕ) (x : X) {held new : List (Option X)} {after : Vec (Option X) Global} → held ≡ row.items → new ≡ with_first held n x → after ≡ with_items row new
    → after.items ≡ with_first row.items n x
put_in {X} row n x {held} {new} {after} same put left =
    let is : new ≡ with_first row.items n x = put ∙ ap (λ r. with_first r n x) same in
    let long : length new ≡ row.len = ap length is ∙ length-with_first row.items n x ∙ sym row.ok.0 in
    ap (λ (v : Vec (Option X) Global). v.items) left ∙ with_items_is row new long ∙ is
