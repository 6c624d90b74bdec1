-- Rows whose empty places are filled from the rows of the superclasses, the nearest first.
use Rattle.std.proofs.Common.{◌≡◌, ℕ, zero, suc, ◌+◌, ◌<◌, List, [], ◌∷◌, Option, Some, None, Vec, length, get_or, take, slice_get, refl, ap, sym, ◌∙◌, arith}
use Rattle.std.specs.declared.alloc.Global.{Global}
use Rattle.std.specs.Option.{option_map, option_or}
use Rattle.std.specs.Vec.{with_items}
use Rattle.std.proofs.lemmas.List.{with_items_is}
use Rattle.superclasses.specs.Superclasses.{line_of, line_up, superclass_of, upwards}
use Rattle.attr_rules.specs.declared.kinds.EqId.{EqId}
use Rattle.attr_rules.specs.Dispatching.{IsNearestRow, filled, number_at}
use Rattle.attr_rules.specs.RowsKept.{at_place, at_row, in_row, with_first}
use Rattle.attr_rules.specs.Rules.{first_of_line, number_of_equation}
use Rattle.attr_rules.proofs.FirstPlaces.{map_or, or_none}

-- a row that is filled with nothing, and with one place more
pub filled_nothing : (row : List (Option EqId)) → row ≡ filled row []
filled_nothing [] = refl
filled_nothing (x ∷ row) = refl

filled_empty : (row above : List (Option EqId)) (i : ℕ) (d : Option EqId) → i < length above → get_or above i d ≡ None → filled row (take i above) ≡ filled row (take (suc i) above)
filled_empty [] above i d h e = refl
filled_empty (x ∷ row) [] i d h e = absurd (omega arith)
filled_empty (x ∷ row) (y ∷ above) zero d h e = ap (λ r. x ∷ r) (filled_nothing row) ∙ ap (λ o. o ∷ filled row []) (sym (or_none x)) ∙ ap (λ o. option_or x o ∷ filled row []) (sym e)
filled_empty (x ∷ row) (y ∷ above) (suc i) d h e = ap (λ r. option_or x y ∷ r) (filled_empty row above i d (omega arith) e)

filled_held : (row above : List (Option EqId)) (i : ℕ) (d : Option EqId) (z : EqId) → i < length above → get_or above i d ≡ Some z → with_first (filled row (take i above)) i z ≡ filled row (take (suc i) above)
filled_held [] above i d z h e = refl
filled_held (x ∷ row) [] i d z h e = absurd (omega arith)
filled_held (x ∷ row) (y ∷ above) zero d z h e = ap (λ r. option_or x (Some z) ∷ r) (filled_nothing row) ∙ ap (λ o. option_or x o ∷ filled row []) (sym e)
filled_held (x ∷ row) (y ∷ above) (suc i) d z h e = ap (λ r. option_or x y ∷ r) (filled_held row above i d z (omega arith) e)

module _ (row above : List (Option EqId)) (i : ℕ) (d : Option EqId) (within : i < length above) {before later : List (Option EqId)} (so_far : before ≡ filled row (take i above)) where
  pub filled_passed : get_or above i d ≡ None → later ≡ before → later ≡ filled row (take (i + 1) above)
  filled_passed e same = let next : suc i ≡ i + 1 = omega arith in same ∙ so_far ∙ filled_empty row above i d within e ∙ ap (λ n. filled row (take n above)) next

  pub filled_taken : (z : EqId) → get_or above i d ≡ Some z → later ≡ with_first before i z → later ≡ filled row (take (i + 1) above)
  filled_taken z e put = let next : suc i ≡ i + 1 = omega arith in put ∙ ap (λ r. with_first r i z) so_far ∙ filled_held row above i d z within e ∙ ap (λ n. filled row (take n above)) next

length-filled : (row above : List (Option EqId)) → length (filled row above) ≡ length row
length-filled [] above = refl
length-filled (x ∷ row) [] = refl
length-filled (x ∷ row) (y ∷ above) = ap suc (length-filled row above)

at_filled : (row above : List (Option EqId)) (a : ℕ) → a < length row → at_place (filled row above) a ≡ option_or (at_place row a) (at_place above a)
at_filled [] above a h = absurd (omega arith)
at_filled (x ∷ row) [] a h = sym (or_none (at_place (x ∷ row) a))
at_filled (x ∷ row) (y ∷ above) zero h = refl
at_filled (x ∷ row) (y ∷ above) (suc a) h = at_filled row above a (omega arith)

-- a row in memory that is filled from a slice
pub filled_in : (row : Vec (Option EqId) Global) (above : List (Option EqId)) {held from new : List (Option EqId)} {after : Vec (Option EqId) Global} → held ≡ row.items → from ≡ above → new ≡ filled held from → after ≡ with_items row new
    → after.items ≡ filled row.items above
filled_in row above {held} {from} {new} {after} same is fills left =
    let all : new ≡ filled row.items above = fills ∙ ap (λ r. filled r from) same ∙ ap (filled row.items) is in
    let long : length new ≡ row.len = ap length all ∙ length-filled row.items above ∙ sym row.ok.0 in
    ap (λ (v : Vec (Option EqId) Global). v.items) left ∙ with_items_is row new long ∙ all

pub or_assoc : {X : Type 0} (o p q : Option X) → option_or (option_or o p) q ≡ option_or o (option_or p q)
or_assoc None p q = refl
or_assoc (Some x) p q = refl

module _ (s : List (Option ℕ)) (own : List (Vec (Option EqId) Global)) (class : ℕ) where
  -- the row so far, and the classes that are left, at most so many
  pub record Climbs (left : ℕ) (above : Option ℕ) (row : List (Option EqId)) : Type 0 where
    pub wide : (held : Vec (Option EqId) Global) → slice_get own class ≡ Some held → length row ≡ length held.items
    pub each : (a : ℕ) → a < length row → option_or (option_map number_of_equation (at_place row a)) (first_of_line (λ c. number_at own c a) (line_up left s above)) ≡ first_of_line (λ c. number_at own c a) (upwards s class)

  pub climbs_first : (held : Vec (Option EqId) Global) {left : ℕ} {above : Option ℕ} {row : List (Option EqId)} → slice_get own class ≡ Some held → row ≡ held.items → left ≡ length s → above ≡ superclass_of s class → Climbs left above row
  unfolding line_of
  climbs_first held {left} {above} {row} here same all up = record {
    wide = λ h e. ap length same ∙ (let is : held ≡ h = cc in ap (λ (v : Vec (Option EqId) Global). length v.items) is);
    each = λ a h.
        let at : at_place row a ≡ at_row own class a = ap (λ r. at_place r a) same ∙ sym (ap (λ (o : Option (Vec (Option EqId) Global)). in_row o a) here) in
        ap (λ o. option_or (option_map number_of_equation o) (first_of_line (λ c. number_at own c a) (line_up left s above))) at
        ∙ ap (λ o. option_or (number_at own class a) (first_of_line (λ c. number_at own c a) (line_up left s o))) up
        ∙ ap (λ n. option_or (number_at own class a) (first_of_line (λ c. number_at own c a) (line_up n s (superclass_of s class)))) all;
  }

  module _ (left number : ℕ) {above up : Option ℕ} {row : List (Option EqId)} (is : above ≡ Some number) (next : up ≡ superclass_of s number) (so_far : Climbs (suc left) above row) where
    -- what stands at a place and what the classes have that are left, the next one first
    at_next : (a : ℕ) → a < length row → option_or (option_map number_of_equation (at_place row a)) (option_or (number_at own number a) (first_of_line (λ c. number_at own c a) (line_up left s up))) ≡ first_of_line (λ c. number_at own c a) (upwards s class)
    at_next a h =
        ap (λ o. option_or (option_map number_of_equation (at_place row a)) (option_or (number_at own number a) (first_of_line (λ c. number_at own c a) (line_up left s o)))) next
        ∙ ap (λ o. option_or (option_map number_of_equation (at_place row a)) (first_of_line (λ c. number_at own c a) (line_up (suc left) s o))) (sym is) ∙ so_far.each a h

    -- the next class has a row, or none
    pub climbs_held : (held : Vec (Option EqId) Global) {later : List (Option EqId)} → slice_get own number ≡ Some held → later ≡ filled row held.items → Climbs left up later
    climbs_held held {later} here fills = record {
      wide = λ h e. ap length fills ∙ length-filled row held.items ∙ so_far.wide h e;
      each = λ a h.
          let short : a < length row = omega (arith, ap length fills, length-filled row held.items) in
          let rest = first_of_line (λ c. number_at own c a) (line_up left s up) in
          let there : at_place held.items a ≡ at_row own number a = sym (ap (λ (o : Option (Vec (Option EqId) Global)). in_row o a) here) in
          ap (λ r. option_or (option_map number_of_equation (at_place r a)) rest) fills ∙ ap (λ o. option_or (option_map number_of_equation o) rest) (at_filled row held.items a short)
          ∙ ap (λ o. option_or (option_map number_of_equation (option_or (at_place row a) o)) rest) there
          ∙ ap (λ o. option_or o rest) (map_or number_of_equation (at_place row a) (at_row own number a)) ∙ or_assoc (option_map number_of_equation (at_place row a)) (number_at own number a) rest
          ∙ at_next a short;
    }

    pub climbs_past : slice_get own number ≡ None → Climbs left up row
    climbs_past past = record {
      wide = so_far.wide;
      each = λ a h.
          let rest = first_of_line (λ c. number_at own c a) (line_up left s up) in
          let none : number_at own number a ≡ None = ap (λ (o : Option (Vec (Option EqId) Global)). option_map number_of_equation (in_row o a)) past in
          ap (λ o. option_or (option_map number_of_equation (at_place row a)) (option_or o rest)) (sym none) ∙ at_next a h;
    }

  -- no class is left
  pub climbs_end : (left : ℕ) (above : Option ℕ) {row : List (Option EqId)} → line_up left s above ≡ [] → Climbs left above row → IsNearestRow s own class row
  climbs_end left above {row} none so_far = record {
    each = λ a h.
        sym (or_none (option_map number_of_equation (at_place row a))) ∙ ap (λ cs. option_or (option_map number_of_equation (at_place row a)) (first_of_line (λ c. number_at own c a) cs)) (sym none) ∙ so_far.each a h;
    wide = so_far.wide;
  }
