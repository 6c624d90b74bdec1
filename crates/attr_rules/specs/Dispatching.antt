-- Rows of equations: for each class a place for each attribute.
use Rattle.std.specs.Prelude.{◌≡◌, ◌==◌, ◌&&◌, ℕ, ◌<◌, ◌^◌, true, false, List, [], ◌∷◌, Option, Some, None, Vec, if◌then◌else◌, length, replicate, slice_get}
use Rattle.std.specs.Option.{option_and_then, option_map, option_or}
use Rattle.std.specs.declared.alloc.Global.{Global}
use Rattle.superclasses.specs.Superclasses.{upwards}
use Rattle.std.specs.HashMap.{HashMap}
use Rattle.std.specs.Map.{lookup}
use Rattle.attr_rules.specs.declared.dispatch.Dispatch.{Dispatch}
use Rattle.attr_rules.specs.declared.dispatch.Reach.{Reach}
use Rattle.attr_rules.specs.declared.dispatch.Reach.TheVariants.{Own, Component as AtComponent, Children, Created as AtCreated}
use Rattle.attr_rules.specs.declared.dispatch.Via.{Via}
use Rattle.attr_rules.specs.declared.dispatch.Via.TheVariants.{Component as ByComponent, Created as ByCreated}
use Rattle.attr_rules.specs.declared.covering.Covering.{Covering}
use Rattle.attr_rules.specs.declared.covering.Key.{Key}
use Rattle.attr_rules.specs.declared.dispatch.Target.{Target}
use Rattle.ast_grammar.specs.declared.grammar.ClassId.{ClassId}
use Rattle.attr_rules.specs.declared.kinds.AttrId.{AttrId}
use Rattle.attr_rules.specs.declared.kinds.EqId.{EqId}
use Rattle.attr_rules.specs.RowsKept.{at_place, at_row, with_first}
use Rattle.attr_rules.specs.Rules.{covering_equation, equation_at, first_of_line, is_target, nearest_equation, number_of_equation, own_equation, reach_via, same_reach, same_via}

-- the number of the equation at a place
abbrev pub number_at : List (Vec (Option EqId) Global) → ℕ → ℕ → Option ℕ
number_at rows class a = option_map number_of_equation (at_row rows class a)

-- rows of so many places for so many classes, in which nothing stands
pub record AreEmptyRows (classes attributes : ℕ) (rows : List (Vec (Option EqId) Global)) : Type 0 where
  pub long : length rows ≡ classes
  pub each : (class : ℕ) (row : Vec (Option EqId) Global) → slice_get rows class ≡ Some row → row.items ≡ replicate attributes None

-- an equation without a path is put at the place of its target, where there is none yet; all else stays
pub record PutsFirst (t : Target) (e : EqId) (before after : List (Vec (Option EqId) Global)) : Type 0 where
  pub long : length after ≡ length before
  pub there : same_reach t.reach Own ≡ true → (row : Vec (Option EqId) Global) → slice_get after t.class.0 ≡ Some row → (held : Vec (Option EqId) Global) × (slice_get before t.class.0 ≡ Some held) × (row.items ≡ with_first held.items t.attribute.0 e)
  pub apart : (class : ℕ) → (class ≡ t.class.0 → ⊥) → slice_get after class ≡ slice_get before class
  pub path : same_reach t.reach Own ≡ false → after ≡ before

-- the rows of the equations of exactly each class, with a place for each of so many attributes
pub record AreOwnRows (classes attributes : ℕ) (targets : List Target) (rows : List (Vec (Option EqId) Global)) : Type 0 where
  pub long : length rows ≡ classes
  pub wide : (class : ℕ) (row : Vec (Option EqId) Global) → slice_get rows class ≡ Some row → length row.items ≡ attributes
  pub each : (class a : ℕ) → class < classes → a < attributes → number_at rows class a ≡ own_equation targets a class

-- a row whose empty places are filled with what stands there in another
abbrev pub filled : List (Option EqId) → List (Option EqId) → List (Option EqId)
filled [] above = []
filled (x ∷ row) [] = x ∷ row
filled (x ∷ row) (y ∷ above) = option_or x y ∷ filled row above

-- the row of a class and its superclasses, by the rows of each: what stands at a place is that of the nearest class that has something there
pub record IsNearestRow (superclasses : List (Option ℕ)) (own : List (Vec (Option EqId) Global)) (class : ℕ) (row : List (Option EqId)) : Type 0 where
  pub each : (a : ℕ) → a < length row → option_map number_of_equation (at_place row a) ≡ first_of_line (λ c. number_at own c a) (upwards superclasses class)
  pub wide : (held : Vec (Option EqId) Global) → slice_get own class ≡ Some held → length row ≡ length held.items

-- an equation for one of so many attributes of one of so many classes
pub record IsTarget (classes attributes : ℕ) (t : Target) : Type 0 where
  pub class : t.class.0 < classes
  pub attribute : t.attribute.0 < attributes

-- by what the nodes hang, where they are not all that hang at others
abbrev pub via_in : Reach → Option Via
via_in Own = None
via_in (AtComponent k) = Some (ByComponent k)
via_in (AtCreated b) = Some (ByCreated b)
via_in Children = None

-- the number of the first of some equations for these nodes and this attribute
abbrev pub number_for : List (Target × EqId) → Reach → ℕ → Option ℕ
number_for paths r a = option_map number_of_equation (lookup (λ (t : Target). same_reach t.reach r && (t.attribute.0 == a)) paths)

abbrev pub number_among : Option (Vec (Target × EqId) Global) → Reach → ℕ → Option ℕ
number_among None r a = None
number_among (Some paths) r a = number_for paths.items r a

-- the same of those of a class
abbrev pub number_in : List (Vec (Target × EqId) Global) → ℕ → Reach → ℕ → Option ℕ
number_in lists class r a = number_among (slice_get lists class) r a

-- an equation with a path comes last among those of its class; all else stays
pub record AddsPath (t : Target) (e : EqId) (before after : List (Vec (Target × EqId) Global)) : Type 0 where
  pub long : length after ≡ length before
  pub each : (class : ℕ) (r : Reach) (a : ℕ) → same_reach r Own ≡ false → number_in after class r a ≡ option_or (number_in before class r a) (if is_target class r a t then Some e.0 else None)

-- the equations with a path of exactly each class
pub record AreOwnPaths (classes : ℕ) (targets : List Target) (lists : List (Vec (Target × EqId) Global)) : Type 0 where
  pub long : length lists ≡ classes
  pub each : (class : ℕ) (r : Reach) (a : ℕ) → same_reach r Own ≡ false → number_in lists class r a ≡ equation_at targets class r a

-- the number of the equation that is kept for what hangs by something and an attribute
abbrev pub kept_for : List (Key × EqId) → Via → ℕ → Option ℕ
kept_for named v a = option_map number_of_equation (lookup (λ (key : Key). same_via key.via v && (key.attribute.0 == a)) named)

-- an equation is kept for what hangs by something and an attribute, unless one is kept for the same; all else stays
abbrev pub KeepsFirst : {S : Type 0} → Key → EqId → HashMap Key EqId S → HashMap Key EqId S → Type 0
KeepsFirst key e before after = (v : Via) (a : ℕ) → kept_for after.entries v a ≡ option_or (kept_for before.entries v a) (if same_via key.via v && (key.attribute.0 == a) then Some e.0 else None)

-- the number of the equation at the place of an attribute
abbrev pub number_of_place : List (Option EqId) → ℕ → Option ℕ
number_of_place row a = option_map number_of_equation (at_place row a)

-- Equations of one class more are kept for what they are for, unless one is kept for the same; where one of a nearer class is for
-- every child, it is kept in their place.
abbrev pub KeepsNamed : {S : Type 0} → List (Option EqId) → List (Target × EqId) → HashMap Key EqId S → HashMap Key EqId S → Type 0
KeepsNamed children paths before after = (v : Via) (a : ℕ)
    → kept_for after.entries v a ≡ option_or (kept_for before.entries v a) (option_and_then (λ e. option_or (number_of_place children a) (Some e)) (number_for paths (reach_via v) a))

-- the number of the equation that covers what hangs by something: the one that is kept for it, or else the one for every child
abbrev pub covered_by : Covering → Via → ℕ → Option ℕ
covered_by c v a = option_or (kept_for c.named v a) (number_of_place c.children.items a)

-- the equations of one class more cover what nothing covered, those for it before those for every child
pub record AddsClass (paths : List (Target × EqId)) (before after : Covering) : Type 0 where
  pub long : length after.children.items ≡ length before.children.items
  pub each : (v : Via) (a : ℕ) → covered_by after v a ≡ option_or (covered_by before v a) (option_or (number_for paths (reach_via v) a) (number_for paths Children a))

-- those of the paths for every child are put at the places where nothing stands yet
abbrev pub PutsChildren : List (Target × EqId) → List (Option EqId) → List (Option EqId) → Type 0
PutsChildren paths before after = (a : ℕ) → number_of_place after a ≡ option_or (number_of_place before a) (number_for paths Children a)

-- the equation of exactly this class that covers, by those of each class
abbrev pub covering_in : List (Vec (Target × EqId) Global) → Via → ℕ → ℕ → Option ℕ
covering_in own v a class = option_or (number_in own class (reach_via v) a) (number_in own class Children a)

-- what covers is that of the nearest class that has something, from this one upwards
abbrev pub CoversUpwards : List (Option ℕ) → List (Vec (Target × EqId) Global) → ℕ → Covering → Type 0
CoversUpwards superclasses own class c = (v : Via) (a : ℕ) → covered_by c v a ≡ first_of_line (covering_in own v a) (upwards superclasses class)

abbrev pub covered_in : Option Covering → Via → ℕ → Option ℕ
covered_in None v a = None
covered_in (Some c) v a = covered_by c v a

-- what covers at each class is the equation of the nearest class that has one
abbrev pub AreCovered : List (Option ℕ) → List Target → List Covering → Type 0
AreCovered superclasses targets coverings = (class : ℕ) (v : Via) (a : ℕ) → covered_in (slice_get coverings class) v a ≡ covering_equation superclasses targets class v a

-- The rows give the equation of each attribute at nodes of each class, and none of what is no attribute or class; for what hangs by each of
-- their components and attributes the equation that covers it is kept.
pub record Dispatches (superclasses : List (Option ℕ)) (targets : List Target) (d : Dispatch) : Type 0 where
  pub numbered : length targets < 2 ^ 32
  pub classes : length d.rows.items ≡ length superclasses
  pub each : (class a : ℕ) → number_at d.rows.items class a ≡ nearest_equation superclasses targets class a
  pub covered : AreCovered superclasses targets d.coverings.items

-- the number of the equation that covers what hangs by something at nodes of the class, of whatever classes and targets it dispatches
abbrev pub FindsCovering : Dispatch → ClassId → Via → AttrId → Option ℕ → Type 0
FindsCovering d class v a number = (superclasses : List (Option ℕ)) (targets : List Target) → Dispatches superclasses targets d → number ≡ covering_equation superclasses targets class.0 v a.0
