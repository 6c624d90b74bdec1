-- Attributes as the code keeps them: with the numbers of their names, and a row for each class.
use Rattle.std.specs.Prelude.{◌≡◌, ℕ, ◌<◌, ◌≤◌, List, [], ◌++◌, ◌&&◌, ◌==◌, Option, Some, None, Vec, All, length, map, position, slice_get}
use Rattle.std.specs.Option.{option_map}
use Rattle.std.specs.declared.alloc.Global.{Global}
use Rattle.rag_io.specs.Pool.{ArePooled}
use Rattle.superclasses.specs.Superclasses.{is_sub}
use Rattle.attr_rules.specs.declared.attributes.KeptAttr.{KeptAttr}
use Rattle.attr_rules.specs.declared.attributes.NamedAttr.{NamedAttr}
use Rattle.attr_rules.specs.declared.kinds.AttrId.{AttrId}
use Rattle.attr_rules.specs.RowsKept.{at_place, at_row}
use Rattle.attr_rules.specs.Rules.{Attribute, is_inherited, most_attributes, number_of_attribute}

abbrev pub seen_attribute : NamedAttr → Attribute
seen_attribute a = record { name = a.name.now; declared = a.declared; collecting = a.collecting }

-- the text of a number
abbrev pub text_or_empty : Option (List ℕ) → List ℕ
text_or_empty None = []
text_or_empty (Some t) = t

abbrev pub text_at : List (List ℕ) → ℕ → List ℕ
text_at texts n = text_or_empty (slice_get texts n)

abbrev pub attribute_in : List (List ℕ) → KeptAttr → Attribute
attribute_in names a = record { name = text_at names a.name; declared = a.declared; collecting = a.collecting }

abbrev pub attributes_in : List (List ℕ) → List KeptAttr → List Attribute
attributes_in names kept = map (attribute_in names) kept

-- some texts and then others
pub record Extends (first all : List (List ℕ)) : Type 0 where
  pub rest : List (List ℕ)
  pub are : all ≡ first ++ rest

-- each name has a number
pub record AreNumbered (names : List (List ℕ)) (kept : List KeptAttr) : Type 0 where
  pub pooled : ArePooled names
  pub within : All (λ (a : KeptAttr). a.name < length names) kept

-- the first attribute whose name has this number and that is declared for the class or a superclass
abbrev pub first_named : List (Option ℕ) → List KeptAttr → ℕ → ℕ → Option ℕ
first_named superclasses kept class n = position (λ a. is_sub superclasses class a.declared.class.0 && (a.name == n)) kept

-- the row of a class, with a place for each of so many names
pub record IsRow (superclasses : List (Option ℕ)) (names : ℕ) (kept : List KeptAttr) (class : ℕ) (row : List (Option AttrId)) : Type 0 where
  pub long : length row ≡ names
  pub each : (n : ℕ) → n < names → option_map number_of_attribute (at_place row n) ≡ first_named superclasses kept class n

-- the rows of so many classes
pub record AreRows (superclasses : List (Option ℕ)) (classes names : ℕ) (kept : List KeptAttr) (rows : List (Vec (Option AttrId) Global)) : Type 0 where
  pub long : length rows ≡ classes
  pub each : (class n : ℕ) → class < classes → n < names → option_map number_of_attribute (at_row rows class n) ≡ first_named superclasses kept class n

-- for each name, of which there are so many, the first inherited attribute
pub record AreFirstInherited (names : ℕ) (kept : List KeptAttr) (row : List (Option AttrId)) : Type 0 where
  pub long : length row ≡ names
  pub each : (n : ℕ) → n < names → option_map number_of_attribute (at_place row n) ≡ position (λ a. is_inherited a.declared.sort && (a.name == n)) kept

pub record AreKept (superclasses : List (Option ℕ)) (names : List (List ℕ)) (kept : List KeptAttr) (rows : List (Vec (Option AttrId) Global)) (inherited : List (Option AttrId)) : Type 0 where
  pub few : length kept ≤ most_attributes
  pub numbered : AreNumbered names kept
  pub placed : AreRows superclasses (length superclasses) (length names) kept rows
  pub firsts : AreFirstInherited (length names) kept inherited
