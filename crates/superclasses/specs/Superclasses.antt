-- Classes go by number, and a list gives each its superclass, if it has one.
use Rattle.std.specs.Prelude.{◌≡◌, ◌==◌, ℕ, zero, suc, ◌<◌, List, [], ◌∷◌, Bool, ◌||◌, Option, Some, None, length, slice_index_or}
use Rattle.std.specs.List.{find, list_any}

-- the superclass of the class of this number: none where there is no such class
abbrev pub superclass_of : List (Option ℕ) → ℕ → Option ℕ
superclass_of superclasses a = slice_index_or superclasses a None

-- the second class is above the first: its superclass, or above its superclass
pub data IsAbove (superclasses : List (Option ℕ)) : ℕ → ℕ → Type 0 where
  directly : {a b : ℕ} → superclass_of superclasses a ≡ Some b → IsAbove superclasses a b
  through : {a b c : ℕ} → superclass_of superclasses a ≡ Some b → IsAbove superclasses b c → IsAbove superclasses a c

-- the classes from one on upwards, at most n
abbrev pub line_up : ℕ → List (Option ℕ) → Option ℕ → List ℕ
line_up zero superclasses above = []
line_up (suc n) superclasses None = []
line_up (suc n) superclasses (Some j) = j ∷ line_up n superclasses (superclass_of superclasses j)

-- the superclasses of a class, the nearest first: at most as many as there are classes
unfoldable pub line_of : List (Option ℕ) → ℕ → List ℕ
line_of superclasses a = line_up (length superclasses) superclasses (superclass_of superclasses a)

-- the second class stands on the line of the first
abbrev pub is_above : List (Option ℕ) → ℕ → ℕ → Bool
is_above superclasses a b = list_any (λ c. c == b) (line_of superclasses a)

-- the first class is the second or below it
abbrev pub is_sub : List (Option ℕ) → ℕ → ℕ → Bool
is_sub superclasses a b = (a == b) || is_above superclasses a b

-- a class and its superclasses, the nearest first
abbrev pub upwards : List (Option ℕ) → ℕ → List ℕ
upwards superclasses a = a ∷ line_of superclasses a

-- the nearest class from the first one upwards that the second is or is below
abbrev pub nearest_common : List (Option ℕ) → ℕ → ℕ → Option ℕ
nearest_common superclasses a b = find (is_sub superclasses b) (upwards superclasses a)

-- each superclass is one of the classes
pub record AreWithin (superclasses : List (Option ℕ)) : Type 0 where
  pub within : (a b : ℕ) → superclass_of superclasses a ≡ Some b → b < length superclasses
