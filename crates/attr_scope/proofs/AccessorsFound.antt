-- What the accessor that a name spells reads.
use Rattle.std.proofs.Common.{◌≡◌, ◌==◌, ℕ, List, Bool, true, false, Option, Some, None, IfSome, codes, length, if◌then◌else◌, refl, subst}
use Rattle.std.specs.Option.{option_and_then, option_map, option_or}
use Rattle.ast_grammar.specs.declared.grammar.Shape.{Shape}
use Rattle.ast_grammar.specs.declared.grammar.Shape.TheVariants as shapes
use Rattle.ast_grammar.specs.Grammar.{Class, Component, component_at, component_named}
use Rattle.attr_rules.specs.declared.accessors.Access.{Access}
use Rattle.attr_rules.specs.declared.accessors.Access.TheVariants as access
use Rattle.attr_rules.specs.declared.accessors.Accessor.{Accessor}
use Rattle.attr_rules.specs.Accessors.{accessor_at, accessor_named, accessor_of, accessor_on, any_accessor, arguments_of, before, behind, counting, fitting, getting, got, having, indexing, listing, of_list, of_optional, reading, takes}

-- a component of this shape is read so
abbrev pub IsRead : Access → Shape → Type 0
IsRead access.Child s = got s ≡ Some access.Child
IsRead (access.Token k) s = got s ≡ Some (access.Token k)
IsRead access.Has s = s ≡ shapes.Optional
IsRead access.Count s = s ≡ shapes.List
IsRead access.Elements s = s ≡ shapes.List
IsRead access.Element s = s ≡ shapes.List

-- An accessor of a class reads one of its components.
pub record IsAccessor (g : List Class) (c : ℕ) (x : Accessor) : Type 0 where
  pub component : Component
  pub found : component_at g c x.component.0 ≡ Some component
  pub class : x.class ≡ component.class
  pub shaped : IsRead x.access component.shape

-- what the forms of accessors read
abbrev Reads : (Shape → Option Access) → Type 0
Reads f = (s : Shape) → IfSome (f s) (λ a. IsRead a s)

got_reads : Reads got
got_reads shapes.Child = refl
got_reads shapes.List = tt
got_reads shapes.Optional = refl
got_reads shapes.Text = refl
got_reads shapes.Int = refl
got_reads shapes.Truth = refl

optional_reads : Reads (of_optional access.Has)
optional_reads shapes.Child = tt
optional_reads shapes.List = tt
optional_reads shapes.Optional = refl
optional_reads shapes.Text = tt
optional_reads shapes.Int = tt
optional_reads shapes.Truth = tt

list_reads : (a : Access) → IsRead a shapes.List → Reads (of_list a)
list_reads a is shapes.Child = tt
list_reads a is shapes.List = is
list_reads a is shapes.Optional = tt
list_reads a is shapes.Text = tt
list_reads a is shapes.Int = tt
list_reads a is shapes.Truth = tt

module _ {X Y : Type 0} (P : Y → Type 0) where
  if_then : (f : X → Option Y) (o : Option X) → ((x : X) → o ≡ Some x → IfSome (f x) P) → IfSome (option_and_then f o) P
  if_then f None each = tt
  if_then f (Some x) each = each x refl

module _ {Y : Type 0} (P : Y → Type 0) where
  if_either : (o p : Option Y) → IfSome o P → IfSome p P → IfSome (option_or o p) P
  if_either None p h k = k
  if_either (Some y) p h k = h

  if_where : (b : Bool) (y : Y) → P y → IfSome (if b then Some y else None) P
  if_where true y h = h
  if_where false y h = tt

  if_found : (o : Option Y) (y : Y) → IfSome o P → o ≡ Some y → P y
  if_found o y h e = subst (λ p. IfSome p P) e h

module _ (g : List Class) (c : ℕ) where
  on_reads : (k : ℕ) (x : Component) (o : Option Access) → component_at g c k ≡ Some x → IfSome o (λ a. IsRead a x.shape) → IfSome (option_map (reading k x.class) o) (IsAccessor g c)
  on_reads k x None found shaped = tt
  on_reads k x (Some a) found shaped = record { component = x; found = found; class = refl; shaped = shaped }

  named_reads : (f : Shape → Option Access) (name : List ℕ) → Reads f → IfSome (accessor_named f g c name) (IsAccessor g c)
  named_reads f name reads =
      if_then (IsAccessor g c) (accessor_at f g c) (component_named g c name) (λ k named.
      if_then (IsAccessor g c) (accessor_on f k) (component_at g c k) (λ x found. on_reads k x (f x.shape) found (reads x.shape)))

  behind_reads : (f : Shape → Option Access) (name : Option (List ℕ)) → Reads f → IfSome (option_and_then (accessor_named f g c) name) (IsAccessor g c)
  behind_reads f name reads = if_then (IsAccessor g c) (accessor_named f g c) name (λ x is. named_reads f x reads)

  takes_reads : (n : ℕ) (o : Option Accessor) → IfSome o (IsAccessor g c) → IfSome (takes n o) (IsAccessor g c)
  takes_reads n None h = tt
  takes_reads n (Some a) h = if_where (IsAccessor g c) (length (arguments_of a.access) == n) a h

  either_reads : (o p : Option Accessor) → IfSome o (IsAccessor g c) → IfSome p (IsAccessor g c) → IfSome (option_or o p) (IsAccessor g c)
  either_reads o p h k = if_either (IsAccessor g c) o p h k

  five_read : (v w x y z : Option Accessor) → IfSome v (IsAccessor g c) → IfSome w (IsAccessor g c) → IfSome x (IsAccessor g c) → IfSome y (IsAccessor g c) → IfSome z (IsAccessor g c)
      → IfSome (option_or (option_or (option_or (option_or v w) x) y) z) (IsAccessor g c)
  five_read v w x y z hv hw hx hy hz =
      let two = either_reads v w hv hw in
      let three = either_reads (option_or v w) x two hx in
      let four = either_reads (option_or (option_or v w) x) y three hy in
      either_reads (option_or (option_or (option_or v w) x) y) z four hz

  module _ (name : List ℕ) (n : ℕ) where
    getting_reads : IfSome (getting g c name) (IsAccessor g c)
    getting_reads = behind_reads got (behind (codes "get") name) got_reads

    having_reads : IfSome (having g c name) (IsAccessor g c)
    having_reads = behind_reads (of_optional access.Has) (behind (codes "has") name) optional_reads

    counting_reads : IfSome (counting g c name) (IsAccessor g c)
    counting_reads = behind_reads (of_list access.Count) (behind (codes "getNum") name) (list_reads access.Count refl)

    listing_reads : IfSome (listing g c name) (IsAccessor g c)
    listing_reads =
        if_then (IsAccessor g c) (λ (x : List ℕ). option_and_then (accessor_named (of_list access.Elements) g c) (before (codes "List") x)) (behind (codes "get") name)
        (λ x is. behind_reads (of_list access.Elements) (before (codes "List") x) (list_reads access.Elements refl))

    indexing_reads : IfSome (indexing g c name) (IsAccessor g c)
    indexing_reads = behind_reads (of_list access.Element) (behind (codes "get") name) (list_reads access.Element refl)

    any_reads : IfSome (any_accessor g c name) (IsAccessor g c)
    any_reads = five_read (getting g c name) (having g c name) (counting g c name) (listing g c name) (indexing g c name) getting_reads having_reads counting_reads listing_reads indexing_reads

    fitting_reads : IfSome (fitting g c name n) (IsAccessor g c)
    fitting_reads =
        let took = takes_reads n in
        five_read (takes n (getting g c name)) (takes n (having g c name)) (takes n (counting g c name)) (takes n (listing g c name)) (takes n (indexing g c name))
        (took (getting g c name) getting_reads) (took (having g c name) having_reads) (took (counting g c name) counting_reads) (took (listing g c name) listing_reads) (took (indexing g c name) indexing_reads)

    -- an accessor that a name spells is one of the class
    pub accessor_found : (x : Accessor) → accessor_of g c name n ≡ Some x → IsAccessor g c x
    accessor_found x e = if_found (IsAccessor g c) (accessor_of g c name n) x (either_reads (fitting g c name n) (any_accessor g c name) fitting_reads any_reads) e
