-- What names mean behind a receiver of a class: which accessors they spell, and which attributes they name.
use Rattle.std.specs.Prelude.{◌≡◌, ℕ, ◌<◌, ◌≤◌, ◌++◌, true, List, Some, codes, length, slice_get}
use Rattle.ast_grammar.specs.declared.grammar.ClassId.{ClassId}
use Rattle.ast_grammar.specs.declared.grammar.Shape.{Shape}
use Rattle.ast_grammar.specs.declared.grammar.Shape.TheVariants as shapes
use Rattle.ast_grammar.specs.Grammar.{Class, Component, IsGrammar, component_at, is_sub}
use Rattle.attr_rules.specs.declared.accessors.Access.{Access}
use Rattle.attr_rules.specs.declared.accessors.Access.TheVariants as access
use Rattle.attr_rules.specs.declared.accessors.Accessor.{Accessor}
use Rattle.attr_rules.specs.declared.kinds.AttrId.{AttrId}
use Rattle.attr_rules.specs.declared.kinds.Kind.TheVariants as kinds
use Rattle.attr_rules.specs.Accessors.{arguments_of, reading}
use Rattle.attr_rules.specs.Rules.{Attribute}
use Rattle.attr_scope.specs.declared.scope.Member.TheVariants as members
use Rattle.attr_scope.specs.Scope.{Scope, member_of}
use Rattle.attr_scope.specs.ScopeKept.{IsScope}

-- what `getX()` reads of a component X of some shape
pub data IsGot : Shape → Access → Type 0 where
  child : IsGot shapes.Child access.Child
  optional : IsGot shapes.Optional access.Child
  text : IsGot shapes.Text (access.Token kinds.Text)
  int : IsGot shapes.Int (access.Token kinds.Int)
  truth : IsGot shapes.Truth (access.Token kinds.Truth)

-- A name spells an accessor of a class, which reads the component of a number: `getX()` of a child, an optional child or a token, `hasX()` of an
-- optional child, and `getNumX()`, `getXList()` and `getX(int)` of a list.
pub data Spells : List Class → ℕ → List ℕ → Accessor → Type 0 where
  got : {g : List Class} {c : ℕ} (k : ℕ) (x : Component) (a : Access) → component_at g c k ≡ Some x → IsGot x.shape a → Spells g c (codes "get" ++ x.name) (reading k x.class a)
  has : {g : List Class} {c : ℕ} (k : ℕ) (x : Component) → component_at g c k ≡ Some x → x.shape ≡ shapes.Optional → Spells g c (codes "has" ++ x.name) (reading k x.class access.Has)
  counted : {g : List Class} {c : ℕ} (k : ℕ) (x : Component) → component_at g c k ≡ Some x → x.shape ≡ shapes.List → Spells g c (codes "getNum" ++ x.name) (reading k x.class access.Count)
  listed : {g : List Class} {c : ℕ} (k : ℕ) (x : Component) → component_at g c k ≡ Some x → x.shape ≡ shapes.List → Spells g c (codes "get" ++ (x.name ++ codes "List")) (reading k x.class access.Elements)
  indexed : {g : List Class} {c : ℕ} (k : ℕ) (x : Component) → component_at g c k ≡ Some x → x.shape ≡ shapes.List → Spells g c (codes "get" ++ x.name) (reading k x.class access.Element)

-- which of several accessors of one spelling comes first
abbrev pub rank : Access → ℕ
rank access.Child = 0
rank (access.Token k) = 0
rank access.Has = 1
rank access.Count = 2
rank access.Elements = 3
rank access.Element = 4

-- Called with so many arguments, a name means an accessor: the first of those that it spells and that take so many.
pub record IsMeant (g : List Class) (c : ℕ) (name : List ℕ) (n : ℕ) (x : Accessor) : Type 0 where
  pub spelled : Spells g c name x
  pub takes : length (arguments_of x.access) ≡ n
  pub first : (y : Accessor) → Spells g c name y → length (arguments_of y.access) ≡ n → rank x.access ≤ rank y.access

-- A class of the grammar has an attribute by a name: the first one of that name that is declared for the class or a superclass.
pub record IsNamed (s : Scope) (c : ClassId) (name : List ℕ) (a : ℕ) : Type 0 where
  pub attribute : Attribute
  pub within : c.0 < length s.grammar
  pub found : slice_get s.known.attributes a ≡ Some attribute
  pub named : attribute.name ≡ name
  pub has : is_sub s.grammar c.0 attribute.declared.class.0 ≡ true
  pub first : (b : ℕ) (y : Attribute) → slice_get s.known.attributes b ≡ Some y → y.name ≡ name → is_sub s.grammar c.0 y.declared.class.0 ≡ true → a ≤ b

-- a scope over a grammar
abbrev pub IsOverGrammar : Scope → Type 0
IsOverGrammar s = IsGrammar s.grammar × IsScope s

-- behind a receiver of a class, and with so many arguments, a name means this accessor, which takes so many
abbrev pub Reads : Scope → ClassId → List ℕ → ℕ → Accessor → Type 0
Reads s c name n x = (member_of s name n c ≡ Some (members.Reads x)) × (length (arguments_of x.access) ≡ n)

-- the accessor is the first of those that the name spells there
abbrev pub IsSpelled : Scope → ClassId → List ℕ → ℕ → Accessor → Type 0
IsSpelled s c name n x = IsMeant s.grammar c.0 name n x

-- or the name means this attribute
abbrev pub Calls : Scope → ClassId → List ℕ → ℕ → AttrId → Type 0
Calls s c name n a = member_of s name n c ≡ Some (members.Calls a)

-- which is that of the name, and the name spells no accessor of the class
abbrev pub IsNamedAlone : Scope → ClassId → List ℕ → AttrId → Type 0
IsNamedAlone s c name a = ((x : Accessor) → Spells s.grammar c.0 name x → ⊥) × IsNamed s c name a.0
