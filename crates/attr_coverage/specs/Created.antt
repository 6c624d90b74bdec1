-- Of which classes the roots are that the higher-order attributes of a node make.
use Rattle.std.specs.Prelude.{ℕ, List, Bool, ◌&&◌, if◌then◌else◌, Option, Some, None, length}
use Rattle.std.specs.List.{filter_map, range_with_len}
use Rattle.std.specs.Option.{option_and_then, option_map}
use Rattle.aspect_items.specs.Expressions.{Expr, Truth, Null, Empty, This, Int, Text, Source, Variable, Call, Member, New, Quantified, Group, Cast, Not, Negate, Binary, InstanceOf, If}
use Rattle.ast_grammar.specs.Grammar.{Class, class_named, is_sub, number_of, superclasses_of}
use Rattle.attr_rules.specs.declared.dispatch.Target.{Target}
use Rattle.attr_rules.specs.declared.kinds.Attr.{Attr}
use Rattle.attr_rules.specs.RowsKept.{at_place}
use Rattle.attr_rules.specs.Rules.{Attribute, RuleSet, declared_at, is_higher_order, nearest_equation, root_made}
use Rattle.attr_coverage.specs.declared.created.Created.{Created}
use Rattle.attr_scope.specs.WrittenTypes.{class_numbered}

-- the class of the root that a right side makes as it is written, where it is a `new`
abbrev pub written_root : List Class → Expr → Option ℕ
written_root g (Truth p b) = None
written_root g (Null p) = None
written_root g (Empty p) = None
written_root g (This p) = None
written_root g (Int p n) = None
written_root g (Text p n) = None
written_root g (Source p n) = None
written_root g (Variable n) = None
written_root g (Call n es) = None
written_root g (Member e n es) = None
written_root g (New p n es) = class_named g n.text
written_root g (Quantified q p n e f) = None
written_root g (Group p e) = None
written_root g (Cast p n e) = None
written_root g (Not p e) = None
written_root g (Negate p e) = None
written_root g (Binary o a b) = None
written_root g (InstanceOf e n) = None
written_root g (If c a b) = None

-- the attribute is higher-order, and nodes of class p have it
abbrev pub makes_at : List Class → ℕ → Attr → Bool
makes_at g p d = is_higher_order d.sort && is_sub g p d.class.0

abbrev pub created_as : ℕ → ℕ → Created
created_as b t = record { attribute = record { 0 = b }; class = class_numbered t }

-- what an attribute makes at nodes of class p, where its equation makes a root of this class
abbrev pub created_by : List Class → ℕ → ℕ → Option ℕ → Option Attr → Option Created
created_by g p b root None = None
created_by g p b root (Some d) = if makes_at g p d then option_map (created_as b) root else None

-- what the attribute of this number makes
abbrev pub created_at : List Class → List Attribute → (ℕ → ℕ → Option ℕ) → ℕ → ℕ → Option Created
created_at g attributes root p b = created_by g p b (root p b) (declared_at attributes b)

-- what the attributes make at nodes of class p, by the class of the root that the equation of each makes there
abbrev pub made_by : List Class → List Attribute → (ℕ → ℕ → Option ℕ) → ℕ → List Created
made_by g attributes root p = filter_map (created_at g attributes root p) (range_with_len 0 (length attributes))

-- the class of the root that the equation of an attribute makes at nodes of class p, by those of all equations
abbrev pub root_by : List Class → List Target → List (Option ℕ) → ℕ → ℕ → Option ℕ
root_by g targets roots p b = option_and_then (at_place roots) (nearest_equation (superclasses_of g) targets p b)

-- what the attributes make at nodes of class p, by what the equations for these make
abbrev pub made_of : List Class → List Attribute → List Target → List (Option ℕ) → ℕ → List Created
made_of g attributes targets roots = made_by g attributes (root_by g targets roots)

abbrev pub root_in : RuleSet → ℕ → ℕ → Option ℕ
root_in r p b = option_map number_of (root_made r (record { 0 = p }) b)

-- the same among the equations of some rules
abbrev pub made_in : List Class → RuleSet → ℕ → List Created
made_in g r = made_by g r.attributes (root_in r)
