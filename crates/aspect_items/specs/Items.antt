-- Items of aspects as they are written, without where they lie in memory.
use Rattle.std.specs.Prelude.{ℕ, Bool, List, Option, map}
use Rattle.std.specs.Option.{option_map, unwrap_or}
use Rattle.rag_io.specs.declared.token.Place.{Place}
use Rattle.aspect_items.specs.Expressions.{Expr, Name, seen_expr, seen_name}
use Rattle.aspect_items.specs.declared.aspects.Aspects as kept_aspects
use Rattle.aspect_items.specs.declared.items.Circular as kept_circular
use Rattle.aspect_items.specs.declared.items.Collection as kept_collection
use Rattle.aspect_items.specs.declared.items.Contribution as kept_contribution
use Rattle.aspect_items.specs.declared.items.Equation as kept_equation
use Rattle.aspect_items.specs.declared.items.Inherited as kept_inherited
use Rattle.aspect_items.specs.declared.items.Item as kept_item
use Rattle.aspect_items.specs.declared.items.Item.TheVariants as kept_items
use Rattle.aspect_items.specs.declared.items.Parameter as kept_parameter
use Rattle.aspect_items.specs.declared.items.Signature as kept_signature
use Rattle.aspect_items.specs.declared.items.Synthesized as kept_synthesized
use Rattle.aspect_items.specs.declared.items.Type as kept_type
use Rattle.aspect_items.specs.declared.items.TypeName as kept_type_name
use Rattle.aspect_items.specs.declared.items.TypeName.TheVariants as kept_type_names

-- the name of a type, or of the elements of a set
pub data TypeName : Type 0 where
  Boolean : TypeName
  Integer : TypeName
  String : TypeName
  Class : List ℕ → TypeName

-- a type with the place of its first token
pub record WrittenType : Type 0 where
  pub place : Place
  pub set : Bool
  pub name : TypeName

pub record Parameter : Type 0 where
  pub of : WrittenType
  pub name : Name

pub record Signature : Type 0 where
  pub name : Name
  pub parameters : List Parameter

pub record Circular : Type 0 where
  pub place : Place
  pub bottom : Expr

pub record Synthesized : Type 0 where
  pub lazy : Bool
  pub higher_order : Bool
  pub of : WrittenType
  pub class : Name
  pub signature : Signature
  pub circular : Option Circular
  pub body : Option Expr

pub record Inherited : Type 0 where
  pub lazy : Bool
  pub of : WrittenType
  pub class : Name
  pub signature : Signature
  pub circular : Option Circular

pub record Equation : Type 0 where
  pub class : Name
  pub signature : Signature
  pub inherited : Option Signature
  pub body : Expr

pub record Collection : Type 0 where
  pub of : WrittenType
  pub class : Name
  pub name : Name
  pub fresh : Expr
  pub method : Option Name
  pub root : Option Name

pub record Contribution : Type 0 where
  pub contributor : Name
  pub value : Expr
  pub condition : Option Expr
  pub class : Name
  pub name : Name
  pub receiver : Expr

pub data Item : Type 0 where
  Declared : Synthesized → Item
  Inherits : Inherited → Item
  Equates : Equation → Item
  Collects : Collection → Item
  Contributes : Contribution → Item

-- the signature of the attribute that an equation gives a value to: of the inherited attribute, where there is a path to it
abbrev pub own_signature : Equation → Signature
own_signature e = unwrap_or e.inherited e.signature

abbrev pub seen_type_name : kept_type_name.TypeName → TypeName
seen_type_name kept_type_names.Boolean = Boolean
seen_type_name kept_type_names.Int = Integer
seen_type_name kept_type_names.String = String
seen_type_name (kept_type_names.Class name) = Class name.items

abbrev pub seen_type : kept_type.Type → WrittenType
seen_type t = record { place = t.place; set = t.set; name = seen_type_name t.name }

abbrev pub seen_parameter : kept_parameter.Parameter → Parameter
seen_parameter p = record { of = seen_type p.of; name = seen_name p.name }

abbrev pub seen_signature : kept_signature.Signature → Signature
seen_signature s = record { name = seen_name s.name; parameters = map seen_parameter s.parameters.items }

abbrev pub seen_circular : kept_circular.Circular → Circular
seen_circular c = record { place = c.place; bottom = seen_expr c.bottom }

abbrev pub seen_synthesized : kept_synthesized.Synthesized → Synthesized
seen_synthesized s = record {
  lazy = s.lazy;
  higher_order = s.higher_order;
  of = seen_type s.of;
  class = seen_name s.class;
  signature = seen_signature s.signature;
  circular = option_map seen_circular s.circular;
  body = option_map seen_expr s.body;
}

abbrev pub seen_inherited : kept_inherited.Inherited → Inherited
seen_inherited i = record { lazy = i.lazy; of = seen_type i.of; class = seen_name i.class; signature = seen_signature i.signature; circular = option_map seen_circular i.circular }

abbrev pub seen_equation : kept_equation.Equation → Equation
seen_equation e = record { class = seen_name e.class; signature = seen_signature e.signature; inherited = option_map seen_signature e.inherited; body = seen_expr e.body }

abbrev pub seen_collection : kept_collection.Collection → Collection
seen_collection c = record {
  of = seen_type c.of;
  class = seen_name c.class;
  name = seen_name c.name;
  fresh = seen_expr c.fresh;
  method = option_map seen_name c.method;
  root = option_map seen_name c.root;
}

abbrev pub seen_contribution : kept_contribution.Contribution → Contribution
seen_contribution c = record {
  contributor = seen_name c.contributor;
  value = seen_expr c.value;
  condition = option_map seen_expr c.condition;
  class = seen_name c.class;
  name = seen_name c.name;
  receiver = seen_expr c.receiver;
}

abbrev pub seen_item : kept_item.Item → Item
seen_item (kept_items.Synthesized s) = Declared (seen_synthesized s)
seen_item (kept_items.Inherited i) = Inherits (seen_inherited i)
seen_item (kept_items.Equation e) = Equates (seen_equation e)
seen_item (kept_items.Collection c) = Collects (seen_collection c)
seen_item (kept_items.Contribution c) = Contributes (seen_contribution c)

-- the items of some aspects
abbrev pub seen_aspects : kept_aspects.Aspects → List Item
seen_aspects a = map seen_item a.items.items
