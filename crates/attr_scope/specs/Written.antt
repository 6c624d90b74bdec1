-- What aspects declare, and the equations and contributions that they give, as they are written.
use Rattle.std.specs.Prelude.{Bool, if◌then◌else◌, List, [], Option, Some, None}
use Rattle.std.specs.List.{filter_map}
use Rattle.std.specs.Option.{option_map}
use Rattle.aspect_items.specs.Items.{own_signature}
use Rattle.aspect_items.specs.Expressions.{Expr, Name}
use Rattle.attr_rules.specs.declared.kinds.Sort.{Sort}
use Rattle.attr_rules.specs.declared.kinds.Sort.TheVariants.{Syn, Inh, Nta, Coll}
use Rattle.aspect_items.specs.Items.{Item, Declared, Inherits, Equates, Collects, Contributes, Circular, Collection, Contribution, Equation, Inherited, Signature, Synthesized, WrittenType}

-- the declaration of an attribute: its sort, its type, the class that has it, its name with the parameters, whether it is circular, and how it
-- collects, where it is a collection
pub record Head : Type 0 where
  pub sort : Sort
  pub of : WrittenType
  pub class : Name
  pub signature : Signature
  pub circular : Option Circular
  pub collection : Option Collection

-- what is declared with `nta` is higher-order
abbrev pub synthesized_sort : Bool → Sort
synthesized_sort higher_order = if higher_order then Nta else Syn

abbrev pub synthesized_head : Synthesized → Head
synthesized_head s = record { sort = synthesized_sort s.higher_order; of = s.of; class = s.class; signature = s.signature; circular = s.circular; collection = None }

abbrev pub inherited_head : Inherited → Head
inherited_head i = record { sort = Inh; of = i.of; class = i.class; signature = i.signature; circular = i.circular; collection = None }

-- a collection has no parameters, and isn't circular
abbrev pub collection_head : Collection → Head
collection_head c = record { sort = Coll; of = c.of; class = c.class; signature = record { name = c.name; parameters = [] }; circular = None; collection = Some c }

-- the declaration that an item is, if it is one
abbrev pub declared_in : Item → Option Head
declared_in (Declared s) = Some (synthesized_head s)
declared_in (Inherits i) = Some (inherited_head i)
declared_in (Equates e) = None
declared_in (Collects c) = Some (collection_head c)
declared_in (Contributes c) = None

-- the declarations among some items, in their order
abbrev pub declarations : List Item → List Head
declarations items = filter_map declared_in items

-- an equation: the name of the class, the path to the nodes, if it has one, the name of the attribute with the parameters, and the right side
pub record Given : Type 0 where
  pub class : Name
  pub path : Option Signature
  pub attribute : Signature
  pub body : Expr

abbrev pub given_with : Synthesized → Expr → Given
given_with s e = record { class = s.class; path = None; attribute = s.signature; body = e }

-- with an inherited attribute behind it, the first name is a path
abbrev pub given_by : Equation → Given
given_by e = record { class = e.class; path = option_map (λ s. e.signature) e.inherited; attribute = own_signature e; body = e.body }

-- the equation that an item gives, if it gives one: that of `eq`, or the one that stands in a declaration
abbrev pub given_in : Item → Option Given
given_in (Declared s) = option_map (given_with s) s.body
given_in (Inherits i) = None
given_in (Equates e) = Some (given_by e)
given_in (Collects c) = None
given_in (Contributes c) = None

-- the equations among some items, in their order
abbrev pub givens : List Item → List Given
givens items = filter_map given_in items

-- the contribution that an item is, if it is one
abbrev pub contributed_in : Item → Option Contribution
contributed_in (Declared s) = None
contributed_in (Inherits i) = None
contributed_in (Equates e) = None
contributed_in (Collects c) = None
contributed_in (Contributes c) = Some c

-- the contributions among some items, in their order
abbrev pub contributions : List Item → List Contribution
contributions items = filter_map contributed_in items
