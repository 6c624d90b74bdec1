-- The rules on declarations: J2, J3, J4, J13, J15 and J17.
use Rattle.std.specs.Prelude.{ℕ, ◌==◌, List, ◌++◌, [], Bool, false, not, ◌&&◌, ◌||◌, Option, Some, None, find, is_none, length, map}
use Rattle.std.specs.List.{list_any}
use Rattle.std.specs.Str.{bytes_eq}
use Rattle.broken_rules.specs.declared.broken.Broken.{Broken}
use Rattle.broken_rules.specs.declared.rule.Rule.TheVariants.{J3, J4, J15, J17}
use Rattle.broken_rules.specs.Notes.{at, broken_if, each_after}
use Rattle.ast_grammar.specs.declared.grammar.ClassId.{ClassId}
use Rattle.ast_grammar.specs.Grammar.{Class, class_named, is_sub, superclasses_of}
use Rattle.attr_rules.specs.declared.kinds.Attr.{Attr}
use Rattle.attr_rules.specs.declared.kinds.Kind.{Kind}
use Rattle.attr_rules.specs.declared.kinds.Params.{Params}
use Rattle.attr_rules.specs.declared.kinds.Sort.{Sort}
use Rattle.attr_rules.specs.Accessors.{is_spelled}
use Rattle.attr_rules.specs.Rules.{Attribute, AttributeSet, is_inherited, most_attributes}
use Rattle.aspect_items.specs.Expressions.{Name}
use Rattle.aspect_items.specs.Items.{Circular, WrittenType}
use Rattle.attr_scope.specs.Classes.{class_broken, class_numbers, class_or_first}
use Rattle.attr_heads.specs.Collections.{collecting_declared, collection_broken}
use Rattle.attr_heads.specs.Created.{created_type_broken}
use Rattle.attr_heads.specs.Parameters.{all_parameters_broken, differ, parameter_types, params_written}
use Rattle.attr_heads.specs.Starts.{are_unlike, is_circular, start_broken, start_declared}
use Rattle.attr_scope.specs.Written.{Head}
use Rattle.attr_scope.specs.WrittenTypes.{kind_written, same_kind, type_written}

-- one of the two classes is the other or below it
abbrev pub are_related : List Class → Option ℕ → ℕ → Bool
are_related g None c = false
are_related g (Some d) c = is_sub g d c || is_sub g c d

-- one of the declarations is of this name, for the class, a superclass or a subclass
abbrev pub has_declaration : List Class → ℕ → List ℕ → List Head → Bool
has_declaration g c name list = list_any (λ h. are_related g (class_named g h.class.text) c && bytes_eq h.signature.name.text name) list

-- the name is that of an accessor of the class or of a subclass
abbrev pub is_taken : List Class → ℕ → List ℕ → Bool
is_taken g c name = list_any (λ d. is_sub g d c && is_spelled g d name) (class_numbers g)

-- J3: the attribute is declared a second time, or has an accessor's name
abbrev pub again_for : List Class → List Head → Name → Option ℕ → List Broken
again_for g before n None = []
again_for g before n (Some c) = broken_if (has_declaration g c n.text before || is_taken g c n.text) (at n.place J3)

abbrev pub again_broken : List Class → List Head → Head → List Broken
again_broken g before h = again_for g before h.signature.name (class_named g h.class.text)

-- J17: there are so many declarations before
abbrev pub count_broken : List Head → Name → List Broken
count_broken before n = broken_if (length before == most_attributes) (at n.place J17)

-- J4: what is written is no type
abbrev pub type_broken : List Class → WrittenType → List Broken
type_broken g t = broken_if (is_none (type_written g t)) (at t.place J4)

-- J4, J2, J3 and J17 of a declaration
abbrev pub named_broken : List Class → List Head → Head → List Broken
named_broken g before h = type_broken g h.of ++ (class_broken g h.class ++ (again_broken g before h ++ count_broken before h.signature.name))

-- the first inherited attribute of a name among some declarations
abbrev pub first_inherited : List Head → List ℕ → Option Head
first_inherited list name = find (λ h. is_inherited h.sort && bytes_eq h.signature.name.text name) list

abbrev pub type_in : List Class → Head → Option Kind
type_in g h = type_written g h.of

-- a declaration is of another type than one before, is circular where that isn't, or isn't where that is, or has other parameters
abbrev pub is_other_than : List Class → Head → Head → Bool
is_other_than g h f = not (same_kind (type_in g f) (type_in g h)) || (are_unlike (is_circular f.circular) (is_circular h.circular) || differ g (parameter_types g f.signature.parameters) h.signature.parameters)

abbrev pub is_other : List Class → Head → Option Head → Bool
is_other g h None = false
is_other g h (Some f) = is_other_than g h f

-- J15: an inherited attribute isn't declared as the first one of its name, in its type, in being circular, or in its parameters
abbrev pub other_broken : List Class → List Head → Head → List Broken
other_broken g before h = broken_if (is_inherited h.sort && is_other g h (first_inherited before h.signature.name.text)) (at h.signature.name.place J15)

-- what a declaration breaks
abbrev pub head_broken : List Class → List Head → Head → List Broken
head_broken g before h =
    named_broken g before h
    ++ (start_broken g h.sort h.of h.circular
    ++ (created_type_broken g h.sort h.of h.signature.name
    ++ (other_broken g before h ++ (collection_broken g h.of h.collection ++ all_parameters_broken g None h.signature))))

-- what the declarations break
abbrev pub heads_broken : List Class → List Head → List Broken
heads_broken g list = each_after (head_broken g) [] list

-- what is declared of an attribute of this sort, type and parameters, which may be circular
abbrev pub declared_as : Sort → ClassId → Kind → Params → Option Circular → Attr
declared_as s class kind ps c = record { class = class; sort = s; kind = kind; params = ps; circular = is_circular c; start = start_declared kind c }

-- what a declaration declares
abbrev pub attribute_of : List Class → Head → Attribute
attribute_of g h = record {
  name = h.signature.name.text;
  declared = declared_as h.sort (class_or_first (class_named g h.class.text)) (kind_written g h.of) (params_written g h.signature.parameters) h.circular;
  collecting = collecting_declared g h.collection;
}

abbrev pub attributes_of : List Class → List Head → List Attribute
attributes_of g list = map (attribute_of g) list

-- what the declarations declare, among the classes of the grammar
abbrev pub attributes_declared : List Class → List Head → AttributeSet
attributes_declared g list = record { superclasses = superclasses_of g; attributes = attributes_of g list }
