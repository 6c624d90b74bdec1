-- What contributions are for, and the rules on their heads: J2 and J14.
use Rattle.std.specs.Prelude.{ℕ, List, ◌++◌, [], Option, Some, None, is_none, if◌then◌else◌}
use Rattle.std.specs.List.{flat_map}
use Rattle.std.specs.Option.{is_some, option_and_then, unwrap_or}
use Rattle.broken_rules.specs.declared.broken.Broken.{Broken}
use Rattle.broken_rules.specs.declared.rule.Rule.TheVariants.{J14}
use Rattle.broken_rules.specs.Notes.{at, broken_if}
use Rattle.ast_grammar.specs.Grammar.{Class, class_named, superclasses_of}
use Rattle.attr_rules.specs.Rules.{Attribute, attribute_named, collecting_at}
use Rattle.aspect_items.specs.Expressions.{Name}
use Rattle.aspect_items.specs.Items.{Contribution}
use Rattle.attr_heads.specs.declared.contributions.Aim.{Aim}
use Rattle.attr_scope.specs.Classes.{class_broken, class_or_first}
use Rattle.attr_scope.specs.Written.{Given}
use Rattle.attr_scope.specs.WrittenTypes.{class_numbered}
use Rattle.attr_heads.specs.Targets.{targets_broken}

-- a collection
abbrev pub if_collection : List Attribute → ℕ → Option ℕ
if_collection attributes a = if is_some (collecting_at attributes a) then Some a else None

-- the collection that a class has by a name
abbrev pub collection_named : List Class → List Attribute → List ℕ → ℕ → Option ℕ
collection_named g attributes name c = option_and_then (if_collection attributes) (attribute_named (superclasses_of g) attributes (class_numbered c) name)

-- that of a contribution, where the class behind `to` has it
abbrev pub collection_of : List Class → List Attribute → Contribution → Option ℕ
collection_of g attributes c = option_and_then (collection_named g attributes c.name.text) (class_named g c.class.text)

-- J14: the class, where it is known, has no collection of the name
abbrev pub no_collection_broken : List Class → List Attribute → Name → Option ℕ → List Broken
no_collection_broken g attributes n None = []
no_collection_broken g attributes n (Some c) = broken_if (is_none (collection_named g attributes n.text c)) (at n.place J14)

-- J2 of the contributor and of the class behind `to`, and J14
abbrev pub contribution_broken : List Class → List Attribute → Contribution → List Broken
contribution_broken g attributes c = class_broken g c.contributor ++ (class_broken g c.class ++ no_collection_broken g attributes c.name (class_named g c.class.text))

-- what the heads of contributions break
abbrev pub contributions_broken : List Class → List Attribute → List Contribution → List Broken
contributions_broken g attributes list = flat_map (contribution_broken g attributes) list

-- what the heads of equations and of contributions break
abbrev pub uses_broken : List Class → List Attribute → List Given → List Contribution → List Broken
uses_broken g attributes equations list = targets_broken g attributes equations ++ contributions_broken g attributes list

-- what a contribution is for: the class at whose nodes it is read, the class that its receiver has to fit, and the collection; what isn't known counts
-- as the first
abbrev pub aim_of : List Class → List Attribute → Contribution → Aim
aim_of g attributes c = record {
  contributor = class_or_first (class_named g c.contributor.text);
  receiver = class_or_first (class_named g c.class.text);
  collection = record { 0 = unwrap_or (collection_of g attributes c) 0 };
}
