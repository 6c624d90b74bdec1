-- Parts of the list of all instances without arguments, and what adds them to a list of names.
use Rattle.std.specs.Prelude.{◌≡◌, ℕ, List, [], ◌++◌, map, ◌==◌, if◌then◌else◌}
use Rattle.ast_grammar.specs.declared.grammar.ClassId.{ClassId}
use Rattle.ast_grammar.specs.Grammar.{Class, superclasses_of}
use Rattle.attr_rules.specs.declared.kinds.Attr.{Attr}
use Rattle.tree_arena.specs.Nodes.{Node}
use Rattle.equation_law.specs.Names.{Instance}
use Rattle.equation_law.specs.Program.{Program, at_source, attribute_instances, nodes_of}
use Rattle.plain_rounds.specs.declared.naming.Name.{Name}
use Rattle.plain_rounds.specs.Named.{name_in}

-- those of an attribute without parameters, at the nodes of a class and of its subclasses
abbrev pub instances_of_class : List Class → List Node → ℕ → ClassId → List Instance
instances_of_class g tree a c = map (at_source a) (nodes_of (superclasses_of g) tree c 0)

-- those of an attribute as it is declared: of one with parameters there are none
abbrev pub plain_instances : Program → ℕ → Attr → List Instance
plain_instances p a d = if d.params.count == 0 then instances_of_class p.grammar p.tree a d.class else []

-- those of all attributes
abbrev pub all_plain_instances : Program → List Instance
all_plain_instances p = attribute_instances (superclasses_of p.grammar) p.rules.attributes 0 p.tree

-- the names after are those before, and then names of these instances, whatever the texts are
abbrev pub AddsInstances : List Name → List Name → List Instance → Type 0
AddsInstances before after more = (texts : ℕ → List ℕ) → map (name_in texts) after ≡ map (name_in texts) before ++ more
