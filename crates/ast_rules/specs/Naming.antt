-- The rules on the names of a grammar: G2, G3, G5, G7 and G8. `known` tells what names a class.
use Rattle.std.specs.Prelude.{ℕ, List, [], ◌∷◌, ◌++◌, Bool, not, ◌||◌, Option, Some, None, map, codes}
use Rattle.std.specs.List.{flat_map}
use Rattle.broken_rules.specs.declared.broken.Broken.{Broken}
use Rattle.broken_rules.specs.declared.rule.Rule.TheVariants.{G2, G3, G5, G7, G8}
use Rattle.broken_rules.specs.Notes.{at, broken_if, each_after}
use Rattle.names.specs.Among.{is_among}
use Rattle.rag_io.specs.Words.{is_one_of, is_reserved}
use Rattle.ast_rules.specs.declared.written.Form.{Form}
use Rattle.ast_rules.specs.declared.written.Form.TheVariants as forms
use Rattle.ast_rules.specs.Written.{Name, WrittenComponent, WrittenRule}

-- the words that JastAdd2 keeps for itself
abbrev pub kept_words : List (List ℕ)
kept_words = codes "ASTNode" ∷ codes "List" ∷ codes "Opt" ∷ codes "Child" ∷ codes "Parent" ∷ []

-- the types of a token that is written with a type
abbrev pub token_types : List (List ℕ)
token_types = codes "String" ∷ codes "int" ∷ codes "boolean" ∷ []

-- the classes' names in their order
abbrev pub names_of : List WrittenRule → List (List ℕ)
names_of rules = map (λ (r : WrittenRule). r.name.text) rules

-- the text names one of the classes
abbrev pub is_class : List WrittenRule → List ℕ → Bool
is_class rules = is_among (names_of rules)

-- the second word where there are two, and else the only one
abbrev pub second_or : Name → Option Name → Name
second_or first None = first
second_or first (Some second) = second

-- the type of a child, list or optional
abbrev pub type_of : WrittenComponent → Name
type_of c = second_or c.name c.type_name

-- G2: a class name a second time
abbrev pub again_broken : List WrittenRule → WrittenRule → List Broken
again_broken before r = broken_if (is_class before r.name.text) (at r.name.place G2)

-- G3: the superclass is no class
abbrev pub superclass_broken : (List ℕ → Bool) → Option Name → List Broken
superclass_broken known None = []
superclass_broken known (Some n) = broken_if (not (known n.text)) (at n.place G3)

-- G5: the type of a child, list or optional is no class
abbrev pub type_broken : (List ℕ → Bool) → Name → List Broken
type_broken known n = broken_if (not (known n.text)) (at n.place G5)

-- G7: the written type of a token is no token type
abbrev pub token_broken : Option Name → List Broken
token_broken None = []
token_broken (Some n) = broken_if (not (is_one_of token_types n.text)) (at n.place G7)

-- G8: a class or component is named by a word that is reserved or kept
abbrev pub reserved_broken : Name → List Broken
reserved_broken n = broken_if (is_reserved n.text || is_one_of kept_words n.text) (at n.place G8)

-- G5 or G7, by the component's form
abbrev pub form_broken : (List ℕ → Bool) → Form → WrittenComponent → List Broken
form_broken known forms.Child c = type_broken known (type_of c)
form_broken known forms.List c = type_broken known (type_of c)
form_broken known forms.Optional c = type_broken known (type_of c)
form_broken known forms.Token c = token_broken c.type_name

-- what a component breaks
abbrev pub component_broken : (List ℕ → Bool) → WrittenComponent → List Broken
component_broken known c = form_broken known c.form c ++ reserved_broken c.name

-- what a rule breaks, but for G2
abbrev pub rule_broken : (List ℕ → Bool) → WrittenRule → List Broken
rule_broken known r = superclass_broken known r.superclass ++ (reserved_broken r.name ++ flat_map (component_broken known) r.components)

-- what all rules break
abbrev pub naming_broken : List WrittenRule → List Broken
naming_broken rules = each_after again_broken [] rules ++ flat_map (rule_broken (is_class rules)) rules
