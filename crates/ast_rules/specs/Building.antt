-- The rules that a sentence writes, from its events: the actions of the grammar.
use Rattle.std.specs.Prelude.{◌==◌, ℕ, ◌+◌, ◌-◌, List, [], ◌∷◌, ◌++◌, Bool, true, false, nat_le, Option, Some, None, map, slice_get, if◌then◌else◌}
use Rattle.std.specs.Option.{option_map}
use Rattle.rag_io.specs.Tokens.{Lexed, first_place}
use Rattle.ll_parser.specs.Grammar.{shift}
use Rattle.ast_rules.specs.Written.{Name, WrittenComponent, WrittenRule, seen_name, seen_component, seen_rule}
use Rattle.ast_rules.specs.declared.written.Form.{Form}
use Rattle.ast_rules.specs.declared.written.Form.TheVariants as forms
use Rattle.ast_rules.specs.declared.building.Builder as kept_builder

abbrev pub name_in : Option Lexed → Name
name_in None = record { text = []; place = first_place }
name_in (Some t) = record { text = t.text; place = t.place }

-- the name that the token of this number writes
abbrev pub name_at : List Lexed → ℕ → Name
name_at ts n = name_in (slice_get ts n)

-- What is built behind some events: how many tokens were read; of the rule that is being read its head and its components; of the
-- component that is being read its words; and the rules before.
pub record Building : Type 0 where
  pub at : ℕ
  pub abstract : Bool
  pub name : Name
  pub superclass : Option Name
  pub word : Name
  pub type_name : Option Name
  pub components : List WrittenComponent
  pub rules : List WrittenRule

abbrev pub nothing : List Lexed → Building
nothing ts = record { at = 0; abstract = false; name = name_at ts 0; superclass = None; word = name_at ts 0; type_name = None; components = []; rules = [] }

-- the name that the last token writes
abbrev pub last_name : List Lexed → Building → Name
last_name ts b = name_at ts (b.at - 1)

abbrev pub component_added : Form → Building → Building
component_added form b = record b { components = b.components ++ record { name = b.word; form = form; type_name = b.type_name } ∷ [] }

abbrev pub rule_added : Building → Building
rule_added b = record b { components = []; rules = b.rules ++ record { abstract = b.abstract; name = b.name; superclass = b.superclass; components = b.components } ∷ [] }

-- what the actions at the head of a rule do
abbrev pub head_after : List Lexed → Building → ℕ → Building
head_after ts b e =
    if e == 1 then record b { abstract = true }
    else if e == 2 then record b { abstract = false }
    else if e == 3 then record b { name = last_name ts b; superclass = None }
    else if e == 4 then record b { superclass = Some (last_name ts b) }
    else b

-- what the actions in a component do
abbrev pub component_after : List Lexed → Building → ℕ → Building
component_after ts b e =
    if e == 5 then record b { word = last_name ts b; type_name = None }
    else if e == 6 then record b { type_name = Some (last_name ts b) }
    else if e == 7 then component_added forms.Child b
    else if e == 8 then component_added forms.List b
    else if e == 9 then component_added forms.Optional b
    else if e == 10 then component_added forms.Token b
    else b

-- what is built behind one more event
abbrev pub after : List Lexed → Building → ℕ → Building
after ts b e =
    if e == shift then record b { at = b.at + 1 }
    else if e == 11 then rule_added b
    else if nat_le e 4 then head_after ts b e
    else component_after ts b e

abbrev pub built : List Lexed → Building → List ℕ → Building
built ts b [] = b
built ts b (e ∷ es) = built ts (after ts b e) es

-- the rules that a sentence of these events writes
abbrev pub written : List Lexed → List ℕ → List WrittenRule
written ts es = (built ts (nothing ts) es).rules

abbrev pub seen_builder : kept_builder.Builder → Building
seen_builder b = record {
  at = b.at;
  abstract = b.is_abstract;
  name = seen_name b.name;
  superclass = option_map seen_name b.superclass;
  word = seen_name b.word;
  type_name = option_map seen_name b.type_name;
  components = map seen_component b.components.items;
  rules = map seen_rule b.rules.items;
}
