-- What the rules of an `.ast` file write.
use Rattle.std.specs.Prelude.{ℕ, List, Bool, Option, map}
use Rattle.std.specs.Option.{option_map}
use Rattle.rag_io.specs.declared.token.Place.{Place}
use Rattle.ast_rules.specs.declared.written.Form.{Form}
use Rattle.ast_rules.specs.declared.written.Name as kept_name
use Rattle.ast_rules.specs.declared.written.WrittenComponent as kept_written_component
use Rattle.ast_rules.specs.declared.written.WrittenRule as kept_written_rule

-- a name as it is written, and where it stands
pub record Name : Type 0 where
  pub text : List ℕ
  pub place : Place

-- a component by its only word, or by the one before `:` and the one behind it
pub record WrittenComponent : Type 0 where
  pub name : Name
  pub form : Form
  pub type_name : Option Name

-- a rule
pub record WrittenRule : Type 0 where
  pub abstract : Bool
  pub name : Name
  pub superclass : Option Name
  pub components : List WrittenComponent

abbrev pub seen_name : kept_name.Name → Name
seen_name n = record { text = n.text.now; place = n.place }

abbrev pub seen_component : kept_written_component.WrittenComponent → WrittenComponent
seen_component c = record { name = seen_name c.name; form = c.form; type_name = option_map seen_name c.type_name }

abbrev pub seen_rule : kept_written_rule.WrittenRule → WrittenRule
seen_rule r = record { abstract = r.is_abstract; name = seen_name r.name; superclass = option_map seen_name r.superclass; components = map seen_component r.components.items }

abbrev pub seen_rules : List kept_written_rule.WrittenRule → List WrittenRule
seen_rules rs = map seen_rule rs
