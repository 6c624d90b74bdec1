-- Calls as they are written, and the rules on them: J9, J10 and J11. A rule that speaks of a type speaks of receivers whose type is known.
use Rattle.std.specs.Prelude.{ℕ, ◌==◌, List, [], ◌∷◌, ◌++◌, Bool, not, ◌&&◌, Option, Some, None, length}
use Rattle.std.specs.Option.{option_map}
use Rattle.rag_io.specs.declared.token.Place.{Place}
use Rattle.broken_rules.specs.declared.broken.Broken.{Broken}
use Rattle.broken_rules.specs.declared.rule.Rule.TheVariants.{J9, J10, J11}
use Rattle.broken_rules.specs.Notes.{at, broken_if}
use Rattle.ast_grammar.specs.declared.grammar.ClassId.{ClassId}
use Rattle.attr_rules.specs.declared.types.ValueType.{ValueType}
use Rattle.attr_rules.specs.Types.{class_in}
use Rattle.aspect_items.specs.Expressions.{Expr, Name, seen_expr, seen_name}
use Rattle.attr_scope.specs.declared.scope.Member as member
use Rattle.attr_scope.specs.Scope.{Scope, arguments_wanted, is_list, member_of, member_on}
use Rattle.expr_typing.specs.declared.calls.Called.{Called}
use Rattle.expr_typing.specs.Places.{place_of}

-- the place of the first token of a call
abbrev pub place_behind : Option Expr → Name → Place
place_behind None n = n.place
place_behind (Some e) n = place_of e

abbrev pub first_place : Called → Place
first_place c = place_behind (option_map (λ e. seen_expr e.now) c.receiver) (seen_name c.name.now)

-- J11: another number of arguments
abbrev pub other_count : Scope → member.Member → Name → ℕ → List Broken
other_count s m name n = broken_if (not (length (arguments_wanted s m) == n)) (at name.place J11)

-- J10: a whole list, where no list is wanted; `first` is the place of the first token of the call
abbrev pub stray_list : Bool → member.Member → Place → List Broken
stray_list range m first = broken_if (not range && is_list m) (at first J10)

-- J9: the name means nothing
abbrev pub member_broken : Scope → Bool → Option member.Member → Name → ℕ → Place → List Broken
member_broken s range None name n first = at name.place J9 ∷ []
member_broken s range (Some m) name n first = other_count s m name n ++ stray_list range m first

-- J10: the receiver is of no class
abbrev pub on_class_broken : Scope → Bool → Name → ℕ → Place → Option ClassId → List Broken
on_class_broken s range name n first None = at first J10 ∷ []
on_class_broken s range name n first (Some c) = member_broken s range (member_of s name.text n c) name n first

-- what a call breaks behind a receiver of a type, where that is known
abbrev pub call_broken : Scope → Bool → Name → ℕ → Place → Option ValueType → List Broken
call_broken s range name n first None = []
call_broken s range name n first (Some t) = on_class_broken s range name n first (class_in t)

-- of a call as it is written: what its name means behind a receiver of a type, and what it breaks there, where that is known
abbrev pub meant : Scope → Option ValueType → Called → Option member.Member
meant s t c = member_on s t (seen_name c.name.now).text c.count

abbrev pub broken_by : Scope → Option ValueType → Called → List Broken
broken_by s t c = call_broken s c.range (seen_name c.name.now) c.count (first_place c) t

-- what it breaks where its name means this
abbrev pub broken_as : Scope → Option member.Member → Called → List Broken
broken_as s m c = member_broken s c.range m (seen_name c.name.now) c.count (first_place c)
