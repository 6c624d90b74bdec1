-- What holds of rules that break nothing.
use Rattle.std.proofs.Common.{◌≡◌, ◌==◌, ℕ, ◌<◌, List, [], true, false, length, slice_get, Option, Some, None, refl, ap, sym, ◌∙◌, subst}
use Rattle.std.proofs.lemmas.List.{length-map}
use Rattle.std.specs.List.{flat_map, list_any}
use Rattle.std.specs.Str.{bytes_eq}
use Rattle.rag_io.specs.Distinct.{are_distinct}
use Rattle.broken_rules.specs.Answers.{Answers}
use Rattle.broken_rules.specs.Notes.{at, broken_if, each_after, each_from}
use Rattle.broken_rules.specs.Order.{first_of}
use Rattle.broken_rules.specs.declared.rule.Rule.TheVariants.{G4}
use Rattle.broken_rules.proofs.Clean.{append_none, each_from_found, flat_map_found, not_broken, phase_none}
use Rattle.names.specs.Among.{each_once}
use Rattle.names.proofs.Known.{numbers_once}
use Rattle.names.proofs.Once.{distinct_once}
use Rattle.superclasses.specs.Superclasses.{IsAbove, is_above, superclass_of}
use Rattle.superclasses.proofs.Lines.{above_line, line_none}
use Rattle.superclasses.proofs.Steps.{listed}
use Rattle.ast_rules.specs.Members.{class_broken}
use Rattle.ast_rules.specs.Naming.{again_broken, is_class, names_of, naming_broken, rule_broken}
use Rattle.ast_rules.specs.Phases.{grammar_phases}
use Rattle.ast_rules.specs.Superclasses.{superclass_number, superclass_numbers}
use Rattle.ast_rules.specs.Written.{WrittenRule}
use Rattle.ast_rules.proofs.Known.{naming_names}
use Rattle.ast_grammar.proofs.WrittenClasses.{rule_at}

abbrev pub superclasses_in : List WrittenRule → List (Option ℕ)
superclasses_in rules = superclass_numbers (names_of rules) rules

-- The names are different and break nothing, no class is its own superclass, and the components break nothing.
pub record AreClean (rules : List WrittenRule) : Type 0 where
  pub distinct : are_distinct bytes_eq (names_of rules) ≡ true
  pub named : (i : ℕ) (rule : WrittenRule) → slice_get rules i ≡ Some rule → rule_broken (is_class rules) rule ≡ []
  pub free : (a : ℕ) → IsAbove (superclasses_in rules) a a → ⊥
  pub members : (i : ℕ) (rule : WrittenRule) → slice_get rules i ≡ Some rule → class_broken rules (superclasses_in rules) i rule ≡ []

names_distinct : (rules : List WrittenRule) → naming_broken rules ≡ [] → are_distinct bytes_eq (names_of rules) ≡ true
names_distinct rules none =
    let once = naming_names rules {names = each_once (names_of rules)} (numbers_once (names_of rules) refl) (ap first_of none) in
    ap (are_distinct bytes_eq) (sym once) ∙ distinct_once (names_of rules)

each_named : (rules : List WrittenRule) → naming_broken rules ≡ [] → (i : ℕ) (rule : WrittenRule) → slice_get rules i ≡ Some rule → rule_broken (is_class rules) rule ≡ []
each_named rules none i rule e =
    let broken = flat_map (rule_broken (is_class rules)) rules in
    flat_map_found (rule_broken (is_class rules)) rules i rule (append_none (each_after again_broken [] rules) broken none).1 e

-- a class that is its own superclass has one, so it is one of the classes, and breaks a rule
none_own : (s : List (Option ℕ)) (rules : List WrittenRule) → length s ≡ length rules → each_from (λ i (rule : WrittenRule). broken_if (is_above s i i) (at rule.name.place G4)) 0 rules ≡ []
    → (a : ℕ) (o : Option ℕ) → superclass_of s a ≡ o → IsAbove s a a → ⊥
none_own s rules same none a None e h =
    let own : is_above s a a ≡ true = (above_line s a a).1 h in
    let not_own : is_above s a a ≡ false = ap (list_any (λ c. c == a)) (line_none s a e) in
    cc
none_own s rules same none a (Some b) e h =
    let own : is_above s a a ≡ true = (above_line s a a).1 h in
    let at_a = rule_at rules a (subst (λ n. a < n) same (listed s a b e)) in
    let not_own : is_above s a a ≡ false =
    not_broken (is_above s a a) (at at_a.0.name.place G4) (each_from_found (λ i (rule : WrittenRule). broken_if (is_above s i i) (at rule.name.place G4)) rules a at_a.0 none at_a.1) in
    cc

pub are_clean : (rules : List WrittenRule) → Answers (grammar_phases rules) None → AreClean rules
are_clean rules answer =
    let s = superclasses_in rules in
    let names = phase_none answer in
    let superclasses = phase_none names.1 in
    let members = phase_none superclasses.1 in
    record {
      distinct = names_distinct rules names.0;
      named = each_named rules names.0;
      free = λ a. none_own s rules (length-map rules (superclass_number (names_of rules))) superclasses.0 a (superclass_of s a) refl;
      members = λ i rule. each_from_found (class_broken rules s) rules i rule members.0;
    }
