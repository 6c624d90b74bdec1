-- Rules that break nothing write a grammar, where the names of their classes are words.
use Rattle.std.proofs.Common.{◌≡◌, ℕ, zero, suc, ◌<◌, ◌≤◌, ◌==◌, List, [], ◌∷◌, ◌++◌, false, All, length, map, slice_get, Option, Some, None, ap, sym, ◌∙◌, subst, arith, inl, inr}
use Rattle.std.proofs.lemmas.Bool.{cases_order}
use Rattle.std.proofs.lemmas.List.{length-map, map-append}
use Rattle.std.proofs.lemmas.List.Quantifiers.{position-Some}
use Rattle.std.proofs.lemmas.Simd.{map-map}
use Rattle.std.proofs.lemmas.Option.{get_or_from_slice_get}
use Rattle.std.specs.Str.{bytes_eq}
use Rattle.rag_io.specs.Distinct.{are_distinct}
use Rattle.rag_io.specs.Words.{IsWord}
use Rattle.broken_rules.specs.Answers.{Answers}
use Rattle.broken_rules.specs.Notes.{at, broken_if}
use Rattle.broken_rules.specs.declared.rule.Rule.TheVariants.{G10}
use Rattle.broken_rules.proofs.Clean.{append_none, not_broken}
use Rattle.superclasses.specs.Superclasses.{AreWithin, IsAbove, superclass_of}
use Rattle.superclasses.proofs.Steps.{listed}
use Rattle.ast_rules.specs.Members.{components_at, inherited_names}
use Rattle.ast_rules.specs.Naming.{names_of}
use Rattle.ast_rules.specs.Phases.{grammar_phases}
use Rattle.ast_rules.specs.Reading.{AreNamed}
use Rattle.ast_rules.specs.Superclasses.{number_among, superclass_number, superclass_numbers}
use Rattle.ast_rules.specs.Written.{Name, WrittenRule}
use Rattle.ast_grammar.specs.Grammar.{Begins, IsClass, IsGrammar, components_of, most_classes, most_components, name_of_component}
use Rattle.ast_grammar.specs.Written.{class_written, component_written, grammar_written, inherited_first}
use Rattle.ast_grammar.proofs.Allowed.{all_at}
use Rattle.ast_grammar.proofs.WrittenClasses.{class_count, class_is, class_names, components_are, rule_at, superclasses_are}
use Rattle.ast_grammar.proofs.Clean.{AreClean, are_clean, superclasses_in}
use Rattle.ast_grammar.proofs.CleanMembers.{broken_behind, few_components, own_behind}
use Rattle.ast_grammar.proofs.CleanNames.{components_fit, rule_may_stand}

-- a number by a name is that of a name
among_below : (names : List (List ℕ)) (o : Option Name) (b : ℕ) → number_among names o ≡ Some b → b < length names
among_below names None b e = cc
among_below names (Some name) b e = (position-Some (bytes_eq name.text) names b [] e).0

numbers_below : (names : List (List ℕ)) (rules : List WrittenRule) (a b : ℕ) → superclass_of (superclass_numbers names rules) a ≡ Some b → b < length names
numbers_below names [] a b e = cc
numbers_below names (rule ∷ rules) zero b e = among_below names rule.superclass b e
numbers_below names (rule ∷ rules) (suc a) b e = numbers_below names rules a b e

module _ (rules : List WrittenRule) (named : AreNamed rules) (clean : AreClean rules) where
  all_few : length rules ≤ most_classes
  all_few = elim (cases_order most_classes (length rules)) [
    | inl same ↦ omega arith
    | inr apart ↦ elim apart [
      | inl more ↦
          let last = rule_at rules most_classes more in
          let members = broken_behind (inherited_names rules (superclasses_in rules) most_classes) last.0.components in
          let not_last : (most_classes == 256) ≡ false = not_broken (most_classes == 256) (at last.0.name.place G10) (append_none (broken_if (most_classes == 256) (at last.0.name.place G10)) members (clean.members most_classes last.0 last.1)).0 in
          absurd cc
      | inr over ↦ omega arith
    ]
  ]

  class_fits : (i : ℕ) (rule : WrittenRule) → slice_get rules i ≡ Some rule → IsClass (length rules) (class_written rules i rule)
  class_fits i rule e =
      let few = few_components rules clean i in
      record {
        spelled = all_at (λ (r : WrittenRule). IsWord r.name.text) rules i rule named.words e;
        named = rule_may_stand rules clean i rule e;
        short = subst (λ n. n ≤ most_components) (sym (length-map (inherited_first rules i) (component_written rules))) few.short;
        distinct = ap (are_distinct bytes_eq) (map-map name_of_component (component_written rules) (inherited_first rules i)) ∙ few.distinct;
        components = components_fit rules clean i;
      }

  all_fit : All (IsClass (length (grammar_written rules))) (grammar_written rules)
  all_fit k d lt =
      let rule = rule_at rules k (subst (λ n. k < n) (class_count rules) lt) in
      let is = get_or_from_slice_get (grammar_written rules) k (class_written rules k rule.0) d (class_is rules k rule.0 rule.1) in
      subst (IsClass (length (grammar_written rules))) (sym is) (subst (λ n. IsClass n (class_written rules k rule.0)) (sym (class_count rules)) (class_fits k rule.0 rule.1))

  -- the superclass of a class is a class
  superclass_below : (a b : ℕ) → superclass_of (superclasses_in rules) a ≡ Some b → b < length rules
  superclass_below a b e = subst (λ n. b < n) (length-map rules (λ (r : WrittenRule). r.name.text)) (numbers_below (names_of rules) rules a b e)

  are_within : AreWithin (superclasses_in rules)
  are_within = record { within = λ a b e. subst (λ n. b < n) (sym (length-map rules (superclass_number (names_of rules)))) (superclass_below a b e) }

  inherits_first : (a b : ℕ) → superclass_of (superclasses_in rules) a ≡ Some b → Begins (components_of (grammar_written rules) a) (components_of (grammar_written rules) b)
  inherits_first a b e =
      let counted : length (superclasses_in rules) ≡ length rules = length-map rules (superclass_number (names_of rules)) in
      let below : a < length rules = subst (λ n. a < n) counted (listed (superclasses_in rules) a b e) in
      record {
        rest = map (component_written rules) (components_at rules a);
        are = components_are rules a below ∙ ap (map (component_written rules)) (own_behind rules clean a b e)
            ∙ map-append (component_written rules) (inherited_first rules b) (components_at rules a)
            ∙ ap (λ cs. cs ++ map (component_written rules) (components_at rules a)) (sym (components_are rules b (superclass_below a b e)));
      }

  grammar_of_clean : 0 < length rules → IsGrammar (grammar_written rules)
  grammar_of_clean some = record {
    some = subst (λ n. 0 < n) (sym (class_count rules)) some;
    few = subst (λ n. n ≤ most_classes) (sym (class_count rules)) all_few;
    distinct = ap (are_distinct bytes_eq) (class_names rules) ∙ clean.distinct;
    classes = all_fit;
    within = subst AreWithin (sym (superclasses_are rules)) are_within;
    acyclic = subst (λ s. (a : ℕ) → IsAbove s a a → ⊥) (sym (superclasses_are rules)) clean.free;
    inherits = subst (λ s. (a b : ℕ) → superclass_of s a ≡ Some b → Begins (components_of (grammar_written rules) a) (components_of (grammar_written rules) b)) (sym (superclasses_are rules)) inherits_first;
  }

-- so the classes that they write are a grammar
pub clean_grammar : (rules : List WrittenRule) → AreNamed rules → 0 < length rules → Answers (grammar_phases rules) None → IsGrammar (grammar_written rules)
clean_grammar rules named some answer = grammar_of_clean rules named (are_clean rules answer) some
