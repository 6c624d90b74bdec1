-- The classes that rules write, by their numbers.
use Rattle.std.proofs.Common.{◌≡◌, ℕ, zero, suc, ◌+◌, ◌<◌, List, [], ◌∷◌, length, map, slice_get, Option, Some, None, option_map, refl, ap, sym, ◌∙◌, arith, add-zero}
use Rattle.ast_rules.specs.Naming.{names_of}
use Rattle.ast_rules.specs.Superclasses.{superclass_number, superclass_numbers}
use Rattle.ast_rules.specs.Written.{WrittenRule}
use Rattle.ast_grammar.specs.Grammar.{components_in, components_of, name_of_class, number_of, superclasses_of}
use Rattle.ast_grammar.specs.Written.{class_id, class_written, classes_from, component_written, grammar_written, inherited_first}

no_item : (k : ℕ) → k < 0 → ⊥
no_item k lt = omega arith

-- each number below their count is that of a rule
pub rule_at : (rules : List WrittenRule) (k : ℕ) → k < length rules → (rule : WrittenRule) × (slice_get rules k ≡ Some rule)
rule_at [] k lt = absurd (no_item k lt)
rule_at (rule ∷ rules) zero lt = (rule, refl)
rule_at (rule ∷ rules) (suc k) lt = rule_at rules k (omega arith)

own_number : (o : Option ℕ) → option_map number_of (option_map class_id o) ≡ o
own_number None = refl
own_number (Some k) = refl

module _ (all : List WrittenRule) where
  count_from : (i : ℕ) (rules : List WrittenRule) → length (classes_from all i rules) ≡ length rules
  count_from i [] = refl
  count_from i (rule ∷ rules) = ap suc (count_from (i + 1) rules)

  names_from : (i : ℕ) (rules : List WrittenRule) → map name_of_class (classes_from all i rules) ≡ names_of rules
  names_from i [] = refl
  names_from i (rule ∷ rules) = ap (λ ns. rule.name.text ∷ ns) (names_from (i + 1) rules)

  superclasses_from : (i : ℕ) (rules : List WrittenRule) → superclasses_of (classes_from all i rules) ≡ superclass_numbers (names_of all) rules
  unfolding superclasses_of
  superclasses_from i [] = refl
  superclasses_from i (rule ∷ rules) = (λ j. own_number (superclass_number (names_of all) rule) j ∷ superclasses_from (i + 1) rules j)

  class_from : (i : ℕ) (rules : List WrittenRule) (k : ℕ) (rule : WrittenRule) → slice_get rules k ≡ Some rule → slice_get (classes_from all i rules) k ≡ Some (class_written all (i + k) rule)
  class_from i [] k rule e = cc
  class_from i (first ∷ rules) zero rule e = let same : first ≡ rule = cc in (λ j. Some (class_written all (sym (add-zero i) j) (same j)))
  class_from i (first ∷ rules) (suc k) rule e = let shifted : (i + 1) + k ≡ i + suc k = omega arith in class_from (i + 1) rules k rule e ∙ ap (λ n. Some (class_written all n rule)) shifted

-- the grammar of some rules
module _ (rules : List WrittenRule) where
  pub class_count : length (grammar_written rules) ≡ length rules
  class_count = count_from rules 0 rules

  pub class_names : map name_of_class (grammar_written rules) ≡ names_of rules
  class_names = names_from rules 0 rules

  pub superclasses_are : superclasses_of (grammar_written rules) ≡ superclass_numbers (names_of rules) rules
  superclasses_are = superclasses_from rules 0 rules

  pub class_is : (i : ℕ) (rule : WrittenRule) → slice_get rules i ≡ Some rule → slice_get (grammar_written rules) i ≡ Some (class_written rules i rule)
  class_is i rule e = let whole : 0 + i ≡ i = omega arith in class_from rules 0 rules i rule e ∙ ap (λ n. Some (class_written rules n rule)) whole

  pub components_are : (i : ℕ) → i < length rules → components_of (grammar_written rules) i ≡ map (component_written rules) (inherited_first rules i)
  components_are i lt = let at = rule_at rules i lt in ap components_in (class_is i at.0 at.1)
