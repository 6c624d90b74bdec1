-- Aspects that break no rule make rules of the grammar.
use Rattle.std.proofs.Common.{◌∙◌, List, None, refl, sym, ap, arith}
use Rattle.std.specs.List.{flat_map}
use Rattle.std.proofs.lemmas.List.{length-map}
use Rattle.ast_grammar.specs.Grammar.{Class, IsGrammar}
use Rattle.broken_rules.specs.Answers.{Answers}
use Rattle.broken_rules.proofs.Clean.{append_none, phase_none}
use Rattle.aspect_items.specs.Items.{Item}
use Rattle.attr_heads.specs.Contributions.{contributions_broken}
use Rattle.attr_heads.specs.Heads.{attribute_of, attributes_of}
use Rattle.attr_heads.specs.Targets.{targets_broken}
use Rattle.attr_types.specs.Phases.{equation_broken, equation_of, expressions_broken, phases_of, rules_of}
use Rattle.attr_rules.specs.Rules.{AreRules, target_in}
use Rattle.attr_scope.specs.Written.{contributions, declarations, givens}
use Rattle.attr_scope.proofs.ItemsFound.{map_found}
use Rattle.attr_types.proofs.CompleteClean.{complete_rules, covered_rules}
use Rattle.attr_heads.proofs.DeclaredClean.{declared_attributes, few_declared}
use Rattle.attr_heads.proofs.AlikeClean.{alike}
use Rattle.attr_heads.proofs.OnceDeclared.{no_accessor, one_attribute}
use Rattle.attr_heads.proofs.OnceGiven.{one_target}
use Rattle.attr_types.proofs.ContributionsClean.{contributions_there}
use Rattle.attr_types.proofs.EquationsClean.{equations_there}

pub accepted : (g : List Class) (items : List Item) → IsGrammar g → Answers (phases_of g items) None → AreRules g (rules_of g items)
unfolding rules_of
accepted g items grammar answer =
    let attributes = attributes_of g (declarations items) in
    let heads = phase_none answer in
    let targets = phase_none heads.1 in
    let complete = phase_none targets.1 in
    let bodies = phase_none complete.1 in
    let uses = append_none (targets_broken g attributes (givens items)) (contributions_broken g attributes (contributions items)) targets.0 in
    let expressions = append_none (flat_map (equation_broken g attributes) (givens items)) (flat_map (expressions_broken g attributes) (contributions items)) bodies.0 in
    record {
      superclasses = refl;
      few = omega (arith, few_declared g (declarations items) heads.0, length-map (declarations items) (attribute_of g));
      attributes = declared_attributes g items heads.0;
      equations = equations_there g attributes items uses.0 expressions.0;
      contributions = contributions_there g attributes items uses.1 expressions.1;
      one_equation = λ i j e f first second same. (
          let d = map_found (equation_of g attributes) (givens items) i e first in
          let k = map_found (equation_of g attributes) (givens items) j f second in
          one_target g attributes (givens items) uses.0 i j d.0 k.0 d.1 k.1 (ap target_in d.2 ∙ same ∙ ap target_in (sym k.2))
          );
      one_attribute = one_attribute g (declarations items) heads.0;
      no_accessor = no_accessor g (declarations items) heads.0;
      complete = complete_rules g items complete.0;
      alike = alike g (declarations items) heads.0;
      covered = covered_rules g items complete.0;
    }
