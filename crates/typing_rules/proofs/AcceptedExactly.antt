-- Aspects that break no rule.
use Rattle.std.proofs.Common.{◌≡◌, ◌↔◌, List, [], ◌∷◌, None, sym, subst}
use Rattle.std.specs.List.{flat_map}
use Rattle.broken_rules.specs.Answers.{Answers, clean, passes}
use Rattle.broken_rules.specs.declared.broken.Broken.{Broken}
use Rattle.broken_rules.proofs.Clean.{append_none, phase_none}
use Rattle.ast_grammar.specs.Grammar.{Class}
use Rattle.aspect_items.specs.Items.{Item}
use Rattle.attr_scope.specs.Written.{contributions, declarations, givens}
use Rattle.attr_heads.specs.Contributions.{contributions_broken}
use Rattle.attr_heads.specs.Heads.{attributes_of}
use Rattle.attr_heads.specs.Targets.{targets_broken}
use Rattle.attr_types.specs.Phases.{equation_broken, expressions_broken, phases_of}
use Rattle.typing_rules.specs.EquationTypes.{IsAccepted}
use Rattle.typing_rules.proofs.ContributionsTyped.{contributions_exactly}
use Rattle.typing_rules.proofs.EquationsTyped.{equations_exactly}
use Rattle.typing_rules.proofs.NothingBroken.{none_after}

-- phases that break nothing
four_passed : {a b c d : List Broken} → a ≡ [] → b ≡ [] → c ≡ [] → d ≡ [] → Answers (a ∷ b ∷ c ∷ d ∷ []) None
four_passed h i j k = subst (λ (x : Type 0). x) (λ l. Answers (sym h l ∷ sym i l ∷ sym j l ∷ sym k l ∷ []) None) (passes (passes (passes (passes clean))))

pub accepted_exactly : (g : List Class) (items : List Item) → Answers (phases_of g items) None ↔ IsAccepted g items
accepted_exactly g items =
    let attributes = attributes_of g (declarations items) in
    let equations = equations_exactly g attributes (givens items) in
    let offered = contributions_exactly g attributes (contributions items) in (
      (λ a.
          let heads = phase_none a in
          let uses = phase_none heads.1 in
          let complete = phase_none uses.1 in
          let bodies = phase_none complete.1 in
          let aims = append_none (targets_broken g attributes (givens items)) (contributions_broken g attributes (contributions items)) uses.0 in
          let both = append_none (flat_map (equation_broken g attributes) (givens items)) (flat_map (expressions_broken g attributes) (contributions items)) bodies.0 in
          record {
            heads = heads.0;
            targets = aims.0;
            collections = aims.1;
            complete = complete.0;
            bodies = (equations aims.0).0 both.0;
            offered = offered.0 both.1;
          }),
      (λ h. four_passed h.heads (none_after h.targets h.collections) h.complete (none_after ((equations h.targets).1 h.bodies) (offered.1 h.offered))),
    )
