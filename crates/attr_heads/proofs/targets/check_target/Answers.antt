use Rattle.std.proofs.Common.{◌≡◌, ap, option_map, subst, sym, ◌∙◌}
use Rattle.std.specs.Borrow.{Bor}
use Rattle.ast_grammar.specs.Grammar.{number_of}
use Rattle.attr_rules.specs.Rules.{number_of_attribute}
use Rattle.broken_rules.specs.Notes.{Notes}
use Rattle.aspect_items.specs.declared.items.Signature as kept_signature
use Rattle.aspect_items.specs.Items.{Signature, seen_signature}
use Rattle.attr_scope.specs.Seen.{seen_given}
use Rattle.attr_heads.specs.Targets.{attribute_for, lacking_broken}
use Rattle.attr_heads.proofs.TargetsNoted.{lacking_inherited, lacking_own, unknown_noted}
use Rattle.attr_heads.proofs.targets.check_target.Goals as goal
use Rattle.attr_heads.proofs.targets.check_target.Goals.{in-None, in-Some}

abbrev seen : Bor kept_signature.Signature → Signature
seen s = seen_signature s.now

pub returns-clause-noted : goal.returns-clause-noted
returns-clause-noted c =
    let g = c.args.grammar.now in
    let attributes = c.args.attributes.now.attributes in
    let e = seen_given c.args.equation.now in
    let class = option_map number_of c.check_class-class.result in
    let name = e.attribute.name in
    let lacking : Notes (lacking_broken g attributes e.path class name) c.check_all_parameters.new.faults c.match-equation.faults =
    elim c.match-equation.branch [
      | in-None w ↦ subst (Notes (lacking_broken g attributes e.path class name) _) (sym w.faults-is) (lacking_own g attributes name class (ap (option_map seen) w.in-None.is) w.check_own-attribute.ensures.noted)
      | in-Some w ↦ subst (Notes (lacking_broken g attributes e.path class name) _) (sym w.faults-is) (lacking_inherited g attributes name class (ap (option_map seen) w.in-Some.is) w.check_inherited-attribute.ensures.noted)
    ]
    in
    let attribute : option_map number_of_attribute c.match-equation.attribute ≡ attribute_for g attributes class e.path name.text =
    elim c.match-equation.branch [
      | in-None w ↦ ap (option_map number_of_attribute) w.attribute-is ∙ w.check_own-attribute.ensures.attribute ∙ ap (λ p. attribute_for g attributes class p name.text) (sym (ap (option_map seen) w.in-None.is))
      | in-Some w ↦ ap (option_map number_of_attribute) w.attribute-is ∙ w.check_inherited-attribute.ensures.attribute ∙ ap (λ p. attribute_for g attributes class p name.text) (sym (ap (option_map seen) w.in-Some.is))
    ]
    in
    unknown_noted g attributes e c.check_class-class.ensures.class attribute c.check_class-class.ensures.noted c.check_path-reach.ensures.noted c.in_ok-check_all_parameters.ensures lacking c.check_differing.ensures
