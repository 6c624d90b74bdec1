use Rattle.std.proofs.Common.{◌≡◌, [], ◌∷◌, ◌++◌, rules, sym, ◌∙◌, arith}
use Rattle.std.proofs.lemmas.List.{get_or_default}
use Rattle.ast_rules.specs.Written.{seen_component}
use Rattle.ast_grammar.specs.Building.{component_numbered}
use Rattle.ast_grammar.proofs.Table.{seen_more}
use Rattle.ast_grammar.proofs.numbering.own_components.Goals as goal

pub loop-component-preserved : goal.loop-component-preserved
loop-component-preserved c = λ all are.
    let own = c.loop-component.own.items in
    let one = c.component_of.result in
    let more : c.push.new.self.items ≡ own ++ one ∷ [] = search rules in
    more ∙ (λ j. c.loop-component.invariant all are j ++ c.component_of.ensures all are j ∷ [])
    ∙ sym (seen_more seen_component (component_numbered all) c.args.components.now c.loop-component.component-index (get_or_default c.args.components.now c.loop-component.component-index _ _ (omega arith)) (omega arith))
