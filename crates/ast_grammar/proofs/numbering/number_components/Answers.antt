use Rattle.std.proofs.Common.{◌≡◌, [], ◌∷◌, ◌++◌, rules, map, ap, sym, ◌∙◌, arith}
use Rattle.std.proofs.lemmas.List.{map_push}
use Rattle.ast_rules.specs.Written.{seen_component, seen_rule, seen_rules}
use Rattle.ast_grammar.specs.Building.{component_numbered, items_of, own_numbered}
use Rattle.ast_grammar.proofs.Table.{seen_more}
use Rattle.ast_grammar.proofs.numbering.number_components.Goals as goal

pub loop-rule-preserved : goal.loop-rule-preserved
loop-rule-preserved c =
    let all = seen_rules c.args.rules.now in
    let before = c.loop-rule.all.items in
    let own = c.in_ok-own.own in
    let more : c.push.new.self.items ≡ before ++ own ∷ [] = search rules in
    let one = c.in_ok-own.ensures all c.requires.names ∙ ap (λ cs. map (component_numbered all) (map seen_component cs)) c.deref.ensures.value in
    ap (map items_of) more ∙ map_push items_of before own ∙ (λ j. c.loop-rule.invariant j ++ one j ∷ [])
    ∙ sym (seen_more seen_rule (own_numbered all) c.args.rules.now c.loop-rule.rule-index c.rule-item.is (omega arith))
