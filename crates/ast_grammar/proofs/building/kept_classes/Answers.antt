use Rattle.std.proofs.Common.{◌≡◌, ◌+◌, [], ◌∷◌, ◌++◌, length, refl, ap, ◌∙◌, rules, arith, length-append}
use Rattle.ast_rules.specs.Written.{seen_rules}
use Rattle.ast_grammar.specs.declared.grammar.KeptClass.{KeptClass}
use Rattle.ast_grammar.proofs.Keeping.{inherited, kept_more, kept_of}
use Rattle.ast_grammar.proofs.building.kept_classes.Goals as goal

pub loop-i-preserved : goal.loop-i-preserved
loop-i-preserved c =
    let i = c.loop-i.i in
    let all = seen_rules c.args.rules.now in
    let item = c.index-rules-i.result in
    let before = c.loop-i.kept.items in
    let one : KeptClass = record { is_abstract = item.is_abstract; name = i + 1; superclass = c.superclass_at.result; components = c.in_ok-components_of.field-0 } in
    let more : c.push.new.self.items ≡ before ++ one ∷ [] = search rules in
    let components = inherited all i c.requires.own c.requires.superclasses c.in_ok-components_of.ensures in
    let new = kept_of c.args.rules.now i item one c.index-rules-i.is (omega arith) refl refl c.requires.superclasses c.superclass_at.ensures components in
    record {
      count = ap length more ∙ length-append before (one ∷ []) ∙ ap (λ n. n + 1) c.loop-i.invariant.count;
      each = kept_more all i before one c.loop-i.invariant.count more new c.loop-i.invariant.each;
    }
