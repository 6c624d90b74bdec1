use Rattle.std.proofs.Common.{◌≡◌, ap, arith, length, map, Some, slice_get, subst}
use Rattle.std.specs.Option.{option_map}
use Rattle.ast_grammar.specs.Grammar.{superclasses_of}
use Rattle.attr_rules.specs.Rules.{RuleSet, Attribute}
use Rattle.equation_law.specs.Systems.{program_of}
use Rattle.plain_rounds.specs.Named.{name_in}
use Rattle.plain_rounds.proofs.Adding.{attribute_listed, attributes_listed}
use Rattle.plain_rounds.proofs.listing.push_attributes.Goals as goal

pub loop-number-preserved : goal.loop-number-preserved
loop-number-preserved c = record {
  listed = λ texts.
      let rules : option_map (λ (x : Attribute). x.declared) (slice_get (program_of c.args.system.now).rules.attributes c.loop-number.number) ≡ Some c.attr.result.now =
      subst (λ (r : RuleSet). option_map (λ (x : Attribute). x.declared) (slice_get r.attributes c.loop-number.number) ≡ Some c.attr.result.now) c.rules-rules.ensures c.attr.ensures
      in
      attribute_listed texts (program_of c.args.system.now) c.loop-number.names.items c.push_plain.new.names.items c.loop-number.number c.attr.result.now _ rules (c.in_ok-push_plain.ensures.names texts) (c.loop-number.invariant.listed texts);
  few = omega arith;
}

pub returns-clause-names : goal.returns-clause-names
returns-clause-names c = λ texts.
    let p = program_of c.args.system.now in
    let rules = ap (λ (r : RuleSet). length r.attributes) c.rules-rules.ensures in
    attributes_listed (superclasses_of p.grammar) p.rules.attributes c.loop-number.number p.tree (map (name_in texts) c.loop-number.names.items) _ (omega (arith, c.loop-number-test.false, c.attrs-number-end.ensures.number, rules)) (c.loop-number.invariant.listed texts)
