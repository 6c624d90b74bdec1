use Rattle.std.proofs.Common.{Bool, refl, sym, ◌∙◌, rules}
use Rattle.attr_rules.specs.declared.attributes.KeptAttr.{KeptAttr}
use Rattle.attr_rules.specs.Rules.{is_inherited, number_of_attribute}
use Rattle.attr_rules.proofs.FirstPlaces.{firsts_all, firsts_none, firsts_passed, firsts_taken, put_in}
use Rattle.attr_rules.proofs.attributes.first_inherited.Goals as goal
use Rattle.attr_rules.proofs.attributes.first_inherited.Goals.{else-is_inherited, then-is_inherited}

pub loop-i-init : goal.loop-i-init
loop-i-init c = firsts_none number_of_attribute (λ (a : KeptAttr). is_inherited a.declared.sort) (λ a. a.name) c.args.names (search rules)

pub loop-i-preserved : goal.loop-i-preserved
loop-i-preserved c =
    let has : KeptAttr → Bool = λ a. is_inherited a.declared.sort in
    elim c.if-is_inherited.branch [
      | then-is_inherited w ↦
          firsts_taken number_of_attribute has (λ a. a.name) c.args.names c.args.kept.now c.loop-i.i _ (record { 0 = c.loop-i.i }) c.loop-i-test.true
          (sym c.is_inherited.ensures ∙ w.if-is_inherited.true) refl (put_in c.loop-i.row _ _ w.deref_mut.ensures.value w.put_first.ensures w.row-is) c.loop-i.invariant
      | else-is_inherited w ↦
          rw w.row-is (firsts_passed number_of_attribute has (λ a. a.name) c.args.names c.args.kept.now c.loop-i.i _ c.loop-i-test.true (sym c.is_inherited.ensures ∙ w.if-is_inherited.false) c.loop-i.invariant)
    ]

pub returns : goal.returns
returns c =
    let has : KeptAttr → Bool = λ a. is_inherited a.declared.sort in
    let firsts = firsts_all number_of_attribute has (λ a. a.name) c.args.names c.args.kept.now c.loop-i.i c.loop-i-test.false c.loop-i.invariant in
    record { long = firsts.long; each = firsts.each }
