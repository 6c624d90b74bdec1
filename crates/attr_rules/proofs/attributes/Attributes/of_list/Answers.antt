use Rattle.std.proofs.Common.{◌≡◌, List, length, ap, sym, subst, ◌∙◌, arith}
use Rattle.std.proofs.lemmas.List.{length-map}
use Rattle.ast_grammar.proofs.Inherited.{length-superclasses_of}
use Rattle.attr_rules.specs.declared.attributes.KeptAttr.{KeptAttr}
use Rattle.attr_rules.specs.KeptAttributes.{AreFirstInherited, AreRows, attribute_in, seen_attribute}
use Rattle.attr_rules.proofs.attributes.Attributes.of_list.Goals as goal

pub invariant_of-result : goal.invariant_of-result
invariant_of-result c =
    let s = c.in_ok-subclasses.subclasses in
    let kept = c.in_ok-kept.kept.items in
    let rows = c.in_ok-rows.rows.items in
    let inherited = c.in_ok-inherited.inherited.items in
    let many : length kept ≡ length c.args.list.now = sym (length-map kept (attribute_in c.numbered.new.names)) ∙ ap length c.in_ok-kept.ensures.attributes ∙ length-map c.args.list.now seen_attribute in
    let same : length s ≡ c.classes-classes.result = ap length (c.in_ok-subclasses.ensures ∙ c.subclasses.ensures) ∙ length-superclasses_of c.args.grammar.now ∙ sym c.classes-classes.ensures.number in
    record {
      few = omega (arith, many, c.requires);
      numbered = c.in_ok-kept.ensures.within;
      placed =
          subst (λ n. AreRows s n (length c.numbered.new.names) kept rows) (sym same)
          (subst (λ n. AreRows s c.classes-classes.result n kept rows) c.len.ensures.value (subst (λ (k : List KeptAttr). AreRows s c.classes-classes.result c.len.result k rows) c.deref.ensures.value c.in_ok-rows.ensures));
      firsts = subst (λ n. AreFirstInherited n kept inherited) c.len-2.ensures.value (subst (λ (k : List KeptAttr). AreFirstInherited c.len-2.result k inherited) c.deref-2.ensures.value c.in_ok-inherited.ensures);
    }
