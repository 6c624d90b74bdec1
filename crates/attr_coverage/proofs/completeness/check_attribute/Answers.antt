use Rattle.std.proofs.Common.{sym, ◌∙◌}
use Rattle.attr_coverage.proofs.Completing.{missing_noted, open_noted}
use Rattle.attr_coverage.proofs.completeness.check_attribute.Goals as goal

pub returns-then-is_inherited : goal.returns-then-is_inherited
returns-then-is_inherited c = λ targets known made has.
    let sort = sym c.is_inherited.ensures ∙ c.if-is_inherited.true in
    open_noted c.args.grammar.now c.args.attributes.now.attributes targets made c.args.attribute.0 c.args.place c.attr-declared.result.now c.attr-declared.ensures sort c.first_of_name-first.ensures (c.in_ok-is_open.ensures targets known made has) c.note_if.ensures

pub returns : goal.returns
returns c = λ targets known made has.
    let sort = sym c.is_inherited.ensures ∙ c.if-is_inherited.false in
    missing_noted c.args.grammar.now c.args.attributes.now.attributes targets made c.args.attribute.0 c.args.place c.attr-declared.result.now c.attr-declared.ensures c.args.dispatch.now known sort c.is_missing-is_missing.ensures c.note_if-2.ensures
