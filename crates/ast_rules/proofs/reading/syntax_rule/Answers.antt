use Rattle.std.proofs.Common.{◌∙◌}
use Rattle.rag_io.specs.Tokens.{seen_tokens}
use Rattle.ast_rules.proofs.Said.{classes_before, outside_by_text, outside_by_place, left_out_by}
use Rattle.ast_rules.specs.Written.{seen_name}
use Rattle.ast_rules.proofs.reading.syntax_rule.Goals as goal

pub returns-then-ne : goal.returns-then-ne
returns-then-ne c =
    outside_by_text (seen_tokens c.args.tokens.now) c.args.number (seen_name c.name_at.result) c.name_at.ensures (let e = c.as_slice.ensures in let f = c.ne.ensures in let g = c.if-ne.true in cc)

pub returns-then-branch : goal.returns-then-branch
returns-then-branch c =
    let behind = c.deref.ensures.value ∙ c.in_ok-before.ensures ∙ classes_before c.args.tokens.now c.args.number in
    left_out_by (seen_tokens c.args.tokens.now) c.args.number (seen_name c.name_at.result) c.name_at.ensures c.deref.result.now behind
    c.in_ok-begins_component.field-0 c.if-branch.true c.in_ok-begins_component.ensures.0 (let e = c.as_slice.ensures in let f = c.ne.ensures in let g = c.if-ne.false in cc)

pub returns : goal.returns
returns c =
    let behind = c.deref.ensures.value ∙ c.in_ok-before.ensures ∙ classes_before c.args.tokens.now c.args.number in
    outside_by_place (seen_tokens c.args.tokens.now) c.args.number (seen_name c.name_at.result) c.name_at.ensures c.deref.result.now behind
    c.in_ok-begins_component.field-0 c.if-branch.false c.in_ok-begins_component.ensures.1
