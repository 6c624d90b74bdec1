use Rattle.std.proofs.Common.{ap, sym, ◌∙◌}
use Rattle.attr_rules.specs.Rules.{AttributeSet, RuleSet, circular_at}
use Rattle.equation_law.specs.Equations.{is_ordered}
use Rattle.equation_law.specs.Codes.{source_names}
use Rattle.equation_law.specs.Program.{text_of}
use Rattle.plain_rounds.specs.Settings.{naming_at, program_at}
use Rattle.plain_rounds.proofs.Circles.{all_hold, kind_alike, no_query, undeclared, unordered}
use Rattle.plain_rounds.proofs.circular.is_circular.Goals as goal
use Rattle.plain_rounds.proofs.circular.is_circular.Goals.{then-is_circular, else-is_circular}

pub returns-in-Query : goal.returns-in-Query
returns-in-Query c = no_query (program_at c.args.setting.now) (naming_at c.args.setting.now) c.args.name.now c.in-Query.field-0.0 c.in-Query.is

pub returns-then-is_ordered : goal.returns-then-is_ordered
returns-then-is_ordered c =
    let p = program_at c.args.setting.now in
    let n = naming_at c.args.setting.now in
    let kind = kind_alike p (source_names (text_of p)) n c.args.name.now in
    let declared = c.is_circular.ensures ∙ ap (λ (x : AttributeSet). circular_at x.attributes c.in-Attr.attr.0) c.attributes.ensures ∙ ap (λ (x : RuleSet). circular_at x.attributes c.in-Attr.attr.0) c.rules.ensures in
    elim c.if-is_circular.branch [
      | then-is_circular w ↦ all_hold p n c.args.name.now c.in-Attr.attr c.in-Attr.node c.in-Attr.args c.in-Attr.is c.is_circular.result w.is_ordered.result c.equation_rises.result declared (w.is_ordered.ensures ∙ ap is_ordered (w.kind_of.ensures ∙ kind)) c.equation_rises.ensures w.if-is_circular.true (sym w.value-is ∙ c.if-is_ordered.true)
      | else-is_circular w ↦ let both = sym w.value-is ∙ c.if-is_ordered.true in cc
    ]

pub returns-else-is_ordered : goal.returns-else-is_ordered
returns-else-is_ordered c =
    let p = program_at c.args.setting.now in
    let n = naming_at c.args.setting.now in
    let kind = kind_alike p (source_names (text_of p)) n c.args.name.now in
    let declared = c.is_circular.ensures ∙ ap (λ (x : AttributeSet). circular_at x.attributes c.in-Attr.attr.0) c.attributes.ensures ∙ ap (λ (x : RuleSet). circular_at x.attributes c.in-Attr.attr.0) c.rules.ensures in
    elim c.if-is_circular.branch [
      | then-is_circular w ↦ unordered p n c.args.name.now c.in-Attr.attr c.in-Attr.node c.in-Attr.args c.in-Attr.is c.is_circular.result w.is_ordered.result c.if-is_circular.value declared (w.is_ordered.ensures ∙ ap is_ordered (w.kind_of.ensures ∙ kind)) w.if-is_circular.true (sym w.value-is ∙ c.if-is_ordered.false) c.if-is_ordered.false
      | else-is_circular w ↦ undeclared p n c.args.name.now c.in-Attr.attr c.in-Attr.node c.in-Attr.args c.in-Attr.is c.is_circular.result c.if-is_circular.value declared w.if-is_circular.false c.if-is_ordered.false
    ]
