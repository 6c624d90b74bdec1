use Rattle.std.proofs.Common.{ap, sym, ◌∙◌}
use Rattle.equation_law.specs.Codes.{source_names, value_by}
use Rattle.equation_law.specs.Program.{text_of}
use Rattle.equation_law.specs.Values.{default_of}
use Rattle.equation_law.proofs.Pooled.{first_text}
use Rattle.plain_rounds.specs.Settings.{instance_at, naming_at, program_at}
use Rattle.plain_rounds.proofs.Circles.{kind_alike, starts_nowhere, starts_there}
use Rattle.plain_rounds.proofs.circular.start_of.Goals as goal

pub returns-then-is_circular : goal.returns-then-is_circular
returns-then-is_circular c =
    let s = c.args.setting.now in
    let p = program_at s in
    let n = naming_at s in
    let kind = c.kind_of.ensures ∙ kind_alike p (source_names (text_of p)) n c.args.name.now in
    record {
      value = starts_there p (instance_at s c.args.name.now) (value_by n c.default_of-value.result) (sym c.is_circular.ensures ∙ c.if-is_circular.true) (c.default_of-value.ensures.value n (first_text s.system.now) ∙ ap default_of kind);
      held = (c.default_of-value.ensures.elements p, tt);
    }

pub returns-else-is_circular : goal.returns-else-is_circular
returns-else-is_circular c =
    let s = c.args.setting.now in
    record { value = starts_nowhere (program_at s) (instance_at s c.args.name.now) (sym c.is_circular.ensures ∙ c.if-is_circular.false); held = tt }
