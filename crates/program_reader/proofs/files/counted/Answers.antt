use Rattle.std.proofs.Common.{map, ap, ◌∙◌}
use Rattle.aspect_items.specs.Items.{seen_item}
use Rattle.program_reader.specs.Files.{contributions, counts_line}
use Rattle.program_reader.proofs.Contributed.{contributed}
use Rattle.program_reader.proofs.files.counted.Goals as goal

pub returns : goal.returns
returns c =
    let number = c.contributions.ensures ∙ contributed c.deref.result.now ∙ ap (λ items. contributions (map seen_item items)) c.deref.ensures.value in
    λ i. counts_line (c.classes.ensures.number i) (c.attrs.ensures.number i) (c.equations.ensures i) (number i)
