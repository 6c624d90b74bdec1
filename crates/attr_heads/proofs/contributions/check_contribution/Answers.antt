use Rattle.std.proofs.Common.{subst}
use Rattle.broken_rules.specs.Notes.{Notes}
use Rattle.broken_rules.proofs.Noting.{notes_then}
use Rattle.aspect_items.specs.Items.{seen_contribution}
use Rattle.attr_heads.specs.Contributions.{no_collection_broken}
use Rattle.attr_heads.proofs.contributions.check_contribution.Goals as goal

pub returns : goal.returns
returns c =
    let g = c.args.grammar.now in
    let attributes = c.args.attributes.now.attributes in
    let written = seen_contribution c.args.contribution.now in
    notes_then c.check_class.ensures.noted (notes_then c.check_class-class.ensures.noted (subst (λ o. Notes (no_collection_broken g attributes written.name o) c.check_class-class.new.faults c.check_target.new.faults) c.check_class-class.ensures.class c.check_target.ensures))
