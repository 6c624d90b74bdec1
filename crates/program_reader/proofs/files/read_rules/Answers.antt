use Rattle.std.proofs.Common.{rules}
use Rattle.aspect_items.specs.Items.{seen_aspects}
use Rattle.program_reader.proofs.Tested.{refused_built}
use Rattle.program_reader.proofs.files.read_rules.Goals as goal

pub returns-in_err-check_rules : goal.returns-in_err-check_rules
returns-in_err-check_rules c =
    refused_built c.args.grammar.now (seen_aspects c.args.aspects.now) (search rules) c.in_err-check_rules.field-0.0 c.from_residual.result c.from_residual.ensures c.in_err-check_rules.ensures

pub returns : goal.returns
returns c = record {
  accepted = record { built = search rules; clean = c.in_ok-check_rules.ensures.clean };
  are = c.in_ok-check_rules.ensures.are;
}
