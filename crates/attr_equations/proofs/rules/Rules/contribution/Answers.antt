use Rattle.std.proofs.Common.{◌≡◌, ◌<◌, Some, length, slice_get, arith, ap, sym, ◌∙◌}
use Rattle.std.proofs.lemmas.List.{length-map}
use Rattle.std.proofs.lemmas.Option.{slice_get-get_or}
use Rattle.attr_equations.specs.KeptContributions.{contribution_in}
use Rattle.attr_equations.proofs.Numbering.{contribution_at}
use Rattle.attr_equations.proofs.rules.Rules.contribution.Goals as goal

pub returns : goal.returns
returns c =
    let r = c.args.self.now in
    let within : c.args.k < length r.contributions.items = omega (arith, c.requires, length-map r.contributions.items contribution_in) in
    let here : slice_get r.contributions.items c.args.k ≡ Some c.index.result.now = slice_get-get_or r.contributions.items c.args.k c.index.result.now within ∙ ap Some (sym c.index.ensures) in
    contribution_at r.attributes.superclasses r.attributes.attributes r.equations.items r.contributions.items r.numbered c.args.k c.index.result.now here
