use Rattle.std.proofs.Common.{◌≡◌, ◌<◌, Some, length, slice_get, arith, sym, ap, subst, ◌∙◌}
use Rattle.std.specs.Option.{option_map}
use Rattle.std.proofs.lemmas.Option.{slice_get-get_or}
use Rattle.made_trees.specs.Made.{maker_at}
use Rattle.made_trees.specs.Makers.{Trees, instance_in}
use Rattle.made_trees.proofs.Kept.{kept_length, kept_maker}
use Rattle.made_trees.proofs.makers.Makers.instance.Goals as goal

pub returns : goal.returns
returns c =
    let many = kept_length c.self.inside.kept.items in
    let low = subst (λ (x : Trees). c.args.tree < length x.makers) (sym c.self.view_is) c.requires in
    let some : slice_get c.self.inside.kept.items c.args.tree ≡ Some c.index.result.now = slice_get-get_or c.self.inside.kept.items c.args.tree c.index.result.now (omega (arith, many, low)) ∙ ap Some (sym c.index.ensures) in
    subst (λ (x : Trees). maker_at x.makers c.args.tree ≡ Some c.index.result.now.instance) c.self.view_is (kept_maker c.self.inside.kept.items c.args.tree ∙ ap (option_map instance_in) some)
