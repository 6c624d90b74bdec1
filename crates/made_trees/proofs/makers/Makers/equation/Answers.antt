use Rattle.std.proofs.Common.{◌≡◌, ◌<◌, Some, length, slice_get, arith, sym, ap, subst, ◌∙◌}
use Rattle.std.proofs.lemmas.Option.{slice_get-get_or}
use Rattle.made_trees.specs.Makers.{IsEquationAt, Trees}
use Rattle.made_trees.proofs.Kept.{equation_kept, kept_length}
use Rattle.made_trees.proofs.makers.Makers.equation.Goals as goal

pub returns : goal.returns
returns c =
    let many = kept_length c.self.inside.kept.items in
    let low = subst (λ (x : Trees). c.args.tree < length x.makers) (sym c.self.view_is) c.requires in
    let some : slice_get c.self.inside.kept.items c.args.tree ≡ Some c.index.result.now = slice_get-get_or c.self.inside.kept.items c.args.tree c.index.result.now (omega (arith, many, low)) ∙ ap Some (sym c.index.ensures) in
    subst (λ (x : Trees). IsEquationAt x c.args.tree c.index.result.now.equation) c.self.view_is
    (equation_kept c.self.inside.system.value c.self.inside.kept.items c.self.inside.numbers c.args.tree c.index.result.now c.self.invariant some)
