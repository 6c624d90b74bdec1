use Rattle.std.proofs.Common.{◌≡◌, IfSome, slice_get, sym, subst}
use Rattle.std.specs.Option.{option_map}
use Rattle.equation_law.specs.declared.system.System.{System}
use Rattle.equation_law.specs.Systems.{program_of}
use Rattle.made_trees.specs.Makers.{IsEquationWithin, making_by}
use Rattle.made_trees.specs.Stands.{IsSmall, stand_of, stands_or_none}
use Rattle.made_trees.proofs.Equations.{small_by, stand_by}
use Rattle.made_trees.proofs.keeping.stand_at.Goals as goal

pub stand_in-requires-clause-within : goal.stand_in-requires-clause-within
stand_in-requires-clause-within g c = subst (λ (s : System). IsEquationWithin (program_of s) c.equation-equation.result) c.requires.same c.equation-equation.ensures.equation.within

pub stand_in-requires-clause-small : goal.stand_in-requires-clause-small
stand_in-requires-clause-small g c =
    let T = g.K.KeepsMakers.trees c.args.keeper.now in
    subst (λ (s : System). IfSome (making_by (program_of s) c.equation-equation.result) IsSmall) c.requires.same (small_by T c.requires.trees c.args.spot.tree c.requires.spot c.equation-equation.result c.equation-equation.ensures.equation)

pub returns-clause-stand : goal.returns-clause-stand
returns-clause-stand g c =
    let T = g.K.KeepsMakers.trees c.args.keeper.now in
    stand_by T c.args.spot c.equation-equation.result c.stand_in.result c.equation-equation.ensures.equation
    (subst (λ (s : System). slice_get (stands_or_none (making_by (program_of s) c.equation-equation.result)) c.args.spot.position ≡ option_map stand_of c.stand_in.result) (sym c.requires.same) c.stand_in.ensures)
