-- A reader that knows every code knows where each equation is read.
use Rattle.std.proofs.Common.{ℕ}
use Rattle.attr_rules.specs.declared.dispatch.Reach.{Reach}
use Rattle.attr_rules.specs.declared.dispatch.Reach.TheVariants.{Own, Component, Created, Children}
use Rattle.equation_law.specs.declared.coding.Args.{Args}
use Rattle.equation_law.specs.declared.coding.EqSite.{EqSite}
use Rattle.equation_law.specs.Codes.{codes_in}
use Rattle.equation_law.specs.Program.{Program, attribute_parameters}
use Rattle.equation_law.specs.Reading.{Told}
use Rattle.equation_law.proofs.Grown.{each_codes}
use Rattle.inherited_walk.specs.Sites.{KnowsBound, reach_at}
use Rattle.expr_eval.specs.Sites.{KnowsTarget}

module _ {S : Type 0} (r : Told S) (knows : (c : ℕ) → r.knows c) (p : Program) where
  each_bound : (reach : Reach) (xs : Args) → KnowsBound p r reach xs
  each_bound Own xs = tt
  each_bound (Component k) xs = tt
  each_bound (Created b) xs = each_codes r knows (attribute_parameters p b.0) (codes_in xs)
  each_bound Children xs = tt

  pub each_target : (s : EqSite) → KnowsTarget p r s
  each_target s e is = record {
    node = knows s.node.0;
    inner = each_codes r knows (attribute_parameters p e.target.attribute.0) (codes_in s.inner);
    outer = each_bound (reach_at p s.equation.0) s.outer;
  }
