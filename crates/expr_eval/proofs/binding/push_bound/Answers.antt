use Rattle.std.proofs.Common.{◌≡◌, ◌++◌, OnOk, map, subst, sym}
use Rattle.attr_rules.specs.declared.dispatch.Reach.{Reach}
use Rattle.equation_law.specs.Codes.{Naming, single_by}
use Rattle.equation_law.specs.Systems.{program_of}
use Rattle.inherited_walk.specs.Sites.{outer_values}
use Rattle.expr_eval.proofs.binding.push_bound.Goals as goal

pub returns-in-Component : goal.returns-in-Component
returns-in-Component c =
    subst (λ (r : Reach). OnOk c.push_places.result ((n : Naming) → map (single_by n) c.push_places.new.names.items ≡ map (single_by n) c.args.names.now.items ++ outer_values (program_of c.args.system.now) n r c.args.outer)) (sym c.in-Component.is) c.push_places.ensures
