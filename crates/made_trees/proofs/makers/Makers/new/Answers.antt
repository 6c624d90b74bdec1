use Rattle.std.proofs.Common.{◌≤◌, List, length, sym, subst}
use Rattle.tree_arena.specs.Nodes.{most_nodes}
use Rattle.equation_law.specs.declared.system.System.{System}
use Rattle.equation_law.specs.Checked.{TreesFit}
use Rattle.equation_law.specs.Systems.{program_of}
use Rattle.equation_law.proofs.Fitting.{trees_fit}
use Rattle.made_trees.specs.declared.makers.Maker.{Maker}
use Rattle.made_trees.specs.Makers.{AreKept, AreSmall}
use Rattle.made_trees.proofs.Kept.{none_known}
use Rattle.made_trees.proofs.Small.{trees_small}
use Rattle.made_trees.proofs.makers.Makers.new.Goals as goal

pub invariant_of-result : goal.invariant_of-result
invariant_of-result c =
    subst (λ (l : List Maker). AreKept (program_of c.of.result.value) l c.new-2.result) (sym c.new.ensures.items) (record {
      makers = tt;
      equations = λ t m e. absurd (cc);
      numbers = none_known c.new-2.result c.new-2.ensures.empty;
      small = subst (λ (s : System). AreSmall (program_of s)) (sym c.of.ensures) (trees_small (program_of c.args.system.now) c.requires);
      fit = subst (λ (s : System). TreesFit (program_of s)) (sym c.of.ensures) (trees_fit (program_of c.args.system.now) c.requires);
      few = subst (λ (s : System). length (program_of s).tree ≤ most_nodes) (sym c.of.ensures) c.requires.tree.few;
    })
