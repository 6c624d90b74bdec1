use Rattle.std.proofs.Common.{◌≡◌, length, vec_len, arith, sym, ap, subst, ◌∙◌}
use Rattle.equation_law.specs.Systems.{program_of}
use Rattle.made_trees.specs.Makers.{AreTrees, Trees, makers_in}
use Rattle.made_trees.proofs.Kept.{few_makers, kept_length}
use Rattle.made_trees.proofs.makers.Makers.len.Goals as goal

pub overflow_cast-result : goal.overflow_cast-result
overflow_cast-result c =
    let few = few_makers (program_of c.self.inside.system.value) (makers_in c.self.inside.kept.items) c.self.invariant.makers in
    let many = kept_length c.self.inside.kept.items in
    omega (arith, c.len.ensures, few, many)

pub returns-clause-number : goal.returns-clause-number
returns-clause-number c =
    let items : vec_len c.self.inside.kept ≡ length c.self.inside.kept.items = omega arith in
    c.len.ensures ∙ items ∙ sym (kept_length c.self.inside.kept.items) ∙ ap (λ (x : Trees). length x.makers) c.self.view_is

pub returns-clause-trees : goal.returns-clause-trees
returns-clause-trees c = subst AreTrees c.self.view_is (record { makers = c.self.invariant.makers; small = c.self.invariant.small; fit = c.self.invariant.fit; few = c.self.invariant.few })
