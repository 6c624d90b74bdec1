use Rattle.std.proofs.Common.{◌≡◌, ◌∙◌, List, Some, ap, arith, sym, subst}
use Rattle.ast_grammar.specs.Grammar.{Class, is_sub}
use Rattle.tree_arena.specs.Nodes.{Node, class_in, parent_in}
use Rattle.equation_law.specs.declared.system.System.{System}
use Rattle.equation_law.specs.Systems.{program_of}
use Rattle.equation_law.proofs.Above.{tree_falls}
use Rattle.collection_attrs.specs.Roots.{IsRoot}
use Rattle.collection_attrs.proofs.Rooted.{of_class, root_above}
use Rattle.collection_attrs.proofs.noted_roots.fill.Goals as goal

pub upwards-smaller : goal.upwards-smaller
upwards-smaller c =
    let p = program_of c.args.system.now in
    let up : parent_in p.tree c.upwards.at ≡ Some c.in-Some.parent = ap (λ (t : List Node). parent_in t c.upwards.at) (sym c.tree-tree.ensures) ∙ c.parent.ensures ∙ c.in-Some.is in
    tree_falls p.tree c.requires.tree c.upwards.at c.in-Some.parent up

pub upwards-preserved : goal.upwards-preserved
upwards-preserved c =
    let p = program_of c.args.system.now in
    let falls = tree_falls p.tree c.requires.tree in
    let up : parent_in p.tree c.upwards.at ≡ Some c.in-Some.parent = ap (λ (t : List Node). parent_in t c.upwards.at) (sym c.tree-tree.ensures) ∙ c.parent.ensures ∙ c.in-Some.is in
    let class : class_in p.tree c.upwards.at ≡ Some c.class_of.result = ap (λ (t : List Node). class_in t c.upwards.at) (sym c.tree-tree.ensures) ∙ c.class_of.ensures in
    let off = of_class p c.args.class c.upwards.at c.class_of.result class ∙ ap (λ (g : List Class). is_sub g c.class_of.result.0 c.args.class.0) (sym c.grammar.ensures) ∙ sym c.is_sub.ensures.flag ∙ c.upwards-test.true in
    let smaller = falls c.upwards.at c.in-Some.parent up in
    let within = c.upwards.invariant.within in
    record {
      within = omega (arith, smaller, within);
      same = c.upwards.invariant.same ∙ root_above p c.args.class c.upwards.at c.in-Some.parent falls off up;
      kept = c.note.ensures ∙ c.upwards.invariant.kept;
    }

pub note-requires : goal.note-requires
note-requires c =
    subst (λ (s : System). IsRoot (program_of s) c.args.class c.upwards.at c.args.root) (sym (c.upwards.invariant.kept ∙ c.requires.same))
    (record { is = c.requires.root.is ∙ c.upwards.invariant.same; within = c.requires.root.within })
