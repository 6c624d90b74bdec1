use Rattle.std.proofs.Common.{List, arith, sym, ap, ◌∙◌}
use Rattle.std.specs.Option.{option_map}
use Rattle.std.proofs.lemmas.Option.{slice_get_past}
use Rattle.tree_arena.specs.Nodes.{Node, class_in}
use Rattle.equation_law.specs.declared.system.System.{System}
use Rattle.equation_law.specs.Reading.{class_behind}
use Rattle.equation_law.specs.Systems.{program_of}
use Rattle.made_trees.specs.Makers.{program_for}
use Rattle.made_trees.proofs.Nodes.{source_by}
use Rattle.made_trees.proofs.makers.Makers.class.Goals as goal

pub returns-then-number-len : goal.returns-then-number-len
returns-then-number-len c =
    let T = c.args.self.now in
    let n = c.in_ok-number.number in
    ap (class_behind (program_for T)) (source_by T c.args.node.0 n c.in_ok-number.ensures (sym c.is_made.ensures ∙ c.if-is_made.false)) ∙ ap (λ (s : System). class_in (program_of s).tree n) c.requires
    ∙ ap (λ (nodes : List Node). class_in nodes n) (sym c.tree-tree.ensures) ∙ c.class_of-then-number-len.ensures

pub returns-else-number-len : goal.returns-else-number-len
returns-else-number-len c =
    let T = c.args.self.now in
    let n = c.in_ok-number.number in
    ap (class_behind (program_for T)) (source_by T c.args.node.0 n c.in_ok-number.ensures (sym c.is_made.ensures ∙ c.if-is_made.false)) ∙ ap (λ (s : System). class_in (program_of s).tree n) c.requires
    ∙ ap (λ (nodes : List Node). class_in nodes n) (sym c.tree-tree.ensures) ∙ ap (option_map (λ (x : Node). x.class)) (slice_get_past c.tree-tree.result.now n (omega (arith, c.len.ensures.number, c.if-number-len.false)))
