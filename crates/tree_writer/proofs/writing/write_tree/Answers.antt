use Rattle.std.proofs.Common.{◌≡◌, ◌++◌, ◌∷◌, [], List, ℕ, ap, subst, ◌∙◌, rules}
use Rattle.tree_writer.specs.Parts.{AddsSubtree}
use Rattle.tree_writer.specs.Showing.{IsSubtreeAt}
use Rattle.tree_writer.proofs.SourceTrees.{source_node, source_some, whole_text}
use Rattle.tree_writer.proofs.writing.write_tree.Goals as goal

pub add_subtree-requires : goal.add_subtree-requires
add_subtree-requires c = source_node c.requires 0 (source_some c.requires)

pub returns : goal.returns
returns c =
    let none : c.in_ok-text.text.items ≡ [] = search rules in
    let line : c.add.new.text.items ≡ c.add_subtree.new.text.items ++ 10 ∷ [] = c.in_ok-add.ensures ∙ ap (λ (b : List ℕ). c.add_subtree.new.text.items ++ b) c.as_slice.ensures in
    whole_text c.args.grammar.now c.args.pool.now c.args.tree.now c.add_subtree.new.text.items c.add.new.text.items
    (subst (λ (t : List ℕ). AddsSubtree c.args.grammar.now c.args.pool.now (IsSubtreeAt c.args.tree.now) 0 t c.add_subtree.new.text.items) none c.in_ok-add_subtree.ensures.text) line
