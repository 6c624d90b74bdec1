use Rattle.std.proofs.Common.{◌≡◌, ◌++◌, codes, reverse, ap, ◌∙◌}
use Rattle.std.proofs.lemmas.Result.{on_ok_weaker}
use Rattle.tree_writer.specs.Parts.{arguments_from, listed}
use Rattle.tree_writer.proofs.Turns.{node_goes_on}
use Rattle.tree_writer.proofs.writing.write_node.Goals as goal

pub returns-clause-on : goal.returns-clause-on
returns-clause-on g c =
    let looked = c.class_of-class in
    let written : c.add-2.new.text.items ≡ (c.args.text.now.items ++ c.class_name.result.now) ++ codes "(" = c.in_ok-add-2.ensures ∙ (λ i. c.in_ok-add.ensures i ++ c.as_slice.ensures i) in
    on_ok_weaker c.push_arguments.result
    (λ put.
    node_goes_on (λ m t h. g.met.N.ShowsNodes.still c.args.nodes.now looked.new.self m t looked.ensures.kept h) c.args.n c.arity.result looked.result c.class_name.result.now
    c.args.text.now.items c.add-2.new.text.items (reverse c.args.stack.now.items) (reverse c.push_arguments.new.stack.items) looked.ensures.class c.class_name.ensures
    c.arity.ensures.number written (put ∙ ap (λ ps. listed (arguments_from c.args.n 0 c.arity.result) ++ ps) c.in_ok-push.ensures))
    c.push_arguments.ensures
