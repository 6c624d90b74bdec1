use Rattle.std.proofs.Common.{arith, map, Some, ap, length, ◌∙◌}
use Rattle.ast_grammar.specs.Grammar.{superclasses_of}
use Rattle.plain_rounds.specs.Named.{name_in}
use Rattle.plain_rounds.proofs.Adding.{node_listed, nodes_listed, node_passed}
use Rattle.plain_rounds.proofs.listing.push_nodes.Goals as goal
use Rattle.plain_rounds.proofs.listing.push_nodes.Goals.{then-is_of+in_ok-push, else-is_of}

pub loop-node-preserved : goal.loop-node-preserved
loop-node-preserved c = elim c.if-is_of.branch [
  | then-is_of+in_ok-push w ↦
      let same = ap (λ v. v.items) w.names-is in
      record {
        listed = λ texts. node_listed texts (superclasses_of c.args.grammar.now) c.args.tree.now c.args.class c.loop-node.names.items c.if-is_of.names.items _ c.args.attr.0 c.loop-node.node _ (w.at_node.ensures texts) (c.is_of.ensures ∙ ap Some w.if-is_of.true) (same ∙ w.in_ok-push.ensures.added) (c.loop-node.invariant.listed texts);
        few = omega (arith, ap length same, w.in_ok-push.ensures.few);
      }
  | else-is_of w ↦
      let same = ap (λ v. v.items) w.names-is in
      record {
        listed = λ texts. node_passed texts (superclasses_of c.args.grammar.now) c.args.tree.now c.args.class c.if-is_of.names.items c.args.attr.0 c.loop-node.node _ (c.is_of.ensures ∙ ap Some w.if-is_of.false) (rw same (c.loop-node.invariant.listed texts));
        few = omega (arith, ap length same);
      }
]

pub returns-clause-names : goal.returns-clause-names
returns-clause-names c = λ texts. nodes_listed (superclasses_of c.args.grammar.now) c.args.tree.now c.args.class c.args.attr.0 c.loop-node.node (map (name_in texts) c.loop-node.names.items) _ (omega (arith, c.loop-node-test.false, c.len-node-end.ensures.number)) (c.loop-node.invariant.listed texts)
