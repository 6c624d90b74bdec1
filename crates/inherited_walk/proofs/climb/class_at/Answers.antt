use Rattle.std.proofs.Common.{◌<◌, ◌≤◌, ap, length, sym, ◌∙◌, arith}
use Rattle.std.proofs.lemmas.Bool.{ltb-false, ltb-true}
use Rattle.tree_arena.specs.Nodes.{most_nodes}
use Rattle.equation_law.specs.Codes.{reference_by}
use Rattle.equation_law.specs.Reading.{class_behind}
use Rattle.equation_law.specs.Systems.{program_of}
use Rattle.equation_law.proofs.Grown.{grows_itself}
use Rattle.inherited_walk.proofs.Classes.{behind_within, no_class_told, past_class, source_is}
use Rattle.inherited_walk.proofs.climb.class_at.Goals as goal

pub returns-else-from-classes : goal.returns-else-from-classes
returns-else-from-classes g c =
    let p = program_of c.args.system.now in
    let grows = c.made_class-class.ensures.kept p c.requires.sound in
    let few : length p.tree ≤ most_nodes = omega (arith, c.len.ensures.few, c.len.ensures.number, ap length c.tree.ensures) in
    let far : most_nodes < c.args.node.0 = ltb-true most_nodes c.args.node.0 (sym c.is_made.ensures ∙ c.if-is_made.true) in
    let past : length p.grammar ≤ c.made_class-class.result.0 = omega (arith, c.if-from-classes.false, c.from.ensures, c.classes.ensures.number, ap length c.grammar.ensures) in
    record {
      kept = grows;
      class = λ n is.
          no_class_told p.grammar (class_behind p (reference_by n.node c.args.node.0)) c.made_class-class.result (c.made_class-class.ensures.answer p c.requires.sound far c.requires.known n is) past
          (λ d e. behind_within p few (grows.sound.named n is) c.requires.sound.fit c.args.node.0 far d e);
    }

pub returns-else-number-len : goal.returns-else-number-len
returns-else-number-len g c =
    let p = program_of c.args.system.now in
    let low : c.args.node.0 ≤ most_nodes = ltb-false most_nodes c.args.node.0 (sym c.is_made.ensures ∙ c.if-is_made.false) in
    let past : length p.tree ≤ c.in_ok-number.number = omega (arith, c.if-number-len.false, c.len-2.ensures.number, ap length c.tree-tree.ensures) in
    record { kept = grows_itself c.requires.sound; class = λ n is. sym (ap (class_behind p) (source_is (c.requires.sound.named n is) c.in_ok-number.number c.args.node.0 low c.in_ok-number.ensures) ∙ past_class p c.in_ok-number.number past) }
