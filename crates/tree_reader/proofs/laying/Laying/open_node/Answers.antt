use Rattle.std.proofs.lemmas.Result.{IfOk-weaker}
use Rattle.std.proofs.Common.{◌≡◌, ◌++◌, [], length, map, refl, ap, ◌∙◌, arith}
use Rattle.std.proofs.lemmas.List.{length-map}
use Rattle.std.specs.Option.{option_map}
use Rattle.broken_rules.proofs.Noting.{notes_then}
use Rattle.ast_grammar.specs.Grammar.{number_of}
use Rattle.tree_arena.specs.Nodes.{Node}
use Rattle.tree_reader.specs.Breaking.{name_broken, node_misplaced}
use Rattle.tree_reader.specs.Laying.{seen_laid}
use Rattle.tree_reader.specs.Steps.{State, entered, laid_last, noted, seen_state}
use Rattle.tree_reader.specs.Wants.{Wanted}
use Rattle.tree_reader.proofs.Telling.{class_or_zero, node_begins}
use Rattle.tree_reader.proofs.laying.Laying.open_node.Goals as goal

-- the node that was laid is this one
laid_as : (new s : State) (x y : Node) → new ≡ laid_last x s → x ≡ y → new ≡ laid_last y s
laid_as new s x y h e = h ∙ ap (λ (z : Node). laid_last z s) e

pub returns : goal.returns
returns c =
    let g = c.args.grammar.now in
    let p = c.args.place in
    let s = seen_state g c.args.self.now in
    let class = option_map number_of c.find_class-class.result in
    let count : c.len-node.result ≡ length (map seen_laid c.args.self.now.nodes.items) = omega (arith, length-map c.args.self.now.nodes.items seen_laid) in
    let broken =
    (notes_then c.note_name.ensures c.note_node.ensures).is
    ∙ ap (λ (w : Wanted). noted s.broken (name_broken g class c.len-node.result p ++ node_misplaced g w class p)) c.wanted-wanted.ensures in
    let first = class_or_zero c.find_class-class.result _ c.unwrap_or.result refl c.unwrap_or.ensures in
    let begun = node_begins g c.args.name.now p s class c.len-node.result c.unwrap_or.result c.component.result [] _ _
    c.find_class-class.ensures.number count first c.component.ensures refl (c.arguments_of.ensures g) broken in
    IfOk-weaker c.enter.result _ _ (λ x h. h g ∙ ap (entered _) (laid_as _ _ _ _ (c.in_ok-lay.ensures g ∙ ap (laid_last (seen_laid c.in_ok-laid.laid)) c.in_ok-go_behind.ensures) c.in_ok-laid.ensures) ∙ begun) c.enter.ensures
