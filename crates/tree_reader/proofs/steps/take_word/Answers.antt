use Rattle.std.proofs.lemmas.Result.{IfOk-weaker}
use Rattle.std.proofs.Common.{◌≡◌, []}
use Rattle.tree_reader.specs.Steps.{is_true, seen_state}
use Rattle.tree_reader.proofs.Telling.{word_added}
use Rattle.tree_reader.proofs.steps.take_word.Goals as goal

pub returns : goal.returns
returns c =
    let g = c.args.grammar.now in
    let word = c.as_slice.ensures in
    let same = c.eq.ensures in
    let is : c.eq.result ≡ is_true c.args.word.now = cc in
    IfOk-weaker c.add_value.result _ _
    (λ x h. word_added g c.args.is_opening c.args.word.now c.args.place (seen_state g c.args.laying.now) _ c.eq.result c.if-is_opening.false is (h [])) c.add_value.ensures
