use Rattle.std.proofs.Common.{◌∙◌, List, length, length-set, ap}
use Rattle.code_sets.specs.declared.word.Word.{Word}
use Rattle.code_sets.specs.Kept.{with_bits}
use Rattle.code_sets.proofs.Made.{refilled}
use Rattle.code_sets.proofs.kept.put_bits.Goals as goal

pub returns : goal.returns
returns c =
    let words = c.args.words.now.items in
    refilled words _ (length-set c.deref_mut.result.now c.args.at _ ∙ ap (λ (l : List Word). length l) c.deref_mut.ensures.value) ∙ ap (λ (l : List Word). with_bits l c.args.at c.args.bits) c.deref_mut.ensures.value
