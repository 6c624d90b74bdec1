use Rattle.std.proofs.Common.{ℕ, ◌*◌, ◌/◌, ◌%◌, ◌^◌, ◌||◌, List, ap, ◌∙◌}
use Rattle.code_sets.specs.Members.{has_code}
use Rattle.code_sets.specs.Words.{codes_of_word}
use Rattle.code_sets.proofs.Bits.{one_code}
use Rattle.code_sets.proofs.Rising.{only_one}
use Rattle.code_sets.proofs.codes.Codes.one.Goals as goal

pub returns : goal.returns
returns c =
    only_one c.args.code c.add_word.new.self c.in_ok-add_word.ensures.made.rises
    (λ q.
    c.in_ok-add_word.ensures.made.members q
    ∙ ap (λ (xs : List ℕ). has_code xs q || has_code (codes_of_word (c.args.code / 64) (1 * 2 ^ (c.args.code % 64) % 2 ^ 64)) q) c.none-codes.ensures
    ∙ one_code c.args.code q)
