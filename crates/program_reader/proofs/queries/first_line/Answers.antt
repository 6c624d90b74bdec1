use Rattle.std.proofs.Common.{◌≡◌, ℕ, List, [], ◌∷◌, ◌-◌, length, take, drop, refl, ap, ◌∙◌, arith}
use Rattle.std.proofs.lemmas.Grind.{common_steps}
use Rattle.program_reader.proofs.Lines.{first_line_by}
use Rattle.program_reader.proofs.queries.first_line.Goals as goal

-- nothing stands behind no bytes
drop_none : (bytes : List ℕ) → length bytes ≡ 0 → bytes ≡ drop 1 bytes
drop_none [] e = refl
drop_none (b ∷ bytes) e = absurd (omega arith)

pub returns-in-empty-clause-line : goal.returns-in-empty-clause-line
returns-in-empty-clause-line c =
    first_line_by c.args.bytes.now c.line_length.result c.split_at.result.0.now c.split_at.result.1.now c.line_length.ensures.value c.split_at.ensures.front
    (drop_none c.split_at.result.1.now (omega arith) ∙ ap (drop 1) c.split_at.ensures.back)

pub returns-in-len1-up-clause-line : goal.returns-in-len1-up-clause-line
returns-in-len1-up-clause-line c =
    let whole : take (length c.split_at.result.1.now - 1) (drop 1 c.split_at.result.1.now) ≡ drop 1 c.split_at.result.1.now = grind (arith, common_steps) in
    first_line_by c.args.bytes.now c.line_length.result c.split_at.result.0.now _ c.line_length.ensures.value c.split_at.ensures.front
    (whole ∙ ap (drop 1) c.split_at.ensures.back)
