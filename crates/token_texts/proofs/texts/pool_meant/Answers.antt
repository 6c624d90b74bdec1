use Rattle.std.proofs.Common.{◌∙◌, [], ◌∷◌, ap, sym, subst, Err}
use Rattle.broken_rules.proofs.Noting.{notes_if, notes_none}
use Rattle.broken_rules.specs.Notes.{Notes, at}
use Rattle.rag_io.proofs.Meant.{stands_meant}
use Rattle.rag_io.specs.Pool.{number_of, with_text}
use Rattle.rag_io.specs.Tokens.{seen_token}
use Rattle.rag_io.specs.Unquoted.{meant}
use Rattle.token_texts.proofs.Pooled.{code_found, code_full, is_full, not_past, pooled_added, pooled_full}
use Rattle.token_texts.proofs.texts.pool_meant.Goals as goal

pub returns-in-Ok-clause-code : goal.returns-in-Ok-clause-code
returns-in-Ok-clause-code c =
    code_found c.add.new.self c.args.text.now (meant c.args.token.now.text.now) c.in-Ok.number c.in-Ok.ensures.number
    (stands_meant c.requires)

pub returns-in-Ok-clause-pooled : goal.returns-in-Ok-clause-pooled
returns-in-Ok-clause-pooled c =
    let added = c.in-Ok.ensures.added ∙ ap (with_text c.args.pool.now) (stands_meant c.requires) in
    pooled_added c.args.pool.now c.add.new.self (meant c.args.token.now.text.now) added c.add.ensures.pool.few

pub returns-in-Ok-clause-noted : goal.returns-in-Ok-clause-noted
returns-in-Ok-clause-noted c =
    let added = c.in-Ok.ensures.added ∙ ap (with_text c.args.pool.now) (stands_meant c.requires) in
    let no = not_past c.args.pool.now c.add.new.self (meant c.args.token.now.text.now) added c.add.ensures.pool.few in
    notes_if _ _ (at (seen_token c.args.token.now).place c.args.rule) (sym no) notes_none

pub returns-in-Err-Full-clause-code : goal.returns-in-Err-Full-clause-code
returns-in-Err-Full-clause-code c =
    let full = c.add.ensures.full.0 (c.in-Err-Full.is ∙ ap Err c.in-Err-Full.field-0-is) in
    code_full c.args.pool.now c.add.new.self c.args.text.now (meant c.args.token.now.text.now) full.0 c.in-Err-Full.ensures.refused
    (stands_meant c.requires)

pub returns-in-Err-Full-clause-pooled : goal.returns-in-Err-Full-clause-pooled
returns-in-Err-Full-clause-pooled c =
    let full = c.add.ensures.full.0 (c.in-Err-Full.is ∙ ap Err c.in-Err-Full.field-0-is) in
    let none = ap (number_of c.args.pool.now) (sym (stands_meant c.requires)) ∙ full.0 in
    pooled_full c.args.pool.now c.add.new.self (meant c.args.token.now.text.now) none full.1 c.in-Err-Full.ensures.refused

pub returns-in-Err-Full-clause-noted : goal.returns-in-Err-Full-clause-noted
returns-in-Err-Full-clause-noted c =
    let full = c.add.ensures.full.0 (c.in-Err-Full.is ∙ ap Err c.in-Err-Full.field-0-is) in
    let none = ap (number_of c.args.pool.now) (sym (stands_meant c.requires)) ∙ full.0 in
    let yes = is_full c.args.pool.now (meant c.args.token.now.text.now) none full.1 in
    notes_if _ _ (at (seen_token c.args.token.now).place c.args.rule) (sym yes)
    (subst (λ p. Notes (at p c.args.rule ∷ []) c.args.broken.now c.note.new.self) c.place_of.ensures c.note.ensures)
