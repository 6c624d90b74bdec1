use Rattle.std.proofs.Common.{sym, ◌∙◌, ap, map}
use Rattle.rag_io.specs.Tokens.{seen_tokens}
use Rattle.token_texts.specs.Texts.{text_code}
use Rattle.token_texts.proofs.Quoted.{quoted_tokens}
use Rattle.jrag_reader.proofs.Held.{events_run, part_held, passed_on}
use Rattle.jrag_reader.proofs.Refused.{long_refuses, within_limits}
use Rattle.jrag_reader.proofs.reading.parts_of.Goals as goal

pub pool_texts-requires : goal.pool_texts-requires
pool_texts-requires g c = quoted_tokens c.requires.1.0

pub returns-in_err-answer-clause-reads : goal.returns-in_err-answer-clause-reads
returns-in_err-answer-clause-reads g c =
    let ts = seen_tokens c.args.tokens.now in
    let refuses = long_refuses c.args.start c.args.pool.now ts c.args.sentence.now c.in_err-answer.field-0.0 c.requires.1.1 c.new-broken.ensures
    c.in_ok-codes.ensures.noted c.note_long.ensures c.in_err-answer.ensures in
    passed_on c.args.start c.args.pool.now ts c.from_residual-in_err-answer.result c.in_err-answer.field-0.0 c.from_residual-in_err-answer.ensures.1 refuses

pub build-requires : goal.build-requires
build-requires g c =
    let ts = seen_tokens c.args.tokens.now in
    let texts = c.in_ok-codes.ensures in (
      c.deref.ensures.value ∙ texts.codes ∙ ap (λ known. map (text_code known) ts) (texts.pooled ∙ sym c.requires.0),
      events_run c.args.start g.texts ts c.args.sentence.now c.requires.1.1,
    )

pub returns-clause-reads : goal.returns-clause-reads
returns-clause-reads g c =
    let ts = seen_tokens c.args.tokens.now in
    let within = within_limits c.args.pool.now ts c.args.sentence.now c.new-broken.ensures c.in_ok-codes.ensures.noted c.note_long.ensures c.in_ok-answer.ensures in
    part_held c.args.start g.texts ts c.args.sentence.now c.requires.1.1 c.args.pool.now c.requires.0 within _ c.in_ok-build.ensures
