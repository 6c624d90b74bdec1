use Rattle.rag_io.specs.Tokens.{seen_tokens}
use Rattle.token_texts.specs.Texts.{pooled_texts}
use Rattle.jrag_reader.proofs.reading.read_parts.Given as goal

abbrev pub ghost-parts_of : goal.ghost-parts_of
ghost-parts_of a = pooled_texts a.pool.now (seen_tokens a.tokens.now)
