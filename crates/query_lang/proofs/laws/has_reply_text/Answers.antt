use Rattle.query_lang.proofs.ReplyTexts.{has_reply_text}
use Rattle.query_lang.proofs.laws.has_reply_text.Goals as goal

pub returns : goal.returns
returns c = has_reply_text
