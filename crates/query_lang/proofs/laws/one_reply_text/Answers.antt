use Rattle.query_lang.proofs.ReplyTexts.{one_reply_text}
use Rattle.query_lang.proofs.laws.one_reply_text.Goals as goal

pub returns : goal.returns
returns c = one_reply_text
