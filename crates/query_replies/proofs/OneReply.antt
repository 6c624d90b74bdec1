-- The replies of a program are one text.
use Rattle.std.proofs.Common.{◌≡◌, ℕ, List, ◌∷◌, ◌++◌, codes, refl, ap, subst}
use Rattle.attr_rules.specs.Queries.{Query as Asked}
use Rattle.equation_law.specs.Names.{Query}
use Rattle.equation_law.specs.Program.{Program}
use Rattle.equation_law.proofs.Solution.{loopless, one}
use Rattle.query_lang.specs.Replies.{IsReplyText}
use Rattle.query_lang.proofs.ReplyTexts.{one_reply_text}
use Rattle.query_replies.specs.Replies.{AreReplies}
use Rattle.query_replies.specs.Replies.{looped, none, reply}

-- a query has a value or a loop, and not both
pub one_replies : (p : Program) {q : ℕ} {es : List Asked} {t u : List ℕ} → AreReplies p q es t → AreReplies p q es u → t ≡ u
one_replies p none none = refl
one_replies p (reply {q = q} {v = v} {text = text} {rest = rest} a is more) (reply {v = w} {text = other} {rest = behind} b says further) =
    let texts : text ≡ other = one_reply_text w text other (subst (λ x. IsReplyText x text) (one p (Query q) v w a b) is) says in
    let rests : rest ≡ behind = one_replies p more further in
    cc
one_replies p (reply {q = q} {v = v} a is more) (looped loop further) = absurd (loopless p (Query q) v a loop)
one_replies p (looped loop more) (reply {q = q} {v = v} a is further) = absurd (loopless p (Query q) v a loop)
one_replies p (looped loop more) (looped again further) = ap (λ rest. codes "circular" ++ 10 ∷ rest) (one_replies p more further)
