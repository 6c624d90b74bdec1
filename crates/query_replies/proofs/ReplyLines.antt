-- Steps of the loop over the replies.
use Rattle.std.proofs.Common.{◌≡◌, ℕ, suc, ◌+◌, ◌<◌, List, [], ◌∷◌, ◌++◌, codes, length, drop, drop-cons, add-one, Result, Err, sym, ap, subst, ◌∙◌, append_assoc}
use Rattle.std.specs.Result.{IsErr, IsErrAnd}
use Rattle.std.proofs.lemmas.List.{append-nil}
use Rattle.std.proofs.lemmas.Result.{err_from_is_err_and}
use Rattle.attr_rules.specs.Queries.{Query as Asked}
use Rattle.equation_law.specs.Program.{Program}
use Rattle.query_replies.specs.declared.replies.ReplyFault.{ReplyFault}
use Rattle.query_replies.specs.declared.replies.ReplyFault.TheVariants.{Cells}
use Rattle.query_replies.specs.Replies.{AreReplies}
use Rattle.query_replies.specs.Replies.{none, reply}
use Rattle.query_replies.specs.Replies.{looped as circular}
use Rattle.query_replies.proofs.Answered.{some_query}
use Rattle.query_replies.specs.Replies.{AddsAnswer, looped, valued}

module _ (p : Program) (q : ℕ) (old new : List ℕ) (within : q < length p.queries) (before : (rest : List ℕ) → AreReplies p q (drop q p.queries) rest → AreReplies p 0 p.queries (old ++ rest)) where
  -- one line more
  next_line : (text rest : List ℕ) → new ≡ old ++ (text ++ 10 ∷ []) → ((e : Asked) → AreReplies p q (e ∷ drop (suc q) p.queries) (text ++ 10 ∷ rest)) → AreReplies p 0 p.queries (new ++ rest)
  next_line text rest added line =
      let here : AreReplies p q (drop q p.queries) (text ++ 10 ∷ rest) =
      subst (λ (es : List Asked). AreReplies p q es (text ++ 10 ∷ rest)) (sym (drop-cons p.queries q some_query within)) (line _) in
      let joined : old ++ (text ++ 10 ∷ rest) ≡ new ++ rest =
      ap (λ (t : List ℕ). old ++ t) (sym (append_assoc text (10 ∷ []) rest)) ∙ sym (append_assoc old (text ++ 10 ∷ []) rest) ∙ ap (λ (t : List ℕ). t ++ rest) (sym added) in
      subst (AreReplies p 0 p.queries) joined (before (text ++ 10 ∷ rest) here)

  -- whichever line it is
  pub next_reply : AddsAnswer p q old new → (rest : List ℕ) → AreReplies p (q + 1) (drop (q + 1) p.queries) rest → AreReplies p 0 p.queries (new ++ rest)
  next_reply a rest later =
      let behind : AreReplies p (suc q) (drop (suc q) p.queries) rest = subst (λ j. AreReplies p j (drop j p.queries) rest) (add-one q) later in
      by_line a behind
    where
      by_line : AddsAnswer p q old new → AreReplies p (suc q) (drop (suc q) p.queries) rest → AreReplies p 0 p.queries (new ++ rest)
      by_line (valued has adds) behind = next_line adds.text rest adds.added (λ x. reply has adds.of_value behind)
      by_line (looped loop added) behind = next_line (codes "circular") rest added (λ x. circular loop behind)

pub all_replies : (p : Program) (text : List ℕ) (q : ℕ) → drop q p.queries ≡ [] → ((rest : List ℕ) → AreReplies p q (drop q p.queries) rest → AreReplies p 0 p.queries (text ++ rest)) → AreReplies p 0 p.queries text
all_replies p text q over before = subst (AreReplies p 0 p.queries) (append-nil text) (before [] (subst (λ (es : List Asked). AreReplies p q es []) (sym over) none))

-- the fault that is handed on
pub fault_was : {A : Type 0} (r : Result A ReplyFault) (fault : ReplyFault) → IsErr r × IsErrAnd r (λ m. m ≡ fault) → r ≡ Err Cells → fault ≡ Cells
fault_was r fault f is =
    let g = err_from_is_err_and r f.1 in
    let e : Err g.0 ≡ Err Cells = sym g.1 ∙ is in
    let same : g.0 ≡ Cells = cc in
    sym g.2 ∙ same
