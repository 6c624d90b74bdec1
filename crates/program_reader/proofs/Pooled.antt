-- The texts that some files write are those of a pool.
use Rattle.std.proofs.Common.{◌≡◌, ℕ, Bool, true, false, ◌&&◌, List, [], ◌∷◌, ◌++◌, Option, Some, None, is_none, is_some, if◌then◌else◌, length, refl, arith}
use Rattle.std.specs.Prelude.{nat_le}
use Rattle.std.proofs.lemmas.Bool.{leb-false}
use Rattle.rag_io.specs.declared.token.TokenKind.{TokenKind}
use Rattle.rag_io.specs.declared.token.TokenKind.TheVariants as kinds
use Rattle.rag_io.specs.Pool.{ArePooled, most_texts, number_of}
use Rattle.rag_io.specs.Tokens.{Lexed}
use Rattle.rag_io.proofs.Numbers.{pooled_push}
use Rattle.token_texts.specs.Texts.{pooled, pooled_by_kind, pooled_texts}

-- with one more text, where there is room for it
with_one : (pool : List (List ℕ)) (text : List ℕ) (o : Option ℕ) (full : Bool) → number_of pool text ≡ o → nat_le most_texts (length pool) ≡ full → ArePooled pool
    → ArePooled (if is_none o && full then pool else if is_some o then pool else pool ++ text ∷ [])
with_one pool text (Some n) full is room all = all
with_one pool text None true is room all = all
with_one pool text None false is room all = pooled_push pool text all is (leb-false most_texts (length pool) room)

kept_one : (pool : List (List ℕ)) (text : List ℕ) → ArePooled pool → ArePooled (pooled pool text)
kept_one pool text all = with_one pool text (number_of pool text) (nat_le most_texts (length pool)) refl refl all

kept_by_kind : (pool : List (List ℕ)) (kind : TokenKind) (text : List ℕ) → ArePooled pool → ArePooled (pooled_by_kind pool kind text)
kept_by_kind pool kinds.Name text all = all
kept_by_kind pool kinds.Int text all = all
kept_by_kind pool kinds.Text text all = kept_one pool _ all
kept_by_kind pool kinds.Symbol text all = all
kept_by_kind pool kinds.End text all = all

-- with those of some tokens
pub kept_pooled : (pool : List (List ℕ)) (ts : List Lexed) → ArePooled pool → ArePooled (pooled_texts pool ts)
kept_pooled pool [] all = all
kept_pooled pool (t ∷ ts) all = kept_pooled (pooled_by_kind pool t.kind t.text) ts (kept_by_kind pool t.kind t.text all)

-- the empty text alone is one
pub one_pooled : ArePooled ([] ∷ [])
one_pooled = record { distinct = refl; few = omega arith; empty_first = refl }
