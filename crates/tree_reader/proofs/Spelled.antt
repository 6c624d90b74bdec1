-- The texts that tokens write are those of the tokens.
use Rattle.std.proofs.Common.{◌≡◌, ℕ, List, [], ◌∷◌}
use Rattle.broken_rules.proofs.Clean.{append_none, not_broken}
use Rattle.broken_rules.specs.Notes.{at}
use Rattle.broken_rules.specs.declared.rule.Rule.TheVariants.{N7}
use Rattle.rag_io.specs.Tokens.{Lexed}
use Rattle.rag_io.specs.Unquoted.{meant}
use Rattle.rag_io.specs.declared.token.Place.{Place}
use Rattle.rag_io.specs.declared.token.TokenKind.{TokenKind}
use Rattle.rag_io.specs.declared.token.TokenKind.TheVariants as kinds
use Rattle.tree_syntax.specs.Written.{Written, Mode, Spells, none, some, over, comma, node, brackets, text, int, negative, truth, Writes}
use Rattle.token_texts.specs.Texts.{is_past, pooled_by_kind, pooled_texts, text_broken, texts_broken}
use Rattle.tree_reader.proofs.Accepted as there
use Rattle.tree_reader.proofs.Accepted.{AreThere}
use Rattle.token_texts.proofs.Pooled.{IsThere, there_later, there_pooled}

-- the texts of some tokens are in the pool
abbrev pub TokensThere : List (List ℕ) → List Lexed → Type 0
TokensThere pool [] = Unit {0}
TokensThere pool (t ∷ ts) = (t.kind ≡ kinds.Text → IsThere pool (meant t.text)) × TokensThere pool ts

-- the text of one token, where there was room for it
there_kind : (pool : List (List ℕ)) (kind : TokenKind) (quoted : List ℕ) (p : Place) → text_broken N7 pool kind quoted p ≡ [] → kind ≡ kinds.Text → IsThere (pooled_by_kind pool kind quoted) (meant quoted)
there_kind pool kinds.Name quoted p clean is = cc
there_kind pool kinds.Int quoted p clean is = cc
there_kind pool kinds.Text quoted p clean is = there_pooled pool (meant quoted) (not_broken (is_past pool (meant quoted)) (at p N7) clean)
there_kind pool kinds.Symbol quoted p clean is = cc
there_kind pool kinds.End quoted p clean is = cc

-- where there was room for the texts of all tokens, they are in the pool
pub texts_there : (ts : List Lexed) (pool : List (List ℕ)) → texts_broken N7 pool ts ≡ [] → TokensThere (pooled_texts pool ts) ts
texts_there [] pool clean = tt
texts_there (t ∷ ts) pool clean =
    let next = pooled_by_kind pool t.kind t.text in
    let parts = append_none (text_broken N7 pool t.kind t.text t.place) (texts_broken N7 next ts) clean in
    ((λ is. there_later ts next (meant t.text) (there_kind pool t.kind t.text t.place parts.0 is)), texts_there ts next parts.1)

-- Some arguments whose texts are in the pool, and tokens left over whose texts are too.
record Spelled (pool : List (List ℕ)) (w : Written) (left : List Lexed) : Type 0 where
  written : AreThere pool w
  rest : TokensThere pool left

-- the texts of what is spelled, and those of the tokens that are left
spelled : (pool : List (List ℕ)) {mode : Mode} {w : Written} {ts rest : List Lexed} → Spells mode w ts rest → TokensThere pool ts → Spelled pool w rest
spelled pool none tokens = record { written = there.nothing; rest = tokens }
spelled pool (some s) tokens = spelled pool s tokens
spelled pool over tokens = record { written = there.nothing; rest = tokens }
spelled pool (comma is s) tokens = spelled pool s tokens.1
spelled pool (node kind opens inner closes behind) tokens =
    let a = spelled pool inner tokens.1.1 in
    let b = spelled pool behind a.rest.1 in
    record { written = there.node a.written b.written; rest = b.rest }
spelled pool (brackets opens are inner closes behind) tokens =
    let a = spelled pool inner tokens.1 in
    let b = spelled pool behind a.rest.1 in
    record { written = there.brackets are a.written b.written; rest = b.rest }
spelled pool (text kind behind) tokens =
    let b = spelled pool behind tokens.1 in
    record { written = there.valued (tokens.0 kind) b.written; rest = b.rest }
spelled pool (int kind behind) tokens =
    let b = spelled pool behind tokens.1 in
    record { written = there.valued tt b.written; rest = b.rest }
spelled pool (negative sign kind behind) tokens =
    let b = spelled pool behind tokens.1.1 in
    record { written = there.valued tt b.written; rest = b.rest }
spelled pool (truth kind word behind) tokens =
    let b = spelled pool behind tokens.1 in
    record { written = there.valued tt b.written; rest = b.rest }

-- the texts of what tokens write are in the pool, where those of the tokens are
pub written_there : {pool : List (List ℕ)} {ts : List Lexed} {w : Written} → Writes ts w → TokensThere pool ts → AreThere pool w
written_there {pool} writes tokens = (spelled pool writes.spells tokens).written
