-- Steps of the loop that takes the quotes and the escapes out of a text, and texts that have none.
use Rattle.std.proofs.Common.{◌≡◌, ◌≢◌, ◌==◌, ℕ, suc, ◌-◌, ◌≤◌, List, [], ◌∷◌, ◌++◌, length, get_or, take, drop, false, refl, sym, ap, subst, ◌∙◌, append_assoc, append-nil, arith}
use Rattle.std.specs.List.{list_any}
use Rattle.std.proofs.Math.Seq.{take-length}
use Rattle.std.proofs.lemmas.Bool.{false≢true, or_parts}
use Rattle.std.proofs.lemmas.Bool.Decides.{nat_tests}
use Rattle.rag_io.specs.Lexemes.{quote, backslash, TextBody, closed, plain, escape}
use Rattle.rag_io.specs.Unquoted as unquotes
use Rattle.rag_io.specs.Unquoted.{IsQuoted, quoted, unescaped, BodyStandsFor, StandsFor, unquoted}

-- what is behind the first byte of some bytes, as a slice pattern has it
behind_one : (b : ℕ) (more : List ℕ) → take (length (b ∷ more) - 1) (drop 1 (b ∷ more)) ≡ more
behind_one b more = let count : length (b ∷ more) - 1 ≡ length more = omega arith in ap (λ (n : ℕ). take n more) count ∙ take-length more

-- and behind the first two
behind_two : (a b : ℕ) (more : List ℕ) → take (length (a ∷ (b ∷ more)) - 2) (drop 2 (a ∷ (b ∷ more))) ≡ more
behind_two a b more = let count : length (a ∷ (b ∷ more)) - 2 ≡ length more = omega arith in ap (λ (n : ℕ). take n more) count ∙ take-length more

-- What is left of a body once some bytes are found: with those that it stands for they are what the text stands for.
pub record GoesOn (text found body : List ℕ) : Type 0 where
  pub left : TextBody body
  pub whole : (bytes : List ℕ) → BodyStandsFor body bytes → StandsFor text (found ++ bytes)

-- a text has a quote
pub some_quoted : {text : List ℕ} → IsQuoted text → 1 ≤ length text
some_quoted (quoted left) = omega arith

-- at the opening quote
pub opens : {text : List ℕ} → IsQuoted text → GoesOn text [] (take (length text - 1) (drop 1 text))
opens (quoted {body} left) = rw (behind_one quote body) (record { left = left; whole = λ bytes is. unquoted is })

-- one byte further
pub goes : {text found body : List ℕ} (new left : List ℕ) (b : ℕ) → GoesOn text found body → TextBody left
    → ((bytes : List ℕ) → BodyStandsFor left bytes → BodyStandsFor body (b ∷ bytes)) → new ≡ found ++ b ∷ [] → GoesOn text new left
goes {text} {found} new left b so_far more first push = record {
  left = more;
  whole = λ bytes is. subst (StandsFor text) (sym (append_assoc found (b ∷ []) bytes) ∙ ap (λ (xs : List ℕ). xs ++ bytes) (sym push)) (so_far.whole (b ∷ bytes) (first bytes is));
}

-- at the closing quote
pub closes : {text found body : List ℕ} → GoesOn text found body → BodyStandsFor body [] → StandsFor text found
closes {text} {found} so_far none = subst (StandsFor text) (append-nil found) (so_far.whole [] none)

-- a body has a byte
pub some_body : {body : List ℕ} → TextBody body → 1 ≤ length body
some_body closed = omega arith
some_body (plain b is more) = omega arith
some_body (escape b is more) = omega arith

-- an escape has a byte behind its backslash
pub some_escape : {body : List ℕ} → TextBody body → get_or body 0 0 ≡ backslash → 2 ≤ length body
some_escape closed first = absurd (omega (arith, first))
some_escape (plain b is more) first = let never : ⊥ = grind (arith, nat_tests) in absurd never
some_escape (escape b is more) first = omega arith

-- a body stands for this byte and what is left of it stands for
pub record Begins (body left : List ℕ) (b : ℕ) : Type 0 where
  pub more : TextBody left
  pub first : (bytes : List ℕ) → BodyStandsFor left bytes → BodyStandsFor body (b ∷ bytes)

-- an escape
pub begins_escape : {body : List ℕ} {b : ℕ} → TextBody body → get_or body 0 0 ≡ backslash → b ≡ unescaped (get_or body 1 0) → Begins body (take (length body - 2) (drop 2 body)) b
begins_escape closed first is = absurd (omega (arith, first))
begins_escape (plain b plain_is more) first is = let never : ⊥ = grind (arith, nat_tests) in absurd never
begins_escape (escape {body} b escape_is more) first is =
    rw (behind_two backslash b body, is) (record { more = more; first = λ bytes stands. unquotes.escape b escape_is stands })

-- a plain byte
pub begins_plain : {body : List ℕ} → TextBody body → get_or body 0 0 ≢ quote → get_or body 0 0 ≢ backslash → Begins body (take (length body - 1) (drop 1 body)) (get_or body 0 0)
begins_plain closed no_quote no_backslash = absurd (no_quote refl)
begins_plain (plain {body} b is more) no_quote no_backslash = rw (behind_one b body) (record { more = more; first = λ bytes stands. unquotes.plain b is stands })
begins_plain (escape b is more) no_quote no_backslash = absurd (no_backslash refl)

-- the closing quote
pub at_quote : {body : List ℕ} → TextBody body → get_or body 0 0 ≡ quote → BodyStandsFor body []
at_quote closed first = unquotes.closed
at_quote (plain b is more) first = let never : ⊥ = grind (arith, nat_tests) in absurd never
at_quote (escape b is more) first = absurd (omega (arith, first))

-- a body that has no backslash stands for its bytes in front of the closing quote
plain_body : {body : List ℕ} → TextBody body → list_any (λ b. b == backslash) body ≡ false → BodyStandsFor body (take (length body - 1) body)
plain_body closed none = unquotes.closed
plain_body (plain {body} b is more) none =
    let some : 1 ≤ length body = some_body more in
    let count : length (b ∷ body) - 1 ≡ suc (length body - 1) = omega (arith, some) in
    let rest = plain_body more (or_parts (b == backslash) (list_any (λ x. x == backslash) body) none).1 in
    rw count (unquotes.plain b is rest)
plain_body (escape {body} b is more) none = absurd (false≢true (sym none))

-- and so does a text in front of it
pub plain_text : {text : List ℕ} → IsQuoted text → list_any (λ b. b == backslash) text ≡ false → StandsFor text (take (length text - 1 - 1) (drop 1 text))
plain_text (quoted {body} left) none =
    let count : length (quote ∷ body) - 1 - 1 ≡ length body - 1 = omega arith in
    rw count (unquoted (plain_body left none))
