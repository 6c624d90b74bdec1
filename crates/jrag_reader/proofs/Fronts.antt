-- The rules that the tokens before a fault break don't depend on how the events before it are known.
use Rattle.std.proofs.Common.{◌≡◌, ℕ, ◌+◌, ◌≤◌, ◌==◌, Bool, true, false, cond, if◌then◌else◌, List, [], ◌∷◌, ◌++◌, length, drop, Option, Some, None, refl, sym, ap, ◌∙◌, arith}
use Rattle.ll_parser.specs.Grammar.{shift}
use Rattle.rag_io.specs.Tokens.{Lexed}
use Rattle.aspect_limits.specs.Limits.{counted, left, long_at, long_broken, long_event}
use Rattle.jrag_reader.proofs.Counting.{tokens_in, tokens_more}

-- no tokens, nothing broken
at_none : (inside : Option ℕ) → long_at inside [] ≡ []
at_none None = refl
at_none (Some n) = refl

event_none : (is_token : Bool) (inside : Option ℕ) → (if is_token then long_at inside [] else []) ≡ []
event_none true inside = at_none inside
event_none false inside = refl

abbrev no_tokens : List Lexed
no_tokens = []

left_none : (is_token : Bool) → (if is_token then drop 1 no_tokens else no_tokens) ≡ no_tokens
left_none true = refl
left_none false = refl

none_long : (inside : Option ℕ) (es : List ℕ) → long_broken inside [] es ≡ []
none_long inside [] = refl
none_long inside (e ∷ es) =
    ap (λ bs. bs ++ long_broken (counted e inside) (left e []) es) (event_none (e == shift) inside)
    ∙ ap (λ us. long_broken (counted e inside) us es) (left_none (e == shift))
    ∙ none_long (counted e inside) es

-- an event of a token leaves one token fewer
left_by : (is_token : Bool) (ts : List Lexed) (count : ℕ) → length ts ≤ cond is_token 1 0 + count
    → length (if is_token then drop 1 ts else ts) ≤ count
left_by true [] count many = omega arith
left_by true (t ∷ ts) count many = omega (arith, many)
left_by false ts count many = omega (arith, many)

-- what comes behind the last of some tokens breaks nothing
pub long_front : (inside : Option ℕ) (ts : List Lexed) (es later : List ℕ) → length ts ≤ tokens_in es
    → long_broken inside ts (es ++ later) ≡ long_broken inside ts es
long_front inside [] [] later many = none_long inside later
long_front inside (t ∷ ts) [] later many = absurd (omega (arith, many))
long_front inside ts (e ∷ es) later many =
    let fewer : length (left e ts) ≤ tokens_in es = left_by (e == shift) ts (tokens_in es) (omega (arith, many, tokens_more e es)) in
    ap (λ bs. long_event e inside ts ++ bs) (long_front (counted e inside) (left e ts) es later fewer)

-- two lists of events of these tokens, with which one list begins, break the same
pub same_long : (ts : List Lexed) (es fs later after : List ℕ) → length ts ≤ tokens_in es → length ts ≤ tokens_in fs → es ++ later ≡ fs ++ after
    → long_broken None ts es ≡ long_broken None ts fs
same_long ts es fs later after many also same =
    sym (long_front None ts es later many) ∙ ap (long_broken None ts) same ∙ long_front None ts fs after also
