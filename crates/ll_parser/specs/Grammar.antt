-- Grammars as lists of productions, their sentences, and where a fault stands.
use Rattle.std.specs.Prelude.{◌≡◌, ℕ, zero, suc, ◌+◌, ◌≤◌, ◌==◌, count_by, List, [], ◌∷◌, ◌++◌, take, length, Option, Some, None}
use Rattle.ll_parser.specs.declared.symbols.Symbol.{Symbol}
use Rattle.ll_parser.specs.declared.symbols.Symbol.TheVariants.{Terminal, Nonterminal, Action}

pub record Production : Type 0 where
  pub of : ℕ
  pub body : List Symbol

abbrev pub nth : {A : Type 0} → List A → ℕ → Option A
nth [] n = None
nth (x ∷ xs) zero = Some x
nth (x ∷ xs) (suc n) = nth xs n

-- The event of a token; an act's event is its number.
abbrev pub shift : ℕ
shift = 255

-- Symbols derive tokens, with the events on the way from left to right.
pub data Derives (P : List Production) : List Symbol → List ℕ → List ℕ → Type 0 where
  done : Derives P [] [] []
  token : {c : ℕ} {s : List Symbol} {ts es : List ℕ} → Derives P s ts es → Derives P (Terminal c ∷ s) (c ∷ ts) (shift ∷ es)
  act : {a : ℕ} {s : List Symbol} {ts es : List ℕ} → Derives P s ts es → Derives P (Action a ∷ s) ts (a ∷ es)
  rule : {n : ℕ} {s : List Symbol} {ts es : List ℕ} (p : ℕ) (r : Production) → nth P p ≡ Some r → r.of ≡ n → Derives P (r.body ++ s) ts es → Derives P (Nonterminal n ∷ s) ts es

-- A nonterminal, and the end.
abbrev pub start : ℕ → List Symbol
start n = Nonterminal n ∷ Terminal 0 ∷ []

-- Some tokens begin a sentence.
pub record Begins (P : List Production) (n : ℕ) (us : List ℕ) : Type 0 where
  pub rest : List ℕ
  pub events : List ℕ
  pub runs : Derives P (start n) (us ++ rest) events

-- The first index such that the tokens up to it begin no sentence.
pub record IsFault (P : List Production) (n : ℕ) (ts : List ℕ) (i : ℕ) : Type 0 where
  pub inside : i + 1 ≤ length ts
  pub before : Begins P n (take i ts)
  pub here : (w es : List ℕ) → Derives P (start n) (take (i + 1) ts ++ w) es → ⊥

-- The only events with which some tokens are a sentence.
pub record IsSentence (P : List Production) (n : ℕ) (ts es : List ℕ) : Type 0 where
  pub runs : Derives P (start n) ts es
  pub only : (fs : List ℕ) → Derives P (start n) ts fs → fs ≡ es

-- The events of each sentence that begins with some tokens begin so, with one of each of these tokens, and those that follow are of the
-- other tokens, which these symbols derive.
pub record Leading (P : List Production) (n : ℕ) (us es : List ℕ) : Type 0 where
  pub read : length us ≤ count_by (λ e. e == shift) es
  pub stack : List Symbol
  pub each : (w fs : List ℕ) → Derives P (start n) (us ++ w) fs → (later : List ℕ) × Derives P stack w later × (fs ≡ es ++ later)
