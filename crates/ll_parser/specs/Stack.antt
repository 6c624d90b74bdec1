-- The stack of symbols of a reader, and what its steps do.
use Rattle.std.specs.Prelude.{◌≡◌, ℕ, suc, ◌+◌, ◌==◌, List, [], ◌∷◌, ◌++◌, Option, Some, None, Bool, true, false, Result, Ok, Err, ◌*◌, reverse, min, length, slice_range, slice_index_or, take}
use Rattle.std.specs.Borrow.{Bor}
use Rattle.ll_parser.specs.declared.symbols.Symbol.{Symbol}
use Rattle.ll_parser.specs.declared.symbols.Symbol.TheVariants.{Terminal, Nonterminal, Action}
use Rattle.ll_parser.specs.declared.symbols.Step.{Step}
use Rattle.ll_parser.specs.declared.symbols.Step.TheVariants.{Goes, Shifts, Stops}
use Rattle.ll_parser.specs.declared.symbols.Memory.{Memory}
use Rattle.ll_parser.specs.declared.symbols.Table as kept_table
use Rattle.ll_parser.specs.declared.symbols.ParseFault.{ParseFault}
use Rattle.ll_parser.specs.declared.symbols.ParseFault.TheVariants.{At, OutOfMemory}
use Rattle.ll_parser.specs.Grammar.{Production, nth, shift, Derives, start, IsSentence, IsFault, Leading}
use Rattle.ll_parser.specs.Table.{Claims, member, begins, made, fits}

pub data In : ℕ → List ℕ → Type 0 where
  here : {t : ℕ} {xs : List ℕ} → In t (t ∷ xs)
  there : {t x : ℕ} {xs : List ℕ} → In t xs → In t (x ∷ xs)

-- What stands behind each nonterminal begins only with tokens that may follow it.
pub data Good (F : Claims) (have : List ℕ) : List Symbol → Type 0 where
  bare : Good F have []
  good_token : {c : ℕ} {s : List Symbol} → Good F have s → Good F have (Terminal c ∷ s)
  good_act : {a : ℕ} {s : List Symbol} → Good F have s → Good F have (Action a ∷ s)
  good_rule : {n : ℕ} {s : List Symbol} → ((t : ℕ) → In t (begins F s []) → In t (F.follow n)) → member n have ≡ true → Good F have s → Good F have (Nonterminal n ∷ s)

-- The end of the file stands last, and nowhere else.
pub data Closed : List Symbol → Type 0 where
  last : Closed (Terminal 0 ∷ [])
  closed_token : {c : ℕ} {s : List Symbol} → (c == 0) ≡ false → Closed s → Closed (Terminal c ∷ s)
  closed_act : {a : ℕ} {s : List Symbol} → Closed s → Closed (Action a ∷ s)
  closed_rule : {n : ℕ} {s : List Symbol} → Closed s → Closed (Nonterminal n ∷ s)

-- Behind some events, symbols derive tokens with all these events.
pub record Gives (P : List Production) (s : List Symbol) (es ts all : List ℕ) : Type 0 where
  pub later : List ℕ
  pub runs : Derives P s ts later
  pub total : all ≡ es ++ later

-- Before a token t two stacks are one.
pub record Leads (P : List Production) (t : ℕ) (s0 : List Symbol) (es0 : List ℕ) (s : List Symbol) (es : List ℕ) : Type 0 where
  pub forth : (w all : List ℕ) → Gives P s es (t ∷ w) all → Gives P s0 es0 (t ∷ w) all
  pub back : (w all : List ℕ) → Gives P s0 es0 (t ∷ w) all → Gives P s es (t ∷ w) all

-- A stack with t in front is another.
pub record Shifted (P : List Production) (t : ℕ) (s0 : List Symbol) (es0 : List ℕ) (s : List Symbol) (es : List ℕ) : Type 0 where
  pub forth : (w all : List ℕ) → Gives P s es w all → Gives P s0 es0 (t ∷ w) all
  pub back : (w all : List ℕ) → Gives P s0 es0 (t ∷ w) all → Gives P s es w all

-- A stack derives nothing that t begins.
pub record Stuck (P : List Production) (t : ℕ) (s : List Symbol) : Type 0 where
  pub nothing : (w es : List ℕ) → Derives P s (t ∷ w) es → ⊥

-- A step at the top of a stack, before a token t.
pub data Moves (P : List Production) (choice : ℕ → ℕ → ℕ) (t : ℕ) : List Symbol → List ℕ → Result Step Memory → List Symbol → List ℕ → Type 0 where
  shifts : {s : List Symbol} {es : List ℕ} → Moves P choice t (Terminal t ∷ s) es (Ok Shifts) s (es ++ shift ∷ [])
  acts : {a : ℕ} {s : List Symbol} {es : List ℕ} → Moves P choice t (Action a ∷ s) es (Ok Goes) s (es ++ a ∷ [])
  goes : {n : ℕ} {s : List Symbol} {es : List ℕ} (r : Production) → nth P (choice n t) ≡ Some r → r.of ≡ n → Moves P choice t (Nonterminal n ∷ s) es (Ok Goes) (r.body ++ s) es
  wrong : {c : ℕ} {s s' : List Symbol} {es : List ℕ} → (c ≡ t → ⊥) → Moves P choice t (Terminal c ∷ s) es (Ok Stops) s' es
  none : {n : ℕ} {s s' : List Symbol} {es : List ℕ} → ((r : Production) → nth P (choice n t) ≡ Some r → r.of ≡ n → ⊥) → Moves P choice t (Nonterminal n ∷ s) es (Ok Stops) s' es
  spent : {s s' : List Symbol} {es es' : List ℕ} (m : Memory) → Moves P choice t s es (Err m) s' es'

-- A stack before a file's end, or behind it.
pub data Proper : List Symbol → Type 0 where
  over : Proper []
  open_at : {s : List Symbol} → Closed s → Proper s

-- from an index to another
abbrev pub body_at : List Symbol → ℕ → ℕ → List Symbol
body_at bodies from to = slice_range bodies (min from (min to (length bodies))) (min to (length bodies))

-- the productions of a table, from the k-th on
abbrev pub listed : List ℕ → List Symbol → ℕ → List ℕ → List Production
listed starts bodies k [] = []
listed starts bodies k (n ∷ of) = record { of = n; body = reverse (body_at bodies (slice_index_or starts k 0) (slice_index_or starts (suc k) 0)) } ∷ listed starts bodies (suc k) of

abbrev pub rows_of : kept_table.Table → List Production
rows_of t = listed t.starts.now t.bodies.now 0 t.of.now

-- the row for a nonterminal at a token
abbrev pub choice_of : List ℕ → ℕ → ℕ → ℕ
choice_of choice n t = slice_index_or choice (n * 64 + t) 255

-- a step by a table
abbrev pub MovesBy : kept_table.Table → ℕ → List Symbol → List ℕ → Result Step Memory → List Symbol → List ℕ → Type 0
MovesBy table t s es result s' es' = Moves (rows_of table) (choice_of table.choice.now) t s es result s' es'

-- A table fits the grammar, with some facts.
pub record Works (P : List Production) (n : ℕ) (choice : ℕ → ℕ → ℕ) (F : Claims) : Type 0 where
  pub fits : fits P n F ≡ true
  pub same : (m t : ℕ) → F.choice m t ≡ choice m t

-- what a look into the table finds
abbrev pub Chosen : List Production → ℕ → ℕ → Option (List Symbol) → Type 0
Chosen P p n None = (r : Production) → nth P p ≡ Some r → r.of ≡ n → ⊥
Chosen P p n (Some body) = (r : Production) × (nth P p ≡ Some r) × (r.of ≡ n) × (r.body ≡ body)

-- a body in its own order
abbrev pub Seen : Option (Bor (List Symbol)) → Option (List Symbol)
Seen None = None
Seen (Some b) = Some (reverse b.now)

-- The stack is one that a reader has.
pub record Ready (P : List Production) (F : Claims) (s : List Symbol) : Type 0 where
  pub good : Good F (made P F) s
  pub proper : Proper s

-- Nothing but further events.
pub record Kept (es es' : List ℕ) : Type 0 where
  pub more : List ℕ
  pub is : es' ≡ es ++ more

-- Further events, and that of a token.
pub record Adds (es es' : List ℕ) : Type 0 where
  pub more : List ℕ
  pub is : es' ≡ es ++ (more ++ shift ∷ [])

-- what a whole token does
abbrev pub Advances : List Production → Claims → ℕ → List Symbol → List ℕ → Result Bool Memory → List Symbol → List ℕ → Type 0
Advances P F t s es (Ok true) s' es' = Shifted P t s es s' es' × Ready P F s' × (t ≡ 0 → s' ≡ []) × Adds es es'
Advances P F t s es (Ok false) s' es' = Stuck P t s × Kept es es'
Advances P F t s es (Err m) s' es' = Unit {0}

-- what a reader answers
abbrev pub Parses : List Production → ℕ → List ℕ → Result Unit ParseFault → List ℕ → Type 0
Parses P n ts (Ok u) es = IsSentence P n ts es
Parses P n ts (Err (At i)) es = IsFault P n ts i × Leading P n (take i ts) es
Parses P n ts (Err OutOfMemory) es = Unit {0}

-- Behind some tokens a stack is left.
pub record Sofar (P : List Production) (n : ℕ) (us : List ℕ) (s : List Symbol) (es : List ℕ) : Type 0 where
  pub forth : (w all : List ℕ) → Gives P s es w all → Gives P (start n) [] (us ++ w) all
  pub back : (w all : List ℕ) → Gives P (start n) [] (us ++ w) all → Gives P s es w all
