-- What running over the tokens of some arguments comes to.
use Rattle.std.proofs.Common.{◌≡◌, ℕ, List, ◌∷◌, ◌++◌, Bool, true, false, Option, None, codes, refl, sym, ap, ◌∙◌}
use Rattle.std.specs.Str.{bytes_eq}
use Rattle.broken_rules.specs.declared.broken.Broken.{Broken}
use Rattle.broken_rules.specs.Order.{first_of, sooner}
use Rattle.broken_rules.proofs.Order.{first_of-append, sooner_assoc}
use Rattle.rag_io.specs.declared.token.TokenKind.{TokenKind}
use Rattle.rag_io.specs.declared.token.TokenKind.TheVariants as kinds
use Rattle.rag_io.specs.Tokens.{Lexed}
use Rattle.ast_grammar.specs.Grammar.{Class}
use Rattle.tree_arena.specs.Nodes as arena
use Rattle.tree_arena.specs.Terms.{nodes_from}
use Rattle.tree_syntax.specs.Written.{Written, IsSign, truth_word}
use Rattle.tree_reader.specs.Breaking.{arguments_broken}
use Rattle.tree_reader.specs.Grown.{codes_of, grown}
use Rattle.token_texts.specs.Texts.{code_by_kind}
use Rattle.tree_reader.specs.Steps.{Open, Opened, State, is_sign_by, is_true, noted, opens, run, sign_taken, taken, word_taken}
use Rattle.tree_reader.specs.Wants.{Wants}
use Rattle.tree_reader.proofs.Coding.{IsPlaced, coded_all, is_bracketed}
use Rattle.tree_reader.proofs.Wanting.{over}

-- no `-` waits for its digits
abbrev pub reading : ℕ → Opened → Wants → List Open → List arena.Node → Option Broken → State
reading x o wants outer nodes broken = record { innermost = record { node = x; opened = o; wants = wants }; outer = outer; nodes = nodes; broken = broken; minus = None }

-- noting one list and then another
pub noted_then : (a : Option Broken) (bs cs : List Broken) → noted (noted a bs) cs ≡ noted a (bs ++ cs)
noted_then a bs cs = sooner_assoc a (first_of bs) (first_of cs) ∙ ap (sooner a) (sym (first_of-append bs cs))

-- `true` and `false`
pub is_true_word : (b : Bool) → is_true (truth_word b) ≡ b
is_true_word true = refl
is_true_word false = refl

-- no `(` stands where arguments end, or behind one
pub sign_opens : (sign : List ℕ) (t : Lexed) (ts : List Lexed) → IsSign sign t → opens (t ∷ ts) ≡ bytes_eq sign (codes "(")
sign_opens sign t ts h = ap (λ k. is_sign_by k t.text (codes "(")) h.kind ∙ ap (λ (x : List ℕ). bytes_eq x (codes "(")) h.text

module _ (g : List Class) (pool : List (List ℕ)) where
  -- what the arguments come to
  abbrev pub nodes_after : List arena.Node → ℕ → Opened → ℕ → ℕ → Written → List arena.Node
  nodes_after nodes x o n k w = coded_all nodes x o (codes_of pool w) ++ nodes_from x n (grown g pool (is_bracketed o) k w)

  abbrev pub after : ℕ → Opened → Wants → List Open → List arena.Node → Option Broken → ℕ → ℕ → Written → State
  after x o wants outer nodes broken n k w = reading x o (over wants w) outer (nodes_after nodes x o n k w) (noted broken (arguments_broken g wants n w))

  -- the first token
  pub run_sign : (sign : List ℕ) (t : Lexed) (ts : List Lexed) (s : State) → IsSign sign t → run g pool (t ∷ ts) s ≡ run g pool ts (sign_taken sign t.place s)
  run_sign sign t ts s h =
      ap (λ k. run g pool ts (taken g k t.text t.place (opens ts) (code_by_kind pool k t.text) s)) h.kind
      ∙ ap (λ (x : List ℕ). run g pool ts (sign_taken x t.place s)) h.text

  pub run_kind : (kind : TokenKind) (t : Lexed) (ts : List Lexed) (s : State) → t.kind ≡ kind
      → run g pool (t ∷ ts) s ≡ run g pool ts (taken g kind t.text t.place (opens ts) (code_by_kind pool kind t.text) s)
  run_kind kind t ts s h = ap (λ k. run g pool ts (taken g k t.text t.place (opens ts) (code_by_kind pool k t.text) s)) h

  pub run_word : (b : Bool) (t : Lexed) (ts : List Lexed) (s : State) → t.kind ≡ kinds.Name → opens ts ≡ b
      → run g pool (t ∷ ts) s ≡ run g pool ts (word_taken g b t.text t.place s)
  run_word b t ts s h e = run_kind kinds.Name t ts s h ∙ ap (λ (c : Bool). run g pool ts (word_taken g c t.text t.place s)) e

  -- From all states that are placed so, the tokens lead to what the arguments come to.
  abbrev pub Reaches : Written → List Lexed → List Lexed → Type 0
  Reaches w ts rest = (x : ℕ) (o : Opened) (wants : Wants) (outer : List Open) (nodes : List arena.Node) (broken : Option Broken) (n k : ℕ) → IsPlaced nodes x o n k
      → run g pool ts (reading x o wants outer nodes broken) ≡ run g pool rest (after x o wants outer nodes broken n k w)
