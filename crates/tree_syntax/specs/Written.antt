-- What the text of a tree writes, and which tokens write it.
use Rattle.std.specs.Prelude.{◌≡◌, ℕ, List, [], ◌∷◌, Bool, true, false, codes}
use Rattle.rag_io.specs.Tokens.{Lexed}
use Rattle.rag_io.specs.declared.token.Place.{Place}
use Rattle.rag_io.specs.declared.token.TokenKind.TheVariants as kinds

-- the value of a token as it is written: a text with its quotes, an integer by its digits and whether a `-` stands before them, a truth value
pub data Leaf : Type 0 where
  WritesText : List ℕ → Leaf
  WritesInt : Bool → List ℕ → Leaf
  WritesTruth : Bool → Leaf

-- Arguments side by side, each with the place of its first token and followed by those behind it: a node by its name, with its own
-- arguments; some arguments in brackets; or the value of a token.
pub data Written : Type 0 where
  Nothing : Written
  Node : List ℕ → Place → Written → Written → Written
  Brackets : Place → Written → Written → Written
  Valued : Leaf → Place → Written → Written

-- nodes alone, as they stand in brackets
abbrev pub AreNodes : Written → Type 0
AreNodes Nothing = Unit {0}
AreNodes (Node name p arguments behind) = AreNodes behind
AreNodes (Brackets p nodes behind) = ⊥
AreNodes (Valued leaf p behind) = ⊥

-- what the next tokens write: the first arguments, if there are any; an argument; or what follows an argument
pub data Mode : Type 0 where
  Start : Mode
  Argument : Mode
  Behind : Mode

-- the token is this sign
pub record IsSign (sign : List ℕ) (t : Lexed) : Type 0 where
  pub kind : t.kind ≡ kinds.Symbol
  pub text : t.text ≡ sign

abbrev pub truth_word : Bool → List ℕ
truth_word true = codes "true"
truth_word false = codes "false"

-- The tokens write these arguments, separated by commas, and then the other tokens follow.
pub data Spells : Mode → Written → List Lexed → List Lexed → Type 0 where
  none : {rest : List Lexed} → Spells Start Nothing rest rest
  some : {w : Written} {ts rest : List Lexed} → Spells Argument w ts rest → Spells Start w ts rest
  over : {rest : List Lexed} → Spells Behind Nothing rest rest
  comma : {t : Lexed} {w : Written} {ts rest : List Lexed} → IsSign (codes ",") t → Spells Argument w ts rest → Spells Behind w (t ∷ ts) rest
  node : {t o c : Lexed} {arguments behind : Written} {ts us rest : List Lexed} → t.kind ≡ kinds.Name → IsSign (codes "(") o → Spells Start arguments ts (c ∷ us) → IsSign (codes ")") c
      → Spells Behind behind us rest → Spells Argument (Node t.text t.place arguments behind) (t ∷ o ∷ ts) rest
  brackets : {o c : Lexed} {nodes behind : Written} {ts us rest : List Lexed} → IsSign (codes "[") o → AreNodes nodes → Spells Start nodes ts (c ∷ us) → IsSign (codes "]") c
      → Spells Behind behind us rest → Spells Argument (Brackets o.place nodes behind) (o ∷ ts) rest
  text : {t : Lexed} {behind : Written} {ts rest : List Lexed} → t.kind ≡ kinds.Text → Spells Behind behind ts rest → Spells Argument (Valued (WritesText t.text) t.place behind) (t ∷ ts) rest
  int : {t : Lexed} {behind : Written} {ts rest : List Lexed} → t.kind ≡ kinds.Int → Spells Behind behind ts rest → Spells Argument (Valued (WritesInt false t.text) t.place behind) (t ∷ ts) rest
  negative : {s t : Lexed} {behind : Written} {ts rest : List Lexed} → IsSign (codes "-") s → t.kind ≡ kinds.Int → Spells Behind behind ts rest
      → Spells Argument (Valued (WritesInt true t.text) s.place behind) (s ∷ t ∷ ts) rest
  truth : {t : Lexed} {b : Bool} {behind : Written} {ts rest : List Lexed} → t.kind ≡ kinds.Name → t.text ≡ truth_word b → Spells Behind behind ts rest
      → Spells Argument (Valued (WritesTruth b) t.place behind) (t ∷ ts) rest

-- one node
abbrev pub IsNode : Written → Type 0
IsNode Nothing = ⊥
IsNode (Node name p arguments Nothing) = Unit {0}
IsNode (Node name p arguments (Node a b c d)) = ⊥
IsNode (Node name p arguments (Brackets a b c)) = ⊥
IsNode (Node name p arguments (Valued a b c)) = ⊥
IsNode (Brackets p nodes behind) = ⊥
IsNode (Valued leaf p behind) = ⊥

-- The tokens of a file write this: one node, and the end follows.
pub record Writes (ts : List Lexed) (w : Written) : Type 0 where
  pub end : Lexed
  pub ends : end.kind ≡ kinds.End
  pub node : IsNode w
  pub spells : Spells Argument w ts (end ∷ [])
