-- What the tokens of a sentence write.
use Rattle.std.proofs.Common.{◌≡◌, ℕ, zero, suc, true, false, List, [], ◌∷◌, ◌++◌, map, codes, Some, refl, subst}
use Rattle.rag_io.specs.declared.token.Place.{Place}
use Rattle.rag_io.specs.declared.token.TokenKind.TheVariants.{Name}
use Rattle.rag_io.specs.Tokens.{Lexed}
use Rattle.ll_parser.specs.declared.symbols.Symbol.{Symbol}
use Rattle.ll_parser.specs.declared.symbols.Symbol.TheVariants.{Terminal, Nonterminal, Action}
use Rattle.ll_parser.specs.Grammar.{Production, nth, Derives, done, token, act, rule}
use Rattle.ll_parser.specs.Sentences.{Sentence}
use Rattle.tree_syntax.proofs.Classes.{end_of, text_of, int_of, name_of, word_of, sign_of}
use Rattle.tree_syntax.specs.Tokens.{token_class}
use Rattle.tree_syntax.specs.TreePrintedGrammar.{tree_printed_grammar}
use Rattle.tree_syntax.specs.Written.{Written, Nothing, Node, Brackets, Valued, WritesText, WritesInt, WritesTruth, AreNodes, Mode, Start, Argument, Behind, Writes, Spells, none, some, over, comma, node, brackets, text, int, negative, truth}

-- from some tokens to those behind them: a name
data IsName : List Lexed → List Lexed → Type 0 where
  a_name : {t : Lexed} {rest : List Lexed} → t.kind ≡ Name → IsName (t ∷ rest) rest

-- a node, whatever is written behind it
record IsOneNode (ts us : List Lexed) : Type 0 where
  name : List ℕ
  place : Place
  arguments : Written
  spells : (behind : Written) (rest : List Lexed) → Spells Behind behind us rest → Spells Argument (Node name place arguments behind) ts rest

-- an argument
record IsArgument (ts us : List Lexed) : Type 0 where
  before : Written → Written
  spells : (behind : Written) (rest : List Lexed) → Spells Behind behind us rest → Spells Argument (before behind) ts rest

-- arguments, or what follows one
record AreSpelled (mode : Mode) (ts us : List Lexed) : Type 0 where
  written : Written
  spells : Spells mode written ts us

-- nodes, or what follows one among them
record AreSpelledNodes (mode : Mode) (ts us : List Lexed) : Type 0 where
  written : Written
  nodes : AreNodes written
  spells : Spells mode written ts us

-- what each nonterminal reads
abbrev Item : ℕ → List Lexed → List Lexed → Type 0
Item zero = IsOneNode
Item (suc zero) = IsOneNode
Item (suc (suc zero)) = IsName
Item (suc (suc (suc zero))) = AreSpelled Start
Item (suc (suc (suc (suc zero)))) = AreSpelled Behind
Item (suc (suc (suc (suc (suc zero))))) = IsArgument
Item (suc (suc (suc (suc (suc (suc zero)))))) = AreSpelledNodes Start
Item (suc (suc (suc (suc (suc (suc (suc n))))))) = AreSpelledNodes Behind

-- symbols read some tokens
data Reads : List Symbol → List Lexed → Type 0 where
  nothing : Reads [] []
  class : {c : ℕ} {s : List Symbol} {t : Lexed} {ts : List Lexed} → token_class t ≡ c → Reads s ts → Reads (Terminal c ∷ s) (t ∷ ts)
  no_act : {a : ℕ} {s : List Symbol} {ts : List Lexed} → Reads s ts → Reads (Action a ∷ s) ts
  item : {n : ℕ} {s : List Symbol} {ts us : List Lexed} → Item n ts us → Reads s us → Reads (Nonterminal n ∷ s) ts

-- what symbols read, a nonterminal reads
abbrev Folds : List Symbol → ℕ → Type 0
Folds body n = (s : List Symbol) (ts : List Lexed) → Reads (body ++ s) ts → Reads (Nonterminal n ∷ s) ts

-- a tree
fold_tree : Folds (Nonterminal 1 ∷ []) 0
fold_tree s ts (item first rest) = item first rest

-- a node
fold_node : Folds (Nonterminal 2 ∷ Terminal 6 ∷ Nonterminal 3 ∷ Terminal 7 ∷ []) 1
fold_node s ts (item (a_name {t} name) (class {t = o} opens (item arguments (class {t = c} closes rest)))) = item (record {
  name = t.text;
  place = t.place;
  arguments = arguments.written;
  spells = λ behind end more. node name (sign_of o 6 (codes "(") refl refl opens) arguments.spells (sign_of c 7 (codes ")") refl refl closes) more;
}) rest

-- a name by a word of the class of names
fold_name : Folds (Terminal 1 ∷ []) 2
fold_name s ts (class {t} is rest) = item (a_name (name_of t 1 refl is)) rest

-- `true` as a name
fold_true_name : Folds (Terminal 2 ∷ []) 2
fold_true_name s ts (class {t} is rest) = item (a_name (name_of t 2 refl is)) rest

-- `false` as a name
fold_false_name : Folds (Terminal 3 ∷ []) 2
fold_false_name s ts (class {t} is rest) = item (a_name (name_of t 3 refl is)) rest

-- arguments
fold_arguments : Folds (Nonterminal 5 ∷ Nonterminal 4 ∷ []) 3
fold_arguments s ts (item argument (item {us} more rest)) = item (record { written = argument.before more.written; spells = some (argument.spells more.written us more.spells) }) rest

-- none
fold_no_arguments : Folds [] 3
fold_no_arguments s ts rest = item (record { written = Nothing; spells = none }) rest

-- further arguments
fold_more : Folds (Terminal 10 ∷ Nonterminal 5 ∷ Nonterminal 4 ∷ []) 4
fold_more s ts (class {t} is (item argument (item {us} more rest))) =
    item (record { written = argument.before more.written; spells = comma (sign_of t 10 (codes ",") refl refl is) (argument.spells more.written us more.spells) }) rest

-- none
fold_no_more : Folds [] 4
fold_no_more s ts rest = item (record { written = Nothing; spells = over }) rest

-- an argument that is a node
fold_node_argument : Folds (Nonterminal 1 ∷ []) 5
fold_node_argument s ts (item first rest) = item (record { before = λ behind. Node first.name first.place first.arguments behind; spells = first.spells }) rest

-- an argument in brackets
fold_brackets : Folds (Terminal 8 ∷ Nonterminal 6 ∷ Terminal 9 ∷ []) 5
fold_brackets s ts (class {t = o} opens (item nodes (class {t = c} closes rest))) = item (record {
  before = λ behind. Brackets o.place nodes.written behind;
  spells = λ behind end more. brackets (sign_of o 8 (codes "[") refl refl opens) nodes.nodes nodes.spells (sign_of c 9 (codes "]") refl refl closes) more;
}) rest

-- an argument that is a text
fold_text : Folds (Terminal 4 ∷ []) 5
fold_text s ts (class {t} is rest) = item (record { before = λ behind. Valued (WritesText t.text) t.place behind; spells = λ behind end more. text (text_of t is) more }) rest

-- an integer
fold_int : Folds (Terminal 5 ∷ []) 5
fold_int s ts (class {t} is rest) = item (record { before = λ behind. Valued (WritesInt false t.text) t.place behind; spells = λ behind end more. int (int_of t is) more }) rest

-- an integer behind `-`
fold_negative : Folds (Terminal 11 ∷ Terminal 5 ∷ []) 5
fold_negative s ts (class {t = m} minus (class {t} is rest)) = item (record {
  before = λ behind. Valued (WritesInt true t.text) m.place behind;
  spells = λ behind end more. negative (sign_of m 11 (codes "-") refl refl minus) (int_of t is) more;
}) rest

-- `true` as a value
fold_true : Folds (Terminal 2 ∷ []) 5
fold_true s ts (class {t} is rest) = item (record {
  before = λ behind. Valued (WritesTruth true) t.place behind;
  spells = λ behind end more. truth {b = true} (name_of t 2 refl is) (word_of t 2 (codes "true") refl refl is) more;
}) rest

-- `false` as a value
fold_false : Folds (Terminal 3 ∷ []) 5
fold_false s ts (class {t} is rest) = item (record {
  before = λ behind. Valued (WritesTruth false) t.place behind;
  spells = λ behind end more. truth {b = false} (name_of t 3 refl is) (word_of t 3 (codes "false") refl refl is) more;
}) rest

-- nodes in brackets, side by side
fold_nodes : Folds (Nonterminal 1 ∷ Nonterminal 7 ∷ []) 6
fold_nodes s ts (item first (item {us} more rest)) = item (record {
  written = Node first.name first.place first.arguments more.written;
  nodes = more.nodes;
  spells = some (first.spells more.written us more.spells);
}) rest

-- none
fold_no_nodes : Folds [] 6
fold_no_nodes s ts rest = item (record { written = Nothing; nodes = tt; spells = none }) rest

-- further nodes
fold_more_nodes : Folds (Terminal 10 ∷ Nonterminal 1 ∷ Nonterminal 7 ∷ []) 7
fold_more_nodes s ts (class {t} is (item first (item {us} more rest))) = item (record {
  written = Node first.name first.place first.arguments more.written;
  nodes = more.nodes;
  spells = comma (sign_of t 10 (codes ",") refl refl is) (first.spells more.written us more.spells);
}) rest

-- none
fold_no_more_nodes : Folds [] 7
fold_no_more_nodes s ts rest = item (record { written = Nothing; nodes = tt; spells = over }) rest

-- what the body of each production reads, its nonterminal reads
data AllFold : List Production → Type 0 where
  all : AllFold []
  ◌&◌ : {r : Production} {rs : List Production} → Folds r.body r.of → AllFold rs → AllFold (r ∷ rs)

infixr 30 ◌&◌
-- the production of a number
fold_at : {rs : List Production} → AllFold rs → (p : ℕ) (r : Production) → nth rs p ≡ Some r → Folds r.body r.of
fold_at all p r e = absurd (cc)
fold_at (◌&◌ {r = x} f fs) zero r e = let same : x ≡ r = cc in subst (λ (z : Production). Folds z.body z.of) same f
fold_at (f & fs) (suc p) r e = fold_at fs p r e

-- those of the grammar
all_fold : AllFold tree_printed_grammar
all_fold = fold_tree & fold_node & fold_name & fold_true_name & fold_false_name & fold_arguments & fold_no_arguments & fold_more & fold_no_more & fold_node_argument
    & fold_brackets & fold_text & fold_int & fold_negative & fold_true & fold_false & fold_nodes & fold_no_nodes & fold_more_nodes & fold_no_more_nodes & all

-- what symbols derive, they read
reads : {s : List Symbol} {cs es : List ℕ} → Derives tree_printed_grammar s cs es → (ts : List Lexed) → cs ≡ map token_class ts → Reads s ts
reads done [] e = nothing
reads done (t ∷ ts) e = absurd (cc)
reads (token d) [] e = absurd (cc)
reads (token d) (t ∷ ts) e = class (cc) (reads d ts (cc))
reads (act d) ts e = no_act (reads d ts e)
reads (rule {s = s} p r at of d) ts e = subst (λ n. Reads (Nonterminal n ∷ s) ts) of (fold_at all_fold p r at s ts (reads d ts e))

-- what is read as a tree and the end of a file, writes one node
writes : {ts : List Lexed} → Reads (Nonterminal 0 ∷ Terminal 0 ∷ []) ts → (w : Written) × Writes ts w
writes (item first (class {t} ends nothing)) = (Node first.name first.place first.arguments Nothing, record { end = t; ends = end_of t ends; node = tt; spells = first.spells Nothing (t ∷ []) over })

-- the tokens of a sentence write something
pub written_of : {ts : List Lexed} → Sentence tree_printed_grammar 0 (map token_class ts) → (w : Written) × Writes ts w
written_of {ts} s = writes (reads s.runs ts refl)
