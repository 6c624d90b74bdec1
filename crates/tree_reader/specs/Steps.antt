-- The pass over the tokens of a tree's text: what is open and what was laid, and what each token does to them.
use Rattle.std.specs.Prelude.{ℕ, zero, suc, List, [], ◌∷◌, ◌++◌, Bool, true, false, not, ◌||◌, Option, Some, None, codes, drop, length, map, reverse, if◌then◌else◌}
use Rattle.std.specs.Option.{option_map}
use Rattle.std.specs.Str.{bytes_eq}
use Rattle.broken_rules.specs.declared.broken.Broken.{Broken}
use Rattle.broken_rules.specs.declared.rule.Rule.TheVariants.{N3}
use Rattle.broken_rules.specs.Notes.{at, broken_if}
use Rattle.broken_rules.specs.Order.{sooner, first_of}
use Rattle.rag_io.specs.Decimal.{decimal}
use Rattle.rag_io.specs.declared.token.Place.{Place}
use Rattle.rag_io.specs.declared.token.TokenKind.{TokenKind}
use Rattle.rag_io.specs.declared.token.TokenKind.TheVariants as kinds
use Rattle.rag_io.specs.Tokens.{Lexed}
use Rattle.ast_grammar.specs.Grammar.{Class, class_named, components_of, number_of}
use Rattle.tree_arena.specs.Nodes.{Node, tokens_at}
use Rattle.token_texts.specs.Texts.{text_code}
use Rattle.tree_syntax.specs.Written.{Leaf, WritesText, WritesInt, WritesTruth}
use Rattle.tree_reader.specs.Breaking.{name_broken, node_misplaced, brackets_misplaced, value_misplaced}
use Rattle.tree_reader.specs.Grown.{class_or_first, small_code, truth_code}
use Rattle.tree_reader.specs.Laying.{seen_laid}
use Rattle.tree_reader.specs.Wants.{Wants, Components, Elements, Perhaps, NoMore, Unknown, Wanted, At, Element, NoNode, Anything, next_of, wanted_by, inside, arguments_of}
use Rattle.tree_reader.specs.declared.frames.Frame.{Frame}
use Rattle.tree_reader.specs.declared.frames.Opened as opened_memory
use Rattle.tree_reader.specs.declared.frames.Opened.TheVariants as opened_variants
use Rattle.tree_reader.specs.declared.laying.Laying.{Laying}
use Rattle.tree_reader.specs.declared.values.Value as value_memory
use Rattle.tree_reader.specs.declared.values.Value.TheVariants as value_variants
use Rattle.tree_reader.specs.declared.wants.Wants as wants_memory
use Rattle.tree_reader.specs.declared.wants.Wants.TheVariants as wants_variants
use Rattle.tree_reader.specs.declared.wants.Wanted as wanted_memory
use Rattle.tree_reader.specs.declared.wants.Wanted.TheVariants as wanted_variants

-- what was opened: the arguments of a node, whose class may be unknown and whose name stands at a place, or brackets at a component
pub data Opened : Type 0 where
  Arguments : Option ℕ → Place → Opened
  Brackets : ℕ → Opened

-- arguments that are being read: the number of their node, what was opened, and what is wanted of those that are left
pub record Open : Type 0 where
  pub node : ℕ
  pub opened : Opened
  pub wants : Wants

-- what was read so far: the innermost that is open, what is open around it, the nodes in preorder, the broken rule that counts, and the
-- place of a `-` whose digits follow
pub record State : Type 0 where
  pub innermost : Open
  pub outer : List Open
  pub nodes : List Node
  pub broken : Option Broken
  pub minus : Option Place

-- what is open around the root
abbrev pub outermost : Open
outermost = record { node = 0; opened = Brackets 0; wants = Unknown }

-- What the parts of the reader say.
abbrev pub seen_wants : List Class → wants_memory.Wants → Wants
seen_wants g (wants_variants.Components c k) = Components (drop k (components_of g c.0))
seen_wants g (wants_variants.Elements c) = Elements c
seen_wants g (wants_variants.Perhaps c) = Perhaps c
seen_wants g wants_variants.NoMore = NoMore
seen_wants g wants_variants.Unknown = Unknown

abbrev pub seen_wanted : wanted_memory.Wanted → Wanted
seen_wanted (wanted_variants.At s c) = At s c
seen_wanted (wanted_variants.Element c) = Element c
seen_wanted wanted_variants.NoNode = NoNode
seen_wanted wanted_variants.Anything = Anything

abbrev pub seen_opened : opened_memory.Opened → Opened
seen_opened (opened_variants.Arguments class p) = Arguments (option_map number_of class) p
seen_opened (opened_variants.Brackets k) = Brackets k

abbrev pub seen_frame : List Class → Frame → Open
seen_frame g f = record { node = f.node; opened = seen_opened f.opened; wants = seen_wants g f.wants }

abbrev pub seen_state : List Class → Laying → State
seen_state g l = record {
  innermost = seen_frame g l.innermost;
  outer = map (seen_frame g) (reverse l.outer.items);
  nodes = map seen_laid l.nodes.items;
  broken = l.broken;
  minus = l.minus;
}

-- a value as a text writes it; a text token keeps its text
abbrev pub seen_leaf : List ℕ → value_memory.Value → Leaf
seen_leaf text (value_variants.Text code) = WritesText text
seen_leaf text (value_variants.Int negative digits) = WritesInt negative digits.now
seen_leaf text (value_variants.Truth b) = WritesTruth b

abbrev pub value_code : value_memory.Value → ℕ
value_code (value_variants.Text code) = code
value_code (value_variants.Int negative digits) = small_code negative (decimal digits.now)
value_code (value_variants.Truth b) = truth_code b

-- the one that counts once these are noted
abbrev pub noted : Option Broken → List Broken → Option Broken
noted old bs = sooner old (first_of bs)

-- no argument is left to be wanted, and there was none too many
abbrev pub is_done : Wants → Bool
is_done (Components []) = true
is_done (Components (x ∷ xs)) = false
is_done (Elements c) = false
is_done (Perhaps c) = false
is_done NoMore = false
is_done Unknown = false

-- where a class is known and this is wanted behind all arguments, there was another number of them than it has components
abbrev pub is_uneven : Option ℕ → Wants → Bool
is_uneven None wants = false
is_uneven (Some c) wants = not (is_done wants)

-- the component at which the next argument stands: in the arguments of a node, the first that has no code yet
abbrev pub component_by : List Node → ℕ → Opened → ℕ
component_by nodes n (Arguments class p) = length (tokens_at nodes n)
component_by nodes n (Brackets k) = k

-- one more code of the node of this number
abbrev pub coded : List Node → ℕ → ℕ → List Node
coded [] n code = []
coded (x ∷ nodes) zero code = record x { tokens = x.tokens ++ code ∷ [] } ∷ nodes
coded (x ∷ nodes) (suc n) code = x ∷ coded nodes n code

abbrev pub coded_by : List Node → ℕ → Opened → ℕ → List Node
coded_by nodes n (Arguments class p) code = coded nodes n code
coded_by nodes n (Brackets k) code = nodes

-- behind the next argument
abbrev pub next_open : Open → Open
next_open o = record { node = o.node; opened = o.opened; wants = next_of o.wants }

-- behind the next argument, which has this code
abbrev pub gone_behind : ℕ → State → State
gone_behind code s = record {
  innermost = next_open s.innermost;
  outer = s.outer;
  nodes = coded_by s.nodes s.innermost.node s.innermost.opened code;
  broken = s.broken;
  minus = s.minus;
}

-- something opens inside
abbrev pub entered : Open → State → State
entered o s = record { innermost = o; outer = s.innermost ∷ s.outer; nodes = s.nodes; broken = s.broken; minus = s.minus }

-- a node is laid behind the others
abbrev pub laid_last : Node → State → State
laid_last x s = record { innermost = s.innermost; outer = s.outer; nodes = s.nodes ++ x ∷ []; broken = s.broken; minus = s.minus }

-- these are noted
abbrev pub with_noted : List Broken → State → State
with_noted bs s = record { innermost = s.innermost; outer = s.outer; nodes = s.nodes; broken = noted s.broken bs; minus = s.minus }

-- a node begins with its name
abbrev pub node_opened : List Class → List ℕ → Place → State → State
node_opened g name p s =
    let class = class_named g name in
    let n = length s.nodes in
    let x : Node = record { class = class_or_first class; parent = s.innermost.node; component = component_by s.nodes s.innermost.node s.innermost.opened; tokens = [] } in
    let bs = name_broken g class n p ++ node_misplaced g (wanted_by s.innermost.wants) class p in
    entered (record { node = n; opened = Arguments class p; wants = arguments_of g class }) (laid_last x (gone_behind 0 (with_noted bs s)))

-- brackets open
abbrev pub brackets_opened : Place → State → State
brackets_opened p s =
    let o : Open = record { node = s.innermost.node; opened = Brackets (component_by s.nodes s.innermost.node s.innermost.opened); wants = inside (wanted_by s.innermost.wants) } in
    entered o (gone_behind 0 (with_noted (brackets_misplaced (wanted_by s.innermost.wants) p) s))

-- a value stands there
abbrev pub value_added : Leaf → ℕ → Place → State → State
value_added leaf code p s = gone_behind code (with_noted (value_misplaced (wanted_by s.innermost.wants) leaf p) s)

-- N3: what the end of what was opened breaks, where this is wanted
abbrev pub close_broken : Opened → Wants → List Broken
close_broken (Arguments class p) wants = broken_if (is_uneven class wants) (at p N3)
close_broken (Brackets k) wants = []

abbrev pub first_open : List Open → Open
first_open [] = outermost
first_open (o ∷ os) = o

abbrev pub others_open : List Open → List Open
others_open [] = []
others_open (o ∷ os) = os

-- what the end of the innermost breaks is noted
abbrev pub ended : State → State
ended s = with_noted (close_broken s.innermost.opened s.innermost.wants) s

-- back to what is open around the innermost
abbrev pub left : State → State
left s = record { innermost = first_open s.outer; outer = others_open s.outer; nodes = s.nodes; broken = s.broken; minus = s.minus }

-- the innermost closes
abbrev pub closed : State → State
closed s = left (ended s)

abbrev pub with_minus : Option Place → State → State
with_minus minus s = record { innermost = s.innermost; outer = s.outer; nodes = s.nodes; broken = s.broken; minus = minus }

-- digits, perhaps behind a `-`
abbrev pub int_added : Option Place → List ℕ → Place → State → State
int_added None digits p s = value_added (WritesInt false digits) (small_code false (decimal digits)) p s
int_added (Some q) digits p s = value_added (WritesInt true digits) (small_code true (decimal digits)) q s

-- and behind them no `-` is left
abbrev pub with_int : List ℕ → Place → State → State
with_int digits p s = int_added s.minus digits p (with_minus None s)

abbrev pub is_true : List ℕ → Bool
is_true text = bytes_eq text (codes "true")

-- a word names a node where `(` follows, and is a truth value elsewhere
abbrev pub word_taken : List Class → Bool → List ℕ → Place → State → State
word_taken g true text p s = node_opened g text p s
word_taken g false text p s = value_added (WritesTruth (is_true text)) (truth_code (is_true text)) p s

-- a sign; the others do nothing
abbrev pub sign_taken : List ℕ → Place → State → State
sign_taken text p s =
    if bytes_eq text (codes "-") then with_minus (Some p) s
    else if bytes_eq text (codes "[") then brackets_opened p s
    else if bytes_eq text (codes ")") || bytes_eq text (codes "]") then closed s
    else s

-- a token does this, where `(` follows or not, and where a text has this code
abbrev pub taken : List Class → TokenKind → List ℕ → Place → Bool → ℕ → State → State
taken g kinds.Name text p opens code s = word_taken g opens text p s
taken g kinds.Int text p opens code s = with_int text p s
taken g kinds.Text text p opens code s = value_added (WritesText text) code p s
taken g kinds.Symbol text p opens code s = sign_taken text p s
taken g kinds.End text p opens code s = s

-- the token is this sign
abbrev pub is_sign_by : TokenKind → List ℕ → List ℕ → Bool
is_sign_by kinds.Name text sign = false
is_sign_by kinds.Int text sign = false
is_sign_by kinds.Text text sign = false
is_sign_by kinds.Symbol text sign = bytes_eq text sign
is_sign_by kinds.End text sign = false

-- the next token is `(`
abbrev pub opens : List Lexed → Bool
opens [] = false
opens (t ∷ ts) = is_sign_by t.kind t.text (codes "(")

-- all tokens in their order
abbrev pub run : List Class → List (List ℕ) → List Lexed → State → State
run g pool [] s = s
run g pool (t ∷ ts) s = run g pool ts (taken g t.kind t.text t.place (opens ts) (text_code pool t) s)

-- nothing was read
abbrev pub started : Option Broken → State
started broken = record { innermost = outermost; outer = []; nodes = []; broken = broken; minus = None }
