-- Some tokens write one thing at most.
use Rattle.std.proofs.Common.{◌≡◌, ℕ, ◌==◌, ◌||◌, Bool, true, false, List, [], ◌∷◌, codes, if◌then◌else◌, inl, inr, refl, ap, sym, subst, ◌∙◌}
use Rattle.std.proofs.lemmas.Bool.{or_cases, eqb-true}
use Rattle.rag_io.specs.declared.token.Place.{Place}
use Rattle.rag_io.specs.declared.token.TokenKind.TheVariants.{Text, Int}
use Rattle.rag_io.specs.Tokens.{Lexed}
use Rattle.tree_syntax.proofs.Classes.{IsWordClass, class_is, zero_at_end, sign_is, name_cases}
use Rattle.tree_syntax.specs.Tokens.{token_class}
use Rattle.tree_syntax.specs.Written.{Written, Node, Brackets, Valued, Leaf, WritesText, WritesInt, WritesTruth, Mode, Argument, Behind, Writes, Spells, none, some, over, comma, node, brackets, text, int, negative, truth, truth_word}

-- the class of the first token
abbrev pub first_class : List Lexed → ℕ
first_class [] = 0
first_class (t ∷ ts) = token_class t

-- the class of the end, of `)` or of `]`
abbrev pub is_closing : ℕ → Bool
is_closing c = (c == 0) || ((c == 7) || (c == 9))

-- the first token is the end, `)` or `]`
abbrev pub Closes : List Lexed → Type 0
Closes ts = is_closing (first_class ts) ≡ true

-- that is not the class of `(`
not_open : (c : ℕ) → is_closing c ≡ true → (c == 6) ≡ false
not_open c e = elim (or_cases (c == 0) ((c == 7) || (c == 9)) e) [
  | (inl zero) ↦ ap (λ x. x == 6) (eqb-true c 0 zero)
  | (inr more) ↦ elim (or_cases (c == 7) (c == 9) more) [ (inl seven) ↦ ap (λ x. x == 6) (eqb-true c 7 seven) | (inr nine) ↦ ap (λ x. x == 6) (eqb-true c 9 nine) ]
]

-- which of the six arguments begins with tokens of these classes
abbrev sort_at : ℕ → ℕ → ℕ
sort_at first second = if first == 8 then 1 else if first == 4 then 2 else if first == 5 then 3 else if first == 11 then 4 else if second == 6 then 0 else 5

-- with which argument some tokens begin
abbrev sort_of : List Lexed → ℕ
sort_of [] = 6
sort_of (t ∷ ts) = sort_at (token_class t) (first_class ts)

-- which of them is spelled
abbrev sort : {w : Written} {ts rest : List Lexed} → Spells Argument w ts rest → ℕ
sort (node kind opens inner closes behind) = 0
sort (brackets opens are nodes closes behind) = 1
sort (text kind behind) = 2
sort (int kind behind) = 3
sort (negative sign kind behind) = 4
sort (truth kind word behind) = 5

-- no `(` stands behind an argument
behind_argument : {w : Written} {ts rest : List Lexed} → Spells Behind w ts rest → Closes rest → (first_class ts == 6) ≡ false
behind_argument (over {rest}) closing = not_open (first_class rest) closing
behind_argument (comma {t} is next) closing = ap (λ c. c == 6) (sign_is t (codes ",") is)

-- a word and what stands behind it
word_sort : (c second : ℕ) (opens : Bool) → IsWordClass c → (second == 6) ≡ opens → sort_at c second ≡ (if opens then 0 else 5)
word_sort c second opens (inl one) e = ap (λ x. sort_at x second) one ∙ ap (λ b. if b then 0 else 5) e
word_sort c second opens (inr (inl two)) e = ap (λ x. sort_at x second) two ∙ ap (λ b. if b then 0 else 5) e
word_sort c second opens (inr (inr three)) e = ap (λ x. sort_at x second) three ∙ ap (λ b. if b then 0 else 5) e

-- the tokens tell it
sorted : {w : Written} {ts rest : List Lexed} (s : Spells Argument w ts rest) → Closes rest → sort_of ts ≡ sort s
sorted (node {t} {o} kind opens inner closes behind) closing = word_sort (token_class t) (token_class o) true (name_cases t kind) (ap (λ c. c == 6) (sign_is o (codes "(") opens))
sorted (brackets {o} {ts} opens are nodes closes behind) closing = ap (λ c. sort_at c (first_class ts)) (sign_is o (codes "[") opens)
sorted (text {t} {ts} kind behind) closing = ap (λ c. sort_at c (first_class ts)) (class_is t Text t.text kind refl)
sorted (int {t} {ts} kind behind) closing = ap (λ c. sort_at c (first_class ts)) (class_is t Int t.text kind refl)
sorted (negative {s} {t} sign kind behind) closing = ap (λ c. sort_at c (token_class t)) (sign_is s (codes "-") sign)
sorted (truth {t} {ts} kind word behind) closing = word_sort (token_class t) (first_class ts) false (name_cases t kind) (behind_argument behind closing)

-- no word is the end, `)` or `]`
word_closes : (c : ℕ) → IsWordClass c → is_closing c ≡ true → ⊥
word_closes c (inl one) e = let no : is_closing 1 ≡ true = ap is_closing (sym one) ∙ e in absurd (cc)
word_closes c (inr (inl two)) e = let no : is_closing 2 ≡ true = ap is_closing (sym two) ∙ e in absurd (cc)
word_closes c (inr (inr three)) e = let no : is_closing 3 ≡ true = ap is_closing (sym three) ∙ e in absurd (cc)

-- a class that is none of those
class_closes : (c d : ℕ) → c ≡ d → is_closing d ≡ false → is_closing c ≡ true → ⊥
class_closes c d is stands e = let same = ap is_closing is in absurd (cc)

-- no argument begins with the end, `)` or `]`
argument_closes : {w : Written} {ts rest : List Lexed} → Spells Argument w ts rest → Closes ts → ⊥
argument_closes (node {t} kind opens inner closes behind) e = word_closes (token_class t) (name_cases t kind) e
argument_closes (brackets {o} opens are nodes closes behind) e = class_closes (token_class o) 8 (sign_is o (codes "[") opens) refl e
argument_closes (text {t} kind behind) e = class_closes (token_class t) 4 (class_is t Text t.text kind refl) refl e
argument_closes (int {t} kind behind) e = class_closes (token_class t) 5 (class_is t Int t.text kind refl) refl e
argument_closes (negative {s} sign kind behind) e = class_closes (token_class s) 11 (sign_is s (codes "-") sign) refl e
argument_closes (truth {t} kind word behind) e = word_closes (token_class t) (name_cases t kind) e

-- the same is written, and the same tokens are left
record Same (w v : Written) (r q : List Lexed) : Type 0 where
  written : w ≡ v
  rest : r ≡ q

-- with a value before
same_valued : {w v : Written} {r q : List Lexed} (leaf : Leaf) (p : Place) → Same w v r q → Same (Valued leaf p w) (Valued leaf p v) r q
same_valued leaf p same = record { written = ap (Valued leaf p) same.written; rest = same.rest }

-- what stands behind equal tokens is equal
tail_same : {t u : Lexed} {ts us : List Lexed} → t ∷ ts ≡ u ∷ us → ts ≡ us
tail_same e = cc

-- a word is that of one truth value
one_truth : (a b : Bool) → truth_word a ≡ truth_word b → a ≡ b
one_truth true true e = refl
one_truth true false e = absurd (cc)
one_truth false true e = absurd (cc)
one_truth false false e = refl

-- by the first: an argument that begins with the same tokens is of the same sort
one : {mode : Mode} {w v : Written} {ts r q : List Lexed} → Spells mode w ts r → Spells mode v ts q → Closes r → Closes q → Same w v r q
one none none at_r at_q = record { written = refl; rest = refl }
one none (some other) at_r at_q = absurd (argument_closes other at_r)
one (some first) none at_r at_q = absurd (argument_closes first at_q)
one (some first) (some other) at_r at_q = one first other at_r at_q
one over over at_r at_q = record { written = refl; rest = refl }
one over (comma {t} is next) at_r at_q = absurd (class_closes (token_class t) 10 (sign_is t (codes ",") is) refl at_r)
one (comma {t} is next) over at_r at_q = absurd (class_closes (token_class t) 10 (sign_is t (codes ",") is) refl at_q)
one (comma is next) (comma also other) at_r at_q = one next other at_r at_q
one (node {t} {c} {arguments} {behind = b} kind opens inner closes behind) (node {c = d} {arguments = others} {behind = e} {rest = q} kind' opens' inner' closes' behind') at_r at_q =
    let a = one inner inner' (ap is_closing (sign_is c (codes ")") closes)) (ap is_closing (sign_is d (codes ")") closes')) in
    let more = one behind (subst (λ us. Spells Behind e us q) (sym (tail_same a.rest)) behind') at_r at_q in
    record { written = ap (λ x. Node t.text t.place x b) a.written ∙ ap (Node t.text t.place others) more.written; rest = more.rest }
one (brackets {o} {c} {nodes} {behind = b} opens are inner closes behind) (brackets {c = d} {nodes = others} {behind = e} {rest = q} opens' are' inner' closes' behind') at_r at_q =
    let a = one inner inner' (ap is_closing (sign_is c (codes "]") closes)) (ap is_closing (sign_is d (codes "]") closes')) in
    let more = one behind (subst (λ us. Spells Behind e us q) (sym (tail_same a.rest)) behind') at_r at_q in
    record { written = ap (λ x. Brackets o.place x b) a.written ∙ ap (Brackets o.place others) more.written; rest = more.rest }
one (text {t} kind behind) (text kind' behind') at_r at_q = same_valued (WritesText t.text) t.place (one behind behind' at_r at_q)
one (int {t} kind behind) (int kind' behind') at_r at_q = same_valued (WritesInt false t.text) t.place (one behind behind' at_r at_q)
one (negative {s} {t} sign kind behind) (negative sign' kind' behind') at_r at_q = same_valued (WritesInt true t.text) s.place (one behind behind' at_r at_q)
one (truth {t} {b} {behind = e} kind word behind) (truth {b = c} kind' word' behind') at_r at_q =
    let more = one behind behind' at_r at_q in
    record { written = ap (λ x. Valued (WritesTruth x) t.place e) (one_truth b c (sym word ∙ word')) ∙ ap (Valued (WritesTruth c) t.place) more.written; rest = more.rest }
one s u at_r at_q = absurd (let e : sort s ≡ sort u = sym (sorted s at_r) ∙ sorted u at_q in cc)

-- what is spelled from some tokens on, up to the end, `)` or `]`, is one thing, and so are the tokens that are left
pub one_spelled : {mode : Mode} {w v : Written} {ts r q : List Lexed} → Spells mode w ts r → Spells mode v ts q → Closes r → Closes q → (w ≡ v) × (r ≡ q)
one_spelled s u at_r at_q = let same = one s u at_r at_q in (same.written, same.rest)

-- tokens write one thing at most
pub one_written : {ts : List Lexed} {w v : Written} → Writes ts w → Writes ts v → w ≡ v
one_written a b = (one a.spells b.spells (ap is_closing (zero_at_end a.end a.ends)) (ap is_closing (zero_at_end b.end b.ends))).written
