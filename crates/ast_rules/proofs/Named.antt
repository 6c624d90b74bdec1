-- The name of each class that some tokens say is a word: a name is taken only behind a token of class 1.
-- Actions and tokens have the numbers of the grammar `ast`.
use Rattle.std.proofs.Common.{◌≡◌, ℕ, zero, suc, ◌+◌, ◌-◌, ◌<◌, ◌≤◌, ◌==◌, max, Bool, true, false, not, ◌||◌, ◌&&◌, if◌then◌else◌, List, [], ◌∷◌, ◌++◌, All, codes, map, slice_get, Option, Some, refl, ap, sym, subst, ◌∙◌, arith}
use Rattle.std.specs.List.{list_all}
use Rattle.std.specs.Str.{bytes_eq}
use Rattle.std.proofs.lemmas.Bool.{and_parts, and_from, eqb-true, leb-true}
use Rattle.std.proofs.lemmas.List.Elements.{All-nil, All-push}
use Rattle.rag_io.specs.declared.token.TokenKind.{TokenKind}
use Rattle.rag_io.specs.declared.token.TokenKind.TheVariants as kinds
use Rattle.rag_io.specs.Tokens.{AreTokens, Lexed}
use Rattle.rag_io.specs.Words.{IsWord}
use Rattle.rag_io.proofs.WordTokens.{word_of}
use Rattle.ll_parser.specs.declared.symbols.Symbol.{Symbol}
use Rattle.ll_parser.specs.declared.symbols.Symbol.TheVariants.{Terminal, Nonterminal, Action}
use Rattle.ll_parser.specs.Grammar.{Derives, Production, done, token, act, rule, nth, shift}
use Rattle.ll_parser.specs.Table.{member}
use Rattle.ast_rules.proofs.Levels.{actions, needed, level_after, leads, opened}
use Rattle.ast_rules.proofs.Rising.{at_listed}
use Rattle.ast_rules.specs.AstGrammar.{ast_grammar}
use Rattle.ast_rules.specs.Building.{Building, name_at, name_in, nothing, after, built}
use Rattle.ast_rules.specs.Reading.{AreNamed, SaysRules}
use Rattle.ast_rules.specs.Tokens.{class_of_parts, sign_class, token_class}
use Rattle.ast_rules.specs.Written.{WrittenRule}

-- the class of a sign by the tests of its text
abbrev by_tests : Bool → Bool → Bool → Bool → Bool → Bool → Bool → Bool → ℕ
by_tests a b c d e f g h = if a then 3 else if b then 4 else if c then 5 else if d then 6 else if e then 7 else if f then 8 else if g then 9 else if h then 10 else 11

more_than_one : (a b c d e f g h : Bool) → 1 < by_tests a b c d e f g h
more_than_one true b c d e f g h = omega arith
more_than_one false true c d e f g h = omega arith
more_than_one false false true d e f g h = omega arith
more_than_one false false false true e f g h = omega arith
more_than_one false false false false true f g h = omega arith
more_than_one false false false false false true g h = omega arith
more_than_one false false false false false false true h = omega arith
more_than_one false false false false false false false true = omega arith
more_than_one false false false false false false false false = omega arith

-- no sign has the class of a word
no_sign : (text : List ℕ) → sign_class text ≡ 1 → ⊥
no_sign text is =
    let other : 1 < sign_class text = more_than_one (bytes_eq text (codes ":")) (bytes_eq text (codes "::=")) (bytes_eq text (codes ";")) (bytes_eq text (codes "*"))
    (bytes_eq text (codes "[")) (bytes_eq text (codes "]")) (bytes_eq text (codes "<")) (bytes_eq text (codes ">")) in
    omega arith

-- the tokens of that class are names
name_kind : (kind : TokenKind) (text : List ℕ) → class_of_parts kind text ≡ 1 → kind ≡ kinds.Name
name_kind kinds.Name text is = refl
name_kind kinds.Symbol text is = absurd (no_sign text is)
name_kind kinds.End text is = absurd (omega arith)
name_kind kinds.Int text is = absurd (omega arith)
name_kind kinds.Text text is = absurd (omega arith)

-- the token of a class that stands in a list
token_of_class : (ts : List Lexed) (n c : ℕ) → slice_get (map token_class ts) n ≡ Some c → (t : Lexed) × (slice_get ts n ≡ Some t) × (token_class t ≡ c)
token_of_class [] n c at = absurd (cc)
token_of_class (t ∷ ts) zero c at = (t, refl, cc)
token_of_class (t ∷ ts) (suc n) c at = token_of_class ts n c at

-- so such a token of some bytes is a word
word_at : (ts : List Lexed) → AreTokens ts → (n : ℕ) → slice_get (map token_class ts) n ≡ Some 1 → IsWord (name_at ts n).text
word_at ts tokens n at =
    let found = token_of_class ts n 1 at in
    subst (λ (o : Option Lexed). IsWord (name_in o).text) (sym found.1) (word_of tokens n found.0 found.1 (name_kind found.0.kind found.0.text found.2))

-- Each name is taken behind a word: `word` says that the last token is one.
abbrev takes_words : Bool → List Symbol → Bool
takes_words word [] = true
takes_words word (Terminal c ∷ s) = takes_words (c == 1) s
takes_words word (Action a ∷ s) = (not (a == 3) || word) && takes_words word s
takes_words word (Nonterminal n ∷ s) = takes_words false s

or_more : (x word : Bool) → (x || false) ≡ true → (x || word) ≡ true
or_more true word e = refl
or_more false word e = absurd (cc)

-- also where the last token is a word
with_word : (word : Bool) (s : List Symbol) → takes_words false s ≡ true → takes_words word s ≡ true
with_word word [] e = refl
with_word word (Terminal c ∷ s) e = e
with_word word (Action a ∷ s) e =
    let parts = and_parts _ _ e in
    and_from _ _ (or_more (not (a == 3)) word parts.0) (with_word word s parts.1)
with_word word (Nonterminal n ∷ s) e = e

takes_words-append : (word : Bool) (xs s : List Symbol) → takes_words word xs ≡ true → takes_words false s ≡ true → takes_words word (xs ++ s) ≡ true
takes_words-append word [] s e f = with_word word s f
takes_words-append word (Terminal c ∷ xs) s e f = takes_words-append (c == 1) xs s e f
takes_words-append word (Action a ∷ xs) s e f =
    let parts = and_parts _ _ e in
    and_from _ _ parts.0 (takes_words-append word xs s parts.1 f)
takes_words-append word (Nonterminal n ∷ xs) s e f = takes_words-append false xs s e f

row_takes : (rows : List Production) (p : ℕ) (r : Production) → list_all (λ (r : Production). takes_words false r.body) rows ≡ true → nth rows p ≡ Some r → takes_words false r.body ≡ true
row_takes [] p r e h = absurd (cc)
row_takes (x ∷ rows) zero r e h = let same : x ≡ r = cc in subst (λ (y : Production). takes_words false y.body ≡ true) same (and_parts _ _ e).0
row_takes (x ∷ rows) (suc p) r e h = row_takes rows p r (and_parts (takes_words false x.body) _ e).1 h

module _ (ts : List Lexed) where
  -- What is known at a level, where the last token may be a word: the names that were taken are words.
  record Known (l at : ℕ) (word : Bool) (text : List ℕ) (rules : List WrittenRule) : Type 0 where
    read : word ≡ true → IsWord (name_at ts (at - 1)).text
    named : 2 ≤ l → IsWord text
    words : All (λ (r : WrittenRule). IsWord r.name.text) rules

  abbrev Holds : ℕ → Bool → Building → Type 0
  Holds l word b = Known l b.at word b.name.text b.rules

  holds_nothing : Holds 0 false (nothing ts)
  holds_nothing = record { read = λ h. absurd (cc); named = λ h. absurd (omega arith); words = All-nil (λ (r : WrittenRule). IsWord r.name.text) }

  -- What an action makes, behind a word or where it takes no name.
  record Acts (l : ℕ) (word : Bool) (b : Building) (a : ℕ) : Type 0 where
    holds : Holds (level_after l a) word (after ts b a)
    at : (after ts b a).at ≡ b.at

  acts_name : (l : ℕ) (word : Bool) (b : Building) → word ≡ true → Holds l word b → Acts l word b 3
  acts_name l word b is h = record { holds = record { read = h.read; named = λ k. h.read is; words = h.words }; at = refl }

  acts_word : (l : ℕ) (word : Bool) (b : Building) → 2 ≤ l → Holds l word b → Acts l word b 5
  acts_word l word b least h = record { holds = record { read = h.read; named = λ k. h.named least; words = h.words }; at = refl }

  acts_rule : (l : ℕ) (word : Bool) (b : Building) → 2 ≤ l → Holds l word b → Acts l word b 11
  acts_rule l word b least h =
      let r : WrittenRule = record { abstract = b.abstract; name = b.name; superclass = b.superclass; components = b.components } in
      record {
        holds = record { read = h.read; named = λ k. absurd (omega arith); words = All-push (λ (r : WrittenRule). IsWord r.name.text) b.rules r h.words (h.named least) };
        at = refl;
      }

  -- an action at a level that it needs
  acts : (l : ℕ) (word : Bool) (b : Building) (a : ℕ) → member a actions ≡ true → needed a ≤ l → (not (a == 3) || word) ≡ true → Holds l word b → Acts l word b a
  acts l word b a listed least takes h = at_listed (λ a. needed a ≤ l → (not (a == 3) || word) ≡ true → Acts l word b a) a actions listed (
    λ k e. record { holds = h; at = refl },
    (
      λ k e. record { holds = h; at = refl },
      (
        λ k e. acts_name l word b e h,
        (
          λ k e. record { holds = h; at = refl },
          (
            λ k e. acts_word l word b k h,
            (
              λ k e. record { holds = h; at = refl },
              (
                λ k e. record { holds = h; at = refl },
                (
                  λ k e. record { holds = h; at = refl },
                  (
                    λ k e. record { holds = h; at = refl },
                    (
                      λ k e. record { holds = h; at = refl },
                      (λ k e. acts_rule l word b k h, tt),
                    ),
                  ),
                ),
              ),
            ),
          ),
        ),
      ),
    ),
  ) least takes

  -- the classes of the tokens from a number on
  abbrev AreLeft : ℕ → List ℕ → Type 0
  AreLeft at cs = (n : ℕ) → slice_get (map token_class ts) (at + n) ≡ slice_get cs n

  module _ (words : (n : ℕ) → slice_get (map token_class ts) n ≡ Some 1 → IsWord (name_at ts n).text) where
    -- one more token
    holds_read : (l c : ℕ) (cs : List ℕ) (word : Bool) (b : Building) → AreLeft b.at (c ∷ cs) → Holds l word b → Holds (max l 1) (c == 1) (after ts b shift)
    holds_read l c cs word b left h =
        let here : b.at + 0 ≡ b.at + 1 - 1 = omega arith in
        record {
          read = λ is. words (b.at + 1 - 1) (ap (slice_get (map token_class ts)) (sym here) ∙ left 0 ∙ ap Some (eqb-true c 1 is));
          named = λ k. h.named (omega arith);
          words = h.words;
        }

    left_read : (c at : ℕ) (cs : List ℕ) → AreLeft at (c ∷ cs) → AreLeft (at + 1) cs
    left_read c at cs left n = let next : at + 1 + n ≡ at + suc n = omega arith in ap (slice_get (map token_class ts)) next ∙ left (suc n)

    -- the names of the rules that are built along a derivation are words
    built_named : {s : List Symbol} {cs es : List ℕ} → Derives ast_grammar s cs es → (l : ℕ) (word : Bool) (b : Building) → leads 0 l s ≡ true → takes_words word s ≡ true
        → AreLeft b.at cs → Holds l word b → All (λ (r : WrittenRule). IsWord r.name.text) (built ts b es).rules
    built_named done l word b e f left h = h.words
    built_named (token {c} {ts = cs} d) l word b e f left h =
        built_named d (max l 1) (c == 1) (after ts b shift) e f (left_read c b.at cs left) (holds_read l c cs word b left h)
    built_named (act {a} {ts = cs} d) l word b e f left h =
        let parts = and_parts _ _ e in
        let can = and_parts _ _ parts.0 in
        let takes = and_parts _ _ f in
        let next = acts l word b a can.0 (leb-true (needed a) l can.1) takes.0 h in
        built_named d (level_after l a) word (after ts b a) parts.1 takes.1 (subst (λ at. AreLeft at cs) (sym next.at) left) next.holds
    built_named (rule {s = s} p r at is d) l word b e f left h =
        built_named d l word b (opened 0 l ast_grammar p r s refl at is e) (takes_words-append word r.body s (with_word word r.body (row_takes ast_grammar p r refl at)) f) left h

-- the name of each class that some tokens say is a word
pub named_rules : (ts : List Lexed) (said : List WrittenRule) → AreTokens ts → SaysRules ts said → AreNamed said
named_rules ts said tokens says = record {
  words = subst (All (λ (r : WrittenRule). IsWord r.name.text)) (sym says.rules)
      (built_named ts (word_at ts tokens) says.reading.runs 0 false (nothing ts) refl refl (λ n. ap (slice_get (map token_class ts)) (let zero_first : 0 + n ≡ n = omega arith in zero_first)) (holds_nothing ts));
}
