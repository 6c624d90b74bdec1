-- What the class of a token says of it.
use Rattle.std.proofs.Common.{◌≡◌, ℕ, ◌==◌, ◌&&◌, ◌||◌, not, Bool, true, false, List, [], ◌∷◌, codes, if◌then◌else◌, ◌⊎◌, inl, inr, refl, ap, sym, subst, ◌∙◌}
use Rattle.std.specs.Str.{bytes_eq}
use Rattle.std.proofs.lemmas.Bool.{and_parts, or_cases, eq-eqb, both_ways}
use Rattle.std.proofs.lemmas.Slice.Eq.{bytes_eq-Decides}
use Rattle.rag_io.specs.declared.token.TokenKind.{TokenKind}
use Rattle.rag_io.specs.declared.token.TokenKind.TheVariants.{Name, Int, Text, Symbol, End}
use Rattle.rag_io.specs.Tokens.{Lexed}
use Rattle.tree_syntax.specs.Tokens.{token_class, class_of_parts, word_class, sign_class}
use Rattle.tree_syntax.specs.Written.{IsSign}

-- the class of a token of this kind and text
pub class_is : (t : Lexed) (kind : TokenKind) (text : List ℕ) → t.kind ≡ kind → t.text ≡ text → token_class t ≡ class_of_parts kind text
class_is t kind text k e = ap (λ x. class_of_parts x t.text) k ∙ ap (class_of_parts kind) e

-- the end of a file has the number 0
pub zero_at_end : (t : Lexed) → t.kind ≡ End → token_class t ≡ 0
zero_at_end t k = class_is t End t.text k refl

-- a text and its class
pub record Row : Type 0 where
  pub text : List ℕ
  pub class : ℕ

-- the class of a text by rows, or that of the others
abbrev pub chosen : List Row → ℕ → List ℕ → ℕ
chosen [] other text = other
chosen (row ∷ rows) other text = if bytes_eq text row.text then row.class else chosen rows other text

-- the words of their own
abbrev pub words : List Row
words = record { text = codes "true"; class = 2 } ∷ record { text = codes "false"; class = 3 } ∷ []

-- the signs of a tree
abbrev pub signs : List Row
signs = record { text = codes "("; class = 6 } ∷ record { text = codes ")"; class = 7 } ∷ record { text = codes "["; class = 8 }
    ∷ record { text = codes "]"; class = 9 } ∷ record { text = codes ","; class = 10 } ∷ record { text = codes "-"; class = 11 } ∷ []

-- a number is not this one
abbrev pub differs : ℕ → ℕ → Bool
differs n m = not (m == n)

-- then it isn't
differs_not : (n m : ℕ) → differs n m ≡ true → m ≡ n → ⊥
differs_not n m e same = both_ways (m == n) (from_not (m == n) e) (eq-eqb m n same)
  where
    from_not : (b : Bool) → not b ≡ true → b ≡ false
    from_not true e = absurd (cc)
    from_not false e = refl

-- no row has this class
abbrev pub none_has : ℕ → List Row → ℕ → Bool
none_has n [] other = differs n other
none_has n (row ∷ rows) other = differs n row.class && none_has n rows other

-- then no text has it
never : (n : ℕ) (rows : List Row) (other : ℕ) (text : List ℕ) → none_has n rows other ≡ true → chosen rows other text ≡ n → ⊥
never n [] other text e h = differs_not n other e h
never n (row ∷ rows) other text e h = elim (bytes_eq text row.text) as (λ b. (if b then row.class else chosen rows other text) ≡ n → ⊥) [
  | true ↦ λ k. differs_not n row.class (and_parts _ _ e).0 k
  | false ↦ λ k. never n rows other text (and_parts _ _ e).1 k
] h

-- the rows of this class have this text
abbrev pub only_has : ℕ → List ℕ → List Row → ℕ → Bool
only_has n sign [] other = differs n other
only_has n sign (row ∷ rows) other = (differs n row.class || bytes_eq row.text sign) && only_has n sign rows other

-- then no other text has it
only : (n : ℕ) (sign : List ℕ) (rows : List Row) (other : ℕ) (text : List ℕ) → only_has n sign rows other ≡ true → chosen rows other text ≡ n → text ≡ sign
only n sign [] other text e h = absurd (differs_not n other e h)
only n sign (row ∷ rows) other text e h = elim (bytes_eq text row.text) as (λ b. bytes_eq text row.text ≡ b → (if b then row.class else chosen rows other text) ≡ n → text ≡ sign) [
  | true ↦ λ same k. elim (or_cases _ _ (and_parts _ _ e).0) [
    | (inl other) ↦ absurd (differs_not n row.class other k)
    | (inr is) ↦ (bytes_eq-Decides text row.text).0 same ∙ (bytes_eq-Decides row.text sign).0 is
  ]
  | false ↦ λ same k. only n sign rows other text (and_parts _ _ e).1 k
] refl h

-- the parts of a test
three : (a b c : Bool) → (a && (b && c)) ≡ true → (a ≡ true) × (b ≡ true) × (c ≡ true)
three true true true e = (refl, refl, refl)
three true true false e = absurd (cc)
three true false c e = absurd (cc)
three false b c e = absurd (cc)

-- neither the end nor an integer or a text has this class
abbrev pub is_spelled : ℕ → Bool
is_spelled n = differs n 0 && (differs n 5 && differs n 4)

-- only words have this class
abbrev pub is_word : ℕ → Bool
is_word n = none_has n signs 12 && is_spelled n

-- only signs have this class
abbrev pub is_sign : ℕ → Bool
is_sign n = none_has n words 1 && is_spelled n

module _ (n : ℕ) where
  -- nor does it have this class
  never_end : is_spelled n ≡ true → 0 ≡ n → ⊥
  never_end e h = differs_not n 0 (three (differs n 0) (differs n 5) (differs n 4) e).0 h

  -- nor does an integer
  never_int : is_spelled n ≡ true → 5 ≡ n → ⊥
  never_int e h = differs_not n 5 (three (differs n 0) (differs n 5) (differs n 4) e).1 h

  -- nor does a text
  never_text : is_spelled n ≡ true → 4 ≡ n → ⊥
  never_text e h = differs_not n 4 (three (differs n 0) (differs n 5) (differs n 4) e).2 h

  -- what has a class of words is a name
  name_of_parts : (k : TokenKind) (text : List ℕ) → is_word n ≡ true → class_of_parts k text ≡ n → (k ≡ Name) × (word_class text ≡ n)
  name_of_parts Name text e h = (refl, h)
  name_of_parts Symbol text e h = absurd (never n signs 12 text (and_parts (none_has n signs 12) (is_spelled n) e).0 h)
  name_of_parts End text e h = absurd (never_end (and_parts (none_has n signs 12) (is_spelled n) e).1 h)
  name_of_parts Int text e h = absurd (never_int (and_parts (none_has n signs 12) (is_spelled n) e).1 h)
  name_of_parts Text text e h = absurd (never_text (and_parts (none_has n signs 12) (is_spelled n) e).1 h)

  -- what has a class of signs is a symbol
  sign_of_parts : (k : TokenKind) (text : List ℕ) → is_sign n ≡ true → class_of_parts k text ≡ n → (k ≡ Symbol) × (sign_class text ≡ n)
  sign_of_parts Symbol text e h = (refl, h)
  sign_of_parts Name text e h = absurd (never n words 1 text (and_parts (none_has n words 1) (is_spelled n) e).0 h)
  sign_of_parts End text e h = absurd (never_end (and_parts (none_has n words 1) (is_spelled n) e).1 h)
  sign_of_parts Int text e h = absurd (never_int (and_parts (none_has n words 1) (is_spelled n) e).1 h)
  sign_of_parts Text text e h = absurd (never_text (and_parts (none_has n words 1) (is_spelled n) e).1 h)

-- only the end has class 0
end_of_parts : (k : TokenKind) (text : List ℕ) → class_of_parts k text ≡ 0 → k ≡ End
end_of_parts Name text h = absurd (never 0 words 1 text refl h)
end_of_parts Symbol text h = absurd (never 0 signs 12 text refl h)
end_of_parts End text h = refl
end_of_parts Int text h = absurd (cc)
end_of_parts Text text h = absurd (cc)

-- only texts have class 4
text_of_parts : (k : TokenKind) (text : List ℕ) → class_of_parts k text ≡ 4 → k ≡ Text
text_of_parts Name text h = absurd (never 4 words 1 text refl h)
text_of_parts Symbol text h = absurd (never 4 signs 12 text refl h)
text_of_parts End text h = absurd (cc)
text_of_parts Int text h = absurd (cc)
text_of_parts Text text h = refl

-- only integers have class 5
int_of_parts : (k : TokenKind) (text : List ℕ) → class_of_parts k text ≡ 5 → k ≡ Int
int_of_parts Name text h = absurd (never 5 words 1 text refl h)
int_of_parts Symbol text h = absurd (never 5 signs 12 text refl h)
int_of_parts End text h = absurd (cc)
int_of_parts Int text h = refl
int_of_parts Text text h = absurd (cc)

module _ (t : Lexed) where
  -- the kind of a token by its class
  pub end_of : token_class t ≡ 0 → t.kind ≡ End
  end_of h = end_of_parts t.kind t.text h

  -- a text
  pub text_of : token_class t ≡ 4 → t.kind ≡ Text
  text_of h = text_of_parts t.kind t.text h

  -- an integer
  pub int_of : token_class t ≡ 5 → t.kind ≡ Int
  int_of h = int_of_parts t.kind t.text h

  -- a name
  pub name_of : (n : ℕ) → is_word n ≡ true → token_class t ≡ n → t.kind ≡ Name
  name_of n e h = (name_of_parts n t.kind t.text e h).0

  -- the word of a class
  pub word_of : (n : ℕ) (word : List ℕ) → is_word n ≡ true → only_has n word words 1 ≡ true → token_class t ≡ n → t.text ≡ word
  word_of n word e o h = only n word words 1 t.text o (name_of_parts n t.kind t.text e h).1

  -- the sign of a class
  pub sign_of : (n : ℕ) (sign : List ℕ) → is_sign n ≡ true → only_has n sign signs 12 ≡ true → token_class t ≡ n → IsSign sign t
  sign_of n sign e o h = let is = sign_of_parts n t.kind t.text e h in record { kind = is.0; text = only n sign signs 12 t.text o is.1 }

  -- the class of a sign
  pub sign_is : (sign : List ℕ) → IsSign sign t → token_class t ≡ sign_class sign
  sign_is sign is = class_is t Symbol sign is.kind is.text

-- the classes of words
abbrev pub IsWordClass : ℕ → Type 0
IsWordClass n = (n ≡ 1) ⊎ ((n ≡ 2) ⊎ (n ≡ 3))

-- a word has one of them
word_cases : (text : List ℕ) → IsWordClass (word_class text)
word_cases text = elim (bytes_eq text (codes "true")) as (λ b. IsWordClass (if b then 2 else if bytes_eq text (codes "false") then 3 else 1)) [
  | true ↦ inr (inl refl)
  | false ↦ elim (bytes_eq text (codes "false")) as (λ b. IsWordClass (if b then 3 else 1)) [ true ↦ inr (inr refl) | false ↦ inl refl ]
]

-- a name has one of them
pub name_cases : (t : Lexed) → t.kind ≡ Name → IsWordClass (token_class t)
name_cases t k = subst IsWordClass (sym (class_is t Name t.text k refl)) (word_cases t.text)
