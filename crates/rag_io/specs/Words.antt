-- Words: what one is, those that aspects reserve, and those of JastAdd2's notation that this profile leaves out.
use Rattle.std.specs.Prelude.{◌≡◌, ℕ, List, [], ◌∷◌, Bool, false, ◌||◌, codes, IsTrue}
use Rattle.std.specs.List.{AllPass}
use Rattle.std.specs.Str.{bytes_eq}
use Rattle.rag_io.specs.Lexemes.{begins_name, goes_on_name}

-- the text is one of the words
abbrev pub is_one_of : List (List ℕ) → List ℕ → Bool
is_one_of [] text = false
is_one_of (word ∷ words) text = bytes_eq text word || is_one_of words text

abbrev pub type_words : List (List ℕ)
type_words = codes "boolean" ∷ codes "int" ∷ codes "String" ∷ codes "Set" ∷ []

abbrev pub value_words : List (List ℕ)
value_words = codes "true" ∷ codes "false" ∷ codes "null" ∷ codes "empty" ∷ codes "this" ∷ codes "new" ∷ codes "instanceof" ∷ []

abbrev pub item_words : List (List ℕ)
item_words = codes "syn" ∷ codes "inh" ∷ codes "eq" ∷ codes "coll" ∷ codes "nta" ∷ codes "lazy" ∷ codes "aspect" ∷ []

abbrev pub contribution_words : List (List ℕ)
contribution_words = codes "when" ∷ codes "to" ∷ codes "for" ∷ []

unfoldable pub is_reserved : List ℕ → Bool
is_reserved text = is_one_of type_words text || (is_one_of value_words text || (is_one_of item_words text || is_one_of contribution_words text))

abbrev pub left_out_items : List (List ℕ)
left_out_items = codes "import" ∷ codes "refine" ∷ codes "rewrite" ∷ codes "interface" ∷ codes "class" ∷ []

abbrev pub modifiers : List (List ℕ)
modifiers = codes "public" ∷ codes "private" ∷ codes "protected" ∷ codes "static" ∷ codes "void" ∷ []

unfoldable pub is_left_out : List ℕ → Bool
is_left_out text = is_one_of left_out_items text || is_one_of modifiers text

-- a text that a name token may have: a letter or an underscore, and then letters, digits and underscores
pub record IsWord (text : List ℕ) : Type 0 where
  pub first : ℕ
  pub more : List ℕ
  pub are : text ≡ first ∷ more
  pub begins : IsTrue (begins_name first)
  pub goes_on : AllPass goes_on_name more
