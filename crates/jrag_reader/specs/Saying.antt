-- What tokens say: a part that is made of parts, by the forms.
use Rattle.std.specs.Prelude.{◌≡◌, ℕ, List, [], ◌∷◌, ◌++◌, true, Some, reverse}
use Rattle.ll_parser.specs.Table.{member}
use Rattle.rag_io.specs.Tokens.{Lexed}
use Rattle.jrag_syntax.specs.Tokens.{token_class}
use Rattle.jrag_syntax.specs.declared.classes.Start.{Start}
use Rattle.jrag_reader.specs.Forms.{Sort, OneOf, is_also, Form, forms}
use Rattle.jrag_reader.specs.Making.{make}
use Rattle.jrag_reader.specs.Parts.{Part, Token}
use Rattle.token_texts.specs.Texts.{text_code}

pub data IsAmong (f : Form) : List Form → Type 0 where
  here : {fs : List Form} → IsAmong f (f ∷ fs)
  there : {g : Form} {fs : List Form} → IsAmong f fs → IsAmong f (g ∷ fs)

mutual
  -- These tokens say a part of this sort, with the texts of a pool: a token of one of some classes; what a form makes of its parts, which
  -- stand side by side; or a part of a sort that is also of another.
  pub data Says (start : Start) (texts : List (List ℕ)) : Sort → List Lexed → Part → Type 0 where
    one : {t : Lexed} {cs : List ℕ} → member (token_class start t) cs ≡ true → Says start texts (OneOf cs) (t ∷ []) (Token t (text_code texts t))
    made : {ts : List Lexed} {parts : List Part} {p : Part} (action : ℕ) (f : Form) → IsAmong f (forms action) → SayAll start texts (reverse f.parts) ts parts
        → make start action parts ≡ Some (p ∷ []) → Says start texts f.whole ts p
    also : {s r : Sort} {ts : List Lexed} {p : Part} → is_also s r ≡ true → Says start texts s ts p → Says start texts r ts p

  -- They say parts of these sorts side by side, the last one first.
  pub data SayAll (start : Start) (texts : List (List ℕ)) : List Sort → List Lexed → List Part → Type 0 where
    none : SayAll start texts [] [] []
    more : {s : Sort} {sorts : List Sort} {us vs : List Lexed} {p : Part} {parts : List Part} → SayAll start texts sorts us parts → Says start texts s vs p
        → SayAll start texts (s ∷ sorts) (us ++ vs) (p ∷ parts)
