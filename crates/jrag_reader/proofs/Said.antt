-- What tokens say is derived by the printed grammar, with events that build it: by the tests of the forms.
use Rattle.std.proofs.Common.{◌≡◌, ℕ, Bool, true, false, List, [], ◌∷◌, ◌++◌, append-nil, Some, None, refl, sym}
use Rattle.std.proofs.lemmas.Bool.{and_parts, and_from}
use Rattle.ll_parser.specs.declared.symbols.Symbol.{Symbol}
use Rattle.ll_parser.specs.declared.symbols.Symbol.TheVariants.{Terminal}
use Rattle.ll_parser.specs.Grammar.{shift, Derives, done, token}
use Rattle.ll_parser.specs.Table.{every, member}
use Rattle.ll_parser.proofs.Carrying.{Carries}
use Rattle.ll_parser.proofs.Members.{every_in, member_in}
use Rattle.ll_parser.proofs.Parting.{written}
use Rattle.ll_parser.proofs.Theory.{join}
use Rattle.rag_io.specs.Tokens.{Lexed}
use Rattle.jrag_syntax.specs.JragPrintedGrammar.{jrag_printed_grammar}
use Rattle.jrag_syntax.specs.Reading.{classes_of}
use Rattle.jrag_syntax.specs.Tokens.{token_class}
use Rattle.jrag_syntax.specs.declared.classes.Start.{Start}
use Rattle.jrag_reader.specs.Forms.{Sort, OneOf}
use Rattle.jrag_reader.specs.Parts.{Part, Token}
use Rattle.token_texts.specs.Texts.{text_code}
use Rattle.jrag_reader.proofs.AlsoFits.{Also, tokens, by_symbols}
use Rattle.jrag_reader.proofs.Rebuilding.{Builds, builds_token}
use Rattle.jrag_reader.proofs.Inclusions.{leads_carries}
use Rattle.jrag_reader.proofs.Tables.{whole_of, rest_of, classes_in, each_choice, each_spelling, does_lead, covers, is_no_token}

abbrev pub Printed : List Symbol → List ℕ → List ℕ → Type 0
Printed = Derives jrag_printed_grammar

pub carried : (a b : List Symbol) → does_lead a b ≡ true → Carries jrag_printed_grammar a b
carried = leads_carries jrag_printed_grammar 60

-- symbols that pass each test which the symbols of a sort pass, and the same for some sorts
abbrev pub IsChoice : Sort → List Symbol → Type 0
IsChoice s w = (f : List Symbol → Bool) → each_choice s f ≡ true → f w ≡ true

abbrev pub IsSpelling : Bool → List Sort → List Symbol → Type 0
IsSpelling outer sorts w = (f : List Symbol → Bool) → each_spelling outer sorts f ≡ true → f w ≡ true

-- Symbols w derive some tokens, whatever goes on behind them.
abbrev pub Begins : List Symbol → List Symbol → List ℕ → List ℕ → Type 0
Begins rest w ts es = (us fs : List ℕ) → Printed rest us fs → Printed w (ts ++ us) (es ++ fs)

-- a part that tokens say, with its events
pub record SaidBy (start : Start) (texts : List (List ℕ)) (s : Sort) (ts : List Lexed) (p : Part) : Type 0 where
  pub symbols : List Symbol
  pub events : List ℕ
  pub choice : IsChoice s symbols
  pub begins : Begins (rest_of s) symbols (classes_of start ts) events
  pub builds : Builds start texts ts events (p ∷ [])

-- the same for parts side by side, the last one first
pub data AllSaidBy (start : Start) (texts : List (List ℕ)) : List Sort → List Lexed → List Part → Type 0 where
  none_said : AllSaidBy start texts [] [] []
  more_said : {s : Sort} {sorts : List Sort} {us vs : List Lexed} {p : Part} {parts : List Part}
      → AllSaidBy start texts sorts us parts → SaidBy start texts s vs p
      → AllSaidBy start texts (s ∷ sorts) (us ++ vs) (p ∷ parts)

-- nothing behind
pub whole_alone : (rest w : List Symbol) (ts es : List ℕ) → does_lead [] rest ≡ true → Begins rest w ts es → Printed w ts es
whole_alone rest w ts es e b = written (sym (append-nil ts)) (sym (append-nil es)) (b [] [] (carried [] rest e [] [] done))

-- what the test of a whole gives
pub covered : (rest w tail whole : List Symbol) (ts es us fs : List ℕ) → covers rest w tail whole ≡ true
    → Begins rest w ts es → Printed tail us fs → Printed whole (ts ++ us) (es ++ fs)
covered rest w tail whole ts es us fs e b d = elim (does_lead tail rest) as (λ t. does_lead tail rest ≡ t
    → elim t [ true ↦ does_lead w whole | false ↦ elim (does_lead [] rest) [ true ↦ does_lead (w ++ tail) whole | false ↦ false ] ] ≡ true
    → Printed whole (ts ++ us) (es ++ fs)) [
      | true ↦ λ h g. carried w whole g (ts ++ us) (es ++ fs) (b us fs (carried tail rest h us fs d))
      | false ↦ λ h. elim (does_lead [] rest) as (λ t. does_lead [] rest ≡ t
          → elim t [ true ↦ does_lead (w ++ tail) whole | false ↦ false ] ≡ true → Printed whole (ts ++ us) (es ++ fs)) [
            | true ↦ λ i g. carried (w ++ tail) whole g (ts ++ us) (es ++ fs) (join (whole_alone rest w ts es i b) d)
            | false ↦ λ i g. absurd (cc)
          ] refl
    ] refl e

-- the symbols of a sort that is none of tokens
pub whole_choice : (s : Sort) → is_no_token s ≡ true → IsChoice s (whole_of s)
whole_choice s e f = elim (classes_in s) as (λ o. elim o [ None ↦ true | (Some cs) ↦ false ] ≡ true
    → elim o [ None ↦ f (whole_of s) | (Some cs) ↦ every (λ c. f (Terminal c ∷ [])) cs ] ≡ true → f (whole_of s) ≡ true) [
      | None ↦ λ g h. h
      | (Some cs) ↦ λ g h. absurd (cc)
    ] e

class_choice : (cs : List ℕ) (c : ℕ) → member c cs ≡ true → IsChoice (OneOf cs) (Terminal c ∷ [])
class_choice cs c e f h = every_in (λ d. f (Terminal d ∷ [])) cs h (member_in c cs e)

every_wider : (g : ℕ → Bool) (cs ds : List ℕ) → every (λ c. member c ds) cs ≡ true → every g ds ≡ true → every g cs ≡ true
every_wider g [] ds e h = refl
every_wider g (c ∷ cs) ds e h =
    let both = and_parts (member c ds) (every (λ d. member d ds) cs) e in
    and_from (g c) (every g cs) (every_in g ds h (member_in c ds both.0)) (every_wider g cs ds both.1 h)

module _ (start : Start) (texts : List (List ℕ)) where
  token_begins : (t : Lexed) → Begins [] (Terminal (token_class start t) ∷ []) (classes_of start (t ∷ [])) (shift ∷ [])
  token_begins t us fs done = token done

  pub one_said : (cs : List ℕ) (t : Lexed) → member (token_class start t) cs ≡ true → SaidBy start texts (OneOf cs) (t ∷ []) (Token t (text_code texts t))
  one_said cs t e = record {
    symbols = Terminal (token_class start t) ∷ [];
    events = shift ∷ [];
    choice = class_choice cs (token_class start t) e;
    begins = token_begins t;
    builds = builds_token start texts t;
  }

  wider : (cs ds : List ℕ) (w : List Symbol) → every (λ c. member c ds) cs ≡ true → IsChoice (OneOf cs) w → IsChoice (OneOf ds) w
  wider cs ds w e i f h = i f (every_wider (λ c. f (Terminal c ∷ [])) cs ds e h)

  pub also_said : (s r : Sort) (ts : List Lexed) (p : Part) → Also s r → SaidBy start texts s ts p → SaidBy start texts r ts p
  also_said s r ts p (tokens {cs} {ds} e) d = record {
    symbols = d.symbols;
    events = d.events;
    choice = wider cs ds d.symbols e d.choice;
    begins = d.begins;
    builds = d.builds;
  }
  also_said s r ts p (by_symbols n e) d = record {
    symbols = whole_of r;
    events = d.events;
    choice = whole_choice r n;
    begins = λ us fs x. covered (rest_of s) d.symbols (rest_of r) (whole_of r) (classes_of start ts) d.events us fs
        (d.choice (λ w. covers (rest_of s) w (rest_of r) (whole_of r)) e) d.begins x;
    builds = d.builds;
  }
