-- What tokens say is what the events of their only reading build.
use Rattle.std.proofs.Common.{◌≡◌, ℕ, ◌+◌, Bool, true, false, List, [], ◌∷◌, ◌++◌, length, reverse, append-nil, Option, Some, None, refl, sym, ap, ◌∙◌, arith}
use Rattle.std.proofs.lemmas.List.{map-append}
use Rattle.ll_parser.specs.declared.symbols.Symbol.{Symbol}
use Rattle.ll_parser.specs.declared.symbols.Symbol.TheVariants.{Nonterminal}
use Rattle.ll_parser.specs.Grammar.{shift, Derives, done, token, IsSentence, start as start_symbols}
use Rattle.ll_parser.proofs.Parting.{written}
use Rattle.ll_parser.proofs.Theory.{join}
use Rattle.rag_io.specs.Tokens.{Lexed}
use Rattle.jrag_syntax.specs.JragGrammar.{jrag_grammar}
use Rattle.jrag_syntax.specs.Reading.{nonterminal_of, classes_of}
use Rattle.jrag_syntax.specs.Tokens.{token_class}
use Rattle.jrag_syntax.specs.declared.classes.Start.{Start}
use Rattle.jrag_syntax.specs.declared.classes.Start.TheVariants as starts
use Rattle.jrag_syntax.proofs.JragSentences.{printed_events}
use Rattle.jrag_reader.specs.Forms.{Sort}
use Rattle.jrag_reader.specs.Parts.{Part, Token}
use Rattle.jrag_reader.specs.Reading.{SaysPart, sort_of}
use Rattle.jrag_reader.specs.Running.{Progress, nothing, run}
use Rattle.jrag_reader.specs.Saying.{Says, one, made, also, SayAll, none, more}
use Rattle.token_texts.specs.Texts.{text_code}
use Rattle.jrag_reader.proofs.AlsoFits as also_fits
use Rattle.jrag_reader.proofs.Rebuilding.{Builds, put, builds_token, builds_join}
use Rattle.jrag_reader.proofs.Formed.{formed, wrapped_events, wrapped_derives, wrapped_builds}
use Rattle.jrag_reader.proofs.FormsFit.{forms_fit}
use Rattle.jrag_reader.proofs.Said.{Printed, SaidBy, AllSaidBy, none_said, more_said, one_said, also_said, whole_alone, carried}
use Rattle.jrag_reader.proofs.Shapes.{made_below}
use Rattle.jrag_reader.proofs.Tables.{rest_of, each_choice, wrapped, does_lead, is_closed}

-- events of some tokens, which build a part and put the end on top of it
pub record Again (start : Start) (texts : List (List ℕ)) (ts : List Lexed) (p : Part) : Type 0 where
  pub events : List ℕ
  pub derives : Derives jrag_grammar (start_symbols (nonterminal_of start)) (classes_of start ts) events
  pub end : Lexed
  pub runs : run start texts ts nothing events ≡ Some (record { at = length ts; parts = Token end (text_code texts end) ∷ p ∷ [] })

-- each part that tokens say, by the form that makes it or the sort that it is also of
mutual
  said : {start : Start} {texts : List (List ℕ)} {s : Sort} {ts : List Lexed} {p : Part} → Says start texts s ts p → SaidBy start texts s ts p
  said {start} {texts} (one {t} {cs} e) = one_said start texts cs t e
  said {start} {texts} (made {ts} {parts} {p} action f i a e) =
      formed start texts action (reverse f.parts) f.whole ts parts p (forms_fit action f i) (all_said a) (made_below action f i a e)
  said {start} {texts} (also {s} {r} {ts} {p} e d) = also_said start texts s r ts p (also_fits.also s r e) (said d)

  all_said : {start : Start} {texts : List (List ℕ)} {sorts : List Sort} {ts : List Lexed} {parts : List Part} → SayAll start texts sorts ts parts
      → AllSaidBy start texts sorts ts parts
  all_said none = none_said
  all_said (more a d) = more_said (all_said a) (said d)

-- whether the tokens are to be an outermost expression
abbrev is_expression : Start → Bool
is_expression starts.File = false
is_expression starts.Expression = true

abbrev leads_to_start : Start → List Symbol → Bool
leads_to_start start w = does_lead (wrapped (is_expression start) w) (Nonterminal (nonterminal_of start) ∷ [])

starts_fit : (start : Start) → (is_closed (sort_of start) ≡ true) × (each_choice (sort_of start) (leads_to_start start) ≡ true)
starts_fit starts.File = (refl, refl)
starts_fit starts.Expression = (refl, refl)

module _ (start : Start) (texts : List (List ℕ)) where
  -- events of what comes before the end
  record Before (ts : List Lexed) (p : Part) : Type 0 where
    events : List ℕ
    derives : Printed (Nonterminal (nonterminal_of start) ∷ []) (classes_of start ts) events
    builds : Builds start texts ts events (p ∷ [])

  before_end : (ts : List Lexed) (p : Part) → SaidBy start texts (sort_of start) ts p → Before ts p
  before_end ts p d =
      let fits = starts_fit start in
      let b = is_expression start in
      let us = classes_of start ts in
      let whole = wrapped_derives b d.symbols us d.events (whole_alone (rest_of (sort_of start)) d.symbols us d.events fits.0 d.begins) in
      record {
        events = wrapped_events b d.events;
        derives = carried (wrapped b d.symbols) (Nonterminal (nonterminal_of start) ∷ []) (d.choice (leads_to_start start) fits.1) us
            (wrapped_events b d.events) whole;
        builds = wrapped_builds start texts b ts d.events (p ∷ []) d.builds;
      }

  with_end : (ts front : List Lexed) (end : Lexed) (p : Part) → ts ≡ front ++ end ∷ [] → token_class start end ≡ 0 → Before front p → Again start texts ts p
  with_end ts front end p are ends b =
      let es = b.events ++ shift ∷ [] in
      let classes : classes_of start ts ≡ classes_of start front ++ 0 ∷ [] =
      ap (classes_of start) are ∙ map-append (token_class start) front (end ∷ []) ∙ ap (λ c. classes_of start front ++ c ∷ []) ends in
      let last = Token end (text_code texts end) ∷ [] in
      let built = builds_join start texts front (end ∷ []) b.events (shift ∷ []) (p ∷ []) last b.builds (builds_token start texts end) in
      let run_here = built ts [] [] [] 0 (are ∙ sym (append-nil (front ++ end ∷ []))) refl in
      let long : 0 + length (front ++ end ∷ []) ≡ length ts = omega arith ∙ ap length (sym are) in
      record {
        events = es;
        derives = printed_events start (written classes refl (join b.derives (token done)));
        end = end;
        runs = run_here ∙ ap (λ n. Some (put n (last ++ p ∷ []))) long;
      }

-- what lies below the end
abbrev second_part : Part → List Part → Part
second_part d [] = d
second_part d (a ∷ []) = d
second_part d (a ∷ b ∷ parts) = b

abbrev parts_in : Option Progress → List Part
parts_in None = []
parts_in (Some p) = p.parts

-- Tokens that say a part have events that build it.
pub again : {start : Start} {texts : List (List ℕ)} {ts : List Lexed} {p : Part} → SaysPart start texts ts p → Again start texts ts p
again {start} {texts} {ts} {p} d = with_end start texts ts d.front d.end p d.are d.ends (before_end start texts d.front p (said d.says))

-- Tokens with only one list of events say only one part.
pub one_part : {start : Start} {texts : List (List ℕ)} {ts : List Lexed} {p q : Part} (events : List ℕ)
    → IsSentence jrag_grammar (nonterminal_of start) (classes_of start ts) events → SaysPart start texts ts p → SaysPart start texts ts q → p ≡ q
one_part {start} {texts} {ts} {p} events only d e =
    let a = again d in
    let b = again e in
    let same : a.events ≡ b.events = only.only a.events a.derives ∙ sym (only.only b.events b.derives) in
    let runs = sym a.runs ∙ ap (run start texts ts nothing) same ∙ b.runs in
    ap (λ o. second_part p (parts_in o)) runs
