-- Parts side by side, and what a form makes of them, are derived by the printed grammar with events that build it.
use Rattle.std.proofs.Common.{◌≡◌, ℕ, ◌==◌, not, Bool, true, false, List, [], ◌∷◌, ◌++◌, append_assoc, append-nil, Some, refl, sym, ap, subst, ◌∙◌}
use Rattle.std.proofs.lemmas.Bool.{and_parts}
use Rattle.std.proofs.lemmas.List.{map-append}
use Rattle.ll_parser.specs.declared.symbols.Symbol.{Symbol}
use Rattle.ll_parser.specs.declared.symbols.Symbol.TheVariants.{Action}
use Rattle.ll_parser.specs.Grammar.{shift, done, act}
use Rattle.ll_parser.proofs.Parting.{written}
use Rattle.ll_parser.proofs.Theory.{join}
use Rattle.rag_io.specs.Tokens.{Lexed}
use Rattle.jrag_syntax.specs.Reading.{classes_of}
use Rattle.jrag_syntax.specs.Tokens.{token_class}
use Rattle.jrag_syntax.specs.declared.classes.Start.{Start}
use Rattle.jrag_reader.specs.Forms.{Sort}
use Rattle.jrag_reader.specs.Making.{make}
use Rattle.jrag_reader.specs.Parts.{Part}
use Rattle.jrag_reader.proofs.Rebuilding.{Builds, builds_none, builds_join, builds_act, builds_begin, builds_end}
use Rattle.jrag_reader.proofs.Said.{Printed, IsChoice, IsSpelling, Begins, SaidBy, AllSaidBy, none_said, more_said, whole_alone, covered, whole_choice, carried}
use Rattle.jrag_reader.proofs.Tables.{whole_of, rest_of, each_choice, each_spelling, wrapped, is_outermost, begins_and_ends, is_closed, all_closed, covers, first_of, others_of, parts_fit, is_no_token, form_fits}

-- the events of a part, with those that begin and end an outermost expression
abbrev pub wrapped_events : Bool → List ℕ → List ℕ
wrapped_events true es = 1 ∷ es ++ 2 ∷ []
wrapped_events false es = es

pub wrapped_derives : (b : Bool) (w : List Symbol) (ts es : List ℕ) → Printed w ts es → Printed (wrapped b w) ts (wrapped_events b es)
wrapped_derives true w ts es d = act (written (sym (append-nil ts)) refl (join d (act done)))
wrapped_derives false w ts es d = d

spelling_more : (outer : Bool) (s : Sort) (sorts : List Sort) (x w : List Symbol) → IsSpelling outer sorts x → IsChoice s w
    → IsSpelling outer (s ∷ sorts) (x ++ wrapped (is_outermost outer s) w)
spelling_more outer s sorts x w i j f e =
    j (λ v. f (x ++ wrapped (is_outermost outer s) v)) (i (λ y. each_choice s (λ v. f (y ++ wrapped (is_outermost outer s) v))) e)

module _ (start : Start) (texts : List (List ℕ)) where
  pub wrapped_builds : (b : Bool) (ts : List Lexed) (es : List ℕ) (parts : List Part) → Builds start texts ts es parts
      → Builds start texts ts (wrapped_events b es) parts
  wrapped_builds true ts es parts f = builds_begin start texts ts (es ++ 2 ∷ []) parts (builds_end start texts ts es parts f)
  wrapped_builds false ts es parts f = f

  -- The first part, on which more may follow, and the others behind it.
  record Led (outer : Bool) (s : Sort) (sorts : List Sort) (ts : List Lexed) (parts : List Part) : Type 0 where
    front : List ℕ
    back : List ℕ
    said : List ℕ
    later : List ℕ
    first : List Symbol
    others : List Symbol
    tokens : classes_of start ts ≡ front ++ back
    choice : IsChoice (first_of s sorts) first
    spelling : IsSpelling outer (others_of s sorts) others
    begins : Begins (rest_of (first_of s sorts)) first front said
    derives : Printed others back later
    builds : Builds start texts ts (said ++ later) parts

  led_one : (outer : Bool) (s : Sort) (ts : List Lexed) (p : Part) → SaidBy start texts s ts p → Led outer s [] ts (p ∷ [])
  led_one outer s ts p d = record {
    front = classes_of start ts;
    back = [];
    said = d.events;
    later = [];
    first = d.symbols;
    others = [];
    tokens = sym (append-nil (classes_of start ts));
    choice = d.choice;
    spelling = λ f e. e;
    begins = d.begins;
    derives = done;
    builds = subst (λ z. Builds start texts ts z (p ∷ [])) (sym (append-nil d.events)) d.builds;
  }

  led_more : (outer : Bool) (s t : Sort) (sorts : List Sort) (us vs : List Lexed) (p : Part) (parts : List Part) → is_closed s ≡ true
      → Led outer t sorts us parts → SaidBy start texts s vs p → Led outer s (t ∷ sorts) (us ++ vs) (p ∷ parts)
  led_more outer s t sorts us vs p parts c l d =
      let b = is_outermost outer s in
      let es = wrapped_events b d.events in
      let one : Printed (wrapped b d.symbols) (classes_of start vs) es =
      wrapped_derives b d.symbols (classes_of start vs) d.events (whole_alone (rest_of s) d.symbols (classes_of start vs) d.events c d.begins) in
      let built = builds_join start texts us vs (l.said ++ l.later) es parts (p ∷ []) l.builds (wrapped_builds b vs d.events (p ∷ []) d.builds) in
      record {
        front = l.front;
        back = l.back ++ classes_of start vs;
        said = l.said;
        later = l.later ++ es;
        first = l.first;
        others = l.others ++ wrapped b d.symbols;
        tokens = map-append (token_class start) us vs ∙ ap (λ z. z ++ classes_of start vs) l.tokens ∙ append_assoc l.front l.back (classes_of start vs);
        choice = l.choice;
        spelling = spelling_more outer s (others_of t sorts) l.others d.symbols l.spelling d.choice;
        begins = l.begins;
        derives = join l.derives one;
        builds = subst (λ z. Builds start texts (us ++ vs) z (p ∷ parts)) (append_assoc l.said l.later es) built;
      }

  led : (outer : Bool) (s : Sort) (sorts : List Sort) {ts : List Lexed} {parts : List Part} → all_closed (others_of s sorts) ≡ true
      → AllSaidBy start texts (s ∷ sorts) ts parts → Led outer s sorts ts parts
  led outer s [] c (more_said {vs} {p} none_said d) = led_one outer s vs p d
  led outer s (t ∷ sorts) c (more_said {us} {vs} {p} {parts} a d) =
      let both = and_parts (is_closed s) (all_closed (others_of t sorts)) c in
      led_more outer s t sorts us vs p parts both.0 (led outer t sorts both.1 a) d

  -- What an action makes of parts in any place, and their events.
  record Acted (whole : Sort) (ts : List Lexed) (parts : List Part) (action : ℕ) : Type 0 where
    events : List ℕ
    begins : Begins (rest_of whole) (whole_of whole) (classes_of start ts) (events ++ action ∷ [])
    builds : Builds start texts ts events parts

  -- the events of the parts, the action and what is behind
  in_order : (said later us fs : List ℕ) (action : ℕ) → ((said ++ later) ++ action ∷ []) ++ fs ≡ said ++ (later ++ action ∷ fs)
  in_order said later us fs action = append_assoc (said ++ later) (action ∷ []) fs ∙ append_assoc said later (action ∷ fs)

  acted_none : (action : ℕ) (outer : Bool) (whole : Sort) → parts_fit action outer [] whole ≡ true → Acted whole [] [] action
  acted_none action outer whole e = record {
    events = [];
    begins = λ us fs d. carried (Action action ∷ rest_of whole) (whole_of whole) e us (action ∷ fs) (act d);
    builds = builds_none start texts;
  }

  acted_led : (action : ℕ) (outer : Bool) (s : Sort) (sorts : List Sort) (whole : Sort) (ts : List Lexed) (parts : List Part) → Led outer s sorts ts parts
      → each_spelling outer (others_of s sorts) (λ x. each_choice (first_of s sorts) (λ w.
      covers (rest_of (first_of s sorts)) w (x ++ Action action ∷ rest_of whole) (whole_of whole))) ≡ true → Acted whole ts parts action
  acted_led action outer s sorts whole ts parts l e =
      let rest = rest_of (first_of s sorts) in
      let at_spelling = l.spelling (λ x. each_choice (first_of s sorts) (λ w. covers rest w (x ++ Action action ∷ rest_of whole) (whole_of whole))) e in
      let fits = l.choice (λ w. covers rest w (l.others ++ Action action ∷ rest_of whole) (whole_of whole)) at_spelling in
      record {
        events = l.said ++ l.later;
        begins = λ us fs d.
            written (ap (λ z. z ++ us) l.tokens ∙ append_assoc l.front l.back us) (in_order l.said l.later us fs action)
            (covered rest l.first (l.others ++ Action action ∷ rest_of whole) (whole_of whole) l.front l.said (l.back ++ us) (l.later ++ action ∷ fs)
            fits l.begins (join l.derives (act d)));
        builds = l.builds;
      }

  acted_all : (action : ℕ) (outer : Bool) (sorts : List Sort) (whole : Sort) {ts : List Lexed} {parts : List Part} → parts_fit action outer sorts whole ≡ true
      → AllSaidBy start texts sorts ts parts → Acted whole ts parts action
  acted_all action outer [] whole e none_said = acted_none action outer whole e
  acted_all action outer (s ∷ sorts) whole {ts} {parts} e a =
      let both = and_parts (all_closed (others_of s sorts)) _ e in
      acted_led action outer s sorts whole ts parts (led outer s sorts both.0 a) both.1

  no_shift : (action : ℕ) → not (action == shift) ≡ true → (action == shift) ≡ false
  no_shift action e = elim (action == shift) as (λ t. not t ≡ true → t ≡ false) [ true ↦ λ h. sym h | false ↦ λ h. refl ] e

  -- what a form makes of its parts
  pub formed : (action : ℕ) (sorts : List Sort) (whole : Sort) (ts : List Lexed) (parts : List Part) (p : Part) → form_fits action sorts whole ≡ true
      → AllSaidBy start texts sorts ts parts → ((below : List Part) → make start action (parts ++ below) ≡ Some (p ∷ below)) → SaidBy start texts whole ts p
  formed action sorts whole ts parts p e a makes =
      let first = and_parts (not (action == shift)) _ e in
      let second = and_parts (is_no_token whole) _ first.1 in
      let d = acted_all action (begins_and_ends whole) sorts whole second.1 a in
      record {
        symbols = whole_of whole;
        events = d.events ++ action ∷ [];
        choice = whole_choice whole second.0;
        begins = d.begins;
        builds = builds_act start texts ts d.events parts (p ∷ []) action (no_shift action first.0) makes d.builds;
      }
