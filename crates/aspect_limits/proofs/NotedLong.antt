-- The loop that notes J17 of an expression that is too long.
use Rattle.std.proofs.Common.{◌≡◌, ℕ, suc, ◌+◌, ◌<◌, ◌≤◌, ◌==◌, Bool, true, false, if◌then◌else◌, List, [], ◌∷◌, length, drop, get_or, Option, Some, None, refl, sym, ap, subst, ◌∙◌, add-one, arith}
use Rattle.std.specs.Option.{option_map}
use Rattle.std.proofs.lemmas.Bool.{ne_eqb}
use Rattle.std.proofs.lemmas.List.{drop-drop, drop_all, get_or-map, length-map}
use Rattle.std.proofs.Math.Seq.{drop-cons}
use Rattle.broken_rules.proofs.Noting.{notes_none, notes_then}
use Rattle.broken_rules.specs.Notes.{Notes, at, broken_if}
use Rattle.broken_rules.specs.declared.broken.Broken.{Broken}
use Rattle.broken_rules.specs.declared.rule.Rule.TheVariants.{J17}
use Rattle.ll_parser.specs.Grammar.{shift}
use Rattle.rag_io.specs.Tokens.{Lexed, seen_token, seen_tokens}
use Rattle.rag_io.specs.declared.token.Place.{Place}
use Rattle.rag_io.specs.declared.token.Token as kept_token
use Rattle.aspect_limits.specs.Limits.{counted, left, long_at, long_broken, long_event, most_tokens}

-- What is left of the events and of the tokens notes what all of them note.
pub record NotesOn (ts : List Lexed) (es : List ℕ) (first broken : Option Broken) (inside : Option ℕ) (us : List Lexed) (rest : List ℕ) : Type 0 where
  pub notes : (new : Option Broken) → Notes (long_broken inside us rest) broken new → Notes (long_broken None ts es) first new

-- before the first event
pub notes_whole : (ts : List Lexed) (es : List ℕ) (first : Option Broken) → NotesOn ts es first first None ts es
notes_whole ts es first = record { notes = λ new notes. notes }

-- behind one further
pub notes_further : {ts : List Lexed} {es : List ℕ} {first broken later : Option Broken} {inside : Option ℕ} {us : List Lexed} (e : ℕ) {rest : List ℕ}
    → NotesOn ts es first broken inside us (e ∷ rest) → Notes (long_event e inside us) broken later
    → NotesOn ts es first later (counted e inside) (left e us) rest
notes_further e so_far noted = record { notes = λ new notes. so_far.notes new (notes_then noted notes) }

-- behind the last
pub noted_long : {ts : List Lexed} {es : List ℕ} {first broken : Option Broken} {inside : Option ℕ} {us : List Lexed}
    → NotesOn ts es first broken inside us [] → Notes (long_broken None ts es) first broken
noted_long {broken = broken} all = all.notes broken notes_none

-- a token that is left notes what stands there
pub token_noted : (tokens : List kept_token.Token) (i n : ℕ) (t : kept_token.Token) (place : Place) (inside : Option ℕ) {old new : Option Broken}
    → i < length tokens → t ≡ get_or tokens i t → place ≡ (seen_token t).place → inside ≡ Some n
    → Notes (broken_if (n == most_tokens) (at place J17)) old new → Notes (long_at inside (drop i (seen_tokens tokens))) old new
token_noted tokens i n t place inside {old} {new} within is stands counts noted =
    let ts = seen_tokens tokens in
    let same : seen_token t ≡ get_or ts i (seen_token t) = ap seen_token is ∙ sym (get_or-map seen_token tokens i t (seen_token t) within) in
    let begins : drop i ts ≡ seen_token t ∷ drop (suc i) ts =
    drop-cons ts i (seen_token t) (omega (arith, within, length-map tokens seen_token)) ∙ ap (λ (u : Lexed). u ∷ drop (suc i) ts) (sym same) in
    let at_token : Notes (broken_if (n == most_tokens) (at (seen_token t).place J17)) old new =
    subst (λ (q : Place). Notes (broken_if (n == most_tokens) (at q J17)) old new) stands noted in
    subst (λ o. Notes (long_at o (drop i ts)) old new) (sym counts) (subst (λ us. Notes (long_at (Some n) us) old new) (sym begins) at_token)

-- the event at an index, and those behind it
event_at : (es : List ℕ) (i d : ℕ) → i < length es → drop i es ≡ get_or es i d ∷ drop (i + 1) es
event_at es i d within = drop-cons es i d within ∙ (λ j. get_or es i d ∷ drop (sym (add-one i) j) es)

-- an expression has at most as many tokens as events were read
few_by : (is_token begins ends : Bool) (inside : Option ℕ) (i m : ℕ) → ((n : ℕ) → inside ≡ Some n → n ≤ i)
    → (if is_token then option_map suc inside else if begins then Some 0 else if ends then None else inside) ≡ Some m → m ≤ i + 1
few_by true begins ends None i m few is = absurd (cc)
few_by true begins ends (Some n) i m few is = let same : suc n ≡ m = cc in omega (arith, few n refl, same)
few_by false true ends inside i m few is = let same : 0 ≡ m = cc in omega (arith, same)
few_by false false true inside i m few is = absurd (cc)
few_by false false false inside i m few is = omega (arith, few m is)

pub counted_few : (e : ℕ) (inside next : Option ℕ) (i : ℕ) → ((n : ℕ) → inside ≡ Some n → n ≤ i) → next ≡ counted e inside
    → (m : ℕ) → next ≡ Some m → m ≤ i + 1
counted_few e inside next i few counts m is = few_by (e == shift) (e == 1) (e == 2) inside i m few (sym counts ∙ is)

module _ (ts : List Lexed) (es : List ℕ) (first broken : Option Broken) (inside : Option ℕ) (k i d : ℕ) (within : i < length es)
    (so_far : NotesOn ts es first broken inside (drop k ts) (drop i es)) where
  -- the turn at an event, which is that of a token or not
  turn : (is_token : Bool) (later : Option Broken) (next : Option ℕ) → (get_or es i d == shift) ≡ is_token
      → Notes (if is_token then long_at inside (drop k ts) else []) broken later → next ≡ counted (get_or es i d) inside
      → NotesOn ts es first later next (if is_token then drop 1 (drop k ts) else drop k ts) (drop (i + 1) es)
  turn is_token later next test noted counts =
      let e = get_or es i d in
      let us = drop k ts in
      let here = subst (NotesOn ts es first broken inside us) (event_at es i d within) so_far in
      let notes : Notes (long_event e inside us) broken later =
      subst (λ (b : Bool). Notes (if b then long_at inside us else []) broken later) (sym test) noted in
      let behind = notes_further e here notes in
      let rest = drop (i + 1) es in
      subst (λ (b : Bool). NotesOn ts es first later next (if b then drop 1 us else us) rest) test
      (subst (λ o. NotesOn ts es first later o (left e us) rest) (sym counts) behind)

  -- that of a token
  pub turn_token : (later : Option Broken) (next : Option ℕ) (further : ℕ) → get_or es i d ≡ shift → further ≡ k + 1
      → Notes (long_at inside (drop k ts)) broken later → next ≡ counted (get_or es i d) inside
      → NotesOn ts es first later next (drop further ts) (drop (i + 1) es)
  turn_token later next further is one noted counts =
      let behind : drop 1 (drop k ts) ≡ drop further ts = drop-drop 1 k ts ∙ ap (λ n. drop n ts) (omega (arith, one)) in
      subst (λ us. NotesOn ts es first later next us (drop (i + 1) es)) behind (turn true later next (ap (λ e. e == shift) is) noted counts)

  -- that of an action
  pub turn_action : (later : Option Broken) (next : Option ℕ) (further : ℕ) → (get_or es i d ≡ shift → ⊥) → further ≡ k → later ≡ broken
      → next ≡ counted (get_or es i d) inside → NotesOn ts es first later next (drop further ts) (drop (i + 1) es)
  turn_action later next further other same still counts =
      let none : Notes [] broken later = subst (λ o. Notes [] broken o) (sym still) notes_none in
      subst (λ n. NotesOn ts es first later next (drop n ts) (drop (i + 1) es)) (sym same)
      (turn false later next (ne_eqb (get_or es i d) shift other) none counts)

-- behind the last event
pub noted_all : (ts : List Lexed) (es : List ℕ) (first broken : Option Broken) (inside : Option ℕ) (us : List Lexed) (i : ℕ) → length es ≤ i
    → NotesOn ts es first broken inside us (drop i es) → Notes (long_broken None ts es) first broken
noted_all ts es first broken inside us i past all = noted_long (subst (NotesOn ts es first broken inside us) (drop_all i es past) all)
