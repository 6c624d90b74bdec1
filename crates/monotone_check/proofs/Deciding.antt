-- What an expression breaks is what the positions that decide say, and the other way round.
use Rattle.std.proofs.Common.{◌≡◌, ◌↔◌, ℕ, List, [], ◌∷◌, ◌++◌, Bool, true, false, inl, inr, Option, Some, None, refl, ap, sym, ◌∙◌, subst}
use Rattle.std.specs.List.{Contains as Includes}
use Rattle.std.proofs.lemmas.List.Elements.{Contains-append_left, Contains-append_right}
use Rattle.std.specs.Option.{option_or}
use Rattle.rag_io.specs.declared.Place.{Place}
use Rattle.broken_rules.specs.declared.broken.Broken.{Broken}
use Rattle.broken_rules.specs.declared.rule.Rule.{Rule}
use Rattle.broken_rules.specs.declared.rule.Rule.TheVariants.{M1, M2, M3}
use Rattle.broken_rules.specs.Answers.{Has}
use Rattle.broken_rules.specs.Notes.{at}
use Rattle.attr_rules.specs.Expression.{Expression, Arguments, no_more, argument, NewArguments, new_end, new_token, new_child, Truth, Int, Text, Null, Empty, This, Variable, Source, Child, Element, Count, Has as HasChild, Token, Call, Cast, InstanceOf, Quantified, QuantifiedSet, Each, EachOfSet, Sets, Single, Contains, Size, Not, Negate, Binary, And, Or, OrBoth, If, New}
use Rattle.attr_rules.specs.Rising.{has_call}
use Rattle.monotone_check.specs.Parts.{CallsCircular, listed, tokens_in}
use Rattle.monotone_check.specs.Positions.{broken_arguments, broken_in, broken_tokens, call_broken, choice_broken, in_range}
use Rattle.monotone_check.specs.Ways.{Breaks, call, choice, Decides, innermost, around, Position, range_of, body_of, second_set, refused_at, Stands, of_child, of_element, index_of_element, of_count, of_optional, of_token, of_call, passed, cast, tested, of_list, body_over_list, over_set, body_over_set, of_list_of_each, each_over_list, over_set_of_each, each_over_set, first_of_sets, second_of_sets, of_single, searched, sought, of_size, denied, negated, left_operand, right_operand, left_of_and, right_of_and, left_of_or, right_of_or, left_of_both, right_of_both, condition, then_part, else_part, token_of_new, Way, arrived, outwards}
use Rattle.monotone_check.proofs.Found.{first_in, found, later_in}
use Rattle.monotone_check.proofs.Ways.{along, at_same, body_is, in_one_of, range_is, second_is, told, under}

-- What is broken in an expression around which these rules come from further out: a call, by the rule of the innermost position, or a choice.
data Told (circular : ℕ → Bool) (outer : Option Rule) (whole : Expression) : Broken → Type 0 where
  told_call : {m : Rule} {ps : List Position} {e : Expression} {es : Arguments} (a : ℕ) (place : Place) → circular a ≡ true → Way (Call a place e es) ps whole → along ps outer ≡ Some m → Told circular outer whole (at place m)
  told_choice : {ps : List Position} {c a b : Expression} (place : Place) → CallsCircular circular c → Way (If c a (Some place) b) ps whole → Told circular outer whole (at place M3)

-- A way goes on by one step.
further : {p : Position} {ps : List Position} {part form whole : Expression} → Way part ps form → Stands p form whole → Way part (ps ++ p ∷ []) whole
further arrived is = outwards is arrived
further (outwards one way) is = outwards one (further way is)

along_further : (p : Position) (ps : List Position) (outer : Option Rule) → along ps (under p outer) ≡ along (ps ++ p ∷ []) outer
along_further p [] outer = refl
along_further p (q ∷ ps) outer = ap (under q) (along_further p ps outer)

module _ (circular : ℕ → Bool) where
  moved : (outer : Option Rule) {p : Position} {form whole : Expression} {f : Broken} → Stands p form whole → Told circular (under p outer) form f → Told circular outer whole f
  moved outer {p} is (told_call {ps = ps} a place circular_one way d) = told_call a place circular_one (further way is) (sym (along_further p ps outer) ∙ d)
  moved outer is (told_choice place calls way) = told_choice place calls (further way is)

  -- what is broken in one of two lists, each of which is that of a part
  either_of : (bs cs : List Broken) (f : Broken) {T : Type 0} → (Has bs f → T) → (Has cs f → T) → Has (bs ++ cs) f → T
  either_of bs cs f g h k = elim (in_one_of bs cs f k) [ inl l ↦ g l | inr r ↦ h r ]

  call_told : (calls : Bool) (outer : Option Rule) (a : ℕ) (place : Place) (e : Expression) (es : Arguments) (f : Broken) → circular a ≡ calls → Has (call_broken calls outer place) f → Told circular outer (Call a place e es) f
  call_told false outer a place e es f is h = absurd h
  call_told true None a place e es f is h = absurd h
  call_told true (Some m) a place e es f is (inl h) = subst (Told circular (Some m) (Call a place e es)) (sym h) (told_call a place is arrived refl)
  call_told true (Some m) a place e es f is (inr h) = absurd h

  choice_told : (calls : Bool) (outer : Option Rule) (c a b : Expression) (place : Option Place) (f : Broken) → has_call circular c ≡ calls → Has (choice_broken calls place) f → Told circular outer (If c a place b) f
  choice_told false outer c a b place f is h = absurd h
  choice_told true outer c a b None f is h = absurd h
  choice_told true outer c a b (Some place) f is (inl h) = subst (Told circular outer (If c a (Some place) b)) (sym h) (told_choice place ((found circular c).0 is) arrived)
  choice_told true outer c a b (Some place) f is (inr h) = absurd h

  -- what is broken in one of some expressions, all of which stand in a position of this rule
  record ToldIn (m : Rule) (es : List Expression) (f : Broken) : Type 0 where
    part : Expression
    one : Includes es part
    rule : Told circular (Some m) part f

  told_first : (m : Rule) (e : Expression) (es : List Expression) (f : Broken) → Told circular (Some m) e f → ToldIn m (e ∷ es) f
  told_first m e es f h = record { part = e; one = first_in e es; rule = h }

  told_later : (m : Rule) (e : Expression) (es : List Expression) (f : Broken) → ToldIn m es f → ToldIn m (e ∷ es) f
  told_later m e es f h = record { part = h.part; one = later_in e h.part es h.one; rule = h.rule }

  told_left : (m : Rule) (es fs : List Expression) (f : Broken) → ToldIn m es f → ToldIn m (es ++ fs) f
  told_left m es fs f h = record { part = h.part; one = Contains-append_left es fs h.part h.one; rule = h.rule }

  told_right : (m : Rule) (es fs : List Expression) (f : Broken) → ToldIn m fs f → ToldIn m (es ++ fs) f
  told_right m es fs f h = record { part = h.part; one = Contains-append_right es fs h.part h.one; rule = h.rule }

  mutual
    -- Inwards: what is broken in a form is broken by a call or a choice in it.
    finds : (outer : Option Rule) (e : Expression) (f : Broken) → Has (broken_in circular outer e) f → Told circular outer e f
    finds outer (Truth b) f h = absurd h
    finds outer (Int z) f h = absurd h
    finds outer (Text n) f h = absurd h
    finds outer Null f h = absurd h
    finds outer Empty f h = absurd h
    finds outer This f h = absurd h
    finds outer (Variable k) f h = absurd h
    finds outer (Source k) f h = absurd h
    finds outer (Child k e) f h = moved outer (of_child k) (finds (Some M2) e f h)
    finds outer (Element k e i) f h = either_of (broken_in circular (Some M2) e) _ f (λ x. moved outer (of_element k) (finds (Some M2) e f x)) (λ x. moved outer (index_of_element k) (finds (Some M2) i f x)) h
    finds outer (Count k e) f h = moved outer (of_count k) (finds (Some M2) e f h)
    finds outer (HasChild k e) f h = moved outer (of_optional k) (finds (Some M2) e f h)
    finds outer (Token t k e) f h = moved outer (of_token t k) (finds (Some M2) e f h)
    finds outer (Call a place e es) f h =
        either_of (call_broken (circular a) outer place) _ f (call_told (circular a) outer a place e es f refl)
        (either_of (broken_in circular (Some M2) e) _ f (λ x. moved outer (of_call a place) (finds (Some M2) e f x)) (λ x. let l = finds_in es f x in moved outer (passed a place l.one) l.rule)) h
    finds outer (Cast c e) f h = moved outer (cast c) (finds (Some M1) e f h)
    finds outer (InstanceOf c e) f h = moved outer (tested c) (finds (Some M1) e f h)
    finds outer (Quantified q k e b) f h = either_of (broken_in circular (Some M2) e) _ f (λ x. moved outer (of_list q k) (finds (Some M2) e f x)) (λ x. moved outer (body_over_list q k) (finds (under (body_of q) outer) b f (at_same circular f b (body_is q outer) x))) h
    finds outer (QuantifiedSet q e b) f h =
        either_of (broken_in circular (in_range q outer) e) _ f (λ x. moved outer (over_set q) (finds (under (range_of q) outer) e f (at_same circular f e (range_is q outer) x)))
        (λ x. moved outer (body_over_set q) (finds (under (body_of q) outer) b f (at_same circular f b (body_is q outer) x))) h
    finds outer (Each t k e b) f h = either_of (broken_in circular (Some M2) e) _ f (λ x. moved outer (of_list_of_each t k) (finds (Some M2) e f x)) (λ x. moved outer (each_over_list t k) (finds outer b f x)) h
    finds outer (EachOfSet t e b) f h = either_of (broken_in circular outer e) _ f (λ x. moved outer (over_set_of_each t) (finds outer e f x)) (λ x. moved outer (each_over_set t) (finds outer b f x)) h
    finds outer (Sets o t a b) f h = either_of (broken_in circular outer a) _ f (λ x. moved outer (first_of_sets o t) (finds outer a f x)) (λ x. moved outer (second_of_sets o t) (finds (under (second_set o) outer) b f (at_same circular f b (second_is o outer) x))) h
    finds outer (Single e) f h = moved outer of_single (finds (Some M1) e f h)
    finds outer (Contains a b) f h = either_of (broken_in circular outer a) _ f (λ x. moved outer searched (finds outer a f x)) (λ x. moved outer sought (finds (Some M1) b f x)) h
    finds outer (Size e) f h = moved outer of_size (finds (Some M1) e f h)
    finds outer (Not e) f h = moved outer denied (finds (Some M1) e f h)
    finds outer (Negate e) f h = moved outer negated (finds (Some M1) e f h)
    finds outer (Binary o a b) f h = either_of (broken_in circular (Some M1) a) _ f (λ x. moved outer (left_operand o) (finds (Some M1) a f x)) (λ x. moved outer (right_operand o) (finds (Some M1) b f x)) h
    finds outer (And a b) f h = either_of (broken_in circular outer a) _ f (λ x. moved outer left_of_and (finds outer a f x)) (λ x. moved outer right_of_and (finds outer b f x)) h
    finds outer (Or a b) f h = either_of (broken_in circular outer a) _ f (λ x. moved outer left_of_or (finds outer a f x)) (λ x. moved outer right_of_or (finds outer b f x)) h
    finds outer (OrBoth a b) f h = either_of (broken_in circular outer a) _ f (λ x. moved outer left_of_both (finds outer a f x)) (λ x. moved outer right_of_both (finds outer b f x)) h
    finds outer (If c a place b) f h =
        either_of (broken_in circular outer c) _ f (λ x. moved outer (condition place) (finds outer c f x))
        (either_of (choice_broken (has_call circular c) place) _ f (choice_told (has_call circular c) outer c a b place f refl)
        (either_of (broken_in circular outer a) _ f (λ x. moved outer (then_part place) (finds outer a f x)) (λ x. moved outer (else_part place) (finds outer b f x)))) h
    finds outer (New c parts) f h = let l = finds_token parts f h in moved outer (token_of_new c l.one) l.rule

    finds_in : (es : Arguments) (f : Broken) → Has (broken_arguments circular es) f → ToldIn M2 (listed es) f
    finds_in no_more f h = absurd h
    finds_in (argument e es) f h = either_of (broken_in circular (Some M2) e) _ f (λ x. told_first M2 e (listed es) f (finds (Some M2) e f x)) (λ x. told_later M2 e (listed es) f (finds_in es f x)) h

    finds_token : (parts : NewArguments) (f : Broken) → Has (broken_tokens circular parts) f → ToldIn M1 (tokens_in parts) f
    finds_token new_end f h = absurd h
    finds_token (new_token k e rest) f h =
        either_of (broken_in circular (Some M1) e) _ f (λ x. told_first M1 e (tokens_in rest) f (finds (Some M1) e f x)) (λ x. told_later M1 e (tokens_in rest) f (finds_token rest f x)) h
    finds_token (new_child c parts rest) f h =
        either_of (broken_tokens circular parts) _ f (λ x. told_left M1 (tokens_in parts) (tokens_in rest) f (finds_token parts f x)) (λ x. told_right M1 (tokens_in parts) (tokens_in rest) f (finds_token rest f x)) h

-- the position that decides, by its rule
record Deciding (m : Rule) (ps : List Position) : Type 0 where
  position : Position
  decides : Decides position m ps

one_rule : (p : Position) (ps : List Position) (m : Rule) (o : Option Rule) → refused_at p ≡ o → option_or o (along ps None) ≡ Some m → (along ps None ≡ Some m → Deciding m ps) → Deciding m (p ∷ ps)
one_rule p ps m None is h rest = let d = rest h in record { position = d.position; decides = around is d.decides }
one_rule p ps m (Some n) is h rest = record { position = p; decides = innermost (is ∙ h) }

deciding : (ps : List Position) (m : Rule) → along ps None ≡ Some m → Deciding m ps
deciding [] m h = cc
deciding (p ∷ ps) m h = one_rule p ps m (refused_at p) refl h (deciding ps m)

breaks_of : (circular : ℕ → Bool) (whole : Expression) (f : Broken) → Told circular None whole f → Breaks circular whole f
breaks_of circular whole f (told_call {m = m} {ps = ps} a place is way d) = call a place is way (deciding ps m d).decides
breaks_of circular whole f (told_choice place calls way) = choice place calls way

pub as_decided : (circular : ℕ → Bool) (e : Expression) (f : Broken) → Has (broken_in circular None e) f ↔ Breaks circular e f
as_decided circular e f = (λ h. breaks_of circular e f (finds circular None e f h), told circular e f)

some_rule : (m n : Rule) → Some m ≡ Some n → m ≡ n
some_rule m n h = cc

two_rules : {m : Rule} {o : Option Rule} → o ≡ Some m → o ≡ None → ⊥
two_rules h k = cc

-- one position of a way decides, with one rule
pub one_decides : {p q : Position} {m n : Rule} {ps : List Position} → Decides p m ps → Decides q n ps → (p ≡ q) × (m ≡ n)
one_decides {m = m} {n = n} (innermost h) (innermost k) = (refl, some_rule m n (sym h ∙ k))
one_decides (innermost h) (around k d) = absurd (two_rules h k)
one_decides (around h c) (innermost k) = absurd (two_rules k h)
one_decides (around h c) (around k d) = one_decides c d
