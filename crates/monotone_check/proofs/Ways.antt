-- What an expression breaks is what the positions that decide say.
use Rattle.std.proofs.Common.{◌≡◌, ℕ, ◌<◌, zero, suc, List, [], ◌∷◌, ◌++◌, Bool, true, false, ◌⊎◌, inl, inr, Option, Some, None, refl, ap, sym, ◌∙◌, subst, arith}
use Rattle.std.specs.List.{Contains as Includes}
use Rattle.std.proofs.lemmas.List.Elements.{Contains-append_cases}
use Rattle.std.specs.Option.{option_or}
use Rattle.rag_io.specs.declared.Place.{Place}
use Rattle.broken_rules.specs.declared.broken.Broken.{Broken}
use Rattle.broken_rules.specs.declared.rule.Rule.{Rule}
use Rattle.broken_rules.specs.declared.rule.Rule.TheVariants.{M1, M2, M3}
use Rattle.broken_rules.specs.Answers.{Has}
use Rattle.broken_rules.specs.Notes.{at}
use Rattle.attr_rules.specs.declared.expression.Quantifier.{Quantifier}
use Rattle.attr_rules.specs.declared.expression.Quantifier.TheVariants.{Any, All, First}
use Rattle.attr_rules.specs.declared.expression.SetOperator.{SetOperator}
use Rattle.attr_rules.specs.declared.expression.SetOperator.TheVariants.{Union, Inter, Minus}
use Rattle.attr_rules.specs.Expression.{Expression, Arguments, no_more, argument, NewArguments, new_end, new_token, new_child, Call}
use Rattle.attr_rules.specs.Rising.{has_call}
use Rattle.monotone_check.specs.Parts.{listed, tokens_in}
use Rattle.monotone_check.specs.Positions.{broken_arguments, broken_in, broken_tokens, call_broken, choice_broken, in_body, in_range, in_second}
use Rattle.monotone_check.specs.Ways.{Breaks, call, choice, Decides, innermost, around, Position, range_of, body_of, second_set, refused_at, Stands, of_child, of_element, index_of_element, of_count, of_optional, of_token, of_call, passed, cast, tested, of_list, body_over_list, over_set, body_over_set, of_list_of_each, each_over_list, over_set_of_each, each_over_set, first_of_sets, second_of_sets, of_single, searched, sought, of_size, denied, negated, left_operand, right_operand, left_of_and, right_of_and, left_of_or, right_of_or, left_of_both, right_of_both, condition, then_part, else_part, token_of_new, Way, arrived, outwards}
use Rattle.monotone_check.proofs.Found.{found}

-- Members of lists.
pub in_left : (bs cs : List Broken) (f : Broken) → Has bs f → Has (bs ++ cs) f
in_left [] cs f h = absurd h
in_left (b ∷ bs) cs f (inl e) = inl e
in_left (b ∷ bs) cs f (inr h) = inr (in_left bs cs f h)

pub in_right : (bs cs : List Broken) (f : Broken) → Has cs f → Has (bs ++ cs) f
in_right [] cs f h = h
in_right (b ∷ bs) cs f h = inr (in_right bs cs f h)

pub in_one_of : (bs cs : List Broken) (f : Broken) → Has (bs ++ cs) f → Has bs f ⊎ Has cs f
in_one_of [] cs f h = inr h
in_one_of (b ∷ bs) cs f (inl e) = inl (inl e)
in_one_of (b ∷ bs) cs f (inr h) = elim (in_one_of bs cs f h) [ inl l ↦ inl (inr l) | inr r ↦ inr r ]

-- The rule of a position that isn't permitted, and else that of the innermost one further out.
abbrev pub under : Position → Option Rule → Option Rule
under p outer = option_or (refused_at p) outer

pub range_is : (q : Quantifier) (outer : Option Rule) → in_range q outer ≡ under (range_of q) outer
range_is Any outer = refl
range_is All outer = refl
range_is First outer = refl

pub body_is : (q : Quantifier) (outer : Option Rule) → in_body q outer ≡ under (body_of q) outer
body_is Any outer = refl
body_is All outer = refl
body_is First outer = refl

pub second_is : (o : SetOperator) (outer : Option Rule) → in_second o outer ≡ under (second_set o) outer
second_is Union outer = refl
second_is Inter outer = refl
second_is Minus outer = refl

nowhere : (k : ℕ) → k < 0 → ⊥
nowhere k lt = omega arith

-- the rule of the innermost position of a way that isn't permitted, and else that of those further out
abbrev pub along : List Position → Option Rule → Option Rule
along [] outer = outer
along (p ∷ ps) outer = under p (along ps outer)

decided : {p : Position} {m : Rule} {ps : List Position} (outer : Option Rule) → Decides p m ps → along ps outer ≡ Some m
decided outer (innermost {ps = ps} h) = ap (λ x. option_or x (along ps outer)) h
decided outer (around {ps = ps} h d) = ap (λ x. option_or x (along ps outer)) h ∙ decided outer d

module _ (circular : ℕ → Bool) (f : Broken) where
  pub at_same : {r s : Option Rule} (e : Expression) → r ≡ s → Has (broken_in circular r e) f → Has (broken_in circular s e) f
  at_same e h k = subst (λ r. Has (broken_in circular r e) f) h k

  -- Outwards: what is broken in a part is broken in the form.
  in_passed : (es : Arguments) (part : Expression) → Includes (listed es) part → Has (broken_in circular (Some M2) part) f → Has (broken_arguments circular es) f
  in_passed no_more part (k, lt, is) h = absurd (nowhere k lt)
  in_passed (argument e es) part (zero, lt, is) h = in_left _ _ f (subst (λ x. Has (broken_in circular (Some M2) x) f) (sym is) h)
  in_passed (argument e es) part (suc k, lt, is) h = in_right (broken_in circular (Some M2) e) _ f (in_passed es part (k, omega arith, is) h)

  in_token : (parts : NewArguments) (part : Expression) → Includes (tokens_in parts) part → Has (broken_in circular (Some M1) part) f → Has (broken_tokens circular parts) f
  in_token new_end part (k, lt, is) h = absurd (nowhere k lt)
  in_token (new_token k e rest) part (zero, lt, is) h = in_left _ _ f (subst (λ x. Has (broken_in circular (Some M1) x) f) (sym is) h)
  in_token (new_token k e rest) part (suc j, lt, is) h = in_right (broken_in circular (Some M1) e) _ f (in_token rest part (j, omega arith, is) h)
  in_token (new_child c parts rest) part within h = elim (Contains-append_cases (tokens_in parts) (tokens_in rest) part within) [
    | inl l ↦ in_left _ _ f (in_token parts part l h)
    | inr r ↦ in_right (broken_tokens circular parts) _ f (in_token rest part r h)
  ]

  step : (outer : Option Rule) {p : Position} {part form : Expression} → Stands p part form → Has (broken_in circular (under p outer) part) f → Has (broken_in circular outer form) f
  step outer (of_child k) h = h
  step outer (of_element k) h = in_left _ _ f h
  step outer (index_of_element {e = e} k) h = in_right (broken_in circular (Some M2) e) _ f h
  step outer (of_count k) h = h
  step outer (of_optional k) h = h
  step outer (of_token t k) h = h
  step outer (of_call a place) h = in_right (call_broken (circular a) outer place) _ f (in_left _ _ f h)
  step outer (passed {e = e} {part = part} {es = es} a place is) h = in_right (call_broken (circular a) outer place) _ f (in_right (broken_in circular (Some M2) e) _ f (in_passed es part is h))
  step outer (cast c) h = h
  step outer (tested c) h = h
  step outer (of_list q k) h = in_left _ _ f h
  step outer (body_over_list {e = e} {b = b} q k) h = in_right (broken_in circular (Some M2) e) _ f (at_same b (sym (body_is q outer)) h)
  step outer (over_set {e = e} q) h = in_left _ _ f (at_same e (sym (range_is q outer)) h)
  step outer (body_over_set {e = e} {b = b} q) h = in_right (broken_in circular (in_range q outer) e) _ f (at_same b (sym (body_is q outer)) h)
  step outer (of_list_of_each t k) h = in_left _ _ f h
  step outer (each_over_list {e = e} t k) h = in_right (broken_in circular (Some M2) e) _ f h
  step outer (over_set_of_each t) h = in_left _ _ f h
  step outer (each_over_set {e = e} t) h = in_right (broken_in circular outer e) _ f h
  step outer (first_of_sets o t) h = in_left _ _ f h
  step outer (second_of_sets {a = a} {b = b} o t) h = in_right (broken_in circular outer a) _ f (at_same b (sym (second_is o outer)) h)
  step outer of_single h = h
  step outer searched h = in_left _ _ f h
  step outer (sought {a = a}) h = in_right (broken_in circular outer a) _ f h
  step outer of_size h = h
  step outer denied h = h
  step outer negated h = h
  step outer (left_operand o) h = in_left _ _ f h
  step outer (right_operand {a = a} o) h = in_right (broken_in circular (Some M1) a) _ f h
  step outer left_of_and h = in_left _ _ f h
  step outer (right_of_and {a = a}) h = in_right (broken_in circular outer a) _ f h
  step outer left_of_or h = in_left _ _ f h
  step outer (right_of_or {a = a}) h = in_right (broken_in circular outer a) _ f h
  step outer left_of_both h = in_left _ _ f h
  step outer (right_of_both {a = a}) h = in_right (broken_in circular outer a) _ f h
  step outer (condition place) h = in_left _ _ f h
  step outer (then_part {c = c} place) h = in_right (broken_in circular outer c) _ f (in_right (choice_broken (has_call circular c) place) _ f (in_left _ _ f h))
  step outer (else_part {c = c} {a = a} place) h = in_right (broken_in circular outer c) _ f (in_right (choice_broken (has_call circular c) place) _ f (in_right (broken_in circular outer a) _ f h))
  step outer (token_of_new {part = part} {parts = parts} c is) h = in_token parts part is h

  climb : (outer : Option Rule) {ps : List Position} {part whole : Expression} → Way part ps whole → Has (broken_in circular (along ps outer) part) f → Has (broken_in circular outer whole) f
  climb outer arrived h = h
  climb outer (outwards {p = p} {ps = ps} is way) h = climb outer way (step (along ps outer) is h)

noted_call : (calls : Bool) (m : Rule) (place : Place) → calls ≡ true → Has (call_broken calls (Some m) place) (at place m)
noted_call true m place h = inl refl
noted_call false m place h = cc

noted_choice : (calls : Bool) (place : Place) → calls ≡ true → Has (choice_broken calls (Some place)) (at place M3)
noted_choice true place h = inl refl
noted_choice false place h = cc

pub told : (circular : ℕ → Bool) (whole : Expression) (f : Broken) → Breaks circular whole f → Has (broken_in circular None whole) f
told circular whole f (call {m = m} {e = e} {es = es} a place is way d) =
    climb circular (at place m) None way (at_same circular (at place m) (Call a place e es) (sym (decided None d)) (in_left _ _ (at place m) (noted_call (circular a) m place is)))
told circular whole f (choice {ps = ps} {c = c} place calls way) =
    climb circular (at place M3) None way (in_right (broken_in circular (along ps None) c) _ (at place M3) (in_left _ _ (at place M3) (noted_choice (has_call circular c) place ((found circular c).1 calls))))
