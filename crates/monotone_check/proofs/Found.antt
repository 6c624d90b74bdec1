-- The test for calls of circular attributes finds exactly those that there are.
use Rattle.std.proofs.Common.{◌≡◌, ◌<◌, ◌↔◌, ℕ, zero, suc, List, [], ◌∷◌, Bool, true, false, ◌||◌, ◌⊎◌, inl, inr, refl, ap, sym, ◌∙◌, ◌++◌, arith}
use Rattle.std.specs.List.{Contains as Includes}
use Rattle.std.proofs.lemmas.List.Elements.{Contains-append_left, Contains-append_right}
use Rattle.rag_io.specs.declared.Place.{Place}
use Rattle.attr_rules.specs.Expression.{Expression, Arguments, no_more, argument, NewArguments, new_end, new_token, new_child, Truth, Int, Text, Null, Empty, This, Variable, Source, Child, Element, Count, Has, Token, Call, Cast, InstanceOf, Quantified, QuantifiedSet, Each, EachOfSet, Sets, Single, Contains, Size, Not, Negate, Binary, And, Or, OrBoth, If, New}
use Rattle.attr_rules.specs.Rising.{has_call, have_call, tokens_call}
use Rattle.monotone_check.specs.Parts.{Calls, CallsCircular, itself, in_part, listed, parts_of, tokens_in}

one_of : (x y : Bool) → (x || y) ≡ true → (x ≡ true) ⊎ (y ≡ true)
one_of true y h = inl refl
one_of false y h = inr h

-- what is found in a part
inside : {circular : ℕ → Bool} (e part : Expression) → Includes (parts_of e) part → CallsCircular circular part → CallsCircular circular e
inside e part is h = record { attribute = h.attribute; is = h.is; called = in_part {e = e} {part = part} is h.called }

pub first_in : (x : Expression) (xs : List Expression) → Includes (x ∷ xs) x
first_in x xs = (0, omega arith, refl)

pub later_in : (x part : Expression) (xs : List Expression) → Includes xs part → Includes (x ∷ xs) part
later_in x part xs (k, lt, is) = (suc k, omega arith, is)

-- a call that is found in one of some expressions
record FoundIn (circular : ℕ → Bool) (es : List Expression) : Type 0 where
  part : Expression
  within : Includes es part
  found : CallsCircular circular part

in_first : {circular : ℕ → Bool} (e : Expression) (es : List Expression) → CallsCircular circular e → FoundIn circular (e ∷ es)
in_first e es h = record { part = e; within = first_in e es; found = h }

in_later : {circular : ℕ → Bool} (e : Expression) (es : List Expression) → FoundIn circular es → FoundIn circular (e ∷ es)
in_later e es f = record { part = f.part; within = later_in e f.part es f.within; found = f.found }

from_parts : {circular : ℕ → Bool} (e : Expression) → FoundIn circular (parts_of e) → CallsCircular circular e
from_parts e f = inside e f.part f.within f.found

in_two : {circular : ℕ → Bool} (a b : Expression) → CallsCircular circular a ⊎ CallsCircular circular b → FoundIn circular (a ∷ b ∷ [])
in_two a b (inl h) = in_first a (b ∷ []) h
in_two a b (inr h) = in_later a (b ∷ []) (in_first b [] h)

abbrev either : {A B C D : Type 0} → (A → C) → (B → D) → A ⊎ B → C ⊎ D
either f g (inl x) = inl (f x)
either f g (inr y) = inr (g y)

in_either : {circular : ℕ → Bool} (e : Expression) (es : List Expression) → CallsCircular circular e ⊎ FoundIn circular es → FoundIn circular (e ∷ es)
in_either e es (inl h) = in_first e es h
in_either e es (inr f) = in_later e es f

in_one : {circular : ℕ → Bool} (es fs : List Expression) → FoundIn circular es ⊎ FoundIn circular fs → FoundIn circular (es ++ fs)
in_one es fs (inl f) = record { part = f.part; within = Contains-append_left es fs f.part f.within; found = f.found }
in_one es fs (inr f) = record { part = f.part; within = Contains-append_right es fs f.part f.within; found = f.found }

in_call : {circular : ℕ → Bool} (a : ℕ) (place : Place) (e : Expression) (es : Arguments) → (circular a ≡ true) ⊎ FoundIn circular (e ∷ listed es) → CallsCircular circular (Call a place e es)
in_call a place e es (inl h) = record { attribute = a; is = h; called = itself place }
in_call a place e es (inr f) = from_parts (Call a place e es) f

mutual
  pub finds : (circular : ℕ → Bool) (e : Expression) → has_call circular e ≡ true → CallsCircular circular e
  finds circular (Truth b) h = cc
  finds circular (Int z) h = cc
  finds circular (Text n) h = cc
  finds circular Null h = cc
  finds circular Empty h = cc
  finds circular This h = cc
  finds circular (Variable k) h = cc
  finds circular (Source k) h = cc
  finds circular (Child k e) h = from_parts (Child k e) (in_first e [] (finds circular e h))
  finds circular (Count k e) h = from_parts (Count k e) (in_first e [] (finds circular e h))
  finds circular (Has k e) h = from_parts (Has k e) (in_first e [] (finds circular e h))
  finds circular (Token t k e) h = from_parts (Token t k e) (in_first e [] (finds circular e h))
  finds circular (Cast c e) h = from_parts (Cast c e) (in_first e [] (finds circular e h))
  finds circular (InstanceOf c e) h = from_parts (InstanceOf c e) (in_first e [] (finds circular e h))
  finds circular (Single e) h = from_parts (Single e) (in_first e [] (finds circular e h))
  finds circular (Size e) h = from_parts (Size e) (in_first e [] (finds circular e h))
  finds circular (Not e) h = from_parts (Not e) (in_first e [] (finds circular e h))
  finds circular (Negate e) h = from_parts (Negate e) (in_first e [] (finds circular e h))
  finds circular (Element k e i) h = from_parts (Element k e i) (in_two e i (either (finds circular e) (finds circular i) (one_of _ _ h)))
  finds circular (Quantified q k e b) h = from_parts (Quantified q k e b) (in_two e b (either (finds circular e) (finds circular b) (one_of _ _ h)))
  finds circular (QuantifiedSet q e b) h = from_parts (QuantifiedSet q e b) (in_two e b (either (finds circular e) (finds circular b) (one_of _ _ h)))
  finds circular (Each t k e b) h = from_parts (Each t k e b) (in_two e b (either (finds circular e) (finds circular b) (one_of _ _ h)))
  finds circular (EachOfSet t e b) h = from_parts (EachOfSet t e b) (in_two e b (either (finds circular e) (finds circular b) (one_of _ _ h)))
  finds circular (Sets o t a b) h = from_parts (Sets o t a b) (in_two a b (either (finds circular a) (finds circular b) (one_of _ _ h)))
  finds circular (Contains a b) h = from_parts (Contains a b) (in_two a b (either (finds circular a) (finds circular b) (one_of _ _ h)))
  finds circular (Binary o a b) h = from_parts (Binary o a b) (in_two a b (either (finds circular a) (finds circular b) (one_of _ _ h)))
  finds circular (And a b) h = from_parts (And a b) (in_two a b (either (finds circular a) (finds circular b) (one_of _ _ h)))
  finds circular (Or a b) h = from_parts (Or a b) (in_two a b (either (finds circular a) (finds circular b) (one_of _ _ h)))
  finds circular (OrBoth a b) h = from_parts (OrBoth a b) (in_two a b (either (finds circular a) (finds circular b) (one_of _ _ h)))
  finds circular (Call a place e es) h = in_call a place e es (either (λ k. k) (λ k. in_either e (listed es) (either (finds circular e) (finds_in circular es) (one_of _ _ k))) (one_of _ _ h))
  finds circular (If c a place b) h = from_parts (If c a place b) (in_either c (a ∷ b ∷ []) (either (finds circular c) (λ k. in_two a b (either (finds circular a) (finds circular b) (one_of _ _ k))) (one_of _ _ h)))
  finds circular (New c parts) h = from_parts (New c parts) (finds_token circular parts h)

  finds_in : (circular : ℕ → Bool) (es : Arguments) → have_call circular es ≡ true → FoundIn circular (listed es)
  finds_in circular no_more h = cc
  finds_in circular (argument e es) h = in_either e (listed es) (either (finds circular e) (finds_in circular es) (one_of _ _ h))

  finds_token : (circular : ℕ → Bool) (parts : NewArguments) → tokens_call circular parts ≡ true → FoundIn circular (tokens_in parts)
  finds_token circular new_end h = cc
  finds_token circular (new_token k e rest) h = in_either e (tokens_in rest) (either (finds circular e) (finds_token circular rest) (one_of _ _ h))
  finds_token circular (new_child c parts rest) h = in_one (tokens_in parts) (tokens_in rest) (either (finds_token circular parts) (finds_token circular rest) (one_of _ _ h))

-- The other way round: the test of some expressions, one after the other.
abbrev any_has : (ℕ → Bool) → List Expression → Bool
any_has circular [] = false
any_has circular (e ∷ es) = has_call circular e || any_has circular es

here : (x y : Bool) → x ≡ true → (x || y) ≡ true
here true y h = refl
here false y h = cc

there : (x y : Bool) → y ≡ true → (x || y) ≡ true
there true y h = refl
there false y h = h

nowhere : (k : ℕ) → k < 0 → ⊥
nowhere k lt = omega arith

any_of : (circular : ℕ → Bool) (es : List Expression) (part : Expression) → Includes es part → has_call circular part ≡ true → any_has circular es ≡ true
any_of circular [] part (k, lt, is) h = absurd (nowhere k lt)
any_of circular (e ∷ es) part (zero, lt, is) h = here _ _ (ap (has_call circular) is ∙ h)
any_of circular (e ∷ es) part (suc k, lt, is) h = there _ _ (any_of circular es part (k, omega arith, is) h)

single : (x : Bool) → (x || false) ≡ true → x ≡ true
single true h = refl
single false h = h

pair : (x y : Bool) → (x || (y || false)) ≡ true → (x || y) ≡ true
pair true y h = refl
pair false y h = single y h

triple : (x y z : Bool) → (x || (y || (z || false))) ≡ true → (x || (y || z)) ≡ true
triple true y z h = refl
triple false y z h = pair y z h

all_listed : (circular : ℕ → Bool) (es : Arguments) → any_has circular (listed es) ≡ have_call circular es
all_listed circular no_more = refl
all_listed circular (argument e es) = ap (λ x. has_call circular e || x) (all_listed circular es)

any_append : (circular : ℕ → Bool) (es fs : List Expression) → any_has circular (es ++ fs) ≡ (any_has circular es || any_has circular fs)
any_append circular [] fs = refl
any_append circular (e ∷ es) fs = ap (λ x. has_call circular e || x) (any_append circular es fs) ∙ one_after (has_call circular e) _ _
  where
    one_after : (x y z : Bool) → (x || (y || z)) ≡ ((x || y) || z)
    one_after true y z = refl
    one_after false y z = refl

all_tokens : (circular : ℕ → Bool) (parts : NewArguments) → any_has circular (tokens_in parts) ≡ tokens_call circular parts
all_tokens circular new_end = refl
all_tokens circular (new_token k e rest) = ap (λ x. has_call circular e || x) (all_tokens circular rest)
all_tokens circular (new_child c parts rest) = any_append circular (tokens_in parts) (tokens_in rest) ∙ (λ i. all_tokens circular parts i || all_tokens circular rest i)

of_parts : (circular : ℕ → Bool) (e : Expression) → any_has circular (parts_of e) ≡ true → has_call circular e ≡ true
of_parts circular (Truth b) h = h
of_parts circular (Int z) h = h
of_parts circular (Text n) h = h
of_parts circular Null h = h
of_parts circular Empty h = h
of_parts circular This h = h
of_parts circular (Variable k) h = h
of_parts circular (Source k) h = h
of_parts circular (Child k e) h = single _ h
of_parts circular (Count k e) h = single _ h
of_parts circular (Has k e) h = single _ h
of_parts circular (Token t k e) h = single _ h
of_parts circular (Cast c e) h = single _ h
of_parts circular (InstanceOf c e) h = single _ h
of_parts circular (Single e) h = single _ h
of_parts circular (Size e) h = single _ h
of_parts circular (Not e) h = single _ h
of_parts circular (Negate e) h = single _ h
of_parts circular (Element k e i) h = pair _ _ h
of_parts circular (Quantified q k e b) h = pair _ _ h
of_parts circular (QuantifiedSet q e b) h = pair _ _ h
of_parts circular (Each t k e b) h = pair _ _ h
of_parts circular (EachOfSet t e b) h = pair _ _ h
of_parts circular (Sets o t a b) h = pair _ _ h
of_parts circular (Contains a b) h = pair _ _ h
of_parts circular (Binary o a b) h = pair _ _ h
of_parts circular (And a b) h = pair _ _ h
of_parts circular (Or a b) h = pair _ _ h
of_parts circular (OrBoth a b) h = pair _ _ h
of_parts circular (Call a place e es) h = there (circular a) _ (ap (λ x. has_call circular e || x) (sym (all_listed circular es)) ∙ h)
of_parts circular (If c a place b) h = triple (has_call circular c) (has_call circular a) (has_call circular b) h
of_parts circular (New c parts) h = sym (all_tokens circular parts) ∙ h

is_found : (circular : ℕ → Bool) {a : ℕ} {e : Expression} → circular a ≡ true → Calls a e → has_call circular e ≡ true
is_found circular h (itself place) = here _ _ h
is_found circular h (in_part {e = e} {part = part} is c) = of_parts circular e (any_of circular (parts_of e) part is (is_found circular h c))

pub found : (circular : ℕ → Bool) (e : Expression) → (has_call circular e ≡ true) ↔ CallsCircular circular e
found circular e = (finds circular e, λ h. is_found circular h.is h.called)
