-- Where nothing is broken, no circular attribute is called in a position that isn't permitted, and the other way round.
use Rattle.std.proofs.Common.{◌≡◌, ℕ, List, [], ◌++◌, Bool, true, false, ◌||◌, Option, Some, None, refl}
use Rattle.std.proofs.lemmas.Bool.{or_from, or_parts}
use Rattle.rag_io.specs.declared.Place.{Place}
use Rattle.broken_rules.specs.declared.broken.Broken.{Broken}
use Rattle.broken_rules.specs.declared.rule.Rule.{Rule}
use Rattle.broken_rules.specs.declared.rule.Rule.TheVariants.{M1, M2, M4, M5}
use Rattle.broken_rules.proofs.Clean.{append_none}
use Rattle.attr_rules.specs.declared.expression.Quantifier.TheVariants.{Any, All, First}
use Rattle.attr_rules.specs.declared.expression.SetOperator.TheVariants.{Union, Inter, Minus}
use Rattle.attr_rules.specs.Expression.{Expression, Arguments, no_more, argument, NewArguments, new_end, new_token, new_child, Truth, Int, Text, Null, Empty, This, Variable, Source, Child, Element, Count, Has, Token, Call, Cast, InstanceOf, Quantified, QuantifiedSet, Each, EachOfSet, Sets, Single, Contains, Size, Not, Negate, Binary, And, Or, OrBoth, If, New}
use Rattle.attr_rules.specs.Rising.{has_call, have_call, tokens_call}
use Rattle.monotone_check.specs.Permitted.{IsPermitted, without, call, and, or, or_both, choice, any, all, any_of_set, all_of_set, each, each_of_set, union, inter, minus, contains}
use Rattle.monotone_check.specs.Positions.{broken_arguments, broken_in, broken_tokens, call_broken, choice_broken, in_body, in_range, in_second}

-- two lists that are empty where two tests fail
both_none : (bs cs : List Broken) (x y : Bool) → (x ≡ false → bs ≡ []) → (y ≡ false → cs ≡ []) → (x || y) ≡ false → bs ++ cs ≡ []
both_none bs cs x y f g h = (λ i. f (or_parts x y h).0 i ++ g (or_parts x y h).1 i)

both_fail : (bs cs : List Broken) (x y : Bool) → (bs ≡ [] → x ≡ false) → (cs ≡ [] → y ≡ false) → bs ++ cs ≡ [] → (x || y) ≡ false
both_fail bs cs x y f g h = or_from x y (f (append_none bs cs h).0) (g (append_none bs cs h).1)

call_none : (b : Bool) (refused : Option Rule) (place : Place) → b ≡ false → call_broken b refused place ≡ []
call_none false refused place h = refl
call_none true refused place h = cc

call_fails : (b : Bool) (m : Rule) (place : Place) → call_broken b (Some m) place ≡ [] → b ≡ false
call_fails false m place h = refl
call_fails true m place h = cc

choice_none : (b : Bool) (place : Option Place) → b ≡ false → choice_broken b place ≡ []
choice_none false place h = refl
choice_none true place h = cc

mutual
  -- an expression without such calls breaks nothing, wherever it stands
  pub no_call : (circular : ℕ → Bool) (refused : Option Rule) (e : Expression) → has_call circular e ≡ false → broken_in circular refused e ≡ []
  no_call circular refused (Truth b) h = refl
  no_call circular refused (Int z) h = refl
  no_call circular refused (Text n) h = refl
  no_call circular refused Null h = refl
  no_call circular refused Empty h = refl
  no_call circular refused This h = refl
  no_call circular refused (Variable k) h = refl
  no_call circular refused (Source k) h = refl
  no_call circular refused (Child k e) h = no_call circular (Some M2) e h
  no_call circular refused (Count k e) h = no_call circular (Some M2) e h
  no_call circular refused (Has k e) h = no_call circular (Some M2) e h
  no_call circular refused (Token t k e) h = no_call circular (Some M2) e h
  no_call circular refused (Cast c e) h = no_call circular (Some M1) e h
  no_call circular refused (InstanceOf c e) h = no_call circular (Some M1) e h
  no_call circular refused (Single e) h = no_call circular (Some M1) e h
  no_call circular refused (Size e) h = no_call circular (Some M1) e h
  no_call circular refused (Not e) h = no_call circular (Some M1) e h
  no_call circular refused (Negate e) h = no_call circular (Some M1) e h
  no_call circular refused (Element k e i) h = both_none _ _ _ _ (no_call circular (Some M2) e) (no_call circular (Some M2) i) h
  no_call circular refused (Quantified q k e b) h = both_none _ _ _ _ (no_call circular (Some M2) e) (no_call circular (in_body q refused) b) h
  no_call circular refused (QuantifiedSet q e b) h = both_none _ _ _ _ (no_call circular (in_range q refused) e) (no_call circular (in_body q refused) b) h
  no_call circular refused (Each t k e b) h = both_none _ _ _ _ (no_call circular (Some M2) e) (no_call circular refused b) h
  no_call circular refused (EachOfSet t e b) h = both_none _ _ _ _ (no_call circular refused e) (no_call circular refused b) h
  no_call circular refused (Sets o t a b) h = both_none _ _ _ _ (no_call circular refused a) (no_call circular (in_second o refused) b) h
  no_call circular refused (Contains a b) h = both_none _ _ _ _ (no_call circular refused a) (no_call circular (Some M1) b) h
  no_call circular refused (Binary o a b) h = both_none _ _ _ _ (no_call circular (Some M1) a) (no_call circular (Some M1) b) h
  no_call circular refused (And a b) h = both_none _ _ _ _ (no_call circular refused a) (no_call circular refused b) h
  no_call circular refused (Or a b) h = both_none _ _ _ _ (no_call circular refused a) (no_call circular refused b) h
  no_call circular refused (OrBoth a b) h = both_none _ _ _ _ (no_call circular refused a) (no_call circular refused b) h
  no_call circular refused (Call a place e es) h = both_none _ _ _ _ (call_none (circular a) refused place) (both_none _ _ _ _ (no_call circular (Some M2) e) (no_calls circular es)) h
  no_call circular refused (If c a place b) h =
      let parts = or_parts (has_call circular c) _ h in
      (λ i. no_call circular refused c parts.0 i ++ (choice_none (has_call circular c) place parts.0 i ++ both_none _ _ _ _ (no_call circular refused a) (no_call circular refused b) parts.1 i))
  no_call circular refused (New c parts) h = no_token_calls circular parts h

  pub no_calls : (circular : ℕ → Bool) (es : Arguments) → have_call circular es ≡ false → broken_arguments circular es ≡ []
  no_calls circular no_more h = refl
  no_calls circular (argument e es) h = both_none _ _ _ _ (no_call circular (Some M2) e) (no_calls circular es) h

  no_token_calls : (circular : ℕ → Bool) (parts : NewArguments) → tokens_call circular parts ≡ false → broken_tokens circular parts ≡ []
  no_token_calls circular new_end h = refl
  no_token_calls circular (new_token k e rest) h = both_none _ _ _ _ (no_call circular (Some M1) e) (no_token_calls circular rest) h
  no_token_calls circular (new_child c parts rest) h = both_none _ _ _ _ (no_token_calls circular parts) (no_token_calls circular rest) h

mutual
  -- where a position around it isn't permitted, an expression that breaks nothing has no such calls
  pub refused_none : (circular : ℕ → Bool) (m : Rule) (e : Expression) → broken_in circular (Some m) e ≡ [] → has_call circular e ≡ false
  refused_none circular m (Truth b) h = refl
  refused_none circular m (Int z) h = refl
  refused_none circular m (Text n) h = refl
  refused_none circular m Null h = refl
  refused_none circular m Empty h = refl
  refused_none circular m This h = refl
  refused_none circular m (Variable k) h = refl
  refused_none circular m (Source k) h = refl
  refused_none circular m (Child k e) h = refused_none circular M2 e h
  refused_none circular m (Count k e) h = refused_none circular M2 e h
  refused_none circular m (Has k e) h = refused_none circular M2 e h
  refused_none circular m (Token t k e) h = refused_none circular M2 e h
  refused_none circular m (Cast c e) h = refused_none circular M1 e h
  refused_none circular m (InstanceOf c e) h = refused_none circular M1 e h
  refused_none circular m (Single e) h = refused_none circular M1 e h
  refused_none circular m (Size e) h = refused_none circular M1 e h
  refused_none circular m (Not e) h = refused_none circular M1 e h
  refused_none circular m (Negate e) h = refused_none circular M1 e h
  refused_none circular m (Element k e i) h = both_fail _ _ _ _ (refused_none circular M2 e) (refused_none circular M2 i) h
  refused_none circular m (Quantified Any k e b) h = both_fail _ _ _ _ (refused_none circular M2 e) (refused_none circular m b) h
  refused_none circular m (Quantified All k e b) h = both_fail _ _ _ _ (refused_none circular M2 e) (refused_none circular m b) h
  refused_none circular m (Quantified First k e b) h = both_fail _ _ _ _ (refused_none circular M2 e) (refused_none circular M4 b) h
  refused_none circular m (QuantifiedSet Any e b) h = both_fail _ _ _ _ (refused_none circular m e) (refused_none circular m b) h
  refused_none circular m (QuantifiedSet All e b) h = both_fail _ _ _ _ (refused_none circular M4 e) (refused_none circular m b) h
  refused_none circular m (QuantifiedSet First e b) h = both_fail _ _ _ _ (refused_none circular M4 e) (refused_none circular M4 b) h
  refused_none circular m (Each t k e b) h = both_fail _ _ _ _ (refused_none circular M2 e) (refused_none circular m b) h
  refused_none circular m (EachOfSet t e b) h = both_fail _ _ _ _ (refused_none circular m e) (refused_none circular m b) h
  refused_none circular m (Sets Union t a b) h = both_fail _ _ _ _ (refused_none circular m a) (refused_none circular m b) h
  refused_none circular m (Sets Inter t a b) h = both_fail _ _ _ _ (refused_none circular m a) (refused_none circular m b) h
  refused_none circular m (Sets Minus t a b) h = both_fail _ _ _ _ (refused_none circular m a) (refused_none circular M5 b) h
  refused_none circular m (Contains a b) h = both_fail _ _ _ _ (refused_none circular m a) (refused_none circular M1 b) h
  refused_none circular m (Binary o a b) h = both_fail _ _ _ _ (refused_none circular M1 a) (refused_none circular M1 b) h
  refused_none circular m (And a b) h = both_fail _ _ _ _ (refused_none circular m a) (refused_none circular m b) h
  refused_none circular m (Or a b) h = both_fail _ _ _ _ (refused_none circular m a) (refused_none circular m b) h
  refused_none circular m (OrBoth a b) h = both_fail _ _ _ _ (refused_none circular m a) (refused_none circular m b) h
  refused_none circular m (Call a place e es) h = both_fail _ _ _ _ (call_fails (circular a) m place) (both_fail _ _ _ _ (refused_none circular M2 e) (arguments_none circular es)) h
  refused_none circular m (If c a place b) h =
      let parts = append_none (broken_in circular (Some m) c) _ h in
      let others = append_none (choice_broken (has_call circular c) place) _ parts.1 in
      or_from (has_call circular c) _ (refused_none circular m c parts.0) (both_fail _ _ _ _ (refused_none circular m a) (refused_none circular m b) others.1)
  refused_none circular m (New c parts) h = tokens_none circular parts h

  pub arguments_none : (circular : ℕ → Bool) (es : Arguments) → broken_arguments circular es ≡ [] → have_call circular es ≡ false
  arguments_none circular no_more h = refl
  arguments_none circular (argument e es) h = both_fail _ _ _ _ (refused_none circular M2 e) (arguments_none circular es) h

  pub tokens_none : (circular : ℕ → Bool) (parts : NewArguments) → broken_tokens circular parts ≡ [] → tokens_call circular parts ≡ false
  tokens_none circular new_end h = refl
  tokens_none circular (new_token k e rest) h = both_fail _ _ _ _ (refused_none circular M1 e) (tokens_none circular rest) h
  tokens_none circular (new_child c parts rest) h = both_fail _ _ _ _ (tokens_none circular parts) (tokens_none circular rest) h

choice_place : (b : Bool) (place : Option Place) → choice_broken b place ≡ [] → b ≡ true → place ≡ None
choice_place false place h k = cc
choice_place true None h k = refl
choice_place true (Some place) h k = cc

choice_clean : (b : Bool) (place : Option Place) → (b ≡ true → place ≡ None) → choice_broken b place ≡ []
choice_clean false place h = refl
choice_clean true None h = refl
choice_clean true (Some place) h = let e = h refl in cc

-- An expression that breaks nothing is rising.
pub permits : (circular : ℕ → Bool) (e : Expression) → broken_in circular None e ≡ [] → IsPermitted circular e
permits circular (Truth b) h = without refl
permits circular (Int z) h = without refl
permits circular (Text n) h = without refl
permits circular Null h = without refl
permits circular Empty h = without refl
permits circular This h = without refl
permits circular (Variable k) h = without refl
permits circular (Source k) h = without refl
permits circular (Child k e) h = without (refused_none circular M2 e h)
permits circular (Count k e) h = without (refused_none circular M2 e h)
permits circular (Has k e) h = without (refused_none circular M2 e h)
permits circular (Token t k e) h = without (refused_none circular M2 e h)
permits circular (Cast c e) h = without (refused_none circular M1 e h)
permits circular (InstanceOf c e) h = without (refused_none circular M1 e h)
permits circular (Single e) h = without (refused_none circular M1 e h)
permits circular (Size e) h = without (refused_none circular M1 e h)
permits circular (Not e) h = without (refused_none circular M1 e h)
permits circular (Negate e) h = without (refused_none circular M1 e h)
permits circular (Element k e i) h = without (both_fail _ _ _ _ (refused_none circular M2 e) (refused_none circular M2 i) h)
permits circular (Call a place e es) h = let parts = append_none (broken_in circular (Some M2) e) (broken_arguments circular es) (append_none (call_broken (circular a) None place) _ h).1 in call a place (refused_none circular M2 e parts.0) (arguments_none circular es parts.1)
permits circular (Quantified Any k e b) h = let parts = append_none (broken_in circular (Some M2) e) _ h in any k (refused_none circular M2 e parts.0) (permits circular b parts.1)
permits circular (Quantified All k e b) h = let parts = append_none (broken_in circular (Some M2) e) _ h in all k (refused_none circular M2 e parts.0) (permits circular b parts.1)
permits circular (Quantified First k e b) h = without (both_fail _ _ _ _ (refused_none circular M2 e) (refused_none circular M4 b) h)
permits circular (QuantifiedSet Any e b) h = let parts = append_none (broken_in circular None e) _ h in any_of_set (permits circular e parts.0) (permits circular b parts.1)
permits circular (QuantifiedSet All e b) h = let parts = append_none (broken_in circular (Some M4) e) _ h in all_of_set (refused_none circular M4 e parts.0) (permits circular b parts.1)
permits circular (QuantifiedSet First e b) h = without (both_fail _ _ _ _ (refused_none circular M4 e) (refused_none circular M4 b) h)
permits circular (Each t k e b) h = let parts = append_none (broken_in circular (Some M2) e) _ h in each t k (refused_none circular M2 e parts.0) (permits circular b parts.1)
permits circular (EachOfSet t e b) h = let parts = append_none (broken_in circular None e) _ h in each_of_set t (permits circular e parts.0) (permits circular b parts.1)
permits circular (Sets Union t a b) h = let parts = append_none (broken_in circular None a) _ h in union t (permits circular a parts.0) (permits circular b parts.1)
permits circular (Sets Inter t a b) h = let parts = append_none (broken_in circular None a) _ h in inter t (permits circular a parts.0) (permits circular b parts.1)
permits circular (Sets Minus t a b) h = let parts = append_none (broken_in circular None a) _ h in minus t (permits circular a parts.0) (refused_none circular M5 b parts.1)
permits circular (Contains a b) h = let parts = append_none (broken_in circular None a) _ h in contains (permits circular a parts.0) (refused_none circular M1 b parts.1)
permits circular (Binary o a b) h = without (both_fail _ _ _ _ (refused_none circular M1 a) (refused_none circular M1 b) h)
permits circular (And a b) h = let parts = append_none (broken_in circular None a) _ h in and (permits circular a parts.0) (permits circular b parts.1)
permits circular (Or a b) h = let parts = append_none (broken_in circular None a) _ h in or (permits circular a parts.0) (permits circular b parts.1)
permits circular (OrBoth a b) h = let parts = append_none (broken_in circular None a) _ h in or_both (permits circular a parts.0) (permits circular b parts.1)
permits circular (If c a place b) h =
    let parts = append_none (broken_in circular None c) _ h in
    let others = append_none (choice_broken (has_call circular c) place) _ parts.1 in
    let last = append_none (broken_in circular None a) (broken_in circular None b) others.1 in
    choice place (permits circular c parts.0) (permits circular a last.0) (permits circular b last.1) (choice_place (has_call circular c) place others.0)
permits circular (New c parts) h = without (tokens_none circular parts h)

call_at : (b : Bool) (place : Place) → call_broken b None place ≡ []
call_at false place = refl
call_at true place = refl

-- A rising expression breaks nothing.
pub breaks_none : (circular : ℕ → Bool) {e : Expression} → IsPermitted circular e → broken_in circular None e ≡ []
breaks_none circular (without {e} h) = no_call circular None e h
breaks_none circular (call {e} {es} a place h k) = (λ i. call_at (circular a) place i ++ (no_call circular (Some M2) e h i ++ no_calls circular es k i))
breaks_none circular (and r s) = (λ i. breaks_none circular r i ++ breaks_none circular s i)
breaks_none circular (or r s) = (λ i. breaks_none circular r i ++ breaks_none circular s i)
breaks_none circular (or_both r s) = (λ i. breaks_none circular r i ++ breaks_none circular s i)
breaks_none circular (choice {c} place r s t h) = (λ i. breaks_none circular r i ++ (choice_clean (has_call circular c) place h i ++ (breaks_none circular s i ++ breaks_none circular t i)))
breaks_none circular (any {e} k h r) = (λ i. no_call circular (Some M2) e h i ++ breaks_none circular r i)
breaks_none circular (all {e} k h r) = (λ i. no_call circular (Some M2) e h i ++ breaks_none circular r i)
breaks_none circular (any_of_set r s) = (λ i. breaks_none circular r i ++ breaks_none circular s i)
breaks_none circular (all_of_set {e} h r) = (λ i. no_call circular (Some M4) e h i ++ breaks_none circular r i)
breaks_none circular (each {e} t k h r) = (λ i. no_call circular (Some M2) e h i ++ breaks_none circular r i)
breaks_none circular (each_of_set t r s) = (λ i. breaks_none circular r i ++ breaks_none circular s i)
breaks_none circular (union t r s) = (λ i. breaks_none circular r i ++ breaks_none circular s i)
breaks_none circular (inter t r s) = (λ i. breaks_none circular r i ++ breaks_none circular s i)
breaks_none circular (minus {b = b} t r h) = (λ i. breaks_none circular r i ++ no_call circular (Some M5) b h i)
breaks_none circular (contains {b = b} r h) = (λ i. breaks_none circular r i ++ no_call circular (Some M1) b h i)
