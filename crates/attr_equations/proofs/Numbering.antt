-- Contributions with the numbers of their expressions, and the expressions of rules by their numbers.
use Rattle.std.proofs.Common.{◌≡◌, ℕ, ◌+◌, ◌*◌, ◌<◌, ◌^◌, ◌/◌, ◌%◌, get_or, List, [], ◌∷◌, ◌++◌, Option, Some, length, map, slice_get, option_map, true, inl, inr, refl, sym, ap, subst, ◌∙◌, arith}
use Rattle.std.specs.List.{flat_map}
use Rattle.std.proofs.lemmas.List.{length-map}
use Rattle.std.proofs.lemmas.Option.{slice_get-get_or, slice_get-map, slice_get_within}
use Rattle.std.proofs.Math.ListN.{length-append}
use Rattle.attr_equations.specs.declared.contributions.Contribution as kept
use Rattle.attr_equations.specs.declared.contributions.KeptContribution.{KeptContribution}
use Rattle.attr_equations.specs.declared.rules.KeptEquation.{KeptEquation}
use Rattle.attr_equations.specs.KeptContributions.{AreNumbered, HasNumbers, IsContributionAt, IsNumbered, contribution_in, is_true}
use Rattle.attr_equations.specs.KeptEquations.{equation_in}
use Rattle.attr_rules.specs.Expression.{Expression, expression_of, Truth, Int, Text, Null, Empty, This, Variable, Source, Child, Element, Count, Has, Token, Call, Cast, InstanceOf, Quantified, QuantifiedSet, Each, EachOfSet, Sets, Single, Contains, Size, Not, Negate, Binary, And, Or, OrBoth, If, New}
use Rattle.attr_rules.specs.Rules.{Attribute, Contribution, RuleSet, bodies, body_at, expression_in, expressions_in}
use Rattle.attr_equations.proofs.Places.{behind, in_front, last_or_before, three_at, three_long}

-- the literal `true` is this expression
true_is : (e : Expression) → is_true e ≡ true → e ≡ Truth true
true_is (Truth b) is = ap Truth is
true_is (Int a) is = absurd (cc)
true_is (Text a) is = absurd (cc)
true_is Null is = absurd (cc)
true_is Empty is = absurd (cc)
true_is This is = absurd (cc)
true_is (Variable a) is = absurd (cc)
true_is (Source a) is = absurd (cc)
true_is (Child a b) is = absurd (cc)
true_is (Element a b c) is = absurd (cc)
true_is (Count a b) is = absurd (cc)
true_is (Has a b) is = absurd (cc)
true_is (Token a b c) is = absurd (cc)
true_is (Call a b c d) is = absurd (cc)
true_is (Cast a b) is = absurd (cc)
true_is (InstanceOf a b) is = absurd (cc)
true_is (Quantified a b c d) is = absurd (cc)
true_is (QuantifiedSet a b c) is = absurd (cc)
true_is (Each a b c d) is = absurd (cc)
true_is (EachOfSet a b c) is = absurd (cc)
true_is (Sets a b c d) is = absurd (cc)
true_is (Single a) is = absurd (cc)
true_is (Contains a b) is = absurd (cc)
true_is (Size a) is = absurd (cc)
true_is (Not a) is = absurd (cc)
true_is (Negate a) is = absurd (cc)
true_is (Binary a b c) is = absurd (cc)
true_is (And a b) is = absurd (cc)
true_is (Or a b) is = absurd (cc)
true_is (OrBoth a b) is = absurd (cc)
true_is (If a b c d) is = absurd (cc)
true_is (New c parts) is = absurd (cc)

-- one more
pub numbered_more : (first n : ℕ) (list : List KeptContribution) (c : KeptContribution) → AreNumbered first list → n ≡ first + 3 * length list → n + 3 < 2 ^ 32 → IsNumbered n c → AreNumbered first (list ++ c ∷ [])
numbered_more first n list c are is few numbered =
    let long : length (list ++ c ∷ []) ≡ length list + 1 = length-append list (c ∷ []) in
    record {
      few = omega (arith, long);
      each = λ k d e. elim (last_or_before list c d k e) [
        | inl h ↦ are.each k d h.1
        | inr h ↦ (let place : n ≡ first + 3 * k = is ∙ ap (λ m. first + 3 * m) (sym h.0) in subst (λ m. IsNumbered m d) place (subst (IsNumbered n) h.1 numbered))
      ];
    }

-- the expressions of contributions, by their places
abbrev condition_of : Contribution → Expression
condition_of c = c.condition

abbrev receiver_of : Contribution → Expression
receiver_of c = c.receiver

abbrev value_of : Contribution → Expression
value_of c = c.value

pub offered_at : (list : List KeptContribution) (k j : ℕ) (c : KeptContribution) → slice_get list k ≡ Some c → j < 3 → slice_get (flat_map expressions_in (map contribution_in list)) (3 * k + j) ≡ slice_get (expressions_in (contribution_in c)) j
offered_at list k j c e h = three_at condition_of receiver_of value_of (map contribution_in list) k j (contribution_in c) (slice_get-map contribution_in list k ∙ ap (option_map contribution_in) e) h

pub offered_here : (list : List KeptContribution) (place j : ℕ) (c : KeptContribution) → c ≡ get_or list (place / 3) c → place < 3 * length list → place % 3 ≡ j → j < 3
    → slice_get (flat_map expressions_in (map contribution_in list)) place ≡ slice_get (expressions_in (contribution_in c)) j
offered_here list place j c is within rest small =
    let split : place ≡ 3 * (place / 3) + j = omega (arith, rest) in
    let inside : place / 3 < length list = omega (arith, within) in
    ap (slice_get (flat_map expressions_in (map contribution_in list))) split ∙ offered_at list (place / 3) j c (slice_get-get_or list (place / 3) c inside ∙ ap Some (sym is)) small

module _ (superclasses : List (Option ℕ)) (attributes : List Attribute) (equations : List KeptEquation) (contributions : List KeptContribution) where
  abbrev rules : RuleSet
  rules = record { superclasses = superclasses; attributes = attributes; equations = map equation_in equations; contributions = map contribution_in contributions }

  abbrev offered : List Expression
  offered = flat_map expressions_in (map contribution_in contributions)

  many : length (map expression_in (map equation_in equations)) ≡ length equations
  many = length-map (map equation_in equations) expression_in ∙ length-map equations equation_in

  pub how_many : length (bodies rules) ≡ length equations + 3 * length contributions
  how_many =
      let all = length-append (map expression_in (map equation_in equations)) offered in
      let three = three_long condition_of receiver_of value_of (map contribution_in contributions) in
      omega (arith, all, many, three, length-map contributions contribution_in)

  -- the right side of an equation
  pub equation_body : (e : ℕ) (q : KeptEquation) → slice_get equations e ≡ Some q → body_at rules e ≡ Some (expression_of q.body)
  equation_body e q is =
      in_front (map expression_in (map equation_in equations)) offered e (omega (arith, many, slice_get_within equations e q is)) ∙ slice_get-map expression_in (map equation_in equations) e
      ∙ ap (option_map expression_in) (slice_get-map equation_in equations e ∙ ap (option_map equation_in) is)

  -- the expression of a contribution
  pub offered_body : (n : ℕ) → body_at rules (length equations + n) ≡ slice_get offered n
  offered_body n = ap (λ m. slice_get (bodies rules) (m + n)) (sym many) ∙ behind (map expression_in (map equation_in equations)) offered n

  -- the expressions of a contribution, by their numbers
  numbered_body : (n k j : ℕ) (c : KeptContribution) → slice_get contributions k ≡ Some c → j < 3 → n ≡ (length equations + 3 * k) + j → body_at rules n ≡ slice_get (expressions_in (contribution_in c)) j
  numbered_body n k j c e h is =
      let place : n ≡ length equations + (3 * k + j) = omega (arith, is) in
      ap (body_at rules) place ∙ offered_body (3 * k + j) ∙ offered_at contributions k j c e h

  same_numbers : {m n : ℕ} (c : kept.Contribution) → m ≡ n → HasNumbers m c → HasNumbers n c
  same_numbers c is has = subst (λ m. HasNumbers m c) is has

  pub contribution_at : AreNumbered (length equations) contributions → (k : ℕ) (c : KeptContribution) → slice_get contributions k ≡ Some c → IsContributionAt rules k c.numbers
  contribution_at are k c e =
      let numbered = are.each k c e in
      let has = numbered.numbers in
      let from : length equations + 3 * k ≡ length (map equation_in equations) + 3 * k = ap (λ m. m + 3 * k) (sym (length-map equations equation_in)) in
      record {
        contribution = contribution_in c;
        is = slice_get-map contribution_in contributions k ∙ ap (option_map contribution_in) e;
        class = refl;
        target = refl;
        numbers = same_numbers c.numbers from has;
        guard = λ n there. (let place : n.0 ≡ (length equations + 3 * k) + 0 = omega (arith, has.guard n there) in numbered_body n.0 k 0 c e (omega arith) place);
        left_out = λ none. true_is (expression_of c.condition) (numbered.left_out none);
        receiver = numbered_body c.numbers.receiver.0 k 1 c e (omega arith) has.receiver;
        value = numbered_body c.numbers.value.0 k 2 c e (omega arith) has.value;
      }
