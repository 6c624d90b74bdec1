-- An expression without a call of a circular attribute demands instances alone that aren't circular.
use Rattle.std.proofs.Common.{◌≡◌, ℕ, Bool, true, false, cond, ◌&&◌, ◌||◌, List, [], ◌∷◌, ◌++◌}
use Rattle.attr_rules.specs.declared.expression.Quantifier.{Quantifier}
use Rattle.attr_rules.specs.declared.expression.Quantifier.TheVariants.{Any, All, First}
use Rattle.attr_rules.specs.declared.expression.SetOperator.TheVariants.{Union}
use Rattle.attr_rules.specs.declared.kinds.Kind.{Kind}
use Rattle.attr_rules.specs.Expression.{Expression, Arguments, no_more, argument, NewArguments, new_child, new_end, new_token, Truth as TruthLiteral, Int as IntLiteral, Text as TextLiteral, Null as NullLiteral, Empty, This, Variable, Source as SourceNode, Child, Element, Count, Has, Token, Call, Cast, InstanceOf, Quantified, QuantifiedSet, Each, EachOfSet, Sets, Single, Contains, Size, Not, Negate, Binary, And, Or, OrBoth, If, New}
use Rattle.attr_rules.specs.Rising.{has_call, have_call, tokens_call}
use Rattle.attr_rules.proofs.Permitted.{neither}
use Rattle.solutions.specs.Asking.{Demands, next}
use Rattle.solutions.proofs.Composing.{IsPlain, plain_next}
use Rattle.equation_law.specs.Meaning.{World, Place, at_each, call_at, elements_at, first_with, meaning_of, over_elements, token_at, united, with_arguments, with_name, with_tokens}
use Rattle.equation_law.specs.Names.{Argument, At, Attribute, Instance, NodeName, Null, Reference}
use Rattle.equation_law.specs.Values.{Value, as_argument, default_of, elements_of, node, set_operate, truth}

-- tokens demand instances alone that aren't circular
abbrev pub AreTokensPlain : World → (Instance → Bool) → Type 0
AreTokensPlain W circular = (t : Kind) (n : NodeName) (k : ℕ) → IsPlain circular (W.token t n k)

module _ (W : World) (circular : Instance → Bool) (declared : ℕ → Bool) (free : (a : ℕ) (r : Reference) (xs : List Argument) → declared a ≡ false → circular (Attribute a r xs) ≡ false) (tokens : AreTokensPlain W circular) where
  abbrev Plain : Demands Instance Value → Type 0
  Plain c = IsPlain circular c

  then : (c : Demands Instance Value) (k : Value → Demands Instance Value) → Plain c → ((v : Value) → Plain (k v)) → Plain (next c k)
  then c k p q = plain_next circular c k p q

  plain_if : (b : Bool) (c d : Demands Instance Value) → Plain c → Plain d → Plain (cond b c d)
  plain_if true c d p q = p
  plain_if false c d p q = q

  plain_call : (a : ℕ) → declared a ≡ false → (r : Reference) (vs : List Value) → Plain (call_at W a r vs)
  plain_call a d Null vs = tt
  plain_call a d (At n) vs = (free a (At n) _ d, λ v. tt)

  plain_token : (t : Kind) (k : ℕ) (r : Reference) → Plain (token_at W t k r)
  plain_token t k Null = tt
  plain_token t k (At n) = tokens t n k

  plain_each : (o : Bool → Bool → Bool) (so_far : Bool) (xs : List Value) (condition : Value → Demands Instance Value) → ((x : Value) → Plain (condition x)) → Plain (at_each o so_far xs condition)
  plain_each o so_far [] condition p = tt
  plain_each o so_far (x ∷ xs) condition p = then (condition x) _ (p x) (λ v. plain_each o (o so_far (truth v)) xs condition p)

  plain_first : (xs : List Value) (condition : Value → Demands Instance Value) → ((x : Value) → Plain (condition x)) → Plain (first_with xs condition)
  plain_first [] condition p = tt
  plain_first (x ∷ xs) condition p = then (condition x) _ (p x) (λ v. plain_if (truth v) _ _ tt (plain_first xs condition p))

  plain_over : (q : Quantifier) (xs : List Value) (condition : Value → Demands Instance Value) → ((x : Value) → Plain (condition x)) → Plain (over_elements q xs condition)
  plain_over Any xs condition p = plain_each (λ a b. a || b) false xs condition p
  plain_over All xs condition p = plain_each (λ a b. a && b) true xs condition p
  plain_over First xs condition p = plain_first xs condition p

  plain_united : (t : Kind) (so_far : Value) (xs : List Value) (body : Value → Demands Instance Value) → ((x : Value) → Plain (body x)) → Plain (united t so_far xs body)
  plain_united t so_far [] body p = tt
  plain_united t so_far (x ∷ xs) body p = then (body x) _ (p x) (λ v. plain_united t (set_operate Union t so_far v) xs body p)

  mutual
    pub quiet_plain : (e : Expression) → has_call declared e ≡ false → (p : Place) → Plain (meaning_of W e p)
    quiet_plain (TruthLiteral b) q p = tt
    quiet_plain (IntLiteral z) q p = tt
    quiet_plain (TextLiteral n) q p = tt
    quiet_plain NullLiteral q p = tt
    quiet_plain Empty q p = tt
    quiet_plain This q p = tt
    quiet_plain (Variable k) q p = tt
    quiet_plain (SourceNode k) q p = tt
    quiet_plain (Child k e) q p = then (meaning_of W e p) _ (quiet_plain e q p) (λ r. tt)
    quiet_plain (Element k e i) q p =
        let n = neither (has_call declared e) (has_call declared i) q in
        then (meaning_of W e p) _ (quiet_plain e n.0 p) (λ r. then (meaning_of W i p) _ (quiet_plain i n.1 p) (λ z. tt))
    quiet_plain (Count k e) q p = then (meaning_of W e p) _ (quiet_plain e q p) (λ r. tt)
    quiet_plain (Has k e) q p = then (meaning_of W e p) _ (quiet_plain e q p) (λ r. tt)
    quiet_plain (Token t k e) q p = then (meaning_of W e p) _ (quiet_plain e q p) (λ r. plain_token t k (node r))
    quiet_plain (Call a at e es) q p =
        let n = neither (declared a) (has_call declared e || have_call declared es) q in
        let m = neither (has_call declared e) (have_call declared es) n.1 in
        then (meaning_of W e p) _ (quiet_plain e m.0 p) (λ r. quiet_arguments es m.1 p _ (λ vs. plain_call a n.0 (node r) vs))
    quiet_plain (Cast c e) q p = then (meaning_of W e p) _ (quiet_plain e q p) (λ r. tt)
    quiet_plain (InstanceOf c e) q p = then (meaning_of W e p) _ (quiet_plain e q p) (λ r. tt)
    quiet_plain (Quantified o k e b) q p =
        let n = neither (has_call declared e) (has_call declared b) q in
        then (meaning_of W e p) _ (quiet_plain e n.0 p) (λ r. plain_over o (elements_at W k (node r)) _ (λ x. quiet_plain b n.1 (with_name p x)))
    quiet_plain (QuantifiedSet o e b) q p =
        let n = neither (has_call declared e) (has_call declared b) q in
        then (meaning_of W e p) _ (quiet_plain e n.0 p) (λ s. plain_over o (elements_of s) _ (λ x. quiet_plain b n.1 (with_name p x)))
    quiet_plain (Each t k e b) q p =
        let n = neither (has_call declared e) (has_call declared b) q in
        then (meaning_of W e p) _ (quiet_plain e n.0 p) (λ r. plain_united t (default_of t) (elements_at W k (node r)) _ (λ x. quiet_plain b n.1 (with_name p x)))
    quiet_plain (EachOfSet t e b) q p =
        let n = neither (has_call declared e) (has_call declared b) q in
        then (meaning_of W e p) _ (quiet_plain e n.0 p) (λ s. plain_united t (default_of t) (elements_of s) _ (λ x. quiet_plain b n.1 (with_name p x)))
    quiet_plain (Sets o t a b) q p =
        let n = neither (has_call declared a) (has_call declared b) q in
        then (meaning_of W a p) _ (quiet_plain a n.0 p) (λ v. then (meaning_of W b p) _ (quiet_plain b n.1 p) (λ w. tt))
    quiet_plain (Single e) q p = then (meaning_of W e p) _ (quiet_plain e q p) (λ r. tt)
    quiet_plain (Contains a b) q p =
        let n = neither (has_call declared a) (has_call declared b) q in
        then (meaning_of W a p) _ (quiet_plain a n.0 p) (λ v. then (meaning_of W b p) _ (quiet_plain b n.1 p) (λ w. tt))
    quiet_plain (Size e) q p = then (meaning_of W e p) _ (quiet_plain e q p) (λ r. tt)
    quiet_plain (Not e) q p = then (meaning_of W e p) _ (quiet_plain e q p) (λ r. tt)
    quiet_plain (Negate e) q p = then (meaning_of W e p) _ (quiet_plain e q p) (λ r. tt)
    quiet_plain (Binary o a b) q p =
        let n = neither (has_call declared a) (has_call declared b) q in
        then (meaning_of W a p) _ (quiet_plain a n.0 p) (λ v. then (meaning_of W b p) _ (quiet_plain b n.1 p) (λ w. tt))
    quiet_plain (And a b) q p =
        let n = neither (has_call declared a) (has_call declared b) q in
        then (meaning_of W a p) _ (quiet_plain a n.0 p) (λ v. plain_if (truth v) _ _ (then (meaning_of W b p) _ (quiet_plain b n.1 p) (λ w. tt)) tt)
    quiet_plain (Or a b) q p =
        let n = neither (has_call declared a) (has_call declared b) q in
        then (meaning_of W a p) _ (quiet_plain a n.0 p) (λ v. plain_if (truth v) _ _ tt (then (meaning_of W b p) _ (quiet_plain b n.1 p) (λ w. tt)))
    quiet_plain (OrBoth a b) q p =
        let n = neither (has_call declared a) (has_call declared b) q in
        then (meaning_of W a p) _ (quiet_plain a n.0 p) (λ v. then (meaning_of W b p) _ (quiet_plain b n.1 p) (λ w. tt))
    quiet_plain (If c a at b) q p =
        let n = neither (has_call declared c) (has_call declared a || has_call declared b) q in
        let m = neither (has_call declared a) (has_call declared b) n.1 in
        then (meaning_of W c p) _ (quiet_plain c n.0 p) (λ v. plain_if (truth v) _ _ (quiet_plain a m.0 p) (quiet_plain b m.1 p))
    quiet_plain (New c parts) q p = tt

    pub quiet_arguments : (es : Arguments) → have_call declared es ≡ false → (p : Place) (go : List Value → Demands Instance Value) → ((vs : List Value) → Plain (go vs)) → Plain (with_arguments W es p go)
    quiet_arguments no_more q p go g = g []
    quiet_arguments (argument e es) q p go g =
        let n = neither (has_call declared e) (have_call declared es) q in
        then (meaning_of W e p) _ (quiet_plain e n.0 p) (λ v. quiet_arguments es n.1 p _ (λ vs. g (v ∷ vs)))

  -- and so do the tokens of a `new`
  pub quiet_tokens : (parts : NewArguments) → tokens_call declared parts ≡ false → (p : Place) (go : List Argument → Demands Instance Value) → ((ts : List Argument) → Plain (go ts)) → Plain (with_tokens W parts p go)
  quiet_tokens new_end q p go g = g []
  quiet_tokens (new_token k e rest) q p go g =
      let n = neither (has_call declared e) (tokens_call declared rest) q in
      then (meaning_of W e p) _ (quiet_plain e n.0 p) (λ v. quiet_tokens rest n.1 p _ (λ ts. g (as_argument k v ∷ ts)))
  quiet_tokens (new_child c parts rest) q p go g =
      let n = neither (tokens_call declared parts) (tokens_call declared rest) q in
      quiet_tokens parts n.0 p _ (λ ts. quiet_tokens rest n.1 p _ (λ us. g (ts ++ us)))
