-- What an operator on two sets makes of membership.
use Rattle.std.proofs.Common.{◌≡◌, Bool, true, false, ◌||◌, refl, sym, ap, ◌∙◌, ◌⊎◌, inl, inr}
use Rattle.std.specs.declared.cmp.Ordering.{Ordering}
use Rattle.std.specs.Cmp.{IsTotalOrder}
use Rattle.std.specs.FinMap.{IsAntisymmetric}
use Rattle.solutions.proofs.Runs.{and_true}
use Rattle.attr_rules.specs.declared.kinds.Kind.{Kind}
use Rattle.attr_rules.specs.declared.expression.SetOperator.{SetOperator}
use Rattle.attr_rules.specs.declared.expression.SetOperator.TheVariants.{Union, Inter, Minus}
use Rattle.equation_law.specs.Sets.{SetBy, has}
use Rattle.equation_law.specs.Values.{Value, combined, default_of, set_operate}
use Rattle.equation_law.proofs.Sets.{has-inter, has-minus, has-union}
use Rattle.set_values.specs.CodedSets.{with_operator}

pub or_turned : (a b : Bool) → (a || b) ≡ (b || a)
or_turned true true = refl
or_turned true false = refl
or_turned false true = refl
or_turned false false = refl

one_of : (a b : Bool) → (a || b) ≡ true → (a ≡ true) ⊎ (b ≡ true)
one_of true b e = inl refl
one_of false b e = inr e

-- what is made of two sets is in one of them
pub from_either : (p : SetOperator) (a b : Bool) → with_operator p a b ≡ true → (a ≡ true) ⊎ (b ≡ true)
from_either Union a b e = one_of a b e
from_either Inter a b e = inl (and_true a b e).0
from_either Minus a b e = inl (and_true a _ e).0

-- membership of what is made of two sets, by that of the two
pub has-combined : {K : Type 0} {R : K → K → Ordering} → IsTotalOrder R → IsAntisymmetric R → (p : SetOperator) (s t : SetBy R) (q : K) → has (combined p s t) q ≡ with_operator p (has s q) (has t q)
has-combined o same Union s t q = has-union o s t q ∙ or_turned (has t q) (has s q)
has-combined o same Inter s t q = has-inter o same s t q
has-combined o same Minus s t q = has-minus o same s t q

-- what is made of two sets is a type's default, where it is at an equal type
pub at_kind : (p : SetOperator) {k j : Kind} → k ≡ j → (v w : Value) → default_of j ≡ set_operate p j v w → default_of k ≡ set_operate p k v w
at_kind p e v w h = ap default_of e ∙ h ∙ ap (λ i. set_operate p i v w) (sym e)
