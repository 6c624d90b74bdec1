use Rattle.std.proofs.Common.{◌≡◌, MatchOption, None, Option, Some, ap, subst}
use Rattle.std.specs.Option.{option_and_then}
use Rattle.equation_law.specs.Values.{Value}
use Rattle.plain_rounds.specs.Named.{value_in}
use Rattle.plain_rounds.specs.Places.{value_on}
use Rattle.plain_rounds.proofs.places.Places.value.Goals as goal

pub returns-clause-value : goal.returns-clause-value
returns-clause-value c = λ p n. subst (λ (o : Option Value). MatchOption c.value_on.result (o ≡ None) (λ v. o ≡ Some (value_in p n v.now))) (ap (option_and_then (value_on p n c.args.values.now)) c.in_ok-place.ensures.value) (c.value_on.ensures.value p n)
