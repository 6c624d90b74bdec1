use Rattle.equation_law.proofs.KeysAsked.{asked_key, key_asked, key_prefix, prefix_key}
use Rattle.equation_law.proofs.laws.keys_of_queries.Goals as goal

pub returns-clause-asked : goal.returns-clause-asked
returns-clause-asked c p x = (key_asked p x, λ k. asked_key p x k.0 k.1 k.2)

pub returns-clause-led : goal.returns-clause-led
returns-clause-led c p i x = (prefix_key p i x, λ k. key_prefix p i x k.0 k.1 k.2)
