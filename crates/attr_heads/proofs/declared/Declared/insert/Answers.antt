use Rattle.std.proofs.Common.{rules}
use Rattle.attr_heads.proofs.Declaring.{adds_known_name}
use Rattle.attr_heads.proofs.declared.Declared.insert.Goals as goal

pub returns-in-Some-get_mut-clause-added : goal.returns-in-Some-get_mut-clause-added
returns-in-Some-get_mut-clause-added c = λ even. search (rules, adds_known_name)
