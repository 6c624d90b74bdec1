-- The parts of names are smaller.
use Rattle.std.proofs.Common.{◌≡◌, ℕ, ◌<◌, Box, Global, arith}
use Rattle.plain_rounds.specs.declared.naming.NamedArg.{NamedArg}
use Rattle.plain_rounds.specs.declared.naming.NamedArgs.{NamedArgs}
use Rattle.plain_rounds.specs.declared.naming.NamedArgs.TheVariants as lists
use Rattle.plain_rounds.specs.declared.naming.NamedInstance.{NamedInstance}
use Rattle.plain_rounds.specs.declared.naming.NodeName.{NodeName}
use Rattle.plain_rounds.specs.declared.naming.NodeName.TheVariants as names
use Rattle.plain_rounds.specs.declared.naming.NamedArg.TheFolds.{the_lemmas}
use Rattle.plain_rounds.proofs.naming.NamedArg.TheLaws.{the_size as argument_size}
use Rattle.plain_rounds.proofs.naming.NamedArgs.TheLaws.{the_size as arguments_size}
use Rattle.plain_rounds.proofs.naming.NamedInstance.TheLaws.{the_size as instance_size}
use Rattle.plain_rounds.proofs.naming.NodeName.TheLaws.{the_size as node_size}

pub one_smaller : (xs : NamedArgs) (x : NamedArg) → xs ≡ lists.One x → argument_size x < arguments_size xs
one_smaller xs x is = grind (the_lemmas, arith)

pub two_smaller : (xs : NamedArgs) (x y : NamedArg) → xs ≡ lists.Two x y → (argument_size x < arguments_size xs) × (argument_size y < arguments_size xs)
two_smaller xs x y is = (grind (the_lemmas, arith), grind (the_lemmas, arith))

pub three_smaller : (xs : NamedArgs) (x y z : NamedArg) → xs ≡ lists.Three x y z → (argument_size x < arguments_size xs) × (argument_size y < arguments_size xs) × (argument_size z < arguments_size xs)
three_smaller xs x y z is = (grind (the_lemmas, arith), grind (the_lemmas, arith), grind (the_lemmas, arith))

pub maker_smaller : (n : NodeName) (b : Box NamedInstance Global) (q : ℕ) (i : NamedInstance) → n ≡ names.Made b q → i ≡ b.value → instance_size i < node_size n
maker_smaller n b q i is same = grind (the_lemmas, arith)

pub owner_smaller : (i : NamedInstance) → (node_size i.node < instance_size i) × (arguments_size i.args < instance_size i)
owner_smaller i = (grind (the_lemmas, arith), grind (the_lemmas, arith))
