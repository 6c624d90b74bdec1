-- The calls go down the names.
use Rattle.plain_rounds.proofs.naming.NamedArg.TheLaws.{the_size as argument_size}
use Rattle.plain_rounds.proofs.naming.NamedArgs.TheLaws.{the_size as arguments_size}
use Rattle.plain_rounds.proofs.naming.NamedInstance.TheLaws.{the_size as instance_size}
use Rattle.plain_rounds.proofs.naming.NodeName.TheLaws.{the_size as node_size}
use Rattle.plain_rounds.proofs.coding.+codes.Given as goal

abbrev pub decreases-argument_code : goal.decreases-argument_code
decreases-argument_code a = argument_size a.argument.now

abbrev pub decreases-argument_codes : goal.decreases-argument_codes
decreases-argument_codes a = arguments_size a.arguments.now

abbrev pub decreases-instance_code : goal.decreases-instance_code
decreases-instance_code a = instance_size a.name.now

abbrev pub decreases-node_code : goal.decreases-node_code
decreases-node_code a = node_size a.name.now
