-- The row of the attributes so far.
use Rattle.std.proofs.Common.{take}
use Rattle.attr_rules.specs.Rules.{is_inherited, number_of_attribute}
use Rattle.attr_rules.proofs.FirstPlaces.{AreFirst}
use Rattle.attr_rules.proofs.attributes.first_inherited.Given as goal

abbrev pub invariant-loop-i : goal.invariant-loop-i
invariant-loop-i l = AreFirst number_of_attribute (λ a. is_inherited a.declared.sort) (λ a. a.name) (take l.i l.kept) l.names l.row.items
