-- The row of the attributes so far.
use Rattle.std.proofs.Common.{take}
use Rattle.superclasses.specs.Superclasses.{is_sub}
use Rattle.attr_rules.specs.Rules.{number_of_attribute}
use Rattle.attr_rules.proofs.FirstPlaces.{AreFirst}
use Rattle.attr_rules.proofs.attributes.row_of.Given as goal

abbrev pub invariant-loop-i : goal.invariant-loop-i
invariant-loop-i l = AreFirst number_of_attribute (λ a. is_sub l.subclasses l.class a.declared.class.0) (λ a. a.name) (take l.i l.kept) l.names l.row.items
