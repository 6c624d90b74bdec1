use Rattle.std.proofs.Common.{◌≡◌, ℕ, Some, length, slice_get}
use Rattle.ast_rules.specs.Written.{WrittenRule, seen_rules}
use Rattle.ast_grammar.specs.Building.{IsKeptOf}
use Rattle.ast_grammar.specs.declared.grammar.KeptClass.{KeptClass}
use Rattle.ast_grammar.proofs.building.kept_classes.Given as goal

abbrev pub invariant-loop-i : goal.invariant-loop-i
invariant-loop-i l = record {
  count : length l.kept.items ≡ l.i;
  each : (k : ℕ) (rule : WrittenRule) (c : KeptClass) → slice_get (seen_rules l.rules) k ≡ Some rule → slice_get l.kept.items k ≡ Some c → IsKeptOf (seen_rules l.rules) k rule c;
}
