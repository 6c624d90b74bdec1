use Rattle.attr_coverage.specs.Completeness.{place_of}
use Rattle.attr_scope.proofs.Gathering.{Makes}
use Rattle.attr_scope.specs.Seen.{seen_head}
use Rattle.attr_coverage.proofs.completeness.places_of.Given as goal

abbrev pub invariant-loop-head : goal.invariant-loop-head
invariant-loop-head l = Makes (λ p. p) place_of seen_head l.heads l.head-index l.list.items
