use Rattle.std.proofs.Common.{rules, sym, ◌∙◌}
use Rattle.std.proofs.lemmas.List.{map-id}
use Rattle.rag_io.specs.declared.token.Place.{Place}
use Rattle.attr_coverage.specs.Completeness.{place_of}
use Rattle.attr_scope.proofs.Gathering.{makes_all, makes_more, makes_start}
use Rattle.attr_scope.specs.Seen.{seen_head}
use Rattle.attr_coverage.proofs.completeness.places_of.Goals as goal

pub loop-head-init : goal.loop-head-init
loop-head-init c = search (rules, makes_start)

pub loop-head-preserved : goal.loop-head-preserved
loop-head-preserved c = search (rules, makes_more)

pub returns : goal.returns
returns c = sym (map-id c.loop-head.list.items) ∙ makes_all (λ (p : Place). p) place_of seen_head c.args.heads.now c.loop-head.invariant c.loop-head-test.false
