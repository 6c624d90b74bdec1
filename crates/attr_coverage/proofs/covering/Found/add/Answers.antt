use Rattle.std.proofs.Common.{ap, refl, rules, sym, ◌∙◌}
use Rattle.attr_coverage.specs.CoveringKept.{mark_at}
use Rattle.attr_coverage.proofs.Marks.{grown_one}
use Rattle.attr_coverage.proofs.covering.Found.add.Goals as goal

pub returns-in_ok-map_err-clause-grown : goal.returns-in_ok-map_err-clause-grown
returns-in_ok-map_err-clause-grown c =
    grown_one c.args.self.now _ c.args.class c.requires (ap (λ marks. mark_at marks c.args.class.0) (sym c.deref.ensures.value) ∙ sym c.is_marked.ensures ∙ c.if-not-is_marked.true) refl (search rules)
