use Rattle.std.proofs.Common.{◌≡◌, ap, map, subst, sym, ◌∙◌}
use Rattle.broken_rules.specs.Answers.{Ends}
use Rattle.attr_coverage.specs.Completeness.{complete_broken, places_of, roots_of}
use Rattle.attr_coverage.specs.Created.{made_of}
use Rattle.attr_coverage.specs.Dispatched.{HasMade, numbers_of}
use Rattle.attr_scope.specs.Seen.{seen_given, seen_head}
use Rattle.attr_coverage.proofs.completeness.check_completeness.Goals as goal

pub returns : goal.returns
returns c = λ targets known.
    let g = c.args.grammar.now in
    let attributes = c.args.attributes.now.attributes in
    let roots : numbers_of c.deref.result.now ≡ roots_of g (map seen_given c.args.equations.now) = ap numbers_of c.deref.ensures.value ∙ c.in_ok-roots.ensures in
    let places : c.deref-3.result.now ≡ places_of (map seen_head c.args.heads.now) = c.deref-3.ensures.value ∙ c.in_ok-places.ensures in
    let made = made_of g attributes targets (numbers_of c.deref.result.now) in
    let has : HasMade made c.deref-2.result.now = subst (HasMade made) (sym c.deref-2.ensures.value) (c.in_ok-made.ensures.made targets known) in
    subst (λ list. Ends list c.check_attributes.result) (λ i. complete_broken g attributes targets (roots i) (places i)) (c.check_attributes.ensures targets known made has)
