use Rattle.std.proofs.Common.{ℕ, ◌&&◌, Bool, List, ap, ◌∙◌}
use Rattle.std.specs.List.{list_any}
use Rattle.ast_grammar.specs.Grammar.{is_sub}
use Rattle.attr_scope.specs.Classes.{class_numbers}
use Rattle.attr_coverage.specs.Covering.{is_concrete}
use Rattle.attr_coverage.specs.CoveringKept.{mark_at}
use Rattle.attr_coverage.proofs.completeness.is_open.Goals as goal

pub returns : goal.returns
returns c = λ targets known made has.
    let g = c.args.grammar.now in
    let d = c.args.declared.0 in
    c.is_marked_below.ensures ∙ ap (λ (marks : List Bool). list_any (λ k. is_concrete g k && (is_sub g k d && mark_at marks k)) (class_numbers g)) c.deref.ensures.value
    ∙ ap (λ (test : ℕ → Bool). list_any test (class_numbers g)) (λ i k. is_concrete g k && (is_sub g k d && c.in_ok-marks.ensures targets known made has k i))
