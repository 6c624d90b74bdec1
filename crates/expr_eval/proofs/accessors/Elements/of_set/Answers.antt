-- The elements of a set are those at all its places.
use Rattle.std.proofs.Common.{◌≡◌, ℕ, length, map, ap, sym, ◌∙◌}
use Rattle.std.specs.List.{range_with_len}
use Rattle.std.proofs.lemmas.List.{length-map}
use Rattle.equation_law.specs.Codes.{single_by}
use Rattle.equation_law.specs.Meaning.{named}
use Rattle.expr_eval.proofs.Names.{all_named}
use Rattle.expr_eval.proofs.accessors.Elements.of_set.Goals as goal

pub returns-clause-all : goal.returns-clause-all
returns-clause-all g c n at =
    let values = map (single_by n) c.in_ok-values.values.items in
    let count : c.len-count.result ≡ length values = c.len-count.ensures ∙ c.in_ok-values.values.ok.0 ∙ sym (length-map c.in_ok-values.values.items (single_by n)) in
    ap (λ (m : ℕ). map (named values) (range_with_len 0 m)) count ∙ all_named values ∙ c.in_ok-values.ensures.list n at
