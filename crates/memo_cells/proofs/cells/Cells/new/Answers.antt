use Rattle.std.proofs.Common.{◌≡◌, List, [], ℕ, arith, length, refl, sym, ap, ◌∙◌, subst}
use Rattle.std.proofs.lemmas.List.{length-replicate}
use Rattle.std.specs.declared.snapshot.Snapshot.{Snapshot}
use Rattle.equation_law.specs.declared.system.System.{System}
use Rattle.equation_law.specs.Checked.{HasSourcesAlone}
use Rattle.equation_law.specs.Systems.{program_of}
use Rattle.memo_cells.specs.declared.view.Frame.{Frame}
use Rattle.memo_cells.specs.declared.view.View.{View}
use Rattle.memo_cells.specs.Standing.{AreWords, IsPassOf, IsTold}
use Rattle.memo_cells.specs.Views.{first_view, framed}
use Rattle.memo_cells.proofs.Facts.{first_own, no_trees}
use Rattle.memo_cells.proofs.Fresh.{first_told, fresh_words}
use Rattle.memo_cells.proofs.cells.Cells.new.Goals as goal

-- of the system that is kept
its_bare : (s : System) (f : Frame) → f.system.value ≡ s → HasSourcesAlone (program_of s) → HasSourcesAlone (program_of f.system.value)
its_bare s f is bare = subst (λ (t : System). HasSourcesAlone (program_of t)) (sym is) bare

pub returns : goal.returns
returns c =
    let one : c.of-3.result ≡ c.of.result = λ i. record { marker = c.of.result.marker; value = (c.of-3.ensures ∙ sym c.of.ensures) i } in
    let f : Frame = framed c.of.result c.args.cells in
    let first : c.nothing_known.result.value ≡ first_view f = c.nothing_known.ensures ∙ ap (λ (s : Snapshot System). first_view (framed s c.args.cells)) one in
    record { system = c.of.ensures; cells = refl; first = first; own = subst (λ (v : View). IsPassOf f v) (sym first) (first_own f c.requires.size.1 (its_bare c.args.system.now f c.of.ensures c.requires.bare) (no_trees f (its_bare c.args.system.now f c.of.ensures c.requires.bare))) }

pub invariant_of-pass : goal.invariant_of-pass
invariant_of-pass c =
    let one : c.of-3.result ≡ c.of-2.result = λ i. record { marker = c.of.result.marker; value = (c.of-3.ensures ∙ sym c.of-2.ensures) i } in
    let f : Frame = framed c.of-2.result c.args.cells in
    let first : c.nothing_known.result.value ≡ first_view f = c.nothing_known.ensures ∙ ap (λ (s : Snapshot System). first_view (framed s c.args.cells)) one in (
      omega (arith, c.requires.size.0),
      ap length c.in_ok-keys.ensures ∙ length-replicate c.args.cells 0,
      ap length c.in_ok-values.ensures ∙ length-replicate c.args.cells 0,
      subst (λ (y : List ℕ × List ℕ × View). AreWords f y.2.made [] y.0 y.1) (λ i. (sym c.in_ok-keys.ensures i, sym c.in_ok-values.ensures i, sym first i)) (fresh_words f (its_bare c.args.system.now f c.of-2.ensures c.requires.bare) (no_trees f (its_bare c.args.system.now f c.of-2.ensures c.requires.bare)) c.args.cells),
      subst (λ (y : List ℕ × List ℕ × View). IsTold f y.2.made y.0 y.1 y.2) (λ i. (sym c.in_ok-keys.ensures i, sym c.in_ok-values.ensures i, sym first i)) (first_told f c.args.cells),
    )
