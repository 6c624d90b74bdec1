-- The value that is shown of what a reader holds: d is what it held first, and g what it holds then.
use Rattle.std.proofs.Common.{◌≡◌, ◌↔◌, ℕ, true, false, ◌+◌, ◌<◌, ◌≤◌, List, [], length, eqb, refl, subst, sym}
use Rattle.std.proofs.lemmas.Bool.{eq-eqb, eqb-true}
use Rattle.ast_grammar.specs.declared.grammar.ClassId.{ClassId}
use Rattle.attr_rules.specs.declared.kinds.Kind.{Kind}
use Rattle.attr_rules.specs.declared.kinds.Kind.TheVariants as kinds
use Rattle.attr_rules.specs.Rules.{is_single}
use Rattle.equation_law.specs.declared.coding.Value.TheVariants as coded
use Rattle.equation_law.specs.Equations.{kind_in}
use Rattle.equation_law.specs.Names.{Instance}
use Rattle.equation_law.specs.Spans.{IsBelow}
use Rattle.equation_law.proofs.Pooled.{texts_pooled}
use Rattle.memo_cells.specs.Naming.{IsCellOf}
use Rattle.memo_cells.specs.Showing.{IsWordSeen, ShowsTrue}
use Rattle.memo_cells.specs.Standing.{AreApproximations}
use Rattle.memo_cells.specs.Working.{HasKnownWordAt, Held, IsOwn, ReadsOn, ShowsWordAt, program_at}
use Rattle.memo_cells.proofs.Agreeing.{own_open}
use Rattle.memo_cells.proofs.Holding.{own_then}
use Rattle.memo_cells.proofs.Naming.{cell_later}
use Rattle.memo_cells.specs.SetShown.{AreCodesShown, AreCodesShownAt, IsShownValue}
use Rattle.memo_cells.proofs.SetValues.{nodes_shown, texts_shown, truth_shown}

module _ (d g : Held) (own : IsOwn d) (on : ReadsOn d g) (i : Instance) where
  now : AreApproximations (program_at d) g.view
  now = (own_then d g on.on).approximations

  word_true : (k : Kind) (r : ℕ) → k ≡ kinds.Truth → IsWordSeen (program_at d) g.view i k 0 r → (eqb r 1 ≡ true) ↔ ShowsTrue (program_at d) g.view i
  word_true k r kind seen =
      let both = (subst (λ (l : Kind). IsWordSeen (program_at d) g.view i l 0 r) kind seen).1 in
      ((λ e. both.0 (eqb-true r 1 e)), (λ h. eq-eqb r 1 (both.1 h)))

  pub truth_value : (place r : ℕ) → ShowsWordAt d g place 0 r → HasKnownWordAt d g place 0 r → IsCellOf (program_at d) d.frame d.view i place → kind_in (program_at d) i ≡ kinds.Truth → IsShownValue (program_at d) d.view g.view i (coded.Truth (eqb r 1))
  truth_value place r word settled cell kind =
      let there = cell_later d.view g.view on.on.kept (program_at d) d.frame i place cell in
      truth_shown (program_at d) d.view g.view on.on.kept own.approximations now (texts_pooled d.frame.system.value) (own_open d.frame d.view [] own) (own_open d.frame g.view [] (own_then d g on.on)) i r kind (word_true (kind_in (program_at d) i) r kind (word i there)) (settled i there)

  module _ (place from to : ℕ) (cs : List ℕ) (codes : AreCodesShownAt d g place from to cs) (cell : IsCellOf (program_at d) d.frame d.view i place) where
    codes_here : (k : Kind) → kind_in (program_at d) i ≡ k → is_single k ≡ false → AreCodesShown (program_at d) d.view g.view i from to cs
    codes_here k kind set = codes i cell (subst (λ (l : Kind). is_single l ≡ false) (sym kind) set)

    pub texts_value : from ≡ 0 → to ≡ length (program_at d).texts → kind_in (program_at d) i ≡ kinds.Texts → IsShownValue (program_at d) d.view g.view i (coded.Texts cs)
    texts_value first end kind =
        let shown = subst (λ (y : ℕ × ℕ). AreCodesShown (program_at d) d.view g.view i y.0 y.1 cs) (λ j. (first j, end j)) (codes_here kinds.Texts kind refl) in
        texts_shown (program_at d) d.view g.view on.on.kept own.approximations now (texts_pooled d.frame.system.value) (own_open d.frame d.view [] own) (own_open d.frame g.view [] (own_then d g on.on)) i cs kind shown

    pub nodes_value : (c : ClassId) (first end : ℕ) → from ≡ first + 1 → to ≡ end + 1 → ((n : ℕ) → IsBelow (program_at d).grammar (program_at d).tree c.0 n → (first ≤ n) × (n < end)) → kind_in (program_at d) i ≡ kinds.Nodes c → IsShownValue (program_at d) d.view g.view i (coded.Nodes cs)
    nodes_value c first end is_first is_end span kind =
        let shown = subst (λ (y : ℕ × ℕ). AreCodesShown (program_at d) d.view g.view i y.0 y.1 cs) (λ j. (is_first j, is_end j)) (codes_here (kinds.Nodes c) kind refl) in
        nodes_shown (program_at d) d.view g.view on.on.kept own.approximations now (texts_pooled d.frame.system.value) (own_open d.frame d.view [] own) (own_open d.frame g.view [] (own_then d g on.on)) i own.nothing c first end span cs kind shown
