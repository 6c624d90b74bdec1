-- What a pass may, the table may: a condition of a step asks of a view only what stays, so it goes over to any view that knows at least as much.
use Rattle.std.proofs.Common.{ℕ, ◌+◌, ◌*◌, List, inl, inr, ⊎_elim}
use Rattle.equation_law.specs.Equations.{kind_in}
use Rattle.equation_law.specs.Names.{Instance}
use Rattle.equation_law.specs.Program.{Program}
use Rattle.equation_law.specs.Values.{Value}
use Rattle.memo_cells.specs.declared.view.Frame.{Frame}
use Rattle.memo_cells.specs.declared.view.View.{View}
use Rattle.memo_cells.specs.Standing.{AreElementsOf, ComesTo, Knows, MayAdd, MayRaise, MayRaiseSet, MayRaiseTruth, MaySeal, MaySettle, MayShow}
use Rattle.memo_cells.specs.Views.{IsAtLeast}
use Rattle.memo_cells.proofs.Agreeing.{element_later, has_code_later}
use Rattle.memo_cells.proofs.Naming.{cell_later, knows_later, stands_later, word_later}
use Rattle.memo_cells.proofs.Showing.{settled_later, values_shown_later}

module _ (p : Program) (v w : View) (more : IsAtLeast v w) where
  comes_later : (i : Instance) (x : Value) → ComesTo p v i x → ComesTo p w i x
  comes_later i x h = record { below = h.below; shown = values_shown_later p v w more h.below h.shown; demands = h.demands; ends = h.ends }

  pub may_show_later : (i : Instance) (x : Value) → MayShow p v i x → MayShow p w i x
  may_show_later i x h = ⊎_elim (λ a. inl (a.0, comes_later i x a.1)) inr h

  pub may_settle_later : (place code : ℕ) → MaySettle p v place code → MaySettle p w place code
  may_settle_later place code h = record {
    key = h.key;
    here = more.keys place h.key h.here;
    settled = settled_later p v w more (λ i j. Knows p v j) (λ i j. Knows p w j) h.key code h.settled (λ j k. knows_later v w more p j k);
    undeclared = h.undeclared;
  }

  pub may_raise_truth_later : (place : ℕ) → MayRaiseTruth p v place → MayRaiseTruth p w place
  may_raise_truth_later place h = record { of = h.of; key = h.key; here = more.keys place h.key h.here; stands = stands_later v w more p h.key h.of h.stands; is_circular = h.is_circular; kind = h.kind; value = h.value; comes = comes_later h.of h.value h.comes; is_true = h.is_true }

  pub elements_later : (i : Instance) (x : Value) (n bits : ℕ) → AreElementsOf p v.made i x n bits → AreElementsOf p w.made i x n bits
  elements_later i x n bits h b low one = let it = h b low one in (element_later p more.made (kind_in p i) (64 * n + b) it.0, has_code_later p more.made (kind_in p i) x (64 * n + b) it.1)

  pub may_raise_set_later : (place x bits : ℕ) → MayRaiseSet p v place x bits → MayRaiseSet p w place x bits
  may_raise_set_later place x bits h = record { of = h.of; key = h.key; here = more.keys place h.key h.here; stands = stands_later v w more p h.key h.of h.stands; instance = h.instance; value = h.value; may = may_show_later h.of h.value h.may; elements = elements_later h.of h.value x bits h.elements }

  pub may_raise_later : (place x bits : ℕ) → MayRaise p v place x bits → MayRaise p w place x bits
  may_raise_later place x bits h = ⊎_elim (λ t. inl (may_raise_truth_later place t.0, t.1, t.2)) (λ s. inr (may_raise_set_later place x bits s)) h

  pub may_add_later : (place bits : ℕ) → MayAdd p v place bits → MayAdd p w place bits
  may_add_later place bits h = record { of = h.of; key = h.key; word = h.word; here = more.keys place h.key h.here; is = word_later v w more p h.key h.of h.word h.is; value = h.value; may = may_show_later h.of h.value h.may; elements = elements_later h.of h.value h.word bits h.elements }

  pub may_seal_later : (f : Frame) (slots : List ℕ) → MaySeal p f v slots → MaySeal p f w slots
  may_seal_later f slots h = record {
    set = h.set;
    values = h.values;
    shown = values_shown_later p v w more h.values h.shown;
    slot_of = λ i m. let at = h.slot_of i m in (at.0, at.1, cell_later v w more p f i at.0 at.2);
    stands = λ s has. let at = h.stands s has in (at.0, at.1, cell_later v w more p f at.0 s at.2);
    instances = h.instances;
    holds = h.holds;
    known = λ i j m meets. ⊎_elim inl (λ k. inr (knows_later v w more p j k)) (h.known i j m meets);
  }
