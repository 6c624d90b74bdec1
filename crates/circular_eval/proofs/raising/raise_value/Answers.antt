use Rattle.std.proofs.Common.{rules, ℕ, List, Option, Some, None, Ok, subst}
use Rattle.equation_law.specs.Equations.{kind_in}
use Rattle.memo_cells.specs.Working.{program_at}
use Rattle.memo_cells.proofs.Showing.{not_both}
use Rattle.equation_law.specs.declared.coding.Value.TheVariants as coded
use Rattle.circular_eval.specs.Rising.{RaisesSet}
use Rattle.circular_eval.proofs.ValueRaised.{as_coded, handed_on, may_coded, nodes_raised, not_nodes, not_single, not_texts, not_truth, nodes_show, texts_raised, texts_show, truth_full, truth_may, truth_more, truth_none}
use Rattle.circular_eval.proofs.raising.raise_value.Goals as goal
use Rattle.circular_eval.proofs.raising.raise_value.Goals.{then-other-via-then-other, then-other-via-else-other+then-not-value, in_default-via-in-Truth+in_default, in_default-via-in-Texts+in_default, in_default-via-in-Nodes+in_default, in_default-via-in_default}

pub returns-then-other : goal.returns-then-other
returns-then-other g c =
    as_coded (g.W.Words.held c.args.work.now) (g.W.Words.held c.args.work.now) c.args.slot.0 c.args.value.now c.args.other.now (coded.Truth c.in-Truth-Truth.value) (coded.Truth c.in-Truth-Truth.other) _ c.in-Truth-Truth.is-0 c.in-Truth-Truth.is-1
    (truth_none (g.W.Words.held c.args.work.now) c.requires.own c.args.slot.0 c.in-Truth-Truth.value c.in-Truth-Truth.other (elim c.then-other.branch [ then-other-via-then-other w ↦ λ h. w.if-other.true | then-other-via-else-other+then-not-value w ↦ λ h. absurd (not_both w.if-not-value.true h) ]))

pub raise-requires-clause-own : goal.raise-requires-clause-own
raise-requires-clause-own g c = c.requires.own

pub raise-requires-clause-slot : goal.raise-requires-clause-slot
raise-requires-clause-slot g c = c.requires.may.2.1.cell.1.0

pub raise-requires-clause-may : goal.raise-requires-clause-may
raise-requires-clause-may g c = truth_may (g.W.Words.held c.args.work.now) c.requires.may.0 c.requires.may.2.0 c.args.slot.0 c.in-Truth-Truth.value c.in-Truth-Truth.other c.if-not-value.false (may_coded (g.W.Words.held c.args.work.now) c.requires.may.0 c.requires.may.2.0 c.args.slot.0 c.args.value.now c.args.other.now (coded.Truth c.in-Truth-Truth.value) (coded.Truth c.in-Truth-Truth.other) c.in-Truth-Truth.is-0 c.in-Truth-Truth.is-1 c.requires.may.2.1)

pub raise-requires-clause-some : goal.raise-requires-clause-some
raise-requires-clause-some g c = search rules

pub returns-in_err-raise-in-Truth-Truth : goal.returns-in_err-raise-in-Truth-Truth
returns-in_err-raise-in-Truth-Truth g c =
    as_coded (g.W.Words.held c.args.work.now) (g.W.Words.held c.raise.new.self) c.args.slot.0 c.args.value.now c.args.other.now (coded.Truth c.in-Truth-Truth.value) (coded.Truth c.in-Truth-Truth.other) c.from_residual.result c.in-Truth-Truth.is-0 c.in-Truth-Truth.is-1
    (truth_full (g.W.Words.held c.args.work.now) (g.W.Words.held c.raise.new.self) c.args.slot.0 c.in-Truth-Truth.value c.in-Truth-Truth.other c.raise.ensures.on c.raise.ensures.truth c.in_err-raise-in-Truth-Truth.ensures.set c.from_residual.result)

pub raise_set-requires-clause-own : goal.raise_set-requires-clause-own
raise_set-requires-clause-own g c = c.requires.own

pub raise_set-requires-clause-may : goal.raise_set-requires-clause-may
raise_set-requires-clause-may g c = (c.requires.may.2.0, texts_show (g.W.Words.held c.args.work.now) c.requires.may.0 c.requires.may.1 c.requires.may.2.0 c.args.slot.0 c.in-Texts-Texts.set (coded.Texts c.in-Texts-Texts.other) (may_coded (g.W.Words.held c.args.work.now) c.requires.may.0 c.requires.may.2.0 c.args.slot.0 c.args.value.now c.args.other.now (coded.Texts c.in-Texts-Texts.set) (coded.Texts c.in-Texts-Texts.other) c.in-Texts-Texts.is-0 c.in-Texts-Texts.is-1 c.requires.may.2.1))

pub returns-in_err-raise_set-in-Texts-Texts : goal.returns-in_err-raise_set-in-Texts-Texts
returns-in_err-raise_set-in-Texts-Texts g c =
    as_coded (g.W.Words.held c.args.work.now) (g.W.Words.held c.raise_set.new.work) c.args.slot.0 c.args.value.now c.args.other.now (coded.Texts c.in-Texts-Texts.set) (coded.Texts c.in-Texts-Texts.other) c.from_residual-in_err-raise_set-in-Texts-Texts.result c.in-Texts-Texts.is-0 c.in-Texts-Texts.is-1
    (handed_on (g.W.Words.held c.args.work.now) (g.W.Words.held c.raise_set.new.work) c.args.slot.0 (coded.Texts c.in-Texts-Texts.set) (coded.Texts c.in-Texts-Texts.other) c.in_err-raise_set-in-Texts-Texts.field-0.0 c.from_residual-in_err-raise_set-in-Texts-Texts.result c.from_residual-in_err-raise_set-in-Texts-Texts.ensures
    (texts_raised (g.W.Words.held c.args.work.now) (g.W.Words.held c.raise_set.new.work) c.args.slot.0 c.in-Texts-Texts.set c.in-Texts-Texts.other _ c.in_err-raise_set-in-Texts-Texts.ensures))

pub raise_set-requires-in-Nodes-Nodes-clause-own : goal.raise_set-requires-in-Nodes-Nodes-clause-own
raise_set-requires-in-Nodes-Nodes-clause-own g c = c.requires.own

pub raise_set-requires-in-Nodes-Nodes-clause-may : goal.raise_set-requires-in-Nodes-Nodes-clause-may
raise_set-requires-in-Nodes-Nodes-clause-may g c = (c.requires.may.2.0, nodes_show (g.W.Words.held c.args.work.now) c.requires.may.0 c.requires.may.1 c.requires.may.2.0 c.args.slot.0 c.in-Nodes-Nodes.set (coded.Nodes c.in-Nodes-Nodes.other) (may_coded (g.W.Words.held c.args.work.now) c.requires.may.0 c.requires.may.2.0 c.args.slot.0 c.args.value.now c.args.other.now (coded.Nodes c.in-Nodes-Nodes.set) (coded.Nodes c.in-Nodes-Nodes.other) c.in-Nodes-Nodes.is-0 c.in-Nodes-Nodes.is-1 c.requires.may.2.1))

pub returns-in_err-raise_set-in-Nodes-Nodes : goal.returns-in_err-raise_set-in-Nodes-Nodes
returns-in_err-raise_set-in-Nodes-Nodes g c =
    as_coded (g.W.Words.held c.args.work.now) (g.W.Words.held c.raise_set-in-Nodes-Nodes.new.work) c.args.slot.0 c.args.value.now c.args.other.now (coded.Nodes c.in-Nodes-Nodes.set) (coded.Nodes c.in-Nodes-Nodes.other) c.from_residual-in_err-raise_set-in-Nodes-Nodes.result c.in-Nodes-Nodes.is-0 c.in-Nodes-Nodes.is-1
    (handed_on (g.W.Words.held c.args.work.now) (g.W.Words.held c.raise_set-in-Nodes-Nodes.new.work) c.args.slot.0 (coded.Nodes c.in-Nodes-Nodes.set) (coded.Nodes c.in-Nodes-Nodes.other) c.in_err-raise_set-in-Nodes-Nodes.field-0.0 c.from_residual-in_err-raise_set-in-Nodes-Nodes.result c.from_residual-in_err-raise_set-in-Nodes-Nodes.ensures
    (nodes_raised (g.W.Words.held c.args.work.now) (g.W.Words.held c.raise_set-in-Nodes-Nodes.new.work) c.args.slot.0 c.in-Nodes-Nodes.set c.in-Nodes-Nodes.other _ c.in_err-raise_set-in-Nodes-Nodes.ensures))

pub returns-in_ok-raise-in-Truth-Truth : goal.returns-in_ok-raise-in-Truth-Truth
returns-in_ok-raise-in-Truth-Truth g c =
    as_coded (g.W.Words.held c.args.work.now) (g.W.Words.held c.raise.new.self) c.args.slot.0 c.args.value.now c.args.other.now (coded.Truth c.in-Truth-Truth.value) (coded.Truth c.in-Truth-Truth.other) _ c.in-Truth-Truth.is-0 c.in-Truth-Truth.is-1
    (truth_more (g.W.Words.held c.args.work.now) (g.W.Words.held c.raise.new.self) c.args.slot.0 c.in-Truth-Truth.value c.in-Truth-Truth.other c.raise.ensures.on c.raise.ensures.truth c.if-not-value.false c.if-other.false c.in_ok-raise-in-Truth-Truth.field-0 c.in_ok-raise-in-Truth-Truth.ensures.raised)

pub returns-in-None : goal.returns-in-None
returns-in-None g c =
    as_coded (g.W.Words.held c.args.work.now) (g.W.Words.held c.raise_set.new.work) c.args.slot.0 c.args.value.now c.args.other.now (coded.Texts c.in-Texts-Texts.set) (coded.Texts c.in-Texts-Texts.other) (Ok None) c.in-Texts-Texts.is-0 c.in-Texts-Texts.is-1
    (texts_raised (g.W.Words.held c.args.work.now) (g.W.Words.held c.raise_set.new.work) c.args.slot.0 c.in-Texts-Texts.set c.in-Texts-Texts.other (Ok None)
    (subst (λ (o : Option (List ℕ)). RaisesSet (g.W.Words.held c.args.work.now) (g.W.Words.held c.raise_set.new.work) c.args.slot.0 c.in-Texts-Texts.set c.in-Texts-Texts.other (Ok o)) c.in-None.is c.in_ok-raise_set-in-Texts-Texts.ensures))

pub returns-in-Some : goal.returns-in-Some
returns-in-Some g c =
    as_coded (g.W.Words.held c.args.work.now) (g.W.Words.held c.raise_set.new.work) c.args.slot.0 c.args.value.now c.args.other.now (coded.Texts c.in-Texts-Texts.set) (coded.Texts c.in-Texts-Texts.other) (Ok (Some (coded.Texts c.in-Some.both))) c.in-Texts-Texts.is-0 c.in-Texts-Texts.is-1
    (texts_raised (g.W.Words.held c.args.work.now) (g.W.Words.held c.raise_set.new.work) c.args.slot.0 c.in-Texts-Texts.set c.in-Texts-Texts.other (Ok (Some c.in-Some.both))
    (subst (λ (o : Option (List ℕ)). RaisesSet (g.W.Words.held c.args.work.now) (g.W.Words.held c.raise_set.new.work) c.args.slot.0 c.in-Texts-Texts.set c.in-Texts-Texts.other (Ok o)) c.in-Some.is c.in_ok-raise_set-in-Texts-Texts.ensures))

pub returns-in-None-2 : goal.returns-in-None-2
returns-in-None-2 g c =
    as_coded (g.W.Words.held c.args.work.now) (g.W.Words.held c.raise_set-in-Nodes-Nodes.new.work) c.args.slot.0 c.args.value.now c.args.other.now (coded.Nodes c.in-Nodes-Nodes.set) (coded.Nodes c.in-Nodes-Nodes.other) (Ok None) c.in-Nodes-Nodes.is-0 c.in-Nodes-Nodes.is-1
    (nodes_raised (g.W.Words.held c.args.work.now) (g.W.Words.held c.raise_set-in-Nodes-Nodes.new.work) c.args.slot.0 c.in-Nodes-Nodes.set c.in-Nodes-Nodes.other (Ok None)
    (subst (λ (o : Option (List ℕ)). RaisesSet (g.W.Words.held c.args.work.now) (g.W.Words.held c.raise_set-in-Nodes-Nodes.new.work) c.args.slot.0 c.in-Nodes-Nodes.set c.in-Nodes-Nodes.other (Ok o)) c.in-None-2.is c.in_ok-raise_set-in-Nodes-Nodes.ensures))

pub returns-in-Some-2 : goal.returns-in-Some-2
returns-in-Some-2 g c =
    as_coded (g.W.Words.held c.args.work.now) (g.W.Words.held c.raise_set-in-Nodes-Nodes.new.work) c.args.slot.0 c.args.value.now c.args.other.now (coded.Nodes c.in-Nodes-Nodes.set) (coded.Nodes c.in-Nodes-Nodes.other) (Ok (Some (coded.Nodes c.in-Some-2.both))) c.in-Nodes-Nodes.is-0 c.in-Nodes-Nodes.is-1
    (nodes_raised (g.W.Words.held c.args.work.now) (g.W.Words.held c.raise_set-in-Nodes-Nodes.new.work) c.args.slot.0 c.in-Nodes-Nodes.set c.in-Nodes-Nodes.other (Ok (Some c.in-Some-2.both))
    (subst (λ (o : Option (List ℕ)). RaisesSet (g.W.Words.held c.args.work.now) (g.W.Words.held c.raise_set-in-Nodes-Nodes.new.work) c.args.slot.0 c.in-Nodes-Nodes.set c.in-Nodes-Nodes.other (Ok o)) c.in-Some-2.is c.in_ok-raise_set-in-Nodes-Nodes.ensures))

pub returns-in_default : goal.returns-in_default
returns-in_default g c = absurd (elim c.in_default.branch [ in_default-via-in-Truth+in_default w ↦ not_truth (program_at (g.W.Words.held c.args.work.now)) c.requires.may.0 (kind_in (program_at (g.W.Words.held c.args.work.now)) c.requires.may.2.0) c.args.value.now c.args.other.now c.requires.may.2.1.typed c.requires.may.2.1.fits w.in_default.field-0-0 w.in_default.is-0 w.in_default.not-Truth-1 | in_default-via-in-Texts+in_default w ↦ not_texts (program_at (g.W.Words.held c.args.work.now)) c.requires.may.0 (kind_in (program_at (g.W.Words.held c.args.work.now)) c.requires.may.2.0) c.args.value.now c.args.other.now c.requires.may.2.1.typed c.requires.may.2.1.fits w.in_default.field-0-0 w.in_default.is-0 w.in_default.not-Texts-1 | in_default-via-in-Nodes+in_default w ↦ not_nodes (program_at (g.W.Words.held c.args.work.now)) c.requires.may.0 (kind_in (program_at (g.W.Words.held c.args.work.now)) c.requires.may.2.0) c.args.value.now c.args.other.now c.requires.may.2.1.typed c.requires.may.2.1.fits w.in_default.field-0-0 w.in_default.is-0 w.in_default.not-Nodes-1 | in_default-via-in_default w ↦ not_single (program_at (g.W.Words.held c.args.work.now)) c.requires.may.0 (kind_in (program_at (g.W.Words.held c.args.work.now)) c.requires.may.2.0) c.args.value.now c.args.other.now c.requires.may.2.1.typed c.requires.may.2.1.fits w.in_default.not-Truth-0 w.in_default.not-Texts-0 w.in_default.not-Nodes-0 ])
