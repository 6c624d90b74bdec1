use Rattle.std.proofs.Common.{List, ℕ, slice_get, ap, sym, ◌∙◌}
use Rattle.circular_eval.proofs.Raised.{none_empty, set_full, set_late, set_may, set_more, set_none, set_refused}
use Rattle.circular_eval.proofs.raising.raise_set.Goals as goal

pub returns-in_err-minus : goal.returns-in_err-minus
returns-in_err-minus g c = set_refused (g.W.Words.held c.args.work.now) c.requires.own c.args.slot.0 c.args.set.now c.args.other.now c.from_residual.result c.from_residual.ensures

pub returns-in_err-codes : goal.returns-in_err-codes
returns-in_err-codes g c = set_refused (g.W.Words.held c.args.work.now) c.requires.own c.args.slot.0 c.args.set.now c.args.other.now c.from_residual-in_err-codes.result c.from_residual-in_err-codes.ensures

pub returns-in_default : goal.returns-in_default
returns-in_default g c = set_none c.args.slot.0 c.args.set.now c.args.other.now c.in_ok-minus.field-0 c.in_ok-minus.ensures (g.W.Words.held c.args.work.now) c.requires.own (none_empty c.in_ok-minus.field-0 (ap (λ (l : List ℕ). slice_get l 0) (sym (c.deref.ensures.value ∙ c.in_ok-codes.ensures)) ∙ sym c.first.ensures.value ∙ sym c.copied.ensures ∙ c.in_default.is))

pub raise_codes-requires-clause-own : goal.raise_codes-requires-clause-own
raise_codes-requires-clause-own g c = c.requires.own

pub raise_codes-requires-clause-may : goal.raise_codes-requires-clause-may
raise_codes-requires-clause-may g c = (c.requires.may.0, set_may c.args.slot.0 c.args.set.now c.args.other.now c.in_ok-minus.field-0 c.in_ok-minus.ensures (g.W.Words.held c.args.work.now) c.deref-2.result.now (c.deref-2.ensures.value ∙ c.in_ok-codes.ensures) c.requires.may.0 c.requires.may.1)

pub returns-in_err-raise_codes : goal.returns-in_err-raise_codes
returns-in_err-raise_codes g c = set_full c.args.slot.0 c.args.set.now c.args.other.now c.in_ok-minus.field-0 c.in_ok-minus.ensures (g.W.Words.held c.args.work.now) c.deref-2.result.now (c.deref-2.ensures.value ∙ c.in_ok-codes.ensures) (g.W.Words.held c.raise_codes.new.work) c.raise_codes.ensures.on c.raise_codes.ensures.claims c.in_err-raise_codes.ensures.full c.from_residual-in_err-raise_codes.result c.from_residual-in_err-raise_codes.ensures

pub returns-in_err-union : goal.returns-in_err-union
returns-in_err-union g c = set_late c.args.slot.0 c.args.set.now c.args.other.now c.in_ok-minus.field-0 c.in_ok-minus.ensures (g.W.Words.held c.args.work.now) c.deref-2.result.now (c.deref-2.ensures.value ∙ c.in_ok-codes.ensures) (g.W.Words.held c.raise_codes.new.work) c.raise_codes.ensures.on c.raise_codes.ensures.claims c.from_residual-in_err-union.result c.from_residual-in_err-union.ensures

pub returns : goal.returns
returns g c = set_more c.args.slot.0 c.args.set.now c.args.other.now c.in_ok-minus.field-0 c.in_ok-minus.ensures (g.W.Words.held c.args.work.now) c.deref-2.result.now (c.deref-2.ensures.value ∙ c.in_ok-codes.ensures) (g.W.Words.held c.raise_codes.new.work) c.raise_codes.ensures.on c.raise_codes.ensures.claims c.in_ok-raise_codes.ensures.shown c.in_ok-union.field-0 c.in_ok-union.ensures c.in-Some.first (ap (λ (l : List ℕ). slice_get l 0) (c.deref-2.ensures.value ∙ sym c.deref.ensures.value) ∙ sym c.first.ensures.value ∙ sym c.copied.ensures ∙ c.in-Some.is) c.bounded.ensures
