use Rattle.std.proofs.Common.{rules, ◌≡◌, ◌+◌, ◌<◌, ◌≤◌, ℕ, length, refl, subst, sym, ◌∙◌}
use Rattle.equation_law.specs.declared.system.System.{System}
use Rattle.equation_law.specs.Spans.{IsBelow}
use Rattle.equation_law.specs.Systems.{program_of}
use Rattle.memo_cells.proofs.SetHolding.{nodes_value, texts_value, truth_value}
use Rattle.memo_cells.proofs.set_showing.value_shown.Goals as goal

pub returns-in-Truth-clause-shown : goal.returns-in-Truth-clause-shown
returns-in-Truth-clause-shown g c = λ i cell kind ordered.
    truth_value (g.W.Words.held c.args.work.now) (g.W.Words.held c.word.new.self) c.requires.own c.word.ensures.on i c.args.slot.0 c.word.result c.word.ensures.word c.word.ensures.settled cell (kind ∙ c.in-Truth.is)

pub returns-in_ok-codes_shown-in-Texts-clause-shown : goal.returns-in_ok-codes_shown-in-Texts-clause-shown
returns-in_ok-codes_shown-in-Texts-clause-shown g c = λ i cell kind ordered.
    texts_value (g.W.Words.held c.args.work.now) (g.W.Words.held c.codes_shown.new.work) c.requires.own c.codes_shown.ensures.on i c.args.slot.0 0 c.len-texts.result c.in_ok-codes_shown-in-Texts.field-0 c.in_ok-codes_shown-in-Texts.ensures.shown cell refl (subst (λ (s : System). c.len-texts.result ≡ length (program_of s).texts) (sym c.requires.same) (search rules)) (kind ∙ c.in-Texts.is)

pub returns-in_ok-codes_shown-in-Nodes-clause-shown : goal.returns-in_ok-codes_shown-in-Nodes-clause-shown
returns-in_ok-codes_shown-in-Nodes-clause-shown g c = λ i cell kind ordered.
    nodes_value (g.W.Words.held c.args.work.now) (g.W.Words.held c.codes_shown-in-Nodes.new.work) c.requires.own c.codes_shown-in-Nodes.ensures.on i c.args.slot.0 (c.span-span.result.first + 1) (c.span-span.result.end + 1) c.in_ok-codes_shown-in-Nodes.field-0 c.in_ok-codes_shown-in-Nodes.ensures.shown cell c.in-Nodes.class c.span-span.result.first c.span-span.result.end refl refl
    (subst (λ (s : System). (n : ℕ) → IsBelow (program_of s).grammar (program_of s).tree c.in-Nodes.class.0 n → (c.span-span.result.first ≤ n) × (n < c.span-span.result.end)) (sym c.requires.same) c.span-span.ensures.all) (kind ∙ c.in-Nodes.is)
