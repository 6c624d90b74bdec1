use Rattle.std.proofs.Common.{◌≡◌, ℕ, List, ap, sym, subst, ◌∙◌}
use Rattle.attr_rules.specs.declared.kinds.Kind.{Kind}
use Rattle.equation_law.specs.Codes.{IsCode, value_by, value_coded}
use Rattle.equation_law.specs.Names.{OfText}
use Rattle.equation_law.specs.Systems.{program_of}
use Rattle.equation_law.specs.Values.{as_argument}
use Rattle.set_values.proofs.TextCodes.{first_text_by}
use Rattle.expr_eval.proofs.Given.{coded_argument, small_code, text_is}
use Rattle.expr_eval.proofs.evaluation.argument_code.Goals as goal

pub returns-then-is_text-clause-code : goal.returns-then-is_text-clause-code
returns-then-is_text-clause-code c =
    let text = text_is c.args.kind (sym c.is_text.ensures ∙ c.if-is_text.true) in
    subst (λ (k : Kind). IsCode (program_of c.args.system.now) k c.known_text.result) (sym text) c.known_text.ensures.within

pub returns-then-is_text-clause-value : goal.returns-then-is_text-clause-value
returns-then-is_text-clause-value c n is =
    let text = text_is c.args.kind (sym c.is_text.ensures ∙ c.if-is_text.true) in
    let same = subst (λ (f : ℕ → List ℕ). f c.known_text.result ≡ f c.text.result.0) (sym is.texts) c.known_text.ensures.text ∙ c.text.ensures n (first_text_by c.args.system.now is) in
    subst (λ (k : Kind). as_argument k (value_coded n k c.known_text.result) ≡ as_argument k (value_by n c.args.value)) (sym text) (ap OfText same)

pub returns-clause-code : goal.returns-clause-code
returns-clause-code c = small_code (program_of c.args.system.now) c.args.kind c.code.result (sym c.is_text.ensures ∙ c.if-is_text.false) c.code.ensures.small c.code.type_inv

pub returns-clause-value : goal.returns-clause-value
returns-clause-value c n is = coded_argument n c.args.kind c.code.result (value_by n c.args.value) (c.code.ensures.value n (first_text_by c.args.system.now is))
