use Rattle.std.proofs.Common.{◌+ℤ◌, ◌∙◌, ap, sym}
use Rattle.std.specs.Int.{int_wrap}
use Rattle.std.proofs.lemmas.Int.{to_z-of_z}
use Rattle.std.proofs.lemmas.Result.{IfOk-weaker}
use mir.Syntax.{w32}
use Rattle.attr_rules.specs.declared.expression.SetOperator.TheVariants.{Union}
use Rattle.attr_rules.specs.declared.kinds.Method.{Method}
use Rattle.equation_law.specs.Codes.{value_by}
use Rattle.equation_law.specs.Collections.{combine}
use Rattle.equation_law.specs.Values.{Int, set_operate}
use Rattle.collection_attrs.proofs.combining.combine.Goals as goal

pub returns-in_ok-one-in-Add-clause-value : goal.returns-in_ok-one-in-Add-clause-value
returns-in_ok-one-in-Add-clause-value c =
    let system = c.args.system.now in
    IfOk-weaker c.set_operate.result _ _ (λ set is names named.
    let one = c.in_ok-one-in-Add.ensures.value names named in
    let method = sym (ap (λ (m : Method). combine m c.args.kind (value_by names c.args.so_far) (value_by names c.args.value)) c.in-Add.is) in
    is system c.requires.so_far c.in_ok-one-in-Add.ensures.elements names named ∙ ap (set_operate Union c.args.kind (value_by names c.args.so_far)) one ∙ method) c.set_operate.ensures.value

pub returns-in-AddAll-clause-value : goal.returns-in-AddAll-clause-value
returns-in-AddAll-clause-value c =
    let system = c.args.system.now in
    IfOk-weaker c.set_operate-in-AddAll.result _ _ (λ set is names named.
    is system c.requires.so_far c.requires.value names named
    ∙ sym (ap (λ (m : Method). combine m c.args.kind (value_by names c.args.so_far) (value_by names c.args.value)) c.in-AddAll.is)) c.set_operate-in-AddAll.ensures.value

pub returns-in-Sum-clause-value : goal.returns-in-Sum-clause-value
returns-in-Sum-clause-value c = λ names named.
    ap Int (to_z-of_z w32 c.added.result (record { sfits = c.added.type_inv }) ∙ c.added.ensures ∙ (λ i. int_wrap w32 ((to_z-of_z w32 c.int.result (record { sfits = c.int.type_inv }) ∙ c.int.ensures names) i +ℤ (to_z-of_z w32 c.int-in-Sum.result (record { sfits = c.int-in-Sum.type_inv }) ∙ c.int-in-Sum.ensures names) i))) ∙ sym (ap (λ (m : Method). combine m c.args.kind (value_by names c.args.so_far) (value_by names c.args.value)) c.in-Sum.is)
