use Rattle.std.proofs.Common.{sym, ap, ◌∙◌, of_z, to_z}
use Rattle.std.proofs.lemmas.Int.{to_z-of_z}
use mir.Syntax.{w32}
use Rattle.equation_law.specs.Codes.{value_by, value_coded}
use Rattle.equation_law.specs.Values.{Int, as_kind}
use Rattle.equation_law.proofs.Codes.{signed}
use Rattle.equation_law.proofs.coding.Value.code.Goals as goal

pub returns-in-Int-clause-value : goal.returns-in-Int-clause-value
returns-in-Int-clause-value c = λ n first one.
    let z = c.int.result in
    let r = c.cast_unsigned.result in
    let back = to_z-of_z w32 z (record { sfits = c.int.type_inv }) in
    let same = sym (signed r c.cast_unsigned.type_inv) ∙ ap (to_z w32) (c.cast_unsigned.ensures ∙ ap (of_z w32) back) ∙ back ∙ c.int.ensures n in
    ap (λ k. value_coded n k r) c.in-Int.is ∙ ap Int same ∙ sym (ap (λ k. as_kind k (value_by n c.args.self.now)) c.in-Int.is)
