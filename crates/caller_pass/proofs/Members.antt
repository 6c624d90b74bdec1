-- Notes of the values of a sealed local set.
use Rattle.std.proofs.Common.{ℕ, sym, subst}
use Rattle.equation_law.specs.declared.coding.Instance.{Instance as CodedInstance}
use Rattle.equation_law.specs.declared.coding.Value.{Value as CodedValue}
use Rattle.equation_law.specs.Checked.{HasSourcesAlone, IsProgram}
use Rattle.equation_law.specs.Codes.{instance_by, value_by}
use Rattle.equation_law.specs.Equations.{kind_in}
use Rattle.equation_law.specs.Program.{Program}
use Rattle.equation_law.proofs.QueryValues.{value_typed}
use Rattle.memo_cells.specs.Agreeing.{ByEachAgreeing}
use Rattle.memo_cells.specs.declared.view.Frame.{Frame}
use Rattle.memo_cells.specs.declared.view.View.{View}
use Rattle.memo_cells.proofs.Agreeing.{IsOpen}
use Rattle.circular_eval.specs.declared.local.Local.{Local}
use Rattle.circular_eval.specs.Advancing.{IsSealed}
use Rattle.circular_eval.specs.Local.{IsLocalByEach}
use Rattle.circular_eval.specs.Sealed.{IsMemberAt}
use Rattle.circular_eval.proofs.Entries.{at_has}
use Rattle.caller_pass.specs.Noting.{IsNoted}
use Rattle.caller_pass.proofs.Asked.{typed_as}

-- the value of a member may be noted
pub member_noted : (p : Program) → HasSourcesAlone p → (f : Frame) (v : View) (l : Local) → IsOpen p v.made → IsProgram p → IsLocalByEach p f v l → ByEachAgreeing p v.made (λ names. IsSealed p names v l) → (number : ℕ) (i : CodedInstance) (x : CodedValue) → IsMemberAt l.members.entries number i x → IsNoted p v.made i x
member_noted p bare f v l by good local sealed number i x m =
    let e = m.entry in
    subst (λ (y : CodedInstance × CodedValue). IsNoted p v.made y.0 y.1) (λ j. (m.is j, m.value j))
    (λ coded. (
      (λ names named.
          let j = instance_by p names e.0 in
          let member = (local names named).set.members number e m.at in
          let has = (sealed names named).values e (at_has l.members.entries number e m.at) in
          record { value = value_by names e.1.value; has = has; coded = sym (typed_as p bare (kind_in p j) (value_by names e.1.value) (value_typed p good j member.instance (value_by names e.1.value) has)); elements = member.elements }),
      ((local _ by).set.members number e m.at).known.1,
    ))
