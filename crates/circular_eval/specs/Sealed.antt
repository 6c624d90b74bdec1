-- The members of a local set by their numbers.
use Rattle.std.specs.Prelude.{◌≡◌, ℕ, Some, slice_get}
use Rattle.equation_law.specs.declared.coding.Instance.{Instance as CodedInstance}
use Rattle.equation_law.specs.declared.coding.Value.{Value as CodedValue}
use Rattle.circular_eval.specs.declared.members.Member.{Member}
use Rattle.circular_eval.specs.Local.{Members}

-- the member of this number is i, and has the value x
pub record IsMemberAt (es : Members) (number : ℕ) (i : CodedInstance) (x : CodedValue) : Type 0 where
  pub entry : CodedInstance × Member
  pub at : slice_get es number ≡ Some entry
  pub is : entry.0 ≡ i
  pub value : entry.1.value ≡ x
