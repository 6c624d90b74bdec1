-- In a closed local set each member has its value in the solution.
use Rattle.std.proofs.Common.{◌≡◌, true, List, refl, subst, ⊎_elim}
use Rattle.solutions.specs.Rounds.{is_in}
use Rattle.equation_law.specs.declared.coding.Instance.{Instance as CodedInstance}
use Rattle.equation_law.specs.Checked.{IsProgram}
use Rattle.equation_law.specs.Codes.{Naming, instance_by, value_by}
use Rattle.equation_law.specs.Equations.{HasValue, equations_of}
use Rattle.equation_law.specs.Lower.{IsClosed}
use Rattle.equation_law.specs.Names.{Instance, same_instance}
use Rattle.equation_law.specs.Program.{Program}
use Rattle.equation_law.specs.Values.{Value}
use Rattle.equation_law.proofs.Solution.{closed}
use Rattle.memo_cells.specs.declared.keys.Slot.{Slot}
use Rattle.memo_cells.specs.declared.view.Frame.{Frame}
use Rattle.memo_cells.specs.declared.view.View.{View}
use Rattle.memo_cells.specs.Agreeing.{Agrees}
use Rattle.memo_cells.specs.Standing.{AreApproximations}
use Rattle.memo_cells.specs.Views.{Has}
use Rattle.memo_cells.proofs.Agreeing.{IsOpen}
use Rattle.circular_eval.specs.declared.members.Member.{Member}
use Rattle.circular_eval.specs.Local.{AreMembers, AreSlots, Members, local_value}
use Rattle.circular_eval.specs.Visiting.{AreConfirmed}
use Rattle.circular_eval.proofs.Closing.{holds, known_or, opened, value_is}
use Rattle.circular_eval.proofs.Lowering.{values_lower}

module _ (p : Program) (names : Naming) (good : IsProgram p) (v : View) (agrees : Agrees p v.made names) (near : AreApproximations p v) (by : IsOpen p v.made) (f : Frame) (start : CodedInstance) (es : Members) (set : AreMembers p names f v start es) (all : AreConfirmed p v es) (slots : List Slot) (are : AreSlots es slots) where
  closed_here : IsClosed p (opened p names es) (local_value p names es)
  unfolding equations_of
  closed_here = record { lower = values_lower p names good v near by f start es set; each = holds p names good v agrees near by f start es set all slots are }

  has_opened : (i : Instance) → is_in same_instance (opened p names es) i ≡ true → HasValue p i (local_value p names es i)
  has_opened i m = closed p (opened p names es) (local_value p names es) closed_here i m

  pub member_has : (e : CodedInstance × Member) → Has es e → HasValue p (instance_by p names e.0) (value_by names e.1.value)
  member_has e there =
      subst (λ (x : Value). HasValue p (instance_by p names e.0) x) (value_is p names good v agrees near by f start es set e there)
      (⊎_elim (λ k. k.1) (λ m. has_opened (instance_by p names e.0) m) (known_or p names good v agrees near by f start es set (instance_by p names e.0) (e, there, refl)))
