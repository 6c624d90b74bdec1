-- Circular instances of a program.
use Rattle.std.specs.Prelude.{◌≡◌, true, List}
use Rattle.equation_law.specs.declared.coding.Instance.{Instance as CodedInstance}
use Rattle.equation_law.specs.Checked.{IsInstance}
use Rattle.equation_law.specs.Codes.{IsCoded, instance_by}
use Rattle.equation_law.specs.Equations.{equations_of}
use Rattle.equation_law.specs.Program.{Program}
use Rattle.memo_cells.specs.Agreeing.{ByEachAgreeing, IsKnownInstance}

-- a well coded instance of the program whose nodes are known by these makers, and which is circular, by each naming that agrees with them
pub record IsCircular (p : Program) (ms : List CodedInstance) (i : CodedInstance) : Type 0 where
  pub instance : ByEachAgreeing p ms (λ names. IsInstance p (instance_by p names i))
  pub coded : IsCoded p i
  pub known : IsKnownInstance p ms i
  pub is_circular : ByEachAgreeing p ms (λ names. (equations_of p).circular (instance_by p names i) ≡ true)
