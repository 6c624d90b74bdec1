-- What is read of nodes with a reader.
use Rattle.std.specs.Prelude.{◌≡◌, ℕ, Bool, Some, Result}
use Rattle.attr_rules.specs.Expression.{Expression}
use Rattle.solutions.specs.Asking.{Gives}
use Rattle.ast_grammar.specs.declared.grammar.ClassId.{ClassId}
use Rattle.equation_law.specs.declared.coding.Instance.{Instance as CodedInstance}
use Rattle.equation_law.specs.declared.coding.NodeRef.{NodeRef}
use Rattle.equation_law.specs.declared.coding.Value.{Value as CodedValue}
use Rattle.equation_law.specs.Codes.{IsCoded, instance_by, reference_by}
use Rattle.equation_law.specs.Equations.{world_of}
use Rattle.equation_law.specs.Meaning.{child_at, is_instance}
use Rattle.equation_law.specs.Names.{At, NodeName, maker_of}
use Rattle.equation_law.specs.Program.{Program}
use Rattle.equation_law.specs.Reading.{ByEachIn, Grows, KnowsInstance, Told}
use Rattle.expr_eval.specs.declared.evaluation.Halt.{Halt}
use Rattle.expr_eval.specs.Evaluating.{Answers}
use Rattle.expr_eval.specs.Parts.{made_of_node}

-- what hangs at a component, which the reader knows then
pub record IsChildBy {S : Type 0} (p : Program) (r s : Told S) (k : ℕ) (receiver result : NodeRef) : Type 0 where
  pub kept : Grows p r s
  pub is : ByEachIn s (λ n. reference_by n.node result.0 ≡ child_at (world_of p) k (reference_by n.node receiver.0))
  pub known : s.knows result.0

-- whether the node is of the class
pub record IsOfBy {S : Type 0} (p : Program) (r s : Told S) (class : ClassId) (node : NodeRef) (result : Bool) : Type 0 where
  pub kept : Grows p r s
  pub is : ByEachIn s (λ n. result ≡ is_instance (world_of p) class (reference_by n.node node.0))

-- what made the node; the reader knows the nodes in it
pub record IsMakerOf {S : Type 0} (p : Program) (r s : Told S) (node : NodeRef) (result : CodedInstance) : Type 0 where
  pub kept : Grows p r s
  pub coded : IsCoded p result
  pub known : KnowsInstance p s result
  pub is : ByEachIn s (λ n. (m : NodeName) → reference_by n.node node.0 ≡ At m → maker_of m ≡ Some (instance_by p n result))

-- the value that a form makes of a node, by its code
pub record NodeReads {S : Type 0} (p : Program) (r s : Told S) (e : Expression) (m : ℕ) (result : Result CodedValue Halt) : Type 0 where
  pub kept : Grows p r s
  pub is : Answers p s (λ n. Gives (made_of_node (world_of p) e (reference_by n.node m))) result
