-- What is kept of walks over what is offered to collections.
use Rattle.std.specs.Prelude.{◌≡◌, List, Option, Some, Result, Ok, Err}
use Rattle.std.specs.Map.{lookup}
use Rattle.equation_law.specs.declared.coding.Instance.{Instance as CodedInstance}
use Rattle.equation_law.specs.declared.coding.Value.{Value as CodedValue}
use Rattle.equation_law.specs.declared.system.System.{System}
use Rattle.equation_law.specs.Systems.{program_of}
use Rattle.memo_cells.specs.declared.view.View.{View}
use Rattle.collection_attrs.specs.Walks.{IsWalk, Walk}
use Rattle.caller_pass.specs.contracts.walks.WalkedPartialEq.TheImpl as keys
use Rattle.caller_pass.specs.declared.faults.AskFault.{AskFault}
use Rattle.caller_pass.specs.declared.faults.AskFault.TheVariants.{CellsFull, Circular, Memory}
use Rattle.caller_pass.specs.declared.walks.Walked.{Walked}
use Rattle.caller_pass.specs.Leaving.{reads_known}
use Rattle.caller_pass.specs.Noting.{AreLooping, AreNoted, KeepsAmong}

-- the walk that is kept of an attribute in the subtree of a root, if one is
abbrev pub walk_at : List (Walked × Walk) → Walked → Option Walk
walk_at ws k = lookup (keys.ghosts.eq k) ws

-- a walk of this attribute in the subtree of this root
pub record IsWalkOf (k : Walked) (w : Walk) : Type 0 where
  pub attribute : w.attribute ≡ k.attr.0
  pub root : w.root ≡ k.root

-- each walk is kept as what it is
abbrev pub AreKeyed : List (Walked × Walk) → Type 0
AreKeyed ws = (k : Walked) (w : Walk) → walk_at ws k ≡ Some w → IsWalkOf k w

-- what a caller keeps: of which system its notes are, values of instances of set types, instances that have a loop, and its walks
pub record Notes : Type 0 where
  pub system : System
  pub sets : List (CodedInstance × CodedValue)
  pub loops : List CodedInstance
  pub walks : List (Walked × Walk)

-- They are the notes of a caller of a pass: of its system, and true by each naming that agrees with the pass; what each walk has passed is as the values
-- say of which the pass knows.
pub record IsNotebookOf (s : System) (v : View) (n : Notes) : Type 0 where
  pub system : n.system ≡ s
  pub sets : AreNoted (program_of s) v.made n.sets
  pub loops : AreLooping (program_of s) v.made n.loops
  pub walks : (k : Walked) (w : Walk) → walk_at n.walks k ≡ Some w → IsWalk (program_of s) (reads_known (program_of s) v) w

-- they are of the same system, and keep the same values and loops
pub record SameButWalks (old new : Notes) : Type 0 where
  pub system : new.system ≡ old.system
  pub sets : new.sets ≡ old.sets
  pub loops : new.loops ≡ old.loops

-- the notes after an answer: of a chain, instances may be kept as some that have a loop
abbrev pub KeepsLoopsOf : Notes → Result CodedValue AskFault → Notes → Type 0
KeepsLoopsOf old (Err (Circular on chain)) new = ((new.system ≡ old.system) × (new.sets ≡ old.sets) × (new.walks ≡ old.walks)) × KeepsAmong old.loops chain new.loops
KeepsLoopsOf old (Err CellsFull) new = new ≡ old
KeepsLoopsOf old (Err Memory) new = new ≡ old
KeepsLoopsOf old (Ok x) new = new ≡ old
