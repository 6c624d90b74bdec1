-- What an evaluation under a local set reads from, and what it comes to.
use Rattle.std.specs.Prelude.{◌≡◌, List}
use Rattle.solutions.specs.Asking.{Ends, Halts}
use Rattle.equation_law.specs.declared.coding.Instance.{Instance as CodedInstance}
use Rattle.equation_law.specs.declared.system.System.{System}
use Rattle.equation_law.specs.Codes.{AreElements, IsCoded, Naming, instance_by, value_by}
use Rattle.equation_law.specs.Equations.{equations_of}
use Rattle.equation_law.specs.Names.{Instance}
use Rattle.equation_law.specs.Program.{Program}
use Rattle.equation_law.specs.Reading.{Told}
use Rattle.equation_law.specs.Systems.{program_of}
use Rattle.expr_eval.specs.declared.saved.Saved.{Saved}
use Rattle.expr_eval.specs.declared.sites.Turn.{Turn}
use Rattle.expr_eval.specs.declared.sites.Turn.TheVariants as turns
use Rattle.expr_eval.specs.Saved.{AreSaved}
use Rattle.memo_cells.specs.declared.view.View.{View}
use Rattle.memo_cells.specs.Agreeing.{Agrees, IsKnownInstance, IsKnownNode, IsKnownValue}
use Rattle.memo_cells.specs.Working.{ByEachAt, Held, IsForSystem, IsOwn, program_at}
use Rattle.circular_eval.specs.declared.local.Local.{Local}
use Rattle.circular_eval.specs.Local.{AreReadable, MayReadByEach, Members, ReadsByEach, ReadsHere, reads_here}

-- over what a work holds and the members of a set: by each naming that agrees it has the same; it knows the nodes that the pass knows
abbrev pub told_here : {S : Type 0} → Held → System → Members → (S → Type 0) → Told S
told_here d s es keeps = record {
  for = λ p. (p ≡ program_at d) × IsForSystem d s × IsOwn d × AreReadable p d.view.made es;
  has = ReadsByEach (program_at d) d.view es;
  can = MayReadByEach (program_at d) d.view.made es;
  keeps = keeps;
  names = Agrees (program_at d) d.view.made;
  knows = IsKnownNode d.view.made;
  height = λ c. c;
}

-- What the equation of i came to under the values of the set, by a naming; the pass knows the nodes in it. A program of cells makes no trees.
abbrev pub ComesTo : Program → Naming → View → Members → Instance → Turn → Type 0
ComesTo p names v es i (turns.Done x) = ((ds : List Instance) × Ends (ReadsHere p names v es) ((equations_of p).equation i) (value_by names x) ds) × AreElements p x × IsKnownValue v.made x
ComesTo p names v es i (turns.Need n) = ((ds : List Instance) × Halts (ReadsHere p names v es) ((equations_of p).equation i) (instance_by p names n) ds) × IsCoded p n × IsKnownInstance p v.made n
ComesTo p names v es i (turns.Image t) = ⊥

-- the same of the instance that is coded so, by what a work holds and under the values of a local set, by each naming that agrees with what is held
abbrev pub ComesHere : Held → Local → CodedInstance → Turn → Type 0
ComesHere d l i turn = ByEachAt d (λ names. ComesTo (program_at d) names d.view l.members.entries (instance_by (program_at d) names i) turn)

-- what an evaluation over the system s left behind is so, by what is held and under the values of a local set
abbrev pub AreSavedHere : System → Held → Local → Saved → Type 0
AreSavedHere s d l x = AreSaved s (reads_here (program_of s) d.view l.members.entries) x
