-- Evaluations that go on while members are added.
use Rattle.std.proofs.Common.{◌≡◌, true, false, cond, List, [], ◌∷◌, ◌++◌, Option, Some, None, inl, inr, refl, sym, ap, subst, ◌∙◌}
use Rattle.equation_law.specs.declared.coding.Instance.{Instance as CodedInstance}
use Rattle.equation_law.specs.declared.system.System.{System}
use Rattle.equation_law.specs.Codes.{Naming, instance_by, value_by}
use Rattle.equation_law.specs.Names.{Instance, same_instance}
use Rattle.equation_law.specs.Program.{Program}
use Rattle.equation_law.specs.Values.{Value}
use Rattle.equation_law.proofs.Names.{same_instance_self}
use Rattle.expr_eval.specs.declared.saved.Saved.{Saved}
use Rattle.expr_eval.specs.Saved.{AreSaved}
use Rattle.expr_eval.proofs.Growing.{saved_more}
use Rattle.memo_cells.specs.declared.view.View.{View}
use Rattle.memo_cells.specs.Views.{Has, IsAtLeast}
use Rattle.memo_cells.proofs.Agreeing.{agrees_before, node_known_later}
use Rattle.memo_cells.proofs.Bits.{has_left}
use Rattle.memo_cells.proofs.Naming.{knows_later}
use Rattle.memo_cells.proofs.Showing.{not_both}
use Rattle.circular_eval.specs.declared.members.Member.{Member}
use Rattle.circular_eval.specs.Local.{IsKept, IsMemberOf, Members, ReadsByEach, ReadsHere, StillMembers, here, local_value, reads_here, settled}
use Rattle.circular_eval.specs.Visiting.{StillByEach}

-- an entry that isn't the first one is behind it
pub other_entry : (p : Program) (names : Naming) (d e : CodedInstance × Member) (es : Members) (j : Instance) → Has (d ∷ es) e → instance_by p names e.0 ≡ j → same_instance j (instance_by p names d.0) ≡ false → Has es e
other_entry p names d e es j (inl q) is h = absurd (not_both h (ap (λ (x : CodedInstance × Member). same_instance j (instance_by p names x.0)) (sym q) ∙ ap (λ (i : Instance). same_instance j i) is ∙ same_instance_self j))
other_entry p names d e es j (inr q) is h = q

-- a member has its value where more are added
value_more : (p : Program) (names : Naming) (es fs : Members) (j : Instance) → IsMemberOf p names es j → local_value p names (es ++ fs) j ≡ local_value p names es j
value_more p names [] fs j (e, there, is) = absurd there
value_more p names (d ∷ es) fs j (e, there, is) =
    elim (same_instance j (instance_by p names d.0)) as (λ b. same_instance j (instance_by p names d.0) ≡ b → cond b (value_by names d.1.value) (local_value p names (es ++ fs) j) ≡ cond b (value_by names d.1.value) (local_value p names es j)) [
      | true ↦ λ h. refl
      | false ↦ λ h. value_more p names es fs j (e, other_entry p names d e es j there is h, is)
    ] refl

pub still_more : (p : Program) (names : Naming) (es : Members) (x : CodedInstance × Member) → StillMembers p names es (es ++ x ∷ [])
still_more p names es x = record { members = λ j m. (m.0, has_left es (x ∷ []) m.0 m.1, m.2); values = λ j m. value_more p names es (x ∷ []) j m }

pub still_itself : (p : Program) (names : Naming) (es : Members) → StillMembers p names es es
still_itself p names es = record { members = λ j m. m; values = λ j m. refl }

-- by each naming that agrees
pub still_same : (p : Program) (ms : List CodedInstance) (es : Members) → StillByEach p ms es es
still_same p ms es names agrees = still_itself p names es

pub still_with : (p : Program) (ms : List CodedInstance) (es : Members) (x : CodedInstance × Member) → StillByEach p ms es (es ++ x ∷ [])
still_with p ms es x names agrees = still_more p names es x

module _ (p : Program) (v w : View) (more : IsAtLeast v w) (es fs : Members) (still : StillByEach p w.made es fs) where
  -- what is read stays, by each naming that agrees
  read_by : (names : Naming) → StillMembers p names es fs → (j : Instance) (x : Value) → ReadsHere p names v es j x → ReadsHere p names w fs j x
  read_by names same j x (settled d k) = settled d (knows_later v w more p j k.0, k.1)
  read_by names same j x (here d m) = subst (λ (y : Value). ReadsHere p names w fs j y) (same.values j m) (here d (same.members j m))

  read_more : (j : Instance) (x : Value) → ReadsByEach p v es j x → ReadsByEach p w fs j x
  read_more j x h = λ names agrees. read_by names (still names agrees) j x (h names (agrees_before p more.made agrees))

  -- and so does what is saved
  pub saved_on : (s : System) (x : Saved) → AreSaved s (reads_here p v es) x → AreSaved s (reads_here p w fs) x
  saved_on s x h = saved_more {r = reads_here p v es} {t = reads_here p w fs} read_more (λ n agrees. agrees_before p more.made agrees) (node_known_later p more.made) x h

  pub kept_on : (s : System) (o : Option Saved) → IsKept s (reads_here p v es) o → IsKept s (reads_here p w fs) o
  kept_on s None h = tt
  kept_on s (Some x) h = saved_on s x h
