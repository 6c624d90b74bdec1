-- A local set stays one as more is known.
use Rattle.std.proofs.Common.{ℕ, Option, Some, None}
use Rattle.solutions.proofs.Runs.{ends_more}
use Rattle.equation_law.specs.declared.coding.Instance.{Instance as CodedInstance}
use Rattle.equation_law.specs.Codes.{Naming, instance_by, value_by}
use Rattle.equation_law.specs.Names.{Instance}
use Rattle.equation_law.specs.Program.{Program}
use Rattle.equation_law.specs.Values.{Value}
use Rattle.memo_cells.specs.declared.keys.Slot.{Slot}
use Rattle.memo_cells.specs.declared.view.Frame.{Frame}
use Rattle.memo_cells.specs.declared.view.View.{View}
use Rattle.memo_cells.specs.Views.{IsAtLeast}
use Rattle.memo_cells.proofs.Agreeing.{agrees_before, instance_known_later, value_known_later}
use Rattle.memo_cells.proofs.Naming.{cell_later, knows_later}
use Rattle.memo_cells.proofs.Showing.{value_shown_later}
use Rattle.circular_eval.specs.declared.local.Local.{Local}
use Rattle.circular_eval.specs.declared.members.Member.{Member}
use Rattle.circular_eval.specs.Local.{AreMembers, IsCurrent, IsLocal, IsLocalByEach, IsMember, IsPlaced, Members, ReadsHere, here, settled}
use Rattle.circular_eval.specs.Visiting.{AreConfirmed, IsConfirmed}
use Rattle.circular_eval.proofs.Resuming.{kept_on, still_same}

module _ (p : Program) (names : Naming) (v w : View) (more : IsAtLeast v w) where
  placed_later : (f : Frame) (i : Instance) (x : Value) (o : Option Slot) → IsPlaced p f v i x o → IsPlaced p f w i x o
  placed_later f i x None h = (knows_later v w more p i h.0, h.1)
  placed_later f i x (Some s) h = cell_later v w more p f i s.0 h

  pub member_later : (f : Frame) (es : Members) (start : CodedInstance) (number : ℕ) (e : CodedInstance × Member) → IsMember p names f v es start number e → IsMember p names f w es start number e
  member_later f es start number e h = record {
    instance = h.instance;
    coded = h.coded;
    is_circular = h.is_circular;
    elements = h.elements;
    known = (instance_known_later p more.made e.0 h.known.0, value_known_later p more.made e.1.value h.known.1);
    fits = h.fits;
    shown = value_shown_later p v w more (instance_by p names e.0) (value_by names e.1.value) h.shown;
    placed = placed_later f (instance_by p names e.0) (value_by names e.1.value) e.1.slot h.placed;
    led = h.led;
  }

  pub members_later : (f : Frame) (start : CodedInstance) (es : Members) → AreMembers p names f v start es → AreMembers p names f w start es
  members_later f start es h = record { first = h.first; members = λ number e at. member_later f es start number e (h.members number e at); different = h.different }

  -- a local set stays one
  pub local_later : (f : Frame) (l : Local) → IsLocal p names f v l → IsLocal p names f w l
  local_later f l h = record { instance = h.instance; coded = h.coded; known = instance_known_later p more.made l.start h.known; is_circular = h.is_circular; set = members_later f l.start l.members.entries h.set; need = h.need; saved = kept_on p v w more l.members.entries l.members.entries (still_same p w.made l.members.entries) f.system.value l.saved h.saved }

  pub read_later : (es : Members) (j : Instance) (x : Value) → ReadsHere p names v es j x → ReadsHere p names w es j x
  read_later es j x (settled d k) = settled d (knows_later v w more p j k.0, k.1)
  read_later es j x (here d m) = here d m

  -- and an equation that holds goes on to hold
  pub current_later : (es : Members) (i : Instance) → IsCurrent p names v es i → IsCurrent p names w es i
  current_later es i h = record { value = h.value; demands = h.demands; ends = ends_more (read_later es) h.ends; below = h.below }

-- by each naming that agrees
module _ (p : Program) (v w : View) (more : IsAtLeast v w) where
  pub set_later : (f : Frame) (l : Local) → IsLocalByEach p f v l → IsLocalByEach p f w l
  set_later f l h = λ names agrees. local_later p names v w more f l (h names (agrees_before p more.made agrees))

  pub confirmed_later : (es : Members) (e : CodedInstance × Member) → IsConfirmed p v es e → IsConfirmed p w es e
  confirmed_later es e h = λ s names agrees. current_later p names v w more es (instance_by p names e.0) (h s names (agrees_before p more.made agrees))

  pub all_later : (es : Members) → AreConfirmed p v es → AreConfirmed p w es
  all_later es h = λ e there. confirmed_later es e (h e there)
