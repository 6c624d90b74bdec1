-- The notes of a caller of a pass: with fewer walks, with more, and known later.
use Rattle.std.proofs.Common.{◌≡◌, ◌⊎◌, ◌<◌, ℕ, length, true, false, List, [], Some, None, Result, Ok, Err, ⊎_elim, sym, ap, subst, ◌∙◌}
use Rattle.equation_law.specs.declared.coding.Instance.{Instance as CodedInstance}
use Rattle.equation_law.specs.declared.coding.Value.{Value as CodedValue}
use Rattle.equation_law.specs.declared.system.System.{System}
use Rattle.equation_law.specs.Systems.{program_of}
use Rattle.memo_cells.specs.declared.view.View.{View}
use Rattle.memo_cells.specs.Views.{Has, IsAtLeast}
use Rattle.memo_cells.proofs.Agreeing.{agrees_before, node_known_later}
use Rattle.memo_cells.proofs.Naming.{knows_later}
use Rattle.collection_attrs.specs.Walks.{IsWalk, Walk, new_walk}
use Rattle.collection_attrs.proofs.Walked.{walk_begins, walk_more}
use Rattle.caller_pass.specs.declared.faults.AskFault.{AskFault}
use Rattle.caller_pass.specs.declared.faults.AskFault.TheVariants.{CellsFull, Circular, Memory}
use Rattle.caller_pass.specs.declared.walks.Walked.{Walked}
use Rattle.caller_pass.specs.Keeping.{IsNotebookOf, KeepsLoopsOf, Notes, SameButWalks, walk_at}
use Rattle.caller_pass.specs.Leaving.{reads_known}
use Rattle.caller_pass.specs.Noting.{AreLooping, AreNoted, IsLooping, IsNoted, KeepsAmong, KeepsAtMost, MayNote, is_kept, set_at}
use Rattle.caller_pass.proofs.Noted.{all_noted_later, looping_later, more_looping, more_noted}

pub notes_later : (s : System) (v w : View) (n : Notes) → IsAtLeast v w → IsNotebookOf s v n → IsNotebookOf s w n
notes_later s v w n kept h = record {
  system = h.system;
  sets = all_noted_later (program_of s) kept.made n.sets h.sets;
  loops = looping_later (program_of s) kept.made n.loops h.loops;
  walks = λ k x there. walk_more {r = reads_known (program_of s) v} {t = reads_known (program_of s) w} (λ j c a. (knows_later v w kept (program_of s) j a.0, a.1)) (λ n is. agrees_before (program_of s) kept.made is) (λ c known. node_known_later (program_of s) kept.made c known) (h.walks k x there);
}

-- nothing is kept yet
pub notes_begin : (s : System) (n : Notes) → n.system ≡ s → n.sets ≡ [] → n.loops ≡ [] → n.walks ≡ [] → (v : View) → IsNotebookOf s v n
notes_begin s n same no_sets no_loops none v = record {
  system = same;
  sets = λ i x there. let no : None ≡ Some x = ap (λ (es : List (CodedInstance × CodedValue)). set_at es i) (sym no_sets) ∙ there in cc;
  loops = λ i there. let no : false ≡ true = ap (λ (is : List CodedInstance). is_kept is i) (sym no_loops) ∙ there in cc;
  walks = λ k x there. let no : None ≡ Some x = ap (λ (ws : List (Walked × Walk)). walk_at ws k) (sym none) ∙ there in cc;
}

module _ (s : System) (v : View) (n : Notes) (h : IsNotebookOf s v n) where
  -- the walk that is taken out of them, or begins
  pub walk_taken : (a r : ℕ) (x : Walk) → r < length (program_of s).tree → (x ≡ new_walk a r) ⊎ ((k : Walked) × (walk_at n.walks k ≡ Some x)) → IsWalk (program_of s) (reads_known (program_of s) v) x
  walk_taken a r x inside which = ⊎_elim (λ new. subst (λ (w : Walk). IsWalk (program_of s) (reads_known (program_of s) v) w) (sym new) (walk_begins (program_of s) (reads_known (program_of s) v) a r inside)) (λ kept. h.walks kept.0 x kept.1) which

  sets_too : (m : Notes) → SameButWalks n m → AreNoted (program_of s) v.made m.sets
  sets_too m same = subst (λ (es : List (CodedInstance × CodedValue)). AreNoted (program_of s) v.made es) (sym same.sets) h.sets

  loops_too : (m : Notes) → SameButWalks n m → AreLooping (program_of s) v.made m.loops
  loops_too m same = subst (λ (is : List CodedInstance). AreLooping (program_of s) v.made is) (sym same.loops) h.loops

  -- with none but those that were there
  pub notes_fewer : (m : Notes) → SameButWalks n m → ((k : Walked) (x : Walk) → walk_at m.walks k ≡ Some x → walk_at n.walks k ≡ Some x) → IsNotebookOf s v m
  notes_fewer m same others = record { system = same.system ∙ h.system; sets = sets_too m same; loops = loops_too m same; walks = λ k x there. h.walks k x (others k x there) }

  -- with one more
  pub notes_more : (m : Notes) (x : Walk) → SameButWalks n m → ((k : Walked) (y : Walk) → walk_at m.walks k ≡ Some y → (walk_at n.walks k ≡ Some y) ⊎ (y ≡ x)) → IsWalk (program_of s) (reads_known (program_of s) v) x → IsNotebookOf s v m
  notes_more m x same others walk = record {
    system = same.system ∙ h.system;
    sets = sets_too m same;
    loops = loops_too m same;
    walks = λ k y there. ⊎_elim (λ before. h.walks k y before) (λ is. subst (λ (w : Walk). IsWalk (program_of s) (reads_known (program_of s) v) w) (sym is) walk) (others k y there);
  }

  walks_too : (m : Notes) → m.walks ≡ n.walks → (k : Walked) (w : Walk) → walk_at m.walks k ≡ Some w → IsWalk (program_of s) (reads_known (program_of s) v) w
  walks_too m same k w there = h.walks k w (subst (λ (ws : List (Walked × Walk)). walk_at ws k ≡ Some w) same there)

  -- with one value more
  pub notes_with_set : (m : Notes) (i : CodedInstance) (x : CodedValue) → (m.system ≡ n.system) × (m.loops ≡ n.loops) × (m.walks ≡ n.walks) → KeepsAtMost n.sets i x m.sets → IsNoted (program_of s) v.made i x → IsNotebookOf s v m
  notes_with_set m i x same keeps note = record {
    system = same.0 ∙ h.system;
    sets = more_noted (program_of s) v.made n.sets m.sets i x h.sets keeps note;
    loops = subst (λ (is : List CodedInstance). AreLooping (program_of s) v.made is) (sym same.1) h.loops;
    walks = walks_too m same.2;
  }

  -- with more loops
  pub notes_with_loops : (m : Notes) (more : List CodedInstance) → (m.system ≡ n.system) × (m.sets ≡ n.sets) × (m.walks ≡ n.walks) → KeepsAmong n.loops more m.loops → ((i : CodedInstance) → Has more i → IsLooping (program_of s) v.made i) → IsNotebookOf s v m
  notes_with_loops m more same keeps new = record {
    system = same.0 ∙ h.system;
    sets = subst (λ (es : List (CodedInstance × CodedValue)). AreNoted (program_of s) v.made es) (sym same.1) h.sets;
    loops = more_looping (program_of s) v.made n.loops m.loops more h.loops keeps new;
    walks = walks_too m same.2;
  }

-- after an answer, with the loops that it tells
pub notes_after : (s : System) (v : View) (n m : Notes) (r : Result CodedValue AskFault) → MayNote (program_of s) v.made r → KeepsLoopsOf n r m → IsNotebookOf s v n → IsNotebookOf s v m
notes_after s v n m (Err (Circular on chain)) may keeps h = notes_with_loops s v n h m chain keeps.0 keeps.1 may
notes_after s v n m (Err CellsFull) may keeps h = subst (IsNotebookOf s v) (sym keeps) h
notes_after s v n m (Err Memory) may keeps h = subst (IsNotebookOf s v) (sym keeps) h
notes_after s v n m (Ok x) may keeps h = subst (IsNotebookOf s v) (sym keeps) h
