-- Visits of members, one after the other.
use Rattle.std.proofs.Common.{◌≡◌, ◌⊎◌, ℕ, ◌<◌, ◌+◌, ◌-◌, ◌≤◌, Bool, true, false, [], Option, Some, None, IsSome, IfSome, is_some, Result, Ok, Err, length, slice_get, inl, inr, ⊎_elim, refl, sym, ap, subst, ◌∙◌, arith}
use Rattle.std.proofs.lemmas.Bool.{cases_order}
use Rattle.std.proofs.lemmas.Option.{slice_get_within}
use Rattle.equation_law.specs.declared.coding.Instance.{Instance as CodedInstance}
use Rattle.equation_law.specs.declared.system.System.{System}
use Rattle.equation_law.specs.Codes.{IsCoded, Naming, instance_by, instance_of, source_names}
use Rattle.equation_law.specs.Equations.{collection_of}
use Rattle.equation_law.specs.Loops.{Chain}
use Rattle.equation_law.specs.Program.{Program, text_of}
use Rattle.equation_law.specs.Systems.{program_of}
use Rattle.equation_law.proofs.Solution.{circular_single}
use Rattle.expr_eval.specs.declared.saved.Saved.{Saved}
use Rattle.expr_eval.specs.declared.sites.Turn.{Turn}
use Rattle.expr_eval.specs.Saved.{AreSaved, SavesNothing}
use Rattle.expr_eval.proofs.Found.{none_saved}
use Rattle.made_trees.specs.Made.{naming_by_makers}
use Rattle.memo_cells.specs.declared.view.Frame.{Frame}
use Rattle.memo_cells.specs.declared.view.View.{View}
use Rattle.memo_cells.specs.Agreeing.{IsKnownInstance}
use Rattle.memo_cells.specs.Working.{ByEachAt, ClaimsKeysFor, Held, IsKnownAt, ReadsOn, program_at}
use Rattle.memo_cells.proofs.Agreeing.{IsOpen, own_open}
use Rattle.memo_cells.proofs.Claiming.{claims_same}
use Rattle.memo_cells.proofs.Showing.{not_both}
use Rattle.circular_eval.specs.declared.advancing.CircFault.{CircFault}
use Rattle.circular_eval.specs.declared.advancing.CircFault.TheVariants.{Memory}
use Rattle.circular_eval.specs.declared.local.Local.{Local}
use Rattle.circular_eval.specs.declared.members.Member.{Member}
use Rattle.circular_eval.specs.declared.visiting.Visited.{Visited}
use Rattle.circular_eval.specs.declared.visiting.Visited.TheVariants.{Changed, Need, Same}
use Rattle.circular_eval.specs.Advancing.{AnswersFault, IsMissing, IsMissingByEach}
use Rattle.circular_eval.specs.Left.{left}
use Rattle.circular_eval.specs.Local.{AreReadable, IsKept, Members, reads_here}
use Rattle.circular_eval.specs.Looking.{AreSavedHere, ComesHere, ComesTo}
use Rattle.worklists.specs.Waiting.{due_count}
use Rattle.circular_eval.specs.Visiting.{AnswersStep, AnswersVisit, ComesAt, GoesOnWith, IsConfirmed, IsReady, KeepsSaved, Passes, Stays, Steps, StillByEach, Visits}
use Rattle.circular_eval.proofs.Admitting.{IsSame, goes_same}
use Rattle.circular_eval.proofs.Entries.{has_at}
use Rattle.circular_eval.proofs.Going.{program_on, ready_then, with_itself, with_then}
use Rattle.circular_eval.proofs.Growing.{local_free, local_kept}
use Rattle.circular_eval.proofs.Later.{confirmed_later}
use Rattle.circular_eval.proofs.Resuming.{saved_on, still_same}
use Rattle.circular_eval.proofs.Tied.{no_collection}

-- one that was sealed when it was met is visited in vain
pub same_step : (s : System) (d : Held) (l : Local) (number : ℕ) → IsReady s d l → ((e : CodedInstance × Member) → slice_get l.members.entries number ≡ Some e → IsSome e.1.slot → ⊥) → Steps d d l l number (Ok (Some Same))
same_step s d l number r final = record { goes = with_itself s d l r; answer = record { members = refl; due = refl; confirmed = λ e at some. absurd (final e at some) } }

-- some naming agrees with what is known
ready_open : (s : System) (d : Held) (l : Local) → IsReady s d l → IsOpen (program_of s) d.view.made
ready_open s d l r = subst (λ (q : System). IsOpen (program_of q) d.view.made) r.same (own_open d.frame d.view [] r.own)

pub kept_members : (s : System) (d : Held) (l : Local) → IsReady s d l → AreReadable (program_of s) d.view.made l.members.entries
kept_members s d l r = (
  λ names agrees e there. let at = has_at l.members.entries e there in let m = (r.local names agrees).set.members at.0 e at.1 in (m.coded, m.elements, m.fits),
  λ e there. let at = has_at l.members.entries e there in ((r.local (naming_by_makers (program_of s) d.view.made) (ready_open s d l r)).set.members at.0 e at.1).known,
)

pub coded_member : (s : System) (d : Held) (l : Local) → IsReady s d l → (number : ℕ) (e : CodedInstance × Member) → slice_get l.members.entries number ≡ Some e → IsCoded (program_of s) e.0
coded_member s d l r number e at = ((r.local (naming_by_makers (program_of s) d.view.made) (ready_open s d l r)).set.members number e at).coded

pub known_member : (s : System) (d : Held) (l : Local) → IsReady s d l → (number : ℕ) (e : CodedInstance × Member) → slice_get l.members.entries number ≡ Some e → IsKnownAt d e.0
known_member s d l r number e at = subst (λ (q : System). IsKnownInstance (program_of q) d.view.made e.0) (sym r.same) ((r.local (naming_by_makers (program_of s) d.view.made) (ready_open s d l r)).set.members number e at).known.0

-- no member is a collection
pub single_member : (s : System) (d : Held) (l : Local) → IsReady s d l → (number : ℕ) (e : CodedInstance × Member) → slice_get l.members.entries number ≡ Some e → collection_of (program_of s) (instance_of (program_of s) e.0) ≡ None
single_member s d l r number e at =
    let p = program_of s in
    let some = naming_by_makers p d.view.made in
    no_collection p some (source_names (text_of p)) e.0 (circular_single p (instance_by p some e.0) ((r.local some (ready_open s d l r)).set.members number e at).is_circular)

-- what was read
pub goes_read : (s : System) (d e : Held) (l m : Local) → IsReady s d l → ReadsOn d e → IsSame l m → GoesOnWith d e l m
goes_read s d e l m r on same = goes_same s d l r e on.on (λ names agrees. claims_same (program_at d) (instance_by (program_at d) names l.start) d.view e.view on.claims) m same

pub read_refused : (s : System) (d e : Held) (l m : Local) (number : ℕ) → IsReady s d l → ReadsOn d e → IsSame l m → (y : Result (Option Visited) CircFault) → y ≡ Err Memory → Steps d e l m number y
read_refused s d e l m number r on same y is = subst (λ (z : Result (Option Visited) CircFault). Steps d e l m number z) (sym is) (record { goes = goes_read s d e l m r on same; answer = tt })

pub came_read : (s : System) (d e : Held) (l m : Local) (number : ℕ) (x : CodedInstance × Member) (turn : Turn) → IsReady s d l → ReadsOn d e → m.members.entries ≡ l.members.entries → slice_get l.members.entries number ≡ Some x → IsSome x.1.slot → ComesHere e l x.0 turn → ComesAt e m number turn
came_read s d e l m number x turn r on same at some came =
    record {
      entry = x;
      at = ap (λ (es : Members). slice_get es number) same ∙ at;
      placed = some;
      comes = subst (λ (es : Members). ByEachAt e (λ names. ComesTo (program_at e) names e.view es (instance_by (program_at e) names x.0) turn)) (sym same) came;
    }

-- a step after what only read
step_answer : (p : Program) (f : Frame) (v : View) (l m n : Local) (number : ℕ) (y : Result (Option Visited) CircFault) → m.start ≡ l.start → m.members.entries ≡ l.members.entries → m.worklist.due ≡ l.worklist.due → AnswersStep p f v m n number y → AnswersStep p f v l n number y
step_answer p f v l m n number (Ok None) start same due h = subst (λ (u : Members). (left n.members.entries < left u) × StillByEach p v.made u n.members.entries) same h
step_answer p f v l m n number (Ok (Some (Need x))) start same due h = (h.0, h.1 ∙ same)
step_answer p f v l m n number (Ok (Some Changed)) start same due h = subst (λ (u : Members). left n.members.entries < left u) same h
step_answer p f v l m n number (Ok (Some Same)) start same due h = record { members = h.members ∙ same; due = h.due ∙ due; confirmed = h.confirmed }
step_answer p f v l m n number (Err fault) start same due h = subst (λ (u : CodedInstance). AnswersFault p u f v fault) start h

pub step_then : (s : System) (d e f : Held) (l m n : Local) (number : ℕ) (y : Result (Option Visited) CircFault) → IsReady s d l → ReadsOn d e → IsSame l m → m.worklist.due ≡ l.worklist.due → Steps e f m n number y → Steps d f l n number y
step_then s d e f l m n number y r on same due h = record {
  goes = with_then d e f l m n (goes_read s d e l m r on same) h.goes;
  answer = step_answer (program_at d) d.frame f.view l m n number y same.start same.entries due (subst (λ (u : Program × Frame). AnswersStep u.0 u.1 f.view m n number y) (λ j. (program_on d e on.on j, on.on.cells j)) h.answer);
}

-- what is saved, where the evaluation may go on
pub step_saved : (s : System) (e f : Held) (m n : Local) (number : ℕ) (x : Saved) → IsReady s e m → (y : Result (Option Visited) CircFault) → Steps e f m n number y → AreSavedHere s e m x → KeepsSaved s f n x y
step_saved s e f m n number x r (Err fault) h saved = tt
step_saved s e f m n number x r (Ok (Some Changed)) h saved = tt
step_saved s e f m n number x r (Ok (Some Same)) h saved = tt
step_saved s e f m n number x r (Ok (Some (Need q))) h saved =
    let es = m.members.entries in
    subst (λ (u : Members). AreSaved s (reads_here (program_of s) f.view u) x) (sym h.answer.1) (saved_on (program_of s) e.view f.view h.goes.on.kept es es (still_same (program_of s) f.view.made es) s x saved)
step_saved s e f m n number x r (Ok None) h saved =
    saved_on (program_of s) e.view f.view h.goes.on.kept m.members.entries n.members.entries (subst (λ (q : Program). StillByEach q f.view.made m.members.entries n.members.entries) (ap program_of r.same) h.answer.1) s x saved

-- which member is next, and what is kept, changes nothing of the members
goes_kept : (d e : Held) (l m o : Local) → o.start ≡ m.start → o.members ≡ m.members → o.need ≡ m.need → IsKept d.frame.system.value (reads_here (program_at d) e.view o.members.entries) o.saved → GoesOnWith d e l m → GoesOnWith d e l o
goes_kept d e l m o start members need saved h =
    let entries : o.members.entries ≡ m.members.entries = ap (λ x. x.entries) members in
    record {
      on = h.on;
      local = λ names agrees. local_kept (program_at d) names d.frame e.view m o start entries need saved (h.local names agrees);
      start = start ∙ h.start;
      claims = h.claims;
      some = λ some. subst (λ (u : Members). 0 < length u) (sym entries) (h.some some);
    }

pub goes_looked : (d e : Held) (l m o : Local) → o.start ≡ m.start → o.members ≡ m.members → o.need ≡ m.need → o.saved ≡ m.saved → GoesOnWith d e l m → GoesOnWith d e l o
goes_looked d e l m o start members need saved h =
    goes_kept d e l m o start members need
    (subst (λ (x : Members × Option Saved). IsKept d.frame.system.value (reads_here (program_at d) e.view x.0) x.1) (λ i. (ap (λ x. x.entries) (sym members) i, sym saved i)) (h.local (naming_by_makers (program_at d) e.view.made) (subst (λ (u : Program). IsOpen u e.view.made) (program_on d e h.on) (own_open e.frame e.view [] h.on.own))).saved)
    h

-- what is missing doesn't hang on which member is next, nor on what is kept
pub missing_same : (p : Program) (names : Naming) (v : View) (m o : Local) (q : CodedInstance) → o.start ≡ m.start → o.need ≡ m.need → IsMissing p names v m q → IsMissing p names v o q
missing_same p names v m o q start need missing = record {
  instance = missing.instance;
  coded = missing.coded;
  known = missing.known;
  undeclared = missing.undeclared;
  unknown = missing.unknown;
  reached = subst (λ (i : CodedInstance). Chain p (instance_by p names i) (instance_by p names q)) (sym start) missing.reached;
  number = missing.number;
  noted = need ∙ missing.noted;
}

-- a visit, so far: nothing changed in the set, or members were added
abbrev pub HasGrown : Bool → Local → Local → Type 0
HasGrown false l m = (m.members.entries ≡ l.members.entries) × (m.worklist.due ≡ l.worklist.due)
HasGrown true l m = left m.members.entries < left l.members.entries

pub record IsVisited (d e : Held) (l m : Local) (grown : Bool) : Type 0 where
  pub goes : GoesOnWith d e l m
  pub change : HasGrown grown l m

grown_less : (b : Bool) (l m : Local) → HasGrown b l m → (k : ℕ) → k < left m.members.entries → k < left l.members.entries
grown_less false l m h k less = subst (λ (u : Members). k < left u) h.0 less
grown_less true l m h k less = omega (arith, h, less)

pub visit_begins : (s : System) (d : Held) (l : Local) → IsReady s d l → IsVisited d d l l false
visit_begins s d l r = record { goes = with_itself s d l r; change = (refl, refl) }

-- the set from which what was kept is taken
pub ready_taken : (s : System) (d : Held) (l m : Local) → IsReady s d l → m.start ≡ l.start → m.members ≡ l.members → m.need ≡ l.need → m.saved ≡ None → IsReady s d m
ready_taken s d l m r start members need none = record { program = r.program; same = r.same; own = r.own; local = λ names agrees. local_free (program_of s) names d.frame d.view l m start (ap (λ x. x.entries) members) need none (r.local names agrees) }

visit_answer : (p : Program) (f : Frame) (v : View) (l m n : Local) (number : ℕ) (y : Result Visited CircFault) → m.start ≡ l.start → m.members.entries ≡ l.members.entries → m.worklist.due ≡ l.worklist.due → AnswersVisit p f v m n number y → AnswersVisit p f v l n number y
visit_answer p f v l m n number (Ok (Need x)) start same due h = h
visit_answer p f v l m n number (Ok Changed) start same due h = subst (λ (u : Members). left n.members.entries < left u) same h
visit_answer p f v l m n number (Ok Same) start same due h = record { members = h.members ∙ same; due = h.due ∙ due; confirmed = h.confirmed }
visit_answer p f v l m n number (Err fault) start same due h = subst (λ (u : CodedInstance). AnswersFault p u f v fault) start h

pub visit_from : (d f : Held) (l m n : Local) (number : ℕ) (y : Result Visited CircFault) → m.start ≡ l.start → m.members ≡ l.members → m.worklist.due ≡ l.worklist.due → Visits d f m n number y → Visits d f l n number y
visit_from d f l m n number y start members due h =
    let entries : m.members.entries ≡ l.members.entries = ap (λ x. x.entries) members in
    record {
      goes = record {
        on = h.goes.on;
        local = h.goes.local;
        start = h.goes.start ∙ start;
        claims = subst (λ (u : CodedInstance). ClaimsKeysFor d f u) start h.goes.claims;
        some = λ some. h.goes.some (subst (λ (u : Members). 0 < length u) (sym entries) some);
      };
      answer = visit_answer (program_at d) d.frame f.view l m n number y start entries due h.answer;
    }

-- what it goes on with
pub taken_saved : (s : System) (d : Held) (l m : Local) → IsReady s d l → m.members ≡ l.members → (x : Saved) → SavesNothing x ⊎ (l.saved ≡ Some x) → AreSaved s (reads_here (program_of s) d.view m.members.entries) x
taken_saved s d l m r members x (inl none) = none_saved x none
taken_saved s d l m r members x (inr is) =
    let here : IsKept s (reads_here (program_of s) d.view l.members.entries) l.saved = subst (λ (q : System). IsKept q (reads_here (program_of s) d.view l.members.entries) l.saved) r.same (r.local (naming_by_makers (program_of s) d.view.made) (ready_open s d l r)).saved in
    subst (λ (u : Members × Option Saved). IsKept s (reads_here (program_of s) d.view u.0) u.1) (λ i. (ap (λ x. x.entries) (sym members) i, is i)) here

pub visit_ready : (s : System) (d e : Held) (l m : Local) (b : Bool) → IsReady s d l → IsVisited d e l m b → IsReady s e m
visit_ready s d e l m b r h = ready_then s d e l m r h.goes

module _ (d e f : Held) (l m n : Local) (number : ℕ) (b : Bool) (h : IsVisited d e l m b) where
  step_back : (y : Result (Option Visited) CircFault) → Steps e f m n number y → AnswersStep (program_at d) d.frame f.view m n number y
  step_back y v = subst (λ (u : Program × Frame). AnswersStep u.0 u.1 f.view m n number y) (λ j. (program_on d e h.goes.on j, h.goes.on.cells j)) v.answer

  -- a member was added
  pub visit_less : Steps e f m n number (Ok None) → left n.members.entries < left m.members.entries
  visit_less v = (step_back (Ok None) v).0

  pub visit_grows : Steps e f m n number (Ok None) → IsVisited d f l n true
  visit_grows v = record { goes = with_then d e f l m n h.goes v.goes; change = grown_less b l m h.change (left n.members.entries) (visit_less v) }

  -- it ends
  pub visit_fault : (fault : CircFault) → Steps e f m n number (Err fault) → (y : Result Visited CircFault) → y ≡ Err fault → Visits d f l n number y
  visit_fault fault v y is = subst (λ (z : Result Visited CircFault). Visits d f l n number z) (sym is) (record { goes = with_then d e f l m n h.goes v.goes; answer = subst (λ (u : CodedInstance). AnswersFault (program_at d) u d.frame f.view fault) h.goes.start (step_back (Err fault) v) })

  pub visit_need : (s : System) → IsReady s d l → (q : CodedInstance) → Steps e f m n number (Ok (Some (Need q))) → (o : Local) (x : Saved) → o.start ≡ n.start → o.members ≡ n.members → o.need ≡ n.need → o.saved ≡ Some x → AreSaved s (reads_here (program_of s) f.view n.members.entries) x → Visits d f l o number (Ok (Need q))
  visit_need s r q v o x start members need kept saved =
      let missing : IsMissingByEach (program_at d) f.view n q = (step_back (Ok (Some (Need q))) v).0 in
      let here : AreSaved d.frame.system.value (reads_here (program_at d) f.view n.members.entries) x = subst (λ (z : System). AreSaved z (reads_here (program_of z) f.view n.members.entries) x) (sym r.same) saved in
      record {
        goes = goes_kept d f l n o start members need
            (subst (λ (u : Members × Option Saved). IsKept d.frame.system.value (reads_here (program_at d) f.view u.0) u.1) (λ i. (ap (λ x. x.entries) (sym members) i, sym kept i)) here)
            (with_then d e f l m n h.goes v.goes);
        answer = λ names agrees. missing_same (program_at d) names f.view n o q start need (missing names agrees);
      }

  pub visit_changed : Steps e f m n number (Ok (Some Changed)) → Visits d f l n number (Ok Changed)
  visit_changed v = record { goes = with_then d e f l m n h.goes v.goes; answer = grown_less b l m h.change (left n.members.entries) (step_back (Ok (Some Changed)) v) }

  same_members : Steps e f m n number (Ok (Some Same)) → n.members.entries ≡ m.members.entries
  same_members v = let st : Stays (program_at d) f.view m n number = step_back (Ok (Some Same)) v in st.members

  pub visit_same : b ≡ false → Steps e f m n number (Ok (Some Same)) → Visits d f l n number (Ok Same)
  visit_same none v =
      let change : HasGrown false l m = subst (λ (x : Bool). HasGrown x l m) none h.change in
      record { goes = with_then d e f l m n h.goes v.goes; answer = visit_answer (program_at d) d.frame f.view l m n number (Ok Same) h.goes.start change.0 change.1 (step_back (Ok (Some Same)) v) }

  -- it ends with members that were added, and rests
  pub visit_rests : b ≡ true → Steps e f m n number (Ok (Some Same)) → (o : Local) → o.start ≡ n.start → o.members ≡ n.members → o.need ≡ n.need → o.saved ≡ n.saved → Visits d f l o number (Ok Changed)
  visit_rests grown v o start members need saved =
      let change : HasGrown true l m = subst (λ (x : Bool). HasGrown x l m) grown h.change in
      let entries : o.members.entries ≡ n.members.entries = ap (λ x. x.entries) members in
      record {
        goes = goes_looked d f l n o start members need saved (with_then d e f l m n h.goes v.goes);
        answer = subst (λ (u : Members). left u < left l.members.entries) (sym (entries ∙ same_members v)) change;
      }

-- a pass, so far: the members up to this one are confirmed
pub record IsPassed (d e : Held) (l m : Local) (upto : ℕ) : Type 0 where
  pub goes : GoesOnWith d e l m
  pub same : m.members.entries ≡ l.members.entries
  pub confirmed : (k : ℕ) (x : CodedInstance × Member) → k < upto → slice_get m.members.entries k ≡ Some x → IsConfirmed (program_at d) e.view m.members.entries x

pub pass_begins : (s : System) (d : Held) (l : Local) → IsReady s d l → IsPassed d d l l 0
pass_begins s d l r = record { goes = with_itself s d l r; same = refl; confirmed = λ k x low at. absurd (omega (arith, low)) }

pub pass_looked : (d e : Held) (l m o : Local) (upto : ℕ) → o.start ≡ m.start → o.members ≡ m.members → o.need ≡ m.need → o.saved ≡ m.saved → IsPassed d e l m upto → IsPassed d e l o upto
pass_looked d e l m o upto start members need saved h =
    let entries : o.members.entries ≡ m.members.entries = ap (λ x. x.entries) members in
    record {
      goes = goes_looked d e l m o start members need saved h.goes;
      same = entries ∙ h.same;
      confirmed = λ k x low at. subst (λ (u : Members). IsConfirmed (program_at d) e.view u x) (sym entries) (h.confirmed k x low (ap (λ (u : Members). slice_get u k) (sym entries) ∙ at));
    }

pub pass_ready : (s : System) (d e : Held) (l m : Local) (upto : ℕ) → IsReady s d l → IsPassed d e l m upto → IsReady s e m
pass_ready s d e l m upto r h = ready_then s d e l m r h.goes

pub pass_whole : (d e : Held) (l m : Local) (upto : ℕ) → length m.members.entries ≤ upto → IsPassed d e l m upto → Passes d e l m (Ok Same)
pass_whole d e l m upto most h = record {
  goes = h.goes;
  answer = λ x there.
      let at = has_at m.members.entries x there in
      let low : at.0 < length m.members.entries = slice_get_within m.members.entries at.0 x at.1 in
      h.confirmed at.0 x (omega (arith, low, most)) at.1;
}

module _ (d e f : Held) (l m n : Local) (upto number : ℕ) (h : IsPassed d e l m upto) where
  back : (y : Result Visited CircFault) → Visits e f m n number y → AnswersVisit (program_at d) d.frame f.view m n number y
  back y v = subst (λ (u : Program × Frame). AnswersVisit u.0 u.1 f.view m n number y) (λ j. (program_on d e h.goes.on j, h.goes.on.cells j)) v.answer

  pub pass_need : (x : CodedInstance) → Visits e f m n number (Ok (Need x)) → Passes d f l n (Ok (Need x))
  pass_need x v = record { goes = with_then d e f l m n h.goes v.goes; answer = back (Ok (Need x)) v }

  pub pass_changed : Visits e f m n number (Ok Changed) → Passes d f l n (Ok Changed)
  pass_changed v = record { goes = with_then d e f l m n h.goes v.goes; answer = subst (λ (u : Members). left n.members.entries < left u) h.same (back (Ok Changed) v) }

  pub pass_fault : (fault : CircFault) → Visits e f m n number (Err fault) → (y : Result Visited CircFault) → y ≡ Err fault → Passes d f l n y
  pass_fault fault v y is = subst (λ (z : Result Visited CircFault). Passes d f l n z) (sym is) (record { goes = with_then d e f l m n h.goes v.goes; answer = subst (λ (u : CodedInstance). AnswersFault (program_at d) u d.frame f.view fault) h.goes.start (back (Err fault) v) })

  stays : Visits e f m n number (Ok Same) → Stays (program_at d) f.view m n number
  stays v = back (Ok Same) v

  before : (v : Visits e f m n number (Ok Same)) → (k : ℕ) (x : CodedInstance × Member) → k < upto → slice_get n.members.entries k ≡ Some x → IsConfirmed (program_at d) f.view n.members.entries x
  before v k x low at =
      let st = stays v in
      subst (λ (u : Members). IsConfirmed (program_at d) f.view u x) (sym st.members)
      (confirmed_later (program_at d) e.view f.view v.goes.on.kept m.members.entries x (h.confirmed k x low (ap (λ (u : Members). slice_get u k) (sym st.members) ∙ at)))

  -- what was confirmed still is
  pub pass_stays : Visits e f m n number (Ok Same) → IsPassed d f l n upto
  pass_stays v = record { goes = with_then d e f l m n h.goes v.goes; same = (stays v).members ∙ h.same; confirmed = before v }

  -- the next one is confirmed too
  pub pass_next : number ≡ upto → Visits e f m n number (Ok Same) → IsPassed d f l n (upto + 1)
  pass_next is v =
      let st = stays v in
      record {
        goes = with_then d e f l m n h.goes v.goes;
        same = st.members ∙ h.same;
        confirmed = λ k x low at.
            elim (cases_order k upto) [
              | inl q ↦ st.confirmed x (ap (λ (j : ℕ). slice_get n.members.entries j) (is ∙ sym q) ∙ at)
              | inr o ↦ before v k x (⊎_elim (λ z. z) (λ z. absurd (omega (arith, low, z))) o) at
            ];
      }

-- whether there is a member with a cell
pub no_entry : (es : Members) (k : ℕ) → None ≡ slice_get es k → (e : CodedInstance × Member) → slice_get es k ≡ Some e → ⊥
no_entry es k h e at = let both : None ≡ Some e = h ∙ at in cc

pub final_entry : (es : Members) (k : ℕ) (x : CodedInstance × Member) → slice_get es k ≡ Some x → is_some x.1.slot ≡ false → (e : CodedInstance × Member) → slice_get es k ≡ Some e → IsSome e.1.slot → ⊥
final_entry es k x here none e at some =
    let both : Some e ≡ Some x = sym at ∙ here in
    let same : e ≡ x = cc in
    not_both none (ap (λ (u : CodedInstance × Member). is_some u.1.slot) (sym same) ∙ some)

-- a pass ends
pub popped_less : (l m n : Local) (upto : ℕ) → m.members.entries ≡ l.members.entries → m.worklist.due ≡ l.worklist.due → n.members ≡ m.members → 0 < length l.worklist.due.sweep.keys → (0 < length m.worklist.due.sweep.keys → due_count n.worklist.due < due_count m.worklist.due) → (length n.members.entries - upto) + due_count n.worklist.due < (length l.members.entries - upto) + due_count l.worklist.due
popped_less l m n upto same due members some fewer =
    let entries : length n.members.entries ≡ length l.members.entries = ap (λ x. length x.entries) members ∙ ap length same in
    let count : due_count m.worklist.due ≡ due_count l.worklist.due = ap due_count due in
    let less : due_count n.worklist.due < due_count m.worklist.due = fewer (subst (λ d. 0 < length d.sweep.keys) (sym due) some) in
    omega (arith, entries, count, less)

pub next_less : (l m : Local) (upto : ℕ) → m.members.entries ≡ l.members.entries → m.worklist.due ≡ l.worklist.due → upto < length l.members.entries → (length m.members.entries - (upto + 1)) + due_count m.worklist.due < (length l.members.entries - upto) + due_count l.worklist.due
next_less l m upto same due low =
    let entries : length m.members.entries ≡ length l.members.entries = ap length same in
    let count : due_count m.worklist.due ≡ due_count l.worklist.due = ap due_count due in
    omega (arith, entries, count, low)

-- what is left of a pass doesn't hang on which member is next
pub looked_less : (l m n : Local) (upto more : ℕ) → m.members ≡ l.members → due_count m.worklist.due ≡ due_count l.worklist.due → (length n.members.entries - more) + due_count n.worklist.due < (length m.members.entries - upto) + due_count m.worklist.due → (length n.members.entries - more) + due_count n.worklist.due < (length l.members.entries - upto) + due_count l.worklist.due
looked_less l m n upto more members count less =
    let entries : length m.members.entries ≡ length l.members.entries = ap (λ x. length x.entries) members in
    omega (arith, entries, count, less)

-- whether a member is due
pub some_due : {X P : Type 0} (o : Option X) → IfSome o (λ x. P) → is_some o ≡ true → P
some_due None h e = cc
some_due (Some x) h e = h

pub none_due : {X : Type 0} (o : Option X) → is_some o ≡ false → o ≡ None
none_due None e = refl
none_due (Some x) e = cc
