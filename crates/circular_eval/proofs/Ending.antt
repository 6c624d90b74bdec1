-- Passes over a local set until it is closed.
use Rattle.std.proofs.Common.{◌≡◌, ◌<◌, ℕ, List, [], ◌∷◌, Option, Some, None, Result, Ok, Err, length, map, slice_get, refl, sym, subst, arith}
use Rattle.equation_law.specs.declared.coding.Instance.{Instance as CodedInstance}
use Rattle.equation_law.specs.declared.system.System.{System}
use Rattle.equation_law.specs.Codes.{instance_by, value_by}
use Rattle.equation_law.specs.Equations.{HasValue}
use Rattle.equation_law.specs.Program.{Program}
use Rattle.made_trees.specs.Made.{naming_by_makers}
use Rattle.memo_cells.specs.declared.keys.Slot.{Slot}
use Rattle.memo_cells.specs.declared.view.Frame.{Frame}
use Rattle.memo_cells.specs.Agreeing.{ByEachAgreeing}
use Rattle.memo_cells.specs.Standing.{Knows, MaySeal}
use Rattle.memo_cells.specs.Steps.{AreSealed}
use Rattle.memo_cells.specs.Views.{Has}
use Rattle.memo_cells.specs.Working.{Held, ReadsOn, program_at}
use Rattle.circular_eval.specs.declared.advancing.CircFault.{CircFault}
use Rattle.circular_eval.specs.declared.advancing.CircFault.TheVariants.{Memory}
use Rattle.circular_eval.specs.declared.advancing.CircTurn.{CircTurn}
use Rattle.circular_eval.specs.declared.advancing.CircTurn.TheVariants as turn
use Rattle.circular_eval.specs.declared.local.Local.{Local}
use Rattle.circular_eval.specs.declared.members.Member.{Member}
use Rattle.circular_eval.specs.declared.visiting.Visited.{Visited}
use Rattle.circular_eval.specs.declared.visiting.Visited.TheVariants.{Changed, Need, Same}
use Rattle.circular_eval.specs.Advancing.{AnswersFault}
use Rattle.circular_eval.specs.Left.{left}
use Rattle.circular_eval.specs.Local.{AreSlots, Members}
use Rattle.circular_eval.specs.Visiting.{Admits, Advances, AnswersClose, AnswersPass, AreConfirmed, Begins, Closes, GoesAgain, GoesOnWith, IsNewAt, IsReady, Passes, Visits}
use Rattle.memo_cells.proofs.Agreeing.{agrees_before}
use Rattle.circular_eval.proofs.Admitting.{local_is_here, near_is, open_is, program_is}
use Rattle.circular_eval.proofs.Closing.{may_seal, member_sealed}
use Rattle.circular_eval.proofs.Entries.{at_has}
use Rattle.circular_eval.proofs.Going.{program_on, ready_then, with_itself, with_then}
use Rattle.circular_eval.proofs.Valued.{member_has}
use Rattle.circular_eval.proofs.Passing.{goes_looked, goes_read}

-- what is said of what is held in between
close_back : (d e f : Held) (l m n : Local) → GoesOnWith d e l m → (y : Result (Option CodedInstance) CircFault) → Closes e f m n y → AnswersClose (program_at d) d.frame f.view m n y
close_back d e f l m n h y v = subst (λ (u : Program × Frame). AnswersClose u.0 u.1 f.view m n y) (λ j. (program_on d e h.on j, h.on.cells j)) v.answer

-- passes, one after the other
module _ (d e f : Held) (l m n : Local) (h : GoesOnWith d e l m) where
  pass_back : (y : Result Visited CircFault) → Passes e f m n y → AnswersPass (program_at d) d.frame f.view m n y
  pass_back y v = subst (λ (u : Program × Frame). AnswersPass u.0 u.1 f.view m n y) (λ j. (program_on d e h.on j, h.on.cells j)) v.answer

  pub close_need : (x : CodedInstance) → Passes e f m n (Ok (Need x)) → Closes d f l n (Ok (Some x))
  close_need x v = record { goes = with_then d e f l m n h v.goes; answer = pass_back (Ok (Need x)) v }

  pub close_same : Passes e f m n (Ok Same) → Closes d f l n (Ok None)
  close_same v = record { goes = with_then d e f l m n h v.goes; answer = pass_back (Ok Same) v }

  pub close_fault : (fault : CircFault) → Passes e f m n (Err fault) → (y : Result (Option CodedInstance) CircFault) → y ≡ Err fault → Closes d f l n y
  close_fault fault v y is =
      subst (λ (z : Result (Option CodedInstance) CircFault). Closes d f l n z) (sym is)
      (record { goes = with_then d e f l m n h v.goes; answer = subst (λ (u : CodedInstance). AnswersFault (program_at d) u d.frame f.view fault) h.start (pass_back (Err fault) v) })

  -- and behind going on with the member that stopped last
  close_from : (y : Result (Option CodedInstance) CircFault) → AnswersClose (program_at d) d.frame f.view m n y → AnswersClose (program_at d) d.frame f.view l n y
  close_from (Ok (Some x)) a = a
  close_from (Ok None) a = a
  close_from (Err fault) a = subst (λ (u : CodedInstance). AnswersFault (program_at d) u d.frame f.view fault) h.start a

  pub close_then : (y : Result (Option CodedInstance) CircFault) → Closes e f m n y → Closes d f l n y
  close_then y v = record { goes = with_then d e f l m n h v.goes; answer = close_from y (close_back d e f l m n h y v) }

  pub close_less : Passes e f m n (Ok Changed) → left n.members.entries < left m.members.entries
  close_less v = pass_back (Ok Changed) v

-- going on with the member that stopped last
pub again_none : (s : System) (d : Held) (l : Local) → IsReady s d l → GoesAgain d d l l (Ok None)
again_none s d l r = record { goes = with_itself s d l r; answer = tt }

pub again_needs : (d e : Held) (l m : Local) (number : ℕ) (x : CodedInstance) → Visits d e l m number (Ok (Need x)) → GoesAgain d e l m (Ok (Some x))
again_needs d e l m number x h = record { goes = h.goes; answer = h.answer }

pub again_changed : (d e : Held) (l m : Local) (number : ℕ) (x : Visited) → Visits d e l m number (Ok x) → GoesAgain d e l m (Ok None)
again_changed d e l m number x h = record { goes = h.goes; answer = tt }

pub again_rests : (d e : Held) (l m o : Local) (number : ℕ) → Visits d e l m number (Ok Same) → o.start ≡ m.start → o.members ≡ m.members → o.need ≡ m.need → o.saved ≡ m.saved → GoesAgain d e l o (Ok None)
again_rests d e l m o number h start members need saved = record { goes = goes_looked d e l m o start members need saved h.goes; answer = tt }

pub again_fault : (d e : Held) (l m : Local) (number : ℕ) (fault : CircFault) → Visits d e l m number (Err fault) → (y : Result (Option CodedInstance) CircFault) → y ≡ Err fault → GoesAgain d e l m y
again_fault d e l m number fault h y is = subst (λ (z : Result (Option CodedInstance) CircFault). GoesAgain d e l m z) (sym is) (record { goes = h.goes; answer = h.answer })

pub close_again : (d e : Held) (l m : Local) (x : CodedInstance) → GoesAgain d e l m (Ok (Some x)) → Closes d e l m (Ok (Some x))
close_again d e l m x h = record { goes = h.goes; answer = h.answer }

pub close_early : (d e : Held) (l m : Local) (fault : CircFault) → GoesAgain d e l m (Err fault) → (y : Result (Option CodedInstance) CircFault) → y ≡ Err fault → Closes d e l m y
close_early d e l m fault h y is = subst (λ (z : Result (Option CodedInstance) CircFault). Closes d e l m z) (sym is) (record { goes = h.goes; answer = h.answer })

nothing : (es : Members) → length es ≡ 0 → (e : CodedInstance × Member) → Has es e → ⊥
nothing [] h e there = there
nothing (x ∷ es) h e there = absurd (omega (arith, h))

pub head_of : (es : Members) → 0 < length es → (e : CodedInstance × Member) × (slice_get es 0 ≡ Some e)
head_of [] h = absurd (omega (arith, h))
head_of (e ∷ es) h = (e, refl)

-- the start
pub first_new : (s : System) (d : Held) (l : Local) → IsReady s d l → length l.members.entries ≡ 0 → (i : CodedInstance) → i ≡ l.start → IsNewAt d l i None
first_new s d l r none i is =
    let here = local_is_here s d l r in
    subst (λ (j : CodedInstance). IsNewAt d l j None) (sym is) (
      λ names agrees. let at = here names agrees in record { instance = at.instance; coded = at.coded; is_circular = at.is_circular; absent = λ m. nothing l.members.entries none m.0 m.1; led = refl },
      (here (naming_by_makers (program_at d) d.view.made) (open_is s d l r)).known,
    )

pub begin_none : (s : System) (d : Held) (l : Local) (u : Unit) → IsReady s d l → 0 < length l.members.entries → Begins d d l l (Ok u)
begin_none s d l u r some = record { goes = with_itself s d l r; some = some; fault = tt }

pub begin_admits : (d e : Held) (l m : Local) (y : Result Unit CircFault) → Admits d e l m y → Begins d e l m y
begin_admits d e l m y h = record { goes = h.goes; some = h.some; fault = h.fault }

-- going on
pub on_refused : (d e : Held) (l m : Local) (fault : CircFault) → Begins d e l m (Err fault) → (y : Result CircTurn CircFault) → y ≡ Err fault → Advances d e l m y
on_refused d e l m fault h y is =
    subst (λ (z : Result CircTurn CircFault). Advances d e l m z) (sym is)
    (record { goes = h.goes; begun = tt; answer = subst (λ (u : CodedInstance). AnswersFault (program_at d) u d.frame e.view fault) (sym h.goes.start) h.fault })

module _ (d e f : Held) (l m n : Local) (h : GoesOnWith d e l m) where
  pub on_fault : (fault : CircFault) → Closes e f m n (Err fault) → (y : Result CircTurn CircFault) → y ≡ Err fault → Advances d f l n y
  on_fault fault v y is =
      subst (λ (z : Result CircTurn CircFault). Advances d f l n z) (sym is)
      (record { goes = with_then d e f l m n h v.goes; begun = tt; answer = subst (λ (u : CodedInstance). AnswersFault (program_at d) u d.frame f.view fault) (sym v.goes.start) (close_back d e f l m n h (Err fault) v) })

  pub on_need : 0 < length m.members.entries → (x : CodedInstance) → Closes e f m n (Ok (Some x)) → Advances d f l n (Ok (turn.Need x))
  on_need some x v = record { goes = with_then d e f l m n h v.goes; begun = v.goes.some some; answer = close_back d e f l m n h (Ok (Some x)) v }

  pub on_late : Closes e f m n (Ok None) → (y : Result CircTurn CircFault) → y ≡ Err Memory → Advances d f l n y
  on_late v y is = subst (λ (z : Result CircTurn CircFault). Advances d f l n z) (sym is) (record { goes = with_then d e f l m n h v.goes; begun = tt; answer = tt })

  module _ (s : System) (r : IsReady s d l) (some : 0 < length m.members.entries) (closed : Closes e f m n (Ok None)) where
    pub on_goes : GoesOnWith d f l n
    on_goes = with_then d e f l m n h closed.goes

    ready : IsReady s f n
    ready = ready_then s d f l n r on_goes

    confirmed : AreConfirmed (program_at f) f.view n.members.entries
    confirmed = subst (λ (u : Program). AreConfirmed u f.view n.members.entries) (sym (program_on d f on_goes.on)) (close_back d e f l m n h (Ok None) closed)

    module _ (slots : List Slot) (are : AreSlots n.members.entries slots) where
      pub on_may : MaySeal (program_at f) f.frame f.view (map (λ x. x.0) slots)
      on_may =
          let some = naming_by_makers (program_at f) f.view.made in
          let by = open_is s f n ready in
          may_seal (program_at f) some (program_is s f n ready) f.view by (near_is s f n ready) by f.frame n.start n.members.entries (local_is_here s f n ready some by).set confirmed slots are

      module _ (g : Held) (on : ReadsOn f g) (sealed : AreSealed f.view g.view (map (λ x. x.0) slots)) where
        each : (x : CodedInstance × Member) → Has n.members.entries x → ByEachAgreeing (program_at f) f.view.made (λ names. Knows (program_at f) g.view (instance_by (program_at f) names x.0))
        each x there names agrees =
            member_sealed (program_at f) names (program_is s f n ready) f.view agrees (near_is s f n ready) (open_is s f n ready) f.frame n.start n.members.entries (local_is_here s f n ready names agrees).set confirmed slots are g.view on.on.kept sealed x there

        each_here : (x : CodedInstance × Member) → Has n.members.entries x → ByEachAgreeing (program_at d) f.view.made (λ names. Knows (program_at d) g.view (instance_by (program_at d) names x.0))
        each_here x there = subst (λ (u : Program). ByEachAgreeing u f.view.made (λ names. Knows u g.view (instance_by u names x.0))) (program_on d f on_goes.on) (each x there)

        has_each : (x : CodedInstance × Member) → Has n.members.entries x → ByEachAgreeing (program_at f) f.view.made (λ names. HasValue (program_at f) (instance_by (program_at f) names x.0) (value_by names x.1.value))
        has_each x there names agrees =
            member_has (program_at f) names (program_is s f n ready) f.view agrees (near_is s f n ready) (open_is s f n ready) f.frame n.start n.members.entries (local_is_here s f n ready names agrees).set confirmed slots are x there

        each_value : (x : CodedInstance × Member) → Has n.members.entries x → ByEachAgreeing (program_at d) f.view.made (λ names. HasValue (program_at d) (instance_by (program_at d) names x.0) (value_by names x.1.value))
        each_value x there = subst (λ (u : Program). ByEachAgreeing u f.view.made (λ names. HasValue u (instance_by u names x.0) (value_by names x.1.value))) (program_on d f on_goes.on) (has_each x there)

        start_sealed : ByEachAgreeing (program_at d) f.view.made (λ names. Knows (program_at d) g.view (instance_by (program_at d) names n.start))
        start_sealed =
            let x = head_of n.members.entries (closed.goes.some some) in
            let at = local_is_here s f n ready (naming_by_makers (program_at f) f.view.made) (open_is s f n ready) in
            subst (λ (i : CodedInstance). ByEachAgreeing (program_at d) f.view.made (λ names. Knows (program_at d) g.view (instance_by (program_at d) names i))) (at.set.first x.0 x.1) (each_here x.0 (at_has n.members.entries 0 x.0 x.1))

        pub on_closed : Advances d g l n (Ok turn.Closed)
        on_closed = record {
          goes = with_then d f g l n n on_goes (goes_read s f g n n ready on (record { start = refl; entries = refl; need = refl; saved = refl }));
          begun = closed.goes.some some;
          answer = λ names agrees.
              let before = agrees_before (program_at d) on.on.kept.made agrees in
              record { start = start_sealed names before; members = λ x there. each_here x there names before; values = λ x there. each_value x there names before };
        }
