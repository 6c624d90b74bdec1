-- Closing a local set: the cells that come to be seen settled pay for its evaluations.
use Rattle.std.proofs.Common.{◌≡◌, ℕ, ◌+◌, ◌*◌, ◌<◌, ◌≤◌, ◌⊎◌, inl, inr, ⊎_elim, Result, Ok, Err, refl, sym, subst, arith}
use Rattle.std.specs.Result.{IsErr, IsErrAnd, IsOk}
use Rattle.solutions.specs.Leading.{none}
use Rattle.equation_law.specs.declared.coding.Instance.{Instance as CodedInstance}
use Rattle.equation_law.specs.Codes.{Naming, instance_by}
use Rattle.equation_law.specs.Loops.{Chain}
use Rattle.equation_law.specs.Names.{Instance}
use Rattle.equation_law.specs.Program.{Program}
use Rattle.equation_law.specs.Systems.{program_of}
use Rattle.memo_cells.specs.declared.view.Frame.{Frame}
use Rattle.memo_cells.specs.declared.view.View.{View}
use Rattle.memo_cells.specs.Agreeing.{Agrees}
use Rattle.memo_cells.specs.Causes.{IsLogOn, WhyUnsettled}
use Rattle.memo_cells.specs.Claiming.{ClaimsKeys}
use Rattle.memo_cells.specs.Naming.{IsCellOf}
use Rattle.memo_cells.specs.Standing.{IsPassOf, Knows}
use Rattle.memo_cells.specs.Views.{IsAtLeast}
use Rattle.memo_cells.proofs.Causes.{log_itself, log_then}
use Rattle.memo_cells.proofs.Claiming.{claims_same, claims_then}
use Rattle.memo_cells.proofs.Deciding.{knows_or_not}
use Rattle.memo_cells.proofs.More.{at_least_itself, at_least_then}
use Rattle.memo_cells.proofs.Naming.{knows_later}
use Rattle.circular_eval.specs.declared.advancing.CircFault.{CircFault}
use Rattle.circular_eval.specs.declared.advancing.CircFault.TheVariants as set_fault
use Rattle.circular_eval.specs.declared.local.Local.{Local}
use Rattle.circular_eval.specs.Advancing.{AnswersFault as AnswersCircular, IsMissing}
use Rattle.caller_pass.specs.declared.faults.AskFault.{AskFault}
use Rattle.caller_pass.specs.Answering.{StopsAt, ClosesMore, IsSameFault, Solves, SolvesFor, WasUnsettled, unsettled}
use Rattle.caller_pass.proofs.Falling.{unsettled_falls, unsettled_less}
use Rattle.caller_pass.proofs.Going.{solve_fault, was_within}

-- the fault of a local set
pub same_fault : (p : Program) (names : Naming) (f : Frame) (v : View) (named : Agrees p v.made names) (i : CodedInstance) (from : CircFault) (e : AskFault) → IsSameFault from e → AnswersCircular p i f v from → StopsAt p names f v (instance_by p names i) e
same_fault p names f v named i set_fault.CellsFull e is a = subst (λ (x : AskFault). StopsAt p names f v (instance_by p names i) x) (sym is) (a names named)
same_fault p names f v named i set_fault.Memory e is a = subst (λ (x : AskFault). StopsAt p names f v (instance_by p names i) x) (sym is) tt

module _ (p : Program) (names : Naming) (f : Frame) (same : p ≡ program_of f.system.value) (v w : View) (named : Agrees p w.made names) (own : IsPassOf f v) (then : IsPassOf f w) (kept : IsAtLeast v w) (start : CodedInstance) (unknown : ¬ Knows p v (instance_by p names start)) (claims : ClaimsKeys p (instance_by p names start) v w) (before after : ℕ) (evals : after ≡ before + 1) where
  abbrev i : Instance
  i = instance_by p names start

  -- it is sealed
  pub closes_now : Knows p w i → (done : Unit {0}) → ClosesMore p names f v w i before after (Ok done)
  closes_now known done =
      let falls = unsettled_falls p f same v w own then kept i unknown known in
      record { fault = λ e is. cc; claims = claims; cost = λ ok. omega (arith, falls, evals); known = λ ok k. omega (arith, falls, evals); falls = λ ok. falls }

  -- a fault
  pub closes_fault : (e : CircFault) (r : Result Unit AskFault) → IsErr r × IsErrAnd r (λ x. IsSameFault e x) → AnswersCircular p start f w e → ClosesMore p names f v w i before after r
  closes_fault e (Ok x) h a = let none = h.0 in cc
  closes_fault e (Err d) h a = record {
    fault = λ x is. let same_one : d ≡ x = cc in subst (λ (y : AskFault). StopsAt p names f w i y) same_one (same_fault p names f w named start e d h.1 a);
    claims = claims;
    cost = λ ok. cc;
    known = λ ok k. cc;
    falls = λ ok. cc;
  }

  -- what was needed is settled, or wasn't
  pub closes_for : (u : View) → IsPassOf f u → IsAtLeast w u → (l : Local) → l.start ≡ start → (n : CodedInstance) → IsMissing p names w l n → (now : ℕ) (r : Result Unit AskFault) → SolvesFor p names f w u l (instance_by p names n) after now r → ClosesMore p names f v u i before now r
  closes_for u own_u later l is_start n missing now r h = record {
    fault = λ e is. subst (λ (j : CodedInstance). StopsAt p names f u (instance_by p names j) e) is_start (h.fault e is);
    claims = claims_then p i (instance_by p names n) v w u (subst (λ (j : CodedInstance). Chain p (instance_by p names j) (instance_by p names n)) is_start missing.reached) claims later h.claims;
    cost = λ ok.
        let cost = h.cost ok in
        let less = unsettled_less v w f.cells kept in
        omega (arith, cost, less, evals);
    known = λ ok k. ⊎_elim
        (λ yet.
        let cost = h.cost ok in
        let falls = unsettled_falls p f same v w own then kept i unknown yet in
        omega (arith, cost, falls, evals))
        (λ not_yet.
        let cost = h.start ok (subst (λ (j : CodedInstance). ¬ Knows p w (instance_by p names j)) (sym is_start) not_yet) (subst (λ (j : CodedInstance). Knows p u (instance_by p names j)) (sym is_start) k) in
        let less = unsettled_less v w f.cells kept in
        omega (arith, cost, less, evals))
        (knows_or_not p f w same then i);
    falls = λ ok.
        let falls = unsettled_falls p f same w u then own_u later (instance_by p names n) missing.unknown (h.settled ok) in
        let less = unsettled_less v w f.cells kept in
        omega (arith, falls, less);
  }

-- What holds before each turn of closing the set of i: `v` is what was known at first, and `w` what is known.
pub record IsClosing (p : Program) (f : Frame) (v w : View) (i : Instance) (before now : ℕ) : Type 0 where
  pub own : IsPassOf f w
  pub kept : IsAtLeast v w
  pub log : IsLogOn v w
  pub claims : ClaimsKeys p i v w
  pub loads : (now ≡ before) ⊎ WasUnsettled p f v w i
  pub cost : now + 2 * unsettled w f.cells ≤ before + 2 * unsettled v f.cells
  pub known : Knows p w i → (now ≡ before) ⊎ (now + 2 * unsettled w f.cells < before + 2 * unsettled v f.cells)

-- its cell was claimed
pub closing_first : (p : Program) (f : Frame) (v w : View) (i : Instance) (evals : ℕ) → IsPassOf f w → IsAtLeast v w → IsLogOn v w → ClaimsKeys p i v w → IsClosing p f v w i evals evals
closing_first p f v w i evals own kept log claims = record {
  own = own;
  kept = kept;
  log = log;
  claims = claims;
  loads = inl refl;
  cost = (let less = unsettled_less v w f.cells kept in omega (arith, less));
  known = λ k. inl refl;
}

module _ (p : Program) (f : Frame) (same : p ≡ program_of f.system.value) (v w u : View) (i : Instance) (before now : ℕ) (c : IsClosing p f v w i before now) (own : IsPassOf f u) (kept : IsAtLeast w u) (log : IsLogOn w u) where
  -- it was looked whether i is sealed
  pub closing_looked : u.claims ≡ w.claims → IsClosing p f v u i before now
  closing_looked quiet = record {
    own = own;
    kept = at_least_then c.kept kept;
    log = log_then c.log log;
    claims = claims_then p i i v w u none c.claims kept (claims_same p i w u quiet);
    loads = ⊎_elim inl (λ was. inr (was_within p f v v w u i (at_least_itself v) (log_itself v) kept log was)) c.loads;
    cost = (let cost = c.cost in let less = unsettled_less w u f.cells kept in omega (arith, cost, less));
    known = λ k. ⊎_elim
        (λ yet. ⊎_elim inl (λ cost. inr (let less = unsettled_less w u f.cells kept in omega (arith, cost, less))) (c.known yet))
        (λ not_yet. inr (let cost = c.cost in let falls = unsettled_falls p f same w u c.own own kept i not_yet k in omega (arith, cost, falls)))
        (knows_or_not p f w same c.own i);
  }

  -- the set went on, where i wasn't sealed: its value word was loaded just before
  module _ (names : Naming) (slot : ℕ) (cell : IsCellOf p f w i slot) (why : WhyUnsettled f v w slot) (unknown : ¬ Knows p w i) (after : ℕ) (r : Result Unit AskFault) (h : ClosesMore p names f w u i now after r) where
    was_looked : WasUnsettled p f v w i
    was_looked = record { unknown = λ k. unknown (knows_later v w c.kept p i k); slot = slot; cell = cell; why = why }

    was_unsettled : WasUnsettled p f v u i
    was_unsettled = was_within p f v v w u i (at_least_itself v) (log_itself v) kept log was_looked

    pub closing_more : IsOk r → IsClosing p f v u i before after
    closing_more ok = record {
      own = own;
      kept = at_least_then c.kept kept;
      log = log_then c.log log;
      claims = claims_then p i i v w u none c.claims kept h.claims;
      loads = inr was_unsettled;
      cost = (let cost = c.cost in let more = h.cost ok in omega (arith, cost, more));
      known = λ k. inr (let cost = c.cost in let more = h.known ok k in omega (arith, cost, more));
    }

    pub closing_fault : (e : AskFault) → r ≡ Err e → (all : Result Unit AskFault) → IsErr all × IsErrAnd all (λ x. x ≡ e) → Solves p names f v u i before after all
    closing_fault e is all given = solve_fault p names f v u i before after e all given (claims_then p i i v w u none c.claims kept h.claims) (inr was_unsettled) (h.fault e is)

-- it is sealed
pub closed : (p : Program) (names : Naming) (f : Frame) (v w : View) (i : Instance) (before now : ℕ) → IsClosing p f v w i before now → Knows p w i → (done : Unit {0}) → Solves p names f v w i before now (Ok done)
closed p names f v w i before now c k done = record { answer = k; claims = c.claims; loads = c.loads; cost = λ ok. c.known k }
