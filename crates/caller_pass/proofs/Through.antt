-- What a turn comes to, at each way out of it.
use Rattle.std.proofs.Common.{◌≡◌, ℕ, ◌+◌, [], Bool, false, true, Option, Some, None, Result, Ok, Err, refl, sym, ap, subst}
use Rattle.std.specs.Global.{Box}
use Rattle.std.specs.Result.{IsErr, IsErrAnd}
use Rattle.solutions.specs.Leading.{more, none}
use Rattle.equation_law.specs.declared.coding.Instance.{Instance as CodedInstance}
use Rattle.equation_law.specs.declared.coding.TreeImage.{TreeImage}
use Rattle.equation_law.specs.declared.coding.Value.{Value as CodedValue}
use Rattle.equation_law.specs.Checked.{IsInstance, IsProgram}
use Rattle.equation_law.specs.Codes.{IsCoded, Naming, instance_by, instance_of}
use Rattle.equation_law.specs.Equations.{equations_of, is_declared}
use Rattle.equation_law.specs.Loops.{Leads}
use Rattle.equation_law.specs.Names.{Instance}
use Rattle.equation_law.specs.Program.{Program}
use Rattle.equation_law.specs.Systems.{program_of}
use Rattle.expr_eval.specs.declared.sites.Turn.TheVariants as turns
use Rattle.memo_cells.specs.Agreeing.{Agrees, ByEachAgreeing, IsKnownInstance}
use Rattle.memo_cells.specs.Causes.{WhyUnsettled}
use Rattle.made_trees.specs.Made.{naming_by_makers}
use Rattle.memo_cells.specs.declared.view.Frame.{Frame}
use Rattle.memo_cells.specs.declared.view.View.{View}
use Rattle.memo_cells.specs.Claiming.{ClaimsKeys}
use Rattle.memo_cells.specs.Naming.{IsCellOf}
use Rattle.memo_cells.specs.Standing.{Knows}
use Rattle.memo_cells.specs.Working.{ClaimsKeysFor, GoesOn, Held, IsCellNow, IsInstanceAt, IsKnownAt, IsOwn, ReadsOn, program_at}
use Rattle.memo_cells.proofs.Agreeing.{agrees_before, instance_known_later, own_open}
use Rattle.memo_cells.proofs.Causes.{log_itself}
use Rattle.memo_cells.proofs.Claiming.{claims_same, claims_then}
use Rattle.memo_cells.proofs.More.{at_least_itself}
use Rattle.memo_cells.proofs.Naming.{cell_later, knows_later}
use Rattle.circular_eval.specs.declared.advancing.CircFault.{CircFault}
use Rattle.circular_eval.specs.declared.local.Local.{Local}
use Rattle.circular_eval.specs.Advancing.{AnswersFault as AnswersCircular, IsMissingByEach}
use Rattle.circular_eval.specs.Local.{IsLocalAt, IsStillLocal}
use Rattle.circular_eval.proofs.Later.{local_later}
use Rattle.caller_pass.specs.declared.faults.AskFault.{AskFault}
use Rattle.caller_pass.specs.declared.faults.AskFault.TheVariants.{Memory}
use Rattle.caller_pass.specs.declared.left.Left.{Left}
use Rattle.caller_pass.specs.declared.solving.Went.{Went}
use Rattle.caller_pass.specs.declared.solving.Went.TheVariants.{Further, Need, Settled}
use Rattle.caller_pass.specs.declared.waiting.Waiter.{Waiter}
use Rattle.caller_pass.specs.Answering.{AnswersFinish, AnswersStep, Evaluates, FindsSettled, GoesThrough, IsNext, IsSameFault, SameWay, WayChanges}
use Rattle.caller_pass.specs.Holding.{AnswersFinishAt, HasEndedAt, HasTurnAt, IsFrameAt, IsInstanceByEach, IsUndeclaredAt, IsUnknownAt, TurnsToAt}
use Rattle.caller_pass.specs.Knowing.{HasEnded, TellsSettled}
use Rattle.caller_pass.specs.Leaving.{IsLeft, reads_known}
use Rattle.caller_pass.specs.Waiting.{HasTurn, HasWay, IsLocalFrom, IsWayOf, way_of}
use Rattle.caller_pass.proofs.Frames.{placed_later}
use Rattle.caller_pass.proofs.Going.{was_within}
use Rattle.caller_pass.proofs.Leaving.{left_known}
use Rattle.memo_cells.proofs.Holding.{goes_then, own_then}
use Rattle.caller_pass.proofs.Stepping.{err_is, finish_step, local_fault, memory_step, next_local, next_need, way_need}

-- no equation comes to a tree that is made
pub no_image : (d e : Held) (i : CodedInstance) (t : TreeImage) → GoesOn d e → TurnsToAt d e i (Ok (turns.Image t)) → ⊥
no_image d e i t on came = came _ (own_open d.frame e.view [] (own_then d e on))

-- the local set through which an instance waits
pub turn_way : (p : Program) (names : Naming) (f : Frame) (v : View) (i : CodedInstance) (x : Waiter) (l : Local) → HasTurn p names f v (i, x) → way_of x ≡ Some l → HasWay p names f v (instance_by p names i) (Some l)
turn_way p names f v i x l turn way = subst (λ (o : Option Local). HasWay p names f v (instance_by p names i) o) way turn.way

-- it is well coded, its nodes are known, and what its evaluation left behind is so
module _ (d : Held) (i : CodedInstance) (x : Waiter) (own : IsOwn d) (turn : HasTurnAt d (i, x)) where
  plainly : HasTurn (program_at d) (naming_by_makers (program_at d) d.view.made) d.frame d.view (i, x)
  plainly = turn _ (own_open d.frame d.view [] own)

  pub turn_coded : IsCoded (program_at d) i
  turn_coded = plainly.placed.coded

  pub turn_known : IsKnownAt d i
  turn_known = plainly.placed.known

  pub turn_left : IsLeft d.frame.system.value (reads_known (program_at d) d.view) i x.left
  turn_left = plainly.placed.left

  pub turn_local : (l : Local) → way_of x ≡ Some l → IsLocalAt d l
  turn_local l way names named = (turn_way (program_at d) names d.frame d.view i x l (turn names named) way).0

-- the instance waits for a local set, which went on
module _ (d e : Held) (i : CodedInstance) (x : Waiter) (l : Local) (b : Box Local) (way : way_of x ≡ Some l) (own : IsOwn d) (turn : HasTurnAt d (i, x)) (on : GoesOn d e) (local : IsStillLocal d e b.value × (b.value.start ≡ l.start)) (claims : ClaimsKeysFor d e l.start) (before after : ℕ) (evals : after ≡ before + 1) where
  before_on : {names : Naming} → Agrees (program_at d) e.view.made names → Agrees (program_at d) d.view.made names
  before_on = agrees_before (program_at d) on.kept.made

  its : ByEachAgreeing (program_at d) e.view.made (λ names. HasWay (program_at d) names d.frame d.view (instance_by (program_at d) names i) (Some l))
  its names named = turn_way (program_at d) names d.frame d.view i x l (turn names (before_on named)) way

  start_is : (names : Naming) → instance_by (program_at d) names b.value.start ≡ instance_by (program_at d) names l.start
  start_is names = ap (instance_by (program_at d) names) local.1

  all_claims : ClaimsKeysFor d e i
  all_claims names named =
      let p = program_at d in
      claims_then p (instance_by p names i) (instance_by p names l.start) d.view d.view e.view (more (its names named).1 none) (claims_same p (instance_by p names i) d.view d.view refl) on.kept (claims names named)

  still_left : IsLeft d.frame.system.value (reads_known (program_at d) e.view) i x.left
  still_left = left_known (program_at d) d.view e.view on.kept d.frame.system.value i x.left (turn_left d i x own turn)

  pub local_err : (from : CircFault) (r : Result Went AskFault) → IsErr r × IsErrAnd r (λ e. IsSameFault from e) → AnswersCircular (program_at d) b.value.start d.frame e.view from → GoesThrough (program_at d) d e i x (record { slot = x.slot; way = Some b; left = x.left }) before after r
  local_err from r h a = record {
    on = on;
    claims = all_claims;
    slot = refl;
    left = still_left;
    answer = λ names named.
        let p = program_at d in
        err_is (AnswersStep p names d.frame e.view (instance_by p names i) (way_of x) (Some b.value)) (λ (y : AskFault). IsSameFault from y) r h
        (λ y is. local_fault p names d.frame e.view named (instance_by p names i) l.start (way_of x) (Some b.value) from y (its names named).1 (subst (λ (j : CodedInstance). AnswersCircular p j d.frame e.view from) local.1 a) is);
    evals = evals;
  }

  pub local_need : (n : CodedInstance) → IsMissingByEach (program_at d) e.view b.value n → GoesThrough (program_at d) d e i x (record { slot = x.slot; way = Some b; left = x.left }) before after (Ok (Need n))
  local_need n missing = record {
    on = on;
    claims = all_claims;
    slot = refl;
    left = still_left;
    answer = λ names named.
        let p = program_at d in (
          next_local p names d.frame e.view (instance_by p names i) b.value n (subst (λ (j : Instance). Leads p (instance_by p names i) j) (sym (start_is names)) (its names named).1) (local.0 names named) (missing names named),
          subst (λ (o : Option Local). SameWay o (Some b.value)) (sym way) local.1,
        );
    evals = evals;
  }

  pub local_closed : ByEachAgreeing (program_at d) e.view.made (λ names. Knows (program_at d) e.view (instance_by (program_at d) names b.value.start)) → GoesThrough (program_at d) d e i x (record { slot = x.slot; way = None; left = x.left }) before after (Ok Further)
  local_closed known = record {
    on = on;
    claims = all_claims;
    slot = refl;
    left = still_left;
    answer = λ names named.
        let p = program_at d in
        subst (λ (o : Option Local). WayChanges p names d.frame e.view (instance_by p names i) o None) (sym way) (subst (λ (j : Instance). Knows p e.view j) (start_is names) (known names named));
    evals = evals;
  }

-- its equation was evaluated
module _ (d e : Held) (i : CodedInstance) (x : Waiter) (way : way_of x ≡ None) (good : IsProgram (program_at d)) (turn : HasTurnAt d (i, x)) (on : ReadsOn d e) (before after : ℕ) (evals : after ≡ before + 1) (m : Option Left) (told : IsLeft d.frame.system.value (reads_known (program_at d) e.view) i m) where
  turn_claims : ClaimsKeysFor d e i
  turn_claims names named = claims_same (program_at d) (instance_by (program_at d) names i) d.view e.view on.claims

  pub turn_err : (r : Result Went AskFault) → IsErr r × IsErrAnd r (λ f. f ≡ Memory) → GoesThrough (program_at d) d e i x (record { slot = x.slot; way = x.way; left = m }) before after r
  turn_err r h = record {
    on = on.on;
    claims = turn_claims;
    slot = refl;
    left = told;
    answer = λ names named.
        let p = program_at d in
        err_is (AnswersStep p names d.frame e.view (instance_by p names i) (way_of x) (way_of x)) (λ (y : AskFault). y ≡ Memory) r h (λ f is. memory_step p names d.frame e.view (instance_by p names i) (way_of x) (way_of x) f is);
    evals = evals;
  }

  -- it demands another one
  module _ (n : CodedInstance) (need : TurnsToAt d e i (Ok (turns.Need n))) where
    is_placed : IsInstanceByEach (program_at d) e.view i
    is_placed names named = (turn names (agrees_before (program_at d) on.on.kept.made named)).placed.instance

    pub turn_need : is_declared (program_at d) (instance_of (program_at d) n) ≡ false → GoesThrough (program_at d) d e i x (record { slot = x.slot; way = x.way; left = m }) before after (Ok (Need n))
    turn_need plain = record {
      on = on.on;
      claims = turn_claims;
      slot = refl;
      left = told;
      answer = λ names named.
          let p = program_at d in (
            subst (λ (o : Option Local). IsNext p names d.frame e.view (instance_by p names i) o n) (sym way) (next_need p good d.frame refl e.view (own_then d e on.on) i is_placed n need plain names named),
            subst (λ (o : Option Local). SameWay o o) (sym way) tt,
          );
      evals = evals;
    }

    pub turn_start : is_declared (program_at d) (instance_of (program_at d) n) ≡ true → (l : Box Local) → l.value.start ≡ n → IsLocalFrom n l.value → GoesThrough (program_at d) d e i x (record { slot = x.slot; way = Some l; left = m }) before after (Ok Further)
    turn_start declared l start local = record {
      on = on.on;
      claims = turn_claims;
      slot = refl;
      left = told;
      answer = λ names named.
          let p = program_at d in
          subst (λ (o : Option Local). WayChanges p names d.frame e.view (instance_by p names i) o (Some l.value)) (sym way) (way_need p good d.frame refl e.view (own_then d e on.on) i is_placed n need declared l.value start local names named);
      evals = evals;
    }

  -- it ended, and was settled
  module _ (g : Held) (then_on : GoesOn e g) (more : ClaimsKeysFor e g i) where
    then_claims : ByEachAgreeing (program_at d) g.view.made (λ names. ClaimsKeys (program_at d) (instance_by (program_at d) names i) e.view g.view)
    then_claims = subst (λ (f : Frame). ByEachAgreeing (program_of f.system.value) g.view.made (λ names. ClaimsKeys (program_of f.system.value) (instance_by (program_of f.system.value) names i) e.view g.view)) on.on.cells more

    ended_claims : ClaimsKeysFor d g i
    ended_claims names named =
        let p = program_at d in
        claims_then p (instance_by p names i) (instance_by p names i) d.view e.view g.view none (turn_claims names (agrees_before p then_on.kept.made named)) then_on.kept (then_claims names named)

    pub ended_err : (f : AskFault) (r : Result Went AskFault) → IsErr r × IsErrAnd r (λ y. y ≡ f) → AnswersFinishAt e g i (Err f) → GoesThrough (program_at d) d g i x (record { slot = x.slot; way = x.way; left = m }) before after r
    ended_err f r h a = record {
      on = goes_then d e g on.on then_on;
      claims = ended_claims;
      slot = refl;
      left = left_known (program_at d) e.view g.view then_on.kept d.frame.system.value i m told;
      answer = λ names named.
          let p = program_at d in
          let here = subst (λ (k : Frame). ByEachAgreeing (program_of k.system.value) g.view.made (λ names. AnswersFinish (program_of k.system.value) k g.view (instance_by (program_of k.system.value) names i) (Err f))) on.on.cells a in
          err_is (AnswersStep p names d.frame g.view (instance_by p names i) (way_of x) (way_of x)) (λ (y : AskFault). y ≡ f) r h
          (λ y is. subst (λ (z : AskFault). AnswersStep p names d.frame g.view (instance_by p names i) (way_of x) (way_of x) (Err z)) (sym is)
          (finish_step p names d.frame g.view (instance_by p names i) (way_of x) (way_of x) f (here names named)));
      evals = evals;
    }

    pub ended_ok : ByEachAgreeing (program_at e) g.view.made (λ names. Knows (program_at e) g.view (instance_by (program_at e) names i)) → GoesThrough (program_at d) d g i x (record { slot = x.slot; way = x.way; left = m }) before after (Ok Settled)
    ended_ok known = record {
      on = goes_then d e g on.on then_on;
      claims = ended_claims;
      slot = refl;
      left = left_known (program_at d) e.view g.view then_on.kept d.frame.system.value i m told;
      answer = λ names named. (subst (λ (k : Frame). ByEachAgreeing (program_of k.system.value) g.view.made (λ names. Knows (program_of k.system.value) g.view (instance_by (program_of k.system.value) names i))) on.on.cells known names named, way);
      evals = evals;
    }

  -- what settling it requires
  pub at_turn : (P : Frame → Type 0) → P d.frame → P e.frame
  at_turn P h = subst P (sym on.on.cells) h

  module _ (own : IsOwn d) where
    pub known_turn : IsKnownAt e i
    known_turn = at_turn (λ f. IsKnownInstance (program_of f.system.value) e.view.made i) (instance_known_later (program_at d) on.on.kept.made i (turn_known d i x own turn))

  pub instance_turn : IsInstanceAt e i
  instance_turn = at_turn (λ f. ByEachAgreeing (program_of f.system.value) e.view.made (λ names. IsInstance (program_of f.system.value) (instance_by (program_of f.system.value) names i)))
      (λ names named. (turn names (agrees_before (program_at d) on.on.kept.made named)).placed.instance)

  pub undeclared_turn : IsUndeclaredAt e i
  undeclared_turn = at_turn (λ f. ByEachAgreeing (program_of f.system.value) e.view.made (λ names. (equations_of (program_of f.system.value)).circular (instance_by (program_of f.system.value) names i) ≡ false))
      (λ names named. (turn names (agrees_before (program_at d) on.on.kept.made named)).placed.undeclared)

  pub cell_turn : IsCellNow e i x.slot.0
  cell_turn = at_turn (λ f. ByEachAgreeing (program_of f.system.value) e.view.made (λ names. IsCellOf (program_of f.system.value) f e.view (instance_by (program_of f.system.value) names i) x.slot.0))
      (λ names named. cell_later d.view e.view on.on.kept (program_at d) d.frame (instance_by (program_at d) names i) x.slot.0 (turn names (agrees_before (program_at d) on.on.kept.made named)).placed.slot)

  pub ended_turn : (value : CodedValue) → TurnsToAt d e i (Ok (turns.Done value)) → HasEndedAt e i value
  ended_turn value h = at_turn (λ f. ByEachAgreeing (program_of f.system.value) e.view.made (λ names. HasEnded (program_of f.system.value) names e.view (instance_by (program_of f.system.value) names i) value)) h

-- its value word was loaded as the turn began
module _ {d e : Held} {i : CodedInstance} {x : Waiter} (frame : IsFrameAt d (i, x)) (read : ReadsOn d e) (b : Bool) (told : TellsSettled (program_at d) d.frame d.view e.view x.slot.0 b) where
  told_at : (c : Bool) → b ≡ c → TellsSettled (program_at d) d.frame d.view e.view x.slot.0 c
  told_at c is = subst (λ (a : Bool). TellsSettled (program_at d) d.frame d.view e.view x.slot.0 a) is told

  at_load : (P : Frame → Type 0) → P d.frame → P e.frame
  at_load P h = subst P (sym read.on.cells) h

  before_load : {names : Naming} → Agrees (program_at d) e.view.made names → Agrees (program_at d) d.view.made names
  before_load = agrees_before (program_at d) read.on.kept.made

  -- it was settled
  pub found_settled : b ≡ true → (n : ℕ) → FindsSettled d e i n n (Ok Settled)
  found_settled settled n = record {
    read = read;
    known = at_load (λ f. ByEachAgreeing (program_of f.system.value) e.view.made (λ names. Knows (program_of f.system.value) e.view (instance_by (program_of f.system.value) names i)))
        (λ names named. told_at true settled (instance_by (program_at d) names i) (frame names (before_load named)).placed.slot);
    went = refl;
    evals = refl;
  }

  -- it wasn't
  module _ (missing : b ≡ false) (cause : b ≡ false → WhyUnsettled d.frame d.view e.view x.slot.0) where
    unsettled : ByEachAgreeing (program_at d) e.view.made (λ names. ¬ Knows (program_at d) e.view (instance_by (program_at d) names i))
    unsettled names named = told_at false missing (instance_by (program_at d) names i) (frame names (before_load named)).placed.slot

    pub program_loaded : IsProgram (program_at d) → IsProgram (program_at e)
    program_loaded good = at_load (λ f. IsProgram (program_of f.system.value)) good

    pub unsettled_loaded : IsUnknownAt e i
    unsettled_loaded = at_load (λ f. ByEachAgreeing (program_of f.system.value) e.view.made (λ names. ¬ Knows (program_of f.system.value) e.view (instance_by (program_of f.system.value) names i))) unsettled

    pub turn_loaded : HasTurnAt e (i, x)
    turn_loaded = at_load (λ f. ByEachAgreeing (program_of f.system.value) e.view.made (λ names. HasTurn (program_of f.system.value) names f e.view (i, x))) turn_here
      where
        way_loaded : (names : Naming) (o : Option Local) → IsWayOf (program_at d) names d.frame d.view (instance_by (program_at d) names i) o → HasWay (program_at d) names d.frame e.view (instance_by (program_at d) names i) o
        way_loaded names None h = tt
        way_loaded names (Some l) h = (local_later (program_at d) names d.view e.view read.on.kept d.frame l h.local, h.led)

        turn_here : ByEachAgreeing (program_at d) e.view.made (λ names. HasTurn (program_at d) names d.frame e.view (i, x))
        turn_here names named = record { placed = placed_later (program_at d) names d.frame d.view e.view read.on.kept (i, x) (frame names (before_load named)).placed; way = way_loaded names (way_of x) (frame names (before_load named)).way }

    pub evaluated : {g : Held} {y : Waiter} {before after : ℕ} {r : Result Went AskFault} → GoesThrough (program_at e) e g i x y before after r → Evaluates (program_at d) d g i x y before after r
    evaluated {g} {y} {before} {after} {r} h =
        let p = program_at d in
        let k = subst (λ (f : Frame). GoesThrough (program_of f.system.value) (record { frame = f; view = e.view; lender = e.lender }) g i x y before after r) read.on.cells h in
        record {
          was = λ names then.
              let named = agrees_before p h.on.kept.made then in
              was_within p d.frame d.view d.view e.view g.view (instance_by p names i) (at_least_itself d.view) (log_itself d.view) h.on.kept h.on.log
              (record {
                unknown = λ known. unsettled names named (knows_later d.view e.view read.on.kept p (instance_by p names i) known);
                slot = x.slot.0;
                cell = cell_later d.view e.view read.on.kept p d.frame (instance_by p names i) x.slot.0 (frame names (before_load named)).placed.slot;
                why = cause missing;
              });
          through = record {
            on = goes_then d e g read.on h.on;
            claims = λ names named. claims_then p (instance_by p names i) (instance_by p names i) d.view e.view g.view none (claims_same p (instance_by p names i) d.view e.view read.claims) h.on.kept (k.claims names named);
            slot = k.slot;
            left = k.left;
            answer = k.answer;
            evals = k.evals;
          };
        }
