-- Turns of solving, at the desk.
use Rattle.std.proofs.Common.{◌≡◌, ℕ, ◌<◌, inl, inr, ⊎_elim, false, List, [], ◌∷◌, ◌++◌, None, Result, Ok, Err, refl, sym, subst, ◌∙◌}
use Rattle.std.specs.Result.{IsErr, IsErrAnd}
use Rattle.equation_law.specs.declared.coding.Instance.{Instance as CodedInstance}
use Rattle.equation_law.specs.Checked.{IsInstance, IsProgram}
use Rattle.equation_law.specs.Codes.{IsCoded, Naming, instance_by}
use Rattle.equation_law.specs.Program.{Program}
use Rattle.equation_law.specs.Systems.{program_of}
use Rattle.made_trees.specs.Made.{naming_by_makers}
use Rattle.memo_cells.specs.declared.keys.Slot.{Slot}
use Rattle.memo_cells.specs.declared.view.Frame.{Frame}
use Rattle.memo_cells.specs.Agreeing.{Agrees, ByEachAgreeing, IsKnownInstance}
use Rattle.memo_cells.specs.Causes.{IsLogOn}
use Rattle.memo_cells.specs.Naming.{ClaimsKeysTo}
use Rattle.memo_cells.specs.Standing.{IsPassOf}
use Rattle.memo_cells.specs.Views.{IsAtLeast}
use Rattle.memo_cells.specs.Working.{ClaimsKeysAt, GoesOn, Held, IsCellAt, IsCodedAt, IsInstanceAt, IsKnownAt, IsOwn, LacksCellAt, ReadsOn, program_at}
use Rattle.memo_cells.proofs.Agreeing.{agrees_before, instance_known_later, own_open}
use Rattle.memo_cells.proofs.Causes.{log_then}
use Rattle.memo_cells.proofs.Claiming.{claims_to, fills_to}
use Rattle.memo_cells.proofs.More.{at_least_then}
use Rattle.caller_pass.specs.declared.faults.AskFault.{AskFault}
use Rattle.caller_pass.specs.declared.faults.AskFault.TheVariants.{CellsFull}
use Rattle.caller_pass.specs.declared.solving.Went.{Went}
use Rattle.caller_pass.specs.declared.solving.Went.TheVariants.{Further, Need, Settled}
use Rattle.caller_pass.specs.declared.waiting.Waiter.{Waiter}
use Rattle.caller_pass.specs.Answering.{AnswersStep, TakesTurn}
use Rattle.caller_pass.specs.Holding.{AnswersWaitAt, IsFrameAt, IsUndeclaredAt, LeavesOneAt, LooksAgainAt, SolvesAt}
use Rattle.caller_pass.specs.Waiting.{AnswersWait, IsFrame, LooksAgain, waits, way_of}
use Rattle.memo_cells.proofs.Holding.{own_then}
use Rattle.caller_pass.proofs.Falling.{measure}
use Rattle.caller_pass.proofs.Going.{CameSettled, IsSolving, WentThrough, begun, came_settled, claims_more, claims_now, fell_back, fell_further, fell_more, leaves_one, solve_fault, solved_all, step_fault, through, wait_fault, was_more, was_now, went_back, went_further, went_more}

-- before a turn
pub record IsTurn (o d : Held) (i : CodedInstance) (es : List (CodedInstance × Waiter)) (top : CodedInstance) (x : Waiter) (before now : ℕ) : Type 0 where
  pub cells : d.frame ≡ o.frame
  pub lender : d.lender ≡ o.lender
  pub kept : IsAtLeast o.view d.view
  pub log : IsLogOn o.view d.view
  pub own : IsPassOf o.frame d.view
  pub other : waits es top ≡ false
  pub solving : ByEachAgreeing (program_at o) d.view.made (λ names. IsSolving (program_at o) names o.frame o.view d.view (instance_by (program_at o) names i) es (top, x) before now)

-- no cell is left for the instance
pub no_cell : {o d : Held} (i : CodedInstance) {before : ℕ} {r : Result Unit AskFault} → GoesOn o d → LacksCellAt o d i → ClaimsKeysAt o d i → IsErr r × IsErrAnd r (λ e. e ≡ CellsFull) → SolvesAt o d i before before r
no_cell {o} {d} i {before} {r} on lacks claims h = λ names named.
    let p = program_at o in
    let its = instance_by p names i in
    solve_fault p names o.frame o.view d.view its before before CellsFull r h (claims_to p its o.view d.view (claims names named)) (inl refl) (fills_to p its o.frame d.view (lacks names named))

-- the first turn
pub first_turn : {o d : Held} {i : CodedInstance} {s : Slot} (before : ℕ) → IsOwn o → GoesOn o d → IsInstanceAt o i → IsCodedAt o i → IsKnownAt o i → IsUndeclaredAt o i → IsCellAt o d i s.0 → ClaimsKeysAt o d i → (es : List (CodedInstance × Waiter)) → es ≡ [] → IsTurn o d i es i (record { slot = s; way = None; left = None }) before before
first_turn {o} {d} {i} {s} before own on instance coded known plain cell claims es empty =
    let p = program_at o in
    let x : Waiter = record { slot = s; way = None; left = None } in
    record {
      cells = on.cells;
      lender = on.lender;
      kept = on.kept;
      log = on.log;
      own = own_then o d on;
      other = subst (λ (l : List (CodedInstance × Waiter)). waits l i ≡ false) (sym empty) refl;
      solving = λ names named.
          let first = agrees_before p on.kept.made named in
          subst (λ (l : List (CodedInstance × Waiter)). IsSolving p names o.frame o.view d.view (instance_by p names i) l (i, x) before before) (sym empty)
          (begun p names o.frame o.view d.view refl own (own_then o d on) on.kept on.log i x (instance names first) coded (instance_known_later p on.kept.made i known) (plain names first) (cell names named) refl refl (claims names named) before);
    }

-- a turn goes on at the same cells
pub took_on : (d e : Held) (t : CodedInstance) (x y : Waiter) (before after : ℕ) (r : Result Went AskFault) → TakesTurn (program_at d) d e t x y before after r → GoesOn d e
took_on d e t x y before after r turn = ⊎_elim (λ h. h.read.on) (λ h. h.through.on) turn

module _ {o d : Held} {i : CodedInstance} {es : List (CodedInstance × Waiter)} {top : CodedInstance} {x : Waiter} {before now : ℕ} (t : IsTurn o d i es top x before now) where
  abbrev p : Program
  p = program_at o

  pub turn_frame : IsFrameAt d (top, x)
  turn_frame = subst (λ (f : Frame). ByEachAgreeing (program_of f.system.value) d.view.made (λ names. IsFrame (program_of f.system.value) names f d.view (top, x))) (sym t.cells) (λ names named. (t.solving names named).stack.frame)

  pub turn_program : IsProgram p → IsProgram (program_at d)
  turn_program good = subst (λ (f : Frame). IsProgram (program_of f.system.value)) (sym t.cells) good

  pub turn_own : IsOwn d
  turn_own = subst (λ (f : Frame). IsPassOf f d.view) (sym t.cells) t.own

  pub turn_other : waits es top ≡ false
  turn_other = t.other

  module _ {e : Held} {y : Waiter} {after : ℕ} {r : Result Went AskFault} (good : IsProgram p) (st : TakesTurn (program_at d) d e top x y now after r) where
    goes : GoesOn d e
    goes = took_on d e top x y now after r st

    cells_then : e.frame ≡ o.frame
    cells_then = goes.cells ∙ t.cells

    kept_then : IsAtLeast o.view e.view
    kept_then = at_least_then t.kept goes.kept

    own_then_here : IsPassOf o.frame e.view
    own_then_here = subst (λ (f : Frame). IsPassOf f e.view) t.cells (own_then d e goes)

    -- a naming that agrees then agreed before, and one does
    before_turn : {names : Naming} → Agrees p e.view.made names → Agrees p d.view.made names
    before_turn = agrees_before p goes.kept.made

    open_then : Agrees p e.view.made (naming_by_makers p e.view.made)
    open_then = own_open o.frame e.view [] own_then_here

    log_now : IsLogOn o.view e.view
    log_now = log_then t.log goes.log

    pub turn_on : GoesOn o e
    turn_on = record { cells = cells_then; lender = goes.lender ∙ t.lender; own = goes.own; kept = kept_then; log = log_now }

    -- where it didn't end settled, it was evaluated
    went : (r ≡ Ok Settled → ⊥) → ByEachAgreeing p e.view.made (λ names. WentThrough p names o.frame d.view e.view top x y now after r)
    went other = through d e o.frame top x y now after r t.cells (⊎_elim (λ h. absurd (other h.went)) (λ h. h) st)

    -- a fault
    pub turn_failed : {f : AskFault} {s : Result Unit AskFault} → r ≡ Err f → IsErr s × IsErrAnd s (λ z. z ≡ f) → SolvesAt o e i before after s
    turn_failed {f} {s} is h = λ names named.
        let its = instance_by p names i in
        let g = went (λ settled. let both = sym is ∙ settled in cc) names named in
        solve_fault p names o.frame o.view e.view its before after f s h (claims_now named.named refl good.texts (t.solving names (before_turn named)) g) (inr (was_now named.named refl good.texts (t.solving names (before_turn named)) g))
        (step_fault named.named refl good.texts (t.solving names (before_turn named)) g f (subst (λ (z : Result Went AskFault). AnswersStep p names o.frame e.view (instance_by p names top) (way_of x) (way_of y) z) is g.answer))

    -- it waits for a local set now, or doesn't any more
    module _ (is : r ≡ Ok Further) where
      went_on : ByEachAgreeing p e.view.made (λ names. WentThrough p names o.frame d.view e.view top x y now after r)
      went_on = went (λ settled. let both = sym is ∙ settled in cc)

      further : ByEachAgreeing p e.view.made (λ names. AnswersStep p names o.frame e.view (instance_by p names top) (way_of x) (way_of y) (Ok Further))
      further = λ names named. subst (λ (z : Result Went AskFault). AnswersStep p names o.frame e.view (instance_by p names top) (way_of x) (way_of y) z) is (went_on names named).answer

      pub turn_further : IsTurn o e i es top y before after
      turn_further = record {
        cells = cells_then;
        lender = goes.lender ∙ t.lender;
        kept = kept_then;
        log = log_now;
        own = own_then_here;
        other = t.other;
        solving = λ names named. went_further named.named refl good.texts (t.solving names (before_turn named)) (went_on names named) (further names named);
      }

      pub turn_further_falls : measure e.view es (top, y) o.frame.cells < measure d.view es (top, x) o.frame.cells
      turn_further_falls =
          let names = naming_by_makers p e.view.made in
          let named = open_then in
          fell_further named.named refl good.texts (t.solving names (before_turn named)) (went_on names named) (further names named)

    -- it waits for another one
    module _ {n : CodedInstance} (is : r ≡ Ok (Need n)) where
      went_need : ByEachAgreeing p e.view.made (λ names. WentThrough p names o.frame d.view e.view top x y now after r)
      went_need = went (λ settled. let both = sym is ∙ settled in cc)

      next : ByEachAgreeing p e.view.made (λ names. AnswersStep p names o.frame e.view (instance_by p names top) (way_of x) (way_of y) (Ok (Need n)))
      next = λ names named. subst (λ (z : Result Went AskFault). AnswersStep p names o.frame e.view (instance_by p names top) (way_of x) (way_of y) z) is (went_need names named).answer

      pub next_instance : IsInstanceAt e n
      next_instance = subst (λ (f : Frame). ByEachAgreeing (program_of f.system.value) e.view.made (λ names. IsInstance (program_of f.system.value) (instance_by (program_of f.system.value) names n))) (sym cells_then) (λ names named. (next names named).0.instance)

      pub next_coded : IsCodedAt e n
      next_coded = subst (λ (f : Frame). IsCoded (program_of f.system.value) n) (sym cells_then) (next _ open_then).0.coded

      pub next_known : IsKnownAt e n
      next_known = subst (λ (f : Frame). IsKnownInstance (program_of f.system.value) e.view.made n) (sym cells_then) (next _ open_then).0.known

      module _ {g : Held} (then_on : GoesOn e g) (claims : ClaimsKeysAt e g n) where
        own_now : IsPassOf o.frame g.view
        own_now = subst (λ (f : Frame). IsPassOf f g.view) cells_then (own_then e g then_on)

        before_wait : {names : Naming} → Agrees p g.view.made names → Agrees p e.view.made names
        before_wait = agrees_before p then_on.kept.made

        claims_next : ByEachAgreeing p g.view.made (λ names. ClaimsKeysTo p e.view g.view (instance_by p names n))
        claims_next = subst (λ (f : Frame). ByEachAgreeing (program_of f.system.value) g.view.made (λ names. ClaimsKeysTo (program_of f.system.value) e.view g.view (instance_by (program_of f.system.value) names n))) cells_then claims

        pub wait_on : GoesOn o g
        wait_on = record { cells = then_on.cells ∙ cells_then; lender = then_on.lender ∙ goes.lender ∙ t.lender; own = then_on.own; kept = at_least_then kept_then then_on.kept; log = log_then log_now then_on.log }

        answers_here : (new : List (CodedInstance × Waiter)) (w : Result Waiter AskFault) → AnswersWaitAt e g (es ++ (top, y) ∷ []) n new w → ByEachAgreeing p g.view.made (λ names. AnswersWait p names o.frame g.view (es ++ (top, y) ∷ []) n new w)
        answers_here new w answer = subst (λ (k : Frame). ByEachAgreeing (program_of k.system.value) g.view.made (λ names. AnswersWait (program_of k.system.value) names k g.view (es ++ (top, y) ∷ []) n new w)) cells_then answer

        pub wait_failed : (new : List (CodedInstance × Waiter)) (w : Result Waiter AskFault) (f : AskFault) {s : Result Unit AskFault} → AnswersWaitAt e g (es ++ (top, y) ∷ []) n new w → w ≡ Err f → IsErr s × IsErrAnd s (λ z. z ≡ f) → SolvesAt o g i before after s
        wait_failed new w f {s} answer fault h = λ names then.
            let named = before_wait then in
            let its = instance_by p names i in
            let so = t.solving names (before_turn named) in
            let through_it = went_need names named in
            let it = next names named in
            let a = answers_here new (Err f) (subst (λ (z : Result Waiter AskFault). AnswersWaitAt e g (es ++ (top, y) ∷ []) n new z) fault answer) names then in
            solve_fault p names o.frame o.view g.view its before after f s h (claims_more named.named refl good.texts so through_it n it.0 it.1 own_now then_on.kept then_on.log (claims_next names then))
            (inr (was_more named.named refl good.texts so through_it n it.0 it.1 own_now then_on.kept then_on.log (claims_next names then)))
            (wait_fault named.named refl good.texts so through_it n it.0 it.1 own_now then_on.kept then_on.log (claims_next names then) new f a)

        module _ (new : List (CodedInstance × Waiter)) (z : Waiter) (answer : AnswersWaitAt e g (es ++ (top, y) ∷ []) n new (Ok z)) where
          so_answers : ByEachAgreeing p g.view.made (λ names. AnswersWait p names o.frame g.view (es ++ (top, y) ∷ []) n new (Ok z))
          so_answers = answers_here new (Ok z) answer

          waits_new : waits new n ≡ false
          waits_new = let plain = so_answers _ (own_open o.frame g.view [] own_now) in subst (λ l. waits l n ≡ false) (sym plain.0) plain.3

          pub turn_next : IsTurn o g i new n z before after
          turn_next = record {
            cells = then_on.cells ∙ cells_then;
            lender = then_on.lender ∙ goes.lender ∙ t.lender;
            kept = at_least_then kept_then then_on.kept;
            log = log_then log_now then_on.log;
            own = own_now;
            other = waits_new;
            solving = λ names then.
                let named = before_wait then in
                let it = next names named in
                let a = so_answers names then in
                went_more named.named refl good.texts (t.solving names (before_turn named)) (went_need names named) n it.0 it.1 own_now then_on.kept then_on.log (claims_next names then) z a.1 a.2 a.3 a.4 new a.0;
          }

          pub turn_next_falls : measure g.view new (n, z) o.frame.cells < measure d.view es (top, x) o.frame.cells
          turn_next_falls =
              let names = naming_by_makers p g.view.made in
              let then = own_open o.frame g.view [] own_now in
              let named = before_wait then in
              let it = next names named in
              let a = so_answers names then in
              fell_more named.named refl good.texts (t.solving names (before_turn named)) (went_need names named) n it.0 it.1 own_now then_on.kept then_on.log (claims_next names then) z a.1 a.2 a.3 a.4 new a.0

    -- it is settled
    module _ (is : r ≡ Ok Settled) where
      settled : ByEachAgreeing p e.view.made (λ names. CameSettled p names o.frame d.view e.view top x now after)
      settled = came_settled d e o.frame top x y now after r t.cells is st

      pub turn_solved : es ≡ [] → (done : Unit {0}) → SolvesAt o e i before after (Ok done)
      turn_solved empty done = λ names named. solved_all named.named refl good.texts (t.solving names (before_turn named)) (settled names named) empty done

      pub turn_leaves : IsOwn o → es ≡ [] → LeavesOneAt o e i before after
      turn_leaves own empty = λ names named. leaves_one named.named refl good.texts (t.solving names (before_turn named)) (settled names named) empty own

      module _ {g : Held} (read : ReadsOn e g) (ds : List (CodedInstance × Waiter)) (last : CodedInstance × Waiter) (was : es ≡ ds ++ last ∷ []) (free : waits ds last.0 ≡ false) (z : Waiter) (looks : LooksAgainAt e g last.1 z) where
        own_back : IsPassOf o.frame g.view
        own_back = subst (λ (f : Frame). IsPassOf f g.view) cells_then (own_then e g read.on)

        before_back : {names : Naming} → Agrees p g.view.made names → Agrees p e.view.made names
        before_back = agrees_before p read.on.kept.made

        looks_back : ByEachAgreeing p g.view.made (λ names. LooksAgain p names e.view g.view last.1 z)
        looks_back = subst (λ (f : Frame). ByEachAgreeing (program_of f.system.value) g.view.made (λ names. LooksAgain (program_of f.system.value) names e.view g.view last.1 z)) cells_then looks

        pub turn_back : IsTurn o g i ds last.0 z before after
        turn_back = record {
          cells = read.on.cells ∙ cells_then;
          lender = read.on.lender ∙ goes.lender ∙ t.lender;
          kept = at_least_then kept_then read.on.kept;
          log = log_then log_now read.on.log;
          own = own_back;
          other = free;
          solving = λ names then.
              let named = before_back then in
              went_back named.named refl good.texts (t.solving names (before_turn named)) (settled names named) own_back read.on.kept read.on.log read.claims ds last was free z (looks_back names then);
        }

        pub turn_back_falls : measure g.view ds (last.0, z) o.frame.cells < measure d.view es (top, x) o.frame.cells
        turn_back_falls =
            let names = naming_by_makers p g.view.made in
            let then = own_open o.frame g.view [] own_back in
            let named = before_back then in
            fell_back named.named refl good.texts (t.solving names (before_turn named)) (settled names named) own_back read.on.kept read.on.log read.claims ds last was free z (looks_back names then)
