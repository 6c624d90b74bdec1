-- Closing a local set, at the desk.
use Rattle.std.proofs.Common.{◌≡◌, ℕ, ◌<◌, true, false, inl, [], Bool, Result, Ok, Err, refl, sym, subst, ◌∙◌, arith}
use Rattle.std.specs.Result.{IsErr, IsErrAnd, IsOk}
use Rattle.equation_law.specs.declared.coding.Instance.{Instance as CodedInstance}
use Rattle.equation_law.specs.Checked.{IsProgram}
use Rattle.equation_law.specs.Codes.{Naming, instance_by}
use Rattle.equation_law.specs.Program.{Program}
use Rattle.equation_law.specs.Systems.{program_of}
use Rattle.made_trees.specs.Made.{naming_by_makers}
use Rattle.memo_cells.specs.declared.view.Frame.{Frame}
use Rattle.memo_cells.specs.Agreeing.{Agrees, ByEachAgreeing}
use Rattle.memo_cells.specs.Causes.{WhyUnsettled}
use Rattle.memo_cells.specs.Standing.{IsPassOf, Knows}
use Rattle.memo_cells.specs.Working.{ClaimsKeysAt, GoesOn, Held, IsCellAt, IsCodedAt, IsInstanceAt, IsKnownAt, ReadsOn, program_at}
use Rattle.memo_cells.proofs.Agreeing.{agrees_before, instance_known_later, own_open}
use Rattle.memo_cells.proofs.Causes.{found_before, log_then}
use Rattle.memo_cells.proofs.Claiming.{claims_to}
use Rattle.memo_cells.proofs.Holding.{own_then}
use Rattle.memo_cells.proofs.More.{at_least_then}
use Rattle.memo_cells.proofs.Naming.{cell_later}
use Rattle.circular_eval.specs.declared.local.Local.{Local}
use Rattle.circular_eval.specs.Local.{IsLocalAt, IsLocalByEach, IsLocalOf, IsStillLocal}
use Rattle.circular_eval.proofs.Later.{set_later}
use Rattle.caller_pass.specs.declared.faults.AskFault.{AskFault}
use Rattle.caller_pass.specs.declared.faults.AskFault.TheVariants.{Memory}
use Rattle.caller_pass.specs.Answering.{ClosesLocal, ClosesMore, unsettled}
use Rattle.caller_pass.specs.Holding.{IsCircularAt, IsUnknownAt, SolvesAt}
use Rattle.caller_pass.specs.Knowing.{TellsSettled}
use Rattle.caller_pass.proofs.Closing.{IsClosing, closed, closing_fault, closing_first, closing_looked, closing_more}
use Rattle.caller_pass.proofs.Falling.{unsettled_less}
use Rattle.caller_pass.proofs.Going.{solve_fault}

-- before a turn, where the cell of i is the one at this slot
pub record IsSealing (o d : Held) (i : CodedInstance) (l : Local) (slot before now : ℕ) : Type 0 where
  pub cells : d.frame ≡ o.frame
  pub lender : d.lender ≡ o.lender
  pub start : l.start ≡ i
  pub own : IsPassOf o.frame d.view
  pub cell : IsCellAt o d i slot
  pub local : IsLocalByEach (program_at o) o.frame d.view l
  pub closing : ByEachAgreeing (program_at o) d.view.made (λ names. IsClosing (program_at o) o.frame o.view d.view (instance_by (program_at o) names i) before now)

-- some naming agrees with what is known
pub sealing_open : {o d : Held} {i : CodedInstance} {l : Local} {slot before now : ℕ} → IsSealing o d i l slot before now → Agrees (program_at o) d.view.made (naming_by_makers (program_at o) d.view.made)
sealing_open {o} {d} s = own_open o.frame d.view [] s.own

module _ {o d : Held} (i : CodedInstance) (before : ℕ) (on : GoesOn o d) (claims : ClaimsKeysAt o d i) where
  pub sealing_first : {l : Local} {slot : ℕ} → IsCellAt o d i slot → IsInstanceAt o i → IsCodedAt o i → IsKnownAt o i → IsCircularAt o i → l.start ≡ i → IsLocalOf i l → IsSealing o d i l slot before before
  sealing_first cell instance coded known is_circular start local = record {
    cells = on.cells;
    lender = on.lender;
    start = start;
    own = own_then o d on;
    cell = cell;
    local = λ names named.
        let before = agrees_before (program_at o) on.kept.made named in
        local (program_at o) names o.frame d.view (instance names before) coded (instance_known_later (program_at o) on.kept.made i known) (is_circular names before);
    closing = λ names named.
        let its = instance_by (program_at o) names i in
        closing_first (program_at o) o.frame o.view d.view its before (own_then o d on) on.kept on.log (claims_to (program_at o) its o.view d.view (claims names named));
  }

  -- want of memory before the first turn
  pub sealing_memory : {r : Result Unit AskFault} → IsErr r × IsErrAnd r (λ e. e ≡ Memory) → SolvesAt o d i before before r
  sealing_memory {r} h = λ names named.
      let its = instance_by (program_at o) names i in
      solve_fault (program_at o) names o.frame o.view d.view its before before Memory r h (claims_to (program_at o) its o.view d.view (claims names named)) (inl refl) tt

module _ {o d : Held} {i : CodedInstance} {l : Local} {slot before now : ℕ} (s : IsSealing o d i l slot before now) {e : Held} (read : ReadsOn d e) (r : Bool) (told : TellsSettled (program_at d) d.frame d.view e.view slot r) where
  abbrev p : Program
  p = program_at o

  cells_now : e.frame ≡ o.frame
  cells_now = read.on.cells ∙ s.cells

  -- a naming that agrees then agreed before
  before_read : {names : Naming} → Agrees p e.view.made names → Agrees p d.view.made names
  before_read = agrees_before p read.on.kept.made

  own_now : IsPassOf o.frame e.view
  own_now = subst (λ (f : Frame). IsPassOf f e.view) s.cells (own_then d e read.on)

  open_here : Agrees p e.view.made (naming_by_makers p e.view.made)
  open_here = own_open o.frame e.view [] own_now

  pub looked : IsSealing o e i l slot before now
  looked = record {
    cells = cells_now;
    lender = read.on.lender ∙ s.lender;
    start = s.start;
    own = own_now;
    cell = λ names named. cell_later d.view e.view read.on.kept p o.frame (instance_by p names i) slot (s.cell names (before_read named));
    local = set_later p d.view e.view read.on.kept o.frame l s.local;
    closing = λ names named.
        closing_looked p o.frame refl o.view d.view e.view (instance_by p names i) before now (s.closing names (before_read named)) (subst (λ (f : Frame). IsPassOf f e.view) s.cells (own_then d e read.on)) read.on.kept read.on.log read.claims;
  }

  -- so it is by one that agrees
  plainly : IsClosing p o.frame o.view e.view (instance_by p (naming_by_makers p e.view.made) i) before now
  plainly = looked.closing _ open_here

  pub looked_on : GoesOn o e
  looked_on = record { cells = cells_now; lender = read.on.lender ∙ s.lender; own = read.on.own; kept = plainly.kept; log = plainly.log }

  told_at : (b : Bool) → r ≡ b → TellsSettled p o.frame d.view e.view slot b
  told_at b is = subst (λ (f : Frame). TellsSettled (program_of f.system.value) f d.view e.view slot b) s.cells (subst (λ (c : Bool). TellsSettled (program_at d) d.frame d.view e.view slot c) is told)

  -- it is sealed
  pub is_closed : r ≡ true → (done : Unit {0}) → SolvesAt o e i before now (Ok done)
  is_closed sealed done = λ names named. closed p names o.frame o.view e.view (instance_by p names i) before now (looked.closing names named) (told_at true sealed (instance_by p names i) (s.cell names (before_read named))) done

  -- it goes on
  module _ (goes_on : r ≡ false) (cause : r ≡ false → WhyUnsettled d.frame d.view e.view slot) where
    missing : ByEachAgreeing p e.view.made (λ names. ¬ Knows p e.view (instance_by p names i))
    missing = λ names named. told_at false goes_on (instance_by p names i) (s.cell names (before_read named))

    why : WhyUnsettled o.frame o.view e.view slot
    why =
        let loaded = subst (λ (f : Frame). WhyUnsettled f d.view e.view slot) s.cells (cause goes_on) in
        record { word = loaded.word; unset = loaded.unset; found = found_before (s.closing _ (before_read open_here)).log loaded.found }

    pub more_program : IsProgram p → IsProgram (program_at e)
    more_program good = subst (λ (f : Frame). IsProgram (program_of f.system.value)) (sym cells_now) good

    pub more_local : IsLocalAt e l
    more_local = subst (λ (f : Frame). IsLocalByEach (program_of f.system.value) f e.view l) (sym cells_now) looked.local

    pub more_unknown : IsUnknownAt e l.start
    more_unknown =
        subst (λ (f : Frame). ByEachAgreeing (program_of f.system.value) e.view.made (λ names. ¬ Knows (program_of f.system.value) e.view (instance_by (program_of f.system.value) names l.start)))
        (sym cells_now)
        (subst (λ (j : CodedInstance). ByEachAgreeing p e.view.made (λ names. ¬ Knows p e.view (instance_by p names j))) (sym s.start) missing)

    module _ {g : Held} (on : GoesOn e g) {after : ℕ} {q : Result Unit AskFault} (more : ClosesLocal e g l now after q) where
      its : ByEachAgreeing p g.view.made (λ names. ClosesMore p names o.frame e.view g.view (instance_by p names i) now after q)
      its =
          subst (λ (j : CodedInstance). ByEachAgreeing p g.view.made (λ names. ClosesMore p names o.frame e.view g.view (instance_by p names j) now after q))
          s.start
          (subst (λ (f : Frame). ByEachAgreeing (program_of f.system.value) g.view.made (λ names. ClosesMore (program_of f.system.value) names f e.view g.view (instance_by (program_of f.system.value) names l.start) now after q)) cells_now more)

      before_on : {names : Naming} → Agrees p g.view.made names → Agrees p e.view.made names
      before_on = agrees_before p on.kept.made

      own_then_now : IsPassOf o.frame g.view
      own_then_now = subst (λ (f : Frame). IsPassOf f g.view) cells_now (own_then e g on)

      pub more_on : GoesOn o g
      more_on = record { cells = on.cells ∙ cells_now; lender = on.lender ∙ looked.lender; own = on.own; kept = at_least_then plainly.kept on.kept; log = log_then plainly.log on.log }

      pub more_fault : {f : AskFault} → q ≡ Err f → {all : Result Unit AskFault} → IsErr all × IsErrAnd all (λ x. x ≡ f) → SolvesAt o g i before after all
      more_fault {f} is {all} h = λ names named.
          closing_fault p o.frame refl o.view e.view g.view (instance_by p names i) before now (looked.closing names (before_on named)) own_then_now on.kept on.log names slot (looked.cell names (before_on named)) why (missing names (before_on named)) after q (its names named) f is all h

      pub more_sealing : {m : Local} → IsStillLocal e g m × (m.start ≡ l.start) → IsOk q → IsSealing o g i m slot before after
      more_sealing {m} local ok = record {
        cells = on.cells ∙ cells_now;
        lender = on.lender ∙ looked.lender;
        start = local.1 ∙ s.start;
        own = own_then_now;
        cell = λ names named. cell_later e.view g.view on.kept p o.frame (instance_by p names i) slot (looked.cell names (before_on named));
        local = subst (λ (f : Frame). IsLocalByEach (program_of f.system.value) f g.view m) cells_now local.0;
        closing = λ names named.
            closing_more p o.frame refl o.view e.view g.view (instance_by p names i) before now (looked.closing names (before_on named)) own_then_now on.kept on.log names slot (looked.cell names (before_on named)) why (missing names (before_on named)) after q (its names named) ok;
      }

      pub more_falls : IsOk q → unsettled g.view o.frame.cells < unsettled d.view o.frame.cells
      more_falls ok =
          let falls = (its _ (own_open o.frame g.view [] own_then_now)).falls ok in
          let less = unsettled_less d.view e.view o.frame.cells read.on.kept in
          omega (arith, falls, less)
