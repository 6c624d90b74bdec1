-- What a reader tells that holds a pass, and that it goes on at the same cells.
use Rattle.std.proofs.Common.{refl, sym, subst, ℕ, ◌<◌, ◌^◌, List, reverse, ◌∙◌}
use Rattle.equation_law.specs.declared.coding.Instance.{Instance as CodedInstance}
use Rattle.equation_law.specs.Checked.{IsInstance}
use Rattle.equation_law.specs.Codes.{instance_by}
use Rattle.equation_law.specs.Names.{Instance, Query}
use Rattle.equation_law.specs.Systems.{program_of}
use Rattle.memo_cells.specs.declared.view.Frame.{Frame}
use Rattle.memo_cells.specs.Causes.{WhyMissing}
use Rattle.memo_cells.specs.Agreeing.{ByEachAgreeing}
use Rattle.memo_cells.specs.Keys.{query_word}
use Rattle.memo_cells.proofs.Causes.{log_itself, log_then, missing_since}
use Rattle.memo_cells.specs.Naming.{IsCellOf, IsFormed}
use Rattle.memo_cells.specs.Standing.{IsPassOf}
use Rattle.memo_cells.specs.Views.{IsFull, IsSlot}
use Rattle.memo_cells.specs.Working.{GoesOn, HasCell, Held, IsInstanceAt, IsOwn, ReadsOn, TellsPass, WhyMissingAt, program_at, told_by}
use Rattle.memo_cells.proofs.Agreeing.{agrees_before}
use Rattle.memo_cells.proofs.More.{at_least_itself, at_least_then}
use Rattle.memo_cells.proofs.Naming.{cell_later}
use Rattle.memo_cells.proofs.Ways.{IsOnWay}

-- a reader that is seen as what it holds
pub told_pass : (d : Held) → TellsPass (λ (x : Held). x) d (told_by d)
told_pass d = record {
  for = λ own. (refl, own.bare);
  only = λ p e. e;
  has = λ i w k. k;
  known = λ i w k. k;
  can = λ i w k. k;
  may = λ i w k. k;
  keeps = λ x k. k;
  itself = λ own. record { on = record { cells = refl; lender = refl; own = own; kept = at_least_itself d.view; log = log_itself d.view }; claims = refl };
  each = λ n is. is;
  named = λ n is. is;
  knows = λ c k. k;
  known_alone = λ c k. k;
}

pub own_then : (d e : Held) → GoesOn d e → IsPassOf d.frame e.view
own_then d e on = subst (λ (f : Frame). IsPassOf f e.view) on.cells on.own

pub goes_itself : (d : Held) → IsOwn d → GoesOn d d
goes_itself d own = record { cells = refl; lender = refl; own = own; kept = at_least_itself d.view; log = log_itself d.view }

pub goes_then : (a b c : Held) → GoesOn a b → GoesOn b c → GoesOn a c
goes_then a b c x y = record { cells = y.cells ∙ x.cells; lender = y.lender ∙ x.lender; own = y.own; kept = at_least_then x.kept y.kept; log = log_then x.log y.log }

pub reads_itself : (d : Held) → IsOwn d → ReadsOn d d
reads_itself d own = record { on = goes_itself d own; claims = refl }

pub reads_then : (a b c : Held) → ReadsOn a b → ReadsOn b c → ReadsOn a c
reads_then a b c x y = record { on = goes_then a b c x.on y.on; claims = y.claims ∙ x.claims }

-- an instance of the program goes on to be one
pub instance_on : (d e : Held) → GoesOn d e → (i : CodedInstance) → IsInstanceAt d i → ByEachAgreeing (program_at d) e.view.made (λ n. IsInstance (program_at d) (instance_by (program_at d) n i))
instance_on d e on i is n agrees = is n (agrees_before (program_at d) on.kept.made agrees)

-- the cell of an instance, seen where it went on to
pub cell_on : (d e : Held) → GoesOn d e → (i : Instance) (s : ℕ) → IsCellOf (program_at d) d.frame d.view i s → IsCellOf (program_at e) e.frame e.view i s
cell_on d e on i s h = subst (λ (f : Frame). IsCellOf (program_of f.system.value) f e.view i s) (sym on.cells) (cell_later d.view e.view on.kept (program_at d) d.frame i s h)

-- what is said of the cells, where it went on
pub formed_at : (d e : Held) (k : ℕ) → GoesOn d e → IsFormed (program_at d) e.view k → IsFormed (program_at e) e.view k
formed_at d e k on h = subst (λ (f : Frame). IsFormed (program_of f.system.value) e.view k) (sym on.cells) h

pub slot_back : (d e w : Held) (s k : ℕ) → GoesOn d e → IsSlot e.frame w.view s k → IsSlot d.frame w.view s k
slot_back d e w s k on h = subst (λ (f : Frame). IsSlot f w.view s k) on.cells h

pub full_back : (d e w : Held) (k : ℕ) → GoesOn d e → IsFull e.frame w.view k → IsFull d.frame w.view k
full_back d e w k on h = subst (λ (f : Frame). IsFull f w.view k) on.cells h

-- a slot on the way to an attribute with arguments is that of an instance
pub way_held : (d e : Held) (a n : ℕ) (done : List ℕ) (s : ℕ) → ReadsOn d e → IsOnWay d.frame e.view a n done s → HasCell e s
way_held d e a n done s on way =
    let here : IsOnWay e.frame e.view a n done s = subst (λ (f : Frame). IsOnWay f e.view a n done s) (sym on.on.cells) way in
    let it = on.on.own.named s here.key a n (reverse done) here.slot.1 here.named in
    (it.0, (here.key, here.slot, it.1))

-- and that of a query too
pub query_held : (d e : Held) (q s : ℕ) → q < 2 ^ 32 → ReadsOn d e → IsSlot d.frame e.view s (query_word q) → HasCell e s
query_held d e q s small on slot = (Query q, (query_word q, subst (λ (f : Frame). IsSlot f e.view s (query_word q)) (sym on.on.cells) slot, (small, refl)))

-- why a key wasn't found, for a call that began earlier
pub missing_at : (d e w : Held) (k : ℕ) → ReadsOn d e → WhyMissingAt e w k → WhyMissingAt d w k
missing_at d e w k on h = subst (λ (f : Frame). WhyMissing f d.view w.view k) on.on.cells (missing_since on.on.log h)
