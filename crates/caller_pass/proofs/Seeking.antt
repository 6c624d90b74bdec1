-- Looking at the cell of an instance through a desk: the cell is sought, and then its word is loaded.
use Rattle.std.proofs.Common.{◌≡◌, ℕ, false, inr, [], Option, Some, None, IfSome, IfNone, is_some, refl, sym, subst}
use Rattle.equation_law.specs.declared.coding.Instance.{Instance as CodedInstance}
use Rattle.equation_law.specs.Codes.{instance_by}
use Rattle.equation_law.specs.Names.{Instance}
use Rattle.equation_law.specs.Systems.{program_of}
use Rattle.equation_law.proofs.Pooled.{texts_pooled}
use Rattle.memo_cells.specs.declared.view.Frame.{Frame}
use Rattle.memo_cells.specs.declared.view.View.{View}
use Rattle.memo_cells.specs.Agreeing.{ByEachAgreeing}
use Rattle.memo_cells.specs.Causes.{IsLogOn, WhyUnsettled}
use Rattle.memo_cells.specs.Naming.{IsCellOf}
use Rattle.memo_cells.specs.Standing.{IsPassOf, Knows}
use Rattle.memo_cells.specs.Views.{Has, IsAtLeast, IsPlain, IsUnsettled}
use Rattle.memo_cells.specs.Working.{HasCell, Held, ReadsOn, program_at}
use Rattle.memo_cells.proofs.Agreeing.{agrees_before, own_open}
use Rattle.memo_cells.proofs.Causes.{found_before}
use Rattle.memo_cells.proofs.Holding.{reads_then}
use Rattle.memo_cells.proofs.Naming.{cell_later, stands_later, stands_plain}
use Rattle.memo_cells.proofs.Ways.{slot_plain}
use Rattle.caller_pass.specs.Knowing.{IsSettledAt, TellsSettled, WhyUnknown}
use Rattle.caller_pass.proofs.Knowing.{found_knows, seen_code, seen_unset, settled_knows, unknown_unset}

module _ (d : Held) (f : Frame) (u v : View) (n : ℕ) (on : ReadsOn d (record { frame = f; view = u; lender = n })) (own : IsPassOf f v) (kept : IsAtLeast u v) (log : IsLogOn u v) (claims : v.claims ≡ u.claims) where
  pub looked_on : ReadsOn d (record { frame = f; view = v; lender = n })
  looked_on = reads_then d (record { frame = f; view = u; lender = n }) (record { frame = f; view = v; lender = n }) on (record { on = record { cells = refl; lender = refl; own = own; kept = kept; log = log }; claims = claims })

  own_here : IsPassOf d.frame v
  own_here = subst (λ (g : Frame). IsPassOf g v) on.on.cells own

  module _ (i : Instance) (slot : ℕ) (cell : IsCellOf (program_at d) d.frame u i slot) where
    pub finds_code : (code : ℕ) → ((k : ℕ) → Has u.keys (slot, k) → Has v.values (slot, k, code)) → IsSettledAt (program_at d) f v i slot code
    finds_code code settled = subst (λ (g : Frame). IsSettledAt (program_at d) g v i slot code) (sym on.on.cells) (seen_code (program_at d) d.frame v refl own_here u kept i slot cell code settled)

    pub finds_known : (code : ℕ) → ((k : ℕ) → Has u.keys (slot, k) → Has v.values (slot, k, code)) → IsCellOf (program_at d) f v i slot × Knows (program_at d) v i
    finds_known code settled = let s = finds_code code settled in ((s.key, s.there, s.stands), found_knows (program_at d) f v i slot code s)

    pub finds_none : IsUnsettled u v slot → ¬ Knows (program_at d) v i
    finds_none unset = seen_unset (program_at d) d.frame v refl own_here u kept i slot cell (texts_pooled d.frame.system.value) unset

  -- where it was found by its codes, it is known there
  pub finds_its : (i : CodedInstance) (slot : ℕ) → ByEachAgreeing (program_at d) u.made (λ names. IsCellOf (program_at d) d.frame u (instance_by (program_at d) names i) slot) → (code : ℕ) → ((k : ℕ) → Has u.keys (slot, k) → Has v.values (slot, k, code))
      → ByEachAgreeing (program_of f.system.value) v.made (λ names. IsCellOf (program_of f.system.value) f v (instance_by (program_of f.system.value) names i) slot × Knows (program_of f.system.value) v (instance_by (program_of f.system.value) names i))
  finds_its i slot cell code settled =
      subst (λ (g : Frame). ByEachAgreeing (program_of g.system.value) v.made (λ names. IsCellOf (program_of g.system.value) f v (instance_by (program_of g.system.value) names i) slot × Knows (program_of g.system.value) v (instance_by (program_of g.system.value) names i)))
      (sym on.on.cells)
      (λ names named. finds_known (instance_by (program_at d) names i) slot (cell names (agrees_before (program_at d) kept.made named)) code settled)

  -- why it isn't
  pub why_unsettled : (slot : ℕ) → WhyUnsettled f u v slot → WhyUnsettled d.frame d.view v slot
  why_unsettled slot why = subst (λ (g : Frame). WhyUnsettled g d.view v slot) on.on.cells (record { word = why.word; unset = why.unset; found = found_before on.on.log why.found })

  pub why_unknown : (i : CodedInstance) (slot : ℕ) → ByEachAgreeing (program_at d) u.made (λ names. IsCellOf (program_at d) d.frame u (instance_by (program_at d) names i) slot) → WhyUnsettled f u v slot → WhyUnknown (program_at d) d.frame d.view v i
  why_unknown i slot cell why = inr (slot, (λ names named. cell_later u v kept (program_at d) d.frame (instance_by (program_at d) names i) slot (cell names (agrees_before (program_at d) kept.made named))), why_unsettled slot why)

  -- the slot is that of some instance
  pub found_cell : (slot : ℕ) → HasCell (record { frame = f; view = u; lender = n }) slot → (j : Instance) × IsCellOf (program_at d) f v j slot
  found_cell slot has = subst (λ (g : Frame). (j : Instance) × IsCellOf (program_of g.system.value) f v j slot) on.on.cells (has.0, cell_later u v kept (program_of f.system.value) f has.0 slot has.1)

-- what holds where a load found nothing settled
pub where_none : {P : Type 0} (o : Option ℕ) → is_some o ≡ false → IfNone o P → P
where_none None e h = h
where_none (Some x) e h = cc

-- the cell of an instance has no word of a set
pub cell_plain : (f : Frame) (v : View) (i : Instance) (slot : ℕ) → IsPassOf f v → IsCellOf (program_of f.system.value) f v i slot → IsPlain v slot
cell_plain f v i slot own cell = slot_plain f v slot cell.0 own cell.1 (stands_plain (program_of f.system.value) v cell.0 i cell.2)

-- a load of its value word tells whether the instance is settled
pub tells_settled : (f : Frame) (u v : View) (slot : ℕ) (code : Option ℕ) → IsPassOf f v → IsAtLeast u v → IfSome code (λ c. (k : ℕ) → Has u.keys (slot, k) → Has v.values (slot, k, c)) → IfNone code (IsUnsettled u v slot) → TellsSettled (program_of f.system.value) f u v slot (is_some code)
tells_settled f u v slot None own kept known unset = λ i cell. unknown_unset (program_of f.system.value) f v i cell.0 own (texts_pooled f.system.value) (own_open f v [] own) (stands_later u v kept (program_of f.system.value) cell.0 i cell.2) (unset.unset cell.0 cell.1.1)
tells_settled f u v slot (Some c) own kept known unset = λ i cell. settled_knows (program_of f.system.value) f u v i slot c kept cell known
