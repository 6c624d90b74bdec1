-- Settling an instance whose equation ended.
use Rattle.std.proofs.Common.{◌≡◌, ℕ, inl, inr, false, List, [], Ok, Err, sym, subst}
use Rattle.solutions.specs.Leading.{none}
use Rattle.equation_law.specs.declared.coding.Value.{Value as CodedValue}
use Rattle.equation_law.specs.Checked.{IsInstance, IsProgram, IsValue}
use Rattle.equation_law.specs.Codes.{Naming, value_by}
use Rattle.equation_law.specs.Equations.{equations_of, kind_in}
use Rattle.equation_law.specs.Names.{Instance}
use Rattle.equation_law.specs.Program.{Program}
use Rattle.equation_law.specs.Systems.{program_of}
use Rattle.equation_law.proofs.QueryValues.{value_typed}
use Rattle.memo_cells.specs.declared.view.Frame.{Frame}
use Rattle.memo_cells.specs.declared.view.View.{View}
use Rattle.memo_cells.specs.Agreeing.{Agrees, HasCodeAt, IsElementAt}
use Rattle.memo_cells.specs.Claiming.{ClaimsKeys, CountsCode, FillsCells}
use Rattle.memo_cells.specs.Naming.{IsCellOf}
use Rattle.memo_cells.specs.Standing.{IsPassOf}
use Rattle.memo_cells.specs.Views.{Has, IsAtLeast}
use Rattle.memo_cells.specs.Working.{Held, program_at}
use Rattle.memo_cells.specs.SetRaising.{ClaimsWords, LacksWord, MayShowAll, ShowsAll, set_codes}
use Rattle.memo_cells.proofs.Agreeing.{element_later, has_code_later, value_known_later}
use Rattle.memo_cells.proofs.Claiming.{claims_words, fills_words}
use Rattle.caller_pass.specs.declared.faults.AskFault.{AskFault}
use Rattle.caller_pass.specs.declared.faults.AskFault.TheVariants.{CellsFull}
use Rattle.caller_pass.specs.Answering.{AnswersShow}
use Rattle.caller_pass.specs.Knowing.{HasEnded}
use Rattle.caller_pass.proofs.Elements.{are_elements, shows_set}
use Rattle.caller_pass.proofs.Knowing.{ended_value}

module _ (names : Naming) (f : Frame) (v : View) (agrees : Agrees (program_of f.system.value) v.made names) (good : IsProgram (program_of f.system.value)) (i : Instance) (instance : IsInstance (program_of f.system.value) i) (plain : (equations_of (program_of f.system.value)).circular i ≡ false) (slot : ℕ) (cell : IsCellOf (program_of f.system.value) f v i slot) (x : CodedValue)
    (ended : HasEnded (program_of f.system.value) names v i x) where
  abbrev p : Program
  p = program_of f.system.value

  typed : IsValue p (kind_in p i) (value_by names x)
  typed = value_typed p good i instance (value_by names x) (ended_value p names v i x ended)

  its_elements : (c : ℕ) → Has (set_codes x) c → IsElementAt p v.made (kind_in p i) c × HasCodeAt p v.made (kind_in p i) (value_by names x) c
  its_elements = are_elements p v.made names agrees (kind_in p i) x typed ended.elements ended.nodes

  -- its words may show the set
  pub may_show : MayShowAll p f v i slot (set_codes x)
  may_show = record { cell = cell; instance = instance; value = value_by names x; may = inr (plain, ended_value p names v i x ended); elements = its_elements }

  module _ (codes : List ℕ) (are : codes ≡ set_codes x) where
    pub may_show_codes : MayShowAll p f v i slot codes
    may_show_codes = subst (λ (cs : List ℕ). MayShowAll p f v i slot cs) (sym are) may_show

    -- what was claimed, what was wanting, and what they show then, by the cells as they are then
    module _ (e : Held) (cells : e.frame ≡ f) (kept : IsAtLeast v e.view) where
      back : (P : Program → Frame → Type 0) → P (program_at e) e.frame → P p f
      back P h = subst (λ (g : Frame). P (program_of g.system.value) g) cells h

      -- so their words are keys of it
      counted : (c : ℕ) → Has (set_codes x) c → IsElementAt p e.view.made (kind_in p i) c × CountsCode p e.view.made i (kind_in p i) c
      counted c among =
          let it = its_elements c among in
          (element_later p kept.made (kind_in p i) c it.0, inl (value_by names x, ended_value p names v i x ended, has_code_later p kept.made (kind_in p i) (value_by names x) c it.1))

      pub show_claims : IsPassOf f e.view → ClaimsWords (program_at e) v e.view i codes → ClaimsKeys p i v e.view
      show_claims own h = claims_words f e.view [] own i i none (set_codes x) counted v (subst (λ (cs : List ℕ). ClaimsWords p v e.view i cs) are (back (λ q g. ClaimsWords q v e.view i codes) h))

      pub show_full : IsPassOf f e.view → LacksWord (program_at e) e.frame e.view i codes → FillsCells p i f e.view
      show_full own h = fills_words f e.view [] own i i none (set_codes x) counted (subst (λ (cs : List ℕ). LacksWord p f e.view i cs) are (back (λ q g. LacksWord q g e.view i codes) h))

      pub show_done : Agrees p e.view.made names → (done : Unit {0}) → ShowsAll (program_at e) e.view i codes → AnswersShow p names f e.view i x (Ok done)
      show_done later done h set = shows_set p e.view names later i (kind_in p i) x typed (value_known_later p kept.made x ended.nodes) set (subst (λ (cs : List ℕ). ShowsAll p e.view i cs) are (back (λ q g. ShowsAll q e.view i codes) h))

pub show_fault : (p : Program) (names : Naming) (f : Frame) (v : View) (i : Instance) (x : CodedValue) (e : AskFault) → e ≡ CellsFull → FillsCells p i f v → AnswersShow p names f v i x (Err e)
show_fault p names f v i x e is full = subst (λ (d : AskFault). AnswersShow p names f v i x (Err d)) (sym is) full
