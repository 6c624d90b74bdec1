-- Raising what a value has more than the one that is shown.
use Rattle.std.specs.Prelude.{◌≡◌, ◌⊎◌, ◌<◌, ◌||◌, ℕ, true, false, List, Option, Some, None, Result, Ok, Err}
use Rattle.code_sets.specs.Members.{AreMade, has_code}
use Rattle.equation_law.specs.declared.coding.Value.{Value as CodedValue}
use Rattle.equation_law.specs.Checked.{IsInstance, IsValue}
use Rattle.equation_law.specs.Codes.{AreElements, Naming, value_by}
use Rattle.equation_law.specs.Equations.{equations_of, kind_in}
use Rattle.equation_law.specs.Names.{Instance}
use Rattle.equation_law.specs.Loops.{order_in}
use Rattle.equation_law.specs.Orders.{FitsKind}
use Rattle.equation_law.specs.Program.{Program}
use Rattle.memo_cells.specs.declared.view.Frame.{Frame}
use Rattle.memo_cells.specs.declared.view.View.{View}
use Rattle.memo_cells.specs.Agreeing.{Agrees, ByEachAgreeing, IsKnownValue}
use Rattle.memo_cells.specs.Naming.{IsCellOf}
use Rattle.memo_cells.specs.Showing.{ShowsAtLeast, ShowsCode}
use Rattle.memo_cells.specs.Standing.{ComesTo, IsShown}
use Rattle.memo_cells.specs.Working.{GoesOn, Held, program_at}
use Rattle.memo_cells.specs.SetRaising.{ClaimsWords, LacksWord, MayShowAll, set_codes}
use Rattle.circular_eval.specs.declared.advancing.CircFault.{CircFault}
use Rattle.circular_eval.specs.declared.advancing.CircFault.TheVariants.{CellsFull, Memory}
use Rattle.circular_eval.specs.Left.{code_bound, room}

-- Where it refuses for cells, other keys have all of them than that of a word in which one of these codes lies.
abbrev pub LacksSome : Program → Frame → View → Instance → List ℕ → CircFault → Type 0
LacksSome p f v i codes CellsFull = LacksWord p f v i codes
LacksSome p f v i codes Memory = Unit {0}

-- both sets joined, of which the other one hasn't all codes; what it hasn't is shown
pub record IsMore (p : Program) (v : View) (i : Instance) (set other both : List ℕ) : Type 0 where
  pub made : AreMade (λ a b. a || b) set other both
  pub code : ℕ
  pub low : code < code_bound
  pub in_set : has_code set code ≡ true
  pub in_other : has_code other code ≡ false
  pub shown : (c : ℕ) → has_code set c ≡ true → (has_code other c ≡ true) ⊎ ShowsCode p v i c

abbrev pub AnswersSet : Program → Frame → View → Instance → List ℕ → List ℕ → Result (Option (List ℕ)) CircFault → Type 0
AnswersSet p f v i set other (Ok None) = (c : ℕ) → has_code set c ≡ true → has_code other c ≡ true
AnswersSet p f v i set other (Ok (Some both)) = IsMore p v i set other both
AnswersSet p f v i set other (Err fault) = LacksSome p f v i set fault

-- what raising a set says of the instance of the cell, with what is held before and after
pub record RaisesSet (d e : Held) (place : ℕ) (set other : List ℕ) (result : Result (Option (List ℕ)) CircFault) : Type 0 where
  pub on : GoesOn d e
  pub answer : (i : Instance) → MayShowAll (program_at d) d.frame d.view i place set → AnswersSet (program_at d) d.frame e.view i set other result
  pub claims : (i : Instance) → MayShowAll (program_at d) d.frame d.view i place set → ClaimsWords (program_at d) d.view e.view i set

-- By a naming, the equation of the circular instance i of this cell comes to the one value. The words show the other one, or it is that of i, which is seen sealed.
-- The pass knows the nodes in both.
pub record MayRise (d : Held) (names : Naming) (i : Instance) (place : ℕ) (value other : CodedValue) : Type 0 where
  pub cell : IsCellOf (program_at d) d.frame d.view i place
  pub instance : IsInstance (program_at d) i
  pub is_circular : (equations_of (program_at d)).circular i ≡ true
  pub comes : ComesTo (program_at d) d.view i (value_by names value)
  pub typed : IsValue (program_at d) (kind_in (program_at d) i) (value_by names value)
  pub elements : AreElements (program_at d) value
  pub of : AreElements (program_at d) other
  pub known : IsKnownValue d.view.made value
  pub of_known : IsKnownValue d.view.made other
  pub fits : FitsKind (kind_in (program_at d) i) (value_by names other)
  pub shown : IsShown (program_at d) d.view i (value_by names other)

-- both joined, which is shown and is more than the other one; the pass knows the nodes in it
pub record IsRisen (p : Program) (names : Naming) (v : View) (i : Instance) (value other both : CodedValue) : Type 0 where
  pub elements : AreElements p both
  pub known : IsKnownValue v.made both
  pub fits : FitsKind (kind_in p i) (value_by names both)
  pub shown : ShowsAtLeast p v i (kind_in p i) (value_by names both)
  pub more : room both < room other

abbrev pub AnswersRaise : Program → Naming → Frame → View → Instance → CodedValue → CodedValue → Result (Option CodedValue) CircFault → Type 0
AnswersRaise p names f v i value other (Ok None) = order_in p i (value_by names value) (value_by names other)
AnswersRaise p names f v i value other (Ok (Some both)) = IsRisen p names v i value other both
AnswersRaise p names f v i value other (Err fault) = LacksSome p f v i (set_codes value) fault

-- it may rise by some naming that agrees with what is held
abbrev pub MayRiseByOne : Held → ℕ → CodedValue → CodedValue → Type 0
MayRiseByOne d place value other = (names : Naming) × Agrees (program_at d) d.view.made names × ((i : Instance) × MayRise d names i place value other)

-- what raising a value says of the instance of the cell, by each naming that agrees with what is held then
pub record RaisesValue (d e : Held) (place : ℕ) (value other : CodedValue) (result : Result (Option CodedValue) CircFault) : Type 0 where
  pub on : GoesOn d e
  pub answer : ByEachAgreeing (program_at d) e.view.made (λ names. (i : Instance) → MayRise d names i place value other → AnswersRaise (program_at d) names d.frame e.view i value other result)
  pub claims : ByEachAgreeing (program_at d) e.view.made (λ names. (i : Instance) → MayRise d names i place value other → ClaimsWords (program_at d) d.view e.view i (set_codes value))
