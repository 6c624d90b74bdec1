-- In inner rounds values rise or are dropped, so they may go less far after each that changes something.
use Rattle.std.proofs.Common.{◌≡◌, ℕ, zero, suc, ◌+◌, ◌-◌, ◌<◌, ◌≤◌, Bool, true, false, List, [], ◌∷◌, length, map, get_or, sum_by, Option, Some, None, refl, sym, ap, subst, ◌∙◌, inl, inr, arith}
use Rattle.std.proofs.lemmas.List.Sums.{sum_by-cons}
use Rattle.attr_rules.specs.declared.kinds.Kind.{Kind}
use Rattle.attr_rules.specs.declared.kinds.Kind.TheVariants as kinds
use Rattle.solutions.specs.Rounds.{Graph, inner_rounds, or_else, over}
use Rattle.solutions.specs.Rising.{AgreeBelow}
use Rattle.solutions.proofs.Growing.{done_below}
use Rattle.solutions.proofs.Runs.{and_then_some, inner_circular, inner_ends, inner_first, option_cases, or_else_none}
use Rattle.solutions.proofs.Stopping.{inner_fits}
use Rattle.equation_law.specs.Codes.{Naming}
use Rattle.equation_law.specs.Equations.{equations_of, kind_in}
use Rattle.equation_law.specs.Loops.{fits_in, order_in}
use Rattle.equation_law.specs.Names.{Instance}
use Rattle.equation_law.specs.Orders.{FitsKind}
use Rattle.equation_law.specs.Program.{Program}
use Rattle.equation_law.specs.Values.{Truth, Value}
use Rattle.equation_law.proofs.Heights.{height_grows, height_of, height_strict}
use Rattle.equation_law.proofs.Solution.{are_rising, have_heights, height_in}
use Rattle.plain_rounds.specs.declared.values.NamedValue.{NamedValue}
use Rattle.plain_rounds.specs.Rooms.{IsLow, height, room, top}
use Rattle.plain_rounds.specs.Steps.{known}

-- the second measures no more than the first, and where it measures as much it is the first
abbrev pub Falls : (Option Value → ℕ) → Option Value → Option Value → Type 0
Falls f o q = (f q ≤ f o) × (f q ≡ f o → q ≡ o)

-- so do whole tables
pub tables_fall : (p : Program) (N : Naming) (f : Option Value → ℕ) (vs ws : List (Option NamedValue)) → length ws ≡ length vs → ((k : ℕ) → k < length vs → Falls f (known p N (get_or vs k None)) (known p N (get_or ws k None)))
    → (sum_by (λ v. f (known p N v)) ws ≤ sum_by (λ v. f (known p N v)) vs) × (sum_by (λ v. f (known p N v)) vs ≤ sum_by (λ v. f (known p N v)) ws → map (known p N) ws ≡ map (known p N) vs)
tables_fall p N f [] [] l each = (omega arith, λ e. refl)
tables_fall p N f [] (w ∷ ws) l each = absurd (omega arith)
tables_fall p N f (v ∷ vs) [] l each = absurd (omega arith)
tables_fall p N f (v ∷ vs) (w ∷ ws) l each =
    let F : Option NamedValue → ℕ = λ x. f (known p N x) in
    let here = each 0 (omega arith) in
    let rest = tables_fall p N f vs ws (omega arith) (λ k h. each (suc k) (omega arith)) in
    let first : f (known p N w) ≤ f (known p N v) = here.0 in
    let later : sum_by F ws ≤ sum_by F vs = rest.0 in
    let before : sum_by F (v ∷ vs) ≡ f (known p N v) + sum_by F vs = sum_by-cons F v vs in
    let after : sum_by F (w ∷ ws) ≡ f (known p N w) + sum_by F ws = sum_by-cons F w ws in (
      omega (arith, first, later, before, after),
      λ e.
          let same : f (known p N w) ≡ f (known p N v) = omega (arith, first, later, before, after, e) in
          let others : sum_by F vs ≤ sum_by F ws = omega (arith, first, later, before, after, e) in
          λ i. here.1 same i ∷ rest.1 others i,
    )

-- rooms of two heights
less_room : (t a b : ℕ) → a ≤ b → t - b ≤ t - a
less_room t a b l = omega (arith, l)

same_room : (t a b : ℕ) → a < t → b < t → t - b ≡ t - a → a ≡ b
same_room t a b l m e = omega (arith, l, m, e)

no_room : (t a : ℕ) → a < t → 0 ≡ t - a → ⊥
no_room t a l e = omega (arith, l, e)

-- the height of a value of a type
truth_height : (b : Bool) → height (Truth b) ≡ height_of kinds.Truth (Truth b)
truth_height true = refl
truth_height false = refl

height_is : (k : Kind) (v : Value) → FitsKind k v → height v ≡ height_of k v
height_is kinds.Truth v f = subst (λ (x : Value). height x ≡ height_of kinds.Truth x) (sym f.1) (truth_height f.0)
height_is kinds.Int v f = elim f [ ]
height_is kinds.Text v f = elim f [ ]
height_is (kinds.Node c) v f = elim f [ ]
height_is kinds.Texts v f = subst (λ (x : Value). height x ≡ height_of kinds.Texts x) (sym f.1) refl
height_is (kinds.Nodes c) v f = subst (λ (x : Value). height x ≡ height_of (kinds.Nodes c) x) (sym f.1) refl

module _ (p : Program) (J : List Instance) (S : Instance → Option Value) where
  abbrev T : ℕ → Instance → Option Value
  T n = inner_rounds (equations_of p) J S n

  fit : (n : ℕ) (i : Instance) (v : Value) → T n i ≡ Some v → fits_in p i v
  fit n i v e = inner_fits (equations_of p) (order_in p) (fits_in p) (are_rising p) (height_in p) (have_heights p) J S n i v e

  -- two turns agree where their values do
  agree : (n m : ℕ) → ((j : Instance) (v w : Value) → T n j ≡ Some v → T m j ≡ Some w → order_in p j v w) → AgreeBelow (equations_of p).circular (order_in p) (Graph (over S (T n))) (Graph (over S (T m)))
  agree n m g = record {
    fixed = λ j v w d a b. elim (option_cases (S j)) [
      | inl s ↦ let a' = ap (λ o. or_else o (T n j)) s.1 in let b' = ap (λ o. or_else o (T m j)) s.1 in cc
      | inr s ↦ let t = inner_circular (equations_of p) J S n j v (sym (or_else_none (S j) (T n j) s) ∙ a) in cc
    ];
    below = λ j v w d a b. elim (option_cases (S j)) [
      | inl s ↦
          let a' = ap (λ o. or_else o (T n j)) s.1 in
          let b' = ap (λ o. or_else o (T m j)) s.1 in
          let e : v ≡ w = cc in
          subst (order_in p j v) e ((are_rising p).itself j v)
      | inr s ↦ g j v w (sym (or_else_none (S j) (T n j) s) ∙ a) (sym (or_else_none (S j) (T m j) s) ∙ b)
    ];
  }

  -- a value never falls
  grows : (n : ℕ) (i : Instance) (v w : Value) → T n i ≡ Some v → T (suc n) i ≡ Some w → order_in p i v w
  grows zero i v w a b =
      let f = inner_first (equations_of p) J S i v a in
      subst (λ (x : Value). order_in p i x w) f.1 ((are_rising p).low i w (fit 1 i w b))
  grows (suc n) i v w a b =
      let c = inner_circular (equations_of p) J S (suc n) i v a in
      done_below (agree n (suc n) (grows n)) ((are_rising p).rising i c) (inner_ends (equations_of p) J S n i v a).1 (inner_ends (equations_of p) J S (suc n) i w b).1

  -- so a turn takes room from an instance, or leaves it alone
  falls_by : (n : ℕ) (i : Instance) (o q : Option Value) → T n i ≡ o → T (suc n) i ≡ q → IsLow o → IsLow q → Falls room o q
  falls_by n i None None a b l m = (omega arith, λ e. refl)
  falls_by n i None (Some w) a b l m = let had = (and_then_some _ _ w b).0 in let d : None ≡ Some had.0 = sym a ∙ had.1 in cc
  falls_by n i (Some v) None a b l m = (omega arith, λ e. absurd (no_room top (height v) l e))
  falls_by n i (Some v) (Some w) a b l m =
      let k = kind_in p i in
      let f = fit n i v a in
      let g = fit (suc n) i w b in
      let up = grows n i v w a b in
      let first : height v ≡ height_of k v = height_is k v f in
      let second : height w ≡ height_of k w = height_is k w g in
      let grown : height_of k v ≤ height_of k w = height_grows k v w up in
      let more : height v ≤ height w = omega (arith, first, second, grown) in (
        less_room top (height v) (height w) more,
        λ e. ap Some (height_strict k v w f g up (sym first ∙ same_room top (height v) (height w) l m e ∙ second)),
      )

  -- also beside what is settled
  pub over_falls : (n : ℕ) (i : Instance) → IsLow (over S (T n) i) → IsLow (over S (T (suc n)) i) → Falls room (over S (T n) i) (over S (T (suc n)) i)
  over_falls n i l m = elim (option_cases (S i)) [
    | inl s ↦
        let same : over S (T (suc n)) i ≡ over S (T n) i = ap (λ o. or_else o (T (suc n) i)) s.1 ∙ sym (ap (λ o. or_else o (T n i)) s.1) in
        let rooms : room (over S (T (suc n)) i) ≡ room (over S (T n) i) = ap room same in
        (omega (arith, rooms), λ e. same)
    | inr s ↦
        let first : over S (T n) i ≡ T n i = or_else_none (S i) (T n i) s in
        let second : over S (T (suc n)) i ≡ T (suc n) i = or_else_none (S i) (T (suc n) i) s in
        subst (λ o. Falls room o (over S (T (suc n)) i)) (sym first) (subst (λ q. Falls room (T n i) q) (sym second) (falls_by n i (T n i) (T (suc n) i) refl refl (subst IsLow first l) (subst IsLow second m)))
  ]
