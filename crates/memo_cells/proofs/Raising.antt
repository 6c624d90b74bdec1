-- A lower assignment grows by what the words may be raised to.
use Rattle.std.proofs.Common.{◌≡◌, true, cond, sym, subst, ⊎_elim}
use Rattle.solutions.specs.Leading.{AreJoins, raised}
use Rattle.solutions.specs.Rising.{AreRising}
use Rattle.solutions.proofs.Lower.{raised_lower, raised_up, step_fits}
use Rattle.equation_law.specs.Equations.{HasValue, equations_of, kind_in}
use Rattle.equation_law.specs.Loops.{fits_in, join_in, order_in}
use Rattle.equation_law.specs.Names.{Instance}
use Rattle.equation_law.specs.Orders.{IsAtMost, FitsKind}
use Rattle.equation_law.specs.Program.{Program}
use Rattle.equation_law.specs.Values.{Value}
use Rattle.equation_law.proofs.Orders.{at_most_itself}
use Rattle.equation_law.proofs.Solution.{one}
use Rattle.memo_cells.specs.declared.view.View.{View}
use Rattle.memo_cells.specs.Showing.{ShowsAtLeast, ShowsAtMost}
use Rattle.memo_cells.specs.Standing.{AreShown, ComesTo, IsLowerOf, IsShown, Knows, MayShow}
use Rattle.memo_cells.proofs.Agreeing.{IsOpen}
use Rattle.memo_cells.proofs.Showing.{not_both, shown_between}

abbrev pub Rules : Program → Type 0
Rules p = AreRising (equations_of p) (order_in p) (fits_in p)

abbrev pub Joins : Program → Type 0
Joins p = AreJoins (equations_of p) (order_in p) (fits_in p) (join_in p)

-- all of the value of what is seen settled is shown
abbrev pub AreSettledShown : Program → View → Type 0
AreSettledShown p v = (i : Instance) → Knows p v i → (x : Value) × HasValue p i x × ShowsAtLeast p v i (kind_in p i) x

-- then what is shown, or a value seen settled, is shown whole
pub shown_whole : (p : Program) (v : View) → AreSettledShown p v → (i : Instance) (x : Value) → IsShown p v i x → ShowsAtLeast p v i (kind_in p i) x
shown_whole p v all i x h = ⊎_elim (λ least. least) (λ k. let s = all i k.0 in subst (λ (y : Value). ShowsAtLeast p v i (kind_in p i) y) (one p i s.0 x s.1 k.1) s.2) h

-- a lower assignment that is at least T, and at i at least x where i is circular
pub record Higher (p : Program) (T : Instance → Value) (i : Instance) (x : Value) : Type 0 where
  pub values : Instance → Value
  pub lower : IsLowerOf p values
  pub up : (j : Instance) → (equations_of p).circular j ≡ true → IsAtMost (T j) (values j)
  pub reaches : (equations_of p).circular i ≡ true → IsAtMost x (values i)

module _ (p : Program) (r : Rules p) (u : Joins p) (v : View) (T : Instance → Value) (lower : IsLowerOf p T) (most : (j : Instance) → (equations_of p).circular j ≡ true → ShowsAtMost p v j (kind_in p j) (T j)) (all : AreSettledShown p v) (by : IsOpen p v.made) where
  -- what is shown is at most T
  pub shown_below : (B : Instance → Value) → AreShown p v B → (j : Instance) → (equations_of p).circular j ≡ true → IsAtMost (B j) (T j)
  shown_below B h j c = shown_between p v by j (kind_in p j) (B j) (T j) (h j c).0 (shown_whole p v all j (B j) (h j c).1) (most j c)

  comes_higher : (i : Instance) (x : Value) → (equations_of p).circular i ≡ true → ComesTo p v i x → Higher p T i x
  comes_higher i x c h =
      let fit : FitsKind (kind_in p i) x = step_fits (equations_of p) (order_in p) (fits_in p) (join_in p) r u h.below i x h.demands c h.ends in
      let right : IsAtMost x (join_in p i (T i) x) = u.right i (T i) x (lower.fits i c) fit in
      record {
        values = raised (equations_of p) (join_in p) T i x;
        lower = raised_lower (equations_of p) (order_in p) (fits_in p) (join_in p) r u T h.below lower i c (shown_below h.below h.shown) x x h.demands h.ends fit (at_most_itself x);
        up = λ j d. raised_up (equations_of p) (order_in p) (fits_in p) (join_in p) r u T i x fit j (lower.fits j d);
        reaches = λ _. subst (λ b. IsAtMost x (cond b (join_in p i (T i) x) (T i))) (sym (r.same_self i)) right;
      }

  pub higher : (i : Instance) (x : Value) → MayShow p v i x → Higher p T i x
  higher i x h = ⊎_elim (λ a. comes_higher i x a.0 a.1) (λ a. record { values = T; lower = lower; up = λ j d. at_most_itself (T j); reaches = λ c. absurd (not_both a.0 c) }) h
