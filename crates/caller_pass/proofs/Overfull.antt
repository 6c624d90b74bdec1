-- Where keys of what queries demand have all cells and one more is demanded, that is more than the cells can hold.
use Rattle.std.proofs.Common.{◌≡◌, ◌≢◌, ℕ, zero, suc, ◌<◌, ◌≤◌, ◌/◌, ⊎_elim, List, [], ◌∷◌, length, refl, sym, ap, subst, ◌∙◌, arith}
use Rattle.rag_io.specs.Pool.{ArePooled}
use Rattle.solutions.specs.Leading.{none}
use Rattle.equation_law.specs.Keys.{AreDifferent, IsAmong, IsAsked, IsJust, IsKey, Member, Part, Prefix, Word}
use Rattle.equation_law.specs.Loops.{Chain}
use Rattle.equation_law.specs.Names.{At, Instance, Query}
use Rattle.equation_law.specs.Program.{Program}
use Rattle.memo_cells.specs.declared.view.Frame.{Frame}
use Rattle.memo_cells.specs.declared.view.View.{View}
use Rattle.memo_cells.specs.Claiming.{ClaimsKeys, ClaimsKeysOf, IsKeyOf, IsKeyOfPart}
use Rattle.memo_cells.specs.Keys.{set_word}
use Rattle.memo_cells.specs.Naming.{IsWordOf}
use Rattle.memo_cells.specs.Standing.{IsPassOf}
use Rattle.memo_cells.specs.Views.{Has, IsAtLeast, IsFull, first_view, times}
use Rattle.memo_cells.proofs.Agreeing.{IsOpen, one_code}
use Rattle.memo_cells.proofs.Claiming.{LeadsToAll, claims_on_of, key_of_more}
use Rattle.memo_cells.proofs.Naming.{word_once}
use Rattle.caller_pass.specs.Overfull.{IsOverfull}

-- the queries lead to what one of them leads to
one_asked : (p : Program) (q : ℕ) → q < length p.queries → LeadsToAll p (IsAsked p) (IsJust (Query q))
one_asked p q within j e = (Query q, within, subst (λ (k : Instance). Chain p (Query q) k) (sym e) none)

-- so a key of a query is one of theirs
pub asked_key : (p : Program) (v : View) (q k : ℕ) → q < length p.queries → IsKeyOf p v (IsJust (Query q)) k → IsKeyOf p v (IsAsked p) k
asked_key p v q k within h = key_of_more p (IsAsked p) (IsJust (Query q)) (one_asked p q within) v k h

-- what is claimed for one more query
pub asked_more : (p : Program) (u v w : View) (q : ℕ) → q < length p.queries → ClaimsKeysOf p (IsAsked p) u v → IsAtLeast v w → ClaimsKeys p (Query q) v w → ClaimsKeysOf p (IsAsked p) u w
asked_more p u v w q within before kept now = claims_on_of p (IsAsked p) (IsJust (Query q)) u v w (one_asked p q within) before kept now

module _ (p : Program) (pooled : ArePooled p.texts) (f : Frame) (v w : View) (first : v ≡ first_view f) (own : IsPassOf f w) (by : IsOpen p w.made) (kept : IsAtLeast v w) (claims : ClaimsKeysOf p (IsAsked p) v w) where
  -- each claimed key is that of what a query demands
  all_asked : (x k : ℕ) → Has w.keys (x, k) → IsKeyOf p w (IsAsked p) k
  all_asked x k has =
      let empty : times x v.claims ≡ 0 = ap (λ (y : View). times x y.claims) first in
      let some = own.whole (kept.share ∙ ap (λ (y : View). y.share) first) x k has in
      ⊎_elim (λ same. absurd (some (same ∙ empty))) (λ c. subst (λ (j : ℕ). IsKeyOf p w (IsAsked p) j) (own.one_key x c.0 k c.1 has) c.2) (claims x)

  one_set_word : (k l : ℕ) (i : Instance) (n : ℕ) → IsWordOf p w k i n → IsWordOf p w l i n → k ≡ l
  one_set_word k l i n a b =
      let key : a.key ≡ b.key = word_once w own.one_key own.one_place p pooled by a.key b.key i a.stands b.stands in
      let slot : a.slot ≡ b.slot = own.one_place a.slot b.slot b.key (subst (λ (j : ℕ). Has w.keys (a.slot, j)) key a.there) b.there in
      a.is ∙ ap (λ (s : ℕ). set_word s n) slot ∙ sym b.is

  one_word : (k l : ℕ) (x : Part) → IsKeyOfPart p w k x → IsKeyOfPart p w l x → k ≡ l
  one_word k l (Prefix i) a b = word_once w own.one_key own.one_place p pooled by k l i a b
  one_word k l (Word i n) a b = one_set_word k l i n a b
  one_word k l (Member i m) a b = one_set_word k l i (a.code / 64) a.word (subst (λ (c : ℕ). IsWordOf p w l i (c / 64)) (sym (one_code p w.made by a.code b.code (At m) a.at b.at)) b.word)

  module _ (k : ℕ) (asked : IsKeyOf p w (IsAsked p) k) (full : IsFull f w k) where
    -- what the key of a cell is of
    cell : (n : ℕ) (lt : n < f.cells) → IsKeyOf p w (IsAsked p) (full n lt).0
    cell n lt = all_asked n (full n lt).0 (full n lt).1

    -- those of the cells below n
    abbrev below : (n : ℕ) → n ≤ f.cells → List Part
    below zero le = []
    below (suc n) le = (cell n (omega (arith, le))).0 ∷ below n (omega (arith, le))

    so_many : (n : ℕ) (le : n ≤ f.cells) → length (below n le) ≡ n
    so_many zero le = refl
    so_many (suc n) le = let rest = so_many n (omega (arith, le)) in ap suc rest

    stands_below : (n : ℕ) (le : n ≤ f.cells) (x : Part) → IsAmong (below n le) x → (y j : ℕ) × (y < n) × Has w.keys (y, j) × (j ≢ k) × IsKeyOfPart p w j x × IsKey p (IsAsked p) x
    stands_below zero le x h = absurd h
    stands_below (suc n) le x h = ⊎_elim
        (λ e.
        let here = full n (omega (arith, le)) in
        let key = cell n (omega (arith, le)) in
        (n, here.0, omega arith, here.1, here.2, subst (λ (x : Part). IsKeyOfPart p w here.0 x) (sym e) key.1, subst (λ (x : Part). IsKey p (IsAsked p) x) (sym e) key.2)
        )
        (λ later. let r = stands_below n (omega (arith, le)) x later in (r.0, r.1, omega (arith, r.2), r.3, r.4, r.5, r.6))
        h

    all_different : (n : ℕ) (le : n ≤ f.cells) → AreDifferent (below n le)
    all_different zero le = tt
    all_different (suc n) le =
        let here = full n (omega (arith, le)) in
        let key = cell n (omega (arith, le)) in (
          (λ h.
              let r = stands_below n (omega (arith, le)) key.0 h in
              let word : r.1 ≡ here.0 = one_word r.1 here.0 key.0 r.5 key.1 in
              let same = own.one_place r.0 n here.0 (subst (λ (j : ℕ). Has w.keys (r.0, j)) word r.3) here.1 in
              absurd (omega (arith, r.2, same))
              ),
          all_different n (omega (arith, le)),
        )

    pub overfull : IsOverfull p f.cells
    overfull =
        let le : f.cells ≤ f.cells = omega arith in
        let many = so_many f.cells le in
        record {
          keys = asked.0 ∷ below f.cells le;
          different = ((λ h. let r = stands_below f.cells le asked.0 h in r.4 (one_word r.1 k asked.0 r.5 asked.1)), all_different f.cells le);
          are = λ x h. ⊎_elim (λ e. subst (λ (x : Part). IsKey p (IsAsked p) x) (sym e) asked.2) (λ later. (stands_below f.cells le x later).6) h;
          many = omega (arith, many);
        }
