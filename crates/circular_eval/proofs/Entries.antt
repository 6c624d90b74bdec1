-- The entries of a local set: their places, one more, and one with another value.
use Rattle.std.proofs.Common.{◌≡◌, ◌⊎◌, ℕ, zero, suc, ◌+◌, ◌<◌, List, [], ◌∷◌, ◌++◌, Some, slice_get, length, inl, inr, ⊎_elim, refl, sym, ap, subst, arith}
use Rattle.equation_law.specs.declared.coding.Instance.{Instance as CodedInstance}
use Rattle.equation_law.specs.declared.coding.Value.{Value as CodedValue}
use Rattle.memo_cells.specs.Views.{Has}
use Rattle.circular_eval.specs.declared.members.Member.{Member}
use Rattle.circular_eval.specs.Left.{room, rooms}
use Rattle.circular_eval.specs.Local.{Members, with_value}

-- what stands in a list has a place there
pub has_at : {X : Type 0} (xs : List X) (x : X) → Has xs x → (n : ℕ) × (slice_get xs n ≡ Some x)
has_at [] x h = absurd h
has_at (y ∷ ys) x (inl e) = (0, ap Some (sym e))
has_at (y ∷ ys) x (inr h) = let r = has_at ys x h in (suc r.0, r.1)

pub at_has : {X : Type 0} (xs : List X) (n : ℕ) (x : X) → slice_get xs n ≡ Some x → Has xs x
at_has [] n x e = cc
at_has (y ∷ ys) zero x e = inl (let q : x ≡ y = cc in q)
at_has (y ∷ ys) (suc n) x e = inr (at_has ys n x e)

-- one more
pub at_more : {X : Type 0} (xs : List X) (y : X) (n : ℕ) (x : X) → slice_get xs n ≡ Some x → slice_get (xs ++ y ∷ []) n ≡ Some x
at_more [] y n x e = cc
at_more (z ∷ zs) y zero x e = e
at_more (z ∷ zs) y (suc n) x e = at_more zs y n x e

pub at_last : {X : Type 0} (xs : List X) (y : X) → slice_get (xs ++ y ∷ []) (length xs) ≡ Some y
at_last [] y = refl
at_last (z ∷ zs) y = at_last zs y

pub at_either : {X : Type 0} (xs : List X) (y : X) (n : ℕ) (x : X) → slice_get (xs ++ y ∷ []) n ≡ Some x → (slice_get xs n ≡ Some x) ⊎ ((n ≡ length xs) × (x ≡ y))
at_either [] y zero x e = inr (refl, cc)
at_either [] y (suc n) x e = cc
at_either (z ∷ zs) y zero x e = inl e
at_either (z ∷ zs) y (suc n) x e = ⊎_elim inl (λ h. inr (ap suc h.0, h.1)) (at_either zs y n x e)

pub length_more : {X : Type 0} (xs : List X) (y : X) → length (xs ++ y ∷ []) ≡ suc (length xs)
length_more [] y = refl
length_more (z ∷ zs) y = ap suc (length_more zs y)

pub rooms_more : (es : Members) (e : CodedInstance × Member) → rooms (es ++ e ∷ []) ≡ rooms es + room e.1.value
rooms_more [] e = omega arith
rooms_more (d ∷ es) e = let h : rooms (es ++ e ∷ []) ≡ rooms es + room e.1.value = rooms_more es e in omega (arith, h)

-- one with another value: it is the entry that stood there, but for the value at its place
pub record IsChanged (n : ℕ) (x : CodedValue) (k : ℕ) (d e : CodedInstance × Member) : Type 0 where
  pub instance : e.0 ≡ d.0
  pub slot : e.1.slot ≡ d.1.slot
  pub by : e.1.by ≡ d.1.by
  pub value : ((k ≡ n) × (e.1.value ≡ x)) ⊎ (e.1.value ≡ d.1.value)

pub changed_at : (es : Members) (n : ℕ) (x : CodedValue) (k : ℕ) (e : CodedInstance × Member) → slice_get (with_value es n x) k ≡ Some e → (d : CodedInstance × Member) × (slice_get es k ≡ Some d) × IsChanged n x k d e
changed_at [] n x k e at = cc
changed_at (d ∷ es) zero x zero e at =
    let is : (d.0, record { slot = d.1.slot; value = x; by = d.1.by }) ≡ e = cc in
    (d, refl, record { instance = ap (λ (q : CodedInstance × Member). q.0) (sym is); slot = ap (λ (q : CodedInstance × Member). q.1.slot) (sym is); by = ap (λ (q : CodedInstance × Member). q.1.by) (sym is); value = inl (refl, ap (λ (q : CodedInstance × Member). q.1.value) (sym is)) })
changed_at (d ∷ es) zero x (suc k) e at = (e, at, record { instance = refl; slot = refl; by = refl; value = inr refl })
changed_at (d ∷ es) (suc n) x zero e at = (e, at, record { instance = refl; slot = refl; by = refl; value = inr refl })
changed_at (d ∷ es) (suc n) x (suc k) e at =
    let r = changed_at es n x k e at in
    (r.0, r.1, record { instance = r.2.instance; slot = r.2.slot; by = r.2.by; value = ⊎_elim (λ h. inl (ap suc h.0, h.1)) inr r.2.value })

pub length_changed : (es : Members) (n : ℕ) (x : CodedValue) → length (with_value es n x) ≡ length es
length_changed [] n x = refl
length_changed (e ∷ es) zero x = refl
length_changed (e ∷ es) (suc n) x = ap suc (length_changed es n x)

-- what stood there stands there, maybe with another value
pub stays_at : (es : Members) (n : ℕ) (x : CodedValue) (k : ℕ) (d : CodedInstance × Member) → slice_get es k ≡ Some d → (e : CodedInstance × Member) × (slice_get (with_value es n x) k ≡ Some e) × (e.0 ≡ d.0)
stays_at [] n x k d at = cc
stays_at (c ∷ es) zero x zero d at = let is : c ≡ d = cc in ((c.0, record { slot = c.1.slot; value = x; by = c.1.by }), refl, ap (λ (q : CodedInstance × Member). q.0) is)
stays_at (c ∷ es) zero x (suc k) d at = (d, at, refl)
stays_at (c ∷ es) (suc n) x zero d at = (d, at, refl)
stays_at (c ∷ es) (suc n) x (suc k) d at = stays_at es n x k d at

pub rooms_less : (es : Members) (n : ℕ) (x : CodedValue) (d : CodedInstance × Member) → slice_get es n ≡ Some d → room x < room d.1.value → rooms (with_value es n x) < rooms es
rooms_less [] n x d at less = cc
rooms_less (c ∷ es) zero x d at less =
    let is : d ≡ c = cc in
    let low : room x < room c.1.value = subst (λ (q : CodedInstance × Member). room x < room q.1.value) is less in
    omega (arith, low)
rooms_less (c ∷ es) (suc n) x d at less = let h : rooms (with_value es n x) < rooms es = rooms_less es n x d at less in omega (arith, h)
