-- Counting the cells that are seen settled.
use Rattle.std.proofs.Common.{◌≡◌, ◌≢◌, ℕ, zero, suc, ◌+◌, ◌-◌, ◌/◌, ◌^◌, leb, ◌<◌, ◌≤◌, ◌⊎◌, inl, inr, ⊎_elim, Bool, true, false, ◌&&◌, ◌||◌, eqb, ne_eqb, if◌then◌else◌, List, [], ◌∷◌, refl, sym, ap, subst, ◌∙◌, arith}
use Rattle.std.specs.List.{list_any}
use Rattle.std.proofs.lemmas.Bool.{eq-eqb, eqb-true, le-leb, lt-leb, or_left, or_right}
use Rattle.equation_law.proofs.Keys.{both_ways}
use mathlib.Core.Logic.{dite}
use native.Mathlib.Decide.{ℕ_discrete, dec_le}
use Rattle.memo_cells.specs.declared.view.Frame.{Frame}
use Rattle.memo_cells.specs.declared.view.View.{View}
use Rattle.memo_cells.specs.Keys.{is_attribute}
use Rattle.memo_cells.specs.Standing.{IsPassOf}
use Rattle.memo_cells.specs.Steps.{KeySeen, ValueSeen}
use Rattle.memo_cells.specs.Views.{Has, IsPlain, is_settled_at, settled_below}

-- what is there is found
pub any_has : {X : Type 0} (f : X → Bool) (xs : List X) (x : X) → Has xs x → f x ≡ true → list_any f xs ≡ true
any_has f [] x h e = absurd h
any_has f (y ∷ ys) x h e = ⊎_elim (λ same. or_left (f y) (list_any f ys) (ap f (sym same) ∙ e)) (λ later. or_right (f y) (list_any f ys) (any_has f ys x later e)) h

-- and what is found is there
pub has_any : {X : Type 0} (f : X → Bool) (xs : List X) → list_any f xs ≡ true → (x : X) × Has xs x × (f x ≡ true)
has_any f [] e = cc
has_any {X} f (y ∷ ys) e =
    elim (f y) as (λ b. f y ≡ b → (b || list_any f ys) ≡ true → (x : X) × Has (y ∷ ys) x × (f x ≡ true)) [
      | true ↦ λ here found. (y, inl refl, here)
      | false ↦ λ not found. let r = has_any f ys found in (r.0, inr r.1, r.2)
    ] refl e

-- the test of a settled cell of an attribute
abbrev is_at : ℕ → ℕ × ℕ × ℕ → Bool
is_at p x = eqb x.0 p && is_attribute x.1

test : (p : ℕ) (x : ℕ × ℕ × ℕ) → is_at p x ≡ true → (x.0 ≡ p) × (is_attribute x.1 ≡ true)
test p x e = elim (eqb x.0 p) as (λ b. eqb x.0 p ≡ b → (b && is_attribute x.1) ≡ true → (x.0 ≡ p) × (is_attribute x.1 ≡ true)) [
  | true ↦ λ same more. (eqb-true x.0 p same, more)
  | false ↦ λ same more. cc
] refl e

pub settled_here : (v : View) (p k c : ℕ) → Has v.values (p, k, c) → is_attribute k ≡ true → is_settled_at v p ≡ true
settled_here v p k c h e = any_has (is_at p) v.values (p, k, c) h (ap (λ b. b && is_attribute k) (eq-eqb p p refl) ∙ e)

pub here_settled : (v : View) (p : ℕ) → is_settled_at v p ≡ true → (k c : ℕ) × Has v.values (p, k, c) × (is_attribute k ≡ true)
here_settled v p e =
    let r = has_any (is_at p) v.values e in
    let t = test p r.0 r.2 in
    (r.0.1, r.0.2, subst (λ (q : ℕ). Has v.values (q, r.0.1, r.0.2)) t.0 r.1, t.1)

-- a cell that isn't settled, or isn't of an attribute
pub not_settled : (v : View) (p : ℕ) → ((k c : ℕ) → Has v.values (p, k, c) → is_attribute k ≡ false) → is_settled_at v p ≡ false
not_settled v p none = both_ways (is_settled_at v p) false (λ e. let r = here_settled v p e in let f = none r.0 r.1 r.2 in cc) (λ e. cc)

-- what is read of a cell says which it is
pub settled_is : (f : Frame) (u v w : View) (place key value : ℕ) → is_attribute key ≡ true → KeySeen f u v place key → ValueSeen f v w place value → leb (2 ^ 63) value ≡ is_settled_at w place
settled_is f u v w place key value attribute seen read =
    let there : key ≢ 0 = λ z. (let e : true ≡ false = sym attribute ∙ ap is_attribute z in cc) in
    dite (dec_le (2 ^ 63) value)
    (λ high. le-leb (2 ^ 63) value high ∙ sym (settled_here w place key (value - 2 ^ 63) (read.settled high key (seen.claimed there)) attribute))
    (λ low. let less : value < 2 ^ 63 = omega arith in lt-leb (2 ^ 63) value less ∙ sym (not_settled w place (λ k c h. absurd (read.unset less k c h))))

-- the cell of an attribute has no word of a set
pub attribute_cell : (f : Frame) (u v : View) (place key : ℕ) → is_attribute key ≡ true → KeySeen f u v place key → IsPlain v place
attribute_cell f u v place key attribute seen =
    let kind : key / 2 ^ 61 ≢ 3 = λ e. (let no : is_attribute key ≡ false = ap (λ (n : ℕ). eqb n 1 || eqb n 2) e in cc) in
    (key, seen.claimed (λ z. let no : is_attribute key ≡ false = ap is_attribute z in cc), ne_eqb (key / 2 ^ 61) 3 kind)

pub other_is : (f : Frame) (u v : View) (place key : ℕ) → is_attribute key ≡ false → IsPassOf f v → KeySeen f u v place key → is_settled_at v place ≡ false
other_is f u v place key other own seen =
    not_settled v place (λ k c h.
    let here = own.valued place k c h in
    dite (ℕ_discrete key 0) (λ z. absurd (seen.free z k here)) (λ there. ap is_attribute (own.one_key place k key here (seen.claimed there)) ∙ other))

-- a call that learns of one cell only
pub below_same : (v w : View) (n m : ℕ) → ((q k c : ℕ) → Has v.values (q, k, c) → Has w.values (q, k, c)) → ((q k c : ℕ) → Has w.values (q, k, c) → Has v.values (q, k, c) ⊎ (q ≡ n)) → m ≤ n → settled_below w m ≡ settled_below v m
below_same v w n zero more only le = refl
below_same v w n (suc m) more only le =
    let rest = below_same v w n m more only (omega arith) in
    let same : is_settled_at w m ≡ is_settled_at v m =
    both_ways (is_settled_at w m) (is_settled_at v m)
    (λ e. let r = here_settled w m e in ⊎_elim (λ h. settled_here v m r.0 r.1 h r.3) (λ x. absurd (omega (arith, x))) (only m r.0 r.1 r.2))
    (λ e. let r = here_settled v m e in settled_here w m r.0 r.1 (more m r.0 r.1 r.2) r.3)
    in
    ap (λ b. (if b then 1 else 0) + settled_below w m) same ∙ ap (λ x. (if is_settled_at v m then 1 else 0) + x) rest

-- one cell more
pub counted : (v w : View) (n x y : ℕ) (b c : Bool) → settled_below w n ≡ settled_below v n → b ≡ is_settled_at w n → x ≡ settled_below v n → b ≡ c → y ≡ (if c then 1 else 0) + x → y ≡ settled_below w (n + 1)
counted v w n x y b c same settled before is now =
    let more : n + 1 ≡ suc n = omega arith in
    let one : if◌then◌else◌ {A = ℕ} (is_settled_at w n) 1 0 ≡ (if c then 1 else 0) = ap (λ (d : Bool). if◌then◌else◌ {A = ℕ} d 1 0) (sym settled ∙ is) in
    let all : y ≡ settled_below w (suc n) = omega (arith, one, same, before, now) in
    all ∙ ap (settled_below w) (sym more)

pub below_most : (v : View) (n : ℕ) → settled_below v n ≤ n
below_most v zero = omega arith
below_most v (suc n) =
    let rest = below_most v n in
    let one : (if is_settled_at v n then 1 else 0) ≤ 1 = elim (is_settled_at v n) as (λ b. (if b then 1 else 0) ≤ 1) [ true ↦ omega arith | false ↦ omega arith ] in
    omega arith
