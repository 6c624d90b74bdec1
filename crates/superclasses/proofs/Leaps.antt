-- Jumps that each go up so many steps, and what they mark.
use Rattle.std.proofs.Common.{true, rules, IsSome, ◌⊎◌, inl, inr, IsTrue, Bool, false, ◌≡◌, ◌↔◌, ℕ, ◌+◌, ◌*◌, ◌<◌, ◌≤◌, List, Option, Some, None, length, map, get_or, refl, sym, ap, ◌∙◌, subst, arith}
use Rattle.std.specs.List.{Contains}
use Rattle.std.specs.Option.{option_and_then}
use Rattle.std.proofs.lemmas.List.{get_or_default, length-map}
use Rattle.std.proofs.Math.ListN.{get_or-map}
use Rattle.superclasses.specs.Superclasses.{IsAbove, directly, through, superclass_of}
use Rattle.superclasses.proofs.Steps.{above_by, above_by-add, far_from_own, listed, own_from_far}

-- the jumps go this many steps up, and at least one
pub record GoUp (superclasses : List (Option ℕ)) (steps : ℕ) (jumps : List (Option ℕ)) : Type 0 where
  pub some : 0 < steps
  pub len : length jumps ≡ length superclasses
  pub lead : (a : ℕ) → superclass_of jumps a ≡ above_by superclasses steps a

-- one step is the superclass
one_step : (o : Option ℕ) → o ≡ option_and_then Some o
one_step None = refl
one_step (Some a) = refl

pub go_up_one : (s : List (Option ℕ)) → GoUp s 1 s
go_up_one s = record { some = omega arith; len = refl; lead = λ a. one_step (superclass_of s a) }

-- two jumps go up twice as far
on_from : (s : List (Option ℕ)) (m : ℕ) (jumps : List (Option ℕ)) → GoUp s m jumps → (o : Option ℕ) → option_and_then (superclass_of jumps) o ≡ option_and_then (above_by s m) o
on_from s m jumps g None = refl
on_from s m jumps g (Some b) = g.lead b

pub go_up_twice : (s : List (Option ℕ)) (m : ℕ) (jumps seen farther : List (Option ℕ)) → GoUp s m jumps → seen ≡ jumps → farther ≡ map (λ class. option_and_then (superclass_of seen) class) seen → GoUp s (m * 2) farther
go_up_twice s m jumps seen farther g same is =
    let e = is ∙ ap (λ (l : List (Option ℕ)). map (λ class. option_and_then (superclass_of l) class) l) same in
    let double : m + m ≡ m * 2 = omega arith in
    let some : 0 < m = g.some in
    record {
      some = omega arith;
      len = ap length e ∙ length-map jumps (λ class. option_and_then (superclass_of jumps) class) ∙ g.len;
      lead = λ a. ap (λ l. superclass_of l a) e ∙ get_or-map (option_and_then (superclass_of jumps)) jumps a None ∙ on_from s m jumps g (superclass_of jumps a) ∙ ap (option_and_then (above_by s m)) (g.lead a) ∙ sym (above_by-add s m m a) ∙ ap (λ j. above_by s j a) double;
    }

-- what a class is above is in the list
own_listed : (s : List (Option ℕ)) (a b : ℕ) → IsAbove s a b → a < length s
own_listed s a b (directly e) = listed s a b e
own_listed s a b (through {b = c} e h) = listed s a c e

-- the jumps lead nowhere
pub record LeadNowhere (jumps : List (Option ℕ)) : Type 0 where
  pub none : (a : ℕ) → superclass_of jumps a ≡ None

-- they do where none of them is found to lead to a class
none_at : (jumps : List (Option ℕ)) (found : Bool) → (IsTrue found ↔ (a : ℕ) × (a < length jumps) × IsSome (superclass_of jumps a)) → found ≡ false → (a : ℕ) (o : Option ℕ) → superclass_of jumps a ≡ o → o ≡ None
none_at jumps found says none a None e = refl
none_at jumps found says none a (Some b) e = let some : found ≡ true = says.1 (a, listed jumps a b e, subst IsSome (sym e) (search rules)) in absurd cc

pub nowhere_found : (jumps seen : List (Option ℕ)) → seen ≡ jumps → (found : Bool) → (IsTrue found ↔ (a : ℕ) × (a < length seen) × IsSome (superclass_of seen a)) → found ≡ false → LeadNowhere jumps
nowhere_found jumps seen same found says none = subst LeadNowhere same (record { none = λ a. none_at seen found says none a (superclass_of seen a) refl })

-- the jumps are far enough: they go up as many steps as there are classes, or lead nowhere
abbrev pub AreFar : List (Option ℕ) → ℕ → List (Option ℕ) → Type 0
AreFar s m jumps = (length s ≤ m) ⊎ LeadNowhere jumps

-- a class that such a jump leads to is its own superclass
own_from_jump : (s : List (Option ℕ)) (m : ℕ) (jumps : List (Option ℕ)) (i c : ℕ) → AreFar s m jumps → superclass_of jumps i ≡ Some c → above_by s m i ≡ Some c → c < length s → IsAbove s c c
own_from_jump s m jumps i c (inl long) jump e h = own_from_far s m i c long e h
own_from_jump s m jumps i c (inr none) jump e h = let nowhere : superclass_of jumps i ≡ None = none.none i in absurd cc

-- far jumps lead to the classes that are their own superclasses
marks_own : (s : List (Option ℕ)) (m : ℕ) (jumps : List (Option ℕ)) (c : ℕ) → GoUp s m jumps → AreFar s m jumps → ((c < length jumps) × Contains jumps (Some c)) ↔ IsAbove s c c
marks_own s m jumps c g far = (
  λ h.
      let at = h.1.0 in
      let jump = get_or_default jumps at None (Some c) h.1.1 ∙ h.1.2 in
      own_from_jump s m jumps at c far jump (sym (g.lead at) ∙ jump) (subst (λ n. c < n) g.len h.0),
  λ h.
      let start = far_from_own s m c h in
      let jump = g.lead start.0 ∙ start.1 in
      let within = listed jumps start.0 c jump in
      (subst (λ n. c < n) (sym g.len) (own_listed s c c h), (start.0, within, get_or_default jumps start.0 (Some c) None within ∙ jump)),
)

-- so marks of the classes that they lead to are marks of those
pub marked_own : (s : List (Option ℕ)) (m : ℕ) (jumps : List (Option ℕ)) → GoUp s m jumps → AreFar s m jumps → (seen : List (Option ℕ)) → seen ≡ jumps → (marks : List Bool) → ((c : ℕ) → IsTrue (get_or marks c false) ↔ (c < length seen) × Contains seen (Some c)) → (c : ℕ) → IsTrue (get_or marks c false) ↔ IsAbove s c c
marked_own s m jumps g far seen same marks h c =
    let own = subst (λ (l : List (Option ℕ)). ((c < length l) × Contains l (Some c)) ↔ IsAbove s c c) (sym same) (marks_own s m jumps c g far) in
    (λ marked. own.0 ((h c).0 marked), λ above. (h c).1 (own.1 above))
