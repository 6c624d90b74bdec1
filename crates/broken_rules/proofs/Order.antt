-- The order of broken rules, and the first of a list.
use Rattle.std.proofs.Common.{◌≡◌, ℕ, List, [], ◌∷◌, ◌++◌, Bool, true, false, Option, Some, None, refl, sym, ◌∙◌, ap, subst, arith, inl, inr, ◌⊎◌}
use Rattle.std.specs.Cmp.{IsTotalOrder}
use Rattle.std.specs.Ordering.{is_lt, is_gt, ordering_reverse, ordering_then, nat_cmp}
use Rattle.std.specs.declared.cmp.Ordering.{Ordering}
use Rattle.std.specs.declared.cmp.Ordering.TheVariants.{Less, Equal, Greater}
use Rattle.std.proofs.lemmas.Cmp.{nat_cmp_total, on_total, then_total, upto, tied_itself}
use Rattle.std.proofs.lemmas.Bool.Decides.{nat_tests}
use Rattle.broken_rules.specs.declared.broken.Broken.{Broken}
use Rattle.broken_rules.specs.Answers.{Has, IsFirst}
use Rattle.broken_rules.specs.Order.{number_of, broken_cmp, is_before, sooner_of, sooner, first_of}
use Rattle.broken_rules.proofs.Rules.{number_once}

pub broken_total : IsTotalOrder broken_cmp
unfolding broken_cmp
broken_total = then_total (on_total (λ (f : Broken). f.place.line) nat_cmp_total) (then_total (on_total (λ (f : Broken). f.place.column) nat_cmp_total) (on_total (λ (f : Broken). number_of f.rule) nat_cmp_total))

less : (o : Ordering) → is_lt o ≡ true → o ≡ Less
less Less h = refl
less Equal h = cc
less Greater h = cc

flip_lt : (o p : Ordering) → o ≡ ordering_reverse p → is_lt o ≡ is_gt p
flip_lt o Less h = ap is_lt h
flip_lt o Equal h = ap is_lt h
flip_lt o Greater h = ap is_lt h

pub before_then : (a b c : Broken) → is_before a b ≡ true → is_before b c ≡ true → is_before a c ≡ true
before_then a b c h k = ap is_lt (broken_total.trans a b c (less _ h) (less _ k))

turned : (a b : Broken) → is_before b a ≡ is_gt (broken_cmp a b)
turned a b = flip_lt (broken_cmp b a) (broken_cmp a b) (broken_total.antisymm b a)

pub not_before_then : (a b c : Broken) → is_before b a ≡ false → is_before c b ≡ false → is_before c a ≡ false
not_before_then a b c h k = turned a c ∙ upto broken_total a b c (sym (turned a b) ∙ h) (sym (turned b c) ∙ k)

sooner_first : (f g : Broken) → is_before g f ≡ true → is_before f g ≡ false
sooner_first f g h = turned g f ∙ ap is_gt (less _ h)

pub not_before_itself : (a : Broken) → is_before a a ≡ false
not_before_itself a = ap is_lt (tied_itself broken_total a)

pub sooner_none : (a : Option Broken) → sooner a None ≡ a
sooner_none None = refl
sooner_none (Some a) = refl

pick_assoc : (a b c : Broken) (m n o : Bool) → is_before b a ≡ m → is_before c b ≡ n → is_before c a ≡ o → (n ≡ true → m ≡ true → o ≡ true) → (m ≡ false → n ≡ false → o ≡ false)
    → sooner_of (sooner_of a b) c ≡ sooner_of a (sooner_of b c)
pick_assoc a b c true true o e f g h k = rw (e, f, g ∙ h refl refl)
pick_assoc a b c true false o e f g h k = rw (e, f, e)
pick_assoc a b c false true o e f g h k = rw (e, f)
pick_assoc a b c false false o e f g h k = rw (e, f, e, g ∙ k refl refl)

pub sooner_assoc : (a b c : Option Broken) → sooner (sooner a b) c ≡ sooner a (sooner b c)
sooner_assoc None b c = refl
sooner_assoc (Some a) None c = refl
sooner_assoc (Some a) (Some b) None = refl
sooner_assoc (Some a) (Some b) (Some c) = ap Some (pick_assoc a b c _ _ _ refl refl refl (λ h k. before_then c b a h k) (λ h k. not_before_then a b c h k))

pub first_of-append : (fs gs : List Broken) → first_of (fs ++ gs) ≡ sooner (first_of fs) (first_of gs)
first_of-append [] gs = refl
first_of-append (f ∷ fs) gs = ap (sooner (Some f)) (first_of-append fs gs) ∙ sym (sooner_assoc (Some f) (first_of fs) (first_of gs))

-- What `first_of` means.
pick_has : (f g h : Broken) (m : Bool) → is_before g f ≡ m → sooner_of f g ≡ h → (h ≡ f) ⊎ (h ≡ g)
pick_has f g h true e k = inr (sym k ∙ rw e)
pick_has f g h false e k = inl (sym k ∙ rw e)

has_more : (g : Broken) (gs : List Broken) (f : Broken) (o : Option Broken) → ((k : Broken) → o ≡ Some k → Has gs k) → sooner (Some g) o ≡ Some f → Has (g ∷ gs) f
has_more g gs f None r h = inl cc
has_more g gs f (Some k) r h = elim (pick_has g k f _ refl cc) [ inl l ↦ inl l | inr e ↦ inr (r f (ap Some (sym e))) ]

pub first_of-has : (fs : List Broken) (f : Broken) → first_of fs ≡ Some f → Has fs f
first_of-has [] f h = cc
first_of-has (g ∷ gs) f h = has_more g gs f (first_of gs) (λ k. first_of-has gs k) h

-- none of fs is before o
abbrev pub AtLeast : Option Broken → Broken → Type 0
AtLeast None g = ⊥
AtLeast (Some f) g = is_before g f ≡ false

pick_least : (f g : Broken) (m : Bool) → is_before g f ≡ m → (is_before f (sooner_of f g) ≡ false) × (is_before g (sooner_of f g) ≡ false)
pick_least f g true e = rw e (sooner_first f g e, not_before_itself g)
pick_least f g false e = rw e (not_before_itself f, e)

least_here : (f : Broken) (o : Option Broken) → AtLeast (sooner (Some f) o) f
least_here f None = not_before_itself f
least_here f (Some g) = (pick_least f g _ refl).0

least_more : (f : Broken) (o : Option Broken) (g : Broken) → AtLeast o g → AtLeast (sooner (Some f) o) g
least_more f None g h = absurd h
least_more f (Some k) g h = not_before_then (sooner_of f k) k g (pick_least f k _ refl).1 h

pub first_of-least : (fs : List Broken) (g : Broken) → Has fs g → AtLeast (first_of fs) g
first_of-least [] g h = h
first_of-least (f ∷ fs) g (inl e) = subst (λ z. AtLeast (sooner (Some f) (first_of fs)) z) (sym e) (least_here f (first_of fs))
first_of-least (f ∷ fs) g (inr h) = least_more f (first_of fs) g (first_of-least fs g h)

-- what a checker answers is a broken rule, and none is before it
pub first_is : (fs : List Broken) (f : Broken) → first_of fs ≡ Some f → IsFirst fs f
first_is fs f h = record { has = first_of-has fs f h; least = λ g k. subst (λ o. AtLeast o g) h (first_of-least fs g k) }

none_of : (f : Broken) (o : Option Broken) (fs : List Broken) → sooner (Some f) o ≡ None → fs ≡ []
none_of f None fs h = cc
none_of f (Some g) fs h = cc

-- where it answers none, there is none
pub none_is : (fs : List Broken) → first_of fs ≡ None → fs ≡ []
none_is [] h = refl
none_is (f ∷ fs) h = none_of f (first_of fs) (f ∷ fs) h

tied : (a b c d e f : ℕ) → is_lt (ordering_then (nat_cmp a b) (ordering_then (nat_cmp c d) (nat_cmp e f))) ≡ false → is_lt (ordering_then (nat_cmp b a) (ordering_then (nat_cmp d c) (nat_cmp f e))) ≡ false
    → (a ≡ b) × (c ≡ d) × (e ≡ f)
tied a b c d e f h k = grind (arith, nat_tests)

-- two broken rules, neither of which is before the other, are one
pub same_place : (f g : Broken) → is_before f g ≡ false → is_before g f ≡ false → f ≡ g
unfolding broken_cmp
same_place f g h k =
    let e = tied f.place.line g.place.line f.place.column g.place.column (number_of f.rule) (number_of g.rule) h k in
    let r = number_once f.rule g.rule e.2 in
    (λ i. record { place = record { line = e.0 i; column = e.1 i }; rule = r i })
