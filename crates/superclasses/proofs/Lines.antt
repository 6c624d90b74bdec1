-- The line of a class: the classes above it that so many steps lead to, and what subclasses are by it.
use Rattle.std.proofs.Common.{◌≡◌, ◌==◌, ℕ, zero, suc, ◌+◌, ◌-◌, ◌<◌, ◌≤◌, Bool, true, false, ◌||◌, cond, List, [], ◌∷◌, Option, Some, None, length, IsTrue, ◌⊎◌, ◌↔◌, inl, inr, refl, sym, ap, ◌∙◌, subst, arith}
use Rattle.std.specs.List.{find, list_any}
use Rattle.std.specs.Option.{option_and_then, unwrap_or}
use Rattle.std.proofs.lemmas.Bool.{eq-eqb, eqb-true, cases_order}
use Rattle.std.proofs.lemmas.Option.{option_and_then_some}
use Rattle.superclasses.specs.Superclasses.{IsAbove, directly, through, superclass_of, line_up, line_of, is_above, is_sub, upwards, nearest_common}
use Rattle.superclasses.proofs.Pigeonhole.{Collision, pigeonhole}
use Rattle.superclasses.proofs.Steps.{above_by, above_by-add, above_from_steps, listed, own_from_far}

-- of two tests, one is passed
or_either : (x y : Bool) → (x || y) ≡ true → (x ≡ true) ⊎ (y ≡ true)
or_either true y e = inl refl
or_either false y e = inr e

or_first : (x y : Bool) → x ≡ true → (x || y) ≡ true
or_first x y e = ap (λ b. b || y) e

or_second : (x y : Bool) → y ≡ true → (x || y) ≡ true
or_second true y e = refl
or_second false y e = e

-- what stands among n classes from one on upwards, fewer than n steps lead to
steps_to : (n : ℕ) (s : List (Option ℕ)) (o : Option ℕ) (b : ℕ) → list_any (λ c. c == b) (line_up n s o) ≡ true → (k : ℕ) × (k < n) × (option_and_then (above_by s k) o ≡ Some b)
steps_to zero s o b e = absurd cc
steps_to (suc n) s None b e = absurd cc
steps_to (suc n) s (Some j) b e = elim (or_either (j == b) (list_any (λ c. c == b) (line_up n s (superclass_of s j))) e) [
  | inl here ↦ (0, omega arith, ap Some (eqb-true j b here))
  | inr later ↦ let r = steps_to n s (superclass_of s j) b later in (suc r.0, (let l : r.0 < n = r.1 in omega arith), r.2)
]

-- and what fewer than n steps lead to stands there
stands_at : (k n : ℕ) (s : List (Option ℕ)) (o : Option ℕ) (b : ℕ) → k < n → option_and_then (above_by s k) o ≡ Some b → list_any (λ c. c == b) (line_up n s o) ≡ true
stands_at k zero s o b l e = absurd (omega arith)
stands_at k (suc n) s None b l e = absurd cc
stands_at zero (suc n) s (Some j) b l e = or_first (j == b) (list_any (λ c. c == b) (line_up n s (superclass_of s j))) (eq-eqb j b (let same : j ≡ b = cc in same))
stands_at (suc k) (suc n) s (Some j) b l e = or_second (j == b) (list_any (λ c. c == b) (line_up n s (superclass_of s j))) (stands_at k n s (superclass_of s j) b (omega arith) e)

-- the class k steps on a way that goes farther
record Midway (s : List (Option ℕ)) (i n b k : ℕ) : Type 0 where
  pub class : ℕ
  pub reached : above_by s k i ≡ Some class
  pub leads : above_by s (n - k) class ≡ Some b
  pub within : class < length s

goes_on : (s : List (Option ℕ)) (m x b : ℕ) → above_by s (suc m) x ≡ Some b → x < length s
goes_on s m x b e = option_and_then_some (above_by s m) (superclass_of s x) b e (λ y first rest. listed s x y first)

midway : (s : List (Option ℕ)) (i n b k : ℕ) → above_by s n i ≡ Some b → k < n → Midway s i n b k
midway s i n b k e l =
    let split : k + (n - k) ≡ n = omega arith in
    let more : n - k ≡ suc (n - suc k) = omega arith in
    let f = sym (above_by-add s k (n - k) i) ∙ ap (λ j. above_by s j i) split ∙ e in
    option_and_then_some (above_by s (n - k)) (above_by s k i) b f (λ x first rest. record { class = x; reached = first; leads = rest; within = goes_on s (n - suc k) x b (sym (ap (λ j. above_by s j x) more) ∙ rest) })

-- the class on the way, by its number
number : (s : List (Option ℕ)) (i k : ℕ) → ℕ
number s i k = unwrap_or (above_by s k i) 0

number_is : (s : List (Option ℕ)) (i n b k : ℕ) (p : Midway s i n b k) → number s i k ≡ p.class
unfolding number
number_is s i n b k p = ap (λ o. unwrap_or o 0) p.reached

-- where a way meets a class twice, a shorter way leads to the same
cut : (s : List (Option ℕ)) (i m b p q : ℕ) → p < q → q ≤ m → (x : Midway s i (suc m) b p) (y : Midway s i (suc m) b q) → x.class ≡ y.class → (k : ℕ) × (k < m) × (above_by s (suc k) i ≡ Some b)
cut s i m b p q rises within x y same =
    let rest : suc m - q ≡ suc (m - q) = omega arith in
    let split : p + (suc m - q) ≡ suc (p + (m - q)) = omega arith in (
      p + (m - q),
      omega arith,
      sym (ap (λ j. above_by s j i) split) ∙ above_by-add s p (suc m - q) i ∙ ap (option_and_then (above_by s (suc m - q))) x.reached ∙ ap (above_by s (suc m - q)) same ∙ y.leads,
    )

-- a way of more steps than there are classes meets one twice, where its numbers do
cut_there : (s : List (Option ℕ)) (i m b : ℕ) → length s ≤ m → ((k : ℕ) → k ≤ length s → Midway s i (suc m) b k) → Collision (number s i) (length s) → (k : ℕ) × (k < m) × (above_by s (suc k) i ≡ Some b)
cut_there s i m b long at twice =
    let rises : twice.first < twice.second = twice.rises in
    let within : twice.second ≤ length s = twice.within in
    let x = at twice.first (omega arith) in
    let y = at twice.second within in
    cut s i m b twice.first twice.second rises (omega arith) x y (sym (number_is s i (suc m) b twice.first x) ∙ twice.same ∙ number_is s i (suc m) b twice.second y)

shorter : (s : List (Option ℕ)) (i m b : ℕ) → length s ≤ m → above_by s (suc m) i ≡ Some b → (k : ℕ) × (k < m) × (above_by s (suc k) i ≡ Some b)
shorter s i m b long e =
    let at : (k : ℕ) → k ≤ length s → Midway s i (suc m) b k = λ k l. midway s i (suc m) b k e (omega arith) in
    cut_there s i m b long at (pigeonhole (length s) (number s i) (λ k l. subst (λ x. x < length s) (sym (number_is s i (suc m) b k (at k l))) (at k l).within))

-- so what is above a class is at most as many steps above it as there are classes
soon : (s : List (Option ℕ)) (a b : ℕ) → IsAbove s a b → (k : ℕ) × (k < length s) × (above_by s (suc k) a ≡ Some b)
soon s a b (directly e) = let l : a < length s = listed s a b e in (0, omega arith, ap (option_and_then (above_by s zero)) e)
soon s a b (through {b = c} e h) =
    let r = soon s c b h in
    let l : r.0 < length s = r.1 in
    let way : above_by s (suc (suc r.0)) a ≡ Some b = ap (option_and_then (above_by s (suc r.0))) e ∙ r.2 in
    elim (cases_order (suc r.0) (length s)) [
      | inl same ↦ let w = shorter s a (suc r.0) b (omega arith) way in let k : w.0 < suc r.0 = w.1 in (w.0, omega arith, w.2)
      | inr apart ↦ elim apart [ inl under ↦ (suc r.0, under, way) | inr over ↦ absurd (omega arith) ]
    ]

-- a class stands on the line of another just where it is above it
pub above_line : (s : List (Option ℕ)) (a b : ℕ) → IsTrue (is_above s a b) ↔ IsAbove s a b
unfolding line_of
above_line s a b = (
  λ e. let r = steps_to (length s) s (superclass_of s a) b e in above_from_steps s r.0 a b r.2,
  λ h. let r = soon s a b h in stands_at r.0 (length s) s (superclass_of s a) b r.1 r.2,
)

pub sub_above : (s : List (Option ℕ)) (a b : ℕ) → IsTrue (is_sub s a b) ↔ (a ≡ b) ⊎ IsAbove s a b
sub_above s a b = (
  λ e. elim (or_either (a == b) (is_above s a b) e) [ inl same ↦ inl (eqb-true a b same) | inr above ↦ inr ((above_line s a b).0 above) ],
  λ h. elim h [ inl same ↦ or_first (a == b) (is_above s a b) (eq-eqb a b same) | inr above ↦ or_second (a == b) (is_above s a b) ((above_line s a b).1 above) ],
)

pub sub_itself : (s : List (Option ℕ)) (a : ℕ) → is_sub s a a ≡ true
sub_itself s a = or_first (a == a) (is_above s a a) (eq-eqb a a refl)

-- what is above a class above
pub above_then : (s : List (Option ℕ)) (a b c : ℕ) → IsAbove s a b → IsAbove s b c → IsAbove s a c
above_then s a b c (directly e) h = through e h
above_then s a b c (through {b = d} e g) h = through e (above_then s d b c g h)

pub sub_then : (s : List (Option ℕ)) (a b c : ℕ) → is_sub s a b ≡ true → is_sub s b c ≡ true → is_sub s a c ≡ true
sub_then s a b c e f = elim ((sub_above s a b).0 e) [
  | inl same ↦ subst (λ x. is_sub s x c ≡ true) (sym same) f
  | inr above ↦ elim ((sub_above s b c).0 f) [
    | inl same ↦ subst (λ x. is_sub s a x ≡ true) same e
    | inr farther ↦ (sub_above s a c).1 (inr (above_then s a b c above farther))
  ]
]

-- a class is below its superclass, and below all that that is below
pub sub_superclass : (s : List (Option ℕ)) (a b : ℕ) → superclass_of s a ≡ Some b → is_sub s a b ≡ true
sub_superclass s a b e = (sub_above s a b).1 (inr (directly e))

pub sub_up : (s : List (Option ℕ)) (a b c : ℕ) → superclass_of s a ≡ Some b → is_sub s b c ≡ true → is_sub s a c ≡ true
sub_up s a b c e f = sub_then s a b c (sub_superclass s a b e) f

above_steps : (s : List (Option ℕ)) (a b : ℕ) → IsAbove s a b → (c : ℕ) × (superclass_of s a ≡ Some c) × (is_sub s c b ≡ true)
above_steps s a b (directly e) = (b, e, sub_itself s b)
above_steps s a b (through {b = c} e h) = (c, e, (sub_above s c b).1 (inr h))

-- a class that is below another is that class, or its superclass is it or below it
pub sub_steps : (s : List (Option ℕ)) (a b : ℕ) → is_sub s a b ≡ true → (a ≡ b) ⊎ ((c : ℕ) × (superclass_of s a ≡ Some c) × (is_sub s c b ≡ true))
sub_steps s a b e = elim ((sub_above s a b).0 e) [ inl same ↦ inl same | inr above ↦ inr (above_steps s a b above) ]

-- the line of a class with no superclass
pub up_none : (n : ℕ) (s : List (Option ℕ)) → line_up n s None ≡ []
up_none zero s = refl
up_none (suc n) s = refl

pub line_none : (s : List (Option ℕ)) (a : ℕ) → superclass_of s a ≡ None → line_of s a ≡ []
unfolding line_of
line_none s a e = ap (line_up (length s) s) e ∙ up_none (length s) s

-- a line that ends within m classes is the same with leave for one more
up_more : (m : ℕ) (s : List (Option ℕ)) (o : Option ℕ) → option_and_then (above_by s m) o ≡ None → line_up (suc m) s o ≡ line_up m s o
up_more zero s None e = refl
up_more zero s (Some j) e = absurd cc
up_more (suc m) s None e = refl
up_more (suc m) s (Some j) e = ap (λ js. j ∷ js) (up_more m s (superclass_of s j) e)

-- where no class is its own superclass, no more steps can be gone than there are classes
ends : (s : List (Option ℕ)) → ((i : ℕ) → IsAbove s i i → ⊥) → (a : ℕ) (o : Option ℕ) → above_by s (suc (length s)) a ≡ o → o ≡ None
ends s free a None e = refl
ends s free a (Some x) e =
    let split : suc (length s) ≡ length s + 1 = omega arith in
    option_and_then_some (above_by s 1) (above_by s (length s) a) x (sym (above_by-add s (length s) 1 a) ∙ sym (ap (λ j. above_by s j a) split) ∙ e) (λ y first rest. absurd (free y (own_from_far s (length s) a y (omega arith) first (goes_on s 0 y x rest))))

steps_of : (n : ℕ) (s : List (Option ℕ)) (a b : ℕ) → superclass_of s a ≡ Some b → a < n → above_by s (suc n) a ≡ None → line_up n s (superclass_of s a) ≡ b ∷ line_up n s (superclass_of s b)
steps_of zero s a b e l none = absurd (omega arith)
steps_of (suc n) s a b e l none =
    ap (line_up (suc n) s) e ∙ ap (λ js. b ∷ js) (sym (up_more n s (superclass_of s b) (sym (ap (option_and_then (above_by s (suc n))) e) ∙ none)))

-- and the line of a class is its superclass and the line of that
pub line_steps : (s : List (Option ℕ)) → ((i : ℕ) → IsAbove s i i → ⊥) → (a b : ℕ) → superclass_of s a ≡ Some b → line_of s a ≡ b ∷ line_of s b
unfolding line_of
line_steps s free a b e = steps_of (length s) s a b e (listed s a b e) (ends s free a (above_by s (suc (length s)) a) refl)

-- what is found first passes the test, and stands in the list
first_or : (f : ℕ → Bool) (x : ℕ) (xs : List ℕ) (c : ℕ) (t : Bool) → f x ≡ t → cond t (Some x) (find f xs) ≡ Some c → (find f xs ≡ Some c → (list_any (λ d. d == c) xs ≡ true) × (f c ≡ true))
    → (list_any (λ d. d == c) (x ∷ xs) ≡ true) × (f c ≡ true)
first_or f x xs c true is e later = let same : x ≡ c = cc in (or_first (x == c) (list_any (λ d. d == c) xs) (eq-eqb x c same), subst (λ y. f y ≡ true) same is)
first_or f x xs c false is e later = let r = later e in (or_second (x == c) (list_any (λ d. d == c) xs) r.0, r.1)

first_passes : (f : ℕ → Bool) (xs : List ℕ) (c : ℕ) → find f xs ≡ Some c → (list_any (λ d. d == c) xs ≡ true) × (f c ≡ true)
first_passes f [] c e = absurd cc
first_passes f (x ∷ xs) c e = first_or f x xs c (f x) refl e (first_passes f xs c)

pub common_sub : (s : List (Option ℕ)) (a b c : ℕ) → nearest_common s a b ≡ Some c → (is_sub s a c ≡ true) × (is_sub s b c ≡ true)
common_sub s a b c e = first_passes (is_sub s b) (upwards s a) c e

-- of two different classes, the first is below the second where that is marked to be above it
pub sub_marked : (s : List (Option ℕ)) (a b : ℕ) {t : Bool} → (a ≡ b → ⊥) → t ≡ is_above s a b → IsTrue t ↔ (a ≡ b) ⊎ IsAbove s a b
sub_marked s a b {t} apart e = (
  λ marked. inr ((above_line s a b).0 (sym e ∙ marked)),
  λ h. elim h [ inl same ↦ absurd (apart same) | inr above ↦ e ∙ (above_line s a b).1 above ],
)
