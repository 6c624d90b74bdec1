-- The class so many steps above one. A class that many steps lead to is on a loop, and one on a loop is led to by any number of steps.
use Rattle.std.proofs.Common.{◌≡◌, ℕ, zero, suc, ◌+◌, ◌-◌, ◌*◌, ◌<◌, ◌≤◌, List, Option, Some, None, length, inl, inr, refl, sym, ap, ◌∙◌, subst, arith}
use Rattle.std.specs.Option.{option_and_then, unwrap_or}
use Rattle.std.proofs.lemmas.Option.{option_and_then_some}
use Rattle.std.proofs.Math.Nat.{zero-add, suc-add, add_comm, zero-mul, suc-mul, mul-suc}
use Rattle.std.proofs.lemmas.Bool.{cases_order}
use Rattle.std.proofs.Math.ListN.{get_or-eq_default}
use Rattle.superclasses.specs.Superclasses.{IsAbove, directly, through, superclass_of}
use Rattle.superclasses.proofs.Pigeonhole.{Collision, pigeonhole}

-- the class so many steps above one, if there is one
abbrev pub above_by : List (Option ℕ) → ℕ → ℕ → Option ℕ
above_by s zero a = Some a
above_by s (suc m) a = option_and_then (above_by s m) (superclass_of s a)

-- some steps, and then more
pub above_by-add : (s : List (Option ℕ)) (m k a : ℕ) → above_by s (m + k) a ≡ option_and_then (above_by s k) (above_by s m a)
above_by-add s zero k a = ap (λ j. above_by s j a) (zero-add k)
above_by-add s (suc m) k a =
    ap (λ j. above_by s j a) (suc-add m k) ∙ (elim (superclass_of s a) as (λ o. option_and_then (above_by s (m + k)) o ≡ option_and_then (above_by s k) (option_and_then (above_by s m) o)) [
      | None ↦ refl
      | Some b ↦ above_by-add s m k b
    ])

-- the second class is above the first where one step or more lead to it
pub above_from_steps : (s : List (Option ℕ)) (m a b : ℕ) → above_by s (suc m) a ≡ Some b → IsAbove s a b
above_from_steps s zero a b e = option_and_then_some (above_by s zero) (superclass_of s a) b e (λ c first rest. directly (first ∙ rest))
above_from_steps s (suc m) a b e = option_and_then_some (above_by s (suc m)) (superclass_of s a) b e (λ c first rest. through first (above_from_steps s m c b rest))

pub steps_from_above : (s : List (Option ℕ)) (a b : ℕ) → IsAbove s a b → (m : ℕ) × (above_by s (suc m) a ≡ Some b)
steps_from_above s a b (directly e) = (0, ap (option_and_then (above_by s zero)) e)
steps_from_above s a b (through {b = c} e h) = let r = steps_from_above s c b h in (suc r.0, ap (option_and_then (above_by s (suc r.0))) e ∙ r.1)

-- a loop that is walked k times
around : (s : List (Option ℕ)) (m c : ℕ) → above_by s m c ≡ Some c → (k : ℕ) → above_by s (k * m) c ≡ Some c
around s m c e zero = ap (λ j. above_by s j c) (zero-mul m)
around s m c e (suc k) = ap (λ j. above_by s j c) (suc-mul k m) ∙ above_by-add s (k * m) m c ∙ ap (option_and_then (above_by s m)) (around s m c e k) ∙ e

-- any number of steps lead to a class that is its own superclass, from some class
pub far_from_own : (s : List (Option ℕ)) (n c : ℕ) → IsAbove s c c → (i : ℕ) × (above_by s n i ≡ Some c)
far_from_own s n c h =
    let r = steps_from_above s c c h in
    let split : n * suc r.0 ≡ n * r.0 + n = mul-suc n r.0 in
    let e = sym (above_by-add s (n * r.0) n c) ∙ sym (ap (λ j. above_by s j c) split) ∙ around s (suc r.0) c r.1 n in
    option_and_then_some (above_by s n) (above_by s (n * r.0) c) c e (λ i first rest. (i, rest))

-- a class with a superclass is in the list
pub listed : (s : List (Option ℕ)) (a b : ℕ) → superclass_of s a ≡ Some b → a < length s
listed s a b e =
    let past : length s ≤ a → a < length s = λ l. let none : superclass_of s a ≡ None = get_or-eq_default s None l in cc in
    elim (cases_order a (length s)) [
      | inl same ↦ past (omega arith)
      | inr apart ↦ elim apart [ inl under ↦ under | inr over ↦ past (omega arith) ]
    ]

-- and so is one from which steps lead to one in the list
on_the_way : (s : List (Option ℕ)) (m a c : ℕ) → above_by s m a ≡ Some c → c < length s → a < length s
on_the_way s zero a c e h = let same : a ≡ c = cc in omega arith
on_the_way s (suc m) a c e h = option_and_then_some (above_by s m) (superclass_of s a) c e (λ b first rest. listed s a b first)

-- the class k steps on the way of n steps from i to c
pub record Passes (s : List (Option ℕ)) (i n c k : ℕ) : Type 0 where
  pub class : ℕ
  pub reached : above_by s k i ≡ Some class
  pub leads : above_by s (n - k) class ≡ Some c
  pub within : class < length s

passes : (s : List (Option ℕ)) (i n c k : ℕ) → above_by s n i ≡ Some c → c < length s → k ≤ n → Passes s i n c k
passes s i n c k e h l =
    let split : k + (n - k) ≡ n = omega arith in
    let f = sym (above_by-add s k (n - k) i) ∙ ap (λ j. above_by s j i) split ∙ e in
    option_and_then_some (above_by s (n - k)) (above_by s k i) c f (λ x first rest. record { class = x; reached = first; leads = rest; within = on_the_way s (n - k) x c rest h })

-- a class that some steps lead back to, d + 1 of them, is on a loop with all that follows it
repeated : (s : List (Option ℕ)) (d r x c : ℕ) → above_by s (suc d) x ≡ Some x → above_by s r x ≡ Some c → above_by s (suc d) c ≡ Some c
repeated s d r x c loop rest =
    sym (ap (option_and_then (above_by s (suc d))) rest) ∙ sym (above_by-add s r (suc d) x) ∙ ap (λ j. above_by s j x) (add_comm r (suc d)) ∙ above_by-add s (suc d) r x ∙ ap (option_and_then (above_by s r)) loop ∙ rest

-- steps that meet a class a second time lead back to it
returns : (s : List (Option ℕ)) (i a d x : ℕ) → above_by s a i ≡ Some x → above_by s (a + suc d) i ≡ Some x → above_by s (suc d) x ≡ Some x
returns s i a d x first again = sym (ap (option_and_then (above_by s (suc d))) first) ∙ sym (above_by-add s a (suc d) i) ∙ again

-- where the way to a class meets a class twice, the class is its own superclass
own_from_two : (s : List (Option ℕ)) (i n c a b : ℕ) → a < b → (p : Passes s i n c a) (q : Passes s i n c b) → p.class ≡ q.class → IsAbove s c c
own_from_two s i n c a b rises p q same =
    let d = b - suc a in
    let split : a + suc d ≡ b = omega arith in
    let back = returns s i a d p.class p.reached (ap (λ j. above_by s j i) split ∙ q.reached ∙ ap Some (sym same)) in
    above_from_steps s d c c (repeated s d (n - a) p.class c back p.leads)

-- the class on the way, by its number
number : (s : List (Option ℕ)) (i k : ℕ) → ℕ
number s i k = unwrap_or (above_by s k i) 0

number_is : (s : List (Option ℕ)) (i n c k : ℕ) (p : Passes s i n c k) → number s i k ≡ p.class
unfolding number
number_is s i n c k p = ap (λ o. unwrap_or o 0) p.reached

-- a way through so many classes meets one twice, where its numbers do
own_from_collision : (s : List (Option ℕ)) (i n c : ℕ) → ((k : ℕ) → k ≤ length s → Passes s i n c k) → Collision (number s i) (length s) → IsAbove s c c
own_from_collision s i n c at twice =
    let rises : twice.first < twice.second = twice.rises in
    let within : twice.second ≤ length s = twice.within in
    let p = at twice.first (omega arith) in
    let q = at twice.second within in
    own_from_two s i n c twice.first twice.second rises p q (sym (number_is s i n c twice.first p) ∙ twice.same ∙ number_is s i n c twice.second q)

-- a class that as many steps as there are classes lead to, or more, is its own superclass
pub own_from_far : (s : List (Option ℕ)) (n i c : ℕ) → length s ≤ n → above_by s n i ≡ Some c → c < length s → IsAbove s c c
own_from_far s n i c long e h =
    let at : (k : ℕ) → k ≤ length s → Passes s i n c k = λ k l. passes s i n c k e h (omega arith) in
    own_from_collision s i n c at (pigeonhole (length s) (number s i) (λ k l. subst (λ x. x < length s) (sym (number_is s i n c k (at k l))) (at k l).within))
