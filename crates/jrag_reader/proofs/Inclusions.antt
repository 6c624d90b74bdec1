-- A test that computes: whether some symbols of a grammar derive, with the same events, all that others derive.
use Rattle.std.proofs.Common.{◌≡◌, ℕ, zero, suc, ◌==◌, Bool, true, false, List, [], ◌∷◌, ◌++◌, Some, refl, subst, ap, ◌∙◌}
use Rattle.std.proofs.lemmas.Bool.{eqb-true, eq-eqb, both_ways}
use Rattle.ll_parser.specs.declared.symbols.Symbol.{Symbol}
use Rattle.ll_parser.specs.declared.symbols.Symbol.TheVariants.{Terminal, Nonterminal, Action}
use Rattle.ll_parser.specs.Grammar.{Production, nth}
use Rattle.ll_parser.proofs.Carrying.{Carries, laws}

-- some production of a nonterminal passes a test of its body, and each one does
abbrev pub any_body : (List Symbol → Bool) → ℕ → List Production → Bool
any_body f n [] = false
any_body f n (r ∷ rs) = elim (r.of == n) [
  | true ↦ elim (f r.body) [ true ↦ true | false ↦ any_body f n rs ]
  | false ↦ any_body f n rs
]

abbrev pub each_body : (List Symbol → Bool) → ℕ → List Production → Bool
each_body f n [] = true
each_body f n (r ∷ rs) = elim (r.of == n) [
  | true ↦ elim (f r.body) [ true ↦ each_body f n rs | false ↦ false ]
  | false ↦ each_body f n rs
]

abbrev pub Test : Type 0
Test = List Symbol → List Symbol → Bool

module _ (P : List Production) where
  -- each production in place of a nonterminal on the left
  abbrev pub left : Test → Symbol → List Symbol → List Symbol → Bool
  left rec (Nonterminal n) a b = each_body (λ r. rec (r ++ a) b) n P
  left rec (Terminal c) a b = false
  left rec (Action k) a b = false

  -- some production in place of one on the right, or else each on the left
  abbrev pub right : Test → Symbol → List Symbol → Symbol → List Symbol → Bool
  right rec x a (Nonterminal m) b = elim (any_body (λ r. rec (x ∷ a) (r ++ b)) m P) [ true ↦ true | false ↦ left rec x a (Nonterminal m ∷ b) ]
  right rec x a (Terminal c) b = left rec x a (Terminal c ∷ b)
  right rec x a (Action k) b = left rec x a (Action k ∷ b)

  -- the same symbol on both sides, or else another way
  abbrev pub goes : Test → Test
  goes rec [] [] = true
  goes rec [] (Terminal c ∷ b) = false
  goes rec [] (Action k ∷ b) = false
  goes rec [] (Nonterminal m ∷ b) = any_body (λ r. rec [] (r ++ b)) m P
  goes rec (x ∷ a) [] = false
  goes rec (Terminal c ∷ a) (Terminal d ∷ b) = elim (c == d) [ true ↦ rec a b | false ↦ false ]
  goes rec (Action k ∷ a) (Action j ∷ b) = elim (k == j) [ true ↦ rec a b | false ↦ false ]
  goes rec (Nonterminal n ∷ a) (Nonterminal m ∷ b) = elim (n == m) [ true ↦ rec a b | false ↦ right rec (Nonterminal n) a (Nonterminal m) b ]
  goes rec (x ∷ a) (y ∷ b) = right rec x a y b

  -- within so many steps
  abbrev pub leads : ℕ → Test
  leads zero a b = false
  leads (suc k) a b = goes (λ x y. leads k x y) a b

-- what the tests of bodies say
pub record SomeBody (f : List Symbol → Bool) (n : ℕ) (rs : List Production) : Type 0 where
  pub number : ℕ
  pub row : Production
  pub at : nth rs number ≡ Some row
  pub of_it : row.of ≡ n
  pub passes : f row.body ≡ true

some_more : (f : List Symbol → Bool) (n : ℕ) (r : Production) (rs : List Production) → SomeBody f n rs → SomeBody f n (r ∷ rs)
some_more f n r rs s = record { number = suc s.number; row = s.row; at = s.at; of_it = s.of_it; passes = s.passes }

pub some_body : (f : List Symbol → Bool) (n : ℕ) (rs : List Production) → any_body f n rs ≡ true → SomeBody f n rs
some_body f n [] e = absurd (cc)
some_body f n (r ∷ rs) e = elim (r.of == n) as (λ t. (r.of == n) ≡ t
    → elim t [ true ↦ elim (f r.body) [ true ↦ true | false ↦ any_body f n rs ] | false ↦ any_body f n rs ] ≡ true → SomeBody f n (r ∷ rs)) [
      | true ↦ λ h. elim (f r.body) as (λ t. f r.body ≡ t → elim t [ true ↦ true | false ↦ any_body f n rs ] ≡ true → SomeBody f n (r ∷ rs)) [
        | true ↦ λ g i. record { number = 0; row = r; at = refl; of_it = eqb-true r.of n h; passes = g }
        | false ↦ λ g i. some_more f n r rs (some_body f n rs i)
      ] refl
      | false ↦ λ h i. some_more f n r rs (some_body f n rs i)
    ] refl e

first_or_later : (f : List Symbol → Bool) (n : ℕ) (x : Production) (rs : List Production) → f x.body ≡ true
    → ((p : ℕ) (r : Production) → nth rs p ≡ Some r → r.of ≡ n → f r.body ≡ true)
    → (p : ℕ) (r : Production) → nth (x ∷ rs) p ≡ Some r → r.of ≡ n → f r.body ≡ true
first_or_later f n x rs i g zero r h o = let k : x ≡ r = cc in subst (λ (y : Production). f y.body ≡ true) k i
first_or_later f n x rs i g (suc p) r h o = g p r h o

not_first : (f : List Symbol → Bool) (n : ℕ) (x : Production) (rs : List Production) → (x.of == n) ≡ false
    → ((p : ℕ) (r : Production) → nth rs p ≡ Some r → r.of ≡ n → f r.body ≡ true)
    → (p : ℕ) (r : Production) → nth (x ∷ rs) p ≡ Some r → r.of ≡ n → f r.body ≡ true
not_first f n x rs d g zero r h o = let k : x ≡ r = cc in absurd (both_ways (x.of == n) d (eq-eqb x.of n (ap (λ (y : Production). y.of) k ∙ o)))
not_first f n x rs d g (suc p) r h o = g p r h o

pub every_body : (f : List Symbol → Bool) (n : ℕ) (rs : List Production) → each_body f n rs ≡ true
    → (p : ℕ) (r : Production) → nth rs p ≡ Some r → r.of ≡ n → f r.body ≡ true
every_body f n [] e p r h o = absurd (cc)
every_body f n (x ∷ rs) e p r h o = elim (x.of == n) as (λ t. (x.of == n) ≡ t
    → elim t [ true ↦ elim (f x.body) [ true ↦ each_body f n rs | false ↦ false ] | false ↦ each_body f n rs ] ≡ true → f r.body ≡ true) [
      | true ↦ λ g. elim (f x.body) as (λ t. f x.body ≡ t → elim t [ true ↦ each_body f n rs | false ↦ false ] ≡ true → f r.body ≡ true) [
        | true ↦ λ i j. first_or_later f n x rs i (every_body f n rs j) p r h o
        | false ↦ λ i j. absurd (cc)
      ] refl
      | false ↦ λ g i. not_first f n x rs g (every_body f n rs i) p r h o
    ] refl e

module _ (P : List Production) where
  -- a test that is right
  abbrev pub Right : Test → Type 0
  Right rec = (a b : List Symbol) → rec a b ≡ true → Carries P a b

  from_body : (rec : Test) → Right rec → (m : ℕ) (a b : List Symbol) → any_body (λ r. rec a (r ++ b)) m P ≡ true → Carries P a (Nonterminal m ∷ b)
  from_body rec is m a b e =
      let s = some_body (λ r. rec a (r ++ b)) m P e in
      (laws P).right s.number m s.row a b s.at s.of_it (is a (s.row.body ++ b) s.passes)

  left_carries : (rec : Test) → Right rec → (x : Symbol) (a b : List Symbol) → left P rec x a b ≡ true → Carries P (x ∷ a) b
  left_carries rec is (Nonterminal n) a b e = (laws P).left n a b (λ p r h o. is (r.body ++ a) b (every_body (λ r. rec (r ++ a) b) n P e p r h o))
  left_carries rec is (Terminal c) a b e = absurd (cc)
  left_carries rec is (Action k) a b e = absurd (cc)

  right_carries : (rec : Test) → Right rec → (x : Symbol) (a : List Symbol) (y : Symbol) (b : List Symbol) → right P rec x a y b ≡ true
      → Carries P (x ∷ a) (y ∷ b)
  right_carries rec is x a (Nonterminal m) b e = elim (any_body (λ r. rec (x ∷ a) (r ++ b)) m P) as (λ t. any_body (λ r. rec (x ∷ a) (r ++ b)) m P ≡ t
      → elim t [ true ↦ true | false ↦ left P rec x a (Nonterminal m ∷ b) ] ≡ true → Carries P (x ∷ a) (Nonterminal m ∷ b)) [
        | true ↦ λ h i. from_body rec is m (x ∷ a) b h
        | false ↦ λ h i. left_carries rec is x a (Nonterminal m ∷ b) i
      ] refl e
  right_carries rec is x a (Terminal c) b e = left_carries rec is x a (Terminal c ∷ b) e
  right_carries rec is x a (Action k) b e = left_carries rec is x a (Action k ∷ b) e

  matched : (rec : Test) → Right rec → (make : ℕ → Symbol) (n m : ℕ) (a b : List Symbol) (other : Bool)
      → (other ≡ true → Carries P (make n ∷ a) (make m ∷ b))
      → elim (n == m) [ true ↦ rec a b | false ↦ other ] ≡ true → Carries P (make n ∷ a) (make m ∷ b)
  matched rec is make n m a b other f e = elim (n == m) as (λ t. (n == m) ≡ t
      → elim t [ true ↦ rec a b | false ↦ other ] ≡ true → Carries P (make n ∷ a) (make m ∷ b)) [
        | true ↦ λ h i. subst (λ z. Carries P (make n ∷ a) (make z ∷ b)) (eqb-true n m h) ((laws P).same (make n) a b (is a b i))
        | false ↦ λ h i. f i
      ] refl e

  goes_carries : (rec : Test) → Right rec → Right (goes P rec)
  goes_carries rec is [] [] e = (laws P).none
  goes_carries rec is [] (Terminal c ∷ b) e = absurd (cc)
  goes_carries rec is [] (Action k ∷ b) e = absurd (cc)
  goes_carries rec is [] (Nonterminal m ∷ b) e = from_body rec is m [] b e
  goes_carries rec is (x ∷ a) [] e = absurd (cc)
  goes_carries rec is (Terminal c ∷ a) (Terminal d ∷ b) e = matched rec is Terminal c d a b false (λ i. absurd (cc)) e
  goes_carries rec is (Action k ∷ a) (Action j ∷ b) e = matched rec is Action k j a b false (λ i. absurd (cc)) e
  goes_carries rec is (Nonterminal n ∷ a) (Nonterminal m ∷ b) e =
      matched rec is Nonterminal n m a b (right P rec (Nonterminal n) a (Nonterminal m) b) (right_carries rec is (Nonterminal n) a (Nonterminal m) b) e
  goes_carries rec is (x ∷ a) (y ∷ b) e = right_carries rec is x a y b e

  pub leads_carries : (k : ℕ) → Right (leads P k)
  leads_carries zero a b e = absurd (cc)
  leads_carries (suc k) a b e = goes_carries (λ x y. leads P k x y) (leads_carries k) a b e
