-- A search that computes: whether a relation holds between two stacks of symbols, by steps that any such relation allows.
use Rattle.std.proofs.Common.{◌≡◌, ℕ, zero, suc, ◌==◌, true, false, List, [], ◌∷◌, ◌++◌, Option, Some, None, refl, subst}
use Rattle.std.proofs.lemmas.Bool.{eqb-true, eq-eqb, both_ways}
use Rattle.ll_parser.specs.declared.symbols.Symbol.{Symbol}
use Rattle.ll_parser.specs.declared.symbols.Symbol.TheVariants.{Terminal, Nonterminal, Action}
use Rattle.ll_parser.specs.Grammar.{Production, nth}

-- what holds of each production
abbrev pub Each : (Production → Type 0) → List Production → Type 0
Each T rs = (p : ℕ) (r : Production) → nth rs p ≡ Some r → T r

pub each_none : (T : Production → Type 0) → Each T []
each_none T p r h = absurd (cc)

pub each_more : (T : Production → Type 0) (x : Production) (rs : List Production) → T x → Each T rs → Each T (x ∷ rs)
each_more T x rs i f zero r h = let k : x ≡ r = cc in subst T k i
each_more T x rs i f (suc p) r h = f p r h

abbrev pub try_each : (T : Production → Type 0) → ((r : Production) → Option (T r)) → (rs : List Production) → Option (Each T rs)
try_each T f [] = Some (each_none T)
try_each T f (x ∷ rs) = elim (f x) [ None ↦ None | (Some i) ↦ elim (try_each T f rs) [ None ↦ None | (Some g) ↦ Some (each_more T x rs i g) ] ]

module _ (P : List Production) (R : List Symbol → List Symbol → Type 0) where
  -- a production of a nonterminal in its place
  abbrev pub InPlace : ℕ → List Symbol → List Symbol → Production → Type 0
  InPlace n a b r = r.of ≡ n → R (r.body ++ a) b

  -- what the relation allows
  pub record Laws : Type 0 where
    pub none : R [] []
    pub same : (x : Symbol) (a b : List Symbol) → R a b → R (x ∷ a) (x ∷ b)
    pub left : (n : ℕ) (a b : List Symbol) → Each (InPlace n a b) P → R (Nonterminal n ∷ a) b
    pub right : (p m : ℕ) (r : Production) (a b : List Symbol) → nth P p ≡ Some r → r.of ≡ m → R a (r.body ++ b) → R a (Nonterminal m ∷ b)

  abbrev pub Search : Type 0
  Search = (a b : List Symbol) → Option (R a b)

  -- how to go on at an action on the left, at one on the right, and which production to take on the right
  pub record Ways : Type 0 where
    pub act_left : Search → (k : ℕ) (a b : List Symbol) → Option (R (Action k ∷ a) b)
    pub act_right : Search → (k : ℕ) (a b : List Symbol) → Option (R a (Action k ∷ b))
    pub row_right : Search → (m : ℕ) (a b : List Symbol) → Option (R a (Nonterminal m ∷ b))

module _ (P : List Production) (R : List Symbol → List Symbol → Type 0) (laws : Laws P R) where
  pub not_of : (n : ℕ) (a b : List Symbol) (r : Production) → (r.of == n) ≡ false → InPlace P R n a b r
  not_of n a b r d e = absurd (both_ways (r.of == n) d (eq-eqb r.of n e))

  abbrev pub in_place : Search P R → (n : ℕ) (a b : List Symbol) (r : Production) → Option (InPlace P R n a b r)
  in_place rec n a b r = elim (r.of == n) as (λ t. (r.of == n) ≡ t → Option (InPlace P R n a b r)) [
    | true ↦ λ e. elim (rec (r.body ++ a) b) [ None ↦ None | (Some i) ↦ Some (λ k. i) ]
    | false ↦ λ e. Some (not_of n a b r e)
  ] refl

  -- each production in place of a nonterminal on the left
  abbrev pub expand : Search P R → (n : ℕ) (a b : List Symbol) → Option (R (Nonterminal n ∷ a) b)
  expand rec n a b = elim (try_each (InPlace P R n a b) (in_place rec n a b) P) [ None ↦ None | (Some f) ↦ Some (laws.left n a b f) ]

  -- a production in place of a nonterminal on the right
  abbrev pub chosen : Search P R → (p m : ℕ) (a b : List Symbol) → Option (R a (Nonterminal m ∷ b))
  chosen rec p m a b = elim (nth P p) as (λ o. nth P p ≡ o → Option (R a (Nonterminal m ∷ b))) [
    | None ↦ λ h. None
    | (Some r) ↦ λ h. elim (r.of == m) as (λ t. (r.of == m) ≡ t → Option (R a (Nonterminal m ∷ b))) [
      | true ↦ λ e. elim (rec a (r.body ++ b)) [ None ↦ None | (Some i) ↦ Some (laws.right p m r a b h (eqb-true r.of m e) i) ]
      | false ↦ λ e. None
    ] refl
  ] refl

  pub same_named : (make : ℕ → Symbol) (t d : ℕ) (a b : List Symbol) → (t == d) ≡ true → R a b → R (make t ∷ a) (make d ∷ b)
  same_named make t d a b e i = subst (λ z. R (make t ∷ a) (make z ∷ b)) (eqb-true t d e) (laws.same (make t) a b i)

  -- the same symbol on both sides, or else another way
  abbrev pub matched : Search P R → (make : ℕ → Symbol) (t d : ℕ) (a b : List Symbol) → Option (R (make t ∷ a) (make d ∷ b))
      → Option (R (make t ∷ a) (make d ∷ b))
  matched rec make t d a b other = elim (t == d) as (λ u. (t == d) ≡ u → Option (R (make t ∷ a) (make d ∷ b))) [
    | true ↦ λ e. elim (rec a b) [ None ↦ None | (Some i) ↦ Some (same_named make t d a b e i) ]
    | false ↦ λ e. other
  ] refl

  module _ (ways : Ways P R) where
    abbrev pub step : Search P R → Search P R
    step rec (Action k ∷ a) b = ways.act_left rec k a b
    step rec [] [] = Some laws.none
    step rec [] (Terminal c ∷ b) = None
    step rec [] (Action k ∷ b) = ways.act_right rec k [] b
    step rec [] (Nonterminal m ∷ b) = ways.row_right rec m [] b
    step rec (Terminal t ∷ a) [] = None
    step rec (Terminal t ∷ a) (Terminal d ∷ b) = matched rec Terminal t d a b None
    step rec (Terminal t ∷ a) (Action k ∷ b) = ways.act_right rec k (Terminal t ∷ a) b
    step rec (Terminal t ∷ a) (Nonterminal m ∷ b) = ways.row_right rec m (Terminal t ∷ a) b
    step rec (Nonterminal n ∷ a) [] = expand rec n a []
    step rec (Nonterminal n ∷ a) (Terminal d ∷ b) = expand rec n a (Terminal d ∷ b)
    step rec (Nonterminal n ∷ a) (Action k ∷ b) = ways.act_right rec k (Nonterminal n ∷ a) b
    step rec (Nonterminal n ∷ a) (Nonterminal m ∷ b) = matched rec Nonterminal n m a b (expand rec n a (Nonterminal m ∷ b))

    -- Does the relation hold? None: not found within so many steps.
    abbrev pub search : ℕ → Search P R
    search zero a b = None
    search (suc k) a b = step (λ x y. search k x y) a b
