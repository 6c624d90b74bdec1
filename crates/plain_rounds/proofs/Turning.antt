-- What one more round leaves each instance, over the values of the rounds before.
use Rattle.std.proofs.Common.{◌≡◌, ℕ, zero, suc, Bool, true, false, ◌&&◌, cond, List, [], ◌∷◌, Option, Some, None, is_none, refl, sym, ap, subst, ◌∙◌, inl, inr}
use Rattle.solutions.specs.Asking.{run}
use Rattle.solutions.specs.Rounds.{Equations, IsStable, and_then, inner_rounds, is_in, or_else, outer_rounds, over, plain_round, value_of}
use Rattle.solutions.proofs.Runs.{before, came, circular, inner_circular, inner_free, inner_in, option_cases, or_else_none, undeclared}
use Rattle.plain_rounds.proofs.Firsts.{or_none}

-- a circular instance alone starts at bottom
both_start : {V : Type 0} (b : Bool) (x : V) → cond b (Some x) None ≡ cond (b && true && true) (Some x) None
both_start true x = refl
both_start false x = refl

-- what alone has a value where a test holds
unless : {V : Type 0} (b : Bool) (o c : Option V) → ((v : V) → o ≡ Some v → b ≡ true) → cond b (and_then o c) None ≡ and_then o c
unless true o c h = refl
unless false None c h = refl
unless false (Some v) c h = let e : false ≡ true = h v refl in cc

module _ {I V : Type 0} (G : Equations I V) (J : List I) where
  -- outside of the list rounds give nothing
  outer_in : (ns : List ℕ) (i : I) (v : V) → outer_rounds G J ns i ≡ Some v → is_in G.same J i ≡ true
  outer_in [] i v e = cc
  outer_in (n ∷ ns) i v e = elim (came G J n ns i v e) [
    | before h ↦ outer_in ns i v h
    | undeclared c m ds d ↦ m
    | circular c h ↦ inner_in G J (outer_rounds G J ns) n i v h
  ]

  pub outside : (ns : List ℕ) (i : I) → is_in G.same J i ≡ false → outer_rounds G J ns i ≡ None
  outside ns i m = elim (option_cases (outer_rounds G J ns i)) [
    | inl s ↦ let t = outer_in ns i s.0 s.1 in cc
    | inr s ↦ s
  ]

  module _ (S : I → Option V) where
    abbrev T : ℕ → I → Option V
    T n = inner_rounds G J S n

    pub inner_outside : (n : ℕ) (i : I) → is_in G.same J i ≡ false → T n i ≡ None
    inner_outside n i m = elim (option_cases (T n i)) [
      | inl s ↦ let t = inner_in G J S n i s.0 s.1 in cc
      | inr s ↦ s
    ]

    -- what isn't circular takes no part
    inner_none : (n : ℕ) (i : I) → G.circular i ≡ false → T n i ≡ None
    inner_none n i c = elim (option_cases (T n i)) [
      | inl s ↦ let t = inner_circular G J S n i s.0 s.1 in cc
      | inr s ↦ s
    ]

    -- nor does what is settled
    inner_settled : (n : ℕ) (i : I) (v : V) → S i ≡ Some v → T n i ≡ None
    inner_settled n i v e = elim (option_cases (T n i)) [
      | inl s ↦ let t = inner_free G J S n i s.0 s.1 in cc
      | inr s ↦ s
    ]

    -- before the first inner round
    pub first_is : (i : I) → is_in G.same J i ≡ true → or_else (S i) (cond (G.circular i) (Some (G.bottom i)) None) ≡ over S (T zero) i
    first_is i m = elim (S i) as (λ o. or_else o (cond (G.circular i) (Some (G.bottom i)) None) ≡ or_else o (cond (G.circular i && is_in G.same J i && is_none o) (Some (G.bottom i)) None)) [
      | Some s ↦ refl
      | None ↦ subst (λ b. cond (G.circular i) (Some (G.bottom i)) None ≡ cond (G.circular i && b && true) (Some (G.bottom i)) None) (sym m) (both_start (G.circular i) (G.bottom i))
    ]

    -- after one more of them
    pub inner_is : (n : ℕ) (i : I) → or_else (S i) (cond (G.circular i) (and_then (over S (T n) i) (value_of (run (over S (T n)) (G.equation i)))) None) ≡ over S (T (suc n)) i
    inner_is n i =
        let comes = value_of (run (over S (T n)) (G.equation i)) in
        elim (S i) as (λ o. or_else o (cond (G.circular i) (and_then (or_else o (T n i)) comes) None) ≡ or_else o (and_then (T n i) comes)) [
          | Some s ↦ refl
          | None ↦ unless (G.circular i) (T n i) comes (inner_circular G J S n i)
        ]

    -- and after the outer round
    pub outer_is : (n : ℕ) (i : I) → is_in G.same J i ≡ true → cond (G.circular i) (over S (T n) i) (or_else (S i) (value_of (run S (G.equation i)))) ≡ or_else (S i) (or_else (plain_round G J S i) (T n i))
    outer_is n i m =
        let comes = value_of (run S (G.equation i)) in
        elim (G.circular i) as (λ b. G.circular i ≡ b → cond b (or_else (S i) (T n i)) (or_else (S i) comes) ≡ or_else (S i) (or_else (cond b None (cond (is_in G.same J i) comes None)) (T n i))) [
          | true ↦ λ c. refl
          | false ↦ λ c. ap (or_else (S i)) (or_none comes ∙ ap (λ b. or_else (cond b comes None) None) (sym m) ∙ ap (or_else (cond (is_in G.same J i) comes None)) (sym (inner_none n i c)))
        ] refl

    -- where nothing changes beside what is settled, nothing changes
    pub rests : (n : ℕ) → ((i : I) → over S (T (suc n)) i ≡ over S (T n) i) → IsStable G J S n
    rests n e i = elim (option_cases (S i)) [
      | inl s ↦ inner_settled (suc n) i s.0 s.1 ∙ sym (inner_settled n i s.0 s.1)
      | inr s ↦ sym (or_else_none (S i) (T (suc n) i) s) ∙ e i ∙ or_else_none (S i) (T n i) s
    ]
