-- The first rule that equations break is the first that the positions that decide say.
use Rattle.std.proofs.Common.{◌≡◌, ◌↔◌, ℕ, ◌<◌, zero, suc, List, [], ◌∷◌, Bool, true, false, inl, inr, None, refl, sym, subst, arith}
use Rattle.std.specs.List.{Contains as Includes, flat_map}
use Rattle.broken_rules.specs.declared.broken.Broken.{Broken}
use Rattle.broken_rules.specs.Answers.{Has, IsFirst}
use Rattle.attr_rules.specs.Expression.{Expression}
use Rattle.attr_rules.specs.Rules.{RuleSet}
use Rattle.monotone_check.specs.Equations.{broken_where, equation_broken, equations_broken, is_circular}
use Rattle.monotone_check.specs.Permitted.{IsPermitted}
use Rattle.monotone_check.specs.Positions.{broken_in}
use Rattle.monotone_check.specs.Ways.{Breaks, EquationsBreak, Foremost}
use Rattle.monotone_check.proofs.Deciding.{as_decided}
use Rattle.monotone_check.proofs.PermittedEquations.{of_expression}
use Rattle.monotone_check.proofs.Ways.{in_left, in_one_of, in_right}

nowhere : (k : ℕ) → k < 0 → ⊥
nowhere k lt = omega arith

-- What is listed where the items of a list are gone over.
module _ {X : Type 0} (list : X → List Broken) (f : Broken) where
  record ListedAt (xs : List X) : Type 0 where
    item : X
    one : Includes xs item
    has : Has (list item) f

  at_first : (x : X) (xs : List X) → Has (list x) f → ListedAt (x ∷ xs)
  at_first x xs h = record { item = x; one = (0, omega arith, refl); has = h }

  at_later : (x : X) (xs : List X) → ListedAt xs → ListedAt (x ∷ xs)
  at_later x xs l = record { item = l.item; one = (suc l.one.0, omega arith, l.one.2); has = l.has }

  listed_at : (xs : List X) → Has (flat_map list xs) f → ListedAt xs
  listed_at [] h = absurd h
  listed_at (x ∷ xs) h = elim (in_one_of (list x) (flat_map list xs) f h) [ inl l ↦ at_first x xs l | inr r ↦ at_later x xs (listed_at xs r) ]

  among_all : (xs : List X) (x : X) → Includes xs x → Has (list x) f → Has (flat_map list xs) f
  among_all [] x (k, lt, is) h = absurd (nowhere k lt)
  among_all (y ∷ xs) x (zero, lt, is) h = in_left (list y) (flat_map list xs) f (subst (λ z. Has (list z) f) (sym is) h)
  among_all (y ∷ xs) x (suc k, lt, is) h = in_right (list y) (flat_map list xs) f (among_all xs x (k, omega arith, is) h)

where_has : (is : Bool) (bs : List Broken) (f : Broken) → Has (broken_where is bs) f → (is ≡ true) × Has bs f
where_has true bs f h = (refl, h)
where_has false bs f h = absurd h

has_where : (is : Bool) (bs : List Broken) (f : Broken) → is ≡ true → Has bs f → Has (broken_where is bs) f
has_where true bs f h k = k
has_where false bs f h k = cc

breaks_of : (rules : RuleSet) (f : Broken) → ListedAt (equation_broken rules) f rules.equations → EquationsBreak rules f
breaks_of rules f l =
    let e = l.item in
    let parts = where_has (is_circular rules e.target.attribute.0) (broken_in (is_circular rules) None e.body) f l.has in
    record { equation = e; one = l.one; circular = parts.0; breaks = (as_decided (is_circular rules) e.body f).0 parts.1 }

listed_of : (rules : RuleSet) (f : Broken) → EquationsBreak rules f → Has (equations_broken rules) f
listed_of rules f b =
    let e = b.equation in
    among_all (equation_broken rules) f rules.equations e b.one
    (has_where (is_circular rules e.target.attribute.0) (broken_in (is_circular rules) None e.body) f b.circular ((as_decided (is_circular rules) e.body f).1 b.breaks))

pub equations_decided : (rules : RuleSet) (f : Broken) → Has (equations_broken rules) f ↔ EquationsBreak rules f
equations_decided rules f = (λ h. breaks_of rules f (listed_at (equation_broken rules) f rules.equations h), listed_of rules f)

-- A list that has what is broken, and nothing else.
module _ (bs : List Broken) (IsBroken : Broken → Type 0) (same : (f : Broken) → Has bs f ↔ IsBroken f) where
  foremost : (f : Broken) → IsFirst bs f ↔ Foremost IsBroken f
  foremost f = (
    (λ h. record { broken = (same f).0 h.has; least = λ c k. h.least c ((same c).1 k) }),
    (λ h. record { has = (same f).1 h.broken; least = λ c k. h.least c ((same c).0 k) }),
  )

  none_listed : (cs : List Broken) → ((f : Broken) → Has cs f → ⊥) → cs ≡ []
  none_listed [] h = refl
  none_listed (c ∷ cs) h = absurd (h c (inl refl))

  none : (bs ≡ []) ↔ ((f : Broken) → IsBroken f → ⊥)
  none = ((λ e f h. subst (λ cs. Has cs f) e ((same f).1 h)), (λ h. none_listed bs (λ f k. h f ((same f).0 k))))

pub first_decided : (rules : RuleSet) (f : Broken) → IsFirst (equations_broken rules) f ↔ Foremost (EquationsBreak rules) f
first_decided rules = foremost (equations_broken rules) (EquationsBreak rules) (equations_decided rules)

pub none_decided : (rules : RuleSet) → (equations_broken rules ≡ []) ↔ ((f : Broken) → EquationsBreak rules f → ⊥)
none_decided rules = none (equations_broken rules) (EquationsBreak rules) (equations_decided rules)

-- where nothing is broken, the calls stand in permitted positions
pub permitted_decided : (circular : ℕ → Bool) (e : Expression) → IsPermitted circular e ↔ ((f : Broken) → Breaks circular e f → ⊥)
permitted_decided circular e =
    let listed = none (broken_in circular None e) (Breaks circular e) (as_decided circular e) in
    let permitted = of_expression circular e in
    ((λ h. listed.0 (permitted.1 h)), (λ h. permitted.0 (listed.1 h)))
