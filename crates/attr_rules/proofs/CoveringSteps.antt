-- What is kept of the equations of one class more.
use Rattle.std.proofs.Common.{◌≡◌, ℕ, ◌+◌, ◌<◌, ◌≤◌, Bool, true, false, ◌&&◌, ◌==◌, cond, List, [], ◌∷◌, ◌++◌, Option, Some, None, length, get_or, take, inl, inr, refl, ap, sym, subst, ◌∙◌, arith}
use Rattle.std.specs.HashMap.{HashMap}
use Rattle.std.specs.Map.{lookup}
use Rattle.std.specs.Option.{option_and_then, option_map, option_or, unwrap_or}
use Rattle.std.proofs.lemmas.Bool.{and_parts, eqb-true}
use Rattle.std.proofs.lemmas.Bool.Decides.{eqb_tells}
use Rattle.std.proofs.lemmas.List.{take_all, take_more}
use Rattle.std.proofs.lemmas.Option.{slice_get_past}
use Rattle.std.proofs.lemmas.Bool.{cases_lt}
use Rattle.attr_rules.specs.declared.covering.Key.{Key}
use Rattle.attr_rules.specs.declared.dispatch.Reach.{Reach}
use Rattle.attr_rules.specs.declared.dispatch.Reach.TheVariants.{Own, Component as AtComponent, Created as AtCreated, Children}
use Rattle.attr_rules.specs.declared.dispatch.Via.{Via}
use Rattle.attr_rules.specs.declared.dispatch.Via.TheVariants.{Component as ByComponent, Created as ByCreated}
use Rattle.attr_rules.specs.declared.dispatch.Target.{Target}
use Rattle.attr_rules.specs.declared.kinds.EqId.{EqId}
use Rattle.attr_rules.specs.Dispatching.{KeepsFirst, KeepsNamed, kept_for, number_for, number_of_place, via_in}
use Rattle.attr_rules.specs.RowsKept.{at_place, with_first}
use Rattle.attr_rules.specs.Rules.{number_of_equation, reach_via, same_reach, same_via}
use Rattle.attr_rules.proofs.FirstPlaces.{first_other, first_same, length-with_first, map_or, or_none}
use Rattle.attr_rules.proofs.NearestRows.{or_assoc}

-- what is found in a list with an entry more
lookup_push : {K X : Type 0} (test : K → Bool) (es : List (K × X)) (e : K × X) → lookup test (es ++ e ∷ []) ≡ option_or (lookup test es) (cond (test e.0) (Some e.1) None)
lookup_push test [] e = refl
lookup_push test (x ∷ es) e = elim (test x.0) as (λ b. cond b (Some x.1) (lookup test (es ++ e ∷ [])) ≡ option_or (cond b (Some x.1) (lookup test es)) (cond (test e.0) (Some e.1) None)) [ true ↦ refl | false ↦ lookup_push test es e ]

abbrev is_for : Reach → ℕ → Target → Bool
is_for r a t = same_reach t.reach r && (t.attribute.0 == a)

cond_number : (b : Bool) (e : EqId) → option_map number_of_equation (cond b (Some e) None) ≡ cond b (Some e.0) None
cond_number true e = refl
cond_number false e = refl

pub number_push : (paths : List (Target × EqId)) (t : Target) (e : EqId) (r : Reach) (a : ℕ) → number_for (paths ++ (t, e) ∷ []) r a ≡ option_or (number_for paths r a) (cond (is_for r a t) (Some e.0) None)
number_push paths t e r a =
    ap (option_map number_of_equation) (lookup_push (is_for r a) paths (t, e)) ∙ map_or number_of_equation (lookup (is_for r a) paths) (cond (is_for r a t) (Some e) None)
    ∙ ap (option_or (number_for paths r a)) (cond_number (is_for r a t) e)

-- and in one entry more of a list
number_more : (paths : List (Target × EqId)) (i : ℕ) (d : Target × EqId) (t : Target) (e : EqId) (r : Reach) (a : ℕ) → i < length paths → get_or paths i d ≡ (t, e)
    → number_for (take (i + 1) paths) r a ≡ option_or (number_for (take i paths) r a) (cond (is_for r a t) (Some e.0) None)
number_more paths i d t e r a within is = ap (λ ps. number_for ps r a) (take_more paths i d within ∙ ap (λ p. take i paths ++ p ∷ []) is) ∙ number_push (take i paths) t e r a

-- an entry that is for other nodes changes nothing
number_passed : (paths : List (Target × EqId)) (i : ℕ) (d : Target × EqId) (t : Target) (e : EqId) (r : Reach) (a : ℕ) → i < length paths → get_or paths i d ≡ (t, e) → same_reach t.reach r ≡ false
    → number_for (take (i + 1) paths) r a ≡ number_for (take i paths) r a
number_passed paths i d t e r a within is other =
    number_more paths i d t e r a within is ∙ ap (λ b. option_or (number_for (take i paths) r a) (cond (b && (t.attribute.0 == a)) (Some e.0) None)) other ∙ or_none (number_for (take i paths) r a)

-- one more is added to what is kept, which is what a nearer class has, if it has something
one_more : (kept nearer found : Option ℕ) (b : Bool) (e z : ℕ) → (b ≡ true → option_or nearer (Some e) ≡ Some z)
    → option_or (option_or kept (option_and_then (λ x. option_or nearer (Some x)) found)) (cond b (Some z) None) ≡ option_or kept (option_and_then (λ x. option_or nearer (Some x)) (option_or found (cond b (Some e) None)))
one_more (Some k) nearer found b e z h = refl
one_more None nearer None true e z h = sym (h refl)
one_more None nearer None false e z h = refl
one_more None (Some n) (Some f) b e z h = refl
one_more None None (Some f) b e z h = refl

unwrapped : (o : Option EqId) (e : EqId) → option_or (option_map number_of_equation o) (Some e.0) ≡ Some (number_of_equation (unwrap_or o e))
unwrapped None e = refl
unwrapped (Some x) e = refl

-- two reaches are the same where what they go by is
same_reaches : (u v : Via) → same_reach (reach_via u) (reach_via v) ≡ same_via u v
same_reaches (ByComponent j) (ByComponent k) = refl
same_reaches (ByComponent j) (ByCreated b) = refl
same_reaches (ByCreated a) (ByComponent k) = refl
same_reaches (ByCreated a) (ByCreated b) = refl

module _ {S : Type 0} (children : List (Option EqId)) (paths : List (Target × EqId)) (i : ℕ) (d : Target × EqId) (t : Target) (e : EqId) (within : i < length paths) (is : get_or paths i d ≡ (t, e)) (first before : HashMap Key EqId S)
    (so_far : KeepsNamed children (take i paths) first before) where
  -- the next equation is for what hangs by something, or for other nodes
  pub named_taken : (u : Via) (x : EqId) (after : HashMap Key EqId S) → t.reach ≡ reach_via u → x ≡ unwrap_or (at_place children t.attribute.0) e → KeepsFirst (record { via = u; attribute = t.attribute }) x before after
      → KeepsNamed children (take (i + 1) paths) first after
  named_taken u x after at nearest keeps v a =
      let nearer = number_of_place children a in
      let b : Bool = same_via u v && (t.attribute.0 == a) in
      let here : is_for (reach_via v) a t ≡ b = ap (λ r. same_reach r (reach_via v) && (t.attribute.0 == a)) at ∙ ap (λ h. h && (t.attribute.0 == a)) (same_reaches u v) in
      keeps v a ∙ ap (λ o. option_or o (cond b (Some x.0) None)) (so_far v a)
      ∙ one_more (kept_for first.entries v a) nearer (number_for (take i paths) (reach_via v) a) b e.0 x.0 (λ h.
      ap (λ n. option_or (number_of_place children n) (Some e.0)) (sym (eqb-true t.attribute.0 a (and_parts (same_via u v) (t.attribute.0 == a) h).1)) ∙ unwrapped (at_place children t.attribute.0) e ∙ ap (λ (y : EqId). Some y.0) (sym nearest))
      ∙ ap (λ c. option_or (kept_for first.entries v a) (option_and_then (λ y. option_or nearer (Some y)) (option_or (number_for (take i paths) (reach_via v) a) (cond c (Some e.0) None)))) (sym here)
      ∙ ap (λ o. option_or (kept_for first.entries v a) (option_and_then (λ y. option_or nearer (Some y)) o)) (sym (number_more paths i d t e (reach_via v) a within is))

  pub named_passed : ((v : Via) → same_reach t.reach (reach_via v) ≡ false) → KeepsNamed children (take (i + 1) paths) first before
  named_passed other v a =
      so_far v a ∙ ap (λ o. option_or (kept_for first.entries v a) (option_and_then (λ y. option_or (number_of_place children a) (Some y)) o)) (sym (number_passed paths i d t e (reach_via v) a within is (other v)))

named_in : (r : Reach) (u : Via) → via_in r ≡ Some u → r ≡ reach_via u
named_in Own u e = absurd cc
named_in (AtComponent k) u e = let same : ByComponent k ≡ u = cc in ap reach_via same
named_in (AtCreated b) u e = let same : ByCreated b ≡ u = cc in ap reach_via same
named_in Children u e = absurd cc

not_named : (r : Reach) → via_in r ≡ None → (v : Via) → same_reach r (reach_via v) ≡ false
not_named Own e (ByComponent k) = refl
not_named Own e (ByCreated b) = refl
not_named (AtComponent j) e v = absurd cc
not_named (AtCreated a) e v = absurd cc
not_named Children e (ByComponent k) = refl
not_named Children e (ByCreated b) = refl

pub is_children : (r : Reach) → same_reach r Children ≡ true → r ≡ Children
is_children Own e = absurd cc
is_children (AtComponent k) e = absurd cc
is_children (AtCreated b) e = absurd cc
is_children Children e = refl

module _ {S : Type 0} (children : List (Option EqId)) (paths : List (Target × EqId)) (i : ℕ) (d : Target × EqId) {o : Option Via} (within : i < length paths) (via : o ≡ via_in (get_or paths i d).0.reach) (first before : HashMap Key EqId S)
    {after : HashMap Key EqId S} (so_far : KeepsNamed children (take i paths) first before) where
  pub named_more : (u : Via) (x : EqId) {later : HashMap Key EqId S} {nearer : Option EqId} → o ≡ Some u → nearer ≡ at_place children (get_or paths i d).0.attribute.0 → x ≡ unwrap_or nearer (get_or paths i d).1
      → KeepsFirst (record { via = u; attribute = (get_or paths i d).0.attribute }) x before later → after ≡ later → KeepsNamed children (take (i + 1) paths) first after
  named_more u x {later} {nearer} is near unwraps keeps same =
      subst (KeepsNamed children (take (i + 1) paths) first) (sym same)
      (named_taken children paths i d (get_or paths i d).0 (get_or paths i d).1 within refl first before so_far u x later (named_in (get_or paths i d).0.reach u (sym via ∙ is)) (unwraps ∙ ap (λ p. unwrap_or p (get_or paths i d).1) near) keeps)

  pub named_same : o ≡ None → after ≡ before → KeepsNamed children (take (i + 1) paths) first after
  named_same none same =
      subst (KeepsNamed children (take (i + 1) paths) first) (sym same)
      (named_passed children paths i d (get_or paths i d).0 (get_or paths i d).1 within refl first before so_far (not_named (get_or paths i d).0.reach (sym via ∙ none)))

-- a row in which the equations of a list that are for every child are put at their places, where there is none yet
pub record PutsChildren (paths : List (Target × EqId)) (before after : List (Option EqId)) : Type 0 where
  pub long : length after ≡ length before
  pub each : (a : ℕ) → a < length before → number_of_place after a ≡ option_or (number_of_place before a) (number_for paths Children a)

module _ (paths : List (Target × EqId)) (i : ℕ) (d : Target × EqId) (t : Target) (e : EqId) (within : i < length paths) (is : get_or paths i d ≡ (t, e)) (first before : List (Option EqId)) (so_far : PutsChildren (take i paths) first before) where
  pub put_taken : (after : List (Option EqId)) → t.reach ≡ Children → after ≡ with_first before t.attribute.0 e → PutsChildren (take (i + 1) paths) first after
  put_taken after at puts = record {
    long = ap length puts ∙ length-with_first before t.attribute.0 e ∙ so_far.long;
    each = λ a h.
        let found = number_for (take i paths) Children a in
        let here : is_for Children a t ≡ (t.attribute.0 == a) = ap (λ r. same_reach r Children && (t.attribute.0 == a)) at in
        let more : number_for (take (i + 1) paths) Children a ≡ option_or found (cond (t.attribute.0 == a) (Some e.0) None) =
        number_more paths i d t e Children a within is ∙ ap (λ b. option_or found (cond b (Some e.0) None)) here in
        let now : number_of_place after a ≡ number_of_place (with_first before t.attribute.0 e) a = ap (λ row. number_of_place row a) puts in
        elim (eqb_tells t.attribute.0 a) [
          | inl s ↦
              now ∙ ap (λ n. number_of_place (with_first before n e) a) s.1 ∙ ap (option_map number_of_equation) (first_same before a e (omega (arith, h, so_far.long))) ∙ map_or number_of_equation (at_place before a) (Some e)
              ∙ ap (λ o. option_or o (Some e.0)) (so_far.each a h) ∙ or_assoc (number_of_place first a) found (Some e.0)
              ∙ ap (option_or (number_of_place first a)) (sym (more ∙ ap (λ b. option_or found (cond b (Some e.0) None)) s.0))
          | inr s ↦
              now ∙ ap (option_map number_of_equation) (first_other before t.attribute.0 a e (λ k. s.1 (sym k))) ∙ so_far.each a h
              ∙ ap (option_or (number_of_place first a)) (sym (more ∙ ap (λ b. option_or found (cond b (Some e.0) None)) s.0 ∙ or_none found))
        ];
  }

  pub put_passed : same_reach t.reach Children ≡ false → PutsChildren (take (i + 1) paths) first before
  put_passed other = record {
    long = so_far.long;
    each = λ a h. so_far.each a h ∙ ap (option_or (number_of_place first a)) (sym (number_passed paths i d t e Children a within is other));
  }

module _ (paths : List (Target × EqId)) (i : ℕ) (d : Target × EqId) {b : Bool} (within : i < length paths) (children : b ≡ same_reach (get_or paths i d).0.reach Children) (first : List (Option EqId)) {before after : List (Option EqId)}
    (so_far : PutsChildren (take i paths) first before) where
  pub put_more : b ≡ true → after ≡ with_first before (get_or paths i d).0.attribute.0 (get_or paths i d).1 → PutsChildren (take (i + 1) paths) first after
  put_more is puts = put_taken paths i d (get_or paths i d).0 (get_or paths i d).1 within refl first before so_far after (is_children (get_or paths i d).0.reach (sym children ∙ is)) puts

  pub put_same : b ≡ false → after ≡ before → PutsChildren (take (i + 1) paths) first after
  put_same isnt same =
      subst (PutsChildren (take (i + 1) paths) first) (sym same) (put_passed paths i d (get_or paths i d).0 (get_or paths i d).1 within refl first before so_far (sym children ∙ isnt))

-- behind the row there is none
pub put_all : (paths : List (Target × EqId)) (i : ℕ) (first after : List (Option EqId)) → length paths ≤ i → ((a : ℕ) → length first ≤ a → number_for paths Children a ≡ None) → PutsChildren (take i paths) first after
    → (a : ℕ) → number_of_place after a ≡ option_or (number_of_place first a) (number_for paths Children a)
put_all paths i first after end none puts a =
    let past : (row : List (Option EqId)) → length row ≤ a → number_of_place row a ≡ None = λ row h. ap (λ o. option_map number_of_equation (option_and_then (λ x. x) o)) (slice_get_past row a h) in
    elim (cases_lt a (length first)) [
      | inl h ↦ puts.each a h ∙ ap (λ ps. option_or (number_of_place first a) (number_for ps Children a)) (take_all i paths end)
      | inr h ↦ past after (omega (arith, h, puts.long)) ∙ sym (ap (λ o. option_or o (number_for paths Children a)) (past first h) ∙ none a h)
    ]
