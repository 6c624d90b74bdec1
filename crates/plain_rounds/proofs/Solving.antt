-- The values of the plain rounds stand for the outer rounds.
use Rattle.std.proofs.Common.{◌≡◌, ℕ, zero, suc, ◌+◌, ◌<◌, ◌≤◌, Bool, true, false, cond, ◌||◌, All, List, [], ◌∷◌, ◌++◌, length, map, replicate, count_by, sum_by, is_none, Option, Some, None, refl, sym, ap, subst, ◌∙◌, arith, below_more, get_or, slice_get}
use Rattle.std.specs.HashMap.{HashMap}
use Rattle.std.specs.Option.{option_map, option_and_then}
use Rattle.std.proofs.Math.ListN.{get_or-append}
use Rattle.std.proofs.Math.Seq.{get_or-append_seam}
use Rattle.std.proofs.lemmas.List.{length-replicate}
use Rattle.std.proofs.lemmas.List.Elements.{All-head, All-tail}
use Rattle.std.proofs.lemmas.List.Recursion.{is_count_by}
use Rattle.std.proofs.lemmas.List.Sums.{sum_by-cons}
use Rattle.std.proofs.lemmas.Option.{get_or_from_slice_get, slice_get-get_or, slice_get-map, slice_get_within}
use Rattle.solutions.specs.Rounds.{IsStable, RoundsEnd, and_then, inner_rounds, is_in, or_else, outer_rounds, plain_round}
use Rattle.solutions.proofs.Runs.{or_else_none}
use Rattle.equation_law.specs.declared.coding.Instance.{Instance as CodedInstance}
use Rattle.plain_rounds.specs.declared.values.NamedValue.{NamedValue}
use Rattle.equation_law.specs.Names.{Instance, same_instance}
use Rattle.equation_law.specs.Values.{Value}
use Rattle.equation_law.specs.Program.{Program}
use Rattle.equation_law.specs.Equations.{equations_of}
use Rattle.equation_law.specs.Codes.{IsCoded, IsNamingOf, Naming, instance_by}
use Rattle.plain_rounds.specs.Named.{assigned, value_in}
use Rattle.plain_rounds.specs.Places.{first_place, found, kept_place, value_on}
use Rattle.plain_rounds.specs.Rooms.{AreRooms, IsLow, room}
use Rattle.plain_rounds.specs.Steps.{AreFirst, AreIn, AreInner, AreInnerSteps, AreLeft, IsAfter, IsNext, IsRound, comes, inner_at, inner_over, known, known_at, name_at, named, outer_over, standing, start_of}
use Rattle.plain_rounds.proofs.Lowering.{Falls, over_falls, tables_fall}
use Rattle.plain_rounds.proofs.Turning.{first_is, inner_is, inner_outside, outer_is, outside, rests}
use Rattle.rag_io.specs.Pool.{ArePooled}
use Rattle.equation_law.proofs.Keys.{key_same_by, same_turned}
use Rattle.equation_law.proofs.Lists.{some_of}
use Rattle.equation_law.proofs.Names.{same_instance_is, same_instance_self}

-- what is found at the first places is what stands under the names
later_place : (p : Program) (N : Naming) (v : Option NamedValue) (values : List (Option NamedValue)) (o : Option ℕ) → option_and_then (value_on p N (v ∷ values)) (option_map suc o) ≡ option_and_then (value_on p N values) o
later_place p N v values None = refl
later_place p N v values (Some k) = refl

module _ (p : Program) (pooled : ArePooled p.texts) {N : Naming} (by : IsNamingOf p N) where
  -- what is at the first place of a code stands under its instance
  placed_stands : (names : List CodedInstance) (values : List (Option NamedValue)) → length values ≡ length names → All (IsCoded p) names → (q : CodedInstance) → IsCoded p q
      → option_and_then (value_on p N values) (first_place names q) ≡ standing p N names values (instance_by p N q)
  placed_stands [] values l all q h = refl
  placed_stands (n ∷ names) [] l all q h = absurd (omega arith)
  placed_stands (n ∷ names) (v ∷ values) l all q h =
      let l' : length values ≡ length names = omega arith in
      let same = key_same_by p pooled by n q (All-head (IsCoded p) n names all) h ∙ same_turned (instance_by p N n) (instance_by p N q) in
      ap (λ b. option_and_then (value_on p N (v ∷ values)) (cond b (Some 0) (option_map suc (first_place names q)))) same
      ∙ elim (same_instance (instance_by p N q) (instance_by p N n)) as (λ b. option_and_then (value_on p N (v ∷ values)) (cond b (Some 0) (option_map suc (first_place names q))) ≡ cond b (option_map (value_in p N) v) (standing p N names values (instance_by p N q))) [
        | true ↦ refl
        | false ↦ later_place p N v values (first_place names q) ∙ placed_stands names values l' (All-tail (IsCoded p) n names all) q h
      ]

  -- the same for kept places
  pub found_stands : {S : Type 0} (names : List CodedInstance) (m : HashMap CodedInstance ℕ S) (values : List (Option NamedValue)) → ((q : CodedInstance) → kept_place m q ≡ first_place names q) → length values ≡ length names → All (IsCoded p) names → (q : CodedInstance) → IsCoded p q → found p N m values q ≡ standing p N names values (instance_by p N q)
  found_stands names m values places long coded q h = ap (option_and_then (value_on p N values)) (places q) ∙ placed_stands names values long coded q h

-- one value more
pub pushed : {A : Type 0} (Q : ℕ → A → Type 0) (ws : List A) (w d : A) (i : ℕ) → length ws ≡ i → ((k : ℕ) → k < i → Q k (get_or ws k d)) → Q i w → (k : ℕ) → k < i + 1 → Q k (get_or (ws ++ w ∷ []) k d)
pushed Q ws w d i l each here =
    below_more (λ k. Q k (get_or (ws ++ w ∷ []) k d)) i
    (λ k h. let h' : k < length ws = omega arith in subst (λ x. Q k x) (sym (get_or-append ws (w ∷ []) d k h')) (each k h))
    (subst (λ x. Q i x) (sym (subst (λ j. get_or (ws ++ w ∷ []) j d ≡ w) l (get_or-append_seam ws w [] d))) here)

-- values that each name has in an assignment stand under the names, and nothing else does
standing_is : (p : Program) (N : Naming) (A : Instance → Option Value) (ns : List CodedInstance) (ws : List (Option NamedValue)) → length ws ≡ length ns → ((k : ℕ) → k < length ns → known p N (get_or ws k None) ≡ A (instance_by p N (name_at ns k))) → (i : Instance)
    → standing p N ns ws i ≡ cond (is_in same_instance (map (instance_by p N) ns) i) (A i) None
standing_is p N A [] ws l each i = refl
standing_is p N A (n ∷ ns) [] l each i = absurd (omega arith)
standing_is p N A (n ∷ ns) (w ∷ ws) l each i =
    let l' : length ws ≡ length ns = omega arith in
    elim (same_instance i (instance_by p N n)) as (λ b. same_instance i (instance_by p N n) ≡ b → cond b (known p N w) (standing p N ns ws i) ≡ cond (b || is_in same_instance (map (instance_by p N) ns) i) (A i) None) [
      | true ↦ λ e. each 0 (omega arith) ∙ ap A (sym (same_instance_is i (instance_by p N n) e))
      | false ↦ λ e. standing_is p N A ns ws l' (λ k h. each (suc k) (omega arith)) i
    ] refl

-- a name of the list is in it
either_way : (a b : Bool) → b ≡ true → (a || b) ≡ true
either_way true b e = refl
either_way false b e = e

listed : (p : Program) (N : Naming) (ns : List CodedInstance) (k : ℕ) → k < length ns → is_in same_instance (map (instance_by p N) ns) (instance_by p N (name_at ns k)) ≡ true
listed p N [] k h = absurd (omega arith)
listed p N (n ∷ ns) zero h = ap (λ b. b || is_in same_instance (map (instance_by p N) ns) (instance_by p N n)) (same_instance_self (instance_by p N n))
listed p N (n ∷ ns) (suc k) h = either_way (same_instance (instance_by p N (name_at ns k)) (instance_by p N n)) _ (listed p N ns k (omega arith))

-- in the first table no name has a value
none_at : (p : Program) (N : Naming) (n k : ℕ) → known p N (get_or (replicate n None) k None) ≡ None
none_at p N zero k = refl
none_at p N (suc n) zero = refl
none_at p N (suc n) (suc k) = none_at p N n k

module _ (p : Program) (N : Naming) (ns : List CodedInstance) where
  abbrev J : List Instance
  J = map (instance_by p N) ns

  -- where the assignment has nothing else
  stands : (ws : List (Option NamedValue)) (A : Instance → Option Value) → AreIn p N ns ws A → ((i : Instance) → is_in (equations_of p).same J i ≡ false → A i ≡ None) → (i : Instance) → standing p N ns ws i ≡ A i
  unfolding equations_of
  stands ws A a none i =
      standing_is p N A ns ws a.long a.each i ∙ elim (is_in same_instance J i) as (λ b. is_in same_instance J i ≡ b → cond b (A i) None ≡ A i) [
        | true ↦ λ m. refl
        | false ↦ λ m. sym (none i m)
      ] refl

  named_in : (k : ℕ) → k < length ns → is_in (equations_of p).same J (named p N ns k) ≡ true
  unfolding equations_of
  named_in k h = listed p N ns k h

  -- the first table is that of no rounds
  pub after_none : IsAfter p N ns (replicate (length ns) None)
  after_none = record {
    rounds = [];
    whole = tt;
    are = record { long = length-replicate (length ns) None; each = λ k h. none_at p N (length ns) k };
  }

  module _ (vs : List (Option NamedValue)) (a : IsAfter p N ns vs) where
    abbrev S : Instance → Option Value
    S = standing p N ns vs

    -- what is settled is what the rounds give
    pub settled_is : (i : Instance) → S i ≡ outer_rounds (equations_of p) J a.rounds i
    settled_is i = stands vs (outer_rounds (equations_of p) J a.rounds) a.are (outside (equations_of p) J a.rounds) i

    -- a name that stands twice has one value
    even : (k : ℕ) → k < length ns → known_at p N vs k ≡ S (named p N ns k)
    even k h = a.are.each k h ∙ sym (settled_is (named p N ns k))

    settled_outside : (i : Instance) → is_in (equations_of p).same J i ≡ false → S i ≡ None
    settled_outside i m = settled_is i ∙ outside (equations_of p) J a.rounds i m

    inner_outside_too : (n : ℕ) (i : Instance) → is_in (equations_of p).same J i ≡ false → inner_over p N ns vs n i ≡ None
    inner_outside_too n i m = or_else_none (S i) _ (settled_outside i m) ∙ inner_outside (equations_of p) J S n i m

    pub inner_stands : (n : ℕ) (us : List (Option NamedValue)) → AreIn p N ns us (inner_over p N ns vs n) → (i : Instance) → standing p N ns us i ≡ inner_over p N ns vs n i
    inner_stands n us u = stands us (inner_over p N ns vs n) u (inner_outside_too n)

    -- the values before the first inner round
    pub inner_first : (us : List (Option NamedValue)) → AreFirst p N ns vs us → AreInner p N ns vs us
    inner_first us f = record {
      turns = 0;
      are = record {
        long = f.long;
        each = λ k h.
            let i = named p N ns k in
            f.each k h ∙ ap (λ o. or_else o (start_of p i)) (even k h) ∙ first_is (equations_of p) J S i (named_in k h);
      };
    }

    -- and after one more
    turned : (n : ℕ) (us ws : List (Option NamedValue)) → AreIn p N ns us (inner_over p N ns vs n) → AreInnerSteps p N ns vs us ws → AreIn p N ns ws (inner_over p N ns vs (suc n))
    turned n us ws u r = record {
      long = r.long;
      each = λ k h.
          let i = named p N ns k in
          let same : standing p N ns us ≡ inner_over p N ns vs n = λ t j. inner_stands n us u j t in
          r.each k h
          ∙ ap (λ o. or_else o (inner_at p N ns us k)) (even k h)
          ∙ ap (λ o. or_else (S i) (cond ((equations_of p).circular i) (and_then o (comes p (standing p N ns us) i)) None)) (u.each k h)
          ∙ ap (λ (A : Instance → Option Value). or_else (S i) (cond ((equations_of p).circular i) (and_then (inner_over p N ns vs n i) (comes p A i)) None)) same
          ∙ inner_is (equations_of p) J S n i;
    }

    pub inner_more : (us ws : List (Option NamedValue)) → AreInner p N ns vs us → AreInnerSteps p N ns vs us ws → AreInner p N ns vs ws
    inner_more us ws u r = record { turns = suc u.turns; are = turned u.turns us ws u.are r }

    -- of two turns one after the other the second leaves no more room, and where it leaves as much nothing changes
    module _ (us ws : List (Option NamedValue)) (u : AreInner p N ns vs us) (r : AreInnerSteps p N ns vs us ws) (x y : ℕ) (m : AreRooms p N us x) (n : AreRooms p N ws y) where
      pair_falls : (k : ℕ) → k < length us → Falls room (known_at p N us k) (known_at p N ws k)
      pair_falls k h =
          let h' : k < length ns = omega (arith, u.are.long) in
          let g : k < length ws = omega (arith, u.are.long, r.long) in
          let i = named p N ns k in
          let first = u.are.each k h' in
          let second = (turned u.turns us ws u.are r).each k h' in
          subst (λ o. Falls room o (known_at p N ws k)) (sym first)
          (subst (λ q. Falls room (inner_over p N ns vs u.turns i) q) (sym second) (over_falls p J S u.turns i (subst IsLow first (m.low k h)) (subst IsLow second (n.low k g))))

      -- where as much room is left nothing changes
      pub inner_left : x ≤ y → AreLeft p N ns vs us
      inner_left e =
          let falls = tables_fall p N room us ws (r.long ∙ sym u.are.long) pair_falls in
          let sums : sum_by (λ v. room (known p N v)) us ≤ sum_by (λ v. room (known p N v)) ws = subst (λ z. z ≤ sum_by (λ v. room (known p N v)) ws) m.sum (subst (λ z. x ≤ z) n.sum e) in
          let same = falls.1 sums in
          record {
            turns = u.turns;
            stable = rests (equations_of p) J S u.turns
                (λ i. sym (inner_stands (suc u.turns) ws (turned u.turns us ws u.are r) i) ∙ ap (λ (zs : List (Option Value)). assigned J zs i) same ∙ inner_stands u.turns us u.are i);
            are = u.are;
          }

    -- the values after the outer round
    pub round_next : (us ws : List (Option NamedValue)) → AreLeft p N ns vs us → IsRound p N ns vs us ws → IsNext p N ns vs ws
    round_next us ws u r = record {
      turns = u.turns;
      stable = u.stable;
      are = record {
        long = r.long;
        each = λ k h.
            let i = named p N ns k in
            r.each k h
            ∙ ap (λ o. cond ((equations_of p).circular i) o (or_else (known_at p N vs k) (comes p S i))) (u.are.each k h)
            ∙ ap (λ o. cond ((equations_of p).circular i) (inner_over p N ns vs u.turns i) (or_else o (comes p S i))) (even k h)
            ∙ outer_is (equations_of p) J S u.turns i (named_in k h);
      };
    }

    -- one more round, on the assignment
    next_outer : (n : ℕ) (i : Instance) → outer_over p N ns vs n i ≡ outer_rounds (equations_of p) J (n ∷ a.rounds) i
    next_outer n i =
        let same : S ≡ outer_rounds (equations_of p) J a.rounds = λ t j. settled_is j t in
        ap (λ (A : Instance → Option Value). or_else (A i) (or_else (plain_round (equations_of p) J A i) (inner_rounds (equations_of p) J A n i))) same

    still : (n : ℕ) → IsStable (equations_of p) J S n → IsStable (equations_of p) J (outer_rounds (equations_of p) J a.rounds) n
    still n s =
        let same : S ≡ outer_rounds (equations_of p) J a.rounds = λ t j. settled_is j t in
        subst (λ (A : Instance → Option Value). IsStable (equations_of p) J A n) same s

    after_are : (ws : List (Option NamedValue)) (r : IsNext p N ns vs ws) → AreIn p N ns ws (outer_rounds (equations_of p) J (r.turns ∷ a.rounds))
    after_are ws r = record { long = r.are.long; each = λ k h. r.are.each k h ∙ next_outer r.turns (named p N ns k) }

    -- the table after a round is one of rounds
    pub after_round : (ws : List (Option NamedValue)) → IsNext p N ns vs ws → IsAfter p N ns ws
    after_round ws r = record { rounds = r.turns ∷ a.rounds; whole = (a.whole, still r.turns r.stable); are = after_are ws r }

    next_stands : (ws : List (Option NamedValue)) (r : IsNext p N ns vs ws) (i : Instance) → standing p N ns ws i ≡ outer_rounds (equations_of p) J (r.turns ∷ a.rounds) i
    next_stands ws r i = stands ws (outer_rounds (equations_of p) J (r.turns ∷ a.rounds)) (after_are ws r) (outside (equations_of p) J (r.turns ∷ a.rounds)) i

    -- what is settled stays
    kept : (ws : List (Option NamedValue)) → IsNext p N ns vs ws → (k : ℕ) → k < length vs → (v : Value) → known_at p N vs k ≡ Some v → known_at p N ws k ≡ Some v
    kept ws r k h v e =
        let h' : k < length ns = omega (arith, a.are.long) in
        let i = named p N ns k in
        r.are.each k h' ∙ ap (λ o. or_else o (or_else (plain_round (equations_of p) J S i) (inner_rounds (equations_of p) J S r.turns i))) (sym (even k h') ∙ e)

-- 1 where there is no value
abbrev gap : Option Value → ℕ
gap None = 1
gap (Some v) = 0

-- where a value stays, no gap comes up, and where none is filled, nothing changes
gap_falls : (o q : Option Value) → ((v : Value) → o ≡ Some v → q ≡ Some v) → Falls gap o q
gap_falls None None f = (omega arith, λ e. refl)
gap_falls None (Some w) f = (omega arith, λ e. absurd (omega (arith, e)))
gap_falls (Some v) q f = subst (Falls gap (Some v)) (sym (f v refl)) (omega arith, λ e. refl)

-- the gaps of a table, one by one
gaps_more : (p : Program) (N : Naming) (v : Option NamedValue) (vs : List (Option NamedValue)) → sum_by (λ x. gap (known p N x)) (v ∷ vs) ≡ cond (is_none v) (1 + sum_by (λ x. gap (known p N x)) vs) (sum_by (λ x. gap (known p N x)) vs)
gaps_more p N None vs = sum_by-cons (λ x. gap (known p N x)) None vs
gaps_more p N (Some v) vs = let e : sum_by (λ x. gap (known p N x)) (Some v ∷ vs) ≡ 0 + sum_by (λ x. gap (known p N x)) vs = sum_by-cons (λ x. gap (known p N x)) (Some v) vs in omega (arith, e)

-- that is the count of the code
gaps_are : (p : Program) (N : Naming) (vs : List (Option NamedValue)) → sum_by (λ x. gap (known p N x)) vs ≡ count_by is_none vs
gaps_are p N = is_count_by (sum_by (λ x. gap (known p N x))) is_none refl (gaps_more p N)

module _ (p : Program) (N : Naming) (ns : List CodedInstance) where
  -- a round that fills no gap changes nothing
  pub ended_at : (vs ws : List (Option NamedValue)) (a : IsAfter p N ns vs) → IsNext p N ns vs ws → count_by is_none vs ≤ count_by is_none ws → RoundsEnd (equations_of p) (map (instance_by p N) ns) (standing p N ns vs)
  ended_at vs ws a r c =
      let falls = tables_fall p N gap vs ws (r.are.long ∙ sym a.are.long) (λ k h. gap_falls (known_at p N vs k) (known_at p N ws k) (kept p N ns vs a ws r k h)) in
      let same = falls.1 (subst (λ x. x ≤ sum_by (λ v. gap (known p N v)) ws) (sym (gaps_are p N vs)) (subst (λ x. count_by is_none vs ≤ x) (sym (gaps_are p N ws)) c)) in
      record {
        rounds = a.rounds;
        whole = a.whole;
        turns = r.turns;
        stable = still p N ns vs a r.turns r.stable;
        last = λ i. sym (next_stands p N ns vs a ws r i) ∙ ap (λ (zs : List (Option Value)). assigned (map (instance_by p N) ns) zs i) same ∙ settled_is p N ns vs a i;
        is = settled_is p N ns vs a;
      }

  -- the value of each name is the one that stands under it
  pub each_stands : (ws : List (Option NamedValue)) → IsAfter p N ns ws → (k : ℕ) (i : Instance) → slice_get (map (instance_by p N) ns) k ≡ Some i → option_and_then (λ (v : Option Value). v) (slice_get (map (option_map (value_in p N)) ws) k) ≡ standing p N ns ws i
  each_stands ws a k i e =
      let s = some_of (instance_by p N) (slice_get ns k) i (sym (slice_get-map (instance_by p N) ns k) ∙ e) in
      let h = slice_get_within ns k s.0 s.1 in
      let h' : k < length ws = omega (arith, a.are.long) in
      let n : instance_by p N (name_at ns k) ≡ i = ap (instance_by p N) (get_or_from_slice_get ns k s.0 _ s.1) ∙ s.2 in
      ap (option_and_then (λ (v : Option Value). v)) (slice_get-map (option_map (value_in p N)) ws k ∙ ap (option_map (option_map (value_in p N))) (slice_get-get_or ws k None h')) ∙ even p N ns ws a k h ∙ ap (standing p N ns ws) n
