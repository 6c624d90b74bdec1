-- Contributions to a collection, found among their numbers.
use Rattle.std.proofs.Common.{◌≡◌, ◌⊎◌, inl, inr, ◌+◌, ◌<◌, ◌≤◌, ◌++◌, ◌∷◌, [], ℕ, zero, suc, true, false, List, Option, Some, None, Result, IfNone, IfOk, get_or, length, ltb, ltb-false, ltb-true, map, slice_get, take, refl, sym, ap, subst, ◌∙◌, arith}
use Rattle.std.specs.List.Sorted.{IsNonDecreasingBy, IsPartitionPoint}
use Rattle.std.proofs.lemmas.List.{map_more, take_more}
use Rattle.std.proofs.lemmas.Result.{IfOk-weaker}
use Rattle.std.proofs.lemmas.Option.{get_or_from_slice_get, same_Some, slice_get-get_or, slice_get_within}
use Rattle.std.proofs.Math.Nat.{eq-or-lt_of_le}
use mathlib.Core.Logic.{dite}
use Rattle.std.proofs.Math.Decide.{dec_lt}
use Rattle.attr_rules.specs.Rules.{Contribution, RuleSet}
use Rattle.groups.specs.Groups.{AreWithin, groups_of, numbers_of}
use Rattle.groups.proofs.Members.{group_is, length_groups, member_is, members_rise}
use Rattle.groups.proofs.Numbers.{stands_at}
use Rattle.attr_equations.specs.declared.contributions.KeptContribution.{KeptContribution}
use Rattle.attr_equations.specs.KeptContributions.{contribution_in}
use Rattle.attr_equations.specs.Offered.{AreBelow, AreGrouped, AreRising, IsFirstFrom, IsFor, IsNextFor, NoneFor, key_of}

-- one more of a list that is mapped
pub mapped_more : {X Y : Type 0} (f : X → Y) (xs : List X) (i : ℕ) (x : X) {ys more : List Y} {y : Y} → i < length xs → x ≡ get_or xs i x → ys ≡ map f (take i xs) → more ≡ ys ++ y ∷ [] → y ≡ f x → more ≡ map f (take (i + 1) xs)
mapped_more f xs i x lt there so is same = is ∙ (λ j. so j ++ (same ∙ ap f there) j ∷ []) ∙ sym (map_more f xs i x lt)

-- numbers that rise don't fall
same_or_more : (ns : List ℕ) → AreRising ns → (i j d : ℕ) → j < length ns → (i ≡ j) ⊎ (i < j) → get_or ns i d ≤ get_or ns j d
same_or_more ns up i j d lt (inl e) = subst (λ k. get_or ns i d ≤ get_or ns k d) e (omega arith)
same_or_more ns up i j d lt (inr l) =
    let more = up i j (get_or ns i d) (get_or ns j d) l (slice_get-get_or ns i d (omega (arith, l, lt))) (slice_get-get_or ns j d lt) in
    omega (arith, more)

pub not_falling : (ns : List ℕ) → AreRising ns → IsNonDecreasingBy (λ n. n) ns
not_falling ns up i j d le lt = same_or_more ns up i j d lt (eq-or-lt_of_le le)

-- what stands where the numbers below another one end
module _ (ns : List ℕ) (from place : ℕ) (point : IsPartitionPoint (λ n. ltb n from ≡ true) (λ n. ltb n from ≡ false) ns place) where
  below : (j x : ℕ) → j < place → slice_get ns j ≡ Some x → x < from
  below j x lt there = subst (λ y. y < from) (get_or_from_slice_get ns j x x there) (ltb-true (get_or ns j x) from (point.0 j x (omega arith) lt))

  pub first_found : (n : ℕ) → slice_get ns place ≡ Some n → IsFirstFrom ns from n
  first_found n is = record {
    after = subst (λ y. from ≤ y) (get_or_from_slice_get ns place n n is) (ltb-false (get_or ns place n) from (point.1 place n (omega arith) (slice_get_within ns place n is)));
    place = place;
    is = is;
    before = below;
  }

  pub none_found : length ns ≤ place → AreBelow ns from
  none_found le j x there = let lt = slice_get_within ns j x there in below j x (omega (arith, lt, le)) there

-- the keys of the contributions so far are below a bound, and one more is below another one
pub none_within : AreWithin (map key_of []) 0
none_within = record { within = λ i g is. cc }

each_more : (list : List KeptContribution) (n m : ℕ) (c : KeptContribution) → ((i g : ℕ) → slice_get (map key_of list) i ≡ Some (Some g) → g < n) → n ≤ m → c.numbers.target.0 + 1 ≤ m
    → (i g : ℕ) → slice_get (map key_of (list ++ c ∷ [])) i ≡ Some (Some g) → g < m
each_more [] n m c within le more zero g is = let same : c.numbers.target.0 ≡ g = same_Some _ _ (same_Some _ _ is) in omega (arith, same, more)
each_more [] n m c within le more (suc i) g is = cc
each_more (k ∷ list) n m c within le more zero g is = let under : g < n = within zero g is in omega (arith, under, le)
each_more (k ∷ list) n m c within le more (suc i) g is = each_more list n m c (λ j h at. within (suc j) h at) le more i g is

pub within_more : (list : List KeptContribution) (k n m : ℕ) (c : KeptContribution) → k < length list → c ≡ get_or list k c → AreWithin (map key_of (take k list)) n → n ≤ m → c.numbers.target.0 + 1 ≤ m → AreWithin (map key_of (take (k + 1) list)) m
within_more list k n m c lt is h le more =
    let next : take (k + 1) list ≡ take k list ++ c ∷ [] = take_more list k c lt ∙ ap (λ x. take k list ++ x ∷ []) (sym is) in
    subst (λ l. AreWithin (map key_of l) m) (sym next) (record { within = each_more (take k list) n m c h.within le more })

-- groups of these keys
pub are_grouped : {E : Type 0} (list : List KeptContribution) (n : ℕ) {keys : List (Option ℕ)} (r : Result (List (List ℕ)) E) → keys ≡ map key_of list → AreWithin (map key_of list) n → IfOk r (λ g. g ≡ groups_of keys n) → IfOk r (AreGrouped list)
are_grouped list n {keys} r same within h = IfOk-weaker r (λ g. g ≡ groups_of keys n) (AreGrouped list) (λ g is. grouped g (is ∙ ap (λ ks. groups_of ks n) same)) h
  where
    grouped : (g : List (List ℕ)) → g ≡ groups_of (map key_of list) n → AreGrouped list g
    grouped g is =
        let size : length g ≡ n = ap length is ∙ length_groups (map key_of list) n in
        record { are = is ∙ ap (groups_of (map key_of list)) (sym size); within = subst (AreWithin (map key_of list)) (sym size) within }

-- ---- a contribution that is for an attribute, and its key

has_key : (list : List KeptContribution) (j a : ℕ) (c : Contribution) → slice_get (map contribution_in list) j ≡ Some c → c.target.0 ≡ a → slice_get (map key_of list) j ≡ Some (Some a)
has_key [] j a c is same = cc
has_key (k ∷ list) zero a c is same = ap (λ t. Some (Some t)) (ap (λ x. x.target.0) (same_Some (contribution_in k) c is) ∙ same)
has_key (k ∷ list) (suc j) a c is same = has_key list j a c is same

of_key : (list : List KeptContribution) (j a : ℕ) → slice_get (map key_of list) j ≡ Some (Some a) → (c : Contribution) × (slice_get (map contribution_in list) j ≡ Some c) × (c.target.0 ≡ a)
of_key [] j a is = cc
of_key (k ∷ list) zero a is = (contribution_in k, refl, same_Some k.numbers.target.0 a (same_Some (key_of k) (Some a) is))
of_key (k ∷ list) (suc j) a is = of_key list j a is

-- ---- the numbers of the contributions that are for an attribute

module _ (r : RuleSet) (list : List KeptContribution) (are : r.contributions ≡ map contribution_in list) (a : ℕ) where
  abbrev pub numbers : List ℕ
  numbers = numbers_of (map key_of list) a

  pub rising : AreRising numbers
  rising j k x y less here there = members_rise (map key_of list) a j k x y less here there

  -- one that is for the attribute stands among them
  stands_in : (j : ℕ) → IsFor r a j → (q : ℕ) × (slice_get numbers q ≡ Some j)
  stands_in j for =
      let key = has_key list j a for.0 (subst (λ cs. slice_get cs j ≡ Some for.0) are for.1) for.2 in
      let moved : 0 + j ≡ j = omega arith in
      (length (numbers_of (take j (map key_of list)) a), stands_at 0 (map key_of list) j a key ∙ ap Some moved)

  pub next_found : (from k : ℕ) → IsFirstFrom numbers from k → IsNextFor r a from k
  next_found from k first = record {
    after = first.after;
    is = let for = of_key list k a (member_is (map key_of list) a first.place k first.is).0 in (for.0, subst (λ cs. slice_get cs k ≡ Some for.0) (sym are) for.1, for.2);
    between = λ j le less for. let q = stands_in j for in earlier j q.0 le less q.1;
  }
    where
      later : (j q : ℕ) → j < k → slice_get numbers q ≡ Some j → (first.place ≡ q) ⊎ (first.place < q) → ⊥
      later j q less there (inl e) = let same : k ≡ j = same_Some k j (sym first.is ∙ ap (slice_get numbers) e ∙ there) in absurd (omega (arith, less, same))
      later j q less there (inr l) = let more : k < j = rising first.place q k j l first.is there in absurd (omega (arith, less, more))

      earlier : (j q : ℕ) → from ≤ j → j < k → slice_get numbers q ≡ Some j → ⊥
      earlier j q le less there =
          dite (dec_lt q first.place)
          (λ h. let under : j < from = first.before q j h there in absurd (omega (arith, under, le)))
          (λ h. later j q less there (eq-or-lt_of_le (omega (arith, h))))

  pub none_for : (from : ℕ) → AreBelow numbers from → NoneFor r a from
  none_for from below j le for = let q = stands_in j for in let under : j < from = below q.0 j q.1 in absurd (omega (arith, under, le))

  -- behind the groups there is none
  pub none_behind : (groups : List (List ℕ)) → AreGrouped list groups → length groups ≤ a → (from : ℕ) → NoneFor r a from
  none_behind groups grouped le from j l for =
      let under : a < length groups = grouped.within.within j a (has_key list j a for.0 (subst (λ cs. slice_get cs j ≡ Some for.0) are for.1) for.2) in
      absurd (omega (arith, under, le))

-- the group of an attribute has these numbers
pub group_found : (list : List KeptContribution) (groups : List (List ℕ)) (g a : ℕ) (members : List ℕ) → AreGrouped list groups → g ≡ a → slice_get groups g ≡ Some members → members ≡ numbers_of (map key_of list) a
group_found list groups g a members grouped same there =
    (group_is (map key_of list) (length groups) a members (ap (λ gs. slice_get gs a) (sym grouped.are) ∙ ap (slice_get groups) (sym same) ∙ there)).1

pub none_then : {X P Q : Type 0} (o : Option X) → (P → Q) → IfNone o P → IfNone o Q
none_then None f h = f h
none_then (Some x) f h = tt
