-- The makers that are kept, by their numbers.
use Rattle.std.proofs.Common.{◌≡◌, inl, inr, ℕ, zero, suc, ◌-◌, ◌<◌, ◌==◌, false, cond, List, [], ◌∷◌, ◌++◌, Option, Some, None, OnErr, OnOk, Result, Ok, Err, length, map, reverse, slice_get, arith, refl, sym, ap, subst, ◌∙◌}
use Rattle.std.specs.Option.{option_map}
use Rattle.std.proofs.lemmas.Bool.{cases_lt, cond-false, cond-true, eq-eqb, ne_eqb}
use Rattle.std.proofs.lemmas.Bool.Decides.{nat_tests}
use Rattle.std.proofs.lemmas.List.{length-map, length-reverse, reverse-append, reverse-reverse}
use Rattle.std.proofs.lemmas.Option.{slice_get-get_or, same_Some, slice_get-map, slice_get_past}
use Rattle.std.specs.Borrow.{Bor}
use Rattle.std.specs.HashMap.{HashMap, get}
use Rattle.std.specs.Map.{lookup}
use Rattle.std.specs.Slice.{IsGetResult}
use Rattle.equation_law.specs.contracts.coding.InstancePartialEq.TheImpl as equality
use Rattle.rag_io.specs.declared.Memory.{Memory}
use Rattle.equation_law.specs.declared.system.System.{System}
use Rattle.equation_law.specs.Codes.{IsCoded, instance_by}
use Rattle.equation_law.specs.Systems.{program_of}
use Rattle.equation_law.proofs.Keys.{key_is, key_self}
use Rattle.equation_law.specs.declared.coding.Instance.{Instance as CodedInstance}
use Rattle.equation_law.specs.Program.{Program}
use Rattle.made_trees.specs.declared.makers.Maker.{Maker}
use Rattle.made_trees.specs.Made.{AreMakers, CanMake, maker_at, naming_by_makers}
use Rattle.made_trees.specs.Makers.{AreKept, IsEquationAt, IsNumberOf, Keeps, KeepsMaking, Stays, Trees, instance_in, makers_in, making_for, naming_of, program_for}
use Rattle.made_trees.proofs.Naming.{instance_kept, kept_behind, last_or_before, number_below, true_or_false}
use Rattle.made_trees.proofs.Stands.{get_left, get_right}

same_test : (n t : ℕ) → (n == t) ≡ (suc n == suc t)
same_test n t = grind (arith, nat_tests)

eqb-false : (a b : ℕ) → (a == b) ≡ false → a ≡ b → ⊥
eqb-false a b e same = let is = eq-eqb a b same in cc

-- with one more at the end
last_get : (xs : List CodedInstance) (x : CodedInstance) (t : ℕ) → slice_get (xs ++ x ∷ []) t ≡ cond (length xs == t) (Some x) (slice_get xs t)
last_get [] x zero = refl
last_get [] x (suc t) = sym (cond-false (0 == suc t) _ _ (ne_eqb 0 (suc t) (λ e. omega (arith, e))))
last_get (y ∷ xs) x zero = sym (cond-false (suc (length xs) == 0) _ _ (ne_eqb (suc (length xs)) 0 (λ e. omega (arith, e))))
last_get (y ∷ xs) x (suc t) = last_get xs x t ∙ ap (λ b. cond b (Some x) (slice_get xs t)) (same_test (length xs) t)

pub maker_there : (ms : List CodedInstance) (t : ℕ) → maker_at ms t ≡ slice_get (reverse ms) t
maker_there [] t = refl
maker_there (m ∷ ms) t =
    ap (λ (k : ℕ). cond (k == t) (Some m) (maker_at ms t)) (sym (length-reverse ms)) ∙ ap (cond (length (reverse ms) == t) (Some m)) (maker_there ms t)
    ∙ sym (last_get (reverse ms) m t) ∙ ap (λ (l : List CodedInstance). slice_get l t) (sym (reverse-append (m ∷ []) ms))

pub kept_maker : (kept : List Maker) (t : ℕ) → maker_at (makers_in kept) t ≡ option_map instance_in (slice_get kept t)
kept_maker kept t = maker_there (makers_in kept) t ∙ ap (λ (l : List CodedInstance). slice_get l t) (reverse-reverse (map instance_in kept)) ∙ slice_get-map instance_in kept t

pub kept_length : (kept : List Maker) → length (makers_in kept) ≡ length kept
kept_length kept = length-reverse (map instance_in kept) ∙ length-map kept instance_in

pub kept_more : (kept : List Maker) (m : Maker) → makers_in (kept ++ m ∷ []) ≡ m.instance ∷ makers_in kept
kept_more kept m = ap reverse (map_last kept m) ∙ reverse-append (map instance_in kept) (m.instance ∷ [])
  where
    map_last : (kept : List Maker) (m : Maker) → map instance_in (kept ++ m ∷ []) ≡ map instance_in kept ++ m.instance ∷ []
    map_last [] m = refl
    map_last (k ∷ kept) m = ap (λ (l : List CodedInstance). k.instance ∷ l) (map_last kept m)

-- there are codes for all
pub few_makers : (p : Program) (ms : List CodedInstance) → AreMakers p ms → length ms < 268431360
few_makers p [] all = omega arith
few_makers p (m ∷ ms) all = let few = all.3 in omega (arith, few)

pub maker_below : (ms : List CodedInstance) (t : ℕ) → t < length ms → (x : CodedInstance) × (maker_at ms t ≡ Some x)
maker_below [] t l = absurd (omega (arith, l))
maker_below (m ∷ ms) t l = elim (true_or_false (length ms == t)) [
  | inl is ↦ (m, cond-true (length ms == t) _ _ is)
  | inr is ↦ let different = eqb-false (length ms) t is in let r = maker_below ms t (omega (arith, l, different)) in (r.0, cond-false (length ms == t) _ _ is ∙ r.1)
]

-- what `get` gives
pub get_is : {X : Type 0} (xs : List X) (i : ℕ) (r : Option (Bor X)) → IsGetResult xs i i r → option_map (λ x. x.now) r ≡ slice_get xs i
get_is xs i None h = sym (slice_get_past xs i h.3)
get_is xs i (Some x) h = ap Some h.1 ∙ sym (slice_get-get_or xs i x.now h.3.0)

-- in an empty map none has a number
pub none_known : {S : Type 0} (known : HashMap CodedInstance ℕ S) → known.entries ≡ [] → (i : CodedInstance) → IsNumberOf [] i (get equality.ghosts.eq known i)
none_known known empty i =
    let none : get equality.ghosts.eq known i ≡ None = ap (lookup (equality.ghosts.eq i)) empty in
    subst (λ (o : Option ℕ). IsNumberOf [] i o) (sym none) (λ t e. absurd (let wrong : None ≡ Some i = e in cc))

-- with a maker more, each has its number
number_more : (p : Program) (ms : List CodedInstance) (m i : CodedInstance) (o : Option ℕ) → ((t : ℕ) → maker_at ms t ≡ Some m → ⊥) → IsNumberOf ms i o → IsNumberOf (m ∷ ms) i (cond (equality.ghosts.eq m i) (Some (length ms)) o)
number_more p ms m i o new number = elim (true_or_false (equality.ghosts.eq m i)) [
  | inl is ↦ subst (IsNumberOf (m ∷ ms) i) (sym (cond-true (equality.ghosts.eq m i) _ _ is)) (cond-true (length ms == length ms) _ _ (eq-eqb (length ms) (length ms) refl) ∙ ap Some (key_is m i is))
  | inr is ↦ subst (IsNumberOf (m ∷ ms) i) (sym (cond-false (equality.ghosts.eq m i) _ _ is)) (other o number (λ same. let self = key_self m in let wrong : equality.ghosts.eq m m ≡ false = subst (λ (x : CodedInstance). equality.ghosts.eq m x ≡ false) (sym same) is in cc))
]
  where
    other : (o : Option ℕ) → IsNumberOf ms i o → (m ≡ i → ⊥) → IsNumberOf (m ∷ ms) i o
    other (Some t) there different = let low = number_below p ms t i there in cond-false (length ms == t) _ _ (ne_eqb (length ms) t (λ same. omega (arith, same, low))) ∙ there
    other None none different = λ t e. elim (last_or_before p m ms t i e) [
      | inl h ↦ different h.1
      | inr h ↦ none t h
    ]

-- and its equation
making_more : (p : Program) (m : CodedInstance) (ms : List CodedInstance) → AreMakers p ms → (t : ℕ) (k : Maker) → maker_at ms t ≡ Some k.instance → KeepsMaking p (naming_by_makers p ms) k → KeepsMaking p (naming_by_makers p (m ∷ ms)) k
making_more p m ms all t k there h = record { making = ap (making_for p) (kept_behind p m ms all t k.instance there) ∙ h.making; within = h.within }

only_one : (m k : Maker) (d : ℕ) → slice_get (m ∷ []) d ≡ Some k → m ≡ k
only_one m k zero e = same_Some m k e
only_one m k (suc d) e = absurd (let wrong : None ≡ Some k = e in cc)

each : {S : Type 0} (p : Program) (kept : List Maker) (known : HashMap CodedInstance ℕ S) (m : Maker) → AreKept p kept known → CanMake p (length (makers_in kept)) m.instance → KeepsMaking p (naming_by_makers p (makers_in kept)) m → (t : ℕ) (k : Maker) → slice_get (kept ++ m ∷ []) t ≡ Some k
    → KeepsMaking p (naming_by_makers p (m.instance ∷ makers_in kept)) k
each p kept known m old can making t k e = elim (cases_lt t (length kept)) [
  | inl l ↦ let here = sym (get_left kept (m ∷ []) t l) ∙ e in making_more p m.instance (makers_in kept) old.makers t k (kept_maker kept t ∙ ap (option_map instance_in) here) (old.equations t k here)
  | inr g ↦
      let last = only_one m k (t - length kept) (sym (get_right kept (m ∷ []) (t - length kept) t (omega (arith, g))) ∙ e) in
      subst (λ (x : Maker). KeepsMaking p (naming_by_makers p (m.instance ∷ makers_in kept)) x) last (record { making = ap (making_for p) (instance_kept p m.instance (makers_in kept) m.instance can) ∙ making.making; within = making.within })
]

pub kept_again : {S : Type 0} (p : Program) (kept after : List Maker) (known more : HashMap CodedInstance ℕ S) (m : Maker) → AreKept p kept known → Keeps kept known m after more → IsCoded p m.instance → CanMake p (length (makers_in kept)) m.instance → IsNumberOf (makers_in kept) m.instance None → length (makers_in kept) < 268431359
    → KeepsMaking p (naming_by_makers p (makers_in kept)) m → AreKept p after more
kept_again p kept after known more m old keeps coded can new few making =
    let ms = makers_in kept in
    let next = kept_more kept m in
    let all : AreMakers p (m.instance ∷ ms) = (coded, can, new, omega (arith, few), old.makers) in
    let long = kept_length kept in
    let whole : AreKept p (kept ++ m ∷ []) more = record {
      makers = subst (AreMakers p) (sym next) all;
      equations = λ t k e. subst (λ (l : List CodedInstance). KeepsMaking p (naming_by_makers p l) k) (sym next) (each p kept known m old can making t k e);
      numbers = λ i. subst (λ (l : List CodedInstance). IsNumberOf l i (get equality.ghosts.eq more i)) (sym next)
          (subst (IsNumberOf (m.instance ∷ ms) i) (ap (λ (n : ℕ). cond (equality.ghosts.eq m.instance i) (Some n) (get equality.ghosts.eq known i)) long ∙ sym (keeps.numbers i)) (number_more p ms m.instance i (get equality.ghosts.eq known i) new (old.numbers i)));
      small = old.small;
      fit = old.fit;
      few = old.few;
    } in
    subst (λ (l : List Maker). AreKept p l more) (sym keeps.items) whole

-- what a maker more is to fulfil
pub record IsFit (T : Trees) (m : Maker) : Type 0 where
  pub coded : IsCoded (program_for T) m.instance
  pub can : CanMake (program_for T) (length T.makers) m.instance
  pub new : IsNumberOf T.makers m.instance None
  pub few : length T.makers < 268431359
  pub making : KeepsMaking (program_for T) (naming_of T) m

kept_stays : {S : Type 0} (p : Program) (kept after : List Maker) (known more : HashMap CodedInstance ℕ S) → AreKept p kept known → Stays kept known after more → AreKept p after more
kept_stays p kept after known more old stays = subst (λ (l : List Maker). AreKept p l more) (sym stays.items) (record {
  makers = old.makers;
  equations = old.equations;
  numbers = λ i. subst (IsNumberOf (makers_in kept) i) (sym (stays.numbers i)) (old.numbers i);
  small = old.small;
  fit = old.fit;
  few = old.few;
})

pub kept_either : {S : Type 0} (s : System) (kept after : List Maker) (known more : HashMap CodedInstance ℕ S) (m : Maker) (r : Result (Unit {0}) Memory) → AreKept (program_of s) kept known → OnOk r (Keeps kept known m after more) → OnErr r (Stays kept known after more)
    → IsFit (record { system = s; makers = makers_in kept }) m → AreKept (program_of s) after more
kept_either s kept after known more m (Ok u) old keeps stays fit = kept_again (program_of s) kept after known more m old keeps fit.coded fit.can fit.new fit.few fit.making
kept_either s kept after known more m (Err e) old keeps stays fit = kept_stays (program_of s) kept after known more old stays

pub makers_ok : {S : Type 0} (kept after : List Maker) (known more : HashMap CodedInstance ℕ S) (m : Maker) (r : Result (Unit {0}) Memory) → OnOk r (Keeps kept known m after more) → OnOk r (makers_in after ≡ m.instance ∷ makers_in kept)
makers_ok kept after known more m (Ok u) keeps = ap makers_in keeps.items ∙ kept_more kept m
makers_ok kept after known more m (Err e) keeps = tt

pub makers_err : {S : Type 0} (kept after : List Maker) (known more : HashMap CodedInstance ℕ S) (r : Result (Unit {0}) Memory) → OnErr r (Stays kept known after more) → OnErr r (makers_in after ≡ makers_in kept)
makers_err kept after known more (Ok u) stays = tt
makers_err kept after known more (Err e) stays = ap makers_in stays.items

-- the equation that is kept with a maker is the one by which it made its tree
pub equation_kept : {S : Type 0} (s : System) (kept : List Maker) (known : HashMap CodedInstance ℕ S) (t : ℕ) (m : Maker) → AreKept (program_of s) kept known → slice_get kept t ≡ Some m → IsEquationAt (record { system = s; makers = makers_in kept }) t m.equation
equation_kept s kept known t m old here = record {
  within = (old.equations t m here).within;
  making = λ x there.
      let same : m.instance ≡ x = same_Some m.instance x (sym (kept_maker kept t ∙ ap (option_map instance_in) here) ∙ there) in
      ap (λ (y : CodedInstance). making_for (program_of s) (instance_by (program_of s) (naming_by_makers (program_of s) (makers_in kept)) y)) (sym same) ∙ (old.equations t m here).making;
}
