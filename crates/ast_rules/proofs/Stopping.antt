-- A check of classes in their order may stop at the first that breaks a rule, where places rise.
use Rattle.std.proofs.Common.{◌≡◌, ℕ, zero, suc, ◌+◌, ◌==◌, ◌<◌, ◌⊎◌, ◌||◌, inl, inr, get_or, take, drop, add-zero, append_assoc, List, [], ◌∷◌, ◌++◌, Bool, true, false, length, map, slice_get, Option, Some, None, refl, ap, sym, ◌∙◌, subst, arith}
use Rattle.std.specs.List.{Contains}
use Rattle.rag_io.specs.Places.{IsAhead}
use Rattle.rag_io.specs.declared.token.Place.{Place}
use Rattle.broken_rules.specs.Answers.{Has, Stops}
use Rattle.broken_rules.specs.declared.broken.Broken.{Broken}
use Rattle.broken_rules.specs.declared.rule.Rule.{Rule}
use Rattle.broken_rules.specs.Notes.{at, broken_if, each_after, each_from}
use Rattle.broken_rules.specs.declared.rule.Rule.TheVariants.{G6, G10}
use Rattle.std.proofs.lemmas.Bool.Decides.{nat_tests}
use Rattle.std.proofs.lemmas.List.{take-append-drop}
use Rattle.std.proofs.lemmas.Option.{slice_get_read}
use Rattle.broken_rules.specs.Order.{broken_cmp, first_of, is_before}
use Rattle.broken_rules.specs.declared.broken.ReadFault.{ReadFault}
use Rattle.broken_rules.specs.declared.broken.ReadFault.TheVariants as faults
use Rattle.broken_rules.proofs.Noting.{notes_each_from}
use Rattle.broken_rules.proofs.Order.{first_of-has}
use Rattle.broken_rules.proofs.Sets.{notes_late}
use Rattle.names.specs.Among.{is_among}
use Rattle.ast_rules.specs.Members.{Rises, members_broken, class_broken, inherited_names, member_broken, names_of_components, places_of}
use Rattle.ast_rules.specs.Written.{WrittenComponent, WrittenRule}

pub has_append : (fs gs : List Broken) (b : Broken) → Has (fs ++ gs) b → Has fs b ⊎ Has gs b
has_append [] gs b h = inr h
has_append (f ∷ fs) gs b (inl e) = inl (inl e)
has_append (f ∷ fs) gs b (inr h) = elim (has_append fs gs b h) [ inl a ↦ inl (inr a) | inr r ↦ inr r ]

if_place : (t : Bool) (p : Place) (r : Rule) (b : Broken) → Has (broken_if t (at p r)) b → b.place ≡ p
if_place true p r b (inl e) = ap (λ x. x.place) e
if_place true p r b (inr h) = absurd h
if_place false p r b h = absurd h

there : (p q : Place) (ps : List Place) → Contains ps p → Contains (q ∷ ps) p
there p q ps h = let lt : h.0 < length ps = h.1 in (suc h.0, omega arith, h.2)

here : (p q : Place) (ps : List Place) → p ≡ q → Contains (q ∷ ps) p
here p q ps e = (0, omega arith, sym e)

member_place : (known : List ℕ → Bool) (count : ℕ) (before : List WrittenComponent) (c : WrittenComponent) (b : Broken) → Has (member_broken known count before c) b → b.place ≡ c.name.place
member_place known count before c b h =
    let twice = known c.name.text || is_among (names_of_components before) c.name.text in
    let many = count + length before == 16 in
    elim (has_append (broken_if twice (at c.name.place G6)) (broken_if many (at c.name.place G10)) b h) [
      | inl a ↦ if_place twice c.name.place G6 b a
      | inr a ↦ if_place many c.name.place G10 b a
    ]

after_place : (known : List ℕ → Bool) (count : ℕ) (before cs : List WrittenComponent) (b : Broken) → Has (each_after (member_broken known count) before cs) b → Contains (map (λ c. c.name.place) cs) b.place
after_place known count before [] b h = absurd h
after_place known count before (c ∷ cs) b h =
    elim (has_append (member_broken known count before c) (each_after (member_broken known count) (before ++ c ∷ []) cs) b h) [
      | inl a ↦ here b.place c.name.place (map (λ c. c.name.place) cs) (member_place known count before c b a)
      | inr a ↦ there b.place c.name.place (map (λ c. c.name.place) cs) (after_place known count (before ++ c ∷ []) cs b a)
    ]

-- what a class breaks stands at one of its rule's places
pub class_place : (rules : List WrittenRule) (superclasses : List (Option ℕ)) (i : ℕ) (rule : WrittenRule) (b : Broken) → Has (class_broken rules superclasses i rule) b → Contains (places_of rule) b.place
class_place rules superclasses i rule b h =
    let inherited = inherited_names rules superclasses i in
    let places = map (λ c. c.name.place) rule.components in
    elim (has_append (broken_if (i == 256) (at rule.name.place G10)) (each_after (member_broken (is_among inherited) (length inherited)) [] rule.components) b h) [
      | inl a ↦ here b.place rule.name.place places (if_place (i == 256) rule.name.place G10 b a)
      | inr a ↦ there b.place rule.name.place places (after_place (is_among inherited) (length inherited) [] rule.components b a)
    ]

each_from_append : {X : Type 0} (f : ℕ → X → List Broken) (i : ℕ) (xs ys : List X) → each_from f i (xs ++ ys) ≡ each_from f i xs ++ each_from f (i + length xs) ys
each_from_append f i [] ys = ap (λ n. each_from f n ys) (sym (add-zero i))
each_from_append f i (x ∷ xs) ys =
    let shifted : (i + 1) + length xs ≡ i + length (x ∷ xs) = omega arith in
    ap (λ zs. f i x ++ zs) (each_from_append f (i + 1) xs ys) ∙ sym (append_assoc (f i x) (each_from f (i + 1) xs) (each_from f ((i + 1) + length xs) ys)) ∙ ap (λ n. (f i x ++ each_from f (i + 1) xs) ++ each_from f n ys) shifted

-- the item that breaks it
record Breaks {X : Type 0} (f : ℕ → X → List Broken) (k : ℕ) (xs : List X) (b : Broken) : Type 0 where
  pub number : ℕ
  pub item : X
  pub is : slice_get xs number ≡ Some item
  pub has : Has (f (k + number) item) b

each_from_has : {X : Type 0} (f : ℕ → X → List Broken) (k : ℕ) (xs : List X) (b : Broken) → Has (each_from f k xs) b → Breaks f k xs b
each_from_has f k [] b h = absurd h
each_from_has f k (x ∷ xs) b h =
    elim (has_append (f k x) (each_from f (k + 1) xs) b h) [
      | inl a ↦ record { number = 0; item = x; is = refl; has = subst (λ n. Has (f n x) b) (sym (add-zero k)) a }
      | inr a ↦
          let w = each_from_has f (k + 1) xs b a in
          let shifted : (k + 1) + w.number ≡ k + suc w.number = omega arith in
          record { number = suc w.number; item = w.item; is = w.is; has = subst (λ n. Has (f n w.item) b) shifted w.has }
    ]

get_drop : {X : Type 0} (i : ℕ) (xs : List X) (j : ℕ) → slice_get (drop i xs) j ≡ slice_get xs (i + j)
get_drop zero xs j = let same : j ≡ 0 + j = omega arith in ap (slice_get xs) same
get_drop (suc i) [] j = refl
get_drop (suc i) (x ∷ xs) j = let same : suc (i + j) ≡ suc i + j = omega arith in get_drop i xs j ∙ ap (slice_get (x ∷ xs)) same

not_ahead : (g b : Broken) → IsAhead b.place g.place → is_before g b ≡ false
unfolding broken_cmp
not_ahead g b (inl lt) = grind (arith, nat_tests)
not_ahead g b (inr h) = let same : b.place.line ≡ g.place.line = h.0 in let lt : b.place.column < g.place.column = h.1 in grind (arith, nat_tests)

module _ (rules : List WrittenRule) (superclasses : List (Option ℕ)) (rises : Rises rules) (i : ℕ) (rule : WrittenRule) (lt : i < length rules) (is : rule ≡ get_or rules i rule) where
  late : (b g : Broken) → first_of (class_broken rules superclasses i rule) ≡ Some b → (k : ℕ) → Has (each_from (class_broken rules superclasses) k (drop (i + 1) rules)) g → is_before g b ≡ false
  late b g found k h =
      let w = each_from_has (class_broken rules superclasses) k (drop (i + 1) rules) g h in
      not_ahead g b (rises.ahead i ((i + 1) + w.number) rule w.item (omega arith) (slice_get_read rules (length rules) i rule refl lt is) (sym (get_drop (i + 1) rules w.number) ∙ w.is) b.place g.place
      (class_place rules superclasses i rule b (first_of-has (class_broken rules superclasses i rule) b found)) (class_place rules superclasses (k + w.number) w.item g w.has))

  stops_at : (b : Broken) → first_of (each_from (class_broken rules superclasses) 0 (take i rules)) ≡ None → first_of (class_broken rules superclasses i rule) ≡ Some b → first_of (members_broken rules superclasses) ≡ Some b
  stops_at b clean found =
      let f = class_broken rules superclasses in
      let so_far = notes_each_from f rules i {x = rule} {a = None} {b = None} {c = Some b} is lt (record { is = sym clean }) (record { is = sym found }) in
      let whole : members_broken rules superclasses ≡ each_from f 0 (take (i + 1) rules) ++ each_from f (0 + length (take (i + 1) rules)) (drop (i + 1) rules) =
      ap (each_from f 0) (sym (take-append-drop (i + 1) rules)) ∙ each_from_append f 0 (take (i + 1) rules) (drop (i + 1) rules) in
      ap first_of whole ∙ sym (notes_late (each_from f 0 (take (i + 1) rules)) (each_from f (0 + length (take (i + 1) rules)) (drop (i + 1) rules)) b so_far (λ g h. late b g found (0 + length (take (i + 1) rules)) h)).is

  -- a fault of a class behind clean ones is the phase's
  pub stops : (e : ReadFault) → first_of (each_from (class_broken rules superclasses) 0 (take i rules)) ≡ None → Stops (class_broken rules superclasses i rule) e → Stops (members_broken rules superclasses) e
  stops (faults.Broken b) clean found = stops_at b clean found
  stops faults.Memory clean found = tt
