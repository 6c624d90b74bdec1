-- The accessor that is found by a name is the first one that it spells.
use Rattle.std.proofs.Common.{◌≡◌, ◌==◌, ◌↔◌, ℕ, zero, suc, ◌-◌, ◌<◌, ◌≤◌, List, [], ◌∷◌, ◌++◌, Bool, true, false, not, ◌||◌, Option, Some, None, codes, drop, take, length, length-append, map, position, slice_get, if◌then◌else◌, refl, ap, sym, ◌∙◌, subst, arith, eqb-true}
use Rattle.std.specs.List.{list_any}
use Rattle.std.specs.Option.{option_and_then, option_map, option_or}
use Rattle.std.specs.Str.{bytes_eq}
use Rattle.std.proofs.Math.Seq.{drop-append_seam, take-append_seam}
use Rattle.std.proofs.lemmas.Bool.{and_parts}
use Rattle.std.proofs.lemmas.Bool.Decides.{Decides-eqb}
use Rattle.std.proofs.lemmas.List.{take-append-drop}
use Rattle.std.proofs.lemmas.Option.{get_or_from_slice_get, slice_get_within}
use Rattle.std.proofs.lemmas.Slice.Eq.{bytes_eq-Decides}
use Rattle.rag_io.specs.Distinct.{are_distinct}
use Rattle.ast_grammar.specs.declared.grammar.Shape.{Shape}
use Rattle.ast_grammar.specs.declared.grammar.Shape.TheVariants as shapes
use Rattle.ast_grammar.specs.Grammar.{Class, Component, IsGrammar, component_at, component_named, components_in, components_of, name_of_component}
use Rattle.attr_rules.specs.declared.accessors.Access.{Access}
use Rattle.attr_rules.specs.declared.accessors.Access.TheVariants as access
use Rattle.attr_rules.specs.declared.accessors.Accessor.{Accessor}
use Rattle.attr_rules.specs.declared.kinds.Kind.TheVariants as kinds
use Rattle.attr_rules.specs.Accessors.{accessor_at, accessor_named, accessor_of, accessor_on, any_accessor, arguments_of, before, behind, counting, fitting, getting, got, having, indexing, listing, of_list, of_optional, reading, takes}
use Rattle.attr_scope.proofs.ItemsFound.{position_found}
use Rattle.typing_rules.specs.MemberRules as rules
use Rattle.typing_rules.specs.MemberRules.{IsGot, IsMeant, Spells, rank}
use Rattle.typing_rules.proofs.NamesMean.{position_further, position_here}

-- texts by their front and their back
behind_from : (front text rest : List ℕ) → behind front text ≡ Some rest → text ≡ front ++ rest
behind_from front text rest e = elim (bytes_eq (take (length front) text) front) as (λ b. bytes_eq (take (length front) text) front ≡ b → (if b then Some (drop (length front) text) else None) ≡ Some rest → text ≡ front ++ rest) [
  | true ↦ λ is e.
      let same : drop (length front) text ≡ rest = cc in
      let head : take (length front) text ≡ front = (bytes_eq-Decides (take (length front) text) front).0 is in
      sym (take-append-drop (length front) text) ∙ (λ i. head i ++ same i)
  | false ↦ λ is e. absurd (cc)
] refl e

behind_of : (front rest : List ℕ) → behind front (front ++ rest) ≡ Some rest
behind_of front rest =
    let same : bytes_eq (take (length front) (front ++ rest)) front ≡ true = (bytes_eq-Decides (take (length front) (front ++ rest)) front).1 (take-append_seam front rest) in
    ap (λ b. if b then Some (drop (length front) (front ++ rest)) else None) same ∙ ap Some (drop-append_seam front rest)

before_from : (back text front : List ℕ) → before back text ≡ Some front → text ≡ front ++ back
before_from back text front e = elim (bytes_eq (drop (length text - length back) text) back) as (λ b. bytes_eq (drop (length text - length back) text) back ≡ b → (if b then Some (take (length text - length back) text) else None) ≡ Some front → text ≡ front ++ back) [
  | true ↦ λ is e.
      let n = length text - length back in
      let same : take n text ≡ front = cc in
      let tail : drop n text ≡ back = (bytes_eq-Decides (drop n text) back).0 is in
      sym (take-append-drop n text) ∙ (λ i. same i ++ tail i)
  | false ↦ λ is e. absurd (cc)
] refl e

before_of : (back front : List ℕ) → before back (front ++ back) ≡ Some front
before_of back front =
    let text = front ++ back in
    let many : length text - length back ≡ length front = omega (arith, length-append front back) in
    let tail : drop (length text - length back) text ≡ back = ap (λ (n : ℕ). drop n text) many ∙ drop-append_seam front back in
    let same : bytes_eq (drop (length text - length back) text) back ≡ true = (bytes_eq-Decides (drop (length text - length back) text) back).1 tail in
    ap (λ b. if b then Some (take (length text - length back) text) else None) same ∙ ap Some (ap (λ (n : ℕ). take n text) many ∙ take-append_seam front back)

-- a component is found by its name, where names differ
either_none : (a b : Bool) → (a || b) ≡ false → (a ≡ false) × (b ≡ false)
either_none true b e = absurd (cc)
either_none false b e = (refl, e)

none_passes : {X : Type 0} (p : X → Bool) (xs : List X) (k : ℕ) (x : X) → list_any p xs ≡ false → slice_get xs k ≡ Some x → p x ≡ false
none_passes p [] k x none is = absurd (cc)
none_passes p (y ∷ ys) zero x none is = let same : y ≡ x = cc in subst (λ z. p z ≡ false) same (either_none (p y) (list_any p ys) none).0
none_passes p (y ∷ ys) (suc k) x none is = none_passes p ys k x (either_none (p y) (list_any p ys) none).1 is

name_at : (xs : List Component) (k : ℕ) (x : Component) → slice_get xs k ≡ Some x → slice_get (map name_of_component xs) k ≡ Some x.name
name_at [] k x is = absurd (cc)
name_at (y ∷ ys) zero x is = let same : y ≡ x = cc in ap (λ (z : Component). Some z.name) same
name_at (y ∷ ys) (suc k) x is = name_at ys k x is

none_of : (b : Bool) → not b ≡ true → b ≡ false
none_of true e = absurd (cc)
none_of false e = refl

named_at : (xs : List Component) (k : ℕ) (x : Component) → are_distinct bytes_eq (map name_of_component xs) ≡ true → slice_get xs k ≡ Some x → position (λ p. bytes_eq p.name x.name) xs ≡ Some k
named_at [] k x distinct is = absurd (cc)
named_at (y ∷ ys) zero x distinct is =
    let same : y ≡ x = cc in
    position_here (λ p. bytes_eq p.name x.name) y ys ((bytes_eq-Decides y.name x.name).1 (ap name_of_component same))
named_at (y ∷ ys) (suc k) x distinct is =
    let p = λ (z : Component). bytes_eq z.name x.name in
    let names = map name_of_component ys in
    let parts = and_parts (not (list_any (bytes_eq y.name) names)) (are_distinct bytes_eq names) distinct in
    let other : bytes_eq y.name x.name ≡ false = none_passes (bytes_eq y.name) names k x.name (none_of (list_any (bytes_eq y.name) names) parts.0) (name_at ys k x is) in
    position_further p y ys other ∙ ap (option_map suc) (named_at ys k x parts.1 is)

-- an accessor that reads a named component
record IsNamed (f : Shape → Option Access) (g : List Class) (c : ℕ) (name : List ℕ) (x : Accessor) : Type 0 where
  pub number : ℕ
  pub component : Component
  pub access : Access
  pub found : component_at g c number ≡ Some component
  pub named : component.name ≡ name
  pub of : f component.shape ≡ Some access
  pub is : reading number component.class access ≡ x

module _ (f : Shape → Option Access) (g : List Class) (c : ℕ) where
  on_from : (name : List ℕ) (k : ℕ) (p : Component) (x : Accessor) (o : Option Access) → component_at g c k ≡ Some p → p.name ≡ name → f p.shape ≡ o → option_map (reading k p.class) o ≡ Some x → IsNamed f g c name x
  on_from name k p x None found named of e = absurd (cc)
  on_from name k p x (Some a) found named of e = record { number = k; component = p; access = a; found = found; named = named; of = of; is = cc }

  at_from : (name : List ℕ) (k : ℕ) (p : Component) (x : Accessor) → component_at g c k ≡ Some p → p.name ≡ name → accessor_at f g c k ≡ Some x → IsNamed f g c name x
  at_from name k p x found named e = on_from name k p x (f p.shape) found named refl (ap (option_and_then (accessor_on f k)) (sym found) ∙ e)

  named_by : (name : List ℕ) (x : Accessor) (o : Option ℕ) → component_named g c name ≡ o → option_and_then (accessor_at f g c) o ≡ Some x → IsNamed f g c name x
  named_by name x None is e = absurd (cc)
  named_by name x (Some k) is e =
      let found = position_found (λ (p : Component). bytes_eq p.name name) (components_of g c) k is in
      at_from name k found.0 x found.1 ((bytes_eq-Decides found.0.name name).0 found.2) e

  named_from : (name : List ℕ) (x : Accessor) → accessor_named f g c name ≡ Some x → IsNamed f g c name x
  named_from name x e = named_by name x (component_named g c name) refl e

  -- behind a front
  behind_named : (front name : List ℕ) (x : Accessor) (o : Option (List ℕ)) → behind front name ≡ o → option_and_then (accessor_named f g c) o ≡ Some x → (rest : List ℕ) × (name ≡ front ++ rest) × IsNamed f g c rest x
  behind_named front name x None is e = absurd (cc)
  behind_named front name x (Some rest) is e = (rest, behind_from front name rest is, named_from rest x e)

class_at : (g : List Class) (c : ℕ) (o : Option Class) (k : ℕ) (p : Component) → IsGrammar g → slice_get g c ≡ o → slice_get (components_in o) k ≡ Some p → are_distinct bytes_eq (map name_of_component (components_in o)) ≡ true
class_at g c None k p is_grammar is e = absurd (cc)
class_at g c (Some class) k p is_grammar is e =
    let at_c = is_grammar.classes c class (slice_get_within g c class is) in
    subst (λ (d : Class). are_distinct bytes_eq (map name_of_component d.components) ≡ true) (get_or_from_slice_get g c class class is) at_c.distinct

module _ (g : List Class) (is_grammar : IsGrammar g) (c : ℕ) (k : ℕ) (p : Component) (found : component_at g c k ≡ Some p) where
  component_is : component_named g c p.name ≡ Some k
  component_is = named_at (components_of g c) k p (class_at g c (slice_get g c) k p is_grammar refl found) found

  named_of : (f : Shape → Option Access) (a : Access) → f p.shape ≡ Some a → accessor_named f g c p.name ≡ Some (reading k p.class a)
  named_of f a is = ap (option_and_then (accessor_at f g c)) component_is ∙ ap (option_and_then (accessor_on f k)) found ∙ ap (option_map (reading k p.class)) is

  behind_then : (f : Shape → Option Access) (front : List ℕ) (a : Access) → f p.shape ≡ Some a → option_and_then (accessor_named f g c) (behind front (front ++ p.name)) ≡ Some (reading k p.class a)
  behind_then f front a is = ap (option_and_then (accessor_named f g c)) (behind_of front p.name) ∙ named_of f a is

-- shapes of components, and what is read of them
got_is : (s : Shape) (a : Access) → got s ≡ Some a → IsGot s a × (rank a ≡ 0)
got_is shapes.Child a e = let same : access.Child ≡ a = cc in subst (λ b. IsGot shapes.Child b × (rank b ≡ 0)) same (rules.child, refl)
got_is shapes.List a e = absurd (cc)
got_is shapes.Optional a e = let same : access.Child ≡ a = cc in subst (λ b. IsGot shapes.Optional b × (rank b ≡ 0)) same (rules.optional, refl)
got_is shapes.Text a e = let same : access.Token kinds.Text ≡ a = cc in subst (λ b. IsGot shapes.Text b × (rank b ≡ 0)) same (rules.text, refl)
got_is shapes.Int a e = let same : access.Token kinds.Int ≡ a = cc in subst (λ b. IsGot shapes.Int b × (rank b ≡ 0)) same (rules.int, refl)
got_is shapes.Truth a e = let same : access.Token kinds.Truth ≡ a = cc in subst (λ b. IsGot shapes.Truth b × (rank b ≡ 0)) same (rules.truth, refl)

is_got : (s : Shape) (a : Access) → IsGot s a → (got s ≡ Some a) × (rank a ≡ 0)
is_got s a rules.child = (refl, refl)
is_got s a rules.optional = (refl, refl)
is_got s a rules.text = (refl, refl)
is_got s a rules.int = (refl, refl)
is_got s a rules.truth = (refl, refl)

optional_is : (b : Access) (s : Shape) (a : Access) → of_optional b s ≡ Some a → (s ≡ shapes.Optional) × (b ≡ a)
optional_is b shapes.Child a e = absurd (cc)
optional_is b shapes.List a e = absurd (cc)
optional_is b shapes.Optional a e = (refl, cc)
optional_is b shapes.Text a e = absurd (cc)
optional_is b shapes.Int a e = absurd (cc)
optional_is b shapes.Truth a e = absurd (cc)

list_is : (b : Access) (s : Shape) (a : Access) → of_list b s ≡ Some a → (s ≡ shapes.List) × (b ≡ a)
list_is b shapes.Child a e = absurd (cc)
list_is b shapes.List a e = (refl, cc)
list_is b shapes.Optional a e = absurd (cc)
list_is b shapes.Text a e = absurd (cc)
list_is b shapes.Int a e = absurd (cc)
list_is b shapes.Truth a e = absurd (cc)

-- The five forms of accessors, by their ranks.
module _ (g : List Class) (c : ℕ) (name : List ℕ) where
  abbrev forms : List (Option Accessor)
  forms = getting g c name ∷ having g c name ∷ counting g c name ∷ listing g c name ∷ indexing g c name ∷ []

  abbrev IsSpelled : ℕ → Accessor → Type 0
  IsSpelled i x = Spells g c name x × (rank x.access ≡ i)

  -- a name that is a front and the name of a component
  spelled_by : (i : ℕ) (f : Shape → Option Access) (front : List ℕ) (x : Accessor)
      → ((k : ℕ) (p : Component) (a : Access) → component_at g c k ≡ Some p → f p.shape ≡ Some a → Spells g c (front ++ p.name) (reading k p.class a) × (rank a ≡ i))
      → option_and_then (accessor_named f g c) (behind front name) ≡ Some x → IsSpelled i x
  spelled_by i f front x each e =
      let found = behind_named f g c front name x (behind front name) refl e in
      let n = found.2 in
      let here = each n.number n.component n.access n.found n.of in
      let text : front ++ n.component.name ≡ name = ap (λ (rest : List ℕ). front ++ rest) n.named ∙ sym found.1 in
      (subst (Spells g c name) n.is (subst (λ t. Spells g c t (reading n.number n.component.class n.access)) text here.0), ap (λ (y : Accessor). rank y.access) (sym n.is) ∙ here.1)

  getting_spelled : (x : Accessor) → getting g c name ≡ Some x → IsSpelled 0 x
  getting_spelled x e = spelled_by 0 got (codes "get") x (λ k p a found is. let got = got_is p.shape a is in (rules.got k p a found got.0, got.1)) e

  having_spelled : (x : Accessor) → having g c name ≡ Some x → IsSpelled 1 x
  having_spelled x e =
      spelled_by 1 (of_optional access.Has) (codes "has") x
      (λ k p a found is. let there = optional_is access.Has p.shape a is in subst (λ b. Spells g c (codes "has" ++ p.name) (reading k p.class b) × (rank b ≡ 1)) there.1 (rules.has k p found there.0, refl)) e

  counting_spelled : (x : Accessor) → counting g c name ≡ Some x → IsSpelled 2 x
  counting_spelled x e =
      spelled_by 2 (of_list access.Count) (codes "getNum") x
      (λ k p a found is. let there = list_is access.Count p.shape a is in subst (λ b. Spells g c (codes "getNum" ++ p.name) (reading k p.class b) × (rank b ≡ 2)) there.1 (rules.counted k p found there.0, refl)) e

  indexing_spelled : (x : Accessor) → indexing g c name ≡ Some x → IsSpelled 4 x
  indexing_spelled x e =
      spelled_by 4 (of_list access.Element) (codes "get") x
      (λ k p a found is. let there = list_is access.Element p.shape a is in subst (λ b. Spells g c (codes "get" ++ p.name) (reading k p.class b) × (rank b ≡ 4)) there.1 (rules.indexed k p found there.0, refl)) e

  -- the one that has a back too
  listed_by : (rest middle : List ℕ) (x : Accessor) → name ≡ codes "get" ++ rest → rest ≡ middle ++ codes "List" → IsNamed (of_list access.Elements) g c middle x → IsSpelled 3 x
  listed_by rest middle x behind_is before_is n =
      let there = list_is access.Elements n.component.shape n.access n.of in
      let read : reading n.number n.component.class access.Elements ≡ x = ap (reading n.number n.component.class) there.1 ∙ n.is in
      let text : codes "get" ++ (n.component.name ++ codes "List") ≡ name = ap (λ (m : List ℕ). codes "get" ++ (m ++ codes "List")) n.named ∙ ap (λ (r : List ℕ). codes "get" ++ r) (sym before_is) ∙ sym behind_is in
      (subst (Spells g c name) read (subst (λ t. Spells g c t (reading n.number n.component.class access.Elements)) text (rules.listed n.number n.component n.found there.0)), ap (λ (y : Accessor). rank y.access) (sym read))

  listed_before : (rest : List ℕ) (x : Accessor) (o : Option (List ℕ)) → name ≡ codes "get" ++ rest → before (codes "List") rest ≡ o → option_and_then (accessor_named (of_list access.Elements) g c) o ≡ Some x → IsSpelled 3 x
  listed_before rest x None behind_is is e = absurd (cc)
  listed_before rest x (Some middle) behind_is is e = listed_by rest middle x behind_is (before_from (codes "List") rest middle is) (named_from (of_list access.Elements) g c middle x e)

  listed_behind : (x : Accessor) (o : Option (List ℕ)) → behind (codes "get") name ≡ o → option_and_then (λ r. option_and_then (accessor_named (of_list access.Elements) g c) (before (codes "List") r)) o ≡ Some x → IsSpelled 3 x
  listed_behind x None is e = absurd (cc)
  listed_behind x (Some rest) is e = listed_before rest x (before (codes "List") rest) (behind_from (codes "get") name rest is) refl e

  listing_spelled : (x : Accessor) → listing g c name ≡ Some x → IsSpelled 3 x
  listing_spelled x e = listed_behind x (behind (codes "get") name) refl e

  -- what a form finds, is spelled
  found_spelled : (i : ℕ) (x : Accessor) → slice_get forms i ≡ Some (Some x) → IsSpelled i x
  found_spelled zero x e = getting_spelled x (cc)
  found_spelled (suc zero) x e = having_spelled x (cc)
  found_spelled (suc (suc zero)) x e = counting_spelled x (cc)
  found_spelled (suc (suc (suc zero))) x e = listing_spelled x (cc)
  found_spelled (suc (suc (suc (suc zero)))) x e = indexing_spelled x (cc)
  found_spelled (suc (suc (suc (suc (suc i))))) x e = absurd (cc)

-- and what is spelled, its form finds
spelled_found : {g : List Class} {c : ℕ} {name : List ℕ} {x : Accessor} → IsGrammar g → Spells g c name x → slice_get (forms g c name) (rank x.access) ≡ Some (Some x)
spelled_found {g} {c} is_grammar (rules.got k p a found is) =
    let got_it = is_got p.shape a is in
    ap (slice_get (forms g c (codes "get" ++ p.name))) got_it.1 ∙ ap Some (behind_then g is_grammar c k p found got (codes "get") a got_it.0)
spelled_found {g} {c} is_grammar (rules.has k p found is) = ap Some (behind_then g is_grammar c k p found (of_optional access.Has) (codes "has") access.Has (ap (of_optional access.Has) is))
spelled_found {g} {c} is_grammar (rules.counted k p found is) = ap Some (behind_then g is_grammar c k p found (of_list access.Count) (codes "getNum") access.Count (ap (of_list access.Count) is))
spelled_found {g} {c} is_grammar (rules.listed k p found is) =
    let f = of_list access.Elements in
    ap Some
    (ap (option_and_then (λ r. option_and_then (accessor_named f g c) (before (codes "List") r))) (behind_of (codes "get") (p.name ++ codes "List"))
    ∙ ap (option_and_then (accessor_named f g c)) (before_of (codes "List") p.name)
    ∙ named_of g is_grammar c k p found f access.Elements (ap f is))
spelled_found {g} {c} is_grammar (rules.indexed k p found is) = ap Some (behind_then g is_grammar c k p found (of_list access.Element) (codes "get") access.Element (ap (of_list access.Element) is))

-- the first that is there of some, in their order
first_some : {A : Type 0} → List (Option A) → Option A
first_some [] = None
first_some (o ∷ os) = option_or o (first_some os)

no_place : (j : ℕ) → j < 0 → ⊥
no_place j lt = omega (arith, lt)

module _ {A : Type 0} where
  five_first : (a b c d e : Option A) → option_or (option_or (option_or (option_or a b) c) d) e ≡ first_some (a ∷ b ∷ c ∷ d ∷ e ∷ [])
  unfolding first_some
  five_first (Some a) b c d e = refl
  five_first None (Some b) c d e = refl
  five_first None None (Some c) d e = refl
  five_first None None None (Some d) e = refl
  five_first None None None None (Some e) = refl
  five_first None None None None None = refl

  abbrev IsThere : List (Option A) → ℕ → A → Type 0
  IsThere os i x = slice_get os i ≡ Some (Some x)

  abbrev NoneBefore : List (Option A) → ℕ → Type 0
  NoneBefore os i = (j : ℕ) → j < i → slice_get os j ≡ Some None

  first_there : (os : List (Option A)) (x : A) → first_some os ≡ Some x → (i : ℕ) × IsThere os i x × NoneBefore os i
  unfolding first_some
  first_there [] x e = absurd (cc)
  first_there (None ∷ os) x e =
      let rest = first_there os x e in (
        suc rest.0,
        rest.1,
        λ j. elim j as (λ j. j < suc rest.0 → slice_get (None ∷ os) j ≡ Some None) [
          | zero ↦ λ lt. refl
          | suc k ↦ λ lt. rest.2 k (omega (arith, lt))
        ],
      )
  first_there (Some y ∷ os) x e = (zero, ap Some e, λ j lt. absurd (no_place j lt))

  there_first : (os : List (Option A)) (i : ℕ) (x : A) → IsThere os i x → NoneBefore os i → first_some os ≡ Some x
  unfolding first_some
  there_first [] i x is none = absurd (cc)
  there_first (o ∷ os) zero x is none = let same : o ≡ Some x = cc in ap (λ p. option_or p (first_some os)) same
  there_first (o ∷ os) (suc i) x is none =
      let same : o ≡ None = let here = none zero (omega arith) in cc in
      ap (λ p. option_or p (first_some os)) same ∙ there_first os i x is (λ j lt. none (suc j) (omega (arith, lt)))

  none_there : (os : List (Option A)) (i : ℕ) (x : A) → first_some os ≡ None → IsThere os i x → ⊥
  unfolding first_some
  none_there [] i x e is = cc
  none_there (Some y ∷ os) i x e is = cc
  none_there (None ∷ os) zero x e is = cc
  none_there (None ∷ os) (suc i) x e is = none_there os i x e is

  none_at : (os : List (Option A)) (j : ℕ) → j < length os → ((y : A) → IsThere os j y → ⊥) → slice_get os j ≡ Some None
  none_at [] j lt none = absurd (no_place j lt)
  none_at (None ∷ os) zero lt none = refl
  none_at (Some y ∷ os) zero lt none = absurd (none y refl)
  none_at (o ∷ os) (suc j) lt none = none_at os j (omega (arith, lt)) none

rank_few : (a : Access) → rank a < 5
rank_few access.Child = omega arith
rank_few (access.Token k) = omega arith
rank_few access.Has = omega arith
rank_few access.Count = omega arith
rank_few access.Elements = omega arith
rank_few access.Element = omega arith

-- those that take so many arguments
takes_is : (n : ℕ) (o : Option Accessor) (x : Accessor) → takes n o ≡ Some x → (o ≡ Some x) × (length (arguments_of x.access) ≡ n)
takes_is n None x e = absurd (cc)
takes_is n (Some y) x e = elim (length (arguments_of y.access) == n) as (λ b. (length (arguments_of y.access) == n) ≡ b → (if b then Some y else None) ≡ Some x → (Some y ≡ Some x) × (length (arguments_of x.access) ≡ n)) [
  | true ↦ λ is e. let same : y ≡ x = cc in (e, subst (λ (z : Accessor). length (arguments_of z.access) ≡ n) same (eqb-true (length (arguments_of y.access)) n is))
  | false ↦ λ is e. absurd (cc)
] refl e

takes_all : (n : ℕ) (x : Accessor) → length (arguments_of x.access) ≡ n → takes n (Some x) ≡ Some x
takes_all n x is = ap (λ b. if b then Some x else None) ((Decides-eqb (length (arguments_of x.access)) n).1 is)

taking_at : (n : ℕ) (os : List (Option Accessor)) (i : ℕ) (o : Option Accessor) → slice_get os i ≡ Some o → slice_get (map (takes n) os) i ≡ Some (takes n o)
taking_at n [] i o is = absurd (cc)
taking_at n (p ∷ os) zero o is = let same : p ≡ o = cc in ap (λ q. Some (takes n q)) same
taking_at n (p ∷ os) (suc i) o is = taking_at n os i o is

at_taking : (n : ℕ) (os : List (Option Accessor)) (i : ℕ) (x : Accessor) → IsThere (map (takes n) os) i x → IsThere os i x × (length (arguments_of x.access) ≡ n)
at_taking n [] i x is = absurd (cc)
at_taking n (o ∷ os) zero x is = let there = takes_is n o x (cc) in (ap Some there.0, there.1)
at_taking n (o ∷ os) (suc i) x is = at_taking n os i x is

not_less : (i j : ℕ) → (j < i → ⊥) → i ≤ j
not_less i j h = omega (arith, h)

module _ (g : List Class) (is_grammar : IsGrammar g) (c : ℕ) (name : List ℕ) where
  fitting_is : (n : ℕ) → fitting g c name n ≡ first_some (map (takes n) (forms g c name))
  fitting_is n = five_first (takes n (getting g c name)) (takes n (having g c name)) (takes n (counting g c name)) (takes n (listing g c name)) (takes n (indexing g c name))

  any_is : any_accessor g c name ≡ first_some (forms g c name)
  any_is = five_first (getting g c name) (having g c name) (counting g c name) (listing g c name) (indexing g c name)

  -- one that takes so many arguments is there by its rank
  taken : (n : ℕ) (y : Accessor) → Spells g c name y → length (arguments_of y.access) ≡ n → IsThere (map (takes n) (forms g c name)) (rank y.access) y
  taken n y spelled is = taking_at n (forms g c name) (rank y.access) (Some y) (spelled_found is_grammar spelled) ∙ ap Some (takes_all n y is)

  fitting_meant : (n : ℕ) (x : Accessor) → fitting g c name n ≡ Some x → IsMeant g c name n x
  fitting_meant n x e =
      let there = first_there (map (takes n) (forms g c name)) x (sym (fitting_is n) ∙ e) in
      let of = at_taking n (forms g c name) there.0 x there.1 in
      let spelled = found_spelled g c name there.0 x of.0 in
      record {
        spelled = spelled.0;
        takes = of.1;
        first = λ y other many.
            let later : there.0 ≤ rank y.access = not_less there.0 (rank y.access) (λ lt. let never : Some (Some y) ≡ Some None = sym (taken n y other many) ∙ there.2 (rank y.access) lt in cc) in
            omega (arith, later, spelled.1);
      }

  any_spelled : (x : Accessor) → any_accessor g c name ≡ Some x → Spells g c name x
  any_spelled x e = let there = first_there (forms g c name) x (sym any_is ∙ e) in (found_spelled g c name there.0 x there.1).0

  -- the accessor that is found, where it takes so many arguments
  found_meant : (n : ℕ) (x : Accessor) (o : Option Accessor) → fitting g c name n ≡ o → option_or o (any_accessor g c name) ≡ Some x → length (arguments_of x.access) ≡ n → IsMeant g c name n x
  found_meant n x None is e many = absurd (none_there (map (takes n) (forms g c name)) (rank x.access) x (sym (fitting_is n) ∙ is) (taken n x (any_spelled x e) many))
  found_meant n x (Some y) is e many = fitting_meant n x (is ∙ e)

  meant_found : (n : ℕ) (x : Accessor) → IsMeant g c name n x → accessor_of g c name n ≡ Some x
  meant_found n x m =
      let os = map (takes n) (forms g c name) in
      let before : NoneBefore os (rank x.access) = λ j lt.
      let few : j < length os = let within = rank_few x.access in omega (arith, within, lt) in
      none_at os j few (λ y is.
      let of = at_taking n (forms g c name) j y is in
      let spelled = found_spelled g c name j y of.0 in
      let least = m.first y spelled.0 of.1 in
      omega (arith, least, spelled.1, lt))
      in
      ap (λ o. option_or o (any_accessor g c name)) (fitting_is n ∙ there_first os (rank x.access) x (taken n x m.spelled m.takes) before)

  either_spelled : (n : ℕ) (x : Accessor) (o : Option Accessor) → fitting g c name n ≡ o → option_or o (any_accessor g c name) ≡ Some x → Spells g c name x
  either_spelled n x None is e = any_spelled x e
  either_spelled n x (Some y) is e = (fitting_meant n x (is ∙ e)).spelled

  none_any : (o p : Option Accessor) → option_or o p ≡ None → p ≡ None
  none_any None p e = e
  none_any (Some y) p e = absurd (cc)

  no_accessor : (n : ℕ) (o : Option Accessor) → accessor_of g c name n ≡ o → ((x : Accessor) → Spells g c name x → ⊥) → accessor_of g c name n ≡ None
  no_accessor n None is none = is
  no_accessor n (Some x) is none = absurd (none x (either_spelled n x (fitting g c name n) refl is))

pub accessor_meant : (g : List Class) (c n : ℕ) (name : List ℕ) (x : Accessor) → IsGrammar g → ((accessor_of g c name n ≡ Some x) × (length (arguments_of x.access) ≡ n)) ↔ IsMeant g c name n x
accessor_meant g c n name x is_grammar = ((λ h. found_meant g is_grammar c name n x (fitting g c name n) refl h.0 h.1), (λ m. (meant_found g is_grammar c name n x m, m.takes)))

pub accessor_none : (g : List Class) (c n : ℕ) (name : List ℕ) → IsGrammar g → (accessor_of g c name n ≡ None) ↔ ((x : Accessor) → Spells g c name x → ⊥)
accessor_none g c n name is_grammar = (
  (λ none x spelled. none_there (forms g c name) (rank x.access) x (sym (any_is g is_grammar c name) ∙ none_any g is_grammar c name (fitting g c name n) (any_accessor g c name) none) (spelled_found is_grammar spelled)),
  (λ none. no_accessor g is_grammar c name n (accessor_of g c name n) refl none),
)
