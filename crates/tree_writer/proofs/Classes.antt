-- The class of a node of a tree is found again by its name.
use Rattle.std.proofs.Common.{◌≡◌, ℕ, List, Bool, true, false, not, Option, Some, None, All, map, get_or, slice_get, option_map, bytes_eq, refl, sym, ap, subst, ◌∙◌}
use Rattle.std.proofs.lemmas.Option.{slice_get-map, slice_get_within, get_or_from_slice_get}
use Rattle.std.proofs.lemmas.Slice.Eq.{bytes_eq-Decides}
use Rattle.rag_io.specs.Distinct.{are_distinct}
use Rattle.rag_io.specs.Pool.{ArePooled}
use Rattle.rag_io.proofs.Numbers.{number_at}
use Rattle.ast_grammar.specs.declared.grammar.ClassId.{ClassId}
use Rattle.ast_grammar.specs.Grammar.{Class, abstract_in, class_named, name_of_class}
use Rattle.ast_grammar.proofs.Positions.{position-map, position_agree}
use Rattle.tree_reader.specs.Breaking.{is_concrete, is_concrete_class}
use Rattle.rag_io.specs.Words.{IsWord}
use Rattle.tree_writer.specs.Again.{IsWritable}
use Rattle.tree_writer.specs.Canonical.{name_in}

-- What is known of a grammar and a pool: classes of different names, which are words, and different texts, which can be written.
pub record Suits (g : List Class) (pool : List (List ℕ)) : Type 0 where
  pub distinct : are_distinct bytes_eq (map name_of_class g) ≡ true
  pub words : All (λ (c : Class). IsWord c.name) g
  pub pooled : ArePooled pool
  pub writable : All IsWritable pool

-- two tests that pass together
same_test : (a b : Bool) → (a ≡ true → b ≡ true) → (b ≡ true → a ≡ true) → a ≡ b
same_test true b there back = sym (there refl)
same_test false true there back = back refl
same_test false false there back = refl

-- the test of two texts, either way
bytes_eq-sym : (xs ys : List ℕ) → bytes_eq xs ys ≡ bytes_eq ys xs
bytes_eq-sym xs ys =
    same_test _ _ (λ same. (bytes_eq-Decides ys xs).1 (sym ((bytes_eq-Decides xs ys).0 same)))
    (λ same. (bytes_eq-Decides xs ys).1 (sym ((bytes_eq-Decides ys xs).0 same)))

-- the class of a name, where the names differ
class_found : (g : List Class) (c : ℕ) (x : Class) → are_distinct bytes_eq (map name_of_class g) ≡ true → slice_get g c ≡ Some x → class_named g x.name ≡ Some c
class_found g c x distinct at =
    position_agree (λ (y : Class). bytes_eq y.name x.name) (λ (y : Class). bytes_eq x.name y.name) g (λ k d within. bytes_eq-sym (get_or g k d).name x.name)
    ∙ sym (position-map name_of_class (bytes_eq x.name) g)
    ∙ number_at x.name (map name_of_class g) c distinct (slice_get-map name_of_class g c ∙ ap (option_map name_of_class) at)

-- A class that is there and not abstract, by its name.
pub record IsFound (g : List Class) (c : ClassId) : Type 0 where
  pub word : IsWord (name_in (slice_get g c.0))
  pub named : class_named g (name_in (slice_get g c.0)) ≡ Some c.0
  pub concrete : is_concrete g (Some c.0) ≡ true

-- a class that is there, by what stands at its number
found_class : (g : List Class) (pool : List (List ℕ)) (c : ClassId) (o : Option Class) → Suits g pool → slice_get g c.0 ≡ o
    → option_map abstract_in o ≡ Some false → IsFound g c
found_class g pool c None suits at concrete = let never : None ≡ Some false = concrete in absurd (cc)
found_class g pool c (Some x) suits at concrete = record {
  word = subst IsWord (ap (λ (y : Class). y.name) (get_or_from_slice_get g c.0 x x at) ∙ sym (ap name_in at)) (suits.words c.0 x (slice_get_within g c.0 x at));
  named = ap (λ (o : Option Class). class_named g (name_in o)) at ∙ class_found g c.0 x suits.distinct at;
  concrete = ap is_concrete_class at ∙ ap not (let same : x.abstract ≡ false = cc in same);
}

-- the class of a node
pub fit_found : (g : List Class) (pool : List (List ℕ)) (c : ClassId) → Suits g pool → option_map abstract_in (slice_get g c.0) ≡ Some false → IsFound g c
fit_found g pool c suits concrete = found_class g pool c (slice_get g c.0) suits refl concrete
