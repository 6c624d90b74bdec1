-- A reader that has values up to a number never has two, and keeps them.
use Rattle.std.proofs.Common.{◌≡◌, ◌<◌, ◌≤◌, ◌+◌, ◌*◌, ℕ, zero, suc, true, List, [], ◌∷◌, Ok, Some, ap, slice_get, le_refl, refl, subst, sym, ◌∙◌, arith}
use Rattle.attr_rules.specs.declared.kinds.AttrId.{AttrId}
use Rattle.attr_rules.specs.declared.kinds.Kind.{Kind}
use Rattle.equation_law.specs.declared.coding.Args.{Args}
use Rattle.equation_law.specs.declared.coding.Instance.{Instance as CodedInstance}
use Rattle.equation_law.specs.declared.coding.Instance.TheVariants.{Attr as attribute_at}
use Rattle.equation_law.specs.declared.coding.NodeRef.{NodeRef}
use Rattle.equation_law.specs.declared.coding.Value.{Value as CodedValue}
use Rattle.equation_law.specs.Codes.{AreCodes, AreElements, Naming, instance_by, instance_of, reference_of, source_names, value_by, value_of}
use Rattle.equation_law.specs.Equations.{kind_in}
use Rattle.equation_law.specs.Names.{Argument, Attribute, Instance, Query}
use Rattle.equation_law.specs.Program.{Program, text_of}
use Rattle.equation_law.specs.Reading.{Grows, HasThere, IsSound, SettledBy, Settles}
use Rattle.equation_law.specs.Values.{Truth, Value, as_kind, tokens}
use Rattle.equation_law.proofs.Grown.{each_value}
use Rattle.rag_tests.specs.Late.{has_below, late, may_have, number_of}
use Rattle.rag_tests.specs.Nothing.{IsReadable}
use Rattle.rag_tests.proofs.Unmade.{named_in}

pub number_is : (n : ℕ) → number_of (reference_of n) ≡ n
number_is zero = refl
number_is (suc k) = refl

more_below : (i : Instance) (v : Value) (m n : ℕ) → m ≤ n → has_below m i v → has_below n i v
more_below (Attribute a r xs) v m n le h = (omega (arith, le, h.0), h.1)
more_below (Query q) v m n le h = h

may_below : (i : Instance) (v : Value) (n : ℕ) → has_below n i v → may_have i v
may_below (Attribute a r xs) v n h = h.1
may_below (Query q) v n h = h

one_of_two : (i : Instance) (v w : Value) → may_have i v → may_have i w → v ≡ w
one_of_two (Attribute a r xs) v w a' b' = a' ∙ sym b'
one_of_two (Query q) v w a b = absurd a

pub late_sound : {S : Type 0} (p q : Program) (n : ℕ) → q ≡ p → IsReadable q → IsSound {S = S} q (late p n)
late_sound p q n same may = record {
  for = (same, may);
  within = λ i v h. may_below i v n h;
  one_value = λ i v w a b. one_of_two i v w a b;
  named = λ m is. (named_in p q same m is).0;
  some = (source_names (text_of p), refl);
  sources = λ c low. tt;
  fit = may.fit;
  trees = λ a o xs v truth m is k x there. absurd (let none : slice_get {X = Argument} [] k ≡ Some x = subst (λ (w : Value). slice_get (tokens w) k ≡ Some x) truth there in cc);
}

pub late_grows : {S : Type 0} (p q : Program) (m n : ℕ) → m ≤ n → IsSound {S = S} q (late p m) → Grows {S = S} q (late p m) (late p n)
late_grows p q m n le sound = record {
  sound = late_sound p q n sound.for.0 sound.for.1;
  values = λ i v h. more_below i v m n le h;
  bound = λ i v h. h;
  kept = λ x a. tt;
  names = λ x is. is;
  known = λ c k. k;
  heights = λ c. le_refl c;
}

-- what it answers where it has a value
pub late_some : {S : Type 0} (p : Program) (m n : ℕ) (i : CodedInstance) (a : AttrId) (node : NodeRef) (xs : Args) (x : CodedValue) (k : Kind) → i ≡ attribute_at a node xs → m ≤ n → a.0 * 1000 + node.0 < n → k ≡ kind_in p (instance_of p i)
    → value_of (text_of p) x ≡ as_kind k (Truth true) → AreElements p x → SettledBy {S = S} (late p m) (late p n) i (Ok (Some x))
late_some {S = S} p m n i a node xs x k is le below kind value elements = record {
  kept = λ q sound. late_grows p q m n le sound;
  answer = λ q sound coded known. subst (λ (r : Program). Settles {S = S} r (late p n) (λ m. instance_by r m i) (Ok (Some x))) (sym sound.for.0)
      (λ m named. subst (λ (l : Naming). HasThere {S = S} p (late p n) (instance_by p l i) (value_by l x)) (sym named) (Truth true, has, value ∙ ap (λ (t : Kind). as_kind t (Truth true)) kind), elements, each_value (late {S = S} p n) (λ c. tt) x);
}
  where
    there : has_below n (instance_of p (attribute_at a node xs)) (Truth true)
    there = (subst (λ (z : ℕ). a.0 * 1000 + z < n) (sym (number_is node.0)) below, refl)

    has : has_below n (instance_of p i) (Truth true)
    has = subst (λ (j : CodedInstance). has_below n (instance_of p j) (Truth true)) (sym is) there

-- no codes are always few enough
pub no_codes : (p : Program) (ks : List Kind) → AreCodes p ks []
no_codes p [] = tt
no_codes p (k ∷ ks) = tt
