-- Tests that are equal, and which codes stand for one instance.
use Rattle.std.proofs.Common.{◌≡◌, ℕ, zero, suc, ◌<◌, ◌≤◌, length, ℤ, pos, Bool, true, false, not, ◌==◌, ◌&&◌, List, [], ◌∷◌, get_or, take, of_z, refl, sym, ap, subst, ◌∙◌, eqb, arith}
use Rattle.std.specs.Int.{int_wrap}
use Rattle.std.proofs.lemmas.Bool.{and_parts, eqb-true, eq-eqb}
use Rattle.std.proofs.lemmas.Bool.Decides.{nat_tests}
use Rattle.std.proofs.lemmas.Int.{of_z-to_z}
use Rattle.std.proofs.lemmas.Option.{slice_get-get_or}
use mir.Syntax.{w32}
use Rattle.rag_io.specs.Pool.{ArePooled}
use Rattle.rag_io.proofs.Numbers.{same_number}
use Rattle.attr_rules.specs.declared.kinds.Kind.{Kind}
use Rattle.attr_rules.specs.declared.kinds.Kind.TheVariants as kinds
use Rattle.equation_law.specs.declared.coding.Args.{Args}
use Rattle.equation_law.specs.declared.coding.Instance.{Instance as CodedInstance}
use Rattle.equation_law.specs.declared.coding.Instance.TheVariants as coded
use Rattle.equation_law.specs.contracts.coding.ArgsPartialEq.TheImpl as arguments
use Rattle.equation_law.specs.contracts.coding.InstancePartialEq.TheImpl as equality
use Rattle.equation_law.specs.Codes.{AreCodes, IsCode, IsCoded, IsNamingOf, IsRow, Naming, arguments_by, codes_in, instance_by, instance_of, reference_by, value_coded}
use Rattle.equation_law.specs.Names.{Argument, OfInt, OfNode, OfText, OfTruth, Instance, Null, Reference, same_instance}
use Rattle.equation_law.specs.Program.{Program, attribute_parameters}
use Rattle.equation_law.specs.Values.{as_argument}
use Rattle.equation_law.proofs.Codes.{one_reference, signed, sources_named}
use Rattle.equation_law.proofs.Names.{same_instance_is, same_instance_self}

-- two tests that imply each other are one
pub both_ways : (a b : Bool) → (a ≡ true → b ≡ true) → (b ≡ true → a ≡ true) → a ≡ b
both_ways true b f g = sym (f refl)
both_ways false true f g = g refl
both_ways false false f g = refl

-- equal instances count as the same
same_as : (i j : Instance) → i ≡ j → same_instance i j ≡ true
same_as i j e = subst (λ x. same_instance i x ≡ true) e (same_instance_self i)

-- which of two comes first makes no difference
pub same_turned : (i j : Instance) → same_instance i j ≡ same_instance j i
same_turned i j = both_ways (same_instance i j) (same_instance j i) (λ e. same_as j i (sym (same_instance_is i j e))) (λ e. same_as i j (sym (same_instance_is j i e)))

-- what the test of two pairs of numbers says
pub both_equal : (a b n m : ℕ) → (eqb a b && eqb n m) ≡ true → (a ≡ b) × (n ≡ m)
both_equal a b n m e =
    elim (eqb a b) as (λ x. eqb a b ≡ x → (x && eqb n m) ≡ true → (a ≡ b) × (n ≡ m)) [
      | true ↦ λ h g. (eqb-true a b h, eqb-true n m g)
      | false ↦ λ h g. cc
    ] refl e

-- and the other way round
pub equal_both : (a b n m : ℕ) → a ≡ b → n ≡ m → (eqb a b && eqb n m) ≡ true
equal_both a b n m e f = ap (λ x. x && eqb n m) (eq-eqb a b e) ∙ eq-eqb n m f

-- what the test of four numbers says
all_equal : (a b c d x y z w : ℕ) → (eqb a x && (eqb b y && (eqb c z && eqb d w))) ≡ true → (a ≡ x) × (b ≡ y) × (c ≡ z) × (d ≡ w)
all_equal a b c d x y z w e =
    let one = and_parts (eqb a x) _ e in
    let two = and_parts (eqb b y) _ one.1 in
    let three = both_equal c z d w two.1 in
    (eqb-true a x one.0, eqb-true b y two.0, three.0, three.1)

-- equal arguments
args_is : (xs ys : Args) → arguments.ghosts.eq xs ys ≡ true → xs ≡ ys
args_is xs ys e =
    let h = all_equal xs.count xs.first xs.second xs.third ys.count ys.first ys.second ys.third e in
    (λ i. record { count = h.0 i; first = h.1 i; second = h.2 i; third = h.3 i })

args_self : (xs : Args) → arguments.ghosts.eq xs xs ≡ true
args_self xs = (λ i. eq-eqb xs.count xs.count refl i && (eq-eqb xs.first xs.first refl i && (eq-eqb xs.second xs.second refl i && eq-eqb xs.third xs.third refl i)))

-- coded instances that are equal are one
pub key_is : (a b : CodedInstance) → equality.ghosts.eq a b ≡ true → a ≡ b
key_is (coded.Attr a n xs) (coded.Attr b m ys) e =
    let one = and_parts (eqb a.0 b.0) _ e in
    let two = and_parts (eqb n.0 m.0) _ one.1 in
    (λ i. coded.Attr (record { 0 = eqb-true a.0 b.0 one.0 i }) (record { 0 = eqb-true n.0 m.0 two.0 i }) (args_is xs ys two.1 i))
key_is (coded.Attr a n xs) (coded.Query q) e = cc
key_is (coded.Query p) (coded.Attr b m ys) e = cc
key_is (coded.Query p) (coded.Query q) e = ap (λ k. coded.Query (record { 0 = k })) (eqb-true p.0 q.0 e)

pub key_self : (a : CodedInstance) → equality.ghosts.eq a a ≡ true
key_self (coded.Attr a n xs) = (λ i. eq-eqb a.0 a.0 refl i && (eq-eqb n.0 n.0 refl i && args_self xs i))
key_self (coded.Query q) = eq-eqb q.0 q.0 refl

-- what an argument holds
abbrev truth_in : Argument → Bool
truth_in (OfTruth b) = b
truth_in (OfInt z) = false
truth_in (OfText t) = false
truth_in (OfNode n) = false

abbrev int_in : Argument → ℤ
int_in (OfTruth b) = pos 0
int_in (OfInt z) = z
int_in (OfText t) = pos 0
int_in (OfNode n) = pos 0

abbrev text_in : Argument → List ℕ
text_in (OfTruth b) = []
text_in (OfInt z) = []
text_in (OfText t) = t
text_in (OfNode n) = []

abbrev node_in : Argument → Reference
node_in (OfTruth b) = Null
node_in (OfInt z) = Null
node_in (OfText t) = Null
node_in (OfNode n) = n

-- two codes of one truth value
one_truth : (c d : ℕ) → c ≤ 1 → d ≤ 1 → not (c == 0) ≡ not (d == 0) → c ≡ d
one_truth c d v w e = grind (arith, nat_tests)

-- a value of a type has one code, by each naming
module _ (p : Program) (pooled : ArePooled p.texts) where
  one_text : {n : Naming} → IsNamingOf p n → (c d : ℕ) → c < length p.texts → d < length p.texts → n.text c ≡ n.text d → c ≡ d
  one_text {n} h c d v w e =
      let texts : get_or p.texts c [] ≡ get_or p.texts d [] = sym (ap (λ (f : ℕ → List ℕ). f c) h.texts) ∙ e ∙ ap (λ (f : ℕ → List ℕ). f d) h.texts in
      (same_number p.texts c d (get_or p.texts c []) (get_or p.texts d []) pooled (slice_get-get_or p.texts c [] v) (slice_get-get_or p.texts d [] w)).0 texts

  one_code : {n : Naming} → IsNamingOf p n → (k : Kind) (c d : ℕ) → IsCode p k c → IsCode p k d → as_argument k (value_coded n k c) ≡ as_argument k (value_coded n k d) → c ≡ d
  one_code h kinds.Truth c d v w e = one_truth c d v w (ap truth_in e)
  one_code h kinds.Int c d v w e =
      let wraps : int_wrap w32 (pos c) ≡ int_wrap w32 (pos d) = ap int_in e in
      sym (of_z-to_z w32 c v) ∙ ap (of_z w32) (signed c v ∙ wraps ∙ sym (signed d w)) ∙ of_z-to_z w32 d w
  one_code h kinds.Text c d v w e = one_text h c d v w (ap text_in e)
  one_code h (kinds.Node b) c d v w e = one_reference h c d (ap node_in e)
  one_code h kinds.Texts c d v w e = v ∙ sym w
  one_code h (kinds.Nodes b) c d v w e = v ∙ sym w

  -- and some arguments have one list of codes
  pub one_list : {n : Naming} → IsNamingOf p n → (ks : List Kind) (cs ds : List ℕ) → AreCodes p ks cs → AreCodes p ks ds → arguments_by n ks cs ≡ arguments_by n ks ds → cs ≡ ds
  one_list h [] [] [] v w e = refl
  one_list h [] [] (d ∷ ds) v w e = absurd w
  one_list h [] (c ∷ cs) ds v w e = absurd v
  one_list h (k ∷ ks) [] [] v w e = refl
  one_list h (k ∷ ks) [] (d ∷ ds) v w e = cc
  one_list h (k ∷ ks) (c ∷ cs) [] v w e = cc
  one_list {n} h (k ∷ ks) (c ∷ cs) (d ∷ ds) v w e =
      let head : as_argument k (value_coded n k c) ≡ as_argument k (value_coded n k d) = cc in
      let tail : arguments_by n ks cs ≡ arguments_by n ks ds = cc in
      (λ i. one_code h k c d v.0 w.0 head i ∷ one_list h ks cs ds v.1 w.1 tail i)

  -- arguments are told apart by their codes
  row_first : (n m a b c x y z : ℕ) → n ≤ 3 → m ≤ 3 → (n ≤ 0 → a ≡ 0) → (n ≤ 1 → b ≡ 0) → (n ≤ 2 → c ≡ 0) → (m ≤ 0 → x ≡ 0) → (m ≤ 1 → y ≡ 0) → (m ≤ 2 → z ≡ 0)
      → take n (a ∷ b ∷ c ∷ []) ≡ take m (x ∷ y ∷ z ∷ []) → (n ≡ m) × (a ≡ x) × (b ≡ y) × (c ≡ z)
  row_first zero zero a b c x y z l r f g h u v w e = (refl, f (omega arith) ∙ sym (u (omega arith)), g (omega arith) ∙ sym (v (omega arith)), h (omega arith) ∙ sym (w (omega arith)))
  row_first zero (suc m) a b c x y z l r f g h u v w e = cc
  row_first (suc n) zero a b c x y z l r f g h u v w e = cc
  row_first (suc zero) (suc zero) a b c x y z l r f g h u v w e = (refl, cc, g (omega arith) ∙ sym (v (omega arith)), h (omega arith) ∙ sym (w (omega arith)))
  row_first (suc zero) (suc (suc m)) a b c x y z l r f g h u v w e = cc
  row_first (suc (suc n)) (suc zero) a b c x y z l r f g h u v w e = cc
  row_first (suc (suc zero)) (suc (suc zero)) a b c x y z l r f g h u v w e = (refl, cc, cc, h (omega arith) ∙ sym (w (omega arith)))
  row_first (suc (suc zero)) (suc (suc (suc m))) a b c x y z l r f g h u v w e = cc
  row_first (suc (suc (suc n))) (suc (suc zero)) a b c x y z l r f g h u v w e = cc
  row_first (suc (suc (suc n))) (suc (suc (suc m))) a b c x y z l r f g h u v w e = let left : n ≡ m = omega (arith, l, r) in ((λ i. suc (suc (suc (left i)))), cc, cc, cc)

  one_row : (xs ys : Args) → IsRow xs → IsRow ys → codes_in xs ≡ codes_in ys → xs ≡ ys
  one_row xs ys v w e =
      let h = row_first xs.count ys.count xs.first xs.second xs.third ys.first ys.second ys.third v.few w.few v.first v.second v.third w.first w.second w.third e in
      (λ i. record { count = h.0 i; first = h.1 i; second = h.2 i; third = h.3 i })

  -- coded instances that stand for one are one
  pub one_key_by : {n : Naming} → IsNamingOf p n → (a b : CodedInstance) → IsCoded p a → IsCoded p b → instance_by p n a ≡ instance_by p n b → a ≡ b
  one_key_by {n} h (coded.Attr a c xs) (coded.Attr b d ys) v w e =
      let attribute : a.0 ≡ b.0 = cc in
      let node : c.0 ≡ d.0 = (let same : reference_by n.node c.0 ≡ reference_by n.node d.0 = cc in one_reference h c.0 d.0 same) in
      let arguments : arguments_by n (attribute_parameters p a.0) (codes_in xs) ≡ arguments_by n (attribute_parameters p b.0) (codes_in ys) = cc in
      let there : AreCodes p (attribute_parameters p a.0) (codes_in ys) = subst (λ (k : ℕ). AreCodes p (attribute_parameters p k) (codes_in ys)) (sym attribute) w.1 in
      let codes : codes_in xs ≡ codes_in ys =
      one_list h (attribute_parameters p a.0) (codes_in xs) (codes_in ys) v.1 there (arguments ∙ ap (λ (k : ℕ). arguments_by n (attribute_parameters p k) (codes_in ys)) (sym attribute))
      in
      (λ i. coded.Attr (record { 0 = attribute i }) (record { 0 = node i }) (one_row xs ys v.0 w.0 codes i))
  one_key_by h (coded.Attr a c xs) (coded.Query q) v w e = cc
  one_key_by h (coded.Query q) (coded.Attr b d ys) v w e = cc
  one_key_by h (coded.Query q) (coded.Query r) v w e = let same : q.0 ≡ r.0 = cc in ap (λ k. coded.Query (record { 0 = k })) same

  pub one_key : (a b : CodedInstance) → IsCoded p a → IsCoded p b → instance_of p a ≡ instance_of p b → a ≡ b
  one_key a b v w e = one_key_by (sources_named p) a b v w e

  -- well coded instances are equal where they stand for one instance
  pub key_same_by : {n : Naming} → IsNamingOf p n → (a b : CodedInstance) → IsCoded p a → IsCoded p b → equality.ghosts.eq a b ≡ same_instance (instance_by p n a) (instance_by p n b)
  key_same_by {n} h a b v w =
      both_ways (equality.ghosts.eq a b) (same_instance (instance_by p n a) (instance_by p n b)) (λ e. same_as (instance_by p n a) (instance_by p n b) (ap (instance_by p n) (key_is a b e)))
      (λ e. let one = one_key_by h a b v w (same_instance_is (instance_by p n a) (instance_by p n b) e) in subst (λ (x : CodedInstance). equality.ghosts.eq a x ≡ true) one (key_self a))

  pub key_same : (a b : CodedInstance) → IsCoded p a → IsCoded p b → equality.ghosts.eq a b ≡ same_instance (instance_of p a) (instance_of p b)
  key_same a b v w = key_same_by (sources_named p) a b v w
