-- Names and instances are told apart by their writing.
use Rattle.std.proofs.Common.{◌≡◌, ℕ, zero, suc, ℤ, pos, negsuc, Bool, true, false, List, [], ◌∷◌, Some, refl, ap, arith, subst}
use Rattle.std.specs.declared.cmp.Ordering.{Ordering}
use Rattle.std.specs.declared.cmp.Ordering.TheVariants.{Less, Equal, Greater}
use Rattle.std.specs.Ordering.{nat_cmp, is_eq}
use Rattle.std.specs.Cmp.{tied_itself}
use Rattle.std.specs.Cmp.Lexicographic.{slice_cmp, nat_list_cmp_total}
use Rattle.std.specs.FinMap.{IsAntisymmetric, slice_cmp-IsAntisymmetric, nat_cmp-IsAntisymmetric}
use Rattle.equation_law.specs.Names.{NodeName, Source, Made, Reference, Null, At, Argument, OfInt, OfNode, OfText, OfTruth, Row, end_row, row, list_of, row_of, made_by, maker_of, Instance, Attribute, Query, argument_code, arguments_code, row_code, below_code, int_code, text_code, truth_code, node_code, reference_code, instance_code, node_cmp, same_instance, same_reference}

-- two writings that begin with different numbers differ
tags : {A : Type 0} (a b : ℕ) (x y : List ℕ) → (a ≡ b → ⊥) → a ∷ x ≡ b ∷ y → A
tags a b x y n e = absurd (n cc)

-- that of an integer and of a text
below_same : (n m : ℕ) (x y : List ℕ) → below_code n x ≡ below_code m y → (n ≡ m) × (x ≡ y)
below_same zero zero x y e = (refl, cc)
below_same zero (suc m) x y e = tags 1 0 _ _ (λ h. omega arith) e
below_same (suc n) zero x y e = tags 0 1 _ _ (λ h. omega arith) e
below_same (suc n) (suc m) x y e = let r = below_same n m x y cc in (ap suc r.0, r.1)

int_same : (a b : ℤ) (x y : List ℕ) → int_code a x ≡ int_code b y → (a ≡ b) × (x ≡ y)
int_same (negsuc n) (negsuc m) x y e = let r = below_same n m x y cc in (ap negsuc r.0, r.1)
int_same (negsuc n) (pos m) x y e = tags 0 1 _ _ (λ h. omega arith) e
int_same (pos n) (negsuc m) x y e = tags 1 0 _ _ (λ h. omega arith) e
int_same (pos n) (pos m) x y e = (cc, cc)

text_same : (a b x y : List ℕ) → text_code a x ≡ text_code b y → (a ≡ b) × (x ≡ y)
text_same [] [] x y e = (refl, cc)
text_same [] (c ∷ b) x y e = tags 0 (suc c) _ _ (λ h. omega (arith, h)) e
text_same (c ∷ a) [] x y e = tags (suc c) 0 _ _ (λ h. omega (arith, h)) e
text_same (c ∷ a) (d ∷ b) x y e = let r = text_same a b x y cc in let h = r.0 in (cc, r.1)

truth_same : (a b : Bool) (x y : List ℕ) → truth_code a x ≡ truth_code b y → (a ≡ b) × (x ≡ y)
truth_same true true x y e = (refl, cc)
truth_same true false x y e = tags 1 0 _ _ (λ h. omega arith) e
truth_same false true x y e = tags 0 1 _ _ (λ h. omega arith) e
truth_same false false x y e = (refl, cc)

mutual
  -- the writing of a node says which it is
  node_same : (a b : NodeName) (x y : List ℕ) → node_code a x ≡ node_code b y → (a ≡ b) × (x ≡ y)
  node_same (Source k) (Source m) x y e = (cc, cc)
  node_same (Source k) (Made b s ys q) x y e = tags 1 2 _ _ (λ h. omega arith) e
  node_same (Made a r xs p) (Source m) x y e = tags 2 1 _ _ (λ h. omega arith) e
  node_same (Made a r xs p) (Made b s ys q) x y e =
      let t = reference_same r s (a ∷ row_code xs (p ∷ x)) (b ∷ row_code ys (q ∷ y)) cc in
      let h = t.0 in
      let k = t.1 in
      let u = row_same xs ys (p ∷ x) (q ∷ y) cc in
      let v = u.0 in
      let w = u.1 in
      (cc, cc)

  -- that of a reference
  reference_same : (a b : Reference) (x y : List ℕ) → reference_code a x ≡ reference_code b y → (a ≡ b) × (x ≡ y)
  reference_same Null Null x y e = (refl, cc)
  reference_same Null (At n) x y e = tags 0 1 _ _ (λ h. omega arith) e
  reference_same (At m) Null x y e = tags 1 0 _ _ (λ h. omega arith) e
  reference_same (At m) (At n) x y e = let r = node_same m n x y cc in let h = r.0 in (cc, r.1)

  -- that of an argument, and of some
  argument_same : (a b : Argument) (x y : List ℕ) → argument_code a x ≡ argument_code b y → (a ≡ b) × (x ≡ y)
  argument_same (OfTruth a) (OfTruth b) x y e = let r = truth_same a b x y cc in (ap OfTruth r.0, r.1)
  argument_same (OfTruth a) (OfInt b) x y e = tags 0 1 _ _ (λ h. omega arith) e
  argument_same (OfTruth a) (OfText b) x y e = tags 0 2 _ _ (λ h. omega arith) e
  argument_same (OfTruth a) (OfNode b) x y e = tags 0 3 _ _ (λ h. omega arith) e
  argument_same (OfInt a) (OfTruth b) x y e = tags 1 0 _ _ (λ h. omega arith) e
  argument_same (OfInt a) (OfInt b) x y e = let r = int_same a b x y cc in (ap OfInt r.0, r.1)
  argument_same (OfInt a) (OfText b) x y e = tags 1 2 _ _ (λ h. omega arith) e
  argument_same (OfInt a) (OfNode b) x y e = tags 1 3 _ _ (λ h. omega arith) e
  argument_same (OfText a) (OfTruth b) x y e = tags 2 0 _ _ (λ h. omega arith) e
  argument_same (OfText a) (OfInt b) x y e = tags 2 1 _ _ (λ h. omega arith) e
  argument_same (OfText a) (OfText b) x y e = let r = text_same a b x y cc in (ap OfText r.0, r.1)
  argument_same (OfText a) (OfNode b) x y e = tags 2 3 _ _ (λ h. omega arith) e
  argument_same (OfNode a) (OfTruth b) x y e = tags 3 0 _ _ (λ h. omega arith) e
  argument_same (OfNode a) (OfInt b) x y e = tags 3 1 _ _ (λ h. omega arith) e
  argument_same (OfNode a) (OfText b) x y e = tags 3 2 _ _ (λ h. omega arith) e
  argument_same (OfNode a) (OfNode b) x y e = let r = reference_same a b x y cc in (ap OfNode r.0, r.1)

  row_same : (a b : Row) (x y : List ℕ) → row_code a x ≡ row_code b y → (a ≡ b) × (x ≡ y)
  row_same end_row end_row x y e = (refl, cc)
  row_same end_row (row d b) x y e = tags 0 1 _ _ (λ h. omega arith) e
  row_same (row c a) end_row x y e = tags 1 0 _ _ (λ h. omega arith) e
  row_same (row c a) (row d b) x y e =
      let r = argument_same c d (row_code a x) (row_code b y) cc in
      let s = row_same a b x y r.1 in
      ((λ i. row (r.0 i) (s.0 i)), s.1)

arguments_same : (a b : List Argument) (x y : List ℕ) → arguments_code a x ≡ arguments_code b y → (a ≡ b) × (x ≡ y)
arguments_same [] [] x y e = (refl, cc)
arguments_same [] (d ∷ b) x y e = tags 0 1 _ _ (λ h. omega arith) e
arguments_same (c ∷ a) [] x y e = tags 1 0 _ _ (λ h. omega arith) e
arguments_same (c ∷ a) (d ∷ b) x y e =
    let r = argument_same c d (arguments_code a x) (arguments_code b y) cc in
    let s = arguments_same a b x y r.1 in
    ((λ i. r.0 i ∷ s.0 i), s.1)

-- a row is the list of its arguments
pub same_list : (xs : List Argument) → list_of (row_of xs) ≡ xs
same_list [] = refl
same_list (x ∷ xs) = ap (λ (ys : List Argument). x ∷ ys) (same_list xs)

pub same_row : (xs : Row) → row_of (list_of xs) ≡ xs
same_row end_row = refl
same_row (row x xs) = ap (row x) (same_row xs)

-- it is written as they are
pub row_writing : (xs : List Argument) (rest : List ℕ) → row_code (row_of xs) rest ≡ arguments_code xs rest
row_writing [] rest = refl
row_writing (x ∷ xs) rest = ap (λ (t : List ℕ). 1 ∷ argument_code x t) (row_writing xs rest)

-- what made a node made it at its position
pub maker_made : (n : NodeName) (i : Instance) (q : ℕ) → made_by i q ≡ At n → maker_of n ≡ Some i
maker_made n (Attribute a r xs) q e = let is : Made a r (row_of xs) q ≡ n = cc in subst (λ (m : NodeName). maker_of m ≡ Some (Attribute a r xs)) is (ap (λ (ys : List Argument). Some (Attribute a r ys)) (same_list xs))
maker_made n (Query k) q e = absurd (cc)

-- that of an instance
instance_same : (a b : Instance) (x y : List ℕ) → instance_code a x ≡ instance_code b y → (a ≡ b) × (x ≡ y)
instance_same (Attribute a n xs) (Attribute b m ys) x y e =
    let r = reference_same n m (a ∷ arguments_code xs x) (b ∷ arguments_code ys y) cc in
    let h = r.0 in
    let k = r.1 in
    let s = arguments_same xs ys x y cc in
    let t = s.0 in
    (cc, s.1)
instance_same (Attribute a n xs) (Query q) x y e = tags 0 1 _ _ (λ h. omega arith) e
instance_same (Query p) (Attribute b m ys) x y e = tags 1 0 _ _ (λ h. omega arith) e
instance_same (Query p) (Query q) x y e = (cc, cc)

-- the test of an order for equality
pub is_equal : (r : Ordering) → is_eq r ≡ true → r ≡ Equal
is_equal Less e = cc
is_equal Equal e = refl
is_equal Greater e = cc

-- numbers in order are told apart
pub code_anti : IsAntisymmetric (slice_cmp nat_cmp)
code_anti = slice_cmp-IsAntisymmetric nat_cmp-IsAntisymmetric

-- so are nodes
pub node_anti : IsAntisymmetric node_cmp
node_anti a b e = (node_same a b [] [] (code_anti _ _ e)).0

-- what counts as the same is the same
pub same_instance_is : (i j : Instance) → same_instance i j ≡ true → i ≡ j
same_instance_is i j e = (instance_same i j [] [] (code_anti _ _ (is_equal _ e))).0

-- and each is the same as itself
pub same_instance_self : (i : Instance) → same_instance i i ≡ true
same_instance_self i = ap is_eq (tied_itself nat_list_cmp_total (instance_code i []))

-- so it is of references
pub same_reference_is : (a b : Reference) → same_reference a b ≡ true → a ≡ b
same_reference_is a b e = (reference_same a b [] [] (code_anti _ _ (is_equal _ e))).0

pub same_reference_self : (a : Reference) → same_reference a a ≡ true
same_reference_self a = ap is_eq (tied_itself nat_list_cmp_total (reference_code a []))
