-- The arguments with which a node was made, one after the other.
use Rattle.std.proofs.Common.{◌≡◌, ℕ, zero, suc, true, false, List, [], ◌∷◌, ◌++◌, Some, drop, is_some, length, slice_get, refl, sym, ap, arith}
use Rattle.std.proofs.lemmas.List.{length-take-le}
use Rattle.attr_rules.specs.declared.kinds.Kind.{Kind}
use Rattle.equation_law.specs.declared.coding.Args.{Args}
use Rattle.equation_law.specs.Codes.{AreCodes, IsCode, IsNamingOf, IsRow, Naming, arguments_by, codes_in, reference_by, value_coded}
use Rattle.equation_law.specs.Names.{Argument, At, Made, Reference, Row, list_of}
use Rattle.equation_law.specs.Program.{Program, attribute_parameters}
use Rattle.equation_law.specs.Values.{as_argument}

-- there are as many as the parameters
pub as_many : {p : Program} {n : Naming} → IsNamingOf p n → (c a : ℕ) (r : Reference) (xs : Row) (q : ℕ) → reference_by n.node c ≡ At (Made a r xs q) → length (list_of xs) ≡ length (attribute_parameters p a)
as_many h zero a r xs q e = cc
as_many h (suc k) a r xs q e = (h.trees k a r xs q (cc)).all

-- how many codes there are
pub count_is : (xs : Args) → IsRow xs → length (codes_in xs) ≡ xs.count
count_is xs row = length-take-le xs.count (xs.first ∷ xs.second ∷ xs.third ∷ []) row.few

-- the first of some types
pub first_wanted : (ks rest : List Kind) → is_some (slice_get ks 0) ≡ true → rest ≡ drop 1 ks → (t : Kind) × (ks ≡ t ∷ rest)
first_wanted [] rest e f = cc
first_wanted (t ∷ ks) rest e f = (t, ap (λ xs. t ∷ xs) (sym f))

pub none_wanted : (ks : List Kind) → is_some (slice_get ks 0) ≡ false → ks ≡ []
none_wanted [] e = refl
none_wanted (t ∷ ks) e = cc

module _ (p : Program) (n : Naming) where
  -- codes that stand for the first of some arguments, up to those of the types that are left
  abbrev pub AreRead : List Kind → List ℕ → List Argument → List Kind → Type 0
  AreRead ks [] xs left = ks ≡ left
  AreRead [] (c ∷ cs) xs left = ⊥
  AreRead (k ∷ ks) (c ∷ cs) [] left = ⊥
  AreRead (k ∷ ks) (c ∷ cs) (x ∷ xs) left = IsCode p k c × ((as_argument k (value_coded n k c) ≡ x) × AreRead ks cs xs left)

  -- a code that stands for the argument at a place
  abbrev pub StandsAt : List Kind → List Argument → ℕ → ℕ → Type 0
  StandsAt ks xs place c = (t : Kind) (x : Argument) → slice_get ks place ≡ Some t → slice_get xs place ≡ Some x → IsCode p t c × (as_argument t (value_coded n t c) ≡ x)

  -- one more
  pub read_more : (ks : List Kind) (cs : List ℕ) (xs : List Argument) (t : Kind) (left : List Kind) (c : ℕ) → length xs ≡ length ks → AreRead ks cs xs (t ∷ left) → StandsAt ks xs (length cs) c → AreRead ks (cs ++ c ∷ []) xs left
  read_more [] [] xs t left c many read stands = cc
  read_more (k ∷ ks) [] [] t left c many read stands = absurd (omega (arith, many))
  read_more (k ∷ ks) [] (x ∷ xs) t left c many read stands = let this = stands k x refl refl in (this.0, (this.1, cc))
  read_more [] (d ∷ cs) xs t left c many read stands = absurd read
  read_more (k ∷ ks) (d ∷ cs) [] t left c many read stands = absurd read
  read_more (k ∷ ks) (d ∷ cs) (x ∷ xs) t left c many read stands = (read.0, (read.1.0, read_more ks cs xs t left c (omega (arith, many)) read.1.1 stands))

  -- all of them
  pub read_all : (ks : List Kind) (cs : List ℕ) (xs : List Argument) → length xs ≡ length ks → AreRead ks cs xs [] → AreCodes p ks cs × (arguments_by n ks cs ≡ xs)
  read_all [] [] [] many read = (tt, refl)
  read_all [] [] (x ∷ xs) many read = absurd (omega (arith, many))
  read_all (k ∷ ks) [] xs many read = cc
  read_all [] (c ∷ cs) xs many read = absurd read
  read_all (k ∷ ks) (c ∷ cs) [] many read = absurd read
  read_all (k ∷ ks) (c ∷ cs) (x ∷ xs) many read = let rest = read_all ks cs xs (omega (arith, many)) read.1.1 in ((read.0, rest.0), λ i. read.1.0 i ∷ rest.1 i)
