-- The writings of names are compared part by part.
use Rattle.std.proofs.Common.{◌≡◌, ℕ, List, [], ◌∷◌, refl, sym, ap, ◌∙◌}
use Rattle.std.specs.declared.cmp.Ordering.{Ordering}
use Rattle.std.specs.declared.cmp.Ordering.TheVariants.{Less, Equal, Greater}
use Rattle.std.specs.Ordering.{bool_cmp, int_cmp, nat_cmp, ordering_then}
use Rattle.std.specs.Cmp.Lexicographic.{slice_cmp}
use Rattle.equation_law.specs.Names.{NodeName, Source, Made, Reference, Null, At, Argument, OfInt, OfNode, OfText, OfTruth, Row, end_row, row, argument_code, arguments_code, int_code, node_cmp, node_code, reference_code, row_code, row_of, text_cmp, text_code, truth_code}
use Rattle.equation_law.specs.Reading.{reference_cmp}
use Rattle.equation_law.proofs.Names.{node_anti, row_writing}
use Rattle.equation_law.proofs.Written.{both_then, ints, texts, truths}
use Rattle.made_trees.specs.Ordered.{argument_cmp, arguments_cmp}

-- an order behind another
pub then_equal : (o : Ordering) → ordering_then o Equal ≡ o
then_equal Less = refl
then_equal Equal = refl
then_equal Greater = refl

-- the first decides where it isn't equality
pub first_decides : (o p : Ordering) → (o ≡ Equal → ⊥) → ordering_then o p ≡ o
first_decides Less p n = refl
first_decides Equal p n = absurd (n refl)
first_decides Greater p n = refl

-- the order of two writings, and in front of others
abbrev compared : List ℕ → List ℕ → Ordering
compared = slice_cmp nat_cmp

-- the order of two writings that end at once, from their order in front of others
alone : (o p : Ordering) → p ≡ ordering_then o Equal → (q : Ordering) → ordering_then o q ≡ ordering_then p q
alone o p e q = ap (λ (x : Ordering). ordering_then x q) (sym (then_equal o) ∙ sym e)

abbrev rows : Row → Row → Ordering
rows xs ys = compared (row_code xs []) (row_code ys [])

-- what made two nodes, and then their positions
abbrev made_parts : Ordering → Ordering → Ordering → Ordering → Ordering
made_parts r a w q = ordering_then r (ordering_then a (ordering_then w q))

parts_then : (r a w q o : Ordering) → made_parts r a w (ordering_then q o) ≡ ordering_then (made_parts r a w (ordering_then q Equal)) o
parts_then r a w q o =
    ap (λ (x : Ordering). ordering_then r (ordering_then a (ordering_then w (ordering_then x o)))) (sym (then_equal q))
    ∙ ap (λ (x : Ordering). ordering_then r (ordering_then a x)) (sym (both_then w (ordering_then q Equal) o))
    ∙ ap (ordering_then r) (sym (both_then a (ordering_then w (ordering_then q Equal)) o))
    ∙ sym (both_then r (ordering_then a (ordering_then w (ordering_then q Equal))) o)

-- the order of two nodes that were made, from that of the parts in which they begin
made_from : (a b p q : ℕ) (r s : Reference) (xs ys : Row) (x y : List ℕ)
    → compared (reference_code r (a ∷ row_code xs (p ∷ x))) (reference_code s (b ∷ row_code ys (q ∷ y))) ≡ ordering_then (reference_cmp r s) (compared (a ∷ row_code xs (p ∷ x)) (b ∷ row_code ys (q ∷ y)))
    → compared (row_code xs (p ∷ x)) (row_code ys (q ∷ y)) ≡ ordering_then (rows xs ys) (compared (p ∷ x) (q ∷ y))
    → compared (node_code (Made a r xs p) x) (node_code (Made b s ys q) y) ≡ made_parts (reference_cmp r s) (nat_cmp a b) (rows xs ys) (ordering_then (nat_cmp p q) (compared x y))
made_from a b p q r s xs ys x y owners rest = owners ∙ ap (λ (o : Ordering). ordering_then (reference_cmp r s) (ordering_then (nat_cmp a b) o)) rest

mutual
  nodes_then : (a b : NodeName) (x y : List ℕ) → compared (node_code a x) (node_code b y) ≡ ordering_then (node_cmp a b) (compared x y)
  nodes_then (Source k) (Source m) x y = ap (λ (o : Ordering). ordering_then o (compared x y)) (sym (then_equal (nat_cmp k m)))
  nodes_then (Source k) (Made b s ys q) x y = refl
  nodes_then (Made a r xs p) (Source m) x y = refl
  nodes_then (Made a r xs p) (Made b s ys q) x y =
      made_from a b p q r s xs ys x y (references_then r s (a ∷ row_code xs (p ∷ x)) (b ∷ row_code ys (q ∷ y))) (rows_then xs ys (p ∷ x) (q ∷ y))
      ∙ parts_then (reference_cmp r s) (nat_cmp a b) (rows xs ys) (nat_cmp p q) (compared x y)
      ∙ ap (λ (o : Ordering). ordering_then o (compared x y))
      (sym (made_from a b p q r s xs ys [] [] (references_then r s (a ∷ row_code xs (p ∷ [])) (b ∷ row_code ys (q ∷ []))) (rows_then xs ys (p ∷ []) (q ∷ []))))

  references_then : (r s : Reference) (x y : List ℕ) → compared (reference_code r x) (reference_code s y) ≡ ordering_then (reference_cmp r s) (compared x y)
  references_then Null Null x y = refl
  references_then Null (At n) x y = refl
  references_then (At m) Null x y = refl
  references_then (At m) (At n) x y = nodes_then m n x y

  arguments_then : (c d : Argument) (x y : List ℕ) → compared (argument_code c x) (argument_code d y) ≡ ordering_then (argument_cmp c d) (compared x y)
  arguments_then (OfTruth a) (OfTruth b) x y = truths a b x y ∙ alone (bool_cmp a b) (compared (truth_code a []) (truth_code b [])) (truths a b [] []) (compared x y)
  arguments_then (OfTruth a) (OfInt b) x y = refl
  arguments_then (OfTruth a) (OfText b) x y = refl
  arguments_then (OfTruth a) (OfNode b) x y = refl
  arguments_then (OfInt a) (OfTruth b) x y = refl
  arguments_then (OfInt a) (OfInt b) x y = ints a b x y ∙ alone (int_cmp a b) (compared (int_code a []) (int_code b [])) (ints a b [] []) (compared x y)
  arguments_then (OfInt a) (OfText b) x y = refl
  arguments_then (OfInt a) (OfNode b) x y = refl
  arguments_then (OfText a) (OfTruth b) x y = refl
  arguments_then (OfText a) (OfInt b) x y = refl
  arguments_then (OfText a) (OfText b) x y = texts a b x y ∙ alone (text_cmp a b) (compared (text_code a []) (text_code b [])) (texts a b [] []) (compared x y)
  arguments_then (OfText a) (OfNode b) x y = refl
  arguments_then (OfNode a) (OfTruth b) x y = refl
  arguments_then (OfNode a) (OfInt b) x y = refl
  arguments_then (OfNode a) (OfText b) x y = refl
  arguments_then (OfNode a) (OfNode b) x y = references_then a b x y

  rows_then : (xs ys : Row) (x y : List ℕ) → compared (row_code xs x) (row_code ys y) ≡ ordering_then (rows xs ys) (compared x y)
  rows_then end_row end_row x y = refl
  rows_then end_row (row d ys) x y = refl
  rows_then (row c xs) end_row x y = refl
  rows_then (row c xs) (row d ys) x y =
      arguments_then c d (row_code xs x) (row_code ys y) ∙ ap (ordering_then (argument_cmp c d)) (rows_then xs ys x y) ∙ sym (both_then (argument_cmp c d) (rows xs ys) (compared x y))
      ∙ ap (λ (o : Ordering). ordering_then o (compared x y)) (sym (arguments_then c d (row_code xs []) (row_code ys [])))

-- the order of two nodes by what made them: by the owner, by the attribute, by the arguments and by the position
pub made_order : (a b p q : ℕ) (r s : Reference) (xs ys : List Argument)
    → node_cmp (Made a r (row_of xs) p) (Made b s (row_of ys) q) ≡ ordering_then (reference_cmp r s) (ordering_then (nat_cmp a b) (ordering_then (arguments_cmp xs ys) (nat_cmp p q)))
made_order a b p q r s xs ys =
    made_from a b p q r s (row_of xs) (row_of ys) [] [] (references_then r s (a ∷ row_code (row_of xs) (p ∷ [])) (b ∷ row_code (row_of ys) (q ∷ []))) (rows_then (row_of xs) (row_of ys) (p ∷ []) (q ∷ []))
    ∙ (λ i. made_parts (reference_cmp r s) (nat_cmp a b) (compared (row_writing xs [] i) (row_writing ys [] i)) (then_equal (nat_cmp p q) i))

-- the order of two lists of arguments by the first ones and by those behind
pub arguments_order : (c d : Argument) (xs ys : List Argument) → arguments_cmp (c ∷ xs) (d ∷ ys) ≡ ordering_then (argument_cmp c d) (arguments_cmp xs ys)
arguments_order c d xs ys = arguments_then c d (arguments_code xs []) (arguments_code ys [])

-- arguments in one order are one
pub same_argument : (c d : Argument) → argument_cmp c d ≡ Equal → c ≡ d
same_argument c d e =
    let one : node_cmp (Made 0 Null (row c end_row) 0) (Made 0 Null (row d end_row) 0) ≡ Equal = arguments_then c d (0 ∷ 0 ∷ []) (0 ∷ 0 ∷ []) ∙ ap (λ (o : Ordering). ordering_then o Equal) e in
    let same = node_anti (Made 0 Null (row c end_row) 0) (Made 0 Null (row d end_row) 0) one in
    let rows : row c end_row ≡ row d end_row = cc in
    cc
