-- The value of a token, by its code, is read again to the code.
use Rattle.std.proofs.Common.{◌≡◌, ℕ, zero, suc, ◌+◌, ◌-◌, ◌^◌, ◌<◌, ◌≤◌, ◌⊎◌, inl, inr, ◌==◌, nat_le, List, [], ◌++◌, Bool, true, false, not, codes, All, get_or, length, Some, Option, if◌then◌else◌, slice_get, refl, sym, ap, subst, ◌∙◌, arith}
use Rattle.std.specs.Fmt as fmt
use Rattle.std.proofs.lemmas.Bool.{cases_lt}
use Rattle.std.proofs.lemmas.Bool.Decides.{nat_tests}
use Rattle.std.proofs.lemmas.Option.{slice_get-get_or}
use Rattle.broken_rules.specs.declared.rule.Rule.TheVariants.{N5}
use Rattle.broken_rules.specs.Notes.{at, broken_if}
use Rattle.rag_io.specs.Decimal.{decimal}
use Rattle.rag_io.specs.declared.token.Place.{Place}
use Rattle.rag_io.specs.Pool.{ArePooled, number_of}
use Rattle.rag_io.specs.Quoting.{quoted}
use Rattle.rag_io.specs.Tokens.{moved}
use Rattle.rag_io.proofs.Numbers.{number_at}
use Rattle.ast_grammar.specs.declared.grammar.Shape.{Shape}
use Rattle.ast_grammar.specs.declared.grammar.Shape.TheVariants as shapes
use Rattle.tree_arena.specs.Terms.{IsCode}
use Rattle.tree_syntax.specs.Written.{Leaf, WritesText, WritesInt, WritesTruth, Written, Valued, Argument, Behind}
use Rattle.tree_reader.specs.Breaking.{value_at_shape}
use Rattle.token_texts.specs.Texts.{or_zero}
use Rattle.tree_reader.specs.Grown.{code_of, int_code}
use Rattle.tree_writer.specs.Again.{IsWritable}
use Rattle.tree_writer.specs.Canonical.{argument_text, further, text_or_empty}
use Rattle.tree_writer.proofs.Integers.{WritesNumber, decimal_writes, small_text, large_text}
use Rattle.tree_writer.proofs.ReadPieces.{Reads, reads_text, reads_int, reads_negative, reads_truth}
use Rattle.tree_writer.proofs.Texts.{printed_meant}

-- A value that may stand at a component of this shape, has this code, and stands in the text.
pub record IsLeaf (pool : List (List ℕ)) (s : Shape) (code : ℕ) : Type 0 where
  pub leaf : Leaf
  pub clean : (p : Place) → value_at_shape leaf p s ≡ []
  pub coded : code_of pool leaf ≡ code
  pub reads : (here : List (List ℕ)) (p : Place) (texts : List (List ℕ)) (behind : Place → Written)
      → ((q : Place) → Reads pool Behind q (further texts) (behind q))
      → (q : Place) × Reads pool Argument p (argument_text pool s code here ++ further texts) (Valued leaf p (behind q))

module _ (pool : List (List ℕ)) where
  -- the same text, told otherwise
  reads_as : {p : Place} {text other : List ℕ} {w : Written} → text ≡ other → Reads pool Argument p other w → Reads pool Argument p text w
  reads_as {p} {w = w} e r = subst (λ (bytes : List ℕ). Reads pool Argument p bytes w) (sym e) r

  -- a text of the pool
  text_leaf : (code : ℕ) → ArePooled pool → All IsWritable pool → code < length pool → IsLeaf pool shapes.Text code
  text_leaf code pooled writable within =
      let bytes : List ℕ = get_or pool code [] in
      let there : slice_get pool code ≡ Some bytes = slice_get-get_or pool code [] within in
      let is : IsWritable bytes = writable code [] within in
      let number : number_of pool bytes ≡ Some code = number_at bytes pool code pooled.distinct there in
      record {
        leaf = WritesText (quoted bytes);
        clean = λ p. refl;
        coded = ap (λ (text : List ℕ). or_zero (number_of pool text)) (printed_meant bytes is) ∙ ap or_zero number;
        reads = λ here p texts behind rest. (
          moved p (quoted bytes),
          reads_as (ap (λ (o : Option (List ℕ)). quoted (text_or_empty o) ++ further texts) there)
              (reads_text pool p texts (behind (moved p (quoted bytes))) bytes code is number (rest (moved p (quoted bytes)))),
        );
      }

  -- an integer that is not negative
  small_leaf : (code : ℕ) → code < 2 ^ 31 → IsLeaf pool shapes.Int code
  small_leaf code small =
      let digits : List ℕ = fmt.decimal code in
      let is : WritesNumber digits code = decimal_writes code (omega arith) in
      let fits : nat_le (decimal digits) 2147483647 ≡ true = let e = is.value in grind (arith, nat_tests) in
      record {
        leaf = WritesInt false digits;
        clean = λ p. ap (λ (t : Bool). broken_if (not t) (at p N5)) fits;
        coded = ap (λ (t : Bool). if t then decimal digits else 0) fits ∙ is.value;
        reads = λ here p texts behind rest. (
          moved p digits,
          reads_as (ap (λ (text : List ℕ). text ++ further texts) (small_text code small))
              (reads_int pool p texts (behind (moved p digits)) digits code is (rest (moved p digits))),
        );
      }

  -- a negative one
  large_leaf : (code n : ℕ) → 2 ^ 31 ≤ code → code + (n + 1) ≡ 2 ^ 32 → IsLeaf pool shapes.Int code
  large_leaf code n large whole =
      let digits : List ℕ = fmt.decimal (suc n) in
      let is : WritesNumber digits (suc n) = decimal_writes (suc n) (omega arith) in
      let fits : nat_le (decimal digits) 2147483648 ≡ true = let e = is.value in grind (arith, nat_tests) in
      let left : 4294967296 - suc n ≡ code = omega arith in
      let some : (suc n == 0) ≡ false = grind (arith, nat_tests) in
      record {
        leaf = WritesInt true digits;
        clean = λ p. ap (λ (t : Bool). broken_if (not t) (at p N5)) fits;
        coded = ap (λ (t : Bool). if t then int_code true (decimal digits) else 0) fits ∙ ap (int_code true) is.value
            ∙ ap (λ (t : Bool). if t then 0 else (4294967296 - suc n)) some ∙ left;
        reads = λ here p texts behind rest. (
          moved (moved p (codes "-")) digits,
          reads_as (ap (λ (text : List ℕ). text ++ further texts) (large_text code n large whole))
              (reads_negative pool p texts (behind (moved (moved p (codes "-")) digits)) digits (suc n) is (rest (moved (moved p (codes "-")) digits))),
        );
      }

  -- an integer
  int_leaf : (code : ℕ) → code < 2 ^ 32 → (code < 2 ^ 31) ⊎ (2 ^ 31 ≤ code) → IsLeaf pool shapes.Int code
  int_leaf code fits (inl small) = small_leaf code small
  int_leaf code fits (inr large) = large_leaf code (4294967295 - code) large (omega arith)

  -- a truth value
  truth_leaf : (code : ℕ) → code ≤ 1 → IsLeaf pool shapes.Truth code
  truth_leaf zero few = record {
    leaf = WritesTruth false;
    clean = λ p. refl;
    coded = refl;
    reads = λ here p texts behind rest.
        (moved p (codes "false"), reads_truth pool p texts (behind (moved p (codes "false"))) false (rest (moved p (codes "false"))));
  }
  truth_leaf (suc zero) few = record {
    leaf = WritesTruth true;
    clean = λ p. refl;
    coded = refl;
    reads = λ here p texts behind rest.
        (moved p (codes "true"), reads_truth pool p texts (behind (moved p (codes "true"))) true (rest (moved p (codes "true"))));
  }
  truth_leaf (suc (suc code)) few = absurd (omega arith)

  -- the value of a code of any shape
  pub leaf_of : (s : Shape) (code : ℕ) → ArePooled pool → All IsWritable pool → IsCode (length pool) s code → IsLeaf pool s code
  leaf_of shapes.Child code pooled writable is = absurd is
  leaf_of shapes.List code pooled writable is = absurd is
  leaf_of shapes.Optional code pooled writable is = absurd is
  leaf_of shapes.Text code pooled writable is = text_leaf code pooled writable is
  leaf_of shapes.Int code pooled writable is = int_leaf code is (cases_lt code (2 ^ 31))
  leaf_of shapes.Truth code pooled writable is = truth_leaf code is
