-- The digits of integers, as they are printed, write them.
use Rattle.std.proofs.Common.{◌≡◌, ℕ, suc, ◌+◌, ◌%◌, ◌-◌, ◌*◌, ◌^◌, ◌<◌, ◌≤◌, ◌⊎◌, inl, inr, List, [], ◌∷◌, length, nat_lt, Bool, true, false, refl, sym, ap, ◌∙◌, arith}
use Rattle.std.specs.List.{fold, AllPass}
use Rattle.std.specs.Char.{digit_value}
use Rattle.std.specs.Fmt as fmt
use Rattle.std.specs.Fmt.{signed_decimal}
use Rattle.std.specs.Int.{int_wrap}
use Rattle.std.specs.Str.Parse.{AllDigits, IsNumeral, digits_value_after}
use Rattle.std.proofs.lemmas.Bool.{cases_lt}
use Rattle.std.proofs.lemmas.Bool.Decides.{nat_tests}
use Rattle.std.proofs.lemmas.Fmt.{decimal_is_IsNumeral, decimal_nonempty}
use Rattle.std.proofs.lemmas.Int.{ints}
use Rattle.std.proofs.lemmas.List.Elements.{All-nil, All-cons}
use Rattle.std.proofs.lemmas.Str.Parse.{digit_from_value}
use Rattle.std.proofs.lemmas.Str.{digit_value_digit}
use lib.IntN.{pos, negsuc}
use mir.Syntax.{w32}
use mir.Val.{to_z, sel}
use Rattle.rag_io.specs.Decimal.{decimal}
use Rattle.rag_io.specs.Lexemes.{is_digit}
use Rattle.tree_writer.specs.Canonical.{int_text}

-- some digits write this number
pub record WritesNumber (digits : List ℕ) (n : ℕ) : Type 0 where
  pub first : ℕ
  pub more : List ℕ
  pub are : digits ≡ first ∷ more
  pub begins : is_digit first ≡ true
  pub goes_on : AllPass is_digit more
  pub value : decimal digits ≡ n

-- a byte with the value of a digit is one
one_digit : (b : ℕ) → digit_value b < 10 → is_digit b ≡ true
one_digit b small = let range = digit_from_value b small in grind (arith, nat_tests)

-- so are digits by their values
all_digits : (digits : List ℕ) → AllDigits 10 digits → AllPass is_digit digits
all_digits [] all = All-nil (λ b. is_digit b ≡ true)
all_digits (b ∷ digits) all = All-cons (λ x. is_digit x ≡ true) b digits (one_digit b all.0) (all_digits digits all.1)

-- the value by digits is the number that they write
value_after : (n : ℕ) (digits : List ℕ) → AllDigits 10 digits → digits_value_after 10 n digits ≡ fold (λ m digit. m * 10 + (digit - 48)) n digits
value_after n [] all = refl
value_after n (b ∷ digits) all =
    let same : n * 10 + digit_value b ≡ n * 10 + (b - 48) = let e = digit_value_digit b (digit_from_value b all.0) in omega arith in
    value_after (n * 10 + digit_value b) digits all.1 ∙ ap (λ (m : ℕ). fold (λ m digit. m * 10 + (digit - 48)) m digits) same

-- a numeral writes its value
numeral_writes : (digits : List ℕ) (n : ℕ) → IsNumeral 10 digits → digits_value_after 10 0 digits ≡ n → WritesNumber digits n
numeral_writes [] n is value = absurd (omega (arith, is.0))
numeral_writes (b ∷ digits) n is value = record {
  first = b;
  more = digits;
  are = refl;
  begins = one_digit b is.1.0;
  goes_on = all_digits digits is.1.1;
  value = sym (value_after 0 (b ∷ digits) is.1) ∙ value;
}

-- a number as it is printed
pub decimal_writes : (n : ℕ) → n < 2 ^ 32 → WritesNumber (fmt.decimal n) n
decimal_writes n small = let is = decimal_is_IsNumeral n (omega arith) in numeral_writes (fmt.decimal n) n is.0 is.1

-- the code of an integer that is not negative
wrapped_small : (code : ℕ) → code < 2 ^ 31 → int_wrap w32 (pos code) ≡ pos code
unfolding int_wrap
wrapped_small code small =
    let same : code % 4294967296 ≡ code = omega arith in
    let is : to_z w32 code ≡ pos code = omega (arith, ints) in
    ap (to_z w32) same ∙ is

-- and of one that is
wrapped_large : (code n : ℕ) → 2 ^ 31 ≤ code → code + (n + 1) ≡ 2 ^ 32 → int_wrap w32 (pos code) ≡ negsuc n
unfolding int_wrap
wrapped_large code n large is =
    let same : code % 4294967296 ≡ code = omega arith in
    let past : nat_lt code (2 ^ 31) ≡ false = grind (arith, nat_tests) in
    let left : 4294967296 - suc code ≡ n = omega arith in
    ap (to_z w32) same ∙ ap (λ (t : Bool). sel t (pos code) (negsuc (4294967296 - suc code))) past ∙ ap negsuc left

-- their digits
pub small_text : (code : ℕ) → code < 2 ^ 31 → int_text code ≡ fmt.decimal code
small_text code small = ap signed_decimal (wrapped_small code small)

pub large_text : (code n : ℕ) → 2 ^ 31 ≤ code → code + (n + 1) ≡ 2 ^ 32 → int_text code ≡ 45 ∷ fmt.decimal (suc n)
large_text code n large is = ap signed_decimal (wrapped_large code n large is)

-- it has a digit
pub int_some : (code : ℕ) → code < 2 ^ 32 → 0 < length (int_text code)
int_some code fits = by_size (cases_lt code (2 ^ 31))
  where
    by_size : (code < 2 ^ 31) ⊎ (2 ^ 31 ≤ code) → 0 < length (int_text code)
    by_size (inl small) = let some = decimal_nonempty code (omega arith) in let same = ap length (small_text code small) in omega (arith, some, same)
    by_size (inr large) = let same = ap length (large_text code (4294967295 - code) large (omega arith)) in omega (arith, same)
