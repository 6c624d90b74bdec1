-- A comment ends behind the first `*/`.
use Rattle.std.proofs.Common.{◌≡◌, ℕ, suc, ◌+◌, ◌≤◌, List, [], ◌∷◌, ◌++◌, length, take, drop, get_or, codes, true, false, ◌==◌, Option, Some, None, add-one, refl, sym, ap, ◌∙◌, arith}
use Rattle.std.proofs.lemmas.List.{take-append-drop}
use Rattle.std.proofs.lemmas.Bool.{cond_both, cond-false, and_parts, eqb-true, both_ways, false_from_ne_true, and_from, eq-eqb}
use Rattle.rag_io.specs.Lexemes.{IsOpen}
use Rattle.rag_io.specs.Fronts.{one_more, closes_comment, comment_end}

-- a star and a slash behind it
closes_at : (b : ℕ) (bytes after : List ℕ) → b ∷ bytes ≡ codes "*/" ++ after → closes_comment b bytes ≡ true
closes_at b [] after e = cc
closes_at b (c ∷ bytes) after e =
    let star : b ≡ 42 = cc in
    let slash : c ≡ 47 = cc in
    and_from (b == 42) (c == 47) (eq-eqb b 42 star) (eq-eqb c 47 slash)

-- where the byte closes the comment a star and a slash stand
pub closed_at : (b : ℕ) (bytes : List ℕ) → closes_comment b bytes ≡ true → (after : List ℕ) × (b ∷ bytes ≡ codes "*/" ++ after)
closed_at b [] h = absurd (both_ways false refl (and_parts (b == 42) false h).1)
closed_at b (c ∷ bytes) h =
    let parts = and_parts (b == 42) (c == 47) h in
    let star : b ≡ 42 = eqb-true b 42 parts.0 in
    let slash : c ≡ 47 = eqb-true c 47 parts.1 in
    (bytes, cc)

-- behind a byte of an open comment the comment is open
open_behind : (b : ℕ) (text : List ℕ) → IsOpen (b ∷ text) → IsOpen text
open_behind b text opens before after e =
    let longer : length (b ∷ text) ≤ length (b ∷ before) = opens (b ∷ before) after (ap (λ (bytes : List ℕ). b ∷ bytes) e) in
    omega arith

-- a byte before an open comment that doesn't close it
open_before : (b : ℕ) (text after : List ℕ) → closes_comment b (text ++ codes "*/" ++ after) ≡ false → IsOpen text → IsOpen (b ∷ text)
open_before b text after fails opens [] behind e = absurd (both_ways _ fails (closes_at b (text ++ codes "*/" ++ after) (behind ++ after) (ap (λ (bytes : List ℕ). bytes ++ after) e)))
open_before b text after fails opens (x ∷ before) behind e = let n : length text ≤ length before = opens before behind cc in omega arith

-- no `*/` stands at the front of an open comment
never_closed : (b : ℕ) (text rest after : List ℕ) → IsOpen (b ∷ text) → b ∷ (text ++ codes "*/" ++ rest) ≡ codes "*/" ++ after → ⊥
never_closed b [] rest after opens e = let second : ◌≡◌ {A = ℕ} 42 47 = ap (λ (bytes : List ℕ). get_or bytes 1 0) e in absurd (omega arith)
never_closed b (c ∷ text) rest after opens e =
    let star : b ≡ 42 = ap (λ (bytes : List ℕ). get_or bytes 0 0) e in
    let slash : c ≡ 47 = ap (λ (bytes : List ℕ). get_or bytes 1 0) e in
    let early : length (b ∷ (c ∷ text)) ≤ length {A = ℕ} [] =
    opens [] (text ++ codes "*/") (ap (λ (x : ℕ). x ∷ (c ∷ (text ++ codes "*/"))) star ∙ ap (λ (x : ℕ). 42 ∷ (x ∷ (text ++ codes "*/"))) slash) in
    absurd (omega arith)

-- the first byte of an open comment doesn't close it
goes_on : (b : ℕ) (text rest : List ℕ) → IsOpen (b ∷ text) → closes_comment b (text ++ codes "*/" ++ rest) ≡ false
goes_on b text rest opens = false_from_ne_true _
    (λ closes. let closed = closed_at b (text ++ codes "*/" ++ rest) closes in never_closed b text rest closed.0 opens closed.1)

-- a comment ends at the first `*/`
pub comment_end-append : (text rest : List ℕ) → IsOpen text → comment_end (text ++ codes "*/" ++ rest) ≡ Some (length text + 2)
unfolding comment_end
comment_end-append [] rest opens = refl
comment_end-append (b ∷ text) rest opens =
    cond-false (closes_comment b (text ++ codes "*/" ++ rest)) (Some 2) (one_more (comment_end (text ++ codes "*/" ++ rest))) (goes_on b text rest opens)
    ∙ ap one_more (comment_end-append text rest (open_behind b text opens))
    ∙ (let e : length text + 2 + 1 ≡ suc (length text) + 2 = omega arith in ap Some e)

-- what the end of a comment is
pub record IsClosed (bytes : List ℕ) (n : ℕ) : Type 0 where
  pub text : List ℕ
  pub front : take n bytes ≡ text ++ codes "*/"
  pub opens : IsOpen text

-- what the search finds
abbrev pub FindsEnd : List ℕ → Option ℕ → Type 0
FindsEnd bytes None = Unit {0}
FindsEnd bytes (Some n) = IsClosed bytes n

-- up to its end a comment is open
pub finds_end : (bytes : List ℕ) → FindsEnd bytes (comment_end bytes)
unfolding comment_end
finds_end [] = tt
finds_end (b ∷ bytes) =
    cond_both (closes_comment b bytes) (Some 2) (one_more (comment_end bytes)) (FindsEnd (b ∷ bytes)) here (behind (comment_end bytes) (finds_end bytes))
  where
    here : closes_comment b bytes ≡ true → IsClosed (b ∷ bytes) 2
    here closes = record { text = []; front = ap (take 2) (closed_at b bytes closes).1; opens = λ before after e. omega arith }

    behind : (end : Option ℕ) → FindsEnd bytes end → closes_comment b bytes ≡ false → FindsEnd (b ∷ bytes) (one_more end)
    behind None none fails = tt
    behind (Some n) is fails =
        let whole : bytes ≡ is.text ++ codes "*/" ++ drop n bytes = sym (take-append-drop n bytes) ∙ ap (λ (front : List ℕ). front ++ drop n bytes) is.front in
        record {
          text = b ∷ is.text;
          front = rw (add-one n) (ap (λ (front : List ℕ). b ∷ front) is.front);
          opens = open_before b is.text (drop n bytes) (sym (ap (closes_comment b) whole) ∙ fails) is.opens;
        }
