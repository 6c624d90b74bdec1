-- The lines of some bytes.
use Rattle.std.proofs.Common.{◌≡◌, ℕ, suc, ◌+◌, ◌<◌, true, false, not, cond, eqb, List, [], ◌∷◌, ◌++◌, length, take, drop, refl, sym, ap, subst, ◌∙◌, arith}
use Rattle.std.specs.List.{AllPass, take_while, prefix_len}
use Rattle.std.proofs.lemmas.Bool.Decides.{nat_tests}
use Rattle.std.proofs.lemmas.List.{length-append}
use Rattle.std.proofs.lemmas.List.Elements.{All-head, All-tail, All-cons}
use Rattle.program_reader.specs.Queries.{AreLines, none, last, more, is_inside}
use Rattle.program_reader.specs.QuerySteps.{IsFirstLine, ended, final}

-- no byte is a line feed
abbrev AreInside : List ℕ → Type 0
AreInside line = AllPass is_inside line

-- the first byte of such a line, those behind it, and one more
inside_head : (b : ℕ) (line : List ℕ) → AreInside (b ∷ line) → is_inside b ≡ true
inside_head b line h = All-head (λ x. is_inside x ≡ true) b line h

inside_tail : (b : ℕ) (line : List ℕ) → AreInside (b ∷ line) → AreInside line
inside_tail b line h = All-tail (λ x. is_inside x ≡ true) b line h

inside_cons : (b : ℕ) (line : List ℕ) → is_inside b ≡ true → AreInside line → AreInside (b ∷ line)
inside_cons b line e h = All-cons (λ x. is_inside x ≡ true) b line e h

-- no line feed stands inside a line
no_feed : (line rest : List ℕ) → AreInside (line ++ 10 ∷ rest) → ⊥
no_feed [] rest h = let e : false ≡ true = inside_head 10 rest h in cc
no_feed (b ∷ line) rest h = no_feed line rest (inside_tail b (line ++ 10 ∷ rest) h)

-- two lines that end at the first line feed are one
record Same (line rest line' rest' : List ℕ) : Type 0 where
  lines : line ≡ line'
  rests : rest ≡ rest'

-- they are, up to the rests
same : (line rest line' rest' : List ℕ) → AreInside line → AreInside line' → line ++ 10 ∷ rest ≡ line' ++ 10 ∷ rest' → Same line rest line' rest'
same [] rest [] rest' i j e = record { lines = refl; rests = cc }
same [] rest (c ∷ line') rest' i j e = let f : 10 ≡ c = cc in let g : false ≡ true = ap is_inside f ∙ inside_head c line' j in absurd (cc)
same (b ∷ line) rest [] rest' i j e = let f : 10 ≡ b = cc in let g : false ≡ true = ap is_inside f ∙ inside_head b line i in absurd (cc)
same (b ∷ line) rest (c ∷ line') rest' i j e =
    let f : b ≡ c = cc in
    let g : line ++ 10 ∷ rest ≡ line' ++ 10 ∷ rest' = cc in
    let s = same line rest line' rest' (inside_tail b line i) (inside_tail c line' j) g in
    record { lines = ap (λ x. x ∷ line) f ∙ ap (λ xs. c ∷ xs) s.lines; rests = s.rests }

-- the first line is as long as the bytes before the first line feed
longer : (b : ℕ) (bytes line rest : List ℕ) → is_inside b ≡ true → IsFirstLine bytes line rest → IsFirstLine (b ∷ bytes) (b ∷ line) rest
longer b bytes line rest i (ended j e) = ended (inside_cons b line i j) (ap (λ xs. b ∷ xs) e)
longer b bytes line rest i (final j e f) = final (inside_cons b bytes i j) (ap (λ xs. b ∷ xs) e) f

-- how many bytes stand before the first line feed
abbrev front : List ℕ → ℕ
front bytes = length (take_while is_inside bytes)

-- none, where a line feed stands first
front_none : (b : ℕ) (bytes : List ℕ) → eqb b 10 ≡ true → front (b ∷ bytes) ≡ 0
front_none b bytes e = ap (λ t. length (take (cond (not t) (1 + prefix_len is_inside bytes) 0) (b ∷ bytes))) e

-- one more behind another byte
front_more : (b : ℕ) (bytes : List ℕ) → eqb b 10 ≡ false → front (b ∷ bytes) ≡ suc (front bytes)
front_more b bytes e =
    let one : 1 + prefix_len is_inside bytes ≡ suc (prefix_len is_inside bytes) = omega arith in
    ap (λ t. length (take (cond (not t) (1 + prefix_len is_inside bytes) 0) (b ∷ bytes))) e ∙ ap (λ n. length (take n (b ∷ bytes))) one

-- the first line has so many bytes
abbrev Cut : List ℕ → ℕ → Type 0
Cut bytes n = IsFirstLine bytes (take n bytes) (drop 1 (drop n bytes))

-- the first line ends before the first line feed
first_line-front : (bytes : List ℕ) → Cut bytes (front bytes)
first_line-front [] = final (λ k d h. absurd (omega arith)) refl refl
first_line-front (b ∷ bytes) = elim (eqb b 10) as (λ t. eqb b 10 ≡ t → Cut (b ∷ bytes) (front (b ∷ bytes))) [
  | true ↦ λ e. let f : b ≡ 10 = grind (arith, nat_tests) in subst (Cut (b ∷ bytes)) (sym (front_none b bytes e)) (ended (λ k d h. absurd (omega arith)) (ap (λ x. x ∷ bytes) f))
  | false ↦ λ e. subst (Cut (b ∷ bytes)) (sym (front_more b bytes e)) (longer b bytes (take (front bytes) bytes) (drop 1 (drop (front bytes) bytes)) (ap not e) (first_line-front bytes))
] refl

-- the same, where line and rest are equal to those
pub first_line_by : (bytes : List ℕ) (n : ℕ) (line rest : List ℕ) → n ≡ length (take_while is_inside bytes) → line ≡ take n bytes → rest ≡ drop 1 (drop n bytes) → IsFirstLine bytes line rest
first_line_by bytes n line rest e f g =
    let k : line ≡ take (front bytes) bytes = f ∙ ap (λ m. take m bytes) e in
    let h : rest ≡ drop 1 (drop (front bytes) bytes) = g ∙ ap (λ m. drop 1 (drop m bytes)) e in
    subst (λ x. IsFirstLine bytes x rest) (sym k) (subst (IsFirstLine bytes (take (front bytes) bytes)) (sym h) (first_line-front bytes))

-- no bytes are no lines
pub no_lines : {bytes : List ℕ} {lines : List (List ℕ)} → AreLines bytes lines → bytes ≡ [] → lines ≡ []
no_lines none e = refl
no_lines (last h) e = absurd (cc)
no_lines (more {line} {rest} h a) e = let n = ap length e in absurd (omega (arith, length-append line (10 ∷ rest)))

-- some bytes are some lines
pub some_line : {bytes : List ℕ} {lines : List (List ℕ)} → AreLines bytes lines → 0 < length bytes → 0 < length lines
some_line none h = h
some_line (last i) h = omega arith
some_line (more i a) h = omega arith

-- the lines of some bytes are the first one and those behind it
pub record Parted (line rest : List ℕ) (lines : List (List ℕ)) : Type 0 where
  pub others : List (List ℕ)
  pub are : lines ≡ line ∷ others
  pub behind : AreLines rest others

-- each list of lines is so
pub parted : {bytes : List ℕ} {lines : List (List ℕ)} (line rest : List ℕ) → AreLines bytes lines → 0 < length bytes → IsFirstLine bytes line rest → Parted line rest lines
parted line rest none h c = absurd (omega arith)
parted line rest (last {b} {line = l} i) h (ended j e) = absurd (no_feed line rest (subst AreInside e i))
parted line rest (last {b} {line = l} i) h (final j e f) = record { others = []; are = ap (λ x. x ∷ []) (sym e); behind = subst (λ x. AreLines x []) (sym f) none }
parted line rest (more {line = l} {rest = r} {lines} i a) h (ended j e) =
    let s = same l r line rest i j e in
    record { others = lines; are = ap (λ x. x ∷ lines) s.lines; behind = subst (λ x. AreLines x lines) s.rests a }
parted line rest (more {line = l} {rest = r} i a) h (final j e f) = absurd (no_feed l r j)

-- a line in front of others
pub joined : {bytes line rest : List ℕ} {lines : List (List ℕ)} → IsFirstLine bytes line rest → 0 < length bytes → AreLines rest lines → AreLines bytes (line ∷ lines)
joined {line = line} {rest} {lines} (ended i e) h a = subst (λ x. AreLines x (line ∷ lines)) (sym e) (more i a)
joined {bytes = []} (final i e f) h a = absurd (omega arith)
joined {bytes = b ∷ bytes} {line} {rest} {lines} (final i e f) h a =
    subst (λ x. AreLines (b ∷ bytes) (x ∷ lines)) (sym e) (subst (λ xs. AreLines (b ∷ bytes) ((b ∷ bytes) ∷ xs)) (sym (no_lines a f)) (last i))

-- some bytes have one list of lines
pub one_lines : {bytes : List ℕ} {ls ms : List (List ℕ)} → AreLines bytes ls → AreLines bytes ms → ls ≡ ms
one_lines none b = sym (no_lines b refl)
one_lines (last {b} {line} i) m =
    let p = parted (b ∷ line) [] m (omega arith) (final i refl refl) in
    ap (λ x. (b ∷ line) ∷ x) (sym (no_lines p.behind refl)) ∙ sym p.are
one_lines (more {line} {rest} {lines} i a) m =
    let p = parted line rest m (omega (arith, length-append line (10 ∷ rest))) (ended i refl) in
    ap (λ x. line ∷ x) (one_lines a p.behind) ∙ sym p.are
