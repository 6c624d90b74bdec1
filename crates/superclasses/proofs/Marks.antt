-- The rows that mark what is above each class.
use Rattle.std.proofs.Common.{◌≡◌, ◌==◌, ℕ, zero, suc, ◌+◌, ◌<◌, ◌≤◌, Bool, true, false, List, [], ◌∷◌, ◌++◌, Option, Some, None, Vec, length, get_or, slice_get, inl, inr, refl, sym, ap, ◌∙◌, subst, arith}
use Rattle.std.specs.List.{list_any}
use Rattle.std.specs.declared.alloc.Global.{Global}
use Rattle.std.proofs.lemmas.Bool.{eq-eqb, eqb-true, cases_order}
use Rattle.std.proofs.lemmas.List.Folds.{list_any_at}
use Rattle.std.proofs.lemmas.Map.Views.{Contains-from_any}
use Rattle.std.proofs.lemmas.Option.{slice_get_past}
use Rattle.std.proofs.Math.ListN.{get_or-eq_default, length-append}
use Rattle.superclasses.specs.Superclasses.{AreWithin, IsAbove, directly, through, line_of, is_above}
use Rattle.superclasses.specs.Rows.{Mark, MarksLine, row_marks, rows_mark}
use Rattle.superclasses.proofs.Lines.{above_line, line_none}

-- two tests that are passed together are the same
same_tests : (x y : Bool) → (x ≡ true → y ≡ true) → (y ≡ true → x ≡ true) → x ≡ y
same_tests true y f g = sym (f refl)
same_tests false true f g = g refl
same_tests false false f g = refl

-- what is above a class is one of the classes
above_within : (s : List (Option ℕ)) → AreWithin s → (a b : ℕ) → IsAbove s a b → b < length s
above_within s w a b (directly e) = w.within a b e
above_within s w a b (through {b = c} e h) = above_within s w c b h

-- a row of marks at the classes of a line
row_is : (s : List (Option ℕ)) → AreWithin s → (a : ℕ) (row : List Bool) → MarksLine s a row → (b : ℕ) → get_or row b false ≡ is_above s a b
row_is s w a row h b =
    same_tests (get_or row b false) (is_above s a b) (λ e. let at = ((h b).0 e).1 in list_any_at (λ c. c == b) (line_of s a) at.0 b at.1 (eq-eqb (get_or (line_of s a) at.0 b) b at.2)) (λ e. (h b).1 (
      above_within s w a b ((above_line s a b).0 e),
      Contains-from_any {eq = λ x y. y == x} (λ x y t. sym (eqb-true y x t)) b (line_of s a) e,
    ))

-- the rows of the first n classes
pub record MarkFirst (superclasses : List (Option ℕ)) (n : ℕ) (rows : List (Vec Bool Global)) : Type 0 where
  pub len : length rows ≡ n
  pub mark : (a b : ℕ) → a < n → rows_mark rows a b ≡ is_above superclasses a b

pub first_none : (s : List (Option ℕ)) {rows : List (Vec Bool Global)} → rows ≡ [] → MarkFirst s 0 rows
first_none s e = record { len = ap length e; mark = λ a b l. absurd (omega arith) }

get_before : {X : Type 0} (xs : List X) (y : X) (a : ℕ) → a < length xs → slice_get (xs ++ y ∷ []) a ≡ slice_get xs a
get_before [] y a l = absurd (omega arith)
get_before (x ∷ xs) y zero l = refl
get_before (x ∷ xs) y (suc a) l = get_before xs y a (omega arith)

get_last : {X : Type 0} (xs : List X) (y : X) → slice_get (xs ++ y ∷ []) (length xs) ≡ Some y
get_last [] y = refl
get_last (x ∷ xs) y = get_last xs y

-- one more row
pub first_more : (s : List (Option ℕ)) (n : ℕ) (rows : List (Vec Bool Global)) {more : List (Vec Bool Global)} (row : Vec Bool Global) → AreWithin s → MarkFirst s n rows → more ≡ rows ++ row ∷ []
    → MarksLine s n row.items → MarkFirst s (n + 1) more
first_more s n rows {more} row w m e h =
    let size : length rows ≡ n = m.len in
    let before : (a b : ℕ) → a < n → rows_mark more a b ≡ is_above s a b =
    λ a b l. ap (λ (rs : List (Vec Bool Global)). rows_mark rs a b) e ∙ ap (λ r. row_marks r b) (get_before rows row a (omega arith)) ∙ m.mark a b l in
    let last : (b : ℕ) → rows_mark more n b ≡ is_above s n b =
    λ b. ap (λ (rs : List (Vec Bool Global)). rows_mark rs n b) e ∙ ap (λ k. row_marks (slice_get (rows ++ row ∷ []) k) b) (sym size) ∙ ap (λ r. row_marks r b) (get_last rows row) ∙ row_is s w n row.items h b in
    record {
      len = ap length e ∙ length-append rows (row ∷ []) ∙ ap (λ k. k + 1) size;
      mark = λ a b l. elim (cases_order a n) [
        | inl same ↦ subst (λ k. rows_mark more k b ≡ is_above s k b) (sym same) (last b)
        | inr apart ↦ elim apart [ inl under ↦ before a b under | inr over ↦ absurd (omega arith) ]
      ];
    }

-- nothing is above a number past the end
past_end : (s : List (Option ℕ)) (a b : ℕ) → length s ≤ a → is_above s a b ≡ false
past_end s a b l = ap (list_any (λ c. c == b)) (line_none s a (get_or-eq_default s None l))

-- the rows of all classes
pub first_all : (s : List (Option ℕ)) (n : ℕ) (rows : List (Vec Bool Global)) → n ≡ length s → AreWithin s → MarkFirst s n rows → Mark s rows
first_all s n rows all w m =
    let size : length rows ≡ n = m.len in
    let past : (a b : ℕ) → n ≤ a → rows_mark rows a b ≡ is_above s a b =
    λ a b l. ap (λ r. row_marks r b) (slice_get_past rows a (omega arith)) ∙ sym (past_end s a b (omega arith)) in
    record {
      within = w;
      mark = λ a b. elim (cases_order a n) [
        | inl same ↦ past a b (omega arith)
        | inr apart ↦ elim apart [ inl under ↦ m.mark a b under | inr over ↦ past a b (omega arith) ]
      ];
    }
