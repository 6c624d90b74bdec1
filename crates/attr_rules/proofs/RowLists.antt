-- Lists of rows that are made one after another.
use Rattle.std.proofs.Common.{◌≡◌, ℕ, zero, suc, ◌+◌, ◌<◌, List, [], ◌∷◌, ◌++◌, Option, Some, Vec, inl, inr, length, slice_get, refl, ap, sym, subst, ◌∙◌, arith}
use Rattle.std.specs.declared.alloc.Global.{Global}
use Rattle.std.proofs.lemmas.List.{length_push}
use Rattle.ast_grammar.proofs.Keeping.{push_cases}
use Rattle.attr_rules.specs.RowsKept.{at_place, at_row, in_row}

-- so many rows, of which each has what is wanted of its number
pub record AreEach {X : Type 0} (Is : ℕ → List (Option X) → Type 0) (count : ℕ) (rows : List (Vec (Option X) Global)) : Type 0 where
  pub long : length rows ≡ count
  pub each : (k : ℕ) (row : Vec (Option X) Global) → slice_get rows k ≡ Some row → Is k row.items

pub there : {Y : Type 0} (ys : List Y) (k : ℕ) → k < length ys → (y : Y) × (slice_get ys k ≡ Some y)
there [] k h = absurd (omega arith)
there (y ∷ ys) zero h = (y, refl)
there (y ∷ ys) (suc k) h = there ys k (omega arith)

module _ {X : Type 0} (Is : ℕ → List (Option X) → Type 0) where
  pub each_none : {rows : List (Vec (Option X) Global)} → rows ≡ [] → AreEach Is 0 rows
  each_none {rows} none = record { long = ap length none; each = λ k row e. absurd (let some : slice_get [] k ≡ Some row = sym (ap (λ rs. slice_get rs k) none) ∙ e in cc) }

  pub each_more : (count : ℕ) (row : Vec (Option X) Global) {rows later : List (Vec (Option X) Global)} → Is count row.items → later ≡ rows ++ row ∷ [] → AreEach Is count rows → AreEach Is (count + 1) later
  each_more count row {rows} {later} is pushed before = record {
    long = (let one : length later ≡ length rows + 1 = ap length pushed ∙ length_push rows row in omega (arith, before.long));
    each = λ k r e. elim (push_cases rows row r k (ap (λ rs. slice_get rs k) (sym pushed) ∙ e)) [
      | inl h ↦ before.each k r h
      | inr h ↦ subst (λ (v : Vec (Option X) Global). Is k v.items) h.1 (subst (λ n. Is n row.items) (sym (h.0 ∙ before.long)) is)
    ];
  }

  -- what stands at a place of one of the rows
  pub at_each : (Says : Option X → Type 0) (count k n : ℕ) {rows : List (Vec (Option X) Global)} → AreEach Is count rows → k < count → ((row : List (Option X)) → Is k row → Says (at_place row n)) → Says (at_row rows k n)
  at_each Says count k n {rows} rs h says =
      let t = there rows k (omega (arith, rs.long)) in
      subst (λ (o : Option (Vec (Option X) Global)). Says (in_row o n)) (sym t.1) (says t.0.items (rs.each k t.0 t.1))
