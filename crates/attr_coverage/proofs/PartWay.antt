-- A search that has followed some of the classes that it found.
use Rattle.std.proofs.Common.{◌≡◌, ◌==◌, ℕ, ◌+◌, ◌<◌, ◌≤◌, List, Bool, true, false, ◌||◌, Some, Vec, length, get_or, replicate, take, refl, ap, subst, sym, ◌∙◌, arith, inl, inr}
use Rattle.std.specs.List.{range_with_len}
use Rattle.std.specs.declared.alloc.Global.{Global}
use Rattle.std.proofs.lemmas.Bool.{cases_lt, eq-eqb, eqb-true, or_cases, or_left, or_right}
use Rattle.std.proofs.lemmas.List.{get_or-replicate, get_or_past, length-replicate, take-append-le, take_all}
use Rattle.std.proofs.lemmas.List.Folds.{list_any_at, list_any_more}
use Rattle.std.proofs.lemmas.List.FromFn.{length-range_with_len}
use Rattle.std.proofs.lemmas.List.Sums.{count_by-le-length}
use Rattle.std.proofs.lemmas.Option.{slice_get-get_or}
use Rattle.ast_grammar.specs.declared.grammar.ClassId.{ClassId}
use Rattle.ast_grammar.specs.Grammar.{Class}
use Rattle.attr_rules.specs.declared.dispatch.Via.{Via}
use Rattle.attr_coverage.specs.declared.created.Created.{Created}
use Rattle.attr_coverage.specs.Covering.{is_concrete_below, is_uncovered, may_follow}
use Rattle.attr_coverage.specs.CoveringKept.{Adds, AreListed, Grows, is_listed, mark_at}
use Rattle.attr_coverage.specs.declared.covering.Found.{Found}
use Rattle.attr_coverage.specs.Dispatched.{HasMade}
use Rattle.attr_coverage.proofs.Rounds.{closed, follows, least, rooted}

unmarked : (n c : ℕ) → mark_at (replicate n false) c ≡ false
unmarked n c = elim (cases_lt c n) [
  | inl within ↦ get_or-replicate n c false false within
  | inr past ↦ get_or_past (replicate n false) c false (omega (arith, length-replicate n false))
]

-- at most as many classes are listed as there are marks
pub few_listed : {f : Found} → AreListed f → length f.classes.items ≤ length f.marks.items
few_listed {f} kept =
    omega (arith, kept.once, count_by-le-length (mark_at f.marks.items) (range_with_len 0 (length f.marks.items)), length-range_with_len 0 (length f.marks.items))

-- a class that is listed
listed_at : (classes : List ClassId) (i : ℕ) (class : ClassId) → i < length classes → class ≡ get_or classes i class → is_listed classes class.0 ≡ true
listed_at classes i class within is = list_any_at (λ (x : ClassId). x.0 == class.0) classes i class within (ap (λ (x : ClassId). x.0 == class.0) (sym is) ∙ eq-eqb class.0 class.0 refl)

-- it is marked
marked_at : {f : Found} → AreListed f → (i : ℕ) (class : ClassId) → i < length f.classes.items → class ≡ get_or f.classes.items i class → mark_at f.marks.items class.0 ≡ true
marked_at {f} kept i class within is = kept.listed class.0 ∙ listed_at f.classes.items i class within is

-- and so one of the classes
marked_within : (marks : List Bool) (c : ℕ) → mark_at marks c ≡ true → c < length marks
marked_within marks c marked = elim (cases_lt c (length marks)) [
  | inl within ↦ within
  | inr past ↦ (let never = get_or_past marks c false past in absurd (cc))
]

-- so a class that is listed is one of them
pub listed_within : {f : Found} → AreListed f → (i : ℕ) (class : ClassId) → i < length f.classes.items → class ≡ get_or f.classes.items i class → class.0 < length f.marks.items
listed_within {f} kept i class within is = marked_within f.marks.items class.0 (marked_at kept i class within is)

same_truth : (a b : Bool) → (a ≡ true → b ≡ true) → (b ≡ true → a ≡ true) → a ≡ b
same_truth true b f h = sym (f refl)
same_truth false true f h = h refl
same_truth false false f h = refl

module _ (g : List Class) (covered : ℕ → Via → Bool) (made : ℕ → List Created) where
  -- What is found can be met uncovered, those of the root are found, and so are those of what may follow uncovered at nodes of the first classes.
  pub record IsPartWay (next : ℕ) (f : Found) : Type 0 where
    pub sound : (c : ℕ) → mark_at f.marks.items c ≡ true → is_uncovered g covered made c ≡ true
    pub root : (c : ℕ) → is_concrete_below g 0 c ≡ true → mark_at f.marks.items c ≡ true
    pub followed : (p c : ℕ) → is_listed (take next f.classes.items) p ≡ true → follows g covered made p c ≡ true → mark_at f.marks.items c ≡ true

  pub part_start : (n : ℕ) {e f : Found} → e.marks.items ≡ replicate n false → Adds (is_concrete_below g 0) e f → IsPartWay 0 f
  part_start n {e} {f} empty h =
      let test = is_concrete_below g 0 in
      let marks : (c : ℕ) → mark_at f.marks.items c ≡ test c = λ c. h.marks c ∙ ap (λ b. b || test c) (ap (λ marks. mark_at marks c) empty ∙ unmarked n c) in
      record {
        sound = λ c e. rooted g covered made c (sym (marks c) ∙ e);
        root = λ c e. marks c ∙ e;
        followed = λ p c e hangs. absurd (cc);
      }

  module _ {next : ℕ} {e : Found} (way : IsPartWay next e) (kept : AreListed e) where
    -- one more class is followed
    pub part_more : {f : Found} (class : ClassId) → next < length e.classes.items → class ≡ get_or e.classes.items next class → Grows e f → Adds (follows g covered made class.0) e f → IsPartWay (next + 1) f
    part_more {f} class within is grown adds =
        let classes = e.classes.items in
        let test = follows g covered made class.0 in
        let marked = marked_at kept next class within is in
        let first = ap (take (next + 1)) grown.classes ∙ take-append-le (next + 1) classes grown.more (omega arith) in
        let listed : (p : ℕ) → is_listed (take (next + 1) f.classes.items) p ≡ (is_listed (take next classes) p || (class.0 == p)) =
        λ p. ap (λ xs. is_listed xs p) first ∙ list_any_more (λ (x : ClassId). x.0 == p) classes next class within ∙ ap (λ (x : ClassId). is_listed (take next classes) p || (x.0 == p)) (sym is) in
        record {
          sound = λ c found. elim (or_cases (mark_at e.marks.items c) (test c) (sym (adds.marks c) ∙ found)) [
            | inl before ↦ way.sound c before
            | inr hangs ↦ closed g covered made class.0 c (way.sound class.0 marked) hangs
          ];
          root = λ c found. adds.marks c ∙ or_left (mark_at e.marks.items c) (test c) (way.root c found);
          followed = λ p c found hangs. elim (or_cases (is_listed (take next classes) p) (class.0 == p) (sym (listed p) ∙ found)) [
            | inl before ↦ adds.marks c ∙ or_left (mark_at e.marks.items c) (test c) (way.followed p c before hangs)
            | inr same ↦ adds.marks c ∙ or_right (mark_at e.marks.items c) (test c) (ap (λ x. follows g covered made x c) (eqb-true class.0 p same) ∙ hangs)
          ];
        }

    -- all are
    pub part_all : length e.classes.items ≤ next → (c : ℕ) → mark_at e.marks.items c ≡ is_uncovered g covered made c
    part_all all c =
        let marked = λ (d : ℕ). mark_at e.marks.items d ≡ true in
        let whole = take_all next e.classes.items all in
        same_truth (mark_at e.marks.items c) (is_uncovered g covered made c) (way.sound c)
        (least g covered made marked way.root (λ p d found hangs. way.followed p d (ap (λ xs. is_listed xs p) whole ∙ sym (kept.listed p) ∙ found) hangs) c)

-- what is found of what a row has, by what is made at nodes of the class
pub follows_row : (g : List Class) (covered : ℕ → Via → Bool) (made : ℕ → List Created) (rows : List (Vec Created Global)) → HasMade made rows → (p : ℕ) {row : Vec Created Global} {list : List Created} → p < length rows → row ≡ get_or rows p row
    → list ≡ row.items → {e f : Found} → Adds (may_follow g covered list p) e f → Adds (follows g covered made p) e f
follows_row g covered made rows has p {row} within is same {e} {f} h =
    subst (λ list. Adds (may_follow g covered list p) e f) (same ∙ has p row (slice_get-get_or rows p row within ∙ ap Some (sym is))) h
