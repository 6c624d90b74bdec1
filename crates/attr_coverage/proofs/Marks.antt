-- What is found one by one.
use Rattle.std.proofs.Common.{◌≡◌, ◌==◌, ◌≢◌, ℕ, ◌+◌, ◌<◌, List, [], ◌∷◌, ◌++◌, Bool, true, false, not, ◌&&◌, ◌||◌, length, ltb, set, refl, ap, sym, ◌∙◌, arith, inl, inr, append_assoc, length-append}
use Rattle.std.specs.List.{count_by, range_with_len}
use Rattle.std.proofs.lemmas.Bool.{and_from, and_left, and_right, cases_Bool, cases_eq, eq-eqb, le-ltb, lt-ltb, ne_eqb, not_from_false, or_left}
use Rattle.std.proofs.lemmas.Bool.Decides.{nat_tests}
use Rattle.std.proofs.lemmas.Grind.{get_or-set_at}
use Rattle.std.proofs.lemmas.List.{append-nil, get_or-set_other, length-set}
use Rattle.std.proofs.lemmas.List.Folds.{list_any-append}
use Rattle.ast_grammar.specs.declared.grammar.ClassId.{ClassId}
use Rattle.attr_coverage.specs.CoveringKept.{Adds, AreListed, Grows, is_listed, mark_at}
use Rattle.attr_coverage.specs.declared.covering.Found.{Found}
use Rattle.attr_coverage.proofs.Rounds.{count_less, range_has}

pub or_none : (b : Bool) → (b || false) ≡ b
or_none true = refl
or_none false = refl

or_some : (b : Bool) → (b || true) ≡ true
or_some true = refl
or_some false = refl

or_or : (a b c : Bool) → ((a || b) || c) ≡ (a || (b || c))
or_or true b c = refl
or_or false b c = refl

-- a mark more
marked_too : (marks : List Bool) (k c : ℕ) → k < length marks → mark_at (set marks k true) c ≡ (mark_at marks c || (k == c))
marked_too marks k c within = elim (cases_eq k c) [
  | inl same ↦ get_or-set_at marks k c true false (sym same) within ∙ sym (ap (λ b. mark_at marks c || b) (eq-eqb k c same) ∙ or_some (mark_at marks c))
  | inr other ↦ (let apart : c ≢ k = λ e. other (sym e) in get_or-set_other marks k c true false apart ∙ sym (ap (λ b. mark_at marks c || b) (ne_eqb k c other) ∙ or_none (mark_at marks c)))
]

listed_too : (classes : List ClassId) (class : ClassId) (c : ℕ) → is_listed (classes ++ class ∷ []) c ≡ (is_listed classes c || (class.0 == c))
listed_too classes class c = list_any-append (λ (x : ClassId). x.0 == c) classes (class ∷ []) ∙ ap (λ b. is_listed classes c || b) (or_none (class.0 == c))

-- a class that wasn't marked is found
module _ (before after : Found) (class : ClassId) (within : class.0 < length before.marks.items) (new : mark_at before.marks.items class.0 ≡ false)
    (marked : after.marks.items ≡ set before.marks.items class.0 true) (pushed : after.classes.items ≡ before.classes.items ++ class ∷ []) where
  added : (c : ℕ) → mark_at after.marks.items c ≡ (mark_at before.marks.items c || (class.0 == c))
  added c = ap (λ marks. mark_at marks c) marked ∙ marked_too before.marks.items class.0 c within

  as_long : length after.marks.items ≡ length before.marks.items
  as_long = ap length marked ∙ length-set before.marks.items class.0 true

  one_more : count_by (mark_at before.marks.items) (range_with_len 0 (length before.marks.items)) < count_by (mark_at after.marks.items) (range_with_len 0 (length before.marks.items))
  one_more =
      let here : mark_at after.marks.items class.0 ≡ true = added class.0 ∙ ap (λ b. mark_at before.marks.items class.0 || b) (eq-eqb class.0 class.0 refl) ∙ or_some (mark_at before.marks.items class.0) in
      let found = and_from (mark_at after.marks.items class.0) (not (mark_at before.marks.items class.0)) here (not_from_false (mark_at before.marks.items class.0) new) in
      count_less (mark_at before.marks.items) (mark_at after.marks.items) (range_with_len 0 (length before.marks.items))
      (λ c e. added c ∙ or_left (mark_at before.marks.items c) (class.0 == c) e)
      (range_has (λ c. mark_at after.marks.items c && not (mark_at before.marks.items c)) (length before.marks.items) class.0 within found)

  kept_more : AreListed before → AreListed after
  kept_more kept = record {
    listed = λ c. added c ∙ ap (λ b. b || (class.0 == c)) (kept.listed c) ∙ sym (ap (λ classes. is_listed classes c) pushed ∙ listed_too before.classes.items class c);
    once =
        (let more = one_more in
        let least = kept.once in
        let counted = ap (λ n. count_by (mark_at after.marks.items) (range_with_len 0 n)) as_long in
        let longer = ap length pushed ∙ length-append before.classes.items (class ∷ []) in
        omega arith);
  }

  pub grown_one : Grows before after
  grown_one = record { kept = kept_more; long = as_long; more = class ∷ []; classes = pushed }

-- nothing more is found
pub grown_none : {f : Found} → Grows f f
grown_none {f} = record { kept = λ kept. kept; long = refl; more = []; classes = sym (append-nil f.classes.items) }

-- what is found in two steps
pub grown_then : {e f h : Found} → Grows e f → Grows f h → Grows e h
grown_then {e} {f} {h} first then = record {
  kept = λ kept. then.kept (first.kept kept);
  long = then.long ∙ first.long;
  more = first.more ++ then.more;
  classes = then.classes ∙ ap (λ classes. classes ++ then.more) first.classes ∙ append_assoc e.classes.items first.more then.more;
}

pub adds_none : {f : Found} → Adds (λ c. false) f f
adds_none {f} = record { marks = λ c. sym (or_none (mark_at f.marks.items c)) }

pub adds_then : {p q : ℕ → Bool} {e f h : Found} → Adds p e f → Adds q f h → Adds (λ c. p c || q c) e h
adds_then {p} {q} {e} first then = record { marks = λ c. then.marks c ∙ ap (λ b. b || q c) (first.marks c) ∙ or_or (mark_at e.marks.items c) (p c) (q c) }

-- a test that holds, or doesn't
pub adds_where : (q : ℕ → Bool) {e f : Found} (b : Bool) → b ≡ true → Adds q e f → Adds (λ c. b && q c) e f
adds_where q {e} b holds h = record { marks = λ c. h.marks c ∙ ap (λ x. mark_at e.marks.items c || (x && q c)) (sym holds) }

pub adds_nowhere : (q : ℕ → Bool) {f : Found} (b : Bool) → b ≡ false → Adds (λ c. b && q c) f f
adds_nowhere q {f} b fails = record { marks = λ c. sym (ap (λ x. mark_at f.marks.items c || (x && q c)) fails ∙ or_none (mark_at f.marks.items c)) }

-- a class that is marked already
pub adds_marked : {f : Found} (class : ℕ) (b : Bool) → mark_at f.marks.items class ≡ true → Adds (λ c. b && (class == c)) f f
adds_marked {f} class b marked = record {
  marks = λ c. elim (cases_eq class c) [
    | inl same ↦ (let here : mark_at f.marks.items c ≡ true = ap (mark_at f.marks.items) (sym same) ∙ marked in here ∙ sym (or_left (mark_at f.marks.items c) (b && (class == c)) here))
    | inr other ↦ sym (ap (λ x. mark_at f.marks.items c || x) (and_right b (class == c) (ne_eqb class c other)) ∙ or_none (mark_at f.marks.items c))
  ];
}

-- the same test in other words
pub adds_same : {p q : ℕ → Bool} {e f : Found} → ((c : ℕ) → p c ≡ q c) → Adds p e f → Adds q e f
adds_same {p} {q} {e} same h = record { marks = λ c. h.marks c ∙ ap (λ b. mark_at e.marks.items c || b) (same c) }

-- One class after another, of those that pass a test.
module _ (q : ℕ → Bool) (n : ℕ) where
  abbrev pub before_it : ℕ → Bool
  before_it c = ltb c n && q c

  later : (c : ℕ) → (n ≡ c → ⊥) → ltb c (n + 1) ≡ ltb c n
  later c other = grind (arith, nat_tests)

  one_passes : q n ≡ true → (c : ℕ) → (before_it c || (n == c)) ≡ (ltb c (n + 1) && q c)
  one_passes passes c = elim (cases_eq n c) [
    | inl same ↦
        ap (λ b. before_it c || b) (eq-eqb n c same) ∙ or_some (before_it c)
        ∙ sym (and_from (ltb c (n + 1)) (q c) (lt-ltb c (n + 1) (omega arith)) (ap q (sym same) ∙ passes))
    | inr other ↦ ap (λ b. before_it c || b) (ne_eqb n c other) ∙ or_none (before_it c) ∙ ap (λ b. b && q c) (sym (later c other))
  ]

  one_fails : q n ≡ false → (c : ℕ) → before_it c ≡ (ltb c (n + 1) && q c)
  one_fails fails c = elim (cases_eq n c) [
    | inl same ↦ (let here : q c ≡ false = ap q (sym same) ∙ fails in and_right (ltb c n) (q c) here ∙ sym (and_right (ltb c (n + 1)) (q c) here))
    | inr other ↦ ap (λ b. b && q c) (sym (later c other))
  ]

  pub adds_one : {e f h : Found} → q n ≡ true → Adds before_it e f → Adds (λ c. n == c) f h → Adds (λ c. ltb c (n + 1) && q c) e h
  adds_one passes first then = adds_same (one_passes passes) (adds_then first then)

  pub adds_no_more : {e f : Found} → q n ≡ false → Adds before_it e f → Adds (λ c. ltb c (n + 1) && q c) e f
  adds_no_more fails first = adds_same (one_fails fails) first

  all_below : ((c : ℕ) → q c ≡ true → c < n) → (c : ℕ) → before_it c ≡ q c
  all_below within c = elim (cases_Bool (q c)) [
    | inl passes ↦ and_from (ltb c n) (q c) (lt-ltb c n (within c passes)) passes ∙ sym passes
    | inr fails ↦ and_right (ltb c n) (q c) fails ∙ sym fails
  ]

  pub adds_all : {e f : Found} → ((c : ℕ) → q c ≡ true → c < n) → Adds before_it e f → Adds q e f
  adds_all within h = adds_same (all_below within) h

pub adds_start : (q : ℕ → Bool) {f : Found} → Adds (λ c. ltb c 0 && q c) f f
adds_start q = adds_same (λ c. sym (and_left (ltb c 0) (q c) (le-ltb c 0 (omega arith)))) adds_none
