-- What the higher-order attributes of a node make.
use Rattle.std.proofs.Common.{◌≡◌, ℕ, ◌+◌, List, [], ◌∷◌, ◌++◌, Bool, true, false, ◌&&◌, ◌||◌, Option, Some, None, length, slice_get, if◌then◌else◌, refl, ap, sym, ◌∙◌, add-one, zero-add}
use Rattle.std.specs.List.{cons_option, filter_map, list_any, range_with_len}
use Rattle.std.specs.Option.{option_map}
use Rattle.std.proofs.lemmas.Bool.{and_from, and_parts}
use Rattle.std.proofs.lemmas.List.{append-nil}
use Rattle.std.proofs.lemmas.List.Elements.{filter_map-append}
use Rattle.std.proofs.lemmas.Option.{slice_get_within}
use Rattle.ast_grammar.specs.Grammar.{Class, is_sub}
use Rattle.attr_rules.specs.declared.kinds.Attr.{Attr}
use Rattle.attr_rules.specs.Rules.{Attribute, declared_at, declared_of, is_higher_order}
use Rattle.attr_coverage.specs.declared.created.Created.{Created}
use Rattle.attr_coverage.specs.Created.{created_as, created_at, created_by, made_by, makes_at}
use Rattle.attr_coverage.proofs.Following.{range_more}
use Rattle.attr_coverage.proofs.Rounds.{range_has, range_passes}
use Rattle.attr_scope.proofs.ItemsFound.{some_from}

-- what a test says of what is there
abbrev pub holds_of : {Y : Type 0} → (Y → Bool) → Option Y → Bool
holds_of q None = false
holds_of q (Some y) = q y

any_first : {Y : Type 0} (q : Y → Bool) (o : Option Y) (ys : List Y) → list_any q (cons_option o ys) ≡ (holds_of q o || list_any q ys)
any_first q None ys = refl
any_first q (Some y) ys = refl

-- something that some items give passes a test where one of them gives such a thing
pub any_given : {X Y : Type 0} (h : X → Option Y) (q : Y → Bool) (xs : List X) → list_any q (filter_map h xs) ≡ list_any (λ x. holds_of q (h x)) xs
any_given h q [] = refl
any_given h q (x ∷ xs) = any_first q (h x) (filter_map h xs) ∙ ap (λ b. holds_of q (h x) || b) (any_given h q xs)

pub held : {Y : Type 0} (q : Y → Bool) (o : Option Y) → holds_of q o ≡ true → (y : Y) × (o ≡ Some y) × (q y ≡ true)
held q None e = absurd (cc)
held q (Some y) e = (y, refl, e)

-- one number more of a range
pub given_more : {Y : Type 0} (h : ℕ → Option Y) (n : ℕ) → filter_map h (range_with_len 0 (n + 1)) ≡ filter_map h (range_with_len 0 n) ++ cons_option (h n) []
given_more h n =
    ap (λ m. filter_map h (range_with_len 0 m)) (add-one n) ∙ ap (filter_map h) (range_more 0 n) ∙ filter_map-append h (range_with_len 0 n) ((0 + n) ∷ [])
    ∙ ap (λ m. filter_map h (range_with_len 0 n) ++ cons_option (h m) []) (zero-add n)

module _ {Y : Type 0} (h : ℕ → Option Y) (n : ℕ) where
  pub made_more : {list more : List Y} {o : Option Y} {y : Y} → o ≡ h n → o ≡ Some y → more ≡ list ++ y ∷ [] → list ≡ filter_map h (range_with_len 0 n) → more ≡ filter_map h (range_with_len 0 (n + 1))
  made_more {y = y} gives some pushed made = pushed ∙ (λ i. made i ++ cons_option ((sym some ∙ gives) i) []) ∙ sym (given_more h n)

  pub made_no_more : {list : List Y} {o : Option Y} → o ≡ h n → o ≡ None → list ≡ filter_map h (range_with_len 0 n) → list ≡ filter_map h (range_with_len 0 (n + 1))
  made_no_more gives none made = made ∙ sym (append-nil (filter_map h (range_with_len 0 n))) ∙ (λ i. filter_map h (range_with_len 0 n) ++ cons_option ((sym none ∙ gives) i) []) ∙ sym (given_more h n)

module _ (g : List Class) (p b : ℕ) where
  -- what an attribute says that makes something
  pub record IsMade (root : Option ℕ) (declared : Option Attr) (m : Created) : Type 0 where
    pub attribute : Attr
    pub there : declared ≡ Some attribute
    pub higher_order : is_higher_order attribute.sort ≡ true
    pub below : is_sub g p attribute.class.0 ≡ true
    pub class : ℕ
    pub made : root ≡ Some class
    pub is : m ≡ created_as b class

  made_where : (d : Attr) (root : Option ℕ) (test : Bool) (m : Created) → makes_at g p d ≡ test → (if test then option_map (created_as b) root else None) ≡ Some m → IsMade root (Some d) m
  made_where d root false m passes e = absurd (cc)
  made_where d None true m passes e = absurd (cc)
  made_where d (Some t) true m passes e =
      let both = and_parts (is_higher_order d.sort) (is_sub g p d.class.0) passes in
      record { attribute = d; there = refl; higher_order = both.0; below = both.1; class = t; made = refl; is = cc }

  made_parts : (root : Option ℕ) (declared : Option Attr) (m : Created) → created_by g p b root declared ≡ Some m → IsMade root declared m
  made_parts root None m e = absurd (cc)
  made_parts root (Some d) m e = made_where d root (makes_at g p d) m refl e

  -- what an attribute makes by its root
  pub made_as : (d : Attr) (t : ℕ) (root : Option ℕ) (declared : Option Attr) → declared ≡ Some d → is_higher_order d.sort ≡ true → is_sub g p d.class.0 ≡ true → root ≡ Some t → created_by g p b root declared ≡ Some (created_as b t)
  made_as d t root declared there higher_order below made =
      (λ i. created_by g p b (made i) (there i)) ∙ ap (λ test. if test then Some (created_as b t) else None) (and_from (is_higher_order d.sort) (is_sub g p d.class.0) higher_order below)

module _ (g : List Class) (attributes : List Attribute) (root : ℕ → ℕ → Option ℕ) (p : ℕ) where
  -- one that passes a test is made
  pub record MakesOne (test : Created → Bool) : Type 0 where
    pub number : ℕ
    pub created : Created
    pub passes : test created ≡ true
    pub makes : IsMade g p number (root p number) (declared_at attributes number) created

  pub makes_one : (test : Created → Bool) → list_any test (made_by g attributes root p) ≡ true → MakesOne test
  makes_one test e =
      let at = created_at g attributes root p in
      let found = range_passes (λ b. holds_of test (at b)) (length attributes) (sym (any_given at test (range_with_len 0 (length attributes))) ∙ e) in
      let here = held test (at found.0) found.2 in
      record { number = found.0; created = here.0; passes = here.2; makes = made_parts g p found.0 (root p found.0) (declared_at attributes found.0) here.0 here.1 }

  pub makes_there : (test : Created → Bool) (b t : ℕ) (d : Attr) → declared_at attributes b ≡ Some d → is_higher_order d.sort ≡ true → is_sub g p d.class.0 ≡ true → root p b ≡ Some t → test (created_as b t) ≡ true
      → list_any test (made_by g attributes root p) ≡ true
  makes_there test b t d declared higher_order below made passes =
      let at = created_at g attributes root p in
      let attribute = some_from declared_of (slice_get attributes b) d declared in
      let here : at b ≡ Some (created_as b t) = made_as g p b d t (root p b) (declared_at attributes b) declared higher_order below made in
      any_given at test (range_with_len 0 (length attributes))
      ∙ range_has (λ c. holds_of test (at c)) (length attributes) b (slice_get_within attributes b attribute.0 attribute.1) (ap (holds_of test) here ∙ passes)

-- Where the roots of higher-order attributes are of the same classes, the same is made.
module _ (g : List Class) (p b : ℕ) (one other : Option ℕ) where
  same_where : (d : Attr) (higher_order : Bool) → is_higher_order d.sort ≡ higher_order → (is_higher_order d.sort ≡ true → one ≡ other) → created_by g p b one (Some d) ≡ created_by g p b other (Some d)
  same_where d true sort same = ap (λ root. created_by g p b root (Some d)) (same sort)
  same_where d false sort same =
      let made = λ (root : Option ℕ) (test : Bool). if test && is_sub g p d.class.0 then option_map (created_as b) root else None in
      ap (made one) sort ∙ sym (ap (made other) sort)

  same_by : (declared : Option Attr) → ((d : Attr) → declared ≡ Some d → is_higher_order d.sort ≡ true → one ≡ other) → created_by g p b one declared ≡ created_by g p b other declared
  same_by None same = refl
  same_by (Some d) same = same_where d (is_higher_order d.sort) refl (same d refl)

pub same_made : (g : List Class) (attributes : List Attribute) (root other : ℕ → ℕ → Option ℕ) (p : ℕ)
    → ((b : ℕ) (d : Attr) → declared_at attributes b ≡ Some d → is_higher_order d.sort ≡ true → root p b ≡ other p b) → made_by g attributes root p ≡ made_by g attributes other p
same_made g attributes root other p same =
    ap (λ (h : ℕ → Option Created). filter_map h (range_with_len 0 (length attributes))) (λ i b. same_by g p b (root p b) (other p b) (declared_at attributes b) (same b) i)
