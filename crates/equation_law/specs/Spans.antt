-- The nodes of a class and of its subclasses, from the first to the last.
use Rattle.std.specs.Prelude.{◌≡◌, ℕ, suc, ◌<◌, ◌≤◌, ◌⊎◌, Bool, true, false, List, Option, None, Some, length, slice_index}
use Rattle.ast_grammar.specs.declared.grammar.ClassId.{ClassId}
use Rattle.ast_grammar.specs.Grammar.{Class, is_sub}
use Rattle.tree_arena.specs.Nodes.{Node, class_in}
use Rattle.equation_law.specs.declared.spans.Span.{Span}

-- node n is of the class of this number
pub record IsOfClass (tree : List Node) (c n : ℕ) : Type 0 where
  pub class : ClassId
  pub of : class_in tree n ≡ Some class
  pub is : class.0 ≡ c

-- it is the class of this number or a subclass
abbrev pub class_below : List Class → ℕ → Option ClassId → Bool
class_below g c None = false
class_below g c (Some d) = is_sub g d.0 c

-- node n is of the class of this number or of a subclass
abbrev pub IsBelow : List Class → List Node → ℕ → ℕ → Type 0
IsBelow g tree c n = class_below g c (class_in tree n) ≡ true

-- The nodes of a sort lie from the first on, below the end. If the end isn't 0, the first is one of them, and so is the one in front of the end; else there is none.
pub record AreFrom (P : ℕ → Type 0) (first end : ℕ) : Type 0 where
  pub all : (n : ℕ) → P n → (first ≤ n) × (n < end)
  pub least : 0 < end → P first
  pub last : (n : ℕ) → end ≡ suc n → P n
  pub ordered : first ≤ end

-- the span of the nodes of a class and of its subclasses
abbrev pub IsSpan : List Class → List Node → ℕ → Span → Type 0
IsSpan g tree c s = AreFrom (IsBelow g tree c) s.first s.end

-- those of each class of so many, subclasses aside, by the first of each and the end of each
pub record AreOfClasses (tree : List Node) (classes : ℕ) (firsts ends : List ℕ) : Type 0 where
  pub firsts_count : length firsts ≡ classes
  pub ends_count : length ends ≡ classes
  pub each : (c : ℕ) → c < classes → AreFrom (IsOfClass tree c) (slice_index firsts c) (slice_index ends c)

-- those of each class of a grammar and of its subclasses
pub record AreSpans (g : List Class) (tree : List Node) (firsts ends : List ℕ) : Type 0 where
  pub firsts_count : length firsts ≡ length g
  pub ends_count : length ends ≡ length g
  pub each : (c : ℕ) → c < length g → AreFrom (IsBelow g tree c) (slice_index firsts c) (slice_index ends c)

-- s begins with the first of the nodes of a and of b, and ends with the last
pub record Joins (a b s : Span) : Type 0 where
  pub has_first : 0 < a.end → (s.first ≤ a.first) × (a.end ≤ s.end)
  pub has_second : 0 < b.end → (s.first ≤ b.first) × (b.end ≤ s.end)
  pub first : 0 < s.end → ((0 < a.end) × (s.first ≡ a.first)) ⊎ ((0 < b.end) × (s.first ≡ b.first))
  pub end : (s.end ≡ a.end) ⊎ (s.end ≡ b.end)
  pub ordered : a.first ≤ a.end → b.first ≤ b.end → s.first ≤ s.end
