-- What is found at the components of nodes of one class, and at what is made there.
use Rattle.std.proofs.Common.{◌≡◌, ◌==◌, ◌<◌, ◌≤◌, ℕ, zero, suc, ◌+◌, List, [], ◌∷◌, ◌++◌, Bool, true, false, not, ◌&&◌, ◌||◌, Some, get_or, length, take, refl, ap, sym, ◌∙◌, subst, arith, add-one, add-zero}
use Rattle.std.specs.List.{list_any, range_with_len}
use Rattle.std.specs.Option.{option_map}
use Rattle.std.proofs.lemmas.List.{take_all}
use Rattle.std.proofs.lemmas.List.Folds.{list_any-append, list_any_more}
use Rattle.ast_grammar.specs.declared.grammar.Component as kept_component
use Rattle.ast_grammar.specs.Grammar.{Class, component_at, components_of, nameless}
use Rattle.attr_rules.specs.declared.dispatch.Via.{Via}
use Rattle.attr_rules.specs.Rules.{by_component, is_for_nodes}
use Rattle.attr_coverage.specs.Covering.{is_concrete_below, is_open_root, is_root_of, may_be_made, may_hang, may_hang_at}
use Rattle.attr_coverage.specs.CoveringKept.{Adds, mark_at}
use Rattle.attr_coverage.specs.declared.covering.Found.{Found}
use Rattle.attr_coverage.specs.declared.created.Created.{Created}
use Rattle.attr_scope.proofs.ItemsFound.{some_from}
use Rattle.attr_coverage.proofs.Marks.{adds_marked, adds_nowhere, adds_same, adds_then, adds_where, or_none}

-- one more number of a range
pub range_more : (a n : ℕ) → range_with_len a (suc n) ≡ range_with_len a n ++ (a + n) ∷ []
range_more a zero = ap (λ x. x ∷ []) (sym (add-zero a))
range_more a (suc n) = let moved : (a + 1) + n ≡ a + suc n = omega arith in ap (λ xs. a ∷ xs) (range_more (a + 1) n ∙ ap (λ x. range_with_len (a + 1) n ++ x ∷ []) moved)

any_more : (p : ℕ → Bool) (n : ℕ) → list_any p (range_with_len 0 (n + 1)) ≡ (list_any p (range_with_len 0 n) || p n)
any_more p n =
    let whole : 0 + n ≡ n = omega arith in
    ap (λ m. list_any p (range_with_len 0 m)) (add-one n) ∙ ap (list_any p) (range_more 0 n) ∙ list_any-append p (range_with_len 0 n) ((0 + n) ∷ [])
    ∙ ap (λ b. list_any p (range_with_len 0 n) || b) (or_none (p (0 + n)) ∙ ap p whole)

and_and : (a b c : Bool) → (a && (b && c)) ≡ ((a && b) && c)
and_and true b c = refl
and_and false b c = refl

module _ (g : List Class) (covered : ℕ → Via → Bool) (p : ℕ) where
  -- what hangs at the components before the k-th
  abbrev pub hangs_before : ℕ → ℕ → Bool
  hangs_before k c = list_any (λ j. may_hang_at g covered p c j (component_at g p j)) (range_with_len 0 k)

  -- what hangs at a component, as memory has it
  hangs_kept : (k c : ℕ) (m : kept_component.Component) → option_map nameless (component_at g p k) ≡ Some m
      → ((is_for_nodes m.shape && not (covered p (by_component k))) && is_concrete_below g m.class.0 c) ≡ may_hang_at g covered p c k (component_at g p k)
  hangs_kept k c m e =
      let x = some_from nameless (component_at g p k) m e in
      ap (λ (m : kept_component.Component). (is_for_nodes m.shape && not (covered p (by_component k))) && is_concrete_below g m.class.0 c) (sym x.2)
      ∙ sym (and_and (is_for_nodes x.0.shape) (not (covered p (by_component k))) (is_concrete_below g x.0.class.0 c))
      ∙ ap (may_hang_at g covered p c k) (sym x.1)

  module _ (k : ℕ) (m : kept_component.Component) (there : option_map nameless (component_at g p k) ≡ Some m) {e f : Found} (before : Adds (hangs_before k) e f) where
    one_more : {h : Found} → Adds (λ c. (is_for_nodes m.shape && not (covered p (by_component k))) && is_concrete_below g m.class.0 c) f h → Adds (hangs_before (k + 1)) e h
    one_more then = adds_same (λ c. ap (λ b. hangs_before k c || b) (hangs_kept k c m there) ∙ sym (any_more (λ j. may_hang_at g covered p c j (component_at g p j)) k)) (adds_then before then)

    -- one that no equation covers, and another
    pub follows_open : {h : Found} {b : Bool} → b ≡ (is_for_nodes m.shape && not (covered p (by_component k))) → b ≡ true → Adds (is_concrete_below g m.class.0) f h → Adds (hangs_before (k + 1)) e h
    follows_open is holds then = one_more (adds_where (is_concrete_below g m.class.0) (is_for_nodes m.shape && not (covered p (by_component k))) (sym is ∙ holds) then)

    pub follows_covered : {b : Bool} → b ≡ (is_for_nodes m.shape && not (covered p (by_component k))) → b ≡ false → Adds (hangs_before (k + 1)) e f
    follows_covered is fails = one_more (adds_nowhere (is_concrete_below g m.class.0) (is_for_nodes m.shape && not (covered p (by_component k))) (sym is ∙ fails))

  -- all components
  pub follows_all : (k : ℕ) {e f : Found} → k ≡ length (components_of g p) → Adds (hangs_before k) e f → Adds (may_hang g covered p) e f
  follows_all k {e} {f} all h = subst (λ n. Adds (hangs_before n) e f) all h

-- what is made at nodes of a class, one root after another
module _ (g : List Class) (covered : ℕ → Via → Bool) (p : ℕ) where
  -- a root that is marked already
  pub follows_marked : (root : Created) {f : Found} → mark_at f.marks.items root.class.0 ≡ true → Adds (λ c. is_root_of g covered p c root) f f
  follows_marked root {f} marked = adds_same (λ c. refl) (adds_marked root.class.0 (is_open_root g covered p root) marked)

  -- one that nothing covers, and another
  pub follows_root : (root : Created) {f h : Found} {b : Bool} → b ≡ is_open_root g covered p root → b ≡ true → Adds (λ c. root.class.0 == c) f h → Adds (λ c. is_root_of g covered p c root) f h
  follows_root root is holds h = adds_where (λ c. root.class.0 == c) (is_open_root g covered p root) (sym is ∙ holds) h

  pub follows_no_root : (root : Created) {f : Found} {b : Bool} → b ≡ is_open_root g covered p root → b ≡ false → Adds (λ c. is_root_of g covered p c root) f f
  follows_no_root root is fails = adds_nowhere (λ c. root.class.0 == c) (is_open_root g covered p root) (sym is ∙ fails)

  -- one root more
  pub roots_more : (made : List Created) (i : ℕ) (root : Created) {e f h : Found} → i < length made → root ≡ get_or made i root
      → Adds (may_be_made g covered (take i made) p) e f → Adds (λ c. is_root_of g covered p c root) f h → Adds (may_be_made g covered (take (i + 1) made) p) e h
  roots_more made i root within is before then =
      adds_same (λ c. ap (λ m. may_be_made g covered (take i made) p c || is_root_of g covered p c m) is ∙ sym (list_any_more (is_root_of g covered p c) made i root within)) (adds_then before then)

  pub roots_all : (made : List Created) (i : ℕ) {e f : Found} → length made ≤ i → Adds (may_be_made g covered (take i made) p) e f → Adds (may_be_made g covered made p) e f
  roots_all made i {e} {f} all h = subst (λ list. Adds (may_be_made g covered list p) e f) (take_all i made all) h
