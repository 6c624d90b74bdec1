-- Of which classes there can be a node at which no equation gives a value to an inherited attribute, were it declared there.
use Rattle.std.specs.Prelude.{ℕ, zero, suc, List, Bool, false, not, ◌&&◌, ◌||◌, ◌==◌, Option, Some, None, length, ltb, map, slice_get}
use Rattle.std.specs.List.{list_any, range_with_len}
use Rattle.std.specs.Option.{is_some, option_and_then, option_map}
use Rattle.ast_grammar.specs.declared.grammar.ClassId.{ClassId}
use Rattle.ast_grammar.specs.declared.grammar.Shape.{Shape}
use Rattle.ast_grammar.specs.Grammar.{Class, Component, abstract_in, component_at, components_of, is_sub, superclasses_of}
use Rattle.attr_rules.specs.declared.dispatch.Target.{Target}
use Rattle.attr_rules.specs.declared.dispatch.Via.{Via}
use Rattle.attr_rules.specs.declared.dispatch.Via.TheVariants.{Created as ByCreated}
use Rattle.attr_rules.specs.declared.kinds.AttrId.{AttrId}
use Rattle.attr_rules.specs.Rules.{RuleSet, by_component, covering_equation, first_of_name, is_for_nodes, number_of_attribute, target_in}
use Rattle.attr_coverage.specs.declared.created.Created.{Created}
use Rattle.attr_scope.specs.Classes.{class_numbers}

abbrev pub is_concrete_of : Option Bool → Bool
is_concrete_of None = false
is_concrete_of (Some abstract) = not abstract

-- there are nodes of the class
abbrev pub is_concrete : List Class → ℕ → Bool
is_concrete g c = is_concrete_of (option_map abstract_in (slice_get g c))

-- there are nodes of class c, which is d or a subclass of it
abbrev pub is_concrete_below : List Class → ℕ → ℕ → Bool
is_concrete_below g d c = is_concrete g c && is_sub g c d

-- an equation covers, for the attribute, what hangs by something at nodes of class p; the first inherited attribute of the name tells which
abbrev pub is_covered : List (Option ℕ) → List Target → Option ℕ → ℕ → Via → Bool
is_covered superclasses targets first p v = is_some (option_and_then (covering_equation superclasses targets p v) first)

-- the same by the number of the first inherited attribute, where there is one
abbrev pub is_covered_for : List Class → List Target → Option AttrId → ℕ → Via → Bool
is_covered_for g targets first p v = is_covered (superclasses_of g) targets (option_map number_of_attribute first) p v

-- nodes hang at component k of nodes of class p, which is of this shape, and no equation covers them
abbrev pub is_open_at : List Class → List Target → Option AttrId → ClassId → ℕ → Shape → Bool
is_open_at g targets first p k shape = is_for_nodes shape && not (is_covered_for g targets first p.0 (by_component k))

-- the same among the equations of some rules
abbrev pub covers : RuleSet → ℕ → ℕ → Via → Bool
covers r a p v = is_covered r.superclasses (map target_in r.equations) (first_of_name r.attributes a) p v

module _ (g : List Class) (covered : ℕ → Via → Bool) where
  -- a node of class c may hang at a component of a node of class p, the component k, which nothing covers
  abbrev pub may_hang_at : ℕ → ℕ → ℕ → Option Component → Bool
  may_hang_at p c k None = false
  may_hang_at p c k (Some x) = is_for_nodes x.shape && (not (covered p (by_component k)) && is_concrete_below g x.class.0 c)

  -- a node of class c may hang uncovered at a component of a node of class p
  abbrev pub may_hang : ℕ → ℕ → Bool
  may_hang p c = list_any (λ k. may_hang_at p c k (component_at g p k)) (range_with_len 0 (length (components_of g p)))

  -- a root is of a class of the grammar, and nothing covers the attribute that makes it at nodes of class p
  abbrev pub is_open_root : ℕ → Created → Bool
  is_open_root p m = ltb m.class.0 (length g) && not (covered p (ByCreated m.attribute))

  -- it is of class c
  abbrev pub is_root_of : ℕ → ℕ → Created → Bool
  is_root_of p c m = is_open_root p m && (m.class.0 == c)

  -- one of those is that are made at nodes of class p
  abbrev pub may_be_made : List Created → ℕ → ℕ → Bool
  may_be_made made p c = list_any (is_root_of p c) made

  -- a node of class c may hang uncovered at a node of class p, or be the root of a tree that is made there
  abbrev pub may_follow : List Created → ℕ → ℕ → Bool
  may_follow made p c = may_hang p c || may_be_made made p c

module _ (g : List Class) (covered : ℕ → Via → Bool) (made : ℕ → List Created) where
  -- The classes that are found in so many rounds. Those of the root come first, and each round adds those of what may hang uncovered at nodes of
  -- the classes found before, or be made there.
  abbrev pub is_found_in : ℕ → ℕ → Bool
  is_found_in zero c = is_concrete_below g 0 c
  is_found_in (suc n) c = is_found_in n c || list_any (λ p. is_found_in n p && may_follow g covered (made p) p c) (class_numbers g)

  -- as many rounds as there are classes find them all
  unfoldable pub is_uncovered : ℕ → Bool
  is_uncovered c = is_found_in (length g) c
