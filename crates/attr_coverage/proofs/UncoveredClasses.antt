-- The classes that the rounds find are those that can be met uncovered.
use Rattle.std.proofs.Common.{◌≡◌, ◌==◌, ◌↔◌, ◌<◌, ℕ, Bool, true, false, not, List, Option, Some, None, length, ltb, slice_get, inl, inr, refl, ap, subst, sym, ◌∙◌}
use Rattle.std.specs.Option.{is_some, option_map}
use Rattle.std.proofs.lemmas.Bool.{and_from, and_parts, eq-eqb, lt-ltb, not_from_false, or_cases, or_left, or_right}
use Rattle.ast_grammar.specs.Grammar.{Class, abstract_in, is_sub, number_of}
use Rattle.attr_rules.specs.declared.dispatch.Via.TheVariants.{Created as ByCreated}
use Rattle.attr_rules.specs.Rules.{RuleSet, Uncovered, below, by_component, by_created, covering_number, created, root, root_made}
use Rattle.attr_coverage.specs.Covering.{covers, is_concrete, is_concrete_below, is_concrete_of, is_open_root, is_root_of, is_uncovered, may_be_made, may_follow, may_hang}
use Rattle.attr_coverage.specs.Created.{created_as, made_in, root_in}
use Rattle.attr_coverage.proofs.Made.{makes_one, makes_there}
use Rattle.attr_coverage.proofs.Rounds.{Hangs, closed, hangs_here, hangs_somewhere, least, root_parts, rooted}
use Rattle.attr_scope.proofs.ItemsFound.{some_from}

told : (o : Option Bool) → is_concrete_of o ≡ true → o ≡ Some false
told None e = absurd (cc)
told (Some true) e = absurd (cc)
told (Some false) e = refl

none_there : {X : Type 0} (o : Option X) → is_some o ≡ false → o ≡ None
none_there None e = refl
none_there (Some x) e = absurd (cc)

module _ (g : List Class) (r : RuleSet) (a : ℕ) where
  at_root : (c : ℕ) → is_concrete_below g 0 c ≡ true → Uncovered g r a c
  at_root c e = let both = and_parts (is_concrete g c) (is_sub g c 0) e in root (told (option_map abstract_in (slice_get g c)) both.0) both.1

  at_component : (p c : ℕ) → Uncovered g r a p → may_hang g (covers r a) p c ≡ true → Uncovered g r a c
  at_component p c h e =
      let hangs = hangs_somewhere g (covers r a) p c e in
      let k = hangs.0 in
      let at = hangs.1 in
      below k at.component h at.there at.nodes (none_there (covering_number r (record { 0 = p }) (by_component k) a) at.uncovered) (told (option_map abstract_in (slice_get g c)) at.concrete) at.below

  at_attribute : (p c : ℕ) → Uncovered g r a p → may_be_made g (covers r a) (made_in g r p) p c ≡ true → Uncovered g r a c
  at_attribute p c h e =
      let one = makes_one g r.attributes (root_in r) p (is_root_of g (covers r a) p c) e in
      let b = one.number in
      let is = one.makes in
      let at = root_parts g (covers r a) p c one.created one.passes in
      let made = some_from number_of (root_made r (record { 0 = p }) b) is.class is.made in
      let same : made.0.0 ≡ one.created.class.0 = made.2 ∙ sym (ap (λ m. m.class.0) is.is) in
      let open_there : covers r a p (by_created b) ≡ false = sym (ap (λ m. covers r a p (ByCreated m.attribute)) is.is) ∙ at.uncovered in
      subst (Uncovered g r a) (same ∙ at.class)
      (created b is.attribute made.0 h is.there is.higher_order is.below made.1 (subst (λ n. n < length g) (sym same) at.within) (none_there (covering_number r (record { 0 = p }) (by_created b) a) open_there))

  at_following : (p c : ℕ) → Uncovered g r a p → may_follow g (covers r a) (made_in g r p) p c ≡ true → Uncovered g r a c
  at_following p c h e = elim (or_cases (may_hang g (covers r a) p c) (may_be_made g (covers r a) (made_in g r p) p c) e) [
    | inl hangs ↦ at_component p c h hangs
    | inr made ↦ at_attribute p c h made
  ]

  pub found_only : (c : ℕ) → is_uncovered g (covers r a) (made_in g r) c ≡ true → Uncovered g r a c
  found_only = least g (covers r a) (made_in g r) (Uncovered g r a) at_root at_following

  -- an attribute makes a root there
  made_there : (p b t : ℕ) → t < length g → covering_number r (record { 0 = p }) (by_created b) a ≡ None → is_root_of g (covers r a) p t (created_as b t) ≡ true
  made_there p b t within none =
      let covered = covers r a p (by_created b) in
      let open_there : covered ≡ false = ap is_some none in
      and_from (is_open_root g (covers r a) p (created_as b t)) (t == t) (and_from (ltb t (length g)) (not covered) (lt-ltb t (length g) within) (not_from_false covered open_there)) (eq-eqb t t refl)

  pub all_found : (c : ℕ) → Uncovered g r a c → is_uncovered g (covers r a) (made_in g r) c ≡ true
  all_found c (root concrete sub) = rooted g (covers r a) (made_in g r) c (and_from (is_concrete g c) (is_sub g c 0) (ap is_concrete_of concrete) sub)
  all_found c (below {p = p} k x h there nodes none concrete sub) =
      let at : Hangs g (covers r a) p c k = record { component = x; there = there; nodes = nodes; uncovered = ap is_some none; concrete = ap is_concrete_of concrete; below = sub } in
      closed g (covers r a) (made_in g r) p c (all_found p h) (or_left (may_hang g (covers r a) p c) (may_be_made g (covers r a) (made_in g r p) p c) (hangs_here g (covers r a) p c k at))
  all_found c (created {p = p} b d t h declared higher_order sub made within none) =
      let passes = is_root_of g (covers r a) p t.0 in
      let here = makes_there g r.attributes (root_in r) p passes b t.0 d declared higher_order sub (ap (option_map number_of) made) (made_there p b t.0 within none) in
      closed g (covers r a) (made_in g r) p t.0 (all_found p h) (or_right (may_hang g (covers r a) p t.0) (may_be_made g (covers r a) (made_in g r p) p t.0) here)

pub decided : (g : List Class) (r : RuleSet) (a c : ℕ) → (is_uncovered g (covers r a) (made_in g r) c ≡ true) ↔ Uncovered g r a c
decided g r a c = (found_only g r a c, all_found g r a c)
