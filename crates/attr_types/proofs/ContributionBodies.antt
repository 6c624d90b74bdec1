-- What contributions break, and what they say.
use Rattle.std.proofs.Common.{◌≡◌, ℕ, ◌<◌, ◌≤◌, ◌^◌, List, [], ◌∷◌, ◌++◌, length, map, slice_get, take, Option, Some, ap, sym, ◌∙◌, subst, arith}
use Rattle.std.specs.Borrow.{Bor}
use Rattle.std.proofs.lemmas.List.{length-map, map-append, take_all}
use Rattle.broken_rules.specs.declared.broken.Broken.{Broken}
use Rattle.broken_rules.specs.Notes.{Notes}
use Rattle.broken_rules.proofs.Noting.{notes_then}
use Rattle.ast_grammar.specs.Grammar.{Class, superclasses_of}
use Rattle.aspect_items.specs.declared.items.Contribution as kept_contribution
use Rattle.aspect_items.specs.Items.{Contribution as WrittenContribution}
use Rattle.attr_rules.specs.declared.kinds.Kind.{Kind}
use Rattle.attr_rules.specs.declared.kinds.Kind.TheVariants as kinds
use Rattle.attr_rules.specs.Expression.{Expression}
use Rattle.attr_rules.specs.Rules.{AttributeSet, Contribution}
use Rattle.attr_equations.specs.declared.contributions.KeptContribution.{KeptContribution}
use Rattle.attr_equations.specs.KeptContributions.{AreNumbered, contribution_in}
use Rattle.expr_typing.specs.declared.standing.Stands.TheVariants.{Anywhere}
use Rattle.attr_bodies.specs.Bodies.{operand_broken}
use Rattle.expr_typing.specs.Typed.{body_of}
use Rattle.attr_heads.specs.declared.contributions.Aim.{Aim}
use Rattle.attr_heads.specs.Contributions.{aim_of}
use Rattle.attr_scope.specs.Scope.{Scope}
use Rattle.attr_scope.specs.Seen.{seen_offer}
use Rattle.attr_types.specs.Phases.{condition_broken, condition_said, contribution_of, expressions_broken, scope_at, wanted_from}

module _ (g : List Class) (a : AttributeSet) (c : WrittenContribution) (aim : Aim) (same : a.superclasses ≡ superclasses_of g) (is : aim ≡ aim_of g a.attributes c) where
  -- where its expressions stand
  abbrev here : Scope
  here = record { grammar = g; known = a; this = aim.contributor; variables = [] }

  scope_here : here ≡ scope_at g a.attributes (aim_of g a.attributes c).contributor
  scope_here = (λ i. record { grammar = g; known = record { superclasses = same i; attributes = a.attributes }; this = (is i).contributor; variables = [] })

  -- what they break, and what they say
  pub contribution_noted : {k : Kind} {w x y z : Option Broken} → k ≡ wanted_from a.attributes aim.collection.0 → Notes (condition_broken here c.condition) w x
      → Notes (operand_broken here Anywhere (kinds.Node aim.receiver) c.receiver) x y → Notes (operand_broken here Anywhere k c.value) y z → Notes (expressions_broken g a.attributes c) w z
  contribution_noted {k} {w} {x} {y} {z} wanted condition receiver value =
      let wants : k ≡ wanted_from a.attributes (aim_of g a.attributes c).collection.0 = wanted ∙ ap (λ (m : Aim). wanted_from a.attributes m.collection.0) is in
      let all : (condition_broken here c.condition ++ (operand_broken here Anywhere (kinds.Node aim.receiver) c.receiver ++ operand_broken here Anywhere k c.value)) ≡ expressions_broken g a.attributes c =
      (λ i. condition_broken (scope_here i) c.condition ++ (operand_broken (scope_here i) Anywhere (kinds.Node (is i).receiver) c.receiver ++ operand_broken (scope_here i) Anywhere (wants i) c.value))
      in
      subst (λ list. Notes list w z) all (notes_then condition (notes_then receiver value))

  pub contribution_said : {d r v : Expression} → d ≡ condition_said here c.condition → r ≡ body_of here c.receiver → v ≡ body_of here c.value
      → record { class = aim.contributor; target = aim.collection; condition = d; receiver = r; value = v } ≡ contribution_of g a.attributes c
  contribution_said {d} {r} {v} condition receiver value =
      (λ i. record {
        class = (is i).contributor;
        target = (is i).collection;
        condition = (condition ∙ ap (λ s. condition_said s c.condition) scope_here) i;
        receiver = (receiver ∙ ap (λ s. body_of s c.receiver) scope_here) i;
        value = (value ∙ ap (λ s. body_of s c.value) scope_here) i;
      })

-- none yet
pub none_numbered : (first : ℕ) (list : List KeptContribution) → first < 2 ^ 32 → list ≡ [] → AreNumbered first list
none_numbered first list less is =
    let none : length list ≡ 0 = ap length is in
    record {
      few = omega (arith, less, none);
      each = λ k c e. (let never : slice_get {X = KeptContribution} [] k ≡ Some c = subst (λ (xs : List KeptContribution). slice_get xs k ≡ Some c) is e in absurd (cc));
    }

-- one contribution more, and all of them
module _ (f : WrittenContribution → Contribution) where
  pub one_more : (old new : List KeptContribution) (before after : List WrittenContribution) {x : Contribution} {w : WrittenContribution} → map contribution_in new ≡ map contribution_in old ++ x ∷ [] → x ≡ f w
      → after ≡ before ++ w ∷ [] → map contribution_in old ≡ map f before → map contribution_in new ≡ map f after
  one_more old new before after {x} {w} pushed said longer so_far = pushed ∙ (λ i. so_far i ++ said i ∷ []) ∙ sym (ap (map f) longer ∙ map-append f before (w ∷ []))

  pub list_made : (list : List KeptContribution) (xs : List (Bor kept_contribution.Contribution)) (i : ℕ) → length xs ≤ i → map contribution_in list ≡ map f (take i (map seen_offer xs)) → map contribution_in list ≡ map f (map seen_offer xs)
  list_made list xs i le so_far = so_far ∙ ap (map f) (take_all i (map seen_offer xs) (omega (arith, length-map xs seen_offer)))
