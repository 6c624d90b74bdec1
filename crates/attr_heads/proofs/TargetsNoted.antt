-- What is noted of what equations are for, and what is kept of the equations before.
use Rattle.std.proofs.Common.{◌≡◌, ℕ, ◌<◌, ◌==◌, ◌||◌, ◌&&◌, Bool, true, false, cond, not, List, [], ◌∷◌, ◌++◌, Option, Some, None, is_none, length, refl, sym, ap, subst, ◌∙◌, arith}
use Rattle.std.specs.HashSet.{HashSet, Updates, contains, contains_by}
use Rattle.std.proofs.Math.Bool.{or-false}
use Rattle.std.proofs.lemmas.List.Folds.{list_any-append}
use Rattle.ast_grammar.specs.Grammar.{Class, superclasses_of}
use Rattle.ast_grammar.proofs.Inherited.{length-superclasses_of}
use Rattle.broken_rules.specs.declared.broken.Broken.{Broken}
use Rattle.broken_rules.specs.declared.rule.Rule.TheVariants.{J5, J6}
use Rattle.broken_rules.specs.Notes.{Notes, at, broken_if}
use Rattle.broken_rules.proofs.Noting.{notes_then}
use Rattle.aspect_items.specs.Expressions.{Name}
use Rattle.aspect_items.specs.Items.{Signature}
use Rattle.attr_heads.specs.contracts.targets.KeyPartialEq.TheImpl as equality
use Rattle.attr_rules.specs.contracts.dispatch.ReachPartialEq.TheImpl as reaches
use Rattle.attr_rules.specs.declared.dispatch.Reach.{Reach}
use Rattle.attr_rules.specs.declared.dispatch.Target.{Target}
use Rattle.attr_heads.specs.declared.targets.Key.{Key}
use Rattle.attr_scope.specs.Classes.{class_broken}
use Rattle.attr_rules.specs.Rules.{Attribute, first_inherited, is_target}
use Rattle.attr_rules.proofs.KeptPaths.{reach_turned, same_as, swap, turned}
use Rattle.attr_heads.specs.Parameters.{all_parameters_broken}
use Rattle.attr_heads.specs.Paths.{path_broken}
use Rattle.attr_heads.specs.Targets.{attribute_for, class_of, differing_broken, given_broken, is_given, is_same, lacking_broken, second_broken, target, target_of, unknown_broken}
use Rattle.attr_heads.specs.TargetsKept.{Holds, is_key}
use Rattle.attr_scope.specs.Written.{Given}

pub within_superclasses : (g : List Class) {superclasses : List (Option ℕ)} {c : ℕ} → superclasses ≡ superclasses_of g → c < length g → c < length superclasses
within_superclasses g {superclasses} {c} is lt = omega (arith, length-superclasses_of g, ap length is)

abbrev key : ℕ → Reach → ℕ → Key
key c r a = record { class = c; reach = r; attribute = a }

key_test : (q k : Key) → equality.ghosts.eq q k ≡ is_key q.class q.reach q.attribute k
key_test q k =
    swap (q.class == k.class) (reaches.ghosts.eq q.reach k.reach) (q.attribute == k.attribute)
    ∙ (λ i. (same_as q.reach k.reach ∙ reach_turned q.reach k.reach) i && (turned q.class k.class i && turned q.attribute k.attribute i))

abbrev key_of : Target → Key
key_of t = key t.class.0 t.reach t.attribute.0

target_test : (t : Target) (c : ℕ) (r : Reach) (a : ℕ) → equality.ghosts.eq (key_of t) (key c r a) ≡ is_target c r a t
target_test t c r a = swap (t.class.0 == c) (reaches.ghosts.eq t.reach r) (t.attribute.0 == a) ∙ ap (λ b. b && ((t.class.0 == c) && (t.attribute.0 == a))) (same_as t.reach r)

one_more : (g : List Class) (attributes : List Attribute) (t : Target) (before : List Given) (e : Given) → is_given g attributes t (before ++ e ∷ []) ≡ (is_given g attributes t before || is_same t (target_of g attributes e))
one_more g attributes t before e =
    let same = λ (d : Given). is_same t (target_of g attributes d) in
    list_any-append same before (e ∷ []) ∙ ap (λ b. is_given g attributes t before || b) (or-false (same e))

added : (b c : Bool) → cond b true c ≡ (c || b)
added true true = refl
added true false = refl
added false true = refl
added false false = refl

not_not : (b : Bool) → not (not b) ≡ b
not_not true = refl
not_not false = refl

module _ {S : Type 0} (g : List Class) (attributes : List Attribute) (before : List Given) where
  by_key : (set : HashSet Key S) (c : ℕ) (r : Reach) (a : ℕ) → contains equality.ghosts.eq set (key c r a) ≡ contains_by (is_key c r a) set
  by_key set c r a = ap (λ (test : Key → Bool). contains_by test set) (λ i k. key_test (key c r a) k i)

  -- J6 is noted by whether the key was new
  pub second_noted : {set : HashSet Key S} {t : Option Target} {u : Target} (n : Name) {new : Bool} {x y : Option Broken} → t ≡ Some u → Holds g attributes before set
      → new ≡ not (contains equality.ghosts.eq set (key_of u)) → Notes (broken_if (not new) (at n.place J6)) x y → Notes (second_broken g attributes before n t) x y
  second_noted {set} {t} {u} n {new} {x} {y} is held fresh h =
      let twice = ap not fresh ∙ not_not (contains equality.ghosts.eq set (key_of u)) ∙ by_key set u.class.0 u.reach u.attribute.0 ∙ held.holds u.class.0 u.reach u.attribute.0 in
      subst (λ o. Notes (second_broken g attributes before n o) x y) (sym is) (subst (λ b. Notes (broken_if b (at n.place J6)) x y) twice h)

  pub held_more : {old new : HashSet Key S} (e : Given) {t : Option Target} {u : Target} → t ≡ Some u → t ≡ target_of g attributes e → Holds g attributes before old
      → Updates equality.ghosts.eq old new (key_of u) true → Holds g attributes (before ++ e ∷ []) new
  held_more {old} {new} e {t} {u} there is held updates =
      let at : Some u ≡ target_of g attributes e = sym there ∙ is in
      record {
        holds = λ c r a.
            sym (by_key new c r a) ∙ updates.0 (key c r a) ∙ (λ i. cond (target_test u c r a i) true ((by_key old c r a ∙ held.holds c r a) i))
            ∙ added (is_target c r a u) (is_given g attributes (target c r a) before) ∙ ap (λ o. is_given g attributes (target c r a) before || is_same (target c r a) o) at
            ∙ sym (one_more g attributes (target c r a) before e);
      }

-- J5 of an equation without a path, and with one
module _ (g : List Class) (attributes : List Attribute) (n : Name) (class : Option ℕ) {p : Option Signature} {x y : Option Broken} where
  pub lacking_own : p ≡ None → Notes (lacking_broken g attributes None class n) x y → Notes (lacking_broken g attributes p class n) x y
  lacking_own is h = subst (λ q. Notes (lacking_broken g attributes q class n) x y) (sym is) h

  pub lacking_inherited : {s : Signature} → p ≡ Some s → Notes (broken_if (is_none (first_inherited attributes n.text)) (at n.place J5)) x y → Notes (lacking_broken g attributes p class n) x y
  lacking_inherited {s} is h = subst (λ q. Notes (lacking_broken g attributes q class n) x y) (sym is) h

-- J2, J5 and J15 of an equation, and what its path and its parameters break
pub unknown_noted : (g : List Class) (attributes : List Attribute) (e : Given) {class : Option ℕ} {a : Option ℕ} {v w x y z u : Option Broken} → class ≡ class_of g e → a ≡ attribute_for g attributes class e.path e.attribute.name.text
    → Notes (class_broken g e.class) v w → Notes (path_broken g attributes class e.path) w x → Notes (all_parameters_broken g e.path e.attribute) x y
    → Notes (lacking_broken g attributes e.path class e.attribute.name) y z → Notes (differing_broken g attributes e.attribute a) z u → Notes (unknown_broken g attributes e) v u
unknown_noted g attributes e {class} {a} {v} {w} {x} {y} {z} {u} is attribute f h k lacking differing =
    let last = subst (λ o. Notes (differing_broken g attributes e.attribute o) z u) attribute differing in
    notes_then f (subst (λ o. Notes (path_broken g attributes o e.path
    ++ (all_parameters_broken g e.path e.attribute ++ (lacking_broken g attributes e.path o e.attribute.name ++ differing_broken g attributes e.attribute (attribute_for g attributes o e.path e.attribute.name.text)))) w u) is
    (notes_then h (notes_then k (notes_then lacking last))))

-- what an equation breaks by itself, and J6
pub given_noted : (g : List Class) (attributes : List Attribute) (before : List Given) (e : Given) {t : Option Target} {x y z : Option Broken} → t ≡ target_of g attributes e → Notes (unknown_broken g attributes e) x y → Notes (second_broken g attributes before e.attribute.name t) y z
    → Notes (given_broken g attributes before e) x z
given_noted g attributes before e {t} {x} {y} {z} is h k = notes_then h (subst (λ o. Notes (second_broken g attributes before e.attribute.name o) y z) is k)
