-- What is noted of declarations, and what is kept of their names.
use Rattle.std.proofs.Common.{◌≡◌, ℕ, ◌<◌, ◌≤◌, ◌==◌, ◌||◌, ◌&&◌, Bool, true, false, List, [], ◌∷◌, ◌++◌, Option, Some, None, get_or, leb, length, take, refl, sym, ap, subst, ◌∙◌, arith, option_map, bytes_eq}
use Rattle.std.proofs.Math.Bool.{or-false}
use Rattle.std.proofs.lemmas.Bool.{eq-eqb, leb-false, leb-true}
use Rattle.std.proofs.lemmas.Cmp.{nat_list_eq_equiv}
use Rattle.std.proofs.lemmas.List.{length-take-le}
use Rattle.std.proofs.lemmas.List.Folds.{list_any-append}
use Rattle.ast_grammar.specs.declared.grammar.ClassId.{ClassId}
use Rattle.ast_grammar.specs.Grammar.{Class, class_named, number_of}
use Rattle.broken_rules.specs.declared.broken.Broken.{Broken}
use Rattle.broken_rules.specs.declared.rule.Rule.TheVariants.{J17}
use Rattle.broken_rules.specs.Notes.{Notes, at, broken_if}
use Rattle.broken_rules.proofs.Clean.{append_none, each_after_none, not_broken}
use Rattle.broken_rules.proofs.Noting.{notes_then}
use Rattle.attr_heads.specs.declared.declared.Declared.{Declared}
use Rattle.attr_heads.specs.Collections.{collection_broken}
use Rattle.attr_heads.specs.Created.{created_type_broken}
use Rattle.attr_heads.specs.DeclaredNames.{Adds, IsEven, Tells, relates}
use Rattle.attr_heads.specs.Heads.{again_broken, again_for, are_related, count_broken, head_broken, heads_broken, has_declaration, named_broken, other_broken, type_broken}
use Rattle.attr_scope.specs.Classes.{class_broken}
use Rattle.attr_heads.specs.Parameters.{all_parameters_broken}
use Rattle.attr_heads.specs.Starts.{start_broken}
use Rattle.attr_scope.specs.Written.{Head}

module _ (g : List Class) (before : List Head) (s : Head) where
  again_at : {r : Option ℕ} {a b : Option Broken} → r ≡ class_named g s.class.text → Notes (again_for g before s.signature.name r) a b → Notes (again_broken g before s) a b
  again_at {r} {a} {b} is h = subst (λ r. Notes (again_for g before s.signature.name r) a b) is h

  -- J2, J3, J4 and J17 of a declaration, whose class there is or not
  pub named_noted : {r : Option ℕ} {count : ℕ} {z a b c d : Option Broken} → r ≡ class_named g s.class.text → count ≡ length before → Notes (type_broken g s.of) z a → Notes (class_broken g s.class) a b
      → Notes (again_for g before s.signature.name r) b c → Notes (broken_if (count == 1024) (at s.signature.name.place J17)) c d → Notes (named_broken g before s) z d
  named_noted {r} {count} {z} {a} {b} {c} {d} is long f h k j =
      notes_then f (notes_then h (notes_then (again_at is k) (subst (λ n. Notes (broken_if (n == 1024) (at s.signature.name.place J17)) c d) long j)))

  one_more : (c : ℕ) (q : List ℕ) → has_declaration g c q (before ++ s ∷ []) ≡ (has_declaration g c q before || (are_related g (class_named g s.class.text) c && bytes_eq s.signature.name.text q))
  one_more c q =
      let declares = λ (s : Head). are_related g (class_named g s.class.text) c && bytes_eq s.signature.name.text q in
      list_any-append declares before (s ∷ []) ∙ ap (λ b. has_declaration g c q before || b) (or-false (declares s))

  -- a class that there is
  turned : (a b : Bool) → (a && b) ≡ (b && a)
  turned true true = refl
  turned true false = refl
  turned false true = refl
  turned false false = refl

  pub told_more : {old new : Declared} {class : ClassId} {r : Option ClassId} → option_map number_of r ≡ class_named g s.class.text → r ≡ Some class → Tells g before old → IsEven new → Adds old class s.signature.name.text new → Tells g (before ++ s ∷ []) new
  told_more {old} {new} {class} {r} is there told even h =
      let at : Some class.0 ≡ class_named g s.class.text = ap (option_map number_of) (sym there) ∙ is in
      record {
        even = even;
        tells = λ c q.
            h.adds (relates g c) q ∙ ap (λ b. b || (bytes_eq q s.signature.name.text && relates g c class)) (told.tells c q)
            ∙ ap (λ b. has_declaration g c q before || b)
            (turned (bytes_eq q s.signature.name.text) (relates g c class) ∙ ap (λ b. relates g c class && b) (nat_list_eq_equiv.symm q s.signature.name.text) ∙ ap (λ o. are_related g o c && bytes_eq s.signature.name.text q) at)
            ∙ sym (one_more c q);
      }

  -- one that there isn't
  pub told_same : {d : Declared} {r : Option ClassId} → option_map number_of r ≡ class_named g s.class.text → r ≡ None → Tells g before d → Tells g (before ++ s ∷ []) d
  told_same {d} {r} is there told =
      let at : None ≡ class_named g s.class.text = ap (option_map number_of) (sym there) ∙ is in
      record {
        even = told.even;
        tells = λ c q.
            told.tells c q ∙ sym (or-false (has_declaration g c q before)) ∙ ap (λ o. has_declaration g c q before || (are_related g o c && bytes_eq s.signature.name.text q)) at ∙ sym (one_more c q);
      }

few_or : (g : List Class) (s : Head) (list : List Head) → heads_broken g (s ∷ list) ≡ [] → 1024 < length (s ∷ list) → ⊥
few_or g s list none many =
    let all = s ∷ list in
    let last = get_or all 1024 s in
    let before = take 1024 all in
    let here = each_after_none (head_broken g) all 1024 s none many in
    let named = again_broken g before last ++ count_broken before last.signature.name in
    let last_three = other_broken g before last ++ (collection_broken g last.of last.collection ++ all_parameters_broken g None last.signature) in
    let behind = start_broken g last.sort last.of last.circular ++ (created_type_broken g last.sort last.of last.signature.name ++ last_three) in
    let all_named = append_none (named_broken g before last) behind here in
    let counted = append_none (again_broken g before last) (count_broken before last.signature.name) (append_none (class_broken g last.class) named (append_none (type_broken g last.of) (class_broken g last.class ++ named) all_named.0).1).1 in
    let differs : (length before == 1024) ≡ false = not_broken (length before == 1024) (at last.signature.name.place J17) counted.1 in
    let same : length before ≡ 1024 = length-take-le 1024 all (omega arith) in
    absurd (let both : true ≡ false = sym (eq-eqb (length before) 1024 same) ∙ differs in cc)

-- declarations that break nothing are few
pub few_heads : (g : List Class) (list : List Head) → heads_broken g list ≡ [] → length list ≤ 1024
few_heads g [] none = omega arith
few_heads g (s ∷ list) none =
    elim (leb (length (s ∷ list)) 1024) as (λ b. leb (length (s ∷ list)) 1024 ≡ b → length (s ∷ list) ≤ 1024) [
      | true ↦ λ e. leb-true (length (s ∷ list)) 1024 e
      | false ↦ λ e. absurd (few_or g s list none (leb-false (length (s ∷ list)) 1024 e))
    ] refl
