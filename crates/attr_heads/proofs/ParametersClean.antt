-- What holds of parameters that break nothing.
use Rattle.std.proofs.Common.{◌≡◌, ◌==◌, ◌≤◌, ℕ, zero, suc, List, [], ◌∷◌, ◌++◌, false, not, All, Option, Some, is_none, length, map, slice_get, take, refl, ap, arith}
use Rattle.std.specs.Option.{unwrap_or}
use Rattle.std.proofs.lemmas.Bool.{not-false}
use Rattle.broken_rules.specs.Notes.{at, broken_if}
use Rattle.broken_rules.specs.declared.rule.Rule.TheVariants.{J3, J4, J17}
use Rattle.broken_rules.proofs.Clean.{append_none, not_broken}
use Rattle.ast_grammar.specs.Grammar.{Class}
use Rattle.names.specs.Among.{is_among}
use Rattle.aspect_items.specs.Items.{Parameter}
use Rattle.attr_rules.specs.declared.kinds.Kind.{Kind}
use Rattle.attr_rules.specs.declared.kinds.Kind.TheVariants as kinds
use Rattle.attr_rules.specs.Rules.{most_parameters}
use Rattle.attr_rules.specs.Types.{parameter_kinds}
use Rattle.attr_heads.specs.Parameters.{differ, is_no_parameter, is_other_type, parameter_broken, parameter_kind, parameter_names, parameter_type, parameter_types, parameters_broken, params_of}
use Rattle.attr_scope.specs.WrittenTypes.{same_kind, type_written}
use Rattle.attr_scope.proofs.ItemsFound.{after_found, all_found, either_false}
use Rattle.attr_heads.proofs.KindsKnown.{same_types}

-- A type that a parameter may have: it is known, and no set.
pub record IsTyped (g : List Class) (p : Parameter) : Type 0 where
  pub single : p.of.set ≡ false
  pub known : is_none (type_written g p.of) ≡ false

-- all parameters are of such types
abbrev pub AreTyped : List Class → List Parameter → Type 0
AreTyped g ps = (i : ℕ) (p : Parameter) → slice_get ps i ≡ Some p → IsTyped g p

pub are_typed : (g : List Class) (names : List (List ℕ)) (ps : List Parameter) → parameters_broken g names ps ≡ [] → AreTyped g ps
are_typed g names ps none = λ i p at_i.
    let here = after_found (parameter_broken g names) ps i p none at_i in
    let before = take i ps in
    let rest = broken_if (is_among (names ++ parameter_names before) p.name.text) (at p.name.place J3) ++ broken_if (length before == most_parameters) (at p.name.place J17) in
    let type = append_none (broken_if (is_no_parameter g p.of) (at p.of.place J4)) rest here in
    let both = either_false p.of.set (is_none (type_written g p.of)) (not_broken (is_no_parameter g p.of) (at p.of.place J4) type.0) in
    record { single = both.0; known = both.1 }

module _ (g : List Class) where
  -- a type that isn't another one
  same_type : (k : Option Kind) (p : Parameter) → is_none k ≡ false → IsTyped g p → is_other_type g k p.of ≡ false → k ≡ type_written g p.of
  same_type k p known typed none =
      let parts = either_false p.of.set (not (same_kind k (type_written g p.of))) none in
      same_types k (type_written g p.of) known typed.known (not-false (same_kind k (type_written g p.of)) parts.1)

  kind_is : (k : Kind) (p : Parameter) → Some k ≡ type_written g p.of → k ≡ parameter_kind g p
  kind_is k p is = ap (λ o. unwrap_or o kinds.Truth) is

  -- parameters that don't differ from known types are of these types
  pub same_kinds : (ks : List Kind) (ps : List Parameter) → AreTyped g ps → differ g (map Some ks) ps ≡ false → ks ≡ map (parameter_kind g) ps
  same_kinds [] [] typed same = refl
  same_kinds [] (p ∷ ps) typed same = absurd (cc)
  same_kinds (k ∷ ks) [] typed same = absurd (cc)
  same_kinds (k ∷ ks) (p ∷ ps) typed same =
      let parts = either_false (is_other_type g (Some k) p.of) (differ g (map Some ks) ps) same in
      let first = kind_is k p (same_type (Some k) p refl (typed 0 p refl) parts.0) in
      let rest = same_kinds ks ps (λ i q at_i. typed (suc i) q at_i) parts.1 in
      (λ i. first i ∷ rest i)

  -- and so are those that don't differ from others
  pub same_written : (fs ps : List Parameter) → AreTyped g fs → AreTyped g ps → differ g (parameter_types g fs) ps ≡ false → map (parameter_kind g) fs ≡ map (parameter_kind g) ps
  same_written [] [] firsts typed same = refl
  same_written [] (p ∷ ps) firsts typed same = absurd (cc)
  same_written (f ∷ fs) [] firsts typed same = absurd (cc)
  same_written (f ∷ fs) (p ∷ ps) firsts typed same =
      let parts = either_false (is_other_type g (parameter_type g f) p.of) (differ g (parameter_types g fs) ps) same in
      let first = ap (λ o. unwrap_or o kinds.Truth) (same_type (parameter_type g f) p (firsts 0 f refl).known (typed 0 p refl) parts.0) in
      let rest = same_written fs ps (λ i q at_i. firsts (suc i) q at_i) (λ i q at_i. typed (suc i) q at_i) parts.1 in
      (λ i. first i ∷ rest i)

-- at most three parameters count
pub few_params : (ks : List Kind) → (params_of ks).count ≤ most_parameters
few_params [] = omega arith
few_params (a ∷ []) = omega arith
few_params (a ∷ b ∷ []) = omega arith
few_params (a ∷ b ∷ c ∷ ks) = omega arith

front : (a b c : Kind) (ks : List Kind) (i : ℕ) (k : Kind) → slice_get (a ∷ b ∷ c ∷ []) i ≡ Some k → slice_get (a ∷ b ∷ c ∷ ks) i ≡ Some k
front a b c ks zero k e = e
front a b c ks (suc zero) k e = e
front a b c ks (suc (suc zero)) k e = e
front a b c ks (suc (suc (suc i))) k e = absurd (cc)

pub params_all : (P : Kind → Type 0) (ks : List Kind) → ((i : ℕ) (k : Kind) → slice_get ks i ≡ Some k → P k) → All P (parameter_kinds (params_of ks))
params_all P [] each = all_found P [] each
params_all P (a ∷ []) each = all_found P (a ∷ []) each
params_all P (a ∷ b ∷ []) each = all_found P (a ∷ b ∷ []) each
params_all P (a ∷ b ∷ c ∷ ks) each = all_found P (a ∷ b ∷ c ∷ []) (λ i k e. each i k (front a b c ks i k e))
