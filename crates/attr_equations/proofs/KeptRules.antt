-- Equations that are found for nodes of a class.
use Rattle.std.proofs.Common.{◌≡◌, ℕ, ◌<◌, List, [], ◌∷◌, Option, Some, None, IfSome, length, map, refl, sym, ap, subst, ◌∙◌}
use Rattle.std.specs.Option.{option_and_then, option_map, option_or}
use Rattle.std.proofs.lemmas.List.{length-map}
use Rattle.std.proofs.lemmas.List.Quantifiers.{position-Some}
use Rattle.superclasses.specs.Superclasses.{upwards}
use Rattle.attr_rules.specs.declared.dispatch.Dispatch.{Dispatch}
use Rattle.attr_rules.specs.declared.dispatch.Reach.{Reach}
use Rattle.attr_rules.specs.declared.dispatch.Reach.TheVariants.{Own, Children}
use Rattle.attr_rules.specs.declared.dispatch.Via.{Via}
use Rattle.attr_rules.specs.declared.dispatch.Target.{Target}
use Rattle.attr_rules.specs.declared.kinds.AttrId.{AttrId}
use Rattle.attr_rules.specs.declared.kinds.EqId.{EqId}
use Rattle.attr_equations.specs.declared.rules.KeptEquation.{KeptEquation}
use Rattle.attr_rules.specs.Dispatching.{Dispatches}
use Rattle.attr_equations.specs.KeptEquations.{equation_in, kept_target}
use Rattle.attr_rules.specs.RowsKept.{at_row}
use Rattle.attr_rules.specs.Rules.{covering_equation, equation_at, first_of_line, is_target, nearest_equation, number_of_attribute, number_of_equation, own_covering, own_equation, reach_via, target_in}

same_targets : (equations : List KeptEquation) → map kept_target equations ≡ map target_in (map equation_in equations)
same_targets [] = refl
same_targets (e ∷ equations) = ap (λ ts. e.target ∷ ts) (same_targets equations)

-- what some class has is found within a bound, and so is the first of a line
or_within : (n e : ℕ) (o p : Option ℕ) → (o ≡ Some e → e < n) → (p ≡ Some e → e < n) → option_or o p ≡ Some e → e < n
or_within n e None p h k is = k is
or_within n e (Some x) p h k is = h is

first_within : (f : ℕ → Option ℕ) (n e : ℕ) (line : List ℕ) → ((c : ℕ) → f c ≡ Some e → e < n) → first_of_line f line ≡ Some e → e < n
first_within f n e [] h is = absurd cc
first_within f n e (c ∷ cs) h is = or_within n e (f c) (first_of_line f cs) (h c) (first_within f n e cs h) is

at_within : (targets : List Target) (c : ℕ) (r : Reach) (a e : ℕ) → equation_at targets c r a ≡ Some e → e < length targets
at_within [] c r a e is = absurd cc
at_within (t ∷ targets) c r a e is = (position-Some (is_target c r a) (t ∷ targets) e t is).0

own_within : (targets : List Target) (v : Via) (a c e : ℕ) → own_covering targets v a c ≡ Some e → e < length targets
own_within targets v a c e is =
    or_within (length targets) e (equation_at targets c (reach_via v) a) (equation_at targets c Children a) (at_within targets c (reach_via v) a e) (at_within targets c Children a e) is

-- so is the equation that is found by its number
number_within : (n : ℕ) (f : ℕ → Option ℕ) (line : List ℕ) (o : Option EqId) → ((c e : ℕ) → f c ≡ Some e → e < n) → option_map number_of_equation o ≡ first_of_line f line → IfSome o (λ e. e.0 < n)
number_within n f line None h is = tt
number_within n f line (Some e) h is = first_within f n e.0 line (λ c. h c e.0) (sym is)

module _ (s : List (Option ℕ)) (equations : List KeptEquation) (d : Dispatch) (dispatches : Dispatches s (map kept_target equations) d) where
  long : length (map kept_target equations) ≡ length (map equation_in equations)
  long = length-map equations kept_target ∙ sym (length-map equations equation_in)

  module _ (class a : ℕ) {o : Option EqId} (is : o ≡ at_row d.rows.items class a) where
    found : option_map number_of_equation o ≡ nearest_equation s (map kept_target equations) class a
    found = ap (option_map number_of_equation) is ∙ dispatches.each class a

    pub equation_found : option_map number_of_equation o ≡ nearest_equation s (map target_in (map equation_in equations)) class a
    equation_found = found ∙ ap (λ targets. nearest_equation s targets class a) (same_targets equations)

    pub equation_within : IfSome o (λ e. e.0 < length (map equation_in equations))
    equation_within =
        let targets = map kept_target equations in
        subst (λ n. IfSome o (λ e. e.0 < n)) long
        (number_within (length targets) (own_equation targets a) (upwards s class) o (λ c. at_within targets c Own a) found)

  -- the equation that covers what hangs by something, for the first attribute of a name
  module _ (class : ℕ) (v : Via) (first : AttrId) (o : Option EqId)
      (finds : (above : List (Option ℕ)) (targets : List Target) → Dispatches above targets d → option_map number_of_equation o ≡ covering_equation above targets class v first.0) where
    covering : option_map number_of_equation o ≡ covering_equation s (map kept_target equations) class v first.0
    covering = finds s (map kept_target equations) dispatches

    pub covering_found : (n : Option ℕ) → option_map number_of_attribute (Some first) ≡ n → option_map number_of_equation o ≡ option_and_then (covering_equation s (map target_in (map equation_in equations)) class v) n
    covering_found n of_name =
        covering ∙ ap (λ targets. covering_equation s targets class v first.0) (same_targets equations)
        ∙ ap (option_and_then (covering_equation s (map target_in (map equation_in equations)) class v)) of_name

    pub covering_within : IfSome o (λ e. e.0 < length (map equation_in equations))
    covering_within =
        let targets = map kept_target equations in
        subst (λ n. IfSome o (λ e. e.0 < n)) long (number_within (length targets) (own_covering targets v first.0) (upwards s class) o (own_within targets v first.0) covering)
