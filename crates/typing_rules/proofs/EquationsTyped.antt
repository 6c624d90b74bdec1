-- The right sides of equations.
use Rattle.std.proofs.Common.{◌≡◌, ◌↔◌, ℕ, suc, List, [], ◌∷◌, ◌++◌, All, false, Option, Some, None, IsSome, is_none, map, slice_get, option_map, refl, sym, ◌∙◌, subst}
use Rattle.std.specs.List.{flat_map}
use Rattle.std.proofs.lemmas.List.Elements.{All-append, All-cons, All-nil}
use Rattle.std.proofs.lemmas.Option.{get_or_from_slice_get, slice_get_within}
use Rattle.broken_rules.specs.declared.broken.Broken.{Broken}
use Rattle.broken_rules.proofs.Clean.{flat_map_found}
use Rattle.ast_grammar.specs.Grammar.{Class}
use Rattle.aspect_items.specs.Expressions.{Expr}
use Rattle.aspect_items.specs.Items.{Parameter, Signature}
use Rattle.attr_rules.specs.declared.dispatch.Reach.{Reach}
use Rattle.attr_rules.specs.declared.kinds.Attr.{Attr}
use Rattle.attr_rules.specs.declared.kinds.Kind.{Kind}
use Rattle.attr_rules.specs.declared.kinds.Sort.{Sort}
use Rattle.attr_rules.specs.declared.kinds.Sort.TheVariants.{Syn, Inh, Nta, Coll}
use Rattle.attr_rules.specs.declared.types.ValueType.TheVariants as types
use Rattle.attr_rules.specs.Rules.{Attribute, bound_kinds, declared_at, is_higher_order}
use Rattle.attr_scope.specs.Scope.{Scope, Variable}
use Rattle.attr_scope.specs.Written.{Given}
use Rattle.attr_scope.specs.WrittenTypes.{type_written}
use Rattle.attr_scope.proofs.ItemsFound.{all_found}
use Rattle.attr_heads.specs.Created.{declares_higher_order}
use Rattle.attr_heads.specs.Parameters.{path_parameters}
use Rattle.attr_heads.specs.Paths.{bound_as, bound_by, bound_names, equation_names, parameter_named}
use Rattle.attr_heads.specs.Targets.{target_given, targets_broken}
use Rattle.attr_heads.proofs.ParametersClean.{AreTyped}
use Rattle.attr_heads.proofs.TargetsClean.{given_parameters, given_target}
use Rattle.attr_types.specs.Phases.{equated_broken, equation_broken, kind_or_truth, scope_of}
use Rattle.typing_rules.specs.EquationTypes.{FitsBySort, IsWellTyped}
use Rattle.typing_rules.specs.TypeRules.{NamesAreKnown}
use Rattle.typing_rules.proofs.CreatedTyped.{created_exactly}
use Rattle.typing_rules.proofs.WellTyped.{exactly}

-- a name's type is known
abbrev pub IsKnown : Variable → Type 0
IsKnown v = IsSome v.type

bound_known : (ks : List Kind) (ps : List Parameter) → All IsKnown (bound_by ks ps)
bound_known [] ps = All-nil IsKnown
bound_known (k ∷ ks) [] = All-cons IsKnown (bound_as [] k) (bound_by ks []) refl (bound_known ks [])
bound_known (k ∷ ks) (p ∷ ps) = All-cons IsKnown (bound_as p.name.text k) (bound_by ks ps) refl (bound_known ks ps)

known_kind : (o : Option Kind) → is_none o ≡ false → IsSome (option_map types.Of o)
known_kind None known = absurd (cc)
known_kind (Some k) known = refl

module _ (g : List Class) where
  parameters_known : (ps : List Parameter) → AreTyped g ps → All IsKnown (map (parameter_named g) ps)
  parameters_known [] typed = All-nil IsKnown
  parameters_known (p ∷ ps) typed = All-cons IsKnown (parameter_named g p) (map (parameter_named g) ps) (known_kind (type_written g p.of) (typed 0 p refl).known) (parameters_known ps (λ i q at_i. typed (suc i) q at_i))

  names_known : (attributes : List Attribute) (s : Signature) (p : Option Signature) (r : Reach) → AreTyped g s.parameters → All IsKnown (equation_names g attributes s p r)
  names_known attributes s p r typed =
      All-append IsKnown (map (parameter_named g) s.parameters) (bound_names attributes p r) (parameters_known s.parameters typed) (bound_known (bound_kinds attributes r) (path_parameters p))

-- where each item breaks nothing, all do
pub none_each : {X : Type 0} (f : X → List Broken) (xs : List X) → ((i : ℕ) (x : X) → slice_get xs i ≡ Some x → f x ≡ []) → flat_map f xs ≡ []
none_each f [] each = refl
none_each f (x ∷ xs) each = (λ i. each 0 x refl i ++ none_each f xs (λ j y at_j. each (suc j) y at_j) i)

-- what holds of each item
pub all_at : {X : Type 0} (P : X → Type 0) (xs : List X) (i : ℕ) (x : X) → All P xs → slice_get xs i ≡ Some x → P x
all_at P xs i x all e = subst P (get_or_from_slice_get xs i x x e) (all i x (slice_get_within xs i x e))

-- a right side for an attribute of a sort
by_sort : (s : Scope) → NamesAreKnown s → (sort : Sort) (k : Kind) (e : Expr) → (equated_broken (is_higher_order sort) s k e ≡ []) ↔ FitsBySort sort s k e
by_sort s known Syn k e = exactly s e k known
by_sort s known Inh k e = exactly s e k known
by_sort s known Nta k e = created_exactly s e k known
by_sort s known Coll k e = exactly s e k known

module _ (g : List Class) (attributes : List Attribute) where
  -- an equation for an attribute breaks what its right side does by the attribute's sort and type
  broken_by_sort : (e : Given) (d : Attr) → declared_at attributes (target_given g attributes e).attribute.0 ≡ Some d
      → equation_broken g attributes e ≡ equated_broken (is_higher_order d.sort) (scope_of g attributes e (target_given g attributes e)) d.kind e.body
  broken_by_sort e d is = λ i. equated_broken (declares_higher_order (is i)) (scope_of g attributes e (target_given g attributes e)) (kind_or_truth (is i)) e.body

  module _ (list : List Given) (targets : targets_broken g attributes list ≡ []) where
    equation_exactly : (i : ℕ) (e : Given) → slice_get list i ≡ Some e → (equation_broken g attributes e ≡ []) ↔ IsWellTyped g attributes e
    equation_exactly i e is =
        let target = target_given g attributes e in
        let scope = scope_of g attributes e target in
        let known = names_known g attributes e.attribute e.path target.reach (given_parameters g attributes list i e targets is).typed in
        let found = given_target g attributes list i e targets is in
        let d = found.attribute in (
          (λ none. record { attribute = d; declared = found.declared; body = (by_sort scope known d.sort d.kind e.body).0 (sym (broken_by_sort e d found.declared) ∙ none) }),
          (λ h. broken_by_sort e h.attribute h.declared ∙ (by_sort scope known h.attribute.sort h.attribute.kind e.body).1 h.body),
        )

    -- they break nothing exactly where each is well typed
    pub equations_exactly : (flat_map (equation_broken g attributes) list ≡ []) ↔ All (IsWellTyped g attributes) list
    equations_exactly = (
      (λ none. all_found (IsWellTyped g attributes) list (λ i e is. (equation_exactly i e is).0 (flat_map_found (equation_broken g attributes) list i e none is))),
      (λ all. none_each (equation_broken g attributes) list (λ i e is. (equation_exactly i e is).1 (all_at (IsWellTyped g attributes) list i e all is))),
    )
