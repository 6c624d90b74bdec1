-- What holds of equations that break nothing.
use Rattle.std.proofs.Common.{◌≡◌, Bool, ℕ, zero, suc, List, [], ◌∷◌, ◌++◌, All, true, false, Option, Some, None, is_none, map, slice_get, option_map, refl, ap, sym, ◌∙◌, subst}
use Rattle.std.specs.List.{flat_map}
use Rattle.std.specs.Option.{unwrap_or}
use Rattle.std.proofs.lemmas.List.{map-append}
use Rattle.broken_rules.proofs.Clean.{append_none, flat_map_found}
use Rattle.ast_grammar.specs.Grammar.{Class}
use Rattle.aspect_items.specs.Expressions.{Expr}
use Rattle.aspect_items.specs.Items.{Item, Parameter}
use Rattle.expr_typing.specs.declared.standing.Stands.TheVariants.{Anywhere}
use Rattle.attr_bodies.specs.Bodies.{expr_broken}
use Rattle.expr_typing.specs.Fitting.{misfit}
use Rattle.attr_types.specs.Phases.{creates, equated_broken, equated_said, equation_broken, equation_of, kind_or_truth, scope_of, wanted_by}
use Rattle.attr_rules.specs.declared.dispatch.Reach.{Reach}
use Rattle.attr_rules.specs.declared.kinds.Attr.{Attr}
use Rattle.attr_rules.specs.declared.kinds.Kind.{Kind}
use Rattle.attr_rules.specs.declared.kinds.Kind.TheVariants as kinds
use Rattle.attr_rules.specs.declared.kinds.Sort.{Sort}
use Rattle.attr_rules.specs.declared.kinds.Sort.TheVariants.{Syn, Inh, Nta, Coll}
use Rattle.attr_rules.specs.Expression.{Expression}
use Rattle.attr_rules.specs.declared.types.ValueType.TheVariants as types
use Rattle.attr_rules.specs.Rules.{Attribute, IsBody, IsCreated, IsEquation, IsOf, bound_kinds, circular_at, declared_at, is_higher_order, names_for}
use Rattle.attr_rules.specs.Typing.{Names}
use Rattle.attr_heads.specs.Created.{declares_higher_order}
use Rattle.attr_heads.specs.Parameters.{parameter_kind, path_parameters}
use Rattle.attr_heads.specs.Paths.{bound_as, bound_by, bound_names, equation_names, parameter_named}
use Rattle.attr_scope.specs.Scope.{Scope, Variable, variable_type}
use Rattle.attr_scope.specs.ScopeKept.{IsScope}
use Rattle.attr_heads.specs.Targets.{target_given, targets_broken}
use Rattle.expr_typing.specs.Typed.{known}
use Rattle.attr_rules.specs.Types.{parameter_kinds}
use Rattle.attr_scope.specs.Written.{Given, givens}
use Rattle.attr_scope.specs.WrittenTypes.{type_written}
use Rattle.attr_types.specs.BothSides.{said_where}
use Rattle.attr_types.proofs.BothTyped.{said_created, said_typed}
use Rattle.expr_typing.proofs.FormsTyped.{fitting}
use Rattle.attr_scope.proofs.ItemsFound.{all_found, map_found, some_there}
use Rattle.expr_typing.proofs.MembersTyped.{kind_known, names_in, variable_kind}
use Rattle.attr_heads.proofs.ParametersClean.{AreTyped, IsTyped, same_kinds}
use Rattle.attr_heads.proofs.TargetsClean.{HasParameters, IsFound, given_parameters, given_target}
use Rattle.attr_bodies.proofs.CreatedClean.{created}
use Rattle.attr_bodies.proofs.TypedClean.{typed}
use Rattle.expr_typing.proofs.Variables.{AreKnown}

-- a name's type is known
abbrev IsKnown : Variable → Type 0
IsKnown v = (t : Kind) × (v.type ≡ Some (types.Of t))

-- the types of what is bound are known, and are those that are wanted
bound_known : (ks : List Kind) (ps : List Parameter) (k : ℕ) (v : Variable) → slice_get (bound_by ks ps) k ≡ Some v → IsKnown v
bound_known [] ps k v e = absurd (cc)
bound_known (t ∷ ks) [] zero v e = (t, (let same : bound_as [] t ≡ v = cc in sym (ap variable_type same)))
bound_known (t ∷ ks) [] (suc k) v e = bound_known ks [] k v e
bound_known (t ∷ ks) (p ∷ ps) zero v e = (t, (let same : bound_as p.name.text t ≡ v = cc in sym (ap variable_type same)))
bound_known (t ∷ ks) (p ∷ ps) (suc k) v e = bound_known ks ps k v e

bound_same : (ks : List Kind) (ps : List Parameter) → map variable_kind (bound_by ks ps) ≡ ks
bound_same [] ps = refl
bound_same (k ∷ ks) [] = (λ i. k ∷ bound_same ks [] i)
bound_same (k ∷ ks) (p ∷ ps) = (λ i. k ∷ bound_same ks ps i)

module _ (g : List Class) where
  parameter_known : (p : Parameter) (v : Variable) → IsTyped g p → parameter_named g p ≡ v → IsKnown v
  parameter_known p v typed is =
      let there = some_there (type_written g p.of) typed.known in
      (there.0, sym (ap variable_type is) ∙ ap (option_map types.Of) there.1)

  -- so are those of parameters, and of names behind them
  names_known : (ps : List Parameter) (rest : List Variable) → AreTyped g ps → ((k : ℕ) (v : Variable) → slice_get rest k ≡ Some v → IsKnown v)
      → (k : ℕ) (v : Variable) → slice_get (map (parameter_named g) ps ++ rest) k ≡ Some v → IsKnown v
  names_known [] rest typed known k v e = known k v e
  names_known (p ∷ ps) rest typed known zero v e = parameter_known p v (typed 0 p refl) (let same : parameter_named g p ≡ v = cc in same)
  names_known (p ∷ ps) rest typed known (suc k) v e = names_known ps rest (λ i q at_i. typed (suc i) q at_i) known k v e

  named_kind : (o : Option Kind) → is_none o ≡ false → kind_known (option_map types.Of o) ≡ unwrap_or o kinds.Truth
  named_kind None known = absurd (cc)
  named_kind (Some k) known = refl

  named_kinds : (ps : List Parameter) → AreTyped g ps → map variable_kind (map (parameter_named g) ps) ≡ map (parameter_kind g) ps
  named_kinds [] typed = refl
  named_kinds (p ∷ ps) typed =
      let first = named_kind (type_written g p.of) (typed 0 p refl).known in
      let rest = named_kinds ps (λ i q at_i. typed (suc i) q at_i) in
      (λ i. first i ∷ rest i)

-- a right side that a type is wanted of, of an attribute that is higher-order or not
abbrev IsEquated : Bool → Names → Kind → Expression → Type 0
IsEquated true N = IsCreated N
IsEquated false N = IsOf N

by_sort : (s : Sort) (N : Names) (k : Kind) (e : Expression) (h : Bool) → h ≡ is_higher_order s → IsEquated h N k e → IsBody N s k e
by_sort Syn N k e true is x = absurd (cc)
by_sort Syn N k e false is x = x
by_sort Inh N k e true is x = absurd (cc)
by_sort Inh N k e false is x = x
by_sort Nta N k e true is x = x
by_sort Nta N k e false is x = absurd (cc)
by_sort Coll N k e true is x = absurd (cc)
by_sort Coll N k e false is x = x

-- one that breaks nothing
equated_there : (s : Scope) → IsScope s → AreKnown s → (h : Bool) (wanted : Kind) (e : Expr) (b : Bool) (circular : ℕ → Bool) → equated_broken h s wanted e ≡ []
    → IsEquated h (names_in s) wanted (said_where b circular (equated_said h s e))
equated_there s is_scope all true wanted e b circular none = said_created b circular (created s is_scope all wanted e none)
equated_there s is_scope all false wanted e b circular none =
    let parts = append_none (expr_broken s Anywhere e) (misfit s.grammar wanted (known s e) e) none in
    let body = typed s is_scope all e Anywhere refl parts.0 in
    record { type = body.type; typed = said_typed b circular body.typed; fit = fitting (names_in s) wanted (known s e) body.type e body.is parts.1 }

module _ (g : List Class) (attributes : List Attribute) where
  -- the names of an equation are of the types of the parameters, and of what the path binds
  names_same : (e : Given) (d : Attr) (r : Reach) → HasParameters g e.attribute d
      → map variable_kind (equation_names g attributes e.attribute e.path r) ≡ parameter_kinds d.params ++ bound_kinds attributes r
  names_same e d r has =
      let ps = e.attribute.parameters in
      map-append variable_kind (map (parameter_named g) ps) (bound_names attributes e.path r)
      ∙ (λ i. (named_kinds g ps has.typed ∙ sym (same_kinds g (parameter_kinds d.params) ps has.typed has.same)) i ++ bound_same (bound_kinds attributes r) (path_parameters e.path) i)

  equation_there : (e : Given) (target : IsFound g attributes (target_given g attributes e)) → HasParameters g e.attribute target.attribute → equation_broken g attributes e ≡ []
      → IsEquation g attributes (equation_of g attributes e)
  equation_there e target has none =
      let scope = scope_of g attributes e (target_given g attributes e) in
      let class = (target_given g attributes e).class in
      let reach = (target_given g attributes e).reach in
      let wanted = wanted_by attributes (target_given g attributes e) in
      let makes = creates attributes (target_given g attributes e) in
      let all = names_known g e.attribute.parameters (bound_names attributes e.path reach) has.typed (bound_known (bound_kinds attributes reach) (path_parameters e.path)) in
      let body = equated_there scope (record { superclasses = refl }) (record { known = all }) makes wanted e.body (circular_at attributes (target_given g attributes e).attribute.0) (circular_at attributes) none in
      let named = subst (λ vs. IsEquated makes (record { grammar = g; attribute = declared_at attributes; node = λ k. None; this = Some class; variables = vs }) wanted (equation_of g attributes e).body)
      (names_same e target.attribute reach has) body in
      let fitted = subst (λ k. IsEquated makes (names_for g attributes class reach target.attribute.params) k (equation_of g attributes e).body) (ap kind_or_truth target.declared) named in
      record {
        within = target.within;
        attribute = target.attribute;
        declared = target.declared;
        gives = target.gives;
        body = by_sort target.attribute.sort (names_for g attributes class reach target.attribute.params) target.attribute.kind (equation_of g attributes e).body makes (ap declares_higher_order target.declared) fitted;
      }

  -- each is well typed and fits
  pub equations_there : (items : List Item) → targets_broken g attributes (givens items) ≡ [] → flat_map (equation_broken g attributes) (givens items) ≡ []
      → All (IsEquation g attributes) (map (equation_of g attributes) (givens items))
  equations_there items targets bodies = all_found (IsEquation g attributes) (map (equation_of g attributes) (givens items)) (λ i x is.
      let found = map_found (equation_of g attributes) (givens items) i x is in
      let e = found.0 in
      let target = given_target g attributes (givens items) i e targets found.1 in
      subst (IsEquation g attributes) found.2
      (equation_there e target (given_parameters g attributes (givens items) i e targets found.1) (flat_map_found (equation_broken g attributes) (givens items) i e bodies found.1)))
