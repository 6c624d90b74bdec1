-- Parameters, and the rules on them in heads: J3, J4, J15 and J17.
use Rattle.std.specs.Prelude.{ℕ, ◌==◌, List, [], ◌∷◌, ◌++◌, Bool, true, false, not, ◌||◌, Option, Some, None, is_none, length, map}
use Rattle.std.specs.Borrow.{Bor}
use Rattle.std.specs.Option.{option_map}
use Rattle.broken_rules.specs.declared.broken.Broken.{Broken}
use Rattle.broken_rules.specs.declared.rule.Rule.TheVariants.{J3, J4, J17}
use Rattle.broken_rules.specs.Notes.{at, broken_if, each_after}
use Rattle.ast_grammar.specs.Grammar.{Class}
use Rattle.attr_rules.specs.declared.kinds.Kind.{Kind}
use Rattle.attr_rules.specs.declared.kinds.Kind.TheVariants as kinds
use Rattle.attr_rules.specs.declared.kinds.Params.{Params}
use Rattle.attr_rules.specs.Rules.{most_parameters, no_params}
use Rattle.names.specs.Among.{is_among}
use Rattle.aspect_items.specs.declared.items.Signature as kept_signature
use Rattle.aspect_items.specs.Items.{Parameter, Signature, WrittenType, seen_signature}
use Rattle.attr_scope.specs.WrittenTypes.{kind_written, same_kind, type_written}

abbrev pub parameter_name : Parameter → List ℕ
parameter_name p = p.name.text

abbrev pub parameter_names : List Parameter → List (List ℕ)
parameter_names ps = map parameter_name ps

-- a type that no parameter has: a set, or none
abbrev pub is_no_parameter : List Class → WrittenType → Bool
is_no_parameter g t = t.set || is_none (type_written g t)

-- J4: a parameter is a set, or its type is none. J3: one before in its parenthesis has its name, or one of the names before that. J17: there
-- are so many before in its parenthesis
abbrev pub parameter_broken : List Class → List (List ℕ) → List Parameter → Parameter → List Broken
parameter_broken g names before p =
    broken_if (is_no_parameter g p.of) (at p.of.place J4)
    ++ (broken_if (is_among (names ++ parameter_names before) p.name.text) (at p.name.place J3) ++ broken_if (length before == most_parameters) (at p.name.place J17))

-- what the parameters of a parenthesis break, before which a head has these names
abbrev pub parameters_broken : List Class → List (List ℕ) → List Parameter → List Broken
parameters_broken g names ps = each_after (parameter_broken g names) [] ps

-- the path of an equation, if it has one, without where it lies
abbrev pub seen_path : Option (Bor kept_signature.Signature) → Option Signature
seen_path p = option_map (λ s. seen_signature s.now) p

-- the parameters of a path, if there is one
abbrev pub path_parameters : Option Signature → List Parameter
path_parameters None = []
path_parameters (Some p) = p.parameters

-- what the parameters of a head break: those of the path, if there is one, and those of the attribute
abbrev pub all_parameters_broken : List Class → Option Signature → Signature → List Broken
all_parameters_broken g path s = parameters_broken g [] (path_parameters path) ++ parameters_broken g (parameter_names (path_parameters path)) s.parameters

-- what is written is known to be another type than this one, as far as that is known; no parameter is a set
abbrev pub is_other_type : List Class → Option Kind → WrittenType → Bool
is_other_type g k t = t.set || not (same_kind k (type_written g t))

-- the parameters aren't so many, or not of these types, as far as types are known
abbrev pub differ : List Class → List (Option Kind) → List Parameter → Bool
differ g [] [] = false
differ g [] (p ∷ ps) = true
differ g (k ∷ ks) [] = true
differ g (k ∷ ks) (p ∷ ps) = is_other_type g k p.of || differ g ks ps

-- the types of parameters, where they are known
abbrev pub parameter_type : List Class → Parameter → Option Kind
parameter_type g p = type_written g p.of

abbrev pub parameter_types : List Class → List Parameter → List (Option Kind)
parameter_types g ps = map (parameter_type g) ps

-- what is no type counts as `boolean`
abbrev pub parameter_kind : List Class → Parameter → Kind
parameter_kind g p = kind_written g p.of

-- the parameters of these types, of which the first three count
abbrev pub params_of : List Kind → Params
params_of [] = no_params
params_of (a ∷ []) = record { count = 1; first = a; second = kinds.Truth; third = kinds.Truth }
params_of (a ∷ b ∷ []) = record { count = 2; first = a; second = b; third = kinds.Truth }
params_of (a ∷ b ∷ c ∷ ks) = record { count = 3; first = a; second = b; third = c }

-- the parameters that are written
abbrev pub params_written : List Class → List Parameter → Params
params_written g ps = params_of (map (parameter_kind g) ps)
