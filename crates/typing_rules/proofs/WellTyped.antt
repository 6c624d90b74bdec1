-- Expressions of which a type is wanted.
use Rattle.std.proofs.Common.{◌≡◌, ◌↔◌, [], Some, sym, ◌∙◌}
use Rattle.broken_rules.proofs.Clean.{append_none}
use Rattle.attr_rules.specs.declared.kinds.Kind.{Kind}
use Rattle.attr_rules.specs.declared.types.ValueType.{ValueType}
use Rattle.aspect_items.specs.Expressions.{Expr}
use Rattle.attr_scope.specs.Scope.{Scope}
use Rattle.expr_typing.specs.declared.standing.Stands.{Stands}
use Rattle.expr_typing.specs.declared.standing.Stands.TheVariants.{Anywhere}
use Rattle.expr_typing.specs.Fitting.{misfit}
use Rattle.expr_typing.specs.Typed.{known}
use Rattle.attr_bodies.specs.Bodies.{expr_broken, operand_broken}
use Rattle.typing_rules.specs.TypeRules.{IsOf, IsTyped, NamesAreKnown}
use Rattle.typing_rules.proofs.NothingBroken.{clean, fits_none, none_after}
use Rattle.typing_rules.proofs.TypeFound.{fitting, type_found}

module _ (s : Scope) (e : Expr) (wanted : Kind) where
  fits_if : NamesAreKnown s → operand_broken s Anywhere wanted e ≡ [] → IsOf s wanted e
  fits_if all none =
      let parts = append_none (expr_broken s Anywhere e) (misfit s.grammar wanted (known s e) e) none in
      let found = type_found s all e parts.0 in
      (found.type, found.typed, fitting s.grammar (known s e) found.type e found.is wanted parts.1)

  -- what is of a type that fits, breaks nothing
  pub none_where : IsOf s wanted e → operand_broken s Anywhere wanted e ≡ []
  none_where h =
      let inner = clean h.1 in
      none_after (inner.none Anywhere) (fits_none s.grammar wanted (known s e) h.0 e inner.is h.2)

pub exactly : (s : Scope) (e : Expr) (wanted : Kind) → NamesAreKnown s → (operand_broken s Anywhere wanted e ≡ []) ↔ IsOf s wanted e
exactly s e wanted all = (fits_if s e wanted all, none_where s e wanted)

pub nothing : (s : Scope) (e : Expr) (t : ValueType) (w : Stands) → IsTyped s e t → expr_broken s w e ≡ []
nothing s e t w h = (clean h).none w

pub type_known : (s : Scope) (e : Expr) (t : ValueType) → IsTyped s e t → known s e ≡ Some t
type_known s e t h = (clean h).is

pub one_type : (s : Scope) (e : Expr) (t u : ValueType) → IsTyped s e t → IsTyped s e u → t ≡ u
one_type s e t u h j = let same : Some t ≡ Some u = sym (type_known s e t h) ∙ type_known s e u j in cc
