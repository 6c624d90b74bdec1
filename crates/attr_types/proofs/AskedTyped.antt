-- What a query of one call asks is well typed.
use Rattle.std.proofs.Common.{◌≡◌, ◌==◌, ℕ, List, [], ◌∷◌, arith, Bool, true, false, Option, Some, None, length, if◌then◌else◌, refl, sym, ap, subst, ◌∙◌}
use Rattle.std.specs.Option.{option_and_then, option_map}
use Rattle.rag_io.specs.declared.token.Place.{Place}
use Rattle.ast_grammar.specs.declared.grammar.ClassId.{ClassId}
use Rattle.ast_grammar.specs.Grammar.{Class, superclasses_of}
use Rattle.attr_rules.specs.declared.kinds.Kind.{Kind}
use Rattle.attr_rules.specs.declared.types.ValueType.{ValueType}
use Rattle.attr_rules.specs.Expression as said
use Rattle.attr_rules.specs.Queries.{Query}
use Rattle.attr_rules.specs.Rules.{RuleSet}
use Rattle.attr_rules.specs.Types.{kept_kind}
use Rattle.attr_rules.specs.Typing as typing
use Rattle.attr_rules.specs.Typing.{Fit, HasType, Names}
use Rattle.attr_scope.specs.declared.scope.Member.{Member}
use Rattle.attr_types.specs.Asked.{query_for, query_named, query_with, scope_in}
use Rattle.attr_scope.specs.Scope.{arguments_wanted, member_of, type_called}
use Rattle.attr_scope.specs.ScopeKept.{IsScope}
use Rattle.expr_typing.proofs.ListsTyped.{no_list}
use Rattle.expr_typing.proofs.MembersTyped.{member_found, member_says, names_at}

-- a query is typed, and kept at its type
pub record IsAsked (N : Names) (q : Query) : Type 0 where
  pub type : ValueType
  pub typed : HasType N q.body type
  pub kept : q.kind ≡ kept_kind type

module _ (g : List Class) (r : RuleSet) (superclasses : r.superclasses ≡ superclasses_of g) (node : ℕ → Option ClassId) (this : Option ClassId) (k : ℕ) (p : Place) (c : ClassId) (is : node k ≡ Some c) where
  abbrev names : Names
  names = names_at (scope_in g r c) node this

  in_scope : IsScope (scope_in g r c)
  in_scope = record { superclasses = superclasses }

  none_fit : (wanted : List Kind) → length wanted ≡ 0 → Fit names said.no_more wanted
  none_fit [] few = typing.end
  none_fit (k ∷ wanted) few = absurd (omega (arith, few))

  of_member : (name : List ℕ) (m : Member) (q : Query) → member_of (scope_in g r c) name 0 c ≡ Some m → (b : Bool) → (length (arguments_wanted (scope_in g r c) m) == 0) ≡ b
      → (o : Option ValueType) → type_called (scope_in g r c) m ≡ o → (if b then option_map (query_with k p m) o else None) ≡ Some q → IsAsked names q
  of_member name m q found false count o typed e = absurd (cc)
  of_member name m q found true count None typed e = absurd (cc)
  of_member name m q found true count (Some t) typed e =
      let same : query_with k p m t ≡ q = cc in
      let says = member_says (scope_in g r c) in_scope node this c (said.Source k) said.no_more (typing.source k c is) m p 0 (member_found (scope_in g r c) in_scope c name 0 m found) (no_list (scope_in g r c) m t typed) count
      (record { passed = none_fit (arguments_wanted (scope_in g r c) m) }) in
      let type : t ≡ says.type = let both : Some t ≡ Some says.type = sym typed ∙ says.is in cc in
      subst (IsAsked names) same (record { type = says.type; typed = says.typed; kept = ap kept_kind type })

  for_member : (name : List ℕ) (q : Query) (o : Option Member) → member_of (scope_in g r c) name 0 c ≡ o → option_and_then (query_for (scope_in g r c) k p) o ≡ Some q → IsAsked names q
  for_member name q None found e = absurd (cc)
  for_member name q (Some m) found e = of_member name m q found (length (arguments_wanted (scope_in g r c) m) == 0) refl (type_called (scope_in g r c) m) refl e

  pub asked_typed : (name : List ℕ) (q : Query) → query_named g r k c name p ≡ Some q → IsAsked names q
  asked_typed name q e = for_member name q (member_of (scope_in g r c) name 0 c) refl e
