-- Where no attribute is higher-order, no expression of a program's rules or queries is a `new`, and its nodes are those of its tree alone.
use Rattle.std.proofs.Common.{◌≡◌, ◌∷◌, [], ℕ, false, List, None, Some, All, map, slice_get, ap, sym, ◌∙◌}
use Rattle.std.specs.List.{flat_map}
use Rattle.std.proofs.lemmas.List.Elements.{All-append, All-cons, All-head, All-nil, All-tail}
use Rattle.ast_grammar.specs.Grammar.{Class}
use Rattle.attr_rules.specs.declared.kinds.Attr.{Attr}
use Rattle.attr_rules.specs.declared.kinds.Kind.{Kind}
use Rattle.attr_rules.specs.declared.kinds.Sort.{Sort}
use Rattle.attr_rules.specs.declared.kinds.Sort.TheVariants.{Syn, Inh, Nta, Coll}
use Rattle.attr_rules.specs.Expression.{Expression}
use Rattle.attr_rules.specs.Rules.{Attribute, Contribution, Equation, IsBody, IsContribution, IsEquation, IsOf, RuleSet, attribute_at, bodies, expression_in, expressions_in, is_higher_order}
use Rattle.attr_rules.specs.Typing.{Names}
use Rattle.equation_law.specs.Checked.{HasSourcesAlone, IsProgram, IsTyped, NoneCreated}
use Rattle.equation_law.specs.Created.{making_in}
use Rattle.equation_law.specs.Program.{Program}
use Rattle.equation_law.proofs.Above.{each_of}
use Rattle.equation_law.proofs.Lists.{some_of}
use Rattle.equation_law.proofs.Typed.{no_making}

-- an expression that is no `new`
abbrev IsPlain : Expression → Type 0
IsPlain e = making_in e ≡ None

-- the right side for an attribute that isn't higher-order
plain_sort : (N : Names) (s : Sort) (k : Kind) (e : Expression) → is_higher_order s ≡ false → IsBody N s k e → IsOf N k e
plain_sort N Syn k e f b = b
plain_sort N Inh k e f b = b
plain_sort N Nta k e f b = absurd (cc)
plain_sort N Coll k e f b = b

-- no attribute that is declared is higher-order
never_created : (r : RuleSet) → NoneCreated r → (a : ℕ) (d : Attr) → attribute_at r a ≡ Some d → is_higher_order d.sort ≡ false
never_created r plain a d e =
    let x = some_of (λ (y : Attribute). y.declared) (slice_get r.attributes a) d e in
    ap (λ (y : Attr). is_higher_order y.sort) (sym x.2) ∙ each_of (λ (y : Attribute). is_higher_order y.declared.sort ≡ false) r.attributes a x.0 plain x.1

module _ (g : List Class) (r : RuleSet) (plain : NoneCreated r) where
  plain_equation : (e : Equation) → IsEquation g r.attributes e → IsPlain e.body
  plain_equation e allowed = no_making (plain_sort _ allowed.attribute.sort allowed.attribute.kind e.body (never_created r plain e.target.attribute.0 allowed.attribute allowed.declared) allowed.body).typed

  plain_equations : (es : List Equation) → All (IsEquation g r.attributes) es → All IsPlain (map expression_in es)
  plain_equations [] all = All-nil IsPlain
  plain_equations (e ∷ es) all =
      All-cons IsPlain e.body (map expression_in es) (plain_equation e (All-head (IsEquation g r.attributes) e es all)) (plain_equations es (All-tail (IsEquation g r.attributes) e es all))

  plain_contribution : (c : Contribution) → IsContribution g r.attributes c → All IsPlain (expressions_in c)
  plain_contribution c allowed =
      All-cons IsPlain c.condition (c.receiver ∷ c.value ∷ []) (no_making allowed.condition.typed)
      (All-cons IsPlain c.receiver (c.value ∷ []) (no_making allowed.receiver.typed) (All-cons IsPlain c.value [] (no_making allowed.value.typed) (All-nil IsPlain)))

  plain_contributions : (cs : List Contribution) → All (IsContribution g r.attributes) cs → All IsPlain (flat_map expressions_in cs)
  plain_contributions [] all = All-nil IsPlain
  plain_contributions (c ∷ cs) all =
      All-append IsPlain (expressions_in c) (flat_map expressions_in cs) (plain_contribution c (All-head (IsContribution g r.attributes) c cs all))
      (plain_contributions cs (All-tail (IsContribution g r.attributes) c cs all))

-- a program that breaks no rule, in which no attribute is higher-order
pub plain_alone : (p : Program) → IsProgram p → NoneCreated p.rules → HasSourcesAlone p
plain_alone p good plain =
    let all : All IsPlain (bodies p.rules) =
    All-append IsPlain (map expression_in p.rules.equations) (flat_map expressions_in p.rules.contributions) (plain_equations p.grammar p.rules plain p.rules.equations good.rules.equations)
    (plain_contributions p.grammar p.rules plain p.rules.contributions good.rules.contributions)
    in
    record {
      nothing = λ k e is. each_of IsPlain (bodies p.rules) k e all is;
      asked = λ k q is. no_making (each_of (IsTyped p) p.queries k q good.queries is).typed;
      few = good.tree.few;
    }
