-- What `||` says in the equations of circular attributes changes no type.
use Rattle.std.proofs.Common.{◌≡◌, ◌≤◌, ◌+◌, ℕ, suc, Bool, true, false, List, refl, ap, sym, subst}
use Rattle.ast_grammar.specs.Grammar.{Component}
use Rattle.attr_rules.specs.declared.kinds.Kind.{Kind}
use Rattle.attr_rules.specs.declared.kinds.Kind.TheVariants as kinds
use Rattle.attr_rules.specs.declared.types.ValueType.{ValueType}
use Rattle.attr_rules.specs.declared.types.ValueType.TheVariants as types
use Rattle.attr_rules.specs.Expression.{Arguments, Expression, NewArguments, new_end, new_token, new_child}
use Rattle.attr_rules.specs.Rising.{has_call}
use Rattle.attr_rules.specs.Typing as typing
use Rattle.attr_rules.specs.Typing.{Fit, FitComponents, HasType, Names, nodes_below, tokens_made}
use Rattle.attr_rules.specs.Rules.{IsCreated, most_created}
use Rattle.attr_types.specs.BothSides.{all_with_both, either, new_with_both, said_where, with_both}

either_typed : {N : Names} {a b : Expression} (calls : Bool) → HasType N a (types.Of kinds.Truth) → HasType N b (types.Of kinds.Truth) → HasType N (either calls a b) (types.Of kinds.Truth)
either_typed true h j = typing.or_both h j
either_typed false h j = typing.or h j

module _ (circular : ℕ → Bool) where
  mutual
    both_typed : {N : Names} {e : Expression} {t : ValueType} → HasType N e t → HasType N (with_both circular e) t
    both_typed (typing.truth b) = typing.truth b
    both_typed (typing.int z e) = typing.int z e
    both_typed (typing.text n) = typing.text n
    both_typed typing.null = typing.null
    both_typed typing.empty = typing.empty
    both_typed (typing.this c e) = typing.this c e
    both_typed (typing.variable k t e) = typing.variable k t e
    both_typed (typing.source k c e) = typing.source k c e
    both_typed (typing.child c k x h at is) = typing.child c k x (both_typed h) at is
    both_typed (typing.element c k x h at is j) = typing.element c k x (both_typed h) at is (both_typed j)
    both_typed (typing.count c k x h at is) = typing.count c k x (both_typed h) at is
    both_typed (typing.has c k x h at is) = typing.has c k x (both_typed h) at is
    both_typed (typing.token c k x t h at is) = typing.token c k x t (both_typed h) at is
    both_typed (typing.call c a at d h e below es) = typing.call c a at d (both_typed h) e below (both_fit es)
    both_typed (typing.cast t c h is within) = typing.cast t c (both_typed h) is within
    both_typed (typing.instance_of t c h is within) = typing.instance_of t c (both_typed h) is within
    both_typed (typing.quantified q c k x h at is b) = typing.quantified q c k x (both_typed h) at is (both_typed b)
    both_typed (typing.quantified_set q t k takes h is b) = typing.quantified_set q t k takes (both_typed h) is (both_typed b)
    both_typed (typing.each s c k x t h at is b set kept) = typing.each s c k x t (both_typed h) at is (both_typed b) set kept
    both_typed (typing.each_of_set s t k u h is b set kept) = typing.each_of_set s t k u (both_typed h) is (both_typed b) set kept
    both_typed (typing.sets o s t u v h j set is kept) = typing.sets o s t u v (both_typed h) (both_typed j) set is kept
    both_typed (typing.single t u h is) = typing.single t u (both_typed h) is
    both_typed (typing.contains t u h j is) = typing.contains t u (both_typed h) (both_typed j) is
    both_typed (typing.size t h is) = typing.size t (both_typed h) is
    both_typed (typing.not h) = typing.not (both_typed h)
    both_typed (typing.negate h) = typing.negate (both_typed h)
    both_typed (typing.ints o k takes h j) = typing.ints o k takes (both_typed h) (both_typed j)
    both_typed (typing.equal t u h j is) = typing.equal t u (both_typed h) (both_typed j) is
    both_typed (typing.and h j) = typing.and (both_typed h) (both_typed j)
    both_typed (typing.or {a = a} h j) = either_typed (has_call circular a) (both_typed h) (both_typed j)
    both_typed (typing.or_both h j) = typing.or_both (both_typed h) (both_typed j)
    both_typed (typing.choice at t u v h i j is) = typing.choice at t u v (both_typed h) (both_typed i) (both_typed j) is

    both_fit : {N : Names} {es : Arguments} {ks : List Kind} → Fit N es ks → Fit N (all_with_both circular es) ks
    both_fit typing.end = typing.end
    both_fit (typing.more t h fits es) = typing.more t (both_typed h) fits (both_fit es)

  -- nor what a `new` makes
  both_fitting : {N : Names} {parts : NewArguments} {xs : List Component} → FitComponents N parts xs → FitComponents N (new_with_both circular parts) xs
  both_fitting typing.no_more_components = typing.no_more_components
  both_fitting (typing.token_fits x k t is h fits more) = typing.token_fits x k t is (both_typed h) fits (both_fitting more)
  both_fitting (typing.child_fits x d is below concrete inner more) = typing.child_fits x d is below concrete (both_fitting inner) (both_fitting more)

  both_nodes : (parts : NewArguments) → nodes_below (new_with_both circular parts) ≡ nodes_below parts
  both_nodes new_end = refl
  both_nodes (new_token k e rest) = both_nodes rest
  both_nodes (new_child c parts rest) = (λ j. suc (both_nodes parts j + both_nodes rest j))

  both_tokens : (parts : NewArguments) → tokens_made (new_with_both circular parts) ≡ tokens_made parts
  both_tokens new_end = refl
  both_tokens (new_token k e rest) = (λ j. suc (both_tokens rest j))
  both_tokens (new_child c parts rest) = (λ j. both_tokens parts j + both_tokens rest j)

  both_created : {N : Names} {wanted : Kind} {e : Expression} → IsCreated N wanted e → IsCreated N wanted (with_both circular e)
  both_created c = record {
    class = c.class;
    arguments = new_with_both circular c.arguments;
    is = ap (with_both circular) c.is;
    makes = record { concrete = c.makes.concrete; fit = both_fitting c.makes.fit };
    fit = c.fit;
    nodes = subst (λ n. suc n ≤ most_created) (sym (both_nodes c.arguments)) c.nodes;
    tokens = subst (λ n. n ≤ most_created) (sym (both_tokens c.arguments)) c.tokens;
  }

pub said_created : {N : Names} {wanted : Kind} {e : Expression} (b : Bool) (circular : ℕ → Bool) → IsCreated N wanted e → IsCreated N wanted (said_where b circular e)
said_created true circular c = both_created circular c
said_created false circular c = c

pub said_typed : {N : Names} {e : Expression} {t : ValueType} (b : Bool) (circular : ℕ → Bool) → HasType N e t → HasType N (said_where b circular e) t
said_typed true circular h = both_typed circular h
said_typed false circular h = h
