-- The search for a node goes on behind a child.
use Rattle.std.proofs.Common.{◌≡◌, ℕ, zero, suc, ◌+◌, ◌-◌, ◌≤◌, Result, Ok, Err, slice_get, arith, refl, sym, ap, subst, ◌∙◌}
use Rattle.std.specs.Option.{option_map}
use Rattle.std.specs.Result.{result_ok}
use Rattle.std.proofs.lemmas.Option.{slice_get_past}
use Rattle.ast_grammar.specs.declared.grammar.ClassId.{ClassId}
use Rattle.attr_rules.specs.Expression.{NewArguments, new_child}
use Rattle.attr_rules.specs.Typing.{nodes_below, tokens_made}
use Rattle.equation_law.specs.Created.{Making}
use Rattle.made_trees.specs.declared.news.Stand.{Stand as FoundNode}
use Rattle.made_trees.specs.declared.news.Front.{Front}
use Rattle.made_trees.specs.Stands.{IsFoundFrom, stand_of, stands_from, stands_of}
use Rattle.made_trees.proofs.Stands.{get_right, lengths}

pub beside : (at front : Front) (c : ClassId) (below rest all : NewArguments) (w next m : ℕ) (r : Result FoundNode ℕ) → all ≡ new_child c below rest → m ≡ tokens_made below
    → front ≡ record { parent = at.parent; first = next; component = at.component + 1; tokens = at.tokens + m } → next ≡ (at.first + 1) + nodes_below below → next ≤ w → IsFoundFrom front rest w r → IsFoundFrom at all w r
beside at front c below rest all w next m r is tokens same last low found = subst (λ (x : NewArguments). IsFoundFrom at x w r) (sym is) (of r (subst (λ (x : Front). IsFoundFrom x rest w r) (same ∙ moved) found))
  where
    behind : Front
    behind = record { parent = at.parent; first = suc at.first + nodes_below below; component = suc at.component; tokens = at.tokens + tokens_made below }

    moved : record { parent = at.parent; first = next; component = at.component + 1; tokens = at.tokens + m } ≡ behind
    moved =
        let first : next ≡ suc at.first + nodes_below below = omega (arith, last) in
        let component : at.component + 1 ≡ suc at.component = omega arith in
        (λ i. record { parent = at.parent; first = first i; component = component i; tokens = at.tokens + tokens i })

    of : (r : Result FoundNode ℕ) → IsFoundFrom behind rest w r → IsFoundFrom at (new_child c below rest) w r
    of (Ok s) e =
        let inner = stands_from at.first (suc at.first) 0 at.tokens below in
        let outer = stands_from at.parent (suc at.first + nodes_below below) (suc at.component) (at.tokens + tokens_made below) rest in
        let many = lengths at.first (suc at.first) 0 at.tokens below in
        let further : w - at.first ≡ suc (w - suc at.first) = omega (arith, last, low) in
        ap (slice_get (stands_from at.parent at.first at.component at.tokens (new_child c below rest))) further
        ∙ get_right inner outer (w - (suc at.first + nodes_below below)) (w - suc at.first) (omega (arith, many, last, low)) ∙ e
    of (Err k) e = let f = e.0 in let g = e.1 in (omega (arith, f), g)

-- what a search from the root on finds
pub from_root : (m : Making) (q : ℕ) (r : Result FoundNode ℕ) → (q ≡ 0 → ⊥) → IsFoundFrom (record { parent = 0; first = 1; component = 0; tokens = 0 }) m.arguments q r → slice_get (stands_of m) q ≡ option_map stand_of (result_ok r)
from_root m zero r some e = absurd (some refl)
from_root m (suc q) (Ok s) some e = let same : q ≡ suc q - 1 = omega arith in ap (slice_get (stands_from 0 1 0 0 m.arguments)) same ∙ e
from_root m (suc q) (Err next) some e =
    let at = e.0 in
    let low = e.1 in
    let many = lengths 0 1 0 0 m.arguments in
    slice_get_past (stands_from 0 1 0 0 m.arguments) q (omega (arith, at, low, many))
