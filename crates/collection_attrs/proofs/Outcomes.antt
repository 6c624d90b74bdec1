-- What comes of an offer, by what its parts come to.
use Rattle.std.proofs.Common.{◌≡◌, ℕ, suc, true, false, [], Result, Ok, Err, Some, None, slice_get, ap, subst, sym}
use Rattle.rag_io.specs.declared.Memory.{Memory}
use Rattle.solutions.specs.Asking.{Demands}
use Rattle.attr_rules.specs.Expression.{Expression}
use Rattle.attr_rules.specs.Rules.{Contribution}
use Rattle.equation_law.specs.declared.coding.Instance.{Instance as CodedInstance}
use Rattle.equation_law.specs.declared.coding.Value.{Value as CodedValue}
use Rattle.equation_law.specs.Codes.{Naming, arguments_by, instance_by, value_by}
use Rattle.equation_law.specs.Collections.{Offer, offer_place}
use Rattle.equation_law.specs.Created.{token_kinds}
use Rattle.equation_law.specs.Equations.{world_of}
use Rattle.equation_law.specs.Meaning.{meaning_of}
use Rattle.equation_law.specs.Names.{At, Instance, NodeName, Reference, Source}
use Rattle.equation_law.specs.Program.{Program}
use Rattle.equation_law.specs.Reading.{ByEachIn, Told}
use Rattle.equation_law.specs.Values.{Tree, Value, node, truth}
use Rattle.expr_eval.specs.declared.sites.Turn.{Turn}
use Rattle.expr_eval.specs.declared.sites.Turn.TheVariants as turns
use Rattle.expr_eval.specs.Evaluating.{AnswersTurn, Asks, Comes, Evaluates, Given, Stopped, Wants, place_kept, read_at}
use Rattle.collection_attrs.specs.Passed.{IsPassed, met, unmet}
use Rattle.collection_attrs.specs.Walks.{IsOfferStuck, condition, receiver}

-- ---- what an evaluation that has answered says

module _ {S : Type 0} {p : Program} {r s : Told S} {d : Asks} {t : Turn} (e : Evaluates p r s d (Ok t)) where
  pub given : {v : CodedValue} → t ≡ turns.Done v → Given p s d v
  given is = subst (λ (u : Turn). AnswersTurn p s d (Ok u)) is e.answer

  pub stopped : {i : CodedInstance} → t ≡ turns.Need i → Stopped p s d i
  stopped is = subst (λ (u : Turn). AnswersTurn p s d (Ok u)) is e.answer

-- it says the same of demands that are the same by each naming by which the reader may be read
answers_as : {S : Type 0} (p : Program) (s : Told S) {c d : Asks} → ByEachIn s (λ names. c names ≡ d names) → (result : Result Turn Memory) → AnswersTurn p s c result → AnswersTurn p s d result
answers_as p s same (Ok (turns.Done v)) h = record { comes = λ names in_it. subst (λ (x : Demands Instance Value). Comes s.has x (value_by names v)) (same names in_it) (h.comes names in_it); coded = h.coded; known = h.known }
answers_as p s same (Ok (turns.Need i)) h = record { wants = λ names in_it. subst (λ (x : Demands Instance Value). Wants s.has x (instance_by p names i)) (same names in_it) (h.wants names in_it); coded = h.coded; known = h.known }
answers_as p s same (Ok (turns.Image t)) h = record {
  making = h.making;
  is = h.is;
  comes = λ names in_it. let x = h.comes names in_it in (x.0, subst (λ (d : Demands Instance Value). Comes s.has d (Tree x.0 (arguments_by names (token_kinds h.making.arguments) t.tokens))) (same names in_it) x.1);
  all = h.all;
  codes = h.codes;
}
answers_as p s same (Err m) h = tt

pub evaluates_as : {S : Type 0} {p : Program} {r s : Told S} {c d : Asks} {result : Result Turn Memory} → ByEachIn s (λ names. c names ≡ d names) → Evaluates p r s c result → Evaluates p r s d result
evaluates_as {p = p} {s = s} {result = result} same h = record { kept = h.kept; answer = answers_as p s same result h.answer }

-- ---- the offer of the contribution with a number, at a node

abbrev offer : Contribution → ℕ → Offer
offer c n = record { contribution = c; node = n }

one_contribution : (p : Program) (k : ℕ) {b c : Contribution} → slice_get p.rules.contributions k ≡ Some c → slice_get p.rules.contributions k ≡ Some b → c ≡ b
one_contribution p k known is = cc

-- an expression that is read at the node of an offer, by its code
module _ (p : Program) (names : Naming) (c : Contribution) (n : ℕ) (stands : names.node n ≡ Source n) (e : Expression) where
  abbrev coded_read : Demands Instance Value
  coded_read = read_at p (place_kept names (suc n) []) e

  abbrev source_read : Demands Instance Value
  source_read = meaning_of (world_of p) e (offer_place (offer c n))

  same_read : coded_read ≡ source_read
  same_read = ap (λ (m : NodeName). read_at p (record { this = At m; names = [] }) e) stands

  pub comes_there : {A : Instance → Value → Type 0} {v : Value} → Comes A coded_read v → Comes A source_read v
  comes_there {A = A} {v = v} h = subst (λ (d : Demands Instance Value). Comes A d v) same_read h

  pub wants_there : {A : Instance → Value → Type 0} {j : Instance} → Wants A coded_read j → Wants A source_read j
  wants_there {A = A} {j = j} h = subst (λ (d : Demands Instance Value). Wants A d j) same_read h

-- by one naming
module _ (p : Program) (A : Instance → Value → Type 0) (names : Naming) (k n : ℕ) (stands : names.node n ≡ Source n) {b c : Contribution} (known : slice_get p.rules.contributions k ≡ Some c) (is : slice_get p.rules.contributions k ≡ Some b) where
  pub weighs_unmet : {x : Value} → Comes A (read_at p (place_kept names (suc n) []) c.condition) x → truth x ≡ false → IsPassed p A (offer b n) None
  weighs_unmet first f = let a = comes_there p names c n stands c.condition first in subst (λ (z : Contribution). IsPassed p A (offer z n) None) (one_contribution p k known is) (unmet a.1 f)

  pub weighs_met : {x y : Value} → Comes A (read_at p (place_kept names (suc n) []) c.condition) x → truth x ≡ true → Comes A (read_at p (place_kept names (suc n) []) c.receiver) y
      → (r : Reference) → r ≡ node y → IsPassed p A (offer b n) (Some r)
  weighs_met first t second r is_node =
      let a = comes_there p names c n stands c.condition first in
      let d = comes_there p names c n stands c.receiver second in
      subst (λ (z : Contribution). IsPassed p A (offer z n) (Some r)) (one_contribution p k known is) (subst (λ (o : Reference). IsPassed p A (offer c n) (Some o)) (sym is_node) (met a.1 t d.1))

  pub weighs_stuck : (j : Instance) {x : Value} → Comes A (read_at p (place_kept names (suc n) []) c.condition) x → truth x ≡ true → Wants A (read_at p (place_kept names (suc n) []) c.receiver) j → IsOfferStuck p A (offer b n) j
  weighs_stuck j first t second =
      let a = comes_there p names c n stands c.condition first in
      let d = wants_there p names c n stands c.receiver second in
      subst (λ (z : Contribution). IsOfferStuck p A (offer z n) j) (one_contribution p k known is) (receiver a.1 t d.1)

  pub weighs_halted : (j : Instance) → Wants A (read_at p (place_kept names (suc n) []) c.condition) j → IsOfferStuck p A (offer b n) j
  weighs_halted j first = let a = wants_there p names c n stands c.condition first in subst (λ (z : Contribution). IsOfferStuck p A (offer z n) j) (one_contribution p k known is) (condition a.1)
