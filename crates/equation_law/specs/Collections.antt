-- Collections: what is offered to one at a node, what that demands, and the value that comes of it.
use Rattle.std.specs.Prelude.{ℕ, pos, ◌+ℤ◌, true, false, cond, ◌&&◌, ◌||◌, List, [], ◌∷◌}
use Rattle.std.specs.Int.{int_wrap}
use mir.Syntax.{w32}
use Rattle.attr_rules.specs.declared.expression.SetOperator.TheVariants.{Union}
use Rattle.attr_rules.specs.declared.kinds.Kind.{Kind}
use Rattle.attr_rules.specs.declared.kinds.Method.{Method}
use Rattle.attr_rules.specs.declared.kinds.Method.TheVariants.{Add, AddAll, Sum, Or, And}
use Rattle.attr_rules.specs.Rules.{Contribution}
use Rattle.solutions.specs.Asking.{Demands, Gives, next}
use Rattle.equation_law.specs.Names.{At, Instance, NodeName, Reference, Source, same_reference}
use Rattle.equation_law.specs.Values.{Int, Truth, Value, default_of, int, node, set_operate, single, truth}
use Rattle.equation_law.specs.Meaning.{Place, World, meaning_of}

-- a contribution at a source node
pub record Offer : Type 0 where
  pub contribution : Contribution
  pub node : ℕ

-- a collection at a node: how it combines, the type of its values, the node, and what is offered, in order
pub record Collection : Type 0 where
  pub method : Method
  pub kind : Kind
  pub node : NodeName
  pub offers : List Offer

-- the value of a collection for which nothing counts
abbrev pub fresh : Method → Kind → Value
fresh Add k = default_of k
fresh AddAll k = default_of k
fresh Sum k = Int (pos 0)
fresh Or k = Truth false
fresh And k = Truth true

-- With one value more: `add` adds it as an element, where null is none, and `addAll` all elements of it; a sum wraps at 32 bits.
abbrev pub combine : Method → Kind → Value → Value → Value
combine Add k so_far v = set_operate Union k so_far (single v)
combine AddAll k so_far v = set_operate Union k so_far v
combine Sum k so_far v = Int (int_wrap w32 (int so_far +ℤ int v))
combine Or k so_far v = Truth (truth so_far || truth v)
combine And k so_far v = Truth (truth so_far && truth v)

-- an offer is read at its node, without names
abbrev pub offer_place : Offer → Place
offer_place o = record { this = At (Source o.node); names = [] }

-- What is demanded of an offer to a node: the condition; where it is true, the receiver; and where that is the node, the value, with which the offer
-- counts. It is passed by otherwise.
abbrev pub offered : World → Reference → Offer → (Value → Demands Instance Value) → Demands Instance Value → Demands Instance Value
offered W n o counts passed =
    next (meaning_of W o.contribution.condition (offer_place o)) (λ b. cond (truth b)
    (next (meaning_of W o.contribution.receiver (offer_place o)) (λ r. cond (same_reference (node r) n) (next (meaning_of W o.contribution.value (offer_place o)) counts) passed))
    passed)

-- the offers in their order, each of them, behind what came of those before
abbrev pub gathered : World → Method → Kind → Reference → Value → List Offer → Demands Instance Value
gathered W m k n so_far [] = Gives so_far
gathered W m k n so_far (o ∷ os) = offered W n o (λ v. gathered W m k n (combine m k so_far v) os) (gathered W m k n so_far os)

abbrev pub collection_demands : World → Collection → Demands Instance Value
collection_demands W c = gathered W c.method c.kind (At c.node) (fresh c.method c.kind) c.offers
