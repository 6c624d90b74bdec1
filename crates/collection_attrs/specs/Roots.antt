-- Roots of collections, and those that are noted.
use Rattle.std.specs.Prelude.{◌≡◌, ◌⊎◌, ◌<◌, ℕ, [], Option, IfSome, Some, length}
use Rattle.std.specs.HashMap.{HashMap, get}
use Rattle.ast_grammar.specs.declared.grammar.ClassId.{ClassId}
use Rattle.equation_law.specs.declared.coding.NodeRef.{NodeRef}
use Rattle.equation_law.specs.Codes.{ByEachNaming, reference_by}
use Rattle.equation_law.specs.Equations.{collection_root, offers_below, root_over}
use Rattle.equation_law.specs.Program.{Program}
use Rattle.equation_law.specs.Reading.{ByEachIn, Grows, Told}
use Rattle.collection_attrs.specs.contracts.noted_roots.UpwardsPartialEq.TheImpl as beginnings
use Rattle.collection_attrs.specs.declared.collectors.Collector.{Collector}
use Rattle.collection_attrs.specs.declared.noted_roots.Upwards.{Upwards}
use Rattle.collection_attrs.specs.Surveys.{ForCollector}

-- exactly what is offered in the subtree of this root is offered to the collection
abbrev pub IsRootOf : Program → Collector → ℕ → Type 0
IsRootOf p of r = ForCollector p of (λ c. ByEachNaming p (λ names. (c names).offers ≡ offers_below p of.attr.0 (Some r)))

-- nothing is offered to it
abbrev pub IsRootless : Program → Collector → Type 0
IsRootless p of = ForCollector p of (λ c. ByEachNaming p (λ names. (c names).offers ≡ []))

-- by each naming, this is the root by a root class of what a code stands for, or there is none
abbrev pub IsRootAt : Program → ClassId → NodeRef → Option ℕ → Type 0
IsRootAt p c m result = ByEachNaming p (λ names. result ≡ root_over p (Some c) (reference_by names.node m.0))

-- so it is by each naming by which a reader may be read that knows the trees that were made; it is a node of the tree
pub record LeadsToRoot {S : Type 0} (p : Program) (r s : Told S) (c : ClassId) (m : NodeRef) (result : Option ℕ) : Type 0 where
  pub kept : Grows p r s
  pub within : IfSome result (λ k. k < length p.tree)
  pub root : ByEachIn s (λ names. result ≡ root_over p (Some c) (reference_by names.node m.0))

-- exactly what is offered in the subtree of this root is offered to the collection, and nothing without a root
pub record FindsRoot {S : Type 0} (p : Program) (r s : Told S) (of : Collector) (result : Option ℕ) : Type 0 where
  pub kept : Grows p r s
  pub within : IfSome result (λ k. k < length p.tree)
  pub offers : ForCollector p of (λ c. ByEachIn s (λ names. (c names).offers ≡ offers_below p of.attr.0 result))

-- the closest node of the class c from node n upwards, or that there is none; it is a node of the tree
pub record IsRoot (p : Program) (c : ClassId) (n : ℕ) (r : Option ℕ) : Type 0 where
  pub is : r ≡ collection_root p (Some c) n
  pub within : IfSome r (λ k. k < length p.tree)

-- each note tells the root of its node
abbrev pub AreRoots : {S : Type 0} → Program → HashMap Upwards (Option ℕ) S → Type 0
AreRoots p notes = (u : Upwards) (r : Option ℕ) → get beginnings.ghosts.eq notes u ≡ Some r → IsRoot p (record { 0 = u.class }) u.node r

-- what is kept was kept before, or is this root of this beginning
abbrev pub KeepsAtMost : {S : Type 0} → HashMap Upwards (Option ℕ) S → Upwards → Option ℕ → HashMap Upwards (Option ℕ) S → Type 0
KeepsAtMost old from root new = (u : Upwards) (r : Option ℕ) → get beginnings.ghosts.eq new u ≡ Some r → (get beginnings.ghosts.eq old u ≡ Some r) ⊎ ((u ≡ from) × (r ≡ root))
