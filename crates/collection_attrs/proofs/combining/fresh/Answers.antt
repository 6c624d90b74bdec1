use Rattle.std.proofs.Common.{◌≡◌, ◌⊎◌, ◌∙◌, ℕ, List, ap, inl, inr, sym}
use Rattle.attr_rules.specs.declared.kinds.Kind.{Kind}
use Rattle.attr_rules.specs.declared.kinds.Method.{Method}
use Rattle.attr_rules.specs.declared.kinds.Method.TheVariants.{Add, AddAll}
use Rattle.equation_law.specs.Collections.{fresh}
use Rattle.equation_law.specs.Systems.{program_of}
use Rattle.equation_law.specs.Values.{default_of}
use Rattle.equation_law.proofs.Pooled.{first_text}
use Rattle.collection_attrs.proofs.combining.fresh.Goals as goal

of_sets : (m : Method) (k : Kind) → (m ≡ Add) ⊎ (m ≡ AddAll) → fresh m k ≡ default_of k
of_sets m k (inl e) = ap (λ (x : Method). fresh x k) e
of_sets m k (inr e) = ap (λ (x : Method). fresh x k) e

pub returns-in-Add-clause-value : goal.returns-in-Add-clause-value
returns-in-Add-clause-value c = λ names named. c.default_of.ensures.value names (ap (λ (texts : ℕ → List ℕ). texts 0) named.texts ∙ first_text c.args.system.now) ∙ sym (of_sets c.args.method c.args.kind c.in-Add.is)

pub returns-in-Add-clause-elements : goal.returns-in-Add-clause-elements
returns-in-Add-clause-elements c = c.default_of.ensures.elements (program_of c.args.system.now)
