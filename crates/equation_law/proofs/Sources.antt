-- The naming where nothing was made, and what is read by it.
use Rattle.std.proofs.Common.{◌≡◌, ℕ, List, arith, refl, sym, ◌∙◌}
use Rattle.std.specs.declared.cmp.Ordering.TheVariants.{Less, Equal, Greater}
use Rattle.std.specs.Cmp.{nat_cmp_is}
use Rattle.std.specs.Ordering.{nat_cmp}
use Rattle.equation_law.specs.Codes.{IsInOrder, NamesInOrder, source_names}
use Rattle.equation_law.specs.Names.{Source, node_cmp}
use Rattle.equation_law.specs.Program.{Program, text_of}
use Rattle.equation_law.proofs.Codes.{sources_named}

-- the order of source nodes is that of their numbers
by_number : (k j : ℕ) → node_cmp (Source k) (Source j) ≡ nat_cmp k j
by_number k j =
    elim (nat_cmp k j) as (λ r. nat_cmp k j ≡ r → node_cmp (Source k) (Source j) ≡ r) [
      | Less ↦ λ e. grind (arith, e)
      | Equal ↦ λ e. grind (arith, e)
      | Greater ↦ λ e. grind (arith, e)
    ] refl

-- so their codes are in their order
pub sources_rise : (texts : ℕ → List ℕ) → IsInOrder (source_names texts)
sources_rise texts j k l = by_number j k ∙ sym (nat_cmp_is j k Less l)

pub source_naming : (p : Program) → NamesInOrder p (source_names (text_of p))
source_naming p = (sources_named p, sources_rise (text_of p))
