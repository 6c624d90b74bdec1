-- The queries of a program are instances.
use Rattle.std.proofs.Common.{◌≡◌, ◌<◌, ℕ, [], Some, get_or, length, slice_get, subst}
use Rattle.std.proofs.lemmas.Option.{slice_get-get_or}
use Rattle.attr_rules.specs.declared.kinds.Kind.TheVariants as kinds
use Rattle.attr_rules.specs.Expression.{Null as NullLiteral}
use Rattle.attr_rules.specs.Queries.{Query as Asked}
use Rattle.equation_law.specs.Checked.{IsInstance, of_query}
use Rattle.equation_law.specs.Names.{Query}
use Rattle.equation_law.specs.Program.{Program}
use Rattle.equation_law.specs.declared.system.System.{System}
use Rattle.equation_law.specs.Systems.{program_of}
use Rattle.memo_cells.specs.declared.view.Frame.{Frame}
use Rattle.memo_cells.specs.declared.view.View.{View}
use Rattle.memo_cells.specs.Standing.{IsPassOf}
use Rattle.memo_cells.proofs.Agreeing.{IsOpen, own_open}

-- a query, where none is asked
pub some_query : Asked
some_query = record { body = NullLiteral; kind = kinds.Truth }

-- the query of a number
abbrev pub asked_at : Program → ℕ → Asked
asked_at p q = get_or p.queries q some_query

pub asked_there : (p : Program) (q : ℕ) → q < length p.queries → slice_get p.queries q ≡ Some (asked_at p q)
asked_there p q within = slice_get-get_or p.queries q some_query within

pub query_instance : (p : Program) (q : ℕ) → q < length p.queries → IsInstance p (Query q)
query_instance p q within = of_query (asked_at p q) (asked_there p q within)

-- some naming agrees with a pass of cells of a system
pub open_after : (s : System) (f : Frame) (v : View) → f.system.value ≡ s → IsPassOf f v → IsOpen (program_of s) v.made
open_after s f v same own = subst (λ (t : System). IsOpen (program_of t) v.made) same (own_open f v [] own)
