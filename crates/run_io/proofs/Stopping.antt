-- Why fetching some files stops, from why fetching one of them stops.
use Rattle.std.proofs.Common.{◌≡◌, ℕ, ◌≤◌, List, ◌∷◌, Option, Some, None, Result, Err, IfErr, sym, ap, subst, arith, ◌∙◌}
use Rattle.std.specs.Result.{IsErr, IsErrAnd}
use Rattle.std.proofs.lemmas.Result.{err_from_is_err_and}
use Rattle.rag_io.specs.Outside.{Named, IsShort, Rose}
use Rattle.run_io.specs.declared.fetching.Stop.{Stop}
use Rattle.run_io.specs.declared.fetching.Stop.TheVariants as stops
use Rattle.run_io.specs.Fetched.{Holds, LongWhereTold, FirstLongWhereTold, StopsOne, StopsAll}
use Rattle.run_io.specs.Holding.{here, later as behind}

-- an error that `?` hands on
pub handed_on : {T E : Type 0} (r : Result T E) {e : E} (P : E → Type 0) → IsErr r × IsErrAnd r (λ m. m ≡ e) → P e → IfErr r P
handed_on r P h p = let q = err_from_is_err_and r h.1 in subst (λ x. IfErr x P) (sym (q.1 ∙ ap Err q.2)) p

rose_from : (before mid now : ℕ) → before ≤ mid → Rose mid now → Rose before now
rose_from before mid now le rose = omega arith

pub stops_all : (files : Option (List Named)) (names : List (List ℕ)) (name : List ℕ) (before mid now : ℕ) (stop : Stop) → before ≤ mid
    → (LongWhereTold files name → FirstLongWhereTold files names name) → StopsOne files name mid now stop → StopsAll files names before now stop
stops_all files names name before mid now stops.Failed le first cause = rose_from before mid now le cause
stops_all files names name before mid now (stops.TooLong found) le first cause = subst (λ (n : List ℕ). FirstLongWhereTold files names n) (sym cause.1) (first cause.0)
stops_all files names name before mid now stops.Memory le first cause = tt

-- the shelf still tells the same files
pub stops_same : (files later : Option (List Named)) (name : List ℕ) (mid now : ℕ) (stop : Stop) → later ≡ files → StopsOne later name mid now stop → StopsOne files name mid now stop
stops_same files later name mid now stop e cause = subst (λ (f : Option (List Named)). StopsOne f name mid now stop) e cause

pub holds_same : (files later : Option (List Named)) (name bytes : List ℕ) → later ≡ files → Holds later name bytes → Holds files name bytes
holds_same files later name bytes e held = subst (λ (f : Option (List Named)). Holds f name bytes) e held

-- a file that was fetched is short enough
short : (files : List Named) (name bytes : List ℕ) → Holds (Some files) name bytes → IsShort files name
short files name bytes h = record { bytes = bytes; held = h.held; fits = h.fits }

-- the first file is too long
pub first_is_long : (files : Option (List Named)) (name : List ℕ) (more : List (List ℕ)) → LongWhereTold files name → FirstLongWhereTold files (name ∷ more) name
first_is_long None name more long = tt
first_is_long (Some files) name more long = here long

-- the first was fetched, and of the others one is the first that is too long
pub later_is_long : (files : Option (List Named)) (name bytes : List ℕ) (more : List (List ℕ)) (found : List ℕ) → Holds files name bytes → FirstLongWhereTold files more found → FirstLongWhereTold files (name ∷ more) found
later_is_long None name bytes more found held long = tt
later_is_long (Some files) name bytes more found held long = behind (short files name bytes held) long
