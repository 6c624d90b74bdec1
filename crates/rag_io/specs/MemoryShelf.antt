-- What a shelf in memory holds, and which fetches fail.
use Rattle.std.specs.Prelude.{ℕ, ◌+◌, min, List, nat_eq, if◌then◌else◌, Option, None, String, Vec}
use Rattle.std.specs.List.{list_any}
use Rattle.std.specs.String.{string_bytes}
use Rattle.std.specs.declared.alloc.Global.{Global}
use Rattle.rag_io.specs.Outside.{Named, content_of}

-- a file without where it lies in memory
abbrev pub named : String Global × Vec ℕ Global → Named
named file = (string_bytes file.0, file.1.items)

-- the name alone
abbrev pub name_of : Named → List ℕ
name_of file = file.0

-- the files, the numbers of the calls that are to fail, how many calls and how many faults there were
pub record ShelfState : Type 0 where
  pub files : List Named
  pub fails : List ℕ
  pub calls : ℕ
  pub faults : ℕ

-- the number of calls that is kept stops here
abbrev pub last_call : ℕ
last_call = 4294967296

-- the number of calls after one more
abbrev pub next_call : ℕ → ℕ
next_call call = min (call + 1) last_call

-- the bytes that the next fetch can read: none where it is to fail, or where no file has the name
abbrev pub readable : ShelfState → List ℕ → Option (List ℕ)
readable shelf name = if list_any (λ call. nat_eq call shelf.calls) shelf.fails then None else content_of shelf.files name
