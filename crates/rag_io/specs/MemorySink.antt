-- What a sink in memory took, and which puts fail.
use Rattle.std.specs.Prelude.{ℕ, ◌≤◌, ◌-◌, min, List, [], ◌∷◌, ◌++◌, length, take, nat_eq, nat_lt, Bool, ◌||◌, if◌then◌else◌, Option, Some, None, is_some, unwrap_or}
use Rattle.rag_io.specs.Outside.{one_fault_more}
use Rattle.rag_io.specs.MemoryShelf.{last_call, next_call}

-- The bytes taken, how many there is room for, the calls that are to fail with the number of bytes after which they do, and how many
-- calls and how many faults there were.
pub record SinkState : Type 0 where
  pub bytes : List ℕ
  pub room : ℕ
  pub fails : List (ℕ × ℕ)
  pub calls : ℕ
  pub faults : ℕ

-- The bytes taken are within the room, for which memory is reserved, and the number of calls is one that is kept.
pub record HasRoom (taken room reserved calls : ℕ) : Type 0 where
  pub within : taken ≤ room
  pub kept : room ≤ reserved
  pub counted : calls ≤ last_call

-- after how many bytes a call is to fail
abbrev pub stop_of : List (ℕ × ℕ) → ℕ → Option ℕ
stop_of [] call = None
stop_of (fail ∷ fails) call = if nat_eq fail.0 call then Some fail.1 else stop_of fails call

-- how many bytes of a piece the next put takes
abbrev pub taken_of : SinkState → List ℕ → ℕ
taken_of sink piece = min (min (unwrap_or (stop_of sink.fails sink.calls) (length piece)) (length piece)) (sink.room - length sink.bytes)

-- the next put of the piece fails: it is to fail, or the piece doesn't fit
abbrev pub fails_at : SinkState → List ℕ → Bool
fails_at sink piece = nat_lt (taken_of sink piece) (length piece) || is_some (stop_of sink.fails sink.calls)

-- the sink after a put of the piece
abbrev pub after_put : SinkState → List ℕ → SinkState
after_put sink piece = record {
  bytes = sink.bytes ++ take (taken_of sink piece) piece;
  room = sink.room;
  fails = sink.fails;
  calls = next_call sink.calls;
  faults = if fails_at sink piece then one_fault_more sink.faults else sink.faults;
}
