-- How one that waits is kept in few bytes.
use Rattle.std.specs.Prelude.{List, None, map}
use Rattle.equation_law.specs.declared.coding.Instance.{Instance as CodedInstance}
use Rattle.caller_pass.specs.declared.waiting.Packed.{Packed}
use Rattle.caller_pass.specs.declared.waiting.Packed.TheVariants.{Bare, Laden}
use Rattle.caller_pass.specs.declared.waiting.Waiter.{Waiter}

-- the one that was packed: a bare one has no local set, and nothing was left behind
abbrev pub unpacked : Packed → Waiter
unpacked (Bare s) = record { slot = s; way = None; left = None }
unpacked (Laden s b) = record { slot = s; way = b.value.way; left = b.value.left }

abbrev pub unpacked_entry : CodedInstance × Packed → CodedInstance × Waiter
unpacked_entry e = (e.0, unpacked e.1)

-- all that were packed, each with its instance
abbrev pub all_unpacked : List (CodedInstance × Packed) → List (CodedInstance × Waiter)
all_unpacked es = map unpacked_entry es

-- it has nothing on the heap
abbrev pub IsBare : Packed → Type 0
IsBare (Bare s) = Unit {0}
IsBare (Laden s b) = ⊥
