-- What the words of the table show of the value of an instance.
use Rattle.std.specs.Prelude.{◌≡◌, ◌↔◌, ℕ, true, ◌+◌, ◌*◌, ◌/◌, ◌%◌, ◌<◌, ◌≤◌, List}
use Rattle.std.specs.Int.{bit_at}
use Rattle.attr_rules.specs.declared.kinds.Kind.{Kind}
use Rattle.attr_rules.specs.declared.kinds.Kind.TheVariants as kinds
use Rattle.equation_law.specs.Names.{At, Instance, NodeName}
use Rattle.equation_law.specs.Program.{Program, text_of}
use Rattle.equation_law.specs.Sets.{has}
use Rattle.equation_law.specs.Values.{Value, nodes, texts, truth}
use Rattle.memo_cells.specs.declared.view.View.{View}
use Rattle.memo_cells.specs.Agreeing.{HasCodeAt, IsReferenceAt}
use Rattle.memo_cells.specs.Naming.{IsWordOf, StandsFor}
use Rattle.memo_cells.specs.Views.{Has}

-- the cell of i shows true
abbrev pub ShowsTrue : Program → View → Instance → Type 0
ShowsTrue p v i = (k s : ℕ) × StandsFor p v k i × Has v.bits (s, k, 0)

-- the words of the set of i show the element of code c
abbrev pub ShowsCode : Program → View → Instance → ℕ → Type 0
ShowsCode p v i c = (k s : ℕ) × IsWordOf p v k i (c / 64) × Has v.bits (s, k, c % 64)

-- what the words show of i, read at a type, is at most x
abbrev pub ShowsAtMost : Program → View → Instance → Kind → Value → Type 0
ShowsAtMost p v i kinds.Truth x = ShowsTrue p v i → truth x ≡ true
ShowsAtMost p v i kinds.Int x = Unit {0}
ShowsAtMost p v i kinds.Text x = Unit {0}
ShowsAtMost p v i (kinds.Node d) x = Unit {0}
ShowsAtMost p v i kinds.Texts x = (c : ℕ) → ShowsCode p v i c → HasCodeAt p v.made kinds.Texts x c
ShowsAtMost p v i (kinds.Nodes d) x = (c : ℕ) → ShowsCode p v i c → HasCodeAt p v.made (kinds.Nodes d) x c

-- x is at most what they show
abbrev pub ShowsAtLeast : Program → View → Instance → Kind → Value → Type 0
ShowsAtLeast p v i kinds.Truth x = truth x ≡ true → ShowsTrue p v i
ShowsAtLeast p v i kinds.Int x = Unit {0}
ShowsAtLeast p v i kinds.Text x = Unit {0}
ShowsAtLeast p v i (kinds.Node d) x = Unit {0}
ShowsAtLeast p v i kinds.Texts x = (t : List ℕ) → has (texts x) t ≡ true → (c : ℕ) × (text_of p c ≡ t) × ShowsCode p v i c
ShowsAtLeast p v i (kinds.Nodes d) x = (n : NodeName) → has (nodes x) n ≡ true → (c : ℕ) × IsReferenceAt p v.made c (At n) × ShowsCode p v i c

-- x is the w-th word of what the words show of i, read at a type
abbrev pub IsWordSeen : Program → View → Instance → Kind → ℕ → ℕ → Type 0
IsWordSeen p v i kinds.Truth w x = (x ≤ 1) × ((x ≡ 1) ↔ ShowsTrue p v i)
IsWordSeen p v i kinds.Int w x = Unit {0}
IsWordSeen p v i kinds.Text w x = Unit {0}
IsWordSeen p v i (kinds.Node d) w x = Unit {0}
IsWordSeen p v i kinds.Texts w x = (b : ℕ) → b < 64 → (bit_at x b ≡ 1) ↔ ShowsCode p v i (64 * w + b)
IsWordSeen p v i (kinds.Nodes d) w x = (b : ℕ) → b < 64 → (bit_at x b ≡ 1) ↔ ShowsCode p v i (64 * w + b)
