-- What the words of the table stand for.
use Rattle.std.specs.Prelude.{◌≡◌, ◌≢◌, ◌↔◌, ℕ, true, false, ◌+◌, ◌*◌, ◌<◌, ◌≤◌, ◌^◌, ◌⊎◌, List, [], Some}
use Rattle.std.specs.Int.{bit_at}
use Rattle.solutions.specs.Asking.{Ends, Meets}
use Rattle.solutions.specs.Leading.{Holds, IsLower, Mixed, Read}
use Rattle.solutions.specs.Rounds.{is_in}
use Rattle.attr_rules.specs.declared.kinds.Kind.TheVariants as kinds
use Rattle.attr_rules.specs.Rules.{is_single}
use Rattle.attr_rules.specs.Types.{truth_kind}
use Rattle.equation_law.specs.declared.coding.Instance.{Instance as CodedInstance}
use Rattle.equation_law.specs.declared.system.System.{System}
use Rattle.equation_law.specs.Checked.{HasSourcesAlone, IsInstance}
use Rattle.equation_law.specs.Codes.{IsSmall}
use Rattle.equation_law.specs.Equations.{HasValue, equations_of, kind_in}
use Rattle.equation_law.specs.Loops.{fits_in, join_in, order_in}
use Rattle.equation_law.specs.Names.{Instance}
use Rattle.equation_law.specs.Orders.{FitsKind}
use Rattle.equation_law.specs.Program.{Program}
use Rattle.equation_law.specs.Systems.{program_of}
use Rattle.equation_law.specs.Values.{Value, as_kind, truth}
use Rattle.made_trees.specs.Makers.{AreTrees, Trees}
use Rattle.memo_cells.specs.declared.view.Frame.{Frame}
use Rattle.memo_cells.specs.declared.view.View.{View}
use Rattle.memo_cells.specs.Agreeing.{HasCodeAt, HaveCodesAt, IsElementAt, IsKnownCode, IsValueCodeAt}
use Rattle.memo_cells.specs.Naming.{IsCellOf, IsFormed, IsNamed, IsWordOf, StandsFor}
use Rattle.memo_cells.specs.Showing.{IsWordSeen, ShowsAtLeast, ShowsAtMost, ShowsCode, ShowsTrue}
use Rattle.memo_cells.specs.Views.{Has, IsFull, IsNowhere, bits_from, first_view, keys_from, knows_all, places_from, times, values_from, word_at}
use Rattle.memo_cells.specs.Words.{AreOrdered}

-- the cell of i is seen settled
pub record Knows (p : Program) (v : View) (i : Instance) : Type 0 where
  pub key : ℕ
  pub stands : StandsFor p v key i
  pub slot : ℕ
  pub code : ℕ
  pub settled : Has v.values (slot, key, code)

-- c is the code of the value that i has in the solution, and the pass knows it; that of a set is 0, and its elements have codes
pub record IsCodeOf (p : Program) (ms : List CodedInstance) (i : Instance) (c : ℕ) : Type 0 where
  pub value : Value
  pub has : HasValue p i value
  pub coded : is_single (kind_in p i) ≡ true → IsValueCodeAt p ms (kind_in p i) c (as_kind (kind_in p i) value)
  pub small : IsSmall (kind_in p i) c
  pub fits : c < 2 ^ 32
  pub known : IsKnownCode ms (kind_in p i) c
  pub elements : HaveCodesAt p ms (kind_in p i) value

-- the words show x of i, or i is seen settled, and x is its value
abbrev pub IsShown : Program → View → Instance → Value → Type 0
IsShown p v i x = ShowsAtLeast p v i (kind_in p i) x ⊎ (Knows p v i × HasValue p i x)

-- these values of the circular instances are at most what the words show, or theirs where they are seen settled
abbrev pub AreShown : Program → View → (Instance → Value) → Type 0
AreShown p v B = (j : Instance) → (equations_of p).circular j ≡ true → FitsKind (kind_in p j) (B j) × IsShown p v j (B j)

-- x is the w-th word of the value of i, if that is a set, by the codes that the pass knows, and tells a truth value
pub record IsWordOfValue (p : Program) (ms : List CodedInstance) (i : Instance) (w x : ℕ) : Type 0 where
  pub value : Value
  pub has : HasValue p i value
  pub bits : is_single (kind_in p i) ≡ false → (b : ℕ) → b < 64 → IsElementAt p ms (kind_in p i) (64 * w + b) → (bit_at x b ≡ 1) ↔ HasCodeAt p ms (kind_in p i) value (64 * w + b)
  pub tells : kind_in p i ≡ kinds.Truth → (x ≡ 1) ↔ (truth value ≡ true)

-- where k is the key of the w-th word of a set that is seen settled, x is that word of its value
abbrev pub IsValueWord : Program → View → ℕ → ℕ → Type 0
IsValueWord p v k x = (i : Instance) (w : ℕ) → IsWordOf p v k i w → is_single (kind_in p i) ≡ false → Knows p v i → IsWordOfValue p v.made i w x

-- The key isn't seen claimed; where it is that of a word of a set that is seen settled, no element of its value lies there.
pub record IsMissing (p : Program) (v : View) (k : ℕ) : Type 0 where
  pub nowhere : IsNowhere v k
  pub word : IsValueWord p v k 0

-- the cell of i has still to be sealed, and the words show the value of i
pub record IsNoted (p : Program) (v : View) (i : Instance) : Type 0 where
  pub slot : ℕ
  pub left : Has v.to_seal slot
  pub key : ℕ
  pub there : Has v.keys (slot, key)
  pub stands : StandsFor p v key i
  pub value : Value
  pub has : HasValue p i value
  pub shown : ShowsAtLeast p v i (kind_in p i) value

-- where i is settled and demands j, j is seen settled, or noted, both of them circular
abbrev pub IsSafe : Program → View → Instance → Instance → Type 0
IsSafe p v i j = Knows p v j ⊎ ((equations_of p).circular i ≡ true × (equations_of p).circular j ≡ true × IsNoted p v j)

-- k stands for an instance of the program, c is the code of its value, the words of a set show it, and all that this demands is safe for it
pub record IsSettledBy (p : Program) (v : View) (safe : Instance → Instance → Type 0) (k c : ℕ) : Type 0 where
  pub of : Instance
  pub instance : IsInstance p of
  pub stands : StandsFor p v k of
  pub code : IsCodeOf p v.made of c
  pub shown : is_single (kind_in p of) ≡ false → ShowsAtLeast p v of (kind_in p of) code.value
  pub closed : (j : Instance) → Meets (HasValue p) ((equations_of p).equation of) j → safe of j

-- the same of what is settled in the words, where some slots may still be left to seal
abbrev pub IsSettled : Program → View → ℕ → ℕ → Type 0
IsSettled p v k c = IsSettledBy p v (IsSafe p v) k c

-- T gives the circular instances values at most those that a rising list reaches
abbrev pub IsLowerOf : Program → (Instance → Value) → Type 0
IsLowerOf p T = IsLower (equations_of p) (order_in p) (fits_in p) (join_in p) T

-- What the words show of circular instances is at most the values of one lower assignment, and of a set they show elements. What they show of an undeclared set is part of
-- its value, and nothing where it has none; an undeclared truth value that they show is true. The value of a circular instance that is seen settled is at most that of the
-- assignment.
pub record AreApproximations (p : Program) (v : View) : Type 0 where
  pub values : Instance → Value
  pub lower : IsLowerOf p values
  pub circular : (i : Instance) → (equations_of p).circular i ≡ true → ShowsAtMost p v i (kind_in p i) (values i)
  pub codes : (i : Instance) (c : ℕ) → ShowsCode p v i c → IsElementAt p v.made (kind_in p i) c
  pub undeclared : (i : Instance) (c : ℕ) → (equations_of p).circular i ≡ false → ShowsCode p v i c → (x : Value) × HasValue p i x × HasCodeAt p v.made (kind_in p i) x c
  pub truths : (i : Instance) → (equations_of p).circular i ≡ false → kind_in p i ≡ kinds.Truth → ShowsTrue p v i → (x : Value) × HasValue p i x × (truth x ≡ true)
  pub final : (i : Instance) → (equations_of p).circular i ≡ true → Knows p v i → (x : Value) → HasValue p i x → order_in p i x (values i)

-- the trees that a pass of these cells knows
abbrev pub trees_of : Frame → List CodedInstance → Trees
trees_of f ms = record { system = f.system.value; makers = ms }

-- A pass of these cells that has these slots still to seal: what it knows stands in one table, where a place has one key and a key one place. A key
-- whose way is seen claimed stands for an instance, and what is settled codes the value of each instance that its key stands for. What the words show
-- are approximations, and where other keys have all the cells than one of a word of a settled set, its value has nothing there. One that has the whole
-- share claimed all that it knows. The program makes nothing.
pub record IsSeatOf (f : Frame) (v : View) (left : List ℕ) : Type 0 where
  pub table : v.table ≡ f.table
  pub frame : v.frame ≡ Some f
  pub few : f.cells ≤ 4194304
  pub bare : HasSourcesAlone (program_of f.system.value)
  pub nothing : v.made ≡ []
  pub trees : AreTrees (trees_of f v.made)
  pub within : (p k : ℕ) → Has v.keys (p, k) → p < f.cells
  pub one_key : (p j k : ℕ) → Has v.keys (p, j) → Has v.keys (p, k) → j ≡ k
  pub one_place : (p q k : ℕ) → Has v.keys (p, k) → Has v.keys (q, k) → p ≡ q
  pub named : (s k a n : ℕ) (cs : List ℕ) → Has v.keys (s, k) → IsNamed v k a n cs → (i : Instance) × StandsFor (program_of f.system.value) v k i
  pub valued : (p k c : ℕ) → Has v.values (p, k, c) → Has v.keys (p, k)
  pub coded : (p k c : ℕ) → Has v.values (p, k, c) → (i : Instance) → StandsFor (program_of f.system.value) v k i → IsCodeOf (program_of f.system.value) v.made i c
  pub keyed : (p k n : ℕ) → Has v.bits (p, k, n) → Has v.keys (p, k)
  pub approximations : AreApproximations (program_of f.system.value) v
  pub full : (k : ℕ) → IsFull f v k → IsValueWord (program_of f.system.value) v k 0
  pub whole : v.share ≡ 2 ^ 62 → (p k : ℕ) → Has v.keys (p, k) → times p v.claims ≢ 0
  pub to_seal : v.to_seal ≡ left

-- one that has nothing left to seal
abbrev pub IsPassOf : Frame → View → Type 0
IsPassOf f v = IsSeatOf f v []

-- the cells of a system and their first pass
pub record AreNew (kept : System) (count : ℕ) (f : Frame) (v : View) : Type 0 where
  pub system : f.system.value ≡ kept
  pub cells : f.cells ≡ count
  pub first : v ≡ first_view f
  pub own : IsPassOf f v

-- the code is that of the value of what stands at this place, which is no circular instance, and all that this demands is known as settled
pub record MaySettle (p : Program) (v : View) (place code : ℕ) : Type 0 where
  pub key : ℕ
  pub here : Has v.keys (place, key)
  pub settled : IsSettledBy p v (λ i j. Knows p v j) key code
  pub undeclared : (equations_of p).circular settled.of ≡ false

-- The equation of i comes to x under values of the circular instances that are at most what the words show, and the values of the others.
pub record ComesTo (p : Program) (v : View) (i : Instance) (x : Value) : Type 0 where
  pub below : Instance → Value
  pub shown : AreShown p v below
  pub demands : List Instance
  pub ends : Ends (Mixed (equations_of p) below) ((equations_of p).equation i) x demands

-- x is such a value of a circular instance, or the value of an undeclared one
abbrev pub MayShow : Program → View → Instance → Value → Type 0
MayShow p v i x = ((equations_of p).circular i ≡ true × ComesTo p v i x) ⊎ ((equations_of p).circular i ≡ false × HasValue p i x)

-- each of these bits stands for an element of the value x of i, in the w-th word of its set
abbrev pub AreElementsOf : Program → List CodedInstance → Instance → Value → ℕ → ℕ → Type 0
AreElementsOf p ms i x w bits = (b : ℕ) → b < 64 → bit_at bits b ≡ 1 → IsElementAt p ms (kind_in p i) (64 * w + b) × HasCodeAt p ms (kind_in p i) x (64 * w + b)

-- these bits may be set in the w-th word of the set of what stands at this place
pub record MayRaiseSet (p : Program) (v : View) (place w bits : ℕ) : Type 0 where
  pub of : Instance
  pub key : ℕ
  pub here : Has v.keys (place, key)
  pub stands : StandsFor p v key of
  pub instance : IsInstance p of
  pub value : Value
  pub may : MayShow p v of value
  pub elements : AreElementsOf p v.made of value w bits

-- the same of the key of the word
pub record MayAdd (p : Program) (v : View) (place bits : ℕ) : Type 0 where
  pub of : Instance
  pub key : ℕ
  pub word : ℕ
  pub here : Has v.keys (place, key)
  pub is : IsWordOf p v key of word
  pub value : Value
  pub may : MayShow p v of value
  pub elements : AreElementsOf p v.made of value word bits

-- a circular instance stands here that may be true
pub record MayRaiseTruth (p : Program) (v : View) (place : ℕ) : Type 0 where
  pub of : Instance
  pub key : ℕ
  pub here : Has v.keys (place, key)
  pub stands : StandsFor p v key of
  pub is_circular : (equations_of p).circular of ≡ true
  pub kind : kind_in p of ≡ kinds.Truth
  pub value : Value
  pub comes : ComesTo p v of value
  pub is_true : truth value ≡ true

-- these bits may be raised in the w-th word of what stands at this place
abbrev pub MayRaise : Program → View → ℕ → ℕ → ℕ → Type 0
MayRaise p v place w bits = (MayRaiseTruth p v place × (w ≡ 0) × (bits ≡ 1)) ⊎ MayRaiseSet p v place w bits

-- x is the w-th word of what is shown of the instance at this place, and has these bits
pub record HasWord (p : Program) (f : Frame) (v : View) (place w bits x : ℕ) : Type 0 where
  pub seen : (i : Instance) → IsCellOf p f v i place → IsWordSeen p v i (kind_in p i) w x
  pub added : (b : ℕ) → bit_at bits b ≡ 1 → bit_at x b ≡ 1

-- x is the w-th word of what is shown of what has its cell at this place
abbrev pub ShowsWord : Frame → View → ℕ → ℕ → ℕ → Type 0
ShowsWord f v place w x = (i : Instance) → IsCellOf (program_of f.system.value) f v i place → IsWordSeen (program_of f.system.value) v i (kind_in (program_of f.system.value) i) w x

-- the same, if that is a set
abbrev pub ShowsWordOfSet : Frame → View → ℕ → ℕ → ℕ → Type 0
ShowsWordOfSet f v place w x = (i : Instance) → IsCellOf (program_of f.system.value) f v i place → is_single (kind_in (program_of f.system.value) i) ≡ false → IsWordSeen (program_of f.system.value) v i (kind_in (program_of f.system.value) i) w x

-- what has its cell at this place is a set
abbrev pub IsOfSet : Frame → View → ℕ → Type 0
IsOfSet f v place = (i : Instance) → IsCellOf (program_of f.system.value) f v i place → is_single (kind_in (program_of f.system.value) i) ≡ false

-- what a call claimed is for a set: where a truth value has its cell at this place, it claimed nothing
abbrev pub ClaimsForSet : Frame → View → View → ℕ → Type 0
ClaimsForSet f v w place = (i : Instance) → IsCellOf (program_of f.system.value) f w i place → truth_kind (kind_in (program_of f.system.value) i) ≡ true → w.claims ≡ v.claims

-- where it was seen settled, x is that word of its value
abbrev pub HasKnownWordOfSet : Frame → View → View → ℕ → ℕ → ℕ → Type 0
HasKnownWordOfSet f before now place w x = (i : Instance) → IsCellOf (program_of f.system.value) f now i place → is_single (kind_in (program_of f.system.value) i) ≡ false → Knows (program_of f.system.value) before i → IsWordOfValue (program_of f.system.value) before.made i w x

-- where what has its cell at this place was seen settled, x is the w-th word of its value
abbrev pub HasKnownWord : Frame → View → View → ℕ → ℕ → ℕ → Type 0
HasKnownWord f before now place w x = (i : Instance) → IsCellOf (program_of f.system.value) f now i place → Knows (program_of f.system.value) before i → IsWordOfValue (program_of f.system.value) before.made i w x

-- What stands in these slots are circular instances of the program that are closed under values that the words show: what each of their equations reads
-- is the value of one of them, or seen settled, and it comes to at most the value of its own instance.
pub record MaySeal (p : Program) (f : Frame) (v : View) (slots : List ℕ) : Type 0 where
  pub set : List Instance
  pub values : Instance → Value
  pub shown : AreShown p v values
  pub slot_of : (i : Instance) → is_in (equations_of p).same set i ≡ true → (s : ℕ) × Has slots s × IsCellOf p f v i s
  pub stands : (s : ℕ) → Has slots s → (i : Instance) × (is_in (equations_of p).same set i ≡ true) × IsCellOf p f v i s
  pub instances : (i : Instance) → is_in (equations_of p).same set i ≡ true → IsInstance p i
  pub holds : (i : Instance) → is_in (equations_of p).same set i ≡ true → Holds (equations_of p) (order_in p) set values i
  pub known : (i j : Instance) → is_in (equations_of p).same set i ≡ true → Meets (Read (equations_of p) set values) ((equations_of p).equation i) j → (is_in (equations_of p).same set j ≡ true) ⊎ Knows p v j

-- a settled code is final: no value of the lower assignment is above that of a circular instance, so it has that value there
pub record IsFinal (p : Program) (v : View) (T : Instance → Value) (k c : ℕ) : Type 0 where
  pub settled : IsSettled p v k c
  pub lower : (equations_of p).circular settled.of ≡ true → order_in p settled.of settled.code.value (T settled.of)

-- k stands for a circular instance that T makes true
pub record IsRaised (p : Program) (v : View) (T : Instance → Value) (k : ℕ) : Type 0 where
  pub of : Instance
  pub stands : StandsFor p v k of
  pub is_circular : (equations_of p).circular of ≡ true
  pub kind : kind_in p of ≡ kinds.Truth
  pub is_true : truth (T of) ≡ true

-- the element of code c is in the value that T gives a circular i, or in the value of an undeclared one
abbrev pub IsPart : Program → List CodedInstance → (Instance → Value) → Instance → ℕ → Type 0
IsPart p ms T i c = (((equations_of p).circular i ≡ true) × HasCodeAt p ms (kind_in p i) (T i) c) ⊎ (((equations_of p).circular i ≡ false) × ((x : Value) × HasValue p i x × HasCodeAt p ms (kind_in p i) x c))

-- k is the key of a word of a set, and the b-th bit of that word stands for an element of the type that is one
pub record IsElement (p : Program) (v : View) (T : Instance → Value) (k b : ℕ) : Type 0 where
  pub of : Instance
  pub word : ℕ
  pub key : IsWordOf p v k of word
  pub part : IsPart p v.made T of (64 * word + b)
  pub code : IsElementAt p v.made (kind_in p of) (64 * word + b)

-- the words of the cells of a program that makes nothing, if a pass knows all of them and has still to seal these slots
pub record AreWords (f : Frame) (ms : List CodedInstance) (ts ks vs : List ℕ) : Type 0 where
  pub bare : HasSourcesAlone (program_of f.system.value)
  pub nothing : ms ≡ []
  pub trees : AreTrees (trees_of f ms)
  pub values : Instance → Value
  pub lower : IsLowerOf (program_of f.system.value) values
  pub ordered : AreOrdered (IsFormed (program_of f.system.value) (knows_all f ms ts ks vs)) (IsFinal (program_of f.system.value) (knows_all f ms ts ks vs) values) (IsRaised (program_of f.system.value) (knows_all f ms ts ks vs) values) (IsElement (program_of f.system.value) (knows_all f ms ts ks vs) values) f.cells (word_at ks) (word_at vs)

-- All that a pass knows stands in the words of these cells: it has the whole share, and each key that stands there it claimed itself.
pub record IsTold (f : Frame) (ms : List CodedInstance) (ks vs : List ℕ) (v : View) : Type 0 where
  pub table : v.table ≡ f.table
  pub frame : v.frame ≡ Some f
  pub share : v.share ≡ 2 ^ 62
  pub keys : (p k : ℕ) → Has v.keys (p, k) → Has (keys_from 0 ks) (p, k)
  pub values : (p k c : ℕ) → Has v.values (p, k, c) → Has (values_from 0 ks vs) (p, k, c)
  pub bits : (p k n : ℕ) → Has v.bits (p, k, n) → Has (bits_from 0 ks vs) (p, k, n)
  pub valued : (p k c : ℕ) → Has v.values (p, k, c) → Has v.keys (p, k)
  pub keyed : (p k n : ℕ) → Has v.bits (p, k, n) → Has v.keys (p, k)
  pub claims : (p : ℕ) → times p v.claims ≤ times p (places_from 0 ks)
  pub own : (p k : ℕ) → Has (keys_from 0 ks) (p, k) → times p v.claims ≢ 0
  pub to_seal : v.to_seal ≡ []
  pub made : v.made ≡ ms
