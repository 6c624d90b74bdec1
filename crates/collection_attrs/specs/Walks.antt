-- The walk over what is offered to a collection in the subtree of a root, shared by the collection's instances at all nodes, and how far one of
-- them has gone in it.
use Rattle.std.specs.Prelude.{◌≡◌, ◌≢◌, ◌⊎◌, ℕ, suc, ◌+◌, ◌^◌, ◌<◌, ◌≤◌, true, false, List, [], ◌∷◌, ◌++◌, Option, Some, None, length, slice_get, take}
use Rattle.solutions.specs.Asking.{Ends, Halts}
use Rattle.attr_rules.specs.Rules.{Contribution}
use Rattle.tree_arena.specs.Nodes.{end_in}
use Rattle.equation_law.specs.declared.coding.Instance.{Instance as CodedInstance}
use Rattle.equation_law.specs.Codes.{Naming, instance_by, reference_by}
use Rattle.equation_law.specs.Collections.{Collection, Offer, fresh, offer_place}
use Rattle.equation_law.specs.Equations.{is_offered, offers_below, world_of}
use Rattle.equation_law.specs.Meaning.{meaning_of}
use Rattle.equation_law.specs.Names.{Instance, Reference}
use Rattle.equation_law.specs.Program.{Program}
use Rattle.equation_law.specs.Reading.{ByEachIn, Told}
use Rattle.equation_law.specs.Values.{Value, truth}
use Rattle.collection_attrs.specs.Passed.{ArePassed, Comes, Kept, kept, offers_before}

-- an offer whose condition is true: its node, its contribution by its place in the file, and the code of its receiver
pub record Noted : Type 0 where
  pub node : ℕ
  pub contribution : ℕ
  pub receiver : ℕ

-- A walk for an attribute in the subtree of a root: the node and the contribution before which it stands, and the offers that it noted.
pub record Walk : Type 0 where
  pub attribute : ℕ
  pub root : ℕ
  pub node : ℕ
  pub contribution : ℕ
  pub notes : List Noted

-- a walk that begins
abbrev pub new_walk : ℕ → ℕ → Walk
new_walk a r = record { attribute = a; root = r; node = r; contribution = 0; notes = [] }

-- the notes of a walk, and the offer before which it stands, where there is a receiver, by its code, for which this is noted
abbrev pub with_note : Walk → Option ℕ → List Noted
with_note w None = w.notes
with_note w (Some r) = w.notes ++ record { node = w.node; contribution = w.contribution; receiver = r } ∷ []

-- the walk behind the contribution before which it stands, which it has noted where there is a receiver
abbrev pub one_further : Walk → Option ℕ → Walk
one_further w r = record { attribute = w.attribute; root = w.root; node = w.node; contribution = w.contribution + 1; notes = with_note w r }

-- by a naming, this is the offer that is noted
pub record IsNote (p : Program) (names : Naming) (n : Noted) (k : Kept) : Type 0 where
  pub contribution : slice_get p.rules.contributions n.contribution ≡ Some k.offer.contribution
  pub node : n.node ≡ k.offer.node
  pub receiver : reference_by names.node n.receiver ≡ k.receiver

abbrev pub AreNotes : Program → Naming → List Noted → List Kept → Type 0
AreNotes p names [] [] = Unit {0}
AreNotes p names [] (k ∷ ks) = ⊥
AreNotes p names (n ∷ ns) [] = ⊥
AreNotes p names (n ∷ ns) (k ∷ ks) = IsNote p names n k × AreNotes p names ns ks

-- what has been passed where a walk stands
abbrev pub passed_by : Program → Walk → List Offer
passed_by p w = offers_before p w.attribute w.root w.node w.contribution

-- A walk stands at a node of the subtree of its root, before one of the contributions or behind all of them, or at the end of the subtree.
pub record IsStanding (p : Program) (w : Walk) : Type 0 where
  pub inside : w.root < length p.tree
  pub from : w.root ≤ w.node
  pub to : w.node ≤ end_in p.tree w.root
  pub within : w.contribution ≤ length p.rules.contributions
  pub ended : w.node ≡ end_in p.tree w.root → w.contribution ≡ 0

-- By a naming, all that a walk has passed is as these values say: it noted the offers whose condition is true, with their receivers, and the
-- condition of each other one is false.
pub record HasPassed (p : Program) (A : Instance → Value → Type 0) (names : Naming) (w : Walk) : Type 0 where
  pub receivers : List (Option Reference)
  pub passed : ArePassed p A (passed_by p w) receivers
  pub noted : AreNotes p names w.notes (kept (passed_by p w) receivers)

-- a note of one of the contributions, at a node of the tree, whose code has 32 bits
pub record IsNotable (p : Program) (n : Noted) : Type 0 where
  pub few : n.node + 1 < 2 ^ 32
  pub within : n.node < length p.tree
  pub known : n.contribution < length p.rules.contributions

-- so it is by what a reader has, by each naming by which the reader may be read, and the reader knows the receivers
pub record IsWalk {S : Type 0} (p : Program) (t : Told S) (w : Walk) : Type 0 where
  pub stands : IsStanding p w
  pub notable : (k : ℕ) (n : Noted) → slice_get w.notes k ≡ Some n → IsNotable p n
  pub known : (k : ℕ) (n : Noted) → slice_get w.notes k ≡ Some n → t.knows n.receiver
  pub passed : ByEachIn t (λ names. HasPassed p t.has names w)

-- the collection of an instance whose root is that of the walk
abbrev pub IsFor : Program → Walk → Collection → Type 0
IsFor p w c = c.offers ≡ offers_below p w.attribute (Some w.root)

-- By a naming, a collection has gone over the first notes of a walk, as many as `taken`, and this is the value that comes of them.
pub record IsSurvey (p : Program) (A : Instance → Value → Type 0) (names : Naming) (w : Walk) (c : Collection) (taken : ℕ) (so_far : Value) : Type 0 where
  pub within : taken ≤ length w.notes
  pub kept : List Kept
  pub notes : AreNotes p names (take taken w.notes) kept
  pub comes : Comes p A c (fresh c.method c.kind) kept so_far

-- a walk stands before a contribution that is offered at its node
pub record IsOfferedAt (p : Program) (w : Walk) : Type 0 where
  pub contribution : Contribution
  pub is : slice_get p.rules.contributions w.contribution ≡ Some contribution
  pub offered : is_offered p w.attribute w.node contribution ≡ true

-- this offer, by its node and its contribution, is the one before which a walk stands, in front of the end of the subtree
abbrev pub StandsBefore : Program → Walk → ℕ × ℕ → Type 0
StandsBefore p w at = (at.0 ≡ w.node) × (at.1 ≡ w.contribution) × (w.node < end_in p.tree w.root) × IsOfferedAt p w

-- no contribution from one on and before another is offered to an attribute at a node
abbrev pub NoneOffered : Program → ℕ → ℕ → ℕ → ℕ → Type 0
NoneOffered p a node from to = (k : ℕ) (c : Contribution) → from ≤ k → k < to → slice_get p.rules.contributions k ≡ Some c → is_offered p a node c ≡ false

-- from one on, this contribution is the first that is offered to an attribute at a node
abbrev pub IsFirstOffered : Program → ℕ → ℕ → ℕ → ℕ → Type 0
IsFirstOffered p a node from k = (from ≤ k) × (c : Contribution) × (slice_get p.rules.contributions k ≡ Some c) × (is_offered p a node c ≡ true) × NoneOffered p a node from k

-- From a contribution at a node on, none is offered before another place: what stands before that is what stands before the first place, in the
-- subtree of any root from which the first node is reached.
abbrev pub NoneBetween : Program → ℕ → ℕ → ℕ → ℕ → ℕ → Type 0
NoneBetween p a from first node k = (root : ℕ) → root ≤ from → offers_before p a root node k ≡ offers_before p a root from first

-- From a contribution at a node on, the next that is offered before the end of a subtree is this one, at this node.
pub record IsNext (p : Program) (a from first end node k : ℕ) : Type 0 where
  pub after : from ≤ node
  pub before : node < end
  pub contribution : Contribution
  pub is : slice_get p.rules.contributions k ≡ Some contribution
  pub offered : is_offered p a node contribution ≡ true
  pub same : NoneBetween p a from first node k

-- An offer is stuck at a demand that has no value: its condition is, or the condition is true, and its receiver is.
pub data IsOfferStuck (p : Program) (A : Instance → Value → Type 0) (o : Offer) (j : Instance) : Type 0 where
  condition : {demands : List Instance} → Halts A (meaning_of (world_of p) o.contribution.condition (offer_place o)) j demands → IsOfferStuck p A o j
  receiver : {b : Value} {demands more : List Instance} → Ends A (meaning_of (world_of p) o.contribution.condition (offer_place o)) b demands → truth b ≡ true
      → Halts A (meaning_of (world_of p) o.contribution.receiver (offer_place o)) j more → IsOfferStuck p A o j

-- a walk stands before an offer that is stuck, by each naming by which the reader may be read
pub record IsStuck {S : Type 0} (p : Program) (t : Told S) (w : Walk) (j : CodedInstance) : Type 0 where
  pub before : w.node < end_in p.tree w.root
  pub is : IsOfferedAt p w
  pub stuck : ByEachIn t (λ names. IsOfferStuck p t.has (record { contribution = is.contribution; node = w.node }) (instance_by p names j))

-- From a place on, the first note with a receiver, by its code, stands at this place; where there is none, no note from there on has it.
pub record IsFirstFor (ns : List Noted) (r : ℕ) (from place : ℕ) : Type 0 where
  pub after : from ≤ place
  pub note : Noted
  pub is : slice_get ns place ≡ Some note
  pub has : note.receiver ≡ r
  pub between : (i : ℕ) (n : Noted) → from ≤ i → i < place → slice_get ns i ≡ Some n → n.receiver ≢ r

abbrev pub NoneFrom : List Noted → ℕ → ℕ → Type 0
NoneFrom ns r from = (i : ℕ) (n : Noted) → from ≤ i → slice_get ns i ≡ Some n → n.receiver ≢ r

-- a place stands behind a note with a receiver
abbrev pub IsBehind : List Noted → ℕ → ℕ → Type 0
IsBehind ns r from = (k : ℕ) × (n : Noted) × (suc k ≡ from) × (slice_get ns k ≡ Some n) × (n.receiver ≡ r)

-- it is the first place, or stands behind such a note
abbrev pub MayGoOn : List Noted → ℕ → ℕ → Type 0
MayGoOn ns r from = (from ≡ 0) ⊎ IsBehind ns r from

-- Where the notes with a receiver are a ring: from a place on, the next of them stands at this place. That is the first from there on, or where there
-- is none, the first of all.
pub data IsNextFor (ns : List Noted) (r : ℕ) (from place : ℕ) : Type 0 where
  behind : IsFirstFor ns r from place → IsNextFor ns r from place
  round : NoneFrom ns r from → IsFirstFor ns r 0 place → IsNextFor ns r from place
