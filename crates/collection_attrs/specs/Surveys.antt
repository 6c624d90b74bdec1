-- Walks and surveys as the code keeps them.
use Rattle.std.specs.Prelude.{◌≡◌, ℕ, suc, Bool, ◌+◌, ◌<◌, ◌≤◌, ◌^◌, ◌++◌, true, List, [], Option, Some, None, length, map, set, slice_get, take}
use Rattle.std.specs.Option.{is_some}
use Rattle.attr_rules.specs.declared.kinds.EqId.{EqId}
use Rattle.attr_rules.specs.declared.kinds.Kind.{Kind}
use Rattle.attr_rules.specs.declared.kinds.Method.{Method}
use Rattle.attr_rules.specs.Expression.{Expression, Truth}
use Rattle.attr_rules.specs.Rules.{Contribution, body_at}
use Rattle.tree_arena.specs.Nodes.{end_in}
use Rattle.equation_law.specs.declared.coding.Instance.{Instance as CodedInstance}
use Rattle.equation_law.specs.declared.coding.Instance.TheVariants as coded_instance
use Rattle.equation_law.specs.declared.coding.NodeRef.{NodeRef}
use Rattle.equation_law.specs.declared.coding.Value.{Value as CodedValue}
use Rattle.equation_law.specs.Codes.{AreElements, ByEachNaming, IsCoded, Naming, instance_by, reference_by, value_by}
use Rattle.equation_law.specs.Collections.{Collection, Offer, combine, fresh}
use Rattle.equation_law.specs.Equations.{collection_of}
use Rattle.equation_law.specs.Names.{At, Attribute, Instance, Reference, Source, same_reference}
use Rattle.equation_law.specs.Program.{Program}
use Rattle.equation_law.specs.Reading.{ByEachIn, KnowsInstance, KnowsValue, Told}
use Rattle.equation_law.specs.Values.{Value}
use Rattle.collection_attrs.specs.declared.collectors.Collector.{Collector}
use Rattle.collection_attrs.specs.declared.linking.Entry.{Entry}
use Rattle.collection_attrs.specs.declared.passing.Passage.{Passage}
use Rattle.collection_attrs.specs.declared.passing.Passage.TheVariants as passages
use Rattle.collection_attrs.specs.declared.surveys.Survey.{Survey}
use Rattle.collection_attrs.specs.declared.weighing.Weighed.{Weighed}
use Rattle.collection_attrs.specs.declared.weighing.Weighed.TheVariants as weighings
use Rattle.collection_attrs.specs.Passed.{ArePassed, Comes, IsPassed, Kept, kept}
use Rattle.collection_attrs.specs.Walks.{IsFor, IsNextFor, IsOfferStuck, IsStuck, IsSurvey, NoneFrom, Noted, Walk, passed_by}

abbrev pub noted_in : Entry → Noted
noted_in e = record { node = e.node; contribution = e.contribution; receiver = e.receiver.0 }

-- the note of an offer, by its node, its contribution and its receiver
abbrev pub note_of : ℕ → ℕ → NodeRef → Noted
note_of node contribution receiver = record { node = node; contribution = contribution; receiver = receiver.0 }

-- the entry at a place tells this one as the next, and is no other but for that
abbrev pub TellsNext : List Entry → ℕ → ℕ → List Entry → Type 0
TellsNext old place next new = (x : Entry) → slice_get old place ≡ Some x → (y : Entry) × (new ≡ set old place y) × (noted_in y ≡ noted_in x) × (y.receiver ≡ x.receiver) × (y.next ≡ next)

-- The entries with one receiver are a ring: each tells the next, and the last the first. For each receiver that has entries it is kept where the last
-- stands. Entries are counted by 32 bits.
pub record AreChained (es : List Entry) (lasts : NodeRef → Option ℕ) : Type 0 where
  pub few : length es < 2 ^ 32
  pub next : (i : ℕ) (e : Entry) → slice_get es i ≡ Some e → IsNextFor (map noted_in es) e.receiver.0 (i + 1) e.next
  pub last : (n : NodeRef) (k : ℕ) → lasts n ≡ Some k → NoneFrom (map noted_in es) n.0 (k + 1)
  pub within : (n : NodeRef) (k : ℕ) → lasts n ≡ Some k → (e : Entry) × (slice_get es k ≡ Some e) × (e.receiver ≡ n)
  pub none : (n : NodeRef) → lasts n ≡ None → NoneFrom (map noted_in es) n.0 0

-- the collection that something is, by what codes stand for
abbrev pub Collections : Type 0
Collections = Naming → Collection

-- by a naming, the collection that an attribute is at a node, as the code says it
pub record IsCollectorBy (p : Program) (names : Naming) (of : Collector) (c : Collection) : Type 0 where
  pub is : collection_of p (Attribute of.attr.0 (reference_by names.node of.node.0) []) ≡ Some c
  pub method : c.method ≡ of.method
  pub kind : c.kind ≡ of.kind

-- those that it is by the namings for the program
abbrev pub IsCollectorOf : Program → Collector → Collections → Type 0
IsCollectorOf p of c = ByEachNaming p (λ names. IsCollectorBy p names of (c names))

-- it holds of the collection that an attribute is at a node, as the code says it
abbrev pub ForCollector : Program → Collector → (Collections → Type 0) → Type 0
ForCollector p of holds = (c : Collections) → IsCollectorOf p of c → holds c

-- an instance is a collection
abbrev pub AreCollectionOf : Program → CodedInstance → Collections → Type 0
AreCollectionOf p i c = ByEachNaming p (λ names. collection_of p (instance_by p names i) ≡ Some (c names))

-- and the code says which
abbrev pub SaysCollection : Program → CodedInstance → Collector → Type 0
SaysCollection p i of = (c : Collections) × AreCollectionOf p i c × IsCollectorOf p of c

-- this is the node of the instance
abbrev pub IsAtNode : CodedInstance → NodeRef → Type 0
IsAtNode (coded_instance.Attr a n xs) m = m ≡ n
IsAtNode (coded_instance.Query q) m = ⊥

-- the instance that a code stands for is no collection, and whether it is one
abbrev pub IsNoCollection : Program → CodedInstance → Type 0
IsNoCollection p i = ByEachNaming p (λ n. collection_of p (instance_by p n i) ≡ None)

abbrev pub IsCollectionOrNot : Program → CodedInstance → Bool → Type 0
IsCollectionOrNot p i is = ByEachNaming p (λ n. is ≡ is_some (collection_of p (instance_by p n i)))

-- the condition of a contribution: a condition that isn't written is true
abbrev pub IsCondition : Program → Option EqId → Expression → Type 0
IsCondition p None e = e ≡ Truth true
IsCondition p (Some n) e = body_at p.rules n.0 ≡ Some e

-- by each naming by which the reader may be read, the code of a source node by its number stands for that
abbrev pub StandsForSource : {S : Type 0} → Told S → ℕ → Type 0
StandsForSource t node = ByEachIn t (λ names. names.node node ≡ Source node)

-- What came of an offer, by each naming by which the reader may be read: it was passed, with its receiver where its condition is true, or it is stuck at
-- a demand. The reader knows the receiver, and the nodes in the demand.
abbrev pub IsWeighed : {S : Type 0} → Program → Told S → Offer → Weighed → Type 0
IsWeighed p t o weighings.Unmet = ByEachIn t (λ names. IsPassed p t.has o None)
IsWeighed p t o (weighings.Met r) = t.knows r.0 × ByEachIn t (λ names. IsPassed p t.has o (Some (reference_by names.node r.0)))
IsWeighed p t o (weighings.Stuck j) = IsCoded p j × KnowsInstance p t j × ByEachIn t (λ names. IsOfferStuck p t.has o (instance_by p names j))

-- so it is of the offer of a contribution, by its number, at a node for which its code stands
abbrev pub IsWeighedAt : {S : Type 0} → Program → Told S → ℕ → ℕ → Weighed → Type 0
IsWeighedAt p t number node weighed = (c : Contribution) → slice_get p.rules.contributions number ≡ Some c → StandsForSource t node → IsWeighed p t (record { contribution = c; node = node }) weighed

-- What came of a step of a walk: it has passed more, or it stands before an offer that is stuck at a demand, in which the reader knows the nodes, or at
-- the end of the subtree.
abbrev pub IsPassage : {S : Type 0} → Program → Told S → Walk → Walk → Passage → Type 0
IsPassage p t v w passages.Passed = length (passed_by p v) < length (passed_by p w)
IsPassage p t v w (passages.Stuck j) = (w.notes ≡ v.notes) × IsCoded p j × KnowsInstance p t j × IsStuck p t w j
IsPassage p t v w passages.Ended = (w.notes ≡ v.notes) × (w.node ≡ end_in p.tree w.root)

-- So far a collection has gone over its offers by a naming and some values, whatever walk it went along: some first offers were passed, of those of
-- them whose condition is true it has gone over the first, as many as are taken, and this is the value that comes of these. The last of them is for its
-- node.
pub record HasGone (p : Program) (A : Instance → Value → Type 0) (names : Naming) (c : Collection) (s : Survey) : Type 0 where
  pub front : List Offer
  pub others : List Offer
  pub are : front ++ others ≡ c.offers
  pub receivers : List (Option Reference)
  pub passed : ArePassed p A front receivers
  pub within : s.taken ≤ length (kept front receivers)
  pub comes : Comes p A c (fresh c.method c.kind) (take s.taken (kept front receivers)) (value_by names s.so_far)
  pub last : (k : ℕ) (x : Kept) → suc k ≡ s.taken → slice_get (kept front receivers) k ≡ Some x → same_reference x.receiver (At c.node) ≡ true

-- so it is by what a reader has, by each naming by which the reader may be read, and the reader knows the nodes in the value
pub record IsSurveyed {S : Type 0} (p : Program) (t : Told S) (c : Collections) (s : Survey) : Type 0 where
  pub gone : ByEachIn t (λ names. HasGone p t.has names (c names) s)
  pub coded : AreElements p s.so_far
  pub known : KnowsValue t s.so_far

-- so it is of the collection that an attribute is at a node, as the code says it
abbrev pub IsSurveyFor : {S : Type 0} → Program → Told S → Collector → Survey → Type 0
IsSurveyFor p t of s = ForCollector p of (λ c. IsSurveyed p t c s)

-- a collection has gone over all that a walk has noted, and the reader knows the nodes in its value
pub record IsCounted {S : Type 0} (p : Program) (t : Told S) (w : Walk) (c : Collections) (s : Survey) : Type 0 where
  pub survey : ByEachIn t (λ names. IsSurvey p t.has names w (c names) (length w.notes) (value_by names s.so_far))
  pub coded : AreElements p s.so_far
  pub known : KnowsValue t s.so_far

-- by a naming, it has gone over all that is offered
pub record HasEnded (p : Program) (A : Instance → Value → Type 0) (names : Naming) (c : Collection) (s : Survey) : Type 0 where
  pub receivers : List (Option Reference)
  pub passed : ArePassed p A c.offers receivers
  pub comes : Comes p A c (fresh c.method c.kind) (kept c.offers receivers) (value_by names s.so_far)

-- so it is by what a reader has
abbrev pub IsOver : {S : Type 0} → Program → Told S → Collections → Survey → Type 0
IsOver p t c s = ByEachIn t (λ names. HasEnded p t.has names (c names) s)

-- a collection that has gone over nothing
pub record IsNew (p : Program) (of : Collector) (s : Survey) : Type 0 where
  pub taken : s.taken ≡ 0
  pub so_far : ByEachNaming p (λ names. value_by names s.so_far ≡ fresh of.method of.kind)
  pub coded : AreElements p s.so_far

-- a walk is for the collection, by each naming by which the reader may be read
abbrev pub IsForEach : {S : Type 0} → Program → Told S → Walk → Collections → Type 0
IsForEach p t w c = ByEachIn t (λ names. IsFor p w (c names))

-- a collection goes along a walk that is for it, and so far it has gone over its offers, whatever walk it went along before
abbrev pub GoesAlong : {S : Type 0} → Program → Told S → Collector → Walk → Survey → Type 0
GoesAlong p t of w s = (c : Collections) × IsCollectorOf p of c × IsForEach p t w c × IsSurveyed p t c s

-- it has gone over all that a walk has noted
abbrev pub HasCounted : {S : Type 0} → Program → Told S → Collector → Walk → Survey → Type 0
HasCounted p t of w s = ForCollector p of (λ c. IsCounted p t w c s)

-- a value is the combination of another and one value more
abbrev pub IsCombined : Program → Method → Kind → CodedValue → CodedValue → CodedValue → Type 0
IsCombined p method kind so_far value v = ByEachNaming p (λ names. value_by names v ≡ combine method kind (value_by names so_far) (value_by names value))

-- a collection has counted a value besides, up to the one that is contributed at this place
abbrev pub CountsValue : Program → Collector → Survey → ℕ → CodedValue → Survey → Type 0
CountsValue p of old place value new = (new.taken ≡ place + 1) × AreElements p new.so_far × IsCombined p of.method of.kind old.so_far value new.so_far
