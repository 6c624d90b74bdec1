-- A collection goes over the offers whose conditions are true, and needs no others.
use Rattle.std.proofs.Common.{◌≡◌, true, false, List, [], ◌∷◌, ◌++◌, Option, Some, None, sym, ap, subst}
use Rattle.solutions.specs.Asking.{Demands, Ends, Halts, gives}
use Rattle.equation_law.specs.Collections.{Collection, Offer, combine, gathered}
use Rattle.equation_law.specs.Equations.{world_of}
use Rattle.equation_law.specs.Names.{At, Instance, Reference, same_reference}
use Rattle.equation_law.specs.Program.{Program}
use Rattle.equation_law.specs.Values.{Value}
use Rattle.solutions.proofs.Runs.{ends_more}
use Rattle.collection_attrs.specs.Passed.{ArePassed, Comes, Kept, contributed, kept, other, over, own}
use Rattle.collection_attrs.proofs.Going.{counted, gathered_both, halts_first, passed_by, stuck_after, stuck_behind, stuck_value}

-- over some and then over others
pub comes_both : (p : Program) (A : Instance → Value → Type 0) (c : Collection) {s v w : Value} {xs ys : List Kept} → Comes p A c s xs v → Comes p A c v ys w → Comes p A c s (xs ++ ys) w
comes_both p A c over g = g
comes_both p A c (other n h) g = other n (comes_both p A c h g)
comes_both p A c (own n e h) g = own n e (comes_both p A c h g)

-- it stays so while a reader comes to have more values
pub comes_more : (p : Program) {A B : Instance → Value → Type 0} (c : Collection) → ((i : Instance) (v : Value) → A i v → B i v) → {s v : Value} {ks : List Kept} → Comes p A c s ks v → Comes p B c s ks v
comes_more p c g over = over
comes_more p c g (other n h) = other n (comes_more p c g h)
comes_more p c g (own n e h) = own n (ends_more g e) (comes_more p c g h)

module _ (p : Program) (A : Instance → Value → Type 0) (c : Collection) where
  abbrev From : Value → List Offer → Demands Instance Value
  From s os = gathered (world_of p) c.method c.kind (At c.node) s os

  abbrev counts : Value → List Offer → Value → Demands Instance Value
  counts s os v = From (combine c.method c.kind s v) os

  -- so it comes to that value over all offers that were passed
  pub comes_ends : (os : List Offer) (rs : List (Option Reference)) → ArePassed p A os rs → {s v : Value} → Comes p A c s (kept os rs) v → (ds : List Instance) × Ends A (From s os) v ds
  comes_ends [] [] h over = ([], gives)
  comes_ends [] (r ∷ rs) h g = absurd h
  comes_ends (o ∷ os) [] h g = absurd h
  comes_ends (o ∷ os) (None ∷ rs) h {s} g = let rest = comes_ends os rs h.1 g in passed_by p A (At c.node) o (counts s os) (From s os) h.0 tt rest.1
  comes_ends (o ∷ os) (Some r ∷ rs) h {s} (other n g) = let rest = comes_ends os rs h.1 g in passed_by p A (At c.node) o (counts s os) (From s os) h.0 (n, tt) rest.1
  comes_ends (o ∷ os) (Some r ∷ rs) h {s} (own n e g) = let rest = comes_ends os rs h.1 g in counted p A (At c.node) o (counts s os) (From s os) h.0 n e rest.1

  -- where it is stuck at what an offer contributes, it is stuck there over all of them
  pub stuck_own : (os : List Offer) (rs : List (Option Reference)) → ArePassed p A os rs → {s v : Value} (ks : List Kept) (k : Kept) (more : List Kept) → kept os rs ≡ ks ++ k ∷ more → Comes p A c s ks v
      → same_reference k.receiver (At c.node) ≡ true → {j : Instance} {ws : List Instance} → Halts A (contributed p k.offer) j ws → (ds : List Instance) × Halts A (From s os) j ds
  stuck_own [] [] h [] k more e g n stuck = cc
  stuck_own [] [] h (x ∷ ks) k more e g n stuck = cc
  stuck_own [] (r ∷ rs) h ks k more e g n stuck = absurd h
  stuck_own (o ∷ os) [] h ks k more e g n stuck = absurd h
  stuck_own (o ∷ os) (None ∷ rs) h {s} ks k more e g n stuck = let rest = stuck_own os rs h.1 ks k more e g n stuck in stuck_behind p A (At c.node) o (counts s os) (From s os) h.0 tt rest.1
  stuck_own (o ∷ os) (Some r ∷ rs) h {s} [] k more e g n {j} {ws} stuck =
      let offer : o ≡ k.offer = ap first_offer e in
      let receiver : r ≡ k.receiver = ap first_receiver e in
      stuck_value p A (At c.node) o (counts s os) (From s os) h.0 (subst (λ (x : Reference). same_reference x (At c.node) ≡ true) (sym receiver) n) (subst (λ (x : Offer). Halts A (contributed p x) j ws) (sym offer) stuck)
    where
      first_offer : List Kept → Offer
      first_offer [] = o
      first_offer (x ∷ xs) = x.offer

      first_receiver : List Kept → Reference
      first_receiver [] = r
      first_receiver (x ∷ xs) = x.receiver
  stuck_own (o ∷ os) (Some r ∷ rs) h {s} (_ ∷ ks) k more e (other {k = x} m g) n stuck =
      let receiver : r ≡ x.receiver = ap first_receiver e in
      let rest = stuck_own os rs h.1 ks k more (ap others e) g n stuck in
      stuck_behind p A (At c.node) o (counts s os) (From s os) h.0 (subst (λ (y : Reference). same_reference y (At c.node) ≡ false) (sym receiver) m, tt) rest.1
    where
      first_receiver : List Kept → Reference
      first_receiver [] = r
      first_receiver (y ∷ ys) = y.receiver

      others : List Kept → List Kept
      others [] = []
      others (y ∷ ys) = ys
  stuck_own (o ∷ os) (Some r ∷ rs) h {s} (_ ∷ ks) k more e (own {w = w} {k = x} {demands = ds} m f g) n stuck =
      let offer : o ≡ x.offer = ap first_offer e in
      let receiver : r ≡ x.receiver = ap first_receiver e in
      let rest = stuck_own os rs h.1 ks k more (ap others e) g n stuck in
      stuck_after p A (At c.node) o (counts s os) (From s os) h.0 (subst (λ (y : Reference). same_reference y (At c.node) ≡ true) (sym receiver) m) (subst (λ (y : Offer). Ends A (contributed p y) w ds) (sym offer) f) rest.1
    where
      first_offer : List Kept → Offer
      first_offer [] = o
      first_offer (y ∷ ys) = y.offer

      first_receiver : List Kept → Reference
      first_receiver [] = r
      first_receiver (y ∷ ys) = y.receiver

      others : List Kept → List Kept
      others [] = []
      others (y ∷ ys) = ys

  -- and where more offers follow
  pub stuck_more : (s : Value) (os us : List Offer) {j : Instance} {ds : List Instance} → Halts A (From s os) j ds → Halts A (From s (os ++ us)) j ds
  stuck_more s os us {j} {ds} h = subst (λ (d : Demands Instance Value). Halts A d j ds) (sym (gathered_both (world_of p) c.method c.kind (At c.node) s os us)) (halts_first (λ v. From v us) h)
