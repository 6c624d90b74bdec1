-- The values of a local set are a lower assignment, and what its evaluations come to are steps under it.
use Rattle.std.proofs.Common.{◌≡◌, ℕ, true, false, cond, List, [], ◌∷◌, inl, inr, ⊎_elim, refl, sym, subst, ◌∙◌, Contains}
use Rattle.std.proofs.lemmas.List.Elements.{Contains-get_or}
use Rattle.solutions.specs.Asking.{Demands, Ends, Halts, Meets, asks, gives, here, later}
use Rattle.solutions.specs.Leading.{Mixed, circular, fixed, present}
use Rattle.solutions.proofs.Looping.{halts_meets, meets_under}
use Rattle.solutions.proofs.Loops.{mixed_below}
use Rattle.solutions.proofs.Lower.{raised_up, step_fits}
use Rattle.solutions.proofs.Runs.{ends_more, val_ends}
use Rattle.ast_grammar.specs.declared.grammar.ClassId.{ClassId}
use Rattle.attr_rules.specs.declared.kinds.Kind.{Kind}
use Rattle.attr_rules.specs.declared.kinds.Kind.TheVariants as kinds
use Rattle.equation_law.specs.declared.coding.Instance.{Instance as CodedInstance}
use Rattle.equation_law.specs.Checked.{IsInstance, IsNodeOf, IsProgram, IsValue, nodes, texts, truth}
use Rattle.equation_law.specs.Codes.{Naming, instance_by, value_by}
use Rattle.equation_law.specs.Equations.{HasValue, equations_of, is_ordered, kind_in}
use Rattle.equation_law.specs.Loops.{Leads, fits_in, join_in, order_in}
use Rattle.equation_law.specs.Lower.{IsLower, raised_at}
use Rattle.equation_law.specs.Names.{At, Instance, Reference, node_cmp, same_instance, text_cmp}
use Rattle.equation_law.specs.Orders.{FitsKind, IsAtMost}
use Rattle.equation_law.specs.Program.{Program, text_of}
use Rattle.equation_law.specs.Sets.{has, no_elements}
use Rattle.equation_law.specs.Values.{Value, default_of, nodes as nodes_in, texts as texts_in}
use Rattle.equation_law.proofs.Declared.{as_declared}
use Rattle.equation_law.proofs.Demanded.{ended_typed as typed_end, met_instances}
use Rattle.equation_law.proofs.Names.{same_instance_is}
use Rattle.equation_law.proofs.Orders.{at_most_itself, at_most_through}
use Rattle.equation_law.proofs.QueryValues.{value_typed}
use Rattle.equation_law.proofs.Sets.{none_has}
use Rattle.equation_law.proofs.Solution.{are_joins, are_rising, below, circular_site, still_lower, values_grow}
use Rattle.memo_cells.specs.declared.view.View.{View}
use Rattle.memo_cells.specs.declared.view.Frame.{Frame}
use Rattle.memo_cells.specs.Agreeing.{IsElementAt, IsReferenceAt}
use Rattle.memo_cells.specs.Showing.{ShowsAtLeast, ShowsCode}
use Rattle.memo_cells.specs.Standing.{AreApproximations, AreShown, ComesTo, IsShown}
use Rattle.memo_cells.specs.Views.{Has}
use Rattle.memo_cells.proofs.Agreeing.{IsOpen, one_stands}
use Rattle.memo_cells.proofs.Raising.{Higher}
use Rattle.memo_cells.proofs.Showing.{not_both, shown_between}
use Rattle.circular_eval.specs.declared.members.Member.{Member}
use Rattle.circular_eval.specs.Local.{AreMembers, Members, ReadsHere, here as local_here, local_value, settled}
use Rattle.circular_eval.proofs.Entries.{has_at}

-- what holds of the bottoms and of the members holds of all values of a set
pub local_is : (p : Program) (names : Naming) (es : Members) (P : Instance → Value → Type 0) → ((i : Instance) → P i (default_of (kind_in p i))) → ((e : CodedInstance × Member) → Has es e → P (instance_by p names e.0) (value_by names e.1.value)) → (j : Instance) → P j (local_value p names es j)
local_is p names [] P d m j = d j
local_is p names (e ∷ es) P d m j =
    elim (same_instance j (instance_by p names e.0)) as (λ b. same_instance j (instance_by p names e.0) ≡ b → P j (cond b (value_by names e.1.value) (local_value p names es j))) [
      | true ↦ λ h. subst (λ (i : Instance). P i (value_by names e.1.value)) (sym (same_instance_is j (instance_by p names e.0) h)) (m e (inl refl))
      | false ↦ λ h. local_is p names es P d (λ x q. m x (inr q)) j
    ] refl

-- the bottom of a circular type is shown by no words
pub bottom_fits : (k : Kind) → is_ordered k ≡ true → FitsKind k (default_of k)
bottom_fits kinds.Truth e = (false, refl)
bottom_fits kinds.Int e = cc
bottom_fits kinds.Text e = cc
bottom_fits (kinds.Node c) e = cc
bottom_fits kinds.Texts e = (no_elements, refl)
bottom_fits (kinds.Nodes c) e = (no_elements, refl)

pub bottom_shown : (p : Program) (v : View) (i : Instance) (k : Kind) → ShowsAtLeast p v i k (default_of k)
bottom_shown p v i kinds.Truth = λ e. absurd (not_both refl e)
bottom_shown p v i kinds.Int = tt
bottom_shown p v i kinds.Text = tt
bottom_shown p v i (kinds.Node c) = tt
bottom_shown p v i kinds.Texts = λ t h. absurd (none_has text_cmp t h)
bottom_shown p v i (kinds.Nodes c) = λ n h. absurd (none_has node_cmp n h)

-- a value that the words show is of the type
shown_text : (p : Program) (v : View) (near : AreApproximations p v) (i : Instance) → kind_in p i ≡ kinds.Texts → (c : ℕ) → ShowsCode p v i c → Contains p.texts (text_of p c)
shown_text p v near i e c h = Contains-get_or p.texts c [] (subst (λ (k : Kind). IsElementAt p v.made k c) e (near.codes i c h))

shown_node : (p : Program) (v : View) (near : AreApproximations p v) → IsOpen p v.made → (i : Instance) (d : ClassId) → kind_in p i ≡ kinds.Nodes d → (c : ℕ) (r : Reference) → IsReferenceAt p v.made c r → ShowsCode p v i c → IsNodeOf p d r
shown_node p v near by i d e c r at h =
    let element = subst (λ (k : Kind). IsElementAt p v.made k c) e (near.codes i c h) in
    subst (IsNodeOf p d) (one_stands p v.made by c element.1.0 r element.1.1 at) element.1.2

pub shown_typed : (p : Program) (v : View) (near : AreApproximations p v) → IsOpen p v.made → (i : Instance) (k : Kind) → kind_in p i ≡ k → (x : Value) → FitsKind k x → ShowsAtLeast p v i k x → IsValue p k x
shown_typed p v near by i kinds.Truth e x f l = subst (λ (y : Value). IsValue p kinds.Truth y) (sym f.1) (truth f.0)
shown_typed p v near by i kinds.Int e x f l = elim f [ ]
shown_typed p v near by i kinds.Text e x f l = elim f [ ]
shown_typed p v near by i (kinds.Node c) e x f l = elim f [ ]
shown_typed p v near by i kinds.Texts e x f l =
    subst (λ (y : Value). IsValue p kinds.Texts y) (sym f.1)
    (texts f.0 (λ t h. let c = l t (subst (λ (y : Value). has (texts_in y) t ≡ true) (sym f.1) h) in subst (λ (u : List ℕ). Contains p.texts u) c.1 (shown_text p v near i e c.0 c.2)))
shown_typed p v near by i (kinds.Nodes d) e x f l =
    subst (λ (y : Value). IsValue p (kinds.Nodes d) y) (sym f.1)
    (nodes d f.0 (λ n h. let c = l n (subst (λ (y : Value). has (nodes_in y) n ≡ true) (sym f.1) h) in shown_node p v near by i d e c.0 (At n) c.1 c.2))

module _ (p : Program) (v : View) (near : AreApproximations p v) (by : IsOpen p v.made) where
  -- a value that is shown or final is at most that of the lower assignment
  shown_below : (j : Instance) → (equations_of p).circular j ≡ true → (x : Value) → FitsKind (kind_in p j) x → IsShown p v j x → IsAtMost x (near.values j)
  shown_below j c x fits shown = ⊎_elim (λ least. shown_between p v by j (kind_in p j) x (near.values j) fits least (near.circular j c)) (λ k. near.final j c k.0 x k.1) shown

  -- and what an equation comes to under such values is at most the value in the solution
  pub comes_below : (i : Instance) → (equations_of p).circular i ≡ true → (x : Value) → ComesTo p v i x → (w : Value) → HasValue p i w → IsAtMost x w
  comes_below i c x comes w has =
      let e = val_ends (equations_of p) i w has in
      values_grow p i c (Mixed (equations_of p) comes.below) (HasValue p)
      (mixed_below (equations_of p) (order_in p) (fits_in p) (join_in p) (are_rising p) (are_joins p) comes.below (λ j y d h.
      let s = comes.shown j d in
      at_most_through (comes.below j) (near.values j) y (shown_below j d (comes.below j) s.0 s.1) (below p near.values near.lower j y d h)))
      x w comes.demands e.0 comes.ends e.1

-- what a computation meets can be put to what it reads
ends_with : {A : Instance → Value → Type 0} {Q : Instance → Type 0} {c : Demands Instance Value} {x : Value} {ds : List Instance} → ((j : Instance) → Meets A c j → Q j) → Ends A c x ds → Ends (λ j w. Q j × A j w) c x ds
ends_with q gives = gives
ends_with q (asks {j = j} a e) = asks (q j here, a) (ends_with (λ i m. q i (later a m)) e)

meets_with : {A : Instance → Value → Type 0} {Q : Instance → Type 0} {c : Demands Instance Value} {n : Instance} → ((j : Instance) → Meets A c j → Q j) → Meets A c n → Meets (λ j w. Q j × A j w) c n
meets_with q here = here
meets_with q (later {j = j} a m) = later (q j here, a) (meets_with (λ i k. q i (later a k)) m)

-- what a value of a set has to be
pub record IsGood (p : Program) (v : View) (i : Instance) (x : Value) : Type 0 where
  pub fits : FitsKind (kind_in p i) x
  pub shown : IsShown p v i x

module _ (p : Program) (names : Naming) (good : IsProgram p) (v : View) (near : AreApproximations p v) (by : IsOpen p v.made) (f : Frame) (start : CodedInstance) (es : Members) (set : AreMembers p names f v start es) where
  bottom_good : (i : Instance) → (equations_of p).circular i ≡ true → IsGood p v i (default_of (kind_in p i))
  unfolding equations_of
  bottom_good i c = record { fits = bottom_fits (kind_in p i) (circular_site p i c).ordered; shown = inl (bottom_shown p v i (kind_in p i)) }

  member_good : (e : CodedInstance × Member) → Has es e → IsGood p v (instance_by p names e.0) (value_by names e.1.value)
  member_good e h = let at = has_at es e h in let m = set.members at.0 e at.1 in record { fits = m.fits; shown = m.shown }

  pub values_good : (i : Instance) → (equations_of p).circular i ≡ true → IsGood p v i (local_value p names es i)
  values_good = local_is p names es (λ i x. (equations_of p).circular i ≡ true → IsGood p v i x) bottom_good (λ e h c. member_good e h)

  -- they are shown or final, and so they are a lower assignment
  pub values_shown : AreShown p v (local_value p names es)
  values_shown j c = let g = values_good j c in (g.fits, g.shown)

  pub values_lower : IsLower p (local_value p names es)
  values_lower = record {
    top = near.lower.top;
    reached = near.lower.reached;
    fits = λ j c. (values_good j c).fits;
    below = λ j c.
        let g = values_good j c in
        at_most_through (local_value p names es j) (near.values j) (near.lower.top j) (shown_below p v near by j c (local_value p names es j) g.fits g.shown) (near.lower.below j c);
  }

  good_typed : (j : Instance) → IsInstance p j → (x : Value) → IsGood p v j x → IsValue p (kind_in p j) x
  good_typed j h x g = ⊎_elim (λ least. shown_typed p v near by j (kind_in p j) refl x g.fits least) (λ k. value_typed p good j h x k.1) g.shown

  reads_typed : (j : Instance) (w : Value) → IsInstance p j → ReadsHere p names v es j w → IsValue p (kind_in p j) w
  reads_typed j w h (settled d k) = value_typed p good j h w k.1
  reads_typed j w h (local_here d r) = good_typed j h (local_value p names es j) (values_good j (as_declared p good j h ∙ d))

  module _ (i : Instance) (is : IsInstance p i) where
    -- all that it meets are instances of the program
    pub met_is : (j : Instance) → Meets (ReadsHere p names v es) ((equations_of p).equation i) j → IsInstance p j
    met_is j m = met_instances p good i j is (ReadsHere p names v es) reads_typed m

    -- what it comes to is of its type
    pub ended_typed : (x : Value) (ds : List Instance) → Ends (ReadsHere p names v es) ((equations_of p).equation i) x ds → IsValue p (kind_in p i) x
    ended_typed x ds e = typed_end p good (ReadsHere p names v es) reads_typed i is x ds e

    -- what it reads are instances of the program too
    pub ends_of : (x : Value) (ds : List Instance) → Ends (ReadsHere p names v es) ((equations_of p).equation i) x ds → Ends (λ j w. IsInstance p j × ReadsHere p names v es j w) ((equations_of p).equation i) x ds
    ends_of x ds e = ends_with met_is e

    -- what it reads, it reads under the values of the set
    mixed : (j : Instance) (w : Value) → IsInstance p j × ReadsHere p names v es j w → Mixed (equations_of p) (local_value p names es) j w
    mixed j w (h, settled d k) = fixed (as_declared p good j h ∙ d) k.1
    mixed j w (h, local_here d r) = present (as_declared p good j h ∙ d)

    pub ends_mixed : (x : Value) (ds : List Instance) → Ends (ReadsHere p names v es) ((equations_of p).equation i) x ds → Ends (Mixed (equations_of p) (local_value p names es)) ((equations_of p).equation i) x ds
    ends_mixed x ds e = ends_more mixed (ends_of x ds e)

    pub comes : (x : Value) (ds : List Instance) → Ends (ReadsHere p names v es) ((equations_of p).equation i) x ds → ComesTo p v i x
    comes x ds e = record { below = local_value p names es; shown = values_shown; demands = ds; ends = ends_mixed x ds e }

    -- and a lower assignment reaches that
    pub came_higher : (equations_of p).circular i ≡ true → (x : Value) (ds : List Instance) → Ends (ReadsHere p names v es) ((equations_of p).equation i) x ds → Higher p (local_value p names es) i x
    came_higher c x ds e =
        let T = local_value p names es in
        let ends = ends_mixed x ds e in
        let fit : FitsKind (kind_in p i) x = step_fits (equations_of p) (order_in p) (fits_in p) (join_in p) (are_rising p) (are_joins p) T i x ds c ends in
        let right : IsAtMost x (join_in p i (T i) x) = (are_joins p).right i (T i) x (values_lower.fits i c) fit in
        record {
          values = raised_at p T i x;
          lower = still_lower p T T values_lower i c (λ j d. at_most_itself (T j)) x x ds ends fit (at_most_itself x);
          up = λ j d. raised_up (equations_of p) (order_in p) (fits_in p) (join_in p) (are_rising p) (are_joins p) T i x fit j (values_lower.fits j d);
          reaches = λ d. subst (λ b. IsAtMost x (cond b (join_in p i (T i) x) (T i))) (sym ((are_rising p).same_self i)) right;
        }

    -- a circular instance leads to what its equation meets
    pub meets_leads : (equations_of p).circular i ≡ true → (n : Instance) → Meets (ReadsHere p names v es) ((equations_of p).equation i) n → Leads p i n
    meets_leads c n m = circular c (local_value p names es) values_lower (meets_under mixed (meets_with met_is m))

    pub stuck_leads : (equations_of p).circular i ≡ true → (n : Instance) (ds : List Instance) → Halts (ReadsHere p names v es) ((equations_of p).equation i) n ds → Leads p i n
    stuck_leads c n ds h = meets_leads c n (halts_meets h).0
