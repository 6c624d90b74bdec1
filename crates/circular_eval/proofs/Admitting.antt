-- Making a circular instance a member.
use Rattle.std.proofs.Common.{◌≡◌, ℕ, suc, ◌<◌, true, List, [], ◌∷◌, ◌++◌, Option, Some, None, Result, Ok, Err, length, inl, inr, ⊎_elim, refl, sym, ap, subst, subst₂, ◌∙◌, arith}
use Rattle.solutions.specs.Leading.{none}
use Rattle.attr_rules.specs.declared.kinds.Kind.{Kind}
use Rattle.attr_rules.specs.declared.kinds.Kind.TheVariants as kinds
use Rattle.equation_law.specs.declared.coding.Instance.{Instance as CodedInstance}
use Rattle.equation_law.specs.declared.coding.Value.{Value as CodedValue}
use Rattle.equation_law.specs.declared.system.System.{System}
use Rattle.equation_law.specs.Checked.{IsInstance, IsProgram, IsValue, nodes, texts, truth}
use Rattle.equation_law.specs.Codes.{AreElements, IsCoded, Naming, instance_by, instance_of, source_names, value_by}
use Rattle.equation_law.specs.Equations.{HasValue, equations_of, is_ordered, kind_in}
use Rattle.equation_law.specs.Loops.{Chain}
use Rattle.equation_law.specs.Names.{Instance}
use Rattle.equation_law.specs.Orders.{FitsKind}
use Rattle.equation_law.specs.Program.{Program, text_of}
use Rattle.equation_law.specs.Reading.{Settles, Told}
use Rattle.equation_law.specs.Systems.{program_of}
use Rattle.equation_law.specs.Values.{Value, as_kind, default_of}
use Rattle.equation_law.proofs.QueryValues.{value_typed}
use Rattle.equation_law.proofs.Solution.{circular_site}
use Rattle.expr_eval.proofs.Knowing.{default_in, value_known}
use Rattle.made_trees.specs.Made.{naming_by_makers}
use Rattle.memo_cells.specs.declared.keys.Slot.{Slot}
use Rattle.memo_cells.specs.declared.view.Frame.{Frame}
use Rattle.memo_cells.specs.declared.view.View.{View}
use Rattle.memo_cells.specs.Agreeing.{Agrees, ByEachAgreeing, IsKnownInstance, IsKnownNode, IsKnownValue}
use Rattle.memo_cells.specs.Naming.{ClaimsKeysTo, IsCellOf, LacksCell}
use Rattle.memo_cells.specs.Showing.{ShowsAtLeast}
use Rattle.memo_cells.specs.Standing.{AreApproximations, Knows}
use Rattle.memo_cells.specs.Views.{times}
use Rattle.memo_cells.specs.Working.{ClaimsKeysAt, ClaimsKeysFor, GoesOn, HasCell, Held, IsCellAt, IsCodedAt, IsInstanceAt, IsKnown, IsKnownAt, IsOwn, LacksCellAt, ReadsOn, TellsPass, program_at}
use Rattle.memo_cells.specs.SetShown.{IsShownValue}
use Rattle.memo_cells.proofs.Agreeing.{IsOpen, agrees_before, instance_known_later, own_open}
use Rattle.memo_cells.proofs.Claiming.{chain_more, claims_way, fills_way}
use Rattle.set_values.proofs.TextCodes.{first_text_by}
use Rattle.memo_cells.proofs.Holding.{goes_then}
use Rattle.circular_eval.specs.declared.advancing.CircFault.{CircFault}
use Rattle.circular_eval.specs.declared.advancing.CircFault.TheVariants.{CellsFull}
use Rattle.circular_eval.specs.declared.local.Local.{Local}
use Rattle.circular_eval.specs.declared.members.Member.{Member}
use Rattle.circular_eval.specs.Advancing.{AnswersFault}
use Rattle.circular_eval.specs.Left.{left, member_bound}
use Rattle.circular_eval.specs.Looking.{told_here}
use Rattle.circular_eval.specs.Local.{IsAbsent, IsLedBy, IsLocalByEach}
use Rattle.circular_eval.specs.Visiting.{Admits, BeginsAt, BeginsWith, GoesOnWith, IsNew, IsNewAt, IsReady, StillByEach}
use Rattle.circular_eval.proofs.Entries.{length_more}
use Rattle.circular_eval.proofs.Going.{member_chain, program_on}
use Rattle.circular_eval.proofs.Growing.{IsFit, left_more, local_more, local_same}
use Rattle.circular_eval.proofs.Knowing.{value_back}
use Rattle.circular_eval.proofs.Later.{set_later}
use Rattle.circular_eval.proofs.Lowering.{bottom_fits, bottom_shown}
use Rattle.circular_eval.proofs.Looking.{fits_read, here_sound}
use Rattle.circular_eval.proofs.Resuming.{still_with}
use Rattle.circular_eval.proofs.Tied.{kind_same}

-- a value of a circular type may be that of a circular instance
typed_fits : (p : Program) (k : Kind) (x : Value) → is_ordered k ≡ true → IsValue p k x → FitsKind k x
typed_fits p kinds.Truth _ e (truth b) = (b, refl)
typed_fits p kinds.Int x e h = cc
typed_fits p kinds.Text x e h = cc
typed_fits p (kinds.Node c) x e h = cc
typed_fits p kinds.Texts _ e (texts s h) = (s, refl)
typed_fits p (kinds.Nodes c) _ e (nodes _ s h) = (s, refl)

pub ordered_kind : (p : Program) (i : Instance) → (equations_of p).circular i ≡ true → is_ordered (kind_in p i) ≡ true
unfolding equations_of
ordered_kind p i c = (circular_site p i c).ordered

-- a value that a member may have, by each naming that agrees
abbrev pub IsFitByEach : Program → Frame → View → CodedInstance → Member → Type 0
IsFitByEach p f v i m = ByEachAgreeing p v.made (λ names. IsFit p names f v (instance_by p names i) m)

-- on the same cells, with the same set in all but the worklist
pub record IsSame (l m : Local) : Type 0 where
  pub start : m.start ≡ l.start
  pub entries : m.members.entries ≡ l.members.entries
  pub need : m.need ≡ l.need
  pub saved : m.saved ≡ l.saved

module _ (s : System) (d : Held) (l : Local) (r : IsReady s d l) where
  abbrev p : Program
  p = program_at d

  pub program_is : IsProgram p
  program_is = subst (λ (q : System). IsProgram (program_of q)) (sym r.same) r.program

  pub local_is_here : IsLocalByEach p d.frame d.view l
  local_is_here = subst (λ (q : System). IsLocalByEach (program_of q) d.frame d.view l) (sym r.same) r.local

  pub near_is : AreApproximations p d.view
  near_is = r.own.approximations

  pub open_is : IsOpen p d.view.made
  open_is = own_open d.frame d.view [] r.own

  -- the set stays as it is
  pub goes_same : (e : Held) → GoesOn d e → ClaimsKeysFor d e l.start → (m : Local) → IsSame l m → GoesOnWith d e l m
  goes_same e on claims m same = record {
    on = on;
    local = λ names agrees. local_same p names d.frame e.view l m same.start same.entries same.need same.saved (set_later p d.view e.view on.kept d.frame l local_is_here names agrees);
    start = same.start;
    claims = claims;
    some = λ h. subst (λ (es : List (CodedInstance × Member)). 0 < length es) (sym same.entries) h;
  }

  module _ (i : CodedInstance) (by : Option ℕ) (new : IsNewAt d l i by) where
    -- one naming that agrees
    abbrev some : Naming
    some = naming_by_makers p d.view.made

    by_one : IsNew p some l i by
    by_one = new.0 some open_is

    pub new_coded : IsCoded p i
    new_coded = by_one.coded

    led_chain : (names : Naming) → Agrees p d.view.made names → (b : Option ℕ) → IsLedBy p names l.members.entries l.start (length l.members.entries) i b → Chain p (instance_by p names l.start) (instance_by p names i)
    led_chain names agrees None h = subst (λ (x : CodedInstance). Chain p (instance_by p names l.start) (instance_by p names x)) (sym h) none
    led_chain names agrees (Some b) h = chain_more p (instance_by p names l.start) (instance_by p names h.1.0.0) (instance_by p names i) (member_chain p names d.frame d.view l (local_is_here names agrees) b h.1.0 h.1.1) h.1.2

    new_chain : (names : Naming) → Agrees p d.view.made names → Chain p (instance_by p names l.start) (instance_by p names i)
    new_chain names agrees = led_chain names agrees by (new.0 names agrees).led

    -- claims of its cell
    pub keys_claimed : (e f : Held) → GoesOn d e → GoesOn e f → e.view.claims ≡ d.view.claims → ClaimsKeysAt e f i → ClaimsKeysFor d f l.start
    keys_claimed e f on further same claims names agrees q =
        ⊎_elim (λ a. inl (a ∙ ap (λ (cs : List ℕ). times q cs) same)) inr
        (claims_way p (instance_by p names l.start) (instance_by p names i) (new_chain names (agrees_before p (goes_then d e f on further).kept.made agrees)) e.view f.view (subst (λ (u : Program). ByEachAgreeing u f.view.made (λ m. ClaimsKeysTo u e.view f.view (instance_by u m i))) (program_on d e on) claims names agrees) q)

    pub cell_lacks : (e f : Held) → GoesOn d e → GoesOn e f → LacksCellAt e f i → AnswersFault p l.start d.frame f.view CellsFull
    cell_lacks e f on further full names agrees =
        fills_way p (instance_by p names l.start) (instance_by p names i) (new_chain names (agrees_before p (goes_then d e f on further).kept.made agrees)) d.frame f.view
        (subst (λ (u : Program × Frame). ByEachAgreeing u.0 f.view.made (λ m. LacksCell u.0 u.1 f.view (instance_by u.0 m i))) (λ j. (program_on d e on j, on.cells j)) full names agrees)

    -- it is no member yet
    pub is_absent : IsAbsent l.members.entries i
    is_absent e there is = by_one.absent (e, there, ap (λ (x : CodedInstance). instance_by p some x) is)

    -- nothing was added
    pub refused : (e : Held) → GoesOn d e → ClaimsKeysFor d e l.start → (m : Local) → IsSame l m → (fault : CircFault) → AnswersFault p l.start d.frame e.view fault → (x : Result Unit CircFault) → x ≡ Err fault → Admits d e l m x
    refused e on claims m same fault answer x is = subst (λ (y : Result Unit CircFault). Admits d e l m y) (sym is) (record { goes = goes_same e on claims m same; grown = tt; still = tt; some = tt; fault = answer })

    -- it was added
    pub admitted : (e : Held) → GoesOn d e → ClaimsKeysFor d e l.start → (m : Local) (n : Member) → n.by ≡ by → IsFitByEach p d.frame e.view i n → length l.members.entries < member_bound → m.start ≡ l.start → m.need ≡ l.need → m.saved ≡ l.saved → m.members.entries ≡ l.members.entries ++ (i, n) ∷ [] → (u : Unit) → Admits d e l m (Ok u)
    admitted e on claims m n of fit few start need saved entries u =
        let later = set_later p d.view e.view on.kept d.frame l local_is_here in
        let longer : length (l.members.entries ++ (i, n) ∷ []) ≡ suc (length l.members.entries) = length_more l.members.entries (i, n) in
        let more : 0 < length m.members.entries = subst (λ (es : List (CodedInstance × Member)). 0 < length es) (sym entries) (omega (arith, longer)) in
        record {
          goes = record {
            on = on;
            local = λ names agrees. local_more p names d.frame e.view l (later names agrees) i n (subst (λ (b : Option ℕ). IsNew p names l i b) (sym of) (new.0 names (agrees_before p on.kept.made agrees))) (instance_known_later p on.kept.made i new.1) (fit names agrees) m start need saved entries;
            start = start;
            claims = claims;
            some = λ h. more;
          };
          grown = subst (λ (es : List (CodedInstance × Member)). left es < left l.members.entries) (sym entries) (left_more l.members.entries (i, n) few);
          still = subst (λ (es : List (CodedInstance × Member)). StillByEach p e.view.made l.members.entries es) (sym entries) (still_with p e.view.made l.members.entries (i, n));
          some = more;
          fault = tt;
        }

    -- the value that it was sealed with
    sealed_fit : (e : Held) → GoesOn d e → (names : Naming) → Agrees p e.view.made names → (x : CodedValue) → ((w : Value) × IsKnown p e.view (instance_by p names i) w × (value_by names x ≡ as_kind (kind_in p (instance_by p names i)) w)) → AreElements p x → IsKnownValue e.view.made x → (n : Member) → n.slot ≡ None → n.value ≡ x → IsFit p names d.frame e.view (instance_by p names i) n
    sealed_fit e on names agrees x known elements near n slot is =
        let j = instance_by p names i in
        let k = kind_in p j in
        let it = new.0 names (agrees_before p on.kept.made agrees) in
        let typed : IsValue p k known.0 = value_typed p program_is j it.instance known.0 known.1.1 in
        let fits : FitsKind k known.0 = typed_fits p k known.0 (ordered_kind p j it.is_circular) typed in
        let same : value_by names x ≡ known.0 = known.2 ∙ fits_read k known.0 fits in
        let final : Knows p e.view j × HasValue p j (value_by names x) = (known.1.0, subst (λ (y : Value). HasValue p j y) (sym same) known.1.1) in
        subst (λ (y : Member). IsFit p names d.frame e.view j y) (λ q. record { slot = sym slot q; value = sym is q; by = n.by })
        (record {
          elements = elements;
          known = near;
          fits = subst (λ (y : Value). FitsKind k y) (sym same) fits;
          shown = inr final;
          placed = final;
        })

    pub settled_fit : {W : Type 0} (held : W → Held) (y : W) (t : Told W) → TellsPass held y t → GoesOn d (held y) → (x : CodedValue) → Settles p t (λ m. instance_by p m i) (Ok (Some x)) → (n : Member) → n.slot ≡ None → n.value ≡ x → IsFitByEach p d.frame (held y).view i n
    settled_fit held y t told on x settles n slot is names agrees =
        let read = settles.0 names (told.each names (subst (λ (u : Program). Agrees u (held y).view.made names) (sym (program_on d (held y) on)) agrees)) in
        sealed_fit (held y) on names agrees x
        (read.0, subst (λ (u : Program). IsKnown u (held y).view (instance_by p names i) read.0) (program_on d (held y) on) (told.known (instance_by p names i) read.0 read.1), read.2)
        settles.1 (value_back t (held y).view.made told.known_alone x settles.2) n slot is

    -- its cell, as it is said of what is held before and after
    pub cell_here : (e f : Held) → GoesOn d e → (k : ℕ) → IsCellAt e f i k → ByEachAgreeing p f.view.made (λ names. IsCellOf p d.frame f.view (instance_by p names i) k)
    cell_here e f on k cell = subst (λ (u : Program × Frame). ByEachAgreeing u.0 f.view.made (λ m. IsCellOf u.0 u.1 f.view (instance_by u.0 m i) k)) (λ j. (program_on d e on j, on.cells j)) cell

    cell_out : (f : Held) → GoesOn d f → (k : ℕ) (names : Naming) → IsCellOf p d.frame f.view (instance_by p names i) k → IsCellOf (program_at f) f.frame f.view (instance_by (program_at f) names i) k
    cell_out f on k names cell = subst (λ (g : Frame). IsCellOf (program_of g.system.value) g f.view (instance_by (program_of g.system.value) names i) k) (sym on.cells) cell

    pub has_cell : (f : Held) → GoesOn d f → (k : ℕ) → ByEachAgreeing p f.view.made (λ names. IsCellOf p d.frame f.view (instance_by p names i) k) → HasCell f k
    has_cell f on k cell =
        let one = naming_by_makers p f.view.made in
        let by : IsOpen p f.view.made = subst (λ (u : Program). IsOpen u f.view.made) (program_on d f on) (own_open f.frame f.view [] on.own) in
        (instance_by (program_at f) one i, cell_out f on k one (cell one by))

    pub begins_here : (e f : Held) → GoesOn d e → GoesOn e f → (slot : Slot) (kind : Kind) (x : CodedValue) → BeginsAt e f slot.0 kind x → kind ≡ kind_in (program_of s) (instance_of (program_of s) i) → ByEachAgreeing p e.view.made (λ names. IsCellOf p d.frame e.view (instance_by p names i) slot.0) → ByEachAgreeing p f.view.made (λ names. BeginsWith p names f.view (instance_by p names i) x)
    begins_here e f on further slot kind x shown is cell names agrees =
        let before = agrees_before p further.kept.made agrees in
        let first = agrees_before p on.kept.made before in
        let source : kind ≡ kind_in p (instance_of p i) = subst (λ (u : System). kind ≡ kind_in (program_of u) (instance_of (program_of u) i)) (sym r.same) is in
        let here : kind ≡ kind_in p (instance_by p names i) = source ∙ kind_same p (source_names (text_of p)) names i in
        let at : kind_in (program_at e) (instance_by (program_at e) names i) ≡ kind = subst (λ (u : Program). kind_in u (instance_by u names i) ≡ kind) (sym (program_on d e on)) (sym here) in
        subst (λ (u : Program). ByEachAgreeing u f.view.made (λ m. BeginsWith u m f.view (instance_by u names i) x)) (program_on d e on)
        (shown (instance_by (program_at e) names i) (cell_out e on slot.0 names (cell names before)) at (ap is_ordered here ∙ ordered_kind p (instance_by p names i) (new.0 names first).is_circular)) names agrees

    -- a value that it may begin with
    pub begins_fit : (e : Held) → GoesOn d e → (slot : Slot) → ByEachAgreeing p e.view.made (λ names. IsCellOf p d.frame e.view (instance_by p names i) slot.0) → (x : CodedValue) → ByEachAgreeing p e.view.made (λ names. BeginsWith p names e.view (instance_by p names i) x) → (n : Member) → n.slot ≡ Some slot → n.value ≡ x → IsFitByEach p d.frame e.view i n
    begins_fit e on slot cell x shown n at is names agrees =
        let j = instance_by p names i in
        let begins = shown names agrees in
        subst (λ (y : Member). IsFit p names d.frame e.view j y) (λ q. record { slot = sym at q; value = sym is q; by = n.by })
        (record {
          elements = begins.elements;
          known = begins.known;
          fits = begins.fits;
          shown = inl begins.shown;
          placed = cell names agrees;
        })

-- ---- the value that a member begins with

-- what the words show
pub shown_begins : (p : Program) (v w : View) (i : Instance) (x : CodedValue) → IsShownValue p v w i x → ByEachAgreeing p w.made (λ names. BeginsWith p names w i x)
shown_begins p v w i x h names agrees = record { elements = h.elements; known = h.known; fits = h.fits names agrees; shown = h.shown names agrees }

-- no nodes are in the bottom
pub bottom_known : (d : Held) → IsOwn d → (k : Kind) (x : CodedValue) → ((names : Naming) → names.text 0 ≡ [] → value_by names x ≡ default_of k) → IsKnownValue d.view.made x
bottom_known d own k x is =
    let told = told_here d d.frame.system.value [] (λ (u : Unit {0}). Unit {0}) in
    let sound = here_sound d d.frame.system.value [] (λ (u : Unit {0}). Unit {0}) (program_at d) refl refl own ((λ names agrees e there. absurd there), λ e there. absurd there) in
    value_back told d.view.made (λ c h. h) x (value_known sound x {w = λ names. default_of k} (λ names named. is names (first_text_by d.frame.system.value named)) (default_in (IsKnownNode d.view.made) k))

-- bottom
pub bottom_begins : (p : Program) (names : Naming) (v : View) (i : Instance) (k : Kind) (x : CodedValue) → kind_in p i ≡ k → is_ordered k ≡ true → value_by names x ≡ default_of k → AreElements p x → IsKnownValue v.made x → BeginsWith p names v i x
bottom_begins p names v i k x kind ordered is elements known = record {
  elements = elements;
  known = known;
  fits = subst₂ (λ (l : Kind) (y : Value). FitsKind l y) (sym kind) (sym is) (bottom_fits k ordered);
  shown = subst₂ (λ (l : Kind) (y : Value). ShowsAtLeast p v i l y) (sym kind) (sym is) (bottom_shown p v i k);
}

-- ---- a cell that is opened after a reading

-- an instance that is one, is coded well and is known goes on to be so
module _ (d e : Held) (on : GoesOn d e) (i : CodedInstance) where
  pub instance_after : IsInstanceAt d i → IsInstanceAt e i
  instance_after is = subst (λ (u : Program). ByEachAgreeing u e.view.made (λ n. IsInstance u (instance_by u n i))) (sym (program_on d e on)) (λ n agrees. is n (agrees_before (program_at d) on.kept.made agrees))

  pub coded_after : IsCodedAt d i → IsCodedAt e i
  coded_after is = subst (λ (u : Program). IsCoded u i) (sym (program_on d e on)) is

  pub known_after : IsKnownAt d i → IsKnownAt e i
  known_after is = subst (λ (u : Program). IsKnownInstance u e.view.made i) (sym (program_on d e on)) (instance_known_later (program_at d) on.kept.made i is)

-- what was claimed after a reading
claims_read : (p : Program) (u v w : View) (i : Instance) → v.claims ≡ u.claims → ClaimsKeysTo p v w i → ClaimsKeysTo p u w i
claims_read p u v w i quiet claims s = ⊎_elim (λ same. inl (same ∙ ap (λ (cs : List ℕ). times s cs) quiet)) inr (claims s)

-- what is said of the cells that were held before the reading
pub lacks_before : (d e f : Held) → GoesOn d e → (i : CodedInstance) → LacksCellAt e f i → LacksCellAt d f i
lacks_before d e f on i full = subst (λ (h : Frame). ByEachAgreeing (program_of h.system.value) f.view.made (λ n. LacksCell (program_of h.system.value) h f.view (instance_by (program_of h.system.value) n i))) on.cells full

pub cell_before : (d e f : Held) → GoesOn d e → (i : CodedInstance) (s : ℕ) → IsCellAt e f i s → IsCellAt d f i s
cell_before d e f on i s cell = subst (λ (h : Frame). ByEachAgreeing (program_of h.system.value) f.view.made (λ n. IsCellOf (program_of h.system.value) h f.view (instance_by (program_of h.system.value) n i) s)) on.cells cell

pub claims_before : (d e f : Held) → ReadsOn d e → (i : CodedInstance) → ClaimsKeysAt e f i → ClaimsKeysAt d f i
claims_before d e f reads i claims n agrees =
    claims_read (program_at d) d.view e.view f.view (instance_by (program_at d) n i) reads.claims
    (subst (λ (q : Program). ByEachAgreeing q f.view.made (λ m. ClaimsKeysTo q e.view f.view (instance_by q m i))) (program_on d e reads.on) claims n agrees)
