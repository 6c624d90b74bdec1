-- Joining what an equation came to to the value of its member.
use Rattle.std.proofs.Common.{◌≡◌, ℕ, ◌<◌, [], Option, Some, None, IsSome, Result, Ok, Err, length, slice_get, inl, refl, sym, ap, subst, ◌∙◌}
use Rattle.solutions.proofs.Runs.{ends_more}
use Rattle.equation_law.specs.declared.coding.Instance.{Instance as CodedInstance}
use Rattle.equation_law.specs.declared.coding.Value.{Value as CodedValue}
use Rattle.equation_law.specs.declared.system.System.{System}
use Rattle.equation_law.specs.Codes.{Naming, instance_by, value_by}
use Rattle.equation_law.specs.Equations.{kind_in}
use Rattle.equation_law.specs.Loops.{Chain}
use Rattle.equation_law.specs.Names.{Instance}
use Rattle.equation_law.specs.Orders.{IsAtMost}
use Rattle.equation_law.specs.Program.{Program}
use Rattle.equation_law.specs.Values.{Value}
use Rattle.expr_eval.specs.declared.sites.Turn.TheVariants as turns
use Rattle.made_trees.specs.Made.{naming_by_makers}
use Rattle.memo_cells.specs.declared.keys.Slot.{Slot}
use Rattle.memo_cells.specs.declared.view.Frame.{Frame}
use Rattle.memo_cells.specs.Agreeing.{Agrees, ByEachAgreeing, HasCodeAt, IsElementAt}
use Rattle.memo_cells.specs.Claiming.{ClaimsKeys, FillsCells}
use Rattle.memo_cells.specs.Standing.{IsPassOf}
use Rattle.memo_cells.specs.Views.{Has}
use Rattle.memo_cells.specs.Working.{ClaimsKeysFor, Held, program_at}
use Rattle.memo_cells.proofs.Agreeing.{IsOpen, agrees_before, element_later, has_code_later, own_open}
use Rattle.memo_cells.proofs.Raising.{Higher}
use Rattle.memo_cells.specs.SetRaising.{LacksWord, set_codes}
use Rattle.circular_eval.specs.declared.advancing.CircFault.{CircFault}
use Rattle.circular_eval.specs.declared.advancing.CircFault.TheVariants.{CellsFull, Memory}
use Rattle.circular_eval.specs.declared.local.Local.{Local}
use Rattle.circular_eval.specs.declared.members.Member.{Member}
use Rattle.circular_eval.specs.declared.visiting.Visited.{Visited}
use Rattle.circular_eval.specs.declared.visiting.Visited.TheVariants.{Changed, Same}
use Rattle.circular_eval.specs.Advancing.{AnswersFault}
use Rattle.circular_eval.specs.Left.{left}
use Rattle.circular_eval.specs.Local.{IsCurrent, IsLocal, IsMember, Members, local_value, with_value}
use Rattle.circular_eval.specs.Looking.{ComesTo}
use Rattle.circular_eval.specs.Rising.{AnswersRaise, IsRisen, LacksSome, MayRise, MayRiseByOne, RaisesValue}
use Rattle.circular_eval.specs.Visiting.{ComesAt, GoesOnWith, IsReady, Steps}
use Rattle.circular_eval.proofs.Admitting.{IsSame, goes_same, local_is_here, near_is, open_is, program_is}
use Rattle.circular_eval.proofs.Closing.{placed_at, value_there}
use Rattle.circular_eval.proofs.Entries.{length_changed}
use Rattle.circular_eval.proofs.Going.{claims_raised, fills_raised, member_chain}
use Rattle.circular_eval.proofs.Growing.{left_risen, local_risen}
use Rattle.circular_eval.proofs.Later.{read_later, set_later}
use Rattle.circular_eval.proofs.Lowering.{came_higher, comes, ended_typed}
use Rattle.circular_eval.proofs.ValueRaised.{value_elements}

none_some : (o : Option Slot) → o ≡ None → IsSome o → ⊥
none_some None e h = cc
none_some (Some x) e h = cc

module _ (s : System) (d : Held) (l : Local) (r : IsReady s d l) (number : ℕ) (x : CodedValue) (came : ComesAt d l number (turns.Done x)) where
  abbrev p : Program
  p = program_at d

  abbrev es : Members
  es = l.members.entries

  -- the one entry of this number
  pub one_entry : (e : CodedInstance × Member) → slice_get es number ≡ Some e → came.entry ≡ e
  one_entry e at = let both : Some came.entry ≡ Some e = sym came.at ∙ at in cc

  -- so there is one, with a cell
  pub no_member : None ≡ slice_get es number → ⊥
  no_member h = let both : None ≡ Some came.entry = h ∙ came.at in cc

  pub no_slot : (e : CodedInstance × Member) → slice_get es number ≡ Some e → e.1.slot ≡ None → ⊥
  no_slot e at none = none_some e.1.slot none (subst (λ (u : CodedInstance × Member). IsSome u.1.slot) (one_entry e at) came.placed)

  -- by a naming that agrees
  module _ (names : Naming) (agrees : Agrees p d.view.made names) where
    abbrev i : Instance
    i = instance_by p names came.entry.0

    set_here : IsLocal p names d.frame d.view l
    set_here = local_is_here s d l r names agrees

    member : IsMember p names d.frame d.view es l.start number came.entry
    member = set_here.set.members number came.entry came.at

    done : ComesTo p names d.view es i (turns.Done x)
    done = came.comes names agrees

    chain : Chain p (instance_by p names l.start) i
    chain = member_chain p names d.frame d.view l set_here number came.entry came.at

    -- a lower assignment reaches the value
    reaches : Higher p (local_value p names es) i (value_by names x)
    reaches = came_higher p names (program_is s d l r) d.view (near_is s d l r) (open_is s d l r) d.frame l.start es set_here.set i member.instance member.is_circular (value_by names x) done.0.0 done.0.1

    module _ (e : CodedInstance × Member) (at : slice_get es number ≡ Some e) (slot : Slot) (is : e.1.slot ≡ Some slot) where
      abbrev place : ℕ
      place = slot.0

      may_entry : MayRise d names i place x came.entry.1.value
      may_entry = record {
        cell = placed_at p d.frame d.view i (value_by names came.entry.1.value) came.entry.1.slot slot (ap (λ (u : CodedInstance × Member). u.1.slot) (one_entry e at) ∙ is) member.placed;
        instance = member.instance;
        is_circular = member.is_circular;
        comes = comes p names (program_is s d l r) d.view (near_is s d l r) (open_is s d l r) d.frame l.start es set_here.set i member.instance (value_by names x) done.0.0 done.0.1;
        typed = ended_typed p names (program_is s d l r) d.view (near_is s d l r) (open_is s d l r) d.frame l.start es set_here.set i member.instance (value_by names x) done.0.0 done.0.1;
        elements = done.1;
        of = member.elements;
        known = done.2;
        of_known = member.known.1;
        fits = member.fits;
        shown = member.shown;
      }

      may_by : MayRise d names i place x e.1.value
      may_by = subst (λ (u : CodedInstance × Member). MayRise d names i place x u.1.value) (one_entry e at) may_entry

      module _ (f : Held) (q : Result (Option CodedValue) CircFault) (raises : RaisesValue d f place x e.1.value q) (after : Agrees p f.view.made names) where
        own_after : IsPassOf d.frame f.view
        own_after = subst (λ (u : Frame). IsPassOf u f.view) raises.on.cells raises.on.own

        elements_after : (c : ℕ) → Has (set_codes x) c → IsElementAt p f.view.made (kind_in p i) c × HasCodeAt p f.view.made (kind_in p i) (value_by names x) c
        elements_after c there =
            let had = value_elements d names agrees i place x e.1.value may_by c there in
            (element_later p raises.on.kept.made (kind_in p i) c had.0, has_code_later p raises.on.kept.made (kind_in p i) (value_by names x) c had.1)

        claims_by : ClaimsKeys p (instance_by p names l.start) d.view f.view
        claims_by = claims_raised d.frame f.view own_after (instance_by p names l.start) i chain (local_value p names es) member.is_circular (value_by names x) reaches (set_codes x) elements_after d.view (raises.claims names after i may_by)

        fills_by : LacksWord p d.frame f.view i (set_codes x) → FillsCells p (instance_by p names l.start) d.frame f.view
        fills_by lacks = fills_raised d.frame f.view own_after (instance_by p names l.start) i chain (local_value p names es) member.is_circular (value_by names x) reaches (set_codes x) elements_after lacks

        answer_by : AnswersRaise p names d.frame f.view i x e.1.value q
        answer_by = raises.answer names after i may_by

        -- the value isn't more
        current_by : IsAtMost (value_by names x) (value_by names e.1.value) → (c : CodedInstance × Member) → slice_get es number ≡ Some c → IsCurrent p names f.view es (instance_by p names c.0)
        current_by most c there =
            let here : local_value p names es i ≡ value_by names came.entry.1.value = value_there p names es set_here.set.different number came.entry came.at in
            let same : local_value p names es i ≡ value_by names e.1.value = here ∙ ap (λ (u : CodedInstance × Member). value_by names u.1.value) (one_entry e at) in
            subst (λ (u : CodedInstance × Member). IsCurrent p names f.view es (instance_by p names u.0)) (one_entry c there)
            (record { value = value_by names x; demands = done.0.0; ends = ends_more (read_later p names d.view f.view raises.on.kept es) done.0.1; below = subst (λ (v : Value). IsAtMost (value_by names x) v) (sym same) most })

  module _ (e : CodedInstance × Member) (at : slice_get es number ≡ Some e) (slot : Slot) (is : e.1.slot ≡ Some slot) where
    pub may_rise : MayRiseByOne d slot.0 x e.1.value
    may_rise =
        let some = naming_by_makers p d.view.made in
        (some, open_is s d l r, (instance_by p some came.entry.0, may_by some (open_is s d l r) e at slot is))

    module _ (f : Held) (q : Result (Option CodedValue) CircFault) (raises : RaisesValue d f slot.0 x e.1.value q) where
      -- one that agrees now did before
      before : {names : Naming} → Agrees p f.view.made names → Agrees p d.view.made names
      before agrees = agrees_before p raises.on.kept.made agrees

      claims : ClaimsKeysFor d f l.start
      claims names agrees = claims_by names (before agrees) e at slot is f q raises agrees

      answered : ByEachAgreeing p f.view.made (λ names. AnswersRaise p names d.frame f.view (instance_by p names came.entry.0) x e.1.value q)
      answered names agrees = answer_by names (before agrees) e at slot is f q raises agrees

      goes : (m : Local) → IsSame l m → GoesOnWith d f l m
      goes m same = goes_same s d l r f raises.on claims m same

      fault_answer : (fault : CircFault) → ByEachAgreeing p f.view.made (λ names. LacksSome p d.frame f.view (instance_by p names came.entry.0) (set_codes x) fault) → AnswersFault p l.start d.frame f.view fault
      fault_answer CellsFull lacks = λ names agrees. fills_by names (before agrees) e at slot is f q raises agrees (lacks names agrees)
      fault_answer Memory lacks = tt

      -- a fault
      pub absorb_refused : (fault : CircFault) → q ≡ Err fault → (y : Result (Option Visited) CircFault) → y ≡ Err fault → Steps d f l l number y
      absorb_refused fault is_fault y h =
          subst (λ (z : Result (Option Visited) CircFault). Steps d f l l number z) (sym h)
          (record {
            goes = goes l (record { start = refl; entries = refl; need = refl; saved = refl });
            answer = fault_answer fault (subst (λ (z : Result (Option CodedValue) CircFault). ByEachAgreeing p f.view.made (λ names. AnswersRaise p names d.frame f.view (instance_by p names came.entry.0) x e.1.value z)) is_fault answered);
          })

      pub absorb_same : q ≡ Ok None → Steps d f l l number (Ok (Some Same))
      absorb_same none = record {
        goes = goes l (record { start = refl; entries = refl; need = refl; saved = refl });
        answer = record {
          members = refl;
          due = refl;
          confirmed = λ c there some names agrees.
              current_by names (before agrees) e at slot is f q raises agrees
              (subst (λ (z : Result (Option CodedValue) CircFault). AnswersRaise p names d.frame f.view (instance_by p names came.entry.0) x e.1.value z) none (answered names agrees)) c there;
        };
      }

      -- it rose
      module _ (both : CodedValue) (some : q ≡ Ok (Some both)) (m : Local) (start : m.start ≡ l.start) (need : m.need ≡ l.need) (saved : m.saved ≡ None) (entries : m.members.entries ≡ with_value es number both) where
        risen : ByEachAgreeing p f.view.made (λ names. IsRisen p names f.view (instance_by p names came.entry.0) x e.1.value both)
        risen names agrees = subst (λ (z : Result (Option CodedValue) CircFault). AnswersRaise p names d.frame f.view (instance_by p names came.entry.0) x e.1.value z) some (answered names agrees)

        risen_goes : GoesOnWith d f l m
        risen_goes = record {
          on = raises.on;
          local = λ names agrees.
              let rose = risen names agrees in
              local_risen p names d.frame f.view l (set_later p d.view f.view raises.on.kept d.frame l (local_is_here s d l r) names agrees) number both came.entry came.at came.placed rose.elements rose.known rose.fits (inl rose.shown) m start need saved entries;
          start = start;
          claims = claims;
          some = λ h. subst (λ (k : ℕ). 0 < k) (sym (ap length entries ∙ length_changed es number both)) h;
        }

        risen_left : left m.members.entries < left es
        risen_left =
            let by : IsOpen p f.view.made = own_open d.frame f.view [] (subst (λ (u : Frame). IsPassOf u f.view) raises.on.cells raises.on.own) in
            subst (λ (u : Members). left u < left es) (sym entries) (left_risen es number both e at (risen (naming_by_makers p f.view.made) by).more)

        pub absorb_changed : Steps d f l m number (Ok (Some Changed))
        absorb_changed = record { goes = risen_goes; answer = risen_left }

        pub absorb_late : (y : Result (Option Visited) CircFault) → y ≡ Err Memory → Steps d f l m number y
        absorb_late y h = subst (λ (z : Result (Option Visited) CircFault). Steps d f l m number z) (sym h) (record { goes = risen_goes; answer = tt })
