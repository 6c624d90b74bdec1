-- Going on by what the equation of a member is stuck at.
use Rattle.std.proofs.Common.{◌≡◌, ℕ, ◌<◌, Bool, true, false, [], Option, Some, None, Result, Ok, Err, length, refl, sym, ap, subst, ◌∙◌}
use Rattle.std.proofs.lemmas.Option.{slice_get_within}
use Rattle.solutions.specs.Asking.{Halts}
use Rattle.solutions.proofs.Looping.{halts_meets}
use Rattle.equation_law.specs.declared.coding.Instance.{Instance as CodedInstance}
use Rattle.equation_law.specs.declared.coding.TreeImage.{TreeImage}
use Rattle.equation_law.specs.declared.system.System.{System}
use Rattle.equation_law.specs.Checked.{IsInstance}
use Rattle.equation_law.specs.Codes.{Naming, instance_by, instance_of, source_names}
use Rattle.equation_law.specs.Equations.{equations_of, is_declared}
use Rattle.equation_law.specs.Loops.{Chain, Leads}
use Rattle.equation_law.specs.Names.{Instance}
use Rattle.equation_law.specs.Program.{Program, text_of}
use Rattle.equation_law.specs.Systems.{program_of}
use Rattle.equation_law.specs.Values.{Value}
use Rattle.equation_law.proofs.Declared.{as_declared}
use Rattle.expr_eval.specs.declared.sites.Turn.{Turn}
use Rattle.expr_eval.specs.declared.sites.Turn.TheVariants as turns
use Rattle.made_trees.specs.Made.{naming_by_makers}
use Rattle.memo_cells.specs.Agreeing.{Agrees}
use Rattle.memo_cells.specs.Standing.{Knows}
use Rattle.memo_cells.specs.Working.{Held, IsKnownAt, IsOwn, program_at}
use Rattle.memo_cells.proofs.Agreeing.{own_open}
use Rattle.memo_cells.proofs.Claiming.{chain_more, claims_same}
use Rattle.circular_eval.specs.declared.advancing.CircFault.{CircFault}
use Rattle.circular_eval.specs.declared.local.Local.{Local}
use Rattle.circular_eval.specs.declared.visiting.Visited.{Visited}
use Rattle.circular_eval.specs.declared.visiting.Visited.TheVariants.{Need}
use Rattle.circular_eval.specs.Advancing.{IsMissing}
use Rattle.circular_eval.specs.Local.{IsLocal, IsMember, Members, ReadsHere, here, local_value, settled}
use Rattle.circular_eval.specs.Looking.{ComesTo}
use Rattle.circular_eval.specs.Visiting.{Admits, ComesAt, IsNew, IsNewAt, IsReady, Steps}
use Rattle.circular_eval.proofs.Admitting.{local_is_here, near_is, open_is, program_is}
use Rattle.circular_eval.proofs.Going.{member_chain}
use Rattle.circular_eval.proofs.Growing.{local_needs}
use Rattle.memo_cells.proofs.Holding.{goes_itself}
use Rattle.circular_eval.proofs.Lowering.{met_is, stuck_leads}
use Rattle.circular_eval.proofs.Tied.{declared_same}

-- a step that admitted a member
pub admit_step : (d e : Held) (l m : Local) (number : ℕ) (u : Unit) → Admits d e l m (Ok u) → Steps d e l m number (Ok None)
admit_step d e l m number u h = record { goes = h.goes; answer = (h.grown, h.still) }

pub admit_refused : (d e : Held) (l m : Local) (number : ℕ) (fault : CircFault) → Admits d e l m (Err fault) → (y : Result (Option Visited) CircFault) → y ≡ Err fault → Steps d e l m number y
admit_refused d e l m number fault h y is = subst (λ (z : Result (Option Visited) CircFault). Steps d e l m number z) (sym is) (record { goes = h.goes; answer = h.fault })

-- what came, by its turn
pub turn_is : (d : Held) (l : Local) (number : ℕ) (t u : Turn) → t ≡ u → ComesAt d l number t → ComesAt d l number u
turn_is d l number t u is h = subst (λ (z : Turn). ComesAt d l number z) is h

-- no equation comes to a tree that is made
pub no_image : (d : Held) → IsOwn d → (l : Local) (number : ℕ) (t : TreeImage) → ComesAt d l number (turns.Image t) → ⊥
no_image d own l number t came = came.comes (naming_by_makers (program_at d) d.view.made) (own_open d.frame d.view [] own)

module _ (s : System) (d : Held) (l : Local) (r : IsReady s d l) (number : ℕ) (n : CodedInstance) (came : ComesAt d l number (turns.Need n)) where
  abbrev p : Program
  p = program_at d

  abbrev es : Members
  es = l.members.entries

  -- by a naming that agrees
  module _ (names : Naming) (agrees : Agrees p d.view.made names) where
    abbrev i : Instance
    i = instance_by p names came.entry.0

    abbrev j : Instance
    j = instance_by p names n

    set_here : IsLocal p names d.frame d.view l
    set_here = local_is_here s d l r names agrees

    member : IsMember p names d.frame d.view es l.start number came.entry
    member = set_here.set.members number came.entry came.at

    stuck : ComesTo p names d.view es i (turns.Need n)
    stuck = came.comes names agrees

    halting : Halts (ReadsHere p names d.view es) ((equations_of p).equation i) j stuck.0.0
    halting = stuck.0.1

    needed : IsInstance p j
    needed = met_is p names (program_is s d l r) d.view (near_is s d l r) (open_is s d l r) d.frame l.start es set_here.set i member.instance j (halts_meets halting).0

    not_read : (w : Value) → ReadsHere p names d.view es j w → ⊥
    not_read = (halts_meets halting).1

    leads : Leads p i j
    leads = stuck_leads p names (program_is s d l r) d.view (near_is s d l r) (open_is s d l r) d.frame l.start es set_here.set i member.instance member.is_circular j stuck.0.0 halting

    declared_here : (b : Bool) → b ≡ is_declared (program_of s) (instance_of (program_of s) n) → (equations_of p).circular j ≡ b
    declared_here b e =
        as_declared p (program_is s d l r) j needed ∙ declared_same p names (source_names (text_of p)) n
        ∙ subst (λ (u : System). is_declared (program_of u) (instance_of (program_of u) n) ≡ b) (sym r.same) (sym e)

    -- a circular one is met
    new_by : true ≡ is_declared (program_of s) (instance_of (program_of s) n) → IsNew p names l n (Some number)
    new_by e =
        let c = declared_here true e in
        record {
          instance = needed;
          coded = stuck.1;
          is_circular = c;
          absent = λ m. not_read (local_value p names es j) (here (sym (as_declared p (program_is s d l r) j needed) ∙ c) m);
          led = (slice_get_within es number came.entry came.at, (came.entry, came.at, leads));
        }

    -- another one is missing
    module _ (plain : false ≡ is_declared (program_of s) (instance_of (program_of s) n)) where
      undeclared : (equations_of p).circular j ≡ false
      undeclared = declared_here false plain

      not_known : ¬ Knows p d.view j
      not_known k = let v = r.own.coded k.slot k.key k.code k.settled j k.stands in not_read v.value (settled (sym (as_declared p (program_is s d l r) j needed) ∙ undeclared) (k, v.has))

      missing_by : (m : Local) → m.start ≡ l.start → m.need ≡ Some (number, n) → IsMissing p names d.view m n
      missing_by m start need = record {
        instance = needed;
        coded = stuck.1;
        known = stuck.2;
        undeclared = undeclared;
        unknown = not_known;
        reached = subst (λ (x : CodedInstance). Chain p (instance_by p names x) j) (sym start) (chain_more p (instance_by p names l.start) i j (member_chain p names d.frame d.view l set_here number came.entry came.at) leads);
        number = number;
        noted = need;
      }

  need_known : IsKnownAt d n
  need_known = (came.comes (naming_by_makers p d.view.made) (open_is s d l r)).2

  pub need_new : true ≡ is_declared (program_of s) (instance_of (program_of s) n) → IsNewAt d l n (Some number)
  need_new e = ((λ names agrees. new_by names agrees e), need_known)

  pub need_missing : false ≡ is_declared (program_of s) (instance_of (program_of s) n) → (m : Local) → m.start ≡ l.start → m.members ≡ l.members → m.need ≡ Some (number, n) → m.saved ≡ l.saved → Steps d d l m number (Ok (Some (Need n)))
  need_missing plain m start members need saved = record {
    goes = record {
      on = goes_itself d r.own;
      local = λ names agrees. local_needs p names d.frame d.view l m number n came.entry came.at (leads names agrees) start members need saved (local_is_here s d l r names agrees);
      start = start;
      claims = λ names agrees. claims_same p (instance_by p names l.start) d.view d.view refl;
      some = λ h. subst (λ (k : ℕ). 0 < k) (sym (ap (λ x. length x.entries) members)) h;
    };
    answer = (λ names agrees. missing_by names agrees plain m start need, ap (λ x. x.entries) members);
  }
