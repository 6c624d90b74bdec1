-- One turn: what it claims, its faults, and what it leads to.
use Rattle.std.proofs.Common.{◌≡◌, Bool, false, true, Option, Some, None, Result, Ok, Err, refl, sym, ap, subst, ◌∙◌}
use Rattle.std.specs.Result.{IsErr, IsErrAnd, IsOk}
use Rattle.solutions.specs.Leading.{more, none}
use Rattle.equation_law.specs.declared.coding.Instance.{Instance as CodedInstance}
use Rattle.equation_law.specs.Checked.{IsInstance, IsProgram}
use Rattle.equation_law.specs.Codes.{Naming, instance_by, instance_of, source_names}
use Rattle.equation_law.specs.Equations.{HasValue, equations_of, is_declared}
use Rattle.equation_law.specs.Loops.{Leads}
use Rattle.equation_law.specs.Names.{Instance}
use Rattle.equation_law.specs.Program.{Program, text_of}
use Rattle.equation_law.specs.Systems.{program_of}
use Rattle.equation_law.proofs.Declared.{as_declared}
use Rattle.equation_law.proofs.Demanded.{met_instances}
use Rattle.equation_law.proofs.QueryValues.{value_typed}
use Rattle.expr_eval.specs.declared.sites.Turn.TheVariants as turns
use Rattle.memo_cells.specs.declared.view.Frame.{Frame}
use Rattle.memo_cells.specs.declared.view.View.{View}
use Rattle.memo_cells.specs.Standing.{IsPassOf, Knows}
use Rattle.memo_cells.specs.Agreeing.{Agrees, ByEachAgreeing}
use Rattle.memo_cells.proofs.Claiming.{fills_more}
use Rattle.circular_eval.specs.declared.advancing.CircFault.{CircFault}
use Rattle.circular_eval.specs.declared.advancing.CircFault.TheVariants as set_fault
use Rattle.circular_eval.specs.declared.local.Local.{Local}
use Rattle.circular_eval.specs.Advancing.{AnswersFault as AnswersCircular, IsMissing}
use Rattle.circular_eval.specs.Local.{IsLocal}
use Rattle.circular_eval.proofs.Tied.{declared_same}
use Rattle.caller_pass.specs.declared.faults.AskFault.{AskFault}
use Rattle.caller_pass.specs.declared.faults.AskFault.TheVariants.{CellsFull, Circular, Memory}
use Rattle.caller_pass.specs.Answering.{AnswersFinish, AnswersStep, IsNext, IsSameFault}
use Rattle.caller_pass.specs.Holding.{IsInstanceByEach}
use Rattle.caller_pass.specs.Knowing.{TurnsTo}
use Rattle.caller_pass.specs.Waiting.{IsLocalFrom, IsWay}
use Rattle.caller_pass.proofs.Knowing.{halts_meets, halts_unknown, stuck_leads}

-- a fault that is handed on
pub err_is : {X E : Type 0} (P : Result X E → Type 0) (Q : E → Type 0) (r : Result X E) → IsErr r × IsErrAnd r Q → ((e : E) → Q e → P (Err e)) → P r
err_is P Q (Ok x) h f = let missing = h.0 in cc
err_is P Q (Err e) h f = f e h.1

-- a fault is no success
pub not_ok : {A X E : Type 0} (r : Result X E) → IsErr r → IsOk r → A
not_ok (Ok x) h ok = cc
not_ok (Err e) h ok = cc

-- the fault of a local set that it demands
pub local_fault : (p : Program) (names : Naming) (f : Frame) (v : View) → Agrees p v.made names → (i : Instance) (s : CodedInstance) (old new : Option Local) (from : CircFault) (e : AskFault) → Leads p i (instance_by p names s) → AnswersCircular p s f v from → IsSameFault from e → AnswersStep p names f v i old new (Err e)
local_fault p names f v named i s old new set_fault.CellsFull e led a is = subst (λ (x : AskFault). AnswersStep p names f v i old new (Err x)) (sym is) (fills_more p i (instance_by p names s) f v (more led none) (a names named))
local_fault p names f v named i s old new set_fault.Memory e led a is = subst (λ (x : AskFault). AnswersStep p names f v i old new (Err x)) (sym is) tt

pub memory_step : (p : Program) (names : Naming) (f : Frame) (v : View) (i : Instance) (old new : Option Local) (e : AskFault) → e ≡ Memory → AnswersStep p names f v i old new (Err e)
memory_step p names f v i old new e is = subst (λ (x : AskFault). AnswersStep p names f v i old new (Err x)) (sym is) tt

-- that of settling
pub finish_step : (p : Program) (names : Naming) (f : Frame) (v : View) (i : Instance) (old new : Option Local) (e : AskFault) → AnswersFinish p f v i (Err e) → AnswersStep p names f v i old new (Err e)
finish_step p names f v i old new (Circular on chain) a = a
finish_step p names f v i old new CellsFull a = a
finish_step p names f v i old new Memory a = tt

-- what its local set needs
pub next_local : (p : Program) (names : Naming) (f : Frame) (v : View) (i : Instance) (l : Local) (n : CodedInstance) → Leads p i (instance_by p names l.start) → IsLocal p names f v l → IsMissing p names v l n → IsNext p names f v i (Some l) n
next_local p names f v i l n led local missing = record {
  instance = missing.instance;
  coded = missing.coded;
  known = missing.known;
  undeclared = missing.undeclared;
  unknown = missing.unknown;
  waits = (led, local, record { number = missing.number; coded = n; noted = missing.noted; is = refl }, missing.reached);
}

-- what its equation demands where it is stuck, by each naming that agrees
module _ (p : Program) (good : IsProgram p) (f : Frame) (same : p ≡ program_of f.system.value) (v : View) (own : IsPassOf f v) (i : CodedInstance) (instance : IsInstanceByEach p v i) (n : CodedInstance) (need : ByEachAgreeing p v.made (λ names. TurnsTo p names v (instance_by p names i) (Ok (turns.Need n)))) where
  module _ (names : Naming) (named : Agrees p v.made names) where
    stuck : TurnsTo p names v (instance_by p names i) (Ok (turns.Need n))
    stuck = need names named

    need_leads : Leads p (instance_by p names i) (instance_by p names n)
    need_leads = stuck_leads p v (instance_by p names i) (instance_by p names n) stuck.0 stuck.1

    pub need_instance : IsInstance p (instance_by p names n)
    need_instance = met_instances p good (instance_by p names i) (instance_by p names n) (instance names named) (HasValue p) (λ j w q a. value_typed p good j q w a) (halts_meets (λ k x a. a.1) stuck.1)

    need_unknown : ¬ Knows p v (instance_by p names n)
    need_unknown = halts_unknown p f v ((equations_of p).equation (instance_by p names i)) (instance_by p names n) stuck.0 same own stuck.1

    need_declared : (b : Bool) → is_declared p (instance_of p n) ≡ b → (equations_of p).circular (instance_by p names n) ≡ b
    need_declared b is = as_declared p good (instance_by p names n) need_instance ∙ declared_same p names (source_names (text_of p)) n ∙ is

  -- it waits for that, or a local set does
  pub next_need : is_declared p (instance_of p n) ≡ false → ByEachAgreeing p v.made (λ names. IsNext p names f v (instance_by p names i) None n)
  next_need plain names named = record {
    instance = need_instance names named;
    coded = (stuck names named).2;
    known = (stuck names named).3;
    undeclared = need_declared names named false plain;
    unknown = need_unknown names named;
    waits = need_leads names named;
  }

  pub way_need : is_declared p (instance_of p n) ≡ true → (l : Local) → l.start ≡ n → IsLocalFrom n l → ByEachAgreeing p v.made (λ names. IsWay p names f v (instance_by p names i) l)
  way_need declared l start local names named =
      let is = ap (instance_by p names) start in
      record {
        local = local p names f v (need_instance names named) (stuck names named).2 (stuck names named).3 (need_declared names named true declared);
        led = subst (λ (j : Instance). Leads p (instance_by p names i) j) (sym is) (need_leads names named);
        unknown = subst (λ (j : Instance). ¬ Knows p v j) (sym is) (need_unknown names named);
      }
