-- What an instance demands first, by a pass at its cells.
use Rattle.std.proofs.Common.{◌≡◌, true, List, Option, Result, Ok, refl, sym, ap, subst, ◌∙◌}
use Rattle.rag_io.specs.declared.Memory.{Memory}
use Rattle.equation_law.specs.declared.coding.Instance.{Instance as CodedInstance}
use Rattle.equation_law.specs.declared.coding.Value.{Value as CodedValue}
use Rattle.equation_law.specs.declared.system.System.{System}
use Rattle.equation_law.specs.Checked.{HasSourcesAlone, IsInstance, IsProgram}
use Rattle.equation_law.specs.Codes.{Naming, instance_by, instance_of, source_names}
use Rattle.equation_law.specs.Equations.{equations_of, is_declared}
use Rattle.equation_law.specs.Program.{Program, text_of}
use Rattle.equation_law.specs.Reading.{SettledBy}
use Rattle.equation_law.specs.Systems.{program_of}
use Rattle.equation_law.proofs.Declared.{as_declared}
use Rattle.expr_eval.specs.declared.sites.Turn.TheVariants as turns
use Rattle.expr_eval.specs.Evaluating.{AnswersTurn}
use Rattle.expr_eval.specs.Sites.{instance_reads}
use Rattle.made_trees.specs.Made.{Follow, naming_by_makers}
use Rattle.memo_cells.specs.declared.view.Frame.{Frame}
use Rattle.memo_cells.specs.Agreeing.{Agrees, IsKnownInstance}
use Rattle.memo_cells.specs.Working.{Held, IsOwn, ReadsOn, program_at, told_by}
use Rattle.memo_cells.proofs.Agreeing.{IsOpen, agrees_before, one_instance}
use Rattle.memo_cells.proofs.Holding.{reads_itself}
use Rattle.circular_eval.proofs.Knowing.{instance_back}
use Rattle.circular_eval.proofs.Tied.{declared_same}
use Rattle.caller_pass.specs.Holding.{IsInstanceByEach}
use Rattle.caller_pass.proofs.Desks.{sound_for, turned}
use Rattle.caller_pass.proofs.Stepping.{need_instance}
use Rattle.rag_tests.specs.Circular.{IsCircular}

-- the program of the cells
pub program_here : (s : System) (d e : Held) → d.frame.system.value ≡ s → ReadsOn d e → program_at e ≡ program_of s
program_here s d e same on = ap (λ (f : Frame). program_of f.system.value) on.on.cells ∙ ap program_of same

module _ (s : System) (good : IsProgram (program_of s)) (d e : Held) (same : d.frame.system.value ≡ s) (on : ReadsOn d e) (i n : CodedInstance) (instance : IsInstanceByEach (program_of s) e.view i) (answer : AnswersTurn (program_of s) (told_by e) (instance_reads (program_of s) i) (Ok (turns.Need n))) where
  abbrev p : Program
  p = program_of s

  here : p ≡ program_at e
  here = sym (program_here s d e same on)

  pub need_is : IsInstanceByEach p e.view n
  need_is = need_instance p good e.frame here e.view on.on.own i instance n (turned p e i (Ok (turns.Need n)) here (subst HasSourcesAlone (sym here) on.on.own.bare) answer)

  pub need_known : IsKnownInstance p e.view.made n
  need_known = instance_back (told_by e) e.view.made (λ c k. k) p n answer.known

  pub need_circular : is_declared p (instance_of p n) ≡ true → IsCircular p e.view.made n
  need_circular declared = record {
    instance = need_is;
    coded = answer.coded;
    known = need_known;
    is_circular = λ names named. as_declared p good (instance_by p names n) (need_is names named) ∙ declared_same p names (source_names (text_of p)) n ∙ declared;
  }

-- an instance of which less is to be known is circular where it is when more is known
pub circular_before : (p : Program) (ms ns : List CodedInstance) → Follow ms ns → IsOpen p ns → (i : CodedInstance) → IsKnownInstance p ms i → IsCircular p ns i → IsCircular p ms i
circular_before p ms ns follow stands i known is =
    let by : Naming = naming_by_makers p ns in
    let one : (names : Naming) → Agrees p ms names → instance_by p names i ≡ instance_by p by i = λ names agrees. one_instance p ms agrees (agrees_before p follow stands) i known in
    record {
      instance = λ names agrees. subst (IsInstance p) (sym (one names agrees)) (is.instance by stands);
      coded = is.coded;
      known = known;
      is_circular = λ names agrees. ap (equations_of p).circular (one names agrees) ∙ is.is_circular by stands;
    }

-- looking at an instance reads on
pub settled_on : (d e : Held) (i : CodedInstance) (r : Result (Option CodedValue) Memory) → IsOwn d → SettledBy (told_by d) (told_by e) i r → ReadsOn d e
settled_on d e i r own h = (h.kept (program_at d) (sound_for (program_at d) d own refl)).kept d (reads_itself d own)
