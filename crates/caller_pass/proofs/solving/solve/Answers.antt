use Rattle.std.proofs.Common.{◌++◌, [], List, Ok, refl, ap, ◌∙◌}
use Rattle.equation_law.specs.declared.coding.Instance.{Instance as CodedInstance}
use Rattle.caller_pass.specs.declared.waiting.Waiter.{Waiter}
use Rattle.caller_pass.proofs.Solved.{first_turn, next_coded, next_instance, next_known, no_cell, took_on, turn_back, turn_back_falls, turn_failed, turn_frame, turn_further, turn_further_falls, turn_leaves, turn_next, turn_next_falls, turn_on, turn_other, turn_own, turn_program, turn_solved, wait_failed, wait_on}
use Rattle.caller_pass.proofs.Stepping.{not_ok}
use Rattle.caller_pass.proofs.solving.solve.Goals as goal

pub claim_instance-requires-clause-instance : goal.claim_instance-requires-clause-instance
claim_instance-requires-clause-instance g c = c.requires.instance

pub claim_instance-requires-clause-coded : goal.claim_instance-requires-clause-coded
claim_instance-requires-clause-coded g c = c.requires.coded

pub claim_instance-requires-clause-known : goal.claim_instance-requires-clause-known
claim_instance-requires-clause-known g c = c.requires.known

pub returns-in_err-claim_instance-clause-on : goal.returns-in_err-claim_instance-clause-on
returns-in_err-claim_instance-clause-on g c = c.in_err-claim_instance.ensures.on

pub returns-in_err-claim_instance-clause-solved : goal.returns-in_err-claim_instance-clause-solved
returns-in_err-claim_instance-clause-solved g c = no_cell c.args.i c.in_err-claim_instance.ensures.on c.in_err-claim_instance.ensures.full c.in_err-claim_instance.ensures.claims c.from_residual.ensures

pub returns-in_err-claim_instance-clause-outer : goal.returns-in_err-claim_instance-clause-outer
returns-in_err-claim_instance-clause-outer g c = λ ok. not_ok c.from_residual.result c.from_residual.ensures.0 ok

pub turns-init : goal.turns-init
turns-init g c = first_turn c.args.evals.now c.requires.own c.in_ok-claim_instance.ensures.on c.requires.instance c.requires.coded c.requires.known c.requires.undeclared c.in_ok-claim_instance.ensures.slot c.in_ok-claim_instance.ensures.claims c.new-waiting.result c.new-waiting.ensures

pub step-requires-clause-program : goal.step-requires-clause-program
step-requires-clause-program g c = turn_program c.turns.invariant c.requires.program

pub step-requires-clause-own : goal.step-requires-clause-own
step-requires-clause-own g c = turn_own c.turns.invariant

pub step-requires-clause-frame : goal.step-requires-clause-frame
step-requires-clause-frame g c = turn_frame c.turns.invariant

pub returns-in_err-step-clause-on : goal.returns-in_err-step-clause-on
returns-in_err-step-clause-on g c = turn_on c.turns.invariant c.requires.program c.in_err-step.ensures.went

pub returns-in_err-step-clause-solved : goal.returns-in_err-step-clause-solved
returns-in_err-step-clause-solved g c = turn_failed c.turns.invariant c.requires.program c.in_err-step.ensures.went refl c.from_residual-in_err-step.ensures

pub returns-in_err-step-clause-outer : goal.returns-in_err-step-clause-outer
returns-in_err-step-clause-outer g c = λ ok. not_ok c.from_residual-in_err-step.result c.from_residual-in_err-step.ensures.0 ok

pub turns-smaller-in-Further : goal.turns-smaller-in-Further
turns-smaller-in-Further g c = turn_further_falls c.turns.invariant c.requires.program c.in_ok-step.ensures.went (ap Ok c.in-Further.is)

pub turns-preserved-in-Further : goal.turns-preserved-in-Further
turns-preserved-in-Further g c = turn_further c.turns.invariant c.requires.program c.in_ok-step.ensures.went (ap Ok c.in-Further.is)

pub wait_for-requires-clause-next : goal.wait_for-requires-clause-next
wait_for-requires-clause-next g c = next_instance c.turns.invariant c.requires.program c.in_ok-step.ensures.went (ap Ok c.in-Need.is)

pub wait_for-requires-clause-coded : goal.wait_for-requires-clause-coded
wait_for-requires-clause-coded g c = next_coded c.turns.invariant c.requires.program c.in_ok-step.ensures.went (ap Ok c.in-Need.is)

pub wait_for-requires-clause-known : goal.wait_for-requires-clause-known
wait_for-requires-clause-known g c = next_known c.turns.invariant c.requires.program c.in_ok-step.ensures.went (ap Ok c.in-Need.is)

pub wait_for-requires-clause-own : goal.wait_for-requires-clause-own
wait_for-requires-clause-own g c = (took_on _ _ _ _ _ _ _ _ c.in_ok-step.ensures.went).own

pub wait_for-requires-clause-other : goal.wait_for-requires-clause-other
wait_for-requires-clause-other g c = turn_other c.turns.invariant

pub returns-in_err-waiter-in-Need-clause-on : goal.returns-in_err-waiter-in-Need-clause-on
returns-in_err-waiter-in-Need-clause-on g c = wait_on c.turns.invariant c.requires.program c.in_ok-step.ensures.went (ap Ok c.in-Need.is) c.in_err-waiter-in-Need.ensures.on c.in_err-waiter-in-Need.ensures.claims

pub returns-in_err-waiter-in-Need-clause-solved : goal.returns-in_err-waiter-in-Need-clause-solved
returns-in_err-waiter-in-Need-clause-solved g c = wait_failed c.turns.invariant c.requires.program c.in_ok-step.ensures.went (ap Ok c.in-Need.is) c.in_err-waiter-in-Need.ensures.on c.in_err-waiter-in-Need.ensures.claims c.wait_for.new.waiting _ c.in_err-waiter-in-Need.field-0.0 c.in_err-waiter-in-Need.ensures.answer refl c.from_residual-in_err-waiter-in-Need.ensures

pub returns-in_err-waiter-in-Need-clause-outer : goal.returns-in_err-waiter-in-Need-clause-outer
returns-in_err-waiter-in-Need-clause-outer g c = λ ok. not_ok c.from_residual-in_err-waiter-in-Need.result c.from_residual-in_err-waiter-in-Need.ensures.0 ok

pub turns-smaller-in-Need : goal.turns-smaller-in-Need
turns-smaller-in-Need g c = turn_next_falls c.turns.invariant c.requires.program c.in_ok-step.ensures.went (ap Ok c.in-Need.is) c.in_ok-waiter-in-Need.ensures.on c.in_ok-waiter-in-Need.ensures.claims c.wait_for.new.waiting c.in_ok-waiter-in-Need.waiter c.in_ok-waiter-in-Need.ensures.answer

pub turns-preserved-in-Need : goal.turns-preserved-in-Need
turns-preserved-in-Need g c = turn_next c.turns.invariant c.requires.program c.in_ok-step.ensures.went (ap Ok c.in-Need.is) c.in_ok-waiter-in-Need.ensures.on c.in_ok-waiter-in-Need.ensures.claims c.wait_for.new.waiting c.in_ok-waiter-in-Need.waiter c.in_ok-waiter-in-Need.ensures.answer

pub returns-in-None-clause-on : goal.returns-in-None-clause-on
returns-in-None-clause-on g c = turn_on c.turns.invariant c.requires.program c.in_ok-step.ensures.went

pub returns-in-None-clause-solved : goal.returns-in-None-clause-solved
returns-in-None-clause-solved g c = turn_solved c.turns.invariant c.requires.program c.in_ok-step.ensures.went (ap Ok c.in-Settled.is) (c.in-None.ensures.last ∙ ap (λ (l : List (CodedInstance × Waiter)). l ++ []) c.in-None.ensures.none) tt

pub returns-in-None-clause-outer : goal.returns-in-None-clause-outer
returns-in-None-clause-outer g c = λ ok. turn_leaves c.turns.invariant c.requires.program c.in_ok-step.ensures.went (ap Ok c.in-Settled.is) c.requires.own (c.in-None.ensures.last ∙ ap (λ (l : List (CodedInstance × Waiter)). l ++ []) c.in-None.ensures.none)

pub look_again-requires : goal.look_again-requires
look_again-requires g c = record { own = (took_on _ _ _ _ _ _ _ _ c.in_ok-step.ensures.went).own }

pub turns-smaller : goal.turns-smaller
turns-smaller g c = turn_back_falls c.turns.invariant c.requires.program c.in_ok-step.ensures.went (ap Ok c.in-Settled.is) c.look_again.ensures.on c.pop.new.self c.in-Some.last c.in-Some.ensures.last c.in-Some.ensures.other c.look_again.new.waiter c.look_again.ensures.looked

pub turns-preserved : goal.turns-preserved
turns-preserved g c = turn_back c.turns.invariant c.requires.program c.in_ok-step.ensures.went (ap Ok c.in-Settled.is) c.look_again.ensures.on c.pop.new.self c.in-Some.last c.in-Some.ensures.last c.in-Some.ensures.other c.look_again.new.waiter c.look_again.ensures.looked
