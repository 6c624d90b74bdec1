use Rattle.std.proofs.Common.{◌≡◌, true, false, sym, ap, subst, ◌∙◌}
use Rattle.equation_law.specs.declared.system.System.{System}
use Rattle.equation_law.specs.Codes.{instance_by, instance_of, source_names}
use Rattle.equation_law.specs.Equations.{is_declared}
use Rattle.equation_law.specs.Program.{text_of}
use Rattle.equation_law.specs.Systems.{program_of}
use Rattle.equation_law.proofs.Declared.{as_declared}
use Rattle.memo_cells.specs.Working.{Held, program_at}
use Rattle.circular_eval.proofs.Tied.{declared_same}
use Rattle.caller_pass.proofs.asking.settle.Goals as goal

pub close-requires-clause-is_circular : goal.close-requires-clause-is_circular
close-requires-clause-is_circular g c =
    let p = program_at c.args.desk.now in
    let here = subst (λ (s : System). is_declared (program_of s) (instance_of (program_of s) c.args.i) ≡ true) (sym c.desk.invariant.1 ∙ ap (λ (h : Held). h.frame.system.value) c.desk.view_is) (sym c.is_declared.ensures ∙ c.if-is_declared.true) in
    λ names named. as_declared p c.requires.program (instance_by p names c.args.i) (c.requires.instance names named) ∙ declared_same p names (source_names (text_of p)) c.args.i ∙ here

pub solve_unless_noted-requires-clause-undeclared : goal.solve_unless_noted-requires-clause-undeclared
solve_unless_noted-requires-clause-undeclared g c =
    let p = program_at c.args.desk.now in
    let here = subst (λ (s : System). is_declared (program_of s) (instance_of (program_of s) c.args.i) ≡ false) (sym c.desk.invariant.1 ∙ ap (λ (h : Held). h.frame.system.value) c.desk.view_is) (sym c.is_declared.ensures ∙ c.if-is_declared.false) in
    λ names named. as_declared p c.requires.program (instance_by p names c.args.i) (c.requires.instance names named) ∙ declared_same p names (source_names (text_of p)) c.args.i ∙ here
