use Rattle.std.proofs.Common.{◌<◌, [], Err, ap, sym, subst, ◌∙◌}
use Rattle.attr_rules.specs.declared.kinds.Kind.{Kind}
use Rattle.attr_rules.specs.Rules.{is_single}
use Rattle.equation_law.specs.Codes.{instance_by, source_names, value_by}
use Rattle.equation_law.specs.Program.{Program, text_of}
use Rattle.equation_law.specs.Systems.{program_of}
use Rattle.equation_law.proofs.Pooled.{first_text}
use Rattle.made_trees.specs.Made.{naming_by_makers}
use Rattle.memo_cells.specs.declared.view.Frame.{Frame}
use Rattle.memo_cells.specs.Agreeing.{Agrees}
use Rattle.memo_cells.specs.Claiming.{ClaimsKeys}
use Rattle.memo_cells.specs.Naming.{IsCellOf}
use Rattle.memo_cells.specs.Showing.{ShowsAtLeast}
use Rattle.memo_cells.specs.Standing.{Knows, MaySettle}
use Rattle.memo_cells.specs.Working.{GoesOn, Held, program_at}
use Rattle.memo_cells.proofs.Agreeing.{agrees_before, own_open, value_known_later}
use Rattle.memo_cells.proofs.Claiming.{claims_same, claims_then}
use Rattle.memo_cells.proofs.Holding.{goes_then, own_then}
use Rattle.memo_cells.proofs.Naming.{cell_later}
use Rattle.solutions.specs.Leading.{none}
use Rattle.caller_pass.specs.declared.faults.AskFault.{AskFault}
use Rattle.caller_pass.specs.Answering.{AnswersFinish}
use Rattle.caller_pass.specs.Noting.{IsNoted}
use Rattle.caller_pass.proofs.Noted.{ended_noted}
use Rattle.caller_pass.proofs.Knowing.{kind_each, may_settle}
use Rattle.caller_pass.proofs.Stepping.{err_is}
use Rattle.caller_pass.proofs.turns.finish.Goals as goal

pub returns-in_err-show-clause-answer : goal.returns-in_err-show-clause-answer
returns-in_err-show-clause-answer c = λ names named.
    let d = c.args.desk.now in
    let p = program_at d in
    let v = c.show.new.desk.view in
    let i = instance_by p names c.args.i in
    err_is (AnswersFinish p d.frame v i) _ c.from_residual.result c.from_residual.ensures (λ e is. subst (λ (x : AskFault). AnswersFinish p d.frame v i (Err x)) (sym is) (c.in_err-show.ensures.answer names named))

pub settle-requires-clause-slot : goal.settle-requires-clause-slot
settle-requires-clause-slot c =
    let p = program_at c.args.desk.now in
    let d = c.args.desk.now in
    let cell = c.requires.slot (naming_by_makers p d.view.made) (own_open d.frame d.view [] c.requires.own) in
    subst (λ (f : Frame). c.args.slot.0 < f.cells) (sym c.in_ok-show.ensures.on.cells) cell.1.0

pub settle-requires-clause-code : goal.settle-requires-clause-code
settle-requires-clause-code c =
    let d = c.args.desk.now in
    let e = c.show.new.desk in
    let p = program_at d in
    let on = c.in_ok-show.ensures.on in
    let names = naming_by_makers p e.view.made in
    let named = own_open d.frame e.view [] (own_then d e on) in
    let before = agrees_before p on.kept.made named in
    let i = instance_by p names c.args.i in
    let x = c.args.value.now in
    let same = sym (sym c.desk.invariant.1 ∙ ap (λ (h : Held). h.frame.system.value) c.desk.view_is ∙ ap (λ (g : Frame). g.system.value) on.cells) in
    let kinds = kind_each d c.desk.inside.system.now c.args.i c.kind_of-kind.result same c.kind_of-kind.ensures names before in
    let cell = cell_later d.view e.view on.kept p d.frame i c.args.slot.0 (c.requires.slot names before) in
    subst (λ (g : Frame). MaySettle (program_of g.system.value) e.view c.args.slot.0 c.code.result) (sym on.cells)
    (may_settle p names d.frame d.view e.view named i c.args.slot.0 c.code.result c.kind_of-kind.result x (own_then d e on).approximations (c.requires.instance names before) on.kept cell (c.requires.ended names before) (c.requires.undeclared names before) kinds
    (c.code.ensures.value names (first_text d.frame.system.value)) (c.code.ensures.value (source_names (text_of p)) (first_text d.frame.system.value)) c.code.ensures.small c.code.type_inv
    (λ single. subst (λ (k : Kind). ShowsAtLeast p e.view i k (value_by names x)) (sym kinds) (c.in_ok-show.ensures.answer names named (ap is_single (sym kinds) ∙ single))))

pub note_set-requires : goal.note_set-requires
note_set-requires c =
    let d = c.args.desk.now in
    let p = program_at d in
    let x = c.args.value.now in
    let on = c.in_ok-show.ensures.on in
    let made = on.kept.made in
    let then = c.settle.ensures.on.on.kept.made in
    subst (λ (q : Program). IsNoted q c.settle.new.self.view.made c.args.i x) (ap (λ (g : Frame). program_of g.system.value) (sym on.cells ∙ sym c.settle.ensures.on.on.cells))
    (λ _. (
      (λ names named.
          let before = agrees_before p made (agrees_before p then named) in
          ended_noted p c.requires.own.bare names d.view (instance_by p names c.args.i) x c.requires.program (c.requires.instance names before) (c.requires.ended names before)),
      value_known_later p then x (value_known_later p made x (c.requires.ended (naming_by_makers p d.view.made) (own_open d.frame d.view [] c.requires.own)).nodes),
    ))

pub returns-clause-on : goal.returns-clause-on
returns-clause-on c = subst (λ (e : Held). GoesOn c.args.desk.now e) (sym c.note_set.ensures) (goes_then c.args.desk.now c.show.new.desk c.settle.new.self c.in_ok-show.ensures.on c.settle.ensures.on.on)

pub returns-clause-claims : goal.returns-clause-claims
returns-clause-claims c = λ names named.
    let d = c.args.desk.now in
    let p = program_at d in
    let here = subst (λ (e : Held). Agrees p e.view.made names) c.note_set.ensures named in
    let i = instance_by p names c.args.i in
    subst (λ (e : Held). ClaimsKeys p i d.view e.view) (sym c.note_set.ensures)
    (claims_then p i i d.view c.show.new.desk.view c.settle.new.self.view none (c.in_ok-show.ensures.claims names (agrees_before p c.settle.ensures.on.on.kept.made here)) c.settle.ensures.on.on.kept (claims_same p i c.show.new.desk.view c.settle.new.self.view c.settle.ensures.on.claims))

pub returns-clause-answer : goal.returns-clause-answer
returns-clause-answer c = λ names named.
    let d = c.args.desk.now in
    let e = c.show.new.desk in
    let p = program_at d in
    let here = subst (λ (h : Held). Agrees p h.view.made names) c.note_set.ensures named in
    let i = instance_by p names c.args.i in
    let on = c.in_ok-show.ensures.on in
    let cell = cell_later d.view e.view on.kept p d.frame i c.args.slot.0 (c.requires.slot names (agrees_before p on.kept.made (agrees_before p c.settle.ensures.on.on.kept.made here))) in
    subst (λ (h : Held). Knows p h.view i) (sym c.note_set.ensures)
    (subst (λ (g : Frame). Knows (program_of g.system.value) c.settle.new.self.view i) on.cells
    (c.settle.ensures.known i (subst (λ (g : Frame). IsCellOf (program_of g.system.value) g e.view i c.args.slot.0) (sym on.cells) cell)))
