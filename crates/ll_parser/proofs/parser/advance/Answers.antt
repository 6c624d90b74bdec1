use Rattle.std.proofs.Common.{reverse, Ok, ap, subst, arith}
use Rattle.ll_parser.proofs.Coding.{adds_shifts, moved, empty_of, kept_moves}
use Rattle.ll_parser.proofs.Steps.{leads_goes, ready_goes, cost_less, leads_shifts, ready_shifts, over_shifts, leads_stops, leads_empty}
use Rattle.ll_parser.specs.Stack.{rows_of, choice_of, Leads}
use Rattle.ll_parser.proofs.parser.advance.Goals as goal

pub steps-smaller : goal.steps-smaller
steps-smaller g c =
    let m = moved c.steps.stack.items c.pop.new.self.items c.in-Some.ensures.items (ap Ok c.in-Ok-Goes.field-0-is) c.in-Ok-Goes.ensures in
    cost_less (rows_of c.args.table.now) c.args.n (choice_of c.args.table.now.choice.now) g.facts c.requires.0 m

pub steps-preserved : goal.steps-preserved
steps-preserved g c =
    let m = moved c.steps.stack.items c.pop.new.self.items c.in-Some.ensures.items (ap Ok c.in-Ok-Goes.field-0-is) c.in-Ok-Goes.ensures in
    let i = c.steps.invariant in
    record {
      leads = leads_goes (rows_of c.args.table.now) c.args.n (choice_of c.args.table.now.choice.now) g.facts c.requires.0 i.leads i.ready m;
      kept = kept_moves i.kept m;
      ready = ready_goes (rows_of c.args.table.now) c.args.n (choice_of c.args.table.now.choice.now) g.facts c.requires.0 i.ready m;
    }

pub returns-in-Ok-Shifts : goal.returns-in-Ok-Shifts
returns-in-Ok-Shifts g c =
    let m = moved c.steps.stack.items c.pop.new.self.items c.in-Some.ensures.items (ap Ok c.in-Ok-Shifts.field-0-is) c.in-Ok-Shifts.ensures in
    let i = c.steps.invariant in (
      leads_shifts (rows_of c.args.table.now) c.args.n (choice_of c.args.table.now.choice.now) g.facts c.requires.0 i.leads m,
      ready_shifts (rows_of c.args.table.now) c.args.n (choice_of c.args.table.now.choice.now) g.facts c.requires.0 i.ready m,
      over_shifts (rows_of c.args.table.now) c.args.n (choice_of c.args.table.now.choice.now) g.facts c.requires.0 i.ready m,
      adds_shifts i.kept m,
    )

pub returns-in-Ok-Stops : goal.returns-in-Ok-Stops
returns-in-Ok-Stops g c =
    let m = moved c.steps.stack.items c.pop.new.self.items c.in-Some.ensures.items (ap Ok c.in-Ok-Stops.field-0-is) c.in-Ok-Stops.ensures in
    let i = c.steps.invariant in
    (leads_stops (rows_of c.args.table.now) c.args.n (choice_of c.args.table.now.choice.now) g.facts c.requires.0 i.leads i.ready m, kept_moves i.kept m)

pub returns : goal.returns
returns g c =
    let e = empty_of c.steps.stack.items (omega (arith, c.steps.stack.ok.0, c.in_default.ensures.cases.0)) in
    (leads_empty (rows_of c.args.table.now) c.args.n (choice_of c.args.table.now.choice.now) g.facts c.requires.0 (subst (λ s. Leads (rows_of c.args.table.now) c.args.t (reverse c.args.stack.now.items) c.args.events.now.items s c.steps.events.items) e c.steps.invariant.leads), c.steps.invariant.kept)
