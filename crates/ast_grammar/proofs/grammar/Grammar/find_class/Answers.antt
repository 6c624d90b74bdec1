use Rattle.std.proofs.Common.{List, ap, sym, ◌∙◌, ◌+◌, ◌-◌, ◌≡◌, arith}
use Rattle.std.specs.Option.{option_map}
use Rattle.ast_grammar.specs.Grammar.{Class, number_of, class_named}
use Rattle.ast_grammar.proofs.Kept.{class_found, class_outside, class_unknown}
use Rattle.ast_grammar.proofs.grammar.Grammar.find_class.Goals as goal
use Rattle.ast_grammar.proofs.grammar.Grammar.find_class.Goals.{then-number-eq0-via-then-number-eq0, then-number-eq0-via-else-number-eq0+then-len-number}

pub returns-in_err-number-clause-number : goal.returns-in_err-number-clause-number
returns-in_err-number-clause-number c =
    ap (option_map number_of) c.from_residual.ensures
    ∙ sym (class_unknown c.self.inside.names c.self.inside.subclasses c.self.inside.classes.items c.self.invariant c.args.name.now (sym c.find.ensures.value ∙ c.in_err-number.was))
    ∙ ap (λ (g : List Class). class_named g c.args.name.now) c.self.view_is

pub returns-then-number-eq0-clause-number : goal.returns-then-number-eq0-clause-number
returns-then-number-eq0-clause-number c =
    let outside = class_outside c.self.inside.names c.self.inside.subclasses c.self.inside.classes.items c.self.invariant c.args.name.now c.in_ok-number.number (sym c.find.ensures.value ∙ c.in_ok-number.was) in
    elim c.then-number-eq0.branch [
      | then-number-eq0-via-then-number-eq0 w ↦ sym (outside (λ k within same. omega arith)) ∙ ap (λ (g : List Class). class_named g c.args.name.now) c.self.view_is
      | then-number-eq0-via-else-number-eq0+then-len-number w ↦ sym (outside (λ k within same. omega arith)) ∙ ap (λ (g : List Class). class_named g c.args.name.now) c.self.view_is
    ]

pub returns-clause-number : goal.returns-clause-number
returns-clause-number c =
    let number = c.in_ok-number.number in
    let behind : number ≡ (number - 1) + 1 = omega (arith, c.if-number-eq0.false) in
    sym (class_found c.self.inside.names c.self.inside.subclasses c.self.inside.classes.items c.self.invariant c.args.name.now (number - 1) number (sym c.find.ensures.value ∙ c.in_ok-number.was) behind (omega (arith, c.len.ensures)))
    ∙ ap (λ (g : List Class). class_named g c.args.name.now) c.self.view_is
