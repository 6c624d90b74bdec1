use Rattle.std.proofs.Common.{ap, arith, length, sym, ◌∙◌}
use Rattle.ast_grammar.proofs.Kept.{component_found, component_unknown, short_kept}
use Rattle.ast_grammar.proofs.grammar.Grammar.find_component.Goals as goal

pub returns-in_err-number : goal.returns-in_err-number
returns-in_err-number c =
    c.from_residual.ensures
    ∙ sym (component_unknown c.self.inside.names c.self.inside.subclasses c.self.inside.classes.items c.args.class.0 c.args.name.now c.self.invariant c.self.view_is c.requires (sym c.find.ensures.value ∙ c.in_err-number.was))

pub returns-in_err-found : goal.returns-in_err-found
returns-in_err-found c =
    c.from_residual-in_err-found.ensures ∙ sym c.in_err-found.was
    ∙ component_found c.self.inside.names c.self.inside.subclasses c.self.inside.classes.items c.args.class.0 c.args.name.now c.index.result.now c.in_ok-number.number c.self.invariant c.self.view_is c.requires c.index.ensures (sym c.find.ensures.value ∙ c.in_ok-number.was)
    c.deref.ensures.value c.place_of.ensures.first

pub overflow_cast-result : goal.overflow_cast-result
overflow_cast-result c =
    omega (arith, c.in_ok-found.ensures.within, ap length c.deref.ensures.value, short_kept c.self.inside.names c.self.inside.subclasses c.self.inside.classes.items c.self.invariant c.args.class.0 c.index.result.now c.self.view_is c.requires c.index.ensures)

pub returns : goal.returns
returns c =
    sym c.in_ok-found.was
    ∙ component_found c.self.inside.names c.self.inside.subclasses c.self.inside.classes.items c.args.class.0 c.args.name.now c.index.result.now c.in_ok-number.number c.self.invariant c.self.view_is c.requires c.index.ensures (sym c.find.ensures.value ∙ c.in_ok-number.was)
    c.deref.ensures.value c.place_of.ensures.first
