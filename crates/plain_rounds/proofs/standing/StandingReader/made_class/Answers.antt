use Rattle.std.proofs.Common.{◌≡◌, MatchOption, Option, refl, subst, sym}
use Rattle.ast_grammar.specs.declared.grammar.ClassId.{ClassId}
use Rattle.plain_rounds.proofs.Told.{standing_class}
use Rattle.plain_rounds.proofs.standing.StandingReader.made_class.Goals as goal

pub returns-in-Some : goal.returns-in-Some
returns-in-Some c =
    standing_class c.args.self.now c.args.node c.class_of.result c.in-Some.class c.class_of.ensures.class
    (subst (λ (o : Option ClassId). MatchOption o (c.in-Some.class.0 ≡ 65535) (λ d. c.in-Some.class ≡ d)) (sym c.in-Some.is) refl)

pub returns-in-None : goal.returns-in-None
returns-in-None c =
    let none : ClassId = record { 0 = 65535 } in
    standing_class c.args.self.now c.args.node c.class_of.result none c.class_of.ensures.class (subst (λ (o : Option ClassId). MatchOption o (none.0 ≡ 65535) (λ d. none ≡ d)) (sym c.in-None.is) refl)
