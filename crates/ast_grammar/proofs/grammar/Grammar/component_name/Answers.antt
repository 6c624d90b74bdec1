use Rattle.ast_grammar.proofs.Kept.{component_name_kept, component_named_kept}
use Rattle.ast_grammar.proofs.grammar.Grammar.component_name.Goals as goal

pub get-requires : goal.get-requires
get-requires c =
    component_name_kept c.self.inside.names c.self.inside.subclasses c.self.inside.classes.items c.self.invariant c.args.class.0 c.index-kept.result.now c.self.view_is c.requires.known c.index-kept.ensures c.args.k c.index.result.now c.requires.within c.index.ensures

pub returns : goal.returns
returns c =
    component_named_kept c.self.inside.names c.self.inside.subclasses c.self.inside.classes.items c.self.invariant c.args.class.0 c.index-kept.result.now c.self.view_is c.requires.known c.index-kept.ensures c.args.k c.index.result.now c.requires.within c.index.ensures
    c.get.result.now c.get.ensures.text
