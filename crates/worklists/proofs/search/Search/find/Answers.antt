use Rattle.std.proofs.Common.{◌∙◌, Some, ap, false, refl, true}
use Rattle.worklists.proofs.Marks.{read_at, set_there}
use Rattle.worklists.proofs.Searching.{finds_one}
use Rattle.worklists.proofs.search.Search.find.Goals as goal

pub returns-clause-finds : goal.returns-clause-finds
returns-clause-finds c =
    finds_one c.args.self.now _ c.args.number (read_at c.args.self.now.found.items c.args.self.now.found.items c.args.number c.in-Some.found.now refl c.in-Some.ensures.item.0 c.in-Some.ensures.item.1 ∙ ap Some c.if-found.false) refl c.in-Ok.ensures.items

pub returns-clause-found : goal.returns-clause-found
returns-clause-found c low =
    set_there c.args.self.now.found.items c.args.number true false (read_at c.args.self.now.found.items c.args.self.now.found.items c.args.number c.in-Some.found.now refl c.in-Some.ensures.item.0 c.in-Some.ensures.item.1 ∙ ap Some c.if-found.false)
