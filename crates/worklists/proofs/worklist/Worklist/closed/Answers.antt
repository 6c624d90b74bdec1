use Rattle.std.proofs.lemmas.Result.{IfOk-weaker}
use Rattle.worklists.proofs.Searching.{others_closed}
use Rattle.worklists.proofs.worklist.Worklist.closed.Goals as goal

pub returns-clause-all : goal.returns-clause-all
returns-clause-all c worth = IfOk-weaker c.others.result _ _ (λ ks those. others_closed c.args.self.now c.args.stopped c.in_ok-search.search ks.items c.in_ok-search.ensures those) c.others.ensures
