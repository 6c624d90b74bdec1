use Rattle.std.proofs.Common.{◌≡◌, ◌↔◌, nat_lt, subst, sym, true}
use Rattle.equation_law.specs.Checked.{IsInstance}
use Rattle.equation_law.specs.Program.{text_of}
use Rattle.equation_law.specs.Systems.{program_of}
use Rattle.plain_rounds.specs.declared.naming.Name.{Name}
use Rattle.plain_rounds.specs.Named.{name_in}
use Rattle.plain_rounds.proofs.Tested.{query_is}
use Rattle.plain_rounds.proofs.checking.is_instance.Goals as goal

pub returns-in-Query : goal.returns-in-Query
returns-in-Query c =
    let p = program_of c.args.system.now in
    subst (λ (x : Name). (nat_lt c.in-Query.query.0 c.replies.result ≡ true) ↔ IsInstance p (name_in (text_of p) x)) (sym c.in-Query.is) (query_is p c.in-Query.query.0 c.replies.result c.replies.ensures.number)
