use Rattle.names.proofs.Keys.{among_now, insert_now}
use Rattle.names.specs.Among.{is_among, with_name}
use Rattle.std.proofs.Common.{◌∙◌, ap, map, not, sym}
use Rattle.names.proofs.Names.insert.Goals as goal

pub returns-clause-added : goal.returns-clause-added
returns-clause-added c = c.in-Ok.ensures.added ∙ ap not (among_now c.args.name.now c.self.inside.known.keys ∙ ap (λ ns. is_among ns c.args.name.now) c.self.view_is)

pub returns-clause-names : goal.returns-clause-names
returns-clause-names c = ap (map (λ x. x.now)) c.in-Ok.ensures.keys ∙ insert_now c.self.inside.known.keys c.args.name ∙ ap (λ ns. with_name ns c.args.name.now) c.self.view_is

pub returns-in_default-clause-absent : goal.returns-in_default-clause-absent
returns-in_default-clause-absent c = sym (among_now c.args.name.now c.self.inside.known.keys ∙ ap (λ ns. is_among ns c.args.name.now) c.self.view_is) ∙ c.in_default.ensures.absent
