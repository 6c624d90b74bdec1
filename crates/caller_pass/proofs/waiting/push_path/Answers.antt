use Rattle.std.proofs.Common.{length, sym, ap, ◌∙◌}
use Rattle.std.proofs.lemmas.List.{nil_from_length}
use Rattle.caller_pass.proofs.Listing.{no_part, part_pushed}
use Rattle.caller_pass.proofs.waiting.push_path.Goals as goal

pub returns-in_default : goal.returns-in_default
returns-in_default c = no_part c.args.local.now c.in_ok-path.path (nil_from_length c.in_ok-path.path (ap length (sym c.list.ensures) ∙ c.in_default.ensures.cases)) c.in_ok-path.ensures c.args.list.now.items

pub returns : goal.returns
returns c = part_pushed c.args.local.now c.in_ok-path.path c.in-Some.front.now c.in-Some.field-0-0.now (sym c.list.ensures ∙ c.in-Some.ensures.cases.0) c.in_ok-path.ensures c.args.list.now.items c.push_all.new.list.items c.push_all.result c.push_all.ensures
