use Rattle.std.proofs.Common.{sym, ap, ◌∙◌}
use Rattle.equation_law.specs.Codes.{source_names}
use Rattle.equation_law.specs.Program.{text_of}
use Rattle.equation_law.specs.Values.{as_kind}
use Rattle.equation_law.proofs.Pooled.{first_text, texts_pooled}
use Rattle.plain_rounds.specs.Named.{value_in}
use Rattle.plain_rounds.specs.Settings.{naming_at, program_at}
use Rattle.plain_rounds.proofs.Circles.{kind_alike}
use Rattle.plain_rounds.proofs.Settings.{named_there}
use Rattle.plain_rounds.proofs.Solving.{found_stands}
use Rattle.plain_rounds.proofs.standing.Standing.value.Goals as goal

pub returns-in_ok-read_as-in-Some : goal.returns-in_ok-read_as-in-Some
returns-in_ok-read_as-in-Some c = λ ready coded.
    let s = c.args.self.now.setting in
    let vs = c.args.self.now.values.now in
    let p = program_at s in
    let n = naming_at s in
    let v = value_in p n c.in-Some.held.now in
    let held = c.in-Some.ensures.held p ready.are.held in
    let there = found_stands p (texts_pooled s.system.now) (named_there s ready.set) s.names.now s.places.now.map vs ready.set.places ready.are.long ready.set.coded c.args.i coded in
    let kind = c.kind_of.ensures ∙ kind_alike p (source_names (text_of p)) n c.args.i in
    ((v, sym there ∙ c.in-Some.ensures.value p n, c.in_ok-read_as-in-Some.ensures.value p n held (first_text s.system.now) ∙ ap (λ k. as_kind k v) kind), c.in_ok-read_as-in-Some.ensures.elements p held)

pub returns-in-None : goal.returns-in-None
returns-in-None c = λ ready coded.
    let s = c.args.self.now.setting in
    let vs = c.args.self.now.values.now in
    let p = program_at s in
    let there = found_stands p (texts_pooled s.system.now) (named_there s ready.set) s.names.now s.places.now.map vs ready.set.places ready.are.long ready.set.coded c.args.i coded in
    sym there ∙ c.in-None.ensures.value p (naming_at s)
