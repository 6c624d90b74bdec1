use Rattle.std.proofs.Common.{◌≡◌, None, ap, subst, sym, ◌∙◌}
use Rattle.equation_law.specs.declared.coding.Instance.{Instance as CodedInstance}
use Rattle.equation_law.specs.declared.coding.Instance.TheVariants as coded
use Rattle.equation_law.specs.declared.system.System.{System}
use Rattle.equation_law.specs.Reading.{IsSound}
use Rattle.equation_law.specs.Systems.{program_of}
use Rattle.equation_law.proofs.Grown.{each_instance}
use Rattle.made_trees.specs.Made.{naming_by_makers}
use Rattle.plain_rounds.specs.declared.places.Places.{Places}
use Rattle.plain_rounds.specs.declared.standing.Standing.{Standing}
use Rattle.plain_rounds.specs.Places.{kept_place}
use Rattle.plain_rounds.specs.Settings.{AreReady, naming_at, program_at}
use Rattle.plain_rounds.specs.Standing.{told_by}
use Rattle.plain_rounds.proofs.Settings.{bare_ready}
use Rattle.plain_rounds.proofs.Told.{same_standing, sound}
use Rattle.plain_rounds.proofs.standing.equation_at.Goals as goal

pub find_equation-requires-clause-sound : goal.find_equation-requires-clause-sound
find_equation-requires-clause-sound c =
    let b = c.bare-nothing.result in
    let places : (q : CodedInstance) → kept_place b.setting.places.now.map q ≡ None = λ q. ap (λ (x : Places). kept_place x.map q) c.bare-nothing.ensures.places ∙ c.none-nowhere.ensures q in
    let ready = subst (AreReady b.setting) (sym c.bare-nothing.ensures.values) (bare_ready c.args.setting.now b.setting c.requires c.bare-nothing.ensures.system c.bare-nothing.ensures.makers c.bare-nothing.ensures.names places) in
    subst (λ (s : System). IsSound (program_of s) (told_by b)) c.bare-nothing.ensures.system (sound b ready)

pub find_equation-requires-clause-known : goal.find_equation-requires-clause-known
find_equation-requires-clause-known c = each_instance (told_by c.bare-nothing.result) (λ k. tt) (program_at c.args.setting.now) (coded.Attr c.args.attr c.args.node c.args.args)

pub returns : goal.returns
returns c =
    let s = c.args.setting.now in
    let last = c.find_equation.new.reader in
    let same = same_standing c.find_equation.ensures.found.kept in
    let names : naming_at s ≡ naming_at last.setting =
    (λ i. naming_by_makers (program_of (sym c.bare-nothing.ensures.system i)) (sym c.bare-nothing.ensures.makers i).makers) ∙ ap (λ (x : Standing). naming_at x.setting) same
    in
    c.find_equation.ensures.found.found (naming_at s) names
