use Rattle.std.proofs.Common.{◌≡◌, ◌∷◌, OnErr, OnOk, sym, subst}
use Rattle.made_trees.specs.Makers.{Trees, makers_in}
use Rattle.made_trees.proofs.Kept.{IsFit, kept_either, makers_err, makers_ok}
use Rattle.made_trees.proofs.makers.Makers.push.Goals as goal

pub invariant_of-self : goal.invariant_of-self
invariant_of-self c =
    let fit : IsFit c.args.self.now c.args.maker = record { coded = c.requires.coded; can = c.requires.can; new = c.requires.new; few = c.requires.few; making = c.requires.keeps } in
    kept_either c.self.inside.system.value c.self.inside.kept.items c.keep.new.kept.items c.self.inside.numbers c.keep.new.numbers c.args.maker c.keep.result c.self.invariant c.keep.ensures.ok c.keep.ensures.err
    (subst (λ (x : Trees). IsFit x c.args.maker) (sym c.self.view_is) fit)

pub returns-clause-ok : goal.returns-clause-ok
returns-clause-ok c =
    subst (λ (x : Trees). OnOk c.keep.result (makers_in c.keep.new.kept.items ≡ c.args.maker.instance ∷ x.makers)) c.self.view_is
    (makers_ok c.self.inside.kept.items c.keep.new.kept.items c.self.inside.numbers c.keep.new.numbers c.args.maker c.keep.result c.keep.ensures.ok)

pub returns-clause-err : goal.returns-clause-err
returns-clause-err c =
    subst (λ (x : Trees). OnErr c.keep.result (makers_in c.keep.new.kept.items ≡ x.makers)) c.self.view_is
    (makers_err c.self.inside.kept.items c.keep.new.kept.items c.self.inside.numbers c.keep.new.numbers c.keep.result c.keep.ensures.err)

pub returns-clause-trees : goal.returns-clause-trees
returns-clause-trees c =
    let fit : IsFit c.args.self.now c.args.maker = record { coded = c.requires.coded; can = c.requires.can; new = c.requires.new; few = c.requires.few; making = c.requires.keeps } in
    let kept = kept_either c.self.inside.system.value c.self.inside.kept.items c.keep.new.kept.items c.self.inside.numbers c.keep.new.numbers c.args.maker c.keep.result c.self.invariant c.keep.ensures.ok c.keep.ensures.err
    (subst (λ (x : Trees). IsFit x c.args.maker) (sym c.self.view_is) fit) in
    record { makers = kept.makers; small = kept.small; fit = kept.fit; few = kept.few }
