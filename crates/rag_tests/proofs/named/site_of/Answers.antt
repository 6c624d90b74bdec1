-- The last of a list of instances is one.
use Rattle.std.proofs.Common.{◌≡◌, All, true, Some, refl, sym, subst}
use Rattle.std.proofs.lemmas.List.Elements.{All-pop}
use Rattle.equation_law.specs.Checked.{IsInstance}
use Rattle.equation_law.specs.declared.coding.Instance.TheVariants.{Attr as attribute_at}
use Rattle.equation_law.specs.Codes.{Naming, instance_by, instance_of}
use Rattle.equation_law.specs.Systems.{program_of}
use Rattle.equation_law.proofs.Grown.{each_instance}
use Rattle.plain_rounds.specs.Named.{instances_in}
use Rattle.rag_tests.specs.declared.forms.Nothing.{Nothing}
use Rattle.rag_tests.specs.Nothing.{nothing}
use Rattle.rag_tests.proofs.Bare.{coded}
use Rattle.rag_tests.proofs.Singles.{none_is}
use Rattle.rag_tests.proofs.Unmade.{named_in, nothing_sound, readable}
use Rattle.rag_tests.proofs.named.site_of.Goals as goal

pub equation_of-requires-clause-instance : goal.equation_of-requires-clause-instance
equation_of-requires-clause-instance c =
    let p = program_of c.args.system.now in
    let yes : c.are_of.result ≡ true = cc in
    let all : All (IsInstance p) (instances_in p c.add.new.self) = c.are_of.ensures.0 yes in
    let last = (All-pop (IsInstance p) _ _ (Some _) (c.in_ok-add.ensures.added p) all).1 in
    let i = attribute_at c.args.attr c.of_source-at.result c.none-args.result in
    let instance : IsInstance p (instance_of p i) = coded p _ _ _ _ _ c.of_source-at.ensures c.none-args.ensures.codes last in
    λ n is. subst (λ (m : Naming). IsInstance p (instance_by p m i)) (sym is) instance

pub equation_of-requires-clause-single : goal.equation_of-requires-clause-single
equation_of-requires-clause-single c =
    let p = program_of c.args.system.now in
    λ n is. none_is _ c.is_collection.result (c.is_collection.ensures n (named_in p p refl n is).0) c.if-is_collection.false

pub equation_of-requires-clause-sound : goal.equation_of-requires-clause-sound
equation_of-requires-clause-sound c = nothing_sound (program_of c.args.system.now) (readable (program_of c.args.system.now) c.requires)

pub equation_of-requires-clause-known : goal.equation_of-requires-clause-known
equation_of-requires-clause-known c = let p = program_of c.args.system.now in each_instance (nothing {S = Nothing} p) (λ k. tt) p (attribute_at c.args.attr c.of_source-at.result c.none-args.result)
