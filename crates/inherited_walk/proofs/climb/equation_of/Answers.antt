use Rattle.std.proofs.Common.{◌≡◌, Option, Some, None, IsSome}
use Rattle.equation_law.specs.Equations.{Site, site_of}
use Rattle.equation_law.specs.declared.coding.Instance.TheVariants.{Attr as attribute_at}
use Rattle.equation_law.specs.Codes.{instance_by}
use Rattle.equation_law.specs.Systems.{program_of}
use Rattle.equation_law.proofs.Demanded.{has_site}
use Rattle.inherited_walk.proofs.climb.equation_of.Goals as goal

-- what is something isn't nothing
not_nothing : (o : Option Site) → IsSome o → o ≡ None → ⊥
not_nothing None h e = absurd (cc)
not_nothing (Some s) h e = absurd (cc)

pub unreachable-requires : goal.unreachable-requires
unreachable-requires g c =
    let p = program_of c.args.system.now in
    let found = c.in-None.ensures.found in
    let by = found.kept.sound.some in
    let before = found.kept.names by.0 by.1 in
    let i = instance_by p by.0 (attribute_at c.args.attr c.args.node c.args.args) in
    not_nothing (site_of p i) (has_site p c.requires.program i (c.requires.instance by.0 before) (c.requires.single by.0 before)) (found.found by.0 by.1)
