-- What is demanded of an instance that is no collection is what its expression demands where it is read.
use Rattle.std.proofs.Common.{◌≡◌, Bool, Option, Some, None, ℕ, refl, ap, ◌∙◌}
use Rattle.std.specs.Option.{option_map, option_or}
use Rattle.equation_law.specs.Collections.{Collection, collection_demands}
use Rattle.equation_law.specs.Equations.{OfCollection, OfSite, Site, collection_of, equation_demands, equation_of, equation_rises, equations_of, site_demands, site_of, site_rises, world_of}
use Rattle.equation_law.specs.Meaning.{World}
use Rattle.equation_law.specs.Names.{Instance}
use Rattle.equation_law.specs.Program.{Program}

-- the equation of an instance that is no collection, and of one that is
pub site_equation : (p : Program) (i : Instance) → collection_of p i ≡ None → equation_of p i ≡ option_map OfSite (site_of p i)
site_equation p i none = ap (λ (o : Option Collection). option_or (option_map OfCollection o) (option_map OfSite (site_of p i))) none

pub collection_equation : (p : Program) (i : Instance) (c : Collection) → collection_of p i ≡ Some c → equation_of p i ≡ Some (OfCollection c)
collection_equation p i c is = ap (λ (o : Option Collection). option_or (option_map OfCollection o) (option_map OfSite (site_of p i))) is

-- an expression as an equation
pub demands_of_site : (W : World) (o : Option Site) → equation_demands W (option_map OfSite o) ≡ site_demands W o
demands_of_site W None = refl
demands_of_site W (Some s) = refl

pub rises_as_site : (circular : ℕ → Bool) (o : Option Site) → equation_rises circular (option_map OfSite o) ≡ site_rises circular o
rises_as_site circular None = refl
rises_as_site circular (Some s) = refl

-- what is demanded of an instance that is no collection
pub demanded_at_site : (p : Program) (i : Instance) → collection_of p i ≡ None → (equations_of p).equation i ≡ site_demands (world_of p) (site_of p i)
unfolding equations_of
demanded_at_site p i none = ap (equation_demands (world_of p)) (site_equation p i none) ∙ demands_of_site (world_of p) (site_of p i)

-- and of one that is one
pub demanded_of_collection : (p : Program) (i : Instance) (c : Collection) → collection_of p i ≡ Some c → (equations_of p).equation i ≡ collection_demands (world_of p) c
unfolding equations_of
demanded_of_collection p i c is = ap (equation_demands (world_of p)) (collection_equation p i c is)
