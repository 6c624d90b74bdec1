-- What a reader knows of the site of an equation that is found at a source node.
use Rattle.std.proofs.Common.{ℕ, List, [], ◌∷◌, sym, subst}
use Rattle.attr_rules.specs.declared.dispatch.Reach.{Reach}
use Rattle.attr_rules.specs.declared.dispatch.Reach.TheVariants.{Own, Component, Created, Children}
use Rattle.attr_rules.specs.declared.kinds.Kind.{Kind}
use Rattle.equation_law.specs.declared.coding.Args.{Args}
use Rattle.equation_law.specs.declared.coding.EqSite.{EqSite}
use Rattle.equation_law.specs.Codes.{codes_in}
use Rattle.equation_law.specs.Program.{Program, attribute_parameters}
use Rattle.equation_law.specs.Reading.{AreKnownCodes, IsSound, Told}
use Rattle.inherited_walk.specs.Sites.{BindsNoCode, IsSourceSite, KnowsBound, KnowsSite, reach_at}

module _ {S : Type 0} (p : Program) (t : Told S) where
  none_known : (ks : List Kind) → AreKnownCodes t ks []
  none_known [] = tt
  none_known (k ∷ ks) = tt

  -- its path binds no argument of another attribute
  unbound_known : (r : Reach) (xs : Args) → BindsNoCode r xs → KnowsBound p t r xs
  unbound_known Own xs e = tt
  unbound_known (Component k) xs e = tt
  unbound_known (Created b) xs e = subst (AreKnownCodes t (attribute_parameters p b.0)) (sym e) (none_known (attribute_parameters p b.0))
  unbound_known Children xs e = tt

  pub site_known : IsSound p t → (a : ℕ) {xs : Args} → AreKnownCodes t (attribute_parameters p a) (codes_in xs) → (s : EqSite) → IsSourceSite p xs s → KnowsSite p t a s
  site_known sound a given s site = record {
    node = sound.sources s.node.0 site.node;
    inner = subst (λ (x : Args). AreKnownCodes t (attribute_parameters p a) (codes_in x)) (sym site.inner) given;
    outer = unbound_known (reach_at p s.equation.0) s.outer site.outer;
  }
