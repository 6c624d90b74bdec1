-- What a reader knows of equations that are found, and of what their paths bind.
use Rattle.std.proofs.Common.{◌≡◌, ℕ, zero, suc, ◌+◌, ◌<◌, ◌≤◌, List, [], ◌∷◌, ◌++◌, Option, Some, None, length, slice_get, refl, sym, ap, subst, arith}
use Rattle.std.specs.Option.{option_map}
use Rattle.attr_rules.specs.declared.dispatch.Reach.{Reach}
use Rattle.attr_rules.specs.declared.dispatch.Reach.TheVariants.{Own, Component, Created, Children}
use Rattle.attr_rules.specs.declared.dispatch.Target.{Target}
use Rattle.attr_rules.specs.declared.kinds.Kind.{Kind}
use Rattle.attr_rules.specs.Rules.{Equation, RuleSet, target_in}
use Rattle.tree_arena.specs.Nodes.{most_nodes}
use Rattle.equation_law.specs.declared.coding.Args.{Args}
use Rattle.equation_law.specs.declared.coding.EqSite.{EqSite}
use Rattle.equation_law.specs.Codes.{codes_in, reference_of}
use Rattle.equation_law.specs.Names.{Argument, At, Source}
use Rattle.equation_law.specs.Program.{Program, attribute_parameters}
use Rattle.equation_law.specs.Reading.{AreKnownCodes, IsKnownCode, IsSound, Told}
use Rattle.equation_law.proofs.Grown.{each_codes}
use Rattle.inherited_walk.specs.Sites.{BindsNoCode, IsSourceSite, KnowsBound, KnowsSite, reach_at, reach_or_own}

-- the code of a source node
pub source_code : (c k : ℕ) → reference_of c ≡ At (Source k) → k < most_nodes → c ≤ most_nodes
source_code zero k e low = omega arith
source_code (suc c) k e low = let same : c ≡ k = cc in omega (arith, same, low)

-- the path of an equation, by what it is for
path_of : (o : Option Equation) (t : Target) → option_map target_in o ≡ Some t → reach_or_own o ≡ t.reach
path_of None t e = cc
path_of (Some q) t e = let same : q.target ≡ t = cc in ap (λ (x : Target). x.reach) same

pub path_is : (p : Program) {rules : RuleSet} (e : ℕ) {t : Target} → rules ≡ p.rules → option_map target_in (slice_get rules.equations e) ≡ Some t → reach_at p e ≡ t.reach
path_is p e {t} same target = path_of (slice_get p.rules.equations e) t (subst (λ (x : RuleSet). option_map target_in (slice_get x.equations e) ≡ Some t) same target)

-- what binds no codes at all
pub no_code : (r : Reach) (xs : Args) → codes_in xs ≡ [] → BindsNoCode r xs
no_code Own xs e = tt
no_code (Component k) xs e = tt
no_code (Created b) xs e = e
no_code Children xs e = tt

module _ {S : Type 0} (p : Program) (t : Told S) where
  none_known : (ks : List Kind) → AreKnownCodes t ks []
  none_known [] = tt
  none_known (k ∷ ks) = tt

  -- one code more
  pub known_more : (ks : List Kind) (cs : List ℕ) (xs : List Argument) (c : ℕ) → length xs ≡ length ks → ((k : Kind) (x : Argument) → slice_get ks (length cs) ≡ Some k → slice_get xs (length cs) ≡ Some x → IsKnownCode t k c)
      → AreKnownCodes t ks cs → AreKnownCodes t ks (cs ++ c ∷ [])
  known_more [] cs xs c many here before = tt
  known_more (k ∷ ks) [] [] c many here before = absurd (omega (arith, many))
  known_more (k ∷ ks) [] (x ∷ xs) c many here before = (here k x refl refl, none_known ks)
  known_more (k ∷ ks) (d ∷ cs) [] c many here before = absurd (omega (arith, many))
  known_more (k ∷ ks) (d ∷ cs) (x ∷ xs) c many here before = (before.0, known_more ks cs xs c (omega (arith, many)) here before.1)

  pub unbound_known : (r : Reach) (xs : Args) → BindsNoCode r xs → KnowsBound p t r xs
  unbound_known Own xs e = tt
  unbound_known (Component k) xs e = tt
  unbound_known (Created b) xs e = subst (AreKnownCodes t (attribute_parameters p b.0)) (sym e) (none_known (attribute_parameters p b.0))
  unbound_known Children xs e = tt

  -- a site at a source node
  pub source_known : IsSound p t → (a : ℕ) {xs : Args} → AreKnownCodes t (attribute_parameters p a) (codes_in xs) → (s : EqSite) → IsSourceSite p xs s → KnowsSite p t a s
  source_known sound a given s site = record {
    node = sound.sources s.node.0 site.node;
    inner = subst (λ (x : Args). AreKnownCodes t (attribute_parameters p a) (codes_in x)) (sym site.inner) given;
    outer = unbound_known (reach_at p s.equation.0) s.outer site.outer;
  }

-- what a reader knows that knows every code
module _ {S : Type 0} (t : Told S) (knows : (c : ℕ) → t.knows c) (p : Program) where
  each_bound : (r : Reach) (xs : Args) → KnowsBound p t r xs
  each_bound Own xs = tt
  each_bound (Component k) xs = tt
  each_bound (Created b) xs = each_codes t knows (attribute_parameters p b.0) (codes_in xs)
  each_bound Children xs = tt

  pub each_site : (a : ℕ) (s : EqSite) → KnowsSite p t a s
  each_site a s = record { node = knows s.node.0; inner = each_codes t knows (attribute_parameters p a) (codes_in s.inner); outer = each_bound (reach_at p s.equation.0) s.outer }
