-- Which instances are circular, and where these start.
use Rattle.std.proofs.Common.{◌≡◌, ℕ, Bool, true, false, ◌&&◌, cond, Option, Some, None, refl, sym, ap, subst, ◌∙◌, is_some}
use Rattle.attr_rules.specs.Expression.{Expression}
use Rattle.attr_rules.specs.Rising.{rises}
use Rattle.std.specs.Option.{option_map}
use Rattle.attr_rules.specs.Rules.{RuleSet, body_at, circular_at}
use Rattle.attr_rules.specs.declared.kinds.AttrId.{AttrId}
use Rattle.equation_law.specs.declared.coding.Args.{Args}
use Rattle.equation_law.specs.declared.coding.EqSite.{EqSite}
use Rattle.equation_law.specs.declared.coding.Instance.{Instance as CodedInstance}
use Rattle.equation_law.specs.declared.coding.Instance.TheVariants as coded
use Rattle.equation_law.specs.declared.coding.NodeRef.{NodeRef}
use Rattle.equation_law.specs.Codes.{Naming, instance_by}
use Rattle.equation_law.specs.Equations.{OfSite, Site, collection_of, equation_of, equation_rises, equations_of, is_circular, is_ordered, kind_in, site_of}
use Rattle.equation_law.specs.Names.{Instance}
use Rattle.equation_law.specs.Program.{Program}
use Rattle.equation_law.proofs.Sites.{collection_equation, site_equation}
use Rattle.equation_law.specs.Values.{Value, default_of}
use Rattle.inherited_walk.specs.Sites.{IsSite}
use Rattle.plain_rounds.specs.Steps.{start_of}

pub circular_is : (p : Program) (i : Instance) → is_circular p i ≡ (equations_of p).circular i
unfolding equations_of
circular_is p i = refl

pub bottom_is : (p : Program) (i : Instance) → default_of (kind_in p i) ≡ (equations_of p).bottom i
unfolding equations_of
bottom_is p i = refl

-- the equation that is found rises
pub found_rises : (p : Program) {n : Naming} (a : ℕ) (s : EqSite) (o : Option Site) (rules : RuleSet) (e : Expression) (b : Bool) → rules ≡ p.rules → body_at rules s.equation.0 ≡ Some e → b ≡ rises (circular_at rules.attributes) e → (site : Site) × (o ≡ Some site) × IsSite p n a s site
    → b ≡ equation_rises (circular_at p.rules.attributes) (option_map OfSite o)
found_rises p a s o rules e b same body is f =
    let at : body_at p.rules s.equation.0 ≡ Some e = subst (λ (x : RuleSet). body_at x s.equation.0 ≡ Some e) same body in
    let there : e ≡ f.0.body = (let g = f.2.body in cc) in
    is ∙ ap (λ (x : RuleSet). rises (circular_at x.attributes) e) same ∙ ap (rises (circular_at p.rules.attributes)) there ∙ sym (ap (λ (x : Option Site). equation_rises (circular_at p.rules.attributes) (option_map OfSite x)) f.1)

-- a collection doesn't rise, and another instance rises where its expression does
pub none_rises : (p : Program) (i : Instance) (b : Bool) → b ≡ is_some (collection_of p i) → b ≡ true → false ≡ equation_rises (circular_at p.rules.attributes) (equation_of p i)
none_rises p i b e f =
    elim (collection_of p i) as (λ o. collection_of p i ≡ o → is_some o ≡ true → false ≡ equation_rises (circular_at p.rules.attributes) (equation_of p i)) [
      | Some c ↦ λ is there. sym (ap (equation_rises (circular_at p.rules.attributes)) (collection_equation p i c is))
      | None ↦ λ is there. cc
    ] refl (sym e ∙ f)

pub at_site_rises : (p : Program) (i : Instance) (b r : Bool) → b ≡ is_some (collection_of p i) → b ≡ false → r ≡ equation_rises (circular_at p.rules.attributes) (option_map OfSite (site_of p i)) → r ≡ equation_rises (circular_at p.rules.attributes) (equation_of p i)
at_site_rises p i b r e f g =
    elim (collection_of p i) as (λ o. collection_of p i ≡ o → is_some o ≡ false → r ≡ equation_rises (circular_at p.rules.attributes) (equation_of p i)) [
      | Some c ↦ λ is there. cc
      | None ↦ λ none there. g ∙ sym (ap (equation_rises (circular_at p.rules.attributes)) (site_equation p i none))
    ] refl (sym e ∙ f)

-- where an instance starts that isn't circular, and one that is
pub starts_nowhere : (p : Program) (i : Instance) → (equations_of p).circular i ≡ false → None ≡ start_of p i
starts_nowhere p i c = sym (ap (λ b. cond b (Some ((equations_of p).bottom i)) None) c)

pub starts_there : (p : Program) (i : Instance) (v : Value) → (equations_of p).circular i ≡ true → v ≡ default_of (kind_in p i) → Some v ≡ start_of p i
starts_there p i v c e = ap Some (e ∙ bottom_is p i) ∙ sym (ap (λ b. cond b (Some ((equations_of p).bottom i)) None) c)

-- the type of an instance's values doesn't depend on what codes stand for
pub kind_alike : (p : Program) (n m : Naming) (q : CodedInstance) → kind_in p (instance_by p n q) ≡ kind_in p (instance_by p m q)
kind_alike p n m (coded.Attr a c xs) = refl
kind_alike p n m (coded.Query k) = refl

module _ (p : Program) (N : Naming) (q : CodedInstance) (a : AttrId) (n : NodeRef) (xs : Args) (is : q ≡ coded.Attr a n xs) where
  abbrev i : Instance
  i = instance_by p N (coded.Attr a n xs)

  -- what is said of the instance is said of its code
  of_code : (b : Bool) → b ≡ is_circular p i → b ≡ (equations_of p).circular (instance_by p N q)
  of_code b e = e ∙ circular_is p i ∙ ap (λ (x : CodedInstance). (equations_of p).circular (instance_by p N x)) (sym is)

  pub all_hold : (d o b : Bool) → d ≡ circular_at p.rules.attributes a.0 → o ≡ is_ordered (kind_in p (instance_by p N q)) → b ≡ equation_rises (circular_at p.rules.attributes) (equation_of p i) → d ≡ true → o ≡ true → b ≡ (equations_of p).circular (instance_by p N q)
  all_hold d o b e f g t u =
      let declared : circular_at p.rules.attributes a.0 ≡ true = sym e ∙ t in
      let kind : is_ordered (kind_in p (instance_by p N q)) ≡ is_ordered (kind_in p i) = ap (λ (x : CodedInstance). is_ordered (kind_in p (instance_by p N x))) is in
      let ordered : is_ordered (kind_in p i) ≡ true = sym kind ∙ sym f ∙ u in
      let last = equation_rises (circular_at p.rules.attributes) (equation_of p i) in
      of_code b (g ∙ sym (ap (λ x. x && (is_ordered (kind_in p i) && last)) declared ∙ ap (λ x. x && last) ordered))

  pub undeclared : (d b : Bool) → d ≡ circular_at p.rules.attributes a.0 → d ≡ false → b ≡ false → b ≡ (equations_of p).circular (instance_by p N q)
  undeclared d b e t f =
      let declared : circular_at p.rules.attributes a.0 ≡ false = sym e ∙ t in
      of_code b (f ∙ sym (ap (λ x. x && (is_ordered (kind_in p i) && equation_rises (circular_at p.rules.attributes) (equation_of p i))) declared))

  pub unordered : (d o b : Bool) → d ≡ circular_at p.rules.attributes a.0 → o ≡ is_ordered (kind_in p (instance_by p N q)) → d ≡ true → o ≡ false → b ≡ false → b ≡ (equations_of p).circular (instance_by p N q)
  unordered d o b e f t u g =
      let declared : circular_at p.rules.attributes a.0 ≡ true = sym e ∙ t in
      let kind : is_ordered (kind_in p (instance_by p N q)) ≡ is_ordered (kind_in p i) = ap (λ (x : CodedInstance). is_ordered (kind_in p (instance_by p N x))) is in
      let ordered : is_ordered (kind_in p i) ≡ false = sym kind ∙ sym f ∙ u in
      let last = equation_rises (circular_at p.rules.attributes) (equation_of p i) in
      of_code b (g ∙ sym (ap (λ x. x && (is_ordered (kind_in p i) && last)) declared ∙ ap (λ x. x && last) ordered))

-- a query isn't circular
pub no_query : (p : Program) (N : Naming) (q : CodedInstance) (n : ℕ) → q ≡ coded.Query (record { 0 = n }) → false ≡ (equations_of p).circular (instance_by p N q)
no_query p N q n is = circular_is p (instance_by p N (coded.Query (record { 0 = n }))) ∙ ap (λ (x : CodedInstance). (equations_of p).circular (instance_by p N x)) (sym is)
