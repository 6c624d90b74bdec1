-- The laws of the solution of a program: the equations of its circular instances rise, and their values have an order, joins and heights.
use Rattle.std.proofs.Common.{◌≡◌, ◌↔◌, ◌∙◌, ℕ, Bool, true, false, not, ◌&&◌, cond, List, [], ◌∷◌, ◌++◌, Option, Some, None, refl, sym, ap, subst}
use Rattle.std.specs.Option.{option_and_then, option_map, option_or}
use Rattle.ast_grammar.specs.declared.grammar.ClassId.{ClassId}
use Rattle.attr_rules.specs.declared.kinds.Kind.{Kind}
use Rattle.attr_rules.specs.declared.kinds.Kind.TheVariants as kinds
use Rattle.attr_rules.specs.Expression.{Expression, NewArguments, new_child, new_end, new_token}
use Rattle.attr_rules.specs.Rising.{IsRising, rises, tokens_call}
use Rattle.attr_rules.specs.Rules.{circular_at}
use Rattle.attr_rules.proofs.Permitted.{test_rising}
use Rattle.solutions.specs.Asking.{Demands, Ends, Gives, Halts, Meets, Needs, next}
use Rattle.solutions.specs.Rounds.{HasFinalValue, is_in}
use Rattle.solutions.specs.Rising.{AgreeBelow, AreRising, HaveHeights, Leaves, LiesBelow, Rise, Under, leaves}
use Rattle.solutions.specs.Leading.{AreJoins, Demanded, Mixed}
use Rattle.solutions.proofs.Assigned.{demands_assigned, values_assigned}
use Rattle.solutions.proofs.Cleaning.{val_finished}
use Rattle.solutions.proofs.Closed.{closed_val}
use Rattle.solutions.proofs.Composing.{IsPlain, rise_next}
use Rattle.solutions.proofs.Growing.{done_below, growing}
use Rattle.solutions.proofs.Loops.{no_loop}
use Rattle.solutions.proofs.Lower.{joined_lower, lower_below, raised_lower}
use Rattle.solutions.proofs.Reaching.{reach_is}
use Rattle.solutions.proofs.Runs.{and_true}
use Rattle.solutions.proofs.Solved.{met_leads as met_leads_in, solved}
use Rattle.solutions.proofs.Unique.{stuck_no_val, unique}
use Rattle.equation_law.specs.Created.{Making, making_in}
use Rattle.equation_law.specs.Names.{Argument, At, Attribute, Instance, Made, Null, Query, Reference, Source, list_of, made_by, same_instance}
use Rattle.equation_law.specs.Values.{Value, as_argument, as_kind, as_tree, default_of, nodes, texts, tokens, truth}
use Rattle.equation_law.specs.Program.{Program, class_at, declared_of, equation_for, making_of}
use Rattle.equation_law.specs.Equations.{HasValue, InstanceEquation, OfCollection, OfSite, Site, attribute_kind, body_demands, collection_of, equation_demands, equation_of, equation_rises, equations_of, inherited_site, inherits, is_circular, is_ordered, kind_in, site_at, site_of, synthesized_site, token_place, token_value, where_made, world_of}
use Rattle.equation_law.specs.Loops.{order_in, fits_in, join_in, Chain, HasLoop, Leads}
use Rattle.equation_law.specs.Lower.{IsClosed, IsLower, joined, raised_at}
use Rattle.equation_law.specs.Meaning.{Place, World, meaning_of, with_tokens}
use Rattle.equation_law.specs.Orders.{IsAtMost, FitsKind}
use Rattle.equation_law.proofs.Growing.{kind_below, rises as rising_meaning, rising_tokens}
use Rattle.equation_law.proofs.Heights.{height_of, height_grows, height_strict}
use Rattle.equation_law.proofs.Inherited.{inherited_kind}
use Rattle.equation_law.proofs.Lists.{some_of}
use Rattle.equation_law.proofs.Makings.{found_new}
use Rattle.equation_law.proofs.Names.{same_instance_is, same_instance_self}
use Rattle.equation_law.proofs.Quiet.{AreTokensPlain}
use Rattle.equation_law.proofs.Sites.{collection_equation}
use Rattle.equation_law.proofs.Orders.{at_most_both, at_most_itself, at_most_through, default_least, join_fits, join_least, join_left, join_right}

-- what isn't declared circular isn't
pub not_circular : (p : Program) (a : ℕ) (r : Reference) (xs : List Argument) → circular_at p.rules.attributes a ≡ false → is_circular p (Attribute a r xs) ≡ false
not_circular p a r xs e = ap (λ b. b && (is_ordered (attribute_kind p a) && equation_rises (circular_at p.rules.attributes) (equation_of p (Attribute a r xs)))) e

-- tokens of source nodes demand nothing, and those of nodes that were made what isn't circular
tokens_plain : (p : Program) → AreTokensPlain (world_of p) (is_circular p)
tokens_plain p t (Source n) k = tt
tokens_plain p t (Made a r xs q) k = made (class_at p (Made a r xs q))
  where
    value : Value → Demands Instance Value
    value v = Gives (as_kind t (token_value (tokens v) (token_place (making_of p a r) q k)))

    either : (b : Bool) → circular_at p.rules.attributes a ≡ b → IsPlain (is_circular p) (cond b (Gives (default_of t)) (Needs (Attribute a r (list_of xs)) value))
    either true e = tt
    either false e = (not_circular p a r (list_of xs) e, λ v. tt)

    made : (o : Option ClassId) → IsPlain (is_circular p) (where_made o (cond (circular_at p.rules.attributes a) (Gives (default_of t)) (Needs (Attribute a r (list_of xs)) value)) (Gives (default_of t)))
    made None = tt
    made (Some c) = either (circular_at p.rules.attributes a) refl

-- where no attribute is declared so, no instance is
pub none_circular : (p : Program) → ((a : ℕ) → circular_at p.rules.attributes a ≡ false) → (i : Instance) → (equations_of p).circular i ≡ false
unfolding equations_of
none_circular p none (Attribute a r xs) = not_circular p a r xs (none a)
none_circular p none (Query q) = refl

-- a value that is read at a type of circular instances is of the type, and so is its default
read_fits : (k : Kind) → is_ordered k ≡ true → (v : Value) → FitsKind k (as_kind k v)
read_fits kinds.Truth e v = (truth v, refl)
read_fits kinds.Int e v = cc
read_fits kinds.Text e v = cc
read_fits (kinds.Node c) e v = cc
read_fits kinds.Texts e v = (texts v, refl)
read_fits (kinds.Nodes c) e v = (nodes v, refl)

default_fits : (k : Kind) → is_ordered k ≡ true → FitsKind k (default_of k)
default_fits kinds.Truth e = (_, refl)
default_fits kinds.Int e = cc
default_fits kinds.Text e = cc
default_fits (kinds.Node c) e = cc
default_fits kinds.Texts e = (_, refl)
default_fits (kinds.Nodes c) e = (_, refl)

-- an equation is read at the type of its attribute
site_kind : (p : Program) (a : ℕ) (r : Reference) (xs : List Argument) (s : Site) → site_of p (Attribute a r xs) ≡ Some s → s.kind ≡ attribute_kind p a
site_kind p a Null xs s e = cc
site_kind p a (At n) xs s e =
    let root = made_by (Attribute a (At n) xs) 0 in
    elim (inherits (declared_of p a)) as (λ b. cond b (inherited_site p a xs root n) (synthesized_site p a n xs) ≡ Some s → s.kind ≡ attribute_kind p a) [
      | true ↦ λ h. sym (inherited_kind p a xs root n s h)
      | false ↦ λ h. ap (λ (x : Site). x.kind) (sym (some_of (site_at p a n xs) (option_and_then (equation_for p a) (class_at p n)) s h).2)
    ] e

-- an equation that rises is an expression
rising_site : (p : Program) (i : Instance) → equation_rises (circular_at p.rules.attributes) (equation_of p i) ≡ true → (s : Site) × (site_of p i ≡ Some s) × (equation_of p i ≡ Some (OfSite s)) × (rises (circular_at p.rules.attributes) s.body ≡ true)
rising_site p i h =
    let Circular = circular_at p.rules.attributes in
    let Wanted : Option InstanceEquation → Type 0 = λ o. (s : Site) × (site_of p i ≡ Some s) × (o ≡ Some (OfSite s)) × (rises Circular s.body ≡ true) in
    elim (collection_of p i) as (λ o. equation_rises Circular (option_or (option_map OfCollection o) (option_map OfSite (site_of p i))) ≡ true → Wanted (option_or (option_map OfCollection o) (option_map OfSite (site_of p i)))) [
      | Some c ↦ λ e. absurd (cc)
      | None ↦ λ e. elim (site_of p i) as (λ o. site_of p i ≡ o → equation_rises Circular (option_map OfSite o) ≡ true → Wanted (option_map OfSite o)) [
        | Some s ↦ λ is up. (s, is, refl, up)
        | None ↦ λ none up. absurd (cc)
      ] refl e
    ] h

-- the equation of a circular instance
pub record HasSite (p : Program) (i : Instance) : Type 0 where
  pub site : Site
  pub is : equation_of p i ≡ Some (OfSite site)
  pub rising : IsRising (circular_at p.rules.attributes) site.body
  pub rises : rises (circular_at p.rules.attributes) site.body ≡ true
  pub kind : site.kind ≡ kind_in p i
  pub ordered : is_ordered (kind_in p i) ≡ true

pub circular_site : (p : Program) (i : Instance) → is_circular p i ≡ true → HasSite p i
circular_site p (Query q) c = absurd (cc)
circular_site p (Attribute a r xs) c =
    let declared = circular_at p.rules.attributes in
    let d = and_true (declared a) _ c in
    let e = and_true (is_ordered (attribute_kind p a)) (equation_rises declared (equation_of p (Attribute a r xs))) d.1 in
    let s = rising_site p (Attribute a r xs) e.1 in
    record {
      site = s.0;
      is = s.2;
      rising = test_rising declared s.0.body s.3;
      rises = s.3;
      kind = site_kind p a r xs s.0 s.1;
      ordered = e.0;
    }

-- a circular instance is no collection
pub circular_single : (p : Program) (i : Instance) → (equations_of p).circular i ≡ true → collection_of p i ≡ None
unfolding equations_of
circular_single p i c =
    let s = circular_site p i c in
    let is = s.is in
    elim (collection_of p i) as (λ o. collection_of p i ≡ o → o ≡ None) [
      | None ↦ λ e. refl
      | Some d ↦ λ e. let other = collection_equation p i d e in absurd (cc)
    ] refl

-- what demands come to, one after the other
pub leaves_next : {I V : Type 0} (P : V → Type 0) (c : Demands I V) (k : V → Demands I V) → ((v : V) → Leaves P (k v)) → Leaves P (next c k)
leaves_next P (Gives v) k h = h v
leaves_next P (Needs j f) k h = λ v. leaves_next P (f v) k h

tokens_leave : (P : Value → Type 0) (W : World) (parts : NewArguments) (place : Place) (k : List Argument → Demands Instance Value) → ((ts : List Argument) → Leaves P (k ts)) → Leaves P (with_tokens W parts place k)
tokens_leave P W new_end place k h = h []
tokens_leave P W (new_token t e rest) place k h = leaves_next P (meaning_of W e place) _ (λ v. tokens_leave P W rest place _ (λ ts. h (as_argument t v ∷ ts)))
tokens_leave P W (new_child c parts rest) place k h = tokens_leave P W parts place _ (λ ts. tokens_leave P W rest place _ (λ us. h (ts ++ us)))

-- a tree is of no type that has an order: the default is made
tree_fits : (k : Kind) → is_ordered k ≡ true → (r : Reference) (ts : List Argument) → FitsKind k (as_tree k r ts)
tree_fits kinds.Truth e r ts = (_, refl)
tree_fits kinds.Int e r ts = cc
tree_fits kinds.Text e r ts = cc
tree_fits (kinds.Node c) e r ts = cc
tree_fits kinds.Texts e r ts = (_, refl)
tree_fits (kinds.Nodes c) e r ts = (_, refl)

body_fits : (W : World) (s : Site) (k : Kind) → s.kind ≡ k → is_ordered k ≡ true → (o : Option Making) → Leaves (FitsKind k) (body_demands W s o)
body_fits W s k same e None = leaves_next (FitsKind k) (meaning_of W s.body s.place) (λ v. Gives (as_kind s.kind v)) (λ v. subst (λ (t : Kind). FitsKind k (as_kind t v)) (sym same) (read_fits k e v))
body_fits W s k same e (Some m) = tokens_leave (FitsKind k) W m.arguments s.place (λ ts. Gives (as_tree s.kind s.root ts)) (λ ts. subst (λ (t : Kind). FitsKind k (as_tree t s.root ts)) (sym same) (tree_fits k e s.root ts))

-- it comes to values of the instance's type
circular_fits : (p : Program) (i : Instance) → is_circular p i ≡ true → Leaves (fits_in p i) (equation_demands (world_of p) (equation_of p i))
circular_fits p i c =
    let s = circular_site p i c in
    subst (λ (o : Option InstanceEquation). Leaves (fits_in p i) (equation_demands (world_of p) o)) (sym s.is) (body_fits (world_of p) s.site (kind_in p i) s.kind s.ordered (making_in s.site.body))

-- no token of a `new` that rises has a call that counts
quiet_new : (circular : ℕ → Bool) (e : Expression) (m : Making) → making_in e ≡ Some m → rises circular e ≡ true → tokens_call circular m.arguments ≡ false
quiet_new circular e m is up =
    let both : not (tokens_call circular m.arguments) ≡ true = ap (rises circular) (sym (found_new e m is)) ∙ up in
    elim (tokens_call circular m.arguments) as (λ b. not b ≡ true → b ≡ false) [
      | true ↦ λ h. absurd (cc)
      | false ↦ λ h. refl
    ] both

-- and rises
circular_rises : (p : Program) (i : Instance) → is_circular p i ≡ true → Rise (is_circular p) (order_in p) (order_in p i) (equation_demands (world_of p) (equation_of p i)) (equation_demands (world_of p) (equation_of p i))
circular_rises p i c =
    let s = circular_site p i c in
    let W = world_of p in
    let declared = circular_at p.rules.attributes in
    let up = rising_meaning W (is_circular p) declared (not_circular p) (tokens_plain p) s.rising s.site.place in
    let Grows : Demands Instance Value → Type 0 = λ d. Rise (is_circular p) (order_in p) (order_in p i) d d in
    subst (λ (o : Option InstanceEquation). Grows (equation_demands W o)) (sym s.is)
    (elim (making_in s.site.body) as (λ o. making_in s.site.body ≡ o → Grows (body_demands W s.site o)) [
      | None ↦ λ none. rise_next (λ v. Gives (as_kind s.site.kind v)) (λ v. Gives (as_kind s.site.kind v)) up (λ v w l. leaves (kind_below s.site.kind v w l))
      | Some m ↦ λ is. rising_tokens W (is_circular p) declared (not_circular p) (tokens_plain p) m.arguments (quiet_new declared s.site.body m is s.rises) s.site.place (as_tree s.site.kind s.site.root)
    ] refl)

-- all rules of rising equations hold
pub are_rising : (p : Program) → AreRising (equations_of p) (order_in p) (fits_in p)
unfolding equations_of
are_rising p = record {
  same_is = same_instance_is;
  same_self = same_instance_self;
  itself = λ i v. at_most_itself v;
  through = λ i u v w l m. at_most_through u v w l m;
  both = λ i v w f g l m. at_most_both (kind_in p i) v w f g l m;
  low = λ i v f. default_least (kind_in p i) v;
  start = λ i c. default_fits (kind_in p i) (circular_site p i c).ordered;
  fit = circular_fits p;
  rising = circular_rises p;
}

-- the values of each type have joins
pub are_joins : (p : Program) → AreJoins (equations_of p) (order_in p) (fits_in p) (join_in p)
are_joins p = record {
  left = λ i v w f g. join_left (kind_in p i) v w f;
  right = λ i v w f g. join_right (kind_in p i) v w g;
  least = λ i v w x l m. join_least (kind_in p i) v w x l m;
  fit = λ i v w f g. join_fits (kind_in p i) v w f g;
}

abbrev pub height_in : Program → Instance → Value → ℕ
height_in p i v = height_of (kind_in p i) v

-- and heights
pub have_heights : (p : Program) → HaveHeights (order_in p) (fits_in p) (height_in p)
have_heights p = record {
  grows = λ i v w f g l. height_grows (kind_in p i) v w l;
  strict = λ i v w f g l e. height_strict (kind_in p i) v w f g l e;
}

-- two lists give one value
pub one : (p : Program) (i : Instance) (v w : Value) → HasValue p i v → HasValue p i w → v ≡ w
one p i v w a b = unique (equations_of p) (order_in p) (fits_in p) (are_rising p) i v w a b

-- an instance whose equation ends has a value
pub ended : (p : Program) (i : Instance) (v : Value) (demands : List Instance) → Ends (HasValue p) ((equations_of p).equation i) v demands → HasValue p i v
ended p i v demands e = solved (equations_of p) (order_in p) (fits_in p) (join_in p) (are_rising p) (are_joins p) (height_in p) (have_heights p) i v demands e

-- one whose equation is stuck has none
pub stuck : (p : Program) (i j : Instance) (demands : List Instance) → Halts (HasValue p) ((equations_of p).equation i) j demands → (v : Value) → ¬ HasValue p i v
stuck p i j demands s v a = stuck_no_val (equations_of p) (order_in p) (fits_in p) (are_rising p) i j demands s v a

-- some rounds, and those that ran until nothing was added
pub finished : (p : Program) (i : Instance) (v : Value) → HasValue p i v ↔ HasFinalValue (equations_of p) i v
finished p i v = val_finished (equations_of p) (order_in p) (fits_in p) (are_rising p) i v

-- an instance with a value has no loop
pub loopless : (p : Program) (i : Instance) (v : Value) → HasValue p i v → ¬ HasLoop p i
loopless p i v a l = no_loop (equations_of p) (order_in p) (fits_in p) (join_in p) (are_rising p) (are_joins p) i v a l

-- what it leads to is what it demands
pub reached : (p : Program) (i j : Instance) (v : Value) → HasValue p i v → Chain p i j ↔ Demanded (equations_of p) i j
reached p i j v a = reach_is (equations_of p) (order_in p) (fits_in p) (join_in p) (are_rising p) (are_joins p) i j v a

-- what an equation meets under the solution it leads to, whether the instance has a value or not
pub met_leads : (p : Program) (i j : Instance) → Meets (HasValue p) ((equations_of p).equation i) j → Leads p i j
met_leads p i j m = met_leads_in (equations_of p) (order_in p) (fits_in p) (join_in p) (are_rising p) (are_joins p) (height_in p) (have_heights p) i j m

-- the equation of a circular instance under more values
pub demands_grow : (p : Program) (i : Instance) → (equations_of p).circular i ≡ true → (A B : Instance → Value → Type 0) → LiesBelow (equations_of p).circular (order_in p) A B → (w : Value) (demands : List Instance) → Ends B ((equations_of p).equation i) w demands → Under (order_in p i) A ((equations_of p).equation i) w demands
demands_grow p i c A B l w demands e = growing l ((are_rising p).rising i c) e

pub values_grow : (p : Program) (i : Instance) → (equations_of p).circular i ≡ true → (A B : Instance → Value → Type 0) → AgreeBelow (equations_of p).circular (order_in p) A B → (v w : Value) (first second : List Instance) → Ends A ((equations_of p).equation i) v first → Ends B ((equations_of p).equation i) w second → order_in p i v w
values_grow p i c A B g v w first second d e = done_below g ((are_rising p).rising i c) d e

-- under assignments to circular instances, of which the first is at most the second
pub demands_under : (p : Program) (T U : Instance → Value) → ((j : Instance) → (equations_of p).circular j ≡ true → order_in p j (T j) (U j)) → (i : Instance) → (equations_of p).circular i ≡ true → (w : Value) (demands : List Instance) → Ends (Mixed (equations_of p) U) ((equations_of p).equation i) w demands → Under (order_in p i) (Mixed (equations_of p) T) ((equations_of p).equation i) w demands
demands_under p T U low i c w demands e = demands_assigned (equations_of p) (order_in p) (fits_in p) (are_rising p) T U low i c w demands e

pub values_under : (p : Program) (T U : Instance → Value) → ((j : Instance) → (equations_of p).circular j ≡ true → order_in p j (T j) (U j)) → (i : Instance) → (equations_of p).circular i ≡ true → (v w : Value) (first second : List Instance) → Ends (Mixed (equations_of p) T) ((equations_of p).equation i) v first → Ends (Mixed (equations_of p) U) ((equations_of p).equation i) w second → order_in p i v w
values_under p T U low i c v w first second d e = values_assigned (equations_of p) (order_in p) (fits_in p) (are_rising p) T U low i c v w first second d e

-- and of each rising expression, wherever it is read
pub expression_grows : (p : Program) (e : Expression) (q : Place) → IsRising (circular_at p.rules.attributes) e → (A B : Instance → Value → Type 0) → LiesBelow (is_circular p) (order_in p) A B → (w : Value) (demands : List Instance) → Ends B (meaning_of (world_of p) e q) w demands → Under IsAtMost A (meaning_of (world_of p) e q) w demands
expression_grows p e q r A B l w demands h = growing l (rising_meaning (world_of p) (is_circular p) (circular_at p.rules.attributes) (not_circular p) (tokens_plain p) r q) h

-- lower assignments
pub below : (p : Program) (T : Instance → Value) → IsLower p T → (i : Instance) (v : Value) → (equations_of p).circular i ≡ true → HasValue p i v → order_in p i (T i) v
below p = lower_below (equations_of p) (order_in p) (fits_in p) (join_in p) (are_rising p) (are_joins p)

pub both_lower : (p : Program) (T U : Instance → Value) → IsLower p T → IsLower p U → IsLower p (joined p T U)
both_lower p = joined_lower (equations_of p) (order_in p) (fits_in p) (join_in p) (are_rising p) (are_joins p)

pub still_lower : (p : Program) (T B : Instance → Value) → IsLower p T → (i : Instance) → (equations_of p).circular i ≡ true → ((j : Instance) → (equations_of p).circular j ≡ true → order_in p j (B j) (T j)) → (v w : Value) (demands : List Instance)
    → Ends (Mixed (equations_of p) B) ((equations_of p).equation i) v demands → fits_in p i w → order_in p i w v → IsLower p (raised_at p T i w)
still_lower p = raised_lower (equations_of p) (order_in p) (fits_in p) (join_in p) (are_rising p) (are_joins p)

-- closed sets
pub closed : (p : Program) (C : List Instance) (T : Instance → Value) → IsClosed p C T → (i : Instance) → is_in same_instance C i ≡ true → HasValue p i (T i)
unfolding equations_of
closed p C T is i m = closed_val (equations_of p) (order_in p) (fits_in p) (join_in p) (are_rising p) (are_joins p) (height_in p) (have_heights p) C T is i m
