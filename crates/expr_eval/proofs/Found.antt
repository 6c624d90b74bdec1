-- The equation of an instance, from where it is found, and what it comes to.
use Rattle.std.proofs.Common.{◌≡◌, ◌⊎◌, ℕ, ◌<◌, ◌≤◌, arith, Bool, true, false, cond, List, [], ◌++◌, map, length, refl, Option, Some, None, Result, Ok, Err, sym, ap, subst, ◌∙◌, slice_get, inl, inr}
use Rattle.std.specs.Option.{option_and_then, option_map}
use Rattle.std.specs.Result.{IsErr}
use Rattle.std.proofs.lemmas.Option.{slice_get_past}
use Rattle.rag_io.specs.declared.Memory.{Memory as NoMemory}
use Rattle.ast_grammar.specs.declared.grammar.ClassId.{ClassId}
use Rattle.attr_rules.specs.declared.kinds.AttrId.{AttrId}
use Rattle.attr_rules.specs.declared.kinds.EqId.{EqId}
use Rattle.attr_rules.specs.declared.kinds.Kind.{Kind}
use Rattle.attr_rules.specs.declared.kinds.Kind.TheVariants as kinds
use Rattle.attr_rules.specs.declared.expression.NewArgs.{NewArgs}
use Rattle.attr_rules.specs.declared.expression.TExpr.{TExpr}
use Rattle.attr_rules.specs.declared.expression.TExpr.TheVariants as kept
use Rattle.attr_rules.specs.Expression.{Expression, New, NewArguments, expression_of}
use Rattle.attr_rules.specs.Queries.{Query as Asked}
use Rattle.attr_rules.specs.declared.dispatch.Target.{Target}
use Rattle.attr_rules.specs.Rules.{Equation, RuleSet, body_at, target_in}
use Rattle.solutions.specs.Asking.{Demands, Gives, gives}
use Rattle.equation_law.specs.declared.coding.QueryId.{QueryId}
use Rattle.equation_law.specs.declared.coding.Args.{Args}
use Rattle.equation_law.specs.declared.coding.EqSite.{EqSite}
use Rattle.equation_law.specs.declared.coding.Instance.{Instance as CodedInstance}
use Rattle.equation_law.specs.declared.coding.Instance.TheVariants as coded_instance
use Rattle.equation_law.specs.declared.coding.NodeRef.{NodeRef}
use Rattle.equation_law.specs.declared.coding.Single.{Single as CodedSingle}
use Rattle.equation_law.specs.declared.coding.TreeImage.{TreeImage}
use Rattle.equation_law.specs.declared.coding.Value.{Value as CodedValue}
use Rattle.equation_law.specs.declared.coding.Value.TheVariants as coded
use Rattle.equation_law.specs.declared.system.System.{System}
use Rattle.equation_law.specs.Codes.{AreCodes, AreElements, IsCoded, IsNamingOf, Naming, arguments_by, arguments_for, instance_by, reference_by, single_by, value_by}
use Rattle.equation_law.specs.Created.{Making, making_in, token_kinds}
use Rattle.equation_law.specs.Equations.{Site, attribute_kind, body_demands, collection_of, equations_of, inherited_site, inherits, place_at, site_at, site_demands, site_of, synthesized_site, world_of}
use Rattle.equation_law.specs.Meaning.{Place, with_tokens}
use Rattle.equation_law.specs.Names.{Argument, At, Attribute, Instance, Null, Query, Reference, made_by}
use Rattle.equation_law.specs.Program.{Program, class_at, declared_of, equation_for, text_of}
use Rattle.equation_law.specs.Reading.{ByEachIn, Grows, IsSound, KnowsInstance, KnowsValue, Told}
use Rattle.equation_law.specs.Values.{Node, Tree, Value, as_kind, as_tree, default_of}
use Rattle.equation_law.proofs.Inherited.{read_above}
use Rattle.equation_law.proofs.Lists.{some_of}
use Rattle.equation_law.proofs.Sites.{demanded_at_site}
use Rattle.inherited_walk.specs.Sites.{FindsIn, IsFound, site_place}
use Rattle.expr_eval.specs.declared.evaluation.Halt.{Halt}
use Rattle.expr_eval.specs.declared.evaluation.Halt.TheVariants.{Need, Memory}
use Rattle.expr_eval.specs.declared.saved.Saved.{Saved}
use Rattle.expr_eval.specs.declared.sites.Turn.{Turn}
use Rattle.expr_eval.specs.declared.sites.Turn.TheVariants as turns
use Rattle.expr_eval.specs.Elements.{node_kind}
use Rattle.expr_eval.specs.Evaluating.{AnswersTurn, Asks, Comes, Evaluates, Given, GivenTree, Places, Stopped, TokensGiven, Wants, place_kept, places_kept, read_at, reads_at}
use Rattle.expr_eval.specs.Reads.{Advances, IsReady, Reads, Resumes, State, TokensRead, state}
use Rattle.expr_eval.specs.Saved.{AreSaved, SavesNothing}
use Rattle.expr_eval.specs.Sites.{IsImageFor, IsImageOf, IsNoImage, IsTurned, TurnAs, expression_or_null, instance_reads, query_reads, side_reads, site_reads}
use Rattle.expr_eval.proofs.Forms.{advances_read, advances_self, advances_then, comes_next, gives_value, naming_in, wants_first}
use Rattle.expr_eval.proofs.Knowing.{by_sources, default_in, kind_in, value_in, value_known}
use Rattle.expr_eval.proofs.NewTokens.{TokensHalt, TokensStop, given_never, given_same, tokens_comes, tokens_end, tokens_halt}

-- the target of an equation by its number
pub target_here : (k : ℕ) {rules all : RuleSet} {t : Target} {q : Equation} → rules ≡ all → option_map target_in (slice_get rules.equations k) ≡ Some t → slice_get all.equations k ≡ Some q → q.target ≡ t
target_here k {t = t} {q = q} same kept there =
    let one : Some q.target ≡ Some t = ap (option_map target_in) (sym there) ∙ ap (λ (x : RuleSet). option_map target_in (slice_get x.equations k)) (sym same) ∙ kept in
    cc

-- an expression that isn't kept as a `new` is none
pub not_new : (e : TExpr) → ((c : ClassId) (parts : NewArgs) → e ≡ kept.New c parts → ⊥) → making_in (expression_of e) ≡ None
not_new (kept.New c parts) h = absurd (h c parts refl)
not_new _ h = refl

-- the type of its value is that of the attribute
pub attribute_site_kind : (p : Program) (a : ℕ) (r : Reference) (xs : List Argument) (x : Site) → site_of p (Attribute a r xs) ≡ Some x → attribute_kind p a ≡ x.kind
attribute_site_kind p a Null xs x e = cc
attribute_site_kind p a (At n) xs x e =
    let root = made_by (Attribute a (At n) xs) 0 in
    elim (inherits (declared_of p a)) as (λ b. cond b (inherited_site p a xs root n) (synthesized_site p a n xs) ≡ Some x → attribute_kind p a ≡ x.kind) [
      | true ↦ λ h. let above = read_above p a xs root n x h in ap (λ (s : Site). s.kind) above.is
      | false ↦ λ h. let found = some_of (site_at p a n xs) (option_and_then (equation_for p a) (class_at p n)) x h in ap (λ (s : Site). s.kind) found.2
    ] e

-- an instance has this equation, whatever tree it makes
abbrev HasSite : Program → Instance → Expression → Kind → Place → Type 0
HasSite p i e k place = (root : Reference) × (site_of p i ≡ Some (record { body = e; kind = k; place = place; root = root }))

-- the equation of an instance that is found by a naming
same_site : (p : Program) (a : ℕ) (n : Naming) (i : Instance) (site : EqSite) (k : Kind) → ((x : Site) → site_of p i ≡ Some x → k ≡ x.kind) → IsFound p n a (site_of p i) (Some site) → HasSite p i (expression_or_null (body_at p.rules site.equation.0)) k (site_place p n a site)
same_site p a n i site k kind found =
    let body : found.0.body ≡ expression_or_null (body_at p.rules site.equation.0) = sym (ap expression_or_null found.2.body) in
    (found.0.root, found.1 ∙ (λ j. Some (record { body = body j; kind = sym (kind found.0 found.1) j; place = found.2.place j; root = found.0.root })))

-- want of memory says nothing
unanswered : {S : Type 0} (p : Program) (t : Told S) (c : Asks) (res : Result Turn NoMemory) → IsErr res → AnswersTurn p t c res
unanswered p t c (Ok x) e = absurd (let none : false ≡ true = e in cc)
unanswered p t c (Err m) e = tt

-- a turn over demands that are others, by what the reader may be read
turn_as : {S : Type 0} (p : Program) (s : Told S) (c d : Asks) (res : Result Turn NoMemory) → ByEachIn s (λ n. c n ≡ d n) → AnswersTurn p s c res → AnswersTurn p s d res
turn_as p s c d (Ok (turns.Done v)) same a = record { comes = λ n at. subst (λ x. Comes s.has x (value_by n v)) (same n at) (a.comes n at); coded = a.coded; known = a.known }
turn_as p s c d (Ok (turns.Need i)) same a = record { wants = λ n at. subst (λ x. Wants s.has x (instance_by p n i)) (same n at) (a.wants n at); coded = a.coded; known = a.known }
turn_as p s c d (Ok (turns.Image t)) same a =
    record { making = a.making; is = a.is; comes = λ n at. (let one = a.comes n at in (one.0, subst (λ x. Comes s.has x (Tree one.0 (arguments_by n (token_kinds a.making.arguments) t.tokens))) (same n at) one.1)); all = a.all; codes = a.codes }
turn_as p s c d (Err m) same a = tt

module _ {S : Type 0} (p : Program) (r s : State S) where
  pub failed : (c : Asks) (res : Result Turn NoMemory) → Advances p r s → IsErr res → Resumes p r s c res
  failed c res g e = record { kept = g; answer = unanswered p s.told c res e }

  resumes_as : (c d : Asks) (res : Result Turn NoMemory) → ByEachIn s.told (λ n. c n ≡ d n) → Resumes p r s c res → Resumes p r s d res
  resumes_as c d res same h = record { kept = h.kept; answer = turn_as p s.told c d res same h.answer }

  -- what an evaluation is to callers
  pub turned_reads : (place : Places) (e : Expression) (came : Result CodedValue Halt) (res : Result Turn NoMemory) → Reads p r s place e came → IsTurned came res → Resumes p r s (reads_at p place e) res
  turned_reads place e (Ok v) res h is = record { kept = h.kept; answer = subst (AnswersTurn p s.told (reads_at p place e)) (sym is) h.is }
  turned_reads place e (Err (Need i)) res h is = record { kept = h.kept; answer = subst (AnswersTurn p s.told (reads_at p place e)) (sym is) h.is }
  turned_reads place e (Err Memory) res h is = failed (reads_at p place e) res h.kept is

  -- the names of a site
  pub names_read : (a : ℕ) (site : EqSite) {e : Expression} {names held : List CodedSingle} {came : Result CodedValue Halt} → names ≡ held → ((n : Naming) → map (single_by n) held ≡ (site_place p n a site).names)
      → Reads p r s (places_kept site.node.0 names) e came → Reads p r s (λ n. site_place p n a site) e came
  names_read a site {e} {names} {held} {came} same are h =
      let at : places_kept site.node.0 names ≡ (λ n. site_place p n a site) = (λ i n. record { this = reference_by n.node site.node.0; names = (ap (map (single_by n)) same ∙ are n) i }) in
      subst (λ (o : Places). Reads p r s o e came) at h

  -- what follows the tokens of a `new`
  abbrev pub image_asks : NewArguments → Places → Asks
  image_asks parts place = λ n. with_tokens (world_of p) parts (place n) (λ ts. Gives (Tree Null ts))

  pub names_made : (a : ℕ) (site : EqSite) (parts : NewArguments) {names held : List CodedSingle} {res : Result Turn NoMemory} → names ≡ held → ((n : Naming) → map (single_by n) held ≡ (site_place p n a site).names)
      → Resumes p r s (image_asks parts (places_kept site.node.0 names)) res → Resumes p r s (image_asks parts (λ n. site_place p n a site)) res
  names_made a site parts {names} {held} {res} same are h =
      let at : places_kept site.node.0 names ≡ (λ n. site_place p n a site) = (λ i n. record { this = reference_by n.node site.node.0; names = (ap (map (single_by n)) same ∙ are n) i }) in
      subst (λ (o : Places). Resumes p r s (image_asks parts o) res) at h

  -- an equation by its number
  abbrev pub side_of : ℕ → EqSite → Expression → Asks
  side_of a site e = λ n. side_reads p (site_place p n a site) e (making_in e)

  side_evaluated : (a : ℕ) (site : EqSite) (rules : RuleSet) (e : Expression) (res : Result Turn NoMemory) → rules ≡ p.rules → body_at rules site.equation.0 ≡ Some e → Resumes p r s (side_of a site e) res → Resumes p r s (site_reads p a site) res
  side_evaluated a site rules e res same body h =
      let at : expression_or_null (body_at p.rules site.equation.0) ≡ e = ap (λ (x : RuleSet). expression_or_null (body_at x site.equation.0)) (sym same) ∙ ap expression_or_null body in
      subst (λ (x : Expression). Resumes p r s (side_of a site x) res) (sym at) h

  pub site_evaluated : (a : ℕ) (site : EqSite) (rules : RuleSet) (e : Expression) (came : Result CodedValue Halt) (res : Result Turn NoMemory) → rules ≡ p.rules → body_at rules site.equation.0 ≡ Some e → making_in e ≡ None → Reads p r s (λ n. site_place p n a site) e came → IsTurned came res
      → Resumes p r s (site_reads p a site) res
  site_evaluated a site rules e came res same body plain h is =
      let there = turned_reads (λ n. site_place p n a site) e came res h is in
      side_evaluated a site rules e res same body (subst (λ (o : Option Making). Resumes p r s (λ n. side_reads p (site_place p n a site) e o) res) (sym plain) there)

  pub site_made : (a : ℕ) (site : EqSite) (rules : RuleSet) (e : Expression) (c : ClassId) (parts : NewArguments) (res : Result Turn NoMemory) → rules ≡ p.rules → body_at rules site.equation.0 ≡ Some e → e ≡ New c parts → Resumes p r s (image_asks parts (λ n. site_place p n a site)) res
      → Resumes p r s (site_reads p a site) res
  site_made a site rules e c parts res same body new h = side_evaluated a site rules e res same body (subst (λ (x : Expression). Resumes p r s (side_of a site x) res) (sym new) h)

  -- the root stands for itself by each naming
  root_place : {n : Naming} → IsNamingOf p n → place_kept n 1 [] ≡ place_at 0
  root_place h = λ i. record { this = At (h.sources 0 (omega arith) i); names = [] }

  -- a query by its number
  pub query_evaluated : (q x : Asked) (k : ℕ) (e : Expression) (came : Result CodedValue Halt) (res : Result Turn NoMemory) → slice_get p.queries k ≡ Some x → e ≡ x.body → Reads p r s (places_kept 1 []) e came → IsTurned came res → slice_get p.queries k ≡ Some q
      → Resumes p r s (query_reads p q) res
  query_evaluated q x k e came res at body h is found =
      let same : x ≡ q = cc in
      let there = turned_reads (places_kept 1 []) e came res h is in
      let rooted = resumes_as (reads_at p (places_kept 1 []) e) (reads_at p (λ n. place_at 0) e) res (λ n named. ap (λ (o : Place). read_at p o e) (root_place (naming_in h.kept n named))) there in
      subst (λ (y : Expression). Resumes p r s (reads_at p (λ n. place_at 0) y) res) (body ∙ ap (λ (y : Asked). y.body) same) rooted

-- no coded value is a tree
no_tree : (n : Naming) (v : CodedValue) (r : Reference) (ts : List Argument) → Tree r ts ≡ value_by n v → ⊥
no_tree n (coded.Truth b) r ts e = cc
no_tree n (coded.Int z) r ts e = cc
no_tree n (coded.Text k) r ts e = cc
no_tree n (coded.Node k) r ts e = cc
no_tree n (coded.Texts cs) r ts e = cc
no_tree n (coded.Nodes cs) r ts e = cc

-- a tree read at a type
tree_there : (k : Kind) (r : Reference) (ts : List Argument) → node_kind k ≡ true → as_tree k r ts ≡ Tree r ts
tree_there kinds.Truth r ts e = cc
tree_there kinds.Int r ts e = cc
tree_there kinds.Text r ts e = cc
tree_there (kinds.Node c) r ts e = refl
tree_there kinds.Texts r ts e = cc
tree_there (kinds.Nodes c) r ts e = cc

no_tree_there : (k : Kind) (r : Reference) (ts : List Argument) → node_kind k ≡ false → as_tree k r ts ≡ default_of k
no_tree_there kinds.Truth r ts e = refl
no_tree_there kinds.Int r ts e = refl
no_tree_there kinds.Text r ts e = refl
no_tree_there (kinds.Node c) r ts e = cc
no_tree_there kinds.Texts r ts e = refl
no_tree_there (kinds.Nodes c) r ts e = refl

-- there is a naming by which the reader may be read
abbrev HasNaming : {S : Type 0} → Told S → Type 0
HasNaming s = (n : Naming) × s.names n

-- What a right side comes to, from what it does without the instance: a tree that is made is that of the instance, and a value is read at its type.
module _ {S : Type 0} (p : Program) (s : Told S) (sound : IsSound p s) (first : text_of p 0 ≡ []) (e : Expression) (k : Kind) (place : Places) (root : (n : Naming) → s.names n → Reference) where
  text : ByEachIn s (λ n. n.text 0 ≡ [])
  text n at = ap (λ (f : ℕ → List ℕ). f 0) (sound.named n at).texts ∙ first

  abbrev site_by : (n : Naming) → s.names n → Site
  site_by n at = record { body = e; kind = k; place = place n; root = root n at }

  abbrev Body : Option Making → (n : Naming) → s.names n → Demands Instance Value
  Body o n at = body_demands (world_of p) (site_by n at) o

  -- what a turn says of this
  abbrev Says : Turn → ((n : Naming) → s.names n → Demands Instance Value) → Type 0
  Says (turns.Done v) c = ((n : Naming) (at : s.names n) → Comes s.has (c n at) (value_by n v)) × AreElements p v × KnowsValue s v
  Says (turns.Need i) c = ((n : Naming) (at : s.names n) → Wants s.has (c n at) (instance_by p n i)) × IsCoded p i × KnowsInstance p s i
  Says (turns.Image t) c = (m : Making) × (option_and_then making_in (body_at p.rules t.equation.0) ≡ Some m) × ((n : Naming) (at : s.names n) → (r : Reference) × Comes s.has (c n at) (Tree r (arguments_by n (token_kinds m.arguments) t.tokens)))
      × (length t.tokens ≡ length (token_kinds m.arguments)) × AreCodes p (token_kinds m.arguments) t.tokens

  abbrev Side : Option Making → Asks
  Side o = λ n. side_reads p (place n) e o

  -- a value
  said_value : (v : CodedValue) (u : Turn) → Given p s (Side None) v → TurnAs k (turns.Done v) u → Says u (Body None)
  said_value v u h read =
      let known = value_known sound read.0 (λ n is. read.2 n (ap (λ (f : ℕ → List ℕ). f 0) is.texts ∙ first)) (kind_in s.knows k (value_by (by_sources sound) v) (value_in sound v h.known)) in
      let value : (n : Naming) (at : s.names n) → as_kind k (value_by n v) ≡ value_by n read.0 = λ n at. sym (read.2 n (text n at)) in
      let ends : (n : Naming) (at : s.names n) → Comes s.has (Body None n at) (value_by n read.0) = λ n at. comes_next (λ x. Gives (as_kind k x)) (h.comes n at) (subst (λ x. Comes s.has (Gives (as_kind k (value_by n v))) x) (value n at) ([], gives)) in
      subst (λ t. Says t (Body None)) (sym read.1) (ends, read.3 p h.coded, known)

  -- a `new` gives none
  no_value : (m : Making) (v : CodedValue) → HasNaming s → Given p s (Side (Some m)) v → ⊥
  no_value m v some h =
      let n = some.0 in
      let end = tokens_end s.has (world_of p) (place n) m.arguments (λ ts. Gives (Tree Null ts)) (value_by n v) (h.comes n some.1) in
      no_tree n v Null end.values (given_same end.rest)

  -- a demand
  said_need : (o : Option Making) (i : CodedInstance) → Stopped p s (Side o) i → Says (turns.Need i) (Body o)
  said_need None i h = (λ n at. wants_first (λ x. Gives (as_kind k x)) (h.wants n at), h.coded, h.known)
  said_need (Some m) i h = (λ n at. of n at (tokens_halt s.has (world_of p) (place n) m.arguments (λ ts. Gives (Tree Null ts)) (instance_by p n i) (h.wants n at)), h.coded, h.known)
    where
      of : (n : Naming) (at : s.names n) → TokensStop s.has (world_of p) (place n) m.arguments (instance_by p n i) ⊎ TokensHalt s.has (world_of p) (place n) m.arguments (λ ts. Gives (Tree Null ts)) (instance_by p n i) → Wants s.has (Body (Some m) n at) (instance_by p n i)
      of n at (inl stops) = stops (λ ts. Gives (as_tree k (root n at) ts))
      of n at (inr x) = absurd (given_never x.rest)

  -- a tree
  said_tree : (m : Making) (n : Naming) (at : s.names n) (r : Reference) (xs : List Argument) → Comes s.has (Side (Some m) n) (Tree r xs) → Comes s.has (Body (Some m) n at) (as_tree k (root n at) xs)
  said_tree m n at r xs h =
      let end = tokens_end s.has (world_of p) (place n) m.arguments (λ ts. Gives (Tree Null ts)) (Tree r xs) h in
      let same : Tree Null end.values ≡ Tree r xs = given_same end.rest in
      let tokens : end.values ≡ xs = cc in
      tokens_comes (λ ts. Gives (as_tree k (root n at) ts)) end.collects (subst (λ (ts : List Argument). Comes s.has (Gives (as_tree k (root n at) end.values)) (as_tree k (root n at) ts)) tokens ([], gives))

  said_image : (m : Making) (t : TreeImage) (u : Turn) → GivenTree p s (Side (Some m)) t → TurnAs k (turns.Image t) u → Says u (Body (Some m))
  said_image m t u h read = of (node_kind k) refl read
    where
      comes : (n : Naming) (at : s.names n) → Comes s.has (Body (Some m) n at) (as_tree k (root n at) (arguments_by n (token_kinds h.making.arguments) t.tokens))
      comes n at = let one = h.comes n at in said_tree m n at one.0 (arguments_by n (token_kinds h.making.arguments) t.tokens) one.1

      of : (b : Bool) → node_kind k ≡ b → cond b (u ≡ turns.Image t) ((w : CodedValue) × (u ≡ turns.Done w) × ((n : Naming) → n.text 0 ≡ [] → value_by n w ≡ default_of k) × ((q : Program) → AreElements q w)) → Says u (Body (Some m))
      of true is same =
          subst (λ x. Says x (Body (Some m))) (sym same) (h.making, h.is, λ n at. (root n at, subst (λ v. Comes s.has (Body (Some m) n at) v) (tree_there k (root n at) (arguments_by n (token_kinds h.making.arguments) t.tokens) is) (comes n at)), h.all, h.codes)
      of false is value =
          let ends : (n : Naming) (at : s.names n) → Comes s.has (Body (Some m) n at) (value_by n value.0) = λ n at. subst (λ v. Comes s.has (Body (Some m) n at) v) (no_tree_there k (root n at) (arguments_by n (token_kinds h.making.arguments) t.tokens) is ∙ sym (value.2 n (text n at))) (comes n at) in
          subst (λ x. Says x (Body (Some m))) (sym value.1) (ends, value.3 p, value_known sound value.0 (λ n is. value.2 n (ap (λ (f : ℕ → List ℕ). f 0) is.texts ∙ first)) (default_in s.knows k))

  -- each turn
  said : (o : Option Making) (t u : Turn) → HasNaming s → (o ≡ None → IsNoImage (Ok t)) → AnswersTurn p s (Side o) (Ok t) → TurnAs k t u → Says u (Body o)
  said None (turns.Done v) u some plain h read = said_value v u h read
  said (Some m) (turns.Done v) u some plain h read = absurd (no_value m v some h)
  said o (turns.Need i) u some plain h read = subst (λ x. Says x (Body o)) (sym read) (said_need o i h)
  said None (turns.Image t) u some plain h read = absurd (plain refl)
  said (Some m) (turns.Image t) u some plain h read = said_image m t u h read

  -- as the answer to other demands
  answered : (c : (n : Naming) → s.names n → Demands Instance Value) (d : Asks) (u : Turn) → ((n : Naming) (at : s.names n) → c n at ≡ d n) → Says u c → AnswersTurn p s d (Ok u)
  answered c d (turns.Done v) same h = record { comes = λ n at. subst (λ x. Comes s.has x (value_by n v)) (same n at) (h.0 n at); coded = h.1; known = h.2 }
  answered c d (turns.Need i) same h = record { wants = λ n at. subst (λ x. Wants s.has x (instance_by p n i)) (same n at) (h.0 n at); coded = h.1; known = h.2 }
  answered c d (turns.Image t) same h =
      record { making = h.0; is = h.1; comes = λ n at. (let one = h.2 n at in (one.0, subst (λ x. Comes s.has x (Tree one.0 (arguments_by n (token_kinds h.0.arguments) t.tokens))) (same n at) one.1)); all = h.3; codes = h.4 }

  pub side_said : (i : Naming → Instance) (t u : Turn) → ByEachIn s (λ n. collection_of p (i n) ≡ None) → ((n : Naming) (at : s.names n) → site_of p (i n) ≡ Some (record { body = e; kind = k; place = place n; root = root n at }))
      → HasNaming s → (making_in e ≡ None → IsNoImage (Ok t)) → AnswersTurn p s (Side (making_in e)) (Ok t) → TurnAs k t u → AnswersTurn p s (λ n. (equations_of p).equation (i n)) (Ok u)
  side_said i t u none is some plain h read =
      answered (Body (making_in e)) (λ n. (equations_of p).equation (i n)) u (λ n at. sym (demanded_at_site p (i n) (none n at) ∙ ap (site_demands (world_of p)) (is n at))) (said (making_in e) t u some plain h read)

-- the demands of an instance, from those of its equation
pub instance_evaluated : {S : Type 0} (p : Program) (r s : State S) (i : Naming → Instance) (e : Expression) (k : Kind) (place : Places) (t u : Turn) → text_of p 0 ≡ [] → ByEachIn s.told (λ n. collection_of p (i n) ≡ None) → ByEachIn s.told (λ n. HasSite p (i n) e k (place n))
    → (making_in e ≡ None → IsNoImage (Ok t)) → Resumes p r s (λ n. side_reads p (place n) e (making_in e)) (Ok t) → TurnAs k t u → Resumes p r s (λ n. (equations_of p).equation (i n)) (Ok u)
instance_evaluated p r s i e k place t u first none is plain h read =
    record { kept = h.kept; answer = side_said p s.told h.kept.sound.sound first e k place (λ n at. (is n at).0) i t u none (λ n at. (is n at).1) h.kept.sound.sound.some plain h.answer read }

-- an attribute's equation that is found, read at the attribute's type
pub attribute_evaluated : {S : Type 0} (p : Program) (r s : State S) (a : AttrId) (m : NodeRef) (xs : Args) (k : Kind) (site : EqSite) (t u : Turn) → text_of p 0 ≡ [] → k ≡ attribute_kind p a.0 → ByEachIn r.told (λ n. collection_of p (instance_by p n (coded_instance.Attr a m xs)) ≡ None)
    → FindsIn p r.told a m xs (Some site) → (making_in (expression_or_null (body_at p.rules site.equation.0)) ≡ None → IsNoImage (Ok t)) → Resumes p r s (site_reads p a.0 site) (Ok t) → TurnAs k t u → Resumes p r s (instance_reads p (coded_instance.Attr a m xs)) (Ok u)
attribute_evaluated p r s a m xs k site t u first kind none found plain h read =
    let i = coded_instance.Attr a m xs in
    let is : ByEachIn s.told (λ n. HasSite p (instance_by p n i) (expression_or_null (body_at p.rules site.equation.0)) k (site_place p n a.0 site)) = λ n at. same_site p a.0 n (instance_by p n i) site k (λ x e. kind ∙ attribute_site_kind p a.0 (reference_by n.node m.0) (arguments_for p n a.0 xs) x e) (found n (h.kept.names n at)) in
    instance_evaluated p r s (λ n. instance_by p n i) (expression_or_null (body_at p.rules site.equation.0)) k (λ n. site_place p n a.0 site) t u first (λ n at. none n (h.kept.names n at)) is plain h read

-- a query's, read at the query's type
pub asked_evaluated : {S : Type 0} (p : Program) (r s : State S) (q : QueryId) (e : Asked) (k : Kind) (t u : Turn) → text_of p 0 ≡ [] → slice_get p.queries q.0 ≡ Some e → k ≡ e.kind → IsNoImage (Ok t) → Resumes p r s (query_reads p e) (Ok t) → TurnAs k t u
    → Resumes p r s (instance_reads p (coded_instance.Query q)) (Ok u)
asked_evaluated p r s q e k t u first at kind plain h read =
    let is : HasSite p (Query q.0) e.body k (place_at 0) = (Null, ap (λ (o : Option Asked). option_map (λ x. record { body = x.body; kind = x.kind; place = place_at 0; root = Null }) o) at ∙ (λ j. Some (record { body = e.body; kind = sym kind j; place = place_at 0; root = Null }))) in
    let none : making_in e.body ≡ None = h.kept.sound.sound.fit.queries q.0 e at in
    let side = subst (λ (o : Option Making). Resumes p r s (λ n. side_reads p (place_at 0) e.body o) (Ok t)) (sym none) h in
    instance_evaluated p r s (λ n. Query q.0) e.body k (λ n. place_at 0) t u first (λ n at. refl) (λ n at. is) (λ e. plain) side read

-- what has no equation counts as null
pub none_evaluated : {S : Type 0} (p : Program) (r : State S) (i : CodedInstance) → IsReady p r → ByEachIn r.told (λ n. collection_of p (instance_by p n i) ≡ None) → ByEachIn r.told (λ n. site_of p (instance_by p n i) ≡ None) → (x : CodedValue) → AreElements p x → KnowsValue r.told x → ((n : Naming) → value_by n x ≡ Node Null)
    → Resumes p r r (instance_reads p i) (Ok (turns.Done x))
none_evaluated p r i ready single none x coded known e =
    let asks : Asks = λ n. Gives (Node Null) in
    let same : ByEachIn r.told (λ n. asks n ≡ instance_reads p i n) = λ n at. sym (demanded_at_site p (instance_by p n i) (single n at) ∙ ap (site_demands (world_of p)) (none n at)) in
    record { kept = advances_self ready; answer = turn_as p r.told asks (instance_reads p i) (Ok (turns.Done x)) same (gives_value (λ n at. e n) coded known) }

-- as a query that isn't there
pub past_query : (p : Program) (q : ℕ) → length p.queries ≤ q → site_of p (Query q) ≡ None
past_query p q past = ap (λ (o : Option Asked). option_map (λ x. record { body = x.body; kind = x.kind; place = place_at 0; root = Null }) o) (slice_get_past p.queries q past)

-- going on is an evaluation
pub evaluated : {S : Type 0} {p : Program} {s : System} {r t : Told S} {x y : Saved} {c : Asks} {res : Result Turn NoMemory} → Resumes p (state s r x) (state s t y) c res → Evaluates p r t c res
evaluated h = record { kept = record { sound = h.kept.sound.sound; values = h.kept.values; bound = h.kept.bound; kept = h.kept.kept; names = h.kept.names; known = h.kept.known; heights = h.kept.heights }; answer = h.answer }

-- where nothing is saved
pub none_saved : {S : Type 0} {s : System} {t : Told S} (x : Saved) → SavesNothing x → AreSaved s t x
none_saved x none = λ g there. absurd (let within : there.0 < 0 = subst (λ (n : ℕ). there.0 < n) (ap length none) there.1 in omega (arith, within))

pub ready_new : {S : Type 0} {p : Program} {s : System} {r : Told S} (x : Saved) → SavesNothing x → IsSound p r → IsReady p (state s r x)
ready_new x none sound = record { sound = sound; saved = none_saved x none }

-- What a `new` makes that is the right side of an equation.
module _ {S : Type 0} (p : Program) (r s : State S) (place : Places) (equation : EqId) (class : ClassId) (parts : NewArguments) where
  pub image_given : (before behind : List ℕ) → before ≡ [] → body_at p.rules equation.0 ≡ Some (New class parts) → TokensRead p r s place parts before behind (Ok tt) → Resumes p r s (image_asks p r s parts place) (Ok (turns.Image (record { equation = equation; tokens = behind })))
  image_given before behind none body h =
      let same : behind ≡ h.is.0 = h.is.1 ∙ ap (λ cs. cs ++ h.is.0) none in
      let given = subst (TokensGiven p s.told place parts) (sym same) h.is.2 in
      record {
        kept = h.kept;
        answer = record {
          making = record { class = class; arguments = parts };
          is = ap (option_and_then making_in) body;
          comes = λ n at. (Null, tokens_comes (λ ts. Gives (Tree Null ts)) (given.collects n at) ([], gives));
          all = given.all;
          codes = given.codes;
        };
      }

  pub image_stopped : (before behind : List ℕ) (h : Halt) (res : Result Turn NoMemory) → TokensRead p r s place parts before behind (Err h) → IsTurned (Err h) res → Resumes p r s (image_asks p r s parts place) res
  image_stopped before behind (Need i) res h is =
      subst (Resumes p r s (image_asks p r s parts place)) (sym is) (record { kept = h.kept; answer = record { wants = λ n at. h.is.stopped n at (λ ts. Gives (Tree Null ts)); coded = h.is.coded; known = h.is.known } })
  image_stopped before behind Memory res h is = failed p r s (image_asks p r s parts place) res h.kept is

-- what goes on behind a reader that alone went on
pub resumes_later : {S : Type 0} {p : Program} {r s : State S} {u : Told S} {c : Asks} {res : Result Turn NoMemory} → IsReady p r → Grows p r.told u → Resumes p (state r.system u r.saved) s c res → Resumes p r s c res
resumes_later ready grows h = record { kept = advances_then (advances_read ready grows) h.kept; answer = h.answer }

-- a tree that is made by the equation that is found is made by the instance's
pub image_found : {S : Type 0} (p : Program) (s : Told S) (a : AttrId) (m : NodeRef) (xs : Args) (k : Kind) (site : EqSite) (t u : Turn) → FindsIn p s a m xs (Some site) → IsImageOf site.equation.0 (Ok t) → TurnAs k t u → IsImageFor p s (coded_instance.Attr a m xs) (Ok u)
image_found p s a m xs k site (turns.Done v) u found made read = subst (λ x. IsImageFor p s (coded_instance.Attr a m xs) (Ok x)) (sym read.1) tt
image_found p s a m xs k site (turns.Need i) u found made read = subst (λ x. IsImageFor p s (coded_instance.Attr a m xs) (Ok x)) (sym read) tt
image_found p s a m xs k site (turns.Image t) u found made read = of (node_kind k) read
  where
    of : (b : Bool) → cond b (u ≡ turns.Image t) ((w : CodedValue) × (u ≡ turns.Done w) × ((n : Naming) → n.text 0 ≡ [] → value_by n w ≡ default_of k) × ((q : Program) → AreElements q w)) → IsImageFor p s (coded_instance.Attr a m xs) (Ok u)
    of true same = subst (λ x. IsImageFor p s (coded_instance.Attr a m xs) (Ok x)) (sym same) (λ n at. let one = found n at in ap (option_map (λ (x : Site). x.body)) one.1 ∙ sym one.2.body ∙ ap (body_at p.rules) (sym made))
    of false value = subst (λ x. IsImageFor p s (coded_instance.Attr a m xs) (Ok x)) (sym value.1) tt

-- what gives no tree gives none where its value is read at a type
pub plain_read : (k : Kind) (t u : Turn) → IsNoImage (Ok t) → TurnAs k t u → IsNoImage (Ok u)
plain_read k (turns.Done v) u plain read = subst (λ x. IsNoImage (Ok x)) (sym read.1) tt
plain_read k (turns.Need i) u plain read = subst (λ x. IsNoImage (Ok x)) (sym read) tt
plain_read k (turns.Image t) u plain read = absurd plain
