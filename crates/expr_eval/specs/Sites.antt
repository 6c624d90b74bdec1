-- The equations that are evaluated.
use Rattle.std.specs.Prelude.{◌≡◌, ℕ, [], cond, Option, Some, None, Result, Ok, Err, slice_get}
use Rattle.solutions.specs.Asking.{Demands, Gives}
use Rattle.std.specs.Option.{option_map}
use Rattle.std.specs.Result.{IsErr}
use Rattle.rag_io.specs.declared.Memory.{Memory as NoMemory}
use Rattle.attr_rules.specs.declared.kinds.Kind.{Kind}
use Rattle.attr_rules.specs.Expression.{Expression, New, Null as NullLiteral, new_arguments_of}
use Rattle.ast_grammar.specs.declared.grammar.ClassId.{ClassId}
use Rattle.attr_rules.specs.declared.expression.NewArgs.{NewArgs}
use Rattle.attr_rules.specs.declared.kinds.EqId.{EqId}
use Rattle.attr_rules.specs.Queries.{Query as Asked}
use Rattle.attr_rules.specs.Rules.{Equation, body_at}
use Rattle.equation_law.specs.declared.coding.EqSite.{EqSite}
use Rattle.equation_law.specs.declared.coding.Instance.{Instance as CodedInstance}
use Rattle.equation_law.specs.declared.coding.Value.{Value as CodedValue}
use Rattle.equation_law.specs.declared.system.System.{System}
use Rattle.equation_law.specs.Codes.{AreElements, Naming, instance_by, value_by}
use Rattle.equation_law.specs.Created.{Making, making_in}
use Rattle.equation_law.specs.Equations.{Site, equations_of, place_at, site_of, world_of}
use Rattle.equation_law.specs.Meaning.{Place, with_tokens}
use Rattle.equation_law.specs.Names.{Instance, Null as NoNode}
use Rattle.inherited_walk.specs.Sites.{KnowsSite, site_place}
use Rattle.equation_law.specs.Program.{Program}
use Rattle.equation_law.specs.Reading.{ByEachIn, Told}
use Rattle.equation_law.specs.Systems.{program_of}
use Rattle.equation_law.specs.Values.{Tree, Value, as_kind, default_of}
use Rattle.expr_eval.specs.declared.evaluation.Context.{Context}
use Rattle.expr_eval.specs.declared.evaluation.Halt.{Halt}
use Rattle.expr_eval.specs.declared.evaluation.Halt.TheVariants.{Need, Memory}
use Rattle.expr_eval.specs.declared.saved.Saved.{Saved}
use Rattle.expr_eval.specs.declared.sites.Turn.{Turn}
use Rattle.expr_eval.specs.declared.sites.Turn.TheVariants as turns
use Rattle.expr_eval.specs.Elements.{node_kind}
use Rattle.expr_eval.specs.Evaluating.{Asks, Evaluates, place_in, places_kept, read_at, reads_at}
use Rattle.expr_eval.specs.Reads.{ResumesIn}

abbrev pub expression_or_null : Option Expression → Expression
expression_or_null None = NullLiteral
expression_or_null (Some e) = e

-- what a right side demands: a `new` its tokens, with which a tree comes, and any other expression what it means
abbrev pub side_reads : Program → Place → Expression → Option Making → Demands Instance Value
side_reads p place e None = read_at p place e
side_reads p place e (Some m) = with_tokens (world_of p) m.arguments place (λ ts. Gives (Tree NoNode ts))

-- what an equation demands that is read for an attribute
abbrev pub site_reads : Program → ℕ → EqSite → Asks
site_reads p a s = λ n. let e = expression_or_null (body_at p.rules s.equation.0) in side_reads p (site_place p n a s) e (making_in e)

-- a reader knows where the equation of a site is read for the attribute that it is for
abbrev pub KnowsTarget : {S : Type 0} → Program → Told S → EqSite → Type 0
KnowsTarget p t s = (e : Equation) → slice_get p.rules.equations s.equation.0 ≡ Some e → KnowsSite p t e.target.attribute.0 s

-- what a query demands, which is read at the root
abbrev pub query_reads : Program → Asked → Asks
query_reads p q = reads_at p (λ n. place_at 0) q.body

-- what the equation of an instance demands
abbrev pub instance_reads : Program → CodedInstance → Asks
instance_reads p i = λ n. (equations_of p).equation (instance_by p n i)

-- What a turn says, by what the reader tells before the call and behind it.
module _ {S : Type 0} (p : Program) (r s : Told S) where
  -- of the equation of a site, read for the attribute that it is for
  abbrev pub EvaluatesSite : EqSite → Result Turn NoMemory → Type 0
  EvaluatesSite site result = (e : Equation) → slice_get p.rules.equations site.equation.0 ≡ Some e → Evaluates p r s (site_reads p e.target.attribute.0 site) result

  -- of a query by its number
  abbrev pub EvaluatesQuery : ℕ → Result Turn NoMemory → Type 0
  EvaluatesQuery k result = (q : Asked) → slice_get p.queries k ≡ Some q → Evaluates p r s (query_reads p q) result

  -- of an expression of the rules by its number, read at a node without names
  abbrev pub EvaluatesBody : ℕ → ℕ → Result Turn NoMemory → Type 0
  EvaluatesBody k node result = (e : Expression) → body_at p.rules k ≡ Some e → Evaluates p r s (reads_at p (places_kept node []) e) result

  -- of an instance
  abbrev pub EvaluatesInstance : CodedInstance → Result Turn NoMemory → Type 0
  EvaluatesInstance i result = Evaluates p r s (instance_reads p i) result

-- the same of a site for an attribute, of a query and of an instance, by a turn that goes on with what is saved
abbrev pub ResumesSite : {S : Type 0} → System → Told S → Saved → Told S → Saved → ℕ → EqSite → Result Turn NoMemory → Type 0
ResumesSite system r x s y a site result = ResumesIn system r x s y (site_reads (program_of system) a site) result

abbrev pub ResumesQuery : {S : Type 0} → System → Told S → Saved → Told S → Saved → ℕ → Result Turn NoMemory → Type 0
ResumesQuery system r x s y k result = (q : Asked) → slice_get (program_of system).queries k ≡ Some q → ResumesIn system r x s y (query_reads (program_of system) q) result

abbrev pub ResumesInstance : {S : Type 0} → System → Told S → Saved → Told S → Saved → CodedInstance → Result Turn NoMemory → Type 0
ResumesInstance system r x s y i result = ResumesIn system r x s y (instance_reads (program_of system) i) result

-- the tree that comes of a `new` with these arguments, by the number of the equation
abbrev pub ImagesIn : {S : Type 0} → Context → Told S → Saved → Told S → Saved → EqId → NewArgs → Result Turn NoMemory → Type 0
ImagesIn c r x s y e parts result = (class : ClassId) → body_at (program_of c.system.now).rules e.0 ≡ Some (New class (new_arguments_of parts))
    → ResumesIn c.system.now r x s y (λ n. with_tokens (world_of (program_of c.system.now)) (new_arguments_of parts) (place_in c n) (λ ts. Gives (Tree NoNode ts))) result

-- a turn whose value is read at a type
abbrev pub TurnAs : Kind → Turn → Turn → Type 0
TurnAs k (turns.Done v) t = (w : CodedValue) × (t ≡ turns.Done w) × ((n : Naming) → n.text 0 ≡ [] → value_by n w ≡ as_kind k (value_by n v)) × ((p : Program) → AreElements p v → AreElements p w)
TurnAs k (turns.Need i) t = t ≡ turns.Need i
TurnAs k (turns.Image m) t = cond (node_kind k) (t ≡ turns.Image m) ((w : CodedValue) × (t ≡ turns.Done w) × ((n : Naming) → n.text 0 ≡ [] → value_by n w ≡ default_of k) × ((p : Program) → AreElements p w))

-- a turn that gives no tree
abbrev pub IsNoImage : Result Turn NoMemory → Type 0
IsNoImage (Ok (turns.Done v)) = Unit {0}
IsNoImage (Ok (turns.Need i)) = Unit {0}
IsNoImage (Ok (turns.Image t)) = ⊥
IsNoImage (Err m) = Unit {0}

-- a tree that a turn gives is made by the equation of this number
abbrev pub IsImageOf : ℕ → Result Turn NoMemory → Type 0
IsImageOf e (Ok (turns.Done v)) = Unit {0}
IsImageOf e (Ok (turns.Need i)) = Unit {0}
IsImageOf e (Ok (turns.Image t)) = t.equation.0 ≡ e
IsImageOf e (Err m) = Unit {0}

-- A tree that a turn gives is made by the equation of the instance: that of its number has the right side which the instance has by each naming.
abbrev pub IsImageFor : {S : Type 0} → Program → Told S → CodedInstance → Result Turn NoMemory → Type 0
IsImageFor p s i (Ok (turns.Done v)) = Unit {0}
IsImageFor p s i (Ok (turns.Need j)) = Unit {0}
IsImageFor p s i (Ok (turns.Image t)) = ByEachIn s (λ n. option_map (λ (x : Site). x.body) (site_of p (instance_by p n i)) ≡ body_at p.rules t.equation.0)
IsImageFor p s i (Err m) = Unit {0}

-- what an expression comes to, as a turn
abbrev pub IsTurned : Result CodedValue Halt → Result Turn NoMemory → Type 0
IsTurned (Ok v) r = r ≡ Ok (turns.Done v)
IsTurned (Err (Need i)) r = r ≡ Ok (turns.Need i)
IsTurned (Err Memory) r = IsErr r
