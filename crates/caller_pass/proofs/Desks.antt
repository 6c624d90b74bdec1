-- Desks: what a pass tells as a reader, and what an evaluation over it says.
use Rattle.std.proofs.Common.{◌≡◌, ◌≤◌, ℕ, List, [], Option, Some, None, Result, Ok, Err, arith, le_refl, refl, sym, ap, subst, ◌∙◌}
use Rattle.std.specs.Ordering.{nat_cmp}
use Rattle.std.specs.declared.cmp.Ordering.{Ordering}
use Rattle.ast_grammar.specs.declared.grammar.ClassId.{ClassId}
use Rattle.rag_io.specs.declared.Memory.{Memory}
use Rattle.solutions.specs.Asking.{Ends, Halts}
use Rattle.equation_law.specs.declared.coding.Instance.{Instance as CodedInstance}
use Rattle.equation_law.specs.declared.coding.NodeRef.{NodeRef}
use Rattle.equation_law.specs.declared.coding.Up.{Up}
use Rattle.equation_law.specs.declared.coding.Value.{Value as CodedValue}
use Rattle.equation_law.specs.Checked.{HasSourcesAlone}
use Rattle.tree_arena.specs.Nodes.{most_nodes}
use Rattle.equation_law.specs.Codes.{IsCoded, IsNamingOf, Naming, instance_by, reference_by, source_names, value_by}
use Rattle.equation_law.specs.Equations.{HasValue, equations_of}
use Rattle.equation_law.specs.Names.{Instance}
use Rattle.equation_law.specs.Program.{Program, text_of}
use Rattle.equation_law.specs.Reading.{ArgumentBy, ChildBy, ClassBy, Grows, IsSound, KnowsInstance, OrderBy, SettledBy, Settles, TokenBy, UpBy, code_above, reference_cmp}
use Rattle.equation_law.specs.Systems.{program_of}
use Rattle.equation_law.proofs.Bare.{argument_bare, child_bare, class_bare, no_right_side, order_of, token_bare, trees_fit, up_bare}
use Rattle.equation_law.proofs.Codes.{sources_named}
use Rattle.equation_law.proofs.Grown.{grows_itself}
use Rattle.equation_law.proofs.Solution.{one}
use Rattle.equation_law.proofs.Sources.{sources_rise}
use Rattle.equation_law.proofs.Tied.{never_makes}
use Rattle.expr_eval.specs.declared.sites.Turn.{Turn}
use Rattle.expr_eval.specs.declared.sites.Turn.TheVariants.{Done, Image, Need}
use Rattle.expr_eval.specs.Evaluating.{AnswersTurn}
use Rattle.expr_eval.specs.Sites.{instance_reads}
use Rattle.memo_cells.specs.declared.view.Frame.{Frame}
use Rattle.made_trees.specs.Made.{naming_by_makers}
use Rattle.memo_cells.specs.Agreeing.{Agrees, ByEachAgreeing, IsKnownInstance, IsKnownNode}
use Rattle.memo_cells.specs.Working.{Held, IsCodedAt, IsKnown, IsKnownAt, IsOwn, ReadsOn, program_at, told_by}
use Rattle.memo_cells.proofs.Agreeing.{agrees_before, node_known_later, own_open, source_stands}
use Rattle.memo_cells.proofs.Naming.{knows_later}
use Rattle.memo_cells.proofs.Holding.{reads_then}
use Rattle.circular_eval.proofs.Knowing.{instance_back, source_known, value_told, value_back}
use Rattle.caller_pass.specs.Knowing.{FindsValue, TurnsTo}

sound : (d : Held) → IsOwn d → IsSound (program_at d) (told_by d)
sound d own = record {
  for = (refl, own.bare);
  within = λ i v a. a.1;
  one_value = λ i v w a b. one (program_at d) i v w a b;
  named = λ n is. is.named;
  some = (naming_by_makers (program_at d) d.view.made, own_open d.frame d.view [] own);
  sources = source_known d.view.made;
  fit = trees_fit (program_at d) own.bare;
  trees = λ a o xs v may m is. absurd (let none = never_makes (program_at d) own.bare a o in cc);
}

pub sound_for : (p : Program) (d : Held) → IsOwn d → program_at d ≡ p → IsSound p (told_by d)
sound_for p d own e = subst (λ (q : Program). IsSound q (told_by d)) e (sound d own)

-- nodes that were made there are none
module _ (d : Held) where
  pub desk_class : (node : NodeRef) (c : ClassId) → c.0 ≡ 65535 → ClassBy (told_by d) (told_by d) node c
  desk_class = class_bare (told_by d) d.frame.system.value (λ p sound. sound.for)

  pub desk_child : (node : NodeRef) (k : ℕ) (result : NodeRef) → result.0 ≡ 0 → ChildBy (told_by d) (told_by d) node k result
  desk_child = child_bare (told_by d) d.frame.system.value (λ p sound. sound.for)

  pub desk_token : (node : NodeRef) (k result : ℕ) → TokenBy (told_by d) (told_by d) node k result
  desk_token = token_bare (told_by d) d.frame.system.value (λ p sound. sound.for)

  pub desk_up : (node : NodeRef) (result : Up) → code_above result ≡ 0 → UpBy (told_by d) (told_by d) node result
  desk_up = up_bare (told_by d) d.frame.system.value (λ p sound. sound.for) (λ c past. omega (arith, past))

  pub desk_argument : (node : NodeRef) (k result : ℕ) → ArgumentBy (told_by d) (told_by d) node k result
  desk_argument = argument_bare (told_by d) d.frame.system.value (λ p sound. sound.for)

  -- so nodes are in the order of their codes
  module _ (own : IsOwn d) where
    low : (c : ℕ) → IsKnownNode d.view.made c → c ≤ most_nodes
    low c known = let few : IsKnownNode [] c = subst (λ (ms : List CodedInstance). IsKnownNode ms c) own.nothing known in omega (arith, few)

    plain_stands : (p : Program) (n : Naming) → IsNamingOf p n → (c : ℕ) → c ≤ most_nodes → reference_by (source_names (text_of p)).node c ≡ reference_by n.node c
    plain_stands p n named c few = source_stands (sources_named p) c few ∙ sym (source_stands named c few)

    pub desk_order : (a b : NodeRef) (result : Ordering) → result ≡ nat_cmp a.0 b.0 → OrderBy (told_by d) (told_by d) a b result
    desk_order a b result is = record {
      kept = λ p sound. grows_itself sound;
      answer = λ p sound one other n by.
          let named = sound.named n by in
          is ∙ order_of (source_names (text_of p)) (sources_rise (text_of p)) a.0 b.0 ∙ (λ i. reference_cmp (plain_stands p n named a.0 (low a.0 one) i) (plain_stands p n named b.0 (low b.0 other) i));
    }

-- a desk at which more is known grows
grows : (x d : Held) (p : Program) → ReadsOn x d → IsSound p (told_by x) → Grows p (told_by x) (told_by d)
grows x d p l a =
    let same : program_at d ≡ program_at x = ap (λ (f : Frame). program_of f.system.value) l.on.cells in
    record {
      sound = subst (λ (q : Program). IsSound q (told_by d)) (same ∙ sym a.for.0) (sound d l.on.own);
      values = λ i v k. subst (λ (q : Program). IsKnown q d.view i v) (sym same) (knows_later x.view d.view l.on.kept (program_at x) i k.0, k.1);
      bound = λ i v k. subst (λ (q : Program). HasValue q i v) same k;
      kept = λ y k. reads_then y x d k l;
      names = λ n is. agrees_before (program_at x) l.on.kept.made (subst (λ (q : Program). Agrees q d.view.made n) same is);
      known = node_known_later (program_at x) l.on.kept.made;
      heights = λ c. le_refl c;
    }

-- what is known of an instance is an answer by each naming that agrees
answers : (d : Held) → IsOwn d → (at : Naming → Instance) (r : Result (Option CodedValue) Memory) → ByEachAgreeing (program_at d) d.view.made (λ names. FindsValue (program_at d) names d.view (at names) r) → Settles (program_at d) (told_by d) at r
answers d own at (Ok None) none = λ n is w a. none n is a.0
answers d own at (Ok (Some v)) some =
    let plainly = some _ (own_open d.frame d.view [] own) in
    ((λ n is. let x = some n is in (x.value, x.known, x.coded)), plainly.elements, value_told (told_by d) d.view.made (λ c k. k) v plainly.nodes)
answers d own at (Err m) h = tt

-- what is answered to a coded instance
pub settled_at : (x d : Held) (i : CodedInstance) (r : Result (Option CodedValue) Memory) → ReadsOn x d → (IsCodedAt x i → IsKnownAt x i → ByEachAgreeing (program_at x) d.view.made (λ names. FindsValue (program_at x) names d.view (instance_by (program_at x) names i) r)) → SettledBy (told_by x) (told_by d) i r
settled_at x d i r l told =
    let same : program_at d ≡ program_at x = ap (λ (f : Frame). program_of f.system.value) l.on.cells in
    record {
      kept = λ p a. grows x d p l a;
      answer = λ p a coded known. subst (λ (q : Program). IsCoded q i → KnowsInstance q (told_by x) i → Settles q (told_by d) (λ n. instance_by q n i) r) (same ∙ sym a.for.0)
          (λ good knows.
          answers d l.on.own (λ n. instance_by (program_at d) n i) r
          (subst (λ (q : Program). ByEachAgreeing q d.view.made (λ names. FindsValue q names d.view (instance_by q names i) r)) (sym same)
          (told (subst (λ (q : Program). IsCoded q i) same good) (subst (λ (q : Program). IsKnownInstance q x.view.made i) same (instance_back (told_by x) x.view.made (λ c k. k) (program_at d) i knows)))))
          coded known;
    }

-- what an evaluation says, by each naming by which the desk may be read
pub turned : (p : Program) (d : Held) (i : CodedInstance) (r : Result Turn Memory) → p ≡ program_at d → HasSourcesAlone p → AnswersTurn p (told_by d) (instance_reads p i) r → ByEachAgreeing p d.view.made (λ names. TurnsTo p names d.view (instance_by p names i) r)
turned p d i (Ok (Done x)) e bare a = λ names agrees.
    let came = a.comes names (subst (λ (q : Program). Agrees q d.view.made names) e agrees) in
    record { demands = came.0; ends = subst (λ (q : Program). Ends (IsKnown q d.view) ((equations_of p).equation (instance_by p names i)) (value_by names x) came.0) (sym e) came.1; elements = a.coded; nodes = value_back (told_by d) d.view.made (λ c k. k) x a.known }
turned p d i (Ok (Need j)) e bare a = λ names agrees.
    let stuck = a.wants names (subst (λ (q : Program). Agrees q d.view.made names) e agrees) in
    (stuck.0, subst (λ (q : Program). Halts (IsKnown q d.view) ((equations_of p).equation (instance_by p names i)) (instance_by p names j) stuck.0) (sym e) stuck.1, a.coded, instance_back (told_by d) d.view.made (λ c k. k) p j a.known)
turned p d i (Ok (Image t)) e bare a = λ names agrees. absurd (no_right_side p bare t.equation.0 a.making a.is)
turned p d i (Err m) e bare a = λ names agrees. tt
