-- What a call on a receiver comes to, and the token of one.
use Rattle.std.proofs.Common.{◌≡◌, ℕ, zero, suc, List, [], ◌∷◌, Option, Some, None, Result, Ok, Err, refl, sym, ap, subst, ◌∙◌}
use Rattle.attr_rules.specs.declared.kinds.AttrId.{AttrId}
use Rattle.attr_rules.specs.declared.kinds.Kind.{Kind}
use Rattle.solutions.specs.Asking.{Ends, Gives, asks, at, gives}
use Rattle.equation_law.specs.declared.coding.Args.{Args}
use Rattle.equation_law.specs.declared.coding.Instance.{Instance as CodedInstance}
use Rattle.equation_law.specs.declared.coding.Instance.TheVariants as coded_instance
use Rattle.equation_law.specs.declared.coding.NodeRef.{NodeRef}
use Rattle.equation_law.specs.declared.coding.Value.{Value as CodedValue}
use Rattle.equation_law.specs.Codes.{AreElements, IsCoded, Naming, arguments_for, instance_by, reference_by, value_by}
use Rattle.equation_law.specs.Equations.{attribute_kind, kind_in, world_of}
use Rattle.equation_law.specs.Meaning.{call_at, demand, token_at}
use Rattle.equation_law.specs.Names.{At, Attribute, Instance}
use Rattle.equation_law.specs.Program.{Program}
use Rattle.equation_law.specs.Reading.{ByEachIn, Grows, HasNone, HasThere, IsSound, KnowsInstance, KnowsValue, Settles, Told}
use Rattle.equation_law.specs.Values.{Value, as_kind, default_of}
use Rattle.equation_law.proofs.Grown.{grows_itself, instance_known}
use Rattle.expr_eval.specs.declared.evaluation.Halt.{Halt}
use Rattle.expr_eval.specs.declared.evaluation.Halt.TheVariants.{Need}
use Rattle.expr_eval.specs.Evaluating.{Answers, AreValues, CallReads, Comes, DemandReads, TokenReads, Wants, demand_of}
use Rattle.expr_eval.proofs.Forms.{answers_as, gives_value}

module _ {S : Type 0} (p : Program) (r : Told S) (attr : AttrId) (xs : Args) where
  -- on null it is the default of the type
  pub call_null : (m : ℕ) (x : CodedValue) (k : Kind) → IsSound p r → m ≡ 0 → k ≡ attribute_kind p attr.0 → ByEachIn r (λ n. value_by n x ≡ default_of k) → AreElements p x → KnowsValue r x → CallReads p r r attr.0 m xs (Ok x)
  call_null m x k sound null kind e good known = record {
    kept = grows_itself sound;
    is = λ vs are. subst (λ (o : ℕ). Answers p r (λ n. call_at (world_of p) attr.0 (reference_by n.node o) (vs n)) (Ok x)) (sym null) (gives_value (λ n at. e n at ∙ ap default_of kind) good known);
  }

  at_node : (n : Naming) (m : ℕ) → (m ≡ 0 → ⊥) → (vs : List Value) → AreValues p n attr.0 xs vs → demand (attribute_kind p attr.0) (Attribute attr.0 (reference_by n.node m) (arguments_for p n attr.0 xs)) ≡ call_at (world_of p) attr.0 (reference_by n.node m) vs
  at_node n zero there vs are = absurd (there refl)
  at_node n (suc m) there vs are = ap (λ zs. demand (attribute_kind p attr.0) (Attribute attr.0 (At (n.node m)) zs)) are

  -- at a node it is the value of the attribute there
  pub call_there : (s : Told S) (node : NodeRef) (res : Result CodedValue Halt) → (node.0 ≡ 0 → ⊥) → DemandReads p r s (coded_instance.Attr attr node xs) res → CallReads p r s attr.0 node.0 xs res
  call_there s node res there h = record {
    kept = h.kept;
    is = λ vs are. answers_as p s (demand_of p (coded_instance.Attr attr node xs)) (λ n. call_at (world_of p) attr.0 (reference_by n.node node.0) (vs n)) res (λ n at. at_node n node.0 there (vs n) (are n at)) h.is;
  }

-- a token that demands nothing
pub token_given : {S : Type 0} {p : Program} {r : Told S} {t : Kind} {k m : ℕ} {x : CodedValue} → IsSound p r → ((n : Naming) → r.names n → Gives (value_by n x) ≡ token_at (world_of p) t k (reference_by n.node m)) → AreElements p x → KnowsValue r x → TokenReads p r r t k m (Ok x)
token_given {p = p} {r = r} {t = t} {k = k} {m = m} {x = x} sound is good known = record {
  kept = grows_itself sound;
  is = answers_as p r (λ n. Gives (value_by n x)) (λ n. token_at (world_of p) t k (reference_by n.node m)) (Ok x) is (gives_value (λ n at. refl) good known);
}

module _ {S : Type 0} (p : Program) (s : Told S) (i : Instance) where
  -- the value that a reader has
  there : (v : Value) → HasThere p s i v → Comes s.has (demand (kind_in p i) i) v
  there v h = (i ∷ [], asks h.1 (subst (λ x. Ends s.has (Gives (as_kind (kind_in p i) h.0)) x []) (sym h.2) gives))

  -- it has none
  none_there : HasNone s i → Wants s.has (demand (kind_in p i) i) i
  none_there h = ([], at h)

module _ {S : Type 0} (p : Program) (r s : Told S) (grows : Grows p r s) (i : CodedInstance) where
  pub settled : (v : CodedValue) (o : Option CodedValue) → o ≡ Some v → Settles p s (λ n. instance_by p n i) (Ok o) → DemandReads p r s i (Ok v)
  settled v o is g =
      let h = subst (λ (x : Option CodedValue). Settles p s (λ n. instance_by p n i) (Ok x)) is g in
      record { kept = grows; is = record { comes = λ n at. there p s (instance_by p n i) (value_by n v) (h.0 n at); coded = h.1; known = h.2 } }

  pub needed : (o : Option CodedValue) → IsCoded p i → KnowsInstance p r i → o ≡ None → Settles p s (λ n. instance_by p n i) (Ok o) → DemandReads p r s i (Err (Need i))
  needed o coded known is g =
      let h = subst (λ (x : Option CodedValue). Settles p s (λ n. instance_by p n i) (Ok x)) is g in
      record { kept = grows; is = record { wants = λ n at. none_there p s (instance_by p n i) (h n at); coded = coded; known = instance_known grows i known } }
