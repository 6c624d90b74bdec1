-- What a local set is by one naming that agrees with what is known it is by each.
use Rattle.std.proofs.Common.{◌≡◌, ℕ, zero, suc, cond, List, [], ◌∷◌, Option, None, Some, map, inl, inr, refl, sym, ap, subst, ◌∙◌}
use Rattle.std.specs.Option.{option_map}
use Rattle.solutions.specs.Asking.{Demands, Halts, after, at}
use Rattle.attr_rules.specs.declared.kinds.Collecting.{Collecting}
use Rattle.attr_rules.specs.Rules.{collecting_at}
use Rattle.equation_law.specs.declared.coding.Instance.{Instance as CodedInstance}
use Rattle.equation_law.specs.declared.coding.Instance.TheVariants as coded_instance
use Rattle.equation_law.specs.declared.coding.Value.{Value as CodedValue}
use Rattle.equation_law.specs.declared.coding.Value.TheVariants as coded
use Rattle.equation_law.specs.Codes.{Naming, arguments_for, instance_by, nodes_by, reference_by, value_by}
use Rattle.equation_law.specs.Equations.{collection_at, collection_of, is_declared, kind_in}
use Rattle.equation_law.specs.Names.{Attribute, Instance, NodeName, same_instance}
use Rattle.equation_law.specs.Program.{Program}
use Rattle.equation_law.specs.Sets.{set_of}
use Rattle.equation_law.specs.Values.{Node, Nodes, Text, Texts, Value}
use Rattle.made_trees.specs.Made.{Follow}
use Rattle.memo_cells.specs.declared.view.View.{View}
use Rattle.memo_cells.specs.Agreeing.{Agrees, IsKnownNode, IsKnownValue}
use Rattle.memo_cells.specs.Views.{Has}
use Rattle.memo_cells.proofs.Agreeing.{agrees_before, instance_known_later, one_instance, one_meaning, value_known_later}
use Rattle.set_values.proofs.Coded.{holds_of}
use Rattle.circular_eval.specs.Local.{AreKnownMembers, AreReadable, IsMemberOf, MayRead, Members, ReadsByEach, ReadsHere, here, local_value, present, settled, solved}
use Rattle.circular_eval.proofs.Rising.{there_code}

-- whether its attribute is declared circular hangs on no naming
pub declared_same : (p : Program) (names others : Naming) (i : CodedInstance) → is_declared p (instance_by p names i) ≡ is_declared p (instance_by p others i)
declared_same p names others (coded_instance.Attr a m xs) = refl
declared_same p names others (coded_instance.Query q) = refl

-- nor does its type
pub kind_same : (p : Program) (names others : Naming) (i : CodedInstance) → kind_in p (instance_by p names i) ≡ kind_in p (instance_by p others i)
kind_same p names others (coded_instance.Attr a m xs) = refl
kind_same p names others (coded_instance.Query q) = refl

-- nor whether it is a collection
pub no_collection : (p : Program) (names others : Naming) (i : CodedInstance) → collection_of p (instance_by p names i) ≡ None → collection_of p (instance_by p others i) ≡ None
no_collection p names others (coded_instance.Attr a m xs) e = at m.0 e
  where
    of : (n k : NodeName) (o : Option Collecting) → option_map (collection_at p a.0 n) o ≡ None → option_map (collection_at p a.0 k) o ≡ None
    of n k None h = refl
    of n k (Some c) h = cc

    at : (c : ℕ) → collection_of p (Attribute a.0 (reference_by names.node c) (arguments_for p names a.0 xs)) ≡ None → collection_of p (Attribute a.0 (reference_by others.node c) (arguments_for p others a.0 xs)) ≡ None
    at zero h = refl
    at (suc k) h = of (names.node k) (others.node k) (collecting_at p.rules.attributes a.0) h
no_collection p names others (coded_instance.Query q) e = refl

-- some codes stand for the same nodes by two namings, where each of them does
same_nodes : (nodes others : ℕ → NodeName) (cs : List ℕ) → ((k : ℕ) → Has cs (suc k) → others k ≡ nodes k) → nodes_by others cs ≡ nodes_by nodes cs
same_nodes nodes others [] h = refl
same_nodes nodes others (zero ∷ cs) h = same_nodes nodes others cs (λ k there. h k (inr there))
same_nodes nodes others (suc k ∷ cs) h =
    let first : others k ≡ nodes k = h k (inl refl) in
    let rest = same_nodes nodes others cs (λ j there. h j (inr there)) in
    (λ i. first i ∷ rest i)

-- two namings that agree give one value to what is known
module _ (p : Program) (ms : List CodedInstance) {names others : Naming} (agrees : Agrees p ms names) (other : Agrees p ms others) where
  pub one_value : (x : CodedValue) → IsKnownValue ms x → value_by others x ≡ value_by names x
  one_value (coded.Truth b) known = refl
  one_value (coded.Int z) known = refl
  one_value (coded.Text t) known = ap (λ (f : ℕ → List ℕ). Text (f t.0)) (other.named.texts ∙ sym agrees.named.texts)
  one_value (coded.Node m) known = ap Node (one_meaning p ms other agrees m.0 known)
  one_value (coded.Texts cs) known = ap (λ (f : ℕ → List ℕ). Texts (set_of (map f cs))) (other.named.texts ∙ sym agrees.named.texts)
  one_value (coded.Nodes cs) known =
      ap (λ ns. Nodes (set_of ns)) (same_nodes names.node others.node cs (λ k there.
      let low = holds_of (IsKnownNode ms) cs known (suc k) (there_code cs (suc k) there) in
      other.nodes k low ∙ sym (agrees.nodes k low)))

  -- so what the members of a set are by the one they are by the other
  pub local_other : (es : Members) → AreKnownMembers p ms es → (j : Instance) → local_value p others es j ≡ local_value p names es j
  local_other [] known j = refl
  local_other (e ∷ es) known j =
      let k = known e (inl refl) in
      let same : instance_by p others e.0 ≡ instance_by p names e.0 = one_instance p ms other agrees e.0 k.0 in
      let value : value_by others e.1.value ≡ value_by names e.1.value = one_value e.1.value k.1 in
      let rest = local_other es (λ d there. known d (inr there)) j in
      (λ i. cond (same_instance j (same i)) (value i) (rest i))

  member_other : (es : Members) → AreKnownMembers p ms es → (j : Instance) → IsMemberOf p names es j → IsMemberOf p others es j
  member_other es known j (e, there, is) = (e, there, one_instance p ms other agrees e.0 (known e there).0 ∙ is)

  reads_other : (v : View) (es : Members) → AreKnownMembers p ms es → (j : Instance) (w : Value) → ReadsHere p names v es j w → ReadsHere p others v es j w
  reads_other v es known j w (settled d k) = settled d k
  reads_other v es known j w (here d m) = subst (λ (y : Value). ReadsHere p others v es j y) (local_other es known j) (here d (member_other es known j m))

  pub may_other : (es : Members) → AreKnownMembers p ms es → (j : Instance) (w : Value) → MayRead p names es j w → MayRead p others es j w
  may_other es known j w (solved d k) = solved d k
  may_other es known j w (present d) = subst (λ (y : Value). MayRead p others es j y) (local_other es known j) (present d)

-- what is read by one that agrees is read by each
pub reads_each : (p : Program) (v : View) (es : Members) → AreReadable p v.made es → {names : Naming} → Agrees p v.made names → (j : Instance) (w : Value) → ReadsHere p names v es j w → ReadsByEach p v es j w
reads_each p v es all agrees j w h others other = reads_other p v.made agrees other v es all.1 j w h

-- what may be read goes on to be so, as more is known
pub readable_later : (p : Program) {ms ns : List CodedInstance} → Follow ms ns → (es : Members) → AreReadable p ms es → AreReadable p ns es
readable_later p follow es all = (
  λ names agrees. all.0 names (agrees_before p follow agrees),
  λ e there. let known = all.1 e there in (instance_known_later p follow e.0 known.0, value_known_later p follow e.1.value known.1),
)

-- where two have the same values, demands are stuck at the same instance
pub halts_same : {A B : Instance → Value → Type 0} → ((j : Instance) (w : Value) → A j w → B j w) → ((j : Instance) (w : Value) → B j w → A j w) → {c : Demands Instance Value} {i : Instance} {ds : List Instance} → Halts A c i ds → Halts B c i ds
halts_same to from (at {j = j} none) = at (λ v h. none v (from j v h))
halts_same to from (after {j = j} {w = w} a h) = after (to j w a) (halts_same to from h)
