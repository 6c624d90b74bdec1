-- The order of two nodes is found step by step.
use Rattle.std.proofs.Common.{◌≡◌, ℕ, ◌<◌, ◌^◌, ◌∷◌, [], List, ℤ, pos, drop, get_or, of_z, slice_get, to_z, Some, sym, ap, subst, ◌∙◌}
use Rattle.std.specs.Cmp.{nat_cmp_total, tied_itself}
use Rattle.std.specs.Cmp.Lexicographic.{nat_list_cmp_total}
use Rattle.std.specs.FinMap.{nat_cmp-IsAntisymmetric}
use Rattle.std.specs.Ordering.{int_cmp, is_eq, nat_cmp, ordering_then}
use Rattle.std.specs.declared.cmp.Ordering.{Ordering}
use Rattle.std.specs.declared.cmp.Ordering.TheVariants.{Equal}
use Rattle.std.proofs.lemmas.Int.{of_z-to_z}
use Rattle.std.proofs.lemmas.Option.{get_or_from_slice_get, same_Some}
use mir.Syntax.{w32}
use Rattle.attr_rules.specs.declared.kinds.AttrId.{AttrId}
use Rattle.attr_rules.specs.declared.kinds.Kind.{Kind}
use Rattle.attr_rules.specs.declared.kinds.Kind.TheVariants as kinds
use Rattle.rag_io.specs.Pool.{ArePooled}
use Rattle.std.specs.Int.{int_wrap}
use Rattle.equation_law.specs.declared.coding.Args.{Args}
use Rattle.equation_law.specs.declared.coding.Instance.{Instance as CodedInstance}
use Rattle.equation_law.specs.declared.coding.Instance.TheVariants as coded
use Rattle.equation_law.specs.declared.coding.NodeRef.{NodeRef}
use Rattle.equation_law.specs.declared.system.System.{System}
use Rattle.equation_law.specs.Codes.{IsCode, IsNamingOf, Naming, arguments_by, arguments_for, codes_in, reference_by, value_coded}
use Rattle.equation_law.specs.Names.{Argument, Reference, node_cmp, reference_code, argument_code, text_cmp}
use Rattle.equation_law.specs.Program.{Program, attribute_parameters}
use Rattle.equation_law.specs.Reading.{reference_cmp}
use Rattle.equation_law.specs.Systems.{program_of}
use Rattle.equation_law.specs.Values.{as_argument}
use Rattle.equation_law.proofs.Codes.{one_reference, signed}
use Rattle.equation_law.proofs.Keys.{one_list}
use Rattle.equation_law.proofs.Names.{same_reference_is}
use Rattle.equation_law.proofs.Written.{both_then, ints, texts}
use Rattle.made_trees.specs.declared.order.Comparison.{Comparison}
use Rattle.made_trees.specs.declared.order.Creation.{Creation}
use Rattle.made_trees.specs.Made.{AreNamed, IsNamed, last_code}
use Rattle.made_trees.specs.Makers.{AreTrees, IsMakerOf, Trees, naming_of, program_for, stands_for}
use Rattle.made_trees.specs.Ordered.{IsBehind, IsCreatedBy, LeadsTo, argument_cmp, arguments_cmp, name_by}
use Rattle.made_trees.proofs.Lexical.{arguments_order, first_decides, made_order, same_argument, then_equal}
use Rattle.made_trees.proofs.Named.{made_behind, named}

-- what made a node says so
pub created : (T : Trees) → AreTrees T → (c q : ℕ) (i : CodedInstance) (a : AttrId) (m : NodeRef) (xs : Args) → i ≡ coded.Attr a m xs → IsMakerOf T c (Some (i, q)) → IsCreatedBy T c (record { attr = a; owner = m; args = xs; position = q })
created T trees c q i a m xs is maker =
    let here = subst (λ (x : CodedInstance). IsMakerOf T c (Some (x, q))) is maker in
    let behind = made_behind T trees c q a m xs here in
    record {
      name = here.1;
      whole = record { row = here.0.0; codes = here.0.1; all = behind.may.all };
      behind = record { last = last_code behind.tree; owner = behind.may.owner; arguments = behind.may.arguments; falls = behind.falls };
    }

-- the order of two nodes that were made is that by what made them
pub made_leads : (T : Trees) → AreTrees T → (s : System) → T.system ≡ s → (c d : ℕ) (x y : Creation) (r : Comparison) → IsCreatedBy T c x → IsCreatedBy T d y
    → ((n : Naming) (e : ℕ) → IsNamingOf (program_of s) n → IsBehind (program_of s) e x → LeadsTo n e (node_cmp (name_by (program_of s) n x) (name_by (program_of s) n y)) r)
    → LeadsTo (naming_of T) c (reference_cmp (stands_for T c) (stands_for T d)) r
made_leads T trees s is c d x y r one other leads =
    let here : (n : Naming) (e : ℕ) → IsNamingOf (program_for T) n → IsBehind (program_for T) e x → LeadsTo n e (node_cmp (name_by (program_for T) n x) (name_by (program_for T) n y)) r =
    subst (λ (u : System). (n : Naming) (e : ℕ) → IsNamingOf (program_of u) n → IsBehind (program_of u) e x → LeadsTo n e (node_cmp (name_by (program_of u) n x) (name_by (program_of u) n y)) r) (sym is) leads
    in
    let order : node_cmp (name_by (program_for T) (naming_of T) x) (name_by (program_for T) (naming_of T) y) ≡ reference_cmp (stands_for T c) (stands_for T d) = (λ i. reference_cmp (sym one.name i) (sym other.name i)) in
    subst (λ (o : Ordering). LeadsTo (naming_of T) c o r) order (here (naming_of T) c (named T trees) one.behind)

-- references in one order are one
same_order : (r s : Reference) → reference_cmp r s ≡ Equal → r ≡ s
same_order r s e = same_reference_is r s (ap is_eq e)

-- and so are numbers
itself : (r s : Reference) → r ≡ s → reference_cmp r s ≡ Equal
itself r s e = ap (reference_cmp r) (sym e) ∙ tied_itself nat_list_cmp_total (reference_code r [])

same_numbers : (a b : ℕ) → nat_cmp a b ≡ Equal → a ≡ b
same_numbers = nat_cmp-IsAntisymmetric

module _ (p : Program) (n : Naming) (x y : Creation) where
  whole_order : node_cmp (name_by p n x) (name_by p n y)
      ≡ ordering_then (reference_cmp (reference_by n.node x.owner.0) (reference_by n.node y.owner.0))
      (ordering_then (nat_cmp x.attr.0 y.attr.0) (ordering_then (arguments_cmp (arguments_for p n x.attr.0 x.args) (arguments_for p n y.attr.0 y.args)) (nat_cmp x.position y.position)))
  whole_order = made_order x.attr.0 y.attr.0 x.position y.position (reference_by n.node x.owner.0) (reference_by n.node y.owner.0) (arguments_for p n x.attr.0 x.args) (arguments_for p n y.attr.0 y.args)

  -- it is that of the owners where they differ
  pub by_owners : IsNamingOf p n → (x.owner.0 ≡ y.owner.0 → ⊥) → reference_cmp (reference_by n.node x.owner.0) (reference_by n.node y.owner.0) ≡ node_cmp (name_by p n x) (name_by p n y)
  by_owners names differ = sym (whole_order ∙ first_decides _ _ (λ e. differ (one_reference names x.owner.0 y.owner.0 (same_order _ _ e))))

  behind_owners : x.owner.0 ≡ y.owner.0 → node_cmp (name_by p n x) (name_by p n y)
      ≡ ordering_then (nat_cmp x.attr.0 y.attr.0) (ordering_then (arguments_cmp (arguments_for p n x.attr.0 x.args) (arguments_for p n y.attr.0 y.args)) (nat_cmp x.position y.position))
  behind_owners owner =
      whole_order
      ∙ ap (λ (o : Ordering). ordering_then o (ordering_then (nat_cmp x.attr.0 y.attr.0) (ordering_then (arguments_cmp (arguments_for p n x.attr.0 x.args) (arguments_for p n y.attr.0 y.args)) (nat_cmp x.position y.position))))
      (itself (reference_by n.node x.owner.0) (reference_by n.node y.owner.0) (ap (reference_by n.node) owner))

  -- behind equal ones that of the attributes where they differ
  pub by_attributes : x.owner.0 ≡ y.owner.0 → (x.attr.0 ≡ y.attr.0 → ⊥) → nat_cmp x.attr.0 y.attr.0 ≡ node_cmp (name_by p n x) (name_by p n y)
  by_attributes owner differ = sym (behind_owners owner ∙ first_decides _ _ (λ e. differ (same_numbers x.attr.0 y.attr.0 e)))

  -- and behind one attribute that of the arguments and the positions
  pub by_parts : x.owner.0 ≡ y.owner.0 → x.attr.0 ≡ y.attr.0 → (ks : List Kind) → ks ≡ attribute_parameters p x.attr.0
      → ordering_then (arguments_cmp (arguments_by n ks (codes_in x.args)) (arguments_by n ks (codes_in y.args))) (nat_cmp x.position y.position) ≡ node_cmp (name_by p n x) (name_by p n y)
  by_parts owner attribute ks types = sym (behind_owners owner ∙ first ∙ (λ i. ordering_then (arguments_cmp (arguments_by n (sym types i) (codes_in x.args)) (arguments_by n (types_of_other i) (codes_in y.args))) (nat_cmp x.position y.position)))
    where
      types_of_other : attribute_parameters p y.attr.0 ≡ ks
      types_of_other = ap (attribute_parameters p) (sym attribute) ∙ sym types

      behind : Ordering
      behind = ordering_then (arguments_cmp (arguments_for p n x.attr.0 x.args) (arguments_for p n y.attr.0 y.args)) (nat_cmp x.position y.position)

      first : ordering_then (nat_cmp x.attr.0 y.attr.0) behind ≡ behind
      first = ap (λ (o : Ordering). ordering_then o behind) (ap (nat_cmp x.attr.0) (sym attribute) ∙ tied_itself nat_cmp_total x.attr.0)

-- the order of two codes of a type
abbrev coded_cmp : Naming → Kind → ℕ → ℕ → Ordering
coded_cmp n k c d = argument_cmp (as_argument k (value_coded n k c)) (as_argument k (value_coded n k d))

-- a list with a first element
pub first_there : {A : Type 0} (all rest : List A) (a : A) → slice_get all 0 ≡ Some a → rest ≡ drop 1 all → all ≡ a ∷ rest
first_there [] rest a e is = cc
first_there (b ∷ all) rest a e is = (λ i. same_Some b a e i ∷ sym is i)

-- The order of two lists of arguments, by the first ones and those behind.
module _ (n : Naming) (k : Kind) (c d : ℕ) (ks us : List Kind) (cs ds xs ys : List ℕ) (behind : Ordering) (types : ks ≡ k ∷ us) (left : cs ≡ c ∷ xs) (right : ds ≡ d ∷ ys) where
  abbrev all_of_it : Ordering
  all_of_it = ordering_then (arguments_cmp (arguments_by n ks cs) (arguments_by n ks ds)) behind

  abbrev rest_of_it : Ordering
  rest_of_it = ordering_then (arguments_cmp (arguments_by n us xs) (arguments_by n us ys)) behind

  by_first : all_of_it ≡ ordering_then (coded_cmp n k c d) rest_of_it
  by_first =
      (λ i. ordering_then (arguments_cmp (arguments_by n (types i) (left i)) (arguments_by n (types i) (right i))) behind)
      ∙ ap (λ (o : Ordering). ordering_then o behind) (arguments_order (as_argument k (value_coded n k c)) (as_argument k (value_coded n k d)) (arguments_by n us xs) (arguments_by n us ys))
      ∙ both_then (coded_cmp n k c d) (arguments_cmp (arguments_by n us xs) (arguments_by n us ys)) behind

  -- one code tells nothing
  pub equal_first : c ≡ d → rest_of_it ≡ all_of_it
  equal_first same =
      let equal : coded_cmp n k c d ≡ Equal = ap (coded_cmp n k c) (sym same) ∙ tied_itself nat_list_cmp_total (argument_code (as_argument k (value_coded n k c)) []) in
      sym (by_first ∙ ap (λ (o : Ordering). ordering_then o rest_of_it) equal)

  -- two decide
  pub other_first : (p : Program) → ArePooled p.texts → IsNamingOf p n → IsCode p k c → IsCode p k d → (c ≡ d → ⊥) → coded_cmp n k c d ≡ all_of_it
  other_first p pooled names v w differ = sym (by_first ∙ first_decides (coded_cmp n k c d) rest_of_it apart)
    where
      apart : coded_cmp n k c d ≡ Equal → ⊥
      apart e =
          let one : as_argument k (value_coded n k c) ≡ as_argument k (value_coded n k d) = same_argument _ _ e in
          let list : c ∷ [] ≡ d ∷ [] = one_list p pooled names (k ∷ []) (c ∷ []) (d ∷ []) (v, tt) (w, tt) (ap (λ (x : Argument). x ∷ []) one) in
          differ (cc)

  -- a node among them is one of the first codes
  pub named_first : (last : ℕ) → AreNamed last ks cs → IsNamed last k c × AreNamed last us xs
  named_first last few = subst (λ (ts : List Kind). AreNamed last ts (c ∷ xs)) types (subst (AreNamed last ks) left few)

-- The order of two integers by their codes, and that of two texts by theirs.
pub by_integers : (n : Naming) (k : Kind) (c d : ℕ) (y z : ℤ) (o : Ordering) → k ≡ kinds.Int → c < 2 ^ 32 → d < 2 ^ 32 → y ≡ to_z w32 c → z ≡ to_z w32 d → o ≡ int_cmp (to_z w32 (of_z w32 y)) (to_z w32 (of_z w32 z)) → o ≡ coded_cmp n k c d
by_integers n k c d y z o type low small left right is =
    is ∙ (λ i. int_cmp (back c y low left i) (back d z small right i)) ∙ sym (ints (int_wrap w32 (pos c)) (int_wrap w32 (pos d)) [] [] ∙ then_equal (int_cmp (int_wrap w32 (pos c)) (int_wrap w32 (pos d)))) ∙ ap (λ (t : Kind). coded_cmp n t c d) (sym type)
  where
    back : (c : ℕ) (y : ℤ) → c < 2 ^ 32 → y ≡ to_z w32 c → to_z w32 (of_z w32 y) ≡ int_wrap w32 (pos c)
    back c y low is = ap (λ (x : ℤ). to_z w32 (of_z w32 x)) is ∙ ap (to_z w32) (of_z-to_z w32 c low) ∙ signed c low

pub by_texts : (p : Program) (n : Naming) → IsNamingOf p n → (k : Kind) (c d : ℕ) (s t : List ℕ) (pool : List (List ℕ)) (o : Ordering) → k ≡ kinds.Text → pool ≡ p.texts → slice_get pool c ≡ Some s → slice_get pool d ≡ Some t → o ≡ text_cmp s t → o ≡ coded_cmp n k c d
by_texts p n names k c d s t pool o type same left right is =
    is ∙ (λ i. text_cmp (there c s left i) (there d t right i)) ∙ sym (texts (n.text c) (n.text d) [] [] ∙ then_equal (text_cmp (n.text c) (n.text d))) ∙ ap (λ (u : Kind). coded_cmp n u c d) (sym type)
  where
    there : (c : ℕ) (s : List ℕ) → slice_get pool c ≡ Some s → s ≡ n.text c
    there c s e = sym (ap (λ (f : ℕ → List ℕ). f c) names.texts ∙ ap (λ (l : List (List ℕ)). get_or l c []) (sym same) ∙ get_or_from_slice_get pool c s [] e)
