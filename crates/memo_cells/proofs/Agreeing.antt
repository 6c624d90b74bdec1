-- Namings that agree with what is known: there is one, fewer agree when more is known, and to all of them a known code stands for the same.
use Rattle.std.proofs.Common.{◌≡◌, ℕ, suc, zero, true, ◌<◌, ◌≤◌, List, [], ◌∷◌, length, refl, sym, ap, subst, ◌∙◌, arith}
use Rattle.attr_rules.specs.declared.kinds.Kind.{Kind}
use Rattle.attr_rules.specs.declared.kinds.Kind.TheVariants as kinds
use Rattle.equation_law.specs.declared.coding.Instance.{Instance as CodedInstance}
use Rattle.equation_law.specs.declared.coding.Instance.TheVariants as coded_instance
use Rattle.equation_law.specs.declared.coding.Value.{Value as CodedValue}
use Rattle.equation_law.specs.declared.coding.Value.TheVariants as coded
use Rattle.tree_arena.specs.Nodes.{most_nodes}
use Rattle.equation_law.specs.Codes.{IsNamingOf, Naming, arguments_by, codes_in, instance_by, reference_by, reference_of, value_coded}
use Rattle.equation_law.specs.Names.{At, Attribute, Instance, NodeName, Reference}
use Rattle.equation_law.specs.Program.{Program, attribute_parameters}
use Rattle.equation_law.specs.Systems.{program_of}
use Rattle.equation_law.specs.Values.{Node, Text, Value, as_argument, has_node, nodes}
use Rattle.equation_law.proofs.Codes.{one_reference}
use Rattle.made_trees.specs.Made.{Follow, IsNamed, last_code, naming_by_makers, node_by_makers}
use Rattle.made_trees.specs.Makers.{AreTrees, Trees, naming_of, program_for}
use Rattle.made_trees.proofs.Following.{follow_length, node_follows}
use Rattle.made_trees.proofs.Named.{named}
use Rattle.made_trees.proofs.Naming.{named_more}
use Rattle.memo_cells.specs.declared.view.Frame.{Frame}
use Rattle.memo_cells.specs.declared.view.View.{View}
use Rattle.memo_cells.specs.Agreeing.{Agrees, AreArgumentCodesAt, AreKnownCodes, HasCodeAt, HaveCodesAt, IsElementAt, IsKnownCode, IsKnownInstance, IsKnownNode, IsKnownValue, IsReferenceAt, IsValueCodeAt}
use Rattle.memo_cells.specs.Standing.{IsSeatOf, trees_of}

-- the makers' own naming agrees with them
pub makers_agree : (T : Trees) → AreTrees T → Agrees (program_for T) T.makers (naming_of T)
makers_agree T trees = record { named = named T trees; nodes = λ k low. refl }

-- null and source nodes have one name by each naming
pub source_stands : {p : Program} {n : Naming} → IsNamingOf p n → (c : ℕ) → c ≤ most_nodes → reference_by n.node c ≡ reference_of c
source_stands named zero low = refl
source_stands named (suc k) low = ap At (named.sources k (omega (arith, low)))

-- some naming agrees with what a pass knows
abbrev pub IsOpen : Program → List CodedInstance → Type 0
IsOpen p ms = Agrees p ms (naming_by_makers p ms)

pub trees_open : (f : Frame) (ms : List CodedInstance) → AreTrees (trees_of f ms) → IsOpen (program_of f.system.value) ms
trees_open f ms trees = makers_agree (trees_of f ms) trees

pub own_open : (f : Frame) (v : View) (left : List ℕ) → IsSeatOf f v left → IsOpen (program_of f.system.value) v.made
own_open f v left own = trees_open f v.made own.trees

-- two that agree give one name to what is known
module _ (p : Program) (ms : List CodedInstance) {n m : Naming} (g : Agrees p ms n) (h : Agrees p ms m) where
  same_node : (k : ℕ) → k < last_code (length ms) → n.node k ≡ m.node k
  same_node k low = g.nodes k low ∙ sym (h.nodes k low)

  same_text : (c : ℕ) → n.text c ≡ m.text c
  same_text c = ap (λ (f : ℕ → List ℕ). f c) (g.named.texts ∙ sym h.named.texts)

  pub one_meaning : (c : ℕ) → IsKnownNode ms c → reference_by n.node c ≡ reference_by m.node c
  one_meaning zero known = refl
  one_meaning (suc k) known = ap At (same_node k known)

  pub one_coded : (k : Kind) (c : ℕ) → IsKnownCode ms k c → value_coded n k c ≡ value_coded m k c
  one_coded kinds.Truth c known = refl
  one_coded kinds.Int c known = refl
  one_coded kinds.Text c known = ap Text (same_text c)
  one_coded (kinds.Node d) c known = ap Node (one_meaning c known)
  one_coded kinds.Texts c known = refl
  one_coded (kinds.Nodes d) c known = refl

  pub one_row : (ks : List Kind) (cs : List ℕ) → AreKnownCodes ms ks cs → arguments_by n ks cs ≡ arguments_by m ks cs
  one_row [] cs known = refl
  one_row (k ∷ ks) [] known = refl
  one_row (k ∷ ks) (c ∷ cs) known = (λ i. as_argument k (one_coded k c known.0 i) ∷ one_row ks cs known.1 i)

  pub one_instance : (i : CodedInstance) → IsKnownInstance p ms i → instance_by p n i ≡ instance_by p m i
  one_instance (coded_instance.Attr a x xs) known = (λ i. Attribute a.0 (one_meaning x.0 known.0 i) (one_row (attribute_parameters p a.0) (codes_in xs) known.1 i))
  one_instance (coded_instance.Query q) known = refl

-- so what a known code stands for by one of them it stands for by each
module _ (p : Program) (ms : List CodedInstance) {n : Naming} (by : Agrees p ms n) where
  pub meaning_each : (c : ℕ) (r : Reference) → IsKnownNode ms c → reference_by n.node c ≡ r → IsReferenceAt p ms c r
  meaning_each c r known is m agrees = one_meaning p ms agrees by c known ∙ is

  pub coded_each : (k : Kind) (c : ℕ) (x : Value) → IsKnownCode ms k c → value_coded n k c ≡ x → IsValueCodeAt p ms k c x
  coded_each k c x known is m agrees = one_coded p ms agrees by k c known ∙ is

  pub row_each : (ks : List Kind) (cs : List ℕ) → AreKnownCodes ms ks cs → AreArgumentCodesAt p ms ks cs (arguments_by n ks cs)
  row_each ks cs known m agrees = one_row p ms agrees by ks cs known

  -- a reference has one code
  pub one_code : (c d : ℕ) (r : Reference) → IsReferenceAt p ms c r → IsReferenceAt p ms d r → c ≡ d
  one_code c d r g h = one_reference by.named c d (g n by ∙ sym (h n by))

  pub one_stands : (c : ℕ) (r s : Reference) → IsReferenceAt p ms c r → IsReferenceAt p ms c s → r ≡ s
  one_stands c r s g h = sym (g n by) ∙ h n by

  -- the node for which a code stands is in a set where the code says so
  pub has_stands : (x : Value) (c : ℕ) (r : Reference) (d : _) → IsReferenceAt p ms c r → HasCodeAt p ms (kinds.Nodes d) x c → has_node (nodes x) r ≡ true
  has_stands x c r d at h = ap (has_node (nodes x)) (sym (at n by)) ∙ h n by

pub stands_has : (p : Program) (ms : List CodedInstance) (x : Value) (c : ℕ) (r : Reference) (d : _) → IsReferenceAt p ms c r → has_node (nodes x) r ≡ true → HasCodeAt p ms (kinds.Nodes d) x c
stands_has p ms x c r d at e n agrees = ap (has_node (nodes x)) (at n agrees) ∙ e

-- what is known goes on to be
module _ (p : Program) {ms ns : List CodedInstance} (follow : Follow ms ns) where
  pub agrees_before : {n : Naming} → Agrees p ns n → Agrees p ms n
  agrees_before h = record { named = h.named; nodes = λ k low. h.nodes k (let more = follow_length follow in omega (arith, more, low)) ∙ node_follows p follow k low }

  further : last_code (length ms) ≤ last_code (length ns)
  further = let more = follow_length follow in omega (arith, more)

  pub node_known_later : (c : ℕ) → IsKnownNode ms c → IsKnownNode ns c
  node_known_later c known = let more = further in omega (arith, more, known)

  pub code_known_later : (k : Kind) (c : ℕ) → IsKnownCode ms k c → IsKnownCode ns k c
  code_known_later kinds.Truth c known = tt
  code_known_later kinds.Int c known = tt
  code_known_later kinds.Text c known = tt
  code_known_later (kinds.Node d) c known = node_known_later c known
  code_known_later kinds.Texts c known = tt
  code_known_later (kinds.Nodes d) c known = tt

  pub codes_known_later : (ks : List Kind) (cs : List ℕ) → AreKnownCodes ms ks cs → AreKnownCodes ns ks cs
  codes_known_later ks cs known = named_more p (last_code (length ms)) (last_code (length ns)) further ks cs known

  pub instance_known_later : (i : CodedInstance) → IsKnownInstance p ms i → IsKnownInstance p ns i
  instance_known_later (coded_instance.Attr a n xs) known = (node_known_later n.0 known.0, codes_known_later (attribute_parameters p a.0) (codes_in xs) known.1)
  instance_known_later (coded_instance.Query q) known = tt

  pub value_known_later : (x : CodedValue) → IsKnownValue ms x → IsKnownValue ns x
  value_known_later (coded.Truth b) known = tt
  value_known_later (coded.Int z) known = tt
  value_known_later (coded.Text n) known = tt
  value_known_later (coded.Node n) known = node_known_later n.0 known
  value_known_later (coded.Texts cs) known = tt
  value_known_later (coded.Nodes cs) known = λ k d low. node_known_later _ (known k d low)

  pub reference_later : (c : ℕ) (r : Reference) → IsReferenceAt p ms c r → IsReferenceAt p ns c r
  reference_later c r at n agrees = at n (agrees_before agrees)

  pub element_later : (k : Kind) (c : ℕ) → IsElementAt p ms k c → IsElementAt p ns k c
  element_later kinds.Truth c h = absurd h
  element_later kinds.Int c h = absurd h
  element_later kinds.Text c h = absurd h
  element_later (kinds.Node d) c h = absurd h
  element_later kinds.Texts c h = h
  element_later (kinds.Nodes d) c h = (h.0, (h.1.0, reference_later c h.1.0 h.1.1, h.1.2), node_known_later c h.2)

  pub has_code_later : (k : Kind) (x : Value) (c : ℕ) → HasCodeAt p ms k x c → HasCodeAt p ns k x c
  has_code_later kinds.Truth x c h = absurd h
  has_code_later kinds.Int x c h = absurd h
  has_code_later kinds.Text x c h = absurd h
  has_code_later (kinds.Node d) x c h = absurd h
  has_code_later kinds.Texts x c h = h
  has_code_later (kinds.Nodes d) x c h = λ n agrees. h n (agrees_before agrees)

  pub have_codes_later : (k : Kind) (x : Value) → HaveCodesAt p ms k x → HaveCodesAt p ns k x
  have_codes_later kinds.Truth x h = tt
  have_codes_later kinds.Int x h = tt
  have_codes_later kinds.Text x h = tt
  have_codes_later (kinds.Node d) x h = tt
  have_codes_later kinds.Texts x h = h
  have_codes_later (kinds.Nodes d) x h = λ n e. let c = h n e in (c.0, element_later (kinds.Nodes d) c.0 c.1, reference_later c.0 (At n) c.2)

-- what is said by each naming that agrees later is said by each that agrees, of a code that is known already
pub has_code_back : (p : Program) {ms ns : List CodedInstance} → Follow ms ns → IsOpen p ns → (k : Kind) (x : Value) (c : ℕ) → IsElementAt p ms k c → HasCodeAt p ns k x c → HasCodeAt p ms k x c
has_code_back p follow by kinds.Truth x c element h = absurd h
has_code_back p follow by kinds.Int x c element h = absurd h
has_code_back p follow by kinds.Text x c element h = absurd h
has_code_back p follow by (kinds.Node d) x c element h = absurd h
has_code_back p follow by kinds.Texts x c element h = h
has_code_back p {ms} follow by (kinds.Nodes d) x c element h = λ n agrees. ap (has_node (nodes x)) (one_meaning p ms agrees (agrees_before p follow by) c element.2) ∙ h _ by
