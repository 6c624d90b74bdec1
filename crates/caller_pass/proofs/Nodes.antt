-- The nodes in a value and in its code are known together.
use Rattle.std.proofs.Common.{◌≡◌, ℕ, true, List, refl, sym, subst, arith}
use Rattle.attr_rules.specs.declared.kinds.Kind.{Kind}
use Rattle.attr_rules.specs.declared.kinds.Kind.TheVariants as kinds
use Rattle.attr_rules.specs.Rules.{is_single}
use Rattle.equation_law.specs.declared.coding.Instance.{Instance as CodedInstance}
use Rattle.equation_law.specs.declared.coding.Value.{Value as CodedValue}
use Rattle.equation_law.specs.declared.coding.Value.TheVariants as coded
use Rattle.equation_law.specs.Codes.{Naming, reference_by, source_names, value_by, value_coded}
use Rattle.equation_law.specs.Program.{Program, text_of}
use Rattle.equation_law.specs.Values.{as_kind}
use Rattle.equation_law.proofs.Codes.{one_reference, sources_named}
use Rattle.memo_cells.specs.Agreeing.{IsKnownCode, IsKnownNode, IsKnownValue}

module _ (p : Program) (ms : List CodedInstance) where
  abbrev plain : Naming
  plain = source_names (text_of p)

  same_known : (c d : ℕ) → reference_by plain.node c ≡ reference_by plain.node d → IsKnownNode ms d → IsKnownNode ms c
  same_known c d there h = subst (IsKnownNode ms) (sym (one_reference (sources_named p) c d there)) h

  null_known : (c : ℕ) → reference_by plain.node c ≡ reference_by plain.node 0 → IsKnownNode ms c
  null_known c there = same_known c 0 there (omega arith)

  -- the code of a value, read at a type
  pub code_known : (k : Kind) (c : ℕ) (x : CodedValue) → (is_single k ≡ true → value_coded plain k c ≡ as_kind k (value_by plain x)) → IsKnownValue ms x → IsKnownCode ms k c
  code_known kinds.Truth c x is h = tt
  code_known kinds.Int c x is h = tt
  code_known kinds.Text c x is h = tt
  code_known kinds.Texts c x is h = tt
  code_known (kinds.Nodes d) c x is h = tt
  code_known (kinds.Node d) c (coded.Truth b) is h = null_known c (let e = is refl in cc)
  code_known (kinds.Node d) c (coded.Int z) is h = null_known c (let e = is refl in cc)
  code_known (kinds.Node d) c (coded.Text n) is h = null_known c (let e = is refl in cc)
  code_known (kinds.Node d) c (coded.Node m) is h = same_known c m.0 (let e = is refl in cc) h
  code_known (kinds.Node d) c (coded.Texts cs) is h = null_known c (let e = is refl in cc)
  code_known (kinds.Node d) c (coded.Nodes cs) is h = null_known c (let e = is refl in cc)

  -- the value that a code stands for, of a type that isn't one of sets
  pub coded_known : (k : Kind) (c : ℕ) (x : CodedValue) → is_single k ≡ true → value_by plain x ≡ value_coded plain k c → IsKnownCode ms k c → IsKnownValue ms x
  coded_known k c (coded.Truth b) single is h = tt
  coded_known k c (coded.Int z) single is h = tt
  coded_known k c (coded.Text n) single is h = tt
  coded_known k c (coded.Texts cs) single is h = tt
  coded_known kinds.Truth c (coded.Node m) single is h = cc
  coded_known kinds.Int c (coded.Node m) single is h = cc
  coded_known kinds.Text c (coded.Node m) single is h = cc
  coded_known (kinds.Node d) c (coded.Node m) single is h = let there : reference_by plain.node m.0 ≡ reference_by plain.node c = cc in same_known m.0 c there h
  coded_known kinds.Texts c (coded.Node m) single is h = cc
  coded_known (kinds.Nodes d) c (coded.Node m) single is h = cc
  coded_known kinds.Truth c (coded.Nodes cs) single is h = cc
  coded_known kinds.Int c (coded.Nodes cs) single is h = cc
  coded_known kinds.Text c (coded.Nodes cs) single is h = cc
  coded_known (kinds.Node d) c (coded.Nodes cs) single is h = cc
  coded_known kinds.Texts c (coded.Nodes cs) single is h = cc
  coded_known (kinds.Nodes d) c (coded.Nodes cs) single is h = cc
