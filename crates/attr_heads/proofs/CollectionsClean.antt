-- What holds of collections whose declarations break nothing.
use Rattle.std.proofs.Common.{◌≡◌, ◌<◌, ◌∙◌, Bool, List, [], true, false, not, Option, Some, None, length, refl, sym, subst, ap}
use Rattle.std.specs.Option.{option_and_then, unwrap_or}
use Rattle.std.proofs.lemmas.Bool.{and_parts, not-false}
use Rattle.broken_rules.specs.Notes.{at, broken_if}
use Rattle.broken_rules.specs.declared.rule.Rule.TheVariants.{J13}
use Rattle.broken_rules.proofs.Clean.{append_none, not_broken}
use Rattle.ast_grammar.specs.declared.grammar.ClassId.{ClassId}
use Rattle.ast_grammar.specs.Grammar.{Class, class_named}
use Rattle.aspect_items.specs.Expressions.{Expr, Name}
use Rattle.aspect_items.specs.Items.{Collection, Collects as CollectsItem, Contributes, Declared, Equates, Inherits, Item, Parameter, WrittenType}
use Rattle.attr_rules.specs.declared.kinds.Attr.{Attr}
use Rattle.attr_rules.specs.declared.kinds.Kind.{Kind}
use Rattle.attr_rules.specs.declared.kinds.Kind.TheVariants as kinds
use Rattle.attr_rules.specs.declared.kinds.Method.{Method}
use Rattle.attr_rules.specs.declared.kinds.Method.TheVariants as methods
use Rattle.attr_rules.specs.declared.kinds.Sort.{Sort}
use Rattle.attr_rules.specs.Rules.{Collects, Combines, all_nodes, all_texts, ands, is_collection, is_single, nodes_by_one, ors, sums, texts_by_one}
use Rattle.attr_rules.specs.Types.{int_kind, truth_kind}
use Rattle.attr_heads.specs.Collections.{class_of_name, collecting_declared, collection_broken, has_no_row, is_row, is_row_by, method_written, root_broken}
use Rattle.attr_heads.specs.Parameters.{params_written}
use Rattle.attr_scope.specs.Written.{Head, collection_head, declared_in, inherited_head, synthesized_head, synthesized_sort}
use Rattle.attr_scope.specs.WrittenTypes.{class_numbered, type_written}
use Rattle.attr_scope.proofs.ClassesFound.{class_within}
use Rattle.attr_scope.proofs.ItemsFound.{some_from}
use Rattle.attr_heads.specs.Starts.{is_empty, is_false}
use Rattle.attr_heads.specs.Collections.{is_true, is_zero}

-- a method that makes sets combines values of set types, and so on
adds : (k : Kind) → not (is_single k) ≡ true → Combines methods.Add k
adds kinds.Truth e = absurd (cc)
adds kinds.Int e = absurd (cc)
adds kinds.Text e = absurd (cc)
adds (kinds.Node c) e = absurd (cc)
adds kinds.Texts e = texts_by_one
adds (kinds.Nodes c) e = nodes_by_one c

adds_all : (k : Kind) → not (is_single k) ≡ true → Combines methods.AddAll k
adds_all kinds.Truth e = absurd (cc)
adds_all kinds.Int e = absurd (cc)
adds_all kinds.Text e = absurd (cc)
adds_all (kinds.Node c) e = absurd (cc)
adds_all kinds.Texts e = all_texts
adds_all (kinds.Nodes c) e = all_nodes c

adds_up : (k : Kind) → int_kind k ≡ true → Combines methods.Sum k
adds_up kinds.Truth e = absurd (cc)
adds_up kinds.Int e = sums
adds_up kinds.Text e = absurd (cc)
adds_up (kinds.Node c) e = absurd (cc)
adds_up kinds.Texts e = absurd (cc)
adds_up (kinds.Nodes c) e = absurd (cc)

is_one : (k : Kind) → truth_kind k ≡ true → Combines methods.Or k
is_one kinds.Truth e = ors
is_one kinds.Int e = absurd (cc)
is_one kinds.Text e = absurd (cc)
is_one (kinds.Node c) e = absurd (cc)
is_one kinds.Texts e = absurd (cc)
is_one (kinds.Nodes c) e = absurd (cc)

are_all : (k : Kind) → truth_kind k ≡ true → Combines methods.And k
are_all kinds.Truth e = ands
are_all kinds.Int e = absurd (cc)
are_all kinds.Text e = absurd (cc)
are_all (kinds.Node c) e = absurd (cc)
are_all kinds.Texts e = absurd (cc)
are_all (kinds.Nodes c) e = absurd (cc)

combined : (m : Method) (k : Kind) (e : Expr) → is_row k e m ≡ true → Combines m k
combined methods.Add k e row = adds k (and_parts (not (is_single k)) (is_empty e) row).0
combined methods.AddAll k e row = adds_all k (and_parts (not (is_single k)) (is_empty e) row).0
combined methods.Sum k e row = adds_up k (and_parts (int_kind k) (is_zero e) row).0
combined methods.Or k e row = is_one k (and_parts (truth_kind k) (is_false e) row).0
combined methods.And k e row = are_all k (and_parts (truth_kind k) (is_true e) row).0

row_there : (k : Kind) (e : Expr) (o : Option Method) → is_row_by k e o ≡ true → Combines (unwrap_or o methods.Add) k
row_there k e None row = absurd (cc)
row_there k e (Some m) row = combined m k e row

-- A declaration says how it collects exactly where it is a collection's, which has no parameters.
abbrev pub SaysCollection : Sort → List Parameter → Option Collection → Type 0
SaysCollection s ps None = is_collection s ≡ false
SaysCollection s ps (Some c) = (is_collection s ≡ true) × (ps ≡ [])

abbrev SaysIt : Head → Type 0
SaysIt h = SaysCollection h.sort h.signature.parameters h.collection

-- what is declared with `syn` is no collection
not_collected : (higher_order : Bool) → is_collection (synthesized_sort higher_order) ≡ false
not_collected true = refl
not_collected false = refl

pub head_says : (item : Item) (h : Head) → declared_in item ≡ Some h → SaysCollection h.sort h.signature.parameters h.collection
head_says (Declared s) h e = let same : synthesized_head s ≡ h = cc in subst SaysIt same (not_collected s.higher_order)
head_says (Inherits i) h e = let same : inherited_head i ≡ h = cc in subst SaysIt same refl
head_says (Equates q) h e = absurd (cc)
head_says (CollectsItem c) h e = let same : collection_head c ≡ h = cc in subst SaysIt same (refl, refl)
head_says (Contributes c) h e = absurd (cc)

module _ (g : List Class) where
  root_within : (o : Option Name) (r : ClassId) → option_and_then (class_of_name g) o ≡ Some r → r.0 < length g
  root_within None r e = absurd (cc)
  root_within (Some n) r e =
      let found = some_from class_numbered (class_named g n.text) r e in
      subst (λ (c : ClassId). c.0 < length g) found.2 (class_within g n.text found.0 found.1)

  -- a collection collects by a method for its type, and nothing else does
  pub collects : (d : Attr) (t : WrittenType) (ps : List Parameter) (o : Option Collection) → type_written g t ≡ Some d.kind → d.params ≡ params_written g ps → SaysCollection d.sort ps o → collection_broken g t o ≡ []
      → Collects g d (collecting_declared g o)
  collects d t ps None known params says none = says
  collects d t ps (Some c) known params says none =
      let no_row = has_no_row (type_written g t) c in
      let parts = append_none (broken_if no_row (at c.name.place J13)) (root_broken g c.root) none in
      let there : not (is_row_by d.kind c.fresh (method_written c.method)) ≡ false = ap (λ o. has_no_row o c) (sym known) ∙ not_broken no_row (at c.name.place J13) parts.0 in
      record {
        collection = says.0;
        combines = row_there d.kind c.fresh (method_written c.method) (not-false (is_row_by d.kind c.fresh (method_written c.method)) there);
        known = root_within c.root;
        params = params ∙ ap (params_written g) says.1;
      }
