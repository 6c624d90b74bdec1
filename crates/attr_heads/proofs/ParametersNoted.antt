-- What is noted of the parameters of heads, and what is kept of their names.
use Rattle.std.proofs.Common.{◌≡◌, ◌==◌, ◌||◌, Bool, not, ℕ, List, [], ◌∷◌, ◌++◌, Option, append_assoc, length, ap, sym, subst, ◌∙◌, bytes_eq}
use Rattle.std.proofs.lemmas.List.{map-append}
use Rattle.std.proofs.lemmas.List.Folds.{list_any-append}
use Rattle.broken_rules.specs.declared.broken.Broken.{Broken}
use Rattle.broken_rules.specs.declared.rule.Rule.TheVariants.{J3, J4, J17}
use Rattle.broken_rules.specs.Notes.{Notes, at, broken_if, each_after}
use Rattle.broken_rules.proofs.Noting.{notes_then}
use Rattle.ast_grammar.specs.Grammar.{Class}
use Rattle.names.specs.Among.{is_among, with_name}
use Rattle.names.specs.Known.{Knows}
use Rattle.names.proofs.Distinct.{among_snoc}
use Rattle.names.proofs.Keys.{among_with}
use Rattle.names.proofs.Known.{was_new}
use Rattle.aspect_items.specs.Items.{Parameter, Signature}
use Rattle.attr_heads.specs.Parameters.{all_parameters_broken, is_no_parameter, parameter_broken, parameter_name, parameter_names, parameters_broken, path_parameters}

module _ (g : List Class) (outer : List (List ℕ)) (before : List Parameter) (p : Parameter) {names : List (List ℕ)} where
  -- J4, J3 and J17 of a parameter
  pub parameter_noted : {text : List ℕ} {is_other is_new : Bool} {count : ℕ} {a b c d : Option Broken} → Knows names (is_among (outer ++ parameter_names before)) → text ≡ p.name.text
      → is_other ≡ is_no_parameter g p.of → is_new ≡ not (is_among names text) → count ≡ length before
      → Notes (broken_if is_other (at p.of.place J4)) a b → Notes (broken_if (not is_new) (at p.name.place J3)) b c → Notes (broken_if (count == 3) (at p.name.place J17)) c d
      → Notes (parameter_broken g outer before p) a d
  parameter_noted {text} {is_other} {is_new} {count} {a} {b} {c} {d} known spelled other fresh many h j k =
      notes_then (subst (λ t. Notes (broken_if t (at p.of.place J4)) a b) other h)
      (notes_then (subst (λ t. Notes (broken_if t (at p.name.place J3)) b c) (was_new (is_among (outer ++ parameter_names before)) fresh spelled known) j)
      (subst (λ n. Notes (broken_if (n == 3) (at p.name.place J17)) c d) many k))

  -- and its name is kept
  pub names_more : {more : List (List ℕ)} → more ≡ with_name names p.name.text → Knows names (is_among (outer ++ parameter_names before)) → Knows more (is_among (outer ++ parameter_names (before ++ p ∷ [])))
  names_more {more} is known = record {
    knows = λ q.
        let so_far = parameter_names before in
        ap (λ ns. is_among ns q) is ∙ among_with names p.name.text q ∙ ap (λ b. b || bytes_eq q p.name.text) (known.knows q)
        ∙ sym (ap (λ ns. is_among (outer ++ ns) q) (map-append parameter_name before (p ∷ [])) ∙ ap (λ ns. is_among ns q) (sym (append_assoc outer so_far (p.name.text ∷ []))) ∙ among_snoc (outer ++ so_far) p.name.text q);
  }

-- what parameters break behind names depends on which names are among them
pub same_names : (g : List Class) (a b : List (List ℕ)) (ps : List Parameter) → ((q : List ℕ) → is_among a q ≡ is_among b q) → parameters_broken g a ps ≡ parameters_broken g b ps
same_names g a b ps same =
    let here : (ns : List (List ℕ)) (q : List ℕ) → is_among (a ++ ns) q ≡ is_among (b ++ ns) q = λ ns q.
    list_any-append (bytes_eq q) a ns ∙ ap (λ t. t || is_among ns q) (same q) ∙ sym (list_any-append (bytes_eq q) b ns)
    in
    let each : parameter_broken g a ≡ parameter_broken g b = λ i before p.
    broken_if (is_no_parameter g p.of) (at p.of.place J4) ++ (broken_if (here (parameter_names before) p.name.text i) (at p.name.place J3) ++ broken_if (length before == 3) (at p.name.place J17))
    in
    ap (λ (f : List Parameter → Parameter → List Broken). each_after f [] ps) each

-- the parameters of a path, and those of an attribute behind them
pub all_noted : (g : List Class) (path : Option Signature) (s : Signature) {none names : List (List ℕ)} {ps qs : List Parameter} {a b c : Option Broken} → none ≡ [] → ps ≡ path_parameters path → qs ≡ s.parameters
    → Knows names (is_among (none ++ parameter_names ps)) → Notes (parameters_broken g none ps) a b → Notes (parameters_broken g names qs) b c → Notes (all_parameters_broken g path s) a c
all_noted g path s {none} {names} {ps} {qs} {a} {b} {c} empty same own known h k =
    let outer = path_parameters path in
    let first : Notes (parameters_broken g [] outer) a b = subst (λ (x : Type 0). x) (λ i. Notes (parameters_broken g (empty i) (same i)) a b) h in
    let knows : Knows names (is_among (parameter_names outer)) = subst (λ (x : Type 0). x) (λ i. Knows names (is_among (empty i ++ parameter_names (same i)))) known in
    let last : Notes (parameters_broken g names s.parameters) b c = subst (λ ps. Notes (parameters_broken g names ps) b c) own k in
    notes_then first (subst (λ bs. Notes bs b c) (same_names g names (parameter_names outer) s.parameters knows.knows) last)
