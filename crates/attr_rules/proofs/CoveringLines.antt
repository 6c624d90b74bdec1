-- What covers at nodes of a class, from its superclasses, the nearest first.
use Rattle.std.proofs.Common.{◌≡◌, ℕ, suc, ◌+◌, ◌≤◌, List, [], ◌∷◌, ◌++◌, Option, Some, None, Vec, All, inl, inr, length, slice_get, refl, ap, sym, subst, ◌∙◌, arith, false}
use Rattle.std.specs.declared.alloc.Global.{Global}
use Rattle.std.specs.Option.{option_or}
use Rattle.std.proofs.lemmas.Bool.{cases_lt}
use Rattle.std.proofs.lemmas.List.{length_push}
use Rattle.std.proofs.lemmas.Option.{slice_get_past}
use Rattle.ast_grammar.proofs.Keeping.{push_cases}
use Rattle.ast_grammar.proofs.Positions.{position_none}
use Rattle.superclasses.specs.Superclasses.{line_of, line_up, superclass_of, upwards}
use Rattle.attr_rules.specs.declared.covering.Covering.{Covering}
use Rattle.attr_rules.specs.declared.dispatch.Reach.{Reach}
use Rattle.attr_rules.specs.declared.dispatch.Reach.TheVariants.{Children, Own}
use Rattle.attr_rules.specs.declared.dispatch.Via.{Via}
use Rattle.attr_rules.specs.declared.dispatch.Via.TheVariants.{Component as ByComponent, Created as ByCreated}
use Rattle.attr_rules.specs.declared.dispatch.Target.{Target}
use Rattle.attr_rules.specs.declared.kinds.EqId.{EqId}
use Rattle.attr_rules.specs.Dispatching.{AddsClass, AreCovered, AreOwnPaths, CoversUpwards, IsTarget, covered_by, covered_in, covering_in, number_among, number_for, number_in}
use Rattle.attr_rules.specs.Rules.{equation_at, first_of_line, is_target, own_covering, reach_via, same_reach}
use Rattle.attr_rules.proofs.Dispatched.{no_line, other_attribute, other_class}
use Rattle.attr_rules.proofs.FirstPlaces.{or_none}
use Rattle.attr_rules.proofs.NearestRows.{or_assoc}
use Rattle.attr_rules.proofs.RowLists.{there}

module _ (s : List (Option ℕ)) (own : List (Vec (Target × EqId) Global)) (class attributes : ℕ) where
  -- what covers so far, and the classes that are left, at most so many
  pub record Gathers (left : ℕ) (above : Option ℕ) (c : Covering) : Type 0 where
    pub wide : length c.children.items ≡ attributes
    pub each : (v : Via) (a : ℕ) → option_or (covered_by c v a) (first_of_line (covering_in own v a) (line_up left s above)) ≡ first_of_line (covering_in own v a) (upwards s class)

  -- what a class in the lists has
  here : (c : ℕ) (v : Via) (a : ℕ) (paths : Vec (Target × EqId) Global) → slice_get own c ≡ Some paths → option_or (number_for paths.items (reach_via v) a) (number_for paths.items Children a) ≡ covering_in own v a c
  here c v a paths e = sym (ap (λ o. option_or (number_among o (reach_via v) a) (number_among o Children a)) e)

  pub gathers_first : (paths : Vec (Target × EqId) Global) (nothing first : Covering) {left : ℕ} {above : Option ℕ} → slice_get own class ≡ Some paths → length nothing.children.items ≡ attributes → ((v : Via) (a : ℕ) → covered_by nothing v a ≡ None)
      → AddsClass paths.items nothing first → left ≡ length s → above ≡ superclass_of s class → Gathers left above first
  unfolding line_of
  gathers_first paths nothing first {left} {above} held wide none adds all up = record {
    wide = adds.long ∙ wide;
    each = λ v a.
        let f : ℕ → Option ℕ = covering_in own v a in
        let is : covered_by first v a ≡ f class =
        adds.each v a ∙ ap (λ o. option_or o (option_or (number_for paths.items (reach_via v) a) (number_for paths.items Children a))) (none v a) ∙ here class v a paths held in
        ap (λ o. option_or o (first_of_line f (line_up left s above))) is ∙ ap (λ o. option_or (f class) (first_of_line f (line_up left s o))) up ∙ ap (λ n. option_or (f class) (first_of_line f (line_up n s (superclass_of s class)))) all;
  }

  module _ (left number : ℕ) {above up : Option ℕ} {before : Covering} (is : above ≡ Some number) (next : up ≡ superclass_of s number) (so_far : Gathers (suc left) above before) where
    -- what covers so far and what the classes have that are left, the next one first
    at_next : (v : Via) (a : ℕ) → option_or (covered_by before v a) (option_or (covering_in own v a number) (first_of_line (covering_in own v a) (line_up left s up))) ≡ first_of_line (covering_in own v a) (upwards s class)
    at_next v a =
        let f : ℕ → Option ℕ = covering_in own v a in
        ap (λ o. option_or (covered_by before v a) (option_or (f number) (first_of_line f (line_up left s o)))) next ∙ ap (λ o. option_or (covered_by before v a) (first_of_line f (line_up (suc left) s o))) (sym is) ∙ so_far.each v a

    -- the next class has a list, or none
    pub gathers_held : (paths : Vec (Target × EqId) Global) (after : Covering) → slice_get own number ≡ Some paths → AddsClass paths.items before after → Gathers left up after
    gathers_held paths after held adds = record {
      wide = adds.long ∙ so_far.wide;
      each = λ v a.
          let rest = first_of_line (covering_in own v a) (line_up left s up) in
          ap (λ o. option_or o rest) (adds.each v a) ∙ or_assoc (covered_by before v a) (option_or (number_for paths.items (reach_via v) a) (number_for paths.items Children a)) rest
          ∙ ap (λ o. option_or (covered_by before v a) (option_or o rest)) (here number v a paths held) ∙ at_next v a;
    }

    pub gathers_past : slice_get own number ≡ None → Gathers left up before
    gathers_past past = record {
      wide = so_far.wide;
      each = λ v a.
          let rest = first_of_line (covering_in own v a) (line_up left s up) in
          let none : covering_in own v a number ≡ None = ap (λ o. option_or (number_among o (reach_via v) a) (number_among o Children a)) past in
          ap (λ o. option_or (covered_by before v a) (option_or o rest)) (sym none) ∙ at_next v a;
    }

  -- no class is left
  pub gathers_end : (left : ℕ) (above : Option ℕ) {c : Covering} → line_up left s above ≡ [] → Gathers left above c → CoversUpwards s own class c
  gathers_end left above {c} none so_far v a = sym (or_none (covered_by c v a)) ∙ ap (λ cs. option_or (covered_by c v a) (first_of_line (covering_in own v a) cs)) (sym none) ∙ so_far.each v a

-- a list has nothing for what is no attribute
pub none_for : (own : List (Vec (Target × EqId) Global)) (c attributes : ℕ) (paths : Vec (Target × EqId) Global) {long : ℕ} {items : List (Target × EqId)} → slice_get own c ≡ Some paths → items ≡ paths.items → long ≡ attributes
    → ((d a : ℕ) → attributes ≤ a → number_in own d Children a ≡ None) → (a : ℕ) → long ≤ a → number_for items Children a ≡ None
none_for own c attributes paths held is wide none a past = ap (λ ps. number_for ps Children a) is ∙ sym (ap (λ o. number_among o Children a) held) ∙ none c a (subst (λ n. n ≤ a) wide past)

-- what covers at so many classes
pub record CoversEach (s : List (Option ℕ)) (own : List (Vec (Target × EqId) Global)) (count : ℕ) (coverings : List Covering) : Type 0 where
  pub long : length coverings ≡ count
  pub each : (class : ℕ) (c : Covering) → slice_get coverings class ≡ Some c → CoversUpwards s own class c

module _ (s : List (Option ℕ)) (own : List (Vec (Target × EqId) Global)) where
  pub covers_none : {coverings : List Covering} → coverings ≡ [] → CoversEach s own 0 coverings
  covers_none {coverings} none = record { long = ap length none; each = λ class c e. absurd (let some : slice_get [] class ≡ Some c = sym (ap (λ cs. slice_get cs class) none) ∙ e in cc) }

  pub covers_more : (count : ℕ) (c : Covering) {coverings later : List Covering} → CoversUpwards s own count c → later ≡ coverings ++ c ∷ [] → CoversEach s own count coverings → CoversEach s own (count + 1) later
  covers_more count c {coverings} {later} covers pushed before = record {
    long = (let one : length later ≡ length coverings + 1 = ap length pushed ∙ length_push coverings c in omega (arith, before.long));
    each = λ class d e. elim (push_cases coverings c d class (ap (λ cs. slice_get cs class) (sym pushed) ∙ e)) [
      | inl h ↦ before.each class d h
      | inr h ↦ subst (CoversUpwards s own class) h.1 (subst (λ n. CoversUpwards s own n c) (sym (h.0 ∙ before.long)) covers)
    ];
  }

-- what hangs by something isn't reached without a path
with_path : (v : Via) → same_reach (reach_via v) Own ≡ false
with_path (ByComponent k) = refl
with_path (ByCreated b) = refl

module _ (s : List (Option ℕ)) (attributes : ℕ) (targets : List Target) (inside : All (IsTarget (length s) attributes) targets) (own : List (Vec (Target × EqId) Global)) (owns : AreOwnPaths (length s) targets own) where
  -- no class has an equation for what is no attribute
  pub none_past : (c a : ℕ) → attributes ≤ a → number_in own c Children a ≡ None
  none_past c a past = owns.each c Children a refl ∙ position_none (is_target c Children a) targets (λ k d h. other_attribute (length s) attributes a c Children past _ (inside k d h))

  -- nor has what is no class one
  no_equation : (class : ℕ) (r : Reach) (a : ℕ) → length s ≤ class → equation_at targets class r a ≡ None
  no_equation class r a past = position_none (is_target class r a) targets (λ k d h. other_class (length s) attributes a class r past _ (inside k d h))

  same_own : (v : Via) (a c : ℕ) → covering_in own v a c ≡ own_covering targets v a c
  same_own v a c i = option_or (owns.each c (reach_via v) a (with_path v) i) (owns.each c Children a refl i)

  pub covers_all : {coverings : List Covering} → CoversEach s own (length own) coverings → AreCovered s targets coverings
  covers_all {coverings} covers class v a = elim (cases_lt class (length s)) [
    | inl h ↦
        let t = there coverings class (omega (arith, h, covers.long, owns.long)) in
        ap (λ o. covered_in o v a) t.1 ∙ covers.each class t.0 t.1 v a ∙ ap (λ (f : ℕ → Option ℕ). first_of_line f (upwards s class)) (λ i c. same_own v a c i)
    | inr h ↦
        let nothing : own_covering targets v a class ≡ None = λ i. option_or (no_equation class (reach_via v) a h i) (no_equation class Children a h i) in
        ap (λ o. covered_in o v a) (slice_get_past coverings class (omega (arith, h, covers.long, owns.long)))
        ∙ sym (ap (λ o. option_or o (first_of_line (own_covering targets v a) (line_of s class))) nothing ∙ ap (first_of_line (own_covering targets v a)) (no_line s class h))
  ]
