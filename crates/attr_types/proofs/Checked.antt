-- What a check of aspects says, by what its phases gave.
use Rattle.std.proofs.Common.{◌≡◌, ℕ, All, List, [], ◌∷◌, map, length, Option, None, sym, ap, subst, ◌∙◌}
use Rattle.std.specs.Prelude.{Result, IfOk}
use Rattle.std.proofs.lemmas.Result.{IfOk-weaker}
use Rattle.std.proofs.lemmas.Simd.{map-map}
use Rattle.ast_grammar.specs.Grammar.{Class, superclasses_of}
use Rattle.broken_rules.specs.declared.broken.Broken.{Broken}
use Rattle.broken_rules.specs.declared.broken.ReadFault.{ReadFault}
use Rattle.broken_rules.specs.Answers.{Answers, Says, clean, Refuses, Stops}
use Rattle.broken_rules.specs.Order.{first_of}
use Rattle.broken_rules.proofs.Answering.{passes_if}
use Rattle.broken_rules.proofs.Clean.{append_none}
use Rattle.broken_rules.proofs.Exits.{refuses_here, refuses_later}
use Rattle.broken_rules.proofs.Order.{none_is}
use Rattle.aspect_items.specs.declared.aspects.Aspects as kept_aspects
use Rattle.aspect_items.specs.declared.items.Item as kept_item
use Rattle.aspect_items.specs.declared.items.Contribution as kept_contribution
use Rattle.aspect_items.specs.Items.{Contribution as WrittenContribution, Item, seen_aspects, seen_item}
use Rattle.attr_rules.specs.declared.dispatch.Dispatch.{Dispatch}
use Rattle.attr_rules.specs.declared.dispatch.Target.{Target}
use Rattle.attr_equations.specs.declared.rules.KeptEquation.{KeptEquation}
use Rattle.attr_equations.specs.declared.rules.Rules.{Rules}
use Rattle.attr_equations.specs.Kept.{rules_in}
use Rattle.attr_scope.specs.declared.written.Given as kept_given
use Rattle.attr_scope.specs.declared.written.Head as kept_head
use Rattle.attr_coverage.specs.Completeness.{complete_broken, places_of, roots_of}
use Rattle.attr_rules.specs.Dispatching.{Dispatches, IsTarget}
use Rattle.attr_heads.specs.Heads.{attributes_of, heads_broken}
use Rattle.attr_equations.specs.KeptEquations.{equation_in, kept_target}
use Rattle.attr_heads.specs.Contributions.{contributions_broken, uses_broken}
use Rattle.attr_types.specs.Phases.{bodies_broken, contribution_of, equation_of, phases_of, phases_over, rules_of, rules_over}
use Rattle.attr_rules.specs.Rules.{Attribute, AttributeSet, Contribution, Equation, RuleSet}
use Rattle.std.specs.Borrow.{Bor}
use Rattle.attr_scope.specs.Seen.{seen_given, seen_head, seen_offer}
use Rattle.attr_heads.specs.Targets.{targets_broken, targets_of}
use Rattle.attr_scope.specs.Written.{Given, Head, contributions, declarations, givens}
use Rattle.attr_heads.proofs.TargetsClean.{targets_within}

-- the same list of broken rules
as_well : {bs cs : List Broken} → bs ≡ cs → first_of bs ≡ None → first_of cs ≡ None
as_well is h = ap first_of (sym is) ∙ h

stops_too : {bs cs : List Broken} (e : ReadFault) → bs ≡ cs → Stops bs e → Stops cs e
stops_too e is h = subst (λ bs. Stops bs e) is h

module _ (g : List Class) (hs : List Head) (es : List Given) (cs : List WrittenContribution) where
  -- the lists of the phases
  abbrev first_list : List Broken
  first_list = heads_broken g hs

  abbrev second_list : List Broken
  second_list = uses_broken g (attributes_of g hs) es cs

  abbrev third_list : List Broken
  third_list = complete_broken g (attributes_of g hs) (targets_of g (attributes_of g hs) es) (roots_of g es) (places_of hs)

  abbrev fourth_list : List Broken
  fourth_list = bodies_broken g (attributes_of g hs) es cs

  pub second_is : {attributes : List Attribute} → attributes ≡ attributes_of g hs → uses_broken g attributes es cs ≡ second_list
  second_is attributes = ap (λ (a : List Attribute). uses_broken g a es cs) attributes

  pub third_is : {attributes : List Attribute} {ts : List Target} → attributes ≡ attributes_of g hs → ts ≡ targets_of g (attributes_of g hs) es → complete_broken g attributes ts (roots_of g es) (places_of hs) ≡ third_list
  third_is attributes ts = (λ i. complete_broken g (attributes i) (ts i) (roots_of g es) (places_of hs))

  pub fourth_is : {attributes : List Attribute} → attributes ≡ attributes_of g hs → bodies_broken g attributes es cs ≡ fourth_list
  fourth_is attributes = ap (λ (a : List Attribute). bodies_broken g a es cs) attributes

  -- a phase stops behind others that passed
  module _ (e : ReadFault) where
    pub first_stops : Stops first_list e → Refuses (phases_over g hs es cs) e
    first_stops h = refuses_here first_list (second_list ∷ third_list ∷ fourth_list ∷ []) e h

    behind_one : first_of first_list ≡ None → Refuses (second_list ∷ third_list ∷ fourth_list ∷ []) e → Refuses (phases_over g hs es cs) e
    behind_one first h = refuses_later first_list (second_list ∷ third_list ∷ fourth_list ∷ []) e first h

    pub second_stops : {qs : List Broken} → qs ≡ second_list → first_of first_list ≡ None → Stops qs e → Refuses (phases_over g hs es cs) e
    second_stops two first h = behind_one first (refuses_here second_list (third_list ∷ fourth_list ∷ []) e (stops_too e two h))

    behind_two : {qs : List Broken} → qs ≡ second_list → first_of first_list ≡ None → first_of qs ≡ None → Refuses (third_list ∷ fourth_list ∷ []) e → Refuses (phases_over g hs es cs) e
    behind_two two first second h = behind_one first (refuses_later second_list (third_list ∷ fourth_list ∷ []) e (as_well two second) h)

    pub third_stops : {qs rs : List Broken} → qs ≡ second_list → rs ≡ third_list → first_of first_list ≡ None → first_of qs ≡ None → Stops rs e → Refuses (phases_over g hs es cs) e
    third_stops two three first second h = behind_two two first second (refuses_here third_list (fourth_list ∷ []) e (stops_too e three h))

    pub fourth_stops : {qs rs ss : List Broken} → qs ≡ second_list → rs ≡ third_list → ss ≡ fourth_list → first_of first_list ≡ None → first_of qs ≡ None → first_of rs ≡ None → Stops ss e → Refuses (phases_over g hs es cs) e
    fourth_stops two three four first second third h =
        behind_two two first second (refuses_later third_list (fourth_list ∷ []) e (as_well three third) (refuses_here fourth_list [] e (stops_too e four h)))

  -- all passed
  pub none_broken : {qs rs ss : List Broken} → qs ≡ second_list → rs ≡ third_list → ss ≡ fourth_list → first_of first_list ≡ None → first_of qs ≡ None → first_of rs ≡ None → first_of ss ≡ None → Answers (phases_over g hs es cs) None
  none_broken two three four first second third fourth = passes_if first (passes_if (as_well two second) (passes_if (as_well three third) (passes_if (as_well four fourth) clean)))

  -- the rules
  pub rules_made : {kept : RuleSet} {attributes : AttributeSet} (list : List KeptEquation) {offered : List Contribution}
      → kept ≡ record { superclasses = attributes.superclasses; attributes = attributes.attributes; equations = map equation_in list; contributions = offered }
      → attributes ≡ record { superclasses = superclasses_of g; attributes = attributes_of g hs } → map equation_in list ≡ map (equation_of g attributes.attributes) es → offered ≡ map (contribution_of g attributes.attributes) cs
      → kept ≡ rules_over g hs es cs
  rules_made {kept} {attributes} list {offered} is known bodies offers =
      is ∙ (λ i. record {
        superclasses = (known i).superclasses;
        attributes = (known i).attributes;
        equations = (bodies ∙ (λ j. map (equation_of g (known j).attributes) es)) i;
        contributions = (offers ∙ (λ j. map (contribution_of g (known j).attributes) cs)) i;
      })

-- what was read of the items, through copies of the lists
pub heads_read : (aspects : kept_aspects.Aspects) {items : List kept_item.Item} {list heads : List kept_head.Head}
    → items ≡ aspects.items.items → map seen_head list ≡ declarations (map seen_item items) → heads ≡ list → map seen_head heads ≡ declarations (seen_aspects aspects)
heads_read aspects copied are copied_again = ap (map seen_head) copied_again ∙ are ∙ ap (λ items. declarations (map seen_item items)) copied

pub givens_read : (aspects : kept_aspects.Aspects) {items : List kept_item.Item} {list given : List kept_given.Given} → items ≡ aspects.items.items → map seen_given list ≡ givens (map seen_item items) → given ≡ list → map seen_given given ≡ givens (seen_aspects aspects)
givens_read aspects copied are copied_again = ap (map seen_given) copied_again ∙ are ∙ ap (λ items. givens (map seen_item items)) copied

pub offers_read : (aspects : kept_aspects.Aspects) {items : List kept_item.Item} {list offered : List (Bor kept_contribution.Contribution)}
    → items ≡ aspects.items.items → map seen_offer list ≡ contributions (map seen_item items) → offered ≡ list → map seen_offer offered ≡ contributions (seen_aspects aspects)
offers_read aspects copied are copied_again = ap (map seen_offer) copied_again ∙ are ∙ ap (λ items. contributions (map seen_item items)) copied

-- what holds of what the items declare and give
module _ (g : List Class) (items : List Item) {hs : List Head} {es : List Given} {cs : List WrittenContribution} (heads : hs ≡ declarations items) (given : es ≡ givens items) (offered : cs ≡ contributions items) where
  pub says_so : {T : Type 0} (r : Result T ReadFault) → Says (phases_over g hs es cs) r → Says (phases_of g items) r
  says_so r h = subst (λ (x : Type 0). x) (λ i. Says (phases_over g (heads i) (given i) (offered i)) r) h

  rules_so : {kept : RuleSet} → kept ≡ rules_over g hs es cs → kept ≡ rules_of g items
  unfolding rules_of
  rules_so is = is ∙ (λ i. rules_over g (heads i) (given i) (offered i))

  pub rules_if : (r : Result Rules ReadFault) → IfOk r (λ rules. rules_in rules ≡ rules_over g hs es cs) → IfOk r (λ rules. rules_in rules ≡ rules_of g items)
  rules_if r h = IfOk-weaker r (λ rules. rules_in rules ≡ rules_over g hs es cs) (λ rules. rules_in rules ≡ rules_of g items) (λ rules is. rules_so is) h

-- what the equations are for
pub kept_targets : (g : List Class) (attributes : List Attribute) (list : List KeptEquation) (es : List Given) → map equation_in list ≡ map (equation_of g attributes) es → map kept_target list ≡ targets_of g attributes es
kept_targets g attributes list es are =
    sym (map-map (λ (e : Equation). e.target) equation_in list) ∙ ap (map (λ (e : Equation). e.target)) are ∙ map-map (λ (e : Equation). e.target) (equation_of g attributes) es

-- the same rows
pub dispatches_same : {superclasses others : List (Option ℕ)} {targets again : List Target} {d : Dispatch} → superclasses ≡ others → targets ≡ again → Dispatches superclasses targets d → Dispatches others again d
dispatches_same {d = d} above same h = subst (λ (x : Type 0). x) (λ i. Dispatches (above i) (same i) d) h

-- all are among the classes and the attributes
pub targets_all : (g : List Class) (attributes : List Attribute) (es : List Given) (cs : List WrittenContribution) {n : ℕ} {list : List Target} → n ≡ length attributes → list ≡ targets_of g attributes es
    → first_of (uses_broken g attributes es cs) ≡ None
    → All (IsTarget (length (superclasses_of g)) n) list
targets_all g attributes es cs {n} {list} counted are none =
    let parts = append_none (targets_broken g attributes es) (contributions_broken g attributes cs) (none_is (uses_broken g attributes es cs) none) in
    let within = targets_within g attributes es parts.0 in
    subst (λ (x : Type 0). x) (λ i. All (IsTarget (length (superclasses_of g)) (sym counted i)) (sym are i)) within
