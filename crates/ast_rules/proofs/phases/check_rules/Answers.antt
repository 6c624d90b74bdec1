use Rattle.std.proofs.Common.{◌≡◌, ℕ, List, [], ◌∷◌, Option, None, ap, subst, ◌∙◌}
use Rattle.broken_rules.specs.Answers.{clean, Refuses, Stops}
use Rattle.broken_rules.specs.Order.{first_of}
use Rattle.broken_rules.specs.declared.broken.ReadFault.{ReadFault}
use Rattle.broken_rules.proofs.Answering.{passes_if}
use Rattle.broken_rules.proofs.Exits.{refuses_here, refuses_later, says_passed}
use Rattle.ast_rules.specs.Members.{members_broken}
use Rattle.ast_rules.specs.Naming.{names_of, naming_broken}
use Rattle.ast_rules.specs.Phases.{grammar_phases, superclasses_of}
use Rattle.ast_rules.specs.Superclasses.{superclass_numbers, superclasses_broken}
use Rattle.ast_rules.specs.Written.{WrittenRule, seen_rules}
use Rattle.ast_rules.proofs.phases.check_rules.Goals as goal

module _ (rules : List WrittenRule) where
  -- the numbers of superclasses, by the names that the first phase gave
  numbered : {seen numbers : List (Option ℕ)} {names : List (List ℕ)} → seen ≡ numbers → numbers ≡ superclass_numbers names rules → names ≡ names_of rules → seen ≡ superclasses_of rules
  numbered copied are called = copied ∙ are ∙ ap (λ names. superclass_numbers names rules) called

  module _ (ups : List (Option ℕ)) (is : ups ≡ superclasses_of rules) (e : ReadFault) (named : first_of (naming_broken rules) ≡ None) where
    -- the second phase stops
    second_stops : Stops (superclasses_broken ups rules) e → Refuses (grammar_phases rules) e
    second_stops stops =
        let above = superclasses_broken (superclasses_of rules) rules in
        let members = members_broken rules (superclasses_of rules) in
        refuses_later (naming_broken rules) (above ∷ members ∷ []) e named (refuses_here above (members ∷ []) e (subst (λ s. Stops (superclasses_broken s rules) e) is stops))

    -- and the third one
    third_stops : (again : List (Option ℕ)) → again ≡ superclasses_of rules → first_of (superclasses_broken ups rules) ≡ None → Stops (members_broken rules again) e → Refuses (grammar_phases rules) e
    third_stops again same passed stops =
        let above = superclasses_broken (superclasses_of rules) rules in
        let members = members_broken rules (superclasses_of rules) in
        refuses_later (naming_broken rules) (above ∷ members ∷ []) e named
        (refuses_later above (members ∷ []) e (subst (λ s. first_of (superclasses_broken s rules) ≡ None) is passed) (refuses_here members [] e (subst (λ s. Stops (members_broken rules s) e) same stops)))

pub returns-in_err-names-clause-phases : goal.returns-in_err-names-clause-phases
returns-in_err-names-clause-phases c =
    let rules = seen_rules c.args.rules.now in
    let e = c.in_err-names.field-0.0 in
    says_passed (grammar_phases rules) c.from_residual.result e c.from_residual.ensures.1 (refuses_here (naming_broken rules) _ e c.in_err-names.ensures.phase)

pub returns-in_err-check_superclasses-clause-phases : goal.returns-in_err-check_superclasses-clause-phases
returns-in_err-check_superclasses-clause-phases c =
    let rules = seen_rules c.args.rules.now in
    let e = c.in_err-check_superclasses.field-0.0 in
    says_passed (grammar_phases rules) c.from_residual-in_err-check_superclasses.result e c.from_residual-in_err-check_superclasses.ensures.1
    (second_stops rules c.deref.result.now (numbered rules c.deref.ensures.value c.in_ok-superclasses.ensures c.in_ok-names.ensures.names) e c.in_ok-names.ensures.phase c.in_err-check_superclasses.ensures)

pub returns-in_err-check_members-clause-phases : goal.returns-in_err-check_members-clause-phases
returns-in_err-check_members-clause-phases c =
    let rules = seen_rules c.args.rules.now in
    let e = c.in_err-check_members.field-0.0 in
    let numbers = λ (seen : List (Option ℕ)) (copied : seen ≡ c.in_ok-superclasses.superclasses.items). numbered rules copied c.in_ok-superclasses.ensures c.in_ok-names.ensures.names in
    says_passed (grammar_phases rules) c.from_residual-in_err-check_members.result e c.from_residual-in_err-check_members.ensures.1
    (third_stops rules c.deref.result.now (numbers c.deref.result.now c.deref.ensures.value) e c.in_ok-names.ensures.phase c.deref-2.result.now (numbers c.deref-2.result.now c.deref-2.ensures.value) c.in_ok-check_superclasses.ensures c.in_err-check_members.ensures)

pub returns-clause-phases : goal.returns-clause-phases
returns-clause-phases c =
    let rules = seen_rules c.args.rules.now in
    let numbers = λ (seen : List (Option ℕ)) (copied : seen ≡ c.in_ok-superclasses.superclasses.items). numbered rules copied c.in_ok-superclasses.ensures c.in_ok-names.ensures.names in
    let above = subst (λ s. first_of (superclasses_broken s rules) ≡ None) (numbers c.deref.result.now c.deref.ensures.value) c.in_ok-check_superclasses.ensures in
    let members = subst (λ s. first_of (members_broken rules s) ≡ None) (numbers c.deref-2.result.now c.deref-2.ensures.value) c.in_ok-check_members.ensures in
    passes_if c.in_ok-names.ensures.phase (passes_if above (passes_if members clean))
