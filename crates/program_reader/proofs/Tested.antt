-- What is tested last, behind phases that are answered.
use Rattle.std.proofs.Common.{◌≡◌, List, [], ◌∷◌, ◌++◌, true, Option, Some, None, Result, Ok, Err, refl, sym, ap, subst, ◌∙◌}
use Rattle.std.specs.Result.{IsErr, IsErrAnd}
use Rattle.ast_grammar.specs.Grammar.{Class}
use Rattle.attr_equations.specs.declared.rules.Rules.{Rules}
use Rattle.attr_rules.specs.Rules.{RuleSet}
use Rattle.attr_types.specs.Phases.{phases_of, rules_of}
use Rattle.broken_rules.specs.declared.broken.Broken.{Broken}
use Rattle.broken_rules.specs.declared.broken.ReadFault.{ReadFault}
use Rattle.broken_rules.specs.declared.broken.ReadFault.TheVariants as faults
use Rattle.broken_rules.specs.Answers.{Answers, IsFirst, Refuses, clean, passes, breaks}
use Rattle.built_forms.specs.Built.{all_built}
use Rattle.aspect_items.specs.Items.{Item as AspectItem}
use Rattle.monotone_check.specs.Equations.{equations_broken}
use Rattle.program_reader.specs.declared.files.Unread.{Unread}
use Rattle.program_reader.specs.Built.{AnswersChecked, AnswersRules}
use Rattle.program_reader.specs.Files.{AreClean, BreakFirst}
use Rattle.program_reader.specs.Unread.{unread_for}

-- phases that break nothing leave the answer to those behind them
pub answers_behind : (phases rest : List (List Broken)) {b : Option Broken} → Answers phases None → Answers rest b → Answers (phases ++ rest) b
answers_behind [] rest clean after = after
answers_behind (bs ∷ phases) rest (passes a) after = passes (answers_behind phases rest a after)

-- what they break first is the answer, whatever stands behind them
pub answers_before : (phases rest : List (List Broken)) {b : Broken} → Answers phases (Some b) → Answers (phases ++ rest) (Some b)
answers_before [] rest a = elim a [ ]
answers_before (bs ∷ phases) rest (passes a) = passes (answers_before phases rest a)
answers_before (bs ∷ phases) rest (breaks h) = breaks h

-- where nothing is broken the phases before the last one break nothing
pub clean_front : (phases : List (List Broken)) (last : List Broken) → Answers (phases ++ last ∷ []) None → Answers phases None
clean_front [] last a = clean
clean_front (bs ∷ phases) last (passes a) = passes (clean_front phases last a)

-- nor does that one
pub clean_last : (phases : List (List Broken)) (last : List Broken) → Answers (phases ++ last ∷ []) None → last ≡ []
clean_last [] last (passes a) = refl
clean_last (bs ∷ phases) last (passes a) = clean_last phases last a

-- aspects that break nothing in the phases of `check`
module _ (g : List Class) (written : List AspectItem) where
  module _ (rules : RuleSet) (passed : Answers (phases_of g written) None) (are : rules ≡ rules_of g written) where
    -- and whose equations break nothing either
    pub clean_behind : equations_broken rules ≡ [] → AreClean g written
    clean_behind none =
        answers_behind (phases_of g written) (equations_broken (rules_of g written) ∷ []) passed
        (subst (λ (bs : List Broken). Answers (bs ∷ []) None) (sym (ap equations_broken (sym are) ∙ none)) (passes clean))

    -- or whose equations break this first
    pub broken_behind : (b : Broken) → IsFirst (equations_broken rules) b → BreakFirst g written b
    broken_behind b first =
        answers_behind (phases_of g written) (equations_broken (rules_of g written) ∷ []) passed
        (breaks (subst (λ (r : RuleSet). IsFirst (equations_broken r) b) are first))

  -- what those phases refuse
  pub refused_before : (fault : ReadFault) (r : Result Rules ReadFault) → IsErr r × IsErrAnd r (λ u. u ≡ fault) → Refuses (phases_of g written) fault → AnswersChecked g written r
  refused_before fault (Ok x) h refuses = let missing = h.0 in cc
  refused_before (faults.Broken b) (Err u) h refuses =
      subst (λ (x : ReadFault). AnswersChecked g written (Err x)) (sym h.1) (answers_before (phases_of g written) (equations_broken (rules_of g written) ∷ []) refuses)
  refused_before faults.Memory (Err u) h refuses = subst (λ (x : ReadFault). AnswersChecked g written (Err x)) (sym h.1) tt

  -- what is refused of aspects that are evaluated so far
  module _ (built : all_built written ≡ true) where
    pub refused_built : (fault : ReadFault) (r : Result Rules Unread) → IsErr r × IsErrAnd r (λ u. u ≡ unread_for fault) → AnswersChecked g written (Err fault) → AnswersRules g written r
    refused_built fault (Ok x) h refuses = let missing = h.0 in cc
    refused_built (faults.Broken b) (Err u) h refuses = subst (λ (x : Unread). AnswersRules g written (Err x)) (sym h.1) (record { built = built; breaks = refuses })
    refused_built faults.Memory (Err u) h refuses = subst (λ (x : Unread). AnswersRules g written (Err x)) (sym h.1) tt
