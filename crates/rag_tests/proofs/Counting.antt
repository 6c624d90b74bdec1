-- A reader of what made trees is sound, and tells what the makers do.
use Rattle.std.proofs.Common.{◌≡◌, ℕ, Ok, None, refl, subst, sym}
use Rattle.equation_law.specs.declared.coding.Instance.{Instance as CodedInstance}
use Rattle.equation_law.specs.declared.coding.NodeRef.{NodeRef}
use Rattle.equation_law.specs.Checked.{TreesFit}
use Rattle.equation_law.specs.Codes.{IsNamingOf, Naming}
use Rattle.equation_law.specs.Program.{Program}
use Rattle.equation_law.specs.Reading.{IsSound, SettledBy, TokenBy}
use Rattle.equation_law.proofs.Grown.{grows_itself}
use Rattle.made_trees.specs.Makers.{AreTrees, Trees, naming_of, program_for}
use Rattle.made_trees.proofs.Named.{named}
use Rattle.rag_tests.specs.Counting.{told_by}

pub by_naming : (T : Trees) (n : Naming) → n ≡ naming_of T → n ≡ naming_of T
by_naming T n is = is

module _ {S : Type 0} (T : Trees) where
  pub for_makers : (p : Program) → IsSound {S = S} p (told_by T) → p ≡ program_for T
  for_makers p sound = sound.for.0

  pub counting_sound : (p : Program) → p ≡ program_for T → AreTrees T → IsSound {S = S} p (told_by T)
  counting_sound p is trees = record {
    for = (is, trees);
    within = λ i v h. h;
    one_value = λ i v w a b. absurd a;
    named = λ n names. subst (λ (q : Program). IsNamingOf q n) (sym is) (subst (IsNamingOf (program_for T)) (sym names) (named T trees));
    some = (naming_of T, refl);
    sources = λ c low. tt;
    fit = subst (λ (q : Program). TreesFit q) (sym is) trees.fit;
    trees = λ a o xs v can m making. absurd can;
  }

  -- it has no value
  pub counting_settled : (i : CodedInstance) → SettledBy {S = S} (told_by T) (told_by T) i (Ok None)
  counting_settled i = record { kept = λ p sound. grows_itself sound; answer = λ p sound coded known n is w has. has }

  -- and so none of a tree that it would have a token of
  pub counting_token : (node : NodeRef) (k code : ℕ) → TokenBy {S = S} (told_by T) (told_by T) node k code
  counting_token node k code = record { kept = λ p sound. grows_itself sound; answer = λ p sound known n is a q o xs stands w has. absurd has }
