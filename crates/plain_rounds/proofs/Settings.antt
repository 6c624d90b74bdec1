-- What is told of a setting.
use Rattle.std.proofs.Common.{◌≡◌, ℕ, ◌<◌, All, List, [], Option, Some, None, length, map, true, sym, ap, subst, ◌∙◌}
use Rattle.std.proofs.lemmas.List.Elements.{All-get_or, All-nil}
use Rattle.solutions.specs.Rounds.{is_in}
use Rattle.equation_law.specs.declared.coding.Instance.{Instance as CodedInstance}
use Rattle.equation_law.specs.declared.system.System.{System}
use Rattle.equation_law.specs.Systems.{program_of}
use Rattle.equation_law.specs.Checked.{IsInstance, IsProgram}
use Rattle.equation_law.specs.Codes.{IsCoded, IsNamingOf}
use Rattle.equation_law.specs.Equations.{equations_of}
use Rattle.equation_law.specs.Names.{Instance}
use Rattle.equation_law.specs.Values.{Value}
use Rattle.made_trees.specs.Makers.{AreTrees, Trees}
use Rattle.made_trees.proofs.Named.{named}
use Rattle.plain_rounds.specs.declared.setting.Setting.{Setting}
use Rattle.plain_rounds.specs.declared.values.NamedValue.{NamedValue}
use Rattle.plain_rounds.specs.Places.{IsHeld, first_place, kept_place}
use Rattle.plain_rounds.specs.Settings.{AreHeld, AreReady, IsSetting, instance_at, naming_at, program_at, standing_in}
use Rattle.plain_rounds.specs.Steps.{AreInner, IsAfter, name_at, named as name_of, standing}
use Rattle.plain_rounds.specs.Trees.{HaveNumbers, IsOwn}
use Rattle.plain_rounds.proofs.Gathered.{all_at}
use Rattle.plain_rounds.proofs.Owned.{in_all, outer_own, over_own}
use Rattle.plain_rounds.proofs.Solving.{inner_stands, settled_is}

module _ (s : Setting) where
  -- the makers, over the system of the setting
  abbrev pub trees_at : Trees
  trees_at = record { system = s.system.now; makers = s.makers.now.makers }

  pub moved : s.makers.now ≡ trees_at
  moved = λ i. record { system = s.same i; makers = s.makers.now.makers }

  module _ (set : IsSetting s) where
    pub trees_there : AreTrees trees_at
    trees_there = subst AreTrees moved set.trees

    pub named_there : IsNamingOf (program_at s) (naming_at s)
    named_there = named trees_at trees_there

    pub name_coded : (k : ℕ) → k < length s.names.now → IsCoded (program_at s) (name_at s.names.now k)
    name_coded k h = All-get_or (IsCoded (program_at s)) s.names.now k _ h set.coded

    pub name_instance : (k : ℕ) → k < length s.names.now → IsInstance (program_at s) (name_of (program_at s) (naming_at s) s.names.now k)
    name_instance k h = all_at (instance_at s) (IsInstance (program_at s)) s.names.now k _ h set.instances

    all_there : (i : Instance) → is_in (equations_of (program_at s)).same (map (instance_at s) s.names.now) i ≡ true → IsInstance (program_at s) i
    unfolding equations_of
    all_there i e = in_all (program_at s) (map (instance_at s) s.names.now) set.instances i e

    module _ (vs : List (Option NamedValue)) (a : IsAfter (program_at s) (naming_at s) s.names.now vs) where
      settled_own : (i : Instance) (v : Value) → standing_in s vs i ≡ Some v → IsOwn (program_at s) i v
      settled_own i v e = outer_own (program_at s) set.good (map (instance_at s) s.names.now) all_there a.rounds i v (sym (settled_is (program_at s) (naming_at s) s.names.now vs a i) ∙ e)

      -- under what outer rounds leave, and under what inner rounds over it leave, equations may be evaluated
      pub settled_ready : AreHeld s vs → AreReady s vs
      settled_ready are = record { set = set; are = are; own = settled_own }

      pub inner_ready : (us : List (Option NamedValue)) → AreInner (program_at s) (naming_at s) s.names.now vs us → AreHeld s us → AreReady s us
      inner_ready us u are = record {
        set = set;
        are = are;
        own = λ i v e. over_own (program_at s) set.good (map (instance_at s) s.names.now) all_there (standing_in s vs) settled_own u.turns i v (sym (inner_stands (program_at s) (naming_at s) s.names.now vs a u.turns us u.are i) ∙ e);
      }

-- a setting without any instances
pub bare_ready : (s b : Setting) → IsSetting s → b.system.now ≡ s.system.now → b.makers.now ≡ s.makers.now → b.names.now ≡ [] → ((q : CodedInstance) → kept_place b.places.now.map q ≡ None) → AreReady b []
bare_ready s b set system makers names places = record {
  set = record {
    trees = subst AreTrees (sym makers) set.trees;
    good = subst (λ (x : System). IsProgram (program_of x)) (sym system) set.good;
    coded = subst (All (IsCoded (program_at b))) (sym names) (All-nil (IsCoded (program_at b)));
    instances = subst (λ (xs : List CodedInstance). All (IsInstance (program_at b)) (map (instance_at b) xs)) (sym names) (All-nil (IsInstance (program_at b)));
    numbers = subst (HaveNumbers (program_at b) (naming_at b) b.makers.now.makers) (sym names) (λ k i e. absurd (let wrong : None ≡ Some i = e in cc));
    places = λ q. places q ∙ sym (ap (λ (xs : List CodedInstance). first_place xs q) names);
  };
  are = record { long = sym (ap length names); held = All-nil (IsHeld (program_at b)) };
  own = λ i v e. absurd (let wrong : None ≡ Some v = sym (ap (λ (xs : List CodedInstance). standing (program_at b) (naming_at b) xs [] i) names) ∙ e in cc);
}
