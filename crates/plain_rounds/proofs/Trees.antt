-- Trees that come of equations under what stands.
use Rattle.std.proofs.Common.{◌≡◌, ℕ, ◌<◌, Some, length, sym, ap, ◌∙◌}
use Rattle.std.proofs.lemmas.Option.{slice_get-get_or}
use Rattle.solutions.specs.Rounds.{value_of as outcome_value}
use Rattle.solutions.proofs.Runs.{ends_leaf, ends_run}
use Rattle.equation_law.specs.declared.coding.Instance.{Instance as CodedInstance}
use Rattle.equation_law.specs.declared.coding.TreeImage.{TreeImage}
use Rattle.equation_law.specs.Names.{Reference}
use Rattle.equation_law.specs.Values.{Tree}
use Rattle.expr_eval.specs.Sites.{instance_reads}
use Rattle.plain_rounds.specs.declared.standing.Standing.{Standing}
use Rattle.plain_rounds.specs.declared.values.NamedValue.{NamedValue}
use Rattle.plain_rounds.specs.Named.{image_making, tokens_by, value_in}
use Rattle.plain_rounds.specs.Settings.{AreReady, instance_at, naming_at, program_at}
use Rattle.plain_rounds.specs.Standing.{IsTreeOf, IsTreeValue, standing_at}
use Rattle.plain_rounds.specs.Steps.{comes, name_at}
use Rattle.plain_rounds.specs.Trees.{IsOwn, IsOwnTree}
use Rattle.plain_rounds.proofs.Owned.{leaves_own}
use Rattle.plain_rounds.proofs.Settings.{name_instance}
use Rattle.plain_rounds.proofs.Told.{IsTreeThere}

module _ (r s : Standing) (ready : AreReady r.setting r.values.now) (k : ℕ) (h : k < length r.setting.names.now) where
  abbrev name : CodedInstance
  name = name_at r.setting.names.now k

  module _ (t : TreeImage) (there : IsTreeThere (program_at r.setting) r s (instance_reads (program_at r.setting) name) t) where
    own : IsOwnTree (program_at r.setting) (instance_at r.setting name) there.root (tokens_by (naming_at r.setting) (image_making (program_at r.setting) t) t.tokens)
    own = ends_leaf (IsOwn (program_at r.setting) (instance_at r.setting name)) (leaves_own (program_at r.setting) ready.set.good (instance_at r.setting name) (name_instance r.setting ready.set k h)) there.ends

    -- it is one of the instance
    pub tree_of : IsTreeOf r.setting name t
    tree_of =
        let number = ready.set.numbers k name (slice_get-get_or r.setting.names.now k _ h) own.making own.makes in
        record { making = there.making; is = there.is; all = there.all; codes = there.codes; tree = number.0; there = number.1 }

    -- and what its equation comes to
    pub tree_comes : (v : NamedValue) → IsTreeValue r.setting name t v → Some (value_in (program_at r.setting) (naming_at r.setting) v) ≡ comes (program_at r.setting) (standing_at r) (instance_at r.setting name)
    tree_comes v is =
        ap Some (is.is ∙ ap (λ (x : Reference). Tree x (tokens_by (naming_at r.setting) (image_making (program_at r.setting) t) t.tokens)) (sym own.root)) ∙ sym (ap outcome_value (ends_run (standing_at r) there.ends))
