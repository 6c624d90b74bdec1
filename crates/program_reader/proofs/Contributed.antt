-- How many contributions there are.
use Rattle.std.proofs.Common.{◌≡◌, ℕ, List, [], ◌∷◌, ◌+◌, cond, map, refl, ap, sym, ◌∙◌}
use Rattle.std.specs.List.{count_by}
use Rattle.std.proofs.lemmas.List.Sums.{sum_by-cons}
use Rattle.aspect_items.specs.declared.items.Item.{Item}
use Rattle.aspect_items.specs.Items.{Item as SeenItem, seen_item}
use Rattle.program_reader.specs.Built.{is_contributed}
use Rattle.program_reader.specs.Files.{contributions, is_contribution}

kept_one : Item → ℕ
kept_one x = cond (is_contributed x) 1 0

one : SeenItem → ℕ
one x = cond (is_contribution x) 1 0

-- as many among the items as they are kept
pub contributed : (items : List Item) → count_by is_contributed items ≡ contributions (map seen_item items)
unfolding is_contributed kept_one one
contributed [] = refl
contributed (x ∷ items) = sum_by-cons kept_one x items ∙ ap (λ n. kept_one x + n) (contributed items) ∙ sym (sum_by-cons one (seen_item x) (map seen_item items))
