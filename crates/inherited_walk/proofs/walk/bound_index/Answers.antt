use Rattle.std.proofs.Common.{◌≡◌, ◌⊎◌, inl, inr, [], ap, sym, ◌∙◌}
use Rattle.attr_rules.specs.declared.dispatch.Reach.{Reach}
use Rattle.attr_rules.specs.declared.dispatch.Reach.TheVariants.{Own, Created, Children}
use Rattle.attr_rules.specs.declared.kinds.AttrId.{AttrId}
use Rattle.equation_law.specs.Equations.{bound_values}
use Rattle.inherited_walk.proofs.Known.{no_code}
use Rattle.inherited_walk.proofs.Walking.{none_bound}
use Rattle.inherited_walk.proofs.walk.bound_index.Goals as goal

pub returns-in-Own : goal.returns-in-Own
returns-in-Own c = record {
  row = c.none-in-Own.ensures.row;
  none = no_code c.args.reach c.none-in-Own.result c.none-in-Own.ensures.codes;
  values = λ p n. none_bound p n c.args.reach c.none-in-Own.result c.none-in-Own.ensures.codes ∙ sym (binds_nothing c.args.reach c.in-Own.is);
}
  where
    binds_nothing : (r : Reach) → (r ≡ Own) ⊎ ((b : AttrId) × (r ≡ Created b)) ⊎ (r ≡ Children) → bound_values r c.args.place [] ≡ []
    binds_nothing r h = elim h [
      | inl e ↦ ap (λ x. bound_values x c.args.place []) e
      | inr (inl m) ↦ ap (λ x. bound_values x c.args.place []) m.1
      | inr (inr e) ↦ ap (λ x. bound_values x c.args.place []) e
    ]
