-- Types that are known.
use Rattle.std.proofs.Common.{◌≡◌, true, false, Option, Some, None, is_none, refl, ap}
use Rattle.std.proofs.lemmas.Bool.{eqb-true}
use Rattle.attr_rules.specs.declared.kinds.Kind.{Kind}
use Rattle.attr_rules.specs.declared.kinds.Kind.TheVariants as kinds
use Rattle.attr_scope.specs.WrittenTypes.{equal_kinds, same_kind}

pub equal_is : (k l : Kind) → equal_kinds k l ≡ true → k ≡ l
equal_is kinds.Truth kinds.Truth e = refl
equal_is kinds.Truth kinds.Int e = absurd cc
equal_is kinds.Truth kinds.Text e = absurd cc
equal_is kinds.Truth (kinds.Node d) e = absurd cc
equal_is kinds.Truth kinds.Texts e = absurd cc
equal_is kinds.Truth (kinds.Nodes d) e = absurd cc
equal_is kinds.Int kinds.Truth e = absurd cc
equal_is kinds.Int kinds.Int e = refl
equal_is kinds.Int kinds.Text e = absurd cc
equal_is kinds.Int (kinds.Node d) e = absurd cc
equal_is kinds.Int kinds.Texts e = absurd cc
equal_is kinds.Int (kinds.Nodes d) e = absurd cc
equal_is kinds.Text kinds.Truth e = absurd cc
equal_is kinds.Text kinds.Int e = absurd cc
equal_is kinds.Text kinds.Text e = refl
equal_is kinds.Text (kinds.Node d) e = absurd cc
equal_is kinds.Text kinds.Texts e = absurd cc
equal_is kinds.Text (kinds.Nodes d) e = absurd cc
equal_is (kinds.Node c) kinds.Truth e = absurd cc
equal_is (kinds.Node c) kinds.Int e = absurd cc
equal_is (kinds.Node c) kinds.Text e = absurd cc
equal_is (kinds.Node c) (kinds.Node d) e = ap (λ n. kinds.Node (record { 0 = n })) (eqb-true c.0 d.0 e)
equal_is (kinds.Node c) kinds.Texts e = absurd cc
equal_is (kinds.Node c) (kinds.Nodes d) e = absurd cc
equal_is kinds.Texts kinds.Truth e = absurd cc
equal_is kinds.Texts kinds.Int e = absurd cc
equal_is kinds.Texts kinds.Text e = absurd cc
equal_is kinds.Texts (kinds.Node d) e = absurd cc
equal_is kinds.Texts kinds.Texts e = refl
equal_is kinds.Texts (kinds.Nodes d) e = absurd cc
equal_is (kinds.Nodes c) kinds.Truth e = absurd cc
equal_is (kinds.Nodes c) kinds.Int e = absurd cc
equal_is (kinds.Nodes c) kinds.Text e = absurd cc
equal_is (kinds.Nodes c) (kinds.Node d) e = absurd cc
equal_is (kinds.Nodes c) kinds.Texts e = absurd cc
equal_is (kinds.Nodes c) (kinds.Nodes d) e = ap (λ n. kinds.Nodes (record { 0 = n })) (eqb-true c.0 d.0 e)

-- types that are known and one
pub same_types : (k l : Option Kind) → is_none k ≡ false → is_none l ≡ false → same_kind k l ≡ true → k ≡ l
same_types None l known other same = absurd cc
same_types (Some k) None known other same = absurd cc
same_types (Some k) (Some l) known other same = ap Some (equal_is k l same)
