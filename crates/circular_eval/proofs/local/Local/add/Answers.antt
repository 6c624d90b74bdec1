use Rattle.std.proofs.Common.{◌<◌, ◌^◌, ◌∙◌, ℕ, subst}
use Rattle.circular_eval.specs.Left.{member_bound}
use Rattle.circular_eval.proofs.Finding.{comes_last}
use Rattle.circular_eval.proofs.local.Local.add.Goals as goal

pub returns-clause-added : goal.returns-clause-added
returns-clause-added c = c.in-Ok.ensures.entries ∙ comes_last c.args.self.now.members.entries c.args.i c.args.member c.requires

pub returns-clause-few : goal.returns-clause-few
unfolding member_bound
returns-clause-few c = subst (λ (k : ℕ). k < 2 ^ 63) c.len-number.ensures.len c.len-number.ensures.small

pub returns-in_default-clause-few : goal.returns-in_default-clause-few
unfolding member_bound
returns-in_default-clause-few c = subst (λ (k : ℕ). k < 2 ^ 63) c.len-number.ensures.len c.len-number.ensures.small

pub returns-in_err-add-clause-few : goal.returns-in_err-add-clause-few
unfolding member_bound
returns-in_err-add-clause-few c = subst (λ (k : ℕ). k < 2 ^ 63) c.len-number.ensures.len c.len-number.ensures.small
