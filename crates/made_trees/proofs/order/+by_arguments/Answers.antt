use Rattle.std.proofs.Common.{drop, refl, sym, subst}
use Rattle.std.specs.declared.cmp.Ordering.{Ordering}
use Rattle.attr_rules.specs.Types.{parameter_kinds}
use Rattle.equation_law.specs.Codes.{codes_in}
use Rattle.equation_law.specs.Systems.{program_of}
use Rattle.equation_law.proofs.Pooled.{texts_pooled}
use Rattle.made_trees.specs.Ordered.{LeadsTo}
use Rattle.made_trees.proofs.Arguments.{code_there}
use Rattle.made_trees.proofs.Ordered.{equal_first, first_there, named_first, other_first}
use Rattle.made_trees.proofs.order.+by_arguments.Goals as goal

pub by_codes-requires-clause-left : goal.by_codes-requires-clause-left
by_codes-requires-clause-left t c =
    let at = c.in-Some-Some-Some in
    code_there (program_of c.args.system.now) (parameter_kinds c.args.params) (codes_in c.args.left) c.requires.left.codes 0 at.x at.kind (sym at.ensures) (sym at.ensures')

pub by_codes-requires-clause-right : goal.by_codes-requires-clause-right
by_codes-requires-clause-right t c =
    let at = c.in-Some-Some-Some in
    code_there (program_of c.args.system.now) (parameter_kinds c.args.params) (codes_in c.args.right) c.requires.right.codes 0 at.y at.kind (sym at.ensures) (sym at.ensures'')

pub returns-then-x-y : goal.returns-then-x-y
returns-then-x-y t c n e last names few low =
    let at = c.in-Some-Some-Some in
    let types = first_there (parameter_kinds c.args.params) (parameter_kinds c.rest.result) at.kind (sym at.ensures) c.rest.ensures in
    let left = first_there (codes_in c.args.left) (codes_in c.rest-then-x-y.result) at.x (sym at.ensures') c.rest-then-x-y.ensures.codes in
    let right = first_there (codes_in c.args.right) (codes_in c.rest-then-x-y-2.result) at.y (sym at.ensures'') c.rest-then-x-y-2.ensures.codes in
    let order = equal_first n at.kind at.x at.y (parameter_kinds c.args.params) (parameter_kinds c.rest.result) (codes_in c.args.left) (codes_in c.args.right) (codes_in c.rest-then-x-y.result) (codes_in c.rest-then-x-y-2.result) c.args.behind types left right c.if-x-y.true in
    let behind = (named_first n at.kind at.x at.y (parameter_kinds c.args.params) (parameter_kinds c.rest.result) (codes_in c.args.left) (codes_in c.args.right) (codes_in c.rest-then-x-y.result) (codes_in c.rest-then-x-y-2.result) c.args.behind types left right last few).1 in
    subst (λ (o : Ordering). LeadsTo n e o c.by_arguments.result) order (c.by_arguments.ensures n e last names behind low)

pub returns-else-x-y : goal.returns-else-x-y
returns-else-x-y t c n e last names few low =
    let at = c.in-Some-Some-Some in
    let us = drop 1 (parameter_kinds c.args.params) in
    let xs = drop 1 (codes_in c.args.left) in
    let ys = drop 1 (codes_in c.args.right) in
    let types = first_there (parameter_kinds c.args.params) us at.kind (sym at.ensures) refl in
    let left = first_there (codes_in c.args.left) xs at.x (sym at.ensures') refl in
    let right = first_there (codes_in c.args.right) ys at.y (sym at.ensures'') refl in
    let p = program_of c.args.system.now in
    let v = code_there p (parameter_kinds c.args.params) (codes_in c.args.left) c.requires.left.codes 0 at.x at.kind (sym at.ensures) (sym at.ensures') in
    let w = code_there p (parameter_kinds c.args.params) (codes_in c.args.right) c.requires.right.codes 0 at.y at.kind (sym at.ensures) (sym at.ensures'') in
    let order = other_first n at.kind at.x at.y (parameter_kinds c.args.params) us (codes_in c.args.left) (codes_in c.args.right) xs ys c.args.behind types left right p (texts_pooled c.args.system.now) names v w c.if-x-y.false in
    let own = (named_first n at.kind at.x at.y (parameter_kinds c.args.params) us (codes_in c.args.left) (codes_in c.args.right) xs ys c.args.behind types left right last few).0 in
    subst (λ (o : Ordering). LeadsTo n e o c.by_codes.result) order (c.by_codes.ensures n e last names own low)
