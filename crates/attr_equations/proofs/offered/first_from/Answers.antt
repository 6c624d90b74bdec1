use Rattle.std.proofs.Common.{ltb, rules}
use Rattle.std.proofs.lemmas.List.Sorted.{IsPartitionPoint-from_clause, IsPartitionedBy-ltb}
use Rattle.std.proofs.lemmas.Option.{slice_get-get_or}
use Rattle.attr_equations.proofs.Receiving.{first_found, none_found, not_falling}
use Rattle.attr_equations.proofs.offered.first_from.Goals as goal

pub returns-then-place-numbers-clause-some : goal.returns-then-place-numbers-clause-some
returns-then-place-numbers-clause-some c =
    let parted = IsPartitionedBy-ltb (λ n. n) c.args.numbers.now c.args.from (not_falling c.args.numbers.now c.requires) in
    let point = IsPartitionPoint-from_clause (λ n. ltb n c.args.from) _ _ c.partition_point-place.ensures.partitioned parted (λ a r q k. search rules) in
    first_found c.args.numbers.now c.args.from c.partition_point-place.result point _ (slice_get-get_or c.args.numbers.now c.partition_point-place.result _ c.if-place-numbers.true)

pub returns-else-place-numbers-clause-none : goal.returns-else-place-numbers-clause-none
returns-else-place-numbers-clause-none c =
    let parted = IsPartitionedBy-ltb (λ n. n) c.args.numbers.now c.args.from (not_falling c.args.numbers.now c.requires) in
    let point = IsPartitionPoint-from_clause (λ n. ltb n c.args.from) _ _ c.partition_point-place.ensures.partitioned parted (λ a r q k. search rules) in
    none_found c.args.numbers.now c.args.from c.partition_point-place.result point c.if-place-numbers.false
