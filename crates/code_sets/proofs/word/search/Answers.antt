use Rattle.std.proofs.Common.{rules}
use Rattle.std.proofs.lemmas.List.Sorted.{answers_always}
use Rattle.code_sets.proofs.Searching.{gap_behind, searched}
use Rattle.code_sets.proofs.word.search.Goals as goal

pub returns-in-Some-clause-absent : goal.returns-in-Some-clause-absent
returns-in-Some-clause-absent c = gap_behind c.args.number c.args.words.now c.in-Some.last.now c.requires.rise (search rules)

pub returns-in_default-clause-found : goal.returns-in_default-clause-found
returns-in_default-clause-found c =
    let facts = c.binary_search_by_key.ensures in
    let by_key = facts.position (λ w. w.number) (answers_always _ _ _ (λ f a r g called. search rules)) in
    (searched c.args.words.now c.requires.rise c.args.number c.binary_search_by_key.result facts.bound by_key).0

pub returns-in_default-clause-absent : goal.returns-in_default-clause-absent
returns-in_default-clause-absent c =
    let facts = c.binary_search_by_key.ensures in
    let by_key = facts.position (λ w. w.number) (answers_always _ _ _ (λ f a r g called. search rules)) in
    (searched c.args.words.now c.requires.rise c.args.number c.binary_search_by_key.result facts.bound by_key).1
