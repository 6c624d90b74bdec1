use Rattle.std.proofs.Common.{◌≡◌, ℕ, ◌<◌, ◌≤◌, Bool, false, true, List, [], ◌∷◌, eqb, length, refl, sym, ◌∙◌, arith}
use Rattle.std.proofs.lemmas.Bool.Decides.{nat_tests}
use Rattle.attr_equations.specs.Kept.{rules_in}
use Rattle.program_reader.specs.Queries.{most_lines}
use Rattle.program_reader.proofs.SayingQueries.{sofar_ends, sofar_many, sofar_goes, sofar_wrong}
use Rattle.program_reader.proofs.queries.read_queries.Goals as goal

-- what the test for no bytes says
some_bytes : (rest : List ℕ) (empty : Bool) → empty ≡ eqb (length rest) 0 → empty ≡ false → 0 < length rest
some_bytes rest empty e f = let g : eqb (length rest) 0 ≡ false = sym e ∙ f in grind (arith, nat_tests)

no_bytes : (rest : List ℕ) (empty : Bool) → empty ≡ eqb (length rest) 0 → empty ≡ true → rest ≡ []
no_bytes [] empty e f = refl
no_bytes (b ∷ rest) empty e f = let g : eqb (length (b ∷ rest)) 0 ≡ true = sym e ∙ f in absurd (grind (arith, nat_tests))

pub returns-then-lines-eq-MOST_LINES : goal.returns-then-lines-eq-MOST_LINES
returns-then-lines-eq-MOST_LINES c =
    let some = some_bytes c.lines.rest.now c.is_empty.result c.is_empty.ensures c.lines-test.true in
    let i = c.if-lines-eq-MOST_LINES.true in
    let many : most_lines ≤ c.lines.lines = omega arith in
    sofar_many c.args.grammar.now (rules_in c.args.rules.now) c.args.tree.now c.lines.invariant.sofar some many

pub returns-then-not-branch : goal.returns-then-not-branch
returns-then-not-branch c =
    let some = some_bytes c.lines.rest.now c.is_empty.result c.is_empty.ensures c.lines-test.true in
    let wrong = rw c.if-not-branch.true at c.in_ok-read_line.ensures in
    sofar_wrong c.args.grammar.now (rules_in c.args.rules.now) c.args.tree.now c.lines.invariant.sofar some c.first_line.ensures.line wrong

pub lines-preserved : goal.lines-preserved
lines-preserved c =
    let some = some_bytes c.lines.rest.now c.is_empty.result c.is_empty.ensures c.lines-test.true in
    let adds = rw c.if-not-branch.false at c.in_ok-read_line.ensures in
    record {
      sofar = sofar_goes c.args.grammar.now (rules_in c.args.rules.now) c.args.tree.now c.lines.invariant.sofar some c.first_line.ensures.line adds;
      few = omega arith;
      within = omega arith;
    }

pub returns : goal.returns
returns c =
    sofar_ends c.args.grammar.now (rules_in c.args.rules.now) c.args.tree.now c.lines.invariant.sofar (no_bytes c.lines.rest.now c.is_empty.result c.is_empty.ensures c.lines-test.false) c.lines.invariant.few
