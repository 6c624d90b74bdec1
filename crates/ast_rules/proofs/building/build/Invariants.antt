use Rattle.std.proofs.Common.{◌≡◌, ◌≤◌, drop}
use Rattle.rag_io.specs.Tokens.{seen_tokens}
use Rattle.ast_rules.specs.Building.{built, nothing, seen_builder}
use Rattle.ast_rules.proofs.building.build.Given as goal

-- the rest of the events builds from here what all build
abbrev pub invariant-acts : goal.invariant-acts
invariant-acts l = record {
  rest : built (seen_tokens l.tokens) (seen_builder l.b) (drop l.i l.events) ≡ built (seen_tokens l.tokens) (nothing (seen_tokens l.tokens)) l.events;
  at : l.b.at ≤ l.i;
}
