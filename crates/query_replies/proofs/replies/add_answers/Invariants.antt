-- The lines so far, and what was claimed for them.
use Rattle.std.proofs.Common.{List, ℕ, ◌++◌, drop}
use Rattle.equation_law.specs.Keys.{IsAsked}
use Rattle.equation_law.specs.Systems.{program_of}
use Rattle.memo_cells.specs.Claiming.{ClaimsKeysOf}
use Rattle.memo_cells.specs.Standing.{IsPassOf}
use Rattle.memo_cells.specs.Views.{IsAtLeast}
use Rattle.caller_pass.specs.Keeping.{IsNotebookOf}
use Rattle.query_replies.specs.Replies.{AreReplies}
use Rattle.query_replies.proofs.replies.add_answers.Given as goal

abbrev pub invariant-replies : goal.invariant-replies
invariant-replies g l = IsPassOf l.cells l.pass × IsAtLeast l.initial.pass l.pass × ClaimsKeysOf (program_of l.system) (IsAsked (program_of l.system)) l.initial.pass l.pass × ((rest : List ℕ) → AreReplies (program_of l.system) l.query (drop l.query (program_of l.system).queries) rest → AreReplies (program_of l.system) 0 (program_of l.system).queries (l.text.items ++ rest)) × IsNotebookOf l.system l.pass l.notes
