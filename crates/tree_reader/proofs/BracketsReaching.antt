-- What running over brackets comes to.
use Rattle.std.proofs.Common.{◌≡◌, ◌+◌, ℕ, List, [], ◌∷◌, ◌++◌, true, Option, codes, length, refl, sym, ap, subst, ◌∙◌, append_assoc, arith}
use Rattle.broken_rules.specs.declared.broken.Broken.{Broken}
use Rattle.broken_rules.proofs.Order.{sooner_none}
use Rattle.rag_io.specs.declared.token.Place.{Place}
use Rattle.rag_io.specs.Tokens.{Lexed}
use Rattle.ast_grammar.specs.Grammar.{Class}
use Rattle.tree_arena.specs.Nodes as arena
use Rattle.tree_arena.specs.Terms.{nodes_from}
use Rattle.tree_syntax.specs.Written.{Written, Brackets, IsSign}
use Rattle.tree_reader.specs.Breaking.{arguments_broken, brackets_misplaced, nodes_in}
use Rattle.tree_reader.specs.Grown.{codes_of, grown}
use Rattle.tree_reader.specs.Steps.{Open, Opened, Brackets as InBrackets, brackets_opened, closed, coded_by, noted, run}
use Rattle.tree_reader.specs.Wants.{Wants, inside, next_of, wanted_by}
use Rattle.tree_reader.proofs.Coding.{IsPlaced, IsWithin, behind_component, coded_all, coded_all_brackets, coded_all_front, is_bracketed, placed_more, placed_next}
use Rattle.tree_reader.proofs.Growing.{grown_count, nodes_beside, size_grown}
use Rattle.tree_reader.proofs.Wanting.{over}
use Rattle.tree_reader.proofs.Running.{Reaches, after, nodes_after, noted_then, reading, run_sign}

module _ (g : List Class) (pool : List (List ℕ)) where
  -- brackets, with what is in them and what is behind them
  module _ (p : Place) (inner behind : Written)
      (x : ℕ) (o : Opened) (wants : Wants) (outer : List Open) (nodes : List arena.Node) (broken : Option Broken) (n k : ℕ) (placed : IsPlaced nodes x o n k) where
    -- the nodes with the code of the brackets, and those that are laid in the brackets
    abbrev coded_here : List arena.Node
    coded_here = coded_by nodes x o 0

    abbrev laid : List arena.Node
    laid = nodes_from x n (grown g pool true k inner)

    -- what is open around them
    abbrev tops : List Open
    tops = record { node = x; opened = o; wants = next_of wants } ∷ outer

    -- the number behind the last node in them
    abbrev last : ℕ
    last = n + nodes_in inner

    -- what the brackets themselves break, what is in them and what is behind them
    abbrev own : List Broken
    own = brackets_misplaced (wanted_by wants) p

    abbrev inner_broken : List Broken
    inner_broken = arguments_broken g (inside (wanted_by wants)) n inner

    abbrev later : List Broken
    later = arguments_broken g (next_of wants) last behind

    -- where the next argument stands behind the brackets, and in them
    placed_first : IsPlaced coded_here x o n (behind_component o k)
    placed_first = placed_next 0 placed

    placed_in : IsPlaced coded_here x (InBrackets k) n k
    placed_in = record { within = tt; count = placed_first.count; component = refl }

    -- the brackets open
    brackets_state : brackets_opened p (reading x o wants outer nodes broken) ≡ reading x (InBrackets k) (inside (wanted_by wants)) tops coded_here (noted broken own)
    brackets_state = ap (λ (j : ℕ). reading x (InBrackets j) (inside (wanted_by wants)) tops coded_here (noted broken own)) placed.component

    -- where it stands behind all that is in them
    placed_second : IsPlaced (coded_here ++ laid) x o last (behind_component o k)
    placed_second =
        let size = grown_count g pool true x n k inner in
        let all : n + length laid ≡ last = omega (arith, size) in
        placed_more laid last all placed_first

    -- the nodes with those behind
    all_laid : nodes_after g pool (coded_here ++ laid) x o last (behind_component o k) behind ≡ nodes_after g pool nodes x o n k (Brackets p inner behind)
    all_laid =
        let tree = grown g pool (is_bracketed o) (behind_component o k) behind in
        let within = subst (λ (m : ℕ). IsWithin o x m) (sym placed_first.count) placed_first.within in
        ap (λ ys. ys ++ nodes_from x last tree) (coded_all_front coded_here laid x o (codes_of pool behind) within)
        ∙ append_assoc (coded_all coded_here x o (codes_of pool behind)) laid (nodes_from x last tree)
        ∙ ap (λ (m : ℕ). coded_all coded_here x o (codes_of pool behind) ++ (laid ++ nodes_from x (n + m) tree)) (sym (size_grown g pool true k inner))
        ∙ ap (λ ys. coded_all coded_here x o (codes_of pool behind) ++ ys) (sym (nodes_beside x n (grown g pool true k inner) tree))

    -- the brackets close, and what is behind them follows
    brackets_after : (us rest : List Lexed) → Reaches g pool behind us rest
        → run g pool us (closed (after g pool x (InBrackets k) (inside (wanted_by wants)) tops coded_here (noted broken own) n k inner))
        ≡ run g pool rest (after g pool x o wants outer nodes broken n k (Brackets p inner behind))
    brackets_after us rest reaches =
        let end = noted (noted (noted broken own) inner_broken) [] in
        ap (λ ys. run g pool us (reading x o (next_of wants) outer (ys ++ laid) end)) (coded_all_brackets coded_here x k (codes_of pool inner))
        ∙ ap (λ b. run g pool us (reading x o (next_of wants) outer (coded_here ++ laid) b)) (sooner_none (noted (noted broken own) inner_broken))
        ∙ reaches x o (next_of wants) outer (coded_here ++ laid) (noted (noted broken own) inner_broken) last (behind_component o k) placed_second
        ∙ ap (λ ys. run g pool rest (reading x o (over (next_of wants) behind) outer ys (noted (noted (noted broken own) inner_broken) later))) all_laid
        ∙ ap (λ b. run g pool rest (reading x o (over (next_of wants) behind) outer (nodes_after g pool nodes x o n k (Brackets p inner behind)) b))
        (noted_then (noted broken own) inner_broken later ∙ noted_then broken own (inner_broken ++ later))

  -- from `[` to what follows them
  pub brackets_reach : (b c : Lexed) (inner behind : Written) (ts us rest : List Lexed) → IsSign (codes "[") b → IsSign (codes "]") c
      → Reaches g pool inner ts (c ∷ us) → Reaches g pool behind us rest → Reaches g pool (Brackets b.place inner behind) (b ∷ ts) rest
  brackets_reach b c inner behind ts us rest opening closing first later x o wants outer nodes broken n k placed =
      let s = reading x o wants outer nodes broken in
      let tops = record { node = x; opened = o; wants = next_of wants } ∷ outer in
      let own = brackets_misplaced (wanted_by wants) b.place in
      run_sign g pool (codes "[") b ts s opening
      ∙ ap (run g pool ts) (brackets_state b.place inner behind x o wants outer nodes broken n k placed)
      ∙ first x (InBrackets k) (inside (wanted_by wants)) tops (coded_by nodes x o 0) (noted broken own) n k (placed_in b.place inner behind x o wants outer nodes broken n k placed)
      ∙ run_sign g pool (codes "]") c us (after g pool x (InBrackets k) (inside (wanted_by wants)) tops (coded_by nodes x o 0) (noted broken own) n k inner) closing
      ∙ brackets_after b.place inner behind x o wants outer nodes broken n k placed us rest later
