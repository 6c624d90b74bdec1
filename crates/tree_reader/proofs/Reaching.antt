-- What running over the tokens of all arguments comes to.
use Rattle.std.proofs.Common.{◌≡◌, ℕ, List, [], ◌∷◌, ◌++◌, Bool, true, false, Option, Some, None, codes, refl, sym, ap, ◌∙◌}
use Rattle.std.proofs.lemmas.List.{append-nil}
use Rattle.broken_rules.proofs.Order.{sooner_none}
use Rattle.rag_io.specs.declared.token.Place.{Place}
use Rattle.rag_io.specs.declared.token.TokenKind.TheVariants as kinds
use Rattle.rag_io.specs.Tokens.{Lexed}
use Rattle.ast_grammar.specs.Grammar.{Class}
use Rattle.tree_syntax.specs.Written.{Leaf, WritesText, WritesInt, WritesTruth, Written, Nothing, Valued, Mode, Start, Argument, Behind, IsSign, truth_word, Spells, none, some, over as spells_over, comma, node, brackets, text, int, negative, truth}
use Rattle.tree_reader.specs.Breaking.{arguments_broken, value_misplaced}
use Rattle.tree_reader.specs.Grown.{code_of, truth_code}
use Rattle.tree_reader.specs.Steps.{State, coded_by, int_added, is_true, noted, opens, run, value_added, with_minus}
use Rattle.tree_reader.specs.Wants.{next_of, wanted_by}
use Rattle.tree_reader.proofs.Coding.{behind_component, placed_next}
use Rattle.tree_reader.proofs.Wanting.{over}
use Rattle.tree_reader.proofs.Running.{Reaches, is_true_word, nodes_after, noted_then, reading, run_kind, run_sign, run_word, sign_opens}
use Rattle.tree_reader.proofs.NodeReaching.{node_reaches}
use Rattle.tree_reader.proofs.BracketsReaching.{brackets_reach}

-- no `(` stands behind an argument
behind_opens : {m : Mode} {w : Written} {ts rest : List Lexed} → m ≡ Behind → Spells m w ts rest → opens rest ≡ false → opens ts ≡ false
behind_opens e spells_over h = h
behind_opens e (comma {t = t} {ts = ts} sign s) h = sign_opens (codes ",") t ts sign
behind_opens e none h = h
behind_opens e (some s) h = let f : Start ≡ Behind = e in cc
behind_opens e (node a b c d f) h = let k : Argument ≡ Behind = e in cc
behind_opens e (brackets a b c d f) h = let k : Argument ≡ Behind = e in cc
behind_opens e (text a b) h = let k : Argument ≡ Behind = e in cc
behind_opens e (int a b) h = let k : Argument ≡ Behind = e in cc
behind_opens e (negative a b c) h = let k : Argument ≡ Behind = e in cc
behind_opens e (truth a b c) h = let k : Argument ≡ Behind = e in cc

module _ (g : List Class) (pool : List (List ℕ)) where
  -- no argument
  nothing_reaches : (rest : List Lexed) → Reaches g pool Nothing rest rest
  nothing_reaches rest x o wants outer nodes broken n k placed =
      ap (λ ys. run g pool rest (reading x o wants outer ys broken)) (sym (append-nil nodes))
      ∙ ap (λ b. run g pool rest (reading x o wants outer (nodes ++ []) b)) (sym (sooner_none broken))

  -- a value, and what is behind it
  value_reaches : (leaf : Leaf) (p : Place) (behind : Written) (us ts rest : List Lexed)
      → ((s : State) → s.minus ≡ None → run g pool us s ≡ run g pool ts (value_added leaf (code_of pool leaf) p s))
      → Reaches g pool behind ts rest → Reaches g pool (Valued leaf p behind) us rest
  value_reaches leaf p behind us ts rest step later x o wants outer nodes broken n k placed =
      let own = value_misplaced (wanted_by wants) leaf p in
      step (reading x o wants outer nodes broken) refl
      ∙ later x o (next_of wants) outer (coded_by nodes x o (code_of pool leaf)) (noted broken own) n (behind_component o k) (placed_next (code_of pool leaf) placed)
      ∙ ap (λ b. run g pool rest (reading x o (over (next_of wants) behind) outer (nodes_after g pool nodes x o n k (Valued leaf p behind)) b))
      (noted_then broken own (arguments_broken g (next_of wants) n behind))

  -- the values
  run_text : (t : Lexed) (ts : List Lexed) → t.kind ≡ kinds.Text → (s : State) → s.minus ≡ None
      → run g pool (t ∷ ts) s ≡ run g pool ts (value_added (WritesText t.text) (code_of pool (WritesText t.text)) t.place s)
  run_text t ts h s clear = run_kind g pool kinds.Text t ts s h

  run_int : (t : Lexed) (ts : List Lexed) → t.kind ≡ kinds.Int → (s : State) → s.minus ≡ None
      → run g pool (t ∷ ts) s ≡ run g pool ts (value_added (WritesInt false t.text) (code_of pool (WritesInt false t.text)) t.place s)
  run_int t ts h s clear =
      run_kind g pool kinds.Int t ts s h
      ∙ ap (λ (m : Option Place). run g pool ts (int_added m t.text t.place (with_minus None s))) clear
      ∙ ap (λ (m : Option Place). run g pool ts (int_added None t.text t.place (with_minus m s))) (sym clear)

  run_negative : (u t : Lexed) (ts : List Lexed) → IsSign (codes "-") u → t.kind ≡ kinds.Int → (s : State) → s.minus ≡ None
      → run g pool (u ∷ t ∷ ts) s ≡ run g pool ts (value_added (WritesInt true t.text) (code_of pool (WritesInt true t.text)) u.place s)
  run_negative u t ts sign h s clear =
      run_sign g pool (codes "-") u (t ∷ ts) s sign
      ∙ run_kind g pool kinds.Int t ts (with_minus (Some u.place) s) h
      ∙ ap (λ (m : Option Place). run g pool ts (value_added (WritesInt true t.text) (code_of pool (WritesInt true t.text)) u.place (with_minus m s))) (sym clear)

  run_truth : (b : Bool) (t : Lexed) (ts : List Lexed) → t.kind ≡ kinds.Name → t.text ≡ truth_word b → opens ts ≡ false → (s : State) → s.minus ≡ None
      → run g pool (t ∷ ts) s ≡ run g pool ts (value_added (WritesTruth b) (code_of pool (WritesTruth b)) t.place s)
  run_truth b t ts h e f s clear =
      run_word g pool false t ts s h f ∙ ap (λ (c : Bool). run g pool ts (value_added (WritesTruth c) (truth_code c) t.place s)) (ap is_true e ∙ is_true_word b)

  -- The tokens of some arguments lead to what they come to.
  pub reaches : {m : Mode} {w : Written} {ts rest : List Lexed} → Spells m w ts rest → opens rest ≡ false → Reaches g pool w ts rest
  reaches {rest = rest} none e = nothing_reaches rest
  reaches (some s) e = reaches s e
  reaches {rest = rest} spells_over e = nothing_reaches rest
  reaches (comma {t = t} {ts = ts} sign s) e = λ x o wants outer nodes broken n k placed.
      run_sign g pool (codes ",") t ts (reading x o wants outer nodes broken) sign ∙ reaches s e x o wants outer nodes broken n k placed
  reaches {rest = rest} (node {t = t} {o = o} {c = c} {arguments = arguments} {behind = behind} {ts = ts} {us = us} name opening first closing later) e =
      node_reaches g pool t o c arguments behind ts us rest name opening closing (reaches first (sign_opens (codes ")") c us closing)) (reaches later e)
  reaches {rest = rest} (brackets {o = o} {c = c} {nodes = inner} {behind = behind} {ts = ts} {us = us} opening alone first closing later) e =
      brackets_reach g pool o c inner behind ts us rest opening closing (reaches first (sign_opens (codes "]") c us closing)) (reaches later e)
  reaches {rest = rest} (text {t = t} {behind = behind} {ts = ts} h later) e = value_reaches (WritesText t.text) t.place behind (t ∷ ts) ts rest (run_text t ts h) (reaches later e)
  reaches {rest = rest} (int {t = t} {behind = behind} {ts = ts} h later) e = value_reaches (WritesInt false t.text) t.place behind (t ∷ ts) ts rest (run_int t ts h) (reaches later e)
  reaches {rest = rest} (negative {s = s} {t = t} {behind = behind} {ts = ts} sign h later) e =
      value_reaches (WritesInt true t.text) s.place behind (s ∷ t ∷ ts) ts rest (run_negative s t ts sign h) (reaches later e)
  reaches {rest = rest} (truth {t = t} {b = b} {behind = behind} {ts = ts} h word later) e =
      value_reaches (WritesTruth b) t.place behind (t ∷ ts) ts rest (run_truth b t ts h word (behind_opens refl later e)) (reaches later e)
