-- What the reader does, by what its parts answer.
use Rattle.std.proofs.Common.{◌≡◌, ◌+◌, ◌<◌, ℕ, List, [], ◌∷◌, ◌++◌, Bool, true, false, Option, Some, None, codes, drop, get_or, is_some, length, map, slice_get, unwrap_or, refl, sym, ap, ◌∙◌}
use Rattle.std.proofs.lemmas.List.{drop_more}
use Rattle.std.proofs.lemmas.Option.{get_or_from_slice_get, slice_get-get_or, slice_get-map}
use Rattle.std.specs.Option.{option_map}
use Rattle.broken_rules.specs.declared.broken.Broken.{Broken}
use Rattle.rag_io.specs.Decimal.{decimal}
use Rattle.rag_io.specs.declared.token.Place.{Place}
use Rattle.rag_io.specs.declared.token.Token as kept_token
use Rattle.rag_io.specs.Tokens.{Lexed, seen_token, seen_tokens}
use Rattle.ast_grammar.specs.declared.grammar.ClassId.{ClassId}
use Rattle.ast_grammar.specs.Grammar.{Class, class_named, number_of}
use Rattle.tree_arena.specs.Terms.{nodes_from, nodes_of}
use Rattle.tree_syntax.specs.Written.{IsNode, Written, Writes, Nothing, Node, Brackets, Valued, WritesInt, WritesTruth}
use Rattle.tree_reader.specs.Breaking.{name_broken, node_misplaced}
use Rattle.tree_reader.specs.Grown.{class_or_first, codes_of, grown, small_code, tree_written, truth_code}
use Rattle.token_texts.specs.Texts.{text_code}
use Rattle.tree_reader.specs.Laying.{IsLaid}
use Rattle.tree_reader.specs.Steps.{Arguments, Brackets as InBrackets, State, coded_by, component_by, int_added, is_sign_by, is_true, next_open, node_opened, noted, opens, run, seen_state, started, taken, value_added, word_taken}
use Rattle.tree_reader.specs.Wants.{Unknown, Wants, arguments_of, wanted_by}
use Rattle.tree_reader.specs.declared.laying.Laying.{Laying}
use Rattle.tree_reader.proofs.Coding.{coded_all_brackets}
use Rattle.tree_reader.proofs.Reaching.{reaches}
use Rattle.tree_reader.proofs.Running.{after}

-- a node begins, by its parts
abbrev pub opened_of : Place → State → Option ℕ → ℕ → ClassId → ℕ → List ℕ → Wants → Option Broken → State
opened_of p s class n first component codes wants broken = record {
  innermost = record { node = n; opened = Arguments class p; wants = wants };
  outer = next_open s.innermost ∷ s.outer;
  nodes = coded_by s.nodes s.innermost.node s.innermost.opened 0 ++ record { class = first; parent = s.innermost.node; component = component; tokens = codes } ∷ [];
  broken = broken;
  minus = s.minus;
}

-- a node of unknown class is laid as one of the first
pub class_or_zero : (class : Option ClassId) (zeroth first : ClassId) → zeroth.0 ≡ 0 → first ≡ unwrap_or class zeroth
    → first ≡ class_or_first (option_map number_of class)
class_or_zero None zeroth first z e = e ∙ ap (λ (n : ℕ). record { 0 = n }) z
class_or_zero (Some c) zeroth first z e = e

-- what counts once it is noted what its name and its place break
abbrev pub own_broken : List Class → Place → State → Option ℕ → ℕ → Option Broken
own_broken g p s class n = noted s.broken (name_broken g class n p ++ node_misplaced g (wanted_by s.innermost.wants) class p)

pub node_begins : (g : List Class) (name : List ℕ) (p : Place) (s : State) (class : Option ℕ) (n : ℕ) (first : ClassId) (component : ℕ)
    (codes : List ℕ) (wants : Wants) (broken : Option Broken) → class ≡ class_named g name → n ≡ length s.nodes → first ≡ class_or_first class
    → component ≡ component_by s.nodes s.innermost.node s.innermost.opened → codes ≡ []
    → wants ≡ arguments_of g class → broken ≡ own_broken g p s class n → opened_of p s class n first component codes wants broken ≡ node_opened g name p s
node_begins g name p s class n first component codes wants broken ec en ef ek et ew eb =
    let k = component_by s.nodes s.innermost.node s.innermost.opened in
    ap (λ (b : Option Broken). opened_of p s class n first component codes wants b) eb
    ∙ ap (λ (w : Wants). opened_of p s class n first component codes w (own_broken g p s class n)) ew
    ∙ ap (λ (cs : List ℕ). opened_of p s class n first component cs (arguments_of g class) (own_broken g p s class n)) et
    ∙ ap (λ (j : ℕ). opened_of p s class n first j [] (arguments_of g class) (own_broken g p s class n)) ek
    ∙ ap (λ (f : ClassId). opened_of p s class n f k [] (arguments_of g class) (own_broken g p s class n)) ef
    ∙ ap (λ (m : ℕ). opened_of p s class m (class_or_first class) k [] (arguments_of g class) (own_broken g p s class m)) en
    ∙ ap (λ (c : Option ℕ). opened_of p s c (length s.nodes) (class_or_first c) k [] (arguments_of g c) (own_broken g p s c (length s.nodes))) ec

-- a word without `(` behind it
pub word_added : (g : List Class) (opening : Bool) (text : List ℕ) (p : Place) (s new : State) (b : Bool) → opening ≡ false → b ≡ is_true text
    → new ≡ value_added (WritesTruth b) (truth_code b) p s → new ≡ word_taken g opening text p s
word_added g opening text p s new b closed e h = h ∙ ap (λ (t : Bool). value_added (WritesTruth t) (truth_code t) p s) e ∙ sym (ap (λ (o : Bool). word_taken g o text p s) closed)

-- digits, perhaps behind a `-`
pub int_is : (minus : Option Place) (digits : List ℕ) (p : Place) (s : State)
    → value_added (WritesInt (is_some minus) digits) (small_code (is_some minus) (decimal digits)) (unwrap_or minus p) s ≡ int_added minus digits p s
int_is None digits p s = refl
int_is (Some q) digits p s = refl

-- the next of some tokens is taken
module _ (tokens : List kept_token.Token) (i : ℕ) (d : kept_token.Token) where
  pub next_taken : (g : List Class) (pool : List (List ℕ)) (texts : List ℕ) (code : ℕ) (opening : Bool) (s new : State) → i < length tokens
      → opening ≡ opens (seen_tokens (drop (i + 1) tokens)) → code ≡ get_or texts i 0 → texts ≡ map (text_code pool) (seen_tokens tokens)
      → new ≡ taken g (get_or tokens i d).kind (get_or tokens i d).text.now (seen_token (get_or tokens i d)).place opening code s
      → run g pool (seen_tokens (drop (i + 1) tokens)) new ≡ run g pool (seen_tokens (drop i tokens)) s
  next_taken g pool texts code opening s new within eo ec et h =
      let t = get_or tokens i d in
      let here : slice_get tokens i ≡ Some t = slice_get-get_or tokens i d within in
      let found : slice_get texts i ≡ Some (text_code pool (seen_token t)) =
      ap (λ (ns : List ℕ). slice_get ns i) et ∙ slice_get-map (text_code pool) (seen_tokens tokens) i
      ∙ ap (option_map (text_code pool)) (slice_get-map seen_token tokens i ∙ ap (option_map seen_token) here) in
      let coded : code ≡ text_code pool (seen_token t) = ec ∙ get_or_from_slice_get texts i (text_code pool (seen_token t)) 0 found in
      let rest = seen_tokens (drop (i + 1) tokens) in
      let by = taken g t.kind t.text.now (seen_token t).place in
      ap (run g pool rest) (h ∙ ap (λ (o : Bool). by o code s) eo ∙ ap (λ (n : ℕ). by (opens rest) n s) coded)
      ∙ sym (ap (λ (us : List kept_token.Token). run g pool (seen_tokens us) s) (drop_more tokens i d within))

-- a whole tree
in_brackets : (g : List Class) (pool : List (List ℕ)) (w : Written) → IsNode w → grown g pool true 0 w ≡ tree_written g pool w
in_brackets g pool (Node name p arguments Nothing) h = refl
in_brackets g pool (Node name p arguments (Node a b c d)) h = absurd h
in_brackets g pool (Node name p arguments (Brackets a b c)) h = absurd h
in_brackets g pool (Node name p arguments (Valued a b c)) h = absurd h
in_brackets g pool Nothing h = absurd h
in_brackets g pool (Brackets p nodes behind) h = absurd h
in_brackets g pool (Valued leaf p behind) h = absurd h

pub laid_tree : (g : List Class) (pool : List (List ℕ)) (ts : List Lexed) (w : Written) (old : Option Broken) (laying : Laying) → Writes ts w
    → seen_state g laying ≡ run g pool ts (started old)
    → IsLaid g pool w old laying.broken laying.nodes.items
laid_tree g pool ts w old laying writes h =
    let closes : opens (writes.end ∷ []) ≡ false = ap (λ k. is_sign_by k writes.end.text (codes "(")) writes.ends in
    let last = after g pool 0 (InBrackets 0) Unknown [] [] old 0 0 w in
    let all : seen_state g laying ≡ last =
    h ∙ reaches g pool writes.spells closes 0 (InBrackets 0) Unknown [] [] old 0 0 (record { within = tt; count = refl; component = refl })
    ∙ ap (λ k. taken g k writes.end.text writes.end.place false (text_code pool writes.end) last) writes.ends in
    record {
      nodes_are =
          ap (λ (s : State). s.nodes) all ∙ ap (λ ys. ys ++ nodes_from 0 0 (grown g pool true 0 w)) (coded_all_brackets [] 0 0 (codes_of pool w))
          ∙ ap nodes_of (in_brackets g pool w writes.node);
      noted = record { is = ap (λ (s : State). s.broken) all };
    }
