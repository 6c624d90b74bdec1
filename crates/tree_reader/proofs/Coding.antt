-- The codes of the nodes that were laid so far.
use Rattle.std.proofs.Common.{◌≡◌, ◌+◌, ◌<◌, ◌≤◌, ℕ, zero, suc, List, [], ◌∷◌, ◌++◌, Bool, true, false, if◌then◌else◌, Option, length, get_or, map, refl, sym, ap, subst, ◌∙◌, append_assoc, arith}
use Rattle.std.proofs.Math.ListN.{set}
use Rattle.std.proofs.lemmas.List.{append-nil, length-append}
use Rattle.rag_io.specs.declared.token.Place.{Place}
use Rattle.tree_arena.specs.Nodes.{Node, tokens_at}
use Rattle.tree_reader.specs.Laying.{seen_laid}
use Rattle.tree_reader.specs.Steps.{Opened, Arguments, Brackets, coded, coded_by, component_by}
use Rattle.tree_arena.specs.declared.tree.FirstNode.{FirstNode}

-- a node with further codes
abbrev pub with_codes : Node → List ℕ → Node
with_codes x codes = record { class = x.class; parent = x.parent; component = x.component; tokens = x.tokens ++ codes }

-- A code of a node in memory is one of the node as it is seen.
pub coded_set : (xs : List FirstNode) (n : ℕ) (x y : FirstNode) (code : ℕ) → n < length xs → x ≡ get_or xs n x
    → y.class ≡ x.class → y.parent ≡ x.parent → y.component ≡ x.component → y.tokens ≡ x.tokens ++ code ∷ []
    → map seen_laid (set xs n y) ≡ coded (map seen_laid xs) n code
coded_set [] n x y code h e c p k t = absurd (omega arith)
coded_set (z ∷ xs) zero x y code h e c p k t =
    let is : x ≡ z = e in
    let seen : seen_laid y ≡ with_codes (seen_laid x) (code ∷ []) = cc in
    ap (λ (m : Node). m ∷ map seen_laid xs) seen ∙ ap (λ (m : FirstNode). with_codes (seen_laid m) (code ∷ []) ∷ map seen_laid xs) is
coded_set (z ∷ xs) (suc n) x y code h e c p k t = ap (λ ys. seen_laid z ∷ ys) (coded_set xs n x y code (omega arith) e c p k t)

-- a node that there isn't gets no code, and has none
pub coded_past : (nodes : List Node) (n code : ℕ) → length nodes ≤ n → nodes ≡ coded nodes n code
coded_past [] n code h = refl
coded_past (x ∷ nodes) zero code h = absurd (omega arith)
coded_past (x ∷ nodes) (suc n) code h = ap (λ ys. x ∷ ys) (coded_past nodes n code (omega arith))

-- the codes of a node in memory
pub tokens_found : (xs : List FirstNode) (n : ℕ) (x : FirstNode) → n < length xs → x ≡ get_or xs n x → x.tokens ≡ tokens_at (map seen_laid xs) n
tokens_found [] n x h e = absurd (omega arith)
tokens_found (z ∷ xs) zero x h e = ap (λ (m : FirstNode). m.tokens) e
tokens_found (z ∷ xs) (suc n) x h e = tokens_found xs n x (omega arith) e

pub tokens_past : (nodes : List Node) (n : ℕ) → length nodes ≤ n → tokens_at nodes n ≡ []
tokens_past [] n h = refl
tokens_past (x ∷ nodes) zero h = absurd (omega arith)
tokens_past (x ∷ nodes) (suc n) h = tokens_past nodes n (omega arith)

-- one more code: as many nodes, and one more of the node's own
coded_length : (nodes : List Node) (n code : ℕ) → length (coded nodes n code) ≡ length nodes
coded_length [] n code = refl
coded_length (x ∷ nodes) zero code = refl
coded_length (x ∷ nodes) (suc n) code = ap suc (coded_length nodes n code)

coded_tokens : (nodes : List Node) (n code : ℕ) → n < length nodes → length (tokens_at (coded nodes n code) n) ≡ suc (length (tokens_at nodes n))
coded_tokens [] n code h = absurd (omega arith)
coded_tokens (x ∷ nodes) zero code h = let more = length-append x.tokens (code ∷ []) in omega (arith, more)
coded_tokens (x ∷ nodes) (suc n) code h = coded_tokens nodes n code (omega arith)

-- the nodes that were laid before
coded_front : (nodes more : List Node) (n code : ℕ) → n < length nodes → coded (nodes ++ more) n code ≡ coded nodes n code ++ more
coded_front [] more n code h = absurd (omega arith)
coded_front (x ∷ nodes) more zero code h = refl
coded_front (x ∷ nodes) more (suc n) code h = ap (λ ys. x ∷ ys) (coded_front nodes more n code (omega arith))

tokens_front : (nodes more : List Node) (n : ℕ) → n < length nodes → tokens_at (nodes ++ more) n ≡ tokens_at nodes n
tokens_front [] more n h = absurd (omega arith)
tokens_front (x ∷ nodes) more zero h = refl
tokens_front (x ∷ nodes) more (suc n) h = tokens_front nodes more n (omega arith)

-- the last node
coded_last : (nodes : List Node) (x : Node) (code : ℕ)
    → coded (nodes ++ x ∷ []) (length nodes) code ≡ nodes ++ record { class = x.class; parent = x.parent; component = x.component; tokens = x.tokens ++ code ∷ [] } ∷ []
coded_last [] x code = refl
coded_last (y ∷ nodes) x code = ap (λ ys. y ∷ ys) (coded_last nodes x code)

-- brackets are open
abbrev pub is_bracketed : Opened → Bool
is_bracketed (Arguments class p) = false
is_bracketed (Brackets k) = true

-- the component behind one
abbrev pub behind_component : Opened → ℕ → ℕ
behind_component o k = if is_bracketed o then k else suc k

-- where brackets are open, no code goes to a node
abbrev pub IsWithin : Opened → ℕ → ℕ → Type 0
IsWithin (Arguments class p) x n = x < n
IsWithin (Brackets k) x n = Unit {0}

-- So many nodes were laid, and the next argument stands at this component.
pub record IsPlaced (nodes : List Node) (x : ℕ) (o : Opened) (n k : ℕ) : Type 0 where
  pub within : IsWithin o x n
  pub count : length nodes ≡ n
  pub component : component_by nodes x o ≡ k

-- behind one argument
pub placed_next : {nodes : List Node} {x : ℕ} {o : Opened} {n k : ℕ} (code : ℕ) → IsPlaced nodes x o n k → IsPlaced (coded_by nodes x o code) x o n (behind_component o k)
placed_next {nodes = nodes} {x = x} {o = Arguments class p} {n = n} {k = k} code h =
    let count = h.count in
    let within : x < n = h.within in
    let inside : x < length nodes = omega arith in
    record { within = within; count = coded_length nodes x code ∙ count; component = coded_tokens nodes x code inside ∙ ap suc h.component }
placed_next {o = Brackets j} code h = h

-- behind further nodes
pub placed_more : {nodes : List Node} {x : ℕ} {o : Opened} {n k : ℕ} (more : List Node) (m : ℕ) → n + length more ≡ m → IsPlaced nodes x o n k
    → IsPlaced (nodes ++ more) x o m k
placed_more {nodes = nodes} {x = x} {o = Arguments class p} {n = n} {k = k} more m e h =
    let count = h.count in
    let within : x < n = h.within in
    let inside : x < length nodes = omega arith in
    let all = length-append nodes more in
    record { within = omega arith; count = omega (arith, all, e, count); component = ap length (tokens_front nodes more x inside) ∙ h.component }
placed_more {nodes = nodes} {o = Brackets j} more m e h =
    let count = h.count in
    let all = length-append nodes more in
    record { within = tt; count = omega (arith, all, e, count); component = h.component }

last_tokens : (nodes : List Node) (x : Node) → tokens_at (nodes ++ x ∷ []) (length nodes) ≡ x.tokens
last_tokens [] x = refl
last_tokens (y ∷ nodes) x = last_tokens nodes x

-- in the arguments of a new node
pub placed_last : (nodes : List Node) {n : ℕ} (x : Node) (class : Option ℕ) (p : Place) → length nodes ≡ n → x.tokens ≡ []
    → IsPlaced (nodes ++ x ∷ []) n (Arguments class p) (suc n) 0
placed_last nodes {n = n} x class p e none =
    let all = length-append nodes (x ∷ []) in
    record {
      within = omega arith;
      count = omega (arith, all, e);
      component = ap (λ (m : ℕ). length (tokens_at (nodes ++ x ∷ []) m)) (sym e) ∙ ap length (last_tokens nodes x ∙ none);
    }

-- some codes
abbrev pub coded_all : List Node → ℕ → Opened → List ℕ → List Node
coded_all nodes x o [] = nodes
coded_all nodes x o (code ∷ codes) = coded_all (coded_by nodes x o code) x o codes

by_length : (nodes : List Node) (x : ℕ) (o : Opened) (code : ℕ) → length (coded_by nodes x o code) ≡ length nodes
by_length nodes x (Arguments class p) code = coded_length nodes x code
by_length nodes x (Brackets k) code = refl

by_front : (nodes more : List Node) (x : ℕ) (o : Opened) (code : ℕ) → IsWithin o x (length nodes) → coded_by (nodes ++ more) x o code ≡ coded_by nodes x o code ++ more
by_front nodes more x (Arguments class p) code h = coded_front nodes more x code h
by_front nodes more x (Brackets k) code h = refl

-- the codes go to a node that was laid before
pub coded_all_front : (nodes more : List Node) (x : ℕ) (o : Opened) (codes : List ℕ) → IsWithin o x (length nodes)
    → coded_all (nodes ++ more) x o codes ≡ coded_all nodes x o codes ++ more
coded_all_front nodes more x o [] h = refl
coded_all_front nodes more x o (code ∷ codes) h =
    ap (λ ys. coded_all ys x o codes) (by_front nodes more x o code h)
    ∙ coded_all_front (coded_by nodes x o code) more x o codes (subst (λ (m : ℕ). IsWithin o x m) (sym (by_length nodes x o code)) h)

-- in brackets there are none
pub coded_all_brackets : (nodes : List Node) (x k : ℕ) (codes : List ℕ) → coded_all nodes x (Brackets k) codes ≡ nodes
coded_all_brackets nodes x k [] = refl
coded_all_brackets nodes x k (code ∷ codes) = coded_all_brackets nodes x k codes

-- the codes of the last node
pub coded_all_last : (nodes : List Node) (x : Node) (class : Option ℕ) (p : Place) (codes : List ℕ)
    → coded_all (nodes ++ x ∷ []) (length nodes) (Arguments class p) codes ≡ nodes ++ with_codes x codes ∷ []
coded_all_last nodes x class p [] =
    ap (λ (ts : List ℕ). nodes ++ record { class = x.class; parent = x.parent; component = x.component; tokens = ts } ∷ []) (sym (append-nil x.tokens))
coded_all_last nodes x class p (code ∷ codes) =
    ap (λ ys. coded_all ys (length nodes) (Arguments class p) codes) (coded_last nodes x code)
    ∙ coded_all_last nodes (with_codes x (code ∷ [])) class p codes
    ∙ ap (λ (ts : List ℕ). nodes ++ record { class = x.class; parent = x.parent; component = x.component; tokens = ts } ∷ []) (append_assoc x.tokens (code ∷ []) codes)
