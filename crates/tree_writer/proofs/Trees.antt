-- The texts of the trees that hang at some components are read again to them.
use Rattle.std.proofs.Common.{◌≡◌, ℕ, suc, List, [], ◌∷◌, Bool, true, false, Some, length, slice_get, refl, sym, ap, subst, ◌∙◌, arith}
use Rattle.std.specs.Option.{option_map}
use Rattle.rag_io.specs.declared.token.Place.{Place}
use Rattle.ast_grammar.specs.declared.grammar.ClassId.{ClassId}
use Rattle.ast_grammar.specs.declared.grammar.Shape.{Shape}
use Rattle.ast_grammar.specs.declared.grammar.Shape.TheVariants as shapes
use Rattle.ast_grammar.specs.Grammar.{Class, Component, abstract_in, components_of}
use Rattle.tree_arena.specs.Terms.{Forest, Empty, Tree, Hangs, over, token, one, none, element, IsCode, MayHaveOne}
use Rattle.tree_syntax.specs.Written.{Written}
use Rattle.tree_reader.specs.Grown.{beside_each}
use Rattle.tree_reader.specs.Wants.{Components}
use Rattle.tree_writer.specs.Canonical.{Piece, argument_text, arguments_text, joined, pieces_of, texts_at}
use Rattle.tree_writer.proofs.Classes.{Suits, fit_found}
use Rattle.tree_writer.proofs.Components.{AreElements, no_elements, element_told, list_told, none_told, one_told, token_told}
use Rattle.tree_writer.proofs.Leaves.{leaf_of}
use Rattle.tree_writer.proofs.Meanings.{MeansAll, means_nothing}
use Rattle.tree_writer.proofs.Pieces.{Agrees, agrees_all, agrees_behind, agrees_later, agrees_then, node_text, nothing_before, text_here}
use Rattle.tree_writer.proofs.Told.{Told, told_as, told_none, told_some, mode_of, side, IsInner}

module _ (g : List Class) (pool : List (List ℕ)) where
  -- the arguments at these components are read as these trees and codes
  abbrev pub AreRead : List Component → ℕ → Forest → List ℕ → Type 0
  AreRead xs k trees tokens =
      (pieces : List Piece) → Agrees pieces (pieces_of g pool trees) k → (first : Bool) (p : Place)
      → Told pool (λ (w : Written). MeansAll g pool xs k w trees tokens) (mode_of first) p (side first (arguments_text pool pieces k xs tokens))

  -- At a list hang some elements, and at the components behind it the other trees.
  pub record IsList (x : Component) (xs : List Component) (k : ℕ) (trees : Forest) (tokens : List ℕ) : Type 0 where
    pub inner : Forest
    pub outer : Forest
    pub later : List ℕ
    pub trees_are : trees ≡ beside_each inner outer
    pub tokens_are : tokens ≡ 0 ∷ later
    pub agree : Agrees (pieces_of g pool trees) (pieces_of g pool outer) (suc k)
    pub nodes : (first : Bool) (p : Place)
        → Told pool (λ (w : Written). AreElements g pool x.class k w inner) (mode_of first) p (side first (texts_at k (pieces_of g pool trees)))
    pub rest : AreRead xs (suc k) outer later

  -- the same where there are components and the first is a list
  abbrev pub MayBeList : List Component → ℕ → Forest → List ℕ → Type 0
  MayBeList [] k trees tokens = Unit {0}
  MayBeList (x ∷ xs) k trees tokens = x.shape ≡ shapes.List → IsList x xs k trees tokens

  pub record IsHung (xs : List Component) (k : ℕ) (trees : Forest) (tokens : List ℕ) : Type 0 where
    pub arguments : AreRead xs k trees tokens
    pub elements : MayBeList xs k trees tokens

  -- a list and the arguments behind it
  of_list : (x : Component) (xs : List Component) (k : ℕ) (trees : Forest) (tokens : List ℕ) → x.shape ≡ shapes.List → IsList x xs k trees tokens
      → AreRead (x ∷ xs) k trees tokens
  of_list x xs k trees tokens is l pieces a first p =
      let here : List (List ℕ) = texts_at k pieces in
      let texts : List (List ℕ) = arguments_text pool pieces (suc k) xs l.later in
      subst (λ (s : Shape). Goal s trees tokens) (sym is) (subst (Goal shapes.List trees) (sym l.tokens_are)
      (subst (λ (f : Forest). Goal shapes.List f (0 ∷ l.later)) (sym l.trees_are)
      (told_some pool (argument_text pool shapes.List 0 here) texts
      (list_told g pool x.name x.number x.class xs k l.outer l.later texts (l.rest pieces (agrees_then (agrees_later a) l.agree) false) l.inner here
      (λ q. told_as (ap joined (a.same k (omega arith))) (l.nodes true q))) first p)))
    where
      Goal : Shape → Forest → List ℕ → Type 0
      Goal s f cs = Told pool (λ (w : Written). MeansAll g pool (record { name = x.name; number = x.number; shape = s; class = x.class } ∷ xs) k w f cs)
          (mode_of first) p
          (side first (arguments_text pool pieces k (record { name = x.name; number = x.number; shape = s; class = x.class } ∷ xs) cs))

  module _ (suits : Suits g pool) where
    -- the arguments of a node
    pub inner_of : (c : ClassId) (tokens : List ℕ) (below : Forest) → option_map abstract_in (slice_get g c.0) ≡ Some false → IsHung (components_of g c.0) 0 below tokens
        → IsInner g pool c tokens below
    inner_of c tokens below concrete h = record {
      found = fit_found g pool c suits concrete;
      told = h.arguments (pieces_of g pool below) (agrees_all (pieces_of g pool below) 0) true;
    }

    -- what hangs at some components is read again
    pub hung : {xs : List Component} {k : ℕ} {trees : Forest} {tokens : List ℕ} → Hangs g (length pool) xs k trees tokens → IsHung xs k trees tokens
    hung (over {k}) = record {
      arguments = λ pieces a. told_none pool (record { means = means_nothing g pool (Components []) false k; counted = refl; coded = refl });
      elements = tt;
    }
    hung (token {x} {xs} {k} {v} {trees} {codes = later} is behind) =
        let h = hung behind in
        record {
          arguments = λ pieces a.
              told_some pool (argument_text pool x.shape v (texts_at k pieces)) (arguments_text pool pieces (suc k) xs later)
              (token_told g pool x.name x.number x.class xs k trees later (arguments_text pool pieces (suc k) xs later)
              (h.arguments pieces (agrees_later a) false)
              x.shape v (texts_at k pieces) (leaf_of pool x.shape v suits.pooled suits.writable is));
          elements = λ list. absurd (subst (λ (s : Shape). IsCode (length pool) s v) list is);
        }
    hung (one {x} {xs} {k} {c} {tokens} {codes = later} {below} {beside} may fits inside behind) =
        let h = hung behind in
        let inner = inner_of c tokens below fits.concrete (hung inside) in
        let text : List ℕ = node_text g pool c tokens below in
        let alone : texts_at k (record { component = k; text = text } ∷ pieces_of g pool beside) ≡ text ∷ [] =
        text_here k text (pieces_of g pool beside) ∙ ap (λ (ts : List (List ℕ)). text ∷ ts) (nothing_before g pool behind k (omega arith)) in
        record {
          arguments = λ pieces a first p.
              let texts : List (List ℕ) = arguments_text pool pieces (suc k) xs later in
              told_as (ap (λ (ts : List (List ℕ)). side first (argument_text pool x.shape 0 ts ∷ texts)) (a.same k (omega arith) ∙ alone))
              (told_some pool (argument_text pool x.shape 0 (text ∷ [])) texts
              (one_told g pool x.name x.number x.class xs k beside later texts
              (h.arguments pieces (agrees_then (agrees_later a) (agrees_behind k text (pieces_of g pool beside))) false)
              c tokens below inner fits.below x.shape may) first p);
          elements = λ list. absurd (subst MayHaveOne list may);
        }
    hung (none {x} {xs} {k} {trees} {codes = later} may behind) =
        let h = hung behind in
        let nothing = nothing_before g pool behind k (omega arith) in
        record {
          arguments = λ pieces a first p.
              let texts : List (List ℕ) = arguments_text pool pieces (suc k) xs later in
              told_as (ap (λ (ts : List (List ℕ)). side first (argument_text pool x.shape 0 ts ∷ texts)) (a.same k (omega arith) ∙ nothing))
              (told_some pool (argument_text pool x.shape 0 []) texts
              (none_told g pool x.name x.number x.class xs k trees later texts (h.arguments pieces (agrees_later a) false) x.shape may) first p);
          elements = λ list. record {
            inner = Empty;
            outer = trees;
            later = later;
            trees_are = refl;
            tokens_are = refl;
            agree = agrees_all (pieces_of g pool trees) (suc k);
            nodes = λ first p. told_as (ap (side first) nothing) (told_none pool (no_elements g pool x.class k) first p);
            rest = h.arguments;
          };
        }
    hung (element {x} {xs} {k} {c} {tokens} {codes = later} {below} {beside} is fits inside behind) =
        let l = (hung behind).elements is in
        let inner = inner_of c tokens below fits.concrete (hung inside) in
        let text : List ℕ = node_text g pool c tokens below in
        let all : IsList x xs k (Tree c k tokens below beside) later = record {
          inner = Tree c k tokens below l.inner;
          outer = l.outer;
          later = l.later;
          trees_are = ap (Tree c k tokens below) l.trees_are;
          tokens_are = l.tokens_are;
          agree = agrees_then (agrees_behind k text (pieces_of g pool beside)) l.agree;
          nodes = λ first p.
              told_as (ap (side first) (text_here k text (pieces_of g pool beside)))
              (told_some pool text (texts_at k (pieces_of g pool beside))
              (element_told g pool x.name x.number x.class xs k c tokens below l.inner (texts_at k (pieces_of g pool beside)) inner fits.below
              (l.nodes false)) first p);
          rest = l.rest;
        } in
        record { arguments = of_list x xs k (Tree c k tokens below beside) later is all; elements = λ list. all }
