-- Reading the events of a sentence ends behind the last token, with one part on the stack that the tokens before it say.
use Rattle.std.proofs.Common.{◌≡◌, ℕ, List, [], ◌∷◌, ◌++◌, Some, length, refl, sym, ap, ◌∙◌}
use Rattle.ll_parser.specs.declared.symbols.Symbol.TheVariants.{Terminal, Nonterminal}
use Rattle.ll_parser.specs.Grammar.{Derives, shift, start as start_symbols}
use Rattle.rag_io.specs.Tokens.{Lexed}
use Rattle.jrag_syntax.specs.JragGrammar.{jrag_grammar}
use Rattle.jrag_syntax.specs.Reading.{nonterminal_of, classes_of}
use Rattle.jrag_syntax.specs.Tokens.{token_class}
use Rattle.jrag_syntax.specs.declared.classes.Start.{Start}
use Rattle.jrag_syntax.specs.declared.classes.Start.TheVariants.{File, Expression}
use Rattle.jrag_reader.specs.Parts.{Part, Token}
use Rattle.jrag_reader.specs.Reading.{SaysPart, sort_of}
use Rattle.jrag_reader.specs.Running.{run, nothing}
use Rattle.jrag_reader.specs.Saying.{none}
use Rattle.token_texts.specs.Texts.{text_code}
use Rattle.jrag_reader.proofs.PartsBuilt.{Standing, builds}
use Rattle.jrag_reader.proofs.ByParts.{ByParts, by_none, by_token, by_parts, divided}
use Rattle.jrag_reader.proofs.Sorted.{all_passed, sorted}
use Rattle.jrag_reader.proofs.Stacks.{single}
use Rattle.jrag_reader.proofs.Steps.{behind, go_on, go_far, token_step}

pub record Reached (start : Start) (texts : List (List ℕ)) (ts : List Lexed) (es : List ℕ) : Type 0 where
  pub part : Part
  pub end : Lexed
  pub runs : run start texts ts nothing es ≡ Some (record { at = length ts; parts = Token end (text_code texts end) ∷ part ∷ [] })
  pub says : SaysPart start texts ts part

-- a nonterminal, and the end behind it
record Closed (start : Start) (n : ℕ) (ts : List Lexed) (es : List ℕ) : Type 0 where
  front : List Lexed
  end : Lexed
  said : List ℕ
  are : ts ≡ front ++ end ∷ []
  is : es ≡ said ++ shift ∷ []
  ends : token_class start end ≡ 0
  first : ByParts (token_class start) jrag_grammar (Nonterminal n ∷ []) front said

-- the last token alone
record Last (start : Start) (back : List Lexed) (later : List ℕ) : Type 0 where
  end : Lexed
  is : back ≡ end ∷ []
  says : later ≡ shift ∷ []
  ends : token_class start end ≡ 0

last : (start : Start) {back : List Lexed} {later : List ℕ} → ByParts (token_class start) jrag_grammar (Terminal 0 ∷ []) back later → Last start back later
last start (by_token t e by_none) = record { end = t; is = refl; says = refl; ends = e }

closed : (start : Start) (n : ℕ) (ts : List Lexed) (es : List ℕ) → Derives jrag_grammar (start_symbols n) (classes_of start ts) es → Closed start n ts es
closed start n ts es d =
    let q = divided (Nonterminal n ∷ []) (Terminal 0 ∷ []) (by_parts d ts refl) in
    let l = last start q.second in
    record {
      front = q.front;
      end = l.end;
      said = q.said;
      are = q.is ∙ ap (λ z. q.front ++ z) l.is;
      is = q.says ∙ ap (λ z. q.said ++ z) l.says;
      ends = l.ends;
      first = q.first;
    }

start_passed : (start : Start) → all_passed (Nonterminal (nonterminal_of start) ∷ []) [] ≡ Some (sort_of start ∷ [])
start_passed File = refl
start_passed Expression = refl

pub reached : (start : Start) (texts : List (List ℕ)) (ts : List Lexed) (es : List ℕ)
    → Derives jrag_grammar (start_symbols (nonterminal_of start)) (classes_of start ts) es → Reached start texts ts es
reached start texts ts es d =
    let c = closed start (nonterminal_of start) ts es d in
    let x : Standing start texts ts [] c.front = record { before = []; rest = c.end ∷ []; are = c.are; old = []; parts = []; say = none; below = [] } in
    let b = builds start texts ts jrag_grammar sorted c.first [] (sort_of start ∷ []) (start_passed start) x in
    let w = single b.says in
    let whole : run start texts ts nothing c.said ≡ Some (behind c.front (w.part ∷ [])) = b.runs ∙ ap (λ z. Some (behind c.front (z ++ []))) w.is in
    let step = token_step start texts ts c.front c.end [] (w.part ∷ []) c.are in
    let top : Part = Token c.end (text_code texts c.end) in
    record {
      part = w.part;
      end = c.end;
      runs = ap (λ z. run start texts ts nothing z) c.is
          ∙ go_far start texts ts nothing (behind c.front (w.part ∷ [])) c.said (shift ∷ []) whole
          ∙ go_on start texts ts (behind c.front (w.part ∷ [])) (behind (c.front ++ c.end ∷ []) (top ∷ w.part ∷ [])) shift [] step
          ∙ ap (λ z. Some (behind z (top ∷ w.part ∷ []))) (sym c.are);
      says = record { front = c.front; end = c.end; are = c.are; ends = c.ends; says = w.says };
    }
