-- The events of a derivation, read one by one, build parts of the sorts that its symbols leave.
use Rattle.std.proofs.Common.{◌≡◌, ℕ, true, false, cond, ◌||◌, List, [], ◌∷◌, ◌++◌, append_assoc, append-nil, Some, None, reverse, refl, sym, ap}
use Rattle.std.proofs.Common.{subst, ◌∙◌}
use Rattle.std.proofs.lemmas.Bool.{eq-eqb}
use Rattle.ll_parser.specs.declared.symbols.Symbol.{Symbol}
use Rattle.ll_parser.specs.declared.symbols.Symbol.TheVariants.{Terminal, Nonterminal, Action}
use Rattle.ll_parser.specs.Grammar.{Production, nth, shift}
use Rattle.ll_parser.specs.Table.{member}
use Rattle.rag_io.specs.Tokens.{Lexed}
use Rattle.jrag_syntax.specs.Tokens.{token_class}
use Rattle.jrag_syntax.specs.declared.classes.Start.{Start}
use Rattle.jrag_reader.specs.Forms.{Sort, Form, forms, sign}
use Rattle.jrag_reader.specs.Making.{make}
use Rattle.jrag_reader.specs.Parts.{Part, Token}
use Rattle.jrag_reader.specs.Running.{Progress, run}
use Rattle.jrag_reader.specs.Saying.{one, made, also, SayAll, more}
use Rattle.token_texts.specs.Texts.{text_code}
use Rattle.jrag_reader.proofs.ByParts.{ByParts, by_none, by_token, by_act, by_rule}
use Rattle.jrag_reader.proofs.Makes.{makes}
use Rattle.jrag_reader.proofs.Shapes.{say_all_fit}
use Rattle.jrag_reader.proofs.Sorted.{replaced, marks, all_passed, then_passed, sorts_fit, forms_of}
use Rattle.jrag_reader.proofs.Stacks.{parted, single, Replaced, is_replaced, fits_at}
use Rattle.jrag_reader.proofs.Steps.{behind, go_on, go_far, token_step, mark_step, act_step}

module _ (start : Start) (texts : List (List ℕ)) (ts : List Lexed) where
  -- Where some tokens stand: behind others, with parts of some sorts on the stack that tokens before them say, and whatever lies below.
  pub record Standing (stack : List Sort) (us : List Lexed) : Type 0 where
    pub before : List Lexed
    pub rest : List Lexed
    pub are : ts ≡ before ++ (us ++ rest)
    pub old : List Lexed
    pub parts : List Part
    pub say : SayAll start texts stack old parts
    pub below : List Part

  abbrev pub progress : (stack : List Sort) (us : List Lexed) → Standing stack us → Progress
  progress stack us x = behind x.before (x.parts ++ x.below)

  -- Reading events goes past these tokens, and leaves parts that they and the old ones say.
  pub record Built (stack after : List Sort) (us : List Lexed) (es : List ℕ) (x : Standing stack us) : Type 0 where
    pub above : List Part
    pub runs : run start texts ts (progress stack us x) es ≡ Some (behind (x.before ++ us) (above ++ x.below))
    pub says : SayAll start texts after (x.old ++ us) above

  -- Wherever they stand, symbols build parts of the sorts that they leave.
  abbrev pub Builds : List Symbol → List Lexed → List ℕ → Type 0
  Builds s us es = (stack after : List Sort) → all_passed s stack ≡ Some after → (x : Standing stack us) → Built stack after us es x

  builds_none : Builds [] [] []
  builds_none stack after e x =
      let k : stack ≡ after = cc in
      record {
        above = x.parts;
        runs = ap (λ z. Some (behind z (x.parts ++ x.below))) (sym (append-nil x.before));
        says = subst (λ z. SayAll start texts z (x.old ++ []) x.parts) k (subst (λ z. SayAll start texts stack z x.parts) (sym (append-nil x.old)) x.say);
      }

  -- behind a token
  abbrev past_token : (c : ℕ) (stack : List Sort) (t : Lexed) (us : List Lexed) → token_class start t ≡ c → Standing stack (t ∷ us)
      → Standing (sign c ∷ stack) us
  past_token c stack t us k x =
      let i : member (token_class start t) (c ∷ []) ≡ true = subst (λ z. member z (c ∷ []) ≡ true) (sym k) (ap (λ b. b || false) (eq-eqb c c refl)) in
      record {
        before = x.before ++ t ∷ [];
        rest = x.rest;
        are = x.are ∙ sym (append_assoc x.before (t ∷ []) (us ++ x.rest));
        old = x.old ++ t ∷ [];
        parts = Token t (text_code texts t) ∷ x.parts;
        say = more x.say (one i);
        below = x.below;
      }

  builds_token : (c : ℕ) (s : List Symbol) (us : List Lexed) (es : List ℕ) (t : Lexed) → token_class start t ≡ c → Builds s us es
      → Builds (Terminal c ∷ s) (t ∷ us) (shift ∷ es)
  builds_token c s us es t k f stack after e x =
      let y = past_token c stack t us k x in
      let q = f (sign c ∷ stack) after e y in
      let h = token_step start texts ts x.before t (us ++ x.rest) (x.parts ++ x.below) x.are in
      record {
        above = q.above;
        runs = go_on start texts ts (progress stack (t ∷ us) x) (progress (sign c ∷ stack) us y) shift es h
            ∙ q.runs ∙ ap (λ z. Some (behind z (q.above ++ x.below))) (append_assoc x.before (t ∷ []) us);
        says = subst (λ z. SayAll start texts after z q.above) (append_assoc x.old (t ∷ []) us) q.says;
      }

  builds_mark : (a : ℕ) (s : List Symbol) (us : List Lexed) (es : List ℕ) → marks a ≡ true → Builds s us es
      → (stack after : List Sort) → all_passed s stack ≡ Some after → (x : Standing stack us) → Built stack after us (a ∷ es) x
  builds_mark a s us es m f stack after e x =
      let q = f stack after e x in
      let p : Progress = progress stack us x in
      record { above = q.above; runs = go_on start texts ts p p a es (mark_step start texts ts a m p) ∙ q.runs; says = q.says }

  -- behind an action that makes a part
  record Acted (a : ℕ) (stack between : List Sort) (us : List Lexed) (x : Standing stack us) : Type 0 where
    part : Part
    rest : List Part
    does : make start a (x.parts ++ x.below) ≡ Some (part ∷ (rest ++ x.below))
    say : SayAll start texts between x.old (part ∷ rest)

  acts : (a : ℕ) (stack between : List Sort) (us : List Lexed) → Replaced (forms a) stack between → (x : Standing stack us) → Acted a stack between us x
  acts a stack between us r x =
      let g : Form = r.made in
      let q = parted (reverse g.parts) stack r.rest r.takes x.say in
      let m = makes start a g r.among q.above (say_all_fit q.second) in
      let alone : make start a q.above ≡ Some (m.part ∷ []) = ap (λ z. make start a z) (sym (append-nil q.above)) ∙ m.is [] in
      let new : SayAll start texts (g.whole ∷ r.rest) (q.front ++ q.back) (m.part ∷ q.below) = more q.first (made a g r.among q.second alone) in
      let lie : x.parts ++ x.below ≡ q.above ++ (q.below ++ x.below) = ap (λ z. z ++ x.below) q.lie ∙ append_assoc q.above q.below x.below in
      record {
        part = m.part;
        rest = q.below;
        does = ap (λ z. make start a z) lie ∙ m.is (q.below ++ x.below);
        say = subst (λ z. SayAll start texts z x.old (m.part ∷ q.below)) (sym r.is)
            (subst (λ z. SayAll start texts (g.whole ∷ r.rest) z (m.part ∷ q.below)) (sym q.is) new);
      }

  builds_made : (a : ℕ) (s : List Symbol) (us : List Lexed) (es : List ℕ) → Builds s us es → (stack between after : List Sort)
      → Replaced (forms a) stack between → all_passed s between ≡ Some after → (x : Standing stack us) → Built stack after us (a ∷ es) x
  builds_made a s us es f stack between after r e x =
      let m = acts a stack between us r x in
      let y : Standing between us =
      record { before = x.before; rest = x.rest; are = x.are; old = x.old; parts = m.part ∷ m.rest; say = m.say; below = x.below } in
      let q = f between after e y in
      let p : Progress = progress stack us x in
      let h = act_step start texts ts a r.made r.among p (m.part ∷ (m.rest ++ x.below)) m.does in
      record { above = q.above; runs = go_on start texts ts p (progress between us y) a es h ∙ q.runs; says = q.says }

  -- an action that makes a part of those on top
  builds_form : (a : ℕ) (s : List Symbol) (us : List Lexed) (es : List ℕ) → Builds s us es → (stack after : List Sort)
      → then_passed (all_passed s) (replaced (forms a) stack) ≡ Some after → (x : Standing stack us) → Built stack after us (a ∷ es) x
  builds_form a s us es f stack after e x =
      elim (replaced (forms a) stack)
      as (λ o. replaced (forms a) stack ≡ o → then_passed (all_passed s) o ≡ Some after → Built stack after us (a ∷ es) x) [
        | None ↦ λ m k. absurd (cc)
        | (Some between) ↦ λ m k. builds_made a s us es f stack between after (is_replaced (forms a) stack between m) k x
      ] refl e

  builds_act : (a : ℕ) (s : List Symbol) (us : List Lexed) (es : List ℕ) → Builds s us es → Builds (Action a ∷ s) us (a ∷ es)
  builds_act a s us es f stack after e x =
      elim (marks a) as (λ b. marks a ≡ b → then_passed (all_passed s) (cond b (Some stack) (replaced (forms a) stack)) ≡ Some after
      → Built stack after us (a ∷ es) x) [
        | true ↦ λ m k. builds_mark a s us es m f stack after k x
        | false ↦ λ m k. builds_form a s us es f stack after k x
      ] refl e

  module _ (P : List Production) (fit : sorts_fit P ≡ true) where
    -- behind what a production derives
    record Whole (stack between : List Sort) (us vs : List Lexed) (fs : List ℕ) (x : Standing stack (us ++ vs)) : Type 0 where
      part : Part
      rest : List Part
      runs : run start texts ts (progress stack (us ++ vs) x) fs ≡ Some (behind (x.before ++ us) (part ∷ (rest ++ x.below)))
      say : SayAll start texts between (x.old ++ us) (part ∷ rest)

    wholes : (p n : ℕ) (r : Production) → nth P p ≡ Some r → r.of ≡ n → (us vs : List Lexed) (fs : List ℕ) → Builds r.body us fs
        → (stack between : List Sort) → Replaced (forms_of n) stack between → (x : Standing stack (us ++ vs)) → Whole stack between us vs fs x
    wholes p n r h k us vs fs f stack between o x =
        let g : Form = o.made in
        let q = parted (reverse g.parts) stack o.rest o.takes x.say in
        let y = fits_at P fit p n r h k g o.among in
        let t : ts ≡ x.before ++ (us ++ (vs ++ x.rest)) = x.are ∙ ap (λ z. x.before ++ z) (append_assoc us vs x.rest) in
        let inner : Standing (reverse g.parts) us =
        record { before = x.before; rest = vs ++ x.rest; are = t; old = q.back; parts = q.above; say = q.second; below = q.below ++ x.below } in
        let b = f (reverse g.parts) (y.sort ∷ []) y.passes inner in
        let w = single b.says in
        let new : SayAll start texts (g.whole ∷ o.rest) (q.front ++ (q.back ++ us)) (w.part ∷ q.below) = more q.first (also y.is w.says) in
        let words : q.front ++ (q.back ++ us) ≡ x.old ++ us = sym (append_assoc q.front q.back us) ∙ ap (λ z. z ++ us) (sym q.is) in
        let lie : x.parts ++ x.below ≡ q.above ++ (q.below ++ x.below) = ap (λ z. z ++ x.below) q.lie ∙ append_assoc q.above q.below x.below in
        record {
          part = w.part;
          rest = q.below;
          runs = ap (λ z. run start texts ts (behind x.before z) fs) lie ∙ b.runs ∙ ap (λ z. Some (behind (x.before ++ us) (z ++ (q.below ++ x.below)))) w.is;
          say = subst (λ z. SayAll start texts z (x.old ++ us) (w.part ∷ q.below)) (sym o.is)
              (subst (λ z. SayAll start texts (g.whole ∷ o.rest) z (w.part ∷ q.below)) words new);
        }

    -- what stands behind it
    abbrev past : (stack between : List Sort) (us vs : List Lexed) (fs : List ℕ) (x : Standing stack (us ++ vs))
        → Whole stack between us vs fs x → Standing between vs
    past stack between us vs fs x w = record {
      before = x.before ++ us;
      rest = x.rest;
      are = x.are ∙ ap (λ z. x.before ++ z) (append_assoc us vs x.rest) ∙ sym (append_assoc x.before us (vs ++ x.rest));
      old = x.old ++ us;
      parts = w.part ∷ w.rest;
      say = w.say;
      below = x.below;
    }

    builds_whole : (s : List Symbol) (us vs : List Lexed) (fs gs : List ℕ) → Builds s vs gs → (stack between after : List Sort)
        → all_passed s between ≡ Some after → (x : Standing stack (us ++ vs)) → Whole stack between us vs fs x → Built stack after (us ++ vs) (fs ++ gs) x
    builds_whole s us vs fs gs f stack between after e x w =
        let y = past stack between us vs fs x w in
        let q = f between after e y in
        record {
          above = q.above;
          runs = go_far start texts ts (progress stack (us ++ vs) x) (progress between vs y) fs gs w.runs
              ∙ q.runs ∙ ap (λ z. Some (behind z (q.above ++ x.below))) (append_assoc x.before us vs);
          says = subst (λ z. SayAll start texts after z q.above) (append_assoc x.old us vs) q.says;
        }

    builds_rule : (s : List Symbol) (us vs : List Lexed) (fs gs : List ℕ) (p n : ℕ) (r : Production) → nth P p ≡ Some r → r.of ≡ n
        → Builds r.body us fs → Builds s vs gs → Builds (Nonterminal n ∷ s) (us ++ vs) (fs ++ gs)
    builds_rule s us vs fs gs p n r h k f g stack after e x =
        elim (replaced (forms_of n) stack)
        as (λ o. replaced (forms_of n) stack ≡ o → then_passed (all_passed s) o ≡ Some after → Built stack after (us ++ vs) (fs ++ gs) x) [
          | None ↦ λ m l. absurd (cc)
          | (Some between) ↦ λ m l.
              builds_whole s us vs fs gs g stack between after l x (wholes p n r h k us vs fs f stack between (is_replaced (forms_of n) stack between m) x)
        ] refl e

    pub builds : {s : List Symbol} {us : List Lexed} {es : List ℕ} → ByParts (token_class start) P s us es → Builds s us es
    builds by_none = builds_none
    builds (by_token {c = c} {s = s} {ts = us} {es = es} t k d) = builds_token c s us es t k (builds d)
    builds (by_act {a = a} {s = s} {ts = us} {es = es} d) = builds_act a s us es (builds d)
    builds (by_rule {n = n} {s = s} {us = us} {vs = vs} {ts = ws} {fs = fs} {gs = gs} {es = es} p r h k b d t u) =
        let f : Builds (Nonterminal n ∷ s) (us ++ vs) (fs ++ gs) = builds_rule s us vs fs gs p n r h k (builds b) (builds d) in
        subst (λ z. Builds (Nonterminal n ∷ s) z es) (sym t) (subst (λ z. Builds (Nonterminal n ∷ s) (us ++ vs) z) (sym u) f)
