-- What is taken from the stack behind the last event: the end, and the part that all tokens say, which is of the sort that was asked for.
use Rattle.std.proofs.Common.{◌≡◌, ℕ, true, List, [], ◌∷◌, map, Option, Some, refl, sym, ap, subst, ◌∙◌}
use Rattle.std.specs.Prelude.{Result, Ok, Err, Vec}
use Rattle.std.specs.Option.{option_map}
use Rattle.std.specs.declared.alloc.Global.{Global}
use Rattle.rag_io.specs.Tokens.{Lexed}
use Rattle.rag_io.specs.declared.token.Token.{Token as KeptToken}
use Rattle.jrag_syntax.specs.declared.classes.Start.{Start}
use Rattle.jrag_syntax.specs.declared.classes.Start.TheVariants as starts
use Rattle.aspect_items.specs.declared.expression.Expr.{Expr as KeptExpr}
use Rattle.aspect_items.specs.declared.items.Item.{Item as KeptItem}
use Rattle.jrag_reader.specs.declared.parts.Unbuilt.{Unbuilt}
use Rattle.jrag_reader.specs.Answers.{HoldsPart}
use Rattle.aspect_items.specs.Expressions.{Expr, seen_expr}
use Rattle.jrag_reader.specs.Forms as sorts
use Rattle.jrag_reader.specs.Forms.{choice}
use Rattle.aspect_items.specs.Items.{Item, seen_item}
use Rattle.jrag_reader.specs.Parts.{Part, Token, Named, Quantifying, Formed, Items, expr_in, items_in, token_in, top}
use Rattle.jrag_reader.specs.Reading.{SaysExpr, SaysItems, SaysWhole, sort_of}
use Rattle.jrag_reader.specs.Stack.{Takes, seen_token_and_code}
use Rattle.jrag_reader.proofs.Fits.{fits}
use Rattle.jrag_reader.proofs.Shapes.{says_fits}

-- the parts of these sorts
record AreItems (p : Part) : Type 0 where
  items : List Item
  is : p ≡ Items items

are_items : (p : Part) → fits starts.File sorts.Aspects p ≡ true → AreItems p
are_items (Items is) fit = record { items = is; is = refl }
are_items p fit = absurd (cc)

record IsExpr (p : Part) : Type 0 where
  expr : Expr
  is : expr_in p ≡ Some expr

is_expr : (p : Part) → fits starts.Expression (sorts.Expression choice) p ≡ true → IsExpr p
is_expr (Named n) fit = record { expr = _; is = refl }
is_expr (Quantifying q n) fit = record { expr = _; is = refl }
is_expr (Formed e) fit = record { expr = e; is = refl }
is_expr p fit = absurd (cc)

module _ {start : Start} {pool : List (List ℕ)} {ts : List Lexed} {parts : List Part} (held : HoldsPart start pool ts parts) where
  held_fits : fits start (sort_of start) held.part ≡ true
  held_fits = let said = held.says.part in says_fits said.says

  -- the end lies on top of the part
  end_of : (answer : Result (KeptToken × ℕ) Unbuilt) (left : List Part)
      → Takes seen_token_and_code (top token_in (Token held.end held.code ∷ held.part ∷ [])) answer left → left ≡ held.part ∷ []
  end_of (Ok x) left takes = takes.1
  end_of (Err u) left takes = absurd takes

  pub end_taken : (answer : Result (KeptToken × ℕ) Unbuilt) (left : List Part) → Takes seen_token_and_code (top token_in parts) answer left
      → left ≡ held.part ∷ []
  end_taken answer left takes =
      end_of answer left (subst (λ (ps : List Part). Takes seen_token_and_code (top token_in ps) answer left) held.are takes)

module _ {pool : List (List ℕ)} {ts : List Lexed} {parts : List Part} (held : HoldsPart starts.File pool ts parts) {left : List Part}
    (alone : left ≡ held.part ∷ []) where
  items : AreItems held.part
  items = are_items held.part (held_fits held)

  on_top : top items_in left ≡ Some (items.items, [])
  on_top = ap (top items_in) alone ∙ ap (λ p. top items_in (p ∷ [])) items.is

  -- items are taken
  pub items_there : (u : Unbuilt) (later : List Part) → Takes (λ (v : Vec KeptItem Global). map seen_item v.items) (top items_in left) (Err u) later → ⊥
  items_there u later takes =
      subst (λ (o : Option (List Item × List Part)). Takes (λ (v : Vec KeptItem Global). map seen_item v.items) o (Err u) later) on_top takes

  -- and they are those that the tokens say
  pub items_taken : (kept : Vec KeptItem Global) (later : List Part)
      → Takes (λ (v : Vec KeptItem Global). map seen_item v.items) (top items_in left) (Ok kept) later → SaysItems pool ts (map seen_item kept.items)
  items_taken kept later takes =
      let taken = subst (λ (o : Option (List Item × List Part)). Takes (λ (v : Vec KeptItem Global). map seen_item v.items) o (Ok kept) later) on_top takes in
      subst (SaysWhole starts.File pool ts) (items.is ∙ ap Items (sym taken.0)) held.says

module _ {pool : List (List ℕ)} {ts : List Lexed} {parts : List Part} (held : HoldsPart starts.Expression pool ts parts) {left : List Part}
    (alone : left ≡ held.part ∷ []) where
  expression : IsExpr held.part
  expression = is_expr held.part (held_fits held)

  expr_on_top : top expr_in left ≡ Some (expression.expr, [])
  expr_on_top = ap (top expr_in) alone ∙ ap (option_map (λ e. (e, []))) expression.is

  -- an expression is taken
  pub expr_there : (u : Unbuilt) (later : List Part) → Takes seen_expr (top expr_in left) (Err u) later → ⊥
  expr_there u later takes = subst (λ (o : Option (Expr × List Part)). Takes seen_expr o (Err u) later) expr_on_top takes

  -- and it is the one that the tokens say
  pub expr_taken : (kept : KeptExpr) (later : List Part) → Takes seen_expr (top expr_in left) (Ok kept) later → SaysExpr pool ts (seen_expr kept)
  expr_taken kept later takes =
      let taken = subst (λ (o : Option (Expr × List Part)). Takes seen_expr o (Ok kept) later) expr_on_top takes in
      record { part = held.part; is = expression.is ∙ ap Some (sym taken.0); says = held.says }
