-- What is kept of the declarations of inherited attributes, and what is noted of them.
use Rattle.std.proofs.Common.{◌≡◌, ℕ, ◌&&◌, Bool, true, false, cond, List, [], ◌∷◌, ◌++◌, Option, Some, None, is_some, refl, sym, ap, ◌∙◌, option_map, bytes_eq}
use Rattle.std.specs.Borrow.{Bor}
use Rattle.std.specs.HashMap.{HashMap, UpdatesBy}
use Rattle.std.specs.Option.{option_or}
use Rattle.std.proofs.lemmas.Cmp.{nat_list_eq_equiv}
use Rattle.std.proofs.lemmas.List.Folds.{find-append}
use Rattle.std.proofs.lemmas.Map.Text.{hash_map_updates_str}
use Rattle.std.proofs.lemmas.Slice.Eq.{bytes_eq-Decides}
use Rattle.attr_rules.specs.Rules.{is_inherited}
use Rattle.attr_rules.proofs.FirstPlaces.{map_or, or_none}
use Rattle.attr_scope.specs.declared.written.Head as kept_head
use Rattle.attr_heads.specs.FirstInherited.{TellsFirst, head_kept}
use Rattle.attr_heads.specs.Heads.{first_inherited}
use Rattle.attr_scope.specs.Seen.{seen_head}
use Rattle.attr_scope.specs.Written.{Head}

abbrev Heads : Type 0 → Type 0
Heads S = HashMap (Bor (List ℕ)) kept_head.Head S

-- an item that is added where none is
added : {X : Type 0} (b : Bool) (x : X) (o : Option X) → (b ≡ true → o ≡ None) → cond b (Some x) o ≡ option_or o (cond b (Some x) None)
added true x o free = sym (ap (λ p. option_or p (Some x)) (free refl))
added false x None free = refl
added false x (Some y) free = refl

none_kept : {X : Type 0} (o : Option X) → is_some o ≡ false → o ≡ None
none_kept None h = refl
none_kept (Some x) h = absurd cc

module _ {S : Type 0} where
  -- the declaration is kept for a name for which none is
  pub kept_more : (m n : Heads S) (name : List ℕ) (head : kept_head.Head) {b : Bool} → b ≡ is_some (head_kept m name) → b ≡ false → UpdatesBy (λ x y. bytes_eq x.now y.now) (λ k. bytes_eq name k.now) m n (Some head)
      → (q : List ℕ) → head_kept n q ≡ option_or (head_kept m q) (cond (bytes_eq q name) (Some head) None)
  kept_more m n name head {b} is free updates q =
      let fresh : head_kept m name ≡ None = none_kept (head_kept m name) (sym is ∙ free) in
      hash_map_updates_str name m n (Some head) updates q
      ∙ added (bytes_eq name q) head (head_kept m q) (λ e. ap (head_kept m) (sym ((bytes_eq-Decides name q).0 e)) ∙ fresh)
      ∙ ap (λ b. option_or (head_kept m q) (cond b (Some head) None)) (nat_list_eq_equiv.symm name q)

only : (b : Bool) (h : kept_head.Head) → option_map seen_head (cond b (Some h) None) ≡ cond b (Some (seen_head h)) None
only true h = refl
only false h = refl

module _ (before : List Head) (h : Head) where
  one_more : (q : List ℕ) → first_inherited (before ++ h ∷ []) q ≡ option_or (first_inherited before q) (cond (is_inherited h.sort && bytes_eq h.signature.name.text q) (Some h) None)
  one_more q = find-append (λ (x : Head). is_inherited x.sort && bytes_eq x.signature.name.text q) before (h ∷ [])

  -- one inherited attribute more
  pub first_more : {S : Type 0} {m n : Heads S} (head : kept_head.Head) {text : List ℕ} → is_inherited h.sort ≡ true → seen_head head ≡ h → text ≡ h.signature.name.text
      → ((q : List ℕ) → head_kept n q ≡ option_or (head_kept m q) (cond (bytes_eq q text) (Some head) None)) → TellsFirst before m → TellsFirst (before ++ h ∷ []) n
  first_more {S} {m} {n} head {text} inherited is spelled kept told = record {
    tells = λ q.
        let name = h.signature.name.text in
        ap (option_map seen_head) (kept q) ∙ map_or seen_head (head_kept m q) (cond (bytes_eq q text) (Some head) None)
        ∙ ap (option_or (option_map seen_head (head_kept m q))) (only (bytes_eq q text) head)
        ∙ ap (λ t. option_or (option_map seen_head (head_kept m q)) (cond (bytes_eq q t) (Some (seen_head head)) None)) spelled
        ∙ (λ i. option_or (told.tells q i) (cond (nat_list_eq_equiv.symm q name i) (Some (is i)) None))
        ∙ ap (λ b. option_or (first_inherited before q) (cond (b && bytes_eq name q) (Some h) None)) (sym inherited)
        ∙ sym (one_more q);
  }

  -- an attribute that isn't inherited
  pub first_same : {S : Type 0} {m : Heads S} → is_inherited h.sort ≡ false → TellsFirst before m → TellsFirst (before ++ h ∷ []) m
  first_same {S} {m} other told = record {
    tells = λ q.
        told.tells q ∙ sym (or_none (first_inherited before q)) ∙ ap (λ b. option_or (first_inherited before q) (cond (b && bytes_eq h.signature.name.text q) (Some h) None)) (sym other) ∙ sym (one_more q);
  }
