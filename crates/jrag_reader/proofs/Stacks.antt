-- What lies on a stack of parts, by their sorts.
use Rattle.std.proofs.Common.{◌≡◌, ℕ, zero, suc, true, false, cond, List, [], ◌∷◌, ◌++◌, append_assoc, append-nil, Some, None, reverse, refl, sym, ap}
use Rattle.std.proofs.Common.{subst, ◌∙◌}
use Rattle.std.proofs.lemmas.Bool.{and_parts}
use Rattle.ll_parser.specs.declared.symbols.Symbol.{Symbol}
use Rattle.ll_parser.specs.Grammar.{Production, nth}
use Rattle.rag_io.specs.Tokens.{Lexed}
use Rattle.jrag_syntax.specs.declared.classes.Start.{Start}
use Rattle.jrag_reader.specs.Forms.{Sort, Form, is_also}
use Rattle.jrag_reader.specs.Parts.{Part}
use Rattle.jrag_reader.specs.Saying.{IsAmong, here, there, Says, also, SayAll, none, more}
use Rattle.jrag_reader.proofs.Sorted.{taken, put, replaced, all_passed, is_one, body_fits, body_fits_all, sorts_fit, forms_of}

-- parts of some sorts above others
pub record Parted (start : Start) (texts : List (List ℕ)) (sorts rest : List Sort) (ts : List Lexed) (parts : List Part) : Type 0 where
  pub front : List Lexed
  pub back : List Lexed
  pub above : List Part
  pub below : List Part
  pub is : ts ≡ front ++ back
  pub lie : parts ≡ above ++ below
  pub first : SayAll start texts rest front below
  pub second : SayAll start texts sorts back above

pub parted : {start : Start} {texts : List (List ℕ)} {ts : List Lexed} {parts : List Part} (sorts stack rest : List Sort) → taken sorts stack ≡ Some rest
    → SayAll start texts stack ts parts → Parted start texts sorts rest ts parts
parted {start} {texts} {ts} {parts} [] stack rest e d =
    let k : stack ≡ rest = cc in
    record {
      front = ts;
      back = [];
      above = [];
      below = parts;
      is = sym (append-nil ts);
      lie = refl;
      first = subst (λ z. SayAll start texts z ts parts) k d;
      second = none;
    }
parted (r ∷ sorts) [] rest e d = absurd (cc)
parted {start} {texts} {ts} (r ∷ sorts) (s ∷ stack) rest e (more {us = us} {vs = vs} {p = p} {parts = parts} d x) =
    elim (is_also s r) as (λ b. is_also s r ≡ b → cond b (taken sorts stack) None ≡ Some rest → Parted start texts (r ∷ sorts) rest (us ++ vs) (p ∷ parts)) [
      | true ↦ λ h k.
          let q = parted sorts stack rest k d in
          record {
            front = q.front;
            back = q.back ++ vs;
            above = p ∷ q.above;
            below = q.below;
            is = ap (λ z. z ++ vs) q.is ∙ append_assoc q.front q.back vs;
            lie = ap (λ z. p ∷ z) q.lie;
            first = q.first;
            second = more q.second (also h x);
          }
      | false ↦ λ h k. absurd (cc)
    ] refl e

-- one part alone
pub record Single (start : Start) (texts : List (List ℕ)) (s : Sort) (ts : List Lexed) (parts : List Part) : Type 0 where
  pub part : Part
  pub is : parts ≡ part ∷ []
  pub says : Says start texts s ts part

pub single : {start : Start} {texts : List (List ℕ)} {s : Sort} {ts : List Lexed} {parts : List Part} → SayAll start texts (s ∷ []) ts parts
    → Single start texts s ts parts
single (more {p = p} none x) = record { part = p; is = refl; says = x }

-- the form whose parts were replaced
pub record Replaced (fs : List Form) (stack after : List Sort) : Type 0 where
  pub made : Form
  pub among : IsAmong made fs
  pub rest : List Sort
  pub takes : taken (reverse made.parts) stack ≡ Some rest
  pub is : after ≡ made.whole ∷ rest

pub is_replaced : (fs : List Form) (stack after : List Sort) → replaced fs stack ≡ Some after → Replaced fs stack after
is_replaced [] stack after e = absurd (cc)
is_replaced (f ∷ fs) stack after e =
    elim (taken (reverse f.parts) stack)
    as (λ o. taken (reverse f.parts) stack ≡ o → put o f.whole (replaced fs stack) ≡ Some after → Replaced (f ∷ fs) stack after) [
      | None ↦ λ h k. let q = is_replaced fs stack after k in record { made = q.made; among = there q.among; rest = q.rest; takes = q.takes; is = q.is }
      | (Some rest) ↦ λ h k. let m : after ≡ f.whole ∷ rest = cc in record { made = f; among = here; rest = rest; takes = h; is = m }
    ] refl e

-- what the test of sorts says of one production and one form
pub record Fitting (body : List Symbol) (f : Form) : Type 0 where
  pub sort : Sort
  pub passes : all_passed body (reverse f.parts) ≡ Some (sort ∷ [])
  pub is : is_also sort f.whole ≡ true

fitting : (body : List Symbol) (f : Form) → body_fits body f ≡ true → Fitting body f
fitting body f e =
    elim (all_passed body (reverse f.parts)) as (λ o. all_passed body (reverse f.parts) ≡ o → is_one f.whole o ≡ true → Fitting body f) [
      | None ↦ λ h k. absurd (cc)
      | (Some []) ↦ λ h k. absurd (cc)
      | (Some (s ∷ [])) ↦ λ h k. record { sort = s; passes = h; is = k }
      | (Some (s ∷ t ∷ stack)) ↦ λ h k. absurd (cc)
    ] refl e

each_fitting : (body : List Symbol) {f : Form} (fs : List Form) → body_fits_all body fs ≡ true → IsAmong f fs → Fitting body f
each_fitting body [] e h = elim h [ ]
each_fitting body (f ∷ fs) e here = fitting body f (and_parts (body_fits body f) (body_fits_all body fs) e).0
each_fitting body (g ∷ fs) e (there h) = each_fitting body fs (and_parts (body_fits body g) (body_fits_all body fs) e).1 h

row_fits : (P : List Production) → sorts_fit P ≡ true → (p : ℕ) (r : Production) → nth P p ≡ Some r → body_fits_all r.body (forms_of r.of) ≡ true
row_fits [] e p r h = absurd (cc)
row_fits (x ∷ P) e zero r h =
    let k : x ≡ r = cc in
    subst (λ z. body_fits_all z.body (forms_of z.of) ≡ true) k (and_parts (body_fits_all x.body (forms_of x.of)) (sorts_fit P) e).0
row_fits (x ∷ P) e (suc p) r h = row_fits P (and_parts (body_fits_all x.body (forms_of x.of)) (sorts_fit P) e).1 p r h

pub fits_at : (P : List Production) → sorts_fit P ≡ true → (p n : ℕ) (r : Production) → nth P p ≡ Some r → r.of ≡ n
    → (f : Form) → IsAmong f (forms_of n) → Fitting r.body f
fits_at P e p n r h k f a =
    each_fitting r.body (forms_of n) (subst (λ z. body_fits_all r.body (forms_of z) ≡ true) k (row_fits P e p r h)) a
