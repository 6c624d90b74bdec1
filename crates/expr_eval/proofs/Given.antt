-- What the arguments of a call come to, from the first and those behind it.
use Rattle.std.proofs.Common.{◌≡◌, ℕ, zero, suc, ◌<◌, ◌≤◌, ◌^◌, true, false, List, [], ◌∷◌, Some, None, Result, Ok, Err, drop, length, slice_get, take, refl, sym, ap, subst, ◌∙◌, arith}
use Rattle.std.specs.Result.{IsErr, IsErrAnd}
use Rattle.std.proofs.lemmas.Result.{err_from_is_err_and}
use Rattle.attr_rules.specs.declared.kinds.Kind.{Kind}
use Rattle.attr_rules.specs.declared.kinds.Kind.TheVariants as kinds
use Rattle.attr_rules.specs.declared.kinds.Params.{Params}
use Rattle.attr_rules.specs.declared.expression.TArgs.{TArgs}
use Rattle.attr_rules.specs.Expression.{Arguments, Expression, argument, arguments_of, no_more}
use Rattle.attr_rules.specs.Rules.{is_single}
use Rattle.attr_rules.specs.Types.{parameter_kinds, text_kind}
use Rattle.solutions.proofs.Runs.{ends_more}
use Rattle.equation_law.specs.declared.coding.Args.{Args}
use Rattle.equation_law.specs.declared.coding.Value.{Value as CodedValue}
use Rattle.equation_law.specs.Codes.{AreCodes, ByEachNaming, IsCode, IsRow, IsSmall, Naming, arguments_by, codes_in, value_by, value_coded}
use Rattle.equation_law.specs.Equations.{world_of}
use Rattle.equation_law.specs.Meaning.{with_arguments}
use Rattle.equation_law.specs.Program.{Program}
use Rattle.equation_law.specs.Reading.{AreKnownCodes, Told}
use Rattle.equation_law.specs.Values.{Value, as_argument, as_arguments, as_kind}
use Rattle.expr_eval.specs.declared.evaluation.Halt.{Halt}
use Rattle.expr_eval.specs.declared.evaluation.Halt.TheVariants.{Need, Memory}
use Rattle.expr_eval.specs.Evaluating.{Places, end, more}
use Rattle.expr_eval.specs.Reads.{ArgumentsRead, IsReady, Reads, State}
use Rattle.expr_eval.proofs.Forms.{advances_self, advances_then, naming_in, value_later, wants_first, wants_next}
use Rattle.expr_eval.proofs.Growing.{comes_more}
use Rattle.expr_eval.proofs.Knowing.{code_known}

-- a code of another type than that of texts
pub small_code : (p : Program) (k : Kind) (c : ℕ) → text_kind k ≡ false → IsSmall k c → c < 2 ^ 32 → IsCode p k c
small_code p kinds.Truth c e s l = s
small_code p kinds.Int c e s l = l
small_code p kinds.Text c e s l = cc
small_code p (kinds.Node d) c e s l = l
small_code p kinds.Texts c e s l = s
small_code p (kinds.Nodes d) c e s l = s

pub text_is : (k : Kind) → text_kind k ≡ true → k ≡ kinds.Text
text_is kinds.Truth e = cc
text_is kinds.Int e = cc
text_is kinds.Text e = refl
text_is (kinds.Node d) e = cc
text_is kinds.Texts e = cc
text_is (kinds.Nodes d) e = cc

-- the code of an argument; no argument is a set
pub coded_argument : (n : Naming) (k : Kind) (c : ℕ) (v : Value) → (is_single k ≡ true → value_coded n k c ≡ as_kind k v) → as_argument k (value_coded n k c) ≡ as_argument k v
coded_argument n kinds.Truth c v h = ap (as_argument kinds.Truth) (h refl)
coded_argument n kinds.Int c v h = ap (as_argument kinds.Int) (h refl)
coded_argument n kinds.Text c v h = ap (as_argument kinds.Text) (h refl)
coded_argument n (kinds.Node d) c v h = ap (as_argument (kinds.Node d)) (h refl)
coded_argument n kinds.Texts c v h = refl
coded_argument n (kinds.Nodes d) c v h = refl

module _ (p : Program) where
  -- no codes are always few enough
  no_codes : (ks : List Kind) → AreCodes p ks []
  no_codes [] = tt
  no_codes (k ∷ ks) = tt

  none_known : {S : Type 0} (r : Told S) (ks : List Kind) → AreKnownCodes r ks []
  none_known r [] = tt
  none_known r (k ∷ ks) = tt

  no_arguments : (n : Naming) (ks : List Kind) → arguments_by n ks [] ≡ as_arguments ks []
  no_arguments n [] = refl
  no_arguments n (k ∷ ks) = refl

  codes_few : (ks : List Kind) (cs : List ℕ) → AreCodes p ks cs → length cs ≤ length ks
  codes_few [] [] h = omega arith
  codes_few [] (c ∷ cs) h = absurd h
  codes_few (k ∷ ks) [] h = omega arith
  codes_few (k ∷ ks) (c ∷ cs) h = omega (arith, codes_few ks cs h.1)

-- at most three kinds
kinds_few : (n : ℕ) (a b c : Kind) → length (take n (a ∷ b ∷ c ∷ [])) ≤ 3
kinds_few zero a b c = omega arith
kinds_few (suc zero) a b c = omega arith
kinds_few (suc (suc zero)) a b c = omega arith
kinds_few (suc (suc (suc zero))) a b c = omega arith
kinds_few (suc (suc (suc (suc n)))) a b c = omega arith

row_count : (n a b c : ℕ) → n ≤ 3 → length (take n (a ∷ b ∷ c ∷ [])) ≡ n
row_count zero a b c h = refl
row_count (suc zero) a b c h = refl
row_count (suc (suc zero)) a b c h = refl
row_count (suc (suc (suc zero))) a b c h = refl
row_count (suc (suc (suc (suc n)))) a b c h = absurd (omega (arith, h))

pub first_and_rest : {A : Type 0} (ks : List A) (k : A) → Some k ≡ slice_get ks 0 → ks ≡ k ∷ drop 1 ks
first_and_rest [] k e = cc
first_and_rest (x ∷ ks) k e = let same : x ≡ k = cc in ap (λ y. y ∷ ks) same

pub nothing_first : {A : Type 0} (ks : List A) → None ≡ slice_get ks 0 → ks ≡ []
nothing_first [] e = refl
nothing_first (x ∷ ks) e = cc

-- behind a parameter there are at most two, and so many codes
pub room_behind : (p : Program) (ps : Params) (xs : Args) {k : Kind} {ks : List Kind} → Some k ≡ slice_get (parameter_kinds ps) 0 → ks ≡ drop 1 (parameter_kinds ps) → IsRow xs → AreCodes p ks (codes_in xs) → xs.count < 3
room_behind p ps xs {k} {ks} first rest row codes =
    let few = codes_few p ks (codes_in xs) codes in
    let count = row_count xs.count xs.first xs.second xs.third row.few in
    let all = kinds_few ps.count ps.first ps.second ps.third in
    let one = ap length (first_and_rest (parameter_kinds ps) k first) in
    let behind = ap length rest in
    omega (arith, few, count, all, one, behind)

module _ {S : Type 0} {p : Program} {place : Places} where
  -- arguments that are kept in this form
  pub said_arguments : {r s : State S} {ks : List Kind} {a b : TArgs} {res : Result Args Halt} → a ≡ b → ArgumentsRead p r s place ks (arguments_of b) res → ArgumentsRead p r s place ks (arguments_of a) res
  said_arguments {r = r} {s = s} {ks = ks} {res = res} h x = subst (λ y. ArgumentsRead p r s place ks (arguments_of y) res) (sym h) x

  pub boxed_arguments : {r s : State S} {ks : List Kind} {a b : TArgs} {res : Result Args Halt} → a ≡ b → ArgumentsRead p r s place ks (arguments_of a) res → ArgumentsRead p r s place ks (arguments_of b) res
  boxed_arguments {r = r} {s = s} {ks = ks} {res = res} h x = subst (λ y. ArgumentsRead p r s place ks (arguments_of y) res) h x

  pub thrown_arguments : {r s : State S} {ks : List Kind} {es : Arguments} {h : Halt} {res : Result Args Halt} → IsErr res × IsErrAnd res (λ m. m ≡ h) → ArgumentsRead p r s place ks es (Err h) → ArgumentsRead p r s place ks es res
  thrown_arguments {r = r} {s = s} {ks = ks} {es = es} {res = res} f a = let g = err_from_is_err_and res f.1 in subst (ArgumentsRead p r s place ks es) (sym (g.1 ∙ ap Err g.2)) a

  -- for the parameters of an attribute
  pub for_parameters : {r s : State S} {ks ls : List Kind} {es : Arguments} {res : Result Args Halt} → ks ≡ ls → ArgumentsRead p r s place ks es res → ArgumentsRead p r s place ls es res
  for_parameters {r = r} {s = s} {es = es} {res = res} same a = subst (λ zs. ArgumentsRead p r s place zs es res) same a

  -- there are none
  pub none_given : {r : State S} {ks : List Kind} (xs : Args) → IsReady p r → IsRow xs → codes_in xs ≡ [] → ArgumentsRead p r r place ks no_more (Ok xs)
  none_given {r = r} {ks = ks} xs sound row none = record {
    kept = advances_self sound;
    is = record {
      values = λ n. [];
      collects = λ n at. end;
      row = row;
      codes = subst (AreCodes p ks) (sym none) (no_codes p ks);
      known = subst (AreKnownCodes r.told ks) (sym none) (none_known p r.told ks);
      are = λ n at. ap (arguments_by n ks) none ∙ no_arguments p n ks;
    };
  }

  -- the first has no value, or one behind it
  pub first_halts : {r s : State S} {ks : List Kind} {e : Expression} {es : Arguments} {h : Halt} → Reads p r s place e (Err h) → ArgumentsRead p r s place ks (argument e es) (Err h)
  first_halts {s = s} {es = es} {h = Need i} a = record { kept = a.kept; is = record { stopped = λ n at f. wants_first (λ v. with_arguments (world_of p) es (place n) (λ vs. f (v ∷ vs))) (a.is.wants n at); coded = a.is.coded; known = a.is.known } }
  first_halts {h = Memory} a = record { kept = a.kept; is = tt }

  pub rest_halts : {r m s : State S} {ks ls : List Kind} {e : Expression} {es : Arguments} {v : CodedValue} {h : Halt} → Reads p r m place e (Ok v) → ArgumentsRead p m s place ls es (Err h) → ArgumentsRead p r s place ks (argument e es) (Err h)
  rest_halts {s = s} {es = es} {v = v} {h = Need i} a b = record {
    kept = advances_then a.kept b.kept;
    is = record {
      stopped = λ n at f.
          let first = comes_more b.kept.values (a.is.comes n (b.kept.names n at)) in
          wants_next (λ w. with_arguments (world_of p) es (place n) (λ vs. f (w ∷ vs))) first (b.is.stopped n at (λ vs. f (value_by n v ∷ vs)));
      coded = b.is.coded;
      known = b.is.known;
    };
  }
  rest_halts {h = Memory} a b = record { kept = advances_then a.kept b.kept; is = tt }

  -- all have values, and there is a parameter for the first
  pub one_given : {r m s : State S} {ls : List Kind} {e : Expression} {es : Arguments} {v : CodedValue} {k : Kind} {c : ℕ} {xs : Args} (ks : List Kind) (ys : Args) → Some k ≡ slice_get ks 0 → ls ≡ drop 1 ks → Reads p r m place e (Ok v) → ArgumentsRead p m s place ls es (Ok xs)
      → IsCode p k c → ByEachNaming p (λ n. as_argument k (value_coded n k c) ≡ as_argument k (value_by n v)) → IsRow ys → codes_in ys ≡ c ∷ codes_in xs → ArgumentsRead p r s place ks (argument e es) (Ok ys)
  one_given {r = r} {s = s} {ls = ls} {e = e} {es = es} {v = v} {k = k} {c = c} {xs = xs} ks ys first rest a b code value row codes =
      let whole : k ∷ ls ≡ ks = ap (λ zs. k ∷ zs) rest ∙ sym (first_and_rest ks k first) in
      subst (λ zs. ArgumentsRead p r s place zs (argument e es) (Ok ys)) whole (record {
        kept = advances_then a.kept b.kept;
        is = record {
          values = λ n. value_by n v ∷ b.is.values n;
          collects = λ n at. more (ends_more b.kept.values (a.is.comes n (b.kept.names n at)).1) (b.is.collects n at);
          row = row;
          codes = subst (AreCodes p (k ∷ ls)) (sym codes) (code, b.is.codes);
          known = subst (AreKnownCodes s.told (k ∷ ls)) (sym codes) (code_known b.kept.sound.sound k c v (value_later b.kept v a.is.known) value, b.is.known);
          are = λ n at. (let named = naming_in b.kept n at in ap (arguments_by n (k ∷ ls)) codes ∙ (λ i. value n named i ∷ b.is.are n at i));
        };
      })

  -- and where there is none
  pub one_more : {r m s : State S} {ls : List Kind} {e : Expression} {es : Arguments} {v : CodedValue} {xs : Args} (ks : List Kind) (ys : Args) → None ≡ slice_get ks 0 → Reads p r m place e (Ok v) → ArgumentsRead p m s place ls es (Ok xs)
      → IsRow ys → codes_in ys ≡ [] → ArgumentsRead p r s place ks (argument e es) (Ok ys)
  one_more {r = r} {s = s} {e = e} {es = es} {v = v} ks ys none a b row codes =
      subst (λ zs. ArgumentsRead p r s place zs (argument e es) (Ok ys)) (sym (nothing_first ks none)) (record {
        kept = advances_then a.kept b.kept;
        is = record {
          values = λ n. value_by n v ∷ b.is.values n;
          collects = λ n at. more (ends_more b.kept.values (a.is.comes n (b.kept.names n at)).1) (b.is.collects n at);
          row = row;
          codes = subst (AreCodes p []) (sym codes) tt;
          known = subst (AreKnownCodes s.told []) (sym codes) tt;
          are = λ n at. refl;
        };
      })
