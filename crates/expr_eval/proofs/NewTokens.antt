-- What the tokens of a `new` come to, from the first and those behind it.
use Rattle.std.proofs.Common.{◌≡◌, ◌⊎◌, ℕ, suc, ◌+◌, List, [], ◌∷◌, ◌++◌, append-nil, append_assoc, Result, Ok, Err, length, length-append, refl, sym, ap, subst, ◌∙◌, inl, inr}
use Rattle.std.specs.Result.{IsErr, IsErrAnd}
use Rattle.std.proofs.lemmas.Result.{err_from_is_err_and}
use Rattle.ast_grammar.specs.declared.grammar.ClassId.{ClassId}
use Rattle.attr_rules.specs.declared.expression.NewArgs.{NewArgs}
use Rattle.attr_rules.specs.declared.expression.NewArgs.TheVariants as kept_new
use Rattle.attr_rules.specs.declared.kinds.Kind.{Kind}
use Rattle.attr_rules.specs.Expression.{Expression, NewArguments, new_arguments_of, new_child, new_end, new_token}
use Rattle.solutions.specs.Asking.{Demands, Ends, Gives, Halts, Needs, after, asks, at, gives, next}
use Rattle.solutions.proofs.Runs.{ends_more}
use Rattle.equation_law.specs.declared.coding.Value.{Value as CodedValue}
use Rattle.equation_law.specs.Codes.{AreCodes, ByEachNaming, IsCode, Naming, arguments_by, value_by, value_coded}
use Rattle.equation_law.specs.Created.{token_kinds}
use Rattle.equation_law.specs.Equations.{world_of}
use Rattle.equation_law.specs.Meaning.{Place, World, meaning_of, with_tokens}
use Rattle.equation_law.specs.Names.{Argument, Instance}
use Rattle.equation_law.specs.Program.{Program}
use Rattle.equation_law.specs.Values.{Value, as_argument}
use Rattle.expr_eval.specs.declared.evaluation.Halt.{Halt}
use Rattle.expr_eval.specs.declared.evaluation.Halt.TheVariants.{Need, Memory}
use Rattle.expr_eval.specs.Evaluating.{CollectsTokens, Comes, Places, Wants, child, no_tokens, token}
use Rattle.expr_eval.specs.Reads.{Advances, IsReady, Reads, State, TokensRead}
use Rattle.expr_eval.proofs.Forms.{advances_self, advances_then, comes_next, naming_in, wants_first, wants_next}
use Rattle.expr_eval.proofs.Growing.{comes_more}

-- how many tokens and children it has
abbrev pub parts_weight : NewArgs → ℕ
parts_weight kept_new.End = 1
parts_weight (kept_new.Token' k p e q rest) = parts_weight rest + 1
parts_weight (kept_new.Child' c p parts q rest) = parts_weight parts + parts_weight rest + 1

-- what ends or stops behind another
record IsEnd (A : Instance → Value → Type 0) (c : Demands Instance Value) (k : Value → Demands Instance Value) (w : Value) : Type 0 where
  value : Value
  first : Comes A c value
  rest : Comes A (k value) w

ends_parts : {A : Instance → Value → Type 0} (c : Demands Instance Value) (k : Value → Demands Instance Value) {w : Value} {ds : List Instance} → Ends A (next c k) w ds → IsEnd A c k w
ends_parts (Gives v) k e = record { value = v; first = (_, gives); rest = (_, e) }
ends_parts (Needs j h) k (asks {w = w} a e) = let one = ends_parts (h w) k e in record { value = one.value; first = (_, asks a one.first.1); rest = one.rest }

record IsHalt (A : Instance → Value → Type 0) (c : Demands Instance Value) (k : Value → Demands Instance Value) (i : Instance) : Type 0 where
  value : Value
  first : Comes A c value
  rest : Wants A (k value) i

halts_parts : {A : Instance → Value → Type 0} (c : Demands Instance Value) (k : Value → Demands Instance Value) {i : Instance} {ds : List Instance} → Halts A (next c k) i ds → Wants A c i ⊎ IsHalt A c k i
halts_parts (Gives v) k e = inr (record { value = v; first = (_, gives); rest = (_, e) })
halts_parts (Needs j h) k (at none) = inl (_, at none)
halts_parts {A} (Needs j h) k {i} (after {w = w} a e) = of (halts_parts (h w) k e)
  where
    of : Wants A (h w) i ⊎ IsHalt A (h w) k i → Wants A (Needs j h) i ⊎ IsHalt A (Needs j h) k i
    of (inl x) = inl (_, after a x.1)
    of (inr x) = inr (record { value = x.value; first = (_, asks a x.first.1); rest = x.rest })

-- what gives a value ends with it, and never stops
gives_same : {A : Instance → Value → Type 0} {v w : Value} {ds : List Instance} → Ends A (Gives v) w ds → v ≡ w
gives_same gives = refl

pub given_same : {A : Instance → Value → Type 0} {v w : Value} → Comes A (Gives v) w → v ≡ w
given_same x = gives_same x.1

gives_halt : {A : Instance → Value → Type 0} {v : Value} {i : Instance} {ds : List Instance} {c : Demands Instance Value} → c ≡ Gives v → Halts A c i ds → ⊥
gives_halt same (at none) = cc
gives_halt same (after a e) = cc

pub given_never : {A : Instance → Value → Type 0} {v : Value} {i : Instance} → Wants A (Gives v) i → ⊥
given_never x = gives_halt refl x.1

-- values that tokens come to stay
pub tokens_more : {A B : Instance → Value → Type 0} {W : World} {place : Place} {parts : NewArguments} {ts : List Argument} → ((i : Instance) (v : Value) → A i v → B i v) → CollectsTokens A W place parts ts → CollectsTokens B W place parts ts
tokens_more f no_tokens = no_tokens
tokens_more f (token ends rest) = token (ends_more f ends) (tokens_more f rest)
tokens_more f (child parts rest) = child (tokens_more f parts) (tokens_more f rest)

module _ {A : Instance → Value → Type 0} {W : World} {place : Place} where
  -- what is done with the values of tokens
  pub tokens_comes : {parts : NewArguments} {ts : List Argument} (f : List Argument → Demands Instance Value) {w : Value} → CollectsTokens A W place parts ts → Comes A (f ts) w → Comes A (with_tokens W parts place f) w
  tokens_comes f no_tokens a = a
  tokens_comes f (token {k = k} {rest = rest} {v = v} ends more) a = comes_next (λ w. with_tokens W rest place (λ us. f (as_argument k w ∷ us))) (_, ends) (tokens_comes (λ us. f (as_argument k v ∷ us)) more a)
  tokens_comes f (child {rest = rest} {ts = ts} x y) a = tokens_comes (λ us. with_tokens W rest place (λ vs. f (us ++ vs))) x (tokens_comes (λ vs. f (ts ++ vs)) y a)

  pub tokens_wants : {parts : NewArguments} {ts : List Argument} (f : List Argument → Demands Instance Value) {i : Instance} → CollectsTokens A W place parts ts → Wants A (f ts) i → Wants A (with_tokens W parts place f) i
  tokens_wants f no_tokens a = a
  tokens_wants f (token {k = k} {rest = rest} {v = v} ends more) a = wants_next (λ w. with_tokens W rest place (λ us. f (as_argument k w ∷ us))) (_, ends) (tokens_wants (λ us. f (as_argument k v ∷ us)) more a)
  tokens_wants f (child {rest = rest} {ts = ts} x y) a = tokens_wants (λ us. with_tokens W rest place (λ vs. f (us ++ vs))) x (tokens_wants (λ vs. f (ts ++ vs)) y a)

module _ (A : Instance → Value → Type 0) (W : World) (place : Place) where
  -- and back
  pub record TokensEnd (parts : NewArguments) (f : List Argument → Demands Instance Value) (w : Value) : Type 0 where
    pub values : List Argument
    pub collects : CollectsTokens A W place parts values
    pub rest : Comes A (f values) w

  pub tokens_end : (parts : NewArguments) (f : List Argument → Demands Instance Value) (w : Value) → Comes A (with_tokens W parts place f) w → TokensEnd parts f w
  tokens_end new_end f w x = record { values = []; collects = no_tokens; rest = x }
  tokens_end (new_token k e rest) f w x =
      let one = ends_parts (meaning_of W e place) (λ v. with_tokens W rest place (λ us. f (as_argument k v ∷ us))) x.1 in
      let more = tokens_end rest (λ us. f (as_argument k one.value ∷ us)) w one.rest in
      record { values = as_argument k one.value ∷ more.values; collects = token one.first.1 more.collects; rest = more.rest }
  tokens_end (new_child c parts rest) f w x =
      let one = tokens_end parts (λ us. with_tokens W rest place (λ vs. f (us ++ vs))) w x in
      let more = tokens_end rest (λ vs. f (one.values ++ vs)) w one.rest in
      record { values = one.values ++ more.values; collects = child one.collects more.collects; rest = more.rest }

  pub record TokensHalt (parts : NewArguments) (f : List Argument → Demands Instance Value) (i : Instance) : Type 0 where
    pub values : List Argument
    pub collects : CollectsTokens A W place parts values
    pub rest : Wants A (f values) i

  abbrev pub TokensStop : NewArguments → Instance → Type 0
  TokensStop parts i = (g : List Argument → Demands Instance Value) → Wants A (with_tokens W parts place g) i

  -- it does so of some tokens
  abbrev Halting : NewArguments → Type 0
  Halting parts = (f : List Argument → Demands Instance Value) (i : Instance) → Wants A (with_tokens W parts place f) i → TokensStop parts i ⊎ TokensHalt parts f i

  pub tokens_halt : (parts : NewArguments) (f : List Argument → Demands Instance Value) (i : Instance) → Wants A (with_tokens W parts place f) i → TokensStop parts i ⊎ TokensHalt parts f i
  tokens_halt new_end f i x = inr (record { values = []; collects = no_tokens; rest = x })
  tokens_halt (new_token k e rest) f i x = of (halts_parts (meaning_of W e place) (λ v. with_tokens W rest place (λ us. f (as_argument k v ∷ us))) x.1) (λ g j y. tokens_halt rest g j y)
    where
      at_rest : (v : Value) → Comes A (meaning_of W e place) v → TokensStop rest i ⊎ TokensHalt rest (λ us. f (as_argument k v ∷ us)) i → TokensStop (new_token k e rest) i ⊎ TokensHalt (new_token k e rest) f i
      at_rest v first (inl y) = inl (λ g. wants_next (λ w. with_tokens W rest place (λ us. g (as_argument k w ∷ us))) first (y (λ us. g (as_argument k v ∷ us))))
      at_rest v first (inr y) = inr (record { values = as_argument k v ∷ y.values; collects = token first.1 y.collects; rest = y.rest })

      of : Wants A (meaning_of W e place) i ⊎ IsHalt A (meaning_of W e place) (λ v. with_tokens W rest place (λ us. f (as_argument k v ∷ us))) i → Halting rest → TokensStop (new_token k e rest) i ⊎ TokensHalt (new_token k e rest) f i
      of (inl y) behind = inl (λ g. wants_first (λ w. with_tokens W rest place (λ us. g (as_argument k w ∷ us))) y)
      of (inr y) behind = at_rest y.value y.first (behind (λ us. f (as_argument k y.value ∷ us)) i y.rest)
  tokens_halt (new_child c parts rest) f i x = of (tokens_halt parts (λ us. with_tokens W rest place (λ vs. f (us ++ vs))) i x) (λ g j y. tokens_halt rest g j y)
    where
      at_rest : (ts : List Argument) → CollectsTokens A W place parts ts → TokensStop rest i ⊎ TokensHalt rest (λ vs. f (ts ++ vs)) i → TokensStop (new_child c parts rest) i ⊎ TokensHalt (new_child c parts rest) f i
      at_rest ts first (inl y) = inl (λ g. tokens_wants (λ us. with_tokens W rest place (λ vs. g (us ++ vs))) first (y (λ vs. g (ts ++ vs))))
      at_rest ts first (inr y) = inr (record { values = ts ++ y.values; collects = child first y.collects; rest = y.rest })

      of : TokensStop parts i ⊎ TokensHalt parts (λ us. with_tokens W rest place (λ vs. f (us ++ vs))) i → Halting rest → TokensStop (new_child c parts rest) i ⊎ TokensHalt (new_child c parts rest) f i
      of (inl y) behind = inl (λ g. y (λ us. with_tokens W rest place (λ vs. g (us ++ vs))))
      of (inr y) behind = at_rest y.values y.collects (behind (λ vs. f (y.values ++ vs)) i y.rest)

-- codes of tokens one after the other
both_by : (n : Naming) (ks ls : List Kind) (cs ds : List ℕ) → length cs ≡ length ks → arguments_by n (ks ++ ls) (cs ++ ds) ≡ arguments_by n ks cs ++ arguments_by n ls ds
both_by n [] ls [] ds e = refl
both_by n [] ls (c ∷ cs) ds e = cc
both_by n (k ∷ ks) ls [] ds e = cc
both_by n (k ∷ ks) ls (c ∷ cs) ds e = ap (λ xs. as_argument k (value_coded n k c) ∷ xs) (both_by n ks ls cs ds (let same : length cs ≡ length ks = cc in same))

both_codes : (p : Program) (ks ls : List Kind) (cs ds : List ℕ) → length cs ≡ length ks → AreCodes p ks cs → AreCodes p ls ds → AreCodes p (ks ++ ls) (cs ++ ds)
both_codes p [] ls [] ds e x y = y
both_codes p [] ls (c ∷ cs) ds e x y = absurd x
both_codes p (k ∷ ks) ls [] ds e x y = cc
both_codes p (k ∷ ks) ls (c ∷ cs) ds e x y = (x.0, both_codes p ks ls cs ds (let same : length cs ≡ length ks = cc in same) x.1 y)

module _ {S : Type 0} {p : Program} {place : Places} where
  -- tokens that are kept in this form
  pub said_tokens : {r s : State S} {a b : NewArgs} {before behind : List ℕ} {res : Result Unit Halt} → a ≡ b → TokensRead p r s place (new_arguments_of b) before behind res → TokensRead p r s place (new_arguments_of a) before behind res
  said_tokens {r = r} {s = s} {before = before} {behind = behind} {res = res} h x = subst (λ y. TokensRead p r s place (new_arguments_of y) before behind res) (sym h) x

  pub boxed_tokens : {r s : State S} {a b : NewArgs} {before behind : List ℕ} {res : Result Unit Halt} → a ≡ b → TokensRead p r s place (new_arguments_of a) before behind res → TokensRead p r s place (new_arguments_of b) before behind res
  boxed_tokens {r = r} {s = s} {before = before} {behind = behind} {res = res} h x = subst (λ y. TokensRead p r s place (new_arguments_of y) before behind res) h x

  pub thrown_tokens : {r s : State S} {parts : NewArguments} {before behind : List ℕ} {h : Halt} {res : Result Unit Halt} → IsErr res × IsErrAnd res (λ m. m ≡ h) → TokensRead p r s place parts before behind (Err h) → TokensRead p r s place parts before behind res
  thrown_tokens {r = r} {s = s} {parts = parts} {before = before} {behind = behind} {res = res} f a = let g = err_from_is_err_and res f.1 in subst (TokensRead p r s place parts before behind) (sym (g.1 ∙ ap Err g.2)) a

  -- there is not enough memory for what follows
  pub tokens_memory : {r s : State S} {parts : NewArguments} {before behind : List ℕ} → Advances p r s → TokensRead p r s place parts before behind (Err Memory)
  tokens_memory g = record { kept = g; is = tt }

  -- there are none
  pub none_made : {r : State S} {before : List ℕ} → IsReady p r → TokensRead p r r place new_end before before (Ok tt)
  none_made {before = before} sound = record { kept = advances_self sound; is = ([], sym (append-nil before), record { collects = λ n named. no_tokens; all = refl; codes = tt }) }

  -- the first has no value
  pub token_halts : {r s : State S} {k : Kind} {e : Expression} {rest : NewArguments} {before behind : List ℕ} {h : Halt} → Reads p r s place e (Err h) → TokensRead p r s place (new_token k e rest) before behind (Err h)
  token_halts {k = k} {rest = rest} {h = Need i} a = record { kept = a.kept; is = record { stopped = λ n named f. wants_first (λ v. with_tokens (world_of p) rest (place n) (λ us. f (as_argument k v ∷ us))) (a.is.wants n named); coded = a.is.coded; known = a.is.known } }
  token_halts {h = Memory} a = record { kept = a.kept; is = tt }

  -- it has one, and its code is put behind
  pub token_goes : {r m s : State S} {k : Kind} {e : Expression} {rest : NewArguments} {v : CodedValue} (c : ℕ) {before then behind : List ℕ} {res : Result Unit Halt} → Reads p r m place e (Ok v) → IsCode p k c → ByEachNaming p (λ n. as_argument k (value_coded n k c) ≡ as_argument k (value_by n v))
      → then ≡ before ++ c ∷ [] → TokensRead p m s place rest then behind res → TokensRead p r s place (new_token k e rest) before behind res
  token_goes {s = s} {k = k} {e = e} {rest = rest} {v = v} c {before = before} {res = Ok u} a code value pushed b =
      let cs = b.is.0 in
      record {
        kept = advances_then a.kept b.kept;
        is = (
          c ∷ cs,
          b.is.1 ∙ ap (λ zs. zs ++ cs) pushed ∙ append_assoc before (c ∷ []) cs,
          record {
            collects = λ n named.
                let one : CollectsTokens s.told.has (world_of p) (place n) (new_token k e rest) (as_argument k (value_by n v) ∷ arguments_by n (token_kinds rest) cs) = token (ends_more b.kept.values (a.is.comes n (b.kept.names n named)).1) (b.is.2.collects n named) in
                subst (λ x. CollectsTokens s.told.has (world_of p) (place n) (new_token k e rest) (x ∷ arguments_by n (token_kinds rest) cs)) (sym (value n (naming_in b.kept n named))) one;
            all = ap suc b.is.2.all;
            codes = (code, b.is.2.codes);
          },
        );
      }
  token_goes {k = k} {rest = rest} {v = v} c {res = Err (Need i)} a code value pushed b = record {
    kept = advances_then a.kept b.kept;
    is = record {
      stopped = λ n named f.
          let first = comes_more b.kept.values (a.is.comes n (b.kept.names n named)) in
          wants_next (λ w. with_tokens (world_of p) rest (place n) (λ us. f (as_argument k w ∷ us))) first (b.is.stopped n named (λ us. f (as_argument k (value_by n v) ∷ us)));
      coded = b.is.coded;
      known = b.is.known;
    };
  }
  token_goes c {res = Err Memory} a code value pushed b = record { kept = advances_then a.kept b.kept; is = tt }

  -- one of a child has no value
  pub child_halts : {r s : State S} {d : ClassId} {parts rest : NewArguments} {before then behind : List ℕ} {h : Halt} → TokensRead p r s place parts before then (Err h) → TokensRead p r s place (new_child d parts rest) before behind (Err h)
  child_halts {rest = rest} {h = Need i} a = record { kept = a.kept; is = record { stopped = λ n named f. a.is.stopped n named (λ us. with_tokens (world_of p) rest (place n) (λ vs. f (us ++ vs))); coded = a.is.coded; known = a.is.known } }
  child_halts {h = Memory} a = record { kept = a.kept; is = tt }

  -- all of a child have values
  pub child_goes : {r m s : State S} {d : ClassId} {parts rest : NewArguments} {before then behind : List ℕ} {u : Unit} {res : Result Unit Halt} → TokensRead p r m place parts before then (Ok u) → TokensRead p m s place rest then behind res → TokensRead p r s place (new_child d parts rest) before behind res
  child_goes {s = s} {d = d} {parts = parts} {rest = rest} {before = before} {res = Ok w} a b =
      let cs = a.is.0 in
      let ds = b.is.0 in
      record {
        kept = advances_then a.kept b.kept;
        is = (
          cs ++ ds,
          b.is.1 ∙ ap (λ zs. zs ++ ds) a.is.1 ∙ append_assoc before cs ds,
          record {
            collects = λ n named.
                let one : CollectsTokens s.told.has (world_of p) (place n) (new_child d parts rest) (arguments_by n (token_kinds parts) cs ++ arguments_by n (token_kinds rest) ds) = child (tokens_more b.kept.values (a.is.2.collects n (b.kept.names n named))) (b.is.2.collects n named) in
                subst (CollectsTokens s.told.has (world_of p) (place n) (new_child d parts rest)) (sym (both_by n (token_kinds parts) (token_kinds rest) cs ds a.is.2.all)) one;
            all = length-append cs ds ∙ (λ i. a.is.2.all i + b.is.2.all i) ∙ sym (length-append (token_kinds parts) (token_kinds rest));
            codes = both_codes p (token_kinds parts) (token_kinds rest) cs ds a.is.2.all a.is.2.codes b.is.2.codes;
          },
        );
      }
  child_goes {parts = parts} {rest = rest} {res = Err (Need i)} a b = record {
    kept = advances_then a.kept b.kept;
    is = record {
      stopped = λ n named f.
          tokens_wants (λ us. with_tokens (world_of p) rest (place n) (λ vs. f (us ++ vs))) (tokens_more b.kept.values (a.is.2.collects n (b.kept.names n named)))
          (b.is.stopped n named (λ vs. f (arguments_by n (token_kinds parts) a.is.0 ++ vs)));
      coded = b.is.coded;
      known = b.is.known;
    };
  }
  child_goes {res = Err Memory} a b = record { kept = advances_then a.kept b.kept; is = tt }
