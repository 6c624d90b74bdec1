-- Readers lose nothing, so what a walk and a collection have gone over stays as it is.
use Rattle.std.proofs.Common.{◌≡◌, ℕ, [], take, refl, sym, subst, ◌∙◌, arith}
use Rattle.equation_law.specs.Codes.{IsNamingOf, Naming, value_by}
use Rattle.equation_law.specs.Collections.{Collection, fresh}
use Rattle.equation_law.specs.Names.{Instance}
use Rattle.equation_law.specs.Program.{Program}
use Rattle.equation_law.specs.Reading.{ByEachIn, Grows, IsSound, KnowsValue, Told}
use Rattle.equation_law.specs.Values.{Value}
use Rattle.equation_law.proofs.Grown.{value_known}
use Rattle.expr_eval.proofs.Growing.{value_more}
use Rattle.collection_attrs.specs.declared.collectors.Collector.{Collector}
use Rattle.collection_attrs.specs.declared.surveys.Survey.{Survey}
use Rattle.collection_attrs.specs.Evaluations.{ComesTo}
use Rattle.collection_attrs.specs.Passed.{Comes, over}
use Rattle.collection_attrs.specs.Surveys.{Collections, HasGone, IsCollectorBy, IsCollectorOf, IsCounted, IsNew, IsOver, IsSurveyed}
use Rattle.collection_attrs.specs.Walks.{IsWalk, Walk}
use Rattle.collection_attrs.proofs.Chains.{comes_ends, comes_more}
use Rattle.collection_attrs.proofs.Going.{all_passed_more}
use Rattle.collection_attrs.proofs.Known.{new_known}
use Rattle.collection_attrs.proofs.Walked.{survey_more, walk_more}

pub walk_grows : {S : Type 0} {p : Program} {r s : Told S} {w : Walk} → Grows p r s → IsWalk p r w → IsWalk p s w
walk_grows g h = walk_more g.values g.names g.known h

gone_more : {p : Program} {A B : Instance → Value → Type 0} {names : Naming} {c : Collection} {s : Survey} → ((i : Instance) (v : Value) → A i v → B i v) → HasGone p A names c s → HasGone p B names c s
gone_more {p = p} {c = c} g h = record {
  front = h.front;
  others = h.others;
  are = h.are;
  receivers = h.receivers;
  passed = all_passed_more p g h.front h.receivers h.passed;
  within = h.within;
  comes = comes_more p c g h.comes;
  last = h.last;
}

pub surveyed_more : {S T : Type 0} {p : Program} {r : Told S} {t : Told T} {c : Collections} {s : Survey} → ((i : Instance) (v : Value) → r.has i v → t.has i v) → ByEachIn t r.names → ((k : ℕ) → r.knows k → t.knows k) → IsSurveyed p r c s → IsSurveyed p t c s
surveyed_more {r = r} {t = t} {s = s} g fewer knows h = record { gone = λ names is. gone_more g (h.gone names (fewer names is)); coded = h.coded; known = value_more r t knows s.so_far h.known }

pub surveyed_grows : {S : Type 0} {p : Program} {r s : Told S} {c : Collections} {x : Survey} → Grows p r s → IsSurveyed p r c x → IsSurveyed p s c x
surveyed_grows g h = surveyed_more g.values g.names g.known h

pub counted_grows : {S : Type 0} {p : Program} {r s : Told S} {w : Walk} {c : Collections} {x : Survey} → Grows p r s → IsCounted p r w c x → IsCounted p s w c x
counted_grows {x = x} g h = record { survey = λ names is. survey_more g.values (h.survey names (g.names names is)); coded = h.coded; known = value_known g x.so_far h.known }

-- a survey that begins, whatever values there are
gone_nowhere : (p : Program) (A : Instance → Value → Type 0) {names : Naming} {of : Collector} {c : Collection} {s : Survey} → IsNamingOf p names → IsCollectorBy p names of c → IsNew p of s → HasGone p A names c s
gone_nowhere p A {names} {of} {c} {s} named is new =
    let value : fresh c.method c.kind ≡ value_by names s.so_far = (λ i. fresh (is.method i) (is.kind i)) ∙ sym (new.so_far names named) in
    let taken = new.taken in
    record {
      front = [];
      others = c.offers;
      are = refl;
      receivers = [];
      passed = tt;
      within = omega (arith, taken);
      comes = subst (λ (k : ℕ). Comes p A c (fresh c.method c.kind) (take k []) (value_by names s.so_far)) (sym new.taken) (subst (Comes p A c (fresh c.method c.kind) []) value over);
      last = λ k x e f. cc;
    }

pub survey_begins : {S : Type 0} {p : Program} (t : Told S) → ByEachIn t (IsNamingOf p) → {of : Collector} {c : Collections} {s : Survey} → KnowsValue t s.so_far → IsCollectorOf p of c → IsNew p of s → IsSurveyed p t c s
survey_begins {p = p} t named known is new = record { gone = λ names in_it. gone_nowhere p t.has (named names in_it) (is names (named names in_it)) new; coded = new.coded; known = known }

-- by what a reader may be read is a naming for its program
pub naming_of : {S : Type 0} {p : Program} {t : Told S} → IsSound p t → ByEachIn t (IsNamingOf p)
naming_of sound names is = sound.named names is

pub survey_new : {S : Type 0} {p : Program} (t : Told S) → IsSound p t → {of : Collector} {c : Collections} {s : Survey} → IsCollectorOf p of c → IsNew p of s → IsSurveyed p t c s
survey_new t sound is new = survey_begins t (naming_of sound) (new_known sound new) is new

-- the same of collections that are the same by what the reader may be read
pub surveyed_as : {S : Type 0} {p : Program} {t : Told S} {c d : Collections} {s : Survey} → ByEachIn t (λ names. c names ≡ d names) → IsSurveyed p t c s → IsSurveyed p t d s
surveyed_as {p = p} {t = t} {s = s} same h = record { gone = λ names is. subst (λ (x : Collection). HasGone p t.has names x s) (same names is) (h.gone names is); coded = h.coded; known = h.known }

-- one that has gone over all that is offered has come to the value
pub survey_ends : {S : Type 0} (p : Program) (t : Told S) {c : Collections} {s : Survey} → IsOver p t c s → ComesTo p t c s.so_far
survey_ends p t {c} h = λ names is. let x = h names is in comes_ends p t.has (c names) (c names).offers x.receivers x.passed x.comes
