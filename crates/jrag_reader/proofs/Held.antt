-- What is built of the events of a sentence is what its tokens say.
use Rattle.std.proofs.Common.{◌≡◌, ℕ, List, [], ◌∷◌, Option, Some, None, Ok, Err, sym, ap, subst, ◌∙◌}
use Rattle.std.specs.Prelude.{Result, Vec}
use Rattle.std.specs.Result.{IsErrAnd}
use Rattle.std.specs.declared.alloc.Global.{Global}
use Rattle.broken_rules.specs.Answers.{Answers}
use Rattle.broken_rules.specs.declared.broken.ReadFault.{ReadFault}
use Rattle.rag_io.specs.Tokens.{Lexed}
use Rattle.token_texts.specs.Texts.{pooled_texts, text_code}
use Rattle.jrag_syntax.specs.Reading.{SaysEvents}
use Rattle.jrag_syntax.specs.declared.classes.Start.{Start}
use Rattle.jrag_reader.specs.declared.parts.Part as kept
use Rattle.jrag_reader.specs.Answers.{HoldsPart, IsRefusal, ReadsParts}
use Rattle.jrag_reader.specs.Building.{EndsWith, Runs}
use Rattle.aspect_limits.specs.Limits.{limits_broken}
use Rattle.jrag_reader.specs.Parts.{Part}
use Rattle.jrag_reader.specs.Reading.{SaysPart}
use Rattle.jrag_reader.specs.Running.{Progress, nothing}
use Rattle.jrag_reader.proofs.Reached.{Reached, reached}

-- what `?` passes on
pub passed_on : (start : Start) (pool : List (List ℕ)) (ts : List Lexed) (answer : Result (Vec kept.Part Global) ReadFault) (why : ReadFault)
    → IsErrAnd answer (λ x. x ≡ why) → IsRefusal start pool ts why → ReadsParts start pool ts answer
passed_on start pool ts (Ok parts) why passes refuses = absurd passes
passed_on start pool ts (Err other) why passes refuses = subst (IsRefusal start pool ts) (sym passes) refuses

abbrev parts_in : Option Progress → List Part
parts_in None = []
parts_in (Some p) = p.parts

module _ (start : Start) (texts : List (List ℕ)) (ts : List Lexed) (es : List ℕ) (says : SaysEvents start ts es) where
  reaches : Reached start texts ts es
  reaches = reached start texts ts es says.reading.runs

  -- building doesn't get stuck
  pub events_run : Runs start texts ts nothing es
  events_run = record { to = _; is = reaches.runs }

  -- and ends with what the tokens say
  pub part_held : (pool : List (List ℕ)) → texts ≡ pooled_texts pool ts → Answers (limits_broken pool ts es ∷ []) None → (parts : List Part)
      → EndsWith start texts ts es parts → HoldsPart start pool ts parts
  part_held pool pooled within parts ends =
      let r = reaches in
      record {
        end = r.end;
        code = text_code texts r.end;
        part = r.part;
        are = ap parts_in (sym ends.is ∙ r.runs);
        says = record {
          events = es;
          sentence = says;
          within = within;
          part = subst (λ (known : List (List ℕ)). SaysPart start known ts r.part) pooled r.says;
        };
      }
