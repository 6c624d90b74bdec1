-- Parts as they are kept, on a stack, and what the steps on it answer.
use Rattle.std.specs.Prelude.{◌≡◌, ℕ, List, map, reverse, Option, Some, None, Result, Ok, Err}
use Rattle.std.specs.Option.{option_map}
use Rattle.rag_io.specs.Tokens.{Lexed, seen_token}
use Rattle.rag_io.specs.declared.token.Token.{Token as KeptToken}
use Rattle.aspect_items.specs.declared.expression.Name.{Name as KeptName}
use Rattle.aspect_items.specs.declared.expression.Quantifier.{Quantifier}
use Rattle.jrag_reader.specs.declared.parts.Part as kept_part
use Rattle.jrag_reader.specs.declared.parts.Part.TheVariants as kept
use Rattle.jrag_reader.specs.declared.parts.Said as kept_said
use Rattle.jrag_reader.specs.declared.parts.Said.TheVariants as said
use Rattle.jrag_reader.specs.declared.parts.Unbuilt.{Unbuilt}
use Rattle.jrag_reader.specs.declared.parts.Unbuilt.TheVariants.{Misfit, Memory}
use Rattle.aspect_items.specs.Expressions.{Name, seen_expr, seen_name}
use Rattle.aspect_items.specs.Items.{seen_circular, seen_item, seen_parameter, seen_signature, seen_type}
use Rattle.jrag_reader.specs.Parts.{Part, Token, Named, Quantifying, Formed, Arguments, Typed, Parameters, Flag, Modifiers, Circularity, Perhaps, Behind, PerhapsNamed, Made, Items, Opened}

abbrev pub seen_said : kept_said.Said → Part
seen_said (said.Name n) = Named (seen_name n)
seen_said (said.Quantifier q n) = Quantifying q (seen_name n)
seen_said (said.Expr e) = Formed (seen_expr e)
seen_said (said.Arguments es) = Arguments (map seen_expr es.items)
seen_said (said.Type t) = Typed (seen_type t)
seen_said (said.Parameters ps) = Parameters (map seen_parameter ps.items)
seen_said (said.Flag b) = Flag b
seen_said (said.Modifiers lazy higher) = Modifiers lazy higher
seen_said (said.Circularity c) = Circularity (option_map seen_circular c)
seen_said (said.Perhaps e) = Perhaps (option_map seen_expr e)
seen_said (said.Behind s) = Behind (option_map seen_signature s)
seen_said (said.PerhapsNamed n) = PerhapsNamed (option_map seen_name n)
seen_said (said.Item i) = Made (seen_item i)
seen_said (said.Items is) = Items (map seen_item is.items)
seen_said (said.Opened is) = Opened (map seen_item is.items)

abbrev pub seen_part : kept_part.Part → Part
seen_part (kept.Token t code) = Token (seen_token t) code
seen_part (kept.Said s) = seen_said s

-- a stack from its top
abbrev pub tops : List kept_part.Part → List Part
tops stack = map seen_part (reverse stack)

-- What taking something from a stack answers, and the parts that it leaves.
abbrev pub Takes : {A M : Type 0} → (M → A) → Option (A × List Part) → Result M Unbuilt → List Part → Type 0
Takes seen None (Ok x) new = ⊥
Takes seen None (Err Misfit) new = Unit {0}
Takes seen None (Err Memory) new = ⊥
Takes seen (Some taken) (Ok x) new = (seen x ≡ taken.0) × (new ≡ taken.1)
Takes seen (Some taken) (Err u) new = ⊥

-- What a step answers that makes this, and what is there then. None: the parts on top aren't those of the form.
abbrev pub Makes : {A : Type 0} → Option A → Result (Unit {0}) Unbuilt → A → Type 0
Makes None (Ok u) new = ⊥
Makes None (Err u) new = Unit {0}
Makes (Some made) (Ok u) new = new ≡ made
Makes (Some made) (Err Misfit) new = ⊥
Makes (Some made) (Err Memory) new = Unit {0}

abbrev pub seen_token_and_code : KeptToken × ℕ → Lexed × ℕ
seen_token_and_code t = (seen_token t.0, t.1)

abbrev pub seen_quantifier : Quantifier × KeptName → Quantifier × Name
seen_quantifier q = (q.0, seen_name q.1)

abbrev pub seen_names : KeptName × KeptName → Name × Name
seen_names n = (seen_name n.0, seen_name n.1)

-- of two things that were taken together, what is seen of each
abbrev pub seen_pair : {A B M N : Type 0} → (M → A) → (N → B) → M × N → A × B
seen_pair seen_first seen_last both = (seen_first both.0, seen_last both.1)
