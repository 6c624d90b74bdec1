use Rattle.std.proofs.Common.{◌≡◌, Bool, not, Option, Some, None, slice_get, ap, sym, ◌∙◌}
use Rattle.std.specs.Option.{option_map}
use Rattle.ast_grammar.specs.declared.grammar.ClassId.{ClassId}
use Rattle.ast_grammar.specs.Grammar.{Class, abstract_in, number_of}
use Rattle.tree_reader.specs.Breaking.{is_concrete, is_concrete_class}
use Rattle.tree_reader.proofs.laying.is_concrete.Goals as goal

not_abstract : (o : Option Class) (b : Bool) → option_map abstract_in o ≡ Some b → not b ≡ is_concrete_class o
not_abstract None b h = let none : None ≡ Some b = h in cc
not_abstract (Some x) b h = let same : Some x.abstract ≡ Some b = h in let is : x.abstract ≡ b = cc in ap not (sym is)

pub returns-in-Some : goal.returns-in-Some
returns-in-Some c =
    not_abstract (slice_get c.args.grammar.now c.in-Some.class.0) c.is_abstract.result c.is_abstract.ensures
    ∙ sym (ap (λ (o : Option ClassId). is_concrete c.args.grammar.now (option_map number_of o)) c.in-Some.is)
