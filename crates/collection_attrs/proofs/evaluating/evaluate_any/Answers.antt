use Rattle.std.proofs.Common.{◌∙◌, sym}
use Rattle.equation_law.specs.Codes.{instance_by}
use Rattle.equation_law.specs.Equations.{collection_of}
use Rattle.equation_law.specs.Systems.{program_of}
use Rattle.collection_attrs.proofs.Found.{none_there}
use Rattle.collection_attrs.proofs.Grown.{naming_of}
use Rattle.collection_attrs.proofs.evaluating.evaluate_any.Goals as goal

pub survey-requires-clause-collection : goal.survey-requires-clause-collection
survey-requires-clause-collection g c = λ names in_it. sym (c.is_collection.ensures names (naming_of c.requires.sound names in_it)) ∙ c.if-is_collection.true

pub evaluate_instance-requires-clause-single : goal.evaluate_instance-requires-clause-single
evaluate_instance-requires-clause-single g c =
    let p = program_of c.args.system.now in
    λ names in_it. none_there (collection_of p (instance_by p names c.args.i.now)) c.is_collection.result (c.is_collection.ensures names (naming_of c.requires.sound names in_it)) c.if-is_collection.false
