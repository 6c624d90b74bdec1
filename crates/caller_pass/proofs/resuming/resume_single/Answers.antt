use Rattle.std.proofs.Common.{◌≡◌, None, IfSome, sym, subst}
use Rattle.std.proofs.lemmas.Option.{IfSome_then}
use Rattle.equation_law.specs.declared.system.System.{System}
use Rattle.equation_law.specs.declared.coding.Instance.{Instance as CodedInstance}
use Rattle.equation_law.specs.declared.coding.Instance.TheVariants.{Attr as attribute_at}
use Rattle.equation_law.specs.Codes.{codes_in, instance_of, source_names}
use Rattle.equation_law.specs.Equations.{collection_of}
use Rattle.equation_law.specs.Program.{attribute_parameters, text_of}
use Rattle.equation_law.specs.Reading.{AreKnownCodes, IsSound, KnowsInstance}
use Rattle.equation_law.specs.Systems.{program_of}
use Rattle.expr_eval.specs.Saved.{AreSaved}
use Rattle.expr_eval.specs.Sites.{EvaluatesInstance}
use Rattle.inherited_walk.specs.Sites.{FindsEquation, IsSourceSite}
use Rattle.memo_cells.specs.Working.{Held, told_by}
use Rattle.circular_eval.proofs.Tied.{no_collection}
use Rattle.caller_pass.proofs.Sites.{site_known}
use Rattle.caller_pass.proofs.resuming.resume_single.Goals as goal

pub resume_at-requires-clause-sound : goal.resume_at-requires-clause-sound
resume_at-requires-clause-sound c = subst (λ (d : Held). IsSound (program_of c.args.system.now) (told_by d)) (sym c.site-site.ensures.same) c.requires.sound

pub resume_at-requires-clause-saved : goal.resume_at-requires-clause-saved
resume_at-requires-clause-saved c = subst (λ (d : Held). AreSaved c.args.system.now (told_by d) c.args.saved.now) (sym c.site-site.ensures.same) c.requires.saved

pub resume_at-requires-clause-found : goal.resume_at-requires-clause-found
resume_at-requires-clause-found c = λ n is.
    let found = subst (λ (s : System). FindsEquation (program_of s) c.in-Attr.attr c.in-Attr.node c.in-Attr.args c.site-site.result) c.requires.same c.site-site.ensures.found in
    found n (c.requires.sound.named n (subst (λ (d : Held). (told_by d).names n) c.site-site.ensures.same is))

-- the equation is read at a source node, with the arguments of the instance, which the desk knows
pub resume_at-requires-clause-known : goal.resume_at-requires-clause-known
resume_at-requires-clause-known c =
    let p = program_of c.args.system.now in
    let e = c.site-site.new.self in
    let a = c.in-Attr.attr.0 in
    let at = subst (λ (s : System). IfSome c.site-site.result (IsSourceSite (program_of s) c.in-Attr.args)) c.requires.same c.site-site.ensures.source in
    let its = subst (λ (i : CodedInstance). KnowsInstance p (told_by c.args.desk.now) i) c.in-Attr.is c.requires.known in
    let given = subst (λ (d : Held). AreKnownCodes (told_by d) (attribute_parameters p a) (codes_in c.in-Attr.args)) (sym c.site-site.ensures.same) its.1 in
    IfSome_then c.site-site.result at (site_known p (told_by e) (resume_at-requires-clause-sound c) a given)

pub resume_at-requires-clause-single : goal.resume_at-requires-clause-single
resume_at-requires-clause-single c =
    let p = program_of c.args.system.now in
    let single = subst (λ (i : CodedInstance). collection_of p (instance_of p i) ≡ None) c.in-Attr.is c.requires.single in
    λ n is. no_collection p (source_names (text_of p)) n (attribute_at c.in-Attr.attr c.in-Attr.node c.in-Attr.args) single

pub returns-in-Attr-clause-evaluates : goal.returns-in-Attr-clause-evaluates
returns-in-Attr-clause-evaluates c =
    let p = program_of c.args.system.now in
    let e = c.site-site.new.self in
    subst (λ (x : Held). EvaluatesInstance p (told_by x) (told_by c.resume_at.new.reader) c.args.i c.resume_at.result) c.site-site.ensures.same
    (subst (λ (i : CodedInstance). EvaluatesInstance p (told_by e) (told_by c.resume_at.new.reader) i c.resume_at.result) (sym c.in-Attr.is) c.resume_at.ensures.evaluates)

pub returns-in-Query-clause-evaluates : goal.returns-in-Query-clause-evaluates
returns-in-Query-clause-evaluates c = c.resume_instance.ensures.evaluates

pub resume_instance-requires-clause-single : goal.resume_instance-requires-clause-single
resume_instance-requires-clause-single c = λ n is. let p = program_of c.args.system.now in no_collection p (source_names (text_of p)) n c.args.i c.requires.single

pub resume_instance-requires-clause-known : goal.resume_instance-requires-clause-known
resume_instance-requires-clause-known c = c.requires.known
