use Rattle.jrag_syntax.specs.declared.classes.Start.TheVariants.{File}
use Rattle.jrag_reader.proofs.OneReading.{one_broken, one_expr, one_items, expr_or_broken, whole_or_broken}
use Rattle.jrag_reader.specs.Parts.{Items}
use Rattle.jrag_reader.proofs.laws.one_reading.Goals as goal

pub returns-clause-items : goal.returns-clause-items
returns-clause-items c = one_items

pub returns-clause-expr : goal.returns-clause-expr
returns-clause-expr c = one_expr

pub returns-clause-broken : goal.returns-clause-broken
returns-clause-broken c = one_broken

pub returns-clause-either_items : goal.returns-clause-either_items
returns-clause-either_items c = λ pool ts a b. whole_or_broken File pool ts (Items a) b

pub returns-clause-either_expr : goal.returns-clause-either_expr
returns-clause-either_expr c = expr_or_broken
