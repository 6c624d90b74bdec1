-- The table of `jrag` is right, for files and for single expressions: the test computes.
use Rattle.std.specs.Prelude.{refl}
use Rattle.ll_parser.specs.Stack.{choice_of, Works}
use Rattle.jrag_syntax.specs.declared.jrag_table.TheConstants.{JRAG_CHOICE}
use Rattle.jrag_syntax.specs.JragGrammar.{jrag_grammar}
use Rattle.jrag_syntax.specs.JragClaims.{jrag_claims}
use Rattle.jrag_syntax.specs.Reading.{nonterminal_of}
use Rattle.jrag_syntax.specs.declared.classes.Start.{Start}
use Rattle.jrag_syntax.specs.declared.classes.Start.TheVariants.{File, Expression}

pub jrag_works : (start : Start) → Works jrag_grammar (nonterminal_of start) (choice_of JRAG_CHOICE) (jrag_claims (choice_of JRAG_CHOICE))
jrag_works File = record { fits = refl; same = λ n t. refl }
jrag_works Expression = record { fits = refl; same = λ n t. refl }
