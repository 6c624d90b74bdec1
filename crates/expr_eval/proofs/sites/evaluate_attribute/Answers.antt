use Rattle.expr_eval.proofs.Forms.{advances_read}
use Rattle.expr_eval.proofs.Found.{resumes_later}
use Rattle.expr_eval.proofs.sites.evaluate_attribute.Goals as goal

pub at_site-requires-clause-ready : goal.at_site-requires-clause-ready
at_site-requires-clause-ready g c = (advances_read c.requires.ready c.find_equation-site.ensures.found.kept).sound

pub at_site-requires-clause-single : goal.at_site-requires-clause-single
at_site-requires-clause-single g c = λ n named. c.requires.single n (c.find_equation-site.ensures.found.kept.names n named)

pub returns-clause-resumes : goal.returns-clause-resumes
returns-clause-resumes g c = resumes_later c.requires.ready c.find_equation-site.ensures.found.kept c.at_site.ensures.resumes
