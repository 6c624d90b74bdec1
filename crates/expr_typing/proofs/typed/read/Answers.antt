use Rattle.std.proofs.Common.{◌≢◌, ◌≡◌, false, IfOk, Result, Ok, Err, sym, subst, ◌∙◌}
use Rattle.rag_io.specs.declared.Memory.{Memory}
use Rattle.attr_rules.specs.contracts.accessors.AccessPartialEq.TheImpl as same
use Rattle.attr_rules.specs.declared.accessors.Access.{Access}
use Rattle.attr_rules.specs.declared.accessors.Access.TheVariants as access
use Rattle.attr_rules.specs.declared.accessors.Accessor.{Accessor}
use Rattle.attr_rules.specs.declared.expression.TExpr.{TExpr}
use Rattle.attr_rules.specs.Expression.{Expression, expression_of}
use Rattle.expr_typing.specs.Typed.{SaysAlone, read_by}
use Rattle.expr_typing.proofs.typed.read.Goals as goal

-- what is said without an argument is said whatever argument there is
said_alone : (x : Accessor) (o : Result TExpr Memory) (r i : Expression) → x.access ≢ access.Element → IfOk o (λ e. SaysAlone x r (expression_of e)) → IfOk o (λ e. expression_of e ≡ read_by x r i)
said_alone x (Ok e) r i other h = h i other
said_alone x (Err m) r i other h = tt

-- what isn't equal to the element of a list is none
no_element : (a : Access) → same.ghosts.eq a access.Element ≡ false → a ≢ access.Element
no_element a apart is = let itself = subst (λ x. same.ghosts.eq x access.Element ≡ false) is apart in cc

pub returns : goal.returns
returns c = said_alone c.args.accessor c.read_alone.result (expression_of c.args.receiver) (expression_of c.args.argument) (no_element c.args.accessor.access (sym c.eq.ensures ∙ c.if-eq.false)) c.read_alone.ensures
