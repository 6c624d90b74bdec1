-- Forms of expressions as they are kept, and what is seen of them.
use Rattle.std.proofs.Common.{◌≡◌, map, ap, sym, ◌∙◌}
use Rattle.std.specs.Prelude.{Box, Vec}
use Rattle.std.specs.declared.alloc.Global.{Global}
use Rattle.rag_io.specs.declared.token.Place.{Place}
use Rattle.aspect_items.specs.declared.expression.Expr as kept_expr
use Rattle.aspect_items.specs.declared.expression.Expr.TheFolds.{fold-roll-Expr}
use Rattle.aspect_items.specs.declared.expression.Expr.TheOpen.{Expr-F}
use Rattle.aspect_items.specs.declared.expression.Expr.TheVariants as kept
use Rattle.aspect_items.specs.declared.expression.Expr.TheVariants.{rolls-Cast, rolls-InstanceOf, rolls-Member, rolls-Quantified}
use Rattle.aspect_items.specs.declared.expression.Name as kept_name
use Rattle.aspect_items.specs.declared.expression.Quantifier.{Quantifier}
use Rattle.aspect_items.specs.Expressions.{Expr, Cast, InstanceOf, Member, Quantified, arguments_of, seen_expr, seen_level, seen_name}

pub seen_member : (e : Box kept_expr.Expr Global) (n : kept_name.Name) (es : Vec kept_expr.Expr Global)
    → seen_expr (kept.Member e n es) ≡ Member (seen_expr e.value) (seen_name n) (arguments_of (map seen_expr es.items))
seen_member e n es = ap seen_expr (sym (rolls-Member e n es)) ∙ fold-roll-Expr Expr seen_level (Expr-F.Member e n es)

pub seen_quantified : (q : Quantifier) (place : Place) (n : kept_name.Name) (range read : Box kept_expr.Expr Global)
    → seen_expr (kept.Quantified q place n range read) ≡ Quantified q place (seen_name n) (seen_expr range.value) (seen_expr read.value)
seen_quantified q place n range read = ap seen_expr (sym (rolls-Quantified q place n range read)) ∙ fold-roll-Expr Expr seen_level (Expr-F.Quantified q place n range read)

pub seen_cast : (place : Place) (n : kept_name.Name) (e : Box kept_expr.Expr Global) → seen_expr (kept.Cast place n e) ≡ Cast place (seen_name n) (seen_expr e.value)
seen_cast place n e = ap seen_expr (sym (rolls-Cast place n e)) ∙ fold-roll-Expr Expr seen_level (Expr-F.Cast place n e)

pub seen_instance : (e : Box kept_expr.Expr Global) (n : kept_name.Name) → seen_expr (kept.InstanceOf e n) ≡ InstanceOf (seen_expr e.value) (seen_name n)
seen_instance e n = ap seen_expr (sym (rolls-InstanceOf e n)) ∙ fold-roll-Expr Expr seen_level (Expr-F.InstanceOf e n)
