use Rattle.std.proofs.Common.{◌≡◌, ◌∙◌, arith, rules}
use Rattle.std.specs.Option.{option_map}
use Rattle.attr_rules.specs.KeptAttributes.{IsRow, first_named}
use Rattle.attr_rules.specs.Rules.{number_of_attribute}
use Rattle.attr_rules.proofs.RowLists.{at_each, each_more, each_none}
use Rattle.attr_rules.proofs.attributes.rows_of.Goals as goal

pub loop-class-init : goal.loop-class-init
loop-class-init c = each_none (IsRow c.args.subclasses.now c.args.names c.args.kept.now) c.new-rows.ensures.items

pub loop-class-preserved : goal.loop-class-preserved
loop-class-preserved c =
    each_more (IsRow c.args.subclasses.now c.args.names c.args.kept.now) c.loop-class.class c.in_ok-row.row {rows = c.loop-class.rows.items} c.in_ok-row.ensures (search rules) c.loop-class.invariant

pub returns : goal.returns
returns c =
    let all : c.loop-class.class ≡ c.args.classes = omega arith in
    record {
      long = c.loop-class.invariant.long ∙ all;
      each = λ class n h g.
          at_each (IsRow c.args.subclasses.now c.args.names c.args.kept.now) (λ o. option_map number_of_attribute o ≡ first_named c.args.subclasses.now c.args.kept.now class n) c.loop-class.class class n
          c.loop-class.invariant (omega arith) (λ row is. is.each n g);
    }
