use Rattle.std.proofs.Common.{◌≤◌, ◌++◌, false, ap, arith, length, map}
use Rattle.equation_law.specs.declared.coding.Single.TheVariants.{Truth}
use Rattle.equation_law.specs.Program.{text_of as text_in}
use Rattle.equation_law.specs.Systems.{program_of}
use Rattle.query_lang.specs.Singles.{single_text}
use Rattle.query_lang.proofs.Joining.{all_left, next_left, none_left}
use Rattle.query_lang.proofs.replies.add_elements.Goals as goal

pub elements-init : goal.elements-init
elements-init c = ap (λ t. c.args.text.now.items ++ t) (all_left (map (single_text (text_in (program_of c.args.system.now))) c.args.list.now))

pub elements-preserved : goal.elements-preserved
elements-preserved c =
    next_left (single_text (text_in (program_of c.args.system.now))) c.args.list.now c.elements.i c.elements.text.items _ c.elements.invariant (Truth false) c.add_element.new.text.items c.elements-test.true c.in_ok-add_element.ensures

pub returns : goal.returns
returns c =
    let past : length c.args.list.now ≤ c.elements.i = omega (arith, c.elements-test.false) in
    none_left (single_text (text_in (program_of c.args.system.now))) c.args.list.now c.elements.i c.elements.text.items _ c.elements.invariant past
