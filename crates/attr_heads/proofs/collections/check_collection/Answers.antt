use Rattle.std.proofs.Common.{◌≡◌, ◌∙◌, ap, option_map, subst, sym}
use Rattle.std.specs.Borrow.{Bor}
use Rattle.broken_rules.specs.declared.rule.Rule.TheVariants.{J13}
use Rattle.broken_rules.specs.Notes.{Notes, at}
use Rattle.broken_rules.proofs.Noting.{notes_if, notes_then}
use Rattle.aspect_items.specs.declared.items.Collection as kept_collection
use Rattle.aspect_items.specs.Items.{Collection, seen_collection, seen_type}
use Rattle.attr_scope.specs.WrittenTypes.{type_written}
use Rattle.attr_heads.specs.Collections.{collection_broken, has_no_row}
use Rattle.attr_heads.proofs.collections.check_collection.Goals as goal

abbrev seen : Bor kept_collection.Collection → Collection
seen c = seen_collection c.now

pub returns : goal.returns
returns c =
    let g = c.args.grammar.now in
    let t = seen_type c.args.of.now in
    let x = seen_collection c.in-Some.collection.now in
    let same : c.has_no_row-has_none.result ≡ has_no_row (type_written g t) x = c.has_no_row-has_none.ensures ∙ ap (λ k. has_no_row k x) c.type_written.ensures in
    subst (λ o. Notes (collection_broken g t (option_map seen o)) c.args.faults.now c.check_root.new.faults) (sym c.in-Some.is)
    (notes_then (notes_if c.has_no_row-has_none.result (has_no_row (type_written g t) x) (at x.name.place J13) same c.note_if.ensures) c.check_root.ensures)
