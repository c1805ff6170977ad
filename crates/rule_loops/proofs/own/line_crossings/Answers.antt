use Rattle.std.proofs.Common.{sym}
use Rattle.plane_terms.specs.declared.kind.Kind.TheVariants as kind
use Rattle.shape.specs.Given.{rings_in}
use Rattle.rule_loops.proofs.Parts.{line_rings_of, rings_segments}
use Rattle.rule_loops.proofs.own.line_crossings.Goals as goal

pub later_crossings-requires : goal.later_crossings-requires
later_crossings-requires c =
    let s = c.args.line.now in
    let parts = c.lines.result.now in
    rings_segments s kind.Line (rings_in parts) c.segs.result.now c.requires
    (line_rings_of s parts (c.lines.ensures.parts c.requires)) c.segs.ensures.value

pub returns-then-seg_count-lt-FEWEST : goal.returns-then-seg_count-lt-FEWEST
returns-then-seg_count-lt-FEWEST c = rw (sym (line_rings_of c.args.line.now c.lines.result.now (c.lines.ensures.parts c.requires))) at c.later_crossings.ensures

pub crossings_by_block-requires : goal.crossings_by_block-requires
crossings_by_block-requires c =
    let s = c.args.line.now in
    let parts = c.lines-2.result.now in
    rings_segments s kind.Line (rings_in parts) c.of.result c.requires (line_rings_of s parts (c.lines-2.ensures.parts c.requires)) c.of.ensures

pub returns : goal.returns
returns c = rw (sym (line_rings_of c.args.line.now c.lines-2.result.now (c.lines-2.ensures.parts c.requires))) at c.crossings_by_block.ensures
