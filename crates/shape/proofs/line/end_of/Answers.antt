use Rattle.std.proofs.Common.{arith, ◌/◌, ◌*◌, ◌+◌, ◌≡◌, ap, ◌∙◌, get_or, ◌-◌, length, ℕ}
use Rattle.shape.proofs.Ends.{end_within, part_long, end_first, end_last}
use Rattle.shape.proofs.line.end_of.Goals as goal

pub offset_bounds-parts-i : goal.offset_bounds-parts-i
offset_bounds-parts-i c =
    let l = end_within c.args.parts.now c.args.i (c.args.i / 2) c.requires.long c.requires.within (omega arith) in
    omega arith

pub bounds-parts-i : goal.bounds-parts-i
bounds-parts-i c = omega (arith, end_within c.args.parts.now c.args.i (c.args.i / 2) c.requires.long c.requires.within (omega arith))

pub index-requires : goal.index-requires
index-requires c =
    let l = end_within c.args.parts.now c.args.i (c.args.i / 2) c.requires.long c.requires.within (omega arith) in
    omega (
      arith,
      c.index-parts-i.result.ok,
      part_long c.args.parts.now (c.args.i / 2) c.index-parts-i.result c.requires.long l c.index-parts-i.is,
    )

pub overflow_sub-len : goal.overflow_sub-len
overflow_sub-len c =
    let l = end_within c.args.parts.now c.args.i (c.args.i / 2) c.requires.long c.requires.within (omega arith) in
    omega (
      arith,
      c.len.ensures,
      c.index-parts-i.result.ok,
      part_long c.args.parts.now (c.args.i / 2) c.index-parts-i.result c.requires.long l c.index-parts-i.is,
    )

pub index-requires-else-i-eq0 : goal.index-requires-else-i-eq0
index-requires-else-i-eq0 c =
    let l = end_within c.args.parts.now c.args.i (c.args.i / 2) c.requires.long c.requires.within (omega arith) in
    omega (
      arith,
      c.len.ensures,
      c.index-parts-i.result.ok,
      part_long c.args.parts.now (c.args.i / 2) c.index-parts-i.result c.requires.long l c.index-parts-i.is,
    )

pub returns-then-i-eq0 : goal.returns-then-i-eq0
returns-then-i-eq0 c =
    let l = end_within c.args.parts.now c.args.i (c.args.i / 2) c.requires.long c.requires.within (omega arith) in
    end_first c.args.parts.now c.args.i (c.args.i / 2) c.index-parts-i.result c.index.result.now c.requires.long l c.index-parts-i.is
    (omega (arith, c.if-i-eq0.true)) c.index.ensures

pub returns-else-i-eq0 : goal.returns-else-i-eq0
returns-else-i-eq0 c =
    let l = end_within c.args.parts.now c.args.i (c.args.i / 2) c.requires.long c.requires.within (omega arith) in
    let p = c.index-parts-i.result in
    let q = c.index-else-i-eq0.result.now in
    let odd : c.args.i ≡ 2 * (c.args.i / 2) + 1 = omega (arith, c.if-i-eq0.false) in
    let last : c.len.result - 1 ≡ length p.items - 1 = omega (arith, c.len.ensures, p.ok) in
    end_last c.args.parts.now c.args.i (c.args.i / 2) p q c.requires.long l c.index-parts-i.is odd (c.index-else-i-eq0.ensures
    ∙ ap (λ (n : ℕ). get_or p.items n q) last)
