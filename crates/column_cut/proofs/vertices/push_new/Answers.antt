use Rattle.std.proofs.Common.{◌≡◌, to_z, of_z, w32}
use Rattle.std.proofs.lemmas.Int.{to_z-of_z}
use Rattle.column_cut.proofs.Ascending.{ascending_known}
use Rattle.column_cut.proofs.vertices.push_new.Goals as goal

pub returns-then-is_last-clause-value : goal.returns-then-is_last-clause-value
returns-then-is_last-clause-value c =
    let back : to_z w32 (of_z w32 c.args.value) ≡ c.args.value = to_z-of_z w32 c.args.value c.ranges.value in
    λ rest. ascending_known c.args.values.now.items rest c.args.value (rw (c.deref.ensures.value, back) at c.if-is_last.ensures)

pub returns-then-is_last-2-clause-value : goal.returns-then-is_last-2-clause-value
returns-then-is_last-2-clause-value c =
    let back : to_z w32 (of_z w32 c.args.value) ≡ c.args.value = to_z-of_z w32 c.args.value c.ranges.value in
    λ rest. ascending_known c.args.values.now.items rest c.args.value (rw (c.deref-2.ensures.value, back) at c.if-is_last-2.ensures)
