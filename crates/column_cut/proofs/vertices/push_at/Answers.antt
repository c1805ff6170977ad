use Rattle.std.proofs.Common.{◌≡◌, to_z, of_z, w32, arith, true, sym, ◌∙◌}
use Rattle.std.proofs.lemmas.Int.{ints}
use Rattle.column_cut.specs.Vertices.{is_at}
use Rattle.column_cut.proofs.vertices.push_at.Goals as goal

pub returns-then-is_here-clause-value : goal.returns-then-is_here-clause-value
returns-then-is_here-clause-value c = λ rest.
    let here : is_at c.args.place.now.x c.args.x.now ≡ true = sym c.is_here.ensures ∙ c.if-is_here.true in
    let back : to_z w32 (of_z w32 c.y.result) ≡ c.args.place.now.y = omega (arith, ints) in
    rw here (rw back at c.push_new.ensures.value rest)
