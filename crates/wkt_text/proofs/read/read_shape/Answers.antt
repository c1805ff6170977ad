use Rattle.std.proofs.lemmas.Result.{err_from_is_err_and}
use Rattle.wkt_text.specs.States.{geometry_of}
use Rattle.wkt_text.proofs.Counted.{countable}
use Rattle.wkt_text.proofs.Geometries.{refused}
use Rattle.wkt_text.proofs.read.read_shape.Goals as goal

pub shape_of-requires : goal.shape_of-requires
shape_of-requires c = countable c.args.text.now (geometry_of c.in_ok-geometry.geometry) c.requires c.in_ok-geometry.ensures.found

pub returns-in_err-geometry : goal.returns-in_err-geometry
returns-in_err-geometry c =
    let p = err_from_is_err_and c.from_residual.result c.from_residual.ensures.1 in
    rw (p.1, p.2) (refused c.args.text.now c.in_err-geometry.field-0.0 c.in_err-geometry.ensures.found)
