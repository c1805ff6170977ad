use Rattle.std.proofs.Common.{ℕ, Contains}
use Rattle.std.specs.Prelude.{◌↔◌}
use Rattle.std.specs.Global.{Vec}
use Rattle.dirty_area.specs.Blocks.{runs}
use Rattle.dirty_area.specs.Indexed.{MeetsAt}
use Rattle.dirty_area.proofs.Indexes.{ok_in_some}
use Rattle.dirty_area.proofs.finder.Finder.known_places.Goals as goal

pub returns : goal.returns
returns c = ok_in_some (λ (v : Vec ℕ). (k : ℕ) → Contains v.items k ↔ MeetsAt (runs c.args.blocks.now) c.args.r.now k) c.places.result c.ok.result
    c.ok.ensures.value c.places.ensures.meet
