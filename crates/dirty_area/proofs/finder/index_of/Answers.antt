use Rattle.dirty_area.specs.Blocks.{runs}
use Rattle.dirty_area.specs.Indexed.{IsIndexed}
use Rattle.dirty_area.proofs.Indexes.{ok_in_some}
use Rattle.dirty_area.proofs.finder.index_of.Goals as goal

pub returns : goal.returns
returns c = ok_in_some (IsIndexed (runs c.args.blocks.now)) c.make_index.result c.ok.result c.ok.ensures.value c.make_index.ensures
