use Rattle.dirty_area.specs.Indexed.{IsIndexed}
use Rattle.dirty_area.proofs.Indexes.{in_some, block_traded}
use Rattle.dirty_area.proofs.finder.traded.Goals as goal

pub returns-in-Ok : goal.returns-in-Ok
returns-in-Ok c = λ xss l is h. block_traded xss c.args.place c.args.before.now c.args.after.now c.in_ok-index.index c.take_others.new.index
    c.put_others.new.index l is c.take_others.ensures c.in-Ok.ensures
    (in_some (IsIndexed xss) c.args.index c.in_ok-index.index c.in_ok-index.was h)
