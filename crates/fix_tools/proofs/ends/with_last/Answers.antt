use Rattle.fix_tools.proofs.Snapped.{last_made}
use Rattle.fix_tools.proofs.ends.with_last.Goals as goal

pub returns : goal.returns
returns c =
    last_made c.args.to c.args.part.now c.in_ok-made.made.items c.extend_from_slice.new.self.items c.push.new.self.items c.requires
    c.in_ok-made.ensures.items c.in_ok-extend_from_slice.ensures.items c.in_ok-push.ensures.items
