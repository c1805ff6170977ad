use Rattle.std.proofs.Common.{◌≡◌, ◌++◌, take, map}
use Rattle.error_store.specs.Frames.{framed_of}
use Rattle.error_store.proofs.frames.note.Given as goal

abbrev pub invariant-loop-e : goal.invariant-loop-e
invariant-loop-e l = l.frames.items ≡ l.fn.frames.items ++ map framed_of (take l.e-index l.entries)
