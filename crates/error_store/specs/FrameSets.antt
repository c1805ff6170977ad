-- Sets of frames of errors, by the order of their handles and sides.
--
-- key_at q             the handle of q, and the sides of its rectangle
-- frame_cmp j k        how frames stand: by handle, and then by side after side
-- has_key s k          whether k is one of the keys s
-- has_place s q        whether the set s has the frame q
-- HasPlace s q         it has it
use Rattle.std.specs.Prelude.{Bool, IsTrue}
use Rattle.std.specs.BTreeSet.{BTreeSet, contains}
use Rattle.std.specs.Ordering.{nat_cmp, int_cmp, ordering_then}
use Rattle.std.specs.declared.cmp.Ordering.{Ordering}
use Rattle.grid_index.specs.declared.placed.Placed.{Placed}
use Rattle.error_store.specs.declared.frame_set.FrameKey.{FrameKey}
use Rattle.error_store.specs.declared.frame_set.FrameSet.{FrameSet}

abbrev pub key_at : Placed → FrameKey
key_at q = record { handle = q.handle; x0 = q.rect.x0; y0 = q.rect.y0; x1 = q.rect.x1; y1 = q.rect.y1 }

abbrev pub frame_cmp : FrameKey → FrameKey → Ordering
frame_cmp j k = ordering_then (nat_cmp j.handle k.handle) (ordering_then (int_cmp j.x0 k.x0) (ordering_then (int_cmp j.y0 k.y0)
    (ordering_then (int_cmp j.x1 k.x1) (int_cmp j.y1 k.y1))))

abbrev pub has_key : BTreeSet FrameKey → FrameKey → Bool
has_key s k = contains frame_cmp s k

abbrev pub has_place : FrameSet → Placed → Bool
has_place s q = has_key s.keys (key_at q)

abbrev pub HasPlace : FrameSet → Placed → Type 0
HasPlace s q = IsTrue (has_place s q)
