-- An index over the blocks of a list of dirt, in which the handle of a rectangle is the place of its block.
--
-- placed_at k r           the rectangle under the handle k
-- IsIndexed xss ps        the index holds each rectangle of the list at a place under that place, and nothing else
-- IsAt k xs q             q is a rectangle of xs under the handle k
-- GainsSome k xs f ps qs  qs holds what ps holds, and those of xs under k for which the test holds
-- LosesSome k xs f ps qs  qs holds what ps holds, without those of xs under k for which the test holds
-- MeetsAt xss r k         some rectangle of the list at the place k meets r
-- is_same s t             the test whether s and t are one rectangle
use Rattle.std.specs.Prelude.{◌≡◌, ◌↔◌, ◌⊎◌, ℕ, Bool, true, ◌&&◌, List, [], Contains, get_or}
use Rattle.std.specs.Ordering.{int_eq}
use Rattle.plane_terms.specs.Rectangle.{Rectangle, rects_meet}
use Rattle.grid_index.specs.declared.placed.Placed.{Placed}

abbrev pub placed_at : ℕ → Rectangle → Placed
placed_at k r = record { rect = r; handle = k }

abbrev pub IsIndexed : List (List Rectangle) → List Placed → Type 0
IsIndexed xss ps = (q : Placed) → Contains ps q ↔ Contains (get_or xss q.handle []) q.rect

abbrev pub IsAt : ℕ → List Rectangle → Placed → Type 0
IsAt k xs q = (q.handle ≡ k) × Contains xs q.rect

abbrev pub GainsSome : ℕ → List Rectangle → (Rectangle → Bool) → List Placed → List Placed → Type 0
GainsSome k xs f ps qs = (q : Placed) → Contains qs q ↔ (Contains ps q ⊎ (IsAt k xs q × (f q.rect ≡ true)))

abbrev pub LosesSome : ℕ → List Rectangle → (Rectangle → Bool) → List Placed → List Placed → Type 0
LosesSome k xs f ps qs = (q : Placed) → Contains qs q ↔ (Contains ps q × ¬ (IsAt k xs q × (f q.rect ≡ true)))

abbrev pub MeetsAt : List (List Rectangle) → Rectangle → ℕ → Type 0
MeetsAt xss r k = (s : Rectangle) × Contains (get_or xss k []) s × (rects_meet s r ≡ true)

abbrev pub is_same : Rectangle → Rectangle → Bool
is_same s t = int_eq s.x0 t.x0 && (int_eq s.y0 t.y0 && (int_eq s.x1 t.x1 && int_eq s.y1 t.y1))
