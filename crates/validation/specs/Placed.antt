-- Features in a standing index of rectangles and handles, which may hold other pairs too.
--
-- placed_of f          the envelope of the feature and its handle
-- ArePlaced ps F       each live feature of F stands among the placed rectangles ps
-- HasNear ns ps rs     ns has the handle of each of ps whose rectangle meets one of rs; touching is meeting
use Rattle.std.specs.Prelude.{◌≡◌, ℕ, true, List, Some, Contains}
use Rattle.plane_terms.specs.Lists.{SomeOf}
use Rattle.plane_terms.specs.Rectangle.{Rectangle, rects_meet}
use Rattle.topology_terms.specs.Feature.{Feature, feature_at, env}
use Rattle.grid_index.specs.declared.placed.Placed.{Placed}

abbrev pub placed_of : Feature → Placed
placed_of f = record { rect = env f; handle = f.handle }

abbrev pub ArePlaced : List Placed → List Feature → Type 0
ArePlaced ps F = (h : ℕ) (f : Feature) → feature_at F h ≡ Some f → Contains ps (placed_of f)

abbrev pub HasNear : List ℕ → List Placed → List Rectangle → Type 0
HasNear ns ps rs = (q : Placed) → Contains ps q → SomeOf (λ (r : Rectangle). rects_meet r q.rect ≡ true) rs → Contains ns q.handle
