-- What an index holds after a change, and which of it a rectangle meets. A list of placed rectangles is read by what it
-- contains, in whatever order and however often.
--
-- HoldsSame ps qs    qs holds what ps holds
-- Gains ps qs p      qs holds p and what ps holds
-- Loses ps qs p      qs holds what ps holds, without p
-- IsNear r ps a      a is the handle of a rectangle of ps that r meets; touching is meeting
-- IsNearRect r ps s  s is a rectangle of ps that r meets
-- IsMet f t P x      x is what f tells of a placed rectangle of which P holds and that passes the test t
-- Adds f t P xs ys   ys holds what xs holds, and what f tells of the placed rectangles of which P holds and that pass the test t
-- AddsHandles, AddsRects    the same of their handles, and of the rectangles themselves that r meets
-- handle_of, rectangle_of     the handle and the rectangle of what is placed
-- is_placed p q      the test whether q is p: the same rectangle under the same handle
use Rattle.std.specs.Prelude.{◌≡◌, ◌≢◌, ◌⊎◌, ◌↔◌, ℕ, Bool, true, ◌&&◌, List, Contains, nat_eq}
use Rattle.std.specs.Ordering.{int_eq}
use Rattle.plane_terms.specs.Rectangle.{Rectangle, rects_meet}
use Rattle.grid_index.specs.declared.placed.Placed.{Placed}

abbrev pub HoldsSame : List Placed → List Placed → Type 0
HoldsSame ps qs = (q : Placed) → Contains qs q ↔ Contains ps q

abbrev pub Gains : List Placed → List Placed → Placed → Type 0
Gains ps qs p = (q : Placed) → Contains qs q ↔ (Contains ps q ⊎ (q ≡ p))

abbrev pub Loses : List Placed → List Placed → Placed → Type 0
Loses ps qs p = (q : Placed) → Contains qs q ↔ (Contains ps q × (q ≢ p))

abbrev pub handle_of : Placed → ℕ
handle_of p = p.handle

abbrev pub rectangle_of : Placed → Rectangle
rectangle_of p = p.rect

abbrev pub IsMet : {A : Type 0} → (Placed → A) → (Rectangle → Bool) → (Placed → Type 0) → A → Type 0
IsMet f t P x = (p : Placed) × P p × (f p ≡ x) × (t p.rect ≡ true)

abbrev pub IsNear : Rectangle → List Placed → ℕ → Type 0
IsNear r ps a = IsMet handle_of (rects_meet r) (Contains ps) a

abbrev pub IsNearRect : Rectangle → List Placed → Rectangle → Type 0
IsNearRect r ps s = IsMet rectangle_of (rects_meet r) (Contains ps) s

abbrev pub Adds : {A : Type 0} → (Placed → A) → (Rectangle → Bool) → (Placed → Type 0) → List A → List A → Type 0
Adds f t P xs ys = (x : _) → Contains ys x ↔ (Contains xs x ⊎ IsMet f t P x)

abbrev pub AddsHandles : (Rectangle → Bool) → (Placed → Type 0) → List ℕ → List ℕ → Type 0
AddsHandles t P ns ms = Adds handle_of t P ns ms

abbrev pub AddsRects : Rectangle → (Placed → Type 0) → List Rectangle → List Rectangle → Type 0
AddsRects r P ss ts = Adds rectangle_of (rects_meet r) P ss ts

abbrev pub is_placed : Placed → Placed → Bool
is_placed p q = nat_eq p.handle q.handle && (int_eq p.rect.x0 q.rect.x0 && (int_eq p.rect.y0 q.rect.y0 &&
    (int_eq p.rect.x1 q.rect.x1 && int_eq p.rect.y1 q.rect.y1)))
