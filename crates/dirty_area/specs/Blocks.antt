-- Blocks: a list of dirt in short parts, of which one can change while the others stay where they are.
--
-- Block             the rectangles of a block, and for how many more there is room
-- runs bs           the rectangles of each block
-- joined xss        lists, one after another
-- all_rects bs      the rectangles of the blocks, one after another
-- HasRoom b n       there is room for n rectangles more in the block b
-- LastHasRoom bs n  there is a last block, with room for n rectangles more
-- IsNumber bs o     the blocks have as many rectangles as o says, where it says how many
use Rattle.std.specs.Prelude.{◌≡◌, ℕ, ◌+◌, ◌-◌, ◌<◌, ◌≤◌, List, map, length, get_or, Option, IfSome}
use Rattle.std.specs.List.{flat_map}
use Rattle.plane_terms.specs.Rectangle.{Rectangle}

pub record Block : Type 0 where
  pub items : List Rectangle
  pub room : ℕ

abbrev pub runs : List Block → List (List Rectangle)
runs bs = map (λ (b : Block). b.items) bs

abbrev pub joined : List (List Rectangle) → List Rectangle
joined xss = flat_map (λ (xs : List Rectangle). xs) xss

abbrev pub all_rects : List Block → List Rectangle
all_rects bs = joined (runs bs)

abbrev pub HasRoom : Block → ℕ → Type 0
HasRoom b n = (n ≤ b.room) × (length b.items + n ≤ 4294967295)

abbrev pub LastHasRoom : List Block → ℕ → Type 0
LastHasRoom bs n = (0 < length bs) × ((d : Block) → HasRoom (get_or bs (length bs - 1) d) n)

abbrev pub IsNumber : List Block → Option ℕ → Type 0
IsNumber bs o = IfSome o (λ n. n ≡ length (all_rects bs))
