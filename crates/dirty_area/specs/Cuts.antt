-- Dirt that a window is cut out of.
--
-- Cut              the dirt, what is left of it, and the rectangles of it that met the window
-- IsCut d w c      c is the dirt d that the window w is cut out of
-- patched xss cs   lists, with those of the changes at their places
-- AreTrimmed r cs ds    the changes ds are cs without the rectangles that r holds
-- Left             the blocks of dirt, how many of them are done, what is left of those, and what is left of the next so far
-- front l          the rectangles of the blocks that are done
-- between xss i k  the rectangles of the lists from the place i to before the place k
use Rattle.std.specs.Prelude.{◌≡◌, ℕ, ◌-◌, List, [], ◌∷◌, not, filter, take, drop, set}
use Rattle.plane_terms.specs.Lists.{Paired}
use Rattle.plane_terms.specs.Rectangle.{Rectangle, is_within, rects_meet}
use Rattle.plane_terms.specs.Dirt.{cut_dirt}
use Rattle.dirty_area.specs.Blocks.{joined}
use Rattle.dirty_area.specs.declared.left.Change.{Change}

pub record Cut : Type 0 where
  pub whole : List Rectangle
  pub left : List Rectangle
  pub met : List Rectangle

pub record IsCut (d : List Rectangle) (w : Rectangle) (c : Cut) : Type 0 where
  pub whole : c.whole ≡ d
  pub left : c.left ≡ cut_dirt d w
  pub met : c.met ≡ filter (λ r. rects_meet r w) d

abbrev pub patched : List (List Rectangle) → List Change → List (List Rectangle)
patched xss [] = xss
patched xss (c ∷ cs) = patched (set xss c.place c.block.items) cs

abbrev pub AreTrimmed : Rectangle → List Change → List Change → Type 0
AreTrimmed r cs ds = Paired (λ (c d : Change). (d.place ≡ c.place) × (d.block.items ≡ filter (λ s. not (is_within s r)) c.block.items)) cs ds

pub record Left : Type 0 where
  pub runs : List (List Rectangle)
  pub next : ℕ
  pub left : List Rectangle
  pub begun : List Rectangle

abbrev pub front : Left → List Rectangle
front l = joined (take l.next l.runs)

abbrev pub between : List (List Rectangle) → ℕ → ℕ → List Rectangle
between xss i k = joined (take (k - i) (drop i xss))
