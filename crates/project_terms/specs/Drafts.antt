-- What the lines read so far say, and where a line may stand.
--
-- Draft             the stage that the text has come to, whether its format has subtypes (that of format 1 has none), and the project of
--                   the lines before
-- start             no line is read
-- may_follow a s    a line of the stage s may come behind the stage a: the title first, the next handle behind it, then the sections in
--                   their
--                   order, each of any length, and nothing behind the end
-- takes_cell es     the last error is of cells, so that a cell of it may follow
-- wants_cell es     and it has none yet, so that one must follow
-- is_open s d       a line of the stage s may come next
-- is_cell_open d    a cell may come next: the last error is of cells, and the end is not read
-- with_cell es c    the last error has this cell more
-- last_in f xs      the number of the last element; 0 of none
-- is_before j k     the key j stands before k
-- is_last_key es k  the key stands behind that of the last error
-- is_rectangle r, is_half h      within the limits of rectangles and half-planes
use Rattle.std.specs.Prelude.{ℕ, ◌+◌, Bool, true, false, ◌&&◌, ◌||◌, not, ◌==◌, nat_le, ltb, int_le, unsigned_abs, List, [], ◌∷◌, ◌++◌}
use Rattle.plane_terms.specs.Rectangle.{Rectangle, is_within, whole_grid}
use Rattle.plane_terms.specs.HalfPlane.{HalfPlane}
use Rattle.plane_terms.specs.Cell.{Cell}
use Rattle.topology_terms.specs.Entry.{Entry, Key, key_of}
use Rattle.topology_terms.specs.Project.{Project, empty_project}
use Rattle.project_terms.specs.declared.stage.Stage.{Stage}
use Rattle.project_terms.specs.declared.stage.Stage.TheVariants as stage

pub record Draft : Type 0 where
  pub stage : Stage
  pub typed : Bool
  pub project : Project

abbrev pub start : Draft
start = record { stage = stage.Start; typed = false; project = empty_project }

abbrev pub rank : Stage → ℕ
rank stage.Start = 0
rank stage.Title = 1
rank stage.Next = 2
rank stage.Classes = 3
rank stage.Rules = 4
rank stage.Features = 5
rank stage.Dirt = 6
rank stage.Errors = 7
rank stage.End = 8

abbrev pub may_follow : Stage → Stage → Bool
may_follow stage.Start s = rank s == 1
may_follow stage.Title s = rank s == 2
may_follow stage.End s = false
may_follow a s = nat_le 3 (rank s) && nat_le (rank a) (rank s)

-- no cell is among them
abbrev pub is_bare : List Cell → Bool
is_bare [] = true
is_bare (c ∷ cs) = false

abbrev pub takes_cell : List Entry → Bool
takes_cell [] = false
takes_cell (e ∷ []) = not e.whole
takes_cell (e ∷ f ∷ es) = takes_cell (f ∷ es)

abbrev pub wants_cell : List Entry → Bool
wants_cell [] = false
wants_cell (e ∷ []) = not e.whole && is_bare e.cells
wants_cell (e ∷ f ∷ es) = wants_cell (f ∷ es)

abbrev pub is_open : Stage → Draft → Bool
is_open s d = may_follow d.stage s && not (wants_cell d.project.entries)

abbrev pub is_cell_open : Draft → Bool
is_cell_open d = may_follow d.stage stage.Errors && takes_cell d.project.entries

abbrev pub with_cell : List Entry → Cell → List Entry
with_cell [] c = []
with_cell (e ∷ []) c = record e { cells = e.cells ++ c ∷ [] } ∷ []
with_cell (e ∷ f ∷ es) c = e ∷ with_cell (f ∷ es) c

abbrev pub last_in : {A : Type 0} → (A → ℕ) → List A → ℕ
last_in number [] = 0
last_in number (x ∷ []) = number x
last_in number (x ∷ y ∷ ys) = last_in number (y ∷ ys)

abbrev pub is_before : Key → Key → Bool
is_before j k = ltb j.0 k.0 || ((j.0 == k.0) && (ltb j.1 k.1 || ((j.1 == k.1) && ltb j.2 k.2)))

abbrev pub is_last_key : List Entry → Key → Bool
is_last_key [] k = true
is_last_key (e ∷ []) k = is_before (key_of e) k
is_last_key (e ∷ f ∷ es) k = is_last_key (f ∷ es) k

abbrev pub is_rectangle : Rectangle → Bool
is_rectangle r = is_within r whole_grid && (int_le r.x0 r.x1 && int_le r.y0 r.y1)

abbrev pub is_half : HalfPlane → Bool
is_half h = nat_le (unsigned_abs h.a) 8388608 && (nat_le (unsigned_abs h.b) 8388608 &&
    (nat_le (unsigned_abs h.c) 70368744177664 && ltb 0 (unsigned_abs h.a + unsigned_abs h.b)))
