-- Frames of errors in an index of rectangles.
--
-- framed_of e          the frame of the entry, under the handle of its subject
-- frames_if p es       the frames of the entries that pass the test p, in the order of the entries
-- IsFrame es q         q is the frame of an entry of es, under its subject
-- AreFramed ps es      the frame of each entry stands so among the placed rectangles ps
-- AreFrames ps es      nothing else does
-- IsShared n es q      q is the frame of an entry of es of another rule than n
-- LosesThose F S ps qs     qs holds what ps holds, but for that of which F holds and S does not
-- LosesRule n es ps qs     qs holds what ps holds, but for the frames of the entries of the rule n that no entry of another rule has
use Rattle.std.specs.Prelude.{◌≡◌, ◌↔◌, ◌==◌, ℕ, Bool, not, List, map, Contains}
use Rattle.std.specs.List.{filter}
use Rattle.plane_terms.specs.Lists.{Every, SomeOf}
use Rattle.topology_terms.specs.Entry.{Entry}
use Rattle.grid_index.specs.declared.placed.Placed.{Placed}

abbrev pub framed_of : Entry → Placed
framed_of e = record { rect = e.frame; handle = e.subject }

abbrev pub frames_if : (Entry → Bool) → List Entry → List Placed
frames_if p es = map framed_of (filter p es)

abbrev pub IsFrame : List Entry → Placed → Type 0
IsFrame es q = SomeOf (λ (e : Entry). framed_of e ≡ q) es

abbrev pub AreFramed : List Placed → List Entry → Type 0
AreFramed ps es = Every (λ (e : Entry). Contains ps (framed_of e)) es

abbrev pub AreFrames : List Placed → List Entry → Type 0
AreFrames ps es = (q : Placed) → Contains ps q → IsFrame es q

abbrev pub IsShared : ℕ → List Entry → Placed → Type 0
IsShared n es q = IsFrame (filter (λ (e : Entry). not (e.rule == n)) es) q

abbrev pub LosesThose : (Placed → Type 0) → (Placed → Type 0) → List Placed → List Placed → Type 0
LosesThose F S ps qs = (q : Placed) → Contains qs q ↔ (Contains ps q × (F q → S q))

abbrev pub LosesRule : ℕ → List Entry → List Placed → List Placed → Type 0
LosesRule n es ps qs = LosesThose (Contains (frames_if (λ (e : Entry). e.rule == n) es)) (IsShared n es) ps qs
