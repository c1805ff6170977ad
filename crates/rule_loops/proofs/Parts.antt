-- The parts of a line, or the rings of a polygon, one after the other: the segments of the next, and those of all later ones.
use Rattle.std.proofs.Common.{◌≡◌, ℕ, ◌+◌, ◌-◌, ◌<◌, ◌≤◌, List, [], ◌∷◌, ◌++◌, refl, sym, ◌∙◌, ap, take, drop, length, get_or, append_assoc, length-append, arith}
use Rattle.std.specs.Prelude.{flat_map}
use Rattle.std.proofs.lemmas.List.{take_at, drop_at}
use Rattle.plane_terms.specs.Point.{Place}
use Rattle.plane_terms.specs.Segment.{Segment, segment_between}
use Rattle.plane_terms.specs.Cell.{Cell}
use Rattle.plane_terms.specs.Shape.{Shape, path, closed_path, last_of, rings_of, segments_of, segments_by}
use Rattle.plane_terms.specs.declared.kind.Kind.{Kind}
use Rattle.shape.specs.Given.{Ring, rings_in, lines_in, all_rings}
use Rattle.shape.proofs.Dropped.{item_dropped}
use Rattle.shape.proofs.Filled.{line_rings}
use Rattle.topology_terms.specs.Cells.{in_part, later_crossings}

-- ---- the segments of one
pub length-path : (ps : List Place) → length (path ps) ≡ length ps - 1
length-path [] = refl
length-path (p ∷ []) = refl
length-path (p ∷ q ∷ ps) = let h = length-path (q ∷ ps) in omega arith

closed_is : (p q : Place) (ps : List Place) → path (p ∷ ps ++ q ∷ []) ≡ path (p ∷ ps) ++ segment_between (last_of p ps) q ∷ []
closed_is p q [] = refl
closed_is p q (r ∷ ps) = ap (λ ss. segment_between p r ∷ ss) (closed_is r q ps)

pub closed_taken : (ps : List Place) (n : ℕ) → n ≡ length ps - 1 → take n (closed_path ps) ≡ path ps
closed_taken [] n e = rw e refl
closed_taken (p ∷ ps) n e =
    let last = segment_between (last_of p ps) p ∷ [] in
    ap (take n) (closed_is p p ps) ∙ take_at (path (p ∷ ps)) last n (omega (arith, length-path (p ∷ ps)))

-- ---- the next of them, and those behind it
module _ (paths : List Place → List Segment) (parts : List Ring) (k : ℕ) (part : Ring) (l : k < length parts)
    (e : part ≡ get_or parts k part) where
  abbrev pub later : List Segment
  later = flat_map paths (rings_in (drop (k + 1) parts))

  next : rings_in (drop k parts) ≡ part.items ∷ rings_in (drop (k + 1) parts)
  next = ap rings_in (item_dropped parts k part l e)

  pub joined : (rest : List Segment) → rest ≡ flat_map paths (rings_in (drop k parts)) → rest ≡ paths part.items ++ later
  joined rest h = h ∙ ap (flat_map paths) next

  pub part_fits : (rest : List Segment) (n : ℕ) → rest ≡ flat_map paths (rings_in (drop k parts)) → length (paths part.items) ≡ n
      → n ≤ length rest
  part_fits rest n h a = omega (arith, ap length (joined rest h), length-append (paths part.items) later)

  pub own_taken : (rest : List Segment) (n : ℕ) → rest ≡ flat_map paths (rings_in (drop k parts)) → length (paths part.items) ≡ n
      → take n rest ≡ paths part.items
  own_taken rest n h a = ap (take n) (joined rest h) ∙ take_at (paths part.items) later n a

  pub later_left : (rest : List Segment) (n : ℕ) → rest ≡ flat_map paths (rings_in (drop k parts)) → length (paths part.items) ≡ n
      → drop n rest ≡ later
  later_left rest n h a = ap (drop n) (joined rest h) ∙ drop_at (paths part.items) later n a

pub crossings_more : (parts : List Ring) (k : ℕ) (part : Ring) → k < length parts → part ≡ get_or parts k part
    → (es : List Place) (cells new all : List Cell)
    → new ≡ cells ++ in_part es (path part.items) (flat_map path (rings_in (drop (k + 1) parts))) → cells ++ later_crossings es (rings_in (drop k parts)) ≡ all
    → new ++ later_crossings es (rings_in (drop (k + 1) parts)) ≡ all
crossings_more parts k part l e es cells new all b h =
    let rest = later_crossings es (rings_in (drop (k + 1) parts)) in
    let next = ap rings_in (item_dropped parts k part l e) in
    ap (λ cs. cs ++ rest) b ∙ (append_assoc cells (in_part es (path part.items) (flat_map path (rings_in (drop (k + 1) parts)))) rest
    ∙ (sym (ap (λ rs. cells ++ later_crossings es rs) next) ∙ h))

pub paths_more : (parts : List Ring) (k : ℕ) (part : Ring) → k < length parts → part ≡ get_or parts k part
    → (done more new all : List Segment) → more ≡ path part.items → new ≡ done ++ more
    → done ++ flat_map path (rings_in (drop k parts)) ≡ all → new ++ flat_map path (rings_in (drop (k + 1) parts)) ≡ all
paths_more parts k part l e done more new all a b h =
    let rest = flat_map path (rings_in (drop (k + 1) parts)) in
    let next = ap rings_in (item_dropped parts k part l e) in
    ap (λ cs. cs ++ rest) b ∙ (append_assoc done more rest
    ∙ (ap (λ ms. done ++ (ms ++ rest)) a ∙ (sym (ap (λ rs. done ++ flat_map path rs) next) ∙ h)))

-- ---- of a shape
pub line_rings_of : (s : Shape) (parts : List Ring) → lines_in parts ≡ s.parts → rings_of s ≡ rings_in parts
line_rings_of s parts e = ap all_rings (sym e) ∙ line_rings parts

pub rings_segments : (s : Shape) (k : Kind) (rings : List (List Place)) (segments : List Segment) → s.kind ≡ k → rings_of s ≡ rings
    → segments ≡ segments_of s → segments ≡ segments_by k rings
rings_segments s k rings segments e r h = h ∙ (ap (λ j. segments_by j (rings_of s)) e ∙ ap (segments_by k) r)
