-- A loop over a view or over segments: what has been made with one feature more, and where nothing is left to carve.
use Rattle.std.proofs.Common.{◌≡◌, ℕ, ◌+◌, ◌<◌, ◌≤◌, Bool, true, false, List, [], ◌∷◌, ◌++◌, Some, refl, sym, ◌∙◌, ap, take, drop, length, get_or, cond, map, append-nil, arith}
use Rattle.std.specs.Prelude.{slice_get, not, ◌==◌, ◌&&◌, flat_map}
use Rattle.std.specs.List.{filter}
use Rattle.std.proofs.lemmas.Grind.{flat_map-append}
use Rattle.std.proofs.lemmas.List.{map-append, take-append-drop}
use Rattle.std.proofs.lemmas.List.Elements.{filter_more, filter-append}
use Rattle.plane_terms.specs.Rectangle.{Rectangle, rects_meet}
use Rattle.plane_terms.specs.Segment.{Segment, box_of}
use Rattle.plane_terms.specs.Cell.{Cell, on_segment, out_of_segment, weak_of}
use Rattle.plane_terms.specs.Carve.{carve_of}
use Rattle.plane_terms.proofs.Truths.{both_parts}
use Rattle.topology_terms.specs.Feature.{Feature, is_on_side, Side, sides, env}
use Rattle.topology_terms.specs.Cells.{uncovered, outside, box_meets, out_of_segments}
use Rattle.topology_terms.specs.Plans.{others, open_ground, gap_cells}
use Rattle.sound_laws.proofs.FeatureFilters.{kept_twice}
use Rattle.shape.specs.Frames.{IsRound}
use Rattle.rule_core.proofs.Partners.{kept_more}
use Rattle.rule_loops.specs.Open.{outsides}
use Rattle.topology_terms.specs.Together.{of_side}
use Rattle.rule_loops.specs.Views.{other_of, beside, left_of_segment}
use Rattle.rule_loops.specs.Blocks.{block_count, left_from, block_of}
use Rattle.rule_loops.proofs.Blocked.{left_block, left_none}
use Rattle.rule_loops.proofs.Boxes.{none_beside, none_in_frame}
use Rattle.rule_loops.proofs.Carved.{uncovered-append, stopped}

-- ---- the features that pass a test
kept_apart : {A : Type 0} (test : A → Bool) (F : List A) (i : ℕ) → filter test F ≡ filter test (take i F) ++ filter test (drop i F)
kept_apart test F i = ap (filter test) (sym (take-append-drop i F)) ∙ filter-append test (take i F) (drop i F)

pub side_more : (S : Side) (F : List Feature) (i : ℕ) (g : Feature) (b : Bool) → slice_get F i ≡ Some g → is_on_side S g ≡ b
    → of_side S (take (i + 1) F) ≡ of_side S (take i F) ++ cond b (g ∷ []) []
side_more S F i g b e t = kept_more (is_on_side S) F i g b e t

pub side_apart : (S : Side) (F : List Feature) (i : ℕ) → of_side S F ≡ of_side S (take i F) ++ of_side S (drop i F)
side_apart S F i = kept_apart (is_on_side S) F i

-- ---- what segments leave of a segment
chosen_more : (s : Segment) (ts : List Segment) (i : ℕ) (t : Segment) (b : Bool) → i < length ts → t ≡ get_or ts i t → box_meets s t ≡ b
    → filter (box_meets s) (take (i + 1) ts) ≡ filter (box_meets s) (take i ts) ++ cond b (t ∷ []) []
chosen_more s ts i t b l e m =
    let one : cond (box_meets s (get_or ts i t)) (get_or ts i t ∷ []) [] ≡ cond b (t ∷ []) [] = rw (← e, m) refl in
    filter_more (box_meets s) ts i t l ∙ ap (λ us. filter (box_meets s) (take i ts) ++ us) one

pub off_more : (s : Segment) (ts : List Segment) (i : ℕ) (t : Segment) (cs left : List Cell) → i < length ts → t ≡ get_or ts i t
    → box_meets s t ≡ true → left ≡ uncovered cs (out_of_segments s (take i ts))
    → carve_of left (out_of_segment t) ≡ uncovered cs (out_of_segments s (take (i + 1) ts))
off_more s ts i t cs left l e m h =
    let us = filter (box_meets s) (take i ts) in
    rw h (sym (ap (λ vs. uncovered cs (map {A = Segment} out_of_segment vs)) (chosen_more s ts i t true l e m)
    ∙ (ap (uncovered cs) (map-append out_of_segment us (t ∷ []))
    ∙ uncovered-append cs (map {A = Segment} out_of_segment us) (out_of_segment t ∷ []))))

pub off_same : (s : Segment) (ts : List Segment) (i : ℕ) (t : Segment) (cs left : List Cell) → i < length ts → t ≡ get_or ts i t
    → box_meets s t ≡ false → left ≡ uncovered cs (out_of_segments s (take i ts))
    → left ≡ uncovered cs (out_of_segments s (take (i + 1) ts))
off_same s ts i t cs left l e m h = h ∙ sym
    (ap (λ vs. uncovered cs (map {A = Segment} out_of_segment vs))
    (chosen_more s ts i t false l e m ∙ append-nil (filter (box_meets s) (take i ts))))

pub off_none : (s : Segment) (ts : List Segment) (i : ℕ) (cs left : List Cell) → left ≡ uncovered cs (out_of_segments s (take i ts))
    → length left ≡ 0 → left ≡ uncovered cs (out_of_segments s ts)
off_none s ts i cs left h z =
    let us = filter (box_meets s) (take i ts) in
    let vs = filter (box_meets s) (drop i ts) in
    stopped cs left (out_of_segments s ts) (map {A = Segment} out_of_segment us) (map {A = Segment} out_of_segment vs)
    (ap (map {A = Segment} out_of_segment) (kept_apart (box_meets s) ts i) ∙ map-append out_of_segment us vs) h z

-- ---- block by block
pub off_block : (s : Segment) (k : ℕ) (ts : List Segment) (left new all : List Cell) → new ≡ uncovered left (out_of_segments s (block_of k ts))
    → uncovered left (out_of_segments s (left_from k ts)) ≡ all → uncovered new (out_of_segments s (left_from (k + 1) ts)) ≡ all
off_block s k ts left new all n h =
    let own = filter (box_meets s) (block_of k ts) in
    let later = filter (box_meets s) (left_from (k + 1) ts) in
    let both : out_of_segments s (left_from k ts) ≡ out_of_segments s (block_of k ts) ++ out_of_segments s (left_from (k + 1) ts) =
    ap (λ us. map {A = Segment} out_of_segment (filter (box_meets s) us)) (left_block k ts)
    ∙ (ap (map {A = Segment} out_of_segment) (filter-append (box_meets s) (block_of k ts) (left_from (k + 1) ts))
    ∙ map-append out_of_segment own later) in
    ap (λ cs. uncovered cs (out_of_segments s (left_from (k + 1) ts))) n
    ∙ (sym (ap (uncovered left) both
    ∙ uncovered-append left (out_of_segments s (block_of k ts)) (out_of_segments s (left_from (k + 1) ts))) ∙ h)

-- none of a block that does not come near
pub off_far : (s : Segment) (k : ℕ) (ts : List Segment) (r : Rectangle) (left new all : List Cell) → IsRound r (block_of k ts)
    → rects_meet (box_of s) r ≡ false → new ≡ left
    → uncovered left (out_of_segments s (left_from k ts)) ≡ all → uncovered new (out_of_segments s (left_from (k + 1) ts)) ≡ all
off_far s k ts r left new all u n e h = off_block s k ts left new all
    (e ∙ sym (ap (uncovered left) (none_in_frame s r (block_of k ts) u n))) h

pub off_blocks : (s : Segment) (k : ℕ) (ts : List Segment) (left all : List Cell) → block_count ts ≤ k
    → uncovered left (out_of_segments s (left_from k ts)) ≡ all → left ≡ all
off_blocks s k ts left all l h = sym (ap (λ us. uncovered left (out_of_segments s us)) (left_none k ts l)) ∙ h

-- ---- what features leave of a segment
by_side : (s : Segment) (S : Side) (F : List Feature) (i : ℕ) (g : Feature) (left : List Cell) → slice_get F i ≡ Some g → is_on_side S g
    ≡ true → left ≡ left_of_segment (of_side S (take i F)) s
    → uncovered left (out_of_segments s (sides g)) ≡ left_of_segment (of_side S (take (i + 1) F)) s
by_side s S F i g left e t h =
    let outs : Feature → List (List Cell) = λ (g : Feature). out_of_segments s (sides g) in
    let gs = of_side S (take i F) in
    rw h (sym (ap (λ hs. left_of_segment hs s) (side_more S F i g true e t)
    ∙ (ap (uncovered (on_segment s ∷ [])) (flat_map-append outs gs (g ∷ []) ∙ ap (λ l. flat_map outs gs ++ l) (append-nil (outs g)))
    ∙ uncovered-append (on_segment s ∷ []) (flat_map outs gs) (outs g))))

pub of_beside : (S : Side) (s : Segment) (g : Feature) → beside S s g ≡ true → is_on_side S g ≡ true
of_beside S s g e = (both_parts (is_on_side S g) (rects_meet (box_of s) (env g)) e).0

pub segment_more : (s : Segment) (S : Side) (F : List Feature) (i : ℕ) (g : Feature) (left : List Cell) → slice_get F i ≡ Some g
    → beside S s g ≡ true → left ≡ left_of_segment (of_side S (take i F)) s
    → uncovered left (out_of_segments s (sides g)) ≡ left_of_segment (of_side S (take (i + 1) F)) s
segment_more s S F i g left e t h = by_side s S F i g left e (of_beside S s g t) h

-- one that is not beside it is of another side, or has no segment that is
pub segment_same : (s : Segment) (S : Side) (F : List Feature) (i : ℕ) (g : Feature) (left : List Cell) → slice_get F i ≡ Some g
    → beside S s g ≡ false → left ≡ left_of_segment (of_side S (take i F)) s → left ≡ left_of_segment (of_side S (take (i + 1) F)) s
segment_same s S F i g left e t h = by_test (is_on_side S g) refl t
  where
    by_test : (b : Bool) → is_on_side S g ≡ b → (b && rects_meet (box_of s) (env g)) ≡ false → left
        ≡ left_of_segment (of_side S (take (i + 1) F)) s
    by_test true c m = sym (ap (uncovered left) (none_beside s g m)) ∙ by_side s S F i g left e c h
    by_test false c m = h ∙ sym (ap (λ hs. left_of_segment hs s) (side_more S F i g false e c ∙ append-nil (of_side S (take i F))))

pub segment_none : (s : Segment) (S : Side) (F : List Feature) (i : ℕ) (left : List Cell) → left ≡ left_of_segment (of_side S (take i F)) s
    → length left ≡ 0 → left ≡ left_of_segment (of_side S F) s
segment_none s S F i left h z =
    let outs : Feature → List (List Cell) = λ (g : Feature). out_of_segments s (sides g) in
    let gs = of_side S (take i F) in
    let hs = of_side S (drop i F) in
    stopped (on_segment s ∷ []) left (flat_map outs (of_side S F)) (flat_map outs gs) (flat_map outs hs)
    (ap (flat_map outs) (side_apart S F i) ∙ flat_map-append outs gs hs) h z

-- ---- open ground
others_kept : (f : Feature) (S : Side) (F : List Feature) → others f (of_side S F) ≡ filter (other_of S f) F
others_kept f S F = kept_twice (λ (h : Feature). not (h.handle == f.handle)) (is_on_side S) F

pub ground_left : (f : Feature) (S : Side) (F : List Feature) → uncovered (open_ground f []) (outsides S (Some f.handle) F)
    ≡ open_ground f (of_side S F)
ground_left f n F = ap (λ gs. uncovered (open_ground f []) (map {A = Feature} outside gs)) (sym (others_kept f n F))

-- where there is no ground, there is no gap
none_near : (cs : List Cell) → carve_of cs [] ≡ []
none_near [] = refl
none_near (c ∷ cs) = none_near cs

pub no_gap : (f : Feature) (gs : List Feature) (ground : List Cell) → ground ≡ open_ground f gs → length ground ≡ 0 → ground ≡ gap_cells f gs
no_gap f gs [] e z = sym (ap (λ us. carve_of (map {A = Segment} on_segment (sides f)) (map {A = Cell} weak_of us)) (sym e)
    ∙ none_near (map {A = Segment} on_segment (sides f)))
no_gap f gs (c ∷ ground) e z = absurd (omega arith)
