-- What lies beside the window is left exactly where it was there before.
use Rattle.std.proofs.Common.{◌≡◌, inl, inr, refl, sym, subst, Bool, true, false, not, List, [], ◌∷◌, ◌++◌, Contains}
use Rattle.std.specs.Prelude.{int_lt}
use Rattle.std.specs.Int.{int_max, int_min}
use Rattle.std.specs.List.{list_any, filter}
use Rattle.std.proofs.lemmas.Bool.{not_from_false}
use Rattle.std.proofs.lemmas.List.Elements.{Contains-append_left, Contains-push}
use Rattle.plane_terms.specs.Lists.{Every}
use Rattle.plane_terms.specs.Rectangle.{Rectangle, IsProper, is_within, rects_meet, rect_of, part_of}
use Rattle.plane_terms.specs.Dirt.{AreLoose, IsLoose, add_dirt, add_all, cut_from, pieces, piece_if}
use Rattle.plane_terms.proofs.ListLemmas.{IsAmong, contains_among, every_among}
use Rattle.sound_laws.proofs.Pieces.{every_added}
use Rattle.grid_index.proofs.Members.{among, filtered_to}
use Rattle.dirty_area.proofs.Calls.{add_dirt-held, add_dirt-loose, add_all-one, add_all-four, pieces-apart, pieces_round}
use Rattle.dirty_area.proofs.Beside.{part_loose, left_part, right_part, below_part, above_part, piece_added, pieces_loose, put_last}

-- ---- it stays
stays_added : (d : List Rectangle) (q s : Rectangle) → is_within s q ≡ false → Contains d s → Contains (add_dirt d q) s
stays_added d q s out m = at (list_any (λ t. is_within q t) d) refl
  where
    at : (b : Bool) → list_any (λ t. is_within q t) d ≡ b → Contains (add_dirt d q) s
    at true t = rw (add_dirt-held d q t) m
    at false t = rw (add_dirt-loose d q t) (Contains-append_left (filter (λ o. not (is_within o q)) d) (q ∷ []) s
        (contains_among _ s (filtered_to (λ o. not (is_within o q)) d s (among d s m) (not_from_false (is_within s q) out))))

stays_if : (d : List Rectangle) (b : Bool) (q s : Rectangle) → is_within s q ≡ false → Contains d s → Contains (add_all d (piece_if b q)) s
unfolding add_all
stays_if d true q s out m = stays_added d q s out m
stays_if d false q s out m = m

stays_round : (d : List Rectangle) (y s w : Rectangle) → IsProper w → rects_meet s w ≡ false → AreLoose y s → Contains d s
    → Contains (add_all d (pieces y w)) s
stays_round d y s w v n l m = by (rects_meet y w) refl
  where
    by : (b : Bool) → rects_meet y w ≡ b → Contains (add_all d (pieces y w)) s
    by false e = rw (pieces-apart y w e, add_all-one) (stays_added d y s l.right m)
    by true e =
        let mx0 = int_max y.x0 w.x0 in
        let mx1 = int_min y.x1 w.x1 in
        let a = left_part y w v e in
        let b = right_part y w v e in
        let c = below_part y w v e in
        let f = above_part y w v e in
        rw (pieces_round y w (part_of y w) e refl, add_all-four)
        (stays_if _ (int_lt w.y1 y.y1) (rect_of mx0 w.y1 mx1 y.y1) s (part_loose _ y s w f.0 f.1 n l).right
        (stays_if _ (int_lt y.y0 w.y0) (rect_of mx0 y.y0 mx1 w.y0) s (part_loose _ y s w c.0 c.1 n l).right
        (stays_if _ (int_lt w.x1 y.x1) (rect_of w.x1 y.y0 y.x1 y.y1) s (part_loose _ y s w b.0 b.1 n l).right
        (stays_if d (int_lt y.x0 w.x0) (rect_of y.x0 y.y0 w.x0 y.y1) s (part_loose _ y s w a.0 a.1 n l).right m))))

stays_cut : (d ys : List Rectangle) (s w : Rectangle) → IsProper w → rects_meet s w ≡ false → Every (AreLoose s) ys → Contains d s
    → Contains (cut_from d ys w) s
unfolding cut_from
stays_cut d [] s w v n l m = m
stays_cut d (y ∷ ys) s w v n l m =
    let back : AreLoose y s = record { left = l.0.right; right = l.0.left } in
    stays_cut (add_all d (pieces y w)) ys s w v n l.1 (stays_round d y s w v n back m)

comes : (d xs : List Rectangle) (s w : Rectangle) → IsProper w → rects_meet s w ≡ false → IsLoose xs → Every (λ t. AreLoose t s) d
    → IsAmong s xs → Contains (cut_from d xs w) s
unfolding cut_from
comes d [] s w v n l h m = absurd m
comes d (y ∷ ys) s w v n l h (inl e) =
    let apart : rects_meet y w ≡ false = subst (λ o. rects_meet o w ≡ false) e n in
    let loose : Every (AreLoose s) ys = subst (λ o. Every (AreLoose o) ys) (sym e) l.0 in
    let last : add_dirt d s ≡ d ++ s ∷ [] = put_last d s h in
    let there : Contains (add_dirt d s) s = rw last (Contains-push d s) in
    let now : Contains (add_all d (pieces y w)) s =
    rw (pieces-apart y w apart, add_all-one) (subst (λ o. Contains (add_dirt d o) s) e there) in
    stays_cut (add_all d (pieces y w)) ys s w v n loose now
comes d (y ∷ ys) s w v n l h (inr m) =
    comes (add_all d (pieces y w)) ys s w v n l.1 (pieces_loose d y s w v n (every_among (AreLoose y) ys l.0 s m) h) m

-- ---- nothing else comes
pub pieces_each : (P : Rectangle → Type 0) (d : List Rectangle) (y w : Rectangle) → IsProper w → Every P d
    → ((q : Rectangle) → rects_meet q w ≡ true → P q) → P y → Every P (add_all d (pieces y w))
pieces_each P d y w v h met p = by (rects_meet y w) refl
  where
    by : (b : Bool) → rects_meet y w ≡ b → Every P (add_all d (pieces y w))
    by false e = rw (pieces-apart y w e, add_all-one) (every_added P d y h p)
    by true e =
        let mx0 = int_max y.x0 w.x0 in
        let mx1 = int_min y.x1 w.x1 in
        let a = left_part y w v e in
        let b = right_part y w v e in
        let c = below_part y w v e in
        let f = above_part y w v e in
        rw (pieces_round y w (part_of y w) e refl, add_all-four)
        (piece_added P _ (int_lt w.y1 y.y1) (rect_of mx0 w.y1 mx1 y.y1)
        (piece_added P _ (int_lt y.y0 w.y0) (rect_of mx0 y.y0 mx1 w.y0)
        (piece_added P _ (int_lt w.x1 y.x1) (rect_of w.x1 y.y0 y.x1 y.y1)
        (piece_added P d (int_lt y.x0 w.x0) (rect_of y.x0 y.y0 w.x0 y.y1) h (met _ a.1)) (met _ b.1)) (met _ c.1)) (met _ f.1))

pub every_from : (P : Rectangle → Type 0) (ys : List Rectangle) → ((s : Rectangle) → IsAmong s ys → P s) → Every P ys
every_from P [] h = tt
every_from P (y ∷ ys) h = (h y (inl refl), every_from P ys (λ s m. h s (inr m)))
