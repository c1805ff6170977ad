-- What a cut has left and taken, while a part of the list is still to come.
use Rattle.std.proofs.Common.{◌≡◌, refl, sym, ap, ◌∙◌, subst, true, false, List, [], ◌∷◌, ◌++◌, Contains, append_assoc, append-nil}
use Rattle.std.specs.List.{filter}
use Rattle.plane_terms.specs.Lists.{Every}
use Rattle.plane_terms.specs.Rectangle.{Rectangle, IsProper, rects_meet}
use Rattle.plane_terms.specs.Dirt.{AreLoose, IsLoose, add_dirt, add_all, cut_from, cut_dirt, pieces}
use Rattle.plane_terms.proofs.ListLemmas.{every_of_all, contains_among}
use Rattle.dirty_area.specs.Parts.{IsDirt, IsApart, IsSplit, IsOther, IsPartway}
use Rattle.dirty_area.proofs.Calls.{add_all-one, pieces-apart, dirt_added, cut_from-none}
use Rattle.dirty_area.proofs.Beside.{put_last, pieces_loose}
use Rattle.dirty_area.proofs.Splits.{split_none, split_weaker, split_beside, split_pieces, other_apart}
use Rattle.dirty_area.proofs.Kept.{every_from, pieces_each}

-- ---- the state of a cut
pub begun : (xs : List Rectangle) (w : Rectangle) → IsDirt xs → IsPartway xs xs w [] [] []
begun xs w h = record {
  left_rest = refl;
  met_rest = refl;
  come = h;
  of = every_from (Contains xs) xs (λ s m. contains_among xs s m);
  apart = every_of_all (λ x. rects_meet x w ≡ false → Every (λ s. AreLoose s x) []) (λ x n. tt) xs;
  split = split_none (IsOther xs w);
  kept = record { loose = tt; on_grid = tt };
  touch = tt;
}

every_both : (P Q R : Rectangle → Type 0) → ((x : Rectangle) → P x → Q x → R x) → (xs : List Rectangle) → Every P xs → Every Q xs → Every R xs
every_both P Q R f [] h k = tt
every_both P Q R f (x ∷ xs) h k = (f x h.0 k.0, every_both P Q R f xs h.1 k.1)

loose_last : (d : List Rectangle) (x y : Rectangle) → Every (λ s. AreLoose s y) d → AreLoose x y → Every (λ s. AreLoose s y) (d ++ x ∷ [])
loose_last [] x y h l = (l, tt)
loose_last (s ∷ d) x y h l = (h.0, loose_last d x y h.1 l)

-- ---- one beside the window
cut_beside : (d ys : List Rectangle) (x w : Rectangle) → rects_meet x w ≡ false → add_dirt d x ≡ d ++ x ∷ []
    → cut_from d (x ∷ ys) w ≡ cut_from (d ++ x ∷ []) ys w
unfolding cut_from
cut_beside d ys x w e last = ap (λ t. cut_from t ys w) (ap (add_all d) (pieces-apart x w e) ∙ (add_all-one d x ∙ last))

filter_beside : (xs : List Rectangle) (x w : Rectangle) → rects_meet x w ≡ false
    → filter (λ s. rects_meet s w) (x ∷ xs) ≡ filter (λ s. rects_meet s w) xs
filter_beside xs x w e = rw e refl

pub one_beside : (xs rest : List Rectangle) (w : Rectangle) (left met round : List Rectangle) (x : Rectangle) → rects_meet x w ≡ false
    → IsPartway xs (x ∷ rest) w left met round → IsPartway xs rest w (left ++ x ∷ []) met round
one_beside xs rest w left met round x e h =
    let last : add_dirt left x ≡ left ++ x ∷ [] = put_last left x (h.apart.0 e) in
    record {
      left_rest = sym (cut_beside left rest x w e last) ∙ h.left_rest;
      met_rest = ap (λ t. met ++ t) (sym (filter_beside rest x w e)) ∙ h.met_rest;
      come = record { loose = h.come.loose.1; on_grid = h.come.on_grid.1 };
      of = h.of.1;
      apart = every_both (λ y. rects_meet y w ≡ false → Every (λ s. AreLoose s y) left) (AreLoose x)
          (λ y. rects_meet y w ≡ false → Every (λ s. AreLoose s y) (left ++ x ∷ [])) (λ y k l n. loose_last left x y (k n) l)
          rest h.apart.1 h.come.loose.0;
      split = split_beside left round (IsOther xs w) x h.split (e, h.of.0);
      kept = dirt_added left (left ++ x ∷ []) x (sym last) h.kept h.come.on_grid.0;
      touch = h.touch;
    }

-- a run of them
pub run_beside : (xs run rest : List Rectangle) (w : Rectangle) (left met round : List Rectangle) → Every (λ s. rects_meet s w ≡ false) run
    → IsPartway xs (run ++ rest) w left met round → IsPartway xs rest w (left ++ run) met round
run_beside xs [] rest w left met round n h = subst (λ d. IsPartway xs rest w d met round) (sym (append-nil left)) h
run_beside xs (x ∷ run) rest w left met round n h =
    subst (λ d. IsPartway xs rest w d met round) (append_assoc left (x ∷ []) run)
    (run_beside xs run rest w (left ++ x ∷ []) met round n.1 (one_beside xs (run ++ rest) w left met round x n.0 h))

-- ---- one that meets the window
cut_met : (d e ys : List Rectangle) (x w : Rectangle) → e ≡ add_all d (pieces x w) → cut_from d (x ∷ ys) w ≡ cut_from e ys w
unfolding cut_from
cut_met d e ys x w same = ap (λ t. cut_from t ys w) (sym same)

filter_met : (xs : List Rectangle) (x w : Rectangle) → rects_meet x w ≡ true
    → filter (λ s. rects_meet s w) (x ∷ xs) ≡ x ∷ filter (λ s. rects_meet s w) xs
filter_met xs x w e = rw e refl

pub one_met : (xs rest : List Rectangle) (w : Rectangle) (left met round : List Rectangle) (x : Rectangle) (after pieces_after : List Rectangle)
    → IsLoose xs → IsProper w → rects_meet x w ≡ true → after ≡ add_all left (pieces x w) → pieces_after ≡ add_all round (pieces x w)
    → IsDirt after → IsPartway xs (x ∷ rest) w left met round → IsPartway xs rest w after (met ++ x ∷ []) pieces_after
one_met xs rest w left met round x after pieces_after l v e more most kept h = record {
  left_rest = sym (cut_met left after rest x w more) ∙ h.left_rest;
  met_rest = append_assoc met (x ∷ []) (filter (λ s. rects_meet s w) rest) ∙ (ap (λ t. met ++ t) (sym (filter_met rest x w e)) ∙ h.met_rest);
  come = record { loose = h.come.loose.1; on_grid = h.come.on_grid.1 };
  of = h.of.1;
  apart = every_both (λ y. rects_meet y w ≡ false → Every (λ s. AreLoose s y) left) (AreLoose x)
      (λ y. rects_meet y w ≡ false → Every (λ s. AreLoose s y) after)
      (λ y k o n. subst (λ d. Every (λ s. AreLoose s y) d) (sym more) (pieces_loose left x y w v n o (k n))) rest h.apart.1 h.come.loose.0;
  split = rw (more, most) (split_pieces left round (IsOther xs w) x w v e h.split (λ s o. other_apart xs x w s l h.of.0 e o));
  kept = kept;
  touch = subst (λ d. Every (λ s. rects_meet s w ≡ true) d) (sym most)
      (pieces_each (λ s. rects_meet s w ≡ true) round x w v h.touch (λ q t. t) e);
}

-- ---- the end
pub ended : (xs : List Rectangle) (w : Rectangle) (left met round : List Rectangle) → IsPartway xs [] w left met round
    → (left ≡ cut_dirt xs w) × (met ≡ filter (λ s. rects_meet s w) xs) × IsDirt left
ended xs w left met round h = (sym (cut_from-none left w) ∙ h.left_rest, sym (append-nil met) ∙ h.met_rest, h.kept)

pub met_apart : (xs rest : List Rectangle) (w : Rectangle) (left met round : List Rectangle) (x : Rectangle) → IsLoose xs → rects_meet x w ≡ true
    → IsPartway xs (x ∷ rest) w left met round → IsSplit left round (IsApart x w)
met_apart xs rest w left met round x l e h =
    split_weaker left round (IsOther xs w) (IsApart x w) h.split (λ s o. other_apart xs x w s l h.of.0 e o)
