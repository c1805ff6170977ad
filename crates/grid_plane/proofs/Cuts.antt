-- Whether two segments cross or run along each other, by the tests that decide what they share.
use Rattle.std.proofs.Common.{◌≡◌, Bool, true, false, not, ◌&&◌, ◌||◌, cond, refl, sym, ◌↔◌, IsTrue, inl, inr}
use Rattle.std.proofs.lemmas.Bool.{false≢true}
use Rattle.plane_terms.specs.Segment.{Segment, IsSegment}
use Rattle.plane_terms.specs.Share.{is_beside, is_parallel, has_end_on, share_on_line, share_of}
use Rattle.plane_terms.specs.ShapeFaults.{AreBad}
use Rattle.plane_terms.specs.declared.share.Share.{Share}
use Rattle.plane_terms.specs.declared.share.Share.TheVariants.{Nothing, Along, Cross, Touch}
use Rattle.cell_laws.proofs.Shares.{Means, share_of-means, means_one}
use Rattle.grid_plane.specs.Cuts.{is_cut}

-- the choice, by the values of its tests
abbrev choice : (a b c d e : Bool) → Share → Share
choice a b c d e line = cond (a || b) Nothing (cond c line (cond (d || e) Touch Cross))

no_cut_beside : (a b c d e : Bool) (line : Share) → a ≡ true → is_cut (choice a b c d e line) ≡ false
no_cut_beside true b c d e line f = refl
no_cut_beside false b c d e line f = absurd (false≢true f)

no_cut_beside_other : (a b c d e : Bool) (line : Share) → b ≡ true → is_cut (choice a b c d e line) ≡ false
no_cut_beside_other true true c d e line f = refl
no_cut_beside_other false true c d e line f = refl
no_cut_beside_other a false c d e line f = absurd (false≢true f)

no_cut_at : (a b c d e : Bool) (line : Share) → c ≡ false → d ≡ true → is_cut (choice a b c d e line) ≡ false
no_cut_at true b c d e line f g = refl
no_cut_at false true c d e line f g = refl
no_cut_at false false false true e line f g = refl
no_cut_at false false true d e line f g = absurd (false≢true (sym f))
no_cut_at false false false false e line f g = absurd (false≢true g)

cut_unless : (a b c d e : Bool) (line : Share) → a ≡ false → b ≡ false → c ≡ false → d ≡ false → is_cut (choice a b c d e line) ≡ not e
cut_unless false false false false true line f g h i = refl
cut_unless false false false false false line f g h i = refl
cut_unless true b c d e line f g h i = absurd (false≢true (sym f))
cut_unless false true c d e line f g h i = absurd (false≢true (sym g))
cut_unless false false true d e line f g h i = absurd (false≢true (sym h))
cut_unless false false false true e line f g h i = absurd (false≢true (sym i))

module _ (s t : Segment) where
  -- ---- where the tests end
  pub beside : is_beside s t ≡ true → is_cut (share_of s t) ≡ false
  unfolding share_of
  beside e = no_cut_beside _ (is_beside t s) (is_parallel s t) (has_end_on s t) (has_end_on t s) (share_on_line s t) e

  pub beside_other : is_beside t s ≡ true → is_cut (share_of s t) ≡ false
  unfolding share_of
  beside_other e = no_cut_beside_other (is_beside s t) _ (is_parallel s t) (has_end_on s t) (has_end_on t s) (share_on_line s t) e

  pub at_end : is_parallel s t ≡ false → has_end_on s t ≡ true → is_cut (share_of s t) ≡ false
  unfolding share_of
  at_end e f = no_cut_at (is_beside s t) (is_beside t s) _ _ (has_end_on t s) (share_on_line s t) e f

  pub unless_at_end : is_beside s t ≡ false → is_beside t s ≡ false → is_parallel s t ≡ false → has_end_on s t ≡ false
      → is_cut (share_of s t) ≡ not (has_end_on t s)
  unfolding share_of
  unless_at_end e f g h = cut_unless _ _ _ _ (has_end_on t s) (share_on_line s t) e f g h

  -- ---- what it means
  meant : (r : Share) → Means r s t → IsTrue (is_cut r) ↔ AreBad s t
  meant Nothing h = (λ e. absurd (false≢true e), λ b. elim b [ inl c ↦ absurd (h.never c.meet.at c.meet.first c.meet.second) | inr o ↦ absurd (h.never o.p o.p_on_s o.p_on_t) ])
  meant Along h = (λ _. inr h, λ _. refl)
  meant Cross h = (λ _. inl h, λ _. refl)
  meant Touch h = (λ e. absurd (false≢true e), λ b. elim b [ inl c ↦ wrong (means_one Touch Cross s t h c) | inr o ↦ wrong_too (means_one Touch Along s t h o) ])
    where
      wrong : Touch ≡ Cross → false ≡ true
      wrong e = cc

      wrong_too : Touch ≡ Along → false ≡ true
      wrong_too e = cc

  pub cut_means : IsSegment s → IsSegment t → IsTrue (is_cut (share_of s t)) ↔ AreBad s t
  cut_means g h = meant (share_of s t) (share_of-means s t g h)
