-- The steps of the loop that collects a column's ranks.
use Rattle.std.proofs.Common.{◌≡◌, ℕ, ◌+◌, ◌<◌, ◌≤◌, ℤ, Bool, true, false, cond, sym, subst, ap, ◌∙◌, List, [], ◌∷◌, ◌++◌, length, take}
use Rattle.std.proofs.Common.{get_or, arith}
use Rattle.std.proofs.lemmas.Grind.{common_steps}
use Rattle.std.specs.List.{filter, AllZip}
use Rattle.std.proofs.lemmas.List.Elements.{filter_more}
use Rattle.std.proofs.lemmas.List.{take_all}
use Rattle.column_cut.specs.declared.ranked.Ranked.{Ranked}
use Rattle.plane_terms.specs.Segment.{Segment}
use Rattle.column_cut.specs.Ranks.{IsRankOf, passes}

zip_push : (R : Segment → Ranked → Type 0) (xs : List Segment) (ys : List Ranked) (x : Segment) (y : Ranked) → AllZip R xs ys → R x y
    → AllZip R (xs ++ x ∷ []) (ys ++ y ∷ [])
zip_push R [] [] x y z r = (r, tt)
zip_push R [] (v ∷ vs) x y z r = absurd z
zip_push R (u ∷ us) [] x y z r = absurd z
zip_push R (u ∷ us) (v ∷ vs) x y z r = (z.0, zip_push R us vs x y z.1 r)

module _ (x y : ℤ) (ss : List Segment) (i : ℕ) (s : Segment) (lt : i < length ss) (is : s ≡ get_or ss i s) (rs : List Ranked)
    (before : AllZip (IsRankOf x y) (filter (passes x y) (take i ss)) rs) where
  more : (b : Bool) → passes x y s ≡ b → filter (passes x y) (take (i + 1) ss) ≡ filter (passes x y) (take i ss) ++ cond b (s ∷ []) []
  more b e = filter_more (passes x y) ss i s lt ∙ ap (λ z. filter (passes x y) (take i ss) ++ cond (passes x y z) (z ∷ []) []) (sym is)
      ∙ ap (λ c. filter (passes x y) (take i ss) ++ cond c (s ∷ []) []) e

  pub step_taken : passes x y s ≡ true → (r : Ranked) → IsRankOf x y s r → (us : List Ranked) → us ≡ rs ++ r ∷ []
      → AllZip (IsRankOf x y) (filter (passes x y) (take (i + 1) ss)) us
  step_taken e r f us k = rw (more true e, k) (zip_push (IsRankOf x y) (filter (passes x y) (take i ss)) rs s r before f)

  pub step_left : passes x y s ≡ false → AllZip (IsRankOf x y) (filter (passes x y) (take (i + 1) ss)) rs
  step_left e = rw (more false e) (subst (λ l. AllZip (IsRankOf x y) l rs) (sym (append_nil (filter (passes x y) (take i ss)))) before)
    where
      append_nil : (l : List Segment) → l ++ [] ≡ l
      append_nil l = grind (arith, common_steps)

pub all_taken : (x y : ℤ) (ss : List Segment) (i : ℕ) (rs : List Ranked) → length ss ≤ i
    → AllZip (IsRankOf x y) (filter (passes x y) (take i ss)) rs → AllZip (IsRankOf x y) (filter (passes x y) ss) rs
all_taken x y ss i rs h z = subst (λ l. AllZip (IsRankOf x y) (filter (passes x y) l) rs) (take_all i ss h) z
