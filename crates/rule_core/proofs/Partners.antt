-- Going over a view for the partners of its subject: all that it holds are near, and what is found stands in the order of handles.
use Rattle.std.proofs.Common.{◌≡◌, ℕ, ◌<◌, ◌+◌, zero, suc, Bool, true, false, List, [], ◌∷◌, ◌++◌, Some, refl, sym, ◌∙◌, ap, arith, take, get_or, cond, append-nil}
use Rattle.std.specs.Prelude.{◌&&◌, nat_lt, slice_get}
use Rattle.std.specs.List.{filter}
use Rattle.std.proofs.lemmas.List.Elements.{filter_more}
use Rattle.std.proofs.lemmas.Grind.{flat_map-append}
use Rattle.std.proofs.lemmas.Option.{get_or_from_slice_get, slice_get_within}
use Rattle.plane_terms.specs.Lists.{Every}
use Rattle.plane_terms.specs.Cell.{Cell}
use Rattle.plane_terms.specs.Rectangle.{rects_meet}
use Rattle.topology_terms.specs.Feature.{Feature, Side, is_on_side, env, IsAscending}
use Rattle.topology_terms.specs.Broken.{Row}
use Rattle.topology_terms.specs.Meaning.{Finding}
use Rattle.topology_terms.specs.Plans.{near, near_after, finding_of, pair_findings}
use Rattle.plane_terms.proofs.ListLemmas.{every_got}
use Rattle.sound_laws.proofs.FeatureFilters.{same_kept, kept_twice}
pub use Rattle.sound_laws.proofs.FeatureLists.{each_live}
use Rattle.sound_laws.proofs.Meetings.{meets_test}
use Rattle.rule_core.specs.Shown.{IsShown}

-- ---- all of a view are near
module _ (row : Row) (V : List Feature) (a : ℕ) (shown : IsShown row V a) where
  met : Every (λ (g : Feature). rects_meet (env shown.subject) (env g) ≡ true) V
  met = each_live (λ (g : Feature). rects_meet (env shown.subject) (env g) ≡ true) V shown.ascending
      (λ h g e. meets_test (env shown.subject) (env g) (shown.near h g e))

  pub near_shown : (A : Side) → near A shown.subject V ≡ filter (is_on_side A) V
  near_shown A = same_kept (λ g. is_on_side A g && rects_meet (env shown.subject) (env g)) (is_on_side A) V (passed V met)
    where
      meeting : (b m : Bool) → m ≡ true → (b && m) ≡ b
      meeting b m e = grind arith

      passed : (F : List Feature) → Every (λ (g : Feature). rects_meet (env shown.subject) (env g) ≡ true) F
          → Every (λ (g : Feature). (is_on_side A g && rects_meet (env shown.subject) (env g)) ≡ is_on_side A g) F
      passed [] k = tt
      passed (g ∷ F) k = (meeting (is_on_side A g) (rects_meet (env shown.subject) (env g)) k.0, passed F k.1)

  pub near_after_shown : (A : Side) → near_after A shown.subject V ≡ filter (λ g. is_on_side A g && nat_lt shown.subject.handle g.handle) V
  near_after_shown A = ap (filter (λ (g : Feature). nat_lt shown.subject.handle g.handle)) (near_shown A)
      ∙ kept_twice (λ g. nat_lt shown.subject.handle g.handle) (is_on_side A) V

-- ---- one feature after the other
finding_below : (n b : ℕ) (cs : List Cell) (xs : List Finding) → b < n → Every (λ (x : Finding). x.other < n) xs
    → Every (λ (x : Finding). x.other < n) (finding_of b cs ++ xs)
finding_below n b [] xs l k = k
finding_below n b (c ∷ cs) xs l k = (l, k)

-- what is found before a feature is below it
pub found_below : (cells : Feature → List Cell) (test : Feature → Bool) (F : List Feature) (i : ℕ) (g : Feature) → IsAscending F
    → slice_get F i ≡ Some g → Every (λ (x : Finding). x.other < g.handle) (pair_findings cells (filter test (take i F)))
found_below cells test [] i g u e = cc
found_below cells test (f ∷ F) zero g u e = tt
found_below cells test (f ∷ F) (suc i) g u e = pick (test f) (found_below cells test F i g u.1 e)
  where
    pick : (b : Bool) → Every (λ (x : Finding). x.other < g.handle) (pair_findings cells (filter test (take i F)))
        → Every (λ (x : Finding). x.other < g.handle) (pair_findings cells (cond b (f ∷ filter test (take i F)) (filter test (take i F))))
    pick true k = finding_below g.handle f.handle (cells f) (pair_findings cells (filter test (take i F)))
        (every_got (λ (x : Feature). f.handle < x.handle) F i g u.0 e) k
    pick false k = k

-- the features that pass a test, with one feature more
pub kept_more : (test : Feature → Bool) (F : List Feature) (i : ℕ) (g : Feature) (b : Bool) → slice_get F i ≡ Some g → test g ≡ b
    → filter test (take (i + 1) F) ≡ filter test (take i F) ++ cond b (g ∷ []) []
kept_more test F i g b e t =
    let there : get_or F i g ≡ g = get_or_from_slice_get F i g g e in
    let one : cond (test (get_or F i g)) (get_or F i g ∷ []) [] ≡ cond b (g ∷ []) [] = rw (there, t) refl in
    filter_more test F i g (slice_get_within F i g e) ∙ ap (λ gs. filter test (take i F) ++ gs) one

more : (cells : Feature → List Cell) (test : Feature → Bool) (F : List Feature) (i : ℕ) (g : Feature) (b : Bool) → slice_get F i ≡ Some g
    → test g ≡ b → pair_findings cells (filter test (take (i + 1) F)) ≡ pair_findings cells (filter test (take i F))
    ++ pair_findings cells (cond b (g ∷ []) [])
more cells test F i g b e t = ap (pair_findings cells) (kept_more test F i g b e t)
    ∙ flat_map-append (λ (x : Feature). finding_of x.handle (cells x)) (filter test (take i F)) (cond b (g ∷ []) [])

-- with a partner more
pub found_more : (cells : Feature → List Cell) (test : Feature → Bool) (F : List Feature) (i : ℕ) (g : Feature)
    (found part new : List Finding) → slice_get F i ≡ Some g → test g ≡ true
    → found ≡ pair_findings cells (filter test (take i F)) → part ≡ finding_of g.handle (cells g) → new ≡ found ++ part → new
    ≡ pair_findings cells (filter test (take (i + 1) F))
found_more cells test F i g found part new e t h k n =
    let m = more cells test F i g true e t
    ∙ ap (λ xs. pair_findings cells (filter test (take i F)) ++ xs) (append-nil (finding_of g.handle (cells g))) in
    n ∙ (rw (h, k) refl ∙ sym m)

-- with a feature more that is none
pub found_same : (cells : Feature → List Cell) (test : Feature → Bool) (F : List Feature) (i : ℕ) (g : Feature) (found : List Finding)
    → slice_get F i ≡ Some g → test g ≡ false
    → found ≡ pair_findings cells (filter test (take i F)) → found ≡ pair_findings cells (filter test (take (i + 1) F))
found_same cells test F i g found e t h = h
    ∙ sym (more cells test F i g false e t ∙ append-nil (pair_findings cells (filter test (take i F))))
