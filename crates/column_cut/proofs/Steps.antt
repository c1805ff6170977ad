-- The steps of the loops that push cells, and what lies last.
use Rattle.std.proofs.Common.{◌≡◌, ℕ, suc, ◌+◌, ◌-◌, ◌<◌, ℤ, arith, sym, ap, refl, ◌∙◌, List, [], ◌∷◌, ◌++◌, append_assoc, length, get_or}
use Rattle.std.proofs.Common.{drop, Option, Some, None, subst}
use Rattle.std.specs.Prelude.{slice_get, Result, Ok, Err, OnOk, unwrap_or}
use Rattle.std.specs.Option.{option_copied}
use denote.Ref.{Bor}
use Rattle.std.proofs.lemmas.List.{drop_more, get_or_default}
use Rattle.std.proofs.lemmas.List.Elements.{filter-append}
use Rattle.std.proofs.lemmas.Option.{unwrap_or-slice_get}
use Rattle.plane_terms.specs.Cell.{Cell}
use Rattle.plane_terms.specs.Carve.{kept}
use Rattle.plane_terms.specs.Decide.{has_point}
use Rattle.plane_terms.specs.Columns.{last}

-- what F makes of a list, piece by piece: the cells of the next one are pushed
pub push_step : {X : Type 0} (F : List X → List Cell) (one : X → List Cell) → ((g : X) (gs : List X) → F (g ∷ gs) ≡ one g ++ F gs)
    → (gs : List X) (i : ℕ) (g : X) → i < length gs → g ≡ get_or gs i g → (old new whole : List Cell)
    → old ++ kept (F (drop i gs)) ≡ whole → new ≡ old ++ kept (one g) → new ++ kept (F (drop (i + 1) gs)) ≡ whole
push_step F one step gs i g l is old new whole before pushed =
    let next : drop i gs ≡ g ∷ drop (i + 1) gs = drop_more gs i g l ∙ ap (λ y. y ∷ drop (i + 1) gs) (sym is) in
    let rest = F (drop (i + 1) gs) in
    let f : kept (F (drop i gs)) ≡ kept (one g) ++ kept rest = ap (λ hs. kept (F hs)) next ∙ ap kept (step g (drop (i + 1) gs))
    ∙ filter-append has_point (one g) rest in
    ap (λ cs. cs ++ kept rest) pushed ∙ append_assoc old (kept (one g)) (kept rest) ∙ ap (λ cs. old ++ cs) (sym f) ∙ before

-- ---- the last of a list
last_at : (x : ℤ) (xs : List ℤ) → last x xs ≡ get_or xs (length xs - 1) x
last_at x [] = refl
last_at x (y ∷ ys) = last_at y ys ∙ step ys
  where
    step : (ys : List ℤ) → get_or ys (length ys - 1) y ≡ get_or (y ∷ ys) (suc (length ys) - 1) x
    step [] = refl
    step (z ∷ zs) =
        let e : suc (suc (length zs)) - 1 ≡ suc (length zs) = omega arith in
        let f : suc (length zs) - 1 ≡ length zs = omega arith in
        rw (e, f) (get_or_default (z ∷ zs) (length zs) y x (omega arith))

copied_or : (r : Option (Bor ℤ)) (d : Bor ℤ) → (unwrap_or r d).now ≡ unwrap_or (option_copied r) d.now
copied_or (Some b) d = refl
copied_or None d = refl

pub last_is : (r : Option (Bor ℤ)) (d : Bor ℤ) (xs : List ℤ) → option_copied r ≡ slice_get xs (length xs - 1)
    → (unwrap_or r d).now ≡ last d.now xs
last_is r d xs e = copied_or r d ∙ ap (λ o. unwrap_or o d.now) e ∙ unwrap_or-slice_get xs (length xs - 1) d.now ∙ sym (last_at d.now xs)

-- ---- the cells of a wall, and then those of the column to its right, from the same slots
pub strip_done : {E : Type 0} (r : Result (Unit {0}) E) (F G : List Cell → List Cell) (made slots : List Cell) → made ≡ slots
    → (old mid new : List Cell) → mid ≡ old ++ kept (F made) → OnOk r (new ≡ mid ++ kept (G made))
    → OnOk r (new ≡ old ++ kept (F slots ++ G slots))
strip_done (Ok u) F G made slots e old mid new f g =
    subst (λ s. new ≡ old ++ kept (F s ++ G s)) e (g ∙ ap (λ cs. cs ++ kept (G made)) f ∙ append_assoc old (kept (F made)) (kept (G made))
    ∙ ap (λ cs. old ++ cs) (sym (filter-append has_point (F made) (G made))))
strip_done (Err v) F G made slots e old mid new f g = g
