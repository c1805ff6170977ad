-- What two lists of half-planes say together.
use Rattle.std.proofs.Common.{◌≡◌, ◌↔◌, ℕ, ℤ, Bool, true, List, ◌++◌, ◌<◌, length, get_or, Option, Some, None, IfSome, sym, subst}
use Rattle.std.specs.Bool.{OnTrue, OnFalse}
use Rattle.std.specs.Prelude.{not}
use Rattle.std.specs.List.{All}
use Rattle.std.proofs.lemmas.List.Elements.{All-append, All-get_or, All-weaker, All-from_recursion, recursion_from_All}
use Rattle.plane_terms.specs.Point.{Point}
use Rattle.plane_terms.specs.HalfPlane.{HalfPlane, Holds}
use Rattle.plane_terms.specs.Cell.{Cell, HasPoint, meet_of}
use Rattle.plane_terms.specs.Decide.{Edge, low_of, high_of, has_point}
use Rattle.cell_laws.specs.Bounds.{Compatible, FlatHolds, PairsHold}
use Rattle.cell_laws.proofs.Lists.{all_append}
use Rattle.cell_laws.proofs.Decision.{decided_by}
use Rattle.cell_laws.proofs.Meets.{meet_points}
use Rattle.convex_cell.specs.Needed.{SameCells}
use Rattle.convex_cell.proofs.Ranges.{on_true, on_false}

pub all_of_both : {X : Type 0} (P : X → Type 0) (xs ys : List X) → All P (xs ++ ys) ↔ (All P xs × All P ys)
all_of_both P xs ys = (
  λ h. let r = (all_append P xs ys).0 (recursion_from_All P (xs ++ ys) h) in (All-from_recursion P xs r.0, All-from_recursion P ys r.1),
  λ h. All-append P xs ys h.0 h.1,
)

pairs_of_both : (o : Option Edge) (Q : Edge → HalfPlane → Type 0) (a b : Cell) → IfSome o (λ l. All (Q l) (a ++ b))
    ↔ (IfSome o (λ l. All (Q l) a) × IfSome o (λ l. All (Q l) b))
pairs_of_both None Q a b = (λ h. (tt, tt), λ h. tt)
pairs_of_both (Some l) Q a b = all_of_both (Q l) a b

-- what a half-plane says with those of two lists, at x / w
abbrev pub SaysWithBoth : Cell → Cell → ℤ → ℕ → HalfPlane → Type 0
SaysWithBoth a b t w h = FlatHolds h t w × PairsHold a h t w × PairsHold b h t w

says_of_both : (a b : Cell) (t : ℤ) (w : ℕ) (h : HalfPlane) → (FlatHolds h t w × PairsHold (a ++ b) h t w) ↔ SaysWithBoth a b t w h
says_of_both a b t w h =
    let e = pairs_of_both (low_of h) (λ l g. IfSome (high_of g) (λ u. Compatible l u t w)) a b in
    (λ k. let x = e.0 k.1 in (k.0, x.0, x.1), λ k. (k.0, e.1 (k.1, k.2)))

pub half_cut_both : (a b : Cell) (h : HalfPlane) (l : Edge) (t : ℤ) (w : ℕ) (R M N Q : Type 0) → Some l ≡ low_of h
    → (M ↔ (R × FlatHolds h t w)) → (N ↔ (M × All (λ g. IfSome (high_of g) (λ u. Compatible l u t w)) a))
    → (Q ↔ (N × All (λ g. IfSome (high_of g) (λ u. Compatible l u t w)) b)) → Q ↔ (R × SaysWithBoth a b t w h)
half_cut_both a b h l t w R M N Q e m n q =
    let A : Option Edge → Type 0 = λ o. IfSome o (λ l. All (λ g. IfSome (high_of g) (λ u. Compatible l u t w)) a) in
    let B : Option Edge → Type 0 = λ o. IfSome o (λ l. All (λ g. IfSome (high_of g) (λ u. Compatible l u t w)) b) in (
      λ k. let z = q.0 k in let y = n.0 z.0 in let x = m.0 y.0 in (x.0, (x.1, subst A e y.1, subst B e z.1)),
      λ k. q.1 (n.1 (m.1 (k.0, k.1.0), subst A (sym e) k.1.1), subst B (sym e) k.1.2),
    )

-- two cuts, each list by both
pub two_cuts : (a b : Cell) (t : ℤ) (w : ℕ) (R₀ R₁ R₂ : Type 0) → R₀ → (R₁ ↔ (R₀ × All (SaysWithBoth a b t w) a))
    → (R₂ ↔ (R₁ × All (SaysWithBoth a b t w) b)) → R₂ ↔ All (λ h. FlatHolds h t w × PairsHold (a ++ b) h t w) (a ++ b)
two_cuts a b t w R₀ R₁ R₂ r e f =
    let P : HalfPlane → Type 0 = λ h. FlatHolds h t w × PairsHold (a ++ b) h t w in
    let says = says_of_both a b t w in
    let joined = all_of_both P a b in
    let out = All-weaker (SaysWithBoth a b t w) P (λ h. (says h).1) in
    let back = All-weaker P (SaysWithBoth a b t w) (λ h. (says h).0) in (
      λ k. let y = f.0 k in let x = e.0 y.0 in joined.1 (out a x.1, out b y.1),
      λ k. let j = joined.0 k in f.1 (e.1 (r, back a j.0), back b j.1),
    )

-- the meet has the points of both lists
pub meet_has : (a b : Cell) → HasPoint (meet_of a b) ↔ HasPoint (a ++ b)
meet_has a b = (
  λ h. (h.0, (all_append (λ g. Holds g h.0) a b).1 ((meet_points a b h.0).0 h.1)),
  λ h. (h.0, (meet_points a b h.0).1 ((all_append (λ g. Holds g h.0) a b).0 h.1)),
)

pub meet_decided : (r : Bool) (a b : Cell) → OnTrue r (¬ (HasPoint (a ++ b))) → OnFalse r (HasPoint (a ++ b))
    → r ≡ not (has_point (meet_of a b))
meet_decided r a b h k =
    decided_by r (meet_of a b) (on_true r _ _ (λ no m. no ((meet_has a b).0 m)) h) (on_false r _ _ (meet_has a b).1 k)

-- the same by half-planes with the points of the first list
pub meet_decided_by : (r : Bool) (n a b : Cell) → SameCells n a → OnTrue r (¬ (HasPoint (n ++ b))) → OnFalse r (HasPoint (n ++ b))
    → r ≡ not (has_point (meet_of a b))
meet_decided_by r n a b same h k =
    decided_by r (meet_of a b) (on_true r _ _ (λ no m. no (there m)) h) (on_false r _ _ back k)
  where
    there : HasPoint (meet_of a b) → HasPoint (n ++ b)
    there m =
        let P : HalfPlane → Type 0 = λ g. Holds g m.0 in
        let s = (meet_points a b m.0).0 m.1 in
        (m.0, (all_append P n b).1 (recursion_from_All P n ((same m.0).1 (All-from_recursion P a s.0)), s.1))

    back : HasPoint (n ++ b) → HasPoint (meet_of a b)
    back m =
        let P : HalfPlane → Type 0 = λ g. Holds g m.0 in
        let s = (all_append P n b).0 m.1 in
        (m.0, (meet_points a b m.0).1 (recursion_from_All P a ((same m.0).0 (All-from_recursion P n s.0)), s.1))

-- one of the first list that is apart from the second
pub none_in_both : (a b : Cell) (i : ℕ) (h : HalfPlane) → i < length a → h ≡ get_or a i h → (r : Bool) → r ≡ true
    → OnTrue r ((p : Point) → Holds h p → ¬ (All (λ g. Holds g p) b)) → ¬ (HasPoint (a ++ b))
none_in_both a b i h l e r t o m =
    let f = subst (λ r. OnTrue r ((p : Point) → Holds h p → ¬ (All (λ g. Holds g p) b))) t o in
    let s = (all_append (λ g. Holds g m.0) a b).0 m.1 in
    f m.0 (subst (λ g. Holds g m.0) (sym e) (All-get_or (λ g. Holds g m.0) a i h l (All-from_recursion (λ g. Holds g m.0) a s.0)))
    (All-from_recursion (λ g. Holds g m.0) b s.1)
