-- Why a point that is found in depth lies outside of all cells of a list.
use Rattle.std.proofs.Common.{◌≡◌, ◌↔◌, ◌∙◌, inl, inr, refl, sym, ap, subst, ℕ, suc, ◌+◌, ◌≤◌, ◌<◌, Bool, true, false, IsTrue, List, [], ◌∷◌, length, take, get_or, arith}
use Rattle.std.specs.Prelude.{slice_get, Some, not}
use Rattle.std.specs.Bool.{OnTrue, OnFalse}
use Rattle.std.proofs.lemmas.Bool.{cases_lt, false≢true}
use Rattle.std.proofs.lemmas.List.{take_all, length-take, nil_from_length}
use Rattle.std.proofs.lemmas.Option.{slice_get-get_or, get_or_from_slice_get}
use Rattle.plane_terms.specs.Point.{Point}
use Rattle.plane_terms.specs.Rectangle.{Rectangle}
use Rattle.plane_terms.specs.Cell.{Cell, InCell, InCells}
use Rattle.plane_terms.specs.Dirt.{Covers}
use Rattle.cell_laws.proofs.Lists.{some_append}
use Rattle.convex_cell.specs.declared.piece.Mark.{Mark}
use Rattle.convex_cell.specs.Piece.{IsMarkOf, IsNarrowed}
use Rattle.validation_laws.proofs.Joining.{take_one}
use Rattle.sound_check.specs.Off.{OffFrom, HasOff, HasNoneOff, HaveOff, HaveNoneOff, IsClearTo, IsOutsideAt}
use Rattle.sound_check.specs.Rest.{IsRest, IsLeftOver, IsWithinOff}
use Rattle.sound_check.proofs.LeftOver.{some_there, left_within}
use Rattle.sound_check.proofs.Rests.{in_cells_stable}

pub at_index : (ds : List Cell) (i : ℕ) → i < length ds → slice_get ds i ≡ Some (get_or ds i [])
at_index ds i l = slice_get-get_or ds i [] l

pub one_cell : (ds : List Cell) (i : ℕ) (a b : Cell) → slice_get ds i ≡ Some a → slice_get ds i ≡ Some b → a ≡ b
one_cell ds i a b e f = sym (get_or_from_slice_get ds i a [] e) ∙ get_or_from_slice_get ds i b [] f

-- ---- as wide again
pub begins_within : (c e : Cell) → take (length c) e ≡ c → length c ≤ length e
begins_within c e h = omega (arith, length-take (length c) e, ap length h)

pub restored : (c e g w : Cell) (n : ℕ) → n ≡ length c → take (length c) e ≡ c → g ≡ e → w ≡ take n g → w ≡ c
restored c e g w n l b s h = h ∙ (ap (take n) s ∙ (ap (λ m. take m e) l ∙ b))

pub marked : (m : Mark) (c d e g : Cell) → IsNarrowed m c d e → g ≡ e → IsMarkOf m (take m.len g)
marked m c d e g made back = subst (IsMarkOf m) (sym (restored c e g (take m.len g) m.len made.mark.long made.begins back refl)) made.mark

-- ---- the cells before the first one that is met
pub clear_more : (ds : List Cell) (j n i : ℕ) (c e : Cell) → e ≡ c → IsClearTo ds j n c
    → ((k : ℕ) → (d : Cell) → slice_get ds k ≡ Some d → n ≤ k → k < i → (p : Point) → InCell e p → ¬ (InCell d p)) → IsClearTo ds j i c
clear_more ds j n i c e same clear more k d s l b p m = elim (cases_lt k n) [
  | inl a ↦ clear k d s l a p m
  | inr a ↦ more k d s a b p (subst (λ (x : Cell). InCell x p) (sym same) m)
]

pub sooner : (ds : List Cell) (j k : ℕ) (c e : Cell) → e ≡ c → IsClearTo ds j k c → HasOff ds k e → HasOff ds j c
sooner ds j k c e same clear h =
    let m : InCell c h.0 = subst (λ (x : Cell). InCell x h.0) same h.1 in
    (h.0, m, λ i d s l n. elim (cases_lt i k) [ inl b ↦ clear i d s l b h.0 m n | inr a ↦ h.2 i d s a n ])

pub none_sooner : (ds : List Cell) (j k : ℕ) (c e : Cell) → e ≡ c → j ≤ k → HasNoneOff ds k e → HasNoneOff ds j c
none_sooner ds j k c e same l h p m o = h p (subst (λ (x : Cell). InCell x p) (sym same) m) (λ i d s a. o i d s (through j k i l a))
  where
    through : (a b c : ℕ) → a ≤ b → b ≤ c → a ≤ c
    through a b c f g = omega arith

-- ---- the parts that a cell leaves
pub outside_at : (ds : List Cell) (i : ℕ) (es fs : List Cell) (x : Cell) → slice_get ds i ≡ Some x → es ≡ fs
    → ((p : Point) → InCells fs p ↔ ¬ (InCell x p)) → IsOutsideAt ds i es
outside_at ds i es fs x e s h d f p = subst (λ (y : Cell). InCells es p ↔ ¬ (InCell y p)) (one_cell ds i x d e f)
    (subst (λ zs. InCells zs p ↔ ¬ (InCell x p)) (sym s) (h p))

pub part_off : (ds es : List Cell) (i k : ℕ) (c d e : Cell) → IsOutsideAt ds i es → slice_get es k ≡ Some d
    → ((p : Point) → InCell e p ↔ (InCell c p × InCell d p)) → HasOff ds (i + 1) e → HasOff ds i c
part_off ds es i k c d e out at points h =
    let m = (points h.0).0 h.1 in
    let there : InCells es h.0 = some_there (λ x. InCell x h.0) es k d at m.1 in (
      h.0,
      m.0,
      λ j x s l n. elim (cases_lt j (i + 1)) [
        | inl b ↦ (out x (subst (λ y. slice_get ds y ≡ Some x) (same j i l b) s) h.0).0 there n
        | inr a ↦ h.2 j x s a n
      ],
    )
  where
    same : (j i : ℕ) → i ≤ j → j < i + 1 → j ≡ i
    same j i l b = omega arith

pub part_none : (ds : List Cell) (i : ℕ) (c d e : Cell) → ((p : Point) → InCell e p ↔ (InCell c p × InCell d p)) → HasNoneOff ds (i + 1) e
    → (p : Point) → InCell c p → InCell d p → ¬ (OffFrom ds i p)
part_none ds i c d e points h p m n o = h p ((points p).1 (m, n)) (λ j x s l. o j x s (less i j l))
  where
    less : (i j : ℕ) → i + 1 ≤ j → i ≤ j
    less i j l = omega arith

pub parts_more : (es : List Cell) (k : ℕ) (c d : Cell) (Q : Point → Type 0) → slice_get es k ≡ Some d → ((p : Point) → InCell c p → InCells (take k es) p → Q p)
    → ((p : Point) → InCell c p → InCell d p → Q p) → (p : Point) → InCell c p → InCells (take (k + 1) es) p → Q p
parts_more es k c d Q at before here p m i =
    elim ((some_append (λ x. InCell x p) (take k es) (d ∷ [])).0 (subst (λ xs. InCells xs p) (take_one es k d at) i)) [
      | inl a ↦ before p m a
      | inr b ↦ elim b [ inl u ↦ here p m u | inr v ↦ absurd v ]
    ]

pub parts_all : (ds es : List Cell) (i k : ℕ) (c : Cell) → i < length ds → length es ≤ k → IsOutsideAt ds i es
    → ((p : Point) → InCell c p → InCells (take k es) p → ¬ (OffFrom ds i p)) → HasNoneOff ds i c
parts_all ds es i k c l a out none p m o =
    let at = at_index ds i l in
    none p m (subst (λ xs. InCells xs p) (sym (take_all k es a)) ((out (get_or ds i []) at p).1 (o i (get_or ds i []) at (omega arith)))) o

-- ---- one cell after another
pub cells_more : (ds cs : List Cell) (i : ℕ) (c e : Cell) → slice_get cs i ≡ Some c → ((p : Point) → InCell e p ↔ InCell c p) → HaveNoneOff ds (take i cs)
    → HasNoneOff ds 0 e → HaveNoneOff ds (take (i + 1) cs)
cells_more ds cs i c e at same before here p m =
    elim ((some_append (λ x. InCell x p) (take i cs) (c ∷ [])).0 (subst (λ xs. InCells xs p) (take_one cs i c at) m)) [
      | inl a ↦ before p a
      | inr b ↦ elim b [ inl u ↦ here p ((same p).1 u) | inr v ↦ absurd v ]
    ]

pub cells_one : (ds cs : List Cell) (i : ℕ) (c e : Cell) → slice_get cs i ≡ Some c → ((p : Point) → InCell e p ↔ InCell c p) → HasOff ds 0 e → HaveOff ds cs
cells_one ds cs i c e at same h = (h.0, some_there (λ x. InCell x h.0) cs i c at ((same h.0).0 h.1), h.2)

-- ---- no cell, or none from the first place on
some_index : (p : Point) (ds : List Cell) → InCells ds p → (j : ℕ) × (d : Cell) × (slice_get ds j ≡ Some d) × InCell d p
some_index p [] h = absurd h
some_index p (d ∷ ds) (inl h) = (0, d, refl, h)
some_index p (d ∷ ds) (inr h) = let k = some_index p ds h in (suc k.0, k.1, k.2, k.3)

off_all : (ds : List Cell) (p : Point) → OffFrom ds 0 p → ¬ (InCells ds p)
off_all ds p o i = let s = some_index p ds i in o s.0 s.1 s.2 (omega arith) s.3

all_off : (ds : List Cell) (p : Point) → ¬ (InCells ds p) → OffFrom ds 0 p
all_off ds p n j d e l i = n (some_there (λ x. InCell x p) ds j d e i)

-- ---- what is left over, off the dirt, has no point off the others
pub off_within : (d : List Rectangle) (cs ds left some off : List Cell) (b : Bool) → IsLeftOver cs ds left → IsRest (InCells ([] ∷ [])) left some
    → IsRest (λ p. ¬ (Covers d p)) some off → OnTrue b (HaveOff ds off) → OnFalse b (HaveNoneOff ds off) → IsTrue (not b) ↔ IsWithinOff d cs ds
off_within d cs ds left some off true h a b found none = (
  λ t. absurd (false≢true t),
  λ w.
      let m = (b.points found.0).0 found.1 in
      let l = (a.points found.0).0 m.0 in
      absurd (off_all ds found.0 found.2 (w found.0 m.1 (h.some found.0 l.0))),
)
off_within d cs ds left some off false h a b found none = (
  λ t. (left_within d cs ds left h).0 (λ p o i. in_cells_stable ds p (λ n. none p ((b.points p).1 ((a.points p).1 (i, inl tt), o)) (all_off ds p n))),
  λ w. refl,
)

pub none_within : (d : List Rectangle) (cs ds left some off : List Cell) → IsLeftOver cs ds left → IsRest (InCells ([] ∷ [])) left some
    → IsRest (λ p. ¬ (Covers d p)) some off → length off ≡ 0 → IsWithinOff d cs ds
none_within d cs ds left some off h a b e = (left_within d cs ds left h).0
    (λ p o i. absurd (subst (λ xs. InCells xs p) (nil_from_length off e) ((b.points p).1 ((a.points p).1 (i, inl tt), o))))
