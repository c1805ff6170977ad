-- What is left of cells, carved step by step.
use Rattle.std.proofs.Common.{◌≡◌, ◌↔◌, ◌∙◌, ℕ, zero, suc, ◌+◌, ◌≤◌, nat_eq, false, IsTrue, List, [], ◌∷◌, length, take, inl, inr, refl, sym, subst, ap}
use Rattle.std.specs.Prelude.{slice_get, Some}
use Rattle.std.proofs.Math.Dec.{eqb-suc-zero}
use Rattle.std.proofs.lemmas.Bool.{false≢true}
use Rattle.std.proofs.lemmas.List.{take_all, nil_from_length}
use Rattle.plane_terms.specs.Lists.{SomeOf}
use Rattle.plane_terms.specs.Point.{Point}
use Rattle.plane_terms.proofs.ListLemmas.{some_or_none}
use Rattle.plane_terms.specs.Rectangle.{Rectangle}
use Rattle.plane_terms.specs.Cell.{Cell, InCell, InCells, HavePoints}
use Rattle.plane_terms.specs.Carve.{carve_of}
use Rattle.plane_terms.specs.Dirt.{Covers}
use Rattle.cell_laws.proofs.Lists.{all_append, some_append}
use Rattle.cell_laws.proofs.Meets.{carve_points, kept_have_points}
use Rattle.validation_laws.proofs.Joining.{take_one}
use Rattle.rule_laws.proofs.Covered.{in_or_not}
use Rattle.dirty_area.specs.Parts.{AreNear}
use Rattle.dirty_area.proofs.Nearby.{near_covers}
use Rattle.sound_check.specs.Rest.{IsRest, IsWithinOff}
use Rattle.sound_check.specs.Frames.{HoldsAll}

-- ---- one step
pub carved_rest : (cs ds made : List Cell) → made ≡ carve_of cs ds → IsRest (InCells ds) cs made
carved_rest cs ds made e = subst (IsRest (InCells ds) cs) (sym e) (record { some = kept_have_points _; points = carve_points cs ds })

-- the same points, said otherwise
pub rest_as : (P Q : Point → Type 0) (cs made : List Cell) → ((p : Point) → P p ↔ Q p) → IsRest P cs made → IsRest Q cs made
rest_as P Q cs made e r = record {
  some = r.some;
  points = λ p. (
    λ m. let a = (r.points p).0 m in (a.0, (e p).0 a.1),
    λ m. (r.points p).1 (m.0, (e p).1 m.1),
  );
}

-- ---- the steps of a list
pub some_taken : {A : Type 0} (P : A → Type 0) (xs : List A) (i : ℕ) → SomeOf P (take i xs) → SomeOf P xs
some_taken P [] zero h = h
some_taken P [] (suc i) h = h
some_taken P (x ∷ xs) zero h = absurd h
some_taken P (x ∷ xs) (suc i) h = elim h [ inl a ↦ inl a | inr b ↦ inr (some_taken P xs i b) ]

abbrev pub Outside : {A : Type 0} → (A → Point → Type 0) → List A → Point → Type 0
Outside P xs p = ¬ (SomeOf (λ x. P x p) xs)

pub rest_next : {A : Type 0} (P : A → Point → Type 0) (xs : List A) (i : ℕ) (x : A) (cs old new : List Cell) → slice_get xs i ≡ Some x
    → IsRest (Outside P (take i xs)) cs old → IsRest (λ p. ¬ (P x p)) old new → IsRest (Outside P (take (i + 1) xs)) cs new
rest_next P xs i x cs old new e a b = subst (λ ys. IsRest (Outside P ys) cs new) (sym (take_one xs i x e)) (record {
  some = b.some;
  points = λ p.
      let s = some_append (λ y. P y p) (take i xs) (x ∷ []) in (
        λ m. let k = (b.points p).0 m in let l = (a.points p).0 k.0 in
            (l.0, λ h. elim (s.0 h) [ inl u ↦ l.1 u | inr u ↦ elim u [ inl v ↦ k.1 v | inr v ↦ v ] ]),
        λ m. (b.points p).1 ((a.points p).1 (m.0, λ u. m.1 (s.1 (inl u))), λ u. m.1 (s.1 (inr (inl u)))),
      );
})

-- where nothing is left, the others take nothing away
pub rest_none : {A : Type 0} (P : A → Point → Type 0) (xs : List A) (i : ℕ) (cs rest : List Cell) → length rest ≡ 0
    → IsRest (Outside P (take i xs)) cs rest → IsRest (Outside P xs) cs rest
rest_none P xs i cs rest e r = record {
  some = r.some;
  points = λ p. (
    λ m. absurd (subst (λ ds. InCells ds p) (nil_from_length rest e) m),
    λ m. (r.points p).1 (m.0, λ h. m.1 (some_taken (λ x. P x p) xs i h)),
  );
}

pub rest_all : {A : Type 0} (P : A → Point → Type 0) (xs : List A) (i : ℕ) (cs rest : List Cell) → length xs ≤ i
    → IsRest (Outside P (take i xs)) cs rest → IsRest (Outside P xs) cs rest
rest_all P xs i cs rest l r = subst (λ ys. IsRest (Outside P ys) cs rest) (take_all i xs l) r

pub rest_first : {A : Type 0} (P : A → Point → Type 0) (cs rest : List Cell) → IsRest (InCells ([] ∷ [])) cs rest
    → IsRest (Outside P []) cs rest
rest_first P cs rest r = rest_as (InCells ([] ∷ [])) (Outside P []) cs rest (λ p. (λ m h. h, λ n. inl tt)) r

pub have_more : (cs : List Cell) (i : ℕ) (c : Cell) → slice_get cs i ≡ Some c → HavePoints (take i cs) → HavePoints (c ∷ [])
    → HavePoints (take (i + 1) cs)
have_more cs i c e h k = subst HavePoints (sym (take_one cs i c e)) ((all_append _ (take i cs) (c ∷ [])).1 (h, k))

-- ---- the frame of the cells
-- in a frame only the dirt counts that meets it
pub rest_near : (f : Rectangle) (d ms : List Rectangle) (cs rest : List Cell) → HoldsAll f cs → AreNear d f ms
    → IsRest (λ p. ¬ (Covers ms p)) cs rest → IsRest (λ p. ¬ (Covers d p)) cs rest
rest_near f d ms cs rest a near r = record {
  some = r.some;
  points = λ p. (
    λ m. let k = (r.points p).0 m in (k.0, λ h. k.1 ((near_covers d f ms p near (a p k.0)).1 h)),
    λ m. (r.points p).1 (m.0, λ h. m.1 ((near_covers d f ms p near (a p m.0)).0 h)),
  );
}

pub rest_whole : {A : Type 0} (P : A → Point → Type 0) (cs : List Cell) → HavePoints cs → IsRest (Outside P []) cs cs
rest_whole P cs h = record { some = h; points = λ p. (λ m. (m, λ k. k), λ m. m.0) }

-- ---- nothing left
pub not_zero : (c : Cell) (cs : List Cell) (n : ℕ) → n ≡ length (c ∷ cs) → nat_eq n 0 ≡ false
not_zero c cs n e = ap (λ m. nat_eq m 0) e ∙ eqb-suc-zero (length cs)

pub none_test : (cs : List Cell) (n : ℕ) → HavePoints cs → n ≡ length cs → IsTrue (nat_eq n 0) ↔ ((p : Point) → ¬ (InCells cs p))
none_test [] n h e = rw e (λ t p i. i, λ k. refl)
none_test (c ∷ cs) n h e = rw (not_zero c cs n e) (λ t. absurd (false≢true t), λ k. absurd (k h.0.0 (inl h.0.1)))

-- ---- a list holds a point or not
pub in_cells_stable : (cs : List Cell) (p : Point) → ¬ (¬ (InCells cs p)) → InCells cs p
in_cells_stable cs p n = elim (some_or_none (λ c. InCell c p) (λ c. in_or_not c p) cs) [ inl h ↦ h | inr k ↦ absurd (n k) ]

-- ---- within
pub within_test : (d : List Rectangle) (cs ds off rest : List Cell) (n : ℕ) → IsRest (λ p. ¬ (InCells ds p)) cs off
    → IsRest (λ p. ¬ (Covers d p)) off rest → n ≡ length rest → IsTrue (nat_eq n 0) ↔ IsWithinOff d cs ds
within_test d cs ds off rest n a b e =
    let t = none_test rest n b.some e in (
      λ k p c i. in_cells_stable ds p (λ m. t.0 k p ((b.points p).1 ((a.points p).1 (i, m), c))),
      λ w. t.1 (λ p m. let k = (b.points p).0 m in let l = (a.points p).0 k.0 in l.1 (w p k.1 l.0)),
    )
