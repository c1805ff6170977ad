-- Findings of some cells for each partner.
use Rattle.std.proofs.Common.{◌≡◌, ◌≢◌, inl, inr, ℕ, true, false, refl, sym, ap, ◌∙◌, List, [], ◌∷◌, ◌++◌, Some, None}
use Rattle.std.specs.Prelude.{◌==◌}
use Rattle.plane_terms.specs.Cell.{Cell}
use Rattle.topology_terms.specs.Feature.{Feature, feature_at, IsAscending}
use Rattle.topology_terms.specs.Meaning.{Finding, finding_at}
use Rattle.topology_terms.specs.Plans.{finding_of, pair_findings}
use Rattle.sound_laws.proofs.Dirts.{bool_cases}
use Rattle.sound_laws.proofs.FeatureLists.{AllAbove, none_below, at_handle, past_handle, same_handle, own_handle}

at_other : (x : Finding) (xs : List Finding) (b : ℕ) → (x.other == b) ≡ true → finding_at (x ∷ xs) b ≡ Some x
unfolding finding_at
at_other x xs b t = rw t

past_other : (x : Finding) (xs : List Finding) (b : ℕ) → (x.other == b) ≡ false → finding_at (x ∷ xs) b ≡ finding_at xs b
unfolding finding_at
past_other x xs b t = rw t

abbrev pub found_cells : ℕ → List Cell → Finding
found_cells b cs = record { other = b; whole = false; cells = cs }

-- x is of the cells of the partner b, of which there are some
pub record IsFoundWith (cells : Feature → List Cell) (gs : List Feature) (b : ℕ) (x : Finding) : Type 0 where
  pub partner : Feature
  pub there : feature_at gs b ≡ Some partner
  pub finding : x ≡ found_cells b (cells partner)
  pub some : cells partner ≢ []

found_later : (cells : Feature → List Cell) (g : Feature) (gs : List Feature) (b : ℕ) (x : Finding) → AllAbove g.handle gs
    → IsFoundWith cells gs b x → IsFoundWith cells (g ∷ gs) b x
found_later cells g gs b x u h = elim (bool_cases (g.handle == b)) [
  | inl t ↦
      let n : feature_at gs b ≡ None = rw (same_handle g.handle b t) at (none_below g.handle gs u) in
      let l = h.there in
      absurd cc
  | inr t ↦ record { partner = h.partner; there = past_handle g gs b t ∙ h.there; finding = h.finding; some = h.some }
]

found_here : (cells : Feature → List Cell) (g : Feature) (gs : List Feature) (b : ℕ) (x : Finding) (cs : List Cell) → cells g ≡ cs
    → AllAbove g.handle gs
    → (finding_at (pair_findings cells gs) b ≡ Some x → IsFoundWith cells gs b x)
    → finding_at (finding_of g.handle cs ++ pair_findings cells gs) b ≡ Some x → IsFoundWith cells (g ∷ gs) b x
found_here cells g gs b x [] q u rest e = found_later cells g gs b x u (rest e)
found_here cells g gs b x (c ∷ cs) q u rest e =
    let y = found_cells g.handle (c ∷ cs) in
    elim (bool_cases (g.handle == b)) [
      | inl t ↦
          let n = same_handle g.handle b t in
          let k : Some y ≡ Some x = sym (at_other y (pair_findings cells gs) b t) ∙ e in
          let m : y ≡ x = cc in
          record {
            partner = g;
            there = at_handle g gs b t;
            finding = sym m
                ∙ (ap (λ h. found_cells h (c ∷ cs)) n ∙ ap (λ l. found_cells b l) (sym q));
            some = rw q (λ z. cc);
          }
      | inr t ↦ found_later cells g gs b x u (rest (sym (past_other y (pair_findings cells gs) b t) ∙ e))
    ]

pub pair_found : (cells : Feature → List Cell) (gs : List Feature) → IsAscending gs → (b : ℕ) (x : Finding)
    → finding_at (pair_findings cells gs) b ≡ Some x → IsFoundWith cells gs b x
unfolding finding_at
pair_found cells [] u b x e = absurd cc
pair_found cells (g ∷ gs) u b x e = found_here cells g gs b x (cells g) refl u.0 (λ k. pair_found cells gs u.1 b x k) e

there_here : (g : Feature) (xs : List Finding) (b : ℕ) (cs : List Cell) → (g.handle == b) ≡ true → cs ≢ []
    → finding_at (finding_of g.handle cs ++ xs) b ≡ Some (found_cells b cs)
there_here g xs b [] t n = absurd (n refl)
there_here g xs b (c ∷ cs) t n =
    rw (← same_handle g.handle b t) (at_other (found_cells g.handle (c ∷ cs)) xs g.handle (own_handle g.handle))

there_later : (g : Feature) (xs : List Finding) (b : ℕ) (cs : List Cell) → (g.handle == b) ≡ false
    → finding_at (finding_of g.handle cs ++ xs) b ≡ finding_at xs b
there_later g xs b [] t = refl
there_later g xs b (c ∷ cs) t = past_other (found_cells g.handle (c ∷ cs)) xs b t

-- each partner that has cells is found
pub found_pair : (cells : Feature → List Cell) (gs : List Feature) (b : ℕ) (g : Feature) → feature_at gs b ≡ Some g → cells g ≢ []
    → finding_at (pair_findings cells gs) b ≡ Some (found_cells b (cells g))
unfolding feature_at
found_pair cells [] b g e n = absurd cc
found_pair cells (h ∷ gs) b g e n = elim (bool_cases (h.handle == b)) [
  | inl t ↦
      let l : Some h ≡ Some g = sym (at_handle h gs b t) ∙ e in
      let same : h ≡ g = cc in
      rw (← same) (there_here h (pair_findings cells gs) b (cells h) t (rw same n))
  | inr t ↦ there_later h (pair_findings cells gs) b (cells h) t ∙ found_pair cells gs b g (sym (past_handle h gs b t) ∙ e) n
]
