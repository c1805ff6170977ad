-- Beside fresh entries that say exactly what is broken, a rule and a subject are sound exactly if the project is sound there.
use Rattle.std.proofs.Common.{◌≡◌, ◌∙◌, ℕ, List, [], ◌∷◌, Option, Some, None, inl, inr, sym, ap}
use Rattle.std.specs.Option.{option_map}
use Rattle.std.proofs.lemmas.Option.{same_Some, none-some}
use Rattle.plane_terms.specs.Lists.{Every, Paired}
use Rattle.plane_terms.specs.Point.{Point}
use Rattle.plane_terms.specs.Rectangle.{Rectangle, IsWithin}
use Rattle.plane_terms.proofs.Truths.{there_or_not}
use Rattle.topology_terms.specs.Feature.{Feature, feature_at, env, IsAscending}
use Rattle.topology_terms.specs.Broken.{Row}
use Rattle.topology_terms.specs.Meaning.{Meaning, Laws, CutsRight, Finding}
use Rattle.topology_terms.specs.Entry.{Entry, entry_at, HasCellsAt}
use Rattle.topology_terms.specs.Project.{Project}
use Rattle.topology_terms.specs.Changes.{IsJudged}
use Rattle.topology_terms.specs.Sound.{IsSoundAt}
use Rattle.validation_laws.specs.Parts.{IsNewEntry, IsSubjectPart}
use Rattle.sound_laws.proofs.Lists.{none_at}
use Rattle.sound_laws.proofs.Settling.{judged_by_cut}
use Rattle.sound_laws.proofs.Validations.{fresh_points, fresh_whole}
use Rattle.validation_laws.proofs.Judging.{found_alike}
use Rattle.error_store.specs.Pairs.{IsOf}
use Rattle.sound_check.specs.Pairs.{IsSoundPair, AreExact}

-- ---- fresh entries are exact
pub exact_live : (M : Meaning) (F : List Feature) (row : Row) (fresh : List Entry) (r a : ℕ) (f : Feature)
    → IsJudged M F fresh r row f a → AreExact M F row fresh r a
exact_live M F row fresh r a f j = record {
  points = λ b q. fresh_points M F fresh r row f a j b q;
  whole = fresh_whole M F fresh r row f a j;
}

pub exact_dead : (M : Meaning) → Laws M → (F : List Feature) (row : Row) (fresh : List Entry) (r a : ℕ) → M.Fits row F
    → feature_at F a ≡ None → ((b : ℕ) → entry_at fresh r a b ≡ None) → AreExact M F row fresh r a
exact_dead M L F row fresh r a u n none = record {
  points = λ b q. (
    λ h. absurd (none-some h.0 (sym (none b) ∙ h.1)),
    λ h. let f = L.inside row F a b q u h in absurd (none-some f.0 (sym n ∙ f.1)),
  );
  whole = (
    λ h. absurd (none-some h.0 (sym (none 0) ∙ h.1)),
    λ h. let f = L.live row F a h in absurd (none-some f.0 (sym n ∙ f.1)),
  );
}

-- what a validation would put for a rule and a subject is exact, and theirs
pub part_exact : (M : Meaning) → Laws M → CutsRight M → (F : List Feature) (row : Row) (fresh : List Entry) (r a : ℕ) → IsAscending F
    → M.Fits row F → IsSubjectPart M F r row a fresh → AreExact M F row fresh r a
part_exact M L C F row fresh r a v u h = elim (there_or_not (feature_at F a)) [
  | inl f ↦
      let l = h.live f.0 f.1 in
      let right = C.right row F a f.0 v u f.1 l.0 l.1 in
      exact_live M F row fresh r a f.0 (judged_by_cut M F fresh r row f.0 a l.0 right (found_alike r a f.0 l.0 fresh l.3))
  | inr n ↦ exact_dead M L F row fresh r a u n (λ b. rw (h.dead n) (none_at [] r a b tt))
]

found_own : (r a : ℕ) (f : Feature) (xs : List Finding) (es : List Entry) → Paired (IsNewEntry r a f) xs es → Every (IsOf r a) es
found_own r a f [] [] h = tt
found_own r a f [] (e ∷ es) h = absurd h
found_own r a f (x ∷ xs) [] h = absurd h
found_own r a f (x ∷ xs) (e ∷ es) h = (record { rule = h.0.rule; subject = h.0.subject }, found_own r a f xs es h.1)

pub part_own : (M : Meaning) (F : List Feature) (row : Row) (fresh : List Entry) (r a : ℕ) → IsSubjectPart M F r row a fresh
    → Every (IsOf r a) fresh
part_own M F row fresh r a h = elim (there_or_not (feature_at F a)) [
  | inl f ↦ let l = h.live f.0 f.1 in found_own r a f.0 l.0 fresh l.3
  | inr n ↦ rw (h.dead n) tt
]

-- ---- a frame stands
abbrev envelope_at : List Feature → ℕ → Option Rectangle
envelope_at F a = option_map env (feature_at F a)

envelope_is : (F : List Feature) (a : ℕ) (f : Feature) → feature_at F a ≡ Some f → envelope_at F a ≡ Some (env f)
envelope_is F a f e = ap (option_map env) e

in_live : (F : List Feature) (a : ℕ) (r s : Rectangle) → envelope_at F a ≡ Some s → IsWithin r s
    → (f : Feature) × (feature_at F a ≡ Some f) × IsWithin r (env f)
in_live F a r s e w = elim (there_or_not (feature_at F a)) [
  | inl f ↦
      let same : env f.0 ≡ s = same_Some (env f.0) s (sym (envelope_is F a f.0 f.1) ∙ e) in
      (f.0, f.1, rw same w)
  | inr n ↦ absurd (none-some s (sym (ap (option_map env) n) ∙ e))
]

-- ---- the stored entries may be those of the rule and the subject alone
module _ (M : Meaning) (p : Project) (row : Row) (fresh stored : List Entry) (r a : ℕ) (exact : AreExact M p.features row fresh r a)
    (same : (b : ℕ) → entry_at stored r a b ≡ entry_at p.entries r a b) where
  to_all : (b : ℕ) (q : Point) → HasCellsAt stored r a b q → HasCellsAt p.entries r a b q
  to_all b q h = (h.0, sym (same b) ∙ h.1, h.2)

  from_all : (b : ℕ) (q : Point) → HasCellsAt p.entries r a b q → HasCellsAt stored r a b q
  from_all b q h = (h.0, same b ∙ h.1, h.2)

  pub sound_at : IsSoundPair p.dirt (envelope_at p.features a) fresh stored r a → IsSoundAt M p r row a
  sound_at s = record {
    points = λ q n b. (
      λ h. (exact.points b q).0 ((s.points q n b).0 (from_all b q h)),
      λ h. to_all b q ((s.points q n b).1 ((exact.points b q).1 h)),
    );
    whole = λ f e n. let w = s.whole (env f) (envelope_is p.features a f e) n in (
      λ h. exact.whole.0 (w.0 (h.0, same 0 ∙ h.1, h.2)),
      λ h. let k = w.1 (exact.whole.1 h) in (k.0, sym (same 0) ∙ k.1, k.2),
    );
    cells = λ b e at. s.cells b e (same b ∙ at);
    frames = λ b e at. elim (s.frames b e (same b ∙ at)) [ inl m ↦ inl m | inr w ↦ inr (in_live p.features a e.frame w.0 w.1 w.2) ];
  }

  pub sound_pair : IsSoundAt M p r row a → IsSoundPair p.dirt (envelope_at p.features a) fresh stored r a
  sound_pair s = record {
    points = λ q n b. (
      λ h. (exact.points b q).1 ((s.points q n b).0 (to_all b q h)),
      λ h. from_all b q ((s.points q n b).1 ((exact.points b q).0 h)),
    );
    whole = λ t e n. elim (there_or_not (feature_at p.features a)) [
      | inl f ↦
          let equal : t ≡ env f.0 = same_Some t (env f.0) (sym e ∙ envelope_is p.features a f.0 f.1) in
          let w = s.whole f.0 f.1 (rw equal at n) in (
            λ h. exact.whole.1 (w.0 (h.0, sym (same 0) ∙ h.1, h.2)),
            λ h. let k = w.1 (exact.whole.0 h) in (k.0, same 0 ∙ k.1, k.2),
          )
      | inr none ↦ absurd (none-some t (sym (ap (option_map env) none) ∙ e))
    ];
    cells = λ b e at. s.cells b e (sym (same b) ∙ at);
    frames = λ b e at. elim (s.frames b e (sym (same b) ∙ at)) [
      | inl m ↦ inl m
      | inr w ↦ inr (env w.0, envelope_is p.features a w.0 w.1, w.2)
    ];
  }
