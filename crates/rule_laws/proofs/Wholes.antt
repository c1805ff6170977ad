-- Rules on the whole subject.
--
-- WholeRule        what has to be shown of such a rule: when it is broken (T), and its test, for any list of features
--                  local: by the features near the subject alone; exact: the test says it
use Rattle.std.proofs.Common.{◌≡◌, ◌↔◌, inl, inr, ℕ, Bool, true, false, refl, sym, List, [], Some, None}
use Rattle.std.specs.Prelude.{◌==◌, if◌then◌else◌}
use Rattle.plane_terms.specs.Lists.{Every}
use Rattle.plane_terms.specs.Point.{Point}
use Rattle.plane_terms.specs.Rectangle.{RectsMeet}
use Rattle.plane_terms.specs.declared.kind.Kind.{Kind}
use Rattle.topology_terms.specs.Feature.{Feature, Side, feature_at, env, Agree}
use Rattle.topology_terms.specs.Broken.{Row, judged}
use Rattle.topology_terms.specs.Meaning.{Finding, finding_at}
use Rattle.topology_terms.specs.Plans.{near, Around, Later, side_by, around, whole_finding}
use Rattle.topology_terms.specs.Together.{of_side}
use Rattle.sound_laws.proofs.Dirts.{bool_cases}
use Rattle.sound_laws.proofs.FeatureLists.{same_handle}
use Rattle.sound_laws.proofs.FeatureLists.{each_live}
use Rattle.rule_laws.proofs.Nears.{near_same, near_ascends, near_of}
use Rattle.rule_laws.proofs.Families.{IsFit, AreFit, AreExact, WholeBreaks}
use Rattle.rule_laws.proofs.Lists.{side_each}
use Rattle.rule_laws.proofs.Around.{around_near}

pub record WholeRule (k l : Kind) (T : Feature → List Feature → Type 0) (test : Feature → List Feature → Bool) : Type 0 where
  pub local : (S : Side) (F : List Feature) (f : Feature) → IsFit k f → Every (IsFit l) (of_side S F) → T f (of_side S F) ↔ T f (near S f F)
  pub exact : (f : Feature) (gs : List Feature) → IsFit k f → Every (IsFit l) gs → (test f gs ≡ true) ↔ T f gs

whole_one : Finding
whole_one = record { other = 0; whole = true; cells = [] }

chosen : (t : Bool) → List Finding
chosen t = if t then whole_finding else []

only_whole : (t : Bool) (b : ℕ) (x : Finding) → finding_at (chosen t) b ≡ Some x → (b ≡ 0) × (x ≡ whole_one) × (t ≡ true)
unfolding finding_at chosen whole_one
only_whole false b x e = cc
only_whole true b x e = elim (bool_cases (0 == b)) [
  | inl t ↦ let k : Some whole_one ≡ Some x = rw t at e in (sym (same_handle 0 b t), (let m : whole_one ≡ x = cc in sym m), refl)
  | inr t ↦ let k : None ≡ Some x = rw t at e in absurd cc
]

whole_there : (t : Bool) → t ≡ true → finding_at (chosen t) 0 ≡ Some whole_one
unfolding finding_at chosen whole_one
whole_there t e = rw e refl

finding_whole : (B : ℕ → Point → Type 0) (W : Type 0) (t : Bool) → ((b : ℕ) (p : Point) → ¬ (B b p)) → (t ≡ true) ↔ W
    → AreExact B W (if t then whole_finding else [])
unfolding chosen whole_one
finding_whole B W t none exact = record {
  points = λ b x e w p. let y = only_whole t b x e in let n : true ≡ false = rw y.1 at w in absurd cc;
  some = λ b x e w. let y = only_whole t b x e in let n : true ≡ false = rw y.1 at w in absurd cc;
  have_points = λ b x e. let y = only_whole t b x e in rw y.1 tt;
  wholes = λ b x e w. let y = only_whole t b x e in (y.0, rw y.1 refl, exact.0 y.2);
  each_point = λ b p h. absurd (none b p h);
  each_whole = λ h. (whole_one, whole_there t (exact.1 h), refl);
}

module _ (k l : Kind) (T : Feature → List Feature → Type 0) (test : Feature → List Feature → Bool) (R : WholeRule k l T test) (row : Row)
    (who : Around) where
  -- the test, of the near of a subject
  near_is : (F : List Feature) (a : ℕ) (f : Feature) → AreFit k l row who F → feature_at F a ≡ Some f → judged row f ≡ true
      → T f (near (side_by who row f) f F) ↔ WholeBreaks T row who F a
  near_is F a f u e j =
      let S = side_by who row f in
      let x = R.local S F f (u.subject a f e j) (side_each (IsFit l) S F u.ascending (u.around f j)) in (
        (λ h. record { f = f; live = e; judged = j; there = x.1 h }),
        (λ h. let m = h.live in let same : h.f ≡ f = cc in x.0 (rw same at h.there)),
      )

  pub whole_live : (F : List Feature) (a : ℕ) → WholeBreaks T row who F a → (f : Feature) × (feature_at F a ≡ Some f)
  whole_live F a h = (h.f, h.live)

  -- a subject breaks the rule by the features near it
  pub whole_feature : (F G : List Feature) (a : ℕ) (f : Feature) → AreFit k l row who F → AreFit k l row who G → feature_at F a ≡ Some f
      → feature_at G a ≡ Some f → Agree (λ g. RectsMeet (env f) (env g)) F G → WholeBreaks T row who F a → WholeBreaks T row who G a
  whole_feature F G a f u v e i agree h =
      let m = h.live in
      let same : h.f ≡ f = cc in
      let j : judged row f ≡ true = rw same at h.judged in
      let n = near_same (side_by who row f) f F G u.ascending v.ascending agree in
      let there = (near_is F a f u e j).1 h in
      (near_is G a f v i j).0 (rw n at there)

  pub whole_exact : (F : List Feature) (a : ℕ) (f : Feature) (B : ℕ → Point → Type 0) → ((b : ℕ) (p : Point) → ¬ (B b p))
      → AreFit k l row who F → feature_at F a ≡ Some f → judged row f ≡ true → (who ≡ Later → ⊥)
      → AreExact B (WholeBreaks T row who F a) (if test f (around who row F f) then whole_finding else [])
  whole_exact F a f B none u e j n =
      let S = side_by who row f in
      let fit = each_live (IsFit l) (near S f F) (near_ascends S f F u.ascending)
      (λ b g i. u.around f j b g (near_of S f F b g u.ascending i)) in
      let x = R.exact f (near S f F) (u.subject a f e j) fit in
      let y = near_is F a f u e j in
      rw (around_near who row F f n)
      (finding_whole B (WholeBreaks T row who F a) (test f (near S f F)) none ((λ t. y.0 (x.0 t)), (λ w. x.1 (y.1 w))))
