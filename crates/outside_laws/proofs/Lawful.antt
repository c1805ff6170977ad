-- With rules from outside the meaning keeps its laws, and cuts right: each law speaks of one row, so it is that of the row's own side.
use Rattle.std.proofs.Common.{◌≡◌, ℕ, Bool, true, false, ◌↔◌, inl, inr, refl, sym, ◌∙◌, ap, arith, List, [], Option, Some, None}
use Rattle.std.specs.Prelude.{◌==◌, ◌&&◌, if◌then◌else◌}
use Rattle.plane_terms.specs.Point.{Point}
use Rattle.plane_terms.specs.Rectangle.{RectHolds, RectsMeet}
use Rattle.topology_terms.specs.Feature.{Feature, feature_at, env, Agree, IsAscending}
use Rattle.topology_terms.specs.Broken.{Row, judged}
use Rattle.topology_terms.specs.Meaning.{Meaning, Finding, finding_at, Laws, AreRight, CutsRight}
use Rattle.topology_terms.specs.Plans.{whole_finding}
use Rattle.rule_laws.proofs.Families.{AreExact}
use Rattle.sound_laws.proofs.Dirts.{bool_cases}
use Rattle.sound_laws.proofs.FeatureLists.{same_handle}
use Rattle.topology_terms.specs.Causes.{same_kind}
use Rattle.validation_laws.specs.Views.{ViewLaws, looks_at_ends}
use Rattle.outside_rule_terms.specs.Outside.{Outside, first_named, breaks_by, Test, IsLocal, by_first, BreaksWhole, whole_cutting, fits_by, at_by, whole_by, cut_by, with_test}

-- ---- whether a subject breaks a rule from outside depends on the features near it
breaks_same : (o : Option Outside) (F G : List Feature) (a : ℕ) (f : Feature) → IsAscending F → IsAscending G → feature_at F a ≡ Some f
    → feature_at G a ≡ Some f → Agree (λ (g : Feature). RectsMeet (env f) (env g)) F G → breaks_by o F a f ≡ breaks_by o G a f
breaks_same None F G a f u v e k agree = refl
breaks_same (Some o) F G a f u v e k agree = ap (λ (b : Bool). same_kind f.shape.kind o.kind && b) (o.local F G a f u v e k agree)

pub first_local : (outs : List Outside) → IsLocal (by_first outs)
first_local outs = λ w F G a f u v e k agree. breaks_same (first_named outs w) F G a f u v e k agree

module _ (B : Test) (near : IsLocal B) (M : Meaning) (L : Laws M) where
  inside_by : (o : Option (List ℕ)) (row : Row) (F : List Feature) (a b : ℕ) (p : Point) → fits_by o M row F → at_by o M row F a b p
      → (f : Feature) × (feature_at F a ≡ Some f) × RectHolds (env f) p
  inside_by None row F a b p u h = L.inside row F a b p u h
  inside_by (Some w) row F a b p u h = absurd h

  point_by : (o : Option (List ℕ)) (row : Row) (F G : List Feature) (a b : ℕ) (p : Point) → fits_by o M row F → fits_by o M row G
      → Agree (λ (f : Feature). RectHolds (env f) p) F G → at_by o M row F a b p → at_by o M row G a b p
  point_by None row F G a b p u v agree h = L.point row F G a b p u v agree h
  point_by (Some w) row F G a b p u v agree h = h

  live_by : (o : Option (List ℕ)) (row : Row) (F : List Feature) (a : ℕ) → whole_by o B M row F a
      → (f : Feature) × (feature_at F a ≡ Some f)
  live_by None row F a h = L.live row F a h
  live_by (Some w) row F a h = (h.f, h.live)

  feature_by : (o : Option (List ℕ)) (row : Row) (F G : List Feature) (a : ℕ) (f : Feature) → fits_by o M row F → fits_by o M row G
      → feature_at F a ≡ Some f → feature_at G a ≡ Some f → Agree (λ (g : Feature). RectsMeet (env f) (env g)) F G
      → whole_by o B M row F a → whole_by o B M row G a
  feature_by None row F G a f u v e k agree h = L.feature row F G a f u v e k agree h
  feature_by (Some w) row F G a f u v e k agree h =
      let l = h.live in
      let one : h.f ≡ f = cc in
      record {
        f = f;
        live = k;
        judged = rw one at h.judged;
        breaks = sym (near w F G a f u v e k agree) ∙ rw one at h.breaks;
      }

  cutting_by : (o : Option (List ℕ)) (row : Row) (F G : List Feature) (a : ℕ) (f : Feature) → IsAscending F → IsAscending G
      → fits_by o M row F → fits_by o M row G → feature_at F a ≡ Some f → feature_at G a ≡ Some f
      → Agree (λ (g : Feature). RectsMeet (env f) (env g)) F G → (xs : List Finding) → cut_by o B M row F a xs → cut_by o B M row G a xs
  cutting_by None row F G a f r s u v e k agree xs h = L.cutting row F G a f r s u v e k agree xs h
  cutting_by (Some w) row F G a f r s u v e k agree xs h =
      let l = h.1 in
      let one : h.0 ≡ f = cc in (
        f,
        k,
        rw one at h.2 ∙ ap (λ (b : Bool). if judged row f && b then whole_finding else [])
            (near w F G a f r s e k agree),
      )

  pub test_laws : (pick : Row → Option (List ℕ)) → Laws (with_test pick B M)
  test_laws pick = record {
    inside = λ row F a b p u h. inside_by (pick row) row F a b p u h;
    point = λ row F G a b p u v agree h. point_by (pick row) row F G a b p u v agree h;
    live = λ row F a h. live_by (pick row) row F a h;
    feature = λ row F G a f u v e k agree h. feature_by (pick row) row F G a f u v e k agree h;
    cutting = λ row F G a f r s u v e k agree xs h. cutting_by (pick row) row F G a f r s u v e k agree xs h;
  }

-- ---- what is cut is right: the whole finding, or none
whole_one : Finding
whole_one = record { other = 0; whole = true; cells = [] }

chosen : (t : Bool) → List Finding
chosen t = if t then whole_finding else []

only_whole : (t : Bool) (b : ℕ) (x : Finding) → finding_at (chosen t) b ≡ Some x → (b ≡ 0) × (x ≡ whole_one) × (t ≡ true)
unfolding finding_at chosen whole_one
only_whole false b x e = cc
only_whole true b x e = elim (bool_cases (0 == b)) [
  | inl t ↦ let k : Some whole_one ≡ Some x = rw t at e in (sym (same_handle 0 b t), (let m : whole_one ≡ x = cc in sym m), refl)
  | inr t ↦ let k : None ≡ Some x = rw t at e in absurd cc
]

whole_there : (t : Bool) → t ≡ true → finding_at (chosen t) 0 ≡ Some whole_one
unfolding finding_at chosen whole_one
whole_there t e = rw e refl

finding_whole : (B : ℕ → Point → Type 0) (W : Type 0) (t : Bool) → ((b : ℕ) (p : Point) → ¬ (B b p)) → (t ≡ true) ↔ W
    → AreExact B W (if t then whole_finding else [])
unfolding chosen whole_one
finding_whole B W t none exact = record {
  points = λ b x e w p. let y = only_whole t b x e in let n : true ≡ false = rw y.1 at w in absurd cc;
  some = λ b x e w. let y = only_whole t b x e in let n : true ≡ false = rw y.1 at w in absurd cc;
  have_points = λ b x e. let y = only_whole t b x e in rw y.1 tt;
  wholes = λ b x e w. let y = only_whole t b x e in (y.0, rw y.1 refl, exact.0 y.2);
  each_point = λ b p h. absurd (none b p h);
  each_whole = λ h. (whole_one, whole_there t (exact.1 h), refl);
}

and_true : (a b : Bool) → (a && b) ≡ true → (a ≡ true) × (b ≡ true)
and_true a b h = grind arith

broken_test : (B : Test) (w : List ℕ) (row : Row) (F : List Feature) (a : ℕ) (f : Feature) → feature_at F a ≡ Some f
    → ((judged row f && B w F a f) ≡ true) ↔ BreaksWhole B w row F a
broken_test B w row F a f e = (
  (λ t. let y = and_true (judged row f) (B w F a f) t in record { f = f; live = e; judged = y.0; breaks = y.1 }),
  (λ h.
      let l = h.live in
      let one : h.f ≡ f = cc in
      let j : judged row f ≡ true = rw one at h.judged in
      let t : B w F a f ≡ true = rw one at h.breaks in
      rw (j, t) refl),
)

whole_exact : (B : Test) (w : List ℕ) (row : Row) (F : List Feature) (a : ℕ) (f : Feature) → feature_at F a ≡ Some f
    → AreExact (λ b p. ⊥) (BreaksWhole B w row F a) (whole_cutting B w row F a f)
whole_exact B w row F a f e =
    finding_whole (λ b p. ⊥) (BreaksWhole B w row F a) (judged row f && B w F a f) (λ b p h. h)
    (broken_test B w row F a f e)

exact_right : (pick : Row → Option (List ℕ)) (B : Test) (M : Meaning) (row : Row) (F : List Feature) (a : ℕ)
    (xs : List Finding)
    → AreExact (λ b p. at_by (pick row) M row F a b p) (whole_by (pick row) B M row F a) xs
    → AreRight (with_test pick B M) row F a xs
exact_right pick B M row F a xs h = record {
  points = h.points;
  some = h.some;
  have_points = h.have_points;
  wholes = h.wholes;
  each_point = h.each_point;
  each_whole = h.each_whole;
}

right_exact : (M : Meaning) (row : Row) (F : List Feature) (a : ℕ) (xs : List Finding) → AreRight M row F a xs
    → AreExact (λ b p. M.BrokenAt row F a b p) (M.BrokenWhole row F a) xs
right_exact M row F a xs h = record {
  points = h.points;
  some = h.some;
  have_points = h.have_points;
  wholes = h.wholes;
  each_point = h.each_point;
  each_whole = h.each_whole;
}

module _ (B : Test) (M : Meaning) (C : CutsRight M) where
  exact_by : (o : Option (List ℕ)) (row : Row) (F : List Feature) (a : ℕ) (f : Feature) → IsAscending F → fits_by o M row F
      → feature_at F a ≡ Some f → (xs : List Finding) → cut_by o B M row F a xs
      → AreExact (λ b p. at_by o M row F a b p) (whole_by o B M row F a) xs
  exact_by None row F a f r u e xs h = right_exact M row F a xs (C.right row F a f r u e xs h)
  exact_by (Some w) row F a f r u e xs h = rw h.2 (whole_exact B w row F a h.0 h.1)

  one_by : (o : Option (List ℕ)) (row : Row) (F : List Feature) (a : ℕ) (xs ys : List Finding) → cut_by o B M row F a xs
      → cut_by o B M row F a ys → xs ≡ ys
  one_by None row F a xs ys h k = C.one row F a xs ys h k
  one_by (Some w) row F a xs ys h k =
      let l = h.1 in
      let m = k.1 in
      let same : h.0 ≡ k.0 = cc in
      h.2 ∙ (ap (λ (f : Feature). whole_cutting B w row F a f) same ∙ sym k.2)

  pub test_cuts : (pick : Row → Option (List ℕ)) → CutsRight (with_test pick B M)
  test_cuts pick = record {
    right = λ row F a f r u e xs h. exact_right pick B M row F a xs (exact_by (pick row) row F a f r u e xs h);
    one = λ row F a xs ys h k. one_by (pick row) row F a xs ys h k;
  }

-- ---- what is shown is enough
module _ (B : Test) (M : Meaning) (V : ViewLaws M) where
  idle_by : (o : Option (List ℕ)) (row : Row) (F : List Feature) (a : ℕ) (f : Feature) → feature_at F a ≡ Some f → judged row f ≡ false
      → cut_by o B M row F a []
  idle_by None row F a f e t = V.idle row F a f e t
  idle_by (Some w) row F a f e t = (f, e, rw t refl)

  part_by : (o : Option (List ℕ)) (row : Row) (F G : List Feature) → IsAscending G
      → ((h : ℕ) (g : Feature) → feature_at G h ≡ Some g → feature_at F h ≡ Some g) → fits_by o M row F → fits_by o M row G
  part_by None row F G r within u = V.fits row F G r within u
  part_by (Some w) row F G r within u = r

  -- no rule from outside looks at ends alone
  pub test_views : (pick : Row → Option (List ℕ)) → ((row : Row) → looks_at_ends row.kind ≡ true → pick row ≡ None)
      → ViewLaws (with_test pick B M)
  test_views pick plain = record {
    idle = λ row F a f e t. idle_by (pick row) row F a f e t;
    fits = λ row F G r within u. part_by (pick row) row F G r within u;
    ends = λ row F W a f t r u v e i xs h.
        let n = plain row t in
        rw n (V.ends row F W a f t r (rw n at u) (rw n at v) e i xs (rw n at h));
  }
