-- The product's rules keep the laws: from what each is shown to keep, once for all.
use Rattle.std.proofs.Common.{◌≡◌, ℕ, Bool, true, false, refl, sym, ◌∙◌, List, [], Some}
use Rattle.std.specs.Prelude.{if◌then◌else◌}
use Rattle.plane_terms.specs.Point.{Point}
use Rattle.plane_terms.specs.Rectangle.{RectsMeet}
use Rattle.rule_words.specs.declared.rule_kind.RuleKind.{RuleKind}
use Rattle.rule_words.specs.declared.rule_kind.RuleKind.TheVariants as rule
use Rattle.topology_terms.specs.Feature.{Feature, Side, feature_at, env, Agree, IsAscending}
use Rattle.topology_terms.specs.Broken.{Row, BrokenAt, BrokenWhole, broken_at, broken_whole, Fits, judged}
use Rattle.topology_terms.specs.Meaning.{Finding, finding_at, Laws, AreRight, CutsRight}
use Rattle.topology_terms.specs.Plans.{Around, Later, Own, Second, Other, around, side_by, Plan, WithEach, Alone, Whole, plan_of, cut_by, cutting_of, IsCutting}
use Rattle.topology_terms.specs.Poster.{poster}
use Rattle.validation_laws.specs.Views.{ViewLaws}
use Rattle.rule_laws.proofs.Nears.{near_same, near_after_same}
use Rattle.rule_laws.proofs.Families.{AreExact}
use Rattle.rule_laws.proofs.AllRules.{lawful}
use Rattle.rule_laws.proofs.Ends.{cutting_at_ends}

-- ---- a whole fault has a live subject
whole_alive : (k : RuleKind) (A B : Side) (F : List Feature) (a : ℕ) → broken_whole k A B F a → (f : Feature) × (feature_at F a ≡ Some f)
whole_alive rule.PolygonMustBeCoveredBy A B F a h = (h.f, h.subject.live)
whole_alive rule.PolygonContainsPoint A B F a h = (h.f, h.subject.live)
whole_alive rule.LineMustBeSinglePart A B F a h = (h.f, h.subject.live)
whole_alive other A B F a h = absurd h

-- ---- the cutting depends on the near alone, whatever the plan
around_same : (who : Around) (row : Row) (F G : List Feature) (f : Feature) → IsAscending F → IsAscending G
    → Agree (λ g. RectsMeet (env f) (env g)) F G → around who row F f ≡ around who row G f
around_same Later row F G f u v agree = near_after_same row.origin f F G u v agree
around_same Own row F G f u v agree = near_same row.origin f F G u v agree
around_same Second row F G f u v agree = near_same row.dest f F G u v agree
around_same Other row F G f u v agree = near_same (side_by Other row f) f F G u v agree

plan_same : (plan : Plan) (row : Row) (F G : List Feature) (f : Feature) → ((who : Around) → around who row F f ≡ around who row G f)
    → cut_by plan row F f ≡ cut_by plan row G f
plan_same (WithEach who cells) row F G f e = rw (e who) refl
plan_same (Alone who cells) row F G f e = rw (e who) refl
plan_same (Whole who test) row F G f e = rw (e who) refl

cutting_same : (row : Row) (F G : List Feature) (f : Feature) → ((who : Around) → around who row F f ≡ around who row G f)
    → cutting_of row F f ≡ cutting_of row G f
cutting_same row F G f e = rw (plan_same (plan_of row.kind) row F G f e) refl

pub cutting_at : (row : Row) (F : List Feature) (a : ℕ) (f : Feature) (xs : List Finding) → feature_at F a ≡ Some f → IsCutting row F a xs
    → xs ≡ cutting_of row F f
unfolding IsCutting
cutting_at row F a f xs e h = let l = h.1 in let same : h.0 ≡ f = cc in rw same at h.2

pub poster_laws : Laws poster
unfolding BrokenAt BrokenWhole IsCutting
poster_laws = record {
  inside = λ row F a b p u h. (lawful row.kind).inside row.origin row.dest F a b p u h;
  point = λ row F G a b p u v agree h. (lawful row.kind).point row.origin row.dest F G a b p u v agree h;
  live = λ row F a h. whole_alive row.kind row.origin row.dest F a h;
  feature = λ row F G a f u v e k agree h. (lawful row.kind).feature row.origin row.dest F G a f u v e k agree h;
  cutting = λ row F G a f r s u v e k agree xs h.
      (f, k, cutting_at row F a f xs e h ∙ cutting_same row F G f (λ who. around_same who row F G f r s agree));
}

-- ---- what is cut is right
of_exact : (row : Row) (F : List Feature) (a : ℕ) (xs : List Finding) → AreExact (λ b p. BrokenAt row F a b p) (BrokenWhole row F a) xs
    → AreRight poster row F a xs
of_exact row F a xs h =
    record {
      points = h.points;
      some = h.some;
      have_points = h.have_points;
      wholes = h.wholes;
      each_point = h.each_point;
      each_whole = h.each_whole;
    }

nothing_exact : (B : ℕ → Point → Type 0) (W : Type 0) → ((b : ℕ) (p : Point) → ¬ (B b p)) → ¬ W → AreExact B W []
unfolding finding_at
nothing_exact B W n m = record {
  points = λ b x e w p. absurd cc;
  some = λ b x e w. absurd cc;
  have_points = λ b x e. absurd cc;
  wholes = λ b x e w. absurd cc;
  each_point = λ b p h. absurd (n b p h);
  each_whole = λ h. absurd (m h);
}

right_by : (row : Row) (F : List Feature) (a : ℕ) (f : Feature) → Fits row F → feature_at F a ≡ Some f → (t : Bool) → judged row f ≡ t
    → AreExact (λ b p. broken_at row.kind row.origin row.dest F a b p) (broken_whole row.kind row.origin row.dest F a)
    (if t then cut_by (plan_of row.kind) row F f else [])
right_by row F a f u e true j = (lawful row.kind).right row.origin row.dest F a f u e j
right_by row F a f u e false j =
    nothing_exact (λ b p. broken_at row.kind row.origin row.dest F a b p) (broken_whole row.kind row.origin row.dest F a)
    (λ b p h. let t = (lawful row.kind).at_judged row.origin row.dest F a b f p u e h in absurd cc)
    (λ h. let t = (lawful row.kind).all_judged row.origin row.dest F a f u e h in absurd cc)

pub poster_cuts : CutsRight poster
unfolding BrokenAt BrokenWhole IsCutting
poster_cuts = record {
  right = λ row F a f r u e xs h.
      rw (cutting_at row F a f xs e h)
      (of_exact row F a (cutting_of row F f) (right_by row F a f u e (judged row f) refl));
  one = λ row F a xs ys h k. h.2 ∙ sym (cutting_at row F a h.0 ys h.1 k);
}

-- ---- the laws of views
fits_part : (row : Row) (F G : List Feature) → IsAscending G → ((h : ℕ) (g : Feature) → feature_at G h ≡ Some g → feature_at F h ≡ Some g)
    → Fits row F → Fits row G
fits_part row F G r within u = record {
  ascending = r;
  origin = λ h f i. u.origin h f (record { live = within h f i.live; on_side = i.on_side });
  dest = λ h f i. u.dest h f (record { live = within h f i.live; on_side = i.on_side });
  proper = λ h f e. u.proper h f (within h f e);
  simple = λ h f e k. u.simple h f (within h f e) k;
  boundary = λ h f e k. u.boundary h f (within h f e) k;
}

pub poster_views : ViewLaws poster
unfolding IsCutting
poster_views = record {
  idle = λ row F a f e t.
      (f, e, rw t refl);
  fits = fits_part;
  ends = λ row F V a f t r u w e v xs h.
      let live : feature_at F a ≡ Some h.0 = (v.forth a h.0 h.1).0 in
      let same : h.0 ≡ f = cc in
      (f, e, rw same at h.2 ∙ cutting_at_ends row F V f t u v);
}
