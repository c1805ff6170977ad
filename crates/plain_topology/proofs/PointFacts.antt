-- Look-ups of points, and where two of them break the rule.
use Rattle.std.proofs.lemmas.Bool.Decides.{nat_tests}
use Rattle.std.proofs.Common.{◌≤◌, ltb, arith, ◌≡◌, ◌↔◌, IsTrue, ℕ, ◌<◌, Bool, List, [], ◌∷◌, Option, Some, None, true, false, refl, sym, ap, ◌∙◌, subst}
use Rattle.std.specs.Prelude.{cond, ◌==◌}
use Rattle.std.specs.List.{find}
use Rattle.std.specs.Option.{option_map}
use Rattle.plane_terms.specs.Point.{Place, Point, IsAt}
use Rattle.topology_terms.specs.Feature.{Feature, feature_at, place}
use Rattle.topology_terms.specs.Broken.{BrokenAt}
use Rattle.rule_laws.proofs.Places.{place_one}
use Rattle.plain_topology.specs.Plain.{feature_of, features_of, row_of, IsThere}
use Rattle.plain_topology.specs.declared.points.PlainPoint.{PlainPoint}

found : (b : Bool) (x : PlainPoint) (o : Option Feature) (r : Option PlainPoint) → o ≡ option_map feature_of r
    → cond b (Some (feature_of x)) o ≡ option_map feature_of (cond b (Some x) r)
found true x o r e = refl
found false x o r e = e

-- the first of a handle
pub feature_at-features : (ps : List PlainPoint) (h : ℕ)
    → feature_at (features_of ps) h ≡ option_map feature_of (find (λ (p : PlainPoint). p.handle == h) ps)
unfolding feature_at
feature_at-features [] h = refl
feature_at-features (x ∷ ps) h =
    found (x.handle == h) x (feature_at (features_of ps) h) (find (λ (p : PlainPoint). p.handle == h) ps) (feature_at-features ps h)

-- a live point of the class is at a point exactly if that is at its place
pub there : (F : List Feature) (class h : ℕ) (p : Point) (q : Place) (f : PlainPoint) (r : Bool) → Some (feature_of f) ≡ feature_at F h
    → f.class ≡ class → IsAt q p → (IsTrue r ↔ (f.place ≡ q)) → IsTrue r ↔ IsThere F class h p
there F class h p q f r e c i t = (
  (λ b. record {
    f = feature_of f;
    live = record { live = sym e; on_side = record { class = c; subtype = tt } };
    here = let P : Place → Type 0 = λ z. IsAt z p in subst P (sym (t.0 b)) i;
  }),
  (λ w.
      let l = w.live.live in
      let same : w.f ≡ feature_of f = cc in
      let P : Feature → Type 0 = λ z. IsAt (place z) p in
      t.1 (place_one f.place q p (subst P same w.here) i)),
)

-- a handle of no point, or of one of another class, is nowhere
pub nowhere : (F : List Feature) (class h : ℕ) (p : Point) → feature_at F h ≡ None → ¬ (IsThere F class h p)
nowhere F class h p e w = let l = w.live.live in cc

pub other_class : (F : List Feature) (class h : ℕ) (p : Point) (f : PlainPoint) → Some (feature_of f) ≡ feature_at F h
    → ¬ (f.class ≡ class) → ¬ (IsThere F class h p)
other_class F class h p f e n w =
    let l = w.live.live in
    let same : w.f ≡ feature_of f = cc in
    n (sym (ap (λ (z : Feature). z.class) same) ∙ w.live.on_side.class)

pub not_below : (a b : ℕ) → b ≤ a → ltb a b ≡ true → ⊥
not_below a b l e = grind (arith, nat_tests)

-- the rule is broken where both are, the first one first
pub broken_there : (class : ℕ) (F : List Feature) (a b : ℕ) (p : Point) → a < b → IsThere F class a p → IsThere F class b p
    → BrokenAt (row_of class) F a b p
unfolding BrokenAt
broken_there class F a b p l v w = record { f = v.f; g = w.f; subject = v.live; partner = w.live; first = l; a_at = v.here; b_at = w.here }

pub broken_first : (class : ℕ) (F : List Feature) (a b : ℕ) (p : Point) → BrokenAt (row_of class) F a b p → a < b
unfolding BrokenAt
broken_first class F a b p h = h.first

pub broken_subject : (class : ℕ) (F : List Feature) (a b : ℕ) (p : Point) → BrokenAt (row_of class) F a b p → IsThere F class a p
unfolding BrokenAt
broken_subject class F a b p h = record { f = h.f; live = h.subject; here = h.a_at }

pub broken_partner : (class : ℕ) (F : List Feature) (a b : ℕ) (p : Point) → BrokenAt (row_of class) F a b p → IsThere F class b p
unfolding BrokenAt
broken_partner class F a b p h = record { f = h.g; live = h.partner; here = h.b_at }
