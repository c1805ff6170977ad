-- After a plan that explodes a line each of its features has one part.
use Rattle.std.proofs.Common.{◌≡◌, ◌≢◌, ℕ, ◌+◌, ◌<◌, List, [], ◌∷◌, ◌++◌, length, map, arith, refl, sym, subst, ap, ◌∙◌, append_assoc, Option, Some, IfSome}
use Rattle.std.specs.List.{flat_map}
use Rattle.plane_terms.specs.Lists.{Every}
use Rattle.plane_terms.specs.Point.{Place}
use Rattle.plane_terms.specs.Segment.{Segment}
use Rattle.plane_terms.specs.Shape.{Shape, path, rings_of, segments_by, segments_of}
use Rattle.plane_terms.specs.declared.kind.Kind.{Kind}
use Rattle.plane_terms.specs.declared.kind.Kind.TheVariants as kind
use Rattle.rule_words.specs.declared.rule_kind.RuleKind.{RuleKind}
use Rattle.rule_words.specs.declared.rule_kind.RuleKind.TheVariants as rule
use Rattle.topology_terms.specs.Feature.{Feature, feature_of, feature_at, sides}
use Rattle.topology_terms.specs.Changes.{reshaped}
use Rattle.topology_terms.specs.Broken.{Row, BrokenWhole, broken_whole}
use Rattle.session_terms.specs.Kept.{set_at}
use Rattle.fix_terms.specs.Plans.{Edit}
use Rattle.fix_terms.specs.declared.edit.Edit.TheVariants.{Add}
use Rattle.fix_terms.specs.Plans.{after_plan, handles_of, shapes_of, IsAfter}
use Rattle.fix_terms.specs.Explode.{line_of, exploded_by, exploded, HasExploded}
use Rattle.fix_tools.proofs.After.{set_off, set_here, others_after}

abbrev Part : Type 0
Part = List (List Place)

abbrev adding : Feature → List Part → List Edit
adding f parts = map {A = Part} (λ part. Add f.class f.subtype (line_of part)) parts

abbrev new_part : ℕ → Feature → Part → Feature
new_part n f p = feature_of n f.class f.subtype (line_of p)

abbrev IsSingle : Option Feature → Type 0
IsSingle o = IfSome o (λ g. length g.shape.parts ≡ 1)

-- what stands below the next handle stays
below : (f : Feature) (parts : List Part) (n : ℕ) (at : ℕ → Option Feature) (k : ℕ) → k < n → after_plan (adding f parts) n at k ≡ at k
below f [] n at k h = refl
below f (p ∷ ps) n at k h =
    let other : k ≢ n = λ e. absurd (apart k n h e) in
    below f ps (n + 1) (set_at at n (Some (new_part n f p))) k (omega arith)
    ∙ set_off at n k (Some (new_part n f p)) other
  where
    apart : (k n : ℕ) → k < n → k ≡ n → ⊥
    apart k n h e = omega arith

added : (f : Feature) (parts : List Part) (n : ℕ) (at : ℕ → Option Feature)
    → Every (λ k. IsSingle (after_plan (adding f parts) n at k)) (handles_of (adding f parts) n)
added f [] n at = tt
added f (p ∷ ps) n at =
    let new = Some (new_part n f p) in
    let here = set_at at n new in
    let e : after_plan (adding f ps) (n + 1) here n ≡ new = below f ps (n + 1) here n (omega arith) ∙ set_here at n new in
    (subst IsSingle (sym e) refl, added f ps (n + 1) here)

single_by : (f : Feature) (parts : List Part) (n : ℕ) (at : ℕ → Option Feature) → at f.handle ≡ Some f → f.handle < n
    → Every (λ k. IsSingle (after_plan (exploded_by f parts) n at k)) (handles_of (exploded_by f parts) n)
single_by f [] n at e l = tt
single_by f (p ∷ ps) n at e l =
    let h = f.handle in
    let put = set_at at h (reshaped (at h) (line_of p)) in
    let is : after_plan (adding f ps) n put h ≡ Some (record f { shape = line_of p }) =
    below f ps n put h l ∙ set_here at h (reshaped (at h) (line_of p)) ∙ ap (λ o. reshaped o (line_of p)) e in
    (subst IsSingle (sym is) refl, added f ps n put)

-- ---- segments

abbrev line_sides : List Part → List Segment
line_sides parts = flat_map path (flat_map (λ part. part) parts)

pub flat_append : {A B : Type 0} (f : A → List B) (xs ys : List A) → flat_map f (xs ++ ys) ≡ flat_map f xs ++ flat_map f ys
flat_append f [] ys = refl
flat_append f (x ∷ xs) ys = ap (λ zs. f x ++ zs) (flat_append f xs ys) ∙ sym (more (f x) (flat_map f xs) (flat_map f ys))
  where
    more : {B : Type 0} (us vs ws : List B) → (us ++ vs) ++ ws ≡ us ++ (vs ++ ws)
    more us vs ws = simp append_assoc

nothing_more : {A : Type 0} (xs : List A) → xs ++ [] ≡ xs
nothing_more [] = refl
nothing_more (x ∷ xs) = ap (λ ys. x ∷ ys) (nothing_more xs)

one_part : (p : Part) → segments_of (line_of p) ≡ flat_map path p
one_part p = ap (λ (rings : List (List Place)). flat_map path rings) (nothing_more p)

added_sides : (f : Feature) (parts : List Part) → flat_map segments_of (shapes_of (adding f parts)) ≡ line_sides parts
added_sides f [] = refl
added_sides f (p ∷ ps) =
    ap (λ xs. segments_of (line_of p) ++ xs) (added_sides f ps) ∙ ap (λ xs. xs ++ line_sides ps) (one_part p)
    ∙ sym (flat_append path p (flat_map (λ part. part) ps))

exploded_sides : (f : Feature) (parts : List Part) → flat_map segments_of (shapes_of (exploded_by f parts)) ≡ line_sides parts
exploded_sides f [] = refl
exploded_sides f (p ∷ ps) =
    ap (λ xs. segments_of (line_of p) ++ xs) (added_sides f ps) ∙ ap (λ xs. xs ++ line_sides ps) (one_part p)
    ∙ sym (flat_append path p (flat_map (λ part. part) ps))

line_by : (s : Shape) → s.kind ≡ kind.Line → segments_of s ≡ line_sides s.parts
line_by s e = ap (λ (k : Kind). segments_by k (rings_of s)) e

-- ---- the rule

not_broken : (row : Row) (G : List Feature) (k : ℕ) → row.kind ≡ rule.LineMustBeSinglePart → IsSingle (feature_at G k) → ¬ (BrokenWhole row G k)
unfolding BrokenWhole
not_broken row G k e s = λ b.
    let r = subst (λ (q : RuleKind). broken_whole q row.origin row.dest G k) e b in
    let one : length r.f.shape.parts ≡ 1 = subst IsSingle r.subject.live s in
    omega (arith, r.more, one)

none_broken : (row : Row) (G : List Feature) (at : ℕ → Option Feature) (ks : List ℕ) → row.kind ≡ rule.LineMustBeSinglePart
    → ((k : ℕ) → feature_at G k ≡ at k) → Every (λ k. IsSingle (at k)) ks → Every (λ k. ¬ (BrokenWhole row G k)) ks
none_broken row G at [] e g s = tt
none_broken row G at (k ∷ ks) e g s = (not_broken row G k e (subst IsSingle (sym (g k)) s.0), none_broken row G at ks e g s.1)

pub explode_fixes : (F : List Feature) (n h : ℕ) (f : Feature) (G : List Feature) → feature_at F h ≡ Some f → f.shape.kind ≡ kind.Line → f.handle ≡ h → h < n
    → IsAfter (exploded f) F n G → HasExploded F n h (exploded f) G
explode_fixes F n h f G live line o l a = record {
  single = λ row e. none_broken row G (after_plan (exploded f) n (feature_at F)) (handles_of (exploded f) n) e a.each
      (single_by f f.shape.parts n (feature_at F) (subst (λ k. feature_at F k ≡ Some f) (sym o) live)
      (subst (λ k. k < n) (sym o) l));
  segments = λ g e.
      let same : g ≡ f = some_same (sym e ∙ live) in
      exploded_sides f f.shape.parts ∙ sym (line_by f.shape line) ∙ ap sides (sym same);
  others = λ k q. a.each k ∙ others_after (exploded f) n (feature_at F) k q;
}
  where
    some_same : {g f : Feature} → Some g ≡ Some f → g ≡ f
    some_same e = cc
