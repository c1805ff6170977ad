-- The parts of a line are lines of one part.
use Rattle.std.proofs.Common.{◌≡◌, ℕ, zero, suc, ◌+◌, ◌<◌, ◌≤◌, List, [], ◌∷◌, ◌++◌, length, map, arith, refl, sym, subst, ap, ◌∙◌, length-append, append_assoc, inl, inr, get_or, take, drop, ◌-◌, Some}
use Rattle.std.proofs.lemmas.List.{take_more, take_all}
use Rattle.plane_terms.specs.declared.kind.Kind.{Kind}
use Rattle.shape.specs.Given.{Ring, rings_in, lines_in, all_rings}
use Rattle.shape.proofs.Filled.{line_rings}
use Rattle.shape.proofs.Made.{line_parts as made_parts}
use Rattle.std.proofs.lemmas.List.{length-map}
use Rattle.topology_terms.specs.Feature.{Feature, feature_at}
use Rattle.topology_terms.specs.Causes.{same_kind}
use Rattle.std.specs.Prelude.{true, false, nat_lt, ◌&&◌}
use Rattle.std.proofs.lemmas.Bool.Decides.{nat_tests}
use Rattle.fix_terms.specs.Plans.{Edit}
use Rattle.fix_terms.specs.declared.edit.Edit.TheVariants.{Put, Add}
use Rattle.std.specs.List.{flat_map}
use Rattle.plane_terms.specs.Lists.{Every}
use Rattle.plane_terms.specs.Point.{Place}
use Rattle.plane_terms.specs.Shape.{Shape, without_repeats, NextDiffer, IsRing, IsShape, shape_of, rings_of, vertices_of}
use Rattle.plane_terms.specs.ShapeFaults.{IsFault, IsFew, LacksRings, IsFirstOf, IsShort}
use Rattle.plane_terms.specs.declared.shape_fault.ShapeFault.{ShapeFault}
use Rattle.plane_terms.specs.declared.shape_fault.ShapeFault.TheVariants.{TooFew, TooMany, Cross, Along, NoMemory}
use Rattle.plane_terms.specs.declared.kind.Kind.TheVariants as kind
use Rattle.fix_terms.specs.Explode.{line_of, exploded_by, exploded, may_explode}
use Rattle.fix_tools.specs.Explode.{added_parts, IsLinePart}

-- vertices that differ are kept
pub kept : (ring : List Place) → NextDiffer ring → without_repeats ring ≡ ring
kept [] d = refl
kept (p ∷ []) d = refl
kept (p ∷ q ∷ ps) d = rw d.0 (ap (λ (qs : List Place). p ∷ qs) (kept (q ∷ ps) d.1))

pub part_made : (ring : List Place) → NextDiffer ring → shape_of kind.Line ((ring ∷ []) ∷ []) ≡ line_of (ring ∷ [])
part_made ring d = ap (λ (r : List Place). line_of (r ∷ [])) (kept ring d)

-- no fault of a shape applies to a part
few_long : (ring : List Place) (n : ℕ) → 2 ≤ length ring → ¬ (IsFew (line_of (ring ∷ [])) n)
few_long ring n h = λ f. elim f [
  | inl a ↦ lacks a.0
  | inr b ↦ short n b.1
]
  where
    lacks : LacksRings (line_of (ring ∷ [])) → ⊥
    lacks l = elim l [ inl a ↦ cc | inr b ↦ elim b [ inl c ↦ cc | inr d ↦ d ] ]

    short : (n : ℕ) → IsFirstOf (IsShort kind.Line) (ring ∷ []) n → ⊥
    short zero s = omega (arith, s)
    short (suc n) s = s.1

vertices_are : (ring : List Place) → length (vertices_of (line_of (ring ∷ []))) ≡ length ring
vertices_are ring = length-append ring [] ∙ omega arith

pub only_memory : (ring : List Place) (fault : ShapeFault) → IsLinePart ring → IsFault (line_of (ring ∷ [])) fault → fault ≡ NoMemory
only_memory ring (TooFew n) p f = absurd (few_long ring n p.ring.0 f)
only_memory ring (TooMany n) p f =
    absurd (omega (arith, f.1.0, f.1.1, vertices_are ring, p.few))
only_memory ring (Cross i j) p f = absurd (cc f.2)
only_memory ring (Along i j) p f = absurd (cc f.2)
only_memory ring NoMemory p f = refl

-- what a line has as its parts
parts_by : (rings : List (List Place)) → Every (IsRing kind.Line) rings → length (flat_map (λ ring. ring) rings) ≤ 2000 → Every IsLinePart rings
parts_by [] h l = tt
parts_by (r ∷ rs) h l =
    let e = length-append r (flat_map (λ ring. ring) rs) in
    (record { ring = h.0; few = omega (arith, e, l) }, parts_by rs h.1 (omega (arith, e, l)))

pub line_parts : (s : Shape) → IsShape s → s.kind ≡ kind.Line → Every IsLinePart (rings_of s)
line_parts s v e = parts_by (rings_of s) (subst (λ k. Every (IsRing k) (rings_of s)) e v.rings) v.vertices

-- ---- lists of parts, as the code has them

pub every_item : {A B : Type 0} (P : B → Type 0) (f : A → B) (xs : List A) (i : ℕ) (x : A) → i < length xs → x ≡ get_or xs i x
    → Every P (map f xs) → P (f x)
every_item P f [] i x h e a = absurd (omega arith)
every_item P f (y ∷ ys) zero x h e a = subst (λ z. P (f z)) (sym e) a.0
every_item P f (y ∷ ys) (suc i) x h e a = every_item P f ys i x (omega arith) e a.1

pub map_more : {A B : Type 0} (f : A → B) (xs : List A) (x : A) → map f (xs ++ x ∷ []) ≡ map f xs ++ f x ∷ []
map_more f [] x = refl
map_more f (y ∷ ys) x = ap (λ zs. f y ∷ zs) (map_more f ys x)

abbrev added_part : Feature → List Place → Edit
added_part f ring = Add f.class f.subtype (line_of (ring ∷ []))

pub added_more : (f : Feature) (old edits new : List Edit) (ps : List Ring) (i : ℕ) (x : Ring) (edit : Edit) → i < length ps
    → x ≡ get_or ps i x → edits ≡ old ++ added_parts f (rings_in (take i ps)) → new ≡ edits ++ edit ∷ [] → edit ≡ added_part f x.items
    → new ≡ old ++ added_parts f (rings_in (take (i + 1) ps))
added_more f old edits new ps i x edit h e k n l =
    let more : take (i + 1) ps ≡ take i ps ++ x ∷ [] = take_more ps i x h ∙ ap (λ (y : Ring). take i ps ++ y ∷ []) (sym e) in
    let rings : rings_in (take (i + 1) ps) ≡ rings_in (take i ps) ++ x.items ∷ [] =
    ap (λ (qs : List Ring). rings_in qs) more ∙ map_more (λ (ring : Ring). ring.items) (take i ps) x in
    let last : added_parts f (rings_in (take (i + 1) ps)) ≡ added_parts f (rings_in (take i ps)) ++ added_part f x.items ∷ [] =
    ap (λ (rs : List (List Place)). added_parts f rs) rings ∙ map_more (λ (ring : List Place). added_part f ring) (rings_in (take i ps)) x.items in
    n ∙ ap (λ (d : Edit). edits ++ d ∷ []) l ∙ ap (λ (es : List Edit). es ++ added_part f x.items ∷ []) k
    ∙ more_of old (added_parts f (rings_in (take i ps))) (added_part f x.items ∷ []) ∙ ap (λ (es : List Edit). old ++ es) (sym last)
  where
    more_of : (us vs ws : List Edit) → (us ++ vs) ++ ws ≡ us ++ (vs ++ ws)
    more_of us vs ws = simp append_assoc

added_map : (f : Feature) (rings : List (List Place))
    → added_parts f rings ≡ map {A = List (List Place)} (λ part. Add f.class f.subtype (line_of part)) (map (λ r. r ∷ []) rings)
added_map f [] = refl
added_map f (r ∷ rs) = ap (λ (es : List Edit). added_part f r ∷ es) (added_map f rs)

pub plan_made : (f : Feature) (ps rest : List Ring) (x : Ring) (s : Shape) (h : ℕ) (first all : List Edit) → ps ≡ x ∷ rest → h ≡ f.handle
    → first ≡ [] ++ Put h s ∷ [] → s ≡ line_of (x.items ∷ []) → all ≡ first ++ added_parts f (rings_in rest)
    → all ≡ exploded_by f (map (λ r. r ∷ []) (rings_in ps))
plan_made f ps rest x s h first all e own g l k =
    let a : all ≡ Put h s ∷ added_parts f (rings_in rest) = k ∙ ap (λ (es : List Edit). es ++ added_parts f (rings_in rest)) g in
    a ∙ ap (λ (n : ℕ). Put n s ∷ added_parts f (rings_in rest)) own ∙ ap (λ (t : Shape). Put f.handle t ∷ added_parts f (rings_in rest)) l
    ∙ ap (λ (es : List Edit). Put f.handle (line_of (x.items ∷ [])) ∷ es) (added_map f (rings_in rest))
    ∙ ap (λ (qs : List Ring). exploded_by f (map (λ r. r ∷ []) (rings_in qs))) (sym e)

pub line_kind : (k : Kind) (n : ℕ) → ((k ≡ kind.Line → ⊥) → n ≡ 0) → 1 ≤ n → k ≡ kind.Line
line_kind kind.Point n f h = absurd (omega (arith, f (λ e. cc)))
line_kind kind.Line n f h = refl
line_kind kind.Polygon n f h = absurd (omega (arith, f (λ e. cc)))

pub parts_are : (s : Shape) (ps : List Ring) → IsShape s → s.kind ≡ kind.Line → lines_in ps ≡ s.parts → Every IsLinePart (rings_in ps)
parts_are s ps v e p =
    subst (λ (rs : List (List Place)). Every IsLinePart rs) (ap (λ (qs : List (List (List Place))). all_rings qs) (sym p) ∙ line_rings ps)
    (line_parts s v e)

pub given_made : (ps old : List Ring) (v : Ring) (part : List Place) → ps ≡ old ++ v ∷ [] → old ≡ [] → v.items ≡ part → NextDiffer part
    → shape_of kind.Line (lines_in ps) ≡ line_of (part ∷ [])
given_made ps old v part e f g d =
    ap (λ (qs : List Ring). shape_of kind.Line (lines_in qs)) (e ∙ ap (λ (qs : List Ring). qs ++ v ∷ []) f)
    ∙ ap (λ (vs : List Place). shape_of kind.Line ((vs ∷ []) ∷ [])) g ∙ part_made part d

pub tail_of : (ps : List Ring) (x : Ring) → 1 ≤ length ps → x ≡ get_or ps 0 x → ps ≡ x ∷ take (length ps - 1) (drop 1 ps)
tail_of [] x h e = absurd (omega arith)
tail_of (p ∷ qs) x h e =
    ap (λ (y : Ring). y ∷ qs) (sym e) ∙ ap (λ (rs : List Ring). x ∷ rs) (sym (take_all (length (p ∷ qs) - 1) qs (omega arith)))

-- ---- the call

-- a feature of which the parts of a line are these, two or more
pub record Several (F : List Feature) (h : ℕ) (f : Feature) (s : Shape) (ps : List Ring) : Type 0 where
  pub live : feature_at F h ≡ Some f
  pub shape : s ≡ f.shape
  pub valid : IsShape s
  pub parts : s.kind ≡ kind.Line → lines_in ps ≡ s.parts
  pub none : (s.kind ≡ kind.Line → ⊥) → ps ≡ []
  pub more : 2 ≤ length ps

line_of_several : (F : List Feature) (h : ℕ) (f : Feature) (s : Shape) (ps : List Ring) → Several F h f s ps → s.kind ≡ kind.Line
line_of_several F h f s ps k = line_kind s.kind (length ps) (λ n. ap (λ (qs : List Ring). length qs) (k.none n)) (omega (arith, k.more))

pub several_parts : (F : List Feature) (h : ℕ) (f : Feature) (s : Shape) (ps : List Ring) → Several F h f s ps → Every IsLinePart (rings_in ps)
several_parts F h f s ps k = let e = line_of_several F h f s ps k in parts_are s ps k.valid e (k.parts e)

same_length : (s : Shape) (ps : List Ring) → lines_in ps ≡ s.parts → length s.parts ≡ length ps
same_length s ps e = ap (λ (qs : List (List (List Place))). length qs) (sym e) ∙ length-map ps (λ (part : Ring). part.items ∷ [])

pub several_kind : (F : List Feature) (h : ℕ) (f : Feature) (s : Shape) (ps : List Ring) → Several F h f s ps → f.shape.kind ≡ kind.Line
several_kind F h f s ps k = ap (λ (t : Shape). t.kind) (sym k.shape) ∙ line_of_several F h f s ps k

several_length : (F : List Feature) (h : ℕ) (f : Feature) (s : Shape) (ps : List Ring) → Several F h f s ps → length f.shape.parts ≡ length ps
several_length F h f s ps k =
    ap (λ (t : Shape). length t.parts) (sym k.shape) ∙ same_length s ps (k.parts (line_of_several F h f s ps k))

pub several_may : (F : List Feature) (h : ℕ) (f : Feature) (s : Shape) (ps : List Ring) → Several F h f s ps → may_explode f ≡ true
several_may F h f s ps k = passes f.shape.kind (length f.shape.parts) (several_kind F h f s ps k) (let e = several_length F h f s ps k in omega (arith, e, k.more))
  where
    passes : (k : Kind) (n : ℕ) → k ≡ kind.Line → 2 ≤ n → (same_kind k kind.Line && nat_lt 1 n) ≡ true
    passes k n e l = rw e (grind (arith, nat_tests, l))

pub several_plan : (F : List Feature) (h : ℕ) (f : Feature) (s : Shape) (ps : List Ring) (es : List Edit) → Several F h f s ps
    → es ≡ exploded_by f (map (λ r. r ∷ []) (rings_in ps)) → es ≡ exploded f
several_plan F h f s ps es k p =
    let parts : map (λ r. r ∷ []) (rings_in ps) ≡ f.shape.parts =
    sym (made_parts ps) ∙ k.parts (line_of_several F h f s ps k) ∙ ap (λ (t : Shape). t.parts) k.shape in
    p ∙ ap (λ (qs : List (List (List Place))). exploded_by f qs) parts

pub several_enough : (F : List Feature) (h n : ℕ) (f : Feature) (s : Shape) (ps : List Ring) → Several F h f s ps
    → n + length ps - 1 ≤ 4294967295 → n + length f.shape.parts ≤ 4294967296
several_enough F h n f s ps k l = let g = several_length F h f s ps k in omega (arith, g, l)

pub several_spent : (F : List Feature) (h n : ℕ) (f : Feature) (s : Shape) (ps : List Ring) → Several F h f s ps
    → 4294967295 < n + length ps - 1 → ¬ (n + length f.shape.parts ≤ 4294967296)
several_spent F h n f s ps k l = λ m. let g = several_length F h f s ps k in omega (arith, g, l, m)

-- a feature of fewer parts
pub too_few : (f : Feature) (s : Shape) (ps : List Ring) → s ≡ f.shape → (s.kind ≡ kind.Line → lines_in ps ≡ s.parts) → length ps < 2
    → may_explode f ≡ false
too_few f s ps e p l = fails f.shape.kind (length f.shape.parts) (λ line.
    let g : length s.parts ≡ length ps = same_length s ps (p (ap (λ (t : Shape). t.kind) e ∙ line)) in
    let i : length f.shape.parts ≡ length s.parts = ap (λ (t : Shape). length t.parts) (sym e) in
    omega (arith, g, i, l))
  where
    fails : (k : Kind) (n : ℕ) → (k ≡ kind.Line → n < 2) → (same_kind k kind.Line && nat_lt 1 n) ≡ false
    fails kind.Point n m = refl
    fails kind.Polygon n m = refl
    fails kind.Line n m = let l = m refl in grind (arith, nat_tests, l)
