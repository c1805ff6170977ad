-- A text has at least as many bytes as its geometry has places and rings.
--
-- real ts                how many of the tokens are not the end
-- total w xs             the sum of what w weighs of each
-- countable              the parts of what a text of 1,048,576 bytes spells can be counted
use Rattle.std.proofs.Common.{ℕ, ◌≡◌, ◌<◌, ◌≤◌, ◌+◌, ◌^◌, List, [], ◌∷◌, ◌++◌, map, length, length-append, refl, ap, ◌∙◌, sym, subst, arith}
use Rattle.std.specs.Prelude.{flat_map}
use Rattle.plane_terms.specs.Point.{Place}
use Rattle.shape.specs.Given.{all_rings, all_vertices, IsCountable}
use Rattle.text_terms.specs.Fields.{skip_blanks}
use Rattle.wkt_terms.specs.Grammar.{Geometry, APoint, ALine, Lines, APolygon, Polygons, IsWkt, position, commas, items, list, lists, spelling}
use Rattle.wkt_terms.specs.Shapes.{parts_in}
use Rattle.wkt_terms.specs.Tokens.{Token, Open, Close, Comma, Named, Numeral, Other, End, StartsWith, token_at, behind_token}
use Rattle.wkt_laws.proofs.Reading.{skip_blanks-le, shorter}

abbrev one : Token → ℕ
one Open = 1
one Close = 1
one Comma = 1
one (Named w) = 1
one (Numeral n) = 1
one Other = 1
one End = 0

abbrev real : List Token → ℕ
real [] = 0
real (t ∷ ts) = one t + real ts

-- a token that is not the end takes a byte
token_takes : (rest : List ℕ) (t : Token) → token_at rest ≡ t → one t + length (skip_blanks (behind_token rest)) ≤ length rest
token_takes [] t e = subst (λ (u : Token). one u + 0 ≤ 0) e (omega arith)
token_takes (b ∷ bs) t e = omega (arith, small t, shorter (b ∷ bs) (skip_blanks (behind_token (b ∷ bs))) (omega arith) refl)
  where
    small : (u : Token) → one u ≤ 1
    small Open = omega arith
    small Close = omega arith
    small Comma = omega arith
    small (Named w) = omega arith
    small (Numeral n) = omega arith
    small Other = omega arith
    small End = omega arith

real-le : (text : List ℕ) (ts : List Token) (m : List ℕ) → StartsWith text ts m → real ts ≤ length (skip_blanks text)
real-le text [] m h = omega arith
real-le text (t ∷ ts) m h = omega (arith, token_takes (skip_blanks text) t h.0, real-le (behind_token (skip_blanks text)) ts m h.1)

real-append : (xs ys : List Token) → real (xs ++ ys) ≡ real xs + real ys
real-append [] ys = omega arith
real-append (x ∷ xs) ys = omega (arith, real-append xs ys)

abbrev total : {A : Type 0} → (A → ℕ) → List A → ℕ
total w [] = 0
total w (x ∷ xs) = w x + total w xs

commas-ge : {A : Type 0} (f : A → List Token) (w : A → ℕ) → ((x : A) → w x ≤ real (f x)) → (xs : List A) → total w xs ≤ real (commas f xs)
commas-ge f w h [] = omega arith
commas-ge f w h (x ∷ xs) = omega (arith, h x, commas-ge f w h xs, real-append (f x) (commas f xs))

items-ge : {A : Type 0} (f : A → List Token) (w : A → ℕ) → ((x : A) → w x ≤ real (f x)) → (xs : List A) → total w xs ≤ real (items f xs)
items-ge f w h [] = omega arith
items-ge f w h (x ∷ xs) = omega (arith, h x, commas-ge f w h xs, real-append (f x) (commas f xs))

total_one : {A : Type 0} (xs : List A) → total (λ x. 1) xs ≡ length xs
total_one [] = refl
total_one (x ∷ xs) = omega (arith, total_one xs)

length_joined : {A : Type 0} (xss : List (List A)) → length (flat_map (λ xs. xs) xss) ≡ total length xss
length_joined [] = refl
length_joined (xs ∷ xss) = length-append xs (flat_map (λ ys. ys) xss) ∙ ap (λ n. length xs + n) (length_joined xss)

-- a list has more tokens than places, and one at least
list-ge : (ps : List Place) → length ps + 1 ≤ real (list ps)
list-ge ps = omega (arith, total_one ps, items-ge position (λ p. 1) (λ p. omega arith) ps, real-append (items position ps) (Close ∷ []))

lists-ge : (w : List Place → ℕ) → ((ps : List Place) → w ps ≤ real (list ps)) → (pss : List (List Place)) → total w pss ≤ real (lists pss)
lists-ge w h pss = omega (arith, items-ge list w h pss, real-append (items list pss) (Close ∷ []))

parts-ge : (w : List (List Place) → ℕ) → ((pss : List (List Place)) → w pss ≤ real (lists pss)) → (parts : List (List (List Place)))
    → total w parts ≤ real (spelling (Polygons parts))
parts-ge w h parts = omega (arith, items-ge lists w h parts, real-append (items lists parts) (Close ∷ []))

-- places, and rings
abbrev pub vertices : List (List (List Place)) → ℕ
vertices parts = total (λ pss. total length pss) parts

abbrev pub rings : List (List (List Place)) → ℕ
rings parts = total length parts

vertices_are : (parts : List (List (List Place))) → length (all_vertices (all_rings parts)) ≡ vertices parts
vertices_are [] = refl
vertices_are (pss ∷ parts) =
    length_joined (pss ++ all_rings parts)
    ∙ (total-append pss (all_rings parts) ∙ ap (λ n. total length pss + n) (sym (length_joined (all_rings parts)) ∙ vertices_are parts))
  where
    total-append : (xs ys : List (List Place)) → total length (xs ++ ys) ≡ total length xs + total length ys
    total-append [] ys = omega arith
    total-append (x ∷ xs) ys = omega (arith, total-append xs ys)

pub record Counts (parts : List (List (List Place))) (n : ℕ) : Type 0 where
  pub of_rings : rings parts ≤ n
  pub of_vertices : vertices parts ≤ n

rings-ge : (ps : List Place) → 1 ≤ real (list ps)
rings-ge ps = omega (arith, list-ge ps)

places-ge : (ps : List Place) → length ps ≤ real (list ps)
places-ge ps = omega (arith, list-ge ps)

alone : (pss : List (List Place)) → Counts (map (λ ps. ps ∷ []) pss) (real (lists pss))
alone pss =
    record {
      of_rings = omega (arith, one_each pss, lists-ge (λ ps. 1) rings-ge pss);
      of_vertices = omega (arith, all_each pss, lists-ge length places-ge pss);
    }
  where
    one_each : (qss : List (List Place)) → rings (map (λ ps. ps ∷ []) qss) ≡ total (λ ps. 1) qss
    one_each [] = refl
    one_each (q ∷ qss) = omega (arith, one_each qss)

    all_each : (qss : List (List Place)) → vertices (map (λ ps. ps ∷ []) qss) ≡ total length qss
    all_each [] = refl
    all_each (q ∷ qss) = omega (arith, all_each qss)

part_rings : (pss : List (List Place)) → length pss ≤ real (lists pss)
part_rings pss = omega (arith, total_one pss, lists-ge (λ ps. 1) rings-ge pss)

counts : (g : Geometry) → Counts (parts_in g) (real (spelling g))
counts (APoint p) = record { of_rings = omega arith; of_vertices = omega arith }
counts (ALine ps) = record { of_rings = omega (arith, list-ge ps); of_vertices = omega (arith, list-ge ps) }
counts (Lines pss) = record { of_rings = omega (arith, (alone pss).of_rings); of_vertices = omega (arith, (alone pss).of_vertices) }
counts (APolygon pss) = record { of_rings = omega (arith, part_rings pss); of_vertices = omega (arith, lists-ge length places-ge pss) }
counts (Polygons parts) =
    record {
      of_rings = parts-ge length part_rings parts;
      of_vertices = parts-ge (λ pss. total length pss) (lists-ge length places-ge) parts;
    }

pub countable_by : (parts : List (List (List Place))) (n : ℕ) → n < 2 ^ 32 → Counts parts n → IsCountable parts
countable_by parts n small c =
    record {
      rings = omega (arith, small, c.of_rings, length_joined parts);
      vertices = omega (arith, small, c.of_vertices, vertices_are parts);
    }

pub countable : (text : List ℕ) (g : Geometry) → length text ≤ 1048576 → IsWkt text g → IsCountable (parts_in g)
countable text g short w =
    let n = real (spelling g) in
    let all : real (spelling g ++ End ∷ []) ≡ n + 0 = real-append (spelling g) (End ∷ []) in
    countable_by (parts_in g) n (omega (arith, short, all, real-le text (spelling g ++ End ∷ []) [] w.1, skip_blanks-le text)) (counts g)
