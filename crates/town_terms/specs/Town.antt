-- The made town: the script that a seed gives. It has n rows of n parcels, each a square of 100 by 100 units.
--
-- each_below n text     the texts of 0, 1, .. n - 1, one behind the other
-- line text             the text with an LF at its end
-- added class s         the line by which `maker` adds a feature of this class
-- parcel i j            the square of row i and column j, both counted from 0
-- address u v i j       a place inside that square, not on its border, by two words
-- road n w i            a line along the foot of row i, from end to end, with one vertex in between, by a word
--
-- row_word seed n i m   the word m of row i, counted from 0: a row has 2n words, and row 0 has the first
-- late_column           its word 0 says which of its columns gets its address late
-- address_line          two words place the address of each other column, by columns: words 1 and 2 that of the first of them
-- road_line             its last word places the vertex of the road
-- late_line             the words of row n, in which nothing stands, place the late addresses, two a row
--
-- row_text seed n i     the lines of row i: its parcels, its addresses, its road
-- head_text             three classes, five rules, and the session `maker`
-- validate_all          all is validated
-- window_line n         the lower half of the rows, rounded down, is validated once more
-- town_text seed n      the whole script
--
-- Source: own.
use Rattle.std.specs.Prelude.{ℕ, zero, suc, pos, ◌+◌, ◌-◌, ◌*◌, ◌/◌, ◌%◌, ◌==◌, nat_lt, List, [], ◌∷◌, ◌++◌, codes, decimal, if◌then◌else◌}
use Rattle.plane_terms.specs.Point.{Place}
use Rattle.plane_terms.specs.Shape.{Shape, point_shape}
use Rattle.plane_terms.specs.declared.kind.Kind.TheVariants as kind
use Rattle.text_terms.specs.Wkt.{◌⧺◌}
use Rattle.wkt_terms.specs.Shapes.{shape_text}
use Rattle.town_terms.specs.Words.{word}

abbrev pub each_below : ℕ → (ℕ → List ℕ) → List ℕ
each_below zero text = []
each_below (suc n) text = each_below n text ++ text n

abbrev pub line : List ℕ → List ℕ
line text = text ⧺ 10 ∷ []

-- ---- what is added

abbrev pub place : ℕ → ℕ → Place
place x y = record { x = pos x; y = pos y }

abbrev pub parcel : ℕ → ℕ → Shape
parcel i j = record {
  kind = kind.Polygon;
  parts = ((place (100 * j) (100 * i) ∷ place (100 * j + 100) (100 * i) ∷ place (100 * j + 100) (100 * i + 100) ∷ place (100 * j)
      (100 * i + 100) ∷ []) ∷ []) ∷ [];
}

abbrev pub address : ℕ → ℕ → ℕ → ℕ → Shape
address u v i j = point_shape (place (100 * j + 1 + u % 99) (100 * i + 1 + v % 99))

abbrev pub road : ℕ → ℕ → ℕ → Shape
road n w i = record {
  kind = kind.Line;
  parts = ((place 0 (100 * i) ∷ place (1 + w % (100 * n - 1)) (100 * i) ∷ place (100 * n) (100 * i) ∷ []) ∷ []) ∷ [];
}

abbrev pub added : List ℕ → Shape → List ℕ
added class s = codes "by maker add " ⧺ class ⧺ 32 ∷ shape_text s ⧺ 10 ∷ []

-- ---- a row

abbrev pub row_word : ℕ → ℕ → ℕ → ℕ → ℕ
row_word seed n i m = word seed (2 * n * i + m)

abbrev pub late_column : ℕ → ℕ → ℕ → ℕ
late_column seed n i = row_word seed n i 0 % n

abbrev pub parcel_line : ℕ → ℕ → List ℕ
parcel_line i j = added (codes "parcels") (parcel i j)

-- the address of row i and column j by the words m and m + 1 of some row
abbrev pub address_by : ℕ → ℕ → ℕ → ℕ → ℕ → ℕ → List ℕ
address_by seed n row m i j = added (codes "addresses") (address (row_word seed n row m) (row_word seed n row (m + 1)) i j)

-- how many columns before column j get their address at once
abbrev pub columns_before : ℕ → ℕ → ℕ
columns_before late j = if nat_lt late j then j - 1 else j

abbrev pub address_line : ℕ → ℕ → ℕ → ℕ → List ℕ
address_line seed n i j =
    if j == late_column seed n i then [] else address_by seed n i (1 + 2 * columns_before (late_column seed n i) j) i j

abbrev pub road_line : ℕ → ℕ → ℕ → List ℕ
road_line seed n i = added (codes "roads") (road n (row_word seed n i (2 * n - 1)) i)

abbrev pub row_text : ℕ → ℕ → ℕ → List ℕ
row_text seed n i = each_below n (parcel_line i) ⧺ each_below n (address_line seed n i) ⧺ road_line seed n i

-- ---- the script

abbrev pub head_text : List ℕ
head_text =
    line (codes "class parcels polygon") ⧺ line (codes "class addresses point") ⧺ line (codes "class roads line")
    ⧺ line (codes "rule polygon_must_not_overlap parcels") ⧺ line (codes "rule polygon_must_not_have_gaps parcels")
    ⧺ line (codes "rule polygon_contains_point parcels addresses") ⧺ line (codes "rule point_must_be_disjoint addresses")
    ⧺ line (codes "rule line_must_not_have_dangles roads") ⧺ line (codes "begin maker")

abbrev pub validate_all : List ℕ
validate_all = line (codes "validate all")

abbrev pub late_line : ℕ → ℕ → ℕ → List ℕ
late_line seed n i = address_by seed n n (2 * i) i (late_column seed n i)

abbrev pub window_line : ℕ → List ℕ
window_line n = codes "validate 0 0 " ⧺ decimal (100 * n) ⧺ 32 ∷ decimal (100 * (n / 2)) ⧺ 10 ∷ []

abbrev pub town_text : ℕ → ℕ → List ℕ
town_text seed n =
    head_text ⧺ each_below n (row_text seed n) ⧺ validate_all ⧺ each_below n (late_line seed n) ⧺ window_line n
