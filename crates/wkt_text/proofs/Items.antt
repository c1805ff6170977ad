-- What is written of a list with commas between its items, and of the parts of a shape.
--
-- listed_at, commas_at     the first item of a list, and those behind it; the next item behind a comma, and those behind that
-- listed_by, commas_by     the same of views of the items
-- item_more                of what is to come, a comma and an item are appended
-- closed_at                a ring, closed by its first place
-- one_line, more_lines, one_polygon, more_polygons     what the words of a geometry are followed by
use Rattle.std.proofs.Common.{ℕ, suc, ◌≡◌, ◌<◌, ◌≤◌, ◌+◌, ◌-◌, List, [], ◌∷◌, ◌++◌, map, length, take, drop, get_or, refl, sym, ap, ◌∙◌, append_assoc, append-nil, arith}
use Rattle.std.proofs.Math.Seq.{drop-cons}
use Rattle.std.proofs.lemmas.Grind.{common_steps}
use Rattle.std.specs.Prelude.{Vec, codes}
use Rattle.std.specs.Global.{Global}
use Rattle.plane_terms.specs.Point.{Place}
use Rattle.text_terms.specs.Wkt.{listed}
use Rattle.wkt_terms.specs.Shapes.{closed, of_lines, of_polygons}
use Rattle.wkt_terms.specs.Written.{place_text, bracketed, list_text, lists_text, written}
use Rattle.wkt_laws.specs.Commas.{comma_texts}
use Rattle.shape.specs.Given.{Ring, rings_in as lists_of, polygons_in as parts_of}
use Rattle.text_out.proofs.Pushing.{left_more}
use Rattle.wkt_laws.proofs.Written.{listed_items}
use Rattle.wkt_text.specs.Closed.{ring_text, rings_text}

-- ---- lists with commas

abbrev comma : List ℕ
comma = 44 ∷ 32 ∷ []

rest_is : {A : Type 0} (y : A) (ys : List A) → take (length (y ∷ ys) - 1) (drop 1 (y ∷ ys)) ≡ ys
rest_is y ys = grind (arith, common_steps)

pub listed_at : {A : Type 0} (f : A → List ℕ) (xs : List A) (x : A) → 1 ≤ length xs → x ≡ get_or xs 0 x
    → listed (map f xs) ≡ f x ++ comma_texts f (take (length xs - 1) (drop 1 xs))
listed_at f [] x some is = absurd (omega arith)
listed_at f (y ∷ ys) x some is =
    listed_items f y ys ∙ (ap (λ v. f v ++ comma_texts f ys) (sym is) ∙ ap (λ vs. f x ++ comma_texts f vs) (sym (rest_is y ys)))

-- the same of a view v of the first item
pub listed_by : {A B : Type 0} (f : B → List ℕ) (g : A → B) (xs : List A) (x : A) (v : B) → 1 ≤ length xs → x ≡ get_or xs 0 x → v ≡ g x
    → listed (map f (map g xs)) ≡ f v ++ comma_texts f (map g (take (length xs - 1) (drop 1 xs)))
listed_by f g [] x v some is seen = absurd (omega arith)
listed_by f g (y ∷ ys) x v some is seen =
    listed_items f (g y) (map g ys)
    ∙ (ap (λ w. f w ++ comma_texts f (map g ys)) (sym (seen ∙ ap g is)) ∙ ap (λ vs. f v ++ comma_texts f (map g vs)) (sym (rest_is y ys)))

pub commas_at : {A : Type 0} (f : A → List ℕ) (xs : List A) (i : ℕ) (x : A) → i < length xs → x ≡ get_or xs i x
    → comma_texts f (drop i xs) ≡ comma ++ (f x ++ comma_texts f (drop (i + 1) xs))
commas_at f xs i x below is =
    let next : i + 1 ≡ suc i = omega arith in
    rw next (ap (λ vs. comma_texts f vs) (drop-cons xs i x below) ∙ ap (λ v. comma ++ (f v ++ comma_texts f (drop (suc i) xs))) (sym is))

pub commas_by : {A B : Type 0} (f : B → List ℕ) (g : A → B) (xs : List A) (i : ℕ) (x : A) (v : B) → i < length xs → x ≡ get_or xs i x
    → v ≡ g x → comma_texts f (map g (drop i xs)) ≡ comma ++ (f v ++ comma_texts f (map g (drop (i + 1) xs)))
commas_by f g xs i x v below is seen =
    let next : i + 1 ≡ suc i = omega arith in
    rw next (ap (λ vs. comma_texts f (map g vs)) (drop-cons xs i x below)
    ∙ ap (λ w. comma ++ (f w ++ comma_texts f (map g (drop (suc i) xs)))) (sym (seen ∙ ap g is)))

pub item_more : (now mid new left a next whole : List ℕ) → left ≡ comma ++ (a ++ next) → now ++ left ≡ whole → mid ≡ now ++ comma
    → new ≡ mid ++ a → new ++ next ≡ whole
item_more now mid new left a next whole parts before first second =
    left_more mid new a (a ++ next) next whole refl (left_more now mid comma left (a ++ next) whole parts before first) second

-- ---- what the words are followed by

pub closed_items : (p : Place) (ps : List Place)
    → listed (map place_text (closed (p ∷ ps))) ≡ place_text p ++ (comma_texts place_text ps ++ (comma ++ place_text p))
closed_items p ps = listed_items place_text p (ps ++ p ∷ []) ∙ ap (λ t. place_text p ++ t) (commas_last ps)
  where
    commas_last : (qs : List Place) → comma_texts place_text (qs ++ p ∷ []) ≡ comma_texts place_text qs ++ (comma ++ place_text p)
    commas_last [] = ap (λ t. comma ++ t) (append-nil (place_text p))
    commas_last (q ∷ qs) =
        ap (λ t. comma ++ (place_text q ++ t)) (commas_last qs)
        ∙ ap (λ t. comma ++ t) (sym (append_assoc (place_text q) (comma_texts place_text qs) (comma ++ place_text p)))

pub closed_at : (xs : List Place) (x : Place) → 1 ≤ length xs → x ≡ get_or xs 0 x
    → listed (map place_text (closed xs)) ≡ place_text x ++
    (comma_texts place_text (take (length xs - 1) (drop 1 xs)) ++ (comma ++ place_text x))
closed_at [] x some is = absurd (omega arith)
closed_at (y ∷ ys) x some is =
    closed_items y ys ∙ (ap (λ v. place_text v ++ (comma_texts place_text ys ++ (comma ++ place_text v))) (sym is)
    ∙ ap (λ vs. place_text x ++ (comma_texts place_text vs ++ (comma ++ place_text x))) (sym (rest_is y ys)))

pub one_line : (parts : List Ring) (part : Ring) (ps : List Place) → length parts ≡ 1 → part ≡ get_or parts 0 part → ps ≡ part.items
    → written (of_lines (lists_of parts)) ≡ codes "LINESTRING " ++ list_text ps
one_line [] part ps one is seen = absurd (omega arith)
one_line (r ∷ []) part ps one is seen = ap (λ t. codes "LINESTRING " ++ list_text t) (sym (seen ∙ ap (λ x. x.items) is))
one_line (r ∷ q ∷ parts) part ps one is seen = absurd (omega arith)

pub more_lines : (parts : List Ring) → (length parts ≡ 1 → ⊥)
    → written (of_lines (lists_of parts)) ≡ codes "MULTILINESTRING " ++ lists_text (lists_of parts)
more_lines [] other = refl
more_lines (r ∷ []) other = absurd (other refl)
more_lines (r ∷ q ∷ parts) other = refl

closed_texts : (rings : List (List Place)) → map list_text (map closed rings) ≡ map ring_text rings
closed_texts [] = refl
closed_texts (r ∷ rings) = ap (λ t. list_text (closed r) ∷ t) (closed_texts rings)

closed_lists : (rings : List (List Place)) → lists_text (map closed rings) ≡ rings_text rings
closed_lists rings = ap (λ t. bracketed (listed t)) (closed_texts rings)

closed_parts : (parts : List (List (List Place))) → map lists_text (map (λ part. map closed part) parts) ≡ map rings_text parts
closed_parts [] = refl
closed_parts (part ∷ parts) = ap (λ t. t ∷ map lists_text (map (λ more. map closed more) parts)) (closed_lists part)
    ∙ ap (λ t. rings_text part ∷ t) (closed_parts parts)

pub one_polygon : (parts : List (Vec Ring Global)) (part : Vec Ring Global) (rings : List Ring) → length parts ≡ 1
    → part ≡ get_or parts 0 part → rings ≡ part.items
    → written (of_polygons (parts_of parts)) ≡ codes "POLYGON " ++ rings_text (lists_of rings)
one_polygon [] part rings one is seen = absurd (omega arith)
one_polygon (r ∷ []) part rings one is seen =
    ap (λ t. codes "POLYGON " ++ t) (closed_lists (lists_of r.items)
    ∙ ap (λ x. rings_text (lists_of x)) (sym (seen ∙ ap (λ x. x.items) is)))
one_polygon (r ∷ q ∷ parts) part rings one is seen = absurd (omega arith)

pub more_polygons : (parts : List (Vec Ring Global)) → (length parts ≡ 1 → ⊥)
    → written (of_polygons (parts_of parts)) ≡ codes "MULTIPOLYGON " ++ bracketed (listed (map rings_text (parts_of parts)))
more_polygons [] other = refl
more_polygons (r ∷ []) other = absurd (other refl)
more_polygons (r ∷ q ∷ parts) other = ap (λ t. codes "MULTIPOLYGON " ++ bracketed (listed t)) (closed_parts (parts_of (r ∷ q ∷ parts)))
