-- The steps read the grammar and nothing else, and stop at the first token that does not fit.
--
-- so_far s          the tokens that lead to the state
-- Holds s           what a state keeps: a point has one position, and no list is empty
-- adds              a step adds its token to what is so far
-- reads, again      what is run is what is spelled, and back
-- fits, stops       what was read begins a spelling, and with a refused token it begins none
use Rattle.std.proofs.Common.{ℤ, pos, ◌≡◌, List, [], ◌∷◌, ◌++◌, Result, Ok, Err, refl, sym, ap, ◌∙◌, subst, append_assoc, append-nil}
use Rattle.std.specs.List.{AllByRecursion}
use Rattle.plane_terms.specs.Point.{Place}
use Rattle.wkt_terms.specs.Faults.{IsFront, IsBegun}
use Rattle.wkt_terms.specs.Grammar.{Geometry, APoint, ALine, Lines, APolygon, Polygons, IsSome, AreSome, IsFull, position, commas, items, list, lists, spelling}
use Rattle.wkt_terms.specs.Numerals.{Number}
use Rattle.wkt_terms.specs.Numerals as number
use Rattle.wkt_terms.specs.Tokens.{Point, LineString, MultiLineString, Polygon, MultiPolygon, Modifier, Strange, Token, Open, Close, Comma, Named, Numeral, Other, End}
use Rattle.wkt_laws.specs.Steps.{Cause, Group, OfLines, OfPolygon, OfPart, Owner, OfPoint, OfLine, OneOf, State, Start, BeforeParts, BeforeLists, BeforeList, BeforeX, BeforeY, AfterPosition, AfterList, AfterPart, Complete, Over, place, closed, ended, after_comma, at_open, step, run, ◌>>=◌, IsOpen}

-- ---- lists with commas

pub commas-snoc : {A : Type 0} (f : A → List Token) (xs : List A) (y : A) → commas f (xs ++ y ∷ []) ≡ commas f xs ++ Comma ∷ f y
commas-snoc f [] y = ap (λ t. Comma ∷ t) (append-nil (f y))
commas-snoc f (x ∷ xs) y =
    ap (λ t. Comma ∷ f x ++ t) (commas-snoc f xs y) ∙ ap (λ t. Comma ∷ t) (sym (append_assoc (f x) (commas f xs) (Comma ∷ f y)))

-- what stands before the next item
abbrev pub before_next : {A : Type 0} → (A → List Token) → List A → List Token
before_next f [] = []
before_next f (x ∷ xs) = items f (x ∷ xs) ++ Comma ∷ []

pub items-snoc : {A : Type 0} (f : A → List Token) (xs : List A) (y : A) → items f (xs ++ y ∷ []) ≡ before_next f xs ++ f y
items-snoc f [] y = append-nil (f y)
items-snoc f (x ∷ xs) y = ap (λ t. f x ++ t) (commas-snoc f xs y) ∙ simp append_assoc

-- ---- what was read so far

abbrev pub lead : Group → List Token
lead OfLines = Named MultiLineString ∷ []
lead OfPolygon = Named Polygon ∷ []
lead (OfPart parts) = Named MultiPolygon ∷ Open ∷ before_next lists parts

abbrev pub head : Owner → List Token
head OfPoint = Named Point ∷ []
head OfLine = Named LineString ∷ []
head (OneOf group pss) = lead group ++ Open ∷ before_next list pss

abbrev pub so_far : State → List Token
so_far Start = []
so_far BeforeParts = Named MultiPolygon ∷ []
so_far (BeforeLists group) = lead group
so_far (BeforeList owner) = head owner
so_far (BeforeX owner ps) = head owner ++ Open ∷ before_next position ps
so_far (BeforeY owner ps x) = head owner ++ Open ∷ before_next position ps ++ Numeral (number.Whole x) ∷ []
so_far (AfterPosition owner ps) = head owner ++ Open ∷ items position ps
so_far (AfterList group pss) = lead group ++ Open ∷ items list pss
so_far (AfterPart parts) = Named MultiPolygon ∷ Open ∷ items lists parts
so_far (Complete g) = spelling g
so_far (Over g) = spelling g ++ End ∷ []

abbrev pub KeepsGroup : Group → Type 0
KeepsGroup OfLines = Unit {0}
KeepsGroup OfPolygon = Unit {0}
KeepsGroup (OfPart parts) = AllByRecursion AreSome parts

abbrev pub Keeps : Owner → List Place → Type 0
Keeps OfPoint ps = ps ≡ []
Keeps OfLine ps = Unit {0}
Keeps (OneOf group pss) ps = KeepsGroup group × AllByRecursion IsSome pss

abbrev pub IsOne : List Place → Type 0
IsOne [] = ⊥
IsOne (p ∷ ps) = ps ≡ []

abbrev pub Closes : Owner → List Place → Type 0
Closes OfPoint ps = IsOne ps
Closes OfLine ps = IsSome ps
Closes (OneOf group pss) ps = (KeepsGroup group × AllByRecursion IsSome pss) × IsSome ps

abbrev pub Holds : State → Type 0
Holds Start = Unit {0}
Holds BeforeParts = Unit {0}
Holds (BeforeLists group) = KeepsGroup group
Holds (BeforeList owner) = Keeps owner []
Holds (BeforeX owner ps) = Keeps owner ps
Holds (BeforeY owner ps x) = Keeps owner ps
Holds (AfterPosition owner ps) = Closes owner ps
Holds (AfterList group pss) = KeepsGroup group × AreSome pss
Holds (AfterPart parts) = IsSome parts × AllByRecursion AreSome parts
Holds (Complete g) = IsFull g
Holds (Over g) = IsFull g

-- ---- a step adds its token

pub record Adds (s : State) (t : Token) (next : State) : Type 0 where
  pub text : so_far next ≡ so_far s ++ t ∷ []
  pub holds : Holds next
  pub unended : (t ≡ End → ⊥) → IsOpen next

-- what a step gave
abbrev pub Gives : State → Token → Result State Cause → Type 0
Gives s t (Ok next) = Adds s t next
Gives s t (Err c) = Unit {0}

IsSome-snoc : {A : Type 0} (xs : List A) (y : A) → IsSome (xs ++ y ∷ [])
IsSome-snoc [] y = tt
IsSome-snoc (x ∷ xs) y = tt

All-snoc : {A : Type 0} (P : A → Type 0) (xs : List A) (y : A) → AllByRecursion P xs → P y → AllByRecursion P (xs ++ y ∷ [])
All-snoc P [] y h k = (k, tt)
All-snoc P (x ∷ xs) y h k = (h.0, All-snoc P xs y h.1 k)

pub closes : (owner : Owner) (ps : List Place) (p : Place) → Keeps owner ps → Closes owner (ps ++ p ∷ [])
closes OfPoint [] p h = refl
closes OfPoint (q ∷ ps) p h = absurd cc
closes OfLine ps p h = IsSome-snoc ps p
closes (OneOf group pss) ps p h = (h, IsSome-snoc ps p)

y_text : (owner : Owner) (ps : List Place) (x y : ℤ)
    → so_far (AfterPosition owner (ps ++ place x y ∷ [])) ≡ so_far (BeforeY owner ps x) ++ Numeral (number.Whole y) ∷ []
y_text owner ps x y = rw (items-snoc position ps (place x y)) (simp append_assoc)

x_text : (owner : Owner) (ps : List Place) (x : ℤ)
    → so_far (BeforeY owner ps x) ≡ so_far (BeforeX owner ps) ++ Numeral (number.Whole x) ∷ []
x_text owner ps x = simp append_assoc

at_x : (owner : Owner) (ps : List Place) (n : Number) → Keeps owner ps
    → Gives (BeforeX owner ps) (Numeral n) (step (BeforeX owner ps) (Numeral n))
at_x owner ps (number.Whole x) h = record { text = x_text owner ps x; holds = h; unended = λ _. tt }
at_x owner ps number.OffGrid h = tt
at_x owner ps number.OutOfReach h = tt
at_x owner ps number.NoNumber h = tt

at_y : (owner : Owner) (ps : List Place) (x : ℤ) (n : Number) → Keeps owner ps
    → Gives (BeforeY owner ps x) (Numeral n) (step (BeforeY owner ps x) (Numeral n))
at_y owner ps x (number.Whole y) h = record { text = y_text owner ps x y; holds = closes owner ps (place x y) h; unended = λ _. tt }
at_y owner ps x number.OffGrid h = tt
at_y owner ps x number.OutOfReach h = tt
at_y owner ps x number.NoNumber h = tt

at_comma : (owner : Owner) (ps : List Place) → Closes owner ps → Gives (AfterPosition owner ps) Comma (step (AfterPosition owner ps) Comma)
at_comma OfPoint ps h = tt
at_comma OfLine [] h = absurd h
at_comma OfLine (p ∷ ps) h = record { text = refl; holds = tt; unended = λ _. tt }
at_comma (OneOf group pss) [] h = absurd h.1
at_comma (OneOf group pss) (p ∷ ps) h = record { text = simp append_assoc; holds = h.0; unended = λ _. tt }

at_close : (owner : Owner) (ps : List Place) → Closes owner ps → Gives (AfterPosition owner ps) Close (step (AfterPosition owner ps) Close)
at_close OfPoint [] h = absurd h
at_close OfPoint (p ∷ ps) h = record { text = rw h refl; holds = tt; unended = λ _. tt }
at_close OfLine ps h = record { text = refl; holds = h; unended = λ _. tt }
at_close (OneOf group pss) ps h =
    record {
      text = rw (items-snoc list pss ps) (simp append_assoc);
      holds = (h.0.0, (IsSome-snoc pss ps, All-snoc IsSome pss ps h.0.1 h.1));
      unended = λ _. tt;
    }

at_list_comma : (group : Group) (pss : List (List Place)) → KeepsGroup group × AreSome pss
    → Adds (AfterList group pss) Comma (BeforeList (OneOf group pss))
at_list_comma group [] h = absurd h.1.0
at_list_comma group (ps ∷ pss) h = record { text = simp append_assoc; holds = (h.0, h.1.1); unended = λ _. tt }

at_list_close : (group : Group) (pss : List (List Place)) → KeepsGroup group × AreSome pss
    → Adds (AfterList group pss) Close (ended group pss)
at_list_close OfLines pss h = record { text = refl; holds = h.1; unended = λ _. tt }
at_list_close OfPolygon pss h = record { text = refl; holds = h.1; unended = λ _. tt }
at_list_close (OfPart parts) pss h =
    record {
      text = rw (items-snoc lists parts pss) (simp append_assoc);
      holds = (IsSome-snoc parts pss, All-snoc AreSome parts pss h.0 h.1);
      unended = λ _. tt;
    }

at_part_comma : (parts : List (List (List Place))) → IsSome parts × AllByRecursion AreSome parts
    → Adds (AfterPart parts) Comma (BeforeLists (OfPart parts))
at_part_comma [] h = absurd h.0
at_part_comma (part ∷ parts) h = record { text = refl; holds = h.1; unended = λ _. tt }

at_open_gives : (s then : State) → so_far then ≡ so_far s ++ Open ∷ [] → Holds then → IsOpen then → (t : Token) → Gives s t (at_open then t)
at_open_gives s then e h o Open = record { text = e; holds = h; unended = λ _. o }
at_open_gives s then e h o (Named Modifier) = tt
at_open_gives s then e h o (Named Point) = tt
at_open_gives s then e h o (Named LineString) = tt
at_open_gives s then e h o (Named MultiLineString) = tt
at_open_gives s then e h o (Named Polygon) = tt
at_open_gives s then e h o (Named MultiPolygon) = tt
at_open_gives s then e h o (Named Strange) = tt
at_open_gives s then e h o t = tt

pub adds : (s : State) (t : Token) → Holds s → Gives s t (step s t)
adds Start (Named Point) h = record { text = refl; holds = refl; unended = λ _. tt }
adds Start (Named LineString) h = record { text = refl; holds = tt; unended = λ _. tt }
adds Start (Named MultiLineString) h = record { text = refl; holds = tt; unended = λ _. tt }
adds Start (Named Polygon) h = record { text = refl; holds = tt; unended = λ _. tt }
adds Start (Named MultiPolygon) h = record { text = refl; holds = tt; unended = λ _. tt }
adds Start (Named Modifier) h = tt
adds Start (Named Strange) h = tt
adds Start Open h = tt
adds Start Close h = tt
adds Start Comma h = tt
adds Start (Numeral n) h = tt
adds Start Other h = tt
adds Start End h = tt
adds BeforeParts t h = at_open_gives BeforeParts (BeforeLists (OfPart [])) refl tt tt t
adds (BeforeLists group) t h = at_open_gives (BeforeLists group) (BeforeList (OneOf group [])) refl (h, tt) tt t
adds (BeforeList owner) t h = at_open_gives (BeforeList owner) (BeforeX owner []) refl h tt t
adds (BeforeX owner ps) (Numeral n) h = at_x owner ps n h
adds (BeforeX owner ps) t h = tt
adds (BeforeY owner ps x) (Numeral n) h = at_y owner ps x n h
adds (BeforeY owner ps x) t h = tt
adds (AfterPosition owner ps) Comma h = at_comma owner ps h
adds (AfterPosition owner ps) Close h = at_close owner ps h
adds (AfterPosition owner ps) t h = tt
adds (AfterList group pss) Comma h = at_list_comma group pss h
adds (AfterList group pss) Close h = at_list_close group pss h
adds (AfterList group pss) t h = tt
adds (AfterPart parts) Comma h = at_part_comma parts h
adds (AfterPart parts) Close h = record { text = refl; holds = h; unended = λ _. tt }
adds (AfterPart parts) t h = tt
adds (Complete g) End h = record { text = refl; holds = h; unended = λ n. n refl }
adds (Complete g) t h = tt
adds (Over g) t h = tt

-- ---- what is read is the grammar's

pub record Reads (s : State) (ts : List Token) (last : State) : Type 0 where
  pub text : so_far last ≡ so_far s ++ ts
  pub holds : Holds last

bind_ok : {A B : Type 0} (r : Result A Cause) (f : A → Result B Cause) (y : B) → (r >>= f) ≡ Ok y → (x : A) × (r ≡ Ok x) × (f x ≡ Ok y)
bind_ok (Ok x) f y e = (x, refl, e)
bind_ok (Err d) f y e = absurd cc

abbrev fine : State → Result State Cause
fine s = Ok s

ok_is : (x y : State) → fine x ≡ fine y → x ≡ y
ok_is x y e = cc

pub reads : (s : State) (ts : List Token) (last : State) → Holds s → run s ts ≡ Ok last → Reads s ts last
reads s [] last h e = subst (λ (l : State). Reads s [] l) (ok_is s last e) (record { text = sym (append-nil (so_far s)); holds = h })
reads s (t ∷ ts) last h e =
    let b = bind_ok (step s t) (λ next. run next ts) last e in
    let a : Adds s t b.0 = subst (λ (r : Result State Cause). Gives s t r) b.1 (adds s t h) in
    let r = reads b.0 ts last a.holds b.2 in
    record { text = r.text ∙ (ap (λ x. x ++ ts) a.text ∙ append_assoc (so_far s) (t ∷ []) ts); holds = r.holds }

-- ---- what is the grammar's is read

pub run_commas : (owner : Owner) (many : (ps : List Place) → after_comma owner ps ≡ Ok (BeforeX owner ps)) (ps qs : List Place)
    (rest : List Token) → run (AfterPosition owner ps) (commas position qs ++ rest) ≡ run (AfterPosition owner (ps ++ qs)) rest
run_commas owner many ps [] rest = ap (λ x. run (AfterPosition owner x) rest) (sym (append-nil ps))
run_commas owner many ps (q ∷ qs) rest =
    rw (many ps) (run_commas owner many (ps ++ q ∷ []) qs rest ∙ ap (λ x. run (AfterPosition owner x) rest) (append_assoc ps (q ∷ []) qs))

run_positions : (owner : Owner) (many : (ps : List Place) → after_comma owner ps ≡ Ok (BeforeX owner ps)) (ps : List Place)
    (rest : List Token) → IsSome ps → run (BeforeList owner) (list ps ++ rest) ≡ run (closed owner ps) rest
run_positions owner many [] rest some = absurd some
run_positions owner many (q ∷ qs) rest some =
    rw (append_assoc (commas position qs) (Close ∷ []) rest) (run_commas owner many (q ∷ []) qs (Close ∷ rest))

run_more_lists : (group : Group) (pss more : List (List Place)) (rest : List Token) → AllByRecursion IsSome more
    → run (AfterList group pss) (commas list more ++ rest) ≡ run (AfterList group (pss ++ more)) rest
run_more_lists group pss [] rest full = ap (λ x. run (AfterList group x) rest) (sym (append-nil pss))
run_more_lists group pss (r ∷ more) rest full =
    let e : commas list (r ∷ more) ++ rest ≡ Comma ∷ (list r ++ (commas list more ++ rest)) =
    ap (λ x. Comma ∷ x) (append_assoc (list r) (commas list more) rest) in
    ap (λ x. run (AfterList group pss) x) e ∙ (run_positions (OneOf group pss) (λ ps. refl) r (commas list more ++ rest) full.0
    ∙ (run_more_lists group (pss ++ r ∷ []) more rest full.1 ∙ ap (λ x. run (AfterList group x) rest) (append_assoc pss (r ∷ []) more)))

run_lists : (group : Group) (pss : List (List Place)) (rest : List Token) → AreSome pss
    → run (BeforeLists group) (lists pss ++ rest) ≡ run (ended group pss) rest
run_lists group [] rest full = absurd full.0
run_lists group (r ∷ pss) rest full =
    let e : lists (r ∷ pss) ++ rest ≡ Open ∷ (list r ++ (commas list pss ++ Close ∷ rest)) = simp append_assoc in
    ap (λ x. run (BeforeLists group) x) e ∙ (run_positions (OneOf group []) (λ ps. refl) r (commas list pss ++ Close ∷ rest) full.1.0
    ∙ run_more_lists group (r ∷ []) pss (Close ∷ rest) full.1.1)

run_more_parts : (parts more : List (List (List Place))) (rest : List Token) → AllByRecursion AreSome more
    → run (AfterPart parts) (commas lists more ++ rest) ≡ run (AfterPart (parts ++ more)) rest
run_more_parts parts [] rest full = ap (λ x. run (AfterPart x) rest) (sym (append-nil parts))
run_more_parts parts (p ∷ more) rest full =
    let e : commas lists (p ∷ more) ++ rest ≡ Comma ∷ (lists p ++ (commas lists more ++ rest)) =
    ap (λ x. Comma ∷ x) (append_assoc (lists p) (commas lists more) rest) in
    ap (λ x. run (AfterPart parts) x) e ∙ (run_lists (OfPart parts) p (commas lists more ++ rest) full.0
    ∙ (run_more_parts (parts ++ p ∷ []) more rest full.1 ∙ ap (λ x. run (AfterPart x) rest) (append_assoc parts (p ∷ []) more)))

pub again : (g : Geometry) → IsFull g → run Start (spelling g ++ End ∷ []) ≡ Ok (Over g)
again (APoint p) full = refl
again (ALine ps) full = run_positions OfLine (λ qs. refl) ps (End ∷ []) full
again (Lines pss) full = run_lists OfLines pss (End ∷ []) full
again (APolygon rings) full = run_lists OfPolygon rings (End ∷ []) full
again (Polygons []) full = absurd full.0
again (Polygons (part ∷ parts)) full =
    let e : (items lists (part ∷ parts) ++ Close ∷ []) ++ End ∷ [] ≡ lists part ++ (commas lists parts ++ Close ∷ End ∷ []) =
    simp append_assoc in
    ap (λ x. run BeforeParts (Open ∷ x)) e ∙ (run_lists (OfPart []) part (commas lists parts ++ Close ∷ End ∷ []) full.1.0
    ∙ run_more_parts (part ∷ []) parts (Close ∷ End ∷ []) full.1.1)

-- ---- the first token that does not fit

append_over : (xs ys : List Token) → ((s : State) → run s (xs ++ ys) ≡ (run s xs >>= λ next. run next ys)) → (r : Result State Cause)
    → (r >>= λ n. run n (xs ++ ys)) ≡ ((r >>= λ n. run n xs) >>= λ next. run next ys)
append_over xs ys h (Ok n) = h n
append_over xs ys h (Err d) = refl

pub run-append : (s : State) (xs ys : List Token) → run s (xs ++ ys) ≡ (run s xs >>= λ next. run next ys)
run-append s [] ys = refl
run-append s (x ∷ xs) ys = append_over xs ys (λ n. run-append n xs ys) (step s x)

-- how a text may go on
abbrev pub end_group : Group → List Token
end_group OfLines = Close ∷ []
end_group OfPolygon = Close ∷ []
end_group (OfPart parts) = Close ∷ Close ∷ []

abbrev pub close_all : Owner → List Token
close_all OfPoint = Close ∷ []
close_all OfLine = Close ∷ []
close_all (OneOf group pss) = Close ∷ end_group group

abbrev pub origin : Place
origin = place (pos 0) (pos 0)

abbrev pub goes_on : State → List Token
goes_on Start = Named Point ∷ Open ∷ position origin ++ Close ∷ []
goes_on BeforeParts = Open ∷ Open ∷ Open ∷ position origin ++ Close ∷ Close ∷ Close ∷ []
goes_on (BeforeLists group) = Open ∷ Open ∷ position origin ++ Close ∷ end_group group
goes_on (BeforeList owner) = Open ∷ position origin ++ close_all owner
goes_on (BeforeX owner ps) = position origin ++ close_all owner
goes_on (BeforeY owner ps x) = Numeral (number.Whole (pos 0)) ∷ close_all owner
goes_on (AfterPosition owner ps) = close_all owner
goes_on (AfterList group pss) = end_group group
goes_on (AfterPart parts) = Close ∷ []
goes_on (Complete g) = []
goes_on (Over g) = []

abbrev pub Ends : State → List Token → Type 0
Ends s more = (g : Geometry) × (run s more ≡ Ok (Complete g))

ends_group : (group : Group) (pss : List (List Place)) → Ends (AfterList group pss) (end_group group)
ends_group OfLines pss = (Lines pss, refl)
ends_group OfPolygon pss = (APolygon pss, refl)
ends_group (OfPart parts) pss = (Polygons (parts ++ pss ∷ []), refl)

closes_all : (owner : Owner) (ps : List Place) → Closes owner ps → Ends (AfterPosition owner ps) (close_all owner)
closes_all OfPoint [] h = absurd h
closes_all OfPoint (p ∷ ps) h = (APoint p, refl)
closes_all OfLine ps h = (ALine ps, refl)
closes_all (OneOf group pss) ps h = ends_group group (pss ++ ps ∷ [])

ends_at_y : (owner : Owner) (ps : List Place) (x : ℤ) → Keeps owner ps → Ends (BeforeY owner ps x) (goes_on (BeforeY owner ps x))
ends_at_y owner ps x h = closes_all owner (ps ++ place x (pos 0) ∷ []) (closes owner ps (place x (pos 0)) h)

pub ends : (s : State) → Holds s → IsOpen s → Ends s (goes_on s)
ends Start h o = (APoint origin, refl)
ends BeforeParts h o = (Polygons (((origin ∷ []) ∷ []) ∷ []), refl)
ends (BeforeLists group) h o = ends_group group ((origin ∷ []) ∷ [])
ends (BeforeList owner) h o = ends_at_y owner [] (pos 0) h
ends (BeforeX owner ps) h o = ends_at_y owner ps (pos 0) h
ends (BeforeY owner ps x) h o = ends_at_y owner ps x h
ends (AfterPosition owner ps) h o = closes_all owner ps h
ends (AfterList group pss) h o = ends_group group pss
ends (AfterPart parts) h o = (Polygons parts, refl)
ends (Complete g) h o = (g, refl)
ends (Over g) h o = absurd o

pub fits : (front : List Token) (s : State) → run Start front ≡ Ok s → IsOpen s → IsBegun front
fits front s e o =
    let r = reads Start front s tt e in
    let end = ends s r.holds o in
    let all = reads s (goes_on s) (Complete end.0) r.holds end.1 in
    (end.0, goes_on s, all.holds, ap (λ x. x ++ goes_on s) (sym r.text) ∙ sym all.text)

pub stops : (front : List Token) (s : State) (t : Token) (c : Cause) → run Start front ≡ Ok s → step s t ≡ Err c → IsFront (front ++ t ∷ [])
    → ⊥
stops front s t c e f h =
    let g = h.0 in let more = h.1 in let full = h.2 in let same = h.3 in
    let all : run Start ((front ++ t ∷ []) ++ more) ≡ Ok (Over g) = ap (run Start) same ∙ again g full in
    let one : run Start ((front ++ t ∷ []) ++ more) ≡ run Start (front ++ t ∷ more) = ap (run Start) (append_assoc front (t ∷ []) more) in
    let two : run Start (front ++ t ∷ more) ≡ (run Start front >>= λ next. run next (t ∷ more)) = run-append Start front (t ∷ more) in
    let three : (run Start front >>= λ next. run next (t ∷ more)) ≡ Err c = rw (e, f) refl in
    let no : Err c ≡ Ok (Over g) = sym (one ∙ (two ∙ three)) ∙ all in
    cc
