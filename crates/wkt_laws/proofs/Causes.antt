-- The table's causes are those of the definition.
--
-- At front s             these tokens lead to the open state s
-- caused front s t       the cause for which the table refuses t is the one of the definition
use Rattle.std.proofs.Common.{pos, ◌≡◌, List, [], ◌∷◌, ◌++◌, Result, Ok, Err, refl, sym, ap, ◌∙◌, subst, append_assoc, append-nil, inl, inr}
use Rattle.plane_terms.specs.Point.{Place}
use Rattle.wkt_terms.specs.Faults.{Wants, EndsInNumber, UnsupportedAt, IsCause}
use Rattle.wkt_terms.specs.Grammar.{Geometry, APoint, ALine, Lines, APolygon, Polygons, IsSome, position, items, list, lists, spelling}
use Rattle.wkt_terms.specs.Numerals.{Number}
use Rattle.wkt_terms.specs.Numerals as number
use Rattle.wkt_terms.specs.Tokens.{Word, Point, LineString, MultiLineString, Polygon, MultiPolygon, Modifier, Strange, Token, Open, Close, Comma, Named, Numeral, Other, End}
use Rattle.wkt_laws.specs.Steps.{Cause, IsSyntax, Group, OfLines, OfPolygon, OfPart, Owner, OfPoint, OfLine, OneOf, State, Start, BeforeParts, BeforeLists, BeforeList, BeforeX, BeforeY, AfterPosition, AfterList, AfterPart, Complete, Over, at_open, step, run, IsOpen}
use Rattle.wkt_laws.proofs.Grammar.{Gives, Adds, adds, run-append, fits, stops, so_far, Holds, Closes, lead, head, before_next}

pub record At (front : List Token) (s : State) : Type 0 where
  pub ran : run Start front ≡ Ok s
  pub text : so_far s ≡ front
  pub holds : Holds s
  pub unended : IsOpen s

abbrev pub CauseOk : List Token → Token → Result State Cause → Type 0
CauseOk front t (Ok n) = Unit {0}
CauseOk front t (Err c) = IsCause front t c

abbrev pub zero_number : Token
zero_number = Numeral (number.Whole (pos 0))

wants : (front : List Token) (s n : State) (t : Token) → At front s → (t ≡ End → ⊥) → step s t ≡ Ok n → Wants front t
wants front s n t a more e =
    let add : Adds s t n = subst (λ (x : Result State Cause). Gives s t x) e (adds s t a.holds) in
    let ran : run Start (front ++ t ∷ []) ≡ Ok n = run-append Start front (t ∷ []) ∙ rw (a.ran, e) refl in
    let b = fits (front ++ t ∷ []) n ran (add.unended more) in
    (b.0, b.1 ++ End ∷ [], b.2, sym (append_assoc (front ++ t ∷ []) b.1 (End ∷ [])) ∙ ap (λ x. x ++ End ∷ []) b.3)

refused : (front : List Token) (s : State) (t : Token) (c : Cause) → At front s → step s t ≡ Err c → Wants front t → ⊥
refused front s t c a e = stops front s t c a.ran e

plain : (front : List Token) (t : Token) → (UnsupportedAt front t → ⊥) → ((n : Number) → t ≡ Numeral n → ⊥) → IsCause front t IsSyntax
plain front t no_one other = (no_one, (λ h. other number.OffGrid h.0), (λ h. other number.OutOfReach h.0))

named : (front : List Token) (w : Word) → (front ≡ [] → ⊥) → (w ≡ Modifier → Wants front Open → ⊥) → IsCause front (Named w) IsSyntax
named front w some other = plain front (Named w) (λ h. elim h [ inl e ↦ some e | inr k ↦ other k.0 k.1 ]) (λ n e. cc)

numeral : (front : List Token) (n : Number) → (EndsInNumber front → Wants front Close → ⊥) → (Wants front zero_number → ⊥)
    → IsCause front (Numeral n) IsSyntax
numeral front n third first = ((λ h. third h.0 h.1), (λ h. first h.1), (λ h. first h.1))

no_number : (front : List Token) → (EndsInNumber front → Wants front Close → ⊥) → IsCause front (Numeral number.NoNumber) IsSyntax
no_number front third = ((λ h. third h.0 h.1), (λ h. let e = h.0 in cc), (λ h. let e = h.0 in cc))

-- a state that wants neither an opening bracket nor a number, and behind which no third number comes
others : (front : List Token) (t : Token) → (front ≡ [] → ⊥) → (Wants front Open → ⊥) → (Wants front zero_number → ⊥)
    → (EndsInNumber front → Wants front Close → ⊥) → IsCause front t IsSyntax
others front Open some opens first third = plain front Open (λ h. h) (λ n e. cc)
others front Close some opens first third = plain front Close (λ h. h) (λ n e. cc)
others front Comma some opens first third = plain front Comma (λ h. h) (λ n e. cc)
others front Other some opens first third = plain front Other (λ h. h) (λ n e. cc)
others front End some opens first third = plain front End (λ h. h) (λ n e. cc)
others front (Named w) some opens first third = named front w some (λ e. opens)
others front (Numeral n) some opens first third = numeral front n third first

bracket : (front : List Token) (s then : State) → ((t : Token) → step s t ≡ at_open then t) → (front ≡ [] → ⊥) → At front s → (t : Token)
    → CauseOk front t (at_open then t)
bracket front s then is some a Open = tt
bracket front s then is some a Close = plain front Close (λ h. h) (λ n e. cc)
bracket front s then is some a Comma = plain front Comma (λ h. h) (λ n e. cc)
bracket front s then is some a Other = plain front Other (λ h. h) (λ n e. cc)
bracket front s then is some a End = plain front End (λ h. h) (λ n e. cc)
bracket front s then is some a (Named Modifier) = inr (refl, wants front s then Open a (λ e. cc) (is Open))
bracket front s then is some a (Named Point) = named front Point some (λ e. absurd cc)
bracket front s then is some a (Named LineString) = named front LineString some (λ e. absurd cc)
bracket front s then is some a (Named MultiLineString) = named front MultiLineString some (λ e. absurd cc)
bracket front s then is some a (Named Polygon) = named front Polygon some (λ e. absurd cc)
bracket front s then is some a (Named MultiPolygon) = named front MultiPolygon some (λ e. absurd cc)
bracket front s then is some a (Named Strange) = named front Strange some (λ e. absurd cc)
bracket front s then is some a (Numeral n) =
    numeral front n (λ k. refused front s Close IsSyntax a (is Close)) (refused front s zero_number IsSyntax a (is zero_number))

led : (group : Group) (more : List Token) → lead group ++ more ≡ [] → ⊥
led OfLines more e = cc
led OfPolygon more e = cc
led (OfPart parts) more e = cc

headed : (owner : Owner) (more : List Token) → head owner ++ more ≡ [] → ⊥
headed OfPoint more e = cc
headed OfLine more e = cc
headed (OneOf group pss) more e =
    led group ((Open ∷ before_next list pss) ++ more) (sym (append_assoc (lead group) (Open ∷ before_next list pss) more) ∙ e)

-- the last of a text
last_is : (xs ys : List Token) (a b : Token) → xs ++ a ∷ [] ≡ ys ++ b ∷ [] → a ≡ b
last_is [] [] a b e = cc
last_is [] (y ∷ []) a b e = absurd cc
last_is [] (y ∷ z ∷ ys) a b e = absurd cc
last_is (x ∷ []) [] a b e = absurd cc
last_is (x ∷ z ∷ xs) [] a b e = absurd cc
last_is (x ∷ xs) (y ∷ ys) a b e = last_is xs ys a b cc

ends_with : {A : Type 0} (f : A → List Token) (last : A → List Token) (t : A → Token) → ((x : A) → f x ≡ last x ++ t x ∷ []) → (xs : List A)
    → IsSome xs → (before : List Token) × (x : A) × (items f xs ≡ before ++ t x ∷ [])
ends_with f last t is [] some = absurd some
ends_with f last t is (x ∷ []) some = (last x, x, append-nil (f x) ∙ is x)
ends_with f last t is (x ∷ y ∷ ys) some =
    let r = ends_with f last t is (y ∷ ys) tt in
    (f x ++ Comma ∷ r.0, r.1, ap (λ u. f x ++ Comma ∷ u) r.2 ∙ sym (append_assoc (f x) (Comma ∷ r.0) (t r.1 ∷ [])))

position_ends : (ps : List Place) → IsSome ps
    → (before : List Token) × (p : Place) × (items position ps ≡ before ++ Numeral (number.Whole p.y) ∷ [])
position_ends ps some = ends_with position (λ p. Numeral (number.Whole p.x) ∷ []) (λ p. Numeral (number.Whole p.y)) (λ p. refl) ps some

list_ends : (pss : List (List Place)) → IsSome pss → (before : List Token) × (r : List Place) × (items list pss ≡ before ++ Close ∷ [])
list_ends pss some = ends_with list (λ ps. Open ∷ items position ps) (λ ps. Close) (λ ps. refl) pss some

lists_end : (parts : List (List (List Place))) → IsSome parts
    → (before : List Token) × (r : List (List Place)) × (items lists parts ≡ before ++ Close ∷ [])
lists_end parts some = ends_with lists (λ pss. Open ∷ items list pss) (λ pss. Close) (λ pss. refl) parts some

some_positions : (owner : Owner) (ps : List Place) → Closes owner ps → IsSome ps
some_positions OfPoint [] h = h
some_positions OfPoint (p ∷ ps) h = tt
some_positions OfLine ps h = h
some_positions (OneOf group pss) ps h = h.1

after_number : (front : List Token) (owner : Owner) (ps : List Place) → At front (AfterPosition owner ps) → EndsInNumber front
after_number front owner ps a =
    let r = position_ends ps (some_positions owner ps a.holds) in (
      head owner ++ Open ∷ r.0,
      r.1.y,
      sym a.text
          ∙ (ap (λ u. head owner ++ Open ∷ u) r.2 ∙ sym (append_assoc (head owner) (Open ∷ r.0) (Numeral (number.Whole r.1.y) ∷ []))),
    )

-- what ends in a closing bracket ends in no number
closing : (front before : List Token) → before ++ Close ∷ [] ≡ front → EndsInNumber front → ⊥
closing front before e n =
    let k : Close ≡ Numeral (number.Whole n.1) = last_is before n.0 Close (Numeral (number.Whole n.1)) (e ∙ n.2) in
    cc

after_list : (front : List Token) (group : Group) (pss : List (List Place)) → At front (AfterList group pss) → EndsInNumber front → ⊥
after_list front group pss a =
    let r = list_ends pss a.holds.1.0 in
    closing front (lead group ++ Open ∷ r.0) (append_assoc (lead group) (Open ∷ r.0) (Close ∷ [])
    ∙ (ap (λ u. lead group ++ Open ∷ u) (sym r.2) ∙ a.text))

after_part : (front : List Token) (parts : List (List (List Place))) → At front (AfterPart parts) → EndsInNumber front → ⊥
after_part front parts a =
    let r = lists_end parts a.holds.0 in
    closing front (Named MultiPolygon ∷ Open ∷ r.0) (ap (λ u. Named MultiPolygon ∷ Open ∷ u) (sym r.2) ∙ a.text)

spelled : (g : Geometry) → spelling g ≡ [] → ⊥
spelled (APoint p) e = cc
spelled (ALine ps) e = cc
spelled (Lines pss) e = cc
spelled (APolygon rings) e = cc
spelled (Polygons parts) e = cc

pub caused : (front : List Token) (s : State) (t : Token) → At front s → CauseOk front t (step s t)
caused front Start (Named Point) a = tt
caused front Start (Named LineString) a = tt
caused front Start (Named MultiLineString) a = tt
caused front Start (Named Polygon) a = tt
caused front Start (Named MultiPolygon) a = tt
caused front Start (Named Modifier) a = inl (sym a.text)
caused front Start (Named Strange) a = inl (sym a.text)
caused front Start (Numeral n) a =
    numeral front n (λ k. refused front Start Close IsSyntax a refl) (refused front Start zero_number IsSyntax a refl)
caused front Start Open a = plain front Open (λ h. h) (λ n e. cc)
caused front Start Close a = plain front Close (λ h. h) (λ n e. cc)
caused front Start Comma a = plain front Comma (λ h. h) (λ n e. cc)
caused front Start Other a = plain front Other (λ h. h) (λ n e. cc)
caused front Start End a = plain front End (λ h. h) (λ n e. cc)
caused front BeforeParts t a = bracket front BeforeParts (BeforeLists (OfPart [])) (λ u. refl) (λ e. let k = a.text ∙ e in cc) a t
caused front (BeforeLists group) t a =
    bracket front (BeforeLists group) (BeforeList (OneOf group [])) (λ u. refl) (λ e. led group [] (append-nil (lead group) ∙ (a.text ∙ e)))
    a t
caused front (BeforeList owner) t a =
    bracket front (BeforeList owner) (BeforeX owner []) (λ u. refl) (λ e. headed owner [] (append-nil (head owner) ∙ (a.text ∙ e))) a t
caused front (BeforeX owner ps) (Numeral (number.Whole x)) a = tt
caused front (BeforeX owner ps) (Numeral number.OffGrid) a =
    (refl, wants front (BeforeX owner ps) (BeforeY owner ps (pos 0)) zero_number a (λ e. cc) refl)
caused front (BeforeX owner ps) (Numeral number.OutOfReach) a =
    (refl, wants front (BeforeX owner ps) (BeforeY owner ps (pos 0)) zero_number a (λ e. cc) refl)
caused front (BeforeX owner ps) (Numeral number.NoNumber) a = no_number front (λ k. refused front (BeforeX owner ps) Close IsSyntax a refl)
caused front (BeforeX owner ps) (Named w) a =
    named front w (λ e. headed owner _ (a.text ∙ e)) (λ e. refused front (BeforeX owner ps) Open IsSyntax a refl)
caused front (BeforeX owner ps) Open a = plain front Open (λ h. h) (λ n e. cc)
caused front (BeforeX owner ps) Close a = plain front Close (λ h. h) (λ n e. cc)
caused front (BeforeX owner ps) Comma a = plain front Comma (λ h. h) (λ n e. cc)
caused front (BeforeX owner ps) Other a = plain front Other (λ h. h) (λ n e. cc)
caused front (BeforeX owner ps) End a = plain front End (λ h. h) (λ n e. cc)
caused front (BeforeY owner ps x) (Numeral (number.Whole y)) a = tt
caused front (BeforeY owner ps x) (Numeral number.OffGrid) a = (refl, wants front (BeforeY owner ps x) _ zero_number a (λ e. cc) refl)
caused front (BeforeY owner ps x) (Numeral number.OutOfReach) a = (refl, wants front (BeforeY owner ps x) _ zero_number a (λ e. cc) refl)
caused front (BeforeY owner ps x) (Numeral number.NoNumber) a =
    no_number front (λ k. refused front (BeforeY owner ps x) Close IsSyntax a refl)
caused front (BeforeY owner ps x) (Named w) a =
    named front w
    (λ e. headed owner (Open ∷ before_next position ps ++ Numeral (number.Whole x) ∷ [])
    (sym (append_assoc (head owner) (Open ∷ before_next position ps) (Numeral (number.Whole x) ∷ [])) ∙ (a.text ∙ e)))
    (λ e. refused front (BeforeY owner ps x) Open IsSyntax a refl)
caused front (BeforeY owner ps x) Open a = plain front Open (λ h. h) (λ n e. cc)
caused front (BeforeY owner ps x) Close a = plain front Close (λ h. h) (λ n e. cc)
caused front (BeforeY owner ps x) Comma a = plain front Comma (λ h. h) (λ n e. cc)
caused front (BeforeY owner ps x) Other a = plain front Other (λ h. h) (λ n e. cc)
caused front (BeforeY owner ps x) End a = plain front End (λ h. h) (λ n e. cc)
caused front (AfterPosition owner ps) (Numeral n) a =
    (after_number front owner ps a, wants front (AfterPosition owner ps) _ Close a (λ e. cc) refl)
caused front (AfterPosition OfPoint ps) Comma a = plain front Comma (λ h. h) (λ n e. cc)
caused front (AfterPosition OfLine ps) Comma a = tt
caused front (AfterPosition (OneOf group pss) ps) Comma a = tt
caused front (AfterPosition owner ps) Close a = tt
caused front (AfterPosition owner ps) (Named w) a =
    named front w (λ e. headed owner _ (a.text ∙ e)) (λ e. refused front (AfterPosition owner ps) Open IsSyntax a refl)
caused front (AfterPosition owner ps) Open a = plain front Open (λ h. h) (λ n e. cc)
caused front (AfterPosition owner ps) Other a = plain front Other (λ h. h) (λ n e. cc)
caused front (AfterPosition owner ps) End a = plain front End (λ h. h) (λ n e. cc)
caused front (AfterList group pss) Comma a = tt
caused front (AfterList group pss) Close a = tt
caused front (AfterList group pss) t a =
    others front t (λ e. led group (Open ∷ items list pss) (a.text ∙ e)) (refused front (AfterList group pss) Open IsSyntax a refl)
    (refused front (AfterList group pss) zero_number IsSyntax a refl) (λ n w. after_list front group pss a n)
caused front (AfterPart parts) Comma a = tt
caused front (AfterPart parts) Close a = tt
caused front (AfterPart parts) t a =
    others front t (λ e. let k = a.text ∙ e in
    cc) (refused front (AfterPart parts) Open IsSyntax a refl) (refused front (AfterPart parts) zero_number IsSyntax a refl)
    (λ n w. after_part front parts a n)
caused front (Complete g) End a = tt
caused front (Complete g) t a =
    others front t (λ e. spelled g (a.text ∙ e)) (refused front (Complete g) Open IsSyntax a refl)
    (refused front (Complete g) zero_number IsSyntax a refl) (λ n. refused front (Complete g) Close IsSyntax a refl)
caused front (Over g) t a = absurd a.unended
