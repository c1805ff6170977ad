-- A text has one fault at most.
--
-- one_first       it stops at one place, for one cause
-- one_fault       and its fault is one; out of memory aside
use Rattle.std.proofs.Common.{ℕ, ◌≡◌, ◌+◌, length, List, [], ◌∷◌, ◌++◌, Result, Ok, Err, refl, sym, ap, ◌∙◌, subst, append_assoc, arith, ◌⊎◌, inl, inr}
use Rattle.text_terms.specs.Fields.{skip_blanks}
use Rattle.wkt_terms.specs.Faults.{Cause, IsSyntax, IsOffGrid, IsOutOfReach, IsUnsupported, IsBegun, IsFront, StopsAt, Wants, UnsupportedAt, NumeralAt, IsCause, FirstFault}
use Rattle.wkt_terms.specs.Grammar.{Geometry, IsWkt}
use Rattle.wkt_terms.specs.Numerals.{Number}
use Rattle.wkt_terms.specs.Numerals as number
use Rattle.wkt_terms.specs.Shapes.{rings_in, shape_in, IsOpen}
use Rattle.wkt_terms.specs.Tokens.{Token, Close, Named, Numeral, End, StartsWith, token_at, behind_token}
use Rattle.wkt_terms.specs.WktFaults.{IsWktFault}
use Rattle.wkt_terms.specs.declared.wkt_fault.WktFault.{WktFault}
use Rattle.wkt_terms.specs.declared.wkt_fault.WktFault.TheVariants.{Syntax, OffGrid, OutOfReach, Unsupported, NotClosed, Invalid, NoMemory}
use Rattle.wkt_laws.specs.Steps.{State, Start, BeforeParts, BeforeLists, BeforeList, BeforeX, BeforeY, AfterPosition, AfterList, AfterPart, Complete, Over, run, ◌>>=◌}
use Rattle.wkt_laws.proofs.Causes.{zero_number}
use Rattle.wkt_laws.proofs.Grammar.{again, run-append, stops}
use Rattle.wkt_laws.proofs.Reading.{one_value, no_fault}
use Rattle.wkt_text.specs.Faults.{IsWholeFault}
use Rattle.wkt_text.proofs.OneShapeFault.{first_of, one_shape_fault}
use Rattle.wkt_text.proofs.Results.{closed_or_open}

-- ---- one place
-- the tokens of the second go on from the first
abbrev GoesOn : List Token → List ℕ → List Token → Type 0
GoesOn xs rest ys = (more : List Token) × (ys ≡ xs ++ token_at (skip_blanks rest) ∷ more)

-- two fronts of a text are the same, or one goes on from the other
fronts : (text : List ℕ) (xs ys : List Token) (l m : List ℕ) → StartsWith text xs l → StartsWith text ys m
    → ((xs ≡ ys) × (l ≡ m)) ⊎ (GoesOn xs l ys ⊎ GoesOn ys m xs)
fronts text [] [] l m h k = inl (refl, sym h ∙ k)
fronts text [] (y ∷ ys) l m h k = inr (inl (ys, ap (λ t. t ∷ ys) (sym k.0 ∙ ap (λ x. token_at (skip_blanks x)) h)))
fronts text (x ∷ xs) [] l m h k = inr (inr (xs, ap (λ t. t ∷ xs) (sym h.0 ∙ ap (λ u. token_at (skip_blanks u)) k)))
fronts text (x ∷ xs) (y ∷ ys) l m h k =
    let e : x ≡ y = sym h.0 ∙ k.0 in
    elim (fronts (behind_token (skip_blanks text)) xs ys l m h.1 k.1) [
      | inl w ↦ inl (cc, w.1)
      | inr (inl w) ↦ inr (inl (w.0, cc))
      | inr (inr w) ↦ inr (inr (w.0, cc))
    ]

longer : (front more : List Token) (t : Token) → IsBegun (front ++ t ∷ more) → IsFront (front ++ t ∷ [])
longer front more t b =
    (b.0, more ++ (b.1 ++ End ∷ []), b.2, append_assoc front (t ∷ []) (more ++ (b.1 ++ End ∷ [])) ∙ (whole ∙ ap (λ x. x ++ End ∷ []) b.3))
  where
    whole : front ++ t ∷ (more ++ (b.1 ++ End ∷ [])) ≡ ((front ++ t ∷ more) ++ b.1) ++ End ∷ []
    whole = simp append_assoc

-- where a text stops, nothing that begins a spelling goes on
past_stop : (text : List ℕ) (at : ℕ) (front : List Token) (t : Token) (s : StopsAt text at front t) (ys : List Token) → IsBegun ys
    → GoesOn front s.rest ys → ⊥
past_stop text at front t s ys b w =
    let b' = subst IsBegun w.1 b in
    let f : IsFront (front ++ token_at (skip_blanks s.rest) ∷ []) = longer front w.0 (token_at (skip_blanks s.rest)) b' in
    s.stops (subst (λ u. IsFront (front ++ u ∷ [])) s.next f)

same_place : (a b m n : ℕ) → a + m ≡ n → b + m ≡ n → a ≡ b
same_place a b m n h k = omega (arith, h, k)

-- ---- one cause
begun : (front : List Token) (t : Token) → Wants front t → (r : Result State Cause) → run Start front ≡ r
    → (s : State) × (run Start front ≡ Ok s)
begun front t w (Ok s) e = (s, e)
begun front t w (Err d) e =
    let all : run Start ((front ++ t ∷ []) ++ w.1) ≡ Ok (Over w.0) = ap (run Start) w.3 ∙ again w.0 w.2 in
    let parts : run Start (front ++ t ∷ w.1) ≡ (run Start front >>= λ next. run next (t ∷ w.1)) = run-append Start front (t ∷ w.1) in
    let none : (run Start front >>= λ next. run next (t ∷ w.1)) ≡ Err d = rw e refl in
    let no : Err d ≡ Ok (Over w.0) = sym (ap (run Start) (append_assoc front (t ∷ []) w.1) ∙ (parts ∙ none)) ∙ all in
    absurd cc

-- no place wants both a number and a closing bracket
both : (front : List Token) (s : State) → run Start front ≡ Ok s → Wants front Close → Wants front zero_number → ⊥
both front Start e c n = stops front Start Close IsSyntax e refl c
both front BeforeParts e c n = stops front BeforeParts Close IsSyntax e refl c
both front (BeforeLists group) e c n = stops front (BeforeLists group) Close IsSyntax e refl c
both front (BeforeList owner) e c n = stops front (BeforeList owner) Close IsSyntax e refl c
both front (BeforeX owner ps) e c n = stops front (BeforeX owner ps) Close IsSyntax e refl c
both front (BeforeY owner ps x) e c n = stops front (BeforeY owner ps x) Close IsSyntax e refl c
both front (AfterPosition owner ps) e c n = stops front (AfterPosition owner ps) zero_number IsUnsupported e refl n
both front (AfterList group pss) e c n = stops front (AfterList group pss) zero_number IsSyntax e refl n
both front (AfterPart parts) e c n = stops front (AfterPart parts) zero_number IsSyntax e refl n
both front (Complete g) e c n = stops front (Complete g) Close IsSyntax e refl c
both front (Over g) e c n = stops front (Over g) Close IsSyntax e refl c

not_both : (front : List Token) (t : Token) (n : Number) → UnsupportedAt front t → NumeralAt n front t → ⊥
not_both front (Named w) n u k = let e = k.0 in cc
not_both front (Numeral m) n u k = let b = begun front zero_number k.1 (run Start front) refl in both front b.0 b.1 u.1 k.1
not_both front _ n u k = u

one_number : (front : List Token) (t : Token) → NumeralAt number.OffGrid front t → NumeralAt number.OutOfReach front t → ⊥
one_number front t h k = let e : Numeral number.OffGrid ≡ Numeral number.OutOfReach = sym h.0 ∙ k.0 in cc

one_cause : (front : List Token) (t : Token) (c d : Cause) → IsCause front t c → IsCause front t d → c ≡ d
one_cause front t IsSyntax IsSyntax h k = refl
one_cause front t IsSyntax IsOffGrid h k = absurd (h.1 k)
one_cause front t IsSyntax IsOutOfReach h k = absurd (h.2 k)
one_cause front t IsSyntax IsUnsupported h k = absurd (h.0 k)
one_cause front t IsOffGrid IsSyntax h k = absurd (k.1 h)
one_cause front t IsOffGrid IsOffGrid h k = refl
one_cause front t IsOffGrid IsOutOfReach h k = absurd (one_number front t h k)
one_cause front t IsOffGrid IsUnsupported h k = absurd (not_both front t number.OffGrid k h)
one_cause front t IsOutOfReach IsSyntax h k = absurd (k.2 h)
one_cause front t IsOutOfReach IsOffGrid h k = absurd (one_number front t k h)
one_cause front t IsOutOfReach IsOutOfReach h k = refl
one_cause front t IsOutOfReach IsUnsupported h k = absurd (not_both front t number.OutOfReach k h)
one_cause front t IsUnsupported IsSyntax h k = absurd (k.0 h)
one_cause front t IsUnsupported IsOffGrid h k = absurd (not_both front t number.OffGrid h k)
one_cause front t IsUnsupported IsOutOfReach h k = absurd (not_both front t number.OutOfReach h k)
one_cause front t IsUnsupported IsUnsupported h k = refl

same_stop : (text : List ℕ) (a b : ℕ) (c d : Cause) (h : FirstFault text a c) (k : FirstFault text b d) → h.front ≡ k.front
    → h.place.rest ≡ k.place.rest → (a ≡ b) × (c ≡ d)
same_stop text a b c d h k e f =
    let left : a + length (skip_blanks k.place.rest) ≡ length text = subst (λ r. a + length (skip_blanks r) ≡ length text) f h.place.place
    in
    let token : h.token ≡ k.token = sym h.place.next ∙ (ap (λ r. token_at (skip_blanks r)) f ∙ k.place.next) in
    let why : IsCause k.front h.token c = subst (λ x. IsCause x h.token c) e h.why in (
      same_place a b (length (skip_blanks k.place.rest)) (length text) left k.place.place,
      one_cause k.front k.token c d (subst (λ x. IsCause k.front x c) token why) k.why,
    )

pub one_first : (text : List ℕ) (a b : ℕ) (c d : Cause) → FirstFault text a c → FirstFault text b d → (a ≡ b) × (c ≡ d)
one_first text a b c d h k = elim (fronts text h.front k.front h.place.rest k.place.rest h.place.begins k.place.begins) [
  | inl w ↦ same_stop text a b c d h k w.0 w.1
  | inr (inl w) ↦ absurd (past_stop text a h.front h.token h.place k.front k.place.fits w)
  | inr (inr w) ↦ absurd (past_stop text b k.front k.token k.place h.front h.place.fits w)
]

-- ---- one fault
one_whole : (g : Geometry) (e f : WktFault) → (e ≡ NoMemory → ⊥) → (f ≡ NoMemory → ⊥) → IsWholeFault g e → IsWholeFault g f → e ≡ f
one_whole g NoMemory f d c h k = absurd (d refl)
one_whole g e NoMemory d c h k = absurd (c refl)
one_whole g (NotClosed m) (NotClosed n) d c h k = ap NotClosed (first_of IsOpen (rings_in g) m n h k)
one_whole g (NotClosed m) (Invalid f) d c h k = absurd (closed_or_open (rings_in g) m k.0 h)
one_whole g (Invalid e) (NotClosed n) d c h k = absurd (closed_or_open (rings_in g) n h.0 k)
one_whole g (Invalid e) (Invalid f) d c h k = ap Invalid (one_shape_fault (shape_in g) e f h.1.1 k.1.1 h.1.0 k.1.0)
one_whole g (NotClosed m) f d c h k = absurd k
one_whole g (Invalid e) f d c h k = absurd k
one_whole g e f d c h k = absurd h

abbrev named : ℕ → Cause → WktFault
named at IsSyntax = Syntax at
named at IsOffGrid = OffGrid at
named at IsOutOfReach = OutOfReach at
named at IsUnsupported = Unsupported at

-- the fault of a token that does not fit, or of a whole geometry
abbrev OfToken : List ℕ → WktFault → Type 0
OfToken text e = (at : ℕ) × (c : Cause) × (e ≡ named at c) × FirstFault text at c

abbrev OfWhole : List ℕ → WktFault → Type 0
OfWhole text e = (g : Geometry) × IsWkt text g × IsWholeFault g e

kinds : (text : List ℕ) (e : WktFault) → (e ≡ NoMemory → ⊥) → IsWktFault text e → OfToken text e ⊎ OfWhole text e
kinds text (Syntax at) d h = inl (at, IsSyntax, refl, h)
kinds text (OffGrid at) d h = inl (at, IsOffGrid, refl, h)
kinds text (OutOfReach at) d h = inl (at, IsOutOfReach, refl, h)
kinds text (Unsupported at) d h = inl (at, IsUnsupported, refl, h)
kinds text (NotClosed ring) d h = inr h
kinds text (Invalid f) d h = inr h
kinds text NoMemory d h = absurd (d refl)

token_or_whole : (text : List ℕ) (e f : WktFault) → OfToken text e → OfWhole text f → ⊥
token_or_whole text e f h k = no_fault text k.0 h.0 h.3.front h.3.token k.1 h.3.place

pub one_fault : (text : List ℕ) (e f : WktFault) → (e ≡ NoMemory → ⊥) → (f ≡ NoMemory → ⊥) → IsWktFault text e → IsWktFault text f → e ≡ f
one_fault text e f d c h k = by (kinds text e d h) (kinds text f c k)
  where
    by : OfToken text e ⊎ OfWhole text e → OfToken text f ⊎ OfWhole text f → e ≡ f
    by (inl x) (inl y) =
        let same = one_first text x.0 y.0 x.1 y.1 x.3 y.3 in
        x.2 ∙ (ap (λ a. named a x.1) same.0 ∙ (ap (named y.0) same.1 ∙ sym y.2))
    by (inl x) (inr y) = absurd (token_or_whole text e f x y)
    by (inr x) (inl y) = absurd (token_or_whole text f e y x)
    by (inr x) (inr y) =
        let same : x.0 ≡ y.0 = one_value text x.0 y.0 x.1 y.1 in
        one_whole y.0 e f d c (subst (λ g. IsWholeFault g e) same x.2) y.2
