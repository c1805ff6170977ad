-- What reading a text gives.
--
-- found_from     the shape of what a text spells is the text's, and so is its fault
-- only           a text has one shape at most, and then no fault
use Rattle.std.proofs.Common.{ℕ, ◌≡◌, true, List, Result, Ok, Err, MatchResult, refl, sym, ap, ◌∙◌, subst}
use Rattle.plane_terms.specs.Lists.{Every}
use Rattle.plane_terms.proofs.ListLemmas.{every_map}
use Rattle.plane_terms.specs.Point.{Place}
use Rattle.plane_terms.specs.Shape.{Shape, IsShape}
use Rattle.plane_terms.specs.ShapeFaults.{IsFirstOf}
use Rattle.wkt_terms.specs.Faults.{Cause, FirstFault}
use Rattle.wkt_terms.specs.Grammar.{Geometry, IsWkt}
use Rattle.wkt_terms.specs.Shapes.{is_closed, AreClosed, IsOpen, rings_in, shape_in, IsShapeText}
use Rattle.wkt_laws.proofs.Reading.{no_fault, one_value}
use Rattle.wkt_terms.specs.WktFaults.{IsWktFault}
use Rattle.wkt_text.specs.Faults.{IsWholeFault}
use Rattle.wkt_terms.specs.declared.wkt_fault.WktFault.{WktFault}
use Rattle.wkt_terms.specs.declared.wkt_fault.WktFault.TheVariants.{Syntax, OffGrid, OutOfReach, Unsupported, NotClosed, Invalid, NoMemory}
use Rattle.shape.proofs.Shorts.{none_first}
use Rattle.wkt_text.proofs.Valid.{valid_flawless}

abbrev pub IsMade : Geometry → Result Shape WktFault → Type 0
IsMade g r = MatchResult r (λ s. AreClosed g × (s ≡ shape_in g) × IsShape s) (λ e. IsWholeFault g e)

abbrev pub IsFound : List ℕ → Result Shape WktFault → Type 0
IsFound text r = MatchResult r (λ s. IsShapeText text s) (λ e. IsWktFault text e)

whole : (text : List ℕ) (g : Geometry) (e : WktFault) → IsWkt text g → IsWholeFault g e → IsWktFault text e
whole text g (Syntax at) w h = absurd h
whole text g (OffGrid at) w h = absurd h
whole text g (OutOfReach at) w h = absurd h
whole text g (Unsupported at) w h = absurd h
whole text g (NotClosed ring) w h = (g, w, h)
whole text g (Invalid f) w h = (g, w, h)
whole text g NoMemory w h = tt

pub found_from : (text : List ℕ) (g : Geometry) (r : Result Shape WktFault) → IsWkt text g → IsMade g r → IsFound text r
found_from text g (Ok s) w h = record { geometry = g; spelled = w; closed = h.0; shape = h.1; valid = h.2 }
found_from text g (Err e) w h = whole text g e w h

-- ---- one shape at most

pub closed_or_open : (rings : List (List Place)) (n : ℕ) → Every (λ ring. is_closed ring ≡ true) rings → IsFirstOf IsOpen rings n → ⊥
closed_or_open rings n closed o =
    none_first IsOpen rings n (every_map (λ ring. is_closed ring ≡ true) (λ ring. ¬ (IsOpen ring)) (λ ring t e. cc) rings closed) o

no_token_fault : (text : List ℕ) (at : ℕ) (c : Cause) (s : Shape) → IsShapeText text s → FirstFault text at c → ⊥
no_token_fault text at c s t h = no_fault text t.geometry at h.front h.token t.spelled h.place

no_whole_fault : (g : Geometry) (e : WktFault) (s : Shape) → AreClosed g → s ≡ shape_in g → IsShape s → IsWholeFault g e → e ≡ NoMemory
no_whole_fault g (Syntax at) s c m v h = absurd h
no_whole_fault g (OffGrid at) s c m v h = absurd h
no_whole_fault g (OutOfReach at) s c m v h = absurd h
no_whole_fault g (Unsupported at) s c m v h = absurd h
no_whole_fault g (NotClosed ring) s c m v h = absurd (closed_or_open (rings_in g) ring c h)
no_whole_fault g (Invalid f) s c m v h = absurd (h.1.1 (valid_flawless (shape_in g) (subst (λ (u : Shape). IsShape u) m v) f h.1.0))
no_whole_fault g NoMemory s c m v h = refl

whole_of : (text : List ℕ) (g : Geometry) (e : WktFault) (s : Shape) → IsShapeText text s → IsWkt text g → IsWholeFault g e → e ≡ NoMemory
whole_of text g e s t w h =
    let same : g ≡ t.geometry = one_value text g t.geometry w t.spelled in
    no_whole_fault t.geometry e s t.closed t.shape t.valid (subst (λ (u : Geometry). IsWholeFault u e) same h)

no_fault_of : (text : List ℕ) (e : WktFault) (s : Shape) → IsShapeText text s → IsWktFault text e → e ≡ NoMemory
no_fault_of text (Syntax at) s t h = absurd (no_token_fault text at _ s t h)
no_fault_of text (OffGrid at) s t h = absurd (no_token_fault text at _ s t h)
no_fault_of text (OutOfReach at) s t h = absurd (no_token_fault text at _ s t h)
no_fault_of text (Unsupported at) s t h = absurd (no_token_fault text at _ s t h)
no_fault_of text (NotClosed ring) s t h = whole_of text h.0 (NotClosed ring) s t h.1 h.2
no_fault_of text (Invalid f) s t h = whole_of text h.0 (Invalid f) s t h.1 h.2
no_fault_of text NoMemory s t h = refl

pub only : (text : List ℕ) (r : Result Shape WktFault) → IsFound text r → (s : Shape) → IsShapeText text s
    → MatchResult r (λ u. u ≡ s) (λ e. e ≡ NoMemory)
only text (Ok u) f s t =
    let same : f.geometry ≡ t.geometry = one_value text f.geometry t.geometry f.spelled t.spelled in
    f.shape ∙ (ap shape_in same ∙ sym t.shape)
only text (Err e) f s t = no_fault_of text e s t f

pub one_shape : (t : List ℕ) (s u : Shape) → IsShapeText t s → IsShapeText t u → s ≡ u
one_shape t s u h k = only t (Ok s) h u k

-- a shape's text has no fault
pub no_text_fault : (t : List ℕ) (s : Shape) (e : WktFault) → IsShapeText t s → IsWktFault t e → e ≡ NoMemory
no_text_fault t s e h f = only t (Err e) f s h
