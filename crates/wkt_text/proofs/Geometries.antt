-- What reading a text gives.
--
-- Keeps text rest s          what the loop keeps: the text was read up to rest, and this led to the state s
-- Goes text rest now next    what a turn of it gives
use Rattle.std.proofs.Common.{ℕ, ◌≡◌, ◌<◌, ◌≤◌, ◌-◌, List, [], ◌∷◌, length, Result, Ok, Err, MatchResult, refl, sym, ap, subst, arith}
use Rattle.text_terms.specs.Fields.{skip_blanks}
use Rattle.wkt_terms.specs.Grammar as grammar
use Rattle.wkt_terms.specs.Grammar.{IsWkt}
use Rattle.wkt_terms.specs.Tokens.{End, token_at, behind_token}
use Rattle.wkt_terms.specs.Faults.{FirstFault, IsSyntax, IsOffGrid, IsOutOfReach, IsUnsupported}
use Rattle.wkt_terms.specs.WktFaults.{IsWktFault}
use Rattle.wkt_terms.specs.declared.wkt_fault.WktFault.{WktFault}
use Rattle.wkt_terms.specs.declared.wkt_fault.WktFault.TheVariants.{Syntax, OffGrid, OutOfReach, Unsupported, NotClosed, Invalid, NoMemory}
use Rattle.wkt_laws.specs.Steps.{Cause, State, Start, Over, step, Passes}
use Rattle.wkt_laws.proofs.Reading.{Read, begins, goes_on, stopped, completed, no_fault, one_value, skip_blanks-le, behind_token-lt, not_end}
use Rattle.wkt_laws.proofs.Passing.{passes_on, passes_le}
use Rattle.wkt_text.specs.States.{geometry_of}
use Rattle.wkt_text.specs.Stops.{Refuses, HasStopped}
use Rattle.wkt_text.specs.declared.geometry.Geometry.{Geometry}

pub record Keeps (text rest : List ℕ) (s : State) : Type 0 where
  pub read : Read text rest s
  pub part : length rest ≤ length text

-- what is passed at once before the first turn
pub starts : (text left rest : List ℕ) (s : State) → Passes Start text s left → rest ≡ skip_blanks left → Keeps text rest s
starts text left rest s p e =
    subst (λ (r : List ℕ). Keeps text r s) (sym e) (record {
      read = passes_on text text Start s left (begins text) p;
      part = omega (arith, skip_blanks-le left, passes_le Start s text left p);
    })

-- one token, and then all that is passed at once
pub record Goes (text rest now : List ℕ) (next : State) : Type 0 where
  pub keeps : Keeps text now next
  pub shorter : length now < length rest

pub keeps : (text rest behind left now : List ℕ) (s middle next : State) → Keeps text rest s → 0 < length rest
    → step s (token_at rest) ≡ Ok middle → behind ≡ behind_token rest → Passes middle behind next left → now ≡ skip_blanks left
    → Goes text rest now next
keeps text rest behind left now s middle next k some e f p g =
    let r : Read text (skip_blanks behind) middle =
    subst (λ (b : List ℕ). Read text (skip_blanks b) middle) (sym f) (goes_on text rest s middle k.read (not_end rest some) e) in
    let less : length now < length rest =
    omega (arith, ap length g, skip_blanks-le left, passes_le middle next behind left p, ap length f, behind_token-lt rest some) in
    record {
      keeps = record {
        read = subst (λ (l : List ℕ). Read text l next) (sym g) (passes_on text behind middle next left r p);
        part = omega (arith, k.part);
      };
      shorter = less;
    }

stopped_at : (text rest : List ℕ) (s : State) (at : ℕ) (c : Cause) → Read text rest s
    → (step s (token_at rest) ≡ Err c) × (at ≡ length text - length rest) → FirstFault text at c
stopped_at text rest s at c r h = rw h.1 (stopped text rest s c r h.0)

pub refuses : (text rest : List ℕ) (s : State) (e : WktFault) → Read text rest s
    → HasStopped (step s (token_at rest)) (length text - length rest) e → Refuses text e
refuses text rest s (Syntax at) r h = stopped_at text rest s at IsSyntax r h
refuses text rest s (OffGrid at) r h = stopped_at text rest s at IsOffGrid r h
refuses text rest s (OutOfReach at) r h = stopped_at text rest s at IsOutOfReach r h
refuses text rest s (Unsupported at) r h = stopped_at text rest s at IsUnsupported r h
refuses text rest s (NotClosed ring) r h = absurd h
refuses text rest s (Invalid f) r h = absurd h
refuses text rest s NoMemory r h = tt

abbrev pub Found : List ℕ → Result Geometry WktFault → Type 0
Found text r = MatchResult r (λ g. IsWkt text (geometry_of g)) (λ e. Refuses text e)

nothing_left : (rest : List ℕ) → length rest ≡ 0 → rest ≡ []
nothing_left [] e = refl
nothing_left (b ∷ bs) e = absurd (omega arith)

found_at : (text : List ℕ) (s : State) (r : Result Geometry WktFault) → Read text [] s
    → MatchResult r (λ g. step s End ≡ Ok (Over (geometry_of g))) (λ e. HasStopped (step s End) (length text) e) → Found text r
found_at text s (Ok g) k h = completed text s (geometry_of g) k h
found_at text s (Err e) k h =
    let whole : length text ≡ length text - 0 = omega arith in
    refuses text [] s e k (subst (λ (n : ℕ). HasStopped (step s End) n e) whole h)

pub found : (text rest : List ℕ) (s : State) (r : Result Geometry WktFault) → Keeps text rest s → length rest ≡ 0
    → MatchResult r (λ g. step s End ≡ Ok (Over (geometry_of g))) (λ e. HasStopped (step s End) (length text) e) → Found text r
found text rest s r k e h = found_at text s r (subst (λ (l : List ℕ). Read text l s) (nothing_left rest e) k.read) h

no_stop : (text : List ℕ) (g : grammar.Geometry) (at : ℕ) (c : Cause) → IsWkt text g → FirstFault text at c → ⊥
no_stop text g at c p h = no_fault text g at h.front h.token p h.place

none_of : (text : List ℕ) (g : grammar.Geometry) (e : WktFault) → IsWkt text g → Refuses text e → e ≡ NoMemory
none_of text g (Syntax at) p h = absurd (no_stop text g at IsSyntax p h)
none_of text g (OffGrid at) p h = absurd (no_stop text g at IsOffGrid p h)
none_of text g (OutOfReach at) p h = absurd (no_stop text g at IsOutOfReach p h)
none_of text g (Unsupported at) p h = absurd (no_stop text g at IsUnsupported p h)
none_of text g (NotClosed ring) p h = absurd h
none_of text g (Invalid f) p h = absurd h
none_of text g NoMemory p h = refl

pub only : (text : List ℕ) (r : Result Geometry WktFault) → Found text r → (g : grammar.Geometry) → IsWkt text g
    → MatchResult r (λ h. geometry_of h ≡ g) (λ e. e ≡ NoMemory)
only text (Ok h) found g p = one_value text (geometry_of h) g found p
only text (Err e) found g p = none_of text g e p found

-- and this is the fault of the text
pub refused : (text : List ℕ) (e : WktFault) → Refuses text e → IsWktFault text e
refused text (Syntax at) h = h
refused text (OffGrid at) h = h
refused text (OutOfReach at) h = h
refused text (Unsupported at) h = h
refused text (NotClosed ring) h = absurd h
refused text (Invalid f) h = absurd h
refused text NoMemory h = tt
