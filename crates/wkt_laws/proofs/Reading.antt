-- Reading a text, a token at a time.
--
-- Read text rest s         the text was read up to rest, which does not begin with a blank, and this led to the state s
-- begins, goes_on, stopped, completed     how reading begins and goes on, and what it shows where it ends
-- one_value, no_fault      a text spells one geometry at most, and then it has no first fault
use Rattle.std.proofs.Common.{ℕ, ◌≡◌, ◌<◌, ◌≤◌, ◌-◌, ◌==◌, Bool, true, false, cond, List, [], ◌∷◌, ◌++◌, length, Result, Ok, Err, refl, sym, ap, ◌∙◌, subst, append_assoc, append-nil, arith, ◌⊎◌, inl, inr}
use Rattle.text_terms.specs.Fields.{is_blank, is_letter, skip_blanks}
use Rattle.wkt_terms.specs.Runs.{is_number_byte, front_of, behind}
use Rattle.wkt_terms.specs.Faults.{IsBegun, StopsAt, FirstFault}
use Rattle.wkt_terms.specs.Grammar.{Geometry, IsFull, IsWkt, spelling}
use Rattle.wkt_terms.specs.Numerals.{number_of}
use Rattle.wkt_terms.specs.Tokens.{Token, End, Open, Close, Comma, Named, Numeral, Other, StartsWith, word_of, token_at, behind_token}
use Rattle.wkt_laws.specs.Steps.{Cause, State, Start, Over, step, run, IsOpen}
use Rattle.text_fields.proofs.Fronts.{behind-le}
use Rattle.wkt_laws.proofs.Causes.{CauseOk, caused}
use Rattle.wkt_laws.proofs.Grammar.{Gives, Adds, adds, reads, again, run-append, fits, stops, so_far}

pub record Read (text rest : List ℕ) (s : State) : Type 0 where
  pub done : List Token
  pub left : List ℕ
  pub begins : StartsWith text done left
  pub skipped : skip_blanks left ≡ rest
  pub ran : run Start done ≡ Ok s
  pub unended : IsOpen s

pub skip_blanks-le : (bs : List ℕ) → length (skip_blanks bs) ≤ length bs
skip_blanks-le [] = omega arith
skip_blanks-le (b ∷ bs) = at (is_blank b) (skip_blanks-le bs)
  where
    at : (x : Bool) → length (skip_blanks bs) ≤ length bs → length (cond x (skip_blanks bs) (b ∷ bs)) ≤ length (b ∷ bs)
    at true h = omega arith
    at false h = omega arith

pub behind_token-le : (bs : List ℕ) → length (behind_token bs) ≤ length bs
behind_token-le [] = omega arith
behind_token-le (b ∷ bs) = at (is_letter b) (is_number_byte b)
  where
    at : (x y : Bool) → length (cond x (behind is_letter (b ∷ bs)) (cond y (behind is_number_byte (b ∷ bs)) bs)) ≤ length (b ∷ bs)
    at true y = behind-le is_letter (b ∷ bs)
    at false true = behind-le is_number_byte (b ∷ bs)
    at false false = omega arith

pub StartsWith-le : (text : List ℕ) (ts : List Token) (rest : List ℕ) → StartsWith text ts rest → length rest ≤ length text
StartsWith-le text [] rest h = omega (arith, ap length h)
StartsWith-le text (t ∷ ts) rest h =
    omega (arith, StartsWith-le (behind_token (skip_blanks text)) ts rest h.1, behind_token-le (skip_blanks text), skip_blanks-le text)

StartsWith-snoc : (text : List ℕ) (ts : List Token) (rest : List ℕ) (t : Token) → StartsWith text ts rest → token_at (skip_blanks rest) ≡ t
    → StartsWith text (ts ++ t ∷ []) (behind_token (skip_blanks rest))
StartsWith-snoc text [] rest t h e = (ap (λ x. token_at (skip_blanks x)) h ∙ e, ap (λ x. behind_token (skip_blanks x)) h)
StartsWith-snoc text (u ∷ ts) rest t h e = (h.0, StartsWith-snoc (behind_token (skip_blanks text)) ts rest t h.1 e)

-- one text has one list of tokens: of two, one goes on from the other
StartsWith-same : (text : List ℕ) (xs ys : List Token) (l m : List ℕ) → StartsWith text xs l → StartsWith text ys m
    → ((more : List Token) × (ys ≡ xs ++ more)) ⊎ ((more : List Token) × (xs ≡ ys ++ more))
StartsWith-same text [] ys l m h k = inl (ys, refl)
StartsWith-same text (x ∷ xs) [] l m h k = inr (x ∷ xs, refl)
StartsWith-same text (x ∷ xs) (y ∷ ys) l m h k =
    let e : x ≡ y = sym h.0 ∙ k.0 in
    elim (StartsWith-same (behind_token (skip_blanks text)) xs ys l m h.1 k.1) [
      | inl w ↦ inl (w.0, cc)
      | inr w ↦ inr (w.0, cc)
    ]

pub begins : (text : List ℕ) → Read text (skip_blanks text) Start
begins text = record { done = []; left = text; begins = refl; skipped = refl; ran = refl; unended = tt }

pub goes_on : (text rest : List ℕ) (s next : State) → Read text rest s → (token_at rest ≡ End → ⊥) → step s (token_at rest) ≡ Ok next
    → Read text (skip_blanks (behind_token rest)) next
goes_on text rest s next r more e =
    let h = reads Start r.done s tt r.ran in
    let a : Adds s (token_at rest) next =
    subst (λ (x : Result State Cause). Gives s (token_at rest) x) e (adds s (token_at rest) h.holds) in
    let ran : run Start (r.done ++ token_at rest ∷ []) ≡ Ok next = run-append Start r.done (token_at rest ∷ []) ∙ rw (r.ran, e) refl in
    record {
      done = r.done ++ token_at rest ∷ [];
      left = behind_token rest;
      begins = rw (← r.skipped) (StartsWith-snoc text r.done r.left (token_at (skip_blanks r.left)) r.begins refl);
      skipped = refl;
      ran = ran;
      unended = a.unended more;
    }

pub stopped : (text rest : List ℕ) (s : State) (c : Cause) → Read text rest s → step s (token_at rest) ≡ Err c
    → FirstFault text (length text - length rest) c
stopped text rest s c r e =
    let short = StartsWith-le text r.done r.left r.begins in
    let h = reads Start r.done s tt r.ran in
    let text_is : so_far s ≡ r.done = h.text in
    let shorter = skip_blanks-le r.left in
    let same = ap length r.skipped in
    record {
      front = r.done;
      token = token_at rest;
      why = subst (λ (x : Result State Cause). CauseOk r.done (token_at rest) x) e
          (caused r.done s (token_at rest) (record { ran = r.ran; text = text_is; holds = h.holds; unended = r.unended }));
      place = record {
        rest = r.left;
        begins = r.begins;
        place = omega arith;
        next = ap token_at r.skipped;
        fits = fits r.done s r.ran r.unended;
        stops = stops r.done s (token_at rest) c r.ran e;
      };
    }

pub completed : (text : List ℕ) (s : State) (g : Geometry) → Read text [] s → step s End ≡ Ok (Over g) → IsWkt text g
completed text s g r e =
    let ran : run Start (r.done ++ End ∷ []) ≡ Ok (Over g) = run-append Start r.done (End ∷ []) ∙ rw (r.ran, e) refl in
    let all = reads Start (r.done ++ End ∷ []) (Over g) tt ran in
    let b : StartsWith text (r.done ++ End ∷ []) (behind_token (skip_blanks r.left)) =
    StartsWith-snoc text r.done r.left End r.begins (ap token_at r.skipped) in
    let nothing : behind_token (skip_blanks r.left) ≡ [] = ap behind_token r.skipped in (
      all.holds,
      subst (λ (ts : List Token). StartsWith text ts []) (sym all.text)
          (subst (λ (l : List ℕ). StartsWith text (r.done ++ End ∷ []) l) nothing b),
    )

-- ---- a text of the grammar has no fault, and one value

over_last : (g h : Geometry) (more : List Token) → run (Over g) more ≡ Ok (Over h) → more ≡ []
over_last g h [] e = refl
over_last g h (t ∷ ts) e = absurd cc

run_over : (xs more : List Token) (g : Geometry) → run Start xs ≡ Ok (Over g) → run Start (xs ++ more) ≡ run (Over g) more
run_over xs more g e = run-append Start xs more ∙ rw e refl

one_from : (xs ys more : List Token) (g h : Geometry) → run Start xs ≡ Ok (Over g) → run Start ys ≡ Ok (Over h) → ys ≡ xs ++ more → g ≡ h
one_from xs ys more g h p q e =
    let k : run (Over g) more ≡ Ok (Over h) = sym (run_over xs more g p) ∙ (ap (run Start) (sym e) ∙ q) in
    let n : more ≡ [] = over_last g h more k in
    let m : run (Over g) more ≡ Ok (Over g) = rw n refl in
    cc

pub one_value : (text : List ℕ) (g h : Geometry) → IsWkt text g → IsWkt text h → g ≡ h
one_value text g h p q =
    elim (StartsWith-same text (spelling g ++ End ∷ []) (spelling h ++ End ∷ []) [] [] p.1 q.1) [
      | inl w ↦ one_from (spelling g ++ End ∷ []) (spelling h ++ End ∷ []) w.0 g h (again g p.0) (again h q.0) w.1
      | inr w ↦ sym (one_from (spelling h ++ End ∷ []) (spelling g ++ End ∷ []) w.0 h g (again h q.0) (again g p.0) w.1)
    ]

no_nil : (ys : List Token) (u : Token) (more : List Token) → [] ≡ ys ++ u ∷ more → ⊥
no_nil [] u more e = cc
no_nil (y ∷ ys) u more e = cc

snoc_split : (front ys : List Token) (t u : Token) (more : List Token) → front ++ t ∷ [] ≡ ys ++ u ∷ more
    → (rest : List Token) × (front ≡ ys ++ rest)
snoc_split front [] t u more e = (front, refl)
snoc_split [] (y ∷ ys) t u more e = absurd (no_nil ys u more cc)
snoc_split (x ∷ front) (y ∷ ys) t u more e = let r = snoc_split front ys t u more cc in (r.0, cc)

no_more : (rest m : List Token) → rest ++ (m ++ End ∷ []) ≡ [] → ⊥
no_more [] m e = no_nil m End [] (sym e)
no_more (x ∷ rest) m e = cc

-- nothing begun goes past the end
not_past : (front rest : List Token) (g : Geometry) → IsFull g → IsBegun front → front ≡ (spelling g ++ End ∷ []) ++ rest → ⊥
not_past front rest g full b e =
    let whole : spelling b.0 ++ End ∷ [] ≡ (spelling g ++ End ∷ []) ++ (rest ++ (b.1 ++ End ∷ [])) =
    ap (λ x. x ++ End ∷ []) (sym b.3) ∙ (ap (λ x. (x ++ b.1) ++ End ∷ []) e ∙ simp append_assoc) in
    let k : run (Over g) (rest ++ (b.1 ++ End ∷ [])) ≡ Ok (Over b.0) =
    sym (run_over (spelling g ++ End ∷ []) (rest ++ (b.1 ++ End ∷ [])) g (again g full)) ∙ (ap (run Start) (sym whole) ∙ again b.0 b.2) in
    no_more rest b.1 (over_last g b.0 (rest ++ (b.1 ++ End ∷ [])) k)

past : (text : List ℕ) (at : ℕ) (front : List Token) (t : Token) (g : Geometry) (more : List Token) → IsFull g → StopsAt text at front t
    → front ++ t ∷ [] ≡ (spelling g ++ End ∷ []) ++ more → ⊥
past text at front t g [] full s e = s.stops (g, [], full, append-nil (front ++ t ∷ []) ∙ (e ∙ append-nil (spelling g ++ End ∷ [])))
past text at front t g (u ∷ more) full s e = let r = snoc_split front (spelling g ++ End ∷ []) t u more e in
    not_past front r.0 g full s.fits r.1

pub no_fault : (text : List ℕ) (g : Geometry) (at : ℕ) (front : List Token) (t : Token) → IsWkt text g → StopsAt text at front t → ⊥
no_fault text g at front t p s =
    elim (StartsWith-same text (front ++ t ∷ []) (spelling g ++ End ∷ []) _ [] (StartsWith-snoc text front s.rest t s.begins s.next) p.1) [
      | inl w ↦ s.stops (g, w.0, p.0, sym w.1)
      | inr w ↦ past text at front t g w.0 p.0 s w.1
    ]

-- ---- what is left gets shorter

pub not_end : (rest : List ℕ) → 0 < length rest → token_at rest ≡ End → ⊥
not_end [] some e = omega arith
not_end (b ∷ bs) some e = at (is_letter b) (is_number_byte b) (b == 40) (b == 41) (b == 44) e
  where
    at : (l n o c m : Bool)
        → cond l (Named (word_of (front_of is_letter (b ∷ bs))))
        (cond n (Numeral (number_of (front_of is_number_byte (b ∷ bs)))) (cond o Open (cond c Close (cond m Comma Other)))) ≡ End → ⊥
    at true n o c m h = cc
    at false true o c m h = cc
    at false false true c m h = cc
    at false false false true m h = cc
    at false false false false true h = cc
    at false false false false false h = cc

pub behind_token-lt : (rest : List ℕ) → 0 < length rest → length (behind_token rest) < length rest
behind_token-lt [] some = omega arith
behind_token-lt (b ∷ bs) some = at (is_letter b) (is_number_byte b) refl refl
  where
    at : (l n : Bool) → is_letter b ≡ l → is_number_byte b ≡ n
        → length (cond l (cond (is_letter b) (behind is_letter bs) (b ∷ bs))
        (cond n (cond (is_number_byte b) (behind is_number_byte bs) (b ∷ bs)) bs)) < length (b ∷ bs)
    at true n p q = rw p (omega (arith, behind-le is_letter bs))
    at false true p q = rw q (omega (arith, behind-le is_number_byte bs))
    at false false p q = omega arith

pub shorter : (rest now : List ℕ) → 0 < length rest → now ≡ skip_blanks (behind_token rest) → length now < length rest
shorter rest now some e = omega (arith, ap length e, skip_blanks-le (behind_token rest), behind_token-lt rest some)
