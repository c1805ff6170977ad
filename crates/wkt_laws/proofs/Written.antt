-- What is written is read again: the written form of a geometry spells it.
--
-- Leads t u               t is u but for blanks in front
-- IsRead ft fs P          the text ft of what has P begins with its tokens fs, whatever follows that is no byte of a number
-- listed_items            a list with commas is its first item and the others behind commas
-- written_read            the promise
use Rattle.std.proofs.Common.{ℕ, ℤ, ◌≡◌, Bool, true, false, cond, ◌&&◌, List, [], ◌∷◌, ◌++◌, map, refl, sym, ap, ◌∙◌, subst, append_assoc, append-nil, arith}
use Rattle.std.specs.List.{list_all, AllByRecursion}
use Rattle.std.specs.Fmt.{signed_decimal}
use Rattle.plane_terms.specs.Point.{Place, InReach, IsInReach}
use Rattle.text_terms.specs.Fields.{skip_blanks}
use Rattle.text_terms.specs.Wkt.{listed}
use Rattle.wkt_terms.specs.Grammar.{Geometry, APoint, ALine, Lines, APolygon, Polygons, IsSome, AreSome, IsFull, IsWkt, position, commas, items, list, lists}
use Rattle.wkt_terms.specs.Numerals.{Whole, number_of}
use Rattle.wkt_terms.specs.Runs.{is_number_byte, front_of, behind}
use Rattle.wkt_terms.specs.Tokens.{Token, Open, Close, Numeral, End, StartsWith, token_at, behind_token}
use Rattle.wkt_terms.specs.Written.{place_text, bracketed, list_text, lists_text, written, IsInGrid}
use Rattle.text_fields.proofs.Fronts.{Stops, front_whole}
use Rattle.text_fields.proofs.Printed.{IsNumberText, number_text, number_byte, printed}
use Rattle.wkt_laws.specs.Commas.{comma_texts}

-- ---- number tokens

abbrev pub Leads : List ℕ → List ℕ → Type 0
Leads t u = skip_blanks t ≡ skip_blanks u

number_token : (xs rest : List ℕ) → IsNumberText xs → Stops is_number_byte rest
    → (token_at (skip_blanks (xs ++ rest)) ≡ Numeral (number_of xs)) × (behind_token (skip_blanks (xs ++ rest)) ≡ rest)
number_token [] rest n s = absurd (omega (arith, n.some))
number_token (b ∷ xs) rest n s =
    let f = front_whole is_number_byte (b ∷ xs) rest n.all s in
    at (is_number_byte b) refl n.all f
  where
    at : (y : Bool) → is_number_byte b ≡ y → (y && list_all is_number_byte xs) ≡ true
        → (front_of is_number_byte ((b ∷ xs) ++ rest) ≡ b ∷ xs) × (behind is_number_byte ((b ∷ xs) ++ rest) ≡ rest)
        → (token_at (skip_blanks ((b ∷ xs) ++ rest)) ≡ Numeral (number_of (b ∷ xs)))
        × (behind_token (skip_blanks ((b ∷ xs) ++ rest)) ≡ rest)
    at true e k f =
        let p = number_byte b e in
        let front : cond (is_number_byte b) (b ∷ front_of is_number_byte (xs ++ rest)) [] ≡ b ∷ xs = f.0 in
        let after : cond (is_number_byte b) (behind is_number_byte (xs ++ rest)) (b ∷ (xs ++ rest)) ≡ rest = f.1 in
        (rw (p.0, p.1, front, e) refl, rw (p.0, p.1, after, e) refl)
    at false e k f = absurd cc

number_read : (t : List ℕ) (z : ℤ) (rest : List ℕ) (ts : List Token) (m : List ℕ) → InReach z → Leads t (signed_decimal z ++ rest)
    → Stops is_number_byte rest → StartsWith rest ts m → StartsWith t (Numeral (Whole z) ∷ ts) m
number_read t z rest ts m h lead s more =
    let n = number_token (signed_decimal z) rest (number_text z h) s in
    (ap token_at lead ∙ (n.0 ∙ ap Numeral (printed z h)), subst (λ (u : List ℕ). StartsWith u ts m) (sym (ap behind_token lead ∙ n.1)) more)

-- ---- positions, lists and rings

abbrev pub IsRead : {A : Type 0} → (A → List ℕ) → (A → List Token) → (A → Type 0) → Type 0
IsRead {A = A} ft fs P = (t : List ℕ) (x : A) (rest : List ℕ) (ts : List Token) (m : List ℕ) → P x → Leads t (ft x ++ rest)
    → Stops is_number_byte rest → StartsWith rest ts m → StartsWith t (fs x ++ ts) m

place_read : IsRead place_text position IsInReach
place_read t p rest ts m h lead s more =
    let e : Leads t (signed_decimal p.x ++ (32 ∷ (signed_decimal p.y ++ rest))) =
    lead ∙ ap skip_blanks (append_assoc (signed_decimal p.x) (32 ∷ signed_decimal p.y) rest) in
    number_read t p.x (32 ∷ (signed_decimal p.y ++ rest)) (Numeral (Whole p.y) ∷ ts) m h.x e refl
    (number_read (32 ∷ (signed_decimal p.y ++ rest)) p.y rest ts m h.y refl s more)

commas_read : {A : Type 0} (ft : A → List ℕ) (fs : A → List Token) (P : A → Type 0) (one : IsRead ft fs P) (xs : List A) (rest : List ℕ)
    (ts : List Token) (m : List ℕ) → AllByRecursion P xs → Stops is_number_byte rest → StartsWith rest ts m
    → StartsWith (comma_texts ft xs ++ rest) (commas fs xs ++ ts) m × Stops is_number_byte (comma_texts ft xs ++ rest)
commas_read ft fs P one [] rest ts m h s more = (more, s)
commas_read ft fs P one (x ∷ xs) rest ts m h s more =
    let k = commas_read ft fs P one xs rest ts m h.1 s more in
    let lead : Leads (32 ∷ ((ft x ++ comma_texts ft xs) ++ rest)) (ft x ++ (comma_texts ft xs ++ rest)) =
    ap skip_blanks (append_assoc (ft x) (comma_texts ft xs) rest) in
    let b = one (32 ∷ ((ft x ++ comma_texts ft xs) ++ rest)) x (comma_texts ft xs ++ rest) (commas fs xs ++ ts) m h.0 lead k.1 k.0 in (
      (
        refl,
        subst (λ (us : List Token). StartsWith (32 ∷ ((ft x ++ comma_texts ft xs) ++ rest)) us m)
            (sym (append_assoc (fs x) (commas fs xs) ts)) b,
      ),
      refl,
    )

pub listed_items : {A : Type 0} (f : A → List ℕ) (x : A) (xs : List A) → listed (map f (x ∷ xs)) ≡ f x ++ comma_texts f xs
listed_items f x [] = sym (append-nil (f x))
listed_items f x (y ∷ ys) = ap (λ t. f x ++ 44 ∷ 32 ∷ t) (listed_items f y ys)

items_read : {A : Type 0} (ft : A → List ℕ) (fs : A → List Token) (P : A → Type 0) (one : IsRead ft fs P) (xs : List A) (rest : List ℕ)
    (ts : List Token) (m : List ℕ) → AllByRecursion P xs → IsSome xs → Stops is_number_byte rest → StartsWith rest ts m
    → StartsWith (listed (map ft xs) ++ rest) (items fs xs ++ ts) m
items_read ft fs P one [] rest ts m h some s more = absurd some
items_read ft fs P one (x ∷ xs) rest ts m h some s more =
    let k = commas_read ft fs P one xs rest ts m h.1 s more in
    let lead : Leads ((ft x ++ comma_texts ft xs) ++ rest) (ft x ++ (comma_texts ft xs ++ rest)) =
    ap skip_blanks (append_assoc (ft x) (comma_texts ft xs) rest) in
    let b = one ((ft x ++ comma_texts ft xs) ++ rest) x (comma_texts ft xs ++ rest) (commas fs xs ++ ts) m h.0 lead k.1 k.0 in
    let c : StartsWith ((ft x ++ comma_texts ft xs) ++ rest) (items fs (x ∷ xs) ++ ts) m =
    subst (λ (us : List Token). StartsWith ((ft x ++ comma_texts ft xs) ++ rest) us m) (sym (append_assoc (fs x) (commas fs xs) ts)) b
    in
    subst (λ (u : List ℕ). StartsWith (u ++ rest) (items fs (x ∷ xs) ++ ts) m) (sym (listed_items ft x xs)) c

-- items in brackets
abbrev pub AreGood : {A : Type 0} → (A → Type 0) → List A → Type 0
AreGood P xs = AllByRecursion P xs × IsSome xs

abbrev pub in_brackets : {A : Type 0} → (A → List Token) → List A → List Token
in_brackets fs xs = Open ∷ items fs xs ++ Close ∷ []

abbrev pub brackets_text : {A : Type 0} → (A → List ℕ) → List A → List ℕ
brackets_text ft xs = bracketed (listed (map ft xs))

brackets_read : {A : Type 0} (ft : A → List ℕ) (fs : A → List Token) (P : A → Type 0) (one : IsRead ft fs P)
    → IsRead (brackets_text ft) (in_brackets fs) (AreGood P)
brackets_read ft fs P one t xs rest ts m h lead s more =
    let k = items_read ft fs P one xs (41 ∷ rest) (Close ∷ ts) m h.0 h.1 refl (refl, more) in
    let text : (listed (map ft xs) ++ 41 ∷ []) ++ rest ≡ listed (map ft xs) ++ 41 ∷ rest =
    append_assoc (listed (map ft xs)) (41 ∷ []) rest in
    let tokens : (items fs xs ++ Close ∷ []) ++ ts ≡ items fs xs ++ Close ∷ ts = append_assoc (items fs xs) (Close ∷ []) ts in (
      ap token_at lead,
      subst (λ (u : List ℕ). StartsWith u ((items fs xs ++ Close ∷ []) ++ ts) m) (sym (ap behind_token lead ∙ text))
          (subst (λ (us : List Token). StartsWith (listed (map ft xs) ++ 41 ∷ rest) us m) (sym tokens) k),
    )

list_read : IsRead list_text list (AreGood IsInReach)
list_read = brackets_read place_text position IsInReach place_read

lists_read : IsRead lists_text lists (AreGood (AreGood IsInReach))
lists_read = brackets_read list_text list (AreGood IsInReach) list_read

parts_read : IsRead (brackets_text lists_text) (in_brackets lists) (AreGood (AreGood (AreGood IsInReach)))
parts_read = brackets_read lists_text lists (AreGood (AreGood IsInReach)) lists_read

good_lists : (pss : List (List Place)) → AllByRecursion (AllByRecursion IsInReach) pss → AllByRecursion IsSome pss
    → AllByRecursion (AreGood IsInReach) pss
good_lists [] h k = tt
good_lists (ps ∷ pss) h k = ((h.0, k.0), good_lists pss h.1 k.1)

good_parts : (parts : List (List (List Place))) → AllByRecursion (AllByRecursion (AllByRecursion IsInReach)) parts
    → AllByRecursion AreSome parts → AllByRecursion (AreGood (AreGood IsInReach)) parts
good_parts [] h k = tt
good_parts (pss ∷ parts) h k = ((good_lists pss h.0 k.0.1, k.0.0), good_parts parts h.1 k.1)

-- ---- the whole text

whole : {A : Type 0} (ft : A → List ℕ) (fs : A → List Token) (P : A → Type 0) (one : IsRead ft fs P) (t : List ℕ) (x : A) → P x
    → Leads t (ft x) → StartsWith t (fs x ++ End ∷ []) []
whole ft fs P one t x h lead = one t x [] (End ∷ []) [] h (lead ∙ ap skip_blanks (sym (append-nil (ft x)))) tt (refl, refl)

pub written_read : (g : Geometry) → IsFull g → IsInGrid g → IsWkt (written g) g
written_read (APoint p) full h =
    (full, (refl, (refl, place_read (place_text p ++ 41 ∷ []) p (41 ∷ []) (Close ∷ End ∷ []) [] h refl refl (refl, (refl, refl)))))
written_read (ALine ps) full h = (full, (refl, whole list_text list (AreGood IsInReach) list_read (32 ∷ list_text ps) ps (h, full) refl))
written_read (Lines pss) full h = (
  full,
  (
    refl,
    whole lists_text lists (AreGood (AreGood IsInReach)) lists_read (32 ∷ lists_text pss) pss
        (good_lists pss h full.1, full.0) refl,
  ),
)
written_read (APolygon rings) full h = (
  full,
  (
    refl,
    whole lists_text lists (AreGood (AreGood IsInReach)) lists_read (32 ∷ lists_text rings) rings
        (good_lists rings h full.1, full.0) refl,
  ),
)
written_read (Polygons parts) full h = (
  full,
  (
    refl,
    whole (brackets_text lists_text) (in_brackets lists) (AreGood (AreGood (AreGood IsInReach))) parts_read
        (32 ∷ brackets_text lists_text parts) parts (good_parts parts h full.1, full.0) refl,
  ),
)
