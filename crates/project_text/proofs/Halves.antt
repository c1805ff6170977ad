-- The half-planes of a cell are read one by one.
use Rattle.std.proofs.Common.{ℕ, ◌≡◌, ◌≢◌, ◌<◌, ◌≤◌, ◌+◌, ◌^◌, Bool, true, false, ◌&&◌, ◌==◌, nat_le, ltb, List, [], ◌∷◌, ◌++◌, length, Some, None, refl, sym, ap, subst, ◌∙◌, inl, inr, arith}
use Rattle.std.specs.Prelude.{unsigned_abs}
use Rattle.std.specs.List.{list_all}
use Rattle.std.proofs.lemmas.Bool.{cases_Bool, false≢true, and_parts}
use Rattle.std.proofs.lemmas.Bool.Decides.{nat_tests}
use Rattle.std.proofs.lemmas.List.Folds.{list_all-append}
use Rattle.plane_terms.specs.HalfPlane.{HalfPlane, IsHalfPlane}
use Rattle.plane_terms.specs.Cell.{Cell}
use Rattle.project_terms.specs.Drafts.{is_half}
use Rattle.project_terms.specs.Verdicts.{is_none, cell_of, halves_behind}
use Rattle.project_text.specs.Reading.{left, half_said, IsNoHalf, IsHalfForm}
use Rattle.project_text.specs.declared.forms.HalfForm.{HalfForm}
use Rattle.project_text.proofs.FieldForms.{some_fields}

pub record HalvesRead (fs : List (List ℕ)) (halves : List HalfPlane) (within more : Bool) (rest : List ℕ) : Type 0 where
  pub all : List HalfPlane
  pub behind : cell_of fs ≡ halves_behind all more (left rest)
  pub right : within ≡ true → (halves ≡ all) × (list_all is_half all ≡ true)
  pub wrong : within ≡ false → list_all is_half all ≡ false

pub begun : (rest : List ℕ) (halves : List HalfPlane) → halves ≡ [] → HalvesRead (left rest) halves true true rest
begun rest halves e = record { all = []; behind = refl; right = λ t. (e, refl); wrong = λ t. absurd cc }

-- ---- half-planes within their limits
pub is_true : (h : HalfPlane) → IsHalfPlane h → is_half h ≡ true
is_true h v =
    let a : nat_le (unsigned_abs h.a) 8388608 ≡ true = grind (arith, nat_tests, v.a_fits) in
    let b : nat_le (unsigned_abs h.b) 8388608 ≡ true = grind (arith, nat_tests, v.b_fits) in
    let c : nat_le (unsigned_abs h.c) 70368744177664 ≡ true = grind (arith, nat_tests, v.c_fits) in
    let d : ltb 0 (unsigned_abs h.a + unsigned_abs h.b) ≡ true = grind (arith, nat_tests, v.slanted) in
    rw (a, b, c, d) refl

pub is_valid : (h : HalfPlane) → is_half h ≡ true → IsHalfPlane h
is_valid h t =
    let d = ltb 0 (unsigned_abs h.a + unsigned_abs h.b) in
    let c = nat_le (unsigned_abs h.c) 70368744177664 && d in
    let b = nat_le (unsigned_abs h.b) 8388608 && c in
    let p = and_parts (nat_le (unsigned_abs h.a) 8388608) b t in
    let q = and_parts (nat_le (unsigned_abs h.b) 8388608) c p.1 in
    let r = and_parts (nat_le (unsigned_abs h.c) 70368744177664) d q.1 in
    let x : unsigned_abs h.a ≤ 2 ^ 23 = grind (arith, nat_tests, p.0) in
    let y : unsigned_abs h.b ≤ 2 ^ 23 = grind (arith, nat_tests, q.0) in
    let z : unsigned_abs h.c ≤ 2 ^ 46 = grind (arith, nat_tests, r.0) in
    let w : 0 < unsigned_abs h.a + unsigned_abs h.b = grind (arith, nat_tests, r.1) in
    record { a_fits = x; b_fits = y; c_fits = z; slanted = w }

is_false : (h : HalfPlane) → (IsHalfPlane h → ⊥) → is_half h ≡ false
is_false h outside = elim (cases_Bool (is_half h)) [ inl t ↦ absurd (outside (is_valid h t)) | inr f ↦ f ]

-- ---- a half-plane more
put_true : (hs : List HalfPlane) (h : HalfPlane) → list_all is_half hs ≡ true → is_half h ≡ true → list_all is_half (hs ++ h ∷ []) ≡ true
put_true hs h a b = list_all-append is_half hs (h ∷ []) ∙ rw (a, b) refl

put_wrong : (hs : List HalfPlane) (h : HalfPlane) → is_half h ≡ false → list_all is_half (hs ++ h ∷ []) ≡ false
put_wrong hs h b = list_all-append is_half hs (h ∷ []) ∙ by (list_all is_half hs)
  where
    by : (y : Bool) → (y && list_all is_half (h ∷ [])) ≡ false
    by true = rw b refl
    by false = refl

put_behind : (hs : List HalfPlane) (h : HalfPlane) → list_all is_half hs ≡ false → list_all is_half (hs ++ h ∷ []) ≡ false
put_behind hs h a = list_all-append is_half hs (h ∷ []) ∙ rw a refl

pub one_more : (fs : List (List ℕ)) (halves made : List HalfPlane) (within : Bool) (rest : List ℕ) (f : HalfForm) (h : HalfPlane)
    → HalvesRead fs halves within true rest
    → IsHalfForm (left rest) f → h ≡ half_said f → IsHalfPlane (half_said f) → made ≡ halves ++ h ∷ []
    → HalvesRead fs made within f.more f.rest.now
one_more fs halves made within rest f h r form same valid put = record {
  all = r.all ++ half_said f ∷ [];
  behind = r.behind ∙ form r.all;
  right = λ t. (
    put ∙ (ap (λ (x : HalfPlane). halves ++ x ∷ []) same ∙ ap (λ (hs : List HalfPlane). hs ++ half_said f ∷ []) (r.right t).0),
    put_true r.all (half_said f) (r.right t).1 (is_true (half_said f) valid),
  );
  wrong = λ t. put_behind r.all (half_said f) (r.wrong t);
}

pub one_wrong : (fs : List (List ℕ)) (halves : List HalfPlane) (within : Bool) (rest : List ℕ) (f : HalfForm)
    → HalvesRead fs halves within true rest
    → IsHalfForm (left rest) f → (IsHalfPlane (half_said f) → ⊥) → HalvesRead fs halves false f.more f.rest.now
one_wrong fs halves within rest f r form outside = record {
  all = r.all ++ half_said f ∷ [];
  behind = r.behind ∙ form r.all;
  right = λ t. absurd cc;
  wrong = λ t. put_wrong r.all (half_said f) (is_false (half_said f) outside);
}

-- ---- the end
pub none_more : (fs : List (List ℕ)) (halves : List HalfPlane) (within : Bool) (rest : List ℕ) → HalvesRead fs halves within true rest
    → IsNoHalf (left rest)
    → cell_of fs ≡ None
none_more fs halves within rest r lacks = r.behind ∙ lacks r.all

too_many : (hs : List HalfPlane) (fs : List (List ℕ)) → is_none fs ≡ false → halves_behind hs false fs ≡ None
too_many hs [] h = absurd cc
too_many hs (a ∷ []) h = refl
too_many hs (a ∷ b ∷ []) h = refl
too_many hs (a ∷ b ∷ c ∷ []) h = refl
too_many hs (a ∷ b ∷ c ∷ d ∷ fs) h = refl

left_some : (rest : List ℕ) → rest ≢ [] → is_none (left rest) ≡ false
left_some [] h = absurd (h refl)
left_some (b ∷ bs) h = some_fields [] bs

pub not_empty : (rest : List ℕ) (b : Bool) → b ≡ (length rest == 0) → b ≡ false → rest ≢ []
not_empty [] b h g e = false≢true (sym g ∙ h)
not_empty (x ∷ xs) b h g e = absurd cc

pub longer : (fs : List (List ℕ)) (halves : List HalfPlane) (within : Bool) (rest : List ℕ) → HalvesRead fs halves within false rest
    → rest ≢ []
    → cell_of fs ≡ None
longer fs halves within rest r some = r.behind ∙ too_many r.all (left rest) (left_some rest some)

ended : (fs : List (List ℕ)) (halves : List HalfPlane) (within : Bool) (rest : List ℕ) (r : HalvesRead fs halves within false rest)
    → rest ≡ [] → cell_of fs ≡ Some r.all
ended fs halves within rest r none = r.behind ∙ ap (λ (t : List ℕ). halves_behind r.all false (left t)) none

pub beyond : (fs : List (List ℕ)) (halves : List HalfPlane) (within : Bool) (rest : List ℕ) → HalvesRead fs halves within false rest
    → rest ≡ [] → within ≡ false
    → (made : Cell) × (cell_of fs ≡ Some made) × (list_all is_half made ≡ false)
beyond fs halves within rest r none out = (r.all, ended fs halves within rest r none, r.wrong out)

pub whole : (fs : List (List ℕ)) (halves : List HalfPlane) (within : Bool) (rest : List ℕ) → HalvesRead fs halves within false rest
    → rest ≡ [] → within ≡ true
    → (cell_of fs ≡ Some halves) × (list_all is_half halves ≡ true)
whole fs halves within rest r none out =
    let k = r.right out in (
      ended fs halves within rest r none ∙ ap (λ (hs : List HalfPlane). Some hs) (sym k.0),
      subst (λ (hs : List HalfPlane). list_all is_half hs ≡ true) (sym k.0) k.1,
    )
