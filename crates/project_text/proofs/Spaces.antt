-- A line is cut into fields at its spaces, and a text into lines at its LFs.
use Rattle.std.proofs.Common.{ℕ, ◌≡◌, ◌≢◌, ◌<◌, ◌≤◌, ◌+◌, false, List, [], ◌∷◌, ◌++◌, length, get_or, take, drop, append_assoc, refl, sym, ap, ◌∙◌, inl, inr, arith}
use Rattle.std.proofs.lemmas.Bool.{cases_lt}
use Rattle.std.proofs.lemmas.Bool.Decides.{nat_tests}
use Rattle.std.proofs.lemmas.List.{drop_more, drop_all, take_more, take-append-drop}
use Rattle.project_terms.specs.Lines.{fields, fields_from}
use Rattle.project_terms.specs.Texts.{ended}
use Rattle.project_terms.specs.Verdicts.{is_none}
use Rattle.project_text.specs.Reading.{left, is_single}

at_space : (before bs : List ℕ) (b : ℕ) → b ≡ 32 → fields_from before (b ∷ bs) ≡ before ∷ fields bs
at_space before bs b e = grind (arith, nat_tests)

at_other : (before bs : List ℕ) (b : ℕ) → b ≢ 32 → fields_from before (b ∷ bs) ≡ fields_from (before ++ b ∷ []) bs
at_other before bs b e = grind (arith, nat_tests)

pub goes_on : (t : List ℕ) (n : ℕ) → n < length t → get_or t n 0 ≢ 32
    → fields_from (take n t) (drop n t) ≡ fields_from (take (n + 1) t) (drop (n + 1) t)
goes_on t n lt other =
    ap (fields_from (take n t)) (drop_more t n 0 lt) ∙ (at_other (take n t) (drop (n + 1) t) (get_or t n 0) other
    ∙ sym (ap (λ before. fields_from before (drop (n + 1) t)) (take_more t n 0 lt)))

pub split : (t : List ℕ) (n : ℕ) → n ≤ length t → (n < length t → get_or t n 0 ≡ 32) → fields t ≡ fields_from (take n t) (drop n t)
    → fields t ≡ take n t ∷ left (drop n t)
split t n le space same = elim (cases_lt n (length t)) [
  | inl lt ↦ let more = drop_more t n 0 lt in
      same ∙ (ap (fields_from (take n t)) more ∙ (at_space (take n t) (drop (n + 1) t) (get_or t n 0) (space lt)
      ∙ sym (ap (λ r. take n t ∷ left r) more)))
  | inr ge ↦ let none = drop_all n t ge in same ∙ (ap (fields_from (take n t)) none ∙ sym (ap (λ r. take n t ∷ left r) none))
]

-- at an LF the line ends
pub line_ends : (t : List ℕ) (n : ℕ) → n < length t → get_or t n 0 ≡ 10 → t ≡ ended (take n t) ++ drop (n + 1) t
line_ends t n lt lf =
    sym (take-append-drop n t) ∙ (ap (λ r. take n t ++ r) (drop_more t n 0 lt ∙ ap (λ b. b ∷ drop (n + 1) t) lf)
    ∙ sym (append_assoc (take n t) (10 ∷ []) (drop (n + 1) t)))

-- ---- how many fields are left
pub not_single : (f : List ℕ) (fs : List (List ℕ)) → is_none fs ≡ false → is_single (f ∷ fs) ≡ false
not_single f [] h = absurd cc
not_single f (g ∷ fs) h = refl
