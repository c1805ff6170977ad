-- A text is read as a project exactly where it is the text of that project, in one of the two formats.
use Rattle.std.proofs.Common.{ℕ, ◌≡◌, ◌⊎◌, inl, inr, Bool, true, false, List, ◌∷◌, ◌++◌, refl, sym, ap, subst, ◌∙◌, arith}
use Rattle.topology_terms.specs.Project.{Project}
use Rattle.project_terms.specs.Records.{IsRecord, IsPlain}
use Rattle.project_terms.specs.Written.{title, line_text, text_of, project_text as written}
use Rattle.project_terms.specs.Texts.{IsProjectText, IsRead}
use Rattle.project_text.proofs.Spelled.{format, title_fields}
use Rattle.project_text.proofs.Staged.{ArePlain}
use Rattle.project_text.proofs.Kept.{read_record}
use Rattle.project_text.proofs.OneSpelling.{read_text}
use Rattle.project_text.proofs.Again.{text_read}

pub project_text : (t : List ℕ) (p : Project) → IsRead t p → IsProjectText t p
project_text t p h = let r = read_text t p h in record { record_of = read_record t p h; text = by r.typed r.text (λ e. plain (r.plain e)) }
  where
    plain : ArePlain p.rules p.features → IsPlain p
    plain k = record { rules = k.rules; features = k.features }

    by : (typed : Bool) → t ≡ text_of (format typed) p → (typed ≡ false → IsPlain p) → (t ≡ written p) ⊎ (IsPlain p × (t ≡ text_of 1 p))
    by true e f = inl e
    by false e f = inr (f refl, e)

pub text_project : (t : List ℕ) (p : Project) → IsProjectText t p → IsRead t p
text_project t p h = by h.text
  where
    by : (t ≡ written p) ⊎ (IsPlain p × (t ≡ text_of 1 p)) → IsRead t p
    by (inl e) = subst (λ (u : List ℕ). IsRead u p) (sym e) (text_read true p h.record_of (λ k. absurd cc))
    by (inr (plain, e)) = subst (λ (u : List ℕ). IsRead u p) (sym e) (text_read false p h.record_of (λ k. plain))

-- ---- the two formats
pub one_of_two : (t : List ℕ) (p : Project) → IsProjectText t p → (t ≡ written p) ⊎ (t ≡ text_of 1 p)
one_of_two t p h = by h.text
  where
    by : (t ≡ written p) ⊎ (IsPlain p × (t ≡ text_of 1 p)) → (t ≡ written p) ⊎ (t ≡ text_of 1 p)
    by (inl e) = inl e
    by (inr (plain, e)) = inr e

pub newer : (p : Project) → IsRecord p → IsProjectText (written p) p
newer p h = record { record_of = h; text = inl refl }

-- the titles differ
head_of : (typed : Bool) (p : Project) → (rest : List ℕ) × (text_of (format typed) p ≡ line_text (title (format typed)) ++ rest)
head_of typed p = (_, refl)

abbrev tenth : List ℕ → ℕ
tenth (a ∷ b ∷ c ∷ d ∷ e ∷ f ∷ g ∷ h ∷ i ∷ j ∷ rest) = j
tenth other = 0

titles : (a b : List ℕ) → line_text (title 1) ++ a ≡ line_text (title 2) ++ b → ⊥
titles a b e =
    let x : tenth (line_text (title 1) ++ a) ≡ 49 = ap (λ fs. tenth (line_text fs ++ a)) (title_fields false) in
    let y : tenth (line_text (title 2) ++ b) ≡ 50 = ap (λ fs. tenth (line_text fs ++ b)) (title_fields true) in
    let k : 49 ≡ 50 = sym x ∙ (ap tenth e ∙ y) in
    omega (arith, k)

pub older : (p : Project) → IsProjectText (text_of 1 p) p → IsRecord p × IsPlain p
older p h = (h.record_of, by h.text)
  where
    by : (text_of 1 p ≡ written p) ⊎ (IsPlain p × (text_of 1 p ≡ text_of 1 p)) → IsPlain p
    by (inl e) = let a = head_of false p in let b = head_of true p in absurd (titles a.0 b.0 (sym a.1 ∙ (e ∙ b.1)))
    by (inr (plain, e)) = plain

pub older_back : (p : Project) → IsRecord p → IsPlain p → IsProjectText (text_of 1 p) p
older_back p h plain = record { record_of = h; text = inr (plain, refl) }
