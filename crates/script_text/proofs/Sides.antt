-- Fields that name a class, or a subtype of one.
use Rattle.std.proofs.Common.{ℕ, ◌≡◌, true, false, List, ◌∷◌, ◌++◌, refl, sym, ap, ◌∙◌, subst, Option, Some, None}
use Rattle.text_terms.specs.Fields.{is_name}
use Rattle.text_terms.specs.Numbers.{IsWithinText}
use Rattle.text_fields.proofs.Colons.{no_colon, name_no_colon, colon_found, one_cut}
use Rattle.line_terms.specs.Commands.{Sided}
use Rattle.line_terms.specs.Forms.{IsBound, IsSided}
use Rattle.script_text.proofs.Numbers.{one_number}

same_sided : (a b : Sided) → a.name ≡ b.name → a.subtype ≡ b.subtype → a ≡ b
same_sided a b e h = λ i. record { name = e i; subtype = h i }

pub one_sided : (field : List ℕ) (a b : Sided) → IsSided field a → IsSided field b → a ≡ b
one_sided field a b (p, s) (q, t) = by a.subtype b.subtype refl refl s t
  where
    by : (x y : Option ℕ) → a.subtype ≡ x → b.subtype ≡ y → IsBound field a.name x → IsBound field b.name y → a ≡ b
    by None None e h s t = same_sided a b (sym s ∙ t) (e ∙ sym h)
    by None (Some y) e h s t =
        absurd (colon_found b.name t.0 (subst (λ f. no_colon f ≡ true) t.1 (subst (λ f. no_colon f ≡ true) (sym s) (name_no_colon a.name p))))
    by (Some x) None e h s t =
        absurd (colon_found a.name s.0 (subst (λ f. no_colon f ≡ true) s.1 (subst (λ f. no_colon f ≡ true) (sym t) (name_no_colon b.name q))))
    by (Some x) (Some y) e h s t =
        let c = one_cut a.name b.name s.0 t.0 (name_no_colon a.name p) (name_no_colon b.name q) (sym s.1 ∙ t.1) in
        let same = one_number t.0 0 255 x y (subst (λ d. IsWithinText 0 255 d x) c.digits s.2) t.2 in
        same_sided a b c.name (e ∙ (ap (λ n. Some n) same ∙ sym h))

-- ---- fields that name none
-- without a colon
pub no_class : (field : List ℕ) (a : Sided) → no_colon field ≡ true → is_name field ≡ false → IsSided field a → ⊥
no_class field a free none (p, s) = by a.subtype s
  where
    by : (x : Option ℕ) → IsBound field a.name x → ⊥
    by None s = let k : is_name field ≡ true = subst (λ n. is_name n ≡ true) (sym s) p in cc
    by (Some x) s = colon_found a.name s.0 (subst (λ f. no_colon f ≡ true) s.1 free)

abbrev IsCut : List ℕ → List ℕ → List ℕ → Type 0
IsCut field front digits = (no_colon front ≡ true) × (field ≡ front ++ 58 ∷ digits)

-- what is named where a colon stands
named : (field front digits : List ℕ) (a : Sided) → IsCut field front digits → IsSided field a
    → (front ≡ a.name) × ((t : ℕ) × IsWithinText 0 255 digits t)
named field front digits a (free, cut) (p, s) = by a.subtype s
  where
    by : (x : Option ℕ) → IsBound field a.name x → (front ≡ a.name) × ((t : ℕ) × IsWithinText 0 255 digits t)
    by None s =
        absurd (colon_found front digits (subst (λ f. no_colon f ≡ true) (sym s ∙ cut) (name_no_colon a.name p)))
    by (Some x) s =
        let c = one_cut front a.name digits s.0 free (name_no_colon a.name p) (sym cut ∙ s.1) in
        (c.name, (x, subst (λ d. IsWithinText 0 255 d x) (sym c.digits) s.2))

pub no_named : (field front digits : List ℕ) (a : Sided) → IsCut field front digits → is_name front ≡ false → IsSided field a → ⊥
no_named field front digits a cut none h =
    let same = named field front digits a cut h in
    let k : is_name front ≡ true = subst (λ n. is_name n ≡ true) (sym same.0) h.0 in
    cc

pub no_bound : (field front digits : List ℕ) (a : Sided) → IsCut field front digits → ((t : ℕ) → IsWithinText 0 255 digits t → ⊥)
    → IsSided field a → ⊥
no_bound field front digits a cut none h = let same = named field front digits a cut h in none same.1.0 same.1.1
