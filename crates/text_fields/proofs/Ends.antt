-- Blanks at the end of a text, taken away one by one.
use Rattle.std.proofs.Common.{ℕ, ◌≡◌, ◌<◌, ◌≤◌, ◌-◌, suc, true, false, ◌&&◌, List, [], ◌∷◌, ◌++◌, length, get_or, take, refl, sym, ◌∙◌, ap, arith}
use Rattle.std.proofs.Math.Seq.{take-suc}
use Rattle.std.specs.List.{list_all}
use Rattle.text_terms.specs.Fields.{is_blank, skip_end_blanks}

-- a text that ends in a blank, and one that does not
list_all_snoc : (xs : List ℕ) (b : ℕ) → is_blank b ≡ true → list_all is_blank (xs ++ b ∷ []) ≡ list_all is_blank xs
list_all_snoc [] b blank = rw blank refl
list_all_snoc (x ∷ xs) b blank = ap (λ t. is_blank x && t) (list_all_snoc xs b blank)

end_blank : (xs : List ℕ) (b : ℕ) → is_blank b ≡ true → skip_end_blanks (xs ++ b ∷ []) ≡ skip_end_blanks xs
end_blank [] b blank = rw blank refl
end_blank (x ∷ xs) b blank = rw (list_all_snoc xs b blank, end_blank xs b blank) refl

not_all : (xs : List ℕ) (b : ℕ) → is_blank b ≡ false → list_all is_blank (xs ++ b ∷ []) ≡ false
not_all [] b plain = rw plain refl
not_all (x ∷ xs) b plain = grind (arith, not_all xs b plain)

end_plain : (xs : List ℕ) (b : ℕ) → is_blank b ≡ false → skip_end_blanks (xs ++ b ∷ []) ≡ xs ++ b ∷ []
end_plain [] b plain = rw plain refl
end_plain (x ∷ xs) b plain = grind (arith, not_all xs b plain, end_plain xs b plain)

end_taken : (text : List ℕ) (j : ℕ) → 0 < j → j ≤ length text → take j text ≡ take (j - 1) text ++ get_or text (j - 1) 0 ∷ []
end_taken text j some within =
    let e : j ≡ suc (j - 1) = omega arith in
    let below : j - 1 < length text = omega arith in
    ap (λ k. take k text) e ∙ take-suc text (j - 1) 0 below

pub end_goes_on : (text : List ℕ) (j : ℕ) → 0 < j → j ≤ length text → is_blank (get_or text (j - 1) 0) ≡ true
    → skip_end_blanks (take j text) ≡ skip_end_blanks (take (j - 1) text)
end_goes_on text j some within blank =
    ap skip_end_blanks (end_taken text j some within) ∙ end_blank (take (j - 1) text) (get_or text (j - 1) 0) blank

pub end_is_cut : (text : List ℕ) (j : ℕ) → 0 < j → j ≤ length text → is_blank (get_or text (j - 1) 0) ≡ false
    → skip_end_blanks (take j text) ≡ take j text
end_is_cut text j some within plain =
    ap skip_end_blanks (end_taken text j some within)
    ∙ (end_plain (take (j - 1) text) (get_or text (j - 1) 0) plain ∙ sym (end_taken text j some within))
