-- What is left of a line is no longer than the line.
use Rattle.std.proofs.Common.{ℕ, ◌≤◌, Bool, true, false, ◌&&◌, List, [], ◌∷◌, length, subst, arith}
use Rattle.std.specs.Prelude.{if◌then◌else◌}
use Rattle.std.specs.List.{list_all}
use Rattle.text_terms.specs.Fields.{is_blank, skip_blanks, behind_field, skip_end_blanks}
use Rattle.wkt_laws.proofs.Reading.{skip_blanks-le}
use Rattle.line_terms.specs.Commands.{Form}
use Rattle.line_terms.specs.Commands as form
use Rattle.line_terms.specs.Forms.{HasForm}
use Rattle.script_text.specs.Edits.{IsTextWithin}

shorter_behind : (t : List ℕ) → length (behind_field t) ≤ length t
shorter_behind [] = omega arith
shorter_behind (b ∷ bs) = by (is_blank b) (shorter_behind bs)
  where
    by : (x : Bool) → length (behind_field bs) ≤ length bs → length (if x then b ∷ bs else behind_field bs) ≤ length (b ∷ bs)
    by true h = omega arith
    by false h = omega arith

shorter_end : (t : List ℕ) → length (skip_end_blanks t) ≤ length t
shorter_end [] = omega arith
shorter_end (b ∷ bs) = by (is_blank b && list_all is_blank bs) (shorter_end bs)
  where
    by : (x : Bool) → length (skip_end_blanks bs) ≤ length bs → length (if x then [] else b ∷ skip_end_blanks bs) ≤ length (b ∷ bs)
    by true h = omega arith
    by false h = omega arith

abbrev behind_first : List ℕ → List ℕ
behind_first t = behind_field (skip_blanks t)

shorter : (t : List ℕ) → length (behind_first t) ≤ length t
shorter t = omega (arith, shorter_behind (skip_blanks t), skip_blanks-le t)

-- behind four fields
rest_within : (line : List ℕ)
    → length (skip_end_blanks (skip_blanks (behind_first (behind_first (behind_first (behind_first line)))))) ≤ length line
rest_within line =
    let a = behind_first line in
    let b = behind_first a in
    let c = behind_first b in
    let d = behind_first c in
    omega (arith, shorter line, shorter a, shorter b, shorter c, skip_blanks-le d, shorter_end (skip_blanks d))

pub text_within : (line : List ℕ) (f : Form) → length line ≤ 1048576 → HasForm line f → IsTextWithin f
text_within line (form.Add e c t) h p = subst (λ s. length s ≤ 1048576) p.1.1.1.1.0 (omega (arith, rest_within line))
text_within line (form.Change e n t) h p = subst (λ s. length s ≤ 1048576) p.1.1.1.1.0 (omega (arith, rest_within line))
text_within line other h p = tt
