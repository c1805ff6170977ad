-- Lines and texts, computed from the definitions.
use Rattle.std.proofs.Common.{◌≡◌, true, false, [], ◌∷◌, ◌++◌, refl}
use Rattle.std.specs.Prelude.{codes}
use Rattle.text_terms.specs.Lines.{lines_of}
use Rattle.text_terms.specs.Fields.{HasFields, is_skipped}

-- CR LF, LF alone, an empty line, and a rest without an end
crlf : lines_of true (codes "ab" ++ 13 ∷ 10 ∷ codes "c" ++ 10 ∷ 10 ∷ codes "d") ≡ codes "ab" ∷ codes "c" ∷ [] ∷ codes "d" ∷ []
crlf = refl

not_whole : lines_of false (codes "ab" ++ 13 ∷ 10 ∷ codes "c") ≡ codes "ab" ∷ []
not_whole = refl

-- one CR goes, not two, also at the end of the input
two_crs : lines_of true (codes "a" ++ 13 ∷ 13 ∷ 10 ∷ codes "b" ++ 13 ∷ []) ≡ (codes "a" ++ 13 ∷ []) ∷ codes "b" ∷ []
two_crs = refl

no_line : lines_of true [] ≡ []
no_line = refl

spaced : HasFields (codes "  class" ++ 9 ∷ codes "wells  point ") (codes "class" ∷ codes "wells" ∷ codes "point" ∷ [])
spaced = (refl, (refl, (refl, refl)))

remark : is_skipped (codes "  # class") ≡ true
remark = refl
