-- Which fields need no quotes: numbers, and the words of the report.
use Rattle.std.proofs.Common.{◌≡◌, ℕ, ◌≤◌, ◌+◌, suc, Bool, true, false, arith, List, ◌∷◌, refl, ℤ, pos, negsuc, Option, Some, None}
use Rattle.std.specs.Prelude.{decimal, if◌then◌else◌, nat_lt}
use Rattle.std.specs.Fmt.{digit_glyph, signed_decimal}
use Rattle.std.proofs.lemmas.Bool.Decides.{nat_tests}
use Rattle.csv.specs.Writing.{default_writer, needs_byte}
use Rattle.text_terms.proofs.Decimals.{decimal_has}
use Rattle.rule_words.specs.Table.{word_of}
use Rattle.rule_words.specs.declared.rule_kind.RuleKind.{RuleKind}
use Rattle.rule_words.specs.declared.rule_kind.RuleKind.TheVariants as kind
use Rattle.topology_terms.specs.Broken.{Row}
use Rattle.script_terms.specs.Report.{word_in, extent_word, mark_word}
use Rattle.report_text.specs.Tables.{IsPlain}

-- a digit, and a sign
plain_byte : (b : ℕ) → 45 ≤ b → needs_byte default_writer b ≡ false
plain_byte b l = grind (arith, nat_tests)

plain_cons : (b : ℕ) (bs : List ℕ) → 45 ≤ b → IsPlain bs → IsPlain (b ∷ bs)
plain_cons b bs l h = rw (plain_byte b l) h

glyph : (n : ℕ) → 45 ≤ digit_glyph false n
glyph n = by (nat_lt n 10)
  where
    by : (t : Bool) → 45 ≤ (if t then 48 + n else 87 + n)
    by true = omega arith
    by false = omega arith

pub plain_decimal : (n : ℕ) → IsPlain (decimal n)
plain_decimal n = decimal_has IsPlain (λ d bs h. plain_cons (digit_glyph false d) bs (glyph d) h) refl n

pub plain_signed : (z : ℤ) → IsPlain (signed_decimal z)
plain_signed (pos n) = plain_decimal n
plain_signed (negsuc n) = plain_cons 45 (decimal (suc n)) (omega arith) (plain_decimal (suc n))

plain_word_of : (k : RuleKind) → IsPlain (word_of k)
plain_word_of kind.PolygonMustNotOverlap = refl
plain_word_of kind.PolygonMustNotOverlapWith = refl
plain_word_of kind.PolygonMustNotHaveGaps = refl
plain_word_of kind.PolygonMustBeCoveredByFeatureClassOf = refl
plain_word_of kind.PolygonMustCoverEachOther = refl
plain_word_of kind.PolygonBoundaryMustBeCoveredBy = refl
plain_word_of kind.PolygonAreaBoundaryMustBeCoveredByBoundaryOf = refl
plain_word_of kind.PolygonMustBeCoveredBy = refl
plain_word_of kind.PolygonContainsPoint = refl
plain_word_of kind.LineMustNotOverlap = refl
plain_word_of kind.LineMustNotOverlapWith = refl
plain_word_of kind.LineMustNotIntersect = refl
plain_word_of kind.LineMustNotIntersectOrTouchInterior = refl
plain_word_of kind.LineMustNotHaveDangles = refl
plain_word_of kind.LineMustNotHavePseudoNodes = refl
plain_word_of kind.LineMustBeCoveredByFeatureClassOf = refl
plain_word_of kind.LineMustBeCoveredByBoundaryOf = refl
plain_word_of kind.LineEndpointMustBeCoveredBy = refl
plain_word_of kind.LineMustNotSelfOverlap = refl
plain_word_of kind.LineMustNotSelfIntersect = refl
plain_word_of kind.LineMustBeSinglePart = refl
plain_word_of kind.PointMustBeDisjoint = refl
plain_word_of kind.PointMustCoincideWith = refl
plain_word_of kind.PointMustBeProperlyInside = refl
plain_word_of kind.PointMustBeCoveredByBoundaryOf = refl
plain_word_of kind.PointMustBeCoveredByLine = refl
plain_word_of kind.PointMustBeCoveredByEndpointOf = refl

pub plain_word : (o : Option Row) → IsPlain (word_in o)
plain_word None = refl
plain_word (Some row) = plain_word_of row.kind

pub plain_extent : (whole : Bool) → IsPlain (extent_word whole)
plain_extent true = refl
plain_extent false = refl

pub plain_mark : (marked : Bool) → IsPlain (mark_word marked)
plain_mark true = refl
plain_mark false = refl
