-- A word is the word of one rule.
use Rattle.std.proofs.Common.{ℕ, ◌≡◌, Bool, true, false, List, [], ◌∷◌, refl, sym, ◌∙◌, ap, Some}
use Rattle.std.proofs.lemmas.Slice.Eq.{bytes_eq-Decides}
use Rattle.std.specs.Prelude.{bytes_eq, IfSome, if◌then◌else◌}
use Rattle.rule_words.specs.declared.rule_kind.RuleKind.{RuleKind}
use Rattle.rule_words.specs.declared.rule_kind.RuleKind.TheVariants as rule
use Rattle.rule_words.specs.Table.{word_of, first_of_word, all_rules}

-- each rule is the first of its word
pub found : (k : RuleKind) → first_of_word (word_of k) all_rules ≡ Some k
found rule.PolygonMustNotOverlap = refl
found rule.PolygonMustNotOverlapWith = refl
found rule.PolygonMustNotHaveGaps = refl
found rule.PolygonMustBeCoveredByFeatureClassOf = refl
found rule.PolygonMustCoverEachOther = refl
found rule.PolygonBoundaryMustBeCoveredBy = refl
found rule.PolygonAreaBoundaryMustBeCoveredByBoundaryOf = refl
found rule.PolygonMustBeCoveredBy = refl
found rule.PolygonContainsPoint = refl
found rule.LineMustNotOverlap = refl
found rule.LineMustNotOverlapWith = refl
found rule.LineMustNotIntersect = refl
found rule.LineMustNotIntersectOrTouchInterior = refl
found rule.LineMustNotHaveDangles = refl
found rule.LineMustNotHavePseudoNodes = refl
found rule.LineMustBeCoveredByFeatureClassOf = refl
found rule.LineMustBeCoveredByBoundaryOf = refl
found rule.LineEndpointMustBeCoveredBy = refl
found rule.LineMustNotSelfOverlap = refl
found rule.LineMustNotSelfIntersect = refl
found rule.LineMustBeSinglePart = refl
found rule.PointMustBeDisjoint = refl
found rule.PointMustCoincideWith = refl
found rule.PointMustBeProperlyInside = refl
found rule.PointMustBeCoveredByBoundaryOf = refl
found rule.PointMustBeCoveredByLine = refl
found rule.PointMustBeCoveredByEndpointOf = refl

pub one_word : (j k : RuleKind) → word_of j ≡ word_of k → j ≡ k
one_word j k e =
    let same : Some j ≡ Some k = sym (found j) ∙ (ap (λ word. first_of_word word all_rules) e ∙ found k) in
    cc

pub is_rule : (word : List ℕ) (k : RuleKind) → word_of k ≡ word → first_of_word word all_rules ≡ Some k
is_rule word k e = ap (λ word. first_of_word word all_rules) (sym e) ∙ found k

pub has_word : (word : List ℕ) (rules : List RuleKind) → IfSome (first_of_word word rules) (λ k. word_of k ≡ word)
has_word word [] = tt
has_word word (k ∷ rules) = by (bytes_eq (word_of k) word) refl (has_word word rules)
  where
    by : (t : Bool) → bytes_eq (word_of k) word ≡ t → IfSome (first_of_word word rules) (λ k. word_of k ≡ word)
        → IfSome (if t then Some k else first_of_word word rules) (λ k. word_of k ≡ word)
    by true e others = (bytes_eq-Decides (word_of k) word).0 e
    by false e others = others
