-- A partner of the product's rules is a live feature, or 0.
--
-- poster_partners    what a topology asks of the meaning of its rules
use Rattle.std.proofs.Common.{inl, inr, ℕ, List}
use Rattle.plane_terms.specs.Point.{Point}
use Rattle.rule_words.specs.declared.rule_kind.RuleKind.{RuleKind}
use Rattle.rule_words.specs.declared.rule_kind.RuleKind.TheVariants as rule
use Rattle.topology_terms.specs.Feature.{Feature, Side}
use Rattle.topology_terms.specs.Broken.{BrokenAt, broken_at}
use Rattle.topology_terms.specs.Poster.{poster}
use Rattle.rule_core.specs.Kinds.{NamesPartners, IsPartner}

named : (k : RuleKind) (A B : Side) (F : List Feature) (a b : ℕ) (p : Point) → broken_at k A B F a b p → IsPartner F b
named rule.PolygonMustNotOverlap A B F a b p h = inr (h.g, h.partner.live)
named rule.PolygonMustNotOverlapWith A B F a b p h = inr (h.g, h.partner.live)
named rule.PolygonMustNotHaveGaps A B F a b p h = inl h.alone
named rule.PolygonMustBeCoveredByFeatureClassOf A B F a b p h = inl h.alone
named rule.PolygonMustCoverEachOther A B F a b p h = inl h.alone
named rule.PolygonBoundaryMustBeCoveredBy A B F a b p h = inl h.alone
named rule.PolygonAreaBoundaryMustBeCoveredByBoundaryOf A B F a b p h = inl h.alone
named rule.PolygonMustBeCoveredBy A B F a b p h = absurd h
named rule.PolygonContainsPoint A B F a b p h = absurd h
named rule.LineMustNotOverlap A B F a b p h = inr (h.g, h.partner.live)
named rule.LineMustNotOverlapWith A B F a b p h = inr (h.g, h.partner.live)
named rule.LineMustNotIntersect A B F a b p h = inr (h.g, h.partner.live)
named rule.LineMustNotIntersectOrTouchInterior A B F a b p h = inr (h.g, h.partner.live)
named rule.LineMustNotHaveDangles A B F a b p h = inl h.alone
named rule.LineMustNotHavePseudoNodes A B F a b p h = inl h.alone
named rule.LineMustBeCoveredByFeatureClassOf A B F a b p h = inl h.alone
named rule.LineMustBeCoveredByBoundaryOf A B F a b p h = inl h.alone
named rule.LineEndpointMustBeCoveredBy A B F a b p h = inl h.alone
named rule.LineMustNotSelfOverlap A B F a b p h = inl h.alone
named rule.LineMustNotSelfIntersect A B F a b p h = inl h.alone
named rule.LineMustBeSinglePart A B F a b p h = absurd h
named rule.PointMustBeDisjoint A B F a b p h = inr (h.g, h.partner.live)
named rule.PointMustCoincideWith A B F a b p h = inl h.alone
named rule.PointMustBeProperlyInside A B F a b p h = inl h.alone
named rule.PointMustBeCoveredByBoundaryOf A B F a b p h = inl h.alone
named rule.PointMustBeCoveredByLine A B F a b p h = inl h.alone
named rule.PointMustBeCoveredByEndpointOf A B F a b p h = inl h.alone

pub poster_partners : NamesPartners poster
unfolding BrokenAt
poster_partners = record { partner = λ row F a b p h. named row.kind row.origin row.dest F a b p h }
