-- Of a view, those around its subject are those of the side, and what is found among them is the rule's cutting.
use Rattle.std.proofs.Common.{◌≡◌, ℕ, true, List, Some, refl, sym, ◌∙◌, ap}
use Rattle.topology_terms.specs.Feature.{Feature, feature_at}
use Rattle.topology_terms.specs.Broken.{Row, judged}
use Rattle.topology_terms.specs.Meaning.{Finding}
use Rattle.topology_terms.specs.Plans.{Around, Later, Own, Second, Other, around, side_by, Plan, WithEach, Alone, Whole, plan_of, cut_by, IsCutting}
use Rattle.rule_words.specs.declared.rule_kind.RuleKind.{RuleKind}
use Rattle.rule_core.specs.Shown.{IsShown}
use Rattle.rule_core.proofs.Partners.{near_shown, near_after_shown}
use Rattle.rules.specs.Seen.{seen, cut_seen}

around_seen : (who : Around) (row : Row) (V : List Feature) (a : ℕ) (f : Feature) → IsShown row V a → feature_at V a ≡ Some f
    → around who row V f ≡ seen who row V f
around_seen who row V a f shown e =
    let l = shown.live in
    let same : shown.subject ≡ f = cc in
    by_who who same
  where
    by_who : (who : Around) → shown.subject ≡ f → around who row V f ≡ seen who row V f
    by_who Later same = rw same at (near_after_shown row V a shown row.origin)
    by_who Own same = rw same at (near_shown row V a shown row.origin)
    by_who Second same = rw same at (near_shown row V a shown row.dest)
    by_who Other same = rw same at (near_shown row V a shown (side_by Other row f))

plan_seen : (plan : Plan) (row : Row) (V : List Feature) (f : Feature) → ((who : Around) → around who row V f ≡ seen who row V f)
    → cut_by plan row V f ≡ cut_seen plan row V f
plan_seen (WithEach who cells) row V f e = rw (e who) refl
plan_seen (Alone who cells) row V f e = rw (e who) refl
plan_seen (Whole who test) row V f e = rw (e who) refl

-- what is found among those seen, by the plan of the row's kind, is the rule's cutting
pub seen_cut : (k : RuleKind) (row : Row) (V : List Feature) (a : ℕ) (f : Feature) → row.kind ≡ k → IsShown row V a
    → feature_at V a ≡ Some f → (xs : List Finding) → xs ≡ cut_seen (plan_of k) row V f → IsCutting row V a xs
unfolding IsCutting
seen_cut k row V a f of_kind shown e xs h =
    let l = shown.live in
    let same : shown.subject ≡ f = cc in
    let j : judged row f ≡ true = rw same at shown.judged in
    let ys = cut_by (plan_of row.kind) row V f in
    let same_plan : ys ≡ cut_seen (plan_of k) row V f =
    plan_seen (plan_of row.kind) row V f (λ who. around_seen who row V a f shown e)
    ∙ ap (λ kind. cut_seen (plan_of kind) row V f) of_kind in
    (f, e, rw j (h ∙ sym same_plan))
