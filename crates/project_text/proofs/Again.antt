-- What is written of a record is read as it.
use Rattle.std.proofs.Common.{ℕ, pos, ◌≡◌, ◌≤◌, Bool, true, false, List, [], ◌∷◌, map, append-nil, Some, Ok, refl, sym, ap, subst, ◌∙◌, arith}
use Rattle.std.specs.Prelude.{codes, flat_map, decimal}
use Rattle.std.proofs.lemmas.List.Folds.{flat_map-map}
use Rattle.topology_terms.specs.Project.{Project, empty_project}
use Rattle.project_terms.specs.declared.stage.Stage.{Stage}
use Rattle.project_terms.specs.declared.stage.Stage.TheVariants as stage
use Rattle.project_terms.specs.Lines.{joined, natural}
use Rattle.project_terms.specs.Records.{IsRecord}
use Rattle.project_terms.specs.Written.{title, next_line, last_line, lines_of, text_of}
use Rattle.project_terms.specs.Drafts.{Draft, start, rank}
use Rattle.project_terms.specs.Verdicts.{judged, next_verdict, next_numbered}
use Rattle.project_terms.specs.Texts.{IsVerdict, ended, AreRead, IsRead}
use Rattle.project_text.proofs.Spelled.{format, format_word, title_fields}
use Rattle.project_text.proofs.Numerals.{natural_read}
use Rattle.project_text.proofs.Bytes.{plain_decimal}
use Rattle.project_text.proofs.Standing.{natural_back, at_stage, open_here, at_true, plain_verdict, in_classes}
use Rattle.project_text.proofs.SectionsAgain.{HasPlain, classes_read, rules_read, features_read, dirt_read}
use Rattle.project_text.proofs.ErrorsAgain.{no_wants, all_cells, errors_read}
use Rattle.project_text.proofs.InLine.{lines_inner, inner_map}

-- ---- all lines
end_step : (t : Bool) (p : Project) → IsRecord p → (s : Stage) → 2 ≤ rank s → rank s ≤ 7
    → IsVerdict (at_stage t s p) (joined last_line) (Ok (at_stage t stage.End p))
end_step t p h s some up =
    let d : Draft = at_stage t s p in
    plain_verdict d _ (codes "end") [] (refl, tt) refl
    (at_true stage.End d _ (open_here t s stage.End p some up (omega arith) (omega (arith, up)) (no_wants p.entries (all_cells p h))))

next_put : (d : Draft) (n : ℕ) → natural 1 4294967295 (pos n) ≡ Some n
    → next_verdict d (pos n) ≡ Ok (record d { stage = stage.Next; project = record d.project { next = n } })
next_put d n a = ap (next_numbered d) a

next_step : (t : Bool) (p : Project) → IsRecord p
    → IsVerdict (at_stage t stage.Title empty_project) (joined (next_line p.next)) (Ok (at_stage t stage.Next (in_classes p [])))
next_step t p h =
    let d : Draft = at_stage t stage.Title empty_project in
    plain_verdict d _ (codes "next") (decimal p.next ∷ []) (refl, (plain_decimal p.next, tt)) refl
    (ap (judged (next_verdict d)) (natural_read p.next (omega (arith, h.next.1)))
    ∙ next_put d p.next (natural_back 1 4294967295 p.next h.next.0 h.next.1))

title_step : (t : Bool) → IsVerdict start (joined (title (format t))) (Ok (at_stage t stage.Title empty_project))
title_step t = subst (λ (fs : List (List ℕ)). IsVerdict start (joined fs) (Ok (at_stage t stage.Title empty_project)))
    (sym (title_fields t)) (by t)
  where
    by : (u : Bool) → IsVerdict start (joined (codes "topology" ∷ format_word u ∷ [])) (Ok (at_stage u stage.Title empty_project))
    by true = plain_verdict start _ (codes "topology") (codes "2" ∷ []) (refl, (refl, tt)) refl refl
    by false = plain_verdict start _ (codes "topology") (codes "1" ∷ []) (refl, (refl, tt)) refl refl

lines_read : (t : Bool) (p : Project) → IsRecord p → HasPlain t p → AreRead start (map joined (lines_of (format t) p)) (at_stage t stage.End p)
lines_read t p h untyped =
    let e : Draft = at_stage t stage.End p in (
      at_stage t stage.Title empty_project,
      title_step t,
      (
        at_stage t stage.Next (in_classes p []),
        next_step t p h,
        classes_read t p h _ e (λ s a b. rules_read t p h untyped _ e (λ s a b. features_read t p h untyped _ e (λ s a b. dirt_read t p h _ e (λ s a b.
            errors_read t p h _ e (λ s a b. (e, end_step t p h s a b, refl)) p.entries [] refl s a (omega (arith, b)))
            p.dirt [] refl s a (omega (arith, b))) p.features [] refl s a (omega (arith, b))) p.rules [] refl s a (omega (arith, b)))
            p.classes [] refl stage.Next (omega arith) (omega arith),
      ),
    )

-- ---- the text
pub text_read : (t : Bool) (p : Project) → IsRecord p → HasPlain t p → IsRead (text_of (format t) p) p
text_read t p h untyped = (
  map joined (lines_of (format t) p),
  at_stage t stage.End p,
  record {
    inner = inner_map (lines_of (format t) p) (lines_inner t p h);
    text = sym (append-nil (flat_map ended (map joined (lines_of (format t) p))) ∙ flat_map-map ended joined (lines_of (format t) p));
    read = lines_read t p h untyped;
  },
  refl,
  refl,
)
