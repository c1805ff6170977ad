-- No LF is in a line of a record.
use Rattle.std.proofs.Common.{ℕ, ◌≡◌, ◌-◌, ◌==◌, Bool, true, false, List, [], ◌∷◌, map, Option, Some, None, if◌then◌else◌, refl, sym, subst}
use Rattle.std.specs.Prelude.{flat_map, decimal, slice_get, codes}
use Rattle.plane_terms.specs.Lists.{Every}
use Rattle.plane_terms.proofs.ListLemmas.{every_map, every_got, every_append}
use Rattle.plane_terms.specs.Rectangle.{Rectangle}
use Rattle.plane_terms.specs.Cell.{Cell}
use Rattle.wkt_terms.specs.Shapes.{shape_text}
use Rattle.topology_terms.specs.Feature.{Class, Feature}
use Rattle.topology_terms.specs.Entry.{Entry}
use Rattle.topology_terms.specs.Lookups.{class_at}
use Rattle.topology_terms.specs.Project.{Project, InForce}
use Rattle.project_terms.specs.Lines.{joined}
use Rattle.project_terms.specs.Records.{IsRecord}
use Rattle.project_terms.specs.Written.{sided_in, side_field, own_field, written_subtype, title, next_line, class_line, rule_line, feature_line, dirty_line, error_line, cell_line, last_line, error_lines, lines_of}
use Rattle.project_terms.specs.Texts.{IsInner}
use Rattle.project_text.proofs.Bytes.{IsPlain, plain_decimal, plain_name, plain_kind, plain_rule, plain_mark, plain_extent, plain_inner, inner_joined, inner_shape}
use Rattle.project_text.proofs.Spelled.{format, format_word, title_fields}
use Rattle.project_text.proofs.Sides.{plain_sided}
use Rattle.project_text.proofs.ByName.{HasName}
use Rattle.project_text.proofs.SectionsAgain.{plain_sides}
use Rattle.project_text.proofs.ErrorsAgain.{plain_halves}

abbrev pub IsInLine : List (List ℕ) → Type 0
IsInLine fs = IsInner (joined fs)

pub plain_line : (fs : List (List ℕ)) → Every IsPlain fs → IsInLine fs
plain_line fs h = inner_joined fs (every_map IsPlain IsInner plain_inner fs h)

pub each_line : {A : Type 0} (f : A → List (List ℕ)) (P : A → Type 0) → ((x : A) → P x → IsInLine (f x)) → (xs : List A) → Every P xs
    → Every IsInLine (map f xs)
each_line f P g [] h = tt
each_line f P g (x ∷ xs) h = (g x h.0, each_line f P g xs h.1)

pub any_line : {A : Type 0} (f : A → List (List ℕ)) → ((x : A) → IsInLine (f x)) → (xs : List A) → Every IsInLine (map f xs)
any_line f g [] = tt
any_line f g (x ∷ xs) = (g x, any_line f g xs)

pub plain_at : (cs : List Class) (k : ℕ) (s : Option ℕ) → Every HasName cs → Every IsPlain (sided_in (class_at cs k) s)
plain_at cs k s h = by (k == 0)
  where
    got : (o : Option Class) → slice_get cs (k - 1) ≡ o → Every IsPlain (sided_in o s)
    got None e = tt
    got (Some c) e = (plain_sided c.name s (every_got HasName cs (k - 1) c h e), tt)

    by : (b : Bool) → Every IsPlain (sided_in (if b then None else slice_get cs (k - 1)) s)
    by true = tt
    by false = got (slice_get cs (k - 1)) refl

pub rule_inner : (cs : List Class) (q : InForce) → Every HasName cs → IsInLine (rule_line cs q)
rule_inner cs q h =
    plain_line (rule_line cs q) (
      refl,
      (
        plain_decimal q.number,
        (
          plain_rule q.row.kind,
          every_append IsPlain (side_field cs q.row.origin) (side_field cs q.row.dest)
              (plain_at cs q.row.origin.class q.row.origin.subtype h) (plain_at cs q.row.dest.class q.row.dest.subtype h),
        ),
      ),
    )

pub feature_inner : (cs : List Class) (f : Feature) → Every HasName cs → IsInLine (feature_line cs f)
feature_inner cs f h =
    inner_joined (feature_line cs f) (
      refl,
      (
        plain_inner (decimal f.handle) (plain_decimal f.handle),
        every_append IsInner (own_field cs f) (shape_text f.shape ∷ [])
            (every_map IsPlain IsInner plain_inner (own_field cs f) (plain_at cs f.class (written_subtype f.subtype) h))
            (inner_shape f.shape, tt),
      ),
    )

pub error_inner : (e : Entry) → Every IsInLine (error_lines e)
error_inner e = (
  plain_line (error_line e) (
    plain_mark e.marked,
    (
      plain_decimal e.rule,
      (plain_decimal e.subject, (plain_decimal e.other, (plain_extent e.whole, plain_sides e.frame))),
    ),
  ),
  any_line {A = Cell} cell_line (λ (c : Cell). plain_line (cell_line c) (refl, plain_halves c)) e.cells,
)

pub errors_inner : (es : List Entry) → Every IsInLine (flat_map error_lines es)
errors_inner [] = tt
errors_inner (e ∷ es) = every_append IsInLine (error_lines e) (flat_map error_lines es) (error_inner e) (errors_inner es)

title_inner : (t : Bool) → IsInLine (title (format t))
title_inner t = subst (λ (fs : List (List ℕ)). IsInLine fs) (sym (title_fields t)) (by t)
  where
    by : (u : Bool) → IsInLine (codes "topology" ∷ format_word u ∷ [])
    by true = refl
    by false = refl

pub lines_inner : (t : Bool) (p : Project) → IsRecord p → Every IsInLine (lines_of (format t) p)
lines_inner t p h =
    let classes = each_line class_line HasName
    (λ (c : Class) n. plain_line (class_line c) (refl, (plain_name c.name n, (plain_kind c.kind, tt))))
    p.classes h.names in
    let rules = any_line (rule_line p.classes) (λ (q : InForce). rule_inner p.classes q h.names) p.rules in
    let features = any_line (feature_line p.classes) (λ (f : Feature). feature_inner p.classes f h.names) p.features in
    let dirt = any_line dirty_line (λ (r : Rectangle). plain_line (dirty_line r) (refl, plain_sides r)) p.dirt in
    let last = every_append IsInLine (flat_map error_lines p.entries) (last_line ∷ []) (errors_inner p.entries) (refl, tt) in (
      title_inner t,
      (
        plain_line (next_line p.next) (refl, (plain_decimal p.next, tt)),
        every_append IsInLine (map class_line p.classes) _ classes
            (every_append IsInLine (map (rule_line p.classes) p.rules) _ rules
            (every_append IsInLine (map (feature_line p.classes) p.features) _ features
            (every_append IsInLine (map dirty_line p.dirt) _ dirt last))),
      ),
    )

pub inner_map : (ls : List (List (List ℕ))) → Every IsInLine ls → Every IsInner (map joined ls)
inner_map [] h = tt
inner_map (l ∷ ls) h = (h.0, inner_map ls h.1)
