-- What is written of errors and their cells is read as it.
use Rattle.std.proofs.Common.{ℕ, pos, ◌≡◌, ◌≢◌, ◌≤◌, ◌-◌, ◌==◌, Bool, true, false, ◌&&◌, not, List, [], ◌∷◌, ◌++◌, map, append-nil, append_assoc, Some, None, Ok, Err, if◌then◌else◌, refl, sym, ap, subst, ◌∙◌, arith}
use Rattle.std.specs.Prelude.{is_some, codes, flat_map, decimal}
use Rattle.std.specs.Fmt.{signed_decimal}
use Rattle.std.specs.List.{list_all}
use Rattle.std.proofs.lemmas.Bool.{or_from}
use Rattle.std.proofs.lemmas.Bool.Decides.{nat_tests}
use Rattle.plane_terms.specs.Lists.{Every, EveryPair}
use Rattle.plane_terms.proofs.ListLemmas.{every_left, every_map}
use Rattle.plane_terms.specs.HalfPlane.{HalfPlane, IsHalfPlane}
use Rattle.plane_terms.specs.Cell.{Cell}
use Rattle.plane_terms.specs.declared.op.Op.{Op}
use Rattle.plane_terms.specs.declared.op.Op.TheVariants.{Over, AtLeast, Zero}
use Rattle.topology_terms.specs.Entry.{Entry, Key, key_of, IsBefore, IsKeyBelow}
use Rattle.topology_terms.specs.Project.{Project, rule_at}
use Rattle.project_terms.specs.declared.stage.Stage.{Stage}
use Rattle.project_terms.specs.declared.stage.Stage.TheVariants as stage
use Rattle.project_terms.specs.declared.project_cause.ProjectCause.TheVariants as cause
use Rattle.project_terms.specs.Lines.{joined, natural}
use Rattle.project_terms.specs.Records.{IsError, IsRecord}
use Rattle.project_terms.specs.Written.{mark_word, extent_word, rect_fields, cell_fields, error_line, cell_line, error_lines}
use Rattle.project_terms.specs.Drafts.{Draft, rank, is_cell_open, is_bare, takes_cell, wants_cell, with_cell, is_before, is_last_key, is_rectangle, is_half}
use Rattle.project_terms.specs.Verdicts.{Verdict, WktReading, Unwritten, ErrorForm, at, judged, extent_of, error_of, op_of, half_of, halves_behind, cell_of, error_verdict, error_in, error_ruled, cell_verdict, line_verdict, wkt_of}
use Rattle.project_terms.specs.Texts.{IsVerdict, AreRead}
use Rattle.project_text.specs.Pushed.{sign_text}
use Rattle.project_text.proofs.FieldForms.{error_found, half_right, half_said}
use Rattle.project_text.proofs.Numerals.{natural_read, signed_read}
use Rattle.project_text.proofs.Rects.{rectangle_true}
use Rattle.project_text.proofs.Halves.{is_true}
use Rattle.project_text.proofs.Staged.{HasCells}
use Rattle.project_text.proofs.Bytes.{IsPlain, plain_decimal, plain_signed, plain_mark, plain_extent, plain_sign}
use Rattle.project_text.proofs.Standing.{every_mid, between, no_end, natural_back, at_stage, open_here, at_true, plain_verdict, in_errors}
use Rattle.project_text.proofs.SectionsAgain.{plain_sides, rect_back}

-- ---- errors
pub mark_line : (b : Bool) (r : WktReading) (d : Draft) (fs : List (List ℕ))
    → line_verdict r d (mark_word b ∷ fs) ≡ at stage.Errors d (judged (error_verdict b d) (error_of fs))
mark_line true r d fs = refl
mark_line false r d fs = refl

pub mark_shape : (b : Bool) (d : Draft) (fs : List (List ℕ)) → wkt_of d (mark_word b ∷ fs) ≡ None
mark_shape true d fs = refl
mark_shape false d fs = refl

pub extent_back : (b : Bool) → extent_of (extent_word b) ≡ Some b
extent_back true = refl
extent_back false = refl

pub key_before : (j k : Key) → IsBefore j k → is_before j k ≡ true
key_before j k h = grind (arith, nat_tests)

pub last_key : (es : List Entry) (e : Entry) → Every (λ (x : Entry). IsKeyBelow x e) es → is_last_key es (key_of e) ≡ true
last_key [] e h = refl
last_key (x ∷ []) e h = key_before (key_of x) (key_of e) h.0
last_key (x ∷ y ∷ es) e h = last_key (y ∷ es) e h.1

pub none_wanted : (w : Bool) (cs : List Cell) → (w ≡ false → cs ≢ []) → (not w && is_bare cs) ≡ false
none_wanted true cs h = refl
none_wanted false [] h = absurd (h refl refl)
none_wanted false (c ∷ cs) h = refl

pub no_wants : (es : List Entry) → Every HasCells es → wants_cell es ≡ false
no_wants [] h = refl
no_wants (e ∷ []) h = none_wanted e.whole e.cells h.0
no_wants (e ∷ f ∷ es) h = no_wants (f ∷ es) h.1

pub all_cells : (p : Project) → IsRecord p → Every HasCells p.entries
all_cells p h = every_map (IsError p) HasCells (λ e x. x.cells) p.entries h.errors

-- an error as its line tells it, its cells to come
abbrev pub bare : Entry → Entry
bare e = record e { cells = [] }

abbrev pub form_of : Entry → ErrorForm
form_of e = record { rule = pos e.rule; subject = pos e.subject; other = pos e.other; whole = e.whole; frame = e.frame }

pub fits_partner : (w : Bool) (b : ℕ) → (w ≡ true → b ≡ 0) → (w && not (b == 0)) ≡ false
fits_partner true b h = let z : b ≡ 0 = h refl in grind (arith, nat_tests, z)
fits_partner false b h = refl

pub error_put : (d : Draft) (e : Entry) → natural 1 (d.project.next - 1) (pos e.subject) ≡ Some e.subject
    → natural 0 (d.project.next - 1) (pos e.other) ≡ Some e.other → is_rectangle e.frame ≡ true → (e.whole && not (e.other == 0)) ≡ false
    → natural 1 256 (pos e.rule) ≡ Some e.rule → is_some (rule_at d.project.rules e.rule) ≡ true
    → is_last_key d.project.entries (key_of e) ≡ true → error_verdict e.marked d (form_of e) ≡
    Ok (record d { stage = stage.Errors; project = record d.project { entries = d.project.entries ++ bare e ∷ [] } })
error_put d e a b frame partner r rule last =
    ap (λ o. error_in d e.marked (form_of e) o (natural 0 (d.project.next - 1) (pos e.other))) a
    ∙ (ap (λ o. error_in d e.marked (form_of e) (Some e.subject) o) b
    ∙ (ap (λ t. if t then Err cause.Range else error_ruled d e.marked (form_of e) e.subject e.other (natural 1 256 (pos e.rule)))
    (or_from (not (is_rectangle e.frame)) (e.whole && not (e.other == 0)) (ap not frame) partner)
    ∙ (ap (error_ruled d e.marked (form_of e) e.subject e.other) r ∙ rw (rule, last) refl)))

pub error_step : (t : Bool) (p : Project) → IsRecord p → (done : List Entry) (e : Entry) (es : List Entry) → done ++ e ∷ es ≡ p.entries → (s : Stage)
    → 2 ≤ rank s → rank s ≤ 7
    → IsVerdict (at_stage t s (in_errors p done)) (joined (error_line e)) (Ok (at_stage t stage.Errors (in_errors p (done ++ bare e ∷ []))))
error_step t p h done e es same s some up =
    let d : Draft = at_stage t s (in_errors p done) in
    let g = every_mid (IsError p) done e es (subst (Every (IsError p)) (sym same) h.errors) in
    let rising = between IsKeyBelow done e es (subst (EveryPair IsKeyBelow) (sym same) h.entries) in
    let full = no_wants done (every_left HasCells done (e ∷ es) (subst (Every HasCells) (sym same) (all_cells p h))) in
    let top = h.next.1 in
    let read = error_found (decimal e.rule) (decimal e.subject) (decimal e.other) (extent_word e.whole) (rect_fields e.frame) (pos e.rule)
    (pos e.subject) (pos e.other) e.whole e.frame (natural_read e.rule (omega (arith, g.numbered.1)))
    (natural_read e.subject (omega (arith, g.given, top))) (natural_read e.other (omega (arith, g.partner, top))) (extent_back e.whole)
    (rect_back e.frame g.frame) in
    let rule : is_some (rule_at p.rules e.rule) ≡ true = ap is_some g.rule.1 in
    let fs : List (List ℕ) = decimal e.rule ∷ decimal e.subject ∷ decimal e.other ∷ extent_word e.whole ∷ rect_fields e.frame in
    plain_verdict d _ (mark_word e.marked) fs (
      plain_mark e.marked,
      (
        plain_decimal e.rule,
        (plain_decimal e.subject, (plain_decimal e.other, (plain_extent e.whole, plain_sides e.frame))),
      ),
    )
    (mark_shape e.marked d fs)
    (mark_line e.marked Unwritten d fs
    ∙ (at_true stage.Errors d _ (open_here t s stage.Errors (in_errors p done) some up (omega arith) up full)
    ∙ (ap (judged (error_verdict e.marked d)) read
    ∙ error_put d e (natural_back 1 (p.next - 1) e.subject g.from_1 (omega (arith, g.given)))
    (natural_back 0 (p.next - 1) e.other (omega arith) (omega (arith, g.partner))) (rectangle_true e.frame g.frame)
    (fits_partner e.whole e.other (λ w. (g.whole w).0)) (natural_back 1 256 e.rule g.numbered.0 g.numbered.1) rule
    (last_key done e rising))))

-- ---- cells
pub sign_back : (o : Op) (more : Bool) → op_of (sign_text o more) ≡ Some (o, more)
sign_back Over true = refl
sign_back Over false = refl
sign_back AtLeast true = refl
sign_back AtLeast false = refl
sign_back Zero true = refl
sign_back Zero false = refl

pub half_back : (h : HalfPlane) (more : Bool) → IsHalfPlane h
    → half_of (signed_decimal h.a) (signed_decimal h.b) (signed_decimal h.c) (sign_text h.op more) ≡ Some (record { half = h; more = more })
half_back h more v = half_said (signed_decimal h.a) (signed_decimal h.b) (signed_decimal h.c) (sign_text h.op more) h.a h.b h.c h.op more
    (signed_read h.a (omega (arith, v.a_fits))) (signed_read h.b (omega (arith, v.b_fits))) (signed_read h.c (omega (arith, v.c_fits)))
    (sign_back h.op more)

pub halves_back : (hs rest : List HalfPlane) (h : HalfPlane) → IsHalfPlane h → Every IsHalfPlane rest
    → halves_behind hs true (cell_fields (h ∷ rest)) ≡ Some (hs ++ h ∷ rest)
halves_back hs [] h v w = half_right (signed_decimal h.a) (signed_decimal h.b) (signed_decimal h.c) (sign_text h.op false) []
    (record { half = h; more = false }) (half_back h false v) hs
halves_back hs (g ∷ rest) h v w =
    half_right (signed_decimal h.a) (signed_decimal h.b) (signed_decimal h.c) (sign_text h.op true) (cell_fields (g ∷ rest))
    (record { half = h; more = true }) (half_back h true v) hs
    ∙ (halves_back (hs ++ h ∷ []) rest g w.0 w.1 ∙ ap Some (append_assoc hs (h ∷ []) (g ∷ rest)))

pub cell_back : (c : Cell) → c ≢ [] → Every IsHalfPlane c → cell_of (cell_fields c) ≡ Some c
cell_back [] some v = absurd (some refl)
cell_back (h ∷ hs) some v = halves_back [] hs h v.0 v.1

pub all_halves : (c : Cell) → Every IsHalfPlane c → list_all is_half c ≡ true
all_halves [] v = refl
all_halves (h ∷ hs) v = rw (is_true h v.0) (all_halves hs v.1)

pub plain_halves : (c : Cell) → Every IsPlain (cell_fields c)
plain_halves [] = tt
plain_halves (h ∷ []) = (plain_signed h.a, (plain_signed h.b, (plain_signed h.c, (plain_sign h.op false, tt))))
plain_halves (h ∷ g ∷ hs) = (plain_signed h.a, (plain_signed h.b, (plain_signed h.c, (plain_sign h.op true, plain_halves (g ∷ hs)))))

pub takes_end : (es : List Entry) (e : Entry) → takes_cell (es ++ e ∷ []) ≡ not e.whole
takes_end [] e = refl
takes_end (f ∷ []) e = refl
takes_end (f ∷ g ∷ es) e = takes_end (g ∷ es) e

pub put_end : (es : List Entry) (e : Entry) (c : Cell) → with_cell (es ++ e ∷ []) c ≡ es ++ record e { cells = e.cells ++ c ∷ [] } ∷ []
put_end [] e c = refl
put_end (f ∷ []) e c = refl
put_end (f ∷ g ∷ es) e c = ap (λ t. f ∷ t) (put_end (g ∷ es) e c)

pub cell_put : (d : Draft) (c : Cell) → list_all is_half c ≡ true
    → cell_verdict d c ≡ Ok (record d { project = record d.project { entries = with_cell d.project.entries c } })
cell_put d c a = rw a refl

pub cell_true : (d : Draft) (v : Verdict) → is_cell_open d ≡ true → (if is_cell_open d then v else Err cause.Form) ≡ v
cell_true d v o = rw o refl

pub cell_step : (t : Bool) (p : Project) (done : List Entry) (e : Entry) (c : Cell) → e.whole ≡ false → c ≢ [] → Every IsHalfPlane c
    → IsVerdict (at_stage t stage.Errors (in_errors p (done ++ e ∷ []))) (joined (cell_line c))
    (Ok (at_stage t stage.Errors (in_errors p (done ++ record e { cells = e.cells ++ c ∷ [] } ∷ []))))
cell_step t p done e c part some v =
    let d : Draft = at_stage t stage.Errors (in_errors p (done ++ e ∷ [])) in
    let takes : takes_cell (done ++ e ∷ []) ≡ true = takes_end done e ∙ ap not part in
    plain_verdict d _ (codes "cell") (cell_fields c) (refl, plain_halves c) refl
    (cell_true d _ takes ∙ (ap (judged (cell_verdict d)) (cell_back c some v)
    ∙ (cell_put d c (all_halves c v) ∙ ap (λ (es : List Entry). Ok (at_stage t stage.Errors (in_errors p es))) (put_end done e c))))

pub part_of_cells : (w : Bool) (done : List Cell) (c : Cell) (cs all : List Cell) → done ++ c ∷ cs ≡ all → (w ≡ true → all ≡ []) → w ≡ false
part_of_cells true done c cs all same h = absurd (no_end done c cs (same ∙ h refl))
part_of_cells false done c cs all same h = refl

pub cells_read : (t : Bool) (p : Project) (before : List Entry) (x : Entry) → IsError p x → (rest : List (List (List ℕ))) (e : Draft)
    → AreRead (at_stage t stage.Errors (in_errors p (before ++ x ∷ []))) (map joined rest) e
    → (todo done : List Cell) → done ++ todo ≡ x.cells
    → AreRead (at_stage t stage.Errors (in_errors p (before ++ record x { cells = done } ∷ [])))
    (map joined (map {A = Cell} cell_line todo ++ rest)) e
cells_read t p before x g rest e k [] done same =
    subst (λ (cs : List Cell). AreRead (at_stage t stage.Errors (in_errors p (before ++ record x { cells = cs } ∷ []))) (map joined rest) e)
    (sym same ∙ append-nil done) k
cells_read t p before x g rest e k (c ∷ cs) done same = (
  at_stage t stage.Errors (in_errors p (before ++ record x { cells = done ++ c ∷ [] } ∷ [])),
  cell_step t p before (record x { cells = done }) c (part_of_cells x.whole done c cs x.cells same (λ w. (g.whole w).1))
      (every_mid (λ (k : Cell). k ≢ []) done c cs (subst (Every (λ (k : Cell). k ≢ [])) (sym same) g.some))
      (every_mid (λ (k : Cell). Every IsHalfPlane k) done c cs (subst (Every (λ (k : Cell). Every IsHalfPlane k)) (sym same) g.halves)),
  cells_read t p before x g rest e k cs (done ++ c ∷ []) (append_assoc done (c ∷ []) cs ∙ same),
)

pub errors_read : (t : Bool) (p : Project) → IsRecord p → (rest : List (List (List ℕ))) (e : Draft)
    → ((s : Stage) → 2 ≤ rank s → rank s ≤ 7 → AreRead (at_stage t s p) (map joined rest) e)
    → (todo done : List Entry) → done ++ todo ≡ p.entries → (s : Stage) → 2 ≤ rank s → rank s ≤ 7
    → AreRead (at_stage t s (in_errors p done)) (map joined (flat_map error_lines todo ++ rest)) e
errors_read t p h rest e k [] done same s some up =
    subst (λ (es : List Entry). AreRead (at_stage t s (in_errors p es)) (map joined rest) e) (sym same ∙ append-nil done) (k s some up)
errors_read t p h rest e k (x ∷ xs) done same s some up =
    let g = every_mid (IsError p) done x xs (subst (Every (IsError p)) (sym same) h.errors) in
    let m : Draft = at_stage t stage.Errors (in_errors p (done ++ bare x ∷ [])) in
    let more = errors_read t p h rest e k xs (done ++ x ∷ []) (append_assoc done (x ∷ []) xs ∙ same) stage.Errors (omega arith)
    (omega arith) in
    let cells = cells_read t p done x g (flat_map error_lines xs ++ rest) e more x.cells [] refl in (
      m,
      error_step t p h done x xs same s some up,
      subst (λ (ls : List (List (List ℕ))). AreRead m (map joined ls) e)
          (sym (append_assoc (map {A = Cell} cell_line x.cells) (flat_map error_lines xs) rest)) cells,
    )
