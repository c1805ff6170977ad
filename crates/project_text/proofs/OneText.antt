-- A text says one project, or has one first wrong line with one cause.
use Rattle.std.proofs.Common.{ℕ, ◌≡◌, ◌+◌, ◌==◌, ◌⊎◌, inl, inr, Bool, true, false, not, ◌&&◌, List, [], ◌∷◌, ◌++◌, append_assoc, length, Ok, Err, refl, sym, ap, subst, ◌∙◌, arith}
use Rattle.std.specs.Prelude.{flat_map, IfOk}
use Rattle.std.specs.List.{list_all}
use Rattle.std.proofs.lemmas.Bool.Decides.{nat_tests}
use Rattle.plane_terms.specs.Lists.{Every}
use Rattle.topology_terms.specs.Project.{Project}
use Rattle.project_terms.specs.declared.stage.Stage.{Stage}
use Rattle.project_terms.specs.declared.stage.Stage.TheVariants as stage
use Rattle.project_terms.specs.declared.project_cause.ProjectCause.{ProjectCause}
use Rattle.project_terms.specs.declared.project_cause.ProjectCause.TheVariants as cause
use Rattle.project_terms.specs.Lines.{fields}
use Rattle.project_terms.specs.Drafts.{Draft, start, is_open, is_cell_open}
use Rattle.project_terms.specs.Verdicts.{WktReading, Verdict, line_verdict}
use Rattle.project_terms.specs.Texts.{IsVerdict, IsInner, is_inner, ended, AreRead, IsRead, IsWrong, IsFault}
use Rattle.project_text.proofs.LineCases.{line_by, at_ok, if_ok}
use Rattle.project_text.proofs.Readings.{one_verdict}

-- ---- lines
inner_first : (b : ℕ) (bs : List ℕ) → IsInner (b ∷ bs) → (b ≡ 10 → ⊥) × IsInner bs
inner_first b bs h = by (b == 10) refl h
  where
    by : (y : Bool) → (b == 10) ≡ y → (not y && list_all is_inner bs) ≡ true → (b ≡ 10 → ⊥) × IsInner bs
    by true e k = absurd cc
    by false e k = (λ same. grind (arith, nat_tests), k)

pub one_line : (l m p q : List ℕ) → IsInner l → IsInner m → ended l ++ p ≡ ended m ++ q → (l ≡ m) × (p ≡ q)
one_line [] [] p q h k e = (refl, cc)
one_line [] (c ∷ m) p q h k e = absurd ((inner_first c m k).0 cc)
one_line (b ∷ l) [] p q h k e = absurd ((inner_first b l h).0 cc)
one_line (b ∷ l) (c ∷ m) p q h k e =
    let first : b ≡ c = cc in
    let i = one_line l m p q (inner_first b l h).1 (inner_first c m k).1 cc in
    (ap (λ x. x ∷ l) first ∙ ap (λ x. c ∷ x) i.0, i.1)

pub has_lf : (rest l p : List ℕ) → IsInner rest → rest ≡ ended l ++ p → ⊥
has_lf [] [] p h e = cc
has_lf [] (c ∷ l) p h e = cc
has_lf (b ∷ rest) [] p h e = (inner_first b rest h).0 cc
has_lf (b ∷ rest) (c ∷ l) p h e = has_lf rest l p (inner_first b rest h).1 cc

-- ---- behind the end no line is right
shut : (s : Stage) (d : Draft) → d.stage ≡ stage.End → is_open s d ≡ true → ⊥
shut s d e o = let k = rw e at o in cc

cell_shut : (d : Draft) → d.stage ≡ stage.End → is_cell_open d ≡ true → ⊥
cell_shut d e o = let k = rw e at o in cc

none_behind : (d : Draft) (fs : List (List ℕ)) (r : WktReading) → d.stage ≡ stage.End → IfOk (line_verdict r d fs) (λ m. ⊥)
none_behind d [] r e = tt
none_behind d (w ∷ fs) r e =
    let P : Draft → Type 0 = λ m. ⊥ in
    line_by (λ v. IfOk v P) r d w fs tt
    (λ k. at_ok stage.Title d _ P (λ o. absurd (shut stage.Title d e o)))
    (λ k. at_ok stage.Next d _ P (λ o. absurd (shut stage.Next d e o)))
    (λ k. at_ok stage.Classes d _ P (λ o. absurd (shut stage.Classes d e o)))
    (λ k. at_ok stage.Rules d _ P (λ o. absurd (shut stage.Rules d e o)))
    (λ k. at_ok stage.Features d _ P (λ o. absurd (shut stage.Features d e o)))
    (λ k. at_ok stage.Dirt d _ P (λ o. absurd (shut stage.Dirt d e o)))
    (λ k. at_ok stage.Errors d _ P (λ o. absurd (shut stage.Errors d e o)))
    (λ k. at_ok stage.Errors d _ P (λ o. absurd (shut stage.Errors d e o)))
    (λ k. if_ok (is_cell_open d) _ (Err cause.Form) P (λ o. absurd (cell_shut d e o)) (λ o. tt))
    (λ k. at_ok stage.End d _ P (λ o. absurd (shut stage.End d e o)))

-- ---- where a reader stops: behind the end, at a line without its LF, at a wrong line
pub record IsStopLine (d : Draft) (rest : List ℕ) : Type 0 where
  pub line : List ℕ
  pub more : List ℕ
  pub cause : ProjectCause
  pub inner : IsInner line
  pub text : rest ≡ ended line ++ more
  pub verdict : IsVerdict d line (Err cause)

abbrev pub IsStop : Draft → List ℕ → Type 0
IsStop d rest = (d.stage ≡ stage.End) ⊎ (IsInner rest ⊎ IsStopLine d rest)

no_further : (d m : Draft) (rest l p : List ℕ) → IsStop d rest → IsInner l → rest ≡ ended l ++ p → IsVerdict d l (Ok m) → ⊥
no_further d m rest l p (inl over) h e (r, k, v) = let P : Verdict → Type 0 = λ x. IfOk x (λ n. ⊥) in
    subst P (sym v) (none_behind d (fields l) r over)
no_further d m rest l p (inr (inl inner)) h e v = has_lf rest l p inner e
no_further d m rest l p (inr (inr s)) h e v =
    let same = one_line s.line l s.more p s.inner h (sym s.text ∙ e) in
    let w : IsVerdict d l (Err s.cause) = subst (λ (x : List ℕ). IsVerdict d x (Err s.cause)) same.0 s.verdict in
    let k : Ok m ≡ Err s.cause = one_verdict d l (Ok m) (Err s.cause) v w in
    cc

pub record SameStop (ls ms : List (List ℕ)) (e f : Draft) (rest more : List ℕ) : Type 0 where
  pub lines : ls ≡ ms
  pub draft : e ≡ f
  pub left : rest ≡ more

cut_more : (l : List ℕ) (ls : List (List ℕ)) (rest : List ℕ) → flat_map ended (l ∷ ls) ++ rest ≡ ended l ++ (flat_map ended ls ++ rest)
cut_more l ls rest = append_assoc (ended l) (flat_map ended ls) rest

pub one_stop : (ls ms : List (List ℕ)) (t u : List ℕ) (d c e f : Draft) (rest more : List ℕ) → t ≡ u → d ≡ c → Every IsInner ls
    → Every IsInner ms
    → t ≡ flat_map ended ls ++ rest → u ≡ flat_map ended ms ++ more → AreRead d ls e → AreRead c ms f → IsStop e rest → IsStop f more
    → SameStop ls ms e f rest more
one_stop [] [] t u d c e f rest more same first il im ht hu rl rm sl sm =
    record { lines = refl; draft = sym rl ∙ (first ∙ rm); left = sym ht ∙ (same ∙ hu) }
one_stop [] (m ∷ ms) t u d c e f rest more same first il im ht hu rl (n, v, rm) sl sm =
    let S : Draft → Type 0 = λ x. IsStop x rest in
    absurd (no_further c n rest m (flat_map ended ms ++ more) (subst S (sym rl ∙ first) sl) im.0
    (sym ht ∙ (same ∙ (hu ∙ cut_more m ms more))) v)
one_stop (l ∷ ls) [] t u d c e f rest more same first il im ht hu (n, v, rl) rm sl sm =
    let S : Draft → Type 0 = λ x. IsStop x more in
    absurd (no_further d n more l (flat_map ended ls ++ rest) (subst S (sym rm ∙ sym first) sm) il.0
    (sym hu ∙ (sym same ∙ (ht ∙ cut_more l ls rest))) v)
one_stop (l ∷ ls) (m ∷ ms) t u d c e f rest more same first il im ht hu (n, v, rl) (k, w, rm) sl sm =
    let cut = one_line l m (flat_map ended ls ++ rest) (flat_map ended ms ++ more) il.0 im.0
    (sym (cut_more l ls rest) ∙ (sym ht ∙ (same ∙ (hu ∙ cut_more m ms more)))) in
    let v1 : IsVerdict c l (Ok n) = subst (λ (x : Draft). IsVerdict x l (Ok n)) first v in
    let v2 : IsVerdict c m (Ok n) = subst (λ (x : List ℕ). IsVerdict c x (Ok n)) cut.0 v1 in
    let next : Ok n ≡ Ok k = one_verdict c m (Ok n) (Ok k) v2 w in
    let i = one_stop ls ms (flat_map ended ls ++ rest) (flat_map ended ms ++ more) n k e f rest more cut.1 (cc) il.1 im.1 refl refl rl rm sl
    sm in
    record { lines = ap (λ x. x ∷ ls) cut.0 ∙ ap (λ x. m ∷ x) i.lines; draft = i.draft; left = i.left }

-- ---- texts
wrong_stops : (d : Draft) (rest : List ℕ) (c : ProjectCause) → IsWrong d rest c → IsStop d rest
wrong_stops d rest c (inl (over, some, form)) = inl over
wrong_stops d rest c (inr (on, inl (inner, short))) = inr (inl inner)
wrong_stops d rest c (inr (on, inr w)) =
    inr (inr (record { line = w.line; more = w.more; cause = c; inner = w.inner; text = w.text; verdict = w.verdict }))

pub one_project : (t : List ℕ) (p q : Project) → IsRead t p → IsRead t q → p ≡ q
one_project t p q (ls, d, b, over, said) (ms, e, c, done, told) =
    let s = one_stop ls ms t t start start d e [] [] refl refl b.inner c.inner b.text c.text b.read c.read (inl over) (inl done) in
    sym said ∙ (ap (λ (x : Draft). x.project) s.draft ∙ told)

pub no_project : (t : List ℕ) (p : Project) (n : ℕ) (c : ProjectCause) → IsRead t p → IsFault t n c → ⊥
no_project t p n c (ls, d, b, over, said) f =
    let s = one_stop ls f.lines t t start start d f.draft [] f.rest refl refl b.inner f.begins.inner b.text f.begins.text b.read
    f.begins.read (inl over)
    (wrong_stops f.draft f.rest c f.wrong) in
    by f.wrong (ap (λ (x : Draft). x.stage) (sym s.draft) ∙ over) (sym s.left)
  where
    by : IsWrong f.draft f.rest c → f.draft.stage ≡ stage.End → f.rest ≡ [] → ⊥
    by (inl (done, some, form)) e none = some none
    by (inr (on, w)) e none = on e

one_cause : (d : Draft) (rest : List ℕ) (b c : ProjectCause) → IsWrong d rest b → IsWrong d rest c → b ≡ c
one_cause d rest b c (inl (over, some, form)) (inl (done, any, says)) = form ∙ sym says
one_cause d rest b c (inl (over, some, form)) (inr (on, w)) = absurd (on over)
one_cause d rest b c (inr (on, w)) (inl (over, some, form)) = absurd (on over)
one_cause d rest b c (inr (on, inl (inner, short))) (inr (off, inl (within, says))) = short ∙ sym says
one_cause d rest b c (inr (on, inl (inner, short))) (inr (off, inr w)) = absurd (has_lf rest w.line w.more inner w.text)
one_cause d rest b c (inr (on, inr w)) (inr (off, inl (inner, short))) = absurd (has_lf rest w.line w.more inner w.text)
one_cause d rest b c (inr (on, inr v)) (inr (off, inr w)) =
    let same = one_line v.line w.line v.more w.more v.inner w.inner (sym v.text ∙ w.text) in
    let k : IsVerdict d w.line (Err b) = subst (λ (x : List ℕ). IsVerdict d x (Err b)) same.0 v.verdict in
    let e : Err b ≡ Err c = one_verdict d w.line (Err b) (Err c) k w.verdict in
    cc

pub one_fault : (t : List ℕ) (m n : ℕ) (b c : ProjectCause) → IsFault t m b → IsFault t n c → (m ≡ n) × (b ≡ c)
one_fault t m n b c f g =
    let s = one_stop f.lines g.lines t t start start f.draft g.draft f.rest g.rest refl refl f.begins.inner g.begins.inner f.begins.text
    g.begins.text
    f.begins.read g.begins.read (wrong_stops f.draft f.rest b f.wrong) (wrong_stops g.draft g.rest c g.wrong) in
    let w1 : IsWrong g.draft f.rest b = subst (λ (x : Draft). IsWrong x f.rest b) s.draft f.wrong in
    let w2 : IsWrong g.draft g.rest b = subst (λ (x : List ℕ). IsWrong g.draft x b) s.left w1 in
    (f.number ∙ (ap (λ (x : List (List ℕ)). length x + 1) s.lines ∙ sym g.number), one_cause g.draft g.rest b c w2 g.wrong)
